use Rattle.std.proofs.Common.{length, sym, ◌∙◌, ap}
use Rattle.px_afa.proofs.StatesByNumber.{newest-length}
use Rattle.px_afa.proofs.program.Program.states.Goals as goal

pub returns : goal.returns
returns c = record { count = c.len.ensures ∙ c.self.inside.states.ok.0 ∙ sym (newest-length c.self.inside.states.items) ∙ ap (λ p. length p.states) c.self.view_is }
