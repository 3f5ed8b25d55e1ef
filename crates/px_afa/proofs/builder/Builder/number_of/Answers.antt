use Rattle.std.proofs.Common.{◌∙◌, ap}
use Rattle.px_afa.specs.Building.{number_of}
use Rattle.px_afa.proofs.builder.Builder.number_of.Goals as goal

pub returns : goal.returns
returns c = record { found = c.copied.ensures ∙ (c.get.ensures.value ∙ (c.self.invariant c.args.state.now ∙ ap (number_of c.args.state.now) c.self.view_is)) }
