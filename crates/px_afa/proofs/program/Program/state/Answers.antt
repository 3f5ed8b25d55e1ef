use Rattle.std.proofs.Common.{length, sym, ap}
use Rattle.std.specs.Vec as Vec
use Rattle.px_afa.proofs.StatesByNumber.{number-less, found-at}
use Rattle.px_afa.proofs.program.Program.state.Goals as goal

pub index-requires : goal.index-requires
index-requires c =
    number-less c.self.inside.states.items (Vec.vec_len c.self.inside.states) c.args.n (length c.args.self.now.states)
    c.self.inside.states.ok.0 (sym (ap (λ p. length p.states) c.self.view_is)) c.requires.there

pub returns : goal.returns
returns c = record {
  it = found-at c.self.inside.states.items c.args.self.now.states c.args.n c.index.result.now (ap (λ p. p.states) c.self.view_is) c.requires.there c.index.ensures;
}
