use Rattle.std.proofs.Common.{◌∙◌, sym, refl}
use Rattle.px_pool.proofs.Staying.{stays_same}
use Rattle.px_pool.proofs.Turns.{begins, none_at_err}
use Rattle.px_pool.proofs.worker.Round.run.Goals as goal

pub answer_all-requires-clause-fresh : goal.answer_all-requires-clause-fresh
answer_all-requires-clause-fresh g c =
    begins g.N.HubName.table.shape c.args.self.now.docs.now c.args.self.now.draws.now c.args.pass.now c.args.worker.now.drawer
    (sym c.is_open.ensures.open ∙ c.if-is_open.false) (c.is_open.ensures.outside c.if-is_open.false) c.requires.fresh.0 c.requires.fresh.1

pub returns-in_default : goal.returns-in_default
returns-in_default g c = record {
  worked = λ closed. record {
    left = record { stays = stays_same c.args.pass.now closed (c.is_open.ensures.outside c.if-is_open.false); table = refl };
    done = none_at_err _ c.args.worker.now.outcome c.in_default.field-0 c.in_default.is;
  };
}
