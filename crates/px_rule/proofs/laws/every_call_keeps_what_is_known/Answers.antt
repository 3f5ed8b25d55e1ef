use Rattle.px_rule.proofs.Since.{since_grew, since_enter, since_leave, since_load, since_ask, since_met, since_front, since_trans}
use Rattle.px_rule.proofs.laws.every_call_keeps_what_is_known.Goals as goal

pub returns : goal.returns
returns g c = record {
  inside = since_grew;
  enter = since_enter;
  leave = since_leave;
  load = since_load g.L.Law.who g.L.Law.legal;
  ask = since_ask;
  meet = since_met g.L.Law.who g.L.Law.legal;
  grown = since_front;
  follows = since_trans;
}
