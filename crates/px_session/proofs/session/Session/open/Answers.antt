use Rattle.std.proofs.Common.{[], inl}
use Rattle.px_hub.proofs.Ending.{is_inside_or_not}
use Rattle.px_session.proofs.Staged.{fed_nothing}
use Rattle.px_session.proofs.session.Session.open.Goals as goal

pub begin-requires : goal.begin-requires
begin-requires g c = c.requires

pub returns-in_default : goal.returns-in_default
returns-in_default g c = c.in_default.ensures.memory

pub invariant_of-result : goal.invariant_of-result
invariant_of-result g c = (c.args.pass, [], inl ([], fed_nothing g.N.HubName.table c.args.pass c.begin.new.pass c.in-Ok-new.reader c.in-Ok.call c.in-Ok-new.ensures c.in-Ok.ensures.call))

pub returns-in-Ok-new : goal.returns-in-Ok-new
returns-in-Ok-new g c = (
  fed_nothing g.N.HubName.table c.args.pass c.begin.new.pass c.in-Ok-new.reader c.in-Ok.call c.in-Ok-new.ensures c.in-Ok.ensures.call,
  is_inside_or_not g.N.HubName.table c.args.pass c.begin.new.pass c.in-Ok.call [] c.in-Ok.ensures.call,
)

pub abandon-requires : goal.abandon-requires
abandon-requires g c = record { begun = (c.args.pass, c.in-Ok.ensures.call.opened) }

pub returns-in-Err : goal.returns-in-Err
returns-in-Err g c = c.abandon.ensures.stays c.args.pass c.in-Ok.ensures.call.opened
