-- Conditions of different kinds.
use Rattle.px_delta.proofs.OtherKinds.{not_selecting, not_comparing, not_joining, not_choosing, not_denying}
use Rattle.px_delta.proofs.same.+same.Goals as goal

pub is_same_condition-returns-in_default : goal.is_same_condition-returns-in_default
is_same_condition-returns-in_default t c = not_selecting c.args.one.now c.args.other.now _ c.in_default.is-0 c.in_default.not-Exists-1

pub is_same_condition-returns-in_default-2 : goal.is_same_condition-returns-in_default-2
is_same_condition-returns-in_default-2 t c = not_comparing c.args.one.now c.args.other.now _ _ _ c.in_default.is-0 c.in_default.not-Compare-1

pub is_same_condition-returns-in_default-3 : goal.is_same_condition-returns-in_default-3
is_same_condition-returns-in_default-3 t c = not_joining c.args.one.now c.args.other.now _ c.in_default.is-0 c.in_default.not-And-1

pub is_same_condition-returns-in_default-4 : goal.is_same_condition-returns-in_default-4
is_same_condition-returns-in_default-4 t c = not_choosing c.args.one.now c.args.other.now _ c.in_default.is-0 c.in_default.not-Or-1

pub is_same_condition-returns-in_default-5 : goal.is_same_condition-returns-in_default-5
is_same_condition-returns-in_default-5 t c = not_denying c.args.one.now c.args.other.now _ c.in_default.is-0 c.in_default.not-Not-1
