use Rattle.std.proofs.Common.{◌≡◌, [], Result, Ok, Err, arith, subst, OnOk, OnErr}
use Rattle.px_hub_rows.proofs.filters.hold.Goals as goal

on_ok : {A E X : Type 0} (r : Result A E) (a : A) → r ≡ Ok a → OnOk r X → X
on_ok {A} {E} {X} r a is f = subst (λ (q : Result A E). OnOk q X) is f

on_err : {A E X : Type 0} (r : Result A E) (e : E) → r ≡ Err e → OnErr r X → X
on_err {A} {E} {X} r e is f = subst (λ (q : Result A E). OnErr q X) is f

pub advance-requires : goal.advance-requires
advance-requires g c = record { begun = (c.args.pass.now, [], c.in_ok-call.ensures.call, omega arith) }

pub abandon-requires : goal.abandon-requires
abandon-requires g c = record { begun = (c.args.pass.now, on_err c.advance.result _ c.in-Err.is c.advance.ensures.memory c.args.pass.now [] c.in_ok-call.ensures.call) }

pub returns-in-Ok : goal.returns-in-Ok
returns-in-Ok g c = on_ok c.advance.result _ c.in-Ok.is c.advance.ensures.ok c.args.pass.now [] c.in_ok-call.ensures.call (omega arith)
