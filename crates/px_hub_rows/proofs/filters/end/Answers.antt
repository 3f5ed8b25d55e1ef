use Rattle.std.proofs.Common.{◌≡◌, [], ◌∷◌, Result, Ok, arith, subst, OnOk}
use Rattle.px_text.specs.Nodes.{Root, NoNodes}
use Rattle.px_reader.specs.declared.event.Event.TheVariants.{Start}
use Rattle.px_hub_rows.proofs.filters.end.Goals as goal

on_ok : {A E X : Type 0} (r : Result A E) (a : A) → r ≡ Ok a → OnOk r X → X
on_ok {A} {E} {X} r a is f = subst (λ (q : Result A E). OnOk q X) is f

pub finish-requires : goal.finish-requires
finish-requires g c =
    let b = c.requires.begun in
    let root : Root = record { name = b.1; attributes = []; children = NoNodes } in
    record { whole = (b.0, root, on_ok c.advance.result _ c.in-Ok.is c.advance.ensures.ok b.0 (Start b.1 ∷ []) b.2 (omega arith)) }
