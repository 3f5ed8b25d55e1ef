use Rattle.std.proofs.Common.{◌≡◌, [], ◌∷◌, ◌++◌, Some, slice_get, ap, sym, ◌∙◌, subst, cond}
use Rattle.std.specs.BTreeMap as tree
use Rattle.std.specs.Ordering.{nat_cmp, is_eq}
use Rattle.std.specs.Cmp.Lexicographic.{slice_cmp}
use Rattle.px_runner.specs.Remembering.{Grows, AreNumbered}
use Rattle.px_runner.proofs.Remembered.{numbered_more, grows_by, last_there}
use Rattle.px_runner.proofs.store.Store.add.Goals as goal

pub invariant_of-self-2 : goal.invariant_of-self-2
invariant_of-self-2 c =
    subst (λ sets. AreNumbered sets c.insert.new.self)
    (sym (c.in_ok-push.ensures.items ∙ ap (λ items. items ++ c.args.set ∷ []) c.in_ok-reserve.ensures.items))
    (numbered_more c.self.inside.sets.items c.args.set c.self.inside.numbers c.insert.new.self c.len-next.result
    c.self.invariant (c.len-next.ensures ∙ c.self.inside.sets.ok.0) (λ n h. c.requires.new n (ap (λ sets. slice_get sets n) (sym c.self.view_is) ∙ h))
    (λ q. c.in_ok-insert.ensures.updates.0 q ∙ ap (λ k. cond (is_eq (slice_cmp nat_cmp k q)) (Some c.len-next.result) (tree.get (slice_cmp nat_cmp) c.self.inside.numbers q)) c.in_ok-key.ensures.cases))

pub returns-clause-stands : goal.returns-clause-stands
returns-clause-stands c =
    subst (λ sets. slice_get sets c.len-next.result ≡ Some c.args.set)
    (sym (c.in_ok-push.ensures.items ∙ ap (λ items. items ++ c.args.set ∷ []) c.in_ok-reserve.ensures.items))
    (ap (λ n. slice_get (c.self.inside.sets.items ++ c.args.set ∷ []) n) (c.len-next.ensures ∙ c.self.inside.sets.ok.0) ∙ last_there c.self.inside.sets.items c.args.set)

pub returns-clause-grows : goal.returns-clause-grows
returns-clause-grows c =
    subst (λ sets. Grows c.args.self.now sets)
    (sym (c.in_ok-push.ensures.items ∙ (ap (λ items. items ++ c.args.set ∷ []) c.in_ok-reserve.ensures.items ∙ ap (λ items. items ++ c.args.set ∷ []) c.self.view_is)))
    (grows_by c.args.self.now c.args.set)
