use Rattle.std.specs.Prelude.{take}
use Rattle.std.proofs.Common.{rules, ◌≡◌, ◌<◌, ◌≤◌, ◌+◌, ◌-◌, ◌++◌, ℕ, List, [], ◌∷◌, length, refl, sym, ap, subst, ◌∙◌, arith}
use Rattle.std.proofs.lemmas.List.{append_assoc, length-append, append-nil}
use Rattle.px_text.specs.Sets.{Rising}
use Rattle.px_rule.specs.declared.shape.Shape.{Shape}
use Rattle.px_rule.specs.declared.view.Stay.{Stay}
use Rattle.px_rule.specs.declared.view.View.{View}
use Rattle.px_rule.specs.Words.{nodes_of, steps_of, size_of}
use Rattle.px_rule.specs.Table.{bank_in, version_in}
use Rattle.px_rule.specs.Kept.{Sound}
use Rattle.px_rule.proofs.Lasting.{grew_same, grew_look, grew_trans}
use Rattle.px_intern.proofs.Growing.{looked_at, shown_at, inside_at}
use Rattle.px_intern.proofs.Tails.{element, Named, told_named, next, place_within, short_set, none_named, one_named, rising_named}
use Rattle.px_intern.proofs.sets.elements_of_set.Goals as goal

in_size : (s : ℕ) (z : Shape) → s < nodes_of z → s < size_of z
in_size s z low = let a : ℕ = nodes_of z in let b : ℕ = steps_of z in let l : s < a = low in let r : s < a + b = omega arith in r

one_later : (es ys rest whole new : List ℕ) (e f : ℕ) → whole ≡ es ++ ys → ys ≡ f ∷ rest → e ≡ f → new ≡ es ++ e ∷ [] → whole ≡ new ++ rest
one_later es ys rest whole new e f all first same added =
    all ∙ (ap (λ (l : List ℕ). es ++ l) (first ∙ ap (λ (i : ℕ). i ∷ rest) (sym same)) ∙ (sym (append_assoc es (e ∷ []) rest) ∙ ap (λ (l : List ℕ). l ++ rest) (sym added)))

smaller : (es ys whole new : List ℕ) (e : ℕ) → whole ≡ es ++ ys → 0 < length ys → length whole ≤ 1048576 → new ≡ es ++ e ∷ [] → 1048576 - length new < 1048576 - length es
smaller es ys whole new e all some_left short added =
    let a : length whole ≡ length es + length ys = ap (λ (l : List ℕ). length l) all ∙ length-append es ys in
    let b : length new ≡ length es + 1 = ap (λ (l : List ℕ). length l) added ∙ length-append es (e ∷ []) in
    omega arith

pub loop-rest-init : goal.loop-rest-init
loop-rest-init g c =
    let u = c.args.seat.now.view in
    let told = c.requires.told in
    let named = told_named g.L.Law.right c.args.shared.now.shape (bank_in u.stay.place) (version_in u.stay.place) u c.args.number told.0 (g.L.Law.one_answer (take (version_in u.stay.place) u.past.seen)) told.1 in
    (refl, grew_same u, c.requires.sound, refl, (told.0, told.0, ap (λ (l : List ℕ). l ++ told.0) (sym c.new-elements.ensures.items), named, named))

pub look_step-word-requires-clause-table : goal.look_step-word-requires-clause-table
look_step-word-requires-clause-table g c = c.loop-rest.invariant.0 ∙ c.requires.table

pub look_step-word-requires-clause-inside : goal.look_step-word-requires-clause-inside
look_step-word-requires-clause-inside g c = inside_at c.args.seat.now.view c.loop-rest.seat.view c.loop-rest.invariant.1.stay c.requires.inside

pub look_step-word-requires-clause-place : goal.look_step-word-requires-clause-place
look_step-word-requires-clause-place g c =
    let i = c.loop-rest.invariant in
    let u = c.args.seat.now.view in
    in_size c.loop-rest.rest c.args.shared.now.shape (place_within g.L.Law.right c.args.shared.now.shape (bank_in u.stay.place) (version_in u.stay.place) c.loop-rest.seat.view c.loop-rest.rest i.4.1 c.loop-rest-test.true i.2 i.4.4).0

pub loop-rest-preserved : goal.loop-rest-preserved
loop-rest-preserved g c =
    let i = c.loop-rest.invariant in
    let R = g.L.Law.right in
    let z = c.args.shared.now.shape in
    let u = c.args.seat.now.view in
    let v = c.loop-rest.seat.view in
    let w = c.look_step-word.new.seat.view in
    let k = bank_in u.stay.place in
    let n = version_in u.stay.place in
    let s = c.loop-rest.rest in
    let x = c.look_step-word.result in
    let step = looked_at u v w s x i.1.stay c.look_step-word.ensures.view in
    let shown = shown_at R z u v s x i.1.stay c.look_step-word.ensures.shown in
    let low = place_within R z k n v s i.4.1 c.loop-rest-test.true i.2 i.4.4 in
    let t = next R z k n v w s x i.4.1 c.loop-rest-test.true i.4.4 shown step in (
      c.look_step-word.ensures.table ∙ i.0,
      grew_trans u v w i.1 (grew_look k n s x v w step),
      subst (λ (q : Stay). Sound R z (bank_in q.place) (version_in q.place) w) (ap (λ (a : View _). a.stay) step ∙ i.1.stay) c.look_step-word.ensures.sound,
      ap (λ (a : View _). a.touch.wrote) step ∙ i.3,
      (
        i.4.0,
        t.0,
        one_later c.loop-rest.elements.items i.4.1 t.0 i.4.0 c.push.new.self.items c.element_of-element.result (element x) i.4.2 t.1 c.element_of-element.ensures.element c.in_ok-push.ensures.items,
        i.4.3,
        subst (λ (r : ℕ). Named R z k n w r t.0) (sym c.tail_of-rest.ensures.tail) t.2,
      ),
    )

pub returns-clause-set : goal.returns-clause-set
returns-clause-set g c xs names =
    let i = c.loop-rest.invariant in
    let R = g.L.Law.right in
    let z = c.args.shared.now.shape in
    let u = c.args.seat.now.view in
    let k = bank_in u.stay.place in
    let n = version_in u.stay.place in
    let empty = none_named R z k n c.loop-rest.seat.view c.loop-rest.rest i.4.1 (search rules) i.2 i.4.4 in
    let named = told_named R z k n u c.args.number xs (g.L.Law.one_answer (take n u.past.seen)) names in
    let e = one_named R z k n u c.args.number i.4.0 xs c.requires.sound i.4.3 named in
    sym (i.4.2 ∙ (ap (λ (l : List ℕ). c.loop-rest.elements.items ++ l) empty ∙ append-nil c.loop-rest.elements.items)) ∙ e

pub loop-rest-smaller : goal.loop-rest-smaller
loop-rest-smaller g c =
    let i = c.loop-rest.invariant in
    let R = g.L.Law.right in
    let z = c.args.shared.now.shape in
    let u = c.args.seat.now.view in
    let k = bank_in u.stay.place in
    let n = version_in u.stay.place in
    let low = place_within R z k n c.loop-rest.seat.view c.loop-rest.rest i.4.1 c.loop-rest-test.true i.2 i.4.4 in
    smaller c.loop-rest.elements.items i.4.1 i.4.0 c.push.new.self.items c.element_of-element.result i.4.2 low.1 (short_set R z k n u c.args.number i.4.0 c.requires.sound i.4.3) c.in_ok-push.ensures.items

pub returns-in_err-push-clause-grew : goal.returns-in_err-push-clause-grew
returns-in_err-push-clause-grew g c = grew_trans c.args.seat.now.view c.loop-rest.seat.view c.look_step-word.new.seat.view c.loop-rest.invariant.1 (grew_look _ _ _ _ _ _ c.look_step-word.ensures.view)

pub returns-clause-rising : goal.returns-clause-rising
returns-clause-rising g c =
    let i = c.loop-rest.invariant in
    let R = g.L.Law.right in
    let z = c.args.shared.now.shape in
    let u = c.args.seat.now.view in
    let k = bank_in u.stay.place in
    let n = version_in u.stay.place in
    let empty = none_named R z k n c.loop-rest.seat.view c.loop-rest.rest i.4.1 (search rules) i.2 i.4.4 in
    let is : c.loop-rest.elements.items ≡ i.4.0 = sym (i.4.2 ∙ (ap (λ (l : List ℕ). c.loop-rest.elements.items ++ l) empty ∙ append-nil c.loop-rest.elements.items)) in
    subst Rising (sym is) (rising_named R z k n u c.args.number i.4.0 c.requires.sound i.4.3)
