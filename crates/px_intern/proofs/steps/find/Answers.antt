use Rattle.std.proofs.Common.{rules, ◌≡◌, ◌<◌, ◌≤◌, ◌+◌, ℕ, inl, inr, arith, subst, ap, ◌∙◌, refl}
use mathlib.Core.Option.{some}
use Rattle.px_rule.specs.declared.view.View.{View}
use Rattle.px_rule.specs.Table.{bank_in, version_in}
use Rattle.px_rule.specs.Known.{answered}
use Rattle.px_rule.specs.Steps.{Shown}
use Rattle.px_rule.specs.Kept.{KeptAt, Gapped, PassedBy, KeyBlocked}
use Rattle.px_rule.proofs.Lasting.{grew_same, grew_look, grew_trans, kept_look, gap_look, passed_grew, passed_more}
use Rattle.px_intern.proofs.Growing.{absent, kept_back, looked_at, shown_at, inside_at, apart, whole_step}
use Rattle.px_intern.proofs.steps.find.Goals as goal

one_later : (a b c t : ℕ) → b ≡ a + t → c ≡ b + 1 → c ≡ a + (t + 1)
one_later a b c t h j = omega arith

pub loop-turn-init : goal.loop-turn-init
loop-turn-init g c = (refl, grew_same c.args.seat.now.view, (λ j l. absurd (omega arith)), (λ l. absurd (omega arith)), refl, (let t : ℕ = c.args.seat.now.view.touch.touches in let r : t ≡ t + 0 = omega arith in r), c.first_place-at.ensures.place, c.first_place-at.ensures.within)

pub look_step-found-requires-clause-table : goal.look_step-found-requires-clause-table
look_step-found-requires-clause-table g c = c.loop-turn.invariant.0 ∙ c.requires.table

pub look_step-found-requires-clause-inside : goal.look_step-found-requires-clause-inside
look_step-found-requires-clause-inside g c = inside_at c.args.seat.now.view c.loop-turn.seat.view c.loop-turn.invariant.1.stay c.requires.inside

pub loop-turn-preserved : goal.loop-turn-preserved
loop-turn-preserved g c =
    let i = c.loop-turn.invariant in
    let z = c.args.shared.now.shape in
    let u = c.args.seat.now.view in
    let v = c.loop-turn.seat.view in
    let w = c.look_step-found.new.seat.view in
    let k = bank_in u.stay.place in
    let n = version_in u.stay.place in
    let key = c.step_word-key.result in
    let p = c.loop-turn.at in
    let x = c.look_step-found.result in
    let step = looked_at u v w p x i.1.stay c.look_step-found.ensures.view in
    let shown = shown_at g.L.Law.right z u v p x i.1.stay c.look_step-found.ensures.shown in
    let grew = grew_look k n p x v w step in (
      c.look_step-found.ensures.table ∙ i.0,
      grew_trans u v w i.1 grew,
      passed_more g.L.Law.right z k n key c.loop-turn.turn w x p (passed_grew g.L.Law.right z k n key c.loop-turn.turn v w grew i.2) c.loop-turn.invariant.6
          (kept_look k n p x v w step c.if-found-eq0.false) (apart x key c.if-found-key.false),
      (λ _. c.look_step-found.ensures.sound),
      ap (λ (a : View _). a.touch.wrote) step ∙ i.4,
      one_later u.touch.touches v.touch.touches w.touch.touches c.loop-turn.turn i.5 (ap (λ (a : View _). a.touch.touches) step),
      c.place_after-at.ensures.next c.loop-turn.turn i.6,
      c.place_after-at.ensures.within,
    )

pub returns-then-found-eq0-clause-table : goal.returns-then-found-eq0-clause-table
returns-then-found-eq0-clause-table g c = c.look_step-found.ensures.table ∙ c.loop-turn.invariant.0

pub returns-then-found-key-clause-table : goal.returns-then-found-key-clause-table
returns-then-found-key-clause-table g c = c.look_step-found.ensures.table ∙ c.loop-turn.invariant.0

pub returns-then-found-eq0-clause-grew : goal.returns-then-found-eq0-clause-grew
returns-then-found-eq0-clause-grew g c = grew_trans c.args.seat.now.view c.loop-turn.seat.view c.look_step-found.new.seat.view c.loop-turn.invariant.1 (grew_look _ _ _ _ _ _ c.look_step-found.ensures.view)

pub returns-then-found-key-clause-grew : goal.returns-then-found-key-clause-grew
returns-then-found-key-clause-grew g c = grew_trans c.args.seat.now.view c.loop-turn.seat.view c.look_step-found.new.seat.view c.loop-turn.invariant.1 (grew_look _ _ _ _ _ _ c.look_step-found.ensures.view)

pub returns-then-found-eq0-clause-wrote_none : goal.returns-then-found-eq0-clause-wrote_none
returns-then-found-eq0-clause-wrote_none g c = ap (λ (a : View _). a.touch.wrote) c.look_step-found.ensures.view ∙ c.loop-turn.invariant.4

pub returns-then-found-key-clause-wrote_none : goal.returns-then-found-key-clause-wrote_none
returns-then-found-key-clause-wrote_none g c = ap (λ (a : View _). a.touch.wrote) c.look_step-found.ensures.view ∙ c.loop-turn.invariant.4

bounds : (a b c t end : ℕ) → b ≡ a + t → c ≡ b + 1 → t < end → end ≤ 64 → (a < c) × (c ≤ a + 64)
bounds a b c t end h j l m = (omega arith, omega arith)

pub returns-then-found-eq0-clause-touched : goal.returns-then-found-eq0-clause-touched
returns-then-found-eq0-clause-touched g c =
    bounds c.args.seat.now.view.touch.touches c.loop-turn.seat.view.touch.touches c.look_step-found.new.seat.view.touch.touches c.loop-turn.turn c.turns-turn-end.result c.loop-turn.invariant.5
    (ap (λ (a : View _). a.touch.touches) c.look_step-found.ensures.view) c.loop-turn-test.true c.turns-turn-end.ensures.short.1

pub returns-then-found-key-clause-touched : goal.returns-then-found-key-clause-touched
returns-then-found-key-clause-touched g c =
    bounds c.args.seat.now.view.touch.touches c.loop-turn.seat.view.touch.touches c.look_step-found.new.seat.view.touch.touches c.loop-turn.turn c.turns-turn-end.result c.loop-turn.invariant.5
    (ap (λ (a : View _). a.touch.touches) c.look_step-found.ensures.view) c.loop-turn-test.true c.turns-turn-end.ensures.short.1

pub returns-then-found-eq0-clause-answer : goal.returns-then-found-eq0-clause-answer
returns-then-found-eq0-clause-answer g c =
    let i = c.loop-turn.invariant in
    let z = c.args.shared.now.shape in
    let u = c.args.seat.now.view in
    let v = c.loop-turn.seat.view in
    let w = c.look_step-found.new.seat.view in
    let k = bank_in u.stay.place in
    let n = version_in u.stay.place in
    let key = c.step_word-key.result in
    let p = c.loop-turn.at in
    let x = c.look_step-found.result in
    let t = c.loop-turn.turn in
    let step = looked_at u v w p x i.1.stay c.look_step-found.ensures.view in
    let none : x ≡ 0 = c.if-found-eq0.true in
    let shown : Shown g.L.Law.right z k n p v 0 = subst (Shown g.L.Law.right z k n p v) none (shown_at g.L.Law.right z u v p x i.1.stay c.look_step-found.ensures.shown) in
    let gap = gap_look k n p x v w step none in
    let there : Gapped z k n key w = record {
      turn = t;
      within = subst (λ (m : ℕ). t < m) c.turns-turn-end.ensures.length c.loop-turn-test.true;
      passed = passed_grew g.L.Law.right z k n key t v w (grew_look k n p x v w step) i.2;
      gap = (0, gap ∙ ap (λ (q : ℕ). some (record { bank = k; version = n; place = q; touches = w.touch.touches })) c.loop-turn.invariant.6);
      none_kept = λ q y h. absent g.L.Law.right z k n key t p v shown c.loop-turn.invariant.6 i.2 q y (kept_back g.L.Law.right z k n p x q y v w step none h);
    } in
    inl (subst (λ (q : ℕ). Gapped z k n q w) c.step_word-key.ensures.word there)

pub returns-then-found-key-clause-answer : goal.returns-then-found-key-clause-answer
returns-then-found-key-clause-answer g c =
    let i = c.loop-turn.invariant in
    let u = c.args.seat.now.view in
    let v = c.loop-turn.seat.view in
    let w = c.look_step-found.new.seat.view in
    let k = bank_in u.stay.place in
    let n = version_in u.stay.place in
    let p = c.loop-turn.at in
    let x = c.look_step-found.result in
    let step = looked_at u v w p x i.1.stay c.look_step-found.ensures.view in
    let is = whole_step c.args.op c.args.a c.args.b c.step_word-key.result x _ c.requires.fields.0 c.requires.fields.1 c.step_word-key.ensures.word c.if-found-key.true refl in
    let kept = subst (λ (y : ℕ). KeptAt k n p y w) is.1 (kept_look k n p x v w step c.if-found-eq0.false) in
    ((is.0, (p, kept)), λ first second y sa sb right. answered p c.args.op c.args.a c.args.b _ first second y (c.requires.fields.0, c.requires.fields.1, is.0) (kept.0, kept.1) sa sb right)

pub returns-clause-answer : goal.returns-clause-answer
returns-clause-answer g c =
    let u = c.args.seat.now.view in
    let z = c.args.shared.now.shape in
    let done : KeyBlocked z (bank_in u.stay.place) (version_in u.stay.place) c.step_word-key.result c.loop-turn.seat.view = subst (λ (m : ℕ). PassedBy z (bank_in u.stay.place) (version_in u.stay.place) c.step_word-key.result m c.loop-turn.seat.view) (search rules) c.loop-turn.invariant.2 in
    inr (subst (λ (q : ℕ). KeyBlocked z (bank_in u.stay.place) (version_in u.stay.place) q c.loop-turn.seat.view) c.step_word-key.ensures.word done)

pub returns-clause-sound : goal.returns-clause-sound
returns-clause-sound g c =
    let some_turns : 0 < c.turns-turn-end.result = c.turns-turn-end.ensures.short.0 in
    c.loop-turn.invariant.3 (subst (λ (m : ℕ). 0 < m) (search rules) some_turns)
