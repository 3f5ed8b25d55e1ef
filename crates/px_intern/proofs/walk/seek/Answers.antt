use Rattle.std.proofs.Common.{rules, ◌≡◌, ◌≤◌, ◌<◌, ◌+◌, ◌*◌, ℕ, refl, sym, subst, ◌∙◌, arith}
use Rattle.px_rule.specs.declared.view.Stay.{Stay}
use Rattle.px_rule.specs.Table.{bank_in, version_in}
use Rattle.px_rule.specs.Kept.{IsAt, Wrote, PassedBy, KeptAt}
use Rattle.px_intern.specs.Proper.{Proper}
use Rattle.px_rule.proofs.Lasting.{grew_same, grew_trans, passed_grew, passed_more}
use Rattle.px_intern.proofs.Growing.{proper_grew, apart, one_key, inside_at}
use Rattle.px_rule.proofs.Sounds.{wrote_on, wrote_none}
use Rattle.px_intern.proofs.walk.seek.Goals as goal

two_more : (a b c t : ℕ) → b ≤ a + t * 2 → c ≤ b + 2 → c ≤ a + (t + 1) * 2
two_more a b c t h l = omega arith

pub loop-turn-init : goal.loop-turn-init
loop-turn-init g c = (refl, grew_same c.args.seat.now.view, (λ j l. absurd (omega arith)), (λ l. absurd (omega arith)), wrote_none _ c.args.seat.now.view c.args.seat.now.view refl, (let t : ℕ = c.args.seat.now.view.touch.touches in let r : t ≤ t + 0 * 2 = omega arith in r), c.first_place-at.ensures.place, c.first_place-at.ensures.within)

pub try_place-found-requires-clause-table : goal.try_place-found-requires-clause-table
try_place-found-requires-clause-table g c = c.loop-turn.invariant.0 ∙ c.requires.table

pub try_place-found-requires-clause-inside : goal.try_place-found-requires-clause-inside
try_place-found-requires-clause-inside g c = inside_at c.args.seat.now.view c.loop-turn.seat.view c.loop-turn.invariant.1.stay c.requires.inside

pub try_place-found-requires-clause-word : goal.try_place-found-requires-clause-word
try_place-found-requires-clause-word g c shape =
    let u = c.args.seat.now.view in
    let v = c.loop-turn.seat.view in
    subst (λ (s : Stay). Proper g.L.Law.right c.args.shared.now.shape (bank_in s.place) (version_in s.place) v c.args.word) (sym c.loop-turn.invariant.1.stay)
    (proper_grew g.L.Law.right c.args.shared.now.shape (bank_in u.stay.place) (version_in u.stay.place) u v c.args.word c.loop-turn.invariant.1 (c.requires.word shape))

pub try_place-found-requires-clause-path : goal.try_place-found-requires-clause-path
try_place-found-requires-clause-path g c = (
  c.loop-turn.turn,
  subst (λ (m : ℕ). c.loop-turn.turn < m) c.turns-turn-end.ensures.length c.loop-turn-test.true,
  c.loop-turn.invariant.6,
  subst (λ (s : Stay). PassedBy c.args.shared.now.shape (bank_in s.place) (version_in s.place) c.args.word c.loop-turn.turn c.loop-turn.seat.view) (sym c.loop-turn.invariant.1.stay) c.loop-turn.invariant.2,
)

pub loop-turn-preserved : goal.loop-turn-preserved
loop-turn-preserved g c =
    let i = c.loop-turn.invariant in
    let z = c.args.shared.now.shape in
    let t = c.try_place-found.ensures in
    let u = c.args.seat.now.view in
    let v = c.loop-turn.seat.view in
    let w = c.try_place-found.new.seat.view in
    let k = bank_in u.stay.place in
    let n = version_in u.stay.place in
    let P = IsAt k n (λ x. x ≡ c.args.word) in (
      t.table ∙ i.0,
      grew_trans u v w i.1 t.grew,
      passed_more g.L.Law.right z k n c.args.word c.loop-turn.turn w c.try_place-found.result c.loop-turn.at (passed_grew g.L.Law.right z k n c.args.word c.loop-turn.turn v w t.grew i.2) i.6
          (subst (λ (s : Stay). KeptAt (bank_in s.place) (version_in s.place) c.loop-turn.at c.try_place-found.result w) i.1.stay t.found.kept)
          (apart c.try_place-found.result c.args.word c.if-found-word.false),
      (λ _. t.sound),
      wrote_on P P P u v w (λ f h. h) (λ f h. h) i.4 (subst (λ (s : Stay). Wrote (IsAt (bank_in s.place) (version_in s.place) (λ x. x ≡ c.args.word)) v w) i.1.stay t.wrote),
      two_more u.touch.touches v.touch.touches w.touch.touches c.loop-turn.turn i.5 t.touched,
      c.place_after-at.ensures.next c.loop-turn.turn i.6,
      c.place_after-at.ensures.within,
    )

pub returns-then-found-word-clause-table : goal.returns-then-found-word-clause-table
returns-then-found-word-clause-table g c = c.try_place-found.ensures.table ∙ c.loop-turn.invariant.0

pub returns-then-found-word-clause-grew : goal.returns-then-found-word-clause-grew
returns-then-found-word-clause-grew g c = grew_trans c.args.seat.now.view c.loop-turn.seat.view c.try_place-found.new.seat.view c.loop-turn.invariant.1 c.try_place-found.ensures.grew

pub returns-then-found-word-clause-wrote : goal.returns-then-found-word-clause-wrote
returns-then-found-word-clause-wrote g c =
    let i = c.loop-turn.invariant in
    let u = c.args.seat.now.view in
    let v = c.loop-turn.seat.view in
    let w = c.try_place-found.new.seat.view in
    let P = IsAt (bank_in u.stay.place) (version_in u.stay.place) (λ x. x ≡ c.args.word) in
    wrote_on P P P u v w (λ f h. h) (λ f h. h) i.4 (subst (λ (s : Stay). Wrote (IsAt (bank_in s.place) (version_in s.place) (λ x. x ≡ c.args.word)) v w) i.1.stay c.try_place-found.ensures.wrote)

pub returns-then-found-word-clause-answer : goal.returns-then-found-word-clause-answer
returns-then-found-word-clause-answer g c =
    let i = c.loop-turn.invariant in
    let w = c.try_place-found.new.seat.view in
    let f = c.try_place-found.ensures.found in
    let u = c.args.seat.now.view in
    let same = f.same (one_key c.try_place-found.result c.args.word c.if-found-word.true) in
    (subst (λ (x : ℕ). KeptAt (bank_in u.stay.place) (version_in u.stay.place) c.loop-turn.at x w) same (subst (λ (s : Stay). KeptAt (bank_in s.place) (version_in s.place) c.loop-turn.at c.try_place-found.result w) i.1.stay f.kept), f.node)

pub returns-clause-answer : goal.returns-clause-answer
returns-clause-answer g c =
    let u = c.args.seat.now.view in
    subst (λ (m : ℕ). PassedBy c.args.shared.now.shape (bank_in u.stay.place) (version_in u.stay.place) c.args.word m c.loop-turn.seat.view) (search rules) c.loop-turn.invariant.2

within : (a b c t end : ℕ) → b ≤ a + t * 2 → c ≤ b + 2 → t + 1 ≤ end → end ≤ 64 → c ≤ a + 128
within a b c t end h l m s = omega arith

pub returns-then-found-word-clause-touched : goal.returns-then-found-word-clause-touched
returns-then-found-word-clause-touched g c =
    within c.args.seat.now.view.touch.touches c.loop-turn.seat.view.touch.touches c.try_place-found.new.seat.view.touch.touches c.loop-turn.turn c.turns-turn-end.result c.loop-turn.invariant.5 c.try_place-found.ensures.touched (search rules) c.turns-turn-end.ensures.short.1

pub returns-clause-sound : goal.returns-clause-sound
returns-clause-sound g c =
    let some_turns : 0 < c.turns-turn-end.result = c.turns-turn-end.ensures.short.0 in
    c.loop-turn.invariant.3 (subst (λ (m : ℕ). 0 < m) (search rules) some_turns)
