use Rattle.std.specs.Prelude.{slice_index_or, take}
use Rattle.std.proofs.Common.{rules, ◌≡◌, ◌<◌, ◌≤◌, ◌+◌, ◌*◌, ◌-◌, ℕ, suc, List, ◌∷◌, ◌++◌, drop, length, true, arith, refl, sym, ap, ◌∙◌, subst, le_refl, take-append-drop}
use Rattle.std.proofs.lemmas.List.{drop_all}
use Rattle.px_text.specs.declared.op.Op.{Op}
use Rattle.px_rule.specs.declared.shape.Shape.{Shape}
use Rattle.px_rule.specs.declared.view.Found.{Found}
use Rattle.px_rule.specs.declared.view.Stay.{Stay}
use Rattle.px_rule.specs.declared.view.View.{View}
use Rattle.px_text.specs.Operands.{Operand, set_of}
use Rattle.px_rule.specs.Words.{Small, node_word, key_of, is_node, nodes_of}
use Rattle.px_rule.specs.Table.{bank_in, version_in}
use Rattle.px_text.specs.Sets.{Above, Rising}
use Rattle.px_rule.specs.Known.{KeptSet, named}
use Rattle.px_rule.proofs.Paths.{nodes_wide, node_is_node}
use Rattle.px_rule.specs.Kept.{Grew, Wrote, KeptAt, IsAt, Sound, SuffixWord, SetBlocked, KeyBlocked, Tells}
use Rattle.px_intern.specs.Proper.{Proper}
use Rattle.px_rule.proofs.Lasting.{grew_same, stands_grew, names_grew, grew_trans}
use Rattle.px_intern.proofs.Growing.{rising_at, proper_node, inside_at}
use Rattle.px_rule.proofs.Sounds.{wrote_on, wrote_none}
use Rattle.px_intern.proofs.sets.intern_rising.Goals as goal

-- the next element, the elements after it, and the list that the number stands for
abbrev Next : List ℕ → ℕ → Type 0
Next xs left = let e : ℕ = slice_index_or xs (left - 1) 0 in Small e × Above e (drop left xs) × (drop (left - 1) xs ≡ e ∷ drop left xs)

next : (xs : List ℕ) (left : ℕ) → Rising xs → 0 < left → left ≤ length xs → Next xs left
next xs left rise some_left low =
    let i : suc (left - 1) ≡ left = omega arith in
    let r = rising_at xs (left - 1) 0 rise (omega arith) in
    (r.0, subst (λ (n : ℕ). Above (slice_index_or xs (left - 1) 0) (drop n xs)) i r.1, r.2 ∙ ap (λ (n : ℕ). slice_index_or xs (left - 1) 0 ∷ drop n xs) i)

small_at : (xs : List ℕ) (i : ℕ) → Rising xs → i < length xs → Small (slice_index_or xs i 0)
small_at xs i rise low = (rising_at xs i 0 rise low).0

down : (a b c l n : ℕ) → b ≤ a + 128 * (n - l) → c ≤ b + 128 → 0 < l → l ≤ n → c ≤ a + 128 * (n - (l - 1))
down a b c l n h t p low = omega arith

full : (a b c l n : ℕ) → b ≤ a + 128 * (n - l) → c ≤ b + 128 → 0 < l → l ≤ n → c ≤ a + 128 * n
full a b c l n h t p low = omega arith

-- the list before and from a place
split : (xs : List ℕ) (i : ℕ) (e : ℕ) (es : List ℕ) → drop i xs ≡ e ∷ es → xs ≡ take i xs ++ e ∷ es
split xs i e es h = sym (take-append-drop i xs) ∙ ap (λ l. take i xs ++ l) h

module _ {E : Type 0} (right : List E → Op → Operand → Operand → List ℕ → Type 0) (z : Shape) (k n : ℕ) where
  suffix_grew : (v w : View E) → Grew v w → (x : List ℕ) (f : Found) → IsAt k n (SuffixWord right z k n v x) f → IsAt k n (SuffixWord right z k n w x) f
  suffix_grew v w g x f h = (h.0, h.1, record { front = h.2.front; element = h.2.element; rest = h.2.rest; tail = h.2.tail; suffix = h.2.suffix; told = stands_grew right z k n v w g true h.2.tail (set_of h.2.rest) h.2.told; word = h.2.word })

  suffix_new : (w : View E) (x : List ℕ) (i e t : ℕ) (es : List ℕ) (word : ℕ) → drop i x ≡ e ∷ es → KeptSet (nodes_of z) (right (take n w.past.seen)) w.touch.kept k n t es → word ≡ node_word e t → (f : Found) → IsAt k n (λ y. y ≡ word) f → IsAt k n (SuffixWord right z k n w x) f
  suffix_new w x i e t es word from names is f h = (h.0, h.1, record { front = take i x; element = e; rest = es; tail = t; suffix = split x i e es from; told = named t es names; word = h.2 ∙ is })

pub node_word-word-requires : goal.node_word-word-requires
node_word-word-requires g c =
    let i = c.loop-left.invariant in
    let low : c.loop-left.left ≤ length c.args.elements.now = i.2 in
    let some_left : 0 < c.loop-left.left = c.loop-left-test.true in
    record { fields = (small_at c.args.elements.now _ c.requires.set (omega arith), i.3) }

pub seek-requires-clause-table : goal.seek-requires-clause-table
seek-requires-clause-table g c = c.loop-left.invariant.0 ∙ c.requires.table

pub seek-requires-clause-inside : goal.seek-requires-clause-inside
seek-requires-clause-inside g c = inside_at c.args.seat.now.view c.loop-left.seat.view c.loop-left.invariant.1.stay c.requires.inside

pub seek-requires-clause-word : goal.seek-requires-clause-word
seek-requires-clause-word g c shape =
    let i = c.loop-left.invariant in
    let z = c.args.shared.now.shape in
    let u = c.args.seat.now.view in
    let v = c.loop-left.seat.view in
    let k = bank_in u.stay.place in
    let n = version_in u.stay.place in
    let x = next c.args.elements.now c.loop-left.left c.requires.set c.loop-left-test.true i.2 in
    let e : ℕ = slice_index_or c.args.elements.now (c.loop-left.left - 1) 0 in
    let there : Proper g.L.Law.right z k n v (node_word e c.loop-left.number) = proper_node g.L.Law.right z k n e c.loop-left.number (drop c.loop-left.left c.args.elements.now) v shape x.0 i.3 x.1 i.4 in
    subst (λ (q : Stay × ℕ). Proper g.L.Law.right z (bank_in q.0.place) (version_in q.0.place) v q.1) (λ j. (sym i.1.stay j, sym c.node_word-word.ensures.word j)) there

pub loop-left-init : goal.loop-left-init
loop-left-init g c =
    let u = c.args.seat.now.view in
    let xs = c.args.elements.now in (
      refl,
      grew_same u,
      le_refl (length xs),
      (omega arith),
      subst (KeptSet (nodes_of c.args.shared.now.shape) (g.L.Law.right (take (version_in u.stay.place) u.past.seen)) u.touch.kept (bank_in u.stay.place) (version_in u.stay.place) 0) (sym (drop_all (length xs) xs (le_refl (length xs)))) refl,
      (λ h. h),
      wrote_none _ u u refl,
      (let t : ℕ = u.touch.touches in let n : ℕ = length xs in let r : t ≤ t + 128 * (n - n) = omega arith in r),
    )

pub loop-left-preserved : goal.loop-left-preserved
loop-left-preserved g c =
    let i = c.loop-left.invariant in
    let z = c.args.shared.now.shape in
    let R = g.L.Law.right in
    let xs = c.args.elements.now in
    let x = next xs c.loop-left.left c.requires.set c.loop-left-test.true i.2 in
    let e : ℕ = slice_index_or xs (c.loop-left.left - 1) 0 in
    let t = c.loop-left.number in
    let u = c.args.seat.now.view in
    let v = c.loop-left.seat.view in
    let w = c.seek.new.seat.view in
    let k = bank_in u.stay.place in
    let n = version_in u.stay.place in
    let es = drop c.loop-left.left xs in
    let p = c.in-At.place in
    let s = c.in-At.ensures in
    let word = c.node_word-word.ensures.word in
    let node : is_node (key_of c.node_word-word.result) ≡ true = ap (λ (y : ℕ). is_node (key_of y)) word ∙ node_is_node e t x.0 i.3 in
    let at = s.answer.1 node in
    let kept : KeptAt k n p (node_word e t) w = subst (λ (q : Stay × ℕ). KeptAt (bank_in q.0.place) (version_in q.0.place) p q.1 w) (λ j. (i.1.stay j, word j)) s.answer.0 in
    let names = names_grew R z k n t es v w s.grew i.4 in
    let wide : nodes_of z ≤ 1048576 = (nodes_wide z s.shape).1 in (
      s.table ∙ i.0,
      grew_trans u v w i.1 s.grew,
      (let l = i.2 in omega arith),
      (let N : ℕ = nodes_of z in let q : ℕ = p in let below : q < N = at.1 in let wide' : N ≤ 1048576 = wide in let r : q < 1048576 = omega arith in r),
      subst (KeptSet (nodes_of z) (R (take n w.past.seen)) w.touch.kept k n p) (sym x.2) (t, at.0, at.1, x.0, i.3, (kept.0, kept.1), x.1, names),
      (λ _. subst (λ (q : Stay). Sound R z (bank_in q.place) (version_in q.place) w) (s.grew.stay ∙ i.1.stay) s.sound),
      wrote_on (IsAt k n (SuffixWord R z k n v xs)) (IsAt k n (λ y. y ≡ c.node_word-word.result)) (IsAt k n (SuffixWord R z k n w xs)) u v w (suffix_grew R z k n v w s.grew xs)
          (suffix_new R z k n w xs (c.loop-left.left - 1) e t es c.node_word-word.result x.2 names word) i.6
          (subst (λ (q : Stay). Wrote (IsAt (bank_in q.place) (version_in q.place) (λ y. y ≡ c.node_word-word.result)) v w) i.1.stay s.wrote),
      down u.touch.touches v.touch.touches w.touch.touches c.loop-left.left (length xs) i.7 s.touched c.loop-left-test.true i.2,
    )

pub returns-in-Blocked-clause-table : goal.returns-in-Blocked-clause-table
returns-in-Blocked-clause-table g c = c.in-Blocked.ensures.table ∙ c.loop-left.invariant.0

pub returns-in-Blocked-clause-grew : goal.returns-in-Blocked-clause-grew
returns-in-Blocked-clause-grew g c = grew_trans c.args.seat.now.view c.loop-left.seat.view c.seek.new.seat.view c.loop-left.invariant.1 c.in-Blocked.ensures.grew

pub returns-in-Blocked-clause-sound : goal.returns-in-Blocked-clause-sound
returns-in-Blocked-clause-sound g c _ =
    let z = c.args.shared.now.shape in
    let s = c.in-Blocked.ensures in
    subst (λ (q : Stay). Sound g.L.Law.right z (bank_in q.place) (version_in q.place) c.seek.new.seat.view) (s.grew.stay ∙ c.loop-left.invariant.1.stay) s.sound

pub returns-in-Blocked-clause-wrote : goal.returns-in-Blocked-clause-wrote
returns-in-Blocked-clause-wrote g c =
    let i = c.loop-left.invariant in
    let z = c.args.shared.now.shape in
    let R = g.L.Law.right in
    let xs = c.args.elements.now in
    let x = next xs c.loop-left.left c.requires.set c.loop-left-test.true i.2 in
    let e : ℕ = slice_index_or xs (c.loop-left.left - 1) 0 in
    let t = c.loop-left.number in
    let u = c.args.seat.now.view in
    let v = c.loop-left.seat.view in
    let w = c.seek.new.seat.view in
    let k = bank_in u.stay.place in
    let n = version_in u.stay.place in
    let es = drop c.loop-left.left xs in
    let s = c.in-Blocked.ensures in
    wrote_on (IsAt k n (SuffixWord R z k n v xs)) (IsAt k n (λ y. y ≡ c.node_word-word.result)) (IsAt k n (SuffixWord R z k n w xs)) u v w (suffix_grew R z k n v w s.grew xs)
    (suffix_new R z k n w xs (c.loop-left.left - 1) e t es c.node_word-word.result x.2 (names_grew R z k n t es v w s.grew i.4) c.node_word-word.ensures.word) i.6
    (subst (λ (q : Stay). Wrote (IsAt (bank_in q.place) (version_in q.place) (λ y. y ≡ c.node_word-word.result)) v w) i.1.stay s.wrote)

pub returns-in-Blocked-clause-touched : goal.returns-in-Blocked-clause-touched
returns-in-Blocked-clause-touched g c =
    full c.args.seat.now.view.touch.touches c.loop-left.seat.view.touch.touches c.seek.new.seat.view.touch.touches c.loop-left.left (length c.args.elements.now) c.loop-left.invariant.7 c.in-Blocked.ensures.touched c.loop-left-test.true c.loop-left.invariant.2

pub returns-in-Blocked-clause-answer : goal.returns-in-Blocked-clause-answer
returns-in-Blocked-clause-answer g c =
    let i = c.loop-left.invariant in
    let z = c.args.shared.now.shape in
    let R = g.L.Law.right in
    let xs = c.args.elements.now in
    let x = next xs c.loop-left.left c.requires.set c.loop-left-test.true i.2 in
    let e : ℕ = slice_index_or xs (c.loop-left.left - 1) 0 in
    let t = c.loop-left.number in
    let u = c.args.seat.now.view in
    let v = c.loop-left.seat.view in
    let w = c.seek.new.seat.view in
    let k = bank_in u.stay.place in
    let n = version_in u.stay.place in
    let es = drop c.loop-left.left xs in
    let s = c.in-Blocked.ensures in
    let word = c.node_word-word.ensures.word in
    let stay = sym (s.grew.stay ∙ i.1.stay) in
    let blocked : SetBlocked R z k n w xs c.node_word-word.result = record {
      front = take (c.loop-left.left - 1) xs;
      element = e;
      rest = es;
      tail = t;
      suffix = split xs (c.loop-left.left - 1) e es x.2;
      small = (x.0, i.3);
      told = named t es (names_grew R z k n t es v w s.grew i.4);
      word = word;
      blocked = subst (λ (q : Stay). KeyBlocked z (bank_in q.place) (version_in q.place) c.node_word-word.result w) i.1.stay s.answer;
    } in
    subst (λ (q : Stay). SetBlocked R z (bank_in q.place) (version_in q.place) w xs c.node_word-word.result) stay blocked

pub returns-clause-answer : goal.returns-clause-answer
returns-clause-answer g c =
    let i = c.loop-left.invariant in
    let z = c.args.shared.now.shape in
    let R = g.L.Law.right in
    let xs = c.args.elements.now in
    let u = c.args.seat.now.view in
    let v = c.loop-left.seat.view in
    let k = bank_in u.stay.place in
    let n = version_in u.stay.place in
    let none : c.loop-left.left ≡ 0 = (let l : ℕ = c.loop-left.left in let r : l ≡ 0 = search rules in r) in
    let all : KeptSet (nodes_of z) (R (take n v.past.seen)) v.touch.kept k n c.loop-left.number xs = subst (λ (l : ℕ). KeptSet (nodes_of z) (R (take n v.past.seen)) v.touch.kept k n c.loop-left.number (drop l xs)) none i.4 in
    (i.3, subst (λ (q : Stay). Tells R z (bank_in q.place) (version_in q.place) v true c.loop-left.number (set_of xs)) (sym i.1.stay) (named c.loop-left.number xs all))
