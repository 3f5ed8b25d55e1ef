-- Letters that go from those that are left to the ways.
use Rattle.std.proofs.Common.{◌≡◌, ◌≢◌, ℕ, zero, suc, ◌+◌, ◌<◌, ◌⊎◌, Bool, true, false, cond, nat_eq, List, [], ◌∷◌, ◌++◌, length, get_or, drop, append_assoc, length-append, refl, sym, ap, ◌∙◌, subst, arith, inl, inr}
use Rattle.std.proofs.lemmas.Bool.Decides.{eqb_tells}
use Rattle.std.proofs.lemmas.Option.{get_or_from_slice_get}
use Rattle.std.specs.Prelude.{◌^◌, All, Option, Some, None, MatchBool, slice_get, slice_set}
use Rattle.px_post.specs.declared.waiting.Waiting.{Waiting}
use Rattle.px_post.specs.Letters.{letter}
use Rattle.px_post.specs.Mail.{Way, WasFull}
use Rattle.px_post.specs.Sending.{with_next, bare, bare_all, left_for, due, AreReady, Moves, IsStopped, PutAt}

abbrev from_some : Way → Option Way → Way
from_some d None = d
from_some d (Some w) = w

pub some_same : (v w : Way) → Some v ≡ Some w → v ≡ w
some_same v w e = ap (from_some v) e

get_set : (ws : List Way) (i : ℕ) (w v : Way) → slice_get ws i ≡ Some w → slice_get (slice_set ws i v) i ≡ Some v
get_set [] i w v e = absurd (none_some e)
  where
    is_none : Option Way → Type 0
    is_none None = Unit {0}
    is_none (Some _) = ⊥

    none_some : None ≡ Some w → ⊥
    none_some p = subst is_none p tt
get_set (x ∷ ws) zero w v e = refl
get_set (x ∷ ws) (suc i) w v e = get_set ws i w v e

get_other : (ws : List Way) (i j : ℕ) (v : Way) → i ≢ j → slice_get (slice_set ws i v) j ≡ slice_get ws j
get_other [] i j v apart = refl
get_other (x ∷ ws) zero zero v apart = absurd (apart refl)
get_other (x ∷ ws) zero (suc j) v apart = refl
get_other (x ∷ ws) (suc i) zero v apart = refl
get_other (x ∷ ws) (suc i) (suc j) v apart = get_other ws i j v (λ e. apart (ap suc e))

set_own : (ws : List Way) (i : ℕ) (w : Way) → slice_get ws i ≡ Some w → slice_set ws i w ≡ ws
set_own [] i w e = refl
set_own (x ∷ ws) zero w e = ap (λ (y : Way). y ∷ ws) (sym (some_same x w e))
set_own (x ∷ ws) (suc i) w e = ap (λ (l : List Way). x ∷ l) (set_own ws i w e)

bare_set : (ws : List Way) (i : ℕ) (w v : Way) → slice_get ws i ≡ Some w → bare v ≡ bare w → bare_all (slice_set ws i v) ≡ bare_all ws
bare_set [] i w v e b = refl
bare_set (x ∷ ws) zero w v e b = ap (λ (y : Way). y ∷ bare_all ws) (b ∙ ap bare (sym (some_same x w e)))
bare_set (x ∷ ws) (suc i) w v e b = ap (λ (l : List Way). bare x ∷ l) (bare_set ws i w v e b)

pub bare-length : (ws : List Way) → length (bare_all ws) ≡ length ws
bare-length [] = refl
bare-length (w ∷ ws) = ap suc (bare-length ws)

pub as_many : (ws vs : List Way) → bare_all vs ≡ bare_all ws → length vs ≡ length ws
as_many ws vs e = sym (bare-length vs) ∙ ap length e ∙ bare-length ws

get_within : (ws : List Way) (i : ℕ) → i < length ws → (w : Way) × (slice_get ws i ≡ Some w)
get_within [] i less = absurd (omega arith)
get_within (x ∷ ws) zero less = (x, refl)
get_within (x ∷ ws) (suc i) less = get_within ws i (omega arith)

pub put_one : (r : Bool) (ways : List Way) (n : ℕ) (x : Waiting) (old new : Way) → old ≡ get_or ways x.mailbox old
    → MatchBool r (new ≡ with_next old n x.id) ((new ≡ old) × WasFull old.capacity old.feeder old.put)
    → (w : Way) → slice_get ways x.mailbox ≡ Some w → PutAt r ways (slice_set ways x.mailbox new) n x w
put_one true ways n x old new at h w e =
    let same : old ≡ w = at ∙ get_or_from_slice_get ways x.mailbox w old e in
    ap (λ (v : Way). slice_set ways x.mailbox v) (h ∙ ap (λ (v : Way). with_next v n x.id) same)
put_one false ways n x old new at h w e =
    let same : old ≡ w = at ∙ get_or_from_slice_get ways x.mailbox w old e in
    (ap (λ (v : Way). slice_set ways x.mailbox v) (h.0 ∙ same) ∙ set_own ways x.mailbox w e, subst (λ (v : Way). WasFull v.capacity v.feeder v.put) same h.1)

-- what the first letter that is left finds
pub first_room : (f : ℕ) (ways : List Way) (left : List Waiting) (x : Waiting) → AreReady f ways left → 0 < length left → x ≡ get_or left 0 x
    → (w : Way) × (slice_get ways x.mailbox ≡ Some w) × (length w.put + 1 < 2 ^ 64)
first_room f ways [] x ready some at = absurd (omega arith)
first_room f ways (y ∷ rest) x ready some at =
    let there = get_within ways y.mailbox (ready.within 0 y (omega arith)) in
    let room = (ready.each y.mailbox there.0 there.1).2 in
    subst (λ (z : Waiting). (w : Way) × (slice_get ways z.mailbox ≡ Some w) × (length w.put + 1 < 2 ^ 64)) (sym at)
    (there.0, there.1, less (length there.0.put) (length rest) room)
  where
    less : (a b : ℕ) → a + suc b < 2 ^ 64 → a + 1 < 2 ^ 64
    less a b h = omega arith

same_due : (f b n : ℕ) (w : Way) (x : Waiting) (rest : List Waiting) → w.feeder ≡ f → nat_eq x.mailbox b ≡ true → due f b n (with_next w n x.id) rest ≡ due f b n w (x ∷ rest)
same_due f b n w x rest own at =
    let one = letter w.feeder (length w.put + 1) n x.id ∷ [] in
    append_assoc w.put one (left_for f b n (length (w.put ++ one)) rest)
    ∙ (λ i. w.put ++ letter (own i) (length w.put + 1) n x.id ∷ left_for f b n (length-append w.put one i) rest)
    ∙ ap (λ (t : Bool). w.put ++ cond t (letter f (length w.put + 1) n x.id ∷ left_for f b n (length w.put + 1) rest) (left_for f b n (length w.put) rest)) (sym at)

other_due : (f b n : ℕ) (w : Way) (x : Waiting) (rest : List Waiting) → nat_eq x.mailbox b ≡ false → due f b n w rest ≡ due f b n w (x ∷ rest)
other_due f b n w x rest at =
    ap (λ (t : Bool). w.put ++ cond t (letter f (length w.put + 1) n x.id ∷ left_for f b n (length w.put + 1) rest) (left_for f b n (length w.put) rest)) (sym at)

abbrev Fact : ℕ → ℕ → Way → ℕ → Type 0
Fact f b w k = (w.feeder ≡ f) × (w.mailbox ≡ b) × (length w.put + k < 2 ^ 64)

one_fact : (f b n id k : ℕ) (w : Way) → Fact f b w (suc k) → Fact f b (with_next w n id) k
one_fact f b n id k w h =
    (h.0, h.1, let l = length-append w.put (letter w.feeder (length w.put + 1) n id ∷ []) in less (length w.put) k _ l h.2)
  where
    less : (a k m : ℕ) → m ≡ a + 1 → a + suc k < 2 ^ 64 → m + k < 2 ^ 64
    less a k m e h = omega arith

less_fact : (f b k : ℕ) (w : Way) → Fact f b w (suc k) → Fact f b w k
less_fact f b k w h = (h.0, h.1, less (length w.put) k h.2)
  where
    less : (a k : ℕ) → a + suc k < 2 ^ 64 → a + k < 2 ^ 64
    less a k h = omega arith

module _ (f n : ℕ) (ways : List Way) (x : Waiting) (rest : List Waiting) (w : Way) (there : slice_get ways x.mailbox ≡ Some w) where
  abbrev after : List Way
  after = slice_set ways x.mailbox (with_next w n x.id)

  each_after : AreReady f ways (x ∷ rest) → (b : ℕ) (v : Way) → slice_get after b ≡ Some v → Fact f b v (length rest)
  each_after ready b v e = by_test (eqb_tells x.mailbox b)
    where
      by_test : ((nat_eq x.mailbox b ≡ true) × (x.mailbox ≡ b)) ⊎ ((nat_eq x.mailbox b ≡ false) × (x.mailbox ≢ b)) → Fact f b v (length rest)
      by_test (inl t) =
          let new : with_next w n x.id ≡ v = some_same _ _ (sym (get_set ways x.mailbox w (with_next w n x.id) there) ∙ subst (λ (k : ℕ). slice_get after k ≡ Some v) (sym t.1) e) in
          subst (λ (z : Way). Fact f b z (length rest)) new
          (one_fact f b n x.id (length rest) w (subst (λ (k : ℕ). Fact f k w (suc (length rest))) t.1 (ready.each x.mailbox w there)))
      by_test (inr t) = less_fact f b (length rest) v (ready.each b v (sym (get_other ways x.mailbox b (with_next w n x.id) t.1) ∙ e))

  within_after : AreReady f ways (x ∷ rest) → All (λ (y : Waiting). y.mailbox < length after) rest
  within_after ready =
      subst (λ (k : ℕ). All (λ (y : Waiting). y.mailbox < k) rest) (sym (as_many ways after (bare_set ways x.mailbox w (with_next w n x.id) there refl)))
      (λ k d less. ready.within (suc k) d (omega arith))

  due_after : w.feeder ≡ f → (b : ℕ) (v : Way) → slice_get after b ≡ Some v → (u : Way) × (slice_get ways b ≡ Some u) × (due f b n v rest ≡ due f b n u (x ∷ rest))
  due_after own b v e = by_test (eqb_tells x.mailbox b)
    where
      by_test : ((nat_eq x.mailbox b ≡ true) × (x.mailbox ≡ b)) ⊎ ((nat_eq x.mailbox b ≡ false) × (x.mailbox ≢ b)) → (u : Way) × (slice_get ways b ≡ Some u) × (due f b n v rest ≡ due f b n u (x ∷ rest))
      by_test (inl t) =
          let new : with_next w n x.id ≡ v = some_same _ _ (sym (get_set ways x.mailbox w (with_next w n x.id) there) ∙ subst (λ (k : ℕ). slice_get after k ≡ Some v) (sym t.1) e) in
          (w, subst (λ (k : ℕ). slice_get ways k ≡ Some w) t.1 there, ap (λ (z : Way). due f b n z rest) (sym new) ∙ same_due f b n w x rest own t.0)
      by_test (inr t) = (v, sym (get_other ways x.mailbox b (with_next w n x.id) t.1) ∙ e, other_due f b n v x rest t.0)

  one_moves : AreReady f ways (x ∷ rest) → Moves f n ways (x ∷ rest) after rest
  one_moves ready = record {
    same = bare_set ways x.mailbox w (with_next w n x.id) there refl;
    ready = λ r. record { each = each_after r; within = within_after r };
    due = due_after (ready.each x.mailbox w there).0;
  }

pub none_moves : (f n : ℕ) (ways : List Way) (left : List Waiting) → Moves f n ways left ways left
none_moves f n ways left = record { same = refl; ready = λ r. r; due = λ b w e. (w, e, refl) }

-- the first letter went
pub first_moves : (f n : ℕ) (ways ways' : List Way) (left left' : List Waiting) (x : Waiting) → AreReady f ways left → 0 < length left → x ≡ get_or left 0 x → left' ≡ drop 1 left
    → ((w : Way) → slice_get ways x.mailbox ≡ Some w → ways' ≡ slice_set ways x.mailbox (with_next w n x.id)) → Moves f n ways left ways' left'
first_moves f n ways ways' [] left' x ready some at rest put = absurd (omega arith)
first_moves f n ways ways' (y ∷ ys) left' x ready some at rest put =
    let room = first_room f ways (y ∷ ys) y ready some refl in
    let set : ways' ≡ slice_set ways y.mailbox (with_next room.0 n y.id) = subst (λ (z : Waiting). (w : Way) → slice_get ways z.mailbox ≡ Some w → ways' ≡ slice_set ways z.mailbox (with_next w n z.id)) at put room.0 room.1 in
    subst (λ (p : List Way × List Waiting). Moves f n ways (y ∷ ys) p.0 p.1) (λ i. (sym set i, sym rest i)) (moved room.0 room.1)
  where
    moved : (w : Way) (e : slice_get ways y.mailbox ≡ Some w) → Moves f n ways (y ∷ ys) (slice_set ways y.mailbox (with_next w n y.id)) ys
    moved w e = one_moves f n ways y ys w e ready

-- the first letter stays
pub first_stops : (f n : ℕ) (ways ways' : List Way) (left : List Waiting) (x : Waiting) → AreReady f ways left → 0 < length left → x ≡ get_or left 0 x
    → ((w : Way) → slice_get ways x.mailbox ≡ Some w → (ways' ≡ ways) × WasFull w.capacity w.feeder w.put) → Moves f n ways left ways' left × IsStopped ways' left x.mailbox
first_stops f n ways ways' [] x ready some at put = absurd (omega arith)
first_stops f n ways ways' (y ∷ ys) x ready some at put =
    let room = first_room f ways (y ∷ ys) x ready some at in
    let h = put room.0 room.1 in (
      subst (λ (vs : List Way). Moves f n ways (y ∷ ys) vs (y ∷ ys)) (sym h.0) (none_moves f n ways (y ∷ ys)),
      record {
        id = x.id;
        rest = ys;
        first = ap (λ (z : Waiting). z ∷ ys) (sym at);
        way = room.0;
        there = subst (λ (vs : List Way). slice_get vs x.mailbox ≡ Some room.0) (sym h.0) room.1;
        full = h.1;
      },
    )

pub none_left : (left : List Waiting) → length left ≡ 0 → left ≡ []
none_left [] e = refl
none_left (x ∷ xs) e = absurd (omega arith)
