-- Feeders and mailboxes that are made one after the other.
use Rattle.std.proofs.Common.{◌≡◌, ℕ, zero, suc, ◌+◌, ◌<◌, ◌⊎◌, List, [], ◌∷◌, ◌++◌, length, get_or, refl, sym, ap, ◌∙◌, subst, arith, inl, inr, length-append}
use Rattle.std.proofs.lemmas.Option.{get_or_from_slice_get}
use Rattle.std.specs.Prelude.{Option, Some, None, slice_get, slice_set}
use Rattle.px_post.specs.Mail.{Mail, Way}
use Rattle.px_post.specs.Sending.{Sending, IsNextWay, with_way}
use Rattle.px_delivery.specs.Posts.{with_made, made_all, way_to, ways_to, sender_to, feeders_of, AreMailboxes, AreNext, IsPost}

abbrev from_some : Mail → Option Mail → Mail
from_some d None = d
from_some d (Some w) = w

some_same : (v w : Mail) → Some v ≡ Some w → v ≡ w
some_same v w e = ap (from_some v) e

abbrev is_none : Option Mail → Type 0
is_none None = Unit {0}
is_none (Some _) = ⊥

none_some : (m : Mail) → None ≡ Some m → ⊥
none_some m p = subst is_none p tt

-- the first i mailboxes have one exit more
abbrev pub bumped : (n i : ℕ) → List Mail → List Mail
bumped n zero ms = ms
bumped n (suc i) [] = []
bumped n (suc i) (m ∷ ms) = with_made n m ∷ bumped n i ms

-- the ways to the first i mailboxes
abbrev pub first_ways : (f i : ℕ) → List Mail → List Way
first_ways f zero ms = []
first_ways f (suc i) [] = []
first_ways f (suc i) (m ∷ ms) = way_to f m ∷ first_ways f i ms

pub bumped_all : (n : ℕ) (ms : List Mail) → bumped n (length ms) ms ≡ made_all n ms
bumped_all n [] = refl
bumped_all n (m ∷ ms) = ap (λ (l : List Mail). with_made n m ∷ l) (bumped_all n ms)

pub ways_all : (f : ℕ) (ms : List Mail) → first_ways f (length ms) ms ≡ ways_to f ms
ways_all f [] = refl
ways_all f (m ∷ ms) = ap (λ (l : List Way). way_to f m ∷ l) (ways_all f ms)

pub first_long : (f i : ℕ) (ms : List Mail) → i < length ms → length (first_ways f i ms) ≡ i
first_long f zero ms less = refl
first_long f (suc i) [] less = absurd (omega arith)
first_long f (suc i) (m ∷ ms) less = ap suc (first_long f i ms (omega arith))

bumped_at : (n i : ℕ) (ms : List Mail) → slice_get (bumped n i ms) i ≡ slice_get ms i
bumped_at n zero ms = refl
bumped_at n (suc i) [] = refl
bumped_at n (suc i) (m ∷ ms) = bumped_at n i ms

bumped_set : (n i : ℕ) (ms : List Mail) (m : Mail) → slice_get ms i ≡ Some m → slice_set (bumped n i ms) i (with_made n m) ≡ bumped n (suc i) ms
bumped_set n zero [] m e = absurd (none_some m e)
bumped_set n zero (x ∷ ms) m e = ap (λ (y : Mail). with_made n y ∷ ms) (sym (some_same x m e))
bumped_set n (suc i) [] m e = absurd (none_some m e)
bumped_set n (suc i) (x ∷ ms) m e = ap (λ (l : List Mail). with_made n x ∷ l) (bumped_set n i ms m e)

ways_more : (f i : ℕ) (ms : List Mail) (m : Mail) → slice_get ms i ≡ Some m → first_ways f i ms ++ way_to f m ∷ [] ≡ first_ways f (suc i) ms
ways_more f zero [] m e = absurd (none_some m e)
ways_more f zero (x ∷ ms) m e = ap (λ (y : Mail). way_to f y ∷ []) (sym (some_same x m e))
ways_more f (suc i) [] m e = absurd (none_some m e)
ways_more f (suc i) (x ∷ ms) m e = ap (λ (l : List Way). way_to f x ∷ l) (ways_more f i ms m e)

pub get_within : (ms : List Mail) (i : ℕ) → i < length ms → (m : Mail) × (slice_get ms i ≡ Some m)
get_within [] i less = absurd (omega arith)
get_within (x ∷ ms) zero less = (x, refl)
get_within (x ∷ ms) (suc i) less = get_within ms i (omega arith)

-- what the next mailbox is
pub next_box : (f i : ℕ) (ms now : List Mail) → AreNext f ms → i < length ms → now ≡ bumped (f + 1) i ms → (m : Mail) × (slice_get now i ≡ Some m) × (m.made ≡ f)
next_box f i ms now next less e =
    let at = get_within ms i less in
    (at.0, subst (λ (l : List Mail). slice_get l i ≡ Some at.0) (sym e) (bumped_at (f + 1) i ms ∙ at.1), (next i at.0 at.1).1)

-- one exit more was made, and added
pub one_exit : (f i : ℕ) (ms now now' : List Mail) (ways : List Way) (w : Way) → i < length ms → now ≡ bumped (f + 1) i ms → ways ≡ first_ways f i ms
    → ((m : Mail) → slice_get now i ≡ Some m → w ≡ way_to f m) → ((m : Mail) → slice_get now i ≡ Some m → now' ≡ slice_set now i (with_made (f + 1) m))
    → (now' ≡ bumped (f + 1) (i + 1) ms) × (ways ++ w ∷ [] ≡ first_ways f (i + 1) ms)
one_exit f i ms now now' ways w less e k one set =
    let at = get_within ms i less in
    let there = subst (λ (l : List Mail). slice_get l i ≡ Some at.0) (sym e) (bumped_at (f + 1) i ms ∙ at.1) in (
      set at.0 there ∙ ap (λ (l : List Mail). slice_set l i (with_made (f + 1) at.0)) e ∙ bumped_set (f + 1) i ms at.0 at.1 ∙ ap (λ (k : ℕ). bumped (f + 1) k ms) (let e : suc i ≡ i + 1 = omega arith in e),
      (λ j. k j ++ one at.0 there j ∷ []) ∙ ways_more f i ms at.0 at.1 ∙ ap (λ (k : ℕ). first_ways f k ms) (let e : suc i ≡ i + 1 = omega arith in e),
    )

-- the mailboxes after so many feeders, and those of the next
pub made_again : (n k : ℕ) (ms : List Mail) → made_all n (made_all k ms) ≡ made_all n ms
made_again n k [] = refl
made_again n k (m ∷ ms) = ap (λ (l : List Mail). with_made n m ∷ l) (made_again n k ms)

pub ways_again : (f k : ℕ) (ms : List Mail) → ways_to f (made_all k ms) ≡ ways_to f ms
ways_again f k [] = refl
ways_again f k (m ∷ ms) = ap (λ (l : List Way). way_to f m ∷ l) (ways_again f k ms)

pub none_made : (ms : List Mail) → AreNext 0 ms → made_all 0 ms ≡ ms
none_made ms next = by_each ms (λ b m e. (next b m e).1)
  where
    by_each : (ms : List Mail) → ((b : ℕ) (m : Mail) → slice_get ms b ≡ Some m → m.made ≡ 0) → made_all 0 ms ≡ ms
    by_each [] h = refl
    by_each (m ∷ ms) h = λ i. record { number = m.number; table = m.table; capacity = m.capacity; made = sym (h 0 m refl) i; got = m.got; ended = m.ended } ∷ by_each ms (λ b x e. h (suc b) x e) i

-- a mailbox of those to which more exits were made
made_at : (k b : ℕ) (ms : List Mail) (m : Mail) → slice_get (made_all k ms) b ≡ Some m → (x : Mail) × (slice_get ms b ≡ Some x) × (with_made k x ≡ m)
made_at k b [] m e = absurd (none_some m e)
made_at k zero (x ∷ ms) m e = (x, refl, some_same (with_made k x) m e)
made_at k (suc b) (x ∷ ms) m e = made_at k b ms m e

pub made_next : (j k : ℕ) (ms : List Mail) → AreNext j ms → AreNext k (made_all k ms)
made_next j k ms next b m e =
    let x = made_at k b ms m e in
    (ap (λ (y : Mail). y.number) (sym x.2) ∙ (next b x.0 x.1).0, ap (λ (y : Mail). y.made) (sym x.2))

made_long : (k : ℕ) (ms : List Mail) → length (made_all k ms) ≡ length ms
made_long k [] = refl
made_long k (m ∷ ms) = ap suc (made_long k ms)

-- the way to the next mailbox may be added
pub next_way : (f i : ℕ) (ms now : List Mail) (s : Sending) (w : Way) → AreNext f ms → i < length ms → now ≡ bumped (f + 1) i ms
    → s ≡ record { feeder = f; routes = []; documents = 0; ways = first_ways f i ms; left = [] } → ((m : Mail) → slice_get now i ≡ Some m → w ≡ way_to f m) → IsNextWay s w
next_way f i ms now s w next less e is one =
    let at = get_within ms i less in
    let there = subst (λ (l : List Mail). slice_get l i ≡ Some at.0) (sym e) (bumped_at (f + 1) i ms ∙ at.1) in
    let same = one at.0 there in (
      ap (λ (v : Way). v.feeder) same ∙ ap (λ (t : Sending). t.feeder) (sym is),
      ap (λ (v : Way). v.mailbox) same ∙ (next i at.0 at.1).0 ∙ sym (first_long f i ms less) ∙ ap (λ (t : Sending). length t.ways) (sym is),
      ap (λ (v : Way). v.put) same,
      ap (λ (t : Sending). t.left) is,
    )

-- one way more
pub way_added : (f i : ℕ) (ms : List Mail) (s t : Sending) (w : Way) → s ≡ record { feeder = f; routes = []; documents = 0; ways = first_ways f i ms; left = [] } → t ≡ with_way s w
    → first_ways f i ms ++ w ∷ [] ≡ first_ways f (i + 1) ms → t ≡ record { feeder = f; routes = []; documents = 0; ways = first_ways f (i + 1) ms; left = [] }
way_added f i ms s t w is e more = e ∙ ap (λ (u : Sending). with_way u w) is ∙ ap (λ (l : List Way). record { feeder = f; routes = []; documents = 0; ways = l; left = [] }) more

get_last : (ms : List Mail) (m x : Mail) (b : ℕ) → slice_get (ms ++ m ∷ []) b ≡ Some x → (slice_get ms b ≡ Some x) ⊎ ((b ≡ length ms) × (m ≡ x))
get_last [] m x zero e = inr (refl, some_same m x e)
get_last [] m x (suc b) e = absurd (none_some x e)
get_last (y ∷ ms) m x zero e = inl e
get_last (y ∷ ms) m x (suc b) e = by_case (get_last ms m x b e)
  where
    by_case : (slice_get ms b ≡ Some x) ⊎ ((b ≡ length ms) × (m ≡ x)) → (slice_get ms b ≡ Some x) ⊎ ((suc b ≡ suc (length ms)) × (m ≡ x))
    by_case (inl h) = inl h
    by_case (inr h) = inr (ap suc h.0, h.1)

-- one mailbox more
pub more_mailbox : (n capacity : ℕ) (ms : List Mail) (m : Mail) → AreMailboxes n capacity 0 ms → m.number ≡ n → m.capacity ≡ capacity → m.made ≡ 0 → (m.got ≡ []) × (m.ended ≡ []) → AreMailboxes (n + 1) capacity 0 (ms ++ m ∷ [])
more_mailbox n capacity ms m are number wide made none = record {
  many = length-append ms (m ∷ []) ∙ ap (λ (k : ℕ). k + 1) are.many;
  each = λ b x e. by_case b x (get_last ms m x b e);
}
  where
    by_case : (b : ℕ) (x : Mail) → (slice_get ms b ≡ Some x) ⊎ ((b ≡ length ms) × (m ≡ x)) → (x.number ≡ b) × (x.capacity ≡ capacity) × (x.made ≡ 0) × (x.got ≡ []) × (x.ended ≡ [])
    by_case b x (inl h) = are.each b x h
    by_case b x (inr h) = subst (λ (y : Mail). (y.number ≡ b) × (y.capacity ≡ capacity) × (y.made ≡ 0) × (y.got ≡ []) × (y.ended ≡ [])) h.1 (number ∙ sym are.many ∙ sym h.0, wide, made, none.0, none.1)

-- mailboxes behind all exits
pub all_made : (n boxes capacity : ℕ) (ms : List Mail) → AreMailboxes boxes capacity 0 ms → AreMailboxes boxes capacity n (made_all n ms)
all_made n boxes capacity ms are = record {
  many = made_long n ms ∙ are.many;
  each = λ b m e.
      let x = made_at n b ms m e in
      let h = are.each b x.0 x.1 in
      subst (λ (y : Mail). (y.number ≡ b) × (y.capacity ≡ capacity) × (y.made ≡ n) × (y.got ≡ []) × (y.ended ≡ [])) x.2 (h.0, h.1, refl, h.3, h.4);
}

-- one feeder more
pub more_feeders : (k : ℕ) (ms : List Mail) (fs : List Sending) (s : Sending) → fs ≡ feeders_of k ms → s ≡ sender_to k (made_all k ms) → fs ++ s ∷ [] ≡ feeders_of (k + 1) ms
more_feeders k ms fs s is e =
    (λ i. is i ++ (e ∙ ap (λ (l : List Way). record { feeder = k; routes = []; documents = 0; ways = l; left = [] }) (ways_again k k ms)) i ∷ [])
    ∙ ap (λ (n : ℕ). feeders_of n ms) (let e : suc k ≡ k + 1 = omega arith in e)

pub new_post : (n boxes capacity : ℕ) (ms ms' : List Mail) (fs : List Sending) → AreMailboxes boxes capacity 0 ms → fs ≡ feeders_of n ms → ms' ≡ made_all n ms → IsPost n boxes capacity fs ms'
new_post n boxes capacity ms ms' fs are is e = record {
  mailboxes = subst (AreMailboxes boxes capacity n) (sym e) (all_made n boxes capacity ms are);
  feeders = is ∙ again n ∙ ap (feeders_of n) (sym e);
}
  where
    again : (k : ℕ) → feeders_of k ms ≡ feeders_of k (made_all n ms)
    again zero = refl
    again (suc k) = λ i. again k i ++ record { feeder = k; routes = []; documents = 0; ways = sym (ways_again k n ms) i; left = [] } ∷ []

pub sender_all : (f i : ℕ) (ms : List Mail) → i ≡ length ms → record { feeder = f; routes = []; documents = 0; ways = first_ways f i ms; left = [] } ≡ sender_to f ms
sender_all f i ms e = ap (λ (l : List Way). made l) (ap (λ (k : ℕ). first_ways f k ms) e ∙ ways_all f ms)
  where
    made : List Way → Sending
    made l = record { feeder = f; routes = []; documents = 0; ways = l; left = [] }

pub boxes_all : (n i : ℕ) (ms : List Mail) → i ≡ length ms → bumped n i ms ≡ made_all n ms
boxes_all n i ms e = ap (λ (k : ℕ). bumped n k ms) e ∙ bumped_all n ms
