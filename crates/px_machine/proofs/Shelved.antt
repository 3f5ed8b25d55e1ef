-- Lists stay under their numbers while others are added behind them.
use Rattle.std.proofs.Common.{◌≡◌, ℕ, zero, suc, ◌+◌, ◌-◌, ◌<◌, ◌≤◌, ◌⊎◌, inl, inr, Bool, ◌||◌, List, [], ◌∷◌, ◌++◌, length, map, take, drop, get_or, refl, sym, ◌∙◌, ap, subst, arith, length-append, length-drop}
use Rattle.std.proofs.Math.Seq.{take-length, drop-append_seam}
use Rattle.std.proofs.lemmas.List.{drop-append-le, take-append-le, map-append, length-map}
use Rattle.std.proofs.lemmas.List.Folds.{list_any-append}
use Rattle.std.specs.Prelude.{nat_eq}
use Rattle.px_text.specs.Sets.{has, Rising}
use Rattle.px_afa.specs.Lists.{row}
use Rattle.px_afa.specs.Sound.{AreRising}
use Rattle.px_prune.proofs.NeededParts.{any_more}
use Rattle.px_runner.specs.Operands.{AreBelow}
use Rattle.px_machine.specs.declared.lists.Span.{Span}
use Rattle.px_machine.specs.Shelves.{Grows, IsSameOrMore, cut, span_of, AreWithin, AreRisen}
use Rattle.px_machine.specs.Unpruned.{has_in}

abbrev Lists : Type 0
Lists = List (List ℕ)

pub row-kept : (lists : Lists) (list : List ℕ) (n : ℕ) → n < length lists → row (lists ++ list ∷ []) n ≡ row lists n
row-kept [] list n h = absurd (omega arith)
row-kept (x ∷ lists) list zero h = refl
row-kept (x ∷ lists) list (suc n) h = row-kept lists list n (omega arith)

pub grows-by : (lists : Lists) (list : List ℕ) → Grows lists (lists ++ list ∷ [])
grows-by lists list = record { longer = let l = length-append lists (list ∷ []) in omega arith; stays = row-kept lists list }

pub grows-same : (lists : Lists) → Grows lists lists
grows-same lists = record { longer = omega arith; stays = λ n h. refl }

pub grows-grows : (a b c : Lists) → Grows a b → Grows b c → Grows a c
grows-grows a b c f g =
    let one = f.longer in
    let two = g.longer in
    record { longer = omega arith; stays = λ n h. g.stays n (more n h one) ∙ f.stays n h }
  where
    more : (n : ℕ) → n < length a → length a ≤ length b → n < length b
    more n h l = omega arith

-- the same lists, or one more
pub grows-kept : (old new : Lists) (list : List ℕ) → IsSameOrMore old list new → Grows old new
grows-kept old new list h = elim h as (λ _. Grows old new) [
  | inl e ↦ subst (λ l. Grows old l) (sym e) (grows-same old)
  | inr e ↦ subst (λ l. Grows old l) (sym e) (grows-by old list)
]

-- spans stay within when items are added
within-more : (a b : ℕ) (spans : List Span) → a ≤ b → AreWithin a spans → AreWithin b spans
within-more a b [] h w = tt
within-more a b (s ∷ spans) h w = let one = w.1 in (w.0, omega arith, within-more a b spans h w.2)

within-append : (n : ℕ) (spans : List Span) (s : Span) → AreWithin n spans → s.start ≤ s.end → s.end ≤ n → AreWithin n (spans ++ s ∷ [])
within-append n [] s w a b = (a, b, tt)
within-append n (x ∷ spans) s w a b = (w.0, w.1, within-append n spans s w.2 a b)

pub within-at : (n : ℕ) (spans : List Span) (i : ℕ) (s : Span) → AreWithin n spans → i < length spans → s ≡ get_or spans i s → (s.start ≤ s.end) × (s.end ≤ n)
within-at n [] i s w h e = absurd (omega arith)
within-at n (x ∷ spans) zero s w h e = subst (λ (y : Span). (y.start ≤ y.end) × (y.end ≤ n)) (sym e) (w.0, w.1)
within-at n (x ∷ spans) (suc i) s w h e = within-at n spans i s w.2 (omega arith) e

-- a list more among the items
pub within-added : (items list : List ℕ) (spans : List Span) (hash : ℕ) → AreWithin (length items) spans → AreWithin (length (items ++ list)) (spans ++ span_of items list hash ∷ [])
within-added items list spans hash w =
    let l = length-append items list in
    within-append (length (items ++ list)) spans (span_of items list hash) (within-more (length items) (length (items ++ list)) spans (omega arith) w) (omega arith) (omega arith)

cut-more : (items more : List ℕ) (s : Span) → s.start ≤ s.end → s.end ≤ length items → cut (items ++ more) s ≡ cut items s
cut-more items more s a b =
    let l = length-drop s.start items in
    ap (take (s.end - s.start)) (drop-append-le s.start items more (omega arith)) ∙ take-append-le (s.end - s.start) (drop s.start items) more (omega arith)

cuts-more : (items more : List ℕ) (spans : List Span) → AreWithin (length items) spans → map (cut (items ++ more)) spans ≡ map (cut items) spans
cuts-more items more [] w = refl
cuts-more items more (s ∷ spans) w =
    ap (λ c. c ∷ map (cut (items ++ more)) spans) (cut-more items more s w.0 w.1) ∙ ap (λ l. cut items s ∷ l) (cuts-more items more spans w.2)

cut-last : (items list : List ℕ) (hash : ℕ) → cut (items ++ list) (span_of items list hash) ≡ list
cut-last items list hash =
    ap (take (length items + length list - length items)) (drop-append_seam items list)
    ∙ (ap (λ n. take n list) (let e : length items + length list - length items ≡ length list = omega arith in e) ∙ take-length list)

-- the lists that stand under numbers, and this one behind them
pub shelf-more : (items list : List ℕ) (spans : List Span) (hash : ℕ) → AreWithin (length items) spans →
    ([] ∷ map (cut (items ++ list)) (spans ++ span_of items list hash ∷ [])) ≡ ([] ∷ map (cut items) spans) ++ list ∷ []
shelf-more items list spans hash w =
    ap (λ l. [] ∷ l)
    (map-append (cut (items ++ list)) spans (span_of items list hash ∷ [])
    ∙ (ap (λ l. l ++ cut (items ++ list) (span_of items list hash) ∷ []) (cuts-more items list spans w)
    ∙ ap (λ c. map (cut items) spans ++ c ∷ []) (cut-last items list hash)))

row-cut : (items : List ℕ) (spans : List Span) (i : ℕ) (s : Span) → i < length spans → s ≡ get_or spans i s → row (map (cut items) spans) i ≡ cut items s
row-cut items [] i s h e = absurd (omega arith)
row-cut items (x ∷ spans) zero s h e = ap (cut items) (sym e)
row-cut items (x ∷ spans) (suc i) s h e = row-cut items spans i s (omega arith) e

-- the list under a number is the one that its span cuts out
pub row-under : (items : List ℕ) (spans : List Span) (n i : ℕ) (s : Span) → n ≡ suc i → i < length spans → s ≡ get_or spans i s → row ([] ∷ map (cut items) spans) n ≡ cut items s
row-under items spans n i s e h at = subst (λ m. row ([] ∷ map (cut items) spans) m ≡ cut items s) (sym e) (row-cut items spans i s h at)

-- a number that is not 0 has a span
pub under-span : (items : List ℕ) (spans : List Span) (lists : Lists) (n : ℕ) → ([] ∷ map (cut items) spans) ≡ lists → n < length lists → (n ≡ 0 → ⊥) → n - 1 < length spans
under-span items spans lists n is less never =
    let l = length-map spans (cut items) in
    let e : length ([] ∷ map (cut items) spans) ≡ length lists = ap length is in
    omega arith

pub within-shelf : (items : List ℕ) (spans : List Span) (lists : Lists) (n count : ℕ) → ([] ∷ map (cut items) spans) ≡ lists → count ≡ length spans → n ≤ count → n < length lists
within-shelf items spans lists n count is e less =
    let l = length-map spans (cut items) in
    let long : length ([] ∷ map (cut items) spans) ≡ length lists = ap length is in
    omega arith

pub empty-list : (list : List ℕ) → length list ≡ 0 → list ≡ []
empty-list [] e = refl
empty-list (x ∷ list) e = absurd (omega arith)

-- the members of a list that was copied and put in order
pub same-listed : (slice sorted copied cleared numbers : List ℕ) → slice ≡ sorted → ((n : ℕ) → has sorted n ≡ has copied n) → copied ≡ cleared ++ numbers → cleared ≡ [] → (n : ℕ) → has slice n ≡ has numbers n
same-listed slice sorted copied cleared numbers a same b e n = ap (λ l. has l n) a ∙ (same n ∙ ap (λ l. has l n) (b ∙ ap (λ l. l ++ numbers) e))

-- what stands where the span of a number says
pub list-under : (items part : List ℕ) (spans : List Span) (lists : Lists) (n : ℕ) (s : Span) → ([] ∷ map (cut items) spans) ≡ lists → n < length lists → (n ≡ 0 → ⊥) → s ≡ get_or spans (n - 1) s →
    part ≡ cut items s → part ≡ row lists n
list-under items part spans lists n s is less never at cuts =
    cuts ∙ (sym (row-under items spans n (n - 1) s (omega arith) (under-span items spans lists n is less never) at) ∙ ap (λ l. row l n) is)

-- the same of a list that was added
pub within-appended : (items list new : List ℕ) (spans more : List Span) (hash : ℕ) → new ≡ items ++ list → more ≡ spans ++ span_of items list hash ∷ [] → AreWithin (length items) spans → AreWithin (length new) more
within-appended items list new spans more hash a b w =
    subst (λ xs. AreWithin (length xs) more) (sym a) (subst (λ ss. AreWithin (length (items ++ list)) ss) (sym b) (within-added items list spans hash w))

pub shelf-appended : (items list new : List ℕ) (spans more : List Span) (lists : Lists) (hash : ℕ) → new ≡ items ++ list → more ≡ spans ++ span_of items list hash ∷ [] → AreWithin (length items) spans →
    ([] ∷ map (cut items) spans) ≡ lists → ([] ∷ map (cut new) more) ≡ lists ++ list ∷ []
shelf-appended items list new spans more lists hash a b w is =
    ap (λ xs. [] ∷ map (cut xs) more) a ∙ (ap (λ ss. [] ∷ map (cut (items ++ list)) ss) b ∙ (shelf-more items list spans hash w ∙ ap (λ l. l ++ list ∷ []) is))

-- lists that rise
risen-append : (lists : Lists) (list : List ℕ) → AreRisen lists → Rising list → AreRisen (lists ++ list ∷ [])
risen-append [] list h r = (r, tt)
risen-append (x ∷ lists) list h r = (h.0, risen-append lists list h.1 r)

pub risen-kept : (old new : Lists) (list : List ℕ) → IsSameOrMore old list new → AreRisen old → Rising list → AreRisen new
risen-kept old new list h risen r = elim h as (λ _. AreRisen new) [
  | inl e ↦ subst (λ l. AreRisen l) (sym e) risen
  | inr e ↦ subst (λ l. AreRisen l) (sym e) (risen-append old list risen r)
]

pub risen-at : (lists : Lists) (n : ℕ) → AreRisen lists → Rising (row lists n)
risen-at [] n h = tt
risen-at (x ∷ lists) zero h = h.0
risen-at (x ∷ lists) (suc n) h = risen-at lists n h.1

pub rising-below : (xs : List ℕ) → Rising xs → AreBelow 1048576 xs
rising-below [] h = tt
rising-below (x ∷ xs) h = (h.0, rising-below xs h.2)

pub rising-from : (xs : List ℕ) → AreRising xs → AreBelow 1048576 xs → Rising xs
rising-from [] h b = tt
rising-from (x ∷ xs) h b = (b.0, h.0, rising-from xs h.1 b.1)

-- the members so far and those of one set more
pub members-more : (sets : Lists) (numbers all new : List ℕ) (i n k : ℕ) → i < length numbers → n ≡ get_or numbers i 0 → has all k ≡ has_in sets (take i numbers) k → new ≡ all ++ row sets n →
    has new k ≡ has_in sets (take (i + 1) numbers) k
members-more sets numbers all new i n k less at so_far is =
    ap (λ s. has s k) is
    ∙ (list_any-append (λ m. nat_eq m k) all (row sets n)
    ∙ (ap (λ c. c || has (row sets n) k) so_far
    ∙ (ap (λ m. has_in sets (take i numbers) k || has (row sets m) k) at
    ∙ sym (any_more (λ m. has (row sets m) k) numbers i less))))
