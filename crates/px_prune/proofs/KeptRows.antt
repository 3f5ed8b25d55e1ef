-- Rows of numbers, one behind the other, and the list of them.
use Rattle.std.proofs.Common.{◌≡◌, ℕ, zero, suc, ◌+◌, ◌-◌, ◌<◌, ◌≤◌, List, [], ◌∷◌, ◌++◌, length, take, drop, get_or, map, refl, sym, ◌∙◌, ap, arith, Some, Bool, true, false, eqb, length-append}
use Rattle.std.specs.Prelude.{slice_get}
use Rattle.std.proofs.lemmas.Bool.{eqb-true, eqb-false}
use Rattle.std.proofs.lemmas.List.{take_all}
use Rattle.px_prune.specs.declared.needs.Row.{Row}
use Rattle.px_prune.specs.Rows.{row_in, AreWithin}
use Rattle.px_prune.specs.Needing.{rows_below}

within_more : (rows : List Row) (a b : ℕ) → a ≤ b → AreWithin a rows → AreWithin b rows
within_more [] a b le w = tt
within_more (row ∷ rows) a b le w = let end : row.end ≤ a = w.1 in (w.0, omega arith, within_more rows a b le w.2)

within_end : (rows : List Row) (size start end : ℕ) → AreWithin size rows → start ≤ end → end ≤ size → AreWithin size (rows ++ record { start = start; end = end } ∷ [])
within_end [] size start end w low high = (low, high, tt)
within_end (row ∷ rows) size start end w low high = (w.0, w.1, within_end rows size start end w.2 low high)

-- a part of a list is a part of what it begins
part_kept : (items more : List ℕ) (start count : ℕ) → start + count ≤ length items → take count (drop start (items ++ more)) ≡ take count (drop start items)
part_kept [] more zero zero h = refl
part_kept [] more zero (suc count) h = absurd (omega arith)
part_kept [] more (suc start) count h = absurd (omega arith)
part_kept (x ∷ items) more zero zero h = refl
part_kept (x ∷ items) more zero (suc count) h = ap (λ z. x ∷ z) (part_kept items more zero count (omega arith))
part_kept (x ∷ items) more (suc start) count h = part_kept items more start count (omega arith)

rows_kept : (items more : List ℕ) (rows : List Row) → AreWithin (length items) rows → map (row_in (items ++ more)) rows ≡ map (row_in items) rows
rows_kept items more [] w = refl
rows_kept items more (row ∷ rows) w =
    let low : row.start ≤ row.end = w.0 in
    let high : row.end ≤ length items = w.1 in
    ap (λ z. z ∷ map (row_in (items ++ more)) rows) (part_kept items more row.start (row.end - row.start) (omega arith))
    ∙ ap (λ z. row_in items row ∷ z) (rows_kept items more rows w.2)

rest_is : (items row : List ℕ) → drop (length items) (items ++ row) ≡ row
rest_is [] row = refl
rest_is (x ∷ items) row = rest_is items row

new_row : (items row : List ℕ) (start end : ℕ) → start ≡ length items → end ≡ length (items ++ row) → row_in (items ++ row) (record { start = start; end = end }) ≡ row
new_row items row start end es ee =
    ap (λ z. take (end - start) (drop z (items ++ row))) es
    ∙ (ap (take (end - start)) (rest_is items row) ∙ take_all (end - start) row (omega (arith, length-append items row)))

map_end : (f : Row → List ℕ) (rows : List Row) (row : Row) → map f (rows ++ row ∷ []) ≡ map f rows ++ f row ∷ []
map_end f [] row = refl
map_end f (r ∷ rows) row = ap (λ z. f r ∷ z) (map_end f rows row)

-- the items grew, and the rows did not
pub grown-within : (items row now : List ℕ) (rows after : List Row) → AreWithin (length items) rows → now ≡ items ++ row → after ≡ rows → AreWithin (length now) after
grown-within items row now rows after w e f = rw (e, f) (within_more rows (length items) (length (items ++ row)) (omega (arith, length-append items row)) w)

-- a row was added
pub added-within : (items row now : List ℕ) (rows after : List Row) (start end : ℕ) → AreWithin (length items) rows → now ≡ items ++ row → start ≡ length items → end ≡ length now →
    after ≡ rows ++ record { start = start; end = end } ∷ [] → AreWithin (length now) after
added-within items row now rows after start end w e es ee f =
    let grows : length items ≤ length now = more in
    rw f
    (within_end rows (length now) start end (within_more rows (length items) (length now) more w) (omega arith) (omega arith))
  where
    more : length items ≤ length now
    more = rw e (omega (arith, length-append items row))

pub added-view : (items row now : List ℕ) (rows after : List Row) (start end : ℕ) (old : List (List ℕ)) → AreWithin (length items) rows → now ≡ items ++ row → start ≡ length items → end ≡ length now →
    after ≡ rows ++ record { start = start; end = end } ∷ [] → map (row_in items) rows ≡ old → map (row_in now) after ≡ old ++ row ∷ []
added-view items row now rows after start end old w e es ee f is =
    rw (f, e)
    (map_end (row_in (items ++ row)) rows (record { start = start; end = end })
    ∙ (ap (λ z. z ++ row_in (items ++ row) (record { start = start; end = end }) ∷ []) (rows_kept items row rows w ∙ is)
    ∙ ap (λ z. old ++ z ∷ []) (new_row items row start end es (ee ∙ ap length e))))

-- the row at a number
length_map : (f : Row → List ℕ) (rows : List Row) → length (map f rows) ≡ length rows
length_map f [] = refl
length_map f (row ∷ rows) = ap suc (length_map f rows)

pub row_there : (f : Row → List ℕ) (rows : List Row) (seen : List (List ℕ)) (n : ℕ) → map f rows ≡ seen → n < length seen → n < length rows
row_there f rows seen n e h = let l : length (map f rows) ≡ length seen = ap length e in omega (arith, length_map f rows)

pub row-within : (size : ℕ) (rows : List Row) (n : ℕ) (row : Row) → AreWithin size rows → n < length rows → row ≡ get_or rows n row → (row.start ≤ row.end) × (row.end ≤ size)
row-within size [] n row w h e = absurd (omega arith)
row-within size (r ∷ rows) zero row w h e = rw e (w.0, w.1)
row-within size (r ∷ rows) (suc n) row w h e = row-within size rows n row w.2 (omega arith) e

row_at : (f : Row → List ℕ) (rows : List Row) (n : ℕ) (row : Row) → n < length rows → row ≡ get_or rows n row → slice_get (map f rows) n ≡ Some (f row)
row_at f [] n row h e = absurd (omega arith)
row_at f (r ∷ rows) zero row h e = ap (λ z. Some (f z)) (sym e)
row_at f (r ∷ rows) (suc n) row h e = row_at f rows n row (omega arith) e

pub seen_at : (f : Row → List ℕ) (rows : List Row) (seen : List (List ℕ)) (n : ℕ) (row : Row) (part : List ℕ) → map f rows ≡ seen → n < length rows → row ≡ get_or rows n row → part ≡ f row → slice_get seen n ≡ Some part
seen_at f rows seen n row part is h e p = ap (λ z. slice_get z n) (sym is) ∙ (row_at f rows n row h e ∙ ap Some (sym p))

-- the rows of the numbers below a size
pub length-rows_below : (size : ℕ) (row : ℕ → List ℕ) → length (rows_below size row) ≡ size
length-rows_below zero row = refl
length-rows_below (suc size) row = let l = length-rows_below size row in omega (arith, length-append (rows_below size row) (row size ∷ []))

get_before : (xs : List (List ℕ)) (x : List ℕ) (n : ℕ) → n < length xs → slice_get (xs ++ x ∷ []) n ≡ slice_get xs n
get_before [] x n h = absurd (omega arith)
get_before (y ∷ xs) x zero h = refl
get_before (y ∷ xs) x (suc n) h = get_before xs x n (omega arith)

get_last : (xs : List (List ℕ)) (x : List ℕ) (n : ℕ) → n ≡ length xs → slice_get (xs ++ x ∷ []) n ≡ Some x
get_last [] x zero e = refl
get_last [] x (suc n) e = absurd (omega arith)
get_last (y ∷ xs) x zero e = absurd (omega arith)
get_last (y ∷ xs) x (suc n) e = get_last xs x n (omega arith)

pub rows_below-at : (size : ℕ) (row : ℕ → List ℕ) (n : ℕ) → n < size → slice_get (rows_below size row) n ≡ Some (row n)
rows_below-at zero row n h = absurd (omega arith)
rows_below-at (suc size) row n h = go (eqb n size) refl (rows_below-at size row n)
  where
    go : (b : Bool) → eqb n size ≡ b → (n < size → slice_get (rows_below size row) n ≡ Some (row n)) → slice_get (rows_below size row ++ row size ∷ []) n ≡ Some (row n)
    go true e ih =
        let here : n ≡ size = eqb-true n size e in
        get_last (rows_below size row) (row size) n (here ∙ sym (length-rows_below size row)) ∙ ap (λ z. Some (row z)) (sym here)
    go false e ih =
        let differ = eqb-false n size e in
        get_before (rows_below size row) (row size) n (omega (arith, length-rows_below size row)) ∙ ih (omega arith)
