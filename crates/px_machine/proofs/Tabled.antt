-- What a write leaves in a table.
use Rattle.std.proofs.Common.{◌≡◌, ℕ, ◌<◌, ◌⊎◌, inl, inr, true, List, length, get_or, Some, sym, ◌∙◌, ap}
use Rattle.std.proofs.lemmas.Option.{slice_get-get_or}
use Rattle.px_machine.specs.declared.table.Entry.{Entry}
use Rattle.px_machine.specs.Tables.{IsIn, told}

pub in-at : (entries : List Entry) (place : ℕ) (d : Entry) → place < length entries → IsIn entries (get_or entries place d)
in-at entries place d less = (place, slice_get-get_or entries place d less)

-- the entries that one write more carries over
pub carried : (entries old new : List Entry) (entry : Entry) → IsIn entries entry → ((other : Entry) → other.is_told ≡ true → IsIn old other → IsIn entries other) →
    ((other : Entry) → IsIn new other → IsIn old other ⊎ (other ≡ entry)) → (other : Entry) → other.is_told ≡ true → IsIn new other → IsIn entries other
carried entries old new entry here so_far write other t h =
    elim (write other h) as (λ _. IsIn entries other) [ inl was ↦ so_far other t was | inr e ↦ moved e ]
  where
    moved : other ≡ entry → IsIn entries other
    moved e = (here.0, here.1 ∙ ap Some (sym e))

-- what a table may know that was told one answer more
pub told-more : (old between new : List Entry) (first second answer : ℕ) → ((a b n : ℕ) → IsIn between (told a b n) → IsIn old (told a b n)) →
    ((other : Entry) → IsIn new other → IsIn between other ⊎ (other ≡ told first second answer)) →
    (a b n : ℕ) → IsIn new (told a b n) → IsIn old (told a b n) ⊎ ((a ≡ first) × (b ≡ second) × (n ≡ answer))
told-more old between new first second answer wider write a b n h =
    elim (write (told a b n) h) as (λ _. IsIn old (told a b n) ⊎ ((a ≡ first) × (b ≡ second) × (n ≡ answer))) [
      | inl was ↦ inl (wider a b n was)
      | inr e ↦ inr (ap (λ (x : Entry). x.first) e, ap (λ (x : Entry). x.second) e, ap (λ (x : Entry). x.answer) e)
    ]
