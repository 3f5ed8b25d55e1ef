-- What contracts see of a journal.
use Rattle.std.specs.Prelude.{ℕ, List, refl}
use Rattle.std.specs.Coded.{Coded, code_by, coded×, coded_ℕ, coded_list}
use Rattle.px_workload.specs.declared.change.Change.{Change}
use Rattle.px_workload.specs.contracts.change.Change.{the_row}

-- the changes that were accepted, in order, and how many more fit in the memory that was taken
pub record Accepted : Type 0 where
  pub changes : List Change
  pub room : ℕ

-- it is stored as the pair of its fields
abbrev pub accepted_code : Coded Accepted
accepted_code =
    code_by (List Change × ℕ) (coded× (coded_list the_row.coded) coded_ℕ) (λ a. (a.changes, a.room)) (λ p. record { changes = p.0; room = p.1 }) (λ _. refl)
