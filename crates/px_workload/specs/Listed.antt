-- What contracts see of a list of live filters.
use Rattle.std.specs.Prelude.{ℕ, List, map, refl}
use Rattle.std.specs.Coded.{Coded, code_by, coded×, coded_ℕ, coded_list}
use Rattle.px_text.specs.Sets.{Rising}
use Rattle.px_xpath.specs.declared.numbered.Numbered.{Numbered}
use Rattle.px_xpath.specs.contracts.numbered.Numbered.{the_row}
use Rattle.px_xpath.specs.Subscribed.{subscriptions}

-- the filters, and how many more fit in the memory that was taken
pub record Listed : Type 0 where
  pub filters : List Numbered
  pub room : ℕ

-- it is stored as the pair of its fields
abbrev pub listed_code : Coded Listed
listed_code =
    code_by (List Numbered × ℕ) (coded× (coded_list the_row.coded) coded_ℕ) (λ l. (l.filters, l.room)) (λ p. record { filters = p.0; room = p.1 }) (λ _. refl)

-- their ids rise
abbrev pub AreInOrder : List Numbered → Type 0
AreInOrder filters = Rising (map (λ s. s.id) (subscriptions filters))
