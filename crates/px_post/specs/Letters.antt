-- The letters of a feeder to a mailbox.
use Rattle.std.specs.Prelude.{ℕ, ◌+◌, Bool, false, List, [], ◌∷◌, ◌++◌, length, nat_eq, if◌then◌else◌, Option, Some, None}
use Rattle.px_post.specs.declared.letter.Letter.{Letter}

-- what a feeder did at a document: the ids of the reply, rising, and to which mailbox each id went at that call
pub record Document : Type 0 where
  pub ids : List ℕ
  pub route : ℕ → Option ℕ

abbrev pub letter : (feeder seq document id : ℕ) → Letter
letter feeder seq document id = record { feeder = feeder; seq = seq; document = document; id = id }

abbrev pub is_there : Option ℕ → ℕ → Bool
is_there None b = false
is_there (Some c) b = nat_eq c b

-- one letter for each id that goes to b, with the next seq behind so many letters
abbrev pub letters_of : (f b number before : ℕ) → (ℕ → Option ℕ) → List ℕ → List Letter
letters_of f b number before route [] = []
letters_of f b number before route (id ∷ ids) =
    if is_there (route id) b then letter f (before + 1) number id ∷ letters_of f b number (before + 1) route ids else letters_of f b number before route ids

-- those of documents from this number on
abbrev pub letters_from : (f b number before : ℕ) → List Document → List Letter
letters_from f b number before [] = []
letters_from f b number before (d ∷ ds) =
    letters_of f b number before d.route d.ids ++ letters_from f b (number + 1) (before + length (letters_of f b number before d.route d.ids)) ds

-- The letters of feeder f to mailbox b: for each of its documents in order, for each id of the reply that goes to b, one letter with the document's number and the next seq, both from 1.
abbrev pub Letters : (f b : ℕ) → List Document → List Letter
Letters f b ds = letters_from f b 1 0 ds
