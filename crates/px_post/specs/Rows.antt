-- Worked letters: two documents and two mailboxes, where an id goes to the mailbox of its rest by 2, and an id without a route.
use Rattle.std.specs.Prelude.{◌≡◌, ℕ, zero, suc, List, [], ◌∷◌, Option, Some, None, refl}
use Rattle.px_post.specs.Letters.{Document, letter, Letters}

abbrev by_two : ℕ → Option ℕ
by_two (suc zero) = Some 1
by_two (suc (suc zero)) = Some 0
by_two _ = None

documents : List Document
documents = record { ids = 1 ∷ 2 ∷ 3 ∷ []; route = by_two } ∷ record { ids = 2 ∷ []; route = by_two } ∷ []

box_0 : Letters 0 0 documents ≡ letter 0 1 1 2 ∷ letter 0 2 2 2 ∷ []
unfolding documents
box_0 = refl

box_1 : Letters 0 1 documents ≡ letter 0 1 1 1 ∷ []
unfolding documents
box_1 = refl
