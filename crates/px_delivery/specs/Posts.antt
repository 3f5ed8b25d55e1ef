-- Feeders and mailboxes that are new.
use Rattle.std.specs.Prelude.{◌≡◌, ℕ, zero, suc, List, [], ◌∷◌, ◌++◌, length, slice_get, Some}
use Rattle.px_post.specs.Mail.{Mail, Way}
use Rattle.px_post.specs.Sending.{Sending}

-- a mailbox to which so many exits were made
abbrev pub with_made : ℕ → Mail → Mail
with_made n m = record { number = m.number; table = m.table; capacity = m.capacity; made = n; got = m.got; ended = m.ended }

abbrev pub made_all : ℕ → List Mail → List Mail
made_all n [] = []
made_all n (m ∷ ms) = with_made n m ∷ made_all n ms

-- the way of a feeder to a mailbox, where nothing was put
abbrev pub way_to : ℕ → Mail → Way
way_to f m = record { feeder = f; mailbox = m.number; table = m.table; capacity = m.capacity; put = [] }

abbrev pub ways_to : ℕ → List Mail → List Way
ways_to f [] = []
ways_to f (m ∷ ms) = way_to f m ∷ ways_to f ms

-- a feeder that has delivered nothing, and leads to these mailboxes
abbrev pub sender_to : ℕ → List Mail → Sending
sender_to f ms = record { feeder = f; routes = []; documents = 0; ways = ways_to f ms; left = [] }

-- the feeders below a number
abbrev pub feeders_of : ℕ → List Mail → List Sending
feeders_of zero ms = []
feeders_of (suc n) ms = feeders_of n ms ++ sender_to n ms ∷ []

-- empty mailboxes, numbered from 0
pub record AreMailboxes (count capacity made : ℕ) (ms : List Mail) : Type 0 where
  pub many : length ms ≡ count
  pub each : (b : ℕ) (m : Mail) → slice_get ms b ≡ Some m → (m.number ≡ b) × (m.capacity ≡ capacity) × (m.made ≡ made) × (m.got ≡ []) × (m.ended ≡ [])

-- so many feeders lead to so many mailboxes, and nothing was delivered
pub record IsPost (count boxes capacity : ℕ) (fs : List Sending) (ms : List Mail) : Type 0 where
  pub mailboxes : AreMailboxes boxes capacity count ms
  pub feeders : fs ≡ feeders_of count ms

-- each mailbox has the number of its place, and the feeder is the next that gets an exit there
abbrev pub AreNext : ℕ → List Mail → Type 0
AreNext f ms = (b : ℕ) (m : Mail) → slice_get ms b ≡ Some m → (m.number ≡ b) × (m.made ≡ f)
