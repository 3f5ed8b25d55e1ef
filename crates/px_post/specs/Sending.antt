-- Letters that a feeder sends to its mailboxes, along its routes.
use Rattle.std.specs.Prelude.{◌≡◌, ℕ, ◌+◌, ◌<◌, ◌^◌, Bool, true, false, List, [], ◌∷◌, ◌++◌, length, All, nat_eq, if◌then◌else◌, slice_get, slice_set, Option, Some, None}
use Rattle.std.specs.Ordering.{nat_cmp}
use Rattle.std.specs.Map.{lookup}
use Rattle.std.specs.BTreeMap.{is_at}
use Rattle.px_post.specs.declared.letter.Letter.{Letter}
use Rattle.px_post.specs.declared.waiting.Waiting.{Waiting}
use Rattle.px_post.specs.declared.waiting.Resumed.{Resumed}
use Rattle.px_post.specs.declared.waiting.Resumed.TheVariants.{Done, Full}
use Rattle.px_post.specs.Letters.{Document, Letters, letter}
use Rattle.px_post.specs.Mail.{Way, WasFull}

-- a way on which one letter more was put, the next of its feeder
abbrev pub with_next : Way → (document id : ℕ) → Way
with_next w document id = record {
  feeder = w.feeder;
  mailbox = w.mailbox;
  table = w.table;
  capacity = w.capacity;
  put = w.put ++ letter w.feeder (length w.put + 1) document id ∷ [];
}

-- whose way it is, and to which mailbox, whatever was put there
abbrev pub bare : Way → Way
bare w = record { feeder = w.feeder; mailbox = w.mailbox; table = w.table; capacity = w.capacity; put = [] }

abbrev pub bare_all : List Way → List Way
bare_all [] = []
bare_all (w ∷ ws) = bare w ∷ bare_all ws

-- the mailbox that stands under an id
abbrev pub routed : List (ℕ × ℕ) → ℕ → Option ℕ
routed entries id = lookup (is_at (nat_cmp id)) entries

abbrev pub with_route : Option ℕ → ℕ → List Waiting → List Waiting
with_route None id rest = rest
with_route (Some b) id rest = record { mailbox = b; id = id } ∷ rest

-- the letters that are to go, in order: one for each id that has a route
abbrev pub to_go : (ℕ → Option ℕ) → List ℕ → List Waiting
to_go route [] = []
to_go route (id ∷ ids) = with_route (route id) id (to_go route ids)

-- of the letters that are left of a document those for b, numbered on behind so many
abbrev pub left_for : (f b number before : ℕ) → List Waiting → List Letter
left_for f b number before [] = []
left_for f b number before (x ∷ xs) =
    if nat_eq x.mailbox b then letter f (before + 1) number x.id ∷ left_for f b number (before + 1) xs else left_for f b number before xs

-- what contracts see of a sender: its feeder, the mailboxes of ids, how many documents it posted, its ways to the mailboxes in order, and the letters that are left
pub record Sending : Type 0 where
  pub feeder : ℕ
  pub routes : List (ℕ × ℕ)
  pub documents : ℕ
  pub ways : List Way
  pub left : List Waiting

-- where letters of an id go
abbrev pub route_of : Sending → ℕ → Option ℕ
route_of s id = routed s.routes id

-- the letters that were put on the way to b, and then those that are left for b
abbrev pub due : (f b number : ℕ) → Way → List Waiting → List Letter
due f b number w left = w.put ++ left_for f b number (length w.put) left

-- These are the documents that the sender posted: what it put to each mailbox, and then what is left for it, are their letters.
pub record HasPosted (s : Sending) (ds : List Document) : Type 0 where
  pub documents : s.documents ≡ length ds
  pub letters : (b : ℕ) (w : Way) → slice_get s.ways b ≡ Some w → due s.feeder b s.documents w s.left ≡ Letters s.feeder b ds

-- Nothing is left, and there is room for the numbers of one document more. A sender may then post.
pub record MayPost (s : Sending) : Type 0 where
  pub none : s.left ≡ []
  pub documents : s.documents < 2 ^ 62
  pub letters : (b : ℕ) (w : Way) → slice_get s.ways b ≡ Some w → length w.put < 2 ^ 62

-- the first letter that is left is for this mailbox, which was full at one moment
pub record IsStopped (ways : List Way) (left : List Waiting) (mailbox : ℕ) : Type 0 where
  pub id : ℕ
  pub rest : List Waiting
  pub first : left ≡ record { mailbox = mailbox; id = id } ∷ rest
  pub way : Way
  pub there : slice_get ways mailbox ≡ Some way
  pub full : WasFull way.capacity way.feeder way.put

-- where all letters went nothing is left; else the mailbox of the first that is left was full
abbrev pub Ends : Sending → Resumed → Type 0
Ends s Done = s.left ≡ []
Ends s (Full mailbox left) = (length s.left ≡ left) × (0 < left) × IsStopped s.ways s.left mailbox

-- the sender has the same routes and the same ways, whatever was put there
abbrev pub Keeps : Sending → Sending → Type 0
Keeps s t = (t.feeder ≡ s.feeder) × (t.routes ≡ s.routes) × (bare_all t.ways ≡ bare_all s.ways)

-- Each way is that of the feeder to the mailbox of its place, with room for what is left. What is left goes to mailboxes that exist.
pub record AreReady (f : ℕ) (ways : List Way) (left : List Waiting) : Type 0 where
  pub each : (b : ℕ) (w : Way) → slice_get ways b ≡ Some w → (w.feeder ≡ f) × (w.mailbox ≡ b) × (length w.put + length left < 2 ^ 64)
  pub within : All (λ (x : Waiting). x.mailbox < length ways) left

-- the routes lead to mailboxes that exist
abbrev pub Lead : List (ℕ × ℕ) → ℕ → Type 0
Lead entries boxes = (id b : ℕ) → routed entries id ≡ Some b → b < boxes

-- Letters went from those that are left to the ways, and what is due to each mailbox stays.
pub record Moves (f number : ℕ) (ways : List Way) (left : List Waiting) (ways' : List Way) (left' : List Waiting) : Type 0 where
  pub same : bare_all ways' ≡ bare_all ways
  pub ready : AreReady f ways left → AreReady f ways' left'
  pub due : (b : ℕ) (w' : Way) → slice_get ways' b ≡ Some w' → (w : Way) × (slice_get ways b ≡ Some w) × (due f b number w' left' ≡ due f b number w left)

-- what became of the letters that were left: none is left, or the first of them found its mailbox full
abbrev pub Went : List Way → List Waiting → Option ℕ → Type 0
Went ways left None = left ≡ []
Went ways left (Some mailbox) = IsStopped ways left mailbox

-- One letter was put at the way to this mailbox, or the mailbox was full.
abbrev pub PutAt : Bool → (ways ways' : List Way) → (number : ℕ) → Waiting → Way → Type 0
PutAt true ways ways' number x w = ways' ≡ slice_set ways x.mailbox (with_next w number x.id)
PutAt false ways ways' number x w = (ways' ≡ ways) × WasFull w.capacity w.feeder w.put

-- the first of the letters that were left went, or its mailbox was full
abbrev pub PutFirst : (ways : List Way) → (left left' : List Waiting) → Option ℕ → Type 0
PutFirst ways left left' None = length left ≡ length left' + 1
PutFirst ways left left' (Some mailbox) = IsStopped ways left' mailbox

-- what a sender keeps: its ways are those of its feeder, and its routes lead to them
pub record IsSender (f : ℕ) (entries : List (ℕ × ℕ)) (ways : List Way) (left : List Waiting) : Type 0 where
  pub ready : AreReady f ways left
  pub lead : Lead entries (length ways)

-- a sender that has posted nothing, with no way
abbrev pub fresh : ℕ → Sending
fresh f = record { feeder = f; routes = []; documents = 0; ways = []; left = [] }

-- the sender with one way more
abbrev pub with_way : Sending → Way → Sending
with_way s w = record { feeder = s.feeder; routes = s.routes; documents = s.documents; ways = s.ways ++ w ∷ []; left = s.left }

-- A feeder's way to the next mailbox, on which nothing was put, and a sender that has posted nothing
abbrev pub IsNextWay : Sending → Way → Type 0
IsNextWay s w = (w.feeder ≡ s.feeder) × (w.mailbox ≡ length s.ways) × (w.put ≡ []) × (s.left ≡ [])

-- all but the routes is as before
abbrev pub SameBesides : Sending → Sending → Type 0
SameBesides s t = (t.feeder ≡ s.feeder) × (t.documents ≡ s.documents) × (t.ways ≡ s.ways) × (t.left ≡ s.left)

-- the route of one id is another
abbrev pub Routes : (ℕ → Option ℕ) → (id mailbox : ℕ) → (ℕ → Option ℕ) → Type 0
Routes old id mailbox new = (i : ℕ) → new i ≡ (if nat_eq id i then Some mailbox else old i)

-- the ids of a document were posted
abbrev pub Posts : Sending → List ℕ → Sending → Type 0
Posts s ids t = (ds : List Document) → HasPosted s ds → HasPosted t (ds ++ record { ids = ids; route = route_of s } ∷ [])

-- the documents that were posted are as before, whatever went on
abbrev pub GoesOn : Sending → Sending → Type 0
GoesOn s t = (ds : List Document) → HasPosted s ds → HasPosted t ds

-- the slips of a sender, whose letters are all those of the documents that it posted
pub record AreSlips (s : Sending) (slips : List Way) : Type 0 where
  pub same : slips ≡ s.ways
  pub letters : (ds : List Document) → HasPosted s ds → (b : ℕ) (slip : Way) → slice_get slips b ≡ Some slip → slip.put ≡ Letters s.feeder b ds

abbrev pub became : Option ℕ → ℕ → Resumed
became None left = Done
became (Some mailbox) left = Full mailbox left
