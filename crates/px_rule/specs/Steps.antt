-- What each step makes of the views, and what it tells.
use Rattle.std.specs.Prelude.{◌≡◌, ◌≢◌, ℕ, ◌+◌, ◌<◌, ◌≤◌, Bool, true, false, cond, eqb, leb, ◌⊎◌, List, [], ◌∷◌, ◌++◌, length, set, take, replicate, Option, Some, None, All}
use mathlib.Core.Option.{some}
use lib.ListN.{get_elem?}
use Rattle.px_text.specs.declared.op.Op.{Op}
use Rattle.px_rule.specs.declared.shape.Shape.{Shape}
use Rattle.px_rule.specs.declared.view.Kind.{Kind}
use Rattle.px_rule.specs.declared.view.Kind.TheVariants.{Desk, Pass, DeskNote, PassNote, Spent}
use Rattle.px_rule.specs.declared.view.Place.{Place}
use Rattle.px_rule.specs.declared.view.Place.TheVariants.{Outside, Inside, Stray}
use Rattle.px_rule.specs.declared.view.Past.{Past}
use Rattle.px_rule.specs.declared.view.Stand.{Stand}
use Rattle.px_rule.specs.declared.view.Stay.{Stay}
use Rattle.px_rule.specs.declared.view.Touch.{Touch}
use Rattle.px_rule.specs.declared.view.View.{View}
use Rattle.px_text.specs.Operands.{Operand}
use Rattle.px_rule.specs.Words.{packed, version_of, building_of, count_of, shows, nodes_of, steps_of, path_of, long_of}
use Rattle.px_rule.specs.RightBanks.{OneNumber, OneSet, RightBank}
use Rattle.px_rule.specs.Known.{found, Agrees, MayPut}
use Rattle.px_rule.specs.Histories.{Begins, named}
use Rattle.px_rule.specs.Banks.{stand}
use Rattle.px_rule.specs.Rule.{is_desk, is_pass}

abbrev pub note_kind : Kind → Kind
note_kind Desk = DeskNote
note_kind (Pass p) = PassNote p
note_kind _ = Spent

-- the pass that a view is of
abbrev pub number_of : Kind → ℕ
number_of (Pass p) = p
number_of (PassNote p) = p
number_of _ = 0

abbrev pub is_pass_note : Kind → Bool
is_pass_note (PassNote p) = true
is_pass_note _ = false

abbrev pub is_note : Kind → Bool
is_note DeskNote = true
is_note (PassNote p) = true
is_note _ = false

-- What a seat knows of the history
module _ {E : Type 0} where
  abbrev pub opening_desk : Past E
  opening_desk = record { kind = Desk; mine = []; permit = None; seen = []; olds = []; loads = 0; last = 0; made = 0; asker = 0; asker_loads = 0; asker_last = 0 }

  abbrev pub spent : Past E
  spent = record { kind = Spent; mine = []; permit = None; seen = []; olds = []; loads = 0; last = 0; made = 0; asker = 0; asker_loads = 0; asker_last = 0 }

  -- the version word was found to be n
  abbrev pub loaded : Past E → ℕ → Past E
  loaded v n = record v { loads = v.loads + 1; last = n }

  abbrev pub entries_of : Option E → List E
  entries_of None = []
  entries_of (Some e) = e ∷ []

  -- the entry of the permit is accepted
  abbrev pub accepted : Past E → Past E
  accepted v = record v { permit = None; seen = v.seen ++ entries_of v.permit }

  abbrev pub note_of : Option E → Past E → Past E
  note_of permit v = record { kind = note_kind v.kind; mine = []; permit = permit; seen = v.seen; olds = []; loads = v.loads; last = v.last; made = 0; asker = 0; asker_loads = 0; asker_last = 0 }

  -- the pass has asked for one entry more
  abbrev pub asking : Option E → Past E → Past E
  asking permit v = record v { mine = v.mine ++ entries_of permit }

  abbrev pub one_more : Past E → Past E
  one_more v = record v { made = v.made + 1 }

  abbrev pub new_pass : Past E → Past E
  new_pass v = record { kind = Pass v.made; mine = []; permit = None; seen = v.seen; olds = []; loads = 0; last = 0; made = 0; asker = 0; asker_loads = 0; asker_last = 0 }

  abbrev pub longer : List E → List E → List E
  longer xs ys = cond (leb (length xs) (length ys)) ys xs

  -- a pass takes a note in
  abbrev pub met : Past E → Past E → Past E
  met v w = record v { seen = longer v.seen w.seen; olds = v.seen ∷ w.seen ∷ v.olds }

  abbrev pub either_permit : Option E → Option E → Option E
  either_permit None o = o
  either_permit (Some e) o = Some e

  -- the desk takes a pass's note in
  abbrev pub heard : Past E → Past E → Past E
  heard v w = record v { permit = either_permit w.permit v.permit; olds = w.seen ∷ v.olds; asker = number_of w.kind; asker_loads = w.loads; asker_last = w.last }

module _ {E : Type 0} (who : E → ℕ) (legal : List E → Type 0) where
  -- The version word was found to be the length of a legal history, which all that the seat has seen begins
  pub record Told (v : Past E) (top : ℕ) : Type 0 where
    pub log : List E
    pub long : length log ≡ top
    pub is_legal : legal log
    pub seen : Begins v.seen log
    pub olds : All (λ o. Begins o log) v.olds
    pub last : v.last ≤ top
    pub asker_last : v.asker_last ≤ top
    pub of_pass : (p : ℕ) → v.kind ≡ Pass p → Begins (named who p log) v.mine
    pub of_desk : v.kind ≡ Desk → (v.seen ≡ log) × All (λ e. who e < v.made) log

-- What a seat knows of the banks
abbrev pub opening_stay : Shape → Stay
opening_stay z = record { walks = false; place = Outside; enters = 0; found = 0; stays = []; busy = []; keeps = true; stands = replicate z.banks (stand 0 0 0) }

-- a pass came to bank k, for version n, and found the word w
abbrev pub entered : ℕ → ℕ → ℕ → Stay → Stay
entered k n w v = record v { place = cond (shows n w) (Inside k n) (Stray k); enters = v.enters + 1; found = w; stays = cond (shows n w) ((k, n) ∷ v.stays) v.stays }

abbrev pub went : Stay → Stay
went v = record v { place = Outside }

-- a pass is in bank k, inside or stray
abbrev pub IsIn : ℕ → Place → Type 0
IsIn k Outside = ⊥
IsIn k (Inside j n) = j ≡ k
IsIn k (Stray j) = j ≡ k

-- what the word shows of a bank that was told to have stood at n
abbrev pub StillShows : ℕ → ℕ → Type 0
StillShows n w = (n ≤ version_of w) × (n ≡ version_of w → building_of w ≡ 0)

-- the desk claimed bank k, or found the word w with calls inside
abbrev pub claimed : ℕ → ℕ → ℕ → ℕ → ℕ → ℕ → Stay → Stay
claimed k old new pass loads w v = cond (eqb w (packed old 0 0))
    (record v { stands = set v.stands k (stand new 1 0) })
    (record v { busy = record { bank = k; new = new; word = w; pass = pass; loads = loads } ∷ v.busy })

-- the pairs at which banks stand
abbrev pub standing : ℕ → List Stand → List (ℕ × ℕ)
standing k [] = []
standing k (b ∷ bs) = cond (eqb b.building 0) ((k, b.version) ∷ standing (k + 1) bs) (standing (k + 1) bs)

abbrev pub stay_note : Stay → Stay
stay_note v = record { walks = false; place = Outside; enters = 0; found = 0; stays = cond v.keeps (standing 0 v.stands) []; busy = v.busy; keeps = false; stands = [] }

abbrev pub stay_pass : Stay → Stay
stay_pass v = record { walks = true; place = Outside; enters = 0; found = 0; stays = cond v.keeps (standing 0 v.stands) []; busy = []; keeps = false; stands = [] }

abbrev pub stay_spent : Stay
stay_spent = record { walks = false; place = Outside; enters = 0; found = 0; stays = []; busy = []; keeps = false; stands = [] }

abbrev pub stay_met : Stay → Stay → Stay
stay_met v w = record v { stays = w.stays ++ v.stays; busy = w.busy ++ v.busy }

-- What a seat knows of places
abbrev pub touch_none : Touch
touch_none = record { kept = []; touches = 0; gaps = []; wrote = [] }

-- a look at place p found w
abbrev pub looked : ℕ → ℕ → ℕ → ℕ → Touch → Touch
looked k n p w v = record {
  kept = cond (eqb w 0) v.kept (found k n p w ∷ v.kept);
  touches = v.touches + 1;
  gaps = cond (eqb w 0) (record { bank = k; version = n; place = p; touches = v.touches + 1 } ∷ v.gaps) v.gaps;
  wrote = v.wrote;
}

-- a write of w at place p found x
abbrev pub written : ℕ → ℕ → ℕ → ℕ → ℕ → Touch → Touch
written k n p w x v = record {
  kept = cond (eqb x 0) (found k n p w ∷ v.kept) (found k n p x ∷ v.kept);
  touches = v.touches + 1;
  gaps = v.gaps;
  wrote = cond (eqb x 0) (found k n p w ∷ v.wrote) v.wrote;
}

-- What a seat knows, and what each step tells it: v before, w after, and x or n the word that the step found
module _ {E : Type 0} where
  abbrev pub opening_view : Shape → View E
  opening_view z = record { past = opening_desk; stay = opening_stay z; touch = touch_none }

  abbrev pub whole_spent : View E
  whole_spent = record { past = spent; stay = stay_spent; touch = touch_none }

  -- Split: a note, with a permit or without
  abbrev pub whole_note : Option E → View E → View E
  whole_note permit v = record { past = note_of permit v.past; stay = stay_note v.stay; touch = touch_none }

  abbrev pub whole_asking : Option E → View E → View E
  whole_asking permit v = record v { past = asking permit v.past }

  -- Split: the next pass
  abbrev pub whole_more : View E → View E
  whole_more v = record v { past = one_more v.past }

  abbrev pub whole_pass : View E → View E
  whole_pass v = record { past = new_pass v.past; stay = stay_pass v.stay; touch = touch_none }

  -- Join: into a pass, and into the desk
  abbrev pub whole_met : View E → View E → View E
  whole_met v w = record { past = met v.past w.past; stay = stay_met v.stay w.stay; touch = v.touch }

  abbrev pub whole_heard : View E → View E → View E
  whole_heard v w = record { past = heard v.past w.past; stay = v.stay; touch = v.touch }

  abbrev pub joined : View E → View E → View E
  joined v w = cond (is_desk v.past.kind) (whole_heard v w) (whole_met v w)

  -- A note without a permit may go into a pass, and a pass's note into the desk, with a permit only while the desk holds none
  abbrev pub CanJoin : View E → View E → Type 0
  CanJoin v w = ((is_pass v.past.kind ≡ true) × (is_note w.past.kind ≡ true) × (w.past.permit ≡ None))
      ⊎ ((is_desk v.past.kind ≡ true) × (is_pass_note w.past.kind ≡ true) × ((w.past.permit ≡ None) ⊎ (v.past.permit ≡ None)))

  -- What a desk that takes in a note knows: its history goes on from the note's, and the version that the note found last is not above its length
  abbrev pub IsHeard : View E → View E → Type 0
  IsHeard v note = Begins note.past.seen v.past.seen × (note.past.last ≤ length v.past.seen)

  -- and what a pass knows: both histories begin what it has then seen
  abbrev pub IsMet : View E → View E → View E → Type 0
  IsMet v note w = Begins v.past.seen w.past.seen × Begins note.past.seen w.past.seen

  -- Accept: the entry of the desk's permit
  abbrev pub whole_accepted : View E → View E
  whole_accepted v = record v { past = accepted v.past }

  abbrev pub Accepts : View E → ℕ → View E → Type 0
  Accepts v n w = (w ≡ whole_accepted v) × (n ≡ length v.past.seen)

  abbrev pub Enters : ℕ → ℕ → View E → ℕ → View E → Type 0
  Enters k n v x w = (w ≡ record v { stay = entered k n x v.stay }) × ((i : ℕ) → get_elem? v.stay.stays i ≡ some (k, n) → StillShows n x)

  abbrev pub Leaves : View E → View E → Type 0
  Leaves v w = w ≡ record v { stay = went v.stay }

  abbrev pub Claims : ℕ → ℕ → ℕ → View E → ℕ → View E → Type 0
  Claims k old new v x w = (w ≡ record v { stay = claimed k old new v.past.asker v.past.asker_loads x v.stay }) × (x ≢ packed old 0 0 → 0 < count_of x)

  -- bank k has another state in the desk's view
  abbrev pub restood : ℕ → Stand → View E → View E
  restood k b v = record v { stay = record v.stay { stands = set v.stay.stands k b } }

  abbrev pub Zeroed : ℕ → View E → View E → Type 0
  Zeroed k v w = (a : Stand) → get_elem? v.stay.stands k ≡ some a → w ≡ restood k (record a { zeroed = a.zeroed + 1 }) v

  abbrev pub Published : ℕ → View E → View E → Type 0
  Published k v w = (a : Stand) → get_elem? v.stay.stands k ≡ some a → w ≡ restood k (record a { building = 0 }) v

  abbrev pub Looked : ℕ → ℕ → ℕ → View E → ℕ → View E → Type 0
  Looked k n p v x w = w ≡ record v { touch = looked k n p x v.touch }

  abbrev pub Written : ℕ → ℕ → ℕ → ℕ → View E → ℕ → View E → Type 0
  Written k n p word v x w = w ≡ record v { touch = written k n p word x v.touch }

module _ {E : Type 0} (who : E → ℕ) (legal : List E → Type 0) where
  -- All that a seat has seen, and all that was joined into it, begins one legal history
  abbrev pub IsTold : View E → Type 0
  IsTold v = (top : ℕ) × Told who legal v.past top

  abbrev pub Loads : View E → ℕ → View E → Type 0
  Loads v n w = (w ≡ record v { past = loaded v.past n }) × Told who legal v.past n

module _ {E : Type 0} (right : List E → Op → Operand → Operand → List ℕ → Type 0) (z : Shape) where
  -- There are words of a bank, right for the first n changes, with which all that the seat keeps of (k, n) agrees, and which have x at p. In them a set has one number and a number names one set
  pub record Shown (k n p : ℕ) (v : View E) (x : ℕ) : Type 0 where
    pub mem : ℕ → ℕ
    pub bank : RightBank (nodes_of z) (steps_of z) (path_of z) (long_of z) (right (take n v.past.seen)) mem
    pub agrees : Agrees (nodes_of z) (steps_of z) (path_of z) (long_of z) (right (take n v.past.seen)) v.touch.kept k n mem
    pub here : mem p ≡ x
    pub one_number : OneNumber (nodes_of z) mem
    pub one_set : OneSet (nodes_of z) mem

  -- the seat may write the word there
  abbrev pub MayWrite : ℕ → ℕ → ℕ → ℕ → View E → Type 0
  MayWrite k n p w v = MayPut (nodes_of z) (steps_of z) (path_of z) (long_of z) (right (take n v.past.seen)) v.touch.kept k n p w
