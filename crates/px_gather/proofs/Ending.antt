-- How a run ends as its feed has, where all its items are answered.
use Rattle.std.proofs.Common.{◌≡◌, ℕ, ◌∷◌, ◌++◌, List, [], Option, Some, None, IsTrue, false, inl, inr, refl, ap, sym, ◌∙◌, subst, append-nil}
use Rattle.px_io.specs.Flows.{TakesFrom, IsSpent}
use Rattle.px_feed.specs.declared.ending.Ending.TheVariants as ending
use Rattle.px_feed.specs.declared.ending.Taken.TheVariants as taken
use Rattle.px_feed.specs.declared.line.FeedFault.{FeedFault}
use Rattle.px_feed.specs.declared.line.OutLine.{OutLine}
use Rattle.px_feed.specs.declared.line.OutLine.TheVariants.{Faulty}
use Rattle.px_feed.specs.declared.status.Status.{Status}
use Rattle.px_feed.specs.declared.status.Status.TheVariants.{Done, Refused, Usage, ReadFault, WriteFault, Memory}
use Rattle.px_feed.specs.Items.{Item, Stop, AtEnd, AtFault, HasItems}
use Rattle.px_feed.specs.Outputs.{Ask, AllAsk, lines_for}
use Rattle.px_feed.specs.Taking.{Ends}
use Rattle.px_lines.specs.Served.{is_finished}
use Rattle.px_lines.specs.Standing.{Streams, streams, Ended}
use Rattle.px_lines.specs.Waiting.{Closes, Breaks}
use Rattle.px_lines.proofs.FeedEnds.{ended_at_end, ended_at_fault, ended_at_read_fault}
use Rattle.px_gather.specs.declared.gathering.Gathering.{Gathering}
use Rattle.px_gather.specs.Asking.{ItemsAsk, AreAsked}
use Rattle.px_gather.specs.Waiting.{Waits, documents_of}
use Rattle.px_gather.proofs.Answering.{found_behind}
use Rattle.px_gather.proofs.Taking.{waits_memory}

-- what was all left, where the front that was taken is known
all_left : (all front : List ℕ) (left after : Option (List ℕ)) → TakesFrom left front after → left ≡ Some all →
    (rest : List ℕ) × (after ≡ Some rest) × (all ≡ front ++ rest)
all_left all front left None read told = absurd (cc)
all_left all front left (Some rest) read told = (rest, refl, cc)

-- nothing is left of a source that is spent
spent_rest : (left : Option (List ℕ)) (rest : List ℕ) → IsSpent left → left ≡ Some rest → rest ≡ []
spent_rest None rest spent told = absurd (cc)
spent_rest (Some bytes) rest spent told = let same : Some rest ≡ Some [] = sym told ∙ spent in cc

module _ (first left : Option (List ℕ)) (bytes : List ℕ) (given : List Item) (asks : List Ask) (read : TakesFrom first bytes left) (asked : AllAsk given asks) where
  -- what the items of a feed ask that was read to its end
  asked_to : (stop : Stop) → IsSpent left → HasItems bytes given stop → (all : List ℕ) → first ≡ Some all → ItemsAsk all asks
  asked_to stop spent has all told =
      let found = all_left all bytes first left read told in
      let same : all ≡ bytes = found.2 ∙ ap (λ (rest : List ℕ). bytes ++ rest) (spent_rest left found.0 spent found.1) ∙ append-nil bytes in
      let P : List ℕ → Type 0 = λ whole. HasItems whole given stop in
      (given, stop, subst P (sym same) has, asked)

  -- and to its fault
  asked_at_fault : (fault : FeedFault) → Ends (ending.Fault fault) left bytes given → (all : List ℕ) → first ≡ Some all → ItemsAsk all asks
  asked_at_fault fault (inl always) all told =
      let found = all_left all bytes first left read told in
      let P : List ℕ → Type 0 = λ whole. HasItems whole given (AtFault fault.line fault.kind) in
      (given, AtFault fault.line fault.kind, subst P (sym found.2) (always found.0), asked)
  asked_at_fault fault (inr (spent, has)) all told = asked_to (AtFault fault.line fault.kind) spent has all told

-- the source of a run that closes has met no fault
closed_asked : (status : Status) (held now : Option (List ℕ)) (lines : List OutLine) (left after : Option (List ℕ)) (asks : List Ask) → Closes status held now lines →
    ((all : List ℕ) → left ≡ Some all → ItemsAsk all asks) → AreAsked status left after asks
closed_asked status held now lines left after asks closes all =
    let P : Status → Type 0 = λ one. Closes one held now lines in
    record { all_items = λ _. all; whole_items = λ e. absurd (subst P e closes) }

not_true : IsTrue false → ⊥
not_true t = absurd (cc)

-- a run that breaks off is not finished
not_finished : (status : Status) (held now : Option (List ℕ)) (lines : List OutLine) → Breaks status held now lines → IsTrue (is_finished status) → ⊥
not_finished Done held now lines breaks t = breaks
not_finished Refused held now lines breaks t = breaks
not_finished Usage held now lines breaks t = breaks
not_finished ReadFault held now lines breaks t = not_true t
not_finished WriteFault held now lines breaks t = not_true t
not_finished Memory held now lines breaks t = not_true t

-- `after` is what the sink of the run holds when it has ended with this status
module _ (run : Gathering) (asks : List Ask) (first : Streams) (left held after : Option (List ℕ)) (faults least : ℕ) (status : Status) (none : documents_of run ≡ []) where
  -- nothing was left to take
  pub ends_at_end : (w : Waits (Some taken.End) run asks first (streams left held faults) least) → Closes status first.held after (lines_for [] asks) →
      Ended status first (streams left after faults) × AreAsked status first.left left asks
  ends_at_end w closes =
      let ends = found_behind taken.End run asks first (streams left held faults) least none w in (
        ended_at_end first left faults w.bytes w.given asks w.read w.asked after status ends closes,
        closed_asked status first.held after (lines_for [] asks) first.left left asks closes
            (asked_to first.left left w.bytes w.given asks w.read w.asked AtEnd ends.0 ends.1),
      )

  -- a fault was taken
  pub ends_at_fault : (fault : FeedFault) (w : Waits (Some (taken.Fault fault)) run asks first (streams left held faults) least) →
      Closes status first.held after (lines_for [] asks ++ Faulty fault ∷ []) → Ended status first (streams left after faults) × AreAsked status first.left left asks
  ends_at_fault fault w closes =
      let ends = found_behind (taken.Fault fault) run asks first (streams left held faults) least none w in (
        ended_at_fault first left faults w.bytes w.given asks w.read w.asked fault after status ends closes,
        closed_asked status first.held after (lines_for [] asks ++ Faulty fault ∷ []) first.left left asks closes
            (asked_at_fault first.left left w.bytes w.given asks w.read w.asked fault ends),
      )

  -- the source met a fault
  pub ends_at_read_fault : (w : Waits (Some taken.ReadFault) run asks first (streams left held faults) least) → Breaks status first.held after (lines_for [] asks) →
      Ended status first (streams left after faults) × AreAsked status first.left left asks
  ends_at_read_fault w breaks =
      let whole = found_behind taken.ReadFault run asks first (streams left held faults) least none w in (
        ended_at_read_fault first left faults w.bytes w.given asks w.read w.asked after status whole (w.failed refl) (w.all_begin w.given w.shown asks refl w.asked) breaks,
        record {
          all_items = λ t. absurd (not_finished status first.held after (lines_for [] asks) breaks t);
          whole_items = λ _. (w.bytes, w.given, w.read, whole, w.asked);
        },
      )

-- there was no memory
pub ends_memory : (run : Gathering) (asks : List Ask) (first now : Streams) (least : ℕ) → Waits (Some taken.Memory) run asks first now least →
    Ended Memory first now × AreAsked Memory first.left now.left asks
ends_memory run asks first now least w =
    ((waits_memory (Some taken.Memory) run asks first now least w).1, record { all_items = λ t. absurd (not_true t); whole_items = λ e. absurd (cc) })
