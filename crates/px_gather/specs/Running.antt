-- What the calls make of a run that answers a feed, and of the states that answer it.
use Rattle.std.specs.Prelude.{ℕ, ◌+◌, List, Option, Some, None, Result, MatchResult}
use Rattle.px_feed.specs.declared.ending.Taken.{Taken}
use Rattle.px_feed.specs.declared.status.Status.{Status}
use Rattle.px_feed.specs.Outputs.{Ask}
use Rattle.px_lines.specs.Standing.{Streams, streams, Ended}
use Rattle.px_gather.specs.declared.gathering.Gathering.{Gathering}
use Rattle.px_gather.specs.Asking.{HasAnswered}
use Rattle.px_gather.specs.Waiting.{Waits, IsCutOff}

module _ {S : Type 0} (answered : S → List Ask → Type 0) where
  -- all that was taken up is answered, but for the documents that wait and what was found behind them
  abbrev pub Runs : Option Taken → Gathering → S → (first now : Streams) → (least : ℕ) → Type 0
  Runs found run state first now least = (asks : List Ask) × Waits found run asks first now least × answered state asks

  -- the same where nothing was found
  abbrev pub Goes : Gathering → S → (first now : Streams) → (least : ℕ) → Type 0
  Goes run state first now least = Runs None run state first now least

  -- there is such a run, whose sink holds this
  abbrev pub CanRun : Option Taken → Gathering → S → (held : Option (List ℕ)) → Type 0
  CanRun found run state held =
      (first : Streams) × (left : Option (List ℕ)) × (faults least : ℕ) × Runs found run state first (streams left held faults) least

  -- the run has ended
  abbrev pub HasEnded : Status → S → (first now : Streams) → Type 0
  HasEnded status state first now = Ended status first now × HasAnswered (answered state) status first.left now.left

  -- what a turn makes of a run
  abbrev pub Turns : Result (Unit {0}) Status → (old new : Gathering) → (state after : S) → (before now : Streams) → Type 0
  Turns result old new state after before now =
      (first : Streams) (least : ℕ) → Goes old state first before least →
      MatchResult result (λ _. Goes new after first now (least + 1)) (λ status. HasEnded status after first now)

  -- what was found is taken up: an item, or the end
  abbrev pub TakesUp : Taken → Result (Unit {0}) Status → (old new : Gathering) → (state after : S) → (held behind : Option (List ℕ)) → Type 0
  TakesUp found result old new state after held behind =
      (first : Streams) (left : Option (List ℕ)) (faults least : ℕ) → Runs (Some found) old state first (streams left held faults) least →
      MatchResult result (λ _. Goes new after first (streams left behind faults) (least + 1)) (λ status. HasEnded status after first (streams left behind faults))

  -- the documents that wait are answered
  abbrev pub AnswersWaiting : Result (Unit {0}) Status → (old new : Gathering) → (state after : S) → (held behind : Option (List ℕ)) → Type 0
  AnswersWaiting result old new state after held behind =
      (found : Option Taken) (first : Streams) (left : Option (List ℕ)) (faults least : ℕ) → Runs found old state first (streams left held faults) least →
      MatchResult result (λ _. Runs found new after first (streams left behind faults) least) (λ status. IsCutOff status first (streams left behind faults))

  -- the run ends as the feed has
  abbrev pub EndsRun : Taken → Status → (old : Gathering) → (state after : S) → (held behind : Option (List ℕ)) → Type 0
  EndsRun found status old state after held behind =
      (first : Streams) (left : Option (List ℕ)) (faults least : ℕ) → Runs (Some found) old state first (streams left held faults) least →
      HasEnded status after first (streams left behind faults)
