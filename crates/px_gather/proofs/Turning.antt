-- What a run and the states that answer it know of one another.
use Rattle.std.proofs.Common.{◌≡◌, ℕ, ◌+◌, List, [], ◌∷◌, ◌++◌, Option, Some, Result, Ok, Err, MatchResult, subst}
use Rattle.px_reader.specs.declared.doc.Doc.{Doc}
use Rattle.px_feed.specs.declared.ending.Taken.{Taken}
use Rattle.px_feed.specs.declared.ending.Taken.TheVariants as taken
use Rattle.px_feed.specs.declared.item.Item.{Item as Given}
use Rattle.px_feed.specs.declared.item.Item.TheVariants.{Document}
use Rattle.px_feed.specs.declared.line.OutLine.{OutLine}
use Rattle.px_feed.specs.declared.status.Status.{Status}
use Rattle.px_feed.specs.declared.status.Status.TheVariants.{Memory}
use Rattle.px_feed.specs.Outputs.{Ask}
use Rattle.px_lines.specs.Standing.{Streams, streams}
use Rattle.px_gather.specs.declared.gathering.Gathering.{Gathering}
use Rattle.px_gather.specs.Asking.{AnswersChange, AnswersDocuments}
use Rattle.px_gather.specs.Running.{Runs, Goes, HasEnded, TakesUp, AnswersWaiting, EndsRun}
use Rattle.px_gather.specs.Waiting.{Keeps, AnswersAll, Answers, Ends, IsCutOff, documents_of}
use Rattle.px_gather.proofs.Taking.{waits_memory}

module _ {S : Type 0} (answered : S → List Ask → Type 0) where
  -- a run that was cut short owes nothing of what was asked
  pub cut_ended : (status : Status) (state : S) (first now : Streams) → IsCutOff status first now → HasEnded answered status state first now
  cut_ended status state first now cut = (cut.1, λ finished. absurd (finished cut.0))

  -- there was no memory
  pub memory_cut : (found : Option Taken) (run : Gathering) (state : S) (first now : Streams) (least : ℕ) → Runs answered found run state first now least →
      IsCutOff Memory first now
  memory_cut found run state first now least r = waits_memory found run r.0 first now least r.1

  -- a document is kept
  pub kept_goes : (doc : Doc) (old new : Gathering) (state : S) (first now : Streams) (least : ℕ) → Keeps doc old new →
      Runs answered (Some (taken.Item (Document doc))) old state first now least → Goes answered new state first now (least + 1)
  kept_goes doc old new state first now least keeps r = (r.0, keeps r.0 first now least r.1, r.2)

  -- the lines of the documents that wait are said
  lines_said : (lines : List OutLine) (result : Result (Unit {0}) Status) (old new : Gathering) (state after : S) (held behind : Option (List ℕ)) →
      AnswersDocuments answered (documents_of old) state after lines → AnswersAll lines result old new held behind →
      AnswersWaiting answered result old new state after held behind
  lines_said lines (Ok u) old new state after held behind filters says = λ found first left faults least r.
      let one = filters r.0 r.1.shown r.2 r.1.are_shown in
      (r.0 ++ one.0, says found r.0 one.0 first left faults least r.1 one.1, one.2)
  lines_said lines (Err status) old new state after held behind filters says = λ found first left faults least r.
      let one = filters r.0 r.1.shown r.2 r.1.are_shown in
      says found r.0 one.0 first left faults least r.1 one.1

  -- the documents that wait are filtered, and their lines are said
  pub waiting_answered : (docs : List Doc) (lines said : List OutLine) (result : Result (Unit {0}) Status) (old new : Gathering) (state after : S)
      (held behind : Option (List ℕ)) → docs ≡ documents_of old → said ≡ lines → AnswersDocuments answered docs state after lines →
      AnswersAll said result old new held behind → AnswersWaiting answered result old new state after held behind
  waiting_answered docs lines said result old new state after held behind same_docs same_lines filters says =
      let P : List Doc → Type 0 = λ ds. AnswersDocuments answered ds state after lines in
      let Q : List OutLine → Type 0 = λ ls. AnswersAll ls result old new held behind in
      lines_said lines result old new state after held behind (subst P same_docs filters) (subst Q same_lines says)

  -- where they are answered, or the run was cut short, it goes on or has ended
  pub waited_goes : (result : Result (Unit {0}) Status) (run : Gathering) (state : S) (first now : Streams) (least : ℕ) →
      MatchResult result (λ _. Goes answered run state first now least) (λ status. IsCutOff status first now) →
      MatchResult result (λ _. Goes answered run state first now least) (λ status. HasEnded answered status state first now)
  waited_goes (Ok u) run state first now least goes = goes
  waited_goes (Err status) run state first now least cut = cut_ended status state first now cut

  -- a change is made where no document waits, and its line is said
  pub change_answered : (item : Given) (line : OutLine) (result : Result (Unit {0}) Status) (old new : Gathering) (state after : S) (held behind : Option (List ℕ)) →
      AnswersChange answered item state after line → documents_of old ≡ [] → Answers line result old new held behind →
      TakesUp answered (taken.Item item) result old new state after held behind
  change_answered item line (Ok u) old new state after held behind changes none says = λ first left faults least r.
      let one = changes r.0 r.1.gave.0 r.2 r.1.gave.1 in
      (r.0 ++ one.0 ∷ [], says item r.0 one.0 first left faults least none r.1 one.1, one.2)
  change_answered item line (Err status) old new state after held behind changes none says = λ first left faults least r.
      let one = changes r.0 r.1.gave.0 r.2 r.1.gave.1 in
      cut_ended status after first (streams left behind faults) (says item r.0 one.0 first left faults least none r.1 one.1)

  -- the run ends where no document waits
  pub run_ended : (found : Taken) (status : Status) (run : Gathering) (state : S) (held behind : Option (List ℕ)) → documents_of run ≡ [] →
      Ends found status run held behind → EndsRun answered found status run state state held behind
  run_ended found status run state held behind none ends = λ first left faults least r.
      let end = ends r.0 first left faults least none r.1 in (end.0, λ _. (r.0, r.2, end.1))
