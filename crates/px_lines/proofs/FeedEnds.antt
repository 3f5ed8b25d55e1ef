-- How a run that answers a feed ends.
use Rattle.std.proofs.Common.{◌≡◌, ℕ, ◌||◌, Bool, true, false, List, [], ◌∷◌, ◌++◌, Option, Some, IsTrue, if◌then◌else◌, refl, ap, ◌∙◌, subst}
use Rattle.std.specs.List.{list_any}
use Rattle.std.proofs.lemmas.List.Folds.{list_any-append}
use Rattle.px_io.specs.Faults.{Rose}
use Rattle.px_io.specs.Flows.{TakesFrom, IsSpent}
use Rattle.px_feed.specs.declared.ending.Ending.TheVariants as ending
use Rattle.px_feed.specs.declared.line.FeedFault.{FeedFault}
use Rattle.px_feed.specs.declared.line.OutLine.{OutLine}
use Rattle.px_feed.specs.declared.line.OutLine.TheVariants.{Faulty}
use Rattle.px_feed.specs.declared.status.Status.{Status}
use Rattle.px_feed.specs.declared.status.Status.TheVariants.{Done, Refused, Usage, ReadFault, WriteFault, Memory}
use Rattle.px_feed.specs.Lines.{is_refusal}
use Rattle.px_feed.specs.Items.{Item}
use Rattle.px_feed.specs.Outputs.{Ask, AllAsk, Out, lines_for, text_of, status_of}
use Rattle.px_feed.specs.Taking.{Ends}
use Rattle.px_lines.specs.Served.{Served, ServedFront, ServedWhole, is_cut_short}
use Rattle.px_lines.specs.Standing.{Streams, streams, BeginsOut, Ended}
use Rattle.px_lines.specs.Waiting.{IsCut, Closes, Breaks}
use Rattle.px_lines.proofs.FeedFronts.{begins_whole, cut_front, out_at_end, out_at_fault}

not_true : IsTrue false → ⊥
not_true t = absurd (cc)

-- a run that was cut short
pub front_ended : (status : Status) (first now : Streams) → IsTrue (is_cut_short status) → ServedFront first.left first.held now.held → Ended status first now
front_ended Done first now t front = absurd (not_true t)
front_ended Refused first now t front = absurd (not_true t)
front_ended Usage first now t front = absurd (not_true t)
front_ended ReadFault first now t front = absurd (not_true t)
front_ended WriteFault first now t front = record {
  output = λ t. absurd (not_true t);
  front = λ _. front;
  whole_items = λ e. absurd (cc);
  read_fault = λ e. absurd (cc);
  not_usage = λ e. absurd (cc);
}
front_ended Memory first now t front = record {
  output = λ t. absurd (not_true t);
  front = λ _. front;
  whole_items = λ e. absurd (cc);
  read_fault = λ e. absurd (cc);
  not_usage = λ e. absurd (cc);
}

-- a run that was cut short when it wrote these lines
pub cut_ended : (status : Status) (first now : Streams) (lines : List OutLine) → BeginsOut first.left lines → IsCut status first.held now.held lines →
    Ended status first now
cut_ended status first now lines begun cut = front_ended status first now cut.0 (cut_front first.left first.held now.held lines begun cut.1)

-- a run that was not cut short
done_ended : (first now : Streams) → Served first.left now.left first.held now.held Done → Ended Done first now
done_ended first now served = record {
  output = λ _. served;
  front = λ t. absurd (not_true t);
  whole_items = λ e. absurd (cc);
  read_fault = λ e. absurd (cc);
  not_usage = λ e. absurd (cc);
}

refused_ended : (first now : Streams) → Served first.left now.left first.held now.held Refused → Ended Refused first now
refused_ended first now served = record {
  output = λ _. served;
  front = λ t. absurd (not_true t);
  whole_items = λ e. absurd (cc);
  read_fault = λ e. absurd (cc);
  not_usage = λ e. absurd (cc);
}

-- a run whose source met a fault
broken_ended : (first now : Streams) → ServedWhole first.left now.left first.held now.held → Rose first.faults now.faults → Ended ReadFault first now
broken_ended first now whole rose = record {
  output = λ t. absurd (not_true t);
  front = λ t. absurd (not_true t);
  whole_items = λ _. whole;
  read_fault = λ _. rose;
  not_usage = λ e. absurd (cc);
}

-- all lines of an output were said
closes_ended : (status : Status) (first now : Streams) (lines : List OutLine) →
    ((bytes : List ℕ) → first.left ≡ Some bytes → Out bytes (text_of lines) (status_of lines)) → (status_of lines ≡ Done → IsSpent now.left) →
    Closes status first.held now.held lines → Ended status first now
closes_ended Done first now lines out spent closes = done_ended first now (record {
  text = text_of lines;
  is_for = λ bytes told. (let P : Status → Type 0 = λ status. Out bytes (text_of lines) status in subst P closes.1 (out bytes told));
  written = closes.0;
  read_whole = λ _. spent closes.1;
})
closes_ended Refused first now lines out spent closes = refused_ended first now (record {
  text = text_of lines;
  is_for = λ bytes told. (let P : Status → Type 0 = λ status. Out bytes (text_of lines) status in subst P closes.1 (out bytes told));
  written = closes.0;
  read_whole = λ e. absurd (cc);
})
closes_ended Usage first now lines out spent closes = absurd closes
closes_ended ReadFault first now lines out spent closes = absurd closes
closes_ended WriteFault first now lines out spent closes =
    front_ended WriteFault first now refl (cut_front first.left first.held now.held lines (begins_whole first.left lines out) closes)
closes_ended Memory first now lines out spent closes =
    front_ended Memory first now refl (cut_front first.left first.held now.held lines (begins_whole first.left lines out) closes)

-- behind a fault nothing is done
faulty_refused : (lines : List OutLine) (fault : FeedFault) → status_of (lines ++ Faulty fault ∷ []) ≡ Refused
faulty_refused lines fault =
    ap (λ (b : Bool). if b then Refused else Done) (list_any-append is_refusal lines (Faulty fault ∷ []) ∙ or_true (list_any is_refusal lines))
  where
    or_true : (b : Bool) → (b || true) ≡ true
    or_true true = refl
    or_true false = refl

not_done : (status : Status) → status ≡ Refused → status ≡ Done → ⊥
not_done status e f = absurd (cc)

-- A run whose feed has ended behind these items, which are all answered: `left` and `faults` are those of its source then.
module _ (first : Streams) (left : Option (List ℕ)) (faults : ℕ) (bytes : List ℕ) (given : List Item) (asks : List Ask) (read : TakesFrom first.left bytes left)
    (asked : AllAsk given asks) where
  -- nothing was left to take
  pub ended_at_end : (after : Option (List ℕ)) (status : Status) → Ends ending.End left bytes given → Closes status first.held after (lines_for [] asks) →
      Ended status first (streams left after faults)
  ended_at_end after status ends closes =
      closes_ended status first (streams left after faults) (lines_for [] asks) (out_at_end first.left left bytes given asks read ends asked) (λ _. ends.0) closes

  -- a fault was taken
  pub ended_at_fault : (fault : FeedFault) (after : Option (List ℕ)) (status : Status) → Ends (ending.Fault fault) left bytes given →
      Closes status first.held after (lines_for [] asks ++ Faulty fault ∷ []) → Ended status first (streams left after faults)
  ended_at_fault fault after status ends closes =
      let lines = lines_for [] asks ++ Faulty fault ∷ [] in
      closes_ended status first (streams left after faults) lines (out_at_fault fault first.left left bytes given asks read ends asked)
      (λ e. absurd (not_done (status_of lines) (faulty_refused (lines_for [] asks) fault) e)) closes

  -- the source met a fault
  pub ended_at_read_fault : (after : Option (List ℕ)) (status : Status) → Ends ending.ReadFault left bytes given → Rose first.faults faults →
      BeginsOut first.left (lines_for [] asks) → Breaks status first.held after (lines_for [] asks) → Ended status first (streams left after faults)
  ended_at_read_fault after Done ends rose begun breaks = absurd breaks
  ended_at_read_fault after Refused ends rose begun breaks = absurd breaks
  ended_at_read_fault after Usage ends rose begun breaks = absurd breaks
  ended_at_read_fault after ReadFault ends rose begun breaks = broken_ended first (streams left after faults) (record {
    bytes = bytes;
    read = read;
    items = given;
    are_whole = ends;
    lines = lines_for [] asks;
    are_lines = record { asks = asks; asked = asked; lines_are = refl };
    written = breaks;
  }) rose
  ended_at_read_fault after WriteFault ends rose begun breaks =
      front_ended WriteFault first (streams left after faults) refl (cut_front first.left first.held after (lines_for [] asks) begun breaks)
  ended_at_read_fault after Memory ends rose begun breaks =
      front_ended Memory first (streams left after faults) refl (cut_front first.left first.held after (lines_for [] asks) begun breaks)
