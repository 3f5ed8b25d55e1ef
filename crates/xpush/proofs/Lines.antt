-- The line that answers a document.
use Rattle.std.proofs.Common.{◌≡◌, ℕ, Bool, true, false, List, [], ◌∷◌, map, cond, Option, Result, Ok, Err, IfOk, IsTrue, if◌then◌else◌, refl, ap, sym, ◌∙◌, subst, inr, take, drop}
use Rattle.std.proofs.lemmas.List.{take-append-drop}
use Rattle.px_text.specs.Numbers.{is_empty}
use Rattle.px_reader.specs.declared.fault.DocFault.{DocFault}
use Rattle.px_reader.specs.declared.fault.DocKind.{DocKind}
use Rattle.px_reader.specs.declared.fault.DocKind.TheVariants.{NotHere, NotUtf8, LineLong, TooDeep, TooManyAttributes, TooBig, Truncated}
use Rattle.px_reader.specs.Verdicts.{IsTree, IsFaulty}
use Rattle.px_xpath.specs.declared.fault.FilterFault.{FilterFault}
use Rattle.px_xpath.specs.Faults.{IsText, HasFault}
use Rattle.px_xpath.specs.Filters.{Way}
use Rattle.px_xpath.specs.Histories.{Subscription}
use Rattle.px_xpath.specs.Meaning.{holds}
use Rattle.px_document.specs.Findings.{is_truncated, line_is_of_filter}
use Rattle.px_feed.specs.declared.line.FeedKind.TheVariants.{Doc}
use Rattle.px_feed.specs.declared.line.OutLine.{OutLine}
use Rattle.px_feed.specs.declared.line.OutLine.TheVariants.{NoFilter, Yes, No}
use Rattle.px_feed.specs.declared.status.Status.{Status}
use Rattle.px_feed.specs.declared.status.Status.TheVariants.{Done}
use Rattle.px_feed.specs.Generator.{feed}
use Rattle.px_feed.specs.Lines.{line_text}
use Rattle.px_feed.specs.Matches.{OutShow, faulty, status_behind}
use Rattle.px_xpath.specs.declared.fault.ParseFault.{ParseFault}
use Rattle.px_xpath.specs.declared.fault.ParseFault.TheVariants as parsing
use Rattle.px_xpath.specs.Parses.{IsRefused}
use Rattle.xpush.specs.declared.stop.Cut.{Cut}
use Rattle.xpush.specs.declared.stop.Cut.TheVariants as cuts
use Rattle.xpush.specs.declared.stop.Stop.{Stop}
use Rattle.xpush.specs.declared.stop.Stop.TheVariants as stops
use Rattle.xpush.specs.Stops.{outcome_of, refusal_of}
use Rattle.xpush.specs.Runs.{IsLineFor, IsLineUnder, WritesFront}
use Rattle.xpush.specs.Documents.{GivesMatch, GivesFault}
use Rattle.xpush.specs.Forms.{Makes, Matches, Shows}
use Rattle.px_lines.specs.Fronts.{AddsFront}

-- the line of a document that was read to its end
pub ids_line : (way : Way) (left after : Option (List ℕ)) (ids : List ℕ) (line : OutLine) → GivesMatch way left after ids →
    line ≡ (if is_empty ids then No else Yes) → IsLineUnder way left after line
ids_line way left after ids line g e = record {
  answers = λ bytes told. (IsTree g.root, g.verdict bytes told, e ∙ ap (λ (all : List ℕ). if is_empty all then No else Yes) g.ids_are ∙ by_holding (holds way g.root));
  read_whole = λ _. g.spent;
  of_document = ap line_is_of_filter e ∙ of_either (is_empty ids);
}
  where
    of_either : (b : Bool) → line_is_of_filter (if b then No else Yes) ≡ false
    of_either true = refl
    of_either false = refl

    by_holding : (b : Bool) → (if is_empty (map (λ (s : Subscription). s.id) (cond b (record { id = 1; filter = way } ∷ []) [])) then No else Yes) ≡ (if b then Yes else No)
    by_holding true = refl
    by_holding false = refl

-- the same, where the ids were seen
pub answer_line : (way : Way) (left after : Option (List ℕ)) (ids seen : List ℕ) (line : OutLine) → GivesMatch way left after ids → seen ≡ ids →
    line ≡ (if is_empty seen then No else Yes) → IsLineUnder way left after line
answer_line way left after ids seen line g same e = ids_line way left after ids line g (e ∙ ap (λ (all : List ℕ). if is_empty all then No else Yes) same)

-- only one kind of fault needs the whole input
truncated_only : (kind : DocKind) → IsTrue (is_truncated (Doc kind)) → kind ≡ Truncated
truncated_only Truncated t = refl
truncated_only NotHere t = absurd (cc)
truncated_only NotUtf8 t = absurd (cc)
truncated_only LineLong t = absurd (cc)
truncated_only TooDeep t = absurd (cc)
truncated_only TooManyAttributes t = absurd (cc)
truncated_only TooBig t = absurd (cc)

-- the line of a document's fault
fault_line : (way : Way) (left after : Option (List ℕ)) (fault : DocFault) → GivesFault left after fault → IsLineUnder way left after (faulty fault)
fault_line way left after fault f = record {
  answers = λ bytes told. (IsFaulty fault.line fault.kind, f.verdict bytes told, refl);
  read_whole = λ t. f.spent (truncated_only fault.kind t);
  of_document = refl;
}

-- what comes of a reading that was stopped
pub stopped_line : (way : Way) (left after : Option (List ℕ)) (stop : Stop) (result : Result OutLine Cut) → result ≡ outcome_of stop →
    ((fault : DocFault) → stop ≡ stops.Doc fault → GivesFault left after fault) → IfOk result (λ line. IsLineUnder way left after line)
stopped_line way left after stop result e gives = subst P (sym e) (of_outcome stop gives)
  where
    P : Result OutLine Cut → Type 0
    P one = IfOk one (λ line. IsLineUnder way left after line)

    of_outcome : (one : Stop) → ((fault : DocFault) → one ≡ stops.Doc fault → GivesFault left after fault) → P (outcome_of one)
    of_outcome (stops.Doc fault) gives = fault_line way left after fault (gives fault refl)
    of_outcome stops.Source gives = tt
    of_outcome stops.Memory gives = tt

-- a run is cut short by its source only where the source stopped the reading
pub stopped_by_source : (stop : Stop) (result : Result OutLine Cut) → result ≡ outcome_of stop → result ≡ Err cuts.Source → stop ≡ stops.Source
stopped_by_source (stops.Doc fault) result e f = absurd (cc)
stopped_by_source stops.Source result e f = refl
stopped_by_source stops.Memory result e f = absurd (cc)

-- the line of a document answers the filter's text
pub parsed_line : (text : List ℕ) (way : Way) (left after : Option (List ℕ)) (line : OutLine) → IsText text way → IsLineUnder way left after line →
    IsLineFor text left after line
parsed_line text way left after line parsed under = record {
  answers = λ bytes told. (Ok way, parsed, under.answers bytes told);
  read_whole = under.read_whole;
  unread = λ t. absurd (not_both (line_is_of_filter line) under.of_document t);
}
  where
    not_both : (b : Bool) → b ≡ false → IsTrue b → ⊥
    not_both true e t = absurd (cc)
    not_both false e t = absurd (cc)

-- the same, where there is a line
pub parsed_lines : {E : Type 0} (text : List ℕ) (way : Way) (left after : Option (List ℕ)) (result : Result OutLine E) → IsText text way →
    IfOk result (λ line. IsLineUnder way left after line) → IfOk result (λ line. IsLineFor text left after line)
parsed_lines text way left after (Ok line) parsed under = parsed_line text way left after line parsed under
parsed_lines text way left after (Err e) parsed under = under

-- the line of a filter's fault, before anything is read
fault_first : (text : List ℕ) (left : Option (List ℕ)) (fault : FilterFault) → HasFault text fault → IsLineFor text left left (NoFilter fault)
fault_first text left fault h = record {
  answers = λ bytes told. (Err fault, h, refl);
  read_whole = λ t. absurd (false_not_true t);
  unread = λ t. refl;
}
  where
    false_not_true : IsTrue false → ⊥
    false_not_true t = absurd (cc)

-- what comes of a filter that was refused
pub refused_line : (text : List ℕ) (left : Option (List ℕ)) (fault : ParseFault) (result : Result OutLine Cut) → IsRefused text fault →
    result ≡ refusal_of fault → IfOk result (λ line. IsLineFor text left left line)
refused_line text left fault result h e = subst P (sym e) (of_refusal fault h)
  where
    P : Result OutLine Cut → Type 0
    P one = IfOk one (λ line. IsLineFor text left left line)

    of_refusal : (one : ParseFault) → IsRefused text one → P (refusal_of one)
    of_refusal (parsing.Filter found) h = fault_first text left found h
    of_refusal parsing.Memory h = tt

-- a filter that is refused is no fault of the source
pub refused_by_source : (fault : ParseFault) (result : Result OutLine Cut) → result ≡ refusal_of fault → result ≡ Err cuts.Source → ⊥
refused_by_source (parsing.Filter found) result e f = absurd (cc)
refused_by_source parsing.Memory result e f = absurd (cc)

-- where a line was cut short, its front was written
pub cut_line : (text : List ℕ) (left after held held_after : Option (List ℕ)) (line : OutLine) → IsLineFor text left after line →
    AddsFront held (line_text line) held_after → WritesFront (Matches text) left held held_after
cut_line text left after held held_after line l front = record {
  bytes_written = take front.0 (line_text line);
  written = front.1;
  is_front = λ bytes told.
      inr
      (line_text line, drop front.0 (line_text line), status_behind line, (line, l.answers bytes told, refl, refl), sym (take-append-drop front.0 (line_text line)));
}

-- where what is shown was cut short, its front was written
pub cut_shown : (text shown : List ℕ) (left held held_after : Option (List ℕ)) (status : Status) → OutShow text shown status → AddsFront held shown held_after →
    WritesFront (Shows text) left held held_after
cut_shown text shown left held held_after status out front = record {
  bytes_written = take front.0 shown;
  written = front.1;
  is_front = λ bytes told. inr (shown, drop front.0 shown, status, ((shown, status), out, refl, refl), sym (take-append-drop front.0 shown));
}

-- where a feed was cut short, its front was written
pub cut_feed : (seed filters documents : ℕ) (left held held_after : Option (List ℕ)) → AddsFront held (feed seed filters documents) held_after →
    WritesFront (Makes seed filters documents) left held held_after
cut_feed seed filters documents left held held_after front =
    let text = feed seed filters documents in
    record {
      bytes_written = take front.0 text;
      written = front.1;
      is_front = λ bytes told. inr (text, drop front.0 text, Done, ((text, Done), (refl, refl), refl, refl), sym (take-append-drop front.0 text));
    }
