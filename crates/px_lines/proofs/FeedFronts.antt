-- The lines of the items that were taken from a feed begin its output.
use Rattle.std.proofs.Common.{◌≡◌, ℕ, List, [], ◌∷◌, ◌++◌, take, drop, Option, Some, None, refl, ap, sym, ◌∙◌, subst, inr, append_assoc, append-nil}
use Rattle.std.proofs.lemmas.List.{take-append-drop}
use Rattle.px_io.specs.Flows.{TakesFrom}
use Rattle.px_feed.specs.declared.feed.Items.{Items}
use Rattle.px_feed.specs.declared.line.FeedFault.{FeedFault}
use Rattle.px_feed.specs.declared.line.OutLine.{OutLine}
use Rattle.px_feed.specs.declared.line.OutLine.TheVariants.{Faulty}
use Rattle.px_feed.specs.declared.ending.Ending.TheVariants as ending
use Rattle.px_feed.specs.declared.status.Status.{Status}
use Rattle.px_feed.specs.Items.{Item}
use Rattle.px_feed.specs.Outputs.{Ask, AllAsk, AreLines, Out, lines_for, text_of, status_of}
use Rattle.px_feed.specs.Taking.{HasTaken, Ends}
use Rattle.px_feed.proofs.Fronts.{begins-output-waiting, out-at-end, out-at-fault}
use Rattle.px_lines.specs.Served.{ServedFront}
use Rattle.px_lines.specs.Fronts.{AddsFront}
use Rattle.px_lines.specs.Standing.{BeginsOut}

-- what was all left, where the front that was taken is known
all_left : (bytes front : List ℕ) (left after : Option (List ℕ)) → TakesFrom left front after → left ≡ Some bytes →
    (rest : List ℕ) × (after ≡ Some rest) × (bytes ≡ front ++ rest)
all_left bytes front left None taken e = absurd (cc)
all_left bytes front left (Some rest) taken e = (rest, refl, cc)

-- the lines for what was asked
lines_of : (given : List Item) (asks : List Ask) → AllAsk given asks → AreLines given (lines_for [] asks)
lines_of given asks asked = record { asks = asks; asked = asked; lines_are = refl }

-- the lines for items that were taken, of which others still wait
pub begins : (items : Items) (first left : Option (List ℕ)) (bytes : List ℕ) (given waiting : List Item) (asks : List Ask) →
    HasTaken items left bytes (given ++ waiting) → AllAsk given asks → TakesFrom first bytes left → BeginsOut first (lines_for [] asks)
begins items first left bytes given waiting asks taken asked read = λ all told.
    let found = all_left all bytes first left read told in
    let lines = lines_for [] asks in
    let P : List ℕ → Type 0 = λ whole. (text more : List ℕ) × (status : Status) × Out whole text status × (text ≡ text_of lines ++ more) in
    subst P (sym found.2) (begins-output-waiting items left bytes found.0 given waiting lines taken (lines_of given asks asked) found.1)

-- lines whose output is known
pub begins_whole : (first : Option (List ℕ)) (lines : List OutLine) → ((bytes : List ℕ) → first ≡ Some bytes → Out bytes (text_of lines) (status_of lines)) →
    BeginsOut first lines
begins_whole first lines out = λ bytes told. (text_of lines, [], status_of lines, out bytes told, sym (append-nil (text_of lines)))

-- a front of the lines was written
pub cut_front : (first held now : Option (List ℕ)) (lines : List OutLine) → BeginsOut first lines → AddsFront held (text_of lines) now →
    ServedFront first held now
cut_front first held now lines begun front = record {
  bytes_written = take front.0 (text_of lines);
  written = front.1;
  is_front = λ bytes told.
      let out = begun bytes told in
      let parts : text_of lines ≡ take front.0 (text_of lines) ++ drop front.0 (text_of lines) = sym (take-append-drop front.0 (text_of lines)) in
      inr (
        out.0,
        drop front.0 (text_of lines) ++ out.1,
        out.2,
        out.3,
        out.4 ∙ ap (λ (text : List ℕ). text ++ out.1) parts ∙ append_assoc (take front.0 (text_of lines)) (drop front.0 (text_of lines)) out.1,
      );
}

-- the output of a feed that was read to its end
pub out_at_end : (first left : Option (List ℕ)) (bytes : List ℕ) (given : List Item) (asks : List Ask) → TakesFrom first bytes left →
    Ends ending.End left bytes given → AllAsk given asks → (all : List ℕ) → first ≡ Some all → Out all (text_of (lines_for [] asks)) (status_of (lines_for [] asks))
out_at_end first left bytes given asks read ends asked all told =
    let found = all_left all bytes first left read told in
    let out = out-at-end left bytes found.0 given (lines_for [] asks) ends (lines_of given asks asked) found.1 in
    let P : List OutLine → Type 0 = λ lines. Out (bytes ++ found.0) (text_of lines) (status_of lines) in
    let Q : List ℕ → Type 0 = λ whole. Out whole (text_of (lines_for [] asks)) (status_of (lines_for [] asks)) in
    subst Q (sym found.2) (subst P (append-nil (lines_for [] asks)) out)

-- the output of a feed that was read to its fault
pub out_at_fault : (fault : FeedFault) (first left : Option (List ℕ)) (bytes : List ℕ) (given : List Item) (asks : List Ask) → TakesFrom first bytes left →
    Ends (ending.Fault fault) left bytes given → AllAsk given asks → (all : List ℕ) → first ≡ Some all →
    Out all (text_of (lines_for [] asks ++ Faulty fault ∷ [])) (status_of (lines_for [] asks ++ Faulty fault ∷ []))
out_at_fault fault first left bytes given asks read ends asked all told =
    let found = all_left all bytes first left read told in
    let lines = lines_for [] asks ++ Faulty fault ∷ [] in
    let P : List ℕ → Type 0 = λ whole. Out whole (text_of lines) (status_of lines) in
    subst P (sym found.2) (out-at-fault fault left bytes found.0 given (lines_for [] asks) ends (lines_of given asks asked) found.1)
