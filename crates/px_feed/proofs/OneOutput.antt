-- A feed has one output, and so have a match and a filter that is shown.
use Rattle.std.proofs.Common.{◌≡◌, ℕ, List, [], ◌∷◌, ◌++◌, Result, Ok, Err, Some, refl, ap, ap₂, sym, ◌∙◌, subst}
use Rattle.px_reader.specs.Verdicts.{Verdict}
use Rattle.px_reader.specs.Lines.{lines_of}
use Rattle.px_reader.proofs.Verdicts.{judges_one}
use Rattle.px_xpath.specs.Filters.{Way}
use Rattle.px_xpath.specs.declared.fault.FilterFault.{FilterFault}
use Rattle.px_xpath.specs.Printed.{printed}
use Rattle.px_xpath.proofs.OneFault.{faultless, faults_one, texts_one}
use Rattle.px_feed.specs.declared.line.OutLine.{OutLine}
use Rattle.px_feed.specs.declared.line.OutLine.TheVariants.{NoFilter}
use Rattle.px_feed.specs.declared.status.Status.{Status}
use Rattle.px_feed.specs.Items.{Item, Adding, Removing, Replacing, Showing}
use Rattle.px_feed.specs.Lines.{line_text}
use Rattle.px_feed.specs.Matches.{AnswersDocument, AnswersMatch, OutMatch, OutShow, Parses, match_line, status_behind}
use Rattle.px_feed.specs.Outputs.{Ask, AsksAdd, AsksDrop, AsksReplace, AsksMatches, Asks, AllAsk, AreLines, Out, lines_at, lines_for, status_of, text_of}
use Rattle.px_feed.proofs.Unique.{gives-one}

-- a text is one filter, or has one fault
parses-one : (text : List ℕ) (parsed other : Result Way FilterFault) → Parses text parsed → Parses text other → parsed ≡ other
parses-one text (Ok filter) (Ok other) p q = ap Ok (texts_one text filter other p q)
parses-one text (Ok filter) (Err fault) p q = absurd (faultless text filter fault p q)
parses-one text (Err fault) (Ok filter) p q = absurd (faultless text filter fault q p)
parses-one text (Err fault) (Err other) p q = ap Err (faults_one text fault other p q)

asks-one : (item : Item) (ask other : Ask) → Asks item ask → Asks item other → ask ≡ other
asks-one (Adding text) (AsksAdd parsed) (AsksAdd other) p q = ap AsksAdd (parses-one text parsed other p q)
asks-one (Removing text) (AsksDrop id) (AsksDrop other) p q = ap AsksDrop (p ∙ sym q)
asks-one (Replacing name text) (AsksReplace id parsed) (AsksReplace other_id other) p q = ap₂ AsksReplace (p.0 ∙ sym q.0) (parses-one text parsed other p.1 q.1)
asks-one (Showing root) (AsksMatches shown) (AsksMatches other) p q = ap AsksMatches (p ∙ sym q)
asks-one (Adding text) (AsksAdd parsed) _ p q = absurd q
asks-one (Removing text) (AsksDrop id) _ p q = absurd q
asks-one (Replacing name text) (AsksReplace id parsed) _ p q = absurd q
asks-one (Showing root) (AsksMatches shown) _ p q = absurd q
asks-one _ _ other p q = absurd p

all_asks-one : (items : List Item) (asks others : List Ask) → AllAsk items asks → AllAsk items others → asks ≡ others
all_asks-one [] [] [] p q = refl
all_asks-one (item ∷ items) (ask ∷ asks) (other ∷ others) p q = ap₂ (λ first rest. first ∷ rest) (asks-one item ask other p.0 q.0) (all_asks-one items asks others p.1 q.1)
all_asks-one [] [] (other ∷ others) p q = absurd q
all_asks-one [] (ask ∷ asks) others p q = absurd p
all_asks-one (item ∷ items) [] others p q = absurd p
all_asks-one (item ∷ items) (ask ∷ asks) [] p q = absurd q

lines-one : (items : List Item) (lines others : List OutLine) → AreLines items lines → AreLines items others → lines ≡ others
lines-one items lines others p q = p.lines_are ∙ ap (lines_for []) (all_asks-one items p.asks q.asks p.asked q.asked) ∙ sym q.lines_are

pub feeds-one : (bytes text other : List ℕ) (status end : Status) → Out bytes text status → Out bytes other end → (text ≡ other) × (status ≡ end)
feeds-one bytes text other status end p q =
    let same = gives-one p.has_items q.has_items in
    let said = lines-one p.items p.lines q.lines p.are_lines (let P : List Item → Type 0 = λ items. AreLines items q.lines in subst P (sym same.0) q.are_lines) in
    let all : p.lines ++ lines_at p.stop ≡ q.lines ++ lines_at q.stop = ap₂ (λ lines stop. lines ++ lines_at stop) said same.1 in
    (p.written ∙ ap text_of all ∙ sym q.written, p.ended ∙ ap status_of all ∙ sym q.ended)

answers-one : (filter : Way) (bytes : List ℕ) (line other : OutLine) → AnswersDocument filter bytes line → AnswersDocument filter bytes other → line ≡ other
answers-one filter bytes line other (verdict, v, e) (second, w, f) = e ∙ ap (match_line filter) (judges_one (lines_of bytes) verdict second v w) ∙ sym f

matches_line-one : (text bytes : List ℕ) (line other : OutLine) → AnswersMatch text bytes line → AnswersMatch text bytes other → line ≡ other
matches_line-one text bytes line other (Ok filter, p, a) (Ok second, q, b) =
    answers-one filter bytes line other a (let P : Way → Type 0 = λ way. AnswersDocument way bytes other in subst P (sym (texts_one text filter second p q)) b)
matches_line-one text bytes line other (Ok filter, p, a) (Err fault, q, b) = absurd (faultless text filter fault p q)
matches_line-one text bytes line other (Err fault, p, a) (Ok filter, q, b) = absurd (faultless text filter fault q p)
matches_line-one text bytes line other (Err fault, p, a) (Err second, q, b) = a ∙ ap (λ one. NoFilter one) (faults_one text fault second p q) ∙ sym b

pub matches-one : (filter bytes text other : List ℕ) (status end : Status) → OutMatch filter bytes text status → OutMatch filter bytes other end → (text ≡ other) × (status ≡ end)
matches-one filter bytes text other status end (line, a, e, s) (second, b, f, t) =
    let same = matches_line-one filter bytes line second a b in (e ∙ ap line_text same ∙ sym f, s ∙ ap status_behind same ∙ sym t)

pub shows-one : (filter text other : List ℕ) (status end : Status) → OutShow filter text status → OutShow filter other end → (text ≡ other) × (status ≡ end)
shows-one filter text other status end (Ok way, p, a) (Ok second, q, b) =
    let same = texts_one filter way second p q in (a.0 ∙ ap (λ one. printed one ++ 10 ∷ []) same ∙ sym b.0, a.1 ∙ sym b.1)
shows-one filter text other status end (Ok way, p, a) (Err fault, q, b) = absurd (faultless filter way fault p q)
shows-one filter text other status end (Err fault, p, a) (Ok way, q, b) = absurd (faultless filter way fault q p)
shows-one filter text other status end (Err fault, p, a) (Err second, q, b) =
    let same = faults_one filter fault second p q in (a.0 ∙ ap (λ one. line_text (NoFilter one)) same ∙ sym b.0, a.1 ∙ sym b.1)
