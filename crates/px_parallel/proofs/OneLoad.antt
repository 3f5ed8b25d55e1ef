-- The sums over the output of a feed are one.
use Rattle.std.proofs.Common.{◌≡◌, ℕ, List, [], ◌∷◌, Result, Ok, Err, refl, ap, ap₂, sym, ◌∙◌, subst, length, sum}
use Rattle.px_xpath.specs.Filters.{Way}
use Rattle.px_xpath.specs.declared.fault.FilterFault.{FilterFault}
use Rattle.px_xpath.proofs.OneFault.{faultless, faults_one, texts_one}
use Rattle.px_feed.specs.Items.{Item, Adding, Removing, Replacing, Showing}
use Rattle.px_feed.specs.Matches.{Parses}
use Rattle.px_feed.specs.Outputs.{Ask, AsksAdd, AsksDrop, AsksReplace, AsksMatches, Asks, AllAsk, AreLines, lines_for}
use Rattle.px_feed.proofs.Unique.{gives-one}
use Rattle.px_parallel.specs.declared.sums.Sums.{Sums}
use Rattle.px_parallel.specs.Sums.{AreSumsOf, OutLoad, all_listed, load_text}

one_parsed : (text : List ℕ) (parsed other : Result Way FilterFault) → Parses text parsed → Parses text other → parsed ≡ other
one_parsed text (Ok filter) (Ok other) p q = ap Ok (texts_one text filter other p q)
one_parsed text (Ok filter) (Err fault) p q = absurd (faultless text filter fault p q)
one_parsed text (Err fault) (Ok filter) p q = absurd (faultless text filter fault q p)
one_parsed text (Err fault) (Err other) p q = ap Err (faults_one text fault other p q)

one_ask : (item : Item) (ask other : Ask) → Asks item ask → Asks item other → ask ≡ other
one_ask (Adding text) (AsksAdd parsed) (AsksAdd other) p q = ap AsksAdd (one_parsed text parsed other p q)
one_ask (Removing text) (AsksDrop id) (AsksDrop other) p q = ap AsksDrop (p ∙ sym q)
one_ask (Replacing name text) (AsksReplace id parsed) (AsksReplace other_id other) p q = ap₂ AsksReplace (p.0 ∙ sym q.0) (one_parsed text parsed other p.1 q.1)
one_ask (Showing root) (AsksMatches shown) (AsksMatches other) p q = ap AsksMatches (p ∙ sym q)
one_ask (Adding text) (AsksAdd parsed) _ p q = absurd q
one_ask (Removing text) (AsksDrop id) _ p q = absurd q
one_ask (Replacing name text) (AsksReplace id parsed) _ p q = absurd q
one_ask (Showing root) (AsksMatches shown) _ p q = absurd q
one_ask _ _ other p q = absurd p

one_list : (items : List Item) (asks others : List Ask) → AllAsk items asks → AllAsk items others → asks ≡ others
one_list [] [] [] p q = refl
one_list (item ∷ items) (ask ∷ asks) (other ∷ others) p q = ap₂ (λ first rest. first ∷ rest) (one_ask item ask other p.0 q.0) (one_list items asks others p.1 q.1)
one_list [] [] (other ∷ others) p q = absurd q
one_list [] (ask ∷ asks) others p q = absurd p
one_list (item ∷ items) [] others p q = absurd p
one_list (item ∷ items) (ask ∷ asks) [] p q = absurd q

one_lines : (bytes : List ℕ) (sums others : Sums) → (p : AreSumsOf bytes sums) → (q : AreSumsOf bytes others) → p.lines ≡ q.lines
one_lines bytes sums others p q =
    let same = gives-one p.has_items q.has_items in
    let of_same = let P : List Item → Type 0 = λ items. AreLines items q.lines in subst P (sym same.0) q.are_lines in
    p.are_lines.lines_are ∙ ap (lines_for []) (one_list p.items p.are_lines.asks of_same.asks p.are_lines.asked of_same.asked) ∙ sym of_same.lines_are

pub one_load : (seed filters documents : ℕ) (text other : List ℕ) → OutLoad seed filters documents text → OutLoad seed filters documents other → text ≡ other
one_load seed filters documents text other p q =
    let lines = one_lines _ p.sums q.sums p.are_sums q.are_sums in
    let matches = p.are_sums.are_sums.matches ∙ ap (λ ls. length (all_listed ls)) lines ∙ sym q.are_sums.are_sums.matches in
    let total = p.are_sums.are_sums.sum_is ∙ ap (λ ls. sum (all_listed ls)) lines ∙ sym q.are_sums.are_sums.sum_is in
    p.written ∙ ap₂ (load_text filters documents) matches total ∙ sym q.written
