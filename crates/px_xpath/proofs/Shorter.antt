-- A phrase stands on tokens: behind it there are no more.
use Rattle.std.proofs.Common.{◌≤◌, ◌<◌, List, ◌∷◌, length, arith}
use Rattle.px_xpath.specs.Tokens.{Token, Placed}
use Rattle.px_xpath.specs.Faults.{words}
use Rattle.px_xpath.specs.Grammar.{Stands, attribute, text, last_element, element, no_pred, pred, one_and, ors, last_or, more_ors, one_unary, ands, last_and, more_ands, negated, bracketed, selects, compares, plain, dotted, literal, number, negative, Phrase}
use Rattle.std.proofs.lemmas.List.{length-map}

pub shorter : {ts rest : List Token} {phrase : Phrase} → Stands ts phrase rest → length rest ≤ length ts
shorter (attribute e) = omega arith
shorter text = omega arith
shorter (last_element e p) = let a = shorter p in omega arith
shorter (element next e p s) = let a = shorter p in let b = shorter s in omega arith
shorter no_pred = omega arith
shorter (pred o p) = let a = shorter o in let b = shorter p in omega arith
shorter (one_and a) = shorter a
shorter (ors a os) = let x = shorter a in let y = shorter os in omega arith
shorter (last_or a) = shorter a
shorter (more_ors a os) = let x = shorter a in let y = shorter os in omega arith
shorter (one_unary u) = shorter u
shorter (ands u us) = let x = shorter u in let y = shorter us in omega arith
shorter (last_and u) = shorter u
shorter (more_ands u us) = let x = shorter u in let y = shorter us in omega arith
shorter (negated o) = let x = shorter o in omega arith
shorter (bracketed o) = let x = shorter o in omega arith
shorter (selects p) = shorter p
shorter (compares p o) = let x = shorter p in let y = shorter o in omega arith
shorter (plain s) = shorter s
shorter (dotted axis s) = let x = shorter s in omega arith
shorter (literal e) = omega arith
shorter number = omega arith
shorter negative = omega arith

-- the same of tokens with their places
pub shorter_placed : (ts rest : List Placed) (phrase : Phrase) → Stands (words ts) phrase (words rest) → length rest ≤ length ts
shorter_placed ts rest phrase s =
    let h = shorter s in omega (arith, length-map ts (λ (p : Placed). p.token), length-map rest (λ (p : Placed). p.token))

pub shorter_closed : (t : Token) (ts rest : List Placed) (phrase : Phrase) → Stands (words ts) phrase (t ∷ words rest) → length rest < length ts
shorter_closed t ts rest phrase s =
    let h = shorter s in omega (arith, length-map ts (λ (p : Placed). p.token), length-map rest (λ (p : Placed). p.token))
