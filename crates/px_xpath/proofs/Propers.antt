-- What tokens write keeps what each filter of the program keeps.
use Rattle.std.proofs.Common.{◌≡◌, true, List, [], ◌∷◌, IsTrue, refl}
use Rattle.px_xpath.specs.Filters.{Way, Condition, Conditions, CondThen}
use Rattle.px_xpath.specs.Tokens.{Token}
use Rattle.px_xpath.specs.Grammar.{Stands, attribute, text, last_element, element, no_pred, pred, one_and, ors, last_or, more_ors, one_unary, ands, last_and, more_ands, negated, bracketed, selects, compares, plain, dotted, literal, number, negative, Phrase, Steps, Preds, Or, Ors, And, Ands, Unary, Relative, Operand, Writes}
use Rattle.px_xpath.specs.Proper.{is_proper, has_steps, steps_proper, all_proper, condition_proper, may_compare, has_two}

abbrev Proper : Phrase → Type 0
Proper (Steps axis way) = (has_steps way ≡ true) × (steps_proper way ≡ true)
Proper (Preds cs) = all_proper cs ≡ true
Proper (Or c) = condition_proper c ≡ true
Proper (Ors cs) = all_proper cs ≡ true
Proper (And c) = condition_proper c ≡ true
Proper (Ands cs) = all_proper cs ≡ true
Proper (Unary c) = condition_proper c ≡ true
Proper (Relative way) = (has_steps way ≡ true) × (steps_proper way ≡ true)
Proper (Operand r v) = may_compare r v ≡ true

two_ors : {ts rest : List Token} {cs : Conditions} (c : Condition) → Stands ts (Ors cs) rest → has_two (CondThen c cs) ≡ true
two_ors c (last_or a) = refl
two_ors c (more_ors a os) = refl

two_ands : {ts rest : List Token} {cs : Conditions} (c : Condition) → Stands ts (Ands cs) rest → has_two (CondThen c cs) ≡ true
two_ands c (last_and u) = refl
two_ands c (more_ands u us) = refl

proper : {ts rest : List Token} {phrase : Phrase} → Stands ts phrase rest → Proper phrase
proper (attribute e) = (refl, refl)
proper text = (refl, refl)
proper (last_element e p) = (refl, rw (proper p) refl)
proper (element next e p s) = (refl, rw (proper p, (proper s).1) refl)
proper no_pred = refl
proper (pred o p) = rw (proper o, proper p) refl
proper (one_and a) = proper a
proper (ors {c = c} a os) = rw (two_ors c os, proper a, proper os) refl
proper (last_or a) = rw (proper a) refl
proper (more_ors a os) = rw (proper a, proper os) refl
proper (one_unary u) = proper u
proper (ands {c = c} u us) = rw (two_ands c us, proper u, proper us) refl
proper (last_and u) = rw (proper u) refl
proper (more_ands u us) = rw (proper u, proper us) refl
proper (negated o) = proper o
proper (bracketed o) = proper o
proper (selects p) = let q = proper p in rw (q.0, q.1) refl
proper (compares p o) = let q = proper p in rw (q.0, q.1, proper o) refl
proper (plain s) = proper s
proper (dotted axis s) = proper s
proper (literal e) = e
proper number = refl
proper negative = refl

pub writes_proper : (ts : List Token) (filter : Way) → Writes ts filter → IsTrue (is_proper filter)
writes_proper [] filter w = absurd w
writes_proper (t ∷ ts) filter (axis, e, s) = let q = proper s in rw (q.0, q.1) refl
