-- A filter that a text writes is small enough for a program.
use Rattle.std.proofs.Common.{◌≡◌, ℕ, zero, suc, ◌+◌, ◌*◌, ◌≤◌, Bool, true, false, List, [], ◌∷◌, length, if◌then◌else◌, arith}
use Rattle.std.proofs.lemmas.List.{length-map}
use Rattle.px_text.specs.Numbers.{past, is_empty}
use Rattle.px_text.specs.Names.{is_white}
use Rattle.px_xpath.specs.Filters.{Way}
use Rattle.px_xpath.specs.Faults.{IsText, words}
use Rattle.px_xpath.specs.Grammar.{Stands, attribute, text, last_element, element, no_pred, pred, one_and, ors, last_or, more_ors, one_unary, ands, last_and, more_ands, negated, bracketed, selects, compares, plain, dotted, literal, number, negative, Phrase, Steps, Preds, Or, Ors, And, Ands, Unary, Relative, Operand, Writes}
use Rattle.px_xpath.specs.Histories.{size, way_size, condition_size, conditions_size, joint, count_of, parts_behind}
use Rattle.px_xpath.specs.Tokens.{Token, Placed, tokens_from, tokens}

joint-few : (parts : ℕ) → joint parts ≤ 1
joint-few zero = omega arith
joint-few (suc zero) = omega arith
joint-few (suc (suc parts)) = omega arith

-- the tokens of a phrase pay two for each of its states
abbrev Pays : List Token → Phrase → List Token → Type 0
Pays ts (Steps axis way) rest = (end : ℕ) → way_size way end + 2 * length rest ≤ 2 * length ts + end
Pays ts (Preds cs) rest = conditions_size cs + 2 * length rest ≤ 2 * length ts
Pays ts (Or c) rest = condition_size c + 2 * length rest ≤ 2 * length ts
Pays ts (Ors cs) rest = conditions_size cs + 2 * length rest ≤ 2 * length ts
Pays ts (And c) rest = condition_size c + 2 * length rest ≤ 2 * length ts
Pays ts (Ands cs) rest = conditions_size cs + 2 * length rest ≤ 2 * length ts
Pays ts (Unary c) rest = condition_size c + 2 * length rest ≤ 2 * length ts
Pays ts (Relative way) rest = (end : ℕ) → way_size way end + 2 * length rest ≤ 2 * length ts + end
Pays ts (Operand r v) rest = 1 + 2 * length rest ≤ 2 * length ts

pays : {ts rest : List Token} {phrase : Phrase} → Stands ts phrase rest → Pays ts phrase rest
pays (attribute e) = λ end. let j = joint-few (0 + end) in omega arith
pays text = λ end. let j = joint-few (0 + end) in omega arith
pays (last_element {conditions = cs} e p) = λ end. let a = pays p in let j = joint-few (count_of cs + end) in omega arith
pays (element {conditions = cs} {onward = onward} next e p s) = λ end. let a = pays p in let b = pays s end in let j = joint-few (count_of cs + parts_behind onward end) in omega arith
pays no_pred = omega arith
pays (pred o p) = let a = pays o in let b = pays p in omega arith
pays (one_and a) = pays a
pays (ors a os) = let b = pays a in let d = pays os in omega arith
pays (last_or a) = let b = pays a in omega arith
pays (more_ors a os) = let b = pays a in let d = pays os in omega arith
pays (one_unary u) = pays u
pays (ands u us) = let b = pays u in let d = pays us in omega arith
pays (last_and u) = let b = pays u in omega arith
pays (more_ands u us) = let b = pays u in let d = pays us in omega arith
pays (negated o) = let a = pays o in omega arith
pays (bracketed o) = let a = pays o in omega arith
pays (selects p) = let a = pays p 0 in omega arith
pays (compares p o) = let a = pays p 1 in let b = pays o in omega arith
pays (plain s) = pays s
pays (dotted axis s) = λ end. let a = pays s end in omega arith
pays (literal e) = omega arith
pays number = omega arith
pays negative = omega arith

written-few : (ts : List Token) (filter : Way) → Writes ts filter → size filter ≤ 2 * length ts
written-few [] filter w = absurd w
written-few (t ∷ ts) filter (axis, e, s) = let a = pays s 0 in omega arith

few_if : (none : Bool) (fuel : ℕ) (p : Placed) (rest : List Placed) → length rest ≤ fuel → length (if none then [] else p ∷ rest) ≤ suc fuel
few_if true fuel p rest le = omega arith
few_if false fuel p rest le = omega arith

-- there are at most as many tokens as there is fuel
tokens-few : (fuel : ℕ) (behind : Bool) (place : ℕ) (bytes : List ℕ) → length (tokens_from fuel behind place bytes) ≤ fuel
tokens-few zero behind place bytes = omega arith
tokens-few (suc fuel) behind place bytes = few_if (is_empty (past is_white bytes)) fuel _ _ (tokens-few fuel _ _ _)

-- whatever most a text may have, if not too long, its filter has twice as many states at most
few-of : (most : ℕ) (bytes : List ℕ) (filter : Way) → length bytes ≤ most → Writes (words (tokens bytes)) filter → size filter ≤ 2 * most
few-of most bytes filter le w =
    let a = written-few (words (tokens bytes)) filter w in
    let b : length (words (tokens bytes)) ≡ length (tokens bytes) = length-map (tokens bytes) (λ (p : Placed). p.token) in
    let d : length (tokens bytes) ≤ length bytes = tokens-few (length bytes) false 0 bytes in
    omega arith

pub text_small : (bytes : List ℕ) (filter : Way) → IsText bytes filter → size filter ≤ 500_000
text_small bytes filter t = let few = few-of 4_096 bytes filter t.0 t.2 in omega arith
