-- A line of text, the quick way.
use Rattle.std.proofs.Common.{◌≡◌, ℕ, ◌+◌, ◌-◌, ◌<◌, ◌≤◌, true, false, not, List, [], ◌∷◌, ◌++◌, ◌==◌, length, take, drop, refl, ap, sym, ◌∙◌, subst, Some, Ok, arith, IsUtf8}
use Rattle.std.proofs.lemmas.Bool.{and_parts}
use Rattle.px_reader.specs.declared.phase.Phase.{Phase}
use Rattle.px_reader.specs.declared.phase.Phase.TheVariants as phases
use Rattle.px_reader.specs.Lines.{Says, line_of, without_end, is_ended, has_no_feed}
use Rattle.px_reader.specs.Machine.{Inside, step}
use Rattle.px_reader.specs.Plain.{has_no_escape, ends_plain}
use Rattle.px_reader.specs.Scanned.{line_to}
use Rattle.px_reader.specs.Scanning.{standing}
use Rattle.px_reader.specs.Stacks.{is_none}
use Rattle.px_reader.specs.States.{open_text, Judging, Takes}
use Rattle.px_reader.proofs.Feeds.{longer}
use Rattle.px_reader.proofs.QuickLines.{says_is}

-- bytes without a line feed, and one
pub feedless_ends : (b : ℕ) (said : List ℕ) → not (b == 10) ≡ true → has_no_feed said ≡ true → is_ended (b ∷ (said ++ 10 ∷ [])) ≡ true
feedless_ends b [] f n = longer b (10 ∷ []) f refl
feedless_ends b (c ∷ said) f n =
    let p = and_parts (not (c == 10)) (has_no_feed said) n in
    longer b (c ∷ (said ++ 10 ∷ [])) f (feedless_ends c said p.0 p.1)

said_step : (phase : Phase) (attributes : List (List ℕ)) (run said name : List ℕ) (names : List (List ℕ)) →
    step (standing phase attributes run (name ∷ names)) (Says said) ≡ Some (Inside (open_text phase run ++ said) name names, [])
said_step phases.Start attributes run said name names = refl
said_step phases.Giving attributes run said name names = refl
said_step phases.Body attributes run said name names = refl

pub said_in : (piece rest : List ℕ) (at count : ℕ) → rest ≡ drop (at + 1) piece → line_to piece (at + 1) (at + 1 + count) ≡ take count rest
said_in piece rest at count e =
    let n : at + 1 + count - (at + 1) ≡ count = omega arith in
    ap (λ k. take k (drop (at + 1) piece)) n ∙ ap (take count) (sym e)

-- `-text`, as it is judged
pub text_judged : (phase : Phase) (attributes attributes' : List (List ℕ)) (run said after : List ℕ) (names names' : List (List ℕ)) (line : List ℕ) →
    is_none names ≡ false → names' ≡ names → after ≡ open_text phase run ++ said → line ≡ 45 ∷ (said ++ 10 ∷ []) → has_no_escape said ≡ true → ends_plain said ≡ true → length said < 1_048_576 → IsUtf8 line →
    Judging (standing phase attributes run names) line (Ok tt) (standing phases.Body attributes' after names') [] []
text_judged phase attributes attributes' run said after [] names' line some same grown e v r short u = absurd (cc)
text_judged phase attributes attributes' run said after (name ∷ names) names' line some same grown e v r short u =
    let old = standing phase attributes run (name ∷ names) in
    let new = standing phases.Body attributes' after names' in
    let parts = says_is said v r in
    let content : without_end line ≡ 45 ∷ said = ap without_end e ∙ parts.0 in
    let kind : line_of (without_end line) ≡ Says said = ap (λ l. line_of (without_end l)) e ∙ parts.1 in
    let fits : length (without_end line) ≤ 1_048_576 = let k = ap length content in omega arith in
    let state : new ≡ Inside (open_text phase run ++ said) name names = ap (standing phases.Body attributes' after) same ∙ ap (λ t. Inside t name names) grown in
    let takes : Takes old (Says said) (Ok tt) new [] [] =
    (tt, ([], said_step phase attributes run said name names ∙ ap (λ s. Some (s, [])) (sym state), refl)) in
    ((fits, u), subst (λ l. Takes old l (Ok tt) new [] []) (sym kind) takes)
