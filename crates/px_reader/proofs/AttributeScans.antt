-- An attribute, the quick way.
use Rattle.std.proofs.Common.{◌≡◌, ℕ, zero, suc, ◌+◌, ◌<◌, ◌≤◌, true, false, List, [], ◌∷◌, ◌++◌, length, take, drop, get_or, length-append, refl, ap, sym, ◌∙◌, subst, Some, Ok, arith, IsUtf8}
use Rattle.std.specs.List.{list_all}
use Rattle.std.proofs.lemmas.List.{drop-drop}
use Rattle.std.proofs.lemmas.List.Folds.{list_all-append}
use Rattle.std.specs.Cmp.Derive.{both_true}
use Rattle.px_text.specs.Names.{is_pyx_name, continues_name}
use Rattle.px_reader.specs.declared.event.Event.TheVariants.{Attr}
use Rattle.px_reader.specs.declared.fault.DocKind.TheVariants.{TooManyAttributes}
use Rattle.px_reader.specs.declared.fault.LineFault.TheVariants.{Kind}
use Rattle.px_reader.specs.declared.phase.Phase.{Phase}
use Rattle.px_reader.specs.declared.phase.Phase.TheVariants as phases
use Rattle.px_reader.specs.Lines.{Gives, line_of, without_end, is_ended, has_no_feed}
use Rattle.px_reader.specs.Machine.{Attributes, step}
use Rattle.px_reader.specs.Plain.{has_no_escape, ends_plain}
use Rattle.px_reader.specs.Scanning.{standing}
use Rattle.px_reader.specs.Spelling.{is_among}
use Rattle.px_reader.specs.Stacks.{is_none}
use Rattle.px_reader.specs.States.{is_giving, Judging, Takes, HasRoom, Refuses}
use Rattle.px_reader.proofs.QuickLines.{gives_is}
use Rattle.px_reader.proofs.TextScans.{feedless_ends}
use Rattle.px_reader.proofs.Begins.{name_has_none}

-- a name, a space and what is behind it
pub parts_are : (rest : List ℕ) (count more : ℕ) → count < length rest → get_or rest count 0 ≡ 32 → take (count + 1 + more) rest ≡ take count rest ++ 32 ∷ take more (drop (count + 1) rest)
parts_are [] count more l e = absurd (omega arith)
parts_are (b ∷ rest) zero more l e = let n : zero + 1 + more ≡ suc more = omega arith in rw (n, e) refl
parts_are (b ∷ rest) (suc count) more l e =
    let n : suc count + 1 + more ≡ suc (count + 1 + more) = omega arith in
    let d : suc count + 1 ≡ suc (count + 1) = omega arith in
    rw (n, d) (ap (λ bs. b ∷ bs) (parts_are rest count more (omega arith) e))

pub get_behind : (rest : List ℕ) (count more : ℕ) → get_or (drop (count + 1) rest) more 0 ≡ get_or rest (count + 1 + more) 0
get_behind [] count more = let n : count + 1 ≡ suc count = omega arith in rw n (none more (count + 1 + more))
  where
    none : (i j : ℕ) → get_or {A = ℕ} [] i 0 ≡ get_or [] j 0
    none zero zero = refl
    none zero (suc j) = refl
    none (suc i) zero = refl
    none (suc i) (suc j) = refl
get_behind (b ∷ rest) zero more = let n : zero + 1 + more ≡ suc more = omega arith in rw n refl
get_behind (b ∷ rest) (suc count) more =
    let n : suc count + 1 + more ≡ suc (count + 1 + more) = omega arith in
    let d : suc count + 1 ≡ suc (count + 1) = omega arith in
    rw (n, d) (get_behind rest count more)

pub behind_behind : (piece rest : List ℕ) (at count : ℕ) → rest ≡ drop (at + 1) piece → drop (count + 1) rest ≡ drop (at + count + 2) piece
behind_behind piece rest at count e =
    let n : at + 1 + (count + 1) ≡ at + count + 2 = omega arith in
    ap (drop (count + 1)) e ∙ drop-drop (count + 1) (at + 1) piece ∙ ap (λ k. drop k piece) n

pub attribute_ends : (name value : List ℕ) → list_all continues_name name ≡ true → has_no_feed value ≡ true → is_ended (65 ∷ ((name ++ 32 ∷ value) ++ 10 ∷ [])) ≡ true
attribute_ends name value n v = feedless_ends 65 (name ++ 32 ∷ value) refl (list_all-append _ name (32 ∷ value) ∙ both_true (name_has_none name n) v)

gives_step : (attributes : List (List ℕ)) (run given value : List ℕ) (names : List (List ℕ)) → is_none names ≡ false → is_among given attributes ≡ false →
    step (standing phases.Giving attributes run names) (Gives given value) ≡ Some (standing phases.Giving (given ∷ attributes) run names, Attr given value ∷ [])
gives_step attributes run given value [] some new = absurd (cc)
gives_step attributes run given value (name ∷ outer) some new = rw new refl

giving_room : (attributes : List (List ℕ)) (run given value : List ℕ) (names : List (List ℕ)) → is_none names ≡ false → length attributes < 256 →
    HasRoom (standing phases.Giving attributes run names) (Gives given value)
giving_room attributes run given value [] some l = absurd (cc)
giving_room attributes run given value (name ∷ outer) some l = l

after_run : (attributes : List (List ℕ)) (run after : List ℕ) (names : List (List ℕ)) → standing phases.Giving attributes after names ≡ standing phases.Giving attributes run names
after_run attributes run after [] = refl
after_run attributes run after (name ∷ outer) = refl

-- `Aname value`, as it is judged
pub attribute_judged : (attributes attributes' : List (List ℕ)) (run after given value : List ℕ) (names : List (List ℕ)) (line : List ℕ) →
    is_none names ≡ false → is_among given attributes ≡ false → length attributes < 256 → attributes' ≡ given ∷ attributes → is_pyx_name given ≡ true → has_no_escape value ≡ true → ends_plain value ≡ true →
    line ≡ 65 ∷ ((given ++ 32 ∷ value) ++ 10 ∷ []) → length given + length value + 2 ≤ 1_048_576 → IsUtf8 line →
    Judging (standing phases.Giving attributes run names) line (Ok tt) (standing phases.Giving attributes' after names) [] (Attr given value ∷ [])
attribute_judged attributes attributes' run after given value names line some new room more n v r e short u =
    let old = standing phases.Giving attributes run names in
    let behind = standing phases.Giving attributes' after names in
    let parts = gives_is given value n v r in
    let content : without_end line ≡ 65 ∷ (given ++ 32 ∷ value) = ap without_end e ∙ parts.0 in
    let kind : line_of (without_end line) ≡ Gives given value = ap (λ l. line_of (without_end l)) e ∙ parts.1 in
    let fits : length (without_end line) ≤ 1_048_576 = let k = ap length content in let m = length-append given (32 ∷ value) in omega arith in
    let state : behind ≡ standing phases.Giving (given ∷ attributes) run names = ap (λ a. standing phases.Giving a after names) more ∙ after_run (given ∷ attributes) run after names in
    let takes : Takes old (Gives given value) (Ok tt) behind [] (Attr given value ∷ []) =
    (giving_room attributes run given value names some room, (Attr given value ∷ [], gives_step attributes run given value names some new ∙ ap (λ s. Some (s, Attr given value ∷ [])) (sym state), refl)) in
    ((fits, u), subst (λ l. Takes old l (Ok tt) behind [] (Attr given value ∷ [])) (sym kind) takes)

-- an attribute too many
pub attribute_many : (phase : Phase) (attributes : List (List ℕ)) (run given value : List ℕ) (names : List (List ℕ)) → is_giving (standing phase attributes run names) ≡ true → is_among given attributes ≡ false →
    256 ≤ length attributes → Refuses (standing phase attributes run names) (Gives given value) (Kind TooManyAttributes)
attribute_many phases.Giving attributes run given value (name ∷ outer) g new many =
    ((Attributes (given ∷ attributes) name outer, Attr given value ∷ []), gives_step attributes run given value (name ∷ outer) refl new, omega arith)
attribute_many phases.Start attributes run given value (name ∷ outer) g new many = absurd (cc)
attribute_many phases.Body attributes run given value (name ∷ outer) g new many = absurd (cc)
attribute_many phases.Start attributes run given value [] g new many = absurd (cc)
attribute_many phases.Giving attributes run given value [] g new many = absurd (cc)
attribute_many phases.Body attributes run given value [] g new many = absurd (cc)
