-- Lines begin a document while the machine goes on.
use Rattle.std.proofs.Common.{◌≡◌, ℕ, Bool, true, false, ◌&&◌, ◌||◌, not, List, [], ◌∷◌, ◌++◌, map, refl, ap, ◌∙◌, subst, Option, Some, None, IsSome, ◌↔◌, option_and_then, if◌then◌else◌, ◌==◌}
use Rattle.std.proofs.lemmas.Bool.{and_parts}
use Rattle.std.specs.Cmp.Derive.{both_true}
use Rattle.std.proofs.Common.{inl, inr}
use Rattle.std.proofs.lemmas.List.{map-append}
use Rattle.std.proofs.lemmas.Bool.Decides.{eqb_tells}
use Rattle.std.specs.List.{list_all}
use Rattle.px_text.specs.Names.{is_pyx_name, begins_name, continues_name, begins_part, is_digit, is_letter}
use Rattle.px_reader.specs.Lines.{Line, Opens, Closes, Gives, Says, Passed, Empty, Odd, line_of, without_end, solid, named, until_space}
use Rattle.px_reader.specs.Spelling.{kinds}
use Rattle.px_reader.specs.Verdicts.{Begins}
use Rattle.px_reader.specs.declared.event.Event.TheVariants.{End}
use Rattle.px_reader.specs.Spelling.{is_among, events_of}
use Rattle.px_reader.specs.Lines.{is_outside}
use Rattle.std.proofs.Common.{bytes_eq}
use Rattle.px_reader.specs.declared.event.Event.TheVariants.{Attr}
use Rattle.px_reader.specs.Machine.{State, Before, Attributes, Inside, After, Step, step, step_inside, closed, text_event, reaches}
use Rattle.px_reader.proofs.LineCuts.{without_end-open}
use Rattle.px_reader.specs.Lines.{has_no_feed}
use Rattle.px_reader.proofs.MachineLaws.{spelt_accepted, accepted_spells, reached, reaching, closers, can_end, fails_some, from_some}
use Rattle.std.proofs.lemmas.Option.{cond_some}

solid-append : (a b : List Line) → solid (a ++ b) ≡ solid a ++ solid b
solid-append [] b = refl
solid-append (Empty ∷ a) b = solid-append a b
solid-append (Opens name ∷ a) b = ap (λ ls. Opens name ∷ ls) (solid-append a b)
solid-append (Closes name ∷ a) b = ap (λ ls. Closes name ∷ ls) (solid-append a b)
solid-append (Gives name value ∷ a) b = ap (λ ls. Gives name value ∷ ls) (solid-append a b)
solid-append (Says text ∷ a) b = ap (λ ls. Says text ∷ ls) (solid-append a b)
solid-append (Passed ∷ a) b = ap (λ ls. Passed ∷ ls) (solid-append a b)
solid-append (Odd ∷ a) b = ap (λ ls. Odd ∷ ls) (solid-append a b)

pub kinds-append : (a b : List (List ℕ)) → kinds (a ++ b) ≡ kinds a ++ kinds b
kinds-append a b = ap solid (map-append (λ line. line_of (without_end line)) a b) ∙ solid-append (map (λ line. line_of (without_end line)) a) (map (λ line. line_of (without_end line)) b)

-- whether the elements that are open have names
are_named : State → Bool
are_named Before = true
are_named (Attributes names name outer) = is_pyx_name name && list_all is_pyx_name outer
are_named (Inside text name outer) = is_pyx_name name && list_all is_pyx_name outer
are_named After = true

opens_named : Line → Bool
opens_named (Opens name) = is_pyx_name name
opens_named _ = true

on_if : (P : Line → Type 0) (b : Bool) (x y : Line) → P x → P y → P (if b then x else y)
on_if P true x y p q = p
on_if P false x y p q = q

-- a name has no line feed in it
no_line_feed : (b : ℕ) → continues_name b ≡ true → not (b == 10) ≡ true
no_line_feed b h =
    elim (eqb_tells b 10) [ inl p ↦ absurd (let f : continues_name 10 ≡ true = subst (λ n. continues_name n ≡ true) p.1 h in cc) | inr p ↦ rw p.0 refl ]

pub name_has_none : (bytes : List ℕ) → list_all continues_name bytes ≡ true → has_no_feed bytes ≡ true
name_has_none [] h = refl
name_has_none (b ∷ bytes) h =
    let p = and_parts (continues_name b) (list_all continues_name bytes) h in both_true (no_line_feed b p.0) (name_has_none bytes p.1)

weaker : (a b c d e : Bool) → (a || e) ≡ true → (((a || b) || c) || d || e) ≡ true
weaker true b c d e h = refl
weaker false true c d e h = refl
weaker false false true d e h = refl
weaker false false false true e h = refl
weaker false false false false e h = h

pyx_name_keeps : (b : ℕ) (name : List ℕ) → not (b == 10) ≡ true → is_pyx_name name ≡ true → without_end (b ∷ name) ≡ b ∷ name
pyx_name_keeps b [] h p = absurd (cc)
pyx_name_keeps b (c ∷ name) h p =
    let q = and_parts (begins_name c) (list_all continues_name name) p in
    without_end-open (b ∷ c ∷ name) (both_true h (name_has_none (c ∷ name) (both_true (begins_continues c q.0) q.1)))
  where
    begins_continues : (c : ℕ) → begins_name c ≡ true → continues_name c ≡ true
    begins_continues c e = weaker (begins_part c) (is_digit c) (c == 45) (c == 46) (c == 58) e

-- the line that closes an element
closing_line : List ℕ → List ℕ
closing_line name = 41 ∷ name

closes_line : (name : List ℕ) → is_pyx_name name ≡ true → line_of (without_end (closing_line name)) ≡ Closes name
unfolding closing_line
closes_line name h = rw (pyx_name_keeps 41 name refl h, h) refl

opens_line : (bytes : List ℕ) → opens_named (line_of bytes) ≡ true
unfolding opens_named
opens_line [] = refl
opens_line (b ∷ rest) =
    let P : Line → Type 0 = λ line. opens_named line ≡ true in
    on_if P (b == 40) _ _ (opens_when rest (is_pyx_name rest) refl)
    (on_if P (b == 41) _ _ (on_if P (is_pyx_name rest) _ _ refl refl)
    (on_if P (b == 65) _ _ (on_if P (is_pyx_name (until_space rest)) _ _ refl refl)
    (on_if P (b == 45) _ _ refl (on_if P (b == 63 || is_letter b) _ _ refl refl))))
  where
    opens_when : (name : List ℕ) (t : Bool) → is_pyx_name name ≡ t → opens_named (named (λ x. Opens x) name) ≡ true
    opens_when name true h = rw h h
    opens_when name false h = rw h refl

opens_lines : (lines : List (List ℕ)) → list_all opens_named (kinds lines) ≡ true
opens_lines lines = solid_named (map (λ line. line_of (without_end line)) lines) (each lines)
  where
    each : (lines : List (List ℕ)) → list_all opens_named (map (λ line. line_of (without_end line)) lines) ≡ true
    each [] = refl
    each (line ∷ lines) = both_true (opens_line (without_end line)) (each lines)

    solid_named : (lines : List Line) → list_all opens_named lines ≡ true → list_all opens_named (solid lines) ≡ true
    solid_named [] h = refl
    solid_named (Empty ∷ lines) h = solid_named lines (and_parts (opens_named Empty) (list_all opens_named lines) h).1
    solid_named (Opens name ∷ lines) h = let p = and_parts (opens_named (Opens name)) (list_all opens_named lines) h in both_true p.0 (solid_named lines p.1)
    solid_named (Closes name ∷ lines) h = let p = and_parts (opens_named (Closes name)) (list_all opens_named lines) h in both_true p.0 (solid_named lines p.1)
    solid_named (Gives name value ∷ lines) h = let p = and_parts (opens_named (Gives name value)) (list_all opens_named lines) h in both_true p.0 (solid_named lines p.1)
    solid_named (Says text ∷ lines) h = let p = and_parts (opens_named (Says text)) (list_all opens_named lines) h in both_true p.0 (solid_named lines p.1)
    solid_named (Passed ∷ lines) h = let p = and_parts (opens_named Passed) (list_all opens_named lines) h in both_true p.0 (solid_named lines p.1)
    solid_named (Odd ∷ lines) h = let p = and_parts (opens_named Odd) (list_all opens_named lines) h in both_true p.0 (solid_named lines p.1)

closed_named : (outer : List (List ℕ)) → list_all is_pyx_name outer ≡ true → are_named (closed outer) ≡ true
unfolding are_named
closed_named [] h = refl
closed_named (name ∷ outer) h = h

inside_named : (text name : List ℕ) (outer : List (List ℕ)) (line : Line) (found : Step) → step_inside text name outer line ≡ Some found →
    (is_pyx_name name && list_all is_pyx_name outer) ≡ true → opens_named line ≡ true → are_named found.0 ≡ true
unfolding are_named opens_named
inside_named text name outer (Opens child) found e n h = from_some (λ f. are_named f.0 ≡ true) _ found e (both_true h n)
inside_named text name outer (Closes closing) found e n h =
    let g = cond_some (bytes_eq closing name) (closed outer, text_event text ++ End ∷ []) found e in
    let P : Step → Type 0 = λ f. are_named f.0 ≡ true in
    subst P g.1 (closed_named outer (and_parts (is_pyx_name name) (list_all is_pyx_name outer) n).1)
inside_named text name outer (Gives _ _) found e n h = absurd (cc)
inside_named text name outer (Says more) found e n h = from_some (λ f. are_named f.0 ≡ true) _ found e n
inside_named text name outer Passed found e n h = from_some (λ f. are_named f.0 ≡ true) _ found e n
inside_named text name outer Empty found e n h = absurd (cc)
inside_named text name outer Odd found e n h = absurd (cc)

step_named : (state : State) (line : Line) (found : Step) → step state line ≡ Some found → are_named state ≡ true → opens_named line ≡ true → are_named found.0 ≡ true
unfolding are_named opens_named
step_named Before (Opens name) found e n h = from_some (λ f. are_named f.0 ≡ true) _ found e (both_true h refl)
step_named Before line found e n h =
    let g = cond_some (is_outside line) (Before, []) found e in
    let P : Step → Type 0 = λ f. are_named f.0 ≡ true in
    subst P g.1 refl
step_named (Attributes names name outer) (Gives given value) found e n h =
    let g = fails_some (is_among given names) (Attributes (given ∷ names) name outer, Attr given value ∷ []) found e in
    let P : Step → Type 0 = λ f. are_named f.0 ≡ true in
    subst P g.1 n
step_named (Attributes names name outer) line found e n h = inside_named [] name outer line found e n h
step_named (Inside text name outer) line found e n h = inside_named text name outer line found e n h
step_named After line found e n h =
    let g = cond_some (is_outside line) (After, []) found e in
    let P : Step → Type 0 = λ f. are_named f.0 ≡ true in
    subst P g.1 refl

reaches_named : (lines : List Line) (state found : State) → reaches state lines ≡ Some found → are_named state ≡ true → list_all opens_named lines ≡ true → are_named found ≡ true
reaches_named [] state found e n h = let same : state ≡ found = cc in subst (λ s. are_named s ≡ true) same n
reaches_named (line ∷ lines) state found e n h =
    let p = and_parts (opens_named line) (list_all opens_named lines) h in
    from (step state line) refl e p.0 (λ next q. reaches_named lines next found q) p.1
  where
    from : (s : Option Step) → step state line ≡ s → option_and_then (λ next. reaches next.0 lines) s ≡ Some found → opens_named line ≡ true →
        ((next : State) → reaches next lines ≡ Some found → are_named next ≡ true → list_all opens_named lines ≡ true → are_named found ≡ true) →
        list_all opens_named lines ≡ true → are_named found ≡ true
    from None s e' o ih r = absurd (cc)
    from (Some next) s e' o ih r = ih next.0 e' (step_named state line next s n o) r

-- the lines that end a document from a state, as bytes
closing_lines : State → List (List ℕ)
closing_lines Before = (40 ∷ 97 ∷ []) ∷ (41 ∷ 97 ∷ []) ∷ []
closing_lines (Attributes names name outer) = closing_line name ∷ map closing_line outer
closing_lines (Inside text name outer) = closing_line name ∷ map closing_line outer
closing_lines After = []

closing_kinds : (names : List (List ℕ)) → list_all is_pyx_name names ≡ true → kinds (map closing_line names) ≡ map Closes names
closing_kinds [] h = refl
closing_kinds (name ∷ names) h =
    let p = and_parts (is_pyx_name name) (list_all is_pyx_name names) h in
    rw (closes_line name p.0) (ap (λ ls. Closes name ∷ ls) (closing_kinds names p.1))

closing_are : (state : State) → are_named state ≡ true → kinds (closing_lines state) ≡ closers state
unfolding are_named closing_lines
closing_are Before n = refl
closing_are (Attributes names name outer) n = closing_kinds (name ∷ outer) n
closing_are (Inside text name outer) n = closing_kinds (name ∷ outer) n
closing_are After n = refl

some_is : {A : Type 0} (o : Option A) → IsSome o → (x : A) × (o ≡ Some x)
some_is None h = absurd (cc)
some_is (Some x) h = (x, refl)

named_before : are_named Before ≡ true
unfolding are_named
named_before = refl

-- Lines begin a document exactly where the machine goes on behind them.
pub begins_iff : (lines : List (List ℕ)) → Begins lines ↔ IsSome (reaches Before (kinds lines))
begins_iff lines = (forth, back)
  where
    forth : Begins lines → IsSome (reaches Before (kinds lines))
    forth (more, root, d) =
        let a = spelt_accepted (kinds (lines ++ more)) root d in
        let r = reached (kinds lines) (kinds more) Before (events_of root) (rw kinds-append at a) in
        rw r.2 refl

    back : IsSome (reaches Before (kinds lines)) → Begins lines
    back h =
        let s = some_is (reaches Before (kinds lines)) h in
        let c = can_end s.0 in
        let n = reaches_named (kinds lines) Before s.0 s.1 named_before (opens_lines lines) in
        let whole = reaching (kinds lines) (closers s.0) Before s.0 c.0 s.1 c.1 in
        let same : kinds (lines ++ closing_lines s.0) ≡ kinds lines ++ closers s.0 =
        kinds-append lines (closing_lines s.0) ∙ ap (λ ls. kinds lines ++ ls) (closing_are s.0 n) in
        let t = accepted_spells (kinds lines ++ closers s.0) whole.0 whole.1 in
        (closing_lines s.0, t.0, rw same t.1)
