-- How deep lines are, and how many attributes they give, by the state behind them.
use Rattle.std.proofs.Common.{◌≡◌, ℕ, true, ◌+◌, ◌-◌, List, [], ◌∷◌, ◌++◌, length, refl, ap, sym, ◌∙◌, subst, Some, cond, arith, add-one, bytes_eq}
use Rattle.std.specs.List.{count_by}
use Rattle.std.proofs.lemmas.List.Sums.{sum_by-cons}
use Rattle.px_reader.specs.declared.event.Event.{Event}
use Rattle.px_reader.specs.declared.event.Event.TheVariants.{Attr, End}
use Rattle.px_reader.specs.Lines.{Line, Opens, Closes, Gives, Says, Passed, Empty, Odd, is_outside}
use Rattle.px_reader.specs.Spelling.{is_among}
use Rattle.px_reader.specs.Verdicts.{opens, closes, depth, attributes_behind}
use Rattle.px_reader.specs.Machine.{State, Before, Attributes, Inside, After, Step, step, step_inside, closed, text_event, runs, open_in, attributes_in}
use Rattle.px_reader.proofs.MachineLaws.{fails_some, from_some}
use Rattle.px_reader.proofs.Runs.{goes, step_same}
use Rattle.std.proofs.lemmas.Option.{cond_some}

-- an element more, or an element fewer
abbrev Opened : State → Line → Step → Type 0
Opened state line found = cond (opens line) 1 0 + open_in state ≡ cond (closes line) 1 0 + open_in found.0

closed_opened : (outer : List (List ℕ)) → open_in (closed outer) ≡ length outer
closed_opened [] = refl
closed_opened (name ∷ outer) = omega arith

inside_opened : (text name : List ℕ) (outer : List (List ℕ)) (line : Line) (found : Step) → step_inside text name outer line ≡ Some found → Opened (Inside text name outer) line found
inside_opened text name outer (Opens child) found e = from_some (Opened (Inside text name outer) (Opens child)) _ found e (omega arith)
inside_opened text name outer (Closes closing) found e =
    let g = cond_some (bytes_eq closing name) (closed outer, text_event text ++ End ∷ []) found e in
    let P : Step → Type 0 = Opened (Inside text name outer) (Closes closing) in
    subst P g.1 (omega (arith, closed_opened outer))
inside_opened text name outer (Gives _ _) found e = absurd (cc)
inside_opened text name outer (Says more) found e = from_some (Opened (Inside text name outer) (Says more)) _ found e refl
inside_opened text name outer Passed found e = from_some (Opened (Inside text name outer) Passed) _ found e refl
inside_opened text name outer Empty found e = absurd (cc)
inside_opened text name outer Odd found e = absurd (cc)

outside_opened : (state : State) (line : Line) → is_outside line ≡ true → Opened state line (state, [])
outside_opened state (Opens _) h = absurd (cc)
outside_opened state (Closes _) h = absurd (cc)
outside_opened state (Gives _ _) h = absurd (cc)
outside_opened state (Says _) h = refl
outside_opened state Passed h = refl
outside_opened state Empty h = absurd (cc)
outside_opened state Odd h = absurd (cc)

-- what a line does to the number of open elements
pub step_opened : (state : State) (line : Line) (found : Step) → step state line ≡ Some found →
    cond (opens line) 1 0 + open_in state ≡ cond (closes line) 1 0 + open_in found.0
step_opened Before (Opens name) found e = from_some (Opened Before (Opens name)) _ found e (omega arith)
step_opened Before line found e =
    let g = cond_some (is_outside line) (Before, []) found e in
    let P : Step → Type 0 = Opened Before line in
    subst P g.1 (outside_opened Before line g.0)
step_opened (Attributes names name outer) (Gives given value) found e =
    let g = fails_some (is_among given names) (Attributes (given ∷ names) name outer, Attr given value ∷ []) found e in
    let P : Step → Type 0 = Opened (Attributes names name outer) (Gives given value) in
    subst P g.1 refl
step_opened (Attributes names name outer) line found e = inside_opened [] name outer line found e
step_opened (Inside text name outer) line found e = inside_opened text name outer line found e
step_opened After line found e =
    let g = cond_some (is_outside line) (After, []) found e in
    let P : Step → Type 0 = Opened After line in
    subst P g.1 (outside_opened After line g.0)

counts : (lines : List Line) (state last : State) (given : List Event) → runs state lines ≡ Some (last, given) →
    count_by opens lines + open_in state ≡ count_by closes lines + open_in last
counts [] state last given e = ap (λ (s : State). 0 + open_in s) (step_same (state, []) (last, given) e).0
counts (line ∷ lines) state last given e =
    let g = goes line lines state last given e in
    let o : count_by opens (line ∷ lines) ≡ cond (opens line) 1 0 + count_by opens lines = sum_by-cons (λ (l : Line). cond (opens l) 1 0) line lines in
    let c : count_by closes (line ∷ lines) ≡ cond (closes line) 1 0 + count_by closes lines = sum_by-cons (λ (l : Line). cond (closes l) 1 0) line lines in
    let s = step_opened state line g.found g.steps in
    let ih = counts lines g.found.0 last g.more g.behind in
    added (count_by opens (line ∷ lines)) (count_by closes (line ∷ lines)) (cond (opens line) 1 0) (cond (closes line) 1 0) (count_by opens lines) (count_by closes lines) (open_in state) (open_in g.found.0) (open_in last) o c s ih
  where
    added : (o c p q m n a b d : ℕ) → o ≡ p + m → c ≡ q + n → p + a ≡ q + b → m + b ≡ n + d → o + a ≡ c + d
    added o c p q m n a b d e1 e2 e3 e4 = omega arith

-- how deep lines are
pub depth_is : (lines : List Line) (state : State) (given : List Event) → runs Before lines ≡ Some (state, given) → depth lines ≡ open_in state
depth_is lines state given e = taken (count_by opens lines) (count_by closes lines) (open_in state) (counts lines Before state given e)
  where
    taken : (o c d : ℕ) → o + 0 ≡ c + d → o - c ≡ d
    taken o c d e = omega arith

inside_gives : (text name : List ℕ) (outer : List (List ℕ)) (line : Line) (found : Step) → step_inside text name outer line ≡ Some found → attributes_in found.0 ≡ 0
inside_gives text name outer (Opens child) found e = from_some (λ f. attributes_in f.0 ≡ 0) _ found e refl
inside_gives text name outer (Closes closing) found e =
    let g = cond_some (bytes_eq closing name) (closed outer, text_event text ++ End ∷ []) found e in
    let P : Step → Type 0 = λ f. attributes_in f.0 ≡ 0 in
    subst P g.1 (closed_gives outer)
  where
    closed_gives : (outer : List (List ℕ)) → attributes_in (closed outer) ≡ 0
    closed_gives [] = refl
    closed_gives (name ∷ outer) = refl
inside_gives text name outer (Gives _ _) found e = absurd (cc)
inside_gives text name outer (Says more) found e = from_some (λ f. attributes_in f.0 ≡ 0) _ found e refl
inside_gives text name outer Passed found e = from_some (λ f. attributes_in f.0 ≡ 0) _ found e refl
inside_gives text name outer Empty found e = absurd (cc)
inside_gives text name outer Odd found e = absurd (cc)

-- what a line does to the number of attributes
pub step_gives : (state : State) (line : Line) (lines : List Line) (found : Step) → step state line ≡ Some found →
    attributes_behind (attributes_in state) (line ∷ lines) ≡ attributes_behind (attributes_in found.0) lines
step_gives state line lines found e = by_line state line e
  where
    none : (line : Line) → attributes_in found.0 ≡ 0 → attributes_behind 0 lines ≡ attributes_behind (attributes_in found.0) lines
    none line z = ap (λ n. attributes_behind n lines) (sym z)

    by_inside : (n : ℕ) (text name : List ℕ) (outer : List (List ℕ)) (line : Line) → step_inside text name outer line ≡ Some found →
        attributes_behind n (line ∷ lines) ≡ attributes_behind (attributes_in found.0) lines
    by_inside n text name outer (Opens child) e = none (Opens child) (inside_gives text name outer (Opens child) found e)
    by_inside n text name outer (Closes closing) e = none (Closes closing) (inside_gives text name outer (Closes closing) found e)
    by_inside n text name outer (Gives _ _) e = absurd (cc)
    by_inside n text name outer (Says more) e = none (Says more) (inside_gives text name outer (Says more) found e)
    by_inside n text name outer Passed e = none Passed (inside_gives text name outer Passed found e)
    by_inside n text name outer Empty e = absurd (cc)
    by_inside n text name outer Odd e = absurd (cc)

    by_outside : (state : State) → attributes_in state ≡ 0 → (line : Line) → is_outside line ≡ true → (state, []) ≡ found →
        attributes_behind 0 (line ∷ lines) ≡ attributes_behind (attributes_in found.0) lines
    by_outside state z (Opens _) h q = absurd (cc)
    by_outside state z (Closes _) h q = absurd (cc)
    by_outside state z (Gives _ _) h q = absurd (cc)
    by_outside state z (Says text) h q = none (Says text) (ap (λ (p : Step). attributes_in p.0) (sym q) ∙ z)
    by_outside state z Passed h q = none Passed (ap (λ (p : Step). attributes_in p.0) (sym q) ∙ z)
    by_outside state z Empty h q = absurd (cc)
    by_outside state z Odd h q = absurd (cc)

    by_line : (state : State) (line : Line) → step state line ≡ Some found →
        attributes_behind (attributes_in state) (line ∷ lines) ≡ attributes_behind (attributes_in found.0) lines
    by_line Before (Opens name) e = none (Opens name) (from_some (λ f. attributes_in f.0 ≡ 0) _ found e refl)
    by_line Before line e = let g = cond_some (is_outside line) (Before, []) found e in by_outside Before refl line g.0 g.1
    by_line (Attributes names name outer) (Gives given value) e =
        let g = fails_some (is_among given names) (Attributes (given ∷ names) name outer, Attr given value ∷ []) found e in
        let n : length names + 1 ≡ attributes_in found.0 = add-one (length names) ∙ ap (λ (p : Step). attributes_in p.0) g.1 in
        ap (λ n. attributes_behind n lines) n
    by_line (Attributes names name outer) line e = by_inside (length names) [] name outer line e
    by_line (Inside text name outer) line e = by_inside 0 text name outer line e
    by_line After line e = let g = cond_some (is_outside line) (After, []) found e in by_outside After refl line g.0 g.1

gives_on : (lines : List Line) (state last : State) (given : List Event) → runs state lines ≡ Some (last, given) → attributes_behind (attributes_in state) lines ≡ attributes_in last
gives_on [] state last given e = ap attributes_in (step_same (state, []) (last, given) e).0
gives_on (line ∷ lines) state last given e =
    let g = goes line lines state last given e in
    step_gives state line lines g.found g.steps ∙ gives_on lines g.found.0 last g.more g.behind

-- how many attributes stand at the end of lines
pub attributes_are : (lines : List Line) (state : State) (given : List Event) → runs Before lines ≡ Some (state, given) → attributes_behind 0 lines ≡ attributes_in state
attributes_are lines state given e = gives_on lines Before state given e
