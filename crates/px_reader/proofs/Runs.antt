-- Where lines lead with the events that they bring, one line and some lines more.
use Rattle.std.proofs.Common.{◌≡◌, List, [], ◌∷◌, ◌++◌, refl, ap, sym, ◌∙◌, Option, Some, None, option_and_then, option_map, append_assoc, append-nil}
use Rattle.px_reader.specs.declared.event.Event.{Event}
use Rattle.px_reader.specs.Lines.{Line, Opens, Closes, Gives, Says, Passed, Empty, Odd, solid}
use Rattle.px_reader.specs.Machine.{State, Step, step, accepts, reaches, runs}
use Rattle.px_reader.proofs.MachineLaws.{accepted_from}

-- one step by its state and its events
pub step_same : (p q : Step) → Some p ≡ Some q → (p.0 ≡ q.0) × (p.1 ≡ q.1)
step_same p q e = let same : p ≡ q = cc in (ap (λ (s : Step). s.0) same, ap (λ (s : Step). s.1) same)

-- What runs has a first step, and runs from there.
pub record Goes (state : State) (line : Line) (lines : List Line) (last : State) (given : List Event) : Type 0 where
  pub found : Step
  pub more : List Event
  pub steps : step state line ≡ Some found
  pub behind : runs found.0 lines ≡ Some (last, more)
  pub given_are : found.1 ++ more ≡ given

pub goes : (line : Line) (lines : List Line) (state last : State) (given : List Event) → runs state (line ∷ lines) ≡ Some (last, given) → Goes state line lines last given
goes line lines state last given e = from (step state line) refl e
  where
    mapped : (found : Step) → step state line ≡ Some found → (r : Option Step) → runs found.0 lines ≡ r →
        option_map {U = Step} (λ last. (last.0, found.1 ++ last.1)) r ≡ Some (last, given) → Goes state line lines last given
    mapped found s None k e' = absurd (cc)
    mapped found s (Some more) k e' =
        let same = step_same (more.0, found.1 ++ more.1) (last, given) e' in
        record { found = found; more = more.1; steps = s; behind = k ∙ ap (λ (s : State). Some (s, more.1)) same.0; given_are = same.1 }

    from : (s : Option Step) → step state line ≡ s →
        option_and_then {U = Step} (λ found. option_map {U = Step} (λ last. (last.0, found.1 ++ last.1)) (runs found.0 lines)) s ≡ Some (last, given) → Goes state line lines last given
    from None s e' = absurd (cc)
    from (Some found) s e' = mapped found s (runs found.0 lines) refl e'

pub runs_one : (state : State) (line : Line) (found : Step) → step state line ≡ Some found → runs state (line ∷ []) ≡ Some found
runs_one state line found s = rw s (ap (λ given. Some (found.0, given)) (append-nil found.1))

-- lines that run, and lines that run behind them
pub runs-append : (lines more : List Line) (state middle last : State) (given brought : List Event) →
    runs state lines ≡ Some (middle, given) → runs middle more ≡ Some (last, brought) → runs state (lines ++ more) ≡ Some (last, given ++ brought)
runs-append [] more state middle last given brought e f =
    let same = step_same (state, []) (middle, given) e in
    rw (same.0, ← same.1) f
runs-append (line ∷ lines) more state middle last given brought e f =
    let g = goes line lines state middle given e in
    let ih = runs-append lines more g.found.0 middle last g.more brought g.behind f in
    rw (g.steps, ih) (ap (λ (es : List Event). Some (last, es)) (sym (append_assoc g.found.1 g.more brought) ∙ ap (λ es. es ++ brought) g.given_are))

-- what runs reaches its state
pub runs_reaches : (lines : List Line) (state last : State) (given : List Event) → runs state lines ≡ Some (last, given) → reaches state lines ≡ Some last
runs_reaches [] state last given e = ap (λ (s : State). Some s) (step_same (state, []) (last, given) e).0
runs_reaches (line ∷ lines) state last given e =
    let g = goes line lines state last given e in
    rw g.steps (runs_reaches lines g.found.0 last g.more g.behind)

-- from where some lines lead, all that comes behind them leads on
pub reaches-append : (lines more : List Line) (state middle : State) → reaches state lines ≡ Some middle → reaches state (lines ++ more) ≡ reaches middle more
reaches-append [] more state middle e = let same : state ≡ middle = cc in ap (λ s. reaches s more) same
reaches-append (line ∷ lines) more state middle e = from (step state line) e (λ found h. reaches-append lines more found middle h)
  where
    from : (s : Option Step) → option_and_then (λ found. reaches found.0 lines) s ≡ Some middle →
        ((found : State) → reaches found lines ≡ Some middle → reaches found (lines ++ more) ≡ reaches middle more) →
        option_and_then (λ found. reaches found.0 (lines ++ more)) s ≡ reaches middle more
    from None h ih = absurd (cc)
    from (Some found) h ih = ih found.0 h

-- what is accepted behind lines that run
pub accepts-append : (lines more : List Line) (state middle : State) (given rest : List Event) →
    runs state lines ≡ Some (middle, given) → accepts middle more ≡ Some rest → accepts state (lines ++ more) ≡ Some (given ++ rest)
accepts-append [] more state middle given rest e f =
    let same = step_same (state, []) (middle, given) e in
    rw (same.0, ← same.1) f
accepts-append (line ∷ lines) more state middle given rest e f =
    let g = goes line lines state middle given e in
    let ih = accepts-append lines more g.found.0 middle g.more rest g.behind f in
    let whole = accepted_from state g.found.0 line (lines ++ more) g.found.1 (g.more ++ rest) g.steps ih in
    rw (← g.given_are, append_assoc) whole

-- a line that is not empty is one line of its kind
pub solid_one : (line : Line) → (line ≡ Empty → ⊥) → solid (line ∷ []) ≡ line ∷ []
solid_one (Opens name) n = refl
solid_one (Closes name) n = refl
solid_one (Gives name value) n = refl
solid_one (Says text) n = refl
solid_one Passed n = refl
solid_one Empty n = absurd (n refl)
solid_one Odd n = refl
