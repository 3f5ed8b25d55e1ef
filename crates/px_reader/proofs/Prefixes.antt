-- Events that were given begin those of some tree, and are few.
use Rattle.std.proofs.Common.{◌≡◌, ℕ, suc, ◌+◌, ◌≤◌, List, [], ◌∷◌, ◌++◌, length, map, refl, ap, sym, ◌∙◌, subst, Some, length-append, arith, bytes_eq}
use Rattle.std.specs.List.{sum_by}
use Rattle.std.proofs.lemmas.List.Sums.{sum_by-cons}
use Rattle.px_reader.specs.declared.event.Event.{Event}
use Rattle.px_reader.specs.declared.event.Event.TheVariants.{Attr, End}
use Rattle.px_reader.specs.Lines.{Line, Opens, Closes, Gives, Says, Passed, Empty, Odd, is_outside, lines_of, line_of, without_end, solid}
use Rattle.px_reader.specs.Spelling.{is_among, kinds}
use Rattle.px_reader.specs.Machine.{State, Before, Attributes, Inside, After, Step, step, step_inside, closed, text_event, runs}
use Rattle.px_reader.specs.Judged.{BeginsTree}
use Rattle.px_reader.proofs.MachineLaws.{fails_some, from_some, can_end, closers, accepted_spells}
use Rattle.px_reader.proofs.Runs.{goes, step_same, accepts-append}
use Rattle.px_reader.proofs.LineCuts.{sizes}
use Rattle.px_reader.proofs.Spelt.{document_tree}
use Rattle.std.proofs.lemmas.Option.{cond_some}

-- what lines give begins the events of some tree
pub given_begins : (lines : List Line) (state : State) (given : List Event) → runs Before lines ≡ Some (state, given) → BeginsTree given
given_begins lines state given e =
    let c = can_end state in
    let whole = accepts-append lines (closers state) Before state given c.0 e c.1 in
    let t = accepted_spells (lines ++ closers state) (given ++ c.0) whole in
    (t.0, c.0, document_tree (lines ++ closers state) t.0 t.1, sym t.2)

-- whether a text waits for the end of its run
abbrev pub waiting : State → ℕ
waiting (Inside text name outer) = length (text_event text)
waiting _ = 0

waiting_few : (state : State) → waiting state ≤ 1
waiting_few Before = omega arith
waiting_few (Attributes names name outer) = omega arith
waiting_few (Inside [] name outer) = omega arith
waiting_few (Inside (b ∷ text) name outer) = omega arith
waiting_few After = omega arith

-- a line gives one event, and the text that waits
abbrev Few : State → Step → Type 0
Few state found = length found.1 + waiting found.0 ≤ waiting state + 1

inside_few : (text name : List ℕ) (outer : List (List ℕ)) (line : Line) (found : Step) → step_inside text name outer line ≡ Some found → Few (Inside text name outer) found
inside_few text name outer (Opens child) found e = from_some (Few (Inside text name outer)) _ found e (rw length-append (omega arith))
inside_few text name outer (Closes closing) found e =
    let g = cond_some (bytes_eq closing name) (closed outer, text_event text ++ End ∷ []) found e in
    let P : Step → Type 0 = Few (Inside text name outer) in
    subst P g.1 (rw (length-append, none outer) (omega arith))
  where
    none : (outer : List (List ℕ)) → waiting (closed outer) ≡ 0
    none [] = refl
    none (name ∷ outer) = refl
inside_few text name outer (Gives _ _) found e = absurd (cc)
inside_few text name outer (Says more) found e =
    from_some (Few (Inside text name outer)) (Inside (text ++ more) name outer, []) found e (let w = waiting_few (Inside (text ++ more) name outer) in omega (arith, w))
inside_few text name outer Passed found e = from_some (Few (Inside text name outer)) _ found e (omega arith)
inside_few text name outer Empty found e = absurd (cc)
inside_few text name outer Odd found e = absurd (cc)

-- what a line gives
pub step_few : (state : State) (line : Line) (found : Step) → step state line ≡ Some found → length found.1 + waiting found.0 ≤ waiting state + 1
step_few Before (Opens name) found e = from_some (Few Before) _ found e (omega arith)
step_few Before line found e =
    let g = cond_some (is_outside line) (Before, []) found e in
    let P : Step → Type 0 = Few Before in
    subst P g.1 (omega arith)
step_few (Attributes names name outer) (Gives given value) found e =
    let g = fails_some (is_among given names) (Attributes (given ∷ names) name outer, Attr given value ∷ []) found e in
    let P : Step → Type 0 = Few (Attributes names name outer) in
    subst P g.1 (omega arith)
step_few (Attributes names name outer) line found e = inside_few [] name outer line found e
step_few (Inside text name outer) line found e = inside_few text name outer line found e
step_few After line found e =
    let g = cond_some (is_outside line) (After, []) found e in
    let P : Step → Type 0 = Few After in
    subst P g.1 (omega arith)

few_from : (lines : List Line) (state last : State) (given : List Event) → runs state lines ≡ Some (last, given) → length given + waiting last ≤ length lines + waiting state
few_from [] state last given e =
    let same = step_same (state, []) (last, given) e in
    let n : 0 ≡ length given = ap length same.1 in
    let w : waiting state ≡ waiting last = ap waiting same.0 in
    omega (arith, n, w)
few_from (line ∷ lines) state last given e =
    let g = goes line lines state last given e in
    let few = step_few state line g.found g.steps in
    let ih = few_from lines g.found.0 last g.more g.behind in
    let n : length g.found.1 + length g.more ≡ length given = sym (length-append g.found.1 g.more) ∙ ap length g.given_are in
    added (length g.found.1) (length g.more) (length given) (length lines) (waiting state) (waiting g.found.0) (waiting last) few ih n
  where
    added : (f m n l a b c : ℕ) → f + b ≤ a + 1 → m + c ≤ l + b → f + m ≡ n → n + c ≤ suc l + a
    added f m n l a b c p q r = omega arith

-- there are no more events than lines
pub given_few : (lines : List Line) (state : State) (given : List Event) → runs Before lines ≡ Some (state, given) → length given ≤ length lines
given_few lines state given e = let few = few_from lines Before state given e in omega (arith, few)

solid_cons : (line : Line) (lines : List Line) → length (solid (line ∷ lines)) ≤ length (solid lines) + 1
solid_cons (Opens name) lines = omega arith
solid_cons (Closes name) lines = omega arith
solid_cons (Gives name value) lines = omega arith
solid_cons (Says text) lines = omega arith
solid_cons Passed lines = omega arith
solid_cons Empty lines = omega arith
solid_cons Odd lines = omega arith

-- there are no more lines that are not empty than bytes in them
pub kinds-le-bytes : (lines : List (List ℕ)) → length (kinds lines) ≤ sum_by length lines
kinds-le-bytes [] = omega arith
kinds-le-bytes ([] ∷ lines) = let n = sum_by-cons length [] lines in let ih = kinds-le-bytes lines in omega (arith, n, ih)
kinds-le-bytes ((b ∷ line) ∷ lines) =
    let n = sum_by-cons length (b ∷ line) lines in
    let ih = kinds-le-bytes lines in
    let s = solid_cons (line_of (without_end (b ∷ line))) (map (λ line. line_of (without_end line)) lines) in
    added (length (kinds ((b ∷ line) ∷ lines))) (length (kinds lines)) (sum_by length lines) (length line) (sum_by length ((b ∷ line) ∷ lines)) s ih n
  where
    added : (a k s l w : ℕ) → a ≤ k + 1 → k ≤ s → w ≡ suc l + s → a ≤ w
    added a k s l w p q r = omega arith

pub kinds_few : (bytes : List ℕ) → length (kinds (lines_of bytes)) ≤ length bytes
kinds_few bytes = let k = kinds-le-bytes (lines_of bytes) in let n = sizes bytes in small (length (kinds (lines_of bytes))) (sum_by length (lines_of bytes)) (length bytes) k n
  where
    small : (a b c : ℕ) → a ≤ b → b ≡ c → a ≤ c
    small a b c p q = omega arith
