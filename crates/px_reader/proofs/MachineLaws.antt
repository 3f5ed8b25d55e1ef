-- What the machine accepts is what spells a document.
use Rattle.std.proofs.Common.{◌≡◌, ℕ, Bool, true, false, ◌&&◌, not, List, [], ◌∷◌, ◌++◌, map, refl, ap, sym, ◌∙◌, subst, Option, Some, None, option_and_then, option_map, append_assoc, append-nil, arith, bytes_eq, if◌then◌else◌}
use Rattle.std.proofs.lemmas.Bool.{and_parts}
use Rattle.std.specs.Cmp.Derive.{both_true}
use Rattle.std.specs.List.{list_all, concat}
use Rattle.std.specs.Cmp.Lexicographic.{same_text}
use Rattle.std.proofs.lemmas.Slice.Eq.{bytes_eq-Decides}
use Rattle.px_text.specs.declared.attribute.Attribute.{Attribute}
use Rattle.px_text.specs.Nodes.{Nodes, NoNodes, ElementThen, Root}
use Rattle.px_reader.specs.declared.event.Event.{Event}
use Rattle.px_reader.specs.declared.event.Event.TheVariants.{Start, Attr, End}
use Rattle.px_reader.specs.Lines.{Line, Opens, Closes, Gives, Says, Passed, Empty, Odd, is_outside}
use Rattle.px_reader.specs.Spelling.{Body, nothing, passes, says, element, gives, is_among, are_new, begins_with_text, text_then, attribute_event, events, events_of, IsDocument}
use Rattle.px_reader.specs.Machine.{State, Before, Attributes, Inside, After, Step, step, step_inside, closed, text_event, accepts, reaches}
use Rattle.std.proofs.lemmas.Option.{cond_some}

pub fails_some : {A : Type 0} (b : Bool) (x y : A) → (if b then None else Some x) ≡ Some y → (b ≡ false) × (x ≡ y)
fails_some false x y e = (refl, cc)
fails_some true x y e = absurd (cc)

-- what ends the document behind the body of an element, and the elements round it
abbrev pub Outer : List (List ℕ) → List Line → List Event → Type 0
Outer [] lines evs = (list_all is_outside lines ≡ true) × (evs ≡ [])
Outer (name ∷ outer) lines evs =
    (nodes : Nodes) × (rest : List Line) × (more : List Event) × Body lines nodes (Closes name ∷ rest) × Outer outer rest more
    × (evs ≡ events nodes ++ End ∷ more)

-- a body whose first text has begun
record Run (text : List ℕ) (lines : List Line) (nodes : Nodes) (rest : List Line) : Type 0 where
  texts : List (List ℕ)
  behind : List Line
  after : Nodes
  lines_are : lines ≡ map Says texts ++ behind
  no_text : begins_with_text behind ≡ false
  body : Body behind after rest
  nodes_are : nodes ≡ text_then (text ++ concat texts) after

abbrev FromInside : List ℕ → List ℕ → List (List ℕ) → List Line → List Event → Type 0
FromInside text name outer lines evs =
    (nodes : Nodes) × (rest : List Line) × (more : List Event) × Run text lines nodes (Closes name ∷ rest) × Outer outer rest more
    × (evs ≡ events nodes ++ End ∷ more)

abbrev FromAttributes : List (List ℕ) → List ℕ → List (List ℕ) → List Line → List Event → Type 0
FromAttributes names name outer lines evs =
    (attributes : List Attribute) × (body : List Line) × (more : List Event) × (lines ≡ gives attributes ++ body)
    × (are_new names attributes ≡ true) × FromInside [] name outer body more × (evs ≡ map attribute_event attributes ++ more)

abbrev FromBefore : List Line → List Event → Type 0
FromBefore lines evs =
    (before : List Line) × (name : List ℕ) × (behind : List Line) × (more : List Event) × (lines ≡ before ++ Opens name ∷ behind)
    × (list_all is_outside before ≡ true) × FromAttributes [] name [] behind more × (evs ≡ Start name ∷ more)

abbrev Completes : State → List Line → List Event → Type 0
Completes Before lines evs = FromBefore lines evs
Completes (Attributes names name outer) lines evs = FromAttributes names name outer lines evs
Completes (Inside text name outer) lines evs = FromInside text name outer lines evs
Completes After lines evs = (list_all is_outside lines ≡ true) × (evs ≡ [])

run_said : {rest : List Line} (texts : List (List ℕ)) (behind : List Line) (after : Nodes) → begins_with_text behind ≡ false →
    Body behind after rest → Body (map Says texts ++ behind) (text_then (concat texts) after) rest
run_said [] behind after n b = b
run_said (text ∷ texts) behind after n b = says (text ∷ texts) (omega arith) n b

run_body : {lines rest : List Line} {nodes : Nodes} → Run [] lines nodes rest → Body lines nodes rest
run_body r = rw (r.lines_are, r.nodes_are) (run_said r.texts r.behind r.after r.no_text r.body)

events-text_then : (text : List ℕ) (nodes : Nodes) → events (text_then text nodes) ≡ text_event text ++ events nodes
events-text_then [] nodes = refl
events-text_then (b ∷ text) nodes = refl

-- a line that does not go on with the run of texts
run_ends : (text : List ℕ) {lines rest : List Line} {nodes : Nodes} → begins_with_text lines ≡ false → Body lines nodes rest →
    Run text lines (text_then text nodes) rest
run_ends text {lines} {rest} {nodes} n b =
    record { texts = []; behind = lines; after = nodes; lines_are = refl; no_text = n; body = b; nodes_are = ap (λ t. text_then t nodes) (sym (append-nil text)) }

run_goes_on : (text more : List ℕ) {lines rest : List Line} {nodes : Nodes} → Run (text ++ more) lines nodes rest → Run text (Says more ∷ lines) nodes rest
run_goes_on text more r =
    record { texts = more ∷ r.texts; behind = r.behind; after = r.after; lines_are = ap (λ ls. Says more ∷ ls) r.lines_are; no_text = r.no_text; body = r.body; nodes_are = r.nodes_are ∙ ap (λ t. text_then t r.after) (append_assoc text more (concat r.texts)) }

-- Behind the run of texts comes a line, with what it brings.
inside_ends : (text name : List ℕ) (outer : List (List ℕ)) (lines rest : List Line) (nodes : Nodes) (more : List Event) →
    begins_with_text lines ≡ false → Body lines nodes (Closes name ∷ rest) → Outer outer rest more →
    FromInside text name outer lines (text_event text ++ (events nodes ++ End ∷ more))
inside_ends text name outer lines rest nodes more n b o =
    (text_then text nodes, rest, more, run_ends text n b, o, sym (append_assoc (text_event text) (events nodes) (End ∷ more)) ∙ ap (λ es. es ++ End ∷ more) (sym (events-text_then text nodes)))

pub from_some : {A : Type 0} (P : A → Type 0) (x y : A) → Some x ≡ Some y → P x → P y
from_some P x y e h = let same : x ≡ y = cc in subst P same h

closed_outer : (outer : List (List ℕ)) (lines : List Line) (more : List Event) → Completes (closed outer) lines more → Outer outer lines more
closed_outer [] lines more c = c
closed_outer (name ∷ outer) lines more c = (c.0, c.1, c.2, run_body c.3, c.4, c.5)

element_events : (p a k b m : List Event) (s e : Event) →
    (p ++ s ∷ []) ++ (a ++ (k ++ e ∷ (b ++ e ∷ m))) ≡ p ++ ((s ∷ (a ++ (k ++ e ∷ b))) ++ e ∷ m)
element_events p a k b m s e = simp append_assoc

-- an element that is open, and what ends the elements round it
inside_element : (text name child : List ℕ) (outer : List (List ℕ)) (lines : List Line) (more : List Event) →
    FromAttributes [] child (name ∷ outer) lines more → FromInside text name outer (Opens child ∷ lines) ((text_event text ++ Start child ∷ []) ++ more)
inside_element text name child outer lines more (attributes, body, m, l, d, (nodes, rest, m2, r, (nodes2, rest2, m3, b, o, e3), e2), e1) =
    rw (l, e1, e2, e3, element_events (text_event text) (map attribute_event attributes) (events nodes) (events nodes2) m3 (Start child) End)
    (inside_ends text name outer _ rest2 (ElementThen child attributes nodes nodes2) m3 refl (element child attributes d (run_body r) b) o)

derive_inside : (text name : List ℕ) (outer : List (List ℕ)) (line : Line) (lines : List Line) (found : Step) (more : List Event) →
    step_inside text name outer line ≡ Some found → Completes found.0 lines more → FromInside text name outer (line ∷ lines) (found.1 ++ more)
derive_inside text name outer (Says t) lines found more e c =
    from_some (λ f. Completes f.0 lines more → FromInside text name outer (Says t ∷ lines) (f.1 ++ more)) (Inside (text ++ t) name outer, []) found e
    (λ k. (k.0, k.1, k.2, run_goes_on text t k.3, k.4, k.5)) c
derive_inside text name outer Passed lines found more e c =
    from_some (λ f. Completes f.0 lines more → FromInside text name outer (Passed ∷ lines) (f.1 ++ more)) (Inside [] name outer, text_event text) found e
    (λ k. rw k.5 (inside_ends text name outer (Passed ∷ lines) k.1 k.0 k.2 refl (passes (run_body k.3)) k.4)) c
derive_inside text name outer (Opens child) lines found more e c =
    from_some (λ f. Completes f.0 lines more → FromInside text name outer (Opens child ∷ lines) (f.1 ++ more)) (Attributes [] child (name ∷ outer), text_event text ++ Start child ∷ []) found e
    (inside_element text name child outer lines more) c
derive_inside text name outer (Closes closing) lines found more e c =
    let g = cond_some (bytes_eq closing name) (closed outer, text_event text ++ End ∷ []) found e in
    let same : closing ≡ name = same_text closing name (sym g.0) in
    let P : Step → Type 0 = λ f. Completes f.0 lines more → FromInside text name outer (Closes closing ∷ lines) (f.1 ++ more) in
    subst P g.1
    (λ k. rw (same, append_assoc (text_event text) (End ∷ []) more) (inside_ends text name outer (Closes name ∷ lines) lines NoNodes more refl nothing (closed_outer outer lines more k))) c
derive_inside text name outer (Gives _ _) lines found more e c = absurd (cc)
derive_inside text name outer Empty lines found more e c = absurd (cc)
derive_inside text name outer Odd lines found more e c = absurd (cc)

attributes_end : (names : List (List ℕ)) (name : List ℕ) (outer : List (List ℕ)) (lines : List Line) (evs : List Event) →
    FromInside [] name outer lines evs → FromAttributes names name outer lines evs
attributes_end names name outer lines evs c = ([], lines, evs, refl, refl, c, refl)

outside_more : (line : Line) (lines : List Line) (more : List Event) → is_outside line ≡ true → FromBefore lines more → FromBefore (line ∷ lines) more
outside_more line lines more h (before, name, behind, m, l, o, c, e) = (line ∷ before, name, behind, m, ap (λ ls. line ∷ ls) l, both_true h o, c, e)

-- what a line leaves, and the line before it
derive : (state : State) (line : Line) (lines : List Line) (found : Step) (more : List Event) →
    step state line ≡ Some found → Completes found.0 lines more → Completes state (line ∷ lines) (found.1 ++ more)
derive Before (Opens name) lines found more e c =
    from_some (λ f. Completes f.0 lines more → FromBefore (Opens name ∷ lines) (f.1 ++ more)) (Attributes [] name [], Start name ∷ []) found e
    (λ k. ([], name, lines, more, refl, refl, k, refl)) c
derive Before line lines found more e c =
    let g = cond_some (is_outside line) (Before, []) found e in
    let P : Step → Type 0 = λ f. Completes f.0 lines more → FromBefore (line ∷ lines) (f.1 ++ more) in
    subst P g.1 (λ k. outside_more line lines more g.0 k) c
derive (Attributes names name outer) (Gives given value) lines found more e c =
    let g = fails_some (is_among given names) (Attributes (given ∷ names) name outer, Attr given value ∷ []) found e in
    let P : Step → Type 0 = λ f. Completes f.0 lines more → FromAttributes names name outer (Gives given value ∷ lines) (f.1 ++ more) in
    subst P g.1
    (λ k. (record { name = given; value = value } ∷ k.0, k.1, k.2, ap (λ ls. Gives given value ∷ ls) k.3, both_true (ap not g.0) k.4, k.5, ap (λ es. Attr given value ∷ es) k.6)) c
derive (Attributes names name outer) line lines found more e c =
    attributes_end names name outer (line ∷ lines) (found.1 ++ more) (derive_inside [] name outer line lines found more e c)
derive (Inside text name outer) line lines found more e c = derive_inside text name outer line lines found more e c
derive After line lines found more e c =
    let g = cond_some (is_outside line) (After, []) found e in
    let P : Step → Type 0 = λ f. Completes f.0 lines more → (list_all is_outside (line ∷ lines) ≡ true) × (f.1 ++ more ≡ []) in
    subst P g.1 (λ k. (both_true g.0 k.0, k.1)) c

-- What is accepted has a first step, and is accepted from there.
pub record Goes (state : State) (line : Line) (lines : List Line) (evs : List Event) : Type 0 where
  pub found : Step
  pub more : List Event
  pub steps : step state line ≡ Some found
  pub accepted : accepts found.0 lines ≡ Some more
  pub evs_are : found.1 ++ more ≡ evs

goes_from : (state : State) (line : Line) (lines : List Line) (evs : List Event) (s : Option Step) → step state line ≡ s →
    option_and_then (λ found. option_map (λ more. found.1 ++ more) (accepts found.0 lines)) s ≡ Some evs → Goes state line lines evs
goes_from state line lines evs None h e = absurd (cc)
goes_from state line lines evs (Some found) h e =
    mapped (accepts found.0 lines) refl e
  where
    mapped : (a : Option (List Event)) → accepts found.0 lines ≡ a → option_map (λ more. found.1 ++ more) a ≡ Some evs → Goes state line lines evs
    mapped None k e' = absurd (cc)
    mapped (Some more) k e' = record { found = found; more = more; steps = h; accepted = k; evs_are = cc }

pub goes : (state : State) (line : Line) (lines : List Line) (evs : List Event) → accepts state (line ∷ lines) ≡ Some evs → Goes state line lines evs
goes Before line lines evs e = goes_from Before line lines evs (step Before line) refl e
goes (Attributes names name outer) line lines evs e = goes_from (Attributes names name outer) line lines evs (step (Attributes names name outer) line) refl e
goes (Inside text name outer) line lines evs e = goes_from (Inside text name outer) line lines evs (step (Inside text name outer) line) refl e
goes After line lines evs e = goes_from After line lines evs (step After line) refl e

-- what is accepted completes a document
sound : (lines : List Line) (state : State) (evs : List Event) → accepts state lines ≡ Some evs → Completes state lines evs
sound [] Before evs e = absurd (cc)
sound [] (Attributes names name outer) evs e = absurd (cc)
sound [] (Inside text name outer) evs e = absurd (cc)
sound [] After evs e = (refl, cc)
sound (line ∷ lines) state evs e =
    let g = goes state line lines evs e in
    let c = derive state line lines g.found g.more g.steps (sound lines g.found.0 g.more g.accepted) in
    subst (λ es. Completes state (line ∷ lines) es) g.evs_are c

-- a document that is accepted spells a tree with these events
pub accepted_spells : (lines : List Line) (evs : List Event) → accepts Before lines ≡ Some evs → (root : Root) × IsDocument lines root × (evs ≡ events_of root)
accepted_spells lines evs e =
    let c : FromBefore lines evs = sound lines Before evs e in
    spelt c
  where
    spelt : FromBefore lines evs → (root : Root) × IsDocument lines root × (evs ≡ events_of root)
    spelt (before, name, behind, m, l, o, (attributes, body, m2, l2, d, (nodes, rest, m3, r, outer, e3), e2), e1) = (
      record { name = name; attributes = attributes; children = nodes },
      record { before = before; body = body; after = rest; whole = l ∙ ap (λ ls. before ++ Opens name ∷ ls) l2; differ = d; children = run_body r; outside = both_true o outer.0 },
      rw (e1, e2, e3, outer.1) refl,
    )

-- the rest of an element is accepted behind any run of texts
abbrev Ends : List ℕ → List (List ℕ) → List Line → List Event → Type 0
Ends name outer rest evs = (text : List ℕ) → accepts (Inside text name outer) rest ≡ Some (text_event text ++ evs)

closing : (name : List ℕ) (outer : List (List ℕ)) (rest : List Line) (more : List Event) → accepts (closed outer) rest ≡ Some more →
    Ends name outer (Closes name ∷ rest) (End ∷ more)
closing name outer rest more e text =
    let same : bytes_eq name name ≡ true = (bytes_eq-Decides name name).1 refl in
    rw (same, e) (ap Some (append_assoc (text_event text) (End ∷ []) more))

texts_run : (texts : List (List ℕ)) (text name : List ℕ) (outer : List (List ℕ)) (lines : List Line) (evs : List Event) →
    accepts (Inside (text ++ concat texts) name outer) lines ≡ Some evs → accepts (Inside text name outer) (map Says texts ++ lines) ≡ Some evs
texts_run [] text name outer lines evs e = rw append-nil at e
texts_run (t ∷ texts) text name outer lines evs e =
    rw (texts_run texts (text ++ t) name outer lines evs (rw append_assoc e)) refl

not_and : (b c : Bool) → (not b && c) ≡ true → (b ≡ false) × (c ≡ true)
not_and false c e = (refl, e)
not_and true c e = absurd (cc)

attributes_run : (attributes : List Attribute) (names : List (List ℕ)) (name : List ℕ) (outer : List (List ℕ)) (body : List Line) (evs : List Event) →
    are_new names attributes ≡ true → ((names : List (List ℕ)) → accepts (Attributes names name outer) body ≡ Some evs) →
    accepts (Attributes names name outer) (gives attributes ++ body) ≡ Some (map attribute_event attributes ++ evs)
attributes_run [] names name outer body evs d k = k names
attributes_run (a ∷ attributes) names name outer body evs d k =
    let fresh = not_and (is_among a.name names) (are_new (a.name ∷ names) attributes) d in
    rw (fresh.0, attributes_run attributes (a.name ∷ names) name outer body evs fresh.1 k) refl

begins_with_attribute : List Line → Bool
begins_with_attribute (Gives _ _ ∷ lines) = true
begins_with_attribute _ = false

-- where no attribute comes, it is all one
no_attribute : (lines : List Line) (names : List (List ℕ)) (name : List ℕ) (outer : List (List ℕ)) → begins_with_attribute lines ≡ false →
    accepts (Attributes names name outer) lines ≡ accepts (Inside [] name outer) lines
unfolding begins_with_attribute
no_attribute [] names name outer h = refl
no_attribute (Opens _ ∷ lines) names name outer h = refl
no_attribute (Closes _ ∷ lines) names name outer h = refl
no_attribute (Gives _ _ ∷ lines) names name outer h = absurd (cc)
no_attribute (Says _ ∷ lines) names name outer h = refl
no_attribute (Passed ∷ lines) names name outer h = refl
no_attribute (Empty ∷ lines) names name outer h = refl
no_attribute (Odd ∷ lines) names name outer h = refl

body_begins : {lines rest : List Line} {nodes : Nodes} → Body lines nodes rest → begins_with_attribute rest ≡ false → begins_with_attribute lines ≡ false
unfolding begins_with_attribute
body_begins nothing h = h
body_begins (passes b) h = refl
body_begins (says [] some n b) h = absurd (omega arith)
body_begins (says (text ∷ texts) some n b) h = refl
body_begins (element name attributes d b c) h = refl

closes_begins : (name : List ℕ) (lines : List Line) → begins_with_attribute (Closes name ∷ lines) ≡ false
unfolding begins_with_attribute
closes_begins name lines = refl

-- a text has begun only where no further text follows
abbrev Fits : List ℕ → List Line → Type 0
Fits text lines = begins_with_text lines ≡ true → text ≡ []

body_runs : {lines rest : List Line} {nodes : Nodes} → Body lines nodes rest → (text name : List ℕ) (outer : List (List ℕ)) (evs : List Event) →
    Fits text lines → Ends name outer rest evs → accepts (Inside text name outer) lines ≡ Some (text_event text ++ (events nodes ++ evs))
body_runs nothing text name outer evs f k = k text
body_runs (passes b) text name outer evs f k = rw (body_runs b [] name outer evs (λ _. refl) k) refl
body_runs (says [] some n b) text name outer evs f k = absurd (omega arith)
body_runs (says {lines = lines} {nodes = nodes} (t ∷ texts) some n b) text name outer evs f k =
    let none : text ≡ [] = f refl in
    let whole = concat (t ∷ texts) in
    let ran : accepts (Inside whole name outer) lines ≡ Some (text_event whole ++ (events nodes ++ evs)) =
    body_runs b whole name outer evs (λ h. absurd (cc)) k in
    let here = texts_run (t ∷ texts) [] name outer lines (text_event whole ++ (events nodes ++ evs)) ran in
    rw (none, events-text_then whole nodes, append_assoc) here
body_runs (element {body = body} {lines = lines} {children = children} {nodes = nodes} child attributes d b c) text name outer evs f k =
    let after : accepts (Inside [] name outer) lines ≡ Some (events nodes ++ evs) = body_runs c [] name outer evs (λ _. refl) k in
    let inner : accepts (Inside [] child (name ∷ outer)) body ≡ Some (events children ++ End ∷ (events nodes ++ evs)) =
    body_runs b [] child (name ∷ outer) (End ∷ (events nodes ++ evs)) (λ _. refl) (closing child (name ∷ outer) lines (events nodes ++ evs) after) in
    let run : accepts (Attributes [] child (name ∷ outer)) (gives attributes ++ body) ≡ Some (map attribute_event attributes ++ (events children ++ End ∷ (events nodes ++ evs))) =
    attributes_run attributes [] child (name ∷ outer) body (events children ++ End ∷ (events nodes ++ evs)) d
    (λ names. no_attribute body names child (name ∷ outer) (body_begins b (closes_begins child lines)) ∙ inner) in
    rw run (ap Some (simp append_assoc))

outside_step : (line : Line) → is_outside line ≡ true → (step Before line ≡ Some (Before, [])) × (step After line ≡ Some (After, []))
outside_step (Opens _) h = absurd (cc)
outside_step (Closes _) h = absurd (cc)
outside_step (Gives _ _) h = absurd (cc)
outside_step (Says text) h = (rw h refl, rw h refl)
outside_step Passed h = (refl, refl)
outside_step Empty h = absurd (cc)
outside_step Odd h = absurd (cc)

after_runs : (lines : List Line) → list_all is_outside lines ≡ true → accepts After lines ≡ Some []
after_runs [] h = refl
after_runs (line ∷ lines) h =
    let p = and_parts (is_outside line) (list_all is_outside lines) h in
    rw ((outside_step line p.0).1, after_runs lines p.1) refl

before_runs : (before lines : List Line) (evs : List Event) → list_all is_outside before ≡ true → accepts Before lines ≡ Some evs → accepts Before (before ++ lines) ≡ Some evs
before_runs [] lines evs h e = e
before_runs (line ∷ before) lines evs h e =
    let p = and_parts (is_outside line) (list_all is_outside before) h in
    rw ((outside_step line p.0).0, before_runs before lines evs p.1 e) refl

-- what spells a tree is accepted, with the tree's events
pub spelt_accepted : (lines : List Line) (root : Root) → IsDocument lines root → accepts Before lines ≡ Some (events_of root)
spelt_accepted lines root d =
    let o = and_parts (list_all is_outside d.before) (list_all is_outside d.after) d.outside in
    let inner : accepts (Inside [] root.name []) d.body ≡ Some (events root.children ++ End ∷ []) =
    body_runs d.children [] root.name [] (End ∷ []) (λ _. refl) (closing root.name [] d.after [] (after_runs d.after o.1)) in
    let run : accepts (Attributes [] root.name []) (gives root.attributes ++ d.body) ≡ Some (map attribute_event root.attributes ++ (events root.children ++ End ∷ [])) =
    attributes_run root.attributes [] root.name [] d.body (events root.children ++ End ∷ []) d.differ
    (λ names. no_attribute d.body names root.name [] (body_begins d.children (closes_begins root.name d.after)) ∙ inner) in
    let rooted : accepts Before (Opens root.name ∷ gives root.attributes ++ d.body) ≡ Some (events_of root) = rw run refl in
    rw d.whole (before_runs d.before _ (events_of root) o.0 rooted)

-- what is accepted behind lines is accepted from the state that they reach
pub reached : (lines more : List Line) (state : State) (evs : List Event) → accepts state (lines ++ more) ≡ Some evs →
    (found : State) × (rest : List Event) × (reaches state lines ≡ Some found) × (accepts found more ≡ Some rest)
reached [] more state evs e = (state, evs, refl, e)
reached (line ∷ lines) more state evs e =
    let g = goes state line (lines ++ more) evs e in
    let r = reached lines more g.found.0 g.more g.accepted in
    (r.0, r.1, rw g.steps r.2, r.3)

pub accepted_from : (state found : State) (line : Line) (lines : List Line) (bring evs : List Event) → step state line ≡ Some (found, bring) →
    accepts found lines ≡ Some evs → accepts state (line ∷ lines) ≡ Some (bring ++ evs)
accepted_from Before found line lines bring evs s e = rw (s, e) refl
accepted_from (Attributes _ _ _) found line lines bring evs s e = rw (s, e) refl
accepted_from (Inside _ _ _) found line lines bring evs s e = rw (s, e) refl
accepted_from After found line lines bring evs s e = rw (s, e) refl

pub reaching : (lines more : List Line) (state found : State) (evs : List Event) → reaches state lines ≡ Some found → accepts found more ≡ Some evs →
    (all : List Event) × (accepts state (lines ++ more) ≡ Some all)
reaching [] more state found evs r e = (evs, let same : state ≡ found = cc in rw same e)
reaching (line ∷ lines) more state found evs r e = from (step state line) refl r (λ next. reaching lines more next found evs)
  where
    from : (s : Option Step) → step state line ≡ s → option_and_then (λ next. reaches next.0 lines) s ≡ Some found →
        ((next : State) → reaches next lines ≡ Some found → accepts found more ≡ Some evs → (all : List Event) × (accepts next (lines ++ more) ≡ Some all)) →
        (all : List Event) × (accepts state (line ∷ lines ++ more) ≡ Some all)
    from None h r' ih = absurd (cc)
    from (Some next) h r' ih =
        let i = ih next.0 r' e in
        (next.1 ++ i.0, accepted_from state next.0 line (lines ++ more) next.1 i.0 h i.1)

-- the lines that end a document from a state
abbrev pub closers : State → List Line
closers Before = Opens (97 ∷ []) ∷ Closes (97 ∷ []) ∷ []
closers (Attributes names name outer) = Closes name ∷ map Closes outer
closers (Inside text name outer) = Closes name ∷ map Closes outer
closers After = []

closers_outer : (outer : List (List ℕ)) → (evs : List Event) × (accepts (closed outer) (map Closes outer) ≡ Some evs)
closers_outer [] = ([], refl)
closers_outer (name ∷ outer) =
    let r = closers_outer outer in (End ∷ r.0, closing name outer (map Closes outer) r.0 r.1 [])

-- every state can still end a document
pub can_end : (state : State) → (evs : List Event) × (accepts state (closers state) ≡ Some evs)
can_end Before = (Start (97 ∷ []) ∷ End ∷ [], refl)
can_end (Attributes names name outer) =
    let r = closers_outer outer in (End ∷ r.0, closing name outer (map Closes outer) r.0 r.1 [])
can_end (Inside text name outer) =
    let r = closers_outer outer in (text_event text ++ End ∷ r.0, closing name outer (map Closes outer) r.0 r.1 text)
can_end After = ([], refl)
