-- How what is read of the parts makes what is read of the whole.
use Rattle.std.proofs.Common.{◌≡◌, ℕ, ◌+◌, ◌<◌, true, List, [], ◌∷◌, length, Some, Result, Ok, Err, refl, ap, sym, ◌∙◌, arith}
use Rattle.px_xpath.specs.declared.filter.Axis.{Axis}
use Rattle.px_xpath.specs.declared.filter.Axis.TheVariants.{Child, Below}
use Rattle.px_xpath.specs.declared.filter.Test.{Test}
use Rattle.px_xpath.specs.declared.filter.Step.{Step}
use Rattle.px_xpath.specs.declared.filter.Cond.{Cond}
use Rattle.px_xpath.specs.declared.descent.Bracket.{Bracket}
use Rattle.px_xpath.specs.declared.descent.Bracket.TheVariants as bracket
use Rattle.px_xpath.specs.declared.descent.Stop.{Stop}
use Rattle.px_xpath.specs.Filters.{Way, Arrived, StepThen, Condition, Conditions, NoConditions, CondThen}
use Rattle.px_xpath.specs.Views.{condition, conditions, ways}
use Rattle.px_xpath.specs.Tokens as tokens
use Rattle.px_xpath.specs.Tokens.{Token, Placed}
use Rattle.px_xpath.specs.Faults.{words}
use Rattle.px_xpath.specs.Grammar.{Stands, last_element, element, no_pred, pred, one_and, ors, last_or, more_ors, one_unary, ands, last_and, more_ands, Phrase, Steps, Preds, Or, Ors, And, Ands, Unary, Relative, separator, element_test}
use Rattle.px_xpath.specs.Machine.{Around, Whole, Within, Group, Square, Round, BeforeStep, BehindElement, BehindLast, BeforeUnary, BehindUnary, step}
use Rattle.px_xpath.specs.Leads.{Leads, stays, Stops, height_around, height_in, fits}
use Rattle.px_xpath.specs.Reads.{Takes, TakesElement, ComesNot, Rest, rest_of, conditions_onto, ways_onto, each_of, some_of, is_and, is_or, is_open_square, is_separator, closer, kind, behind_closed, LeadsPast, StopsInside, ReadsUnary, ReadsAnds, ReadsOrs, ReadsClosed, ReadsPreds, ReadsSteps, Compares}
use Rattle.px_xpath.proofs.Walks.{spelt, move, here, leads_then, stops_behind, one_less, step_on}
use Rattle.px_xpath.proofs.Stuck.{as_last}
use Rattle.px_xpath.proofs.Phrases.{shallow}
use Rattle.px_xpath.proofs.Shorter.{shorter_placed, shorter_closed}

onto_none : (cs : List Cond) → conditions_onto cs NoConditions ≡ conditions cs
onto_none [] = refl
onto_none (c ∷ cs) = ap (CondThen (condition c)) (onto_none cs)

onto_arrived : (ss : List Step) → ways_onto ss Arrived ≡ ways ss
onto_arrived [] = refl
onto_arrived (s ∷ ss) = ap (StepThen s.axis s.test (conditions s.conds)) (onto_arrived ss)

and_moves : (group : Group) → step (BehindUnary group) tokens.AndWord ≡ Some (BeforeUnary group)
and_moves (Square around) = refl
and_moves (Round group) = refl

or_moves : (group : Group) → step (BehindUnary group) tokens.OrWord ≡ Some (BeforeUnary group)
or_moves (Square around) = refl
or_moves (Round group) = refl

past_and : (spare : ℕ) (ts rest behind : List Placed) → LeadsPast spare ts rest → Takes tokens.AndWord rest behind →
    (group : Group) → height_in group + spare ≡ 64 → Leads (BeforeUnary group) ts (BeforeUnary group) behind
past_and spare ts rest behind l t group h =
    leads_then (l group h) (move (BehindUnary group) (BeforeUnary group) tokens.AndWord rest behind (and_moves group) refl t)

past_or : (spare : ℕ) (ts rest behind : List Placed) → LeadsPast spare ts rest → Takes tokens.OrWord rest behind →
    (group : Group) → height_in group + spare ≡ 64 → Leads (BeforeUnary group) ts (BeforeUnary group) behind
past_or spare ts rest behind l t group h =
    leads_then (l group h) (move (BehindUnary group) (BeforeUnary group) tokens.OrWord rest behind (or_moves group) refl t)

pub ands_more : (spare : ℕ) (done all : List Cond) (c : Condition) (ts rest behind : List Placed) (result : Result (List Cond × Rest) Stop) →
    Stands (words ts) (Unary c) (words rest) → LeadsPast spare ts rest → ((more : Conditions) → conditions_onto all more ≡ conditions_onto done (CondThen c more)) →
    Takes tokens.AndWord rest behind → ReadsAnds spare all behind result → ReadsAnds spare done ts result
ands_more spare done all c ts rest behind (Ok read) u l grow t ((cs, s, e), m, none) = (
  (CondThen c cs, more_ands (rw (spelt tokens.AndWord rest behind t) at u) s, e ∙ grow cs),
  λ group h. leads_then (past_and spare ts rest behind l t group h) (m group h),
  none,
)
ands_more spare done all c ts rest behind (Err stop) u l grow t f = λ group h.
    stops_behind stop (past_and spare ts rest behind l t group h) (f group h)

pub ands_end : (spare : ℕ) (done all : List Cond) (c : Condition) (ts rest : List Placed) →
    Stands (words ts) (Unary c) (words rest) → LeadsPast spare ts rest → ((more : Conditions) → conditions_onto all more ≡ conditions_onto done (CondThen c more)) →
    ComesNot is_and rest →
    ((cs : Conditions) × Stands (words ts) (Ands cs) (words rest) × (conditions all ≡ conditions_onto done cs)) × LeadsPast spare ts rest × ComesNot is_and rest
ands_end spare done all c ts rest u l grow none = ((CondThen c NoConditions, last_and u, sym (onto_none all) ∙ grow NoConditions), l, none)

and_of_ands : {ts rest : List Token} {cs : Conditions} → Stands ts (Ands cs) rest → Stands ts (And (each_of cs)) rest
and_of_ands (last_and u) = one_unary u
and_of_ands (more_ands u (last_and v)) = ands u (last_and v)
and_of_ands (more_ands u (more_ands v vs)) = ands u (more_ands v vs)

or_of_ors : {ts rest : List Token} {cs : Conditions} → Stands ts (Ors cs) rest → Stands ts (Or (some_of cs)) rest
or_of_ors (last_or a) = one_and a
or_of_ors (more_ors a (last_or b)) = ors a (last_or b)
or_of_ors (more_ors a (more_ors b bs)) = ors a (more_ors b bs)

-- the members of an `and` as one condition
joined_and : (ts rest : List Placed) (members : List Cond) (c : Condition) →
    ((cs : Conditions) × Stands (words ts) (Ands cs) (words rest) × (conditions members ≡ cs)) → c ≡ each_of (conditions members) → Stands (words ts) (And c) (words rest)
joined_and ts rest members c (cs, s, e) f = rw (f, e) (and_of_ands s)

pub joined_or : (ts : List Token) (rest : List Token) (members : List Cond) (c : Condition) →
    ((cs : Conditions) × Stands ts (Ors cs) rest × (conditions members ≡ cs)) → c ≡ some_of (conditions members) → Stands ts (Or c) rest
joined_or ts rest members c (cs, s, e) f = rw (f, e) (or_of_ors s)

pub ors_more : (spare : ℕ) (done all members : List Cond) (c : Condition) (ts rest behind : List Placed) (result : Result (List Cond × Rest) Stop) →
    ((cs : Conditions) × Stands (words ts) (Ands cs) (words rest) × (conditions members ≡ cs)) → c ≡ each_of (conditions members) → LeadsPast spare ts rest →
    ((more : Conditions) → conditions_onto all more ≡ conditions_onto done (CondThen c more)) →
    Takes tokens.OrWord rest behind → ReadsOrs spare all behind result → ReadsOrs spare done ts result
ors_more spare done all members c ts rest behind (Ok read) a f l grow t ((cs, s, e), m, no_and, no_or) = (
  (CondThen c cs, more_ors (rw (spelt tokens.OrWord rest behind t) at (joined_and ts rest members c a f)) s, e ∙ grow cs),
  λ group h. leads_then (past_or spare ts rest behind l t group h) (m group h),
  no_and,
  no_or,
)
ors_more spare done all members c ts rest behind (Err stop) a f l grow t g = λ group h.
    stops_behind stop (past_or spare ts rest behind l t group h) (g group h)

pub ors_end : (spare : ℕ) (done all members : List Cond) (c : Condition) (ts rest : List Placed) →
    ((cs : Conditions) × Stands (words ts) (Ands cs) (words rest) × (conditions members ≡ cs)) → c ≡ each_of (conditions members) → LeadsPast spare ts rest →
    ((more : Conditions) → conditions_onto all more ≡ conditions_onto done (CondThen c more)) → ComesNot is_and rest → ComesNot is_or rest →
    ((cs : Conditions) × Stands (words ts) (Ors cs) (words rest) × (conditions all ≡ conditions_onto done cs)) × LeadsPast spare ts rest × ComesNot is_and rest × ComesNot is_or rest
ors_end spare done all members c ts rest a f l grow none no_or =
    ((CondThen c NoConditions, last_or (joined_and ts rest members c a f), sym (onto_none all) ∙ grow NoConditions), l, none, no_or)

close_moves : (group : Group) (shape : Bracket) → kind group ≡ shape → step (BehindUnary group) (closer shape) ≡ Some (behind_closed group)
close_moves (Square around) bracket.Square e = refl
close_moves (Round group) bracket.Round e = refl
close_moves (Square around) bracket.Round e = absurd (cc)
close_moves (Round group) bracket.Square e = absurd (cc)

close_fits : (group : Group) (shape : Bracket) → fits (closer shape) (behind_closed group) ≡ true
close_fits (Square around) bracket.Square = refl
close_fits (Round group) bracket.Square = refl
close_fits (Square around) bracket.Round = refl
close_fits (Round group) bracket.Round = refl

pub closed_reads : (spare : ℕ) (shape : Bracket) (members : List Cond) (c : Condition) (ts rest behind : List Placed) →
    ((cs : Conditions) × Stands (words ts) (Ors cs) (words rest) × (conditions members ≡ cs)) → c ≡ some_of (conditions members) → LeadsPast spare ts rest →
    Takes (closer shape) rest behind →
    Stands (words ts) (Or c) (closer shape ∷ words behind)
    × ((group : Group) → height_in group + spare ≡ 64 → kind group ≡ shape → Leads (BeforeUnary group) ts (behind_closed group) behind)
closed_reads spare shape members c ts rest behind o f l t = (
  rw (spelt (closer shape) rest behind t) at (joined_or (words ts) (words rest) members c o f),
  λ group h k. leads_then (l group h) (move (BehindUnary group) (behind_closed group) (closer shape) rest behind (close_moves group shape k) (close_fits group shape) t),
)

square_opens : (spare left : ℕ) (ts inside : List Placed) → Takes tokens.OpenSquare ts inside → left + 1 ≡ spare →
    (around : Around) → height_around around + spare ≡ 64 → Leads (BehindElement around) ts (BeforeUnary (Square around)) inside
square_opens spare left ts inside t l around h =
    move (BehindElement around) (BeforeUnary (Square around)) tokens.OpenSquare ts inside refl (shallow (height_around around) spare left h l) t

pub predicate_stops : (spare left : ℕ) (ts inside : List Placed) (stop : Stop) → Takes tokens.OpenSquare ts inside → left + 1 ≡ spare →
    ReadsClosed bracket.Square left inside (Err stop) → (around : Around) → height_around around + spare ≡ 64 → Stops (BehindElement around) ts stop
predicate_stops spare left ts inside stop t l f around h =
    stops_behind stop (square_opens spare left ts inside t l around h) (f (Square around) (omega arith) refl)

pub predicates_more : (spare left : ℕ) (done all : List Cond) (c : Condition) (ts inside rest : List Placed) (result : Result (List Cond × Rest) Stop) →
    Takes tokens.OpenSquare ts inside → left + 1 ≡ spare → Stands (words inside) (Or c) (tokens.CloseSquare ∷ words rest) →
    ((group : Group) → height_in group + left ≡ 64 → kind group ≡ bracket.Square → Leads (BeforeUnary group) inside (behind_closed group) rest) →
    ((more : Conditions) → conditions_onto all more ≡ conditions_onto done (CondThen c more)) → ReadsPreds spare all rest result → ReadsPreds spare done ts result
predicates_more spare left done all c ts inside rest (Ok read) t l o m grow ((cs, s, e), n, none) = (
  (CondThen c cs, rw (spelt tokens.OpenSquare ts inside t) (pred o s), e ∙ grow cs),
  λ around h. leads_then (square_opens spare left ts inside t l around h) (leads_then (m (Square around) (omega arith) refl) (n around h)),
  none,
)
predicates_more spare left done all c ts inside rest (Err stop) t l o m grow f = λ around h.
    stops_behind stop (leads_then (square_opens spare left ts inside t l around h) (m (Square around) (omega arith) refl)) (f around h)

pub predicates_end : (spare : ℕ) (done : List Cond) (ts : List Placed) → ComesNot is_open_square ts →
    ((cs : Conditions) × Stands (words ts) (Preds cs) (words ts) × (conditions done ≡ conditions_onto done cs))
    × ((around : Around) → height_around around + spare ≡ 64 → Leads (BehindElement around) ts (BehindElement around) ts) × ComesNot is_open_square ts
predicates_end spare done ts none = ((NoConditions, no_pred, sym (onto_none done)), λ around h. here (BehindElement around) ts, none)

element_moves : (around : Around) (t : Token) (found : Test) → element_test t ≡ Some found → step (BeforeStep around) t ≡ Some (BehindElement around)
element_moves around (tokens.NameTest name) found e = refl
element_moves around tokens.Star found e = refl
element_moves around _ found e = absurd (cc)

element_fits : (t : Token) (found : Test) → element_test t ≡ Some found → (around : Around) → fits t (BehindElement around) ≡ true
element_fits (tokens.NameTest name) found e around = refl
element_fits tokens.Star found e around = refl
element_fits _ found e around = absurd (cc)

element_first : (around : Around) (found : Test) (ts inside : List Placed) → TakesElement found ts inside → Leads (BeforeStep around) ts (BehindElement around) inside
element_first around found [] inside t = absurd t
element_first around found (p ∷ ts) inside (e, r) =
    rw r (step_on (BeforeStep around) (BehindElement around) (BehindElement around) p inside inside (element_moves around p.token found e) (element_fits p.token found e around)
    (here (BehindElement around) inside))

pub element_stops : (spare : ℕ) (found : Test) (ts inside : List Placed) (stop : Stop) → TakesElement found ts inside →
    ((around : Around) → height_around around + spare ≡ 64 → Stops (BehindElement around) inside stop) →
    (around : Around) → height_around around + spare ≡ 64 → Stops (BeforeStep around) ts stop
element_stops spare found ts inside stop t f around h = stops_behind stop (element_first around found ts inside t) (f around h)

separator_moves : (next : Axis) (around : Around) (rest behind : List Placed) → Takes (separator next) rest behind → Leads (BehindElement around) rest (BeforeStep around) behind
separator_moves Child around rest behind t = move (BehindElement around) (BeforeStep around) tokens.Slash rest behind refl refl t
separator_moves Below around rest behind t = move (BehindElement around) (BeforeStep around) tokens.Slashes rest behind refl refl t

element_stands : (axis next : Axis) (found : Test) (cs : Conditions) (onward : Way) (ts inside : List Placed) (us rest : List Token) → TakesElement found ts inside →
    Stands (words inside) (Preds cs) (separator next ∷ us) → Stands us (Steps next onward) rest → Stands (words ts) (Steps axis (StepThen axis found cs onward)) rest
element_stands axis next found cs onward [] inside us rest t p s = absurd t
element_stands axis next found cs onward (q ∷ ts) inside us rest (e, r) p s = rw r (element next e p s)

last_stands : (axis : Axis) (found : Test) (cs : Conditions) (ts inside : List Placed) (rest : List Token) → TakesElement found ts inside →
    Stands (words inside) (Preds cs) rest → Stands (words ts) (Steps axis (StepThen axis found cs Arrived)) rest
last_stands axis found cs [] inside rest t p = absurd t
last_stands axis found cs (q ∷ ts) inside rest (e, r) p = rw r (last_element e p)

pub steps_more : (spare : ℕ) (done all : List Step) (axis next : Axis) (found : Test) (conds : List Cond) (ts inside rest behind : List Placed) (result : Result (List Step × Rest) Stop) →
    TakesElement found ts inside → ((cs : Conditions) × Stands (words inside) (Preds cs) (words rest) × (conditions conds ≡ cs)) →
    ((around : Around) → height_around around + spare ≡ 64 → Leads (BehindElement around) inside (BehindElement around) rest) →
    ((onward : Way) → ways_onto all onward ≡ ways_onto done (StepThen axis found (conditions conds) onward)) → Takes (separator next) rest behind →
    ReadsSteps spare all next behind result → ReadsSteps spare done axis ts result
steps_more spare done all axis next found conds ts inside rest behind (Ok read) t (cs, p, e) l grow sep ((w, s, f), m) = (
  (
    StepThen axis found cs w,
    element_stands axis next found cs w ts inside (words behind) (words (rest_of read.1)) t (rw (spelt (separator next) rest behind sep) at p) s,
    f ∙ grow w ∙ ap (λ ds. ways_onto done (StepThen axis found ds w)) e,
  ),
  λ around h. leads_then (element_first around found ts inside t) (leads_then (l around h) (leads_then (separator_moves next around rest behind sep) (m around h))),
)
steps_more spare done all axis next found conds ts inside rest behind (Err stop) t (cs, p, e) l grow sep f = λ around h.
    stops_behind stop (leads_then (element_first around found ts inside t) (leads_then (l around h) (separator_moves next around rest behind sep))) (f around h)

as_last_step : (around : Around) (rest : List Placed) → ComesNot is_open_square rest → ComesNot is_separator rest → Leads (BehindElement around) rest (BehindLast around) rest
as_last_step Whole [] o s = stays refl
as_last_step (Within group) [] o s = stays refl
as_last_step around (p ∷ rest) o s = stays (as_last around p.token o s)

pub steps_end : (spare : ℕ) (done all : List Step) (axis : Axis) (found : Test) (conds : List Cond) (ts inside rest : List Placed) →
    TakesElement found ts inside → ((cs : Conditions) × Stands (words inside) (Preds cs) (words rest) × (conditions conds ≡ cs)) →
    ((around : Around) → height_around around + spare ≡ 64 → Leads (BehindElement around) inside (BehindElement around) rest) →
    ((onward : Way) → ways_onto all onward ≡ ways_onto done (StepThen axis found (conditions conds) onward)) → ComesNot is_open_square rest → ComesNot is_separator rest →
    ((w : Way) × Stands (words ts) (Steps axis w) (words rest) × (ways all ≡ ways_onto done w))
    × ((around : Around) → height_around around + spare ≡ 64 → Leads (BeforeStep around) ts (BehindLast around) rest)
steps_end spare done all axis found conds ts inside rest t (cs, p, e) l grow no_open no_sep = (
  (
    StepThen axis found cs Arrived,
    last_stands axis found cs ts inside (words rest) t p,
    sym (onto_arrived all) ∙ grow Arrived ∙ ap (λ ds. ways_onto done (StepThen axis found ds Arrived)) e,
  ),
  λ around h. leads_then (element_first around found ts inside t) (leads_then (l around h) (as_last_step around rest no_open no_sep)),
)

pub steps_last : (spare : ℕ) (done all : List Step) (axis : Axis) (found : Test) (none : List Cond) (ts rest : List Placed) → none ≡ [] →
    ((axis : Axis) → Stands (words ts) (Steps axis (StepThen axis found NoConditions Arrived)) (words rest)) →
    ((around : Around) → Leads (BeforeStep around) ts (BehindLast around) rest) →
    ((onward : Way) → ways_onto all onward ≡ ways_onto done (StepThen axis found (conditions none) onward)) →
    ((w : Way) × Stands (words ts) (Steps axis w) (words rest) × (ways all ≡ ways_onto done w))
    × ((around : Around) → height_around around + spare ≡ 64 → Leads (BeforeStep around) ts (BehindLast around) rest)
steps_last spare done all axis found none ts rest e s l grow = (
  (StepThen axis found NoConditions Arrived, s axis, sym (onto_arrived all) ∙ grow Arrived ∙ ap (λ cs. ways_onto done (StepThen axis found (conditions cs) Arrived)) e),
  λ around h. l around,
)

-- a condition in brackets
pub inside_stops : (spare left : ℕ) (ts inside : List Placed) (stop : Stop) → left + 1 ≡ spare →
    ((group : Group) → height_in group + spare ≡ 64 → Leads (BeforeUnary group) ts (BeforeUnary (Round group)) inside) →
    ReadsClosed bracket.Round left inside (Err stop) → StopsInside spare ts stop
inside_stops spare left ts inside stop l m f group h = stops_behind stop (m group h) (f (Round group) (omega arith) refl)

pub inside_reads : (spare left : ℕ) (ts inside rest : List Placed) → left + 1 ≡ spare →
    ((group : Group) → height_in group + spare ≡ 64 → Leads (BeforeUnary group) ts (BeforeUnary (Round group)) inside) →
    ((group : Group) → height_in group + left ≡ 64 → kind group ≡ bracket.Round → Leads (BeforeUnary group) inside (behind_closed group) rest) → LeadsPast spare ts rest
inside_reads spare left ts inside rest l m n group h = leads_then (m group h) (n (Round group) (omega arith) refl)

-- a path, and what is compared with it
pub along_stops : (spare : ℕ) (ts inside : List Placed) (stop : Stop) → ((group : Group) → Leads (BeforeUnary group) ts (BeforeStep (Within group)) inside) →
    ((around : Around) → height_around around + spare ≡ 64 → Stops (BeforeStep around) inside stop) → StopsInside spare ts stop
along_stops spare ts inside stop l f group h = stops_behind stop (l group) (f (Within group) h)

pub along_reads : (spare : ℕ) (axis : Axis) (ss : List Step) (path : Way) (ts inside rest : List Placed) (result : Result (Cond × Rest) Stop) →
    ((w : Way) (us : List Token) → Stands (words inside) (Steps axis w) us → Stands (words ts) (Relative w) us) →
    ((group : Group) → Leads (BeforeUnary group) ts (BeforeStep (Within group)) inside) →
    ((w : Way) × Stands (words inside) (Steps axis w) (words rest) × (ways ss ≡ w)) →
    ((around : Around) → height_around around + spare ≡ 64 → Leads (BeforeStep around) inside (BehindLast around) rest) → path ≡ ways ss →
    Compares path rest result → ReadsUnary spare ts result
along_reads spare axis ss path ts inside rest (Ok read) s l (w, t, e) m f (c, n) =
    let same : path ≡ w = f ∙ e in
    (c (words ts) (rw same (s w (words rest) t)), λ group h. leads_then (l group) (leads_then (m (Within group) h) (n group)))
along_reads spare axis ss path ts inside rest (Err stop) s l (w, t, e) m f g = λ group h.
    stops_behind stop (leads_then (l group) (m (Within group) h)) (g group)

element_less : (found : Test) (ts rest : List Placed) → TakesElement found ts rest → length rest < length ts
element_less found [] rest t = absurd t
element_less found (p ∷ ts) rest (e, r) = rw r (omega arith)

-- fewer tokens are left
pub fewer_behind : (before middle behind : List Placed) (t : Token) (phrase : Phrase) →
    Stands (words before) phrase (words middle) → Takes t middle behind → length behind < length before
fewer_behind before middle behind t phrase s takes =
    let a = shorter_placed before middle phrase s in
    let b = one_less t middle behind takes in
    omega arith

pub fewer_closed : (before inside behind : List Placed) (t u : Token) (phrase : Phrase) → Takes t before inside →
    Stands (words inside) phrase (u ∷ words behind) → length behind < length before
fewer_closed before inside behind t u phrase takes s =
    let a = one_less t before inside takes in
    let b = shorter_closed u inside behind phrase s in
    omega arith

pub fewer_elements : (before inside middle behind : List Placed) (t : Token) (found : Test) (phrase : Phrase) → TakesElement found before inside →
    Stands (words inside) phrase (words middle) → Takes t middle behind → length behind < length before
fewer_elements before inside middle behind t found phrase e s takes =
    let a = element_less found before inside e in
    let b = shorter_placed inside middle phrase s in
    let d = one_less t middle behind takes in
    omega arith
