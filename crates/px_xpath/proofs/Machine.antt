-- What the machine accepts is what writes a filter.
use Rattle.std.proofs.Common.{◌≡◌, ℕ, Bool, true, false, ◌⊎◌, inl, inr, List, [], ◌∷◌, ◌++◌, refl, ap, subst, Option, Some, None, if◌then◌else◌}
use Rattle.std.specs.Option.{option_map_or, option_and_then}
use Rattle.px_xpath.specs.declared.filter.Axis.{Axis}
use Rattle.px_xpath.specs.declared.filter.Axis.TheVariants.{Child, Below}
use Rattle.px_xpath.specs.declared.filter.Test.{Test}
use Rattle.px_xpath.specs.declared.filter.Test.TheVariants as test
use Rattle.px_xpath.specs.declared.filter.Relation.{Relation}
use Rattle.px_xpath.specs.declared.filter.Value.{Value}
use Rattle.px_xpath.specs.declared.filter.Value.TheVariants.{Number, Literal}
use Rattle.px_xpath.specs.Filters.{Way, Arrived, StepThen, Condition, Selects, Compares, Fails, Conditions, NoConditions}
use Rattle.px_xpath.specs.Tokens.{Token, Slash, Slashes, OpenSquare, CloseSquare, Open, Close, At, Star, Dot, Minus, Related, Quoted, Numeric, NameTest, AndWord, OrWord, NotWord, TextWord}
use Rattle.px_xpath.specs.Grammar.{Stands, attribute, text, last_element, element, no_pred, pred, one_and, ors, last_or, more_ors, one_unary, ands, last_and, more_ands, negated, bracketed, selects, compares, plain, dotted, literal, number, negative, Phrase, Steps, Preds, Or, Ors, And, Ands, Unary, Relative, Operand, Writes, separator, element_test, attribute_test, is_equality}
use Rattle.px_text.specs.Numbers.{units_of}
use Rattle.px_xpath.specs.Machine.{Around, Whole, Within, Group, Square, Round, State, Start, BeforeStep, BehindAt, BehindText, BehindTextOpen, BehindElement, BehindLast, BeforeUnary, BehindNot, BehindDot, BehindRelation, BehindMinus, BehindUnary, step, step_behind_unary, step_behind_path, step_before_step, may_end, accepts, reaches}
use Rattle.px_xpath.specs.Faults.{Begins}
use Rattle.std.proofs.Common.{IsSome, ◌↔◌}
use Rattle.std.proofs.lemmas.Option.{cond_some}

-- what may follow a condition in its bracket, up to the rest
data GroupTail : List Token → List Token → Type 0 where
  group_ends : {rest : List Token} → GroupTail rest rest
  and_more : {us rest : List Token} {cs : Conditions} → Stands us (Ors cs) rest → GroupTail (AndWord ∷ us) rest
  or_more : {us rest : List Token} {cs : Conditions} → Stands us (Ors cs) rest → GroupTail (OrWord ∷ us) rest

-- what may follow an element's test in its path
data PathTail : List Token → List Token → Type 0 where
  path_ends : {ts rest : List Token} {cs : Conditions} → Stands ts (Preds cs) rest → PathTail ts rest
  path_more : {ts us rest : List Token} {cs : Conditions} {way : Way} (next : Axis) →
      Stands ts (Preds cs) (separator next ∷ us) → Stands us (Steps next way) rest → PathTail ts rest

abbrev closer : Group → Token
closer (Square around) = CloseSquare
closer (Round group) = Close

abbrev mutual
  -- what completes a filter behind a path
  FromPath : Around → List Token → Type 0
  FromPath Whole ts = ts ≡ []
  FromPath (Within group) ts =
      FromUnary group ts ⊎ ((r : Relation) × (v : Value) × (us : List Token) × Stands ts (Operand r v) us × FromUnary group us)

  -- what completes it behind a condition in a bracket
  FromUnary : Group → List Token → Type 0
  FromUnary (Square around) ts =
      (us : List Token) × (rest : List Token) × GroupTail ts (CloseSquare ∷ us) × PathTail us rest × FromPath around rest
  FromUnary (Round group) ts = (rest : List Token) × GroupTail ts (Close ∷ rest) × FromUnary group rest

abbrev FromElement : Around → List Token → Type 0
FromElement around ts = (rest : List Token) × PathTail ts rest × FromPath around rest

-- what completes it behind a bracket that has just been closed
abbrev FromClosed : Group → List Token → Type 0
FromClosed (Square around) ts = FromElement around ts
FromClosed (Round group) ts = FromUnary group ts

abbrev FromStep : Around → List Token → Type 0
FromStep around ts = (rest : List Token) × (way : Way) × Stands ts (Steps Child way) rest × FromPath around rest

abbrev FromGroup : Group → List Token → Type 0
FromGroup group ts = (rest : List Token) × (cs : Conditions) × Stands ts (Ors cs) (closer group ∷ rest) × FromClosed group rest

abbrev Completes : State → List Token → Type 0
Completes Start ts = (filter : Way) × Writes ts filter
Completes (BeforeStep around) ts = FromStep around ts
Completes (BehindAt around) ts = (t : Token) × (rest : List Token) × (found : Test) × (ts ≡ t ∷ rest) × (attribute_test t ≡ Some found) × FromPath around rest
Completes (BehindText around) ts = (rest : List Token) × (ts ≡ Open ∷ Close ∷ rest) × FromPath around rest
Completes (BehindTextOpen around) ts = (rest : List Token) × (ts ≡ Close ∷ rest) × FromPath around rest
Completes (BehindElement around) ts = FromElement around ts
Completes (BehindLast around) ts = FromPath around ts
Completes (BeforeUnary group) ts = FromGroup group ts
Completes (BehindNot group) ts = (us : List Token) × (ts ≡ Open ∷ us) × FromGroup (Round group) us
Completes (BehindDot group) ts = (axis : Axis) × (us : List Token) × (ts ≡ separator axis ∷ us) × FromStep (Within group) us
Completes (BehindRelation r group) ts = (v : Value) × (rest : List Token) × Stands (Related r ∷ ts) (Operand r v) rest × FromUnary group rest
Completes (BehindMinus group) ts = (whole : List ℕ) × (fraction : List ℕ) × (rest : List Token) × (ts ≡ Numeric whole fraction ∷ rest) × FromUnary group rest
Completes (BehindUnary group) ts = FromUnary group ts

from_some : {A : Type 0} (P : A → Type 0) (x y : A) → Some x ≡ Some y → P x → P y
from_some P x y e h = let same : x ≡ y = cc in subst P same h

-- the same steps behind another separator
relabel : {ts rest : List Token} {axis : Axis} {way : Way} → Stands ts (Steps axis way) rest → (other : Axis) → (way : Way) × Stands ts (Steps other way) rest
relabel (attribute e) other = (_, attribute e)
relabel text other = (_, text)
relabel (last_element e p) other = (_, last_element e p)
relabel (element next e p s) other = (_, element next e p s)

and_first : {ts us rest : List Token} {c d : Condition} → Stands ts (Unary c) (AndWord ∷ us) → Stands us (And d) rest → (e : Condition) × Stands ts (And e) rest
and_first u (one_unary v) = (_, ands u (last_and v))
and_first u (ands v vs) = (_, ands u (more_ands v vs))

or_of : {ts rest : List Token} {cs : Conditions} → Stands ts (Ors cs) rest → (c : Condition) × Stands ts (Or c) rest
or_of (last_or a) = (_, one_and a)
or_of (more_ors a os) = (_, ors a os)

-- a condition and what follows it in its bracket
joined : {ts us rest : List Token} {c : Condition} → Stands ts (Unary c) us → GroupTail us rest → (cs : Conditions) × Stands ts (Ors cs) rest
joined u group_ends = (_, last_or (one_unary u))
joined u (and_more (last_or a)) = (_, last_or (and_first u a).1)
joined u (and_more (more_ors a os)) = (_, more_ors (and_first u a).1 os)
joined u (or_more os) = (_, more_ors (one_unary u) os)

-- a condition, and what completes a filter behind it
unary_first : (group : Group) (ts us : List Token) (c : Condition) → Stands ts (Unary c) us → FromUnary group us → FromGroup group ts
unary_first (Square around) ts us c u (vs, rest, tail, path, f) = let j = joined u tail in (vs, j.0, j.1, (rest, path, f))
unary_first (Round group) ts us c u (rest, tail, f) = let j = joined u tail in (rest, j.0, j.1, f)

-- a path as a condition
path_first : (group : Group) (ts us : List Token) (way : Way) → Stands ts (Relative way) us → FromPath (Within group) us → FromGroup group ts
path_first group ts us way p (inl f) = unary_first group ts us (Selects way) (selects p) f
path_first group ts us way p (inr (r, v, vs, o, f)) = unary_first group ts vs (Compares way r v) (compares p o) f

more_path : {ts us : List Token} {c : Condition} → Stands ts (Or c) (CloseSquare ∷ us) → {rest : List Token} → PathTail us rest → PathTail (OpenSquare ∷ ts) rest
more_path o (path_ends p) = path_ends (pred o p)
more_path o (path_more next p s) = path_more next (pred o p) s

derive_behind_unary : (group : Group) (t : Token) (ts : List Token) (found : State) → step_behind_unary group t ≡ Some found → Completes found ts → FromUnary group (t ∷ ts)
derive_behind_unary (Square around) AndWord ts found e c =
    from_some (λ f. Completes f ts → FromUnary (Square around) (AndWord ∷ ts)) (BeforeUnary (Square around)) found e
    (λ (rest, cs, os, (r, p, f)). (rest, r, and_more os, p, f)) c
derive_behind_unary (Round group) AndWord ts found e c =
    from_some (λ f. Completes f ts → FromUnary (Round group) (AndWord ∷ ts)) (BeforeUnary (Round group)) found e
    (λ (rest, cs, os, f). (rest, and_more os, f)) c
derive_behind_unary (Square around) OrWord ts found e c =
    from_some (λ f. Completes f ts → FromUnary (Square around) (OrWord ∷ ts)) (BeforeUnary (Square around)) found e
    (λ (rest, cs, os, (r, p, f)). (rest, r, or_more os, p, f)) c
derive_behind_unary (Round group) OrWord ts found e c =
    from_some (λ f. Completes f ts → FromUnary (Round group) (OrWord ∷ ts)) (BeforeUnary (Round group)) found e
    (λ (rest, cs, os, f). (rest, or_more os, f)) c
derive_behind_unary (Square around) CloseSquare ts found e c =
    from_some (λ f. Completes f ts → FromUnary (Square around) (CloseSquare ∷ ts)) (BehindElement around) found e
    (λ (rest, p, f). (ts, rest, group_ends, p, f)) c
derive_behind_unary (Round group) Close ts found e c =
    from_some (λ f. Completes f ts → FromUnary (Round group) (Close ∷ ts)) (BehindUnary group) found e (λ f. (ts, group_ends, f)) c
derive_behind_unary (Square around) _ ts found e c = absurd (cc)
derive_behind_unary (Round group) _ ts found e c = absurd (cc)

derive_behind_path : (around : Around) (t : Token) (ts : List Token) (found : State) → step_behind_path around t ≡ Some found → Completes found ts → FromPath around (t ∷ ts)
derive_behind_path Whole t ts found e c = absurd (cc)
derive_behind_path (Within group) (Related r) ts found e c =
    from_some (λ f. Completes f ts → FromPath (Within group) (Related r ∷ ts)) (BehindRelation r group) found e
    (λ (v, rest, o, f). inr (r, v, rest, o, f)) c
derive_behind_path (Within group) t ts found e c = inl (derive_behind_unary group t ts found e c)

element_first : {t : Token} {ts rest : List Token} {found : Test} → element_test t ≡ Some found → PathTail ts rest → (way : Way) × Stands (t ∷ ts) (Steps Child way) rest
element_first e (path_ends p) = (_, last_element e p)
element_first e (path_more next p s) = (_, element next e p s)

derive_before_step : (around : Around) (t : Token) (ts : List Token) (found : State) → step_before_step around t ≡ Some found → Completes found ts → FromStep around (t ∷ ts)
derive_before_step around At ts found e c =
    from_some (λ f. Completes f ts → FromStep around (At ∷ ts)) (BehindAt around) found e
    (λ (t, rest, found, l, a, f). (rest, StepThen Child found NoConditions Arrived, rw l (attribute a), f)) c
derive_before_step around TextWord ts found e c =
    from_some (λ f. Completes f ts → FromStep around (TextWord ∷ ts)) (BehindText around) found e
    (λ (rest, l, f). (rest, StepThen Child test.Text NoConditions Arrived, rw l text, f)) c
derive_before_step around Star ts found e c =
    from_some (λ f. Completes f ts → FromStep around (Star ∷ ts)) (BehindElement around) found e
    (λ (rest, p, f). let s = element_first {t = Star} refl p in (rest, s.0, s.1, f)) c
derive_before_step around (NameTest name) ts found e c =
    from_some (λ f. Completes f ts → FromStep around (NameTest name ∷ ts)) (BehindElement around) found e
    (λ (rest, p, f). let s = element_first {t = NameTest name} refl p in (rest, s.0, s.1, f)) c
derive_before_step around _ ts found e c = absurd (cc)

path_more_first : (next : Axis) (around : Around) (ts : List Token) → FromStep around ts → FromElement around (separator next ∷ ts)
path_more_first next around ts (rest, way, s, f) = let r = relabel s next in (rest, path_more next no_pred r.1, f)

behind_element : (around : Around) (t : Token) (ts : List Token) (found : State) → step_behind_path around t ≡ Some found → Completes found ts → FromElement around (t ∷ ts)
behind_element around t ts found e c = (t ∷ ts, path_ends no_pred, derive_behind_path around t ts found e c)

before_unary : (group : Group) (t : Token) (ts : List Token) (found : State) → step_before_step (Within group) t ≡ Some found → Completes found ts → FromGroup group (t ∷ ts)
before_unary group t ts found e c =
    let (rest, way, s, f) = derive_before_step (Within group) t ts found e c in path_first group (t ∷ ts) rest way (plain s) f

bracket_first : (group : Group) (ts : List Token) → FromGroup (Round group) ts → FromGroup group (Open ∷ ts)
bracket_first group ts (rest, cs, os, f) = let o = or_of os in unary_first group (Open ∷ ts) rest o.0 (bracketed o.1) f

not_first : (group : Group) (ts : List Token) → Completes (BehindNot group) ts → FromGroup group (NotWord ∷ ts)
not_first group ts (us, l, (rest, cs, os, f)) =
    let o = or_of os in rw l (unary_first group (NotWord ∷ Open ∷ us) rest (Fails o.0) (negated o.1) f)

dot_first : (group : Group) (ts : List Token) → Completes (BehindDot group) ts → FromGroup group (Dot ∷ ts)
dot_first group ts (axis, us, l, (rest, way, s, f)) =
    let r = relabel s axis in rw l (path_first group (Dot ∷ separator axis ∷ us) rest r.0 (dotted axis r.1) f)

start_first : (axis : Axis) (ts : List Token) → FromStep Whole ts → Completes Start (separator axis ∷ ts)
start_first axis ts (rest, way, s, f) =
    let r = relabel s axis in (r.0, (axis, refl, subst (λ us. Stands ts (Steps axis r.0) us) f r.1))

derive : (state : State) (t : Token) (ts : List Token) (found : State) → step state t ≡ Some found → Completes found ts → Completes state (t ∷ ts)
derive Start Slash ts found e c = from_some (λ f. Completes f ts → Completes Start (Slash ∷ ts)) (BeforeStep Whole) found e (start_first Child ts) c
derive Start Slashes ts found e c = from_some (λ f. Completes f ts → Completes Start (Slashes ∷ ts)) (BeforeStep Whole) found e (start_first Below ts) c
derive Start _ ts found e c = absurd (cc)
derive (BeforeStep around) t ts found e c = derive_before_step around t ts found e c
derive (BehindAt around) Star ts found e c =
    from_some (λ f. Completes f ts → Completes (BehindAt around) (Star ∷ ts)) (BehindLast around) found e (λ f. (Star, ts, test.AnyAttribute, refl, refl, f)) c
derive (BehindAt around) (NameTest name) ts found e c =
    from_some (λ f. Completes f ts → Completes (BehindAt around) (NameTest name ∷ ts)) (BehindLast around) found e (λ f. (NameTest name, ts, test.Attribute name, refl, refl, f)) c
derive (BehindAt around) _ ts found e c = absurd (cc)
derive (BehindText around) Open ts found e c =
    from_some (λ f. Completes f ts → Completes (BehindText around) (Open ∷ ts)) (BehindTextOpen around) found e (λ (rest, l, f). (rest, ap (λ us. Open ∷ us) l, f)) c
derive (BehindText around) _ ts found e c = absurd (cc)
derive (BehindTextOpen around) Close ts found e c =
    from_some (λ f. Completes f ts → Completes (BehindTextOpen around) (Close ∷ ts)) (BehindLast around) found e (λ f. (ts, refl, f)) c
derive (BehindTextOpen around) _ ts found e c = absurd (cc)
derive (BehindElement around) OpenSquare ts found e c =
    from_some (λ f. Completes f ts → FromElement around (OpenSquare ∷ ts)) (BeforeUnary (Square around)) found e
    (λ (us, cs, os, (rest, p, f)). (rest, more_path (or_of os).1 p, f)) c
derive (BehindElement around) Slash ts found e c = from_some (λ f. Completes f ts → FromElement around (Slash ∷ ts)) (BeforeStep around) found e (path_more_first Child around ts) c
derive (BehindElement around) Slashes ts found e c = from_some (λ f. Completes f ts → FromElement around (Slashes ∷ ts)) (BeforeStep around) found e (path_more_first Below around ts) c
derive (BehindElement around) t ts found e c = behind_element around t ts found e c
derive (BehindLast around) t ts found e c = derive_behind_path around t ts found e c
derive (BeforeUnary group) NotWord ts found e c = from_some (λ f. Completes f ts → FromGroup group (NotWord ∷ ts)) (BehindNot group) found e (not_first group ts) c
derive (BeforeUnary group) Open ts found e c = from_some (λ f. Completes f ts → FromGroup group (Open ∷ ts)) (BeforeUnary (Round group)) found e (bracket_first group ts) c
derive (BeforeUnary group) Dot ts found e c = from_some (λ f. Completes f ts → FromGroup group (Dot ∷ ts)) (BehindDot group) found e (dot_first group ts) c
derive (BeforeUnary group) t ts found e c = before_unary group t ts found e c
derive (BehindNot group) Open ts found e c =
    from_some (λ f. Completes f ts → Completes (BehindNot group) (Open ∷ ts)) (BeforeUnary (Round group)) found e (λ f. (ts, refl, f)) c
derive (BehindNot group) _ ts found e c = absurd (cc)
derive (BehindDot group) Slash ts found e c =
    from_some (λ f. Completes f ts → Completes (BehindDot group) (Slash ∷ ts)) (BeforeStep (Within group)) found e (λ f. (Child, ts, refl, f)) c
derive (BehindDot group) Slashes ts found e c =
    from_some (λ f. Completes f ts → Completes (BehindDot group) (Slashes ∷ ts)) (BeforeStep (Within group)) found e (λ f. (Below, ts, refl, f)) c
derive (BehindDot group) _ ts found e c = absurd (cc)
derive (BehindRelation r group) (Quoted t) ts found e c =
    let g = cond_some (is_equality r) (BehindUnary group) found e in
    let P : State → Type 0 = λ f. Completes f ts → Completes (BehindRelation r group) (Quoted t ∷ ts) in
    subst P g.1 (λ f. (Literal t, ts, literal g.0, f)) c
derive (BehindRelation r group) (Numeric whole fraction) ts found e c =
    from_some (λ f. Completes f ts → Completes (BehindRelation r group) (Numeric whole fraction ∷ ts)) (BehindUnary group) found e
    (λ f. (Number (units_of false whole fraction), ts, number, f)) c
derive (BehindRelation r group) Minus ts found e c =
    from_some (λ f. Completes f ts → Completes (BehindRelation r group) (Minus ∷ ts)) (BehindMinus group) found e
    (λ (whole, fraction, rest, l, f). (Number (units_of true whole fraction), rest, rw l negative, f)) c
derive (BehindRelation r group) _ ts found e c = absurd (cc)
derive (BehindMinus group) (Numeric whole fraction) ts found e c =
    from_some (λ f. Completes f ts → Completes (BehindMinus group) (Numeric whole fraction ∷ ts)) (BehindUnary group) found e (λ f. (whole, fraction, ts, refl, f)) c
derive (BehindMinus group) _ ts found e c = absurd (cc)
derive (BehindUnary group) t ts found e c = derive_behind_unary group t ts found e c

accepted_from : (state : State) (t : Token) (ts : List Token) → accepts state (t ∷ ts) ≡ true → (found : State) × (step state t ≡ Some found) × (accepts found ts ≡ true)
accepted_from state t ts e = from (step state t) refl e
  where
    from : (s : Option State) → step state t ≡ s → option_map_or (λ next. accepts next ts) s false ≡ true →
        (found : State) × (step state t ≡ Some found) × (accepts found ts ≡ true)
    from None h e' = absurd (cc)
    from (Some found) h e' = (found, h, e')

ended : (state : State) → may_end state ≡ true → Completes state []
ended (BehindElement Whole) h = ([], path_ends no_pred, refl)
ended (BehindLast Whole) h = refl
ended (BehindElement (Within group)) h = absurd (cc)
ended (BehindLast (Within group)) h = absurd (cc)
ended Start h = absurd (cc)
ended (BeforeStep around) h = absurd (cc)
ended (BehindAt around) h = absurd (cc)
ended (BehindText around) h = absurd (cc)
ended (BehindTextOpen around) h = absurd (cc)
ended (BeforeUnary group) h = absurd (cc)
ended (BehindNot group) h = absurd (cc)
ended (BehindDot group) h = absurd (cc)
ended (BehindRelation r group) h = absurd (cc)
ended (BehindMinus group) h = absurd (cc)
ended (BehindUnary group) h = absurd (cc)

sound : (ts : List Token) (state : State) → accepts state ts ≡ true → Completes state ts
sound [] state e = ended state e
sound (t ∷ ts) state e =
    let (found, s, a) = accepted_from state t ts e in derive state t ts found s (sound ts found a)

-- what is accepted writes a filter
pub accepted_writes : (ts : List Token) → accepts Start ts ≡ true → (filter : Way) × Writes ts filter
accepted_writes ts e = sound ts Start e

-- what is accepted behind a path's last step is accepted behind an element
last_is_element : (around : Around) (ts : List Token) → accepts (BehindLast around) ts ≡ true → accepts (BehindElement around) ts ≡ true
last_is_element Whole [] e = refl
last_is_element (Within group) [] e = absurd (cc)
last_is_element Whole (t ∷ ts) e = absurd (let f : false ≡ true = e in cc)
last_is_element (Within group) (OpenSquare ∷ ts) e = absurd (no_square group ts e)
  where
    no_square : (group : Group) (ts : List Token) → accepts (BehindLast (Within group)) (OpenSquare ∷ ts) ≡ true → ⊥
    no_square (Square around) ts e = cc
    no_square (Round group) ts e = cc
last_is_element (Within (Square around)) (Slash ∷ ts) e = absurd (let f : false ≡ true = e in cc)
last_is_element (Within (Round group)) (Slash ∷ ts) e = absurd (let f : false ≡ true = e in cc)
last_is_element (Within (Square around)) (Slashes ∷ ts) e = absurd (let f : false ≡ true = e in cc)
last_is_element (Within (Round group)) (Slashes ∷ ts) e = absurd (let f : false ≡ true = e in cc)
last_is_element (Within group) (t ∷ ts) e = e

-- what is accepted behind a condition is accepted behind a path
unary_is_last : (group : Group) (ts : List Token) → accepts (BehindUnary group) ts ≡ true → accepts (BehindLast (Within group)) ts ≡ true
unary_is_last group [] e = absurd (cc)
unary_is_last (Square around) (Related r ∷ ts) e = absurd (let f : false ≡ true = e in cc)
unary_is_last (Round group) (Related r ∷ ts) e = absurd (let f : false ≡ true = e in cc)
unary_is_last group (t ∷ ts) e = e

-- where the machine stands before a phrase and behind it
abbrev Passes : Phrase → List Token → List Token → Type 0
Passes (Steps axis way) ts rest = (around : Around) → accepts (BehindLast around) rest ≡ true → accepts (BeforeStep around) ts ≡ true
Passes (Preds cs) ts rest = (around : Around) → accepts (BehindElement around) rest ≡ true → accepts (BehindElement around) ts ≡ true
Passes (Relative way) ts rest = (group : Group) → accepts (BehindLast (Within group)) rest ≡ true → accepts (BeforeUnary group) ts ≡ true
Passes (Operand r v) ts rest = (group : Group) → accepts (BehindUnary group) rest ≡ true → accepts (BehindLast (Within group)) ts ≡ true
Passes (Or _) ts rest = (group : Group) → accepts (BehindUnary group) rest ≡ true → accepts (BeforeUnary group) ts ≡ true
Passes (Ors _) ts rest = (group : Group) → accepts (BehindUnary group) rest ≡ true → accepts (BeforeUnary group) ts ≡ true
Passes (And _) ts rest = (group : Group) → accepts (BehindUnary group) rest ≡ true → accepts (BeforeUnary group) ts ≡ true
Passes (Ands _) ts rest = (group : Group) → accepts (BehindUnary group) rest ≡ true → accepts (BeforeUnary group) ts ≡ true
Passes (Unary _) ts rest = (group : Group) → accepts (BehindUnary group) rest ≡ true → accepts (BeforeUnary group) ts ≡ true

attribute_passes : (t : Token) (rest : List Token) (found : Test) (around : Around) → attribute_test t ≡ Some found →
    accepts (BehindLast around) rest ≡ true → accepts (BeforeStep around) (At ∷ t ∷ rest) ≡ true
attribute_passes (NameTest name) rest found around e h = h
attribute_passes Star rest found around e h = h
attribute_passes _ rest found around e h = absurd (cc)

element_passes : (t : Token) (ts : List Token) (found : Test) (around : Around) → element_test t ≡ Some found →
    accepts (BehindElement around) ts ≡ true → accepts (BeforeStep around) (t ∷ ts) ≡ true
element_passes (NameTest name) ts found around e h = h
element_passes Star ts found around e h = h
element_passes _ ts found around e h = absurd (cc)

separator_passes : (axis : Axis) (around : Around) (ts : List Token) → accepts (BeforeStep around) ts ≡ true → accepts (BehindElement around) (separator axis ∷ ts) ≡ true
separator_passes Child around ts h = h
separator_passes Below around ts h = h

dot_passes : (axis : Axis) (group : Group) (ts : List Token) → accepts (BeforeStep (Within group)) ts ≡ true → accepts (BeforeUnary group) (Dot ∷ separator axis ∷ ts) ≡ true
dot_passes Child group ts h = h
dot_passes Below group ts h = h

step_passes : (group : Group) (ts : List Token) → accepts (BeforeStep (Within group)) ts ≡ true → accepts (BeforeUnary group) ts ≡ true
step_passes group [] h = absurd (cc)
step_passes group (NotWord ∷ ts) h = absurd (let f : false ≡ true = h in cc)
step_passes group (Open ∷ ts) h = absurd (let f : false ≡ true = h in cc)
step_passes group (Dot ∷ ts) h = absurd (let f : false ≡ true = h in cc)
step_passes group (t ∷ ts) h = h

passes : {ts rest : List Token} {p : Phrase} → Stands ts p rest → Passes p ts rest
passes (attribute {t = t} {rest = rest} {test = found} e) = λ around h. attribute_passes t rest found around e h
passes text = λ around h. h
passes (last_element {t = t} {ts = ts} {rest = rest} {test = found} e p) =
    λ around h. element_passes t ts found around e (passes p around (last_is_element around rest h))
passes (element {t = t} {ts = ts} {us = us} {test = found} next e p s) =
    λ around h. element_passes t ts found around e (passes p around (separator_passes next around us (passes s around h)))
passes no_pred = λ around h. h
passes (pred o p) = λ around h. passes o (Square around) (passes p around h)
passes (one_and a) = λ group h. passes a group h
passes (ors a os) = λ group h. passes a group (passes os group h)
passes (last_or a) = λ group h. passes a group h
passes (more_ors a os) = λ group h. passes a group (passes os group h)
passes (one_unary u) = λ group h. passes u group h
passes (ands u us) = λ group h. passes u group (passes us group h)
passes (last_and u) = λ group h. passes u group h
passes (more_ands u us) = λ group h. passes u group (passes us group h)
passes (negated o) = λ group h. passes o (Round group) h
passes (bracketed o) = λ group h. passes o (Round group) h
passes (selects {rest = rest} p) = λ group h. passes p group (unary_is_last group rest h)
passes (compares p o) = λ group h. passes p group (passes o group h)
passes (plain {ts = ts} s) = λ group h. step_passes group ts (passes s (Within group) h)
passes (dotted {ts = ts} axis s) = λ group h. dot_passes axis group ts (passes s (Within group) h)
passes (literal e) = λ group h. rw e h
passes number = λ group h. h
passes negative = λ group h. h

-- what writes a filter is accepted
pub written_accepted : (ts : List Token) (filter : Way) → Writes ts filter → accepts Start ts ≡ true
written_accepted [] filter w = absurd w
written_accepted (t ∷ ts) filter (axis, e, s) = rw e (started axis ts (passes s Whole refl))
  where
    started : (axis : Axis) (ts : List Token) → accepts (BeforeStep Whole) ts ≡ true → accepts Start (separator axis ∷ ts) ≡ true
    started Child ts h = h
    started Below ts h = h

-- the tokens that close what is open round a path, and round a condition
abbrev mutual
  closers_around : Around → List Token
  closers_around Whole = []
  closers_around (Within group) = closers_in group

  closers_in : Group → List Token
  closers_in (Square around) = CloseSquare ∷ closers_around around
  closers_in (Round group) = Close ∷ closers_in group

-- tokens that end a filter from a state
abbrev pub closers : State → List Token
closers Start = Slash ∷ Star ∷ []
closers (BeforeStep around) = Star ∷ closers_around around
closers (BehindAt around) = Star ∷ closers_around around
closers (BehindText around) = Open ∷ Close ∷ closers_around around
closers (BehindTextOpen around) = Close ∷ closers_around around
closers (BehindElement around) = closers_around around
closers (BehindLast around) = closers_around around
closers (BeforeUnary group) = Star ∷ closers_in group
closers (BehindNot group) = Open ∷ Star ∷ Close ∷ closers_in group
closers (BehindDot group) = Slash ∷ Star ∷ closers_in group
closers (BehindRelation r group) = Numeric (49 ∷ []) [] ∷ closers_in group
closers (BehindMinus group) = Numeric (49 ∷ []) [] ∷ closers_in group
closers (BehindUnary group) = closers_in group

mutual
  ends_around : (around : Around) → (accepts (BehindElement around) (closers_around around) ≡ true) × (accepts (BehindLast around) (closers_around around) ≡ true)
  ends_around Whole = (refl, refl)
  ends_around (Within group) =
      let u = unary_is_last group (closers_in group) (ends_in group) in (last_is_element (Within group) (closers_in group) u, u)

  ends_in : (group : Group) → accepts (BehindUnary group) (closers_in group) ≡ true
  ends_in (Square around) = (ends_around around).0
  ends_in (Round group) = ends_in group

-- every state can still end a filter
pub can_end : (state : State) → accepts state (closers state) ≡ true
can_end Start = refl
can_end (BeforeStep around) = (ends_around around).0
can_end (BehindAt around) = (ends_around around).1
can_end (BehindText around) = (ends_around around).1
can_end (BehindTextOpen around) = (ends_around around).1
can_end (BehindElement around) = (ends_around around).0
can_end (BehindLast around) = (ends_around around).1
can_end (BeforeUnary group) = (ends_around (Within group)).0
can_end (BehindNot group) = ends_in group
can_end (BehindDot group) = (ends_around (Within group)).0
can_end (BehindRelation r group) = ends_in group
can_end (BehindMinus group) = ends_in group
can_end (BehindUnary group) = ends_in group

reached : (ts more : List Token) (state : State) → accepts state (ts ++ more) ≡ true → IsSome (reaches state ts)
reached [] more state e = refl
reached (t ∷ ts) more state e =
    let (found, s, a) = accepted_from state t (ts ++ more) e in rw s (reached ts more found a)

reaching : (ts more : List Token) (state found : State) → reaches state ts ≡ Some found → accepts found more ≡ true → accepts state (ts ++ more) ≡ true
reaching [] more state found r e = let same : state ≡ found = cc in rw same e
reaching (t ∷ ts) more state found r e = from (step state t) refl r (λ next q. reaching ts more next found q e)
  where
    from : (s : Option State) → step state t ≡ s → option_and_then (λ next. reaches next ts) s ≡ Some found →
        ((next : State) → reaches next ts ≡ Some found → accepts next (ts ++ more) ≡ true) → accepts state (t ∷ ts ++ more) ≡ true
    from None h q ih = absurd (cc)
    from (Some next) h q ih = rw h (ih next q)

some_is : {A : Type 0} (o : Option A) → IsSome o → (x : A) × (o ≡ Some x)
some_is None h = absurd (cc)
some_is (Some x) h = (x, refl)

-- Tokens begin a filter exactly where the machine goes on behind them.
pub begins_iff : (ts : List Token) → Begins ts ↔ IsSome (reaches Start ts)
begins_iff ts = (forth, back)
  where
    forth : Begins ts → IsSome (reaches Start ts)
    forth (more, filter, w) = reached ts more Start (written_accepted (ts ++ more) filter w)

    back : IsSome (reaches Start ts) → Begins ts
    back h =
        let (state, r) = some_is (reaches Start ts) h in
        let (filter, w) = accepted_writes (ts ++ closers state) (reaching ts (closers state) Start state r (can_end state)) in
        (closers state, filter, w)
