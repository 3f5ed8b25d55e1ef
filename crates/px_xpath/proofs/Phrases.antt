-- The phrases that stand where the parser's functions read.
use Rattle.std.proofs.Common.{◌≡◌, ℕ, ◌+◌, true, false, List, [], ◌∷◌, Some, None, refl, arith, nat_le, ℤ, Result, Ok, Err}
use Rattle.px_xpath.specs.declared.descent.Stop.{Stop}
use Rattle.std.proofs.lemmas.Bool.Decides.{nat_tests}
use Rattle.px_text.specs.Numbers.{units_of}
use Rattle.px_xpath.specs.declared.filter.Axis.{Axis}
use Rattle.px_xpath.specs.declared.filter.Axis.TheVariants.{Child, Below}
use Rattle.px_xpath.specs.declared.filter.Test.{Test}
use Rattle.px_xpath.specs.declared.filter.Test.TheVariants as test
use Rattle.px_xpath.specs.declared.filter.Relation.{Relation}
use Rattle.px_xpath.specs.declared.filter.Value.{Value}
use Rattle.px_xpath.specs.declared.filter.Value.TheVariants.{Number, Literal}
use Rattle.px_xpath.specs.Filters.{Way, Arrived, StepThen, Condition, NoConditions, Fails, Selects, Compares}
use Rattle.px_xpath.specs.Tokens as tokens
use Rattle.px_xpath.specs.Tokens.{Token, Placed}
use Rattle.px_xpath.specs.Faults.{words, is_long}
use Rattle.px_xpath.specs.Grammar.{Stands, attribute, text, negated, bracketed, selects, compares, plain, dotted, literal, number, negative, Steps, Or, Unary, Relative, Operand, separator, attribute_test, is_equality}
use Rattle.px_xpath.specs.Machine.{Around, Within, Group, Round, BeforeStep, BehindAt, BehindText, BehindTextOpen, BehindLast, BeforeUnary, BehindNot, BehindDot, BehindRelation, BehindMinus, BehindUnary, step}
use Rattle.px_xpath.specs.Leads.{Leads, stays, height_in, fits}
use Rattle.px_xpath.specs.Reads.{Takes, TakesAttribute, ComesNot, begins_condition, is_related, Rest, rest_of, ReadsNegative, ReadsOperand}
use Rattle.px_xpath.proofs.Walks.{spelt, move, here, leads_then, step_on, stops_behind}
use Rattle.px_xpath.proofs.Stuck.{as_step, as_condition}

attribute_moves : (around : Around) (t : Token) (found : Test) → attribute_test t ≡ Some found → step (BehindAt around) t ≡ Some (BehindLast around)
attribute_moves around (tokens.NameTest name) found e = refl
attribute_moves around tokens.Star found e = refl
attribute_moves around _ found e = absurd (cc)

attribute_fits : (t : Token) (found : Test) → attribute_test t ≡ Some found → (around : Around) → fits t (BehindLast around) ≡ true
attribute_fits (tokens.NameTest name) found e around = refl
attribute_fits tokens.Star found e around = refl
attribute_fits _ found e around = absurd (cc)

-- an attribute behind its sign
pub attribute_stands : (ts us rest : List Placed) (found : Test) → Takes tokens.At ts us → TakesAttribute found us rest →
    ((axis : Axis) → Stands (words ts) (Steps axis (StepThen axis found NoConditions Arrived)) (words rest))
    × ((around : Around) → Leads (BeforeStep around) ts (BehindLast around) rest)
attribute_stands ts [] rest found t a = absurd a
attribute_stands ts (p ∷ us) rest found t (e, r) = (
  λ axis. rw (spelt tokens.At ts (p ∷ us) t, r) (attribute e),
  λ around. leads_then (move (BeforeStep around) (BehindAt around) tokens.At ts (p ∷ us) refl refl t)
      (rw r (step_on (BehindAt around) (BehindLast around) (BehindLast around) p rest rest (attribute_moves around p.token found e) (attribute_fits p.token found e around) (here (BehindLast around) rest))),
)

pub text_stands : (ts us vs rest : List Placed) → Takes tokens.TextWord ts us → Takes tokens.Open us vs → Takes tokens.Close vs rest →
    ((axis : Axis) → Stands (words ts) (Steps axis (StepThen axis test.Text NoConditions Arrived)) (words rest))
    × ((around : Around) → Leads (BeforeStep around) ts (BehindLast around) rest)
text_stands ts us vs rest t o c = (
  λ axis. rw (spelt tokens.TextWord ts us t, spelt tokens.Open us vs o, spelt tokens.Close vs rest c) text,
  λ around. leads_then (move (BeforeStep around) (BehindText around) tokens.TextWord ts us refl refl t)
      (leads_then (move (BehindText around) (BehindTextOpen around) tokens.Open us vs refl refl o) (move (BehindTextOpen around) (BehindLast around) tokens.Close vs rest refl refl c)),
)

pub shallow : (n spare left : ℕ) → n + spare ≡ 64 → left + 1 ≡ spare → nat_le (n + 1) 64 ≡ true
shallow n spare left h l = grind (arith, nat_tests)

-- what stands in the brackets of `not`, and in brackets alone
pub negation_begins : (spare left : ℕ) (ts us rest : List Placed) → Takes tokens.NotWord ts us → Takes tokens.Open us rest → left + 1 ≡ spare →
    ((c : Condition) (vs : List Token) → Stands (words rest) (Or c) (tokens.Close ∷ vs) → Stands (words ts) (Unary (Fails c)) vs)
    × ((group : Group) → height_in group + spare ≡ 64 → Leads (BeforeUnary group) ts (BeforeUnary (Round group)) rest)
negation_begins spare left ts us rest t o l = (
  λ c vs s. rw (spelt tokens.NotWord ts us t, spelt tokens.Open us rest o) (negated s),
  λ group h. leads_then (move (BeforeUnary group) (BehindNot group) tokens.NotWord ts us refl refl t)
      (move (BehindNot group) (BeforeUnary (Round group)) tokens.Open us rest refl (shallow (height_in group) spare left h l) o),
)

pub bracket_begins : (spare left : ℕ) (ts rest : List Placed) → Takes tokens.Open ts rest → left + 1 ≡ spare →
    ((c : Condition) (vs : List Token) → Stands (words rest) (Or c) (tokens.Close ∷ vs) → Stands (words ts) (Unary c) vs)
    × ((group : Group) → height_in group + spare ≡ 64 → Leads (BeforeUnary group) ts (BeforeUnary (Round group)) rest)
bracket_begins spare left ts rest o l = (
  λ c vs s. rw (spelt tokens.Open ts rest o) (bracketed s),
  λ group h. move (BeforeUnary group) (BeforeUnary (Round group)) tokens.Open ts rest refl (shallow (height_in group) spare left h l) o,
)

dot_moves : (axis : Axis) (group : Group) (us rest : List Placed) → Takes (separator axis) us rest → Leads (BehindDot group) us (BeforeStep (Within group)) rest
dot_moves Child group us rest t = move (BehindDot group) (BeforeStep (Within group)) tokens.Slash us rest refl refl t
dot_moves Below group us rest t = move (BehindDot group) (BeforeStep (Within group)) tokens.Slashes us rest refl refl t

pub dot_begins : (axis : Axis) (ts us rest : List Placed) → Takes tokens.Dot ts us → Takes (separator axis) us rest →
    ((w : Way) (vs : List Token) → Stands (words rest) (Steps axis w) vs → Stands (words ts) (Relative w) vs)
    × ((group : Group) → Leads (BeforeUnary group) ts (BeforeStep (Within group)) rest)
dot_begins axis ts us rest t s = (
  λ w vs d. rw (spelt tokens.Dot ts us t, spelt (separator axis) us rest s) (dotted axis d),
  λ group. leads_then (move (BeforeUnary group) (BehindDot group) tokens.Dot ts us refl refl t) (dot_moves axis group us rest s),
)

pub path_begins : (ts : List Placed) → ComesNot begins_condition ts →
    ((w : Way) (vs : List Token) → Stands (words ts) (Steps Child w) vs → Stands (words ts) (Relative w) vs)
    × ((group : Group) → Leads (BeforeUnary group) ts (BeforeStep (Within group)) ts)
path_begins [] none = (λ w vs s. plain s, λ group. stays refl)
path_begins (p ∷ ts) none = (λ w vs s. plain s, λ group. stays (as_step group p.token none))

-- what a path alone is
pub path_ends : (path : Way) (ts : List Placed) → ComesNot is_related ts →
    ((before : List Token) → Stands before (Relative path) (words ts) → Stands before (Unary (Selects path)) (words ts))
    × ((group : Group) → Leads (BehindLast (Within group)) ts (BehindUnary group) ts)
path_ends path [] none = (λ before s. selects s, λ group. stays refl)
path_ends path (p ∷ ts) none = (λ before s. selects s, λ group. stays (as_condition group p.token none))

relation_moves : (r : Relation) (group : Group) (ts us : List Placed) → Takes (tokens.Related r) ts us → Leads (BehindLast (Within group)) ts (BehindRelation r group) us
relation_moves r group ts us t = move (BehindLast (Within group)) (BehindRelation r group) (tokens.Related r) ts us refl refl t

-- a path and its comparison
pub compared : (path : Way) (r : Relation) (v : Value) (ts us rest : List Placed) → Takes (tokens.Related r) ts us →
    Stands (tokens.Related r ∷ words us) (Operand r v) (words rest) → ((group : Group) → Leads (BehindRelation r group) us (BehindUnary group) rest) →
    ((before : List Token) → Stands before (Relative path) (words ts) → Stands before (Unary (Compares path r v)) (words rest))
    × ((group : Group) → Leads (BehindLast (Within group)) ts (BehindUnary group) rest)
compared path r v ts us rest t s l = (
  λ before p. compares (rw (spelt (tokens.Related r) ts us t) at p) s,
  λ group. leads_then (relation_moves r group ts us t) (l group),
)

pub relation_first : (r : Relation) (ts us : List Placed) → Takes (tokens.Related r) ts us → (group : Group) → Leads (BehindLast (Within group)) ts (BehindRelation r group) us
relation_first r ts us t group = relation_moves r group ts us t

pub literal_stands : (r : Relation) (content : List ℕ) (ts rest : List Placed) → is_equality r ≡ true → Takes (tokens.Quoted content) ts rest →
    Stands (tokens.Related r ∷ words ts) (Operand r (Literal content)) (words rest) × ((group : Group) → Leads (BehindRelation r group) ts (BehindUnary group) rest)
literal_stands r content ts rest e t = (
  rw (spelt (tokens.Quoted content) ts rest t) (literal e),
  λ group. move (BehindRelation r group) (BehindUnary group) (tokens.Quoted content) ts rest (rw e refl) refl t,
)

short : (whole fraction : List ℕ) → is_long (tokens.Numeric whole fraction) ≡ false → (group : Group) → fits (tokens.Numeric whole fraction) (BehindUnary group) ≡ true
short whole fraction e group = rw e refl

pub number_stands : (r : Relation) (whole fraction : List ℕ) (units : ℤ) (ts rest : List Placed) → is_long (tokens.Numeric whole fraction) ≡ false →
    units ≡ units_of false whole fraction → Takes (tokens.Numeric whole fraction) ts rest →
    Stands (tokens.Related r ∷ words ts) (Operand r (Number units)) (words rest) × ((group : Group) → Leads (BehindRelation r group) ts (BehindUnary group) rest)
number_stands r whole fraction units ts rest e u t = (
  rw (spelt (tokens.Numeric whole fraction) ts rest t, u) number,
  λ group. move (BehindRelation r group) (BehindUnary group) (tokens.Numeric whole fraction) ts rest refl (short whole fraction e group) t,
)

pub negative_stands : (r : Relation) (whole fraction : List ℕ) (units : ℤ) (ts rest : List Placed) → is_long (tokens.Numeric whole fraction) ≡ false →
    units ≡ units_of true whole fraction → Takes (tokens.Numeric whole fraction) ts rest →
    Stands (tokens.Related r ∷ tokens.Minus ∷ words ts) (Operand r (Number units)) (words rest) × ((group : Group) → Leads (BehindMinus group) ts (BehindUnary group) rest)
negative_stands r whole fraction units ts rest e u t = (
  rw (spelt (tokens.Numeric whole fraction) ts rest t, u) negative,
  λ group. move (BehindMinus group) (BehindUnary group) (tokens.Numeric whole fraction) ts rest refl (short whole fraction e group) t,
)

-- and behind its minus
pub minus_stands : (r : Relation) (v : Value) (ts us rest : List Placed) → Takes tokens.Minus ts us →
    Stands (tokens.Related r ∷ tokens.Minus ∷ words us) (Operand r v) (words rest) → ((group : Group) → Leads (BehindMinus group) us (BehindUnary group) rest) →
    Stands (tokens.Related r ∷ words ts) (Operand r v) (words rest) × ((group : Group) → Leads (BehindRelation r group) ts (BehindUnary group) rest)
minus_stands r v ts us rest t s l = (
  rw (spelt tokens.Minus ts us t) s,
  λ group. leads_then (move (BehindRelation r group) (BehindMinus group) tokens.Minus ts us refl refl t) (l group),
)

pub minus_reads : (r : Relation) (ts us : List Placed) (result : Result (Value × Rest) Stop) → Takes tokens.Minus ts us → ReadsNegative r us result → ReadsOperand r ts result
minus_reads r ts us (Ok read) t h = minus_stands r read.0 ts us (rest_of read.1) t h.0 h.1
minus_reads r ts us (Err stop) t h = λ group.
    stops_behind stop (move (BehindRelation r group) (BehindMinus group) tokens.Minus ts us refl refl t) (h group)

-- no literal stands behind an order
pub no_literal : (r : Relation) (group : Group) (content : List ℕ) → is_equality r ≡ false → step (BehindRelation r group) (tokens.Quoted content) ≡ None
no_literal r group content e = rw e refl
