-- The brackets that are open in a state are those that are open behind the tokens that lead there.
use Rattle.std.proofs.Common.{◌≡◌, ℕ, ◌+◌, ◌-◌, ◌≤◌, Bool, true, false, List, [], ◌∷◌, Some, None, if◌then◌else◌, refl, subst, arith, nat_le}
use Rattle.std.proofs.lemmas.Bool.Decides.{nat_tests}
use Rattle.px_xpath.specs.declared.filter.Relation.{Relation}
use Rattle.px_xpath.specs.Tokens.{Token, Slash, Slashes, OpenSquare, CloseSquare, Open, Close, At, Star, Dot, Minus, Related, Quoted, Numeric, NameTest, AndWord, OrWord, NotWord, TextWord}
use Rattle.px_xpath.specs.Grammar.{is_equality}
use Rattle.px_xpath.specs.Faults.{open_behind}
use Rattle.px_xpath.specs.Machine.{Around, Whole, Within, Group, Square, Round, State, Start, BeforeStep, BehindAt, BehindText, BehindTextOpen, BehindElement, BehindLast, BeforeUnary, BehindNot, BehindDot, BehindRelation, BehindMinus, BehindUnary, step, step_behind_unary, step_behind_path, step_before_step}
use Rattle.px_xpath.specs.Leads.{height_around, height_in, height, fits}

-- behind these tokens so many brackets are open
abbrev pub Opens : State → List Token → ℕ → Type 0
Opens (BehindText around) ts h = open_behind (height_around around) (TextWord ∷ ts) ≡ h
Opens (BehindTextOpen around) ts h = open_behind (height_around around) (TextWord ∷ Open ∷ ts) ≡ h
Opens s ts h = open_behind (height s) ts ≡ h

-- what a token does to the brackets that are open
abbrev Does : State → Token → State → List Token → ℕ → Type 0
Does s t next ts h = (Opens next ts h → Opens s (t ∷ ts) h) × (fits t next ≡ true → height s ≤ 64 → height next ≤ 64)

by_some : (s : State) (t : Token) (known next : State) (ts : List Token) (h : ℕ) → Some known ≡ Some next → Does s t known ts h → Does s t next ts h
by_some s t known next ts h e d = let same : known ≡ next = cc in subst (λ n. Does s t n ts h) same d

less : (n : ℕ) → n + 1 - 1 ≡ n
less n = omega arith

shut : (n : ℕ) (ts : List Token) (h : ℕ) → open_behind n ts ≡ h → open_behind (n + 1 - 1) ts ≡ h
shut n ts h e = rw less e

does_behind_unary : (group : Group) (t : Token) (next : State) (ts : List Token) (h : ℕ) → step_behind_unary group t ≡ Some next →
    (Opens next ts h → open_behind (height_in group) (t ∷ ts) ≡ h) × (fits t next ≡ true → height_in group ≤ 64 → height next ≤ 64)
does_behind_unary (Square around) AndWord next ts h e = by_some (BehindUnary (Square around)) AndWord (BeforeUnary (Square around)) next ts h e (λ o. o, λ f l. l)
does_behind_unary (Round group) AndWord next ts h e = by_some (BehindUnary (Round group)) AndWord (BeforeUnary (Round group)) next ts h e (λ o. o, λ f l. l)
does_behind_unary (Square around) OrWord next ts h e = by_some (BehindUnary (Square around)) OrWord (BeforeUnary (Square around)) next ts h e (λ o. o, λ f l. l)
does_behind_unary (Round group) OrWord next ts h e = by_some (BehindUnary (Round group)) OrWord (BeforeUnary (Round group)) next ts h e (λ o. o, λ f l. l)
does_behind_unary (Square around) CloseSquare next ts h e =
    by_some (BehindUnary (Square around)) CloseSquare (BehindElement around) next ts h e (λ o. shut (height_around around) ts h o, λ f l. omega arith)
does_behind_unary (Round group) Close next ts h e =
    by_some (BehindUnary (Round group)) Close (BehindUnary group) next ts h e (λ o. shut (height_in group) ts h o, λ f l. omega arith)
does_behind_unary (Square around) _ next ts h e = absurd (cc)
does_behind_unary (Round group) _ next ts h e = absurd (cc)

does_behind_path : (around : Around) (t : Token) (next : State) (ts : List Token) (h : ℕ) → step_behind_path around t ≡ Some next →
    (Opens next ts h → open_behind (height_around around) (t ∷ ts) ≡ h) × (fits t next ≡ true → height_around around ≤ 64 → height next ≤ 64)
does_behind_path Whole t next ts h e = absurd (cc)
does_behind_path (Within group) (Related r) next ts h e =
    by_some (BehindLast (Within group)) (Related r) (BehindRelation r group) next ts h e (λ o. o, λ f l. l)
does_behind_path (Within group) t next ts h e = does_behind_unary group t next ts h e

does_before_step : (around : Around) (t : Token) (next : State) (ts : List Token) (h : ℕ) → step_before_step around t ≡ Some next →
    (Opens next ts h → open_behind (height_around around) (t ∷ ts) ≡ h) × (fits t next ≡ true → height_around around ≤ 64 → height next ≤ 64)
does_before_step around At next ts h e = by_some (BeforeStep around) At (BehindAt around) next ts h e (λ o. o, λ f l. l)
does_before_step around TextWord next ts h e = by_some (BeforeStep around) TextWord (BehindText around) next ts h e (λ o. o, λ f l. l)
does_before_step around Star next ts h e = by_some (BeforeStep around) Star (BehindElement around) next ts h e (λ o. o, λ f l. l)
does_before_step around (NameTest name) next ts h e = by_some (BeforeStep around) (NameTest name) (BehindElement around) next ts h e (λ o. o, λ f l. l)
does_before_step around _ next ts h e = absurd (cc)

shallow_enough : (n : ℕ) → nat_le n 64 ≡ true → n ≤ 64
shallow_enough n e = grind (arith, nat_tests)

does_quoted : (r : Relation) (group : Group) (content : List ℕ) (next : State) (ts : List Token) (h : ℕ) → (b : Bool) →
    (if b then Some (BehindUnary group) else None) ≡ Some next → Does (BehindRelation r group) (Quoted content) next ts h
does_quoted r group content next ts h true e = by_some (BehindRelation r group) (Quoted content) (BehindUnary group) next ts h e (λ o. o, λ f l. l)
does_quoted r group content next ts h false e = absurd (cc)

pub does : (s : State) (t : Token) (next : State) (ts : List Token) (h : ℕ) → step s t ≡ Some next → Does s t next ts h
does Start Slash next ts h e = by_some Start Slash (BeforeStep Whole) next ts h e (λ o. o, λ f l. l)
does Start Slashes next ts h e = by_some Start Slashes (BeforeStep Whole) next ts h e (λ o. o, λ f l. l)
does Start _ next ts h e = absurd (cc)
does (BeforeStep around) t next ts h e = does_before_step around t next ts h e
does (BehindAt around) Star next ts h e = by_some (BehindAt around) Star (BehindLast around) next ts h e (λ o. o, λ f l. l)
does (BehindAt around) (NameTest name) next ts h e = by_some (BehindAt around) (NameTest name) (BehindLast around) next ts h e (λ o. o, λ f l. l)
does (BehindAt around) _ next ts h e = absurd (cc)
does (BehindText around) Open next ts h e = by_some (BehindText around) Open (BehindTextOpen around) next ts h e (λ o. o, λ f l. l)
does (BehindText around) _ next ts h e = absurd (cc)
does (BehindTextOpen around) Close next ts h e = by_some (BehindTextOpen around) Close (BehindLast around) next ts h e (λ o. o, λ f l. l)
does (BehindTextOpen around) _ next ts h e = absurd (cc)
does (BehindElement around) OpenSquare next ts h e =
    by_some (BehindElement around) OpenSquare (BeforeUnary (Square around)) next ts h e (λ o. o, λ f l. shallow_enough (height_around around + 1) f)
does (BehindElement around) Slash next ts h e = by_some (BehindElement around) Slash (BeforeStep around) next ts h e (λ o. o, λ f l. l)
does (BehindElement around) Slashes next ts h e = by_some (BehindElement around) Slashes (BeforeStep around) next ts h e (λ o. o, λ f l. l)
does (BehindElement around) t next ts h e = does_behind_path around t next ts h e
does (BehindLast around) t next ts h e = does_behind_path around t next ts h e
does (BeforeUnary group) NotWord next ts h e = by_some (BeforeUnary group) NotWord (BehindNot group) next ts h e (λ o. o, λ f l. l)
does (BeforeUnary group) Open next ts h e =
    by_some (BeforeUnary group) Open (BeforeUnary (Round group)) next ts h e (λ o. o, λ f l. shallow_enough (height_in group + 1) f)
does (BeforeUnary group) Dot next ts h e = by_some (BeforeUnary group) Dot (BehindDot group) next ts h e (λ o. o, λ f l. l)
does (BeforeUnary group) t next ts h e = does_before_step (Within group) t next ts h e
does (BehindNot group) Open next ts h e =
    by_some (BehindNot group) Open (BeforeUnary (Round group)) next ts h e (λ o. o, λ f l. shallow_enough (height_in group + 1) f)
does (BehindNot group) _ next ts h e = absurd (cc)
does (BehindDot group) Slash next ts h e = by_some (BehindDot group) Slash (BeforeStep (Within group)) next ts h e (λ o. o, λ f l. l)
does (BehindDot group) Slashes next ts h e = by_some (BehindDot group) Slashes (BeforeStep (Within group)) next ts h e (λ o. o, λ f l. l)
does (BehindDot group) _ next ts h e = absurd (cc)
does (BehindRelation r group) (Quoted content) next ts h e = does_quoted r group content next ts h (is_equality r) e
does (BehindRelation r group) (Numeric whole fraction) next ts h e =
    by_some (BehindRelation r group) (Numeric whole fraction) (BehindUnary group) next ts h e (λ o. o, λ f l. l)
does (BehindRelation r group) Minus next ts h e = by_some (BehindRelation r group) Minus (BehindMinus group) next ts h e (λ o. o, λ f l. l)
does (BehindRelation r group) _ next ts h e = absurd (cc)
does (BehindMinus group) (Numeric whole fraction) next ts h e =
    by_some (BehindMinus group) (Numeric whole fraction) (BehindUnary group) next ts h e (λ o. o, λ f l. l)
does (BehindMinus group) _ next ts h e = absurd (cc)
does (BehindUnary group) t next ts h e = does_behind_unary group t next ts h e

pub opens_none : (s : State) → Opens s [] (height s)
opens_none Start = refl
opens_none (BeforeStep around) = refl
opens_none (BehindAt around) = refl
opens_none (BehindText around) = refl
opens_none (BehindTextOpen around) = refl
opens_none (BehindElement around) = refl
opens_none (BehindLast around) = refl
opens_none (BeforeUnary group) = refl
opens_none (BehindNot group) = refl
opens_none (BehindDot group) = refl
opens_none (BehindRelation r group) = refl
opens_none (BehindMinus group) = refl
opens_none (BehindUnary group) = refl
