-- Where the machine has no way on.
use Rattle.std.proofs.Common.{◌≡◌, false, None, refl}
use Rattle.px_xpath.specs.declared.filter.Relation.{Relation}
use Rattle.px_xpath.specs.declared.descent.Bracket.TheVariants as bracket
use Rattle.px_xpath.specs.Tokens.{Token, Slash, Slashes, OpenSquare, Open, Close, At, Star, Dot, Minus, Related, Quoted, Numeric, NameTest, NotWord, TextWord}
use Rattle.px_xpath.specs.Machine.{Around, Within, Group, Round, BeforeStep, BehindAt, BehindText, BehindTextOpen, BehindElement, BehindLast, BeforeUnary, BehindNot, BehindDot, BehindRelation, BehindMinus, BehindUnary, step}
use Rattle.px_xpath.specs.Reads.{is_name_test, is_open, is_numeric, begins_step, begins_operand, begins_condition, closes, is_separator, is_open_square, is_related}

pub no_attribute : (around : Around) (t : Token) → is_name_test t ≡ false → step (BehindAt around) t ≡ None
no_attribute around Star e = absurd (cc)
no_attribute around (NameTest name) e = absurd (cc)
no_attribute around _ e = refl

pub no_step : (around : Around) (t : Token) → begins_step t ≡ false → step (BeforeStep around) t ≡ None
no_step around At e = absurd (cc)
no_step around TextWord e = absurd (cc)
no_step around Star e = absurd (cc)
no_step around (NameTest name) e = absurd (cc)
no_step around _ e = refl

pub no_call : (around : Around) (t : Token) → is_open t ≡ false → step (BehindText around) t ≡ None
no_call around Open e = absurd (cc)
no_call around _ e = refl

pub no_call_end : (around : Around) (t : Token) → closes bracket.Round t ≡ false → step (BehindTextOpen around) t ≡ None
no_call_end around Close e = absurd (cc)
no_call_end around _ e = refl

pub no_negation : (group : Group) (t : Token) → is_open t ≡ false → step (BehindNot group) t ≡ None
no_negation group Open e = absurd (cc)
no_negation group _ e = refl

pub no_dot : (group : Group) (t : Token) → is_separator t ≡ false → step (BehindDot group) t ≡ None
no_dot group Slash e = absurd (cc)
no_dot group Slashes e = absurd (cc)
no_dot group _ e = refl

pub no_number : (group : Group) (t : Token) → is_numeric t ≡ false → step (BehindMinus group) t ≡ None
no_number group (Numeric whole fraction) e = absurd (cc)
no_number group _ e = refl

pub no_operand : (r : Relation) (group : Group) (t : Token) → begins_operand t ≡ false → step (BehindRelation r group) t ≡ None
no_operand r group (Quoted text) e = absurd (cc)
no_operand r group (Numeric whole fraction) e = absurd (cc)
no_operand r group Minus e = absurd (cc)
no_operand r group _ e = refl

-- a condition that begins with a path goes on as the path does
pub as_step : (group : Group) (t : Token) → begins_condition t ≡ false → step (BeforeUnary group) t ≡ step (BeforeStep (Within group)) t
as_step group NotWord e = absurd (cc)
as_step group Open e = absurd (cc)
as_step group Dot e = absurd (cc)
as_step group _ e = refl

-- behind a path without a relation stands what stands behind a condition
pub as_condition : (group : Group) (t : Token) → is_related t ≡ false → step (BehindLast (Within group)) t ≡ step (BehindUnary group) t
as_condition group (Related r) e = absurd (cc)
as_condition group _ e = refl

-- and behind an element without a separator or a bracket what stands behind a last step
pub as_last : (around : Around) (t : Token) → is_open_square t ≡ false → is_separator t ≡ false → step (BehindElement around) t ≡ step (BehindLast around) t
as_last around OpenSquare e f = absurd (cc)
as_last around Slash e f = absurd (cc)
as_last around Slashes e f = absurd (cc)
as_last around _ e f = refl
