-- The machine over tokens, with what it has read: the filter that tokens write.
use Rattle.std.specs.Prelude.{true, false, List, [], ◌∷◌, ◌++◌, Option, Some, None, if◌then◌else◌}
use Rattle.std.specs.Option.{option_and_then}
use Rattle.px_xpath.specs.declared.filter.Axis.{Axis}
use Rattle.px_xpath.specs.declared.filter.Axis.TheVariants.{Child, Below}
use Rattle.px_xpath.specs.declared.filter.Test.{Test}
use Rattle.px_xpath.specs.declared.filter.Test.TheVariants as test
use Rattle.px_xpath.specs.declared.filter.Relation.{Relation}
use Rattle.px_xpath.specs.declared.filter.Value.{Value}
use Rattle.px_xpath.specs.declared.filter.Value.TheVariants.{Number, Literal}
use Rattle.px_xpath.specs.Filters.{Way, Arrived, StepThen, Condition, Selects, Compares, EachOf, SomeOf, Fails, Conditions, NoConditions, CondThen}
use Rattle.px_xpath.specs.Tokens.{Token, Slash, Slashes, OpenSquare, CloseSquare, Open, Close, At, Star, Dot, Minus, Related, Quoted, Numeric, NameTest, AndWord, OrWord, NotWord, TextWord}
use Rattle.px_xpath.specs.Grammar.{is_equality}
use Rattle.px_text.specs.Numbers.{units_of}

abbrev pub of_list : List Condition → Conditions
of_list [] = NoConditions
of_list (c ∷ cs) = CondThen c (of_list cs)

-- one condition stands for itself
abbrev pub and_of : List Condition → Condition
and_of (c ∷ []) = c
and_of cs = EachOf (of_list cs)

abbrev pub or_of : List Condition → Condition
or_of (c ∷ []) = c
or_of cs = SomeOf (of_list cs)

-- the first part of a path, and the rest of it
abbrev pub Front : Type 0
Front = Way → Way

mutual
  pub data Around : Type 0 where
    Whole : Around
    Within : Group → (ors ands : List Condition) → Around

  pub data Group : Type 0 where
    Square : Around → Front → Axis → Test → (conds : List Condition) → Group
    Round : Group → (ors ands : List Condition) → Group
    Negated : Group → (ors ands : List Condition) → Group

pub data State : Type 0 where
  Start : State
  BeforeStep : Around → Front → Axis → State
  BehindAt : Around → Front → Axis → State
  BehindText : Around → Front → Axis → State
  BehindTextOpen : Around → Front → Axis → State
  BehindElement : Around → Front → Axis → Test → (conds : List Condition) → State
  BehindLast : Around → Way → State
  BeforeUnary : Group → (ors ands : List Condition) → State
  BehindNot : Group → (ors ands : List Condition) → State
  BehindDot : Group → (ors ands : List Condition) → State
  BehindRelation : Relation → Group → (ors ands : List Condition) → Way → State
  BehindMinus : Relation → Group → (ors ands : List Condition) → Way → State
  BehindUnary : Group → (ors ands : List Condition) → State

abbrev pub last_step : Front → Axis → Test → List Condition → Way
last_step front axis t conds = front (StepThen axis t (of_list conds) Arrived)

-- a whole bracket's condition
abbrev pub bracket : (ors ands : List Condition) → Condition
bracket ors ands = or_of (ors ++ and_of ands ∷ [])

abbrev pub step_behind_unary : Group → (ors ands : List Condition) → Token → Option State
step_behind_unary group ors ands AndWord = Some (BeforeUnary group ors ands)
step_behind_unary group ors ands OrWord = Some (BeforeUnary group (ors ++ and_of ands ∷ []) [])
step_behind_unary (Square around front axis t conds) ors ands CloseSquare = Some (BehindElement around front axis t (conds ++ bracket ors ands ∷ []))
step_behind_unary (Round group outer_ors outer_ands) ors ands Close = Some (BehindUnary group outer_ors (outer_ands ++ bracket ors ands ∷ []))
step_behind_unary (Negated group outer_ors outer_ands) ors ands Close = Some (BehindUnary group outer_ors (outer_ands ++ Fails (bracket ors ands) ∷ []))
step_behind_unary _ _ _ _ = None

abbrev pub step_behind_path : Around → Way → Token → Option State
step_behind_path Whole way token = None
step_behind_path (Within group ors ands) way (Related r) = Some (BehindRelation r group ors ands way)
step_behind_path (Within group ors ands) way token = step_behind_unary group ors (ands ++ Selects way ∷ []) token

abbrev pub step_before_step : Around → Front → Axis → Token → Option State
step_before_step around front axis At = Some (BehindAt around front axis)
step_before_step around front axis TextWord = Some (BehindText around front axis)
step_before_step around front axis Star = Some (BehindElement around front axis test.AnyElement [])
step_before_step around front axis (NameTest name) = Some (BehindElement around front axis (test.Element name) [])
step_before_step around front axis _ = None

abbrev pub no_front : Front
no_front way = way

abbrev pub compared : Group → (ors ands : List Condition) → Way → Relation → Value → State
compared group ors ands way r value = BehindUnary group ors (ands ++ Compares way r value ∷ [])

abbrev pub step : State → Token → Option State
step Start Slash = Some (BeforeStep Whole no_front Child)
step Start Slashes = Some (BeforeStep Whole no_front Below)
step (BeforeStep around front axis) token = step_before_step around front axis token
step (BehindAt around front axis) Star = Some (BehindLast around (last_step front axis test.AnyAttribute []))
step (BehindAt around front axis) (NameTest name) = Some (BehindLast around (last_step front axis (test.Attribute name) []))
step (BehindText around front axis) Open = Some (BehindTextOpen around front axis)
step (BehindTextOpen around front axis) Close = Some (BehindLast around (last_step front axis test.Text []))
step (BehindElement around front axis t conds) OpenSquare = Some (BeforeUnary (Square around front axis t conds) [] [])
step (BehindElement around front axis t conds) Slash = Some (BeforeStep around (λ way. front (StepThen axis t (of_list conds) way)) Child)
step (BehindElement around front axis t conds) Slashes = Some (BeforeStep around (λ way. front (StepThen axis t (of_list conds) way)) Below)
step (BehindElement around front axis t conds) token = step_behind_path around (last_step front axis t conds) token
step (BehindLast around way) token = step_behind_path around way token
step (BeforeUnary group ors ands) NotWord = Some (BehindNot group ors ands)
step (BeforeUnary group ors ands) Open = Some (BeforeUnary (Round group ors ands) [] [])
step (BeforeUnary group ors ands) Dot = Some (BehindDot group ors ands)
step (BeforeUnary group ors ands) token = step_before_step (Within group ors ands) no_front Child token
step (BehindNot group ors ands) Open = Some (BeforeUnary (Negated group ors ands) [] [])
step (BehindDot group ors ands) Slash = Some (BeforeStep (Within group ors ands) no_front Child)
step (BehindDot group ors ands) Slashes = Some (BeforeStep (Within group ors ands) no_front Below)
step (BehindRelation r group ors ands way) (Quoted text) = if is_equality r then Some (compared group ors ands way r (Literal text)) else None
step (BehindRelation r group ors ands way) (Numeric whole fraction) = Some (compared group ors ands way r (Number (units_of false whole fraction)))
step (BehindRelation r group ors ands way) Minus = Some (BehindMinus r group ors ands way)
step (BehindMinus r group ors ands way) (Numeric whole fraction) = Some (compared group ors ands way r (Number (units_of true whole fraction)))
step (BehindUnary group ors ands) token = step_behind_unary group ors ands token
step _ _ = None

-- the filter, if one may end here
abbrev pub ending : State → Option Way
ending (BehindElement Whole front axis t conds) = Some (last_step front axis t conds)
ending (BehindLast Whole way) = Some way
ending _ = None

abbrev pub run : State → List Token → Option Way
run state [] = ending state
run state (token ∷ tokens) = option_and_then (λ next. run next tokens) (step state token)

-- the filter that the tokens write, if they write one
abbrev pub parsed : List Token → Option Way
parsed tokens = run Start tokens
