-- What the functions of the parser read.
use Rattle.std.specs.Prelude.{◌≡◌, ℕ, ◌+◌, ◌<◌, ◌≤◌, length, Bool, true, false, List, [], ◌∷◌, ℤ, Result, Ok, Err, Option, Some, None}
use Rattle.std.specs.Borrow.{Bor}
use Rattle.px_xpath.specs.declared.filter.Axis.{Axis}
use Rattle.px_xpath.specs.declared.filter.Test.{Test}
use Rattle.px_xpath.specs.declared.filter.Step.{Step}
use Rattle.px_xpath.specs.declared.filter.Cond.{Cond}
use Rattle.px_xpath.specs.declared.filter.Path.{Path}
use Rattle.px_xpath.specs.declared.token.Placed.{Placed}
use Rattle.px_xpath.specs.declared.descent.Bracket.{Bracket}
use Rattle.px_xpath.specs.declared.descent.Bracket.TheVariants as bracket
use Rattle.px_xpath.specs.declared.descent.Stop.{Stop}
use Rattle.px_xpath.specs.declared.descent.Found.{Found}
use Rattle.px_xpath.specs.declared.descent.Found.TheVariants as found
use Rattle.px_xpath.specs.declared.descent.Head.{Head}
use Rattle.px_xpath.specs.declared.descent.Head.TheVariants as head
use Rattle.px_xpath.specs.declared.descent.Members.{Members}
use Rattle.px_xpath.specs.declared.descent.Members.TheVariants as members
use Rattle.px_xpath.specs.declared.descent.Route.{Route}
use Rattle.px_xpath.specs.declared.descent.Route.TheVariants as route
use Rattle.px_xpath.specs.Filters.{Way, Arrived, StepThen, Condition, EachOf, SomeOf, Fails, Conditions, NoConditions, CondThen}
use Rattle.px_xpath.specs.Views.{condition, conditions, ways, way}
use Rattle.px_xpath.specs.Tokens as tokens
use Rattle.px_xpath.specs.TokenViews.{all_placed}
use Rattle.px_xpath.specs.Faults.{words, is_long}
use Rattle.px_text.specs.Numbers.{units_of}
use Rattle.px_xpath.specs.declared.filter.Relation.{Relation}
use Rattle.px_xpath.specs.declared.filter.Value.{Value}
use Rattle.px_xpath.specs.Grammar.{Stands, Steps, Preds, Or, Ors, Ands, Unary, Relative, Operand, Writes, separator, element_test, attribute_test}
use Rattle.px_xpath.specs.Machine.{Around, Whole, Within, Group, Square, Round, State, Start, BeforeStep, BehindAt, BehindText, BehindElement, BehindLast, BeforeUnary, BehindNot, BehindRelation, BehindMinus, BehindUnary}
use Rattle.px_xpath.specs.Leads.{height_around, height_in, Leads, Stops}

-- the conditions of a list, and these behind them
abbrev pub conditions_onto : List Cond → Conditions → Conditions
conditions_onto [] cs = cs
conditions_onto (c ∷ done) cs = CondThen (condition c) (conditions_onto done cs)

-- the steps of a list, and this way on behind them
abbrev pub ways_onto : List Step → Way → Way
ways_onto [] onward = onward
ways_onto (s ∷ done) onward = StepThen s.axis s.test (conditions s.conds) (ways_onto done onward)

-- one condition stands for itself
abbrev pub each_of : Conditions → Condition
each_of (CondThen c NoConditions) = c
each_of cs = EachOf cs

abbrev pub some_of : Conditions → Condition
some_of (CondThen c NoConditions) = c
some_of cs = SomeOf cs

abbrev pub negated_if : Bool → Condition → Condition
negated_if true c = Fails c
negated_if false c = c

-- what remains of the tokens
abbrev pub Rest : Type 0
Rest = Bor (List Placed)

abbrev pub rest_of : Rest → List tokens.Placed
rest_of rest = all_placed rest.now

-- the first token is this one, and the rest stands behind it
abbrev pub Takes : tokens.Token → List tokens.Placed → List tokens.Placed → Type 0
Takes t [] rest = ⊥
Takes t (p ∷ ts) rest = (p.token ≡ t) × (ts ≡ rest)

-- the first token is the test of an element
abbrev pub TakesElement : Test → List tokens.Placed → List tokens.Placed → Type 0
TakesElement found [] rest = ⊥
TakesElement found (p ∷ ts) rest = (element_test p.token ≡ Some found) × (ts ≡ rest)

-- no token, or none of this kind, comes next
abbrev pub ComesNot : (tokens.Token → Bool) → List tokens.Placed → Type 0
ComesNot test [] = Unit {0}
ComesNot test (p ∷ ts) = test p.token ≡ false

abbrev pub is_separator : tokens.Token → Bool
is_separator tokens.Slash = true
is_separator tokens.Slashes = true
is_separator _ = false

abbrev pub is_or : tokens.Token → Bool
is_or tokens.OrWord = true
is_or _ = false

abbrev pub is_and : tokens.Token → Bool
is_and tokens.AndWord = true
is_and _ = false

abbrev pub is_open_square : tokens.Token → Bool
is_open_square tokens.OpenSquare = true
is_open_square _ = false

abbrev pub closer : Bracket → tokens.Token
closer bracket.Square = tokens.CloseSquare
closer bracket.Round = tokens.Close

abbrev pub closes : Bracket → tokens.Token → Bool
closes bracket.Square tokens.CloseSquare = true
closes bracket.Round tokens.Close = true
closes _ _ = false

abbrev pub TakesSeparator : List tokens.Placed → Option (Axis × Rest) → Type 0
TakesSeparator ts None = ComesNot is_separator ts
TakesSeparator ts (Some next) = Takes (separator next.0) ts (rest_of next.1)

abbrev pub TakesOr : List tokens.Placed → Option Rest → Type 0
TakesOr ts None = ComesNot is_or ts
TakesOr ts (Some rest) = Takes tokens.OrWord ts (rest_of rest)

abbrev pub TakesAnd : List tokens.Placed → Option Rest → Type 0
TakesAnd ts None = ComesNot is_and ts
TakesAnd ts (Some rest) = Takes tokens.AndWord ts (rest_of rest)

abbrev pub TakesCloser : Bracket → List tokens.Placed → Option Rest → Type 0
TakesCloser shape ts None = ComesNot (closes shape) ts
TakesCloser shape ts (Some rest) = Takes (closer shape) ts (rest_of rest)

-- a square bracket opens, within the limit, or none comes
abbrev pub OpensSquare : ℕ → List tokens.Placed → Result (Option (ℕ × Rest)) Stop → Type 0
OpensSquare spare ts (Ok None) = ComesNot is_open_square ts
OpensSquare spare ts (Ok (Some opened)) = Takes tokens.OpenSquare ts (rest_of opened.1) × (opened.0 + 1 ≡ spare)
OpensSquare spare ts (Err stop) = (around : Around) → height_around around + spare ≡ 64 → Stops (BehindElement around) ts stop

-- what a step looks for
abbrev pub FindsTest : List tokens.Placed → Result Found Stop → Type 0
FindsTest ts (Ok (found.Last test rest)) =
    ((axis : Axis) → Stands (words ts) (Steps axis (StepThen axis test NoConditions Arrived)) (words (rest_of rest)))
    × ((around : Around) → Leads (BeforeStep around) ts (BehindLast around) (rest_of rest))
FindsTest ts (Ok (found.Element test rest)) = TakesElement test ts (rest_of rest)
FindsTest ts (Err stop) = (around : Around) → Stops (BeforeStep around) ts stop

-- what a condition without `and` and `or` begins with
abbrev pub BeginsUnary : ℕ → List tokens.Placed → Result Head Stop → Type 0
BeginsUnary spare ts (Ok (head.Inside is_negated left rest)) =
    (left + 1 ≡ spare)
    × ((c : Condition) (us : List tokens.Token) → Stands (words (rest_of rest)) (Or c) (tokens.Close ∷ us) → Stands (words ts) (Unary (negated_if is_negated c)) us)
    × ((group : Group) → height_in group + spare ≡ 64 → Leads (BeforeUnary group) ts (BeforeUnary (Round group)) (rest_of rest))
    × (length (rest_of rest) < length ts)
BeginsUnary spare ts (Ok (head.Along axis rest)) =
    ((w : Way) (us : List tokens.Token) → Stands (words (rest_of rest)) (Steps axis w) us → Stands (words ts) (Relative w) us)
    × ((group : Group) → Leads (BeforeUnary group) ts (BeforeStep (Within group)) (rest_of rest))
    × (length (rest_of rest) ≤ length ts)
BeginsUnary spare ts (Err stop) = (group : Group) → height_in group + spare ≡ 64 → Stops (BeforeUnary group) ts stop

-- a path, and the comparison behind it where there is one
abbrev pub Compares : Way → List tokens.Placed → Result (Cond × Rest) Stop → Type 0
Compares path ts (Ok read) =
    ((before : List tokens.Token) → Stands before (Relative path) (words ts) → Stands before (Unary (condition read.0)) (words (rest_of read.1)))
    × ((group : Group) → Leads (BehindLast (Within group)) ts (BehindUnary group) (rest_of read.1))
Compares path ts (Err stop) = (group : Group) → Stops (BehindLast (Within group)) ts stop

-- from the state before a condition to the state behind it
abbrev pub LeadsPast : ℕ → List tokens.Placed → List tokens.Placed → Type 0
LeadsPast spare ts rest = (group : Group) → height_in group + spare ≡ 64 → Leads (BeforeUnary group) ts (BehindUnary group) rest

abbrev pub StopsInside : ℕ → List tokens.Placed → Stop → Type 0
StopsInside spare ts stop = (group : Group) → height_in group + spare ≡ 64 → Stops (BeforeUnary group) ts stop

abbrev pub ReadsUnary : ℕ → List tokens.Placed → Result (Cond × Rest) Stop → Type 0
ReadsUnary spare ts (Ok read) = Stands (words ts) (Unary (condition read.0)) (words (rest_of read.1)) × LeadsPast spare ts (rest_of read.1)
ReadsUnary spare ts (Err stop) = StopsInside spare ts stop

abbrev pub ReadsAnds : ℕ → List Cond → List tokens.Placed → Result (List Cond × Rest) Stop → Type 0
ReadsAnds spare done ts (Ok read) =
    ((cs : Conditions) × Stands (words ts) (Ands cs) (words (rest_of read.1)) × (conditions read.0 ≡ conditions_onto done cs))
    × LeadsPast spare ts (rest_of read.1) × ComesNot is_and (rest_of read.1)
ReadsAnds spare done ts (Err stop) = StopsInside spare ts stop

abbrev pub ReadsOrs : ℕ → List Cond → List tokens.Placed → Result (List Cond × Rest) Stop → Type 0
ReadsOrs spare done ts (Ok read) =
    ((cs : Conditions) × Stands (words ts) (Ors cs) (words (rest_of read.1)) × (conditions read.0 ≡ conditions_onto done cs))
    × LeadsPast spare ts (rest_of read.1) × ComesNot is_and (rest_of read.1) × ComesNot is_or (rest_of read.1)
ReadsOrs spare done ts (Err stop) = StopsInside spare ts stop

-- one more member of a list: whatever is read behind it is read of the whole; or the end
abbrev pub GoesOn : (List Cond → List tokens.Placed → Result (List Cond × Rest) Stop → Type 0) → List Cond → List tokens.Placed → Result Members Stop → Type 0
GoesOn Reads done ts (Ok (members.More all behind)) =
    (length (rest_of behind) < length ts)
    × ((result : Result (List Cond × Rest) Stop) → Reads all (rest_of behind) result → Reads done ts result)
GoesOn Reads done ts (Ok (members.Whole all rest)) = Reads done ts (Ok (all, rest))
GoesOn Reads done ts (Err stop) = Reads done ts (Err stop)

-- what kind of bracket it is
abbrev pub kind : Group → Bracket
kind (Square around) = bracket.Square
kind (Round group) = bracket.Round

-- the state behind a bracket
abbrev pub behind_closed : Group → State
behind_closed (Square around) = BehindElement around
behind_closed (Round group) = BehindUnary group

abbrev pub ReadsClosed : Bracket → ℕ → List tokens.Placed → Result (Cond × Rest) Stop → Type 0
ReadsClosed shape spare ts (Ok read) =
    Stands (words ts) (Or (condition read.0)) (closer shape ∷ words (rest_of read.1))
    × ((group : Group) → height_in group + spare ≡ 64 → kind group ≡ shape → Leads (BeforeUnary group) ts (behind_closed group) (rest_of read.1))
ReadsClosed shape spare ts (Err stop) = (group : Group) → height_in group + spare ≡ 64 → kind group ≡ shape → Stops (BeforeUnary group) ts stop

abbrev pub ReadsPreds : ℕ → List Cond → List tokens.Placed → Result (List Cond × Rest) Stop → Type 0
ReadsPreds spare done ts (Ok read) =
    ((cs : Conditions) × Stands (words ts) (Preds cs) (words (rest_of read.1)) × (conditions read.0 ≡ conditions_onto done cs))
    × ((around : Around) → height_around around + spare ≡ 64 → Leads (BehindElement around) ts (BehindElement around) (rest_of read.1))
    × ComesNot is_open_square (rest_of read.1)
ReadsPreds spare done ts (Err stop) = (around : Around) → height_around around + spare ≡ 64 → Stops (BehindElement around) ts stop

abbrev pub ReadsSteps : ℕ → List Step → Axis → List tokens.Placed → Result (List Step × Rest) Stop → Type 0
ReadsSteps spare done axis ts (Ok read) =
    ((w : Way) × Stands (words ts) (Steps axis w) (words (rest_of read.1)) × (ways read.0 ≡ ways_onto done w))
    × ((around : Around) → height_around around + spare ≡ 64 → Leads (BeforeStep around) ts (BehindLast around) (rest_of read.1))
ReadsSteps spare done axis ts (Err stop) = (around : Around) → height_around around + spare ≡ 64 → Stops (BeforeStep around) ts stop

-- one more step of a path: whatever is read behind it is read of the whole; or the end
abbrev pub StepsOn : ℕ → List Step → Axis → List tokens.Placed → Result Route Stop → Type 0
StepsOn spare done axis ts (Ok (route.More all next behind)) =
    (length (rest_of behind) < length ts)
    × ((result : Result (List Step × Rest) Stop) → ReadsSteps spare all next (rest_of behind) result → ReadsSteps spare done axis ts result)
StepsOn spare done axis ts (Ok (route.Whole all rest)) = ReadsSteps spare done axis ts (Ok (all, rest))
StepsOn spare done axis ts (Err stop) = ReadsSteps spare done axis ts (Err stop)

-- the whole filter
abbrev pub ReadsFilter : List tokens.Placed → Result Path Stop → Type 0
ReadsFilter ts (Ok path) = Writes (words ts) (way path) × Leads Start ts (BehindLast Whole) []
ReadsFilter ts (Err stop) = Stops Start ts stop

-- the first token is the test of an attribute
abbrev pub TakesAttribute : Test → List tokens.Placed → List tokens.Placed → Type 0
TakesAttribute found [] rest = ⊥
TakesAttribute found (p ∷ ts) rest = (attribute_test p.token ≡ Some found) × (ts ≡ rest)

abbrev pub FindsAttribute : List tokens.Placed → Result (Test × Rest) Stop → Type 0
FindsAttribute ts (Ok read) = TakesAttribute read.0 ts (rest_of read.1)
FindsAttribute ts (Err stop) = (around : Around) → Stops (BehindAt around) ts stop

-- the brackets behind the word `text`
abbrev pub TakesCall : List tokens.Placed → Result Rest Stop → Type 0
TakesCall ts (Ok rest) = (us : List tokens.Placed) × Takes tokens.Open ts us × Takes tokens.Close us (rest_of rest)
TakesCall ts (Err stop) = (around : Around) → Stops (BehindText around) ts stop

-- the bracket behind the word `not`
abbrev pub OpensRound : ℕ → List tokens.Placed → Result (ℕ × Rest) Stop → Type 0
OpensRound spare ts (Ok opened) = Takes tokens.Open ts (rest_of opened.1) × (opened.0 + 1 ≡ spare)
OpensRound spare ts (Err stop) = (group : Group) → height_in group + spare ≡ 64 → Stops (BehindNot group) ts stop

abbrev pub is_related : tokens.Token → Bool
is_related (tokens.Related r) = true
is_related _ = false

abbrev pub TakesRelation : List tokens.Placed → Option (Relation × Rest) → Type 0
TakesRelation ts None = ComesNot is_related ts
TakesRelation ts (Some next) = Takes (tokens.Related next.0) ts (rest_of next.1)

-- the number of the digits, or none where there are too many
abbrev pub NumberOf : Bool → (whole fraction : List ℕ) → Option ℤ → Type 0
NumberOf is_negative whole fraction None = is_long (tokens.Numeric whole fraction) ≡ true
NumberOf is_negative whole fraction (Some units) = (is_long (tokens.Numeric whole fraction) ≡ false) × (units ≡ units_of is_negative whole fraction)

-- what stands behind a relation
abbrev pub ReadsOperand : Relation → List tokens.Placed → Result (Value × Rest) Stop → Type 0
ReadsOperand r ts (Ok read) =
    Stands (tokens.Related r ∷ words ts) (Operand r read.0) (words (rest_of read.1))
    × ((group : Group) → Leads (BehindRelation r group) ts (BehindUnary group) (rest_of read.1))
ReadsOperand r ts (Err stop) = (group : Group) → Stops (BehindRelation r group) ts stop

-- the same behind a minus
abbrev pub ReadsNegative : Relation → List tokens.Placed → Result (Value × Rest) Stop → Type 0
ReadsNegative r ts (Ok read) =
    Stands (tokens.Related r ∷ tokens.Minus ∷ words ts) (Operand r read.0) (words (rest_of read.1))
    × ((group : Group) → Leads (BehindMinus group) ts (BehindUnary group) (rest_of read.1))
ReadsNegative r ts (Err stop) = (group : Group) → Stops (BehindMinus group) ts stop

abbrev pub is_name_test : tokens.Token → Bool
is_name_test tokens.Star = true
is_name_test (tokens.NameTest name) = true
is_name_test _ = false

abbrev pub is_open : tokens.Token → Bool
is_open tokens.Open = true
is_open _ = false

abbrev pub is_numeric : tokens.Token → Bool
is_numeric (tokens.Numeric whole fraction) = true
is_numeric _ = false

-- what a step, and what an operand may begin with
abbrev pub begins_step : tokens.Token → Bool
begins_step tokens.At = true
begins_step tokens.TextWord = true
begins_step tokens.Star = true
begins_step (tokens.NameTest name) = true
begins_step _ = false

abbrev pub begins_operand : tokens.Token → Bool
begins_operand (tokens.Quoted text) = true
begins_operand (tokens.Numeric whole fraction) = true
begins_operand tokens.Minus = true
begins_operand _ = false

-- what a condition begins with that begins no path, or no path as a filter has it
abbrev pub begins_condition : tokens.Token → Bool
begins_condition tokens.NotWord = true
begins_condition tokens.Open = true
begins_condition tokens.Dot = true
begins_condition _ = false
