-- The states of filters. The parts of a state, from left to right, come before it, and equal states are one.
use Rattle.std.specs.Prelude.{ℕ, Bool, true, false, ◌&&◌, cond, List, [], ◌∷◌, ◌++◌, length, Option, Some, None, nat_eq, bytes_eq}
use Rattle.std.specs.Ordering.{int_cmp, is_eq}
use Rattle.px_xpath.specs.declared.filter.Axis.{Axis}
use Rattle.px_xpath.specs.declared.filter.Axis.TheVariants.{Child, Below}
use Rattle.px_xpath.specs.declared.filter.Test.{Test}
use Rattle.px_xpath.specs.declared.filter.Test.TheVariants as test
use Rattle.px_xpath.specs.declared.filter.Relation.{Relation}
use Rattle.px_xpath.specs.declared.filter.Relation.TheVariants as relation
use Rattle.px_xpath.specs.declared.filter.Value.{Value}
use Rattle.px_xpath.specs.declared.filter.Value.TheVariants.{Number, Literal}
use Rattle.px_xpath.specs.Filters.{Way, Arrived, StepThen, Condition, Selects, Compares, EachOf, SomeOf, Fails, Conditions, NoConditions, CondThen}
use Rattle.px_xpath.specs.Histories.{Subscription, Change, live}
use Rattle.px_afa.specs.declared.state.Body.{Body}
use Rattle.px_afa.specs.declared.state.Body.TheVariants as body
use Rattle.px_afa.specs.declared.state.State.{State}
use Rattle.px_afa.specs.declared.state.State.TheVariants as state
use Rattle.px_afa.specs.declared.state.First.{First}

abbrev pub same_axis : Axis → Axis → Bool
same_axis Child Child = true
same_axis Below Below = true
same_axis _ _ = false

abbrev pub same_test : Test → Test → Bool
same_test (test.Element a) (test.Element b) = bytes_eq a b
same_test test.AnyElement test.AnyElement = true
same_test (test.Attribute a) (test.Attribute b) = bytes_eq a b
same_test test.AnyAttribute test.AnyAttribute = true
same_test test.Text test.Text = true
same_test _ _ = false

abbrev pub same_relation : Relation → Relation → Bool
same_relation relation.Equal relation.Equal = true
same_relation relation.NotEqual relation.NotEqual = true
same_relation relation.Less relation.Less = true
same_relation relation.AtMost relation.AtMost = true
same_relation relation.Greater relation.Greater = true
same_relation relation.AtLeast relation.AtLeast = true
same_relation _ _ = false

abbrev pub same_value : Value → Value → Bool
same_value (Literal a) (Literal b) = bytes_eq a b
same_value (Number a) (Number b) = is_eq (int_cmp a b)
same_value _ _ = false

abbrev pub same_body : Body → Body → Bool
same_body body.Always body.Always = true
same_body (body.State a) (body.State b) = nat_eq a b
same_body _ _ = false

-- the states have the same kind, fields and parts
abbrev pub same_state : State → State → Bool
same_state (state.Path a t b) (state.Path a' t' b') = same_axis a a' && same_test t t' && same_body b b'
same_state (state.And parts) (state.And others) = bytes_eq parts others
same_state (state.Or parts) (state.Or others) = bytes_eq parts others
same_state (state.Not a) (state.Not b) = nat_eq a b
same_state (state.Value r a) (state.Value q b) = same_relation r q && same_value a b
same_state _ _ = false

abbrev pub number_of : State → List State → Option ℕ
number_of s [] = None
number_of s (t ∷ before) = cond (same_state s t) (Some (length before)) (number_of s before)

-- the states so far, and the number of the one that was asked for
pub record Made : Type 0 where
  pub states : List State
  pub number : ℕ

pub record MadeParts : Type 0 where
  pub states : List State
  pub parts : List ℕ

pub record MadeBody : Type 0 where
  pub states : List State
  pub body : Body

abbrev pub made_or_new : Option ℕ → State → List State → Made
made_or_new (Some n) s states = record { states = states; number = n }
made_or_new None s states = record { states = s ∷ states; number = length states }

-- the state's number, with the state at the end where it is new
abbrev pub share : State → List State → Made
share s states = made_or_new (number_of s states) s states

-- one part is that state, and more or none are the And of them
abbrev pub one_of : List ℕ → List State → Made
one_of (n ∷ []) states = record { states = states; number = n }
one_of parts states = share (state.And parts) states

-- no part gives Always
abbrev pub body_made : List ℕ → List State → MadeBody
body_made [] states = record { states = states; body = body.Always }
body_made (n ∷ parts) states =
    let one = one_of (n ∷ parts) states in record { states = one.states; body = body.State one.number }

abbrev pub alone : Made → MadeParts
alone made = record { states = made.states; parts = made.number ∷ [] }

abbrev pub joined : List ℕ → MadeParts → MadeParts
joined parts more = record { states = more.states; parts = parts ++ more.parts }

-- the value at the end of a compared path
abbrev pub end_made : Option (Relation × Value) → List State → MadeParts
end_made None states = record { states = states; parts = [] }
end_made (Some end) states = alone (share (state.Value end.0 end.1) states)

abbrev pub path_made : Axis → Test → MadeBody → MadeParts
path_made axis t made = alone (share (state.Path axis t made.body) made.states)

abbrev mutual
  -- The state of a path, as the one part that it is of a step before it. Where nothing is left of it, the value at its end.
  pub way_made : Way → Option (Relation × Value) → List State → MadeParts
  way_made Arrived end states = end_made end states
  way_made (StepThen axis t conditions onward) end states =
      let made = conditions_made conditions states in
      let parts = joined made.parts (way_made onward end made.states) in
      path_made axis t (body_made parts.parts parts.states)

  pub condition_made : Condition → List State → Made
  condition_made (Selects way) states = let made = way_made way None states in one_of made.parts made.states
  condition_made (Compares way r wanted) states = let made = way_made way (Some (r, wanted)) states in one_of made.parts made.states
  condition_made (EachOf conditions) states = let made = conditions_made conditions states in share (state.And made.parts) made.states
  condition_made (SomeOf conditions) states = let made = conditions_made conditions states in share (state.Or made.parts) made.states
  condition_made (Fails condition) states = let made = condition_made condition states in share (state.Not made.number) made.states

  pub conditions_made : Conditions → List State → MadeParts
  conditions_made NoConditions states = record { states = states; parts = [] }
  conditions_made (CondThen condition rest) states =
      let made = condition_made condition states in joined (made.number ∷ []) (conditions_made rest made.states)

abbrev pub newest_onto : List State → List State → List State
newest_onto older [] = older
newest_onto older (s ∷ states) = newest_onto (s ∷ older) states

-- states in order of their numbers, turned over
abbrev pub newest : List State → List State
newest states = newest_onto [] states

-- What contracts see of a program: its states newest first, and for each filter its id and its first state, in order of the filters.
pub record Automata : Type 0 where
  pub states : List State
  pub firsts : List First

abbrev pub with_first : First → Automata → Automata
with_first first rest = record { states = rest.states; firsts = first ∷ rest.firsts }

-- the filters, taken in order, behind these states
abbrev pub filters_made : List Subscription → List State → Automata
filters_made [] states = record { states = states; firsts = [] }
filters_made (s ∷ live) states =
    let way = way_made s.filter None states in
    let made = one_of way.parts way.states in
    with_first (record { id = s.id; state = made.number }) (filters_made live made.states)

-- the program of live filters
abbrev pub automata : List Subscription → Automata
automata live = filters_made live []

-- the program of the filters that are live behind a history
abbrev pub program : List Change → Automata
program history = automata (live history)
