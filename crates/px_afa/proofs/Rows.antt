-- Programs and a run, worked out.
use Rattle.std.specs.Prelude.{◌≡◌, ℕ, ◌*◌, ◌^◌, ℤ, pos, List, [], ◌∷◌, length, map, codes, refl}
use Rattle.px_text.specs.declared.op.Op.TheVariants.{TextClass, NumberClass, Pop, Add, Push, Mask}
use Rattle.px_text.specs.Nodes.{Root, NoNodes, TextThen, ElementThen}
use Rattle.px_xpath.specs.declared.filter.Axis.TheVariants.{Child, Below}
use Rattle.px_xpath.specs.declared.filter.Test.TheVariants as test
use Rattle.px_xpath.specs.declared.filter.Relation.TheVariants as relation
use Rattle.px_xpath.specs.declared.filter.Value.TheVariants.{Number}
use Rattle.px_xpath.specs.Filters.{Way, Arrived, StepThen, Condition, Selects, Compares, EachOf, SomeOf, NoConditions, CondThen}
use Rattle.px_xpath.specs.Histories.{size}
use Rattle.px_afa.specs.declared.state.Body.TheVariants as body
use Rattle.px_afa.specs.declared.state.State.TheVariants as state
use Rattle.px_afa.specs.Contents.{ElementKind, AttributeKind, TextKind, root_content}
use Rattle.px_afa.specs.Building.{Automata, automata}
use Rattle.px_afa.specs.Sets.{accept}
use Rattle.px_afa.specs.Labels.{names_of, label_number}
use Rattle.px_afa.specs.Classes.{literals_of, constants_of, number_class}
use Rattle.px_afa.specs.Functions.{push}
use Rattle.px_afa.specs.Machine.{machine_of}
use Rattle.px_afa.specs.Accepting.{accepted}
use Rattle.px_text.specs.Operands.{index, set_of}
use Rattle.px_afa.specs.Steps.{Step, run_of}

-- a whole number in units of 10 ^ -18
abbrev whole : ℕ → ℤ
whole n = pos (n * 10 ^ 18)

-- the filter `//a[b/text()=1 and .//a[@c>2]]`
abbrev worked : Way
worked = StepThen Below (test.Element (codes "a"))
    (CondThen
    (EachOf (CondThen
    (Compares (StepThen Child (test.Element (codes "b")) NoConditions (StepThen Child test.Text NoConditions Arrived)) relation.Equal (Number (whole 1)))
    (CondThen
    (Selects (StepThen Below (test.Element (codes "a"))
    (CondThen (Compares (StepThen Child (test.Attribute (codes "c")) NoConditions Arrived) relation.Greater (Number (whole 2))) NoConditions) Arrived))
    NoConditions))) NoConditions) Arrived

abbrev made : Automata
made = automata (record { id = 1; filter = worked } ∷ [])

worked_size : size worked ≡ 8
worked_size = refl

worked_states : made.states ≡
    state.Path Below (test.Element (codes "a")) (body.State 6)
    ∷ state.And (2 ∷ 5 ∷ [])
    ∷ state.Path Below (test.Element (codes "a")) (body.State 4)
    ∷ state.Path Child (test.Attribute (codes "c")) (body.State 3)
    ∷ state.Value relation.Greater (Number (whole 2))
    ∷ state.Path Child (test.Element (codes "b")) (body.State 1)
    ∷ state.Path Child test.Text (body.State 0)
    ∷ state.Value relation.Equal (Number (whole 1))
    ∷ []
worked_states = refl

worked_firsts : made.firsts ≡ record { id = 1; state = 7 } ∷ []
worked_firsts = refl

worked_names : names_of made.states ≡ ElementKind (codes "b") ∷ AttributeKind (codes "c") ∷ ElementKind (codes "a") ∷ []
worked_names = refl

worked_labels : map (label_number (names_of made.states))
    (TextKind ∷ ElementKind (codes "x") ∷ AttributeKind (codes "x") ∷ ElementKind (codes "b") ∷ AttributeKind (codes "c") ∷ ElementKind (codes "a") ∷ [])
    ≡ 0 ∷ 1 ∷ 2 ∷ 3 ∷ 4 ∷ 5 ∷ []
worked_labels = refl

worked_literals : literals_of made.states ≡ []
worked_literals = refl

worked_constants : constants_of made.states ≡ whole 1 ∷ whole 2 ∷ []
worked_constants = refl

worked_classes : map (number_class made.states) (codes "" ∷ codes "0" ∷ codes "1" ∷ codes "1.5" ∷ codes "2" ∷ codes "3" ∷ []) ≡ 0 ∷ 1 ∷ 2 ∷ 3 ∷ 4 ∷ 5 ∷ []
worked_classes = refl

-- the lines `(a`, `(b`, `-1`, `)b`, `(a`, `Ac 3`, `)a`, `)a`
abbrev document : Root
document = record {
  name = codes "a";
  attributes = [];
  children = ElementThen (codes "b") [] (TextThen (codes "1") NoNodes)
      (ElementThen (codes "a") (record { name = codes "c"; value = codes "3" } ∷ []) NoNodes NoNodes);
}

-- the need sets of the outer `a`, of `b` and of the inner `a`
worked_needs : push made.states (7 ∷ []) 5 ∷ push made.states (2 ∷ 5 ∷ 7 ∷ []) 3 ∷ push made.states (2 ∷ 5 ∷ 7 ∷ []) 5 ∷ []
    ≡ (2 ∷ 5 ∷ 7 ∷ []) ∷ (1 ∷ 5 ∷ 7 ∷ []) ∷ (2 ∷ 4 ∷ 5 ∷ 7 ∷ []) ∷ []
worked_needs = refl

start : List ℕ → ℕ → List ℕ → Step
start needed label answer = record { op = Push; a = set_of needed; b = index label; answer = answer }

text_class : List ℕ → Step
text_class answer = record { op = TextClass; a = index 0; b = index 0; answer = answer }

number : ℕ → List ℕ → Step
number class answer = record { op = NumberClass; a = index 0; b = index class; answer = answer }

sum : List ℕ → List ℕ → List ℕ → Step
sum a b answer = record { op = Add; a = set_of a; b = set_of b; answer = answer }

popped : List ℕ → ℕ → List ℕ → Step
popped set label answer = record { op = Pop; a = set_of set; b = index label; answer = answer }

masked : List ℕ → List ℕ → List ℕ → Step
masked set needed answer = record { op = Mask; a = set_of set; b = set_of needed; answer = answer }

worked_steps : run_of made document ≡
    -- the start of the outer `a` and of `b`
    start (7 ∷ []) 5 (2 ∷ 5 ∷ 7 ∷ [])
    ∷ start (2 ∷ 5 ∷ 7 ∷ []) 3 (1 ∷ 5 ∷ 7 ∷ [])
    -- the text `1`
    ∷ text_class []
    ∷ number 2 (0 ∷ [])
    ∷ sum [] (0 ∷ []) (0 ∷ [])
    ∷ popped (0 ∷ []) 0 (1 ∷ [])
    ∷ masked (1 ∷ []) (1 ∷ 5 ∷ 7 ∷ []) (1 ∷ [])
    ∷ sum [] (1 ∷ []) (1 ∷ [])
    -- the end of `b`
    ∷ text_class []
    ∷ number 2 (0 ∷ [])
    ∷ sum [] (0 ∷ []) (0 ∷ [])
    ∷ sum (1 ∷ []) (0 ∷ []) (0 ∷ 1 ∷ [])
    ∷ popped (0 ∷ 1 ∷ []) 3 (2 ∷ [])
    ∷ masked (2 ∷ []) (2 ∷ 5 ∷ 7 ∷ []) (2 ∷ [])
    ∷ sum [] (2 ∷ []) (2 ∷ [])
    -- the start of the inner `a`
    ∷ start (2 ∷ 5 ∷ 7 ∷ []) 5 (2 ∷ 4 ∷ 5 ∷ 7 ∷ [])
    -- the attribute `c`
    ∷ text_class []
    ∷ number 5 (3 ∷ [])
    ∷ sum [] (3 ∷ []) (3 ∷ [])
    ∷ popped (3 ∷ []) 4 (4 ∷ [])
    ∷ masked (4 ∷ []) (2 ∷ 4 ∷ 5 ∷ 7 ∷ []) (4 ∷ [])
    ∷ sum [] (4 ∷ []) (4 ∷ [])
    -- the end of the inner `a`
    ∷ text_class []
    ∷ number 0 []
    ∷ sum [] [] []
    ∷ sum (4 ∷ []) [] (4 ∷ [])
    ∷ popped (4 ∷ []) 5 (5 ∷ [])
    ∷ masked (5 ∷ []) (2 ∷ 5 ∷ 7 ∷ []) (5 ∷ [])
    ∷ sum (2 ∷ []) (5 ∷ []) (2 ∷ 5 ∷ [])
    -- the end of the outer `a`
    ∷ text_class []
    ∷ number 2 (0 ∷ [])
    ∷ sum [] (0 ∷ []) (0 ∷ [])
    ∷ sum (2 ∷ 5 ∷ []) (0 ∷ []) (0 ∷ 2 ∷ 5 ∷ [])
    ∷ popped (0 ∷ 2 ∷ 5 ∷ []) 5 (5 ∷ 7 ∷ [])
    ∷ masked (5 ∷ 7 ∷ []) (7 ∷ []) (7 ∷ [])
    ∷ sum [] (7 ∷ []) (7 ∷ [])
    ∷ []
unfolding start text_class number sum popped masked
worked_steps = refl

-- three elements and two leaves take 8 * 3 + 6 * 2 steps
worked_count : length (run_of made document) ≡ 36
worked_count = refl

worked_answer : accepted (machine_of made.states) made.firsts (root_content document) ≡ 1 ∷ []
worked_answer = refl

-- the filters `/a` with id 1 and `/a` with id 3
abbrev child_a : Way
child_a = StepThen Child (test.Element (codes "a")) NoConditions Arrived

abbrev twice : Automata
twice = automata (record { id = 1; filter = child_a } ∷ record { id = 3; filter = child_a } ∷ [])

shared_state : length twice.states ≡ 1
shared_state = refl

shared_accept : accept twice.firsts (0 ∷ []) ≡ 1 ∷ 3 ∷ []
shared_accept = refl

-- the filter `/a[@k=1 or @k=5]`
abbrev compared : ℕ → Condition
compared n = Compares (StepThen Child (test.Attribute (codes "k")) NoConditions Arrived) relation.Equal (Number (whole n))

abbrev either : Automata
either = automata (record {
  id = 1;
  filter = StepThen Child (test.Element (codes "a"))
      (CondThen (SomeOf (CondThen (compared 1) (CondThen (compared 5) NoConditions))) NoConditions) Arrived;
} ∷ [])

number_classes : map (number_class either.states) (codes "0" ∷ codes "1.0" ∷ codes "4.9" ∷ codes "5" ∷ codes "6" ∷ codes "x" ∷ []) ≡ 1 ∷ 2 ∷ 3 ∷ 4 ∷ 5 ∷ 0 ∷ []
number_classes = refl
