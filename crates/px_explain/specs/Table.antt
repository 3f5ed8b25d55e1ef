-- Which nodes prove what. A proof is read from the front: each node proves the claim that is next, and says which claims are proved behind it.
use Rattle.std.specs.Prelude.{◌≡◌, ℕ, suc, zero, Bool, true, false, not, ◌&&◌, List, [], ◌∷◌, ◌++◌, map, length, nat_eq, Option, Some, None, option_map, Result, Ok, Err, cond}
use Rattle.std.specs.Option.{option_and_then}
use Rattle.px_text.specs.Nodes.{Root, Place, AtDocument, string_value}
use Rattle.px_xpath.specs.declared.filter.Test.{Test}
use Rattle.px_xpath.specs.Filters.{Way, Arrived, StepThen, Condition, Selects, Compares, EachOf, SomeOf, Fails, Conditions, NoConditions, CondThen}
use Rattle.px_xpath.specs.Meaning as meaning
use Rattle.px_explain.specs.declared.node.ProofNode.{ProofNode}
use Rattle.px_explain.specs.declared.node.ProofNode.TheVariants.{Y, N, T, C, R, V, A, B, O, P, Bang}

-- What is to be proved, with the answer that is claimed: that a path holds or does not, and so on. A candidate of a step is only ever claimed to fail.
pub data Claim : Type 0 where
  Path : (answer : Bool) → Way → (end : Place → Bool) → Place → Claim
  Each : (answer : Bool) → Conditions → Place → Claim
  OneOf : (answer : Bool) → Conditions → Place → Claim
  Not : (answer : Bool) → Condition → Place → Claim
  Candidate : Test → Conditions → Way → (end : Place → Bool) → Place → Claim

-- numbered from 1
abbrev pub nth : {A : Type 0} → List A → ℕ → Option A
nth xs zero = None
nth [] (suc k) = None
nth (x ∷ xs) (suc zero) = Some x
nth (x ∷ xs) (suc (suc k)) = nth xs (suc k)

abbrev pub list : Conditions → List Condition
list NoConditions = []
list (CondThen condition rest) = condition ∷ list rest

-- the claim that a condition holds at a place, or does not
abbrev pub claim : (answer : Bool) → Place → Condition → Claim
claim answer x (Selects way) = Path answer way (λ y. true) x
claim answer x (Compares way r value) = Path answer way (λ y. meaning.compares r value (string_value y)) x
claim answer x (EachOf conditions) = Each answer conditions x
claim answer x (SomeOf conditions) = OneOf answer conditions x
claim answer x (Fails condition) = Not answer condition x

-- the claim that a path's rest holds, if there is one
abbrev pub rest_holds : Way → (Place → Bool) → Place → List Claim
rest_holds Arrived end y = []
rest_holds (StepThen axis test conditions onward) end y = Path true (StepThen axis test conditions onward) end y ∷ []

-- whether a path may go through this candidate: it meets the test, and a path that ends here compares true
abbrev pub leads : Test → Way → (Place → Bool) → Place → Bool
leads test Arrived end y = meaning.meets test y && end y
leads test (StepThen _ _ _ _) end y = meaning.meets test y

-- What is to be proved behind a node, where it is valid for this claim.
abbrev pub behind : Claim → ProofNode → Option (List Claim)
behind (Path true (StepThen axis test conditions onward) end x) (Y k) =
    option_and_then
    (λ y. cond (leads test onward end y) (Some (map (claim true y) (list conditions) ++ rest_holds onward end y)) None)
    (nth (meaning.candidates axis x) k)
behind (Path false (StepThen axis test conditions onward) end x) (N c) =
    let candidates = meaning.candidates axis x in
    cond (nat_eq (length candidates) c) (Some (map (Candidate test conditions onward end) candidates)) None
behind (Candidate t cs onward end y) T = cond (meaning.meets t y) None (Some [])
behind (Candidate t cs onward end y) (C i) = option_map (λ condition. claim false y condition ∷ []) (nth (list cs) i)
behind (Candidate t cs (StepThen axis next more onward) end y) R = Some (Path false (StepThen axis next more onward) end y ∷ [])
behind (Candidate t cs Arrived end y) V = cond (end y) None (Some [])
behind (Each true conditions x) A = Some (map (claim true x) (list conditions))
behind (Each false conditions x) (B i) = option_map (λ condition. claim false x condition ∷ []) (nth (list conditions) i)
behind (OneOf true conditions x) (O i) = option_map (λ condition. claim true x condition ∷ []) (nth (list conditions) i)
behind (OneOf false conditions x) P = Some (map (claim false x) (list conditions))
behind (Not answer condition x) Bang = Some (claim (not answer) x condition ∷ [])
behind _ _ = None

-- goes on where the node at the front is valid, and stops before it where it is not
abbrev pub where_valid : Option (List Claim) → (List Claim → Result (List ProofNode) (List ProofNode)) → List ProofNode → Result (List ProofNode) (List ProofNode)
where_valid None goes_on nodes = Err nodes
where_valid (Some more) goes_on nodes = goes_on more

-- What is left of the nodes behind proofs of the claims, in order. At `Err` it begins with the first node that is wrong, or is empty where one is missing.
abbrev pub left : List Claim → List ProofNode → Result (List ProofNode) (List ProofNode)
left [] nodes = Ok nodes
left (claim ∷ claims) [] = Err []
left (claim ∷ claims) (node ∷ nodes) = where_valid (behind claim node) (λ more. left (more ++ claims) nodes) (node ∷ nodes)

-- the claim of a whole proof
abbrev pub whole : Bool → Way → Root → Claim
whole answer filter root = Path answer filter (λ y. true) (AtDocument root)

-- The nodes prove that the filter holds of the document, or that it does not, with none left over.
abbrev pub Justifies : Way → Root → List ProofNode → Bool → Type 0
Justifies filter root nodes answer = left (whole answer filter root ∷ []) nodes ≡ Ok []
