-- Proofs behind one another.
use Rattle.std.proofs.Common.{◌≡◌, ℕ, Bool, true, false, List, [], ◌∷◌, ◌++◌, append_assoc, map, Option, Some, None, Result, Ok, Err, ap, ◌∙◌, sym, cond, subst, length, nat_eq}
use Rattle.std.specs.Borrow.{Bor}
use Rattle.px_text.specs.Nodes.{Place}
use Rattle.px_xpath.specs.Filters.{Way, StepThen, Condition, Conditions}
use Rattle.px_text.specs.Nodes.{string_value}
use Rattle.px_xpath.specs.declared.filter.Cond.{Cond, Compare}
use Rattle.px_xpath.specs.declared.filter.Path as path_type
use Rattle.px_xpath.specs.declared.filter.Path.{out-Path}
use Rattle.px_xpath.specs.declared.filter.Step.{Step}
use Rattle.px_xpath.specs.declared.filter.Relation.{Relation}
use Rattle.px_xpath.specs.declared.filter.Value.{Value}
use Rattle.px_xpath.specs.Meaning.{compares}
use Rattle.px_xpath.specs.Views.{condition, ways}
use Rattle.px_xpath.proofs.FilterViews.{way-steps}
use Rattle.px_explain.specs.declared.node.ProofNode.{ProofNode}
use Rattle.px_explain.specs.declared.node.ProofNode.TheVariants.{N, A, P}
use Rattle.px_explain.specs.Table.{claim, list, Claim, Path, Each, OneOf, Candidate, behind, where_valid, left}
use Rattle.px_xpath.specs.declared.filter.Axis.{Axis}
use Rattle.px_xpath.specs.declared.filter.Test.{Test}
use Rattle.px_xpath.specs.Meaning.{candidates}
use Rattle.px_explain.specs.Leaving.{Leaves, Goes}

pub goes_on : (all cs ds : List Claim) (p l : List ProofNode) (r : Bor (List ProofNode)) → Goes all p (cs ++ ds) l → Leaves cs l (Ok r) → Goes all p ds r.now
goes_on all cs ds p l r h k = λ more. h more ∙ ap (λ (gs : List Claim). left gs l) (append_assoc cs ds more) ∙ k (ds ++ more)

pub goes_stop : (all cs ds : List Claim) (p l : List ProofNode) (r : Bor (List ProofNode)) → Goes all p (cs ++ ds) l → Leaves cs l (Err r) → Leaves all p (Err r)
goes_stop all cs ds p l r h k = λ more. h more ∙ ap (λ (gs : List Claim). left gs l) (append_assoc cs ds more) ∙ k (ds ++ more)

-- a node that is valid, and what proves what is behind it
pub leaves_valid : (g : Claim) (n : ProofNode) (cs : List Claim) (ns : List ProofNode) (result : Result (Bor (List ProofNode)) (Bor (List ProofNode))) →
    behind g n ≡ Some cs → Leaves cs ns result → Leaves (g ∷ []) (n ∷ ns) result
leaves_valid g n cs ns (Ok r) e h = λ more. ap (λ (o : Option (List Claim)). where_valid o (λ ds. left (ds ++ more) ns) (n ∷ ns)) e ∙ h more
leaves_valid g n cs ns (Err r) e h = λ more. ap (λ (o : Option (List Claim)). where_valid o (λ ds. left (ds ++ more) ns) (n ∷ ns)) e ∙ h more

-- the same where the node is at the front of what is left
pub valid_at : (g : Claim) (n : ProofNode) (cs : List Claim) (p b : List ProofNode) (result : Result (Bor (List ProofNode)) (Bor (List ProofNode))) →
    p ≡ (n ∷ b) → behind g n ≡ Some cs → Leaves cs b result → Leaves (g ∷ []) p result
valid_at g n cs p b result e v h = subst (λ (q : List ProofNode). Leaves (g ∷ []) q result) (sym e) (leaves_valid g n cs b result v h)

pub goes_on_at : (all es cs ds : List Claim) (p l : List ProofNode) (r : Bor (List ProofNode)) → Goes all p es l → es ≡ cs ++ ds → Leaves cs l (Ok r) → Goes all p ds r.now
goes_on_at all es cs ds p l r h e k = goes_on all cs ds p l r (subst (λ (fs : List Claim). Goes all p fs l) e h) k

pub goes_stop_at : (all es cs ds : List Claim) (p l : List ProofNode) (r : Bor (List ProofNode)) → Goes all p es l → es ≡ cs ++ ds → Leaves cs l (Err r) → Leaves all p (Err r)
goes_stop_at all es cs ds p l r h e k = goes_stop all cs ds p l r (subst (λ (fs : List Claim). Goes all p fs l) e h) k

-- each node that proves a list of claims
pub all_hold_at : (answer : Bool) (cs : Conditions) (x : Place) (n : ProofNode) (p b : List ProofNode) (result : Result (Bor (List ProofNode)) (Bor (List ProofNode))) →
    answer ≡ true → n ≡ A → p ≡ (n ∷ b) → Leaves (map (claim true x) (list cs)) b result → Leaves (Each answer cs x ∷ []) p result
all_hold_at answer cs x n p b result a m e h =
    subst (λ (t : Bool). Leaves (Each t cs x ∷ []) p result) (sym a)
    (valid_at (Each true cs x) n (map (claim true x) (list cs)) p b result e (ap (behind (Each true cs x)) m) h)

pub none_holds_at : (answer : Bool) (cs : Conditions) (x : Place) (n : ProofNode) (p b : List ProofNode) (result : Result (Bor (List ProofNode)) (Bor (List ProofNode))) →
    answer ≡ false → n ≡ P → p ≡ (n ∷ b) → Leaves (map (claim false x) (list cs)) b result → Leaves (OneOf answer cs x ∷ []) p result
none_holds_at answer cs x n p b result a m e h =
    subst (λ (t : Bool). Leaves (OneOf t cs x ∷ []) p result) (sym a)
    (valid_at (OneOf false cs x) n (map (claim false x) (list cs)) p b result e (ap (behind (OneOf false cs x)) m) h)

pub counted_at : (axis : Axis) (t : Test) (cs : Conditions) (onward : Way) (end : Place → Bool) (x : Place) (n : ProofNode) (k : ℕ) (p b : List ProofNode)
    (result : Result (Bor (List ProofNode)) (Bor (List ProofNode))) → n ≡ N k → p ≡ (n ∷ b) → nat_eq (length (candidates axis x)) k ≡ true →
    Leaves (map (Candidate t cs onward end) (candidates axis x)) b result → Leaves (Path false (StepThen axis t cs onward) end x ∷ []) p result
counted_at axis t cs onward end x n k p b result m e c h =
    valid_at (Path false (StepThen axis t cs onward) end x) n (map (Candidate t cs onward end) (candidates axis x)) p b result e
    (ap (behind (Path false (StepThen axis t cs onward) end x)) m ∙ ap (λ (o : Bool). cond o (Some (map (Candidate t cs onward end) (candidates axis x))) None) c) h

-- a comparison is its path, compared at its end
pub compare_at : (answer : Bool) (cond : Cond) (path : path_type.Path) (r : Relation) (value : Value) (steps : List Step) (x : Place) (p : List ProofNode) (result : Result (Bor (List ProofNode)) (Bor (List ProofNode))) →
    cond ≡ Compare path r value → steps ≡ (out-Path path).steps →
    Leaves (Path answer (ways steps) (λ y. compares r value (string_value y)) x ∷ []) p result → Leaves (claim answer x (condition cond) ∷ []) p result
compare_at answer cond path r value steps x p result e s h =
    subst (λ (c : Condition). Leaves (claim answer x c ∷ []) p result) (sym (ap condition e))
    (subst (λ (w : Way). Leaves (Path answer w (λ y. compares r value (string_value y)) x ∷ []) p result) (ap ways s ∙ sym (way-steps path)) h)
