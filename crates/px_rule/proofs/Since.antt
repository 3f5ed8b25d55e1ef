-- What a view keeps, what its numbers stand for and what is blocked lasts over all calls of its seat.
use Rattle.std.proofs.Common.{◌≡◌, ℕ, ◌≤◌, ◌<◌, Bool, true, List, [], ◌++◌, take, length, Option, refl, sym, ap, ◌∙◌, subst, arith}
use Rattle.std.proofs.lemmas.List.{append_assoc, take-append-le}
use lib.ListN.{get_elem?}
use Rattle.px_text.specs.declared.op.Op.{Op}
use Rattle.px_text.specs.Operands.{Operand, set_of}
use Rattle.px_rule.specs.declared.shape.Shape.{Shape}
use Rattle.px_rule.specs.declared.view.Found.{Found}
use Rattle.px_rule.specs.declared.view.View.{View}
use Rattle.px_rule.specs.Words.{key_of, nodes_of, path_of, long_of}
use Rattle.px_rule.specs.Known.{found, Stands}
use Rattle.px_rule.specs.Histories.{Begins}
use Rattle.px_rule.specs.Steps.{IsTold, Enters, Leaves, Loads, whole_asking, whole_met}
use Rattle.px_rule.specs.Kept.{Grew, Since, KeptAt, Tells, PassedBy, KeyBlocked, SetBlocked, Gapped, GapGained}
use Rattle.px_rule.proofs.Joins.{goes_on}
use Rattle.px_rule.proofs.Lasting.{at_more, stands_more}

module _ {E : Type 0} where
  pub since_grew : (n : ℕ) (v w : View E) → Grew v w → Since n v w
  since_grew n v w g = record { seen = ap (λ p. take n p.seen) g.past; more = g.more; kept = g.kept; touched = g.touched; more_gaps = g.more_gaps; gaps = g.gaps }

  pub since_trans : (n : ℕ) (u v w : View E) → Since n u v → Since n v w → Since n u w
  since_trans n u v w a b = record {
    seen = b.seen ∙ a.seen;
    more = b.more ++ a.more;
    kept = b.kept ∙ (ap (λ l. b.more ++ l) a.kept ∙ sym (append_assoc b.more a.more u.touch.kept));
    touched = (let p : ℕ = u.touch.touches in let q : ℕ = v.touch.touches in let r : ℕ = w.touch.touches in let l : p ≤ q = a.touched in let m : q ≤ r = b.touched in let x : p ≤ r = omega arith in x);
    more_gaps = b.more_gaps ++ a.more_gaps;
    gaps = b.gaps ∙ (ap (λ l. b.more_gaps ++ l) a.gaps ∙ sym (append_assoc b.more_gaps a.more_gaps u.touch.gaps));
  }

  -- a view that has no more and no less of the first n changes, and of places what it had
  pub since_idle : (n : ℕ) (v w : View E) → take n w.past.seen ≡ take n v.past.seen → w.touch ≡ v.touch → Since n v w
  since_idle n v w seen touch = record {
    seen = seen;
    more = [];
    kept = ap (λ t. t.kept) touch;
    touched = (let e = ap (λ t. t.touches) touch in let p : ℕ = v.touch.touches in let q : ℕ = w.touch.touches in let e' : q ≡ p = e in let x : p ≤ q = omega arith in x);
    more_gaps = [];
    gaps = ap (λ t. t.gaps) touch;
  }

  -- a history that has grown behind the first n changes
  pub since_front : (n : ℕ) (v w : View E) → n ≤ length v.past.seen → Begins v.past.seen w.past.seen → w.touch ≡ v.touch → Since n v w
  since_front n v w short begins = since_idle n v w (ap (take n) begins.1 ∙ take-append-le n v.past.seen begins.0 short)

  pub since_enter : (n k m x : ℕ) (v w : View E) → Enters k m v x w → Since n v w
  since_enter n k m x v w e = since_idle n v w (ap (λ (u : View E). take n u.past.seen) e.0) (ap (λ (u : View E). u.touch) e.0)

  pub since_leave : (n : ℕ) (v w : View E) → Leaves v w → Since n v w
  since_leave n v w e = since_idle n v w (ap (λ (u : View E). take n u.past.seen) e) (ap (λ (u : View E). u.touch) e)

  pub since_ask : (n : ℕ) (permit : Option E) (v : View E) → Since n v (whole_asking permit v)
  since_ask n permit v = since_idle n v (whole_asking permit v) refl refl

module _ {E : Type 0} (who : E → ℕ) (legal : List E → Type 0) where
  pub since_load : (n x : ℕ) (v w : View E) → Loads who legal v x w → Since n v w
  since_load n x v w e = since_idle n v w (ap (λ (u : View E). take n u.past.seen) e.0) (ap (λ (u : View E). u.touch) e.0)

  pub since_met : (n : ℕ) (v note : View E) → n ≤ length v.past.seen → IsTold who legal (whole_met v note) → Since n v (whole_met v note)
  since_met n v note short told = since_front n v (whole_met v note) short (goes_on who legal v note told.0 told.1) refl

module _ {E : Type 0} (k n : ℕ) (v w : View E) (g : Since n v w) where
  pub kept_since : (p x : ℕ) → KeptAt k n p x v → KeptAt k n p x w
  kept_since p x h = let r = at_more g.more v.touch.kept h.0 (found k n p x) h.1 in (r.0, ap (λ l. get_elem? l r.0) g.kept ∙ r.1)

module _ {E : Type 0} (z : Shape) (k n : ℕ) (v w : View E) (g : Since n v w) where
  pub passed_since : (word turns : ℕ) → PassedBy z k n word turns v → PassedBy z k n word turns w
  passed_since word turns h j l = let x = h j l in (x.0, kept_since k n v w g (path_of z (key_of word) j) x.0 x.1, x.2)

  pub key_since : (word : ℕ) → KeyBlocked z k n word v → KeyBlocked z k n word w
  key_since word = passed_since word (long_of z (key_of word))

  pub gap_since : (before word : ℕ) → GapGained z k n before word v → GapGained z k n before word w
  gap_since before word h = let r = at_more g.more_gaps v.touch.gaps h.at _ h.gap in record {
    turn = h.turn;
    within = h.within;
    passed = passed_since word h.turn h.passed;
    touch = h.touch;
    behind = h.behind;
    at = r.0;
    gap = ap (λ l. get_elem? l r.0) g.gaps ∙ r.1;
  }

-- the gap that the last touch left is one that was gained
pub gap_gained : {E : Type 0} (z : Shape) (k n before word : ℕ) (v : View E) → before < v.touch.touches → Gapped z k n word v → GapGained z k n before word v
gap_gained z k n before word v behind h = record { turn = h.turn; within = h.within; passed = h.passed; touch = v.touch.touches; behind = behind; at = h.gap.0; gap = h.gap.1 }

module _ {E : Type 0} (right : List E → Op → Operand → Operand → List ℕ → Type 0) (z : Shape) (k n : ℕ) (v w : View E) (g : Since n v w) where
  pub tells_since : (t : Bool) (a : ℕ) (o : Operand) → Tells right z k n v t a o → Tells right z k n w t a o
  tells_since t a o h = subst (λ (x : List E × List Found). Stands (nodes_of z) (right x.0) x.1 k n t a o) (λ i. (sym g.seen i, sym g.kept i)) (stands_more (nodes_of z) (right (take n v.past.seen)) g.more v.touch.kept k n t a o h)

  pub blocked_since : (xs : List ℕ) (word : ℕ) → SetBlocked right z k n v xs word → SetBlocked right z k n w xs word
  blocked_since xs word h = record {
    front = h.front;
    element = h.element;
    rest = h.rest;
    tail = h.tail;
    suffix = h.suffix;
    small = h.small;
    told = tells_since true h.tail (set_of h.rest) h.told;
    word = h.word;
    blocked = key_since z k n v w g word h.blocked;
  }
