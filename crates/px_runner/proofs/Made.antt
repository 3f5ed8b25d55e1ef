-- Steps of a memo at given operands, and one call after another.
use Rattle.std.proofs.Common.{ℕ, List, [], ◌∷◌, ◌++◌, IfOk, OnErr, refl, ◌≡◌, sym, ◌∙◌, ap, subst, append_assoc}
use Rattle.std.specs.Prelude.{Result, Ok, Err}
use Rattle.px_text.specs.declared.op.Op.{Op}
use Rattle.px_text.specs.Operands.{Operand, index, set_of}
use Rattle.px_afa.specs.declared.state.State.{State}
use Rattle.px_afa.specs.Building.{Automata}
use Rattle.px_afa.specs.Steps.{Step, step, answer_of, TakesOperands}
use Rattle.px_runner.specs.declared.held.Held.{Held}
use Rattle.px_runner.specs.declared.held.Held.TheVariants.{Plain}
use Rattle.px_runner.specs.declared.frame.Frame.{Frame}
use Rattle.px_runner.specs.Events.{Open}
use Rattle.px_runner.specs.Frames.{IsOpen}
use Rattle.px_runner.specs.Operands.{IsLabel, AreStates, AreOfProgram, AreOperands}
use Rattle.px_runner.specs.Memos.{Keeps, Advances, Makes}
use Rattle.px_runner.specs.Gives.{Holds, Gives}
use Rattle.px_runner.proofs.Below.{answers-states}

-- a memo that is kept, and kept again
pub keeps_on : {M : Type 0} {automata : M → Automata} {stands_for : M → Held → List ℕ → Type 0} {a b c : M} →
    Keeps automata stands_for a b → Keeps automata stands_for b c → Keeps automata stands_for a c
keeps_on f g = record { same = g.same ∙ f.same; stays = λ held set s. g.stays held set (f.stays held set s) }

-- and so are the states of its program
pub states_same : {M : Type 0} {automata : M → Automata} {stands_for : M → Held → List ℕ → Type 0} {a b : M} →
    Keeps automata stands_for a b → (automata b).states ≡ (automata a).states
states_same k = ap (λ (p : Automata). p.states) k.same

pub advances_on : {M : Type 0} {automata : M → Automata} {stands_for : M → Held → List ℕ → Type 0} {tells : M → List Step → List (List ℕ) → Type 0}
    {a b c : M} {s t : List Step} {u v : List (List ℕ)} →
    Advances automata stands_for tells a b s u → Advances automata stands_for tells b c t v → Advances automata stands_for tells a c (s ++ t) (u ++ v)
advances_on {M} {automata} {stands_for} {tells} {a} {b} {c} {s} {t} {u} {v} f g = record {
  keeps = keeps_on f.keeps g.keeps;
  told = λ before held h. subst (λ l. tells c (before ++ (s ++ t)) l) (append_assoc held u v)
      (subst (λ l. tells c l ((held ++ u) ++ v)) (append_assoc before s t) (g.told (before ++ s) (held ++ u) (f.told before held h)));
}

-- one call, and then another that gives the value
pub gives_on : {M : Type 0} {automata : M → Automata} {stands_for : M → Held → List ℕ → Type 0} {tells : M → List Step → List (List ℕ) → Type 0}
    {a b c : M} {held next : Held} {s t : List Step} {x y : List ℕ} →
    Gives automata stands_for tells a b held s x → Gives automata stands_for tells b c next t y → Gives automata stands_for tells a c next (s ++ t) y
gives_on f g = record { advances = advances_on f.advances g.advances; holds = g.holds }

pub holds_on : {M : Type 0} {automata : M → Automata} {stands_for : M → Held → List ℕ → Type 0} {a b : M} {held : Held} {set : List ℕ} →
    Keeps automata stands_for a b → Holds automata stands_for a held set → Holds automata stands_for b held set
holds_on {M} {automata} {stands_for} {a} {b} {held} {set} k h =
    record { stands = k.stays held set h.stands; states_alone = subst (λ s. AreStates s set) (sym (states_same k)) h.states_alone }

pub is_open_on : {M : Type 0} {automata : M → Automata} {stands_for : M → Held → List ℕ → Type 0} {a b : M} {frame : Frame} {o : Open} →
    Keeps automata stands_for a b → IsOpen automata stands_for a frame o → IsOpen automata stands_for b frame o
is_open_on {M} {automata} {stands_for} {a} {b} {frame} {o} k is = record {
  label = is.label;
  known = subst (λ s. IsLabel s o.label) (sym (states_same k)) is.known;
  needed = holds_on k is.needed;
  gathered = holds_on k is.gathered;
}

pub err_on : {M A E : Type 0} (automata : M → Automata) (stands_for : M → Held → List ℕ → Type 0) (a b c : M) (r : Result A E) →
    Keeps automata stands_for a b → OnErr r (Keeps automata stands_for b c) → OnErr r (Keeps automata stands_for a c)
err_on automata stands_for a b c (Ok held) f h = h
err_on automata stands_for a b c (Err e) f h = keeps_on f h

pub kept_err : {M A E : Type 0} (automata : M → Automata) (stands_for : M → Held → List ℕ → Type 0) (a b : M) (r : Result A E) →
    Keeps automata stands_for a b → OnErr r (Keeps automata stands_for a b)
kept_err automata stands_for a b (Ok v) k = tt
kept_err automata stands_for a b (Err e) k = k

module _ {M : Type 0} (automata : M → Automata) (stands_for : M → Held → List ℕ → Type 0) (tells : M → List Step → List (List ℕ) → Type 0) where
  -- what a memo promises of a step
  abbrev pub Promised : (old new : M) → Op → (a b held : Held) → Type 0
  Promised old new op a b held = (x y : Operand) → AreOperands (automata old).states (stands_for old) op a b x y →
      Makes automata stands_for tells old new held (step (automata old).states op x y ∷ []) (answer_of (automata old).states op x y)

  given : (old new : M) (op : Op) (a b held : Held) → Promised old new op a b held → (x y : Operand) → AreOperands (automata old).states (stands_for old) op a b x y →
      Gives automata stands_for tells old new held (step (automata old).states op x y ∷ []) (answer_of (automata old).states op x y)
  given old new op a b held h x y o =
      let made = h x y o in
      let alone : AreStates (automata new).states (answer_of (automata old).states op x y) =
      subst (λ s. AreStates s (answer_of (automata old).states op x y)) (sym (states_same made.advances.keeps)) (answers-states (automata old).states op x y o.known) in
      record { advances = made.advances; holds = record { stands = made.stands; states_alone = alone } }

  pub class_made : {E : Type 0} (old new : M) (r : Result Held E) (class : ℕ) (op : Op) →
      TakesOperands op (index 0) (index class) → AreOfProgram (automata old).states op (index 0) (index class) →
      IfOk r (Promised old new op (Plain 0) (Plain class)) →
      IfOk r (λ held. Gives automata stands_for tells old new held (step (automata old).states op (index 0) (index class) ∷ []) (answer_of (automata old).states op (index 0) (index class)))
  class_made old new (Ok held) class op takes known h =
      given old new op (Plain 0) (Plain class) held h (index 0) (index class) (record { first = refl; second = refl; taken = takes; known = known })
  class_made old new (Err e) class op takes known h = h

  pub label_made : {E : Type 0} (old new : M) (r : Result Held E) (a : Held) (label : ℕ) (op : Op) →
      ((x : List ℕ) → TakesOperands op (set_of x) (index label)) → ((x : List ℕ) → AreStates (automata old).states x → AreOfProgram (automata old).states op (set_of x) (index label)) →
      IfOk r (Promised old new op a (Plain label)) →
      IfOk r (λ held. (x : List ℕ) → Holds automata stands_for old a x →
      Gives automata stands_for tells old new held (step (automata old).states op (set_of x) (index label) ∷ []) (answer_of (automata old).states op (set_of x) (index label)))
  label_made old new (Ok held) a label op takes known h = λ x p.
      given old new op a (Plain label) held h (set_of x) (index label) (record { first = p.stands; second = refl; taken = takes x; known = known x p.states_alone })
  label_made old new (Err e) a label op takes known h = h

  pub sets_made : {E : Type 0} (old new : M) (r : Result Held E) (a b : Held) (op : Op) →
      ((x y : List ℕ) → TakesOperands op (set_of x) (set_of y)) →
      ((x y : List ℕ) → AreStates (automata old).states x → AreStates (automata old).states y → AreOfProgram (automata old).states op (set_of x) (set_of y)) →
      IfOk r (Promised old new op a b) →
      IfOk r (λ held. (x y : List ℕ) → Holds automata stands_for old a x → Holds automata stands_for old b y →
      Gives automata stands_for tells old new held (step (automata old).states op (set_of x) (set_of y) ∷ []) (answer_of (automata old).states op (set_of x) (set_of y)))
  sets_made old new (Ok held) a b op takes known h = λ x y p q.
      given old new op a b held h (set_of x) (set_of y) (record { first = p.stands; second = q.stands; taken = takes x y; known = known x y p.states_alone q.states_alone })
  sets_made old new (Err e) a b op takes known h = h
