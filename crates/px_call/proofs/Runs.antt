-- The sets that a call holds over a document, and the words that it writes.
use Rattle.std.proofs.Common.{◌≡◌, ◌⊎◌, ℕ, zero, suc, List, [], ◌∷◌, ◌++◌, map, refl, sym, ap, ◌∙◌, subst, inl, inr, ⊎_elim}
use mathlib.Core.Option.{some, some-injective}
use lib.ListN.{get_elem?}
use Rattle.px_text.specs.declared.op.Op.{Op}
use Rattle.px_text.specs.declared.op.Op.TheVariants.{Push}
use Rattle.px_text.specs.Operands.{Operand, index, set_of}
use Rattle.px_text.specs.Nodes.{Root}
use Rattle.px_reader.specs.declared.event.Event.{Event}
use Rattle.px_reader.specs.declared.event.Event.TheVariants.{Start, Attr, Text, End}
use Rattle.px_reader.specs.Spelling.{events_of}
use Rattle.px_afa.specs.Contents.{ElementKind}
use Rattle.px_afa.specs.Building.{Automata}
use Rattle.px_afa.specs.Sets.{first_set}
use Rattle.px_afa.specs.Steps.{Step, step, label_of, run_of}
use Rattle.px_rule.specs.declared.shape.Shape.{Shape}
use Rattle.px_rule.specs.declared.view.View.{View}
use Rattle.px_rule.specs.Kept.{IsAt, Wrote, SuffixWord}
use Rattle.px_rule.proofs.Sounds.{wrote_none, wrote_on}
use Rattle.px_runner.specs.Events.{ground, after_events, events_steps}
use Rattle.px_runner.proofs.Fed.{steps-append, tree-steps}
use Rattle.px_call.specs.declared.tally.Tally.{Tally}
use Rattle.px_call.specs.Counted.{step_of, Among, SetOf, of_first, of_second, of_answer, of_held, WordOf, of_set, of_step, Counts}
use Rattle.px_call.specs.Calls.{held_in, sets_held, steps_brought, CountsAt}
use Rattle.px_call.specs.Laws.{HeldFirst, KnowTheSame}
use Rattle.px_call.proofs.Again.{no_cons}
use Rattle.px_call.proofs.Outside.{moved}
use Rattle.px_call.proofs.Ordered.{among_is, from_marks, from_held}

-- events give nothing but empty sets to hold
all_empty : (events : List Event) (x : List ℕ) → Among (held_in events) x → x ≡ []
all_empty events x h = go events h.0 h.1
  where
    go : (events : List Event) (i : ℕ) → get_elem? (held_in events) i ≡ some x → x ≡ []
    go [] i e = absurd (cc)
    go (Start name ∷ events) zero e = sym (some-injective [] x e)
    go (Start name ∷ events) (suc i) e = go events i e
    go (Attr name value ∷ events) i e = go events i e
    go (Text text ∷ events) i e = go events i e
    go (End ∷ events) i e = go events i e

-- the push of the root element is the first step
first_step : Automata → Root → Step
first_step automata root = step automata.states Push (set_of (first_set automata.firsts)) (index (label_of automata.states (ElementKind root.name)))

-- a set that is held is empty or the first operand of the first step
pub held_is : (automata : Automata) (given : List Event) (x : List ℕ) → Among (sets_held automata given) x → (x ≡ []) ⊎ (x ≡ first_set automata.firsts)
held_is automata given x h = go h.0 h.1
  where
    go : (i : ℕ) → get_elem? (sets_held automata given) i ≡ some x → (x ≡ []) ⊎ (x ≡ first_set automata.firsts)
    go zero e = inr (sym (some-injective (first_set automata.firsts) x e))
    go (suc zero) e = inl (sym (some-injective [] x e))
    go (suc (suc i)) e = inl (all_empty given x (i, e))

pub first_operand : (automata : Automata) (root : Root) (x : List ℕ) → x ≡ first_set automata.firsts → (s : Step) × Among (run_of automata root) s × (s.a ≡ set_of x)
first_operand automata root x e = (step automata.states Push (set_of (first_set automata.firsts)) (index (label_of automata.states (ElementKind root.name))), (0, refl), ap set_of (sym e))

pub held_in_run : (automata : Automata) (given : List Event) (root : Root) → HeldFirst (run_of automata root) (sets_held automata given)
held_in_run automata given root x h = ⊎_elim (λ (e : x ≡ []). inl e) (λ (e : x ≡ first_set automata.firsts). inr (first_operand automata root x e)) (held_is automata given x h)

-- the steps of the events so far are the first of the run
among_front : {A : Type 0} (xs ys : List A) (x : A) → Among xs x → Among (xs ++ ys) x
among_front {A} xs ys x h = (h.0, go xs h.0 h.1)
  where
    go : (xs : List A) (i : ℕ) → get_elem? xs i ≡ some x → get_elem? (xs ++ ys) i ≡ some x
    go [] i e = absurd (cc)
    go (y ∷ xs) zero e = e
    go (y ∷ xs) (suc i) e = go xs i e

pub brought_in_run : (automata : Automata) (given rest : List Event) (root : Root) → events_of root ≡ given ++ rest → (s : Step) → Among (steps_brought automata given) s → Among (run_of automata root) s
brought_in_run automata given rest root e s h =
    among_is (steps_brought automata given ++ events_steps automata.states (after_events automata.states (ground automata) given) rest) (run_of automata root) s
    (sym (steps-append automata.states (ground automata) given rest) ∙ (ap (events_steps automata.states (ground automata)) (sym e) ∙ tree-steps automata root))
    (among_front (steps_brought automata given) (events_steps automata.states (after_events automata.states (ground automata) given) rest) s h)

module _ {E : Type 0} (right : List E → Op → Operand → Operand → List ℕ → Type 0) (z : Shape) (k n : ℕ) (automata : Automata) (v : View E) (root : Root) where
  -- no set is held that is not of the run, and an empty one has no word
  word_of_run : (steps : List Step) (sets : List (List ℕ)) → ((s : Step) → Among steps s → Among (run_of automata root) s) → ((x : List ℕ) → Among sets x → (x ≡ []) ⊎ (x ≡ first_set automata.firsts))
      → (word : ℕ) → WordOf right z k n v steps sets word → WordOf right z k n v (run_of automata root) [] word
  word_of_run steps sets more held word (of_set x _ s h) = go x s h
    where
      go : (x : List ℕ) → SetOf steps sets x → SuffixWord right z k n v x word → WordOf right z k n v (run_of automata root) [] word
      go x (of_first s _ i e) h = of_set x word (of_first s x (more s i) e) h
      go x (of_second s _ i e) h = of_set x word (of_second s x (more s i) e) h
      go _ (of_answer s i) h = of_set s.answer word (of_answer s (more s i)) h
      go x (of_held _ i) h = ⊎_elim (λ (e : x ≡ []). absurd (no_cons h.front h.element h.rest (sym h.suffix ∙ e)))
          (λ (e : x ≡ first_set automata.firsts). let f = first_operand automata root x e in of_set x word (of_first f.0 x f.1 f.2) h) (held x i)
  word_of_run steps sets more held _ (of_step s a b r i numbers answer) = of_step s a b r (more s i) numbers answer

  pub writes_of_run : (began : View E) (t : Tally) (given rest : List Event) → events_of root ≡ given ++ rest → CountsAt right z k n automata began v t given → Wrote (IsAt k n (WordOf right z k n v (run_of automata root) [])) began v
  writes_of_run began t given rest e h =
      let P = IsAt k n (WordOf right z k n v (map step_of h.marks) h.held) in
      let Q = IsAt k n (WordOf right z k n v (run_of automata root) []) in
      wrote_on P Q Q began v v
      (λ f i. (
        i.0,
        i.1,
        word_of_run (map step_of h.marks) h.held
            (λ s j. brought_in_run automata given rest root e s (from_marks right z k n began v t (steps_brought automata given) (sets_held automata given) h s j))
            (λ x j. held_is automata given x (from_held right z k n began v t (steps_brought automata given) (sets_held automata given) h x j)) f.word i.2,
      )) (λ f i. i) h.counted.wrote (wrote_none Q v v refl)

  -- over a whole document the counts are those of its run, outside the bank too
  pub counts_of_run : (before began after : View E) (t : Tally) → KnowTheSame before began → KnowTheSame v after → CountsAt right z k n automata began v t (events_of root)
      → Counts right z k n before after t (run_of automata root) (sets_held automata (events_of root))
  counts_of_run before began after t e d h = moved right z k n before began v after t (run_of automata root) (sets_held automata (events_of root)) e d
      (subst (λ steps. Counts right z k n began v t steps (sets_held automata (events_of root))) (tree-steps automata root) h)
