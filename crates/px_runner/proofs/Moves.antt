-- What an event does to the runner's frames and texts.
use Rattle.std.proofs.Common.{◌≡◌, ℕ, ◌+◌, List, [], ◌∷◌, ◌++◌, length, reverse, drop, refl, sym, ◌∙◌, ap, arith, subst}
use Rattle.std.proofs.lemmas.List.{reverse-append}
use Rattle.px_text.specs.declared.op.Op.TheVariants.{Push}
use Rattle.px_text.specs.Operands.{index, set_of}
use Rattle.px_afa.specs.Building.{Automata}
use Rattle.px_afa.specs.Accepting.{ArePaths}
use Rattle.px_afa.specs.Sets.{first_set}
use Rattle.px_afa.specs.Functions as functions
use Rattle.px_afa.specs.Steps.{Step, step, value_steps, raise_steps}
use Rattle.px_runner.specs.declared.held.Held.{Held}
use Rattle.px_runner.specs.declared.frame.Frame.{Frame}
use Rattle.px_runner.specs.declared.runner.Runner.{Runner}
use Rattle.px_runner.specs.Operands.{IsLabel, AreStates}
use Rattle.px_runner.specs.Memos.{Keeps, Advances}
use Rattle.px_runner.specs.Gives.{Holds, Gives}
use Rattle.px_runner.specs.Events.{Open, Opened, with_child, values_in, whole_set, begun, after_end, end_steps, ground}
use Rattle.px_runner.specs.Frames.{IsOpen, AreOpen, AreTexts}
use Rattle.px_runner.specs.Running.{IsAt}
use Rattle.px_runner.proofs.Made.{states_same, keeps_on, advances_on, holds_on, is_open_on}
use Rattle.px_runner.proofs.Below.{firsts-states}
use Rattle.px_runner.proofs.Texts.{said, began, ended}

pub are_open_on : {M : Type 0} (automata : M → Automata) (stands_for : M → Held → List ℕ → Type 0) (a b : M) → Keeps automata stands_for a b →
    (frames : List Frame) (outer : List Open) → AreOpen automata stands_for a frames outer → AreOpen automata stands_for b frames outer
are_open_on automata stands_for a b k [] [] h = tt
are_open_on automata stands_for a b k [] (o ∷ outer) h = absurd h
are_open_on automata stands_for a b k (f ∷ frames) [] h = absurd h
are_open_on automata stands_for a b k (f ∷ frames) (o ∷ outer) h = (is_open_on k h.0, are_open_on automata stands_for a b k frames outer h.1)

-- the frame pushed last stands first from the inside out
pub turned : {A : Type 0} (xs : List A) (x : A) → reverse (xs ++ x ∷ []) ≡ x ∷ reverse xs
turned xs x = reverse-append xs (x ∷ [])

module _ {M : Type 0} (automata : M → Automata) (stands_for : M → Held → List ℕ → Type 0) (tells : M → List Step → List (List ℕ) → Type 0) where
  -- the document root before the first event
  pub ground_on : (old m1 new : M) (needed gathered : Held) (none : List ℕ) → none ≡ [] → ArePaths (automata old).states (automata old).firsts →
      Advances automata stands_for tells old m1 [] (first_set (automata old).firsts ∷ []) → stands_for m1 needed (first_set (automata old).firsts) →
      Advances automata stands_for tells m1 new [] (none ∷ []) → stands_for new gathered none →
      IsOpen automata stands_for new (record { label = 0; needed = needed; gathered = gathered; begins = 0 }) (ground (automata old)).innermost
  ground_on old m1 new needed gathered none is paths one first two empty =
      let firsts = first_set (automata old).firsts in
      let keeps = keeps_on one.keeps two.keeps in
      record {
        label = refl;
        known = omega arith;
        needed = record {
          stands = two.keeps.stays needed firsts first;
          states_alone = subst (λ s. AreStates s firsts) (sym (states_same keeps)) (firsts-states (automata old).states (automata old).firsts paths);
        };
        gathered = record { stands = subst (λ s. stands_for new gathered s) is empty; states_alone = tt };
      }

  pub leaf_on : (old m1 new : M) (runner after : Runner) (set : Held) (label : ℕ) (value more : List ℕ) →
      Gives automata stands_for tells old m1 set (value_steps (automata old).states value) (values_in (automata old).states value) →
      ((o : Open) (s text : List ℕ) → IsOpen automata stands_for m1 runner.innermost o → Holds automata stands_for m1 set s →
      IsOpen automata stands_for new after.innermost (with_child (automata m1).states o s label text)
      × Advances automata stands_for tells m1 new (raise_steps (automata m1).states o.needed o.gathered s label) []) →
      after.innermost.begins ≡ runner.innermost.begins → after.text.items ≡ runner.text.items ++ more →
      after.outer ≡ runner.outer → after.none ≡ runner.none → after.steps ≡ runner.steps + 6 →
      (opened : Opened) (made : ℕ) → IsAt automata stands_for old runner opened made →
      IsAt automata stands_for new after (record { innermost = with_child (automata old).states opened.innermost (values_in (automata old).states value) label more; outer = opened.outer }) (made + 6)
      × Advances automata stands_for tells old new
      (value_steps (automata old).states value ++ raise_steps (automata old).states opened.innermost.needed opened.innermost.gathered (values_in (automata old).states value) label) []
  leaf_on old m1 new runner after set label value more f h begins text outer none steps opened made at =
      let there = h opened.innermost (values_in (automata old).states value) more (is_open_on f.advances.keeps at.inner) f.holds in
      let all = advances_on f.advances there.1 in
      let now = states_same f.advances.keeps in
      let frames = ap (λ v. reverse v.items) outer in
      let spoken = said runner.text.items more runner.innermost after.innermost (reverse runner.outer.items) opened.innermost
      (with_child (automata old).states opened.innermost (values_in (automata old).states value) label more) opened.outer at.texts begins refl in (
        record {
          inner = subst (λ s. IsOpen automata stands_for new after.innermost (with_child s opened.innermost (values_in (automata old).states value) label more)) now there.0;
          outer = subst (λ fs. AreOpen automata stands_for new fs opened.outer) (sym frames) (are_open_on automata stands_for old new all.keeps (reverse runner.outer.items) opened.outer at.outer);
          texts = subst (λ t. AreTexts t (after.innermost ∷ reverse after.outer.items) (with_child (automata old).states opened.innermost (values_in (automata old).states value) label more ∷ opened.outer)) (sym text)
              (subst (λ fs. AreTexts (runner.text.items ++ more) (after.innermost ∷ fs) (with_child (automata old).states opened.innermost (values_in (automata old).states value) label more ∷ opened.outer)) (sym frames) spoken);
          none = none ∙ at.none;
          steps = steps ∙ ap (λ n. n + 6) at.steps;
        },
        subst (λ s. Advances automata stands_for tells old new (value_steps (automata old).states value ++ raise_steps s opened.innermost.needed opened.innermost.gathered (values_in (automata old).states value) label) []) now all,
      )

  pub start_on : (old m1 new : M) (runner after : Runner) (needed gathered : Held) (label begins : ℕ) → begins ≡ length runner.text.items →
      IsLabel (automata old).states label →
      ((s : List ℕ) → Holds automata stands_for old runner.innermost.needed s →
      Gives automata stands_for tells old m1 needed (step (automata old).states Push (set_of s) (index label) ∷ []) (functions.push (automata old).states s label)) →
      Advances automata stands_for tells m1 new [] (runner.none ∷ []) → stands_for new gathered runner.none →
      after.innermost ≡ record { label = label; needed = needed; gathered = gathered; begins = begins } →
      after.outer.items ≡ runner.outer.items ++ runner.innermost ∷ [] →
      after.text ≡ runner.text → after.none ≡ runner.none → after.steps ≡ runner.steps + 1 →
      (opened : Opened) (made : ℕ) → IsAt automata stands_for old runner opened made →
      IsAt automata stands_for new after (begun (automata old).states opened label) (made + 1)
      × Advances automata stands_for tells old new (step (automata old).states Push (set_of opened.innermost.needed) (index label) ∷ []) ([] ∷ [])
  start_on old m1 new runner after needed gathered label begins at_end known f held stands child outer text none steps opened made at =
      let one = f opened.innermost.needed at.inner.needed in
      let all = advances_on one.advances held in
      let frames = ap reverse outer ∙ turned runner.outer.items runner.innermost in
      let inside = (begun (automata old).states opened label).innermost in
      let empty : Holds automata stands_for new gathered [] = record { stands = subst (λ s. stands_for new gathered s) at.none stands; states_alone = tt } in
      let first : IsOpen automata stands_for new (record { label = label; needed = needed; gathered = gathered; begins = begins }) inside = record {
        label = refl;
        known = subst (λ s. IsLabel s label) (sym (states_same all.keeps)) known;
        needed = holds_on held.keeps one.holds;
        gathered = empty;
      } in
      let spoken = began runner.text.items after.innermost (runner.innermost ∷ reverse runner.outer.items) inside (opened.innermost ∷ opened.outer) at.texts (ap (λ (g : Frame). g.begins) child ∙ at_end) refl in (
        record {
          inner = subst (λ g. IsOpen automata stands_for new g inside) (sym child) first;
          outer = subst (λ fs. AreOpen automata stands_for new fs (opened.innermost ∷ opened.outer)) (sym frames)
              (is_open_on all.keeps at.inner, are_open_on automata stands_for old new all.keeps (reverse runner.outer.items) opened.outer at.outer);
          texts = subst (λ t. AreTexts t (after.innermost ∷ reverse after.outer.items) (inside ∷ opened.innermost ∷ opened.outer)) (sym (ap (λ t. t.items) text))
              (subst (λ fs. AreTexts runner.text.items (after.innermost ∷ fs) (inside ∷ opened.innermost ∷ opened.outer)) (sym frames) spoken);
          none = none ∙ at.none;
          steps = steps ∙ ap (λ n. n + 1) at.steps;
        },
        subst (λ s. Advances automata stands_for tells old new (step (automata old).states Push (set_of opened.innermost.needed) (index label) ∷ []) (s ∷ [])) at.none all,
      )

  pub end_on : (old new : M) (runner after : Runner) (parent : Frame) (slice : List ℕ) →
      ((c p : Open) (text : List ℕ) → IsOpen automata stands_for old runner.innermost c → IsOpen automata stands_for old parent p → c.text ≡ slice →
      IsOpen automata stands_for new after.innermost (with_child (automata old).states p (whole_set (automata old).states c) c.label text)
      × Advances automata stands_for tells old new (end_steps (automata old).states c (p ∷ [])) []) →
      slice ≡ drop runner.innermost.begins runner.text.items →
      after.innermost.begins ≡ parent.begins → runner.outer.items ≡ after.outer.items ++ parent ∷ [] →
      after.text ≡ runner.text → after.none ≡ runner.none → after.steps ≡ runner.steps + 7 →
      (opened : Opened) (made : ℕ) → IsAt automata stands_for old runner opened made →
      IsAt automata stands_for new after (after_end (automata old).states opened.innermost opened.outer) (made + length (end_steps (automata old).states opened.innermost opened.outer))
      × Advances automata stands_for tells old new (end_steps (automata old).states opened.innermost opened.outer) []
  end_on old new runner after parent slice h sliced begins outer text none steps opened made at =
      go opened.outer (subst (λ fs. AreOpen automata stands_for old fs opened.outer) frames at.outer)
      (subst (λ fs. AreTexts runner.text.items (runner.innermost ∷ fs) (opened.innermost ∷ opened.outer)) frames at.texts)
    where
      frames : reverse runner.outer.items ≡ parent ∷ reverse after.outer.items
      frames = ap reverse outer ∙ turned after.outer.items parent

      go : (os : List Open) → AreOpen automata stands_for old (parent ∷ reverse after.outer.items) os →
          AreTexts runner.text.items (runner.innermost ∷ parent ∷ reverse after.outer.items) (opened.innermost ∷ os) →
          IsAt automata stands_for new after (after_end (automata old).states opened.innermost os) (made + length (end_steps (automata old).states opened.innermost os))
          × Advances automata stands_for tells old new (end_steps (automata old).states opened.innermost os) []
      go [] are texts = absurd are
      go (p ∷ os) are texts =
          let there = h opened.innermost p opened.innermost.text at.inner are.0 (sym texts.1 ∙ sym sliced) in
          let up = with_child (automata old).states p (whole_set (automata old).states opened.innermost) opened.innermost.label opened.innermost.text in
          let spoken = ended runner.text.items runner.innermost parent after.innermost (reverse after.outer.items) opened.innermost p up os texts begins refl in (
            record {
              inner = there.0;
              outer = are_open_on automata stands_for old new there.1.keeps (reverse after.outer.items) os are.1;
              texts = subst (λ t. AreTexts t (after.innermost ∷ reverse after.outer.items) (up ∷ os)) (sym (ap (λ t. t.items) text)) spoken;
              none = none ∙ at.none;
              steps = steps ∙ ap (λ n. n + 7) at.steps;
            },
            there.1,
          )
