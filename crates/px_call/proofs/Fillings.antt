-- From the calls on a bank to what making a step there gives.
use Rattle.std.proofs.Common.{◌≡◌, ◌≢◌, ◌⊎◌, ℕ, ◌<◌, true, List, take, refl, sym, ap, ◌∙◌, subst, ⊎_elim}
use Rattle.px_text.specs.declared.op.Op.{Op}
use Rattle.px_text.specs.Operands.{Operand, set_of, first_is_set, second_is_set}
use Rattle.px_rule.specs.declared.shape.Shape.{Shape}
use Rattle.px_rule.specs.declared.view.View.{View}
use Rattle.px_rule.specs.declared.view.Found.{Found}
use Rattle.px_rule.specs.Words.{Small, step_word, key_of, path_of, long_of}
use Rattle.px_rule.specs.Kept.{Grew, IsAt, Wrote, KeptAt, Gapped, KeyBlocked, Tells, Sound, SetBlocked, SuffixWord}
use Rattle.px_rule.proofs.Lasting.{grew_trans}
use Rattle.px_rule.proofs.Since.{since_grew, tells_since, key_since, gap_since, gap_gained}
use Rattle.px_rule.proofs.Sounds.{wrote_none, wrote_on}
use Rattle.px_rule.proofs.Apart.{kept_apart}
use Rattle.px_afa.specs.Steps.{Step}
use Rattle.px_intern.specs.Answers as answers
use Rattle.px_intern.specs.declared.answers.Find.TheVariants.{Found as Found_step}
use Rattle.px_call.specs.Steps.{by_key, WordFor, as_suffix, as_step, Asked}
use Rattle.px_call.specs.Outcomes.{Reads, Computes, KeyFull, SetFull}
use Rattle.px_call.specs.declared.stepping.Outcome.{Outcome}
use Rattle.px_call.specs.declared.stepping.Outcome.TheVariants as outcome
use Rattle.px_call.specs.Making.{IsPut, IsFilled, IsMade}
use Rattle.px_call.proofs.Lasting.{numbered_since, suffix_since}
use Rattle.px_call.proofs.Apart.{key_of_step}
use Rattle.px_rule.specs.Table.{bank_in, version_in}
use Rattle.px_intern.specs.Answers.{Names, WroteNodes, StaysSound}
use Rattle.px_runner.specs.declared.held.Held.TheVariants as held
use Rattle.px_call.specs.Values.{OnlyLooked}
use Rattle.px_call.specs.Making.{IsBeside, Works}
use Rattle.px_call.proofs.Readings.{here, there, asked_grew}

module _ {E : Type 0} (right : List E → Op → Operand → Operand → List ℕ → Type 0) (z : Shape) (k n : ℕ) where
  abbrev pub WordsFor : View E → Step → Found → Type 0
  WordsFor w s = IsAt k n (WordFor right z k n w s)

  -- a word of a step in one view is one in each later view
  word_for_grew : (v w : View E) → Grew v w → (s : Step) (f : Found) → WordsFor v s f → WordsFor w s f
  word_for_grew v w g s f h = (h.0, h.1, go f.word h.2)
    where
      go : (x : ℕ) → WordFor right z k n v s x → WordFor right z k n w s x
      go x (as_suffix _ i) = as_suffix x (suffix_since right z k n v w (since_grew n v w g) s.answer x i)
      go _ (as_step a b r i told) = as_step a b r (numbered_since right z k n v w (since_grew n v w g) s a b i) (tells_since right z k n v w (since_grew n v w g) true r (set_of s.answer) told)

  -- what was written first, and then more
  pub wrote_then : (u v w : View E) → Grew v w → (s : Step) → Wrote (WordsFor v s) u v → Wrote (WordsFor w s) v w → Wrote (WordsFor w s) u w
  wrote_then u v w g s a b = wrote_on (WordsFor v s) (WordsFor w s) (WordsFor w s) u v w (word_for_grew v w g s) (λ f h. h) a b

  pub wrote_after : (u v w : View E) (s : Step) → v.touch.wrote ≡ u.touch.wrote → Wrote (WordsFor w s) v w → Wrote (WordsFor w s) u w
  wrote_after u v w s none b = wrote_on (WordsFor w s) (WordsFor w s) (WordsFor w s) u v w (λ f h. h) (λ f h. h) (wrote_none (WordsFor w s) u v none) b

  -- the answer was interned, as far as there was room
  pub answer_wrote : (u v w : View E) (s : Step) (set : List ℕ) → set ≡ s.answer → v.touch.wrote ≡ u.touch.wrote → Wrote (IsAt k n (SuffixWord right z k n w set)) v w → Wrote (WordsFor w s) u w
  answer_wrote u v w s set same none wr =
      wrote_on (IsAt k n (SuffixWord right z k n w set)) (IsAt k n (SuffixWord right z k n w set)) (WordsFor w s) u v w suffix suffix (wrote_none (IsAt k n (SuffixWord right z k n w set)) u v none) wr
    where
      suffix : (f : Found) → IsAt k n (SuffixWord right z k n w set) f → WordsFor w s f
      suffix f h = (h.0, h.1, as_suffix f.word (subst (λ l. SuffixWord right z k n w l f.word) same h.2))

  -- the numbers are those of a right step
  pub right_step : (v : View E) (op : Op) (a b r : ℕ) (s : Step) → Asked right z k n v op a b s → Tells right z k n v true r (set_of s.answer)
      → Tells right z k n v (first_is_set op) a s.a × Tells right z k n v (second_is_set op) b s.b × right (take n v.past.seen) op s.a s.b s.answer
  right_step v op a b r s h told = (
    subst (λ (o : Op). Tells right z k n v (first_is_set o) a s.a) h.op_is h.numbers.first,
    subst (λ (o : Op). Tells right z k n v (second_is_set o) b s.b) h.op_is h.numbers.second,
    subst (λ (o : Op). right (take n v.past.seen) o s.a s.b s.answer) h.op_is h.is_right,
  )

  -- only the step's word was written
  put_wrote : (v w : View E) → Grew v w → (op : Op) (a b r : ℕ) (s : Step) → Asked right z k n v op a b s → Tells right z k n v true r (set_of s.answer) → Wrote (IsAt k n (λ x. x ≡ step_word op a b r)) v w → Wrote (WordsFor w s) v w
  put_wrote v w g op a b r s h told wr = wrote_on (IsAt k n (λ x. x ≡ step_word op a b r)) (IsAt k n (λ x. x ≡ step_word op a b r)) (WordsFor w s) v v w word word (wrote_none (IsAt k n (λ x. x ≡ step_word op a b r)) v v refl) wr
    where
      word : (f : Found) → IsAt k n (λ x. x ≡ step_word op a b r) f → WordsFor w s f
      word f i = (
        i.0,
        i.1,
        subst (WordFor right z k n w s) (sym (i.2 ∙ ap (λ (o : Op). step_word o a b r) (sym h.op_is)))
            (as_step a b r (asked_grew right z k n v w g op a b s h).numbers (tells_since right z k n v w (since_grew n v w g) true r (set_of s.answer) told)),
      )

  -- the step's word stands
  pub put_stands : (v w : View E) → Grew v w → (op : Op) (a b r p : ℕ) (s : Step) → Small r → Asked right z k n v op a b s → Tells right z k n v true r (set_of s.answer) → Wrote (IsAt k n (λ x. x ≡ step_word op a b r)) v w
      → KeptAt k n p (step_word op a b r) w → IsPut right z k n v w s a b r
  put_stands v w g op a b r p s small h told wr kept = record {
    place = p;
    kept = subst (λ (o : Op). KeptAt k n p (step_word o a b r) w) (sym h.op_is) kept;
    wrote = put_wrote v w g op a b r s h told wr;
    told = tells_since right z k n v w (since_grew n v w g) true r (set_of s.answer) told;
    small = small;
  }

  -- a blocked key, whatever the result
  same_key : (w : View E) (x y : ℕ) → key_of x ≡ key_of y → KeyBlocked z k n x w → KeyBlocked z k n y w
  same_key w x y e h = let P : ℕ → Type 0 = λ key. (j : ℕ) → j < long_of z key → (x : ℕ) × KeptAt k n (path_of z key j) x w × (key_of x ≢ key) in subst P e h

  -- no place is free for the step's word
  pub put_full : (v w : View E) → Grew v w → (op : Op) (a b r word : ℕ) (s : Step) → Small r → Asked right z k n v op a b s → Tells right z k n v true r (set_of s.answer) → Wrote (IsAt k n (λ x. x ≡ step_word op a b r)) v w
      → word ≡ step_word op a b r → KeyBlocked z k n (step_word op a b r) w → KeyFull right z k n v w s r word
  put_full v w g op a b r word s small h told wr is blocked = let later = asked_grew right z k n v w g op a b s h in record {
    wrote = put_wrote v w g op a b r s h told wr;
    cause = by_key (record {
      a = a;
      b = b;
      numbers = later.numbers;
      blocked = same_key w (step_word op a b r) (step_word s.op a b 0) (key_of_step op a b r small ∙ ap (λ (o : Op). key_of (step_word o a b 0)) (sym h.op_is)) blocked;
    });
    blocked = subst (λ (x : ℕ). KeyBlocked z k n x w) (sym is) blocked;
    told = tells_since right z k n v w (since_grew n v w g) true r (set_of s.answer) told;
    small = small;
  }

  -- the words that were written before the step was put
  pub filled_from : (u v w : View E) → Grew v w → (s : Step) (a b : ℕ) → Wrote (WordsFor v s) u v → (o : Outcome) → IsFilled right z k n v w s a b o → IsFilled right z k n u w s a b o
  filled_from u v w g s a b wr (outcome.Found r) h = h
  filled_from u v w g s a b wr (outcome.Computed r) h = record { place = h.place; kept = h.kept; wrote = wrote_then u v w g s wr h.wrote; told = h.told; small = h.small }
  filled_from u v w g s a b wr (outcome.KeyFull r word) h = record { wrote = wrote_then u v w g s wr h.wrote; cause = h.cause; blocked = h.blocked; told = h.told; small = h.small }
  filled_from u v w g s a b wr (outcome.SetFull set word) h = record { same = h.same; wrote = wrote_then u v w g s wr h.wrote; answer = h.answer }

  -- a step that was found
  pub read_step : (v w : View E) → Grew v w → (op : Op) (a b r : ℕ) (s : Step) → v.touch.touches < w.touch.touches → w.touch.wrote ≡ v.touch.wrote → Asked right z k n v op a b s → answers.FindGives right z k n op a b w (Found_step r)
      → Reads right z k n v w s r
  read_step v w g op a b r s touched none h found = let later = asked_grew right z k n v w g op a b s h in
      let is = right_at later in
      let told = found.1 s.a s.b s.answer is.0 is.1 is.2 in record {
        touched = touched;
        wrote = none;
        kept = record {
          a = a;
          b = b;
          r = r;
          place = found.0.1.0;
          numbers = later.numbers;
          small = found.0.0;
          answer = told;
          kept = subst (λ (o : Op). KeptAt k n found.0.1.0 (step_word o a b r) w) (sym h.op_is) (found.0.1.1.0, found.0.1.1.1);
        };
        told = told;
        small = found.0.0;
      }
    where
      right_at : Asked right z k n w op a b s → Tells right z k n w (first_is_set op) a s.a × Tells right z k n w (second_is_set op) b s.b × right (take n w.past.seen) op s.a s.b s.answer
      right_at i = (
        subst (λ (o : Op). Tells right z k n w (first_is_set o) a s.a) i.op_is i.numbers.first,
        subst (λ (o : Op). Tells right z k n w (second_is_set o) b s.b) i.op_is i.numbers.second,
        subst (λ (o : Op). right (take n w.past.seen) o s.a s.b s.answer) i.op_is i.is_right,
      )

  -- a step that was absent in u, and was computed behind it
  pub made_step : ((op : Op) (a b : Operand) (x y : List ℕ) → (log : List E) → right log op a b x → right log op a b y → x ≡ y) → (v u w : View E) → Grew v u → Grew u w → Sound right z k n u → Sound right z k n w → v.touch.touches < u.touch.touches → u.touch.wrote ≡ v.touch.wrote
      → (op : Op) (a b : ℕ) (s : Step) → Asked right z k n v op a b s → Gapped z k n (step_word op a b 0) u ⊎ KeyBlocked z k n (step_word op a b 0) u → (o : Outcome) → IsFilled right z k n u w s a b o → IsMade right z k n v w s a b o
  made_step one v u w g g' sound sound' touched none op a b s h absent (outcome.Found r) f = absurd f
  made_step one v u w g g' sound sound' touched none op a b s h absent (outcome.KeyFull r word) f = record { wrote = wrote_after v u w s none f.wrote; cause = f.cause; blocked = f.blocked; told = f.told; small = f.small }
  made_step one v u w g g' sound sound' touched none op a b s h absent (outcome.SetFull set word) f = record { same = f.same; wrote = wrote_after v u w s none f.wrote; answer = f.answer }
  made_step one v u w g g' sound sound' touched none op a b s h absent (outcome.Computed r) f = ⊎_elim by_gap by_block absent
    where
      at_u : Asked right z k n u op a b s
      at_u = asked_grew right z k n v u g op a b s h

      word_is : step_word op a b 0 ≡ step_word s.op a b 0
      word_is = ap (λ (o : Op). step_word o a b 0) (sym h.op_is)

      by_block : KeyBlocked z k n (step_word op a b 0) u → Computes right z k n v w s a b r
      by_block b' = absurd
          (kept_apart right z k n w (λ o c d x y i j. one o c d x y (take n w.past.seen) i j) sound' f.place (step_word s.op a b r) (step_word op a b 0) f.kept
          (key_of_step s.op a b r f.small ∙ ap key_of (sym word_is)) (key_since z k n u w (since_grew n u w g') (step_word op a b 0) b'))

      by_gap : Gapped z k n (step_word op a b 0) u → Computes right z k n v w s a b r
      by_gap gap' = let gap = subst (λ (x : ℕ). Gapped z k n x u) word_is gap' in record {
        between = u;
        grew = g;
        sound = sound;
        touched = touched;
        numbers = at_u.numbers;
        none = gap.none_kept;
        grew_on = g';
        wrote = wrote_after v u w s none f.wrote;
        computed = record {
          stands = record {
            a = a;
            b = b;
            r = r;
            place = f.place;
            numbers = (asked_grew right z k n u w g' op a b s at_u).numbers;
            small = f.small;
            answer = f.told;
            kept = f.kept;
          };
          gap = gap_since z k n u w (since_grew n u w g') v.touch.touches (step_word s.op a b 0) (gap_gained z k n v.touch.touches (step_word s.op a b 0) u touched gap);
        };
        told = f.told;
        small = f.small;
      }

-- An answer was read in u and interned in t; all is told at the place of the view before, v
module _ {E : Type 0} (right : List E → Op → Operand → Operand → List ℕ → Type 0) (z : Shape) (v u t : View E) (looked : OnlyLooked right z v u) (g : Grew u t) (set : List ℕ) (wrote : WroteNodes right z set u t) where
  grew_all : Grew v t
  grew_all = grew_trans v u t looked.grew g

  interned : (s : Step) → set ≡ s.answer → Wrote (WordsFor right z (bank_in v.stay.place) (version_in v.stay.place) t s) v t
  interned s same = answer_wrote right z (bank_in v.stay.place) (version_in v.stay.place) v u t s set same looked.wrote
      (there (λ (k n : ℕ). Wrote (IsAt k n (SuffixWord right z k n t set)) u t) v u looked.grew wrote)

  blocked_at : (word : ℕ) → SetBlocked right z (bank_in t.stay.place) (version_in t.stay.place) t set word → (s : Step) → set ≡ s.answer → SetBlocked right z (bank_in v.stay.place) (version_in v.stay.place) t s.answer word
  blocked_at word h s same = subst (λ l. SetBlocked right z (bank_in v.stay.place) (version_in v.stay.place) t l word) same (there (λ (k n : ℕ). SetBlocked right z k n t set word) v t grew_all h)

  told_at : (r : ℕ) → Names right z t r set → (s : Step) → set ≡ s.answer → Tells right z (bank_in v.stay.place) (version_in v.stay.place) t true r (set_of s.answer)
  told_at r h s same = subst (λ l. Tells right z (bank_in v.stay.place) (version_in v.stay.place) t true r (set_of l)) same (there (λ (k n : ℕ). Tells right z k n t true r (set_of set)) v t grew_all h)

  pub full_fills : (word : ℕ) → SetBlocked right z (bank_in t.stay.place) (version_in t.stay.place) t set word → (s : Step) → set ≡ s.answer → SetFull right z (bank_in v.stay.place) (version_in v.stay.place) v t s set word
  full_fills word h s same = record { same = same; wrote = interned s same; answer = blocked_at word h s same }

  pub put_fills : (w : View E) → Grew t w → (s : Step) → set ≡ s.answer → (a b : ℕ) (o : Outcome) → IsFilled right z (bank_in t.stay.place) (version_in t.stay.place) t w s a b o → IsFilled right z (bank_in v.stay.place) (version_in v.stay.place) v w s a b o
  put_fills w g' s same a b o h = filled_from right z (bank_in v.stay.place) (version_in v.stay.place) v t w g' s a b (interned s same) o (there (λ (k n : ℕ). IsFilled right z k n t w s a b o) v t grew_all h)

  pub number_beside : (r : ℕ) → Small r → Names right z t r set → (s : Step) → set ≡ s.answer → IsBeside right z (bank_in v.stay.place) (version_in v.stay.place) v t s (held.Numbered r)
  number_beside r small h s same = record { wrote = interned s same; answer = (small, told_at r h s same) }

  pub set_beside : (word : ℕ) → SetBlocked right z (bank_in t.stay.place) (version_in t.stay.place) t set word → (s : Step) → set ≡ s.answer → IsBeside right z (bank_in v.stay.place) (version_in v.stay.place) v t s (held.Own set)
  set_beside word h s same = record { wrote = interned s same; answer = (same, (word, blocked_at word h s same)) }

  -- the seat looked and wrote, and is where it was
  pub works_on : StaysSound right z u t → Works right z v t
  works_on stays = record { grew = grew_all; sound = here (λ (k n : ℕ). Sound right z k n t) u t g (stays looked.sound) }

pub works_then : {E : Type 0} (right : List E → Op → Operand → Operand → List ℕ → Type 0) (z : Shape) (u v w : View E) → Grew u v → Works right z v w → Works right z u w
works_then right z u v w g h = record { grew = grew_trans u v w g h.grew; sound = h.sound }
