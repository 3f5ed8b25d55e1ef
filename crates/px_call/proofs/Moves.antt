-- One step more, or one set more.
use Rattle.std.proofs.Common.{◌≡◌, ◌⊎◌, ℕ, ◌+◌, ◌<◌, ◌≤◌, List, [], ◌∷◌, ◌++◌, map, Option, Some, None, take, refl, sym, ap, ◌∙◌, subst, arith, inl, inr, ⊎_elim}
use Rattle.std.proofs.lemmas.List.{reverse-append}
use Rattle.std.proofs.lemmas.List.Elements.{All-nil, All-cons, All-weaker}
use Rattle.px_text.specs.declared.op.Op.{Op}
use Rattle.px_text.specs.Operands.{Operand}
use Rattle.px_afa.specs.Steps.{Step}
use Rattle.px_rule.specs.declared.shape.Shape.{Shape}
use Rattle.px_rule.specs.declared.view.View.{View}
use Rattle.px_rule.specs.Kept.{IsAt, Grew, Since, Wrote, KeyBlocked, Sound, SetBlocked, SuffixWord}
use Rattle.px_rule.proofs.Since.{since_grew, since_trans, key_since, blocked_since}
use Rattle.px_rule.proofs.Sounds.{wrote_none, wrote_on}
use Rattle.px_call.specs.declared.tally.Tally.{Tally}
use Rattle.px_call.specs.Steps.{Same, StepKept, StepComputed, Cause, WordFor, as_suffix, as_step, by_answer}
use Rattle.px_call.specs.Outcomes.{first_full, OneMore, Reads, Computes, KeyFull, SetFull}
use Rattle.px_call.specs.Counted.{Fate, found, computed, own, Mark, step_of, is_found, is_computed, is_own, times, IsInBank, Among, Shows, IsNew, of_answer, of_held, WordOf, of_set, of_step, Counted, Counts}
use Rattle.px_call.proofs.Lasting.{kept_since, all_show_since, word_since, among_more, among_same}
use Rattle.px_call.proofs.Apart.{none_apart}

no_some : (o : Option ℕ) (w : ℕ) → o ≡ None → o ≡ Some w → ⊥
no_some o w a b = let e : None ≡ Some w = sym a ∙ b in absurd (cc)

some_one : (x y : ℕ) → Some x ≡ Some y → x ≡ y
some_one x y e = cc

one_touch : (t a b c d : ℕ) (a' b' f g : ℕ) → t + a + b ≤ c → a' ≡ a + f → b' ≡ b + g → c + f + g ≤ d → t + a' + b' ≤ d
one_touch t a b c d a' b' f g h e e' l = omega arith

none_more : (a b c : ℕ) → a ≡ b + 0 → b ≡ c → a ≡ c
none_more a b c e h = omega arith

no_touch : (t a b c d : ℕ) (a' b' : ℕ) → t + a + b ≤ c → a' ≡ a + 0 → b' ≡ b + 0 → c ≤ d → t + a' + b' ≤ d
no_touch t a b c d a' b' h e e' l = omega arith

above : (a b : ℕ) → a ≡ b + 1 → 0 < a
above a b e = omega arith

more_above : (a b c : ℕ) → a ≡ b + c → 0 < b → 0 < a
more_above a b c e h = omega arith

none_above : (a b : ℕ) → a ≡ b + 0 → b ≡ 0 → a ≡ 0
none_above a b e h = omega arith

module _ {E : Type 0} (right : List E → Op → Operand → Operand → List ℕ → Type 0) (z : Shape) (k n : ℕ) (began : View E) where
  word_for : (v : View E) (steps : List Step) (sets : List (List ℕ)) (s : Step) (w : ℕ) → WordFor right z k n v s w → WordOf right z k n v (s ∷ steps) sets w
  word_for v steps sets s w (as_suffix _ h) = of_set s.answer w (of_answer s (0, refl)) h
  word_for v steps sets s _ (as_step a b r numbers answer) = of_step s a b r (0, refl) numbers answer

  -- whether some step is own, or some set that was held is blocked
  abbrev SomeOwn : View E → Tally → List (List ℕ) → Type 0
  SomeOwn v t sets = (0 < t.own) ⊎ ((x : List ℕ) × Among sets x × ((word : ℕ) × SetBlocked right z k n v x word))

  own_since : (v w : View E) → Since n v w → (t t' : Tally) (owns : ℕ) (sets sets' : List (List ℕ)) → t'.own ≡ t.own + owns → ((x : List ℕ) → Among sets x → Among sets' x) → SomeOwn v t sets → SomeOwn w t' sets'
  own_since v w g t t' owns sets sets' e more h =
      ⊎_elim (λ (l : 0 < t.own). inl (more_above t'.own t.own owns e l))
      (λ (y : (x : List ℕ) × Among sets x × ((word : ℕ) × SetBlocked right z k n v x word)). inr (y.0, more y.0 y.1, (y.2.0, blocked_since right z k n v w g y.0 y.2.0 y.2.1))) h

  -- One step more, which was come by so
  one_mark : (v w : View E) (t t' : Tally) (marks : List Mark) (sets : List (List ℕ)) (fate : Fate) (s : Step) → Counted right z k n began v t marks sets
      → Grew v w → Sound right z k n w → OneMore t t' (is_found fate) (is_computed fate) (is_own fate) → v.touch.touches + is_found fate + is_computed fate ≤ w.touch.touches
      → Shows right z k n began w fate s → IsNew right z k n began marks fate s → Wrote (IsAt k n (WordFor right z k n w s)) v w
      → (t'.full ≡ None → t'.own ≡ 0) → ((x : ℕ) → t'.full ≡ Some x → KeyBlocked z k n x w) → ((x : ℕ) → t'.full ≡ Some x → SomeOwn w t' sets)
      → Counted right z k n began w t' (record { fate = fate; step = s } ∷ marks) sets
  one_mark v w t t' marks sets fate s h g sound more touched shown new wrote settled blocked some_own = let since = since_grew n v w g in record {
    founds = more.found ∙ ap (λ (x : ℕ). x + is_found fate) h.founds;
    computeds = more.computed ∙ ap (λ (x : ℕ). x + is_computed fate) h.computeds;
    owns = more.own ∙ ap (λ (x : ℕ). x + is_own fate) h.owns;
    since = since_trans n began v w h.since since;
    sound = sound;
    touched = one_touch began.touch.touches t.found t.computed v.touch.touches w.touch.touches t'.found t'.computed (is_found fate) (is_computed fate) h.touched more.found more.computed touched;
    shows = All-cons (λ (m : Mark). Shows right z k n began w m.fate m.step) (record { fate = fate; step = s }) marks shown (all_show_since right z k n v w since began marks h.shows);
    each_new = (new, h.each_new);
    wrote = wrote_on (IsAt k n (WordOf right z k n v (map step_of marks) sets)) (IsAt k n (WordFor right z k n w s)) (IsAt k n (WordOf right z k n w (s ∷ map step_of marks) sets)) began v w
        (λ f i. (i.0, i.1, word_since right z k n v w since (map step_of marks) (s ∷ map step_of marks) sets sets (among_more s (map step_of marks)) (among_same sets) f.word i.2))
        (λ f i. (i.0, i.1, word_for w (map step_of marks) sets s f.word i.2)) h.wrote wrote;
    settled = settled;
    blocked = blocked;
    some_own = some_own;
  }

  -- A step was found
  finds : (v w : View E) (t t' : Tally) (marks : List Mark) (sets : List (List ℕ)) (s : Step) (r : ℕ) → Counted right z k n began v t marks sets → Grew v w → Sound right z k n w
      → OneMore t t' 1 0 0 → t'.full ≡ t.full → Reads right z k n v w s r → Counted right z k n began w t' (record { fate = found; step = s } ∷ marks) sets
  finds v w t t' marks sets s r h g sound more full reads = let since = since_grew n v w g in
      one_mark v w t t' marks sets found s h g sound more (let a : ℕ = v.touch.touches in let b : ℕ = w.touch.touches in let l : a < b = reads.touched in let x : a + 1 + 0 ≤ b = omega arith in x)
      reads.kept tt (wrote_none (IsAt k n (WordFor right z k n w s)) v w reads.wrote)
      (λ e. none_above t'.own t.own more.own (h.settled (sym full ∙ e))) (λ x e. key_since z k n v w since x (h.blocked x (sym full ∙ e)))
      (λ x e. own_since v w since t t' 0 sets sets more.own (among_same sets) (h.some_own x (sym full ∙ e)))

  in_bank_kept : (u : View E) (fate : Fate) (s : Step) → IsInBank fate → Shows right z k n began u fate s → StepKept right z k n u s
  in_bank_kept u found s i h = h
  in_bank_kept u computed s i h = h.stands
  in_bank_kept u own s i h = absurd i

  -- a gap of this step is one of the call
  pub computed_from : (v w : View E) (s : Step) → Since n began v → StepComputed right z k n v w s → StepComputed right z k n began w s
  computed_from v w s g h = let i = h.gap in record {
    stands = h.stands;
    gap = record {
      turn = i.turn;
      within = i.within;
      passed = i.passed;
      touch = i.touch;
      behind = (let x : ℕ = began.touch.touches in let y : ℕ = v.touch.touches in let q : ℕ = i.touch in let l : x ≤ y = g.touched in let m : y < q = i.behind in let r : x < q = omega arith in r);
      at = i.at;
      gap = i.gap;
    };
  }

  -- A step was computed and put
  computes : ((log : List E) (op : Op) (a b : Operand) (x y : List ℕ) → right log op a b x → right log op a b y → x ≡ y)
      → (v w : View E) (t t' : Tally) (marks : List Mark) (sets : List (List ℕ)) (s : Step) (a b r : ℕ) → Counted right z k n began v t marks sets → Grew v w → Sound right z k n w
      → OneMore t t' 0 1 0 → t'.full ≡ t.full → Computes right z k n v w s a b r → Counted right z k n began w t' (record { fate = computed; step = s } ∷ marks) sets
  computes one_answer v w t t' marks sets s a b r h g sound more full made =
      let since = since_grew n v w g in
      let u = made.between in
      let to = since_grew n v u made.grew in
      let fresh = none_apart right z k n u (one_answer (take n u.past.seen)) made.sound s in
      one_mark v w t t' marks sets computed s h g sound more
      (let x : ℕ = v.touch.touches in let y : ℕ = u.touch.touches in let q : ℕ = w.touch.touches in let l : x < y = made.touched in let m : y ≤ q = made.grew_on.touched in let i : x + 0 + 1 ≤ q = omega arith in i)
      (computed_from v w s h.since made.computed) (
        (λ kept. fresh s a b (refl, refl, refl) made.numbers made.none (kept_later began u (since_trans n began v u h.since to) s kept)),
        All-weaker (λ (m : Mark). Shows right z k n began v m.fate m.step) (λ (m : Mark). IsInBank m.fate → Same m.step s → ⊥)
            (λ m i is same. fresh m.step a b same made.numbers made.none (kept_later v u to m.step (in_bank_kept v m.fate m.step is i))) marks h.shows,
      )
      made.wrote
      (λ e. none_above t'.own t.own more.own (h.settled (sym full ∙ e))) (λ x e. key_since z k n v w since x (h.blocked x (sym full ∙ e)))
      (λ x e. own_since v w since t t' 0 sets sets more.own (among_same sets) (h.some_own x (sym full ∙ e)))
    where
      kept_later : (v w : View E) → Since n v w → (s : Step) → StepKept right z k n v s → StepKept right z k n w s
      kept_later v w g s h = kept_since right z k n v w g s h

  -- A step is the call's own
  owns : (v w : View E) (t t' : Tally) (marks : List Mark) (sets : List (List ℕ)) (s : Step) (word : ℕ) → Counted right z k n began v t marks sets → Grew v w → Sound right z k n w
      → OneMore t t' 0 0 1 → t'.full ≡ Some word → KeyBlocked z k n word w → Cause right z k n w s → Wrote (IsAt k n (WordFor right z k n w s)) v w → Counted right z k n began w t' (record { fate = own; step = s } ∷ marks) sets
  owns v w t t' marks sets s word h g sound more full blocked cause wrote =
      one_mark v w t t' marks sets own s h g sound more (let a : ℕ = v.touch.touches in let b : ℕ = w.touch.touches in let l : a ≤ b = g.touched in let x : a + 0 + 0 ≤ b = omega arith in x)
      cause tt wrote
      (λ e. absurd (no_some t'.full word e full)) (λ x e. subst (λ (y : ℕ). KeyBlocked z k n y w) (some_one word x (sym full ∙ e)) blocked)
      (λ x e. inl (above t'.own t.own more.own))

  -- no word more, or the word of the set where there was none before
  abbrev Fulls : View E → Tally → List ℕ → Option ℕ → Type 0
  Fulls w t' set o = (t'.full ≡ o) ⊎ ((word : ℕ) × (t'.full ≡ first_full o word) × SetBlocked right z k n w set word)

  -- A set was held, under a number, or for want of a place as the call's own
  holds : (v w : View E) (t t' : Tally) (marks : List Mark) (sets : List (List ℕ)) (set : List ℕ) → Counted right z k n began v t marks sets → Grew v w → Sound right z k n w
      → OneMore t t' 0 0 0 → (t'.full ≡ t.full) ⊎ ((word : ℕ) × (t'.full ≡ first_full t.full word) × SetBlocked right z k n w set word)
      → Wrote (IsAt k n (SuffixWord right z k n w set)) v w → Counted right z k n began w t' marks (set ∷ sets)
  holds v w t t' marks sets set h g sound more full wrote = let since = since_grew n v w g in record {
    founds = none_more t'.found t.found (times is_found marks) more.found h.founds;
    computeds = none_more t'.computed t.computed (times is_computed marks) more.computed h.computeds;
    owns = none_more t'.own t.own (times is_own marks) more.own h.owns;
    since = since_trans n began v w h.since since;
    sound = sound;
    touched = no_touch began.touch.touches t.found t.computed v.touch.touches w.touch.touches t'.found t'.computed h.touched more.found more.computed g.touched;
    shows = all_show_since right z k n v w since began marks h.shows;
    each_new = h.each_new;
    wrote = wrote_on (IsAt k n (WordOf right z k n v (map step_of marks) sets)) (IsAt k n (SuffixWord right z k n w set)) (IsAt k n (WordOf right z k n w (map step_of marks) (set ∷ sets))) began v w
        (λ f i. (i.0, i.1, word_since right z k n v w since (map step_of marks) (map step_of marks) sets (set ∷ sets) (among_same (map step_of marks)) (among_more set sets) f.word i.2))
        (λ f i. (i.0, i.1, of_set set f.word (of_held set (0, refl)) i.2)) h.wrote wrote;
    settled = λ e. none_above t'.own t.own more.own (h.settled (was_none t.full e full));
    blocked = λ x e. blocked since t.full refl full x e;
    some_own = λ x e. some since t.full refl full x e;
  }
    where
      was_none : (o : Option ℕ) → t'.full ≡ None → Fulls w t' set o → o ≡ None
      was_none None e f = refl
      was_none (Some x) e (inl same) = absurd (no_some t'.full x e same)
      was_none (Some x) e (inr f) = absurd (no_some t'.full x e f.1)

      blocked : Since n v w → (o : Option ℕ) → t.full ≡ o → Fulls w t' set o → (x : ℕ) → t'.full ≡ Some x → KeyBlocked z k n x w
      blocked since o is (inl same) x e = key_since z k n v w since x (h.blocked x (is ∙ (sym same ∙ e)))
      blocked since None is (inr f) x e = subst (λ (y : ℕ). KeyBlocked z k n y w) (some_one f.0 x (sym f.1 ∙ e)) f.2.blocked
      blocked since (Some y) is (inr f) x e = key_since z k n v w since x (h.blocked x (is ∙ (sym f.1 ∙ e)))

      some : Since n v w → (o : Option ℕ) → t.full ≡ o → Fulls w t' set o → (x : ℕ) → t'.full ≡ Some x → SomeOwn w t' (set ∷ sets)
      some since o is (inl same) x e = own_since v w since t t' 0 sets (set ∷ sets) more.own (among_more set sets) (h.some_own x (is ∙ (sym same ∙ e)))
      some since None is (inr f) x e = inr (set, (0, refl), (f.0, f.2))
      some since (Some y) is (inr f) x e = own_since v w since t t' 0 sets (set ∷ sets) more.own (among_more set sets) (h.some_own x (is ∙ (sym f.1 ∙ e)))

  -- Nothing was counted and nothing written
  rests : (v w : View E) (t : Tally) (marks : List Mark) (sets : List (List ℕ)) → Counted right z k n began v t marks sets → Grew v w → Sound right z k n w → w.touch.wrote ≡ v.touch.wrote
      → Counted right z k n began w t marks sets
  rests v w t marks sets h g sound none = let since = since_grew n v w g in record {
    founds = h.founds;
    computeds = h.computeds;
    owns = h.owns;
    since = since_trans n began v w h.since since;
    sound = sound;
    touched = (let x : ℕ = began.touch.touches + t.found + t.computed in let a : ℕ = v.touch.touches in let b : ℕ = w.touch.touches in let l : x ≤ a = h.touched in let m : a ≤ b = g.touched in let r : x ≤ b = omega arith in r);
    shows = all_show_since right z k n v w since began marks h.shows;
    each_new = h.each_new;
    wrote = wrote_on (IsAt k n (WordOf right z k n v (map step_of marks) sets)) (IsAt k n (WordOf right z k n w (map step_of marks) sets)) (IsAt k n (WordOf right z k n w (map step_of marks) sets)) began v w
        (λ f i. (i.0, i.1, word_since right z k n v w since (map step_of marks) (map step_of marks) sets sets (among_same (map step_of marks)) (among_same sets) f.word i.2)) (λ f i. i) h.wrote
        (wrote_none (IsAt k n (WordOf right z k n w (map step_of marks) sets)) v w none);
    settled = h.settled;
    blocked = λ x e. key_since z k n v w since x (h.blocked x e);
    some_own = λ x e. own_since v w since t t 0 sets sets (same_own t) (among_same sets) (h.some_own x e);
  }
    where
      same_own : (t : Tally) → t.own ≡ t.own + 0
      same_own t = omega arith

  -- the same of the steps in their order
  ordered_step : (v w : View E) (t t' : Tally) (steps : List Step) (sets : List (List ℕ)) (fate : Fate) (s : Step) → Counts right z k n began v t steps sets
      → ((marks : List Mark) (held : List (List ℕ)) → Counted right z k n began v t marks held → Counted right z k n began w t' (record { fate = fate; step = s } ∷ marks) held)
      → Counts right z k n began w t' (steps ++ s ∷ []) sets
  ordered_step v w t t' steps sets fate s h move = record {
    marks = record { fate = fate; step = s } ∷ h.marks;
    held = h.held;
    steps_are = ap (λ l. l ++ s ∷ []) h.steps_are ∙ sym (reverse-append (s ∷ []) (map step_of h.marks));
    sets_are = h.sets_are;
    counted = move h.marks h.held h.counted;
  }

  -- Nothing is counted where the call begins
  pub begins : (v : View E) (t : Tally) → Grew began v → Sound right z k n v → v.touch.wrote ≡ began.touch.wrote → t.found ≡ 0 → t.computed ≡ 0 → t.own ≡ 0 → t.full ≡ None → Counts right z k n began v t [] []
  begins v t g sound none founds computeds owns full = record {
    marks = [];
    held = [];
    steps_are = refl;
    sets_are = refl;
    counted = record {
      founds = founds;
      computeds = computeds;
      owns = owns;
      since = since_grew n began v g;
      sound = sound;
      touched = nothing began.touch.touches v.touch.touches t.found t.computed founds computeds g.touched;
      shows = All-nil (λ (m : Mark). Shows right z k n began v m.fate m.step);
      each_new = tt;
      wrote = wrote_none (IsAt k n (WordOf right z k n v [] [])) began v none;
      settled = λ _. owns;
      blocked = λ w e. absurd (no_some t.full w full e);
      some_own = λ w e. absurd (no_some t.full w full e);
    };
  }
    where
      nothing : (a b c d : ℕ) → c ≡ 0 → d ≡ 0 → a ≤ b → a + c + d ≤ b
      nothing a b c d x y l = omega arith

  -- The step was found
  pub found_more : (v w : View E) (t t' : Tally) (steps : List Step) (sets : List (List ℕ)) (s : Step) (r : ℕ) → Counts right z k n began v t steps sets → Grew v w → Sound right z k n w
      → OneMore t t' 1 0 0 → t'.full ≡ t.full → Reads right z k n v w s r → Counts right z k n began w t' (steps ++ s ∷ []) sets
  found_more v w t t' steps sets s r h g sound more full reads = ordered_step v w t t' steps sets found s h (λ marks held i. finds v w t t' marks held s r i g sound more full reads)

  -- The step was computed and put
  pub computed_more : ((log : List E) (op : Op) (a b : Operand) (x y : List ℕ) → right log op a b x → right log op a b y → x ≡ y)
      → (v w : View E) (t t' : Tally) (steps : List Step) (sets : List (List ℕ)) (s : Step) (a b r : ℕ) → Counts right z k n began v t steps sets → Grew v w → Sound right z k n w
      → OneMore t t' 0 1 0 → t'.full ≡ t.full → Computes right z k n v w s a b r → Counts right z k n began w t' (steps ++ s ∷ []) sets
  computed_more one_answer v w t t' steps sets s a b r h g sound more full made =
      ordered_step v w t t' steps sets computed s h (λ marks held i. computes one_answer v w t t' marks held s a b r i g sound more full made)

  -- The step is the call's own, and some word is known that found no place
  pub own_more : (v w : View E) (t t' : Tally) (steps : List Step) (sets : List (List ℕ)) (s : Step) (word : ℕ) → Counts right z k n began v t steps sets → Grew v w → Sound right z k n w
      → OneMore t t' 0 0 1 → t'.full ≡ first_full t.full word → (t.full ≡ None → KeyBlocked z k n word w) → Cause right z k n w s → Wrote (IsAt k n (WordFor right z k n w s)) v w → Counts right z k n began w t' (steps ++ s ∷ []) sets
  own_more v w t t' steps sets s word h g sound more full blocked cause wrote = go t.full refl full
    where
      go : (o : Option ℕ) → t.full ≡ o → t'.full ≡ first_full o word → Counts right z k n began w t' (steps ++ s ∷ []) sets
      go None is e = ordered_step v w t t' steps sets own s h (λ marks held i. owns v w t t' marks held s word i g sound more e (blocked is) cause wrote)
      go (Some x) is e = ordered_step v w t t' steps sets own s h (λ marks held i. owns v w t t' marks held s x i g sound more e (key_since z k n v w (since_grew n v w g) x (i.blocked x is)) cause wrote)

  -- The bank has no room for the step's word, or for its answer
  pub key_full_more : (v w : View E) (t t' : Tally) (steps : List Step) (sets : List (List ℕ)) (s : Step) (r word : ℕ) → Counts right z k n began v t steps sets → Grew v w → Sound right z k n w
      → OneMore t t' 0 0 1 → t'.full ≡ first_full t.full word → KeyFull right z k n v w s r word → Counts right z k n began w t' (steps ++ s ∷ []) sets
  key_full_more v w t t' steps sets s r word h g sound more full made = own_more v w t t' steps sets s word h g sound more full (λ _. made.blocked) made.cause made.wrote

  pub set_full_more : (v w : View E) (t t' : Tally) (steps : List Step) (sets : List (List ℕ)) (s : Step) (set : List ℕ) (word : ℕ) → Counts right z k n began v t steps sets → Grew v w → Sound right z k n w
      → OneMore t t' 0 0 1 → t'.full ≡ first_full t.full word → SetFull right z k n v w s set word → Counts right z k n began w t' (steps ++ s ∷ []) sets
  set_full_more v w t t' steps sets s set word h g sound more full made = own_more v w t t' steps sets s word h g sound more full (λ _. made.answer.blocked) (by_answer (word, made.answer)) made.wrote

  -- A set was held
  pub held_more : (v w : View E) (t t' : Tally) (steps : List Step) (sets : List (List ℕ)) (set : List ℕ) → Counts right z k n began v t steps sets → Grew v w → Sound right z k n w
      → OneMore t t' 0 0 0 → (t'.full ≡ t.full) ⊎ ((word : ℕ) × (t'.full ≡ first_full t.full word) × SetBlocked right z k n w set word)
      → Wrote (IsAt k n (SuffixWord right z k n w set)) v w → Counts right z k n began w t' steps (sets ++ set ∷ [])
  held_more v w t t' steps sets set h g sound more full wrote = record {
    marks = h.marks;
    held = set ∷ h.held;
    steps_are = h.steps_are;
    sets_are = ap (λ l. l ++ set ∷ []) h.sets_are ∙ sym (reverse-append (set ∷ []) h.held);
    counted = holds v w t t' h.marks h.held set h.counted g sound more full wrote;
  }

  -- No step and no set more
  pub none_counted : (v w : View E) (t : Tally) (steps : List Step) (sets : List (List ℕ)) → Counts right z k n began v t steps sets → Grew v w → Sound right z k n w → w.touch.wrote ≡ v.touch.wrote → Counts right z k n began w t steps sets
  none_counted v w t steps sets h g sound none = record { marks = h.marks; held = h.held; steps_are = h.steps_are; sets_are = h.sets_are; counted = rests v w t h.marks h.held h.counted g sound none }
