-- What a call on the bank makes of a memo over it.
use Rattle.std.proofs.Common.{◌≡◌, ◌≢◌, ◌⊎◌, ℕ, ◌+◌, ◌<◌, ◌≤◌, ◌^◌, true, List, [], ◌∷◌, ◌++◌, length, Option, Some, None, refl, sym, ap, ◌∙◌, subst, arith, inl, inr, ⊎_elim}
use Rattle.std.proofs.lemmas.List.{append-nil, length-append}
use Rattle.px_text.specs.declared.op.Op.{Op}
use Rattle.px_text.specs.Operands.{Operand, index, set_of}
use Rattle.px_afa.specs.Building.{Automata}
use Rattle.px_afa.specs.Steps.{Step, step, answer_of}
use Rattle.px_rule.specs.declared.shape.Shape.{Shape}
use Rattle.px_rule.specs.declared.view.View.{View}
use Rattle.px_rule.specs.declared.view.Stay.{Stay}
use Rattle.px_rule.specs.Words.{Small}
use Rattle.px_rule.specs.Table.{TableName, Seated, is_inside, bank_in, version_in}
use Rattle.px_rule.specs.Kept.{Grew, IsAt, Wrote, Tells, Sound, SetBlocked, SuffixWord}
use Rattle.px_rule.proofs.Lasting.{grew_trans}
use Rattle.px_rule.proofs.Since.{since_grew, blocked_since}
use Rattle.px_intern.specs.Answers.{IsSound, Names}
use Rattle.px_runner.specs.declared.held.Held.{Held}
use Rattle.px_runner.specs.declared.held.Held.TheVariants.{Plain, Numbered, Own}
use Rattle.px_runner.specs.Operands.{IsOperand, AreOperands}
use Rattle.px_runner.specs.Remembering.{number_of}
use Rattle.px_runner.specs.Memos.{Keeps, Advances, Makes}
use Rattle.px_call.specs.declared.tally.Tally.{Tally}
use Rattle.px_call.specs.declared.stepping.Outcome.{Outcome}
use Rattle.px_call.specs.declared.stepping.Outcome.TheVariants as outcome
use Rattle.px_call.specs.Steps.{OperandBlocked, Cause, by_first, by_second}
use Rattle.px_call.specs.Outcomes.{first_full, OneMore}
use Rattle.px_call.specs.Counted.{Counts}
use Rattle.px_call.specs.Memory.{Memory, memory, program_of, StandsFor, TellsOf}
use Rattle.px_call.specs.Values.{IsValue}
use Rattle.px_call.specs.Making.{IsMade, IsHeld, IsBeside, IsKept, IsTallied, IsBooked}
use Rattle.px_call.specs.Holding.{IsMemory}
use Rattle.px_call.proofs.Lasting.{cause_since}
use Rattle.px_call.proofs.Moves.{found_more, computed_more, own_more, key_full_more, set_full_more, held_more, none_counted}
use Rattle.px_call.proofs.Ordered.{all_counted}
use Rattle.px_intern.specs.Answers.{WroteNodes}
use Rattle.px_call.specs.Values.{OnlyLooked}
use Rattle.px_call.specs.Making as making
use Rattle.px_call.proofs.Readings.{there, names_grew, program_grew, small_numbers}

not_none : (x : ℕ) → Some x ≢ None
not_none x e = cc

full_some : (o o' : Option ℕ) (word : ℕ) → o' ≡ first_full o word → o' ≢ None
full_some None o' word e i = not_none word (sym e ∙ i)
full_some (Some x) o' word e i = not_none x (sym e ∙ i)

full_same : (o o' : Option ℕ) → o' ≡ o → o ≢ None → o' ≢ None
full_same o o' e h i = h (sym e ∙ i)

some_full : (o : Option ℕ) → o ≢ None → (w : ℕ) × (o ≡ first_full o w)
some_full None h = absurd (h refl)
some_full (Some w) h = (w, refl)

fewer : (a b m : ℕ) → a + b < m → a < m
fewer a b m h = omega arith

shorter : {A : Type 0} (xs ys : List A) (m : ℕ) → length (xs ++ ys) < m → length xs < m
shorter xs ys m h = fewer (length xs) (length ys) m (subst (λ (l : ℕ). l < m) (length-append xs ys) h)

module _ {E : Type 0} (right : List E → Op → Operand → Operand → List ℕ → Type 0) (automata : Automata) (began : Seated E) where
  abbrev pub at : Seated E → Tally → Memory E
  at seat t = memory automata began seat t

  abbrev pub shape_of : Seated E → Shape
  shape_of seat = seat.table.shape

  abbrev pub bank_of : Seated E → ℕ
  bank_of seat = bank_in seat.view.stay.place

  abbrev pub version_of : Seated E → ℕ
  version_of seat = version_in seat.view.stay.place

  -- a fact of the bank that the seat is inside, when it has looked and wrote on, and before
  pub later : (P : Shape → ℕ → ℕ → Type 0) (seat seat' : Seated E) → seat'.table ≡ seat.table → Grew seat.view seat'.view → P (shape_of seat) (bank_of seat) (version_of seat) → P (shape_of seat') (bank_of seat') (version_of seat')
  later P seat seat' e g h = subst (λ (q : TableName × Stay). P q.0.shape (bank_in q.1.place) (version_in q.1.place)) (λ i. (sym e i, sym g.stay i)) h

  pub earlier : (P : Shape → ℕ → ℕ → Type 0) (seat seat' : Seated E) → seat'.table ≡ seat.table → Grew seat.view seat'.view → P (shape_of seat') (bank_of seat') (version_of seat') → P (shape_of seat) (bank_of seat) (version_of seat)
  earlier P seat seat' e g h = subst (λ (q : TableName × Stay). P q.0.shape (bank_in q.1.place) (version_in q.1.place)) (λ i. (e i, g.stay i)) h

  module _ (seat seat' : Seated E) (t t' : Tally) (same : seat'.table ≡ seat.table) (g : Grew seat.view seat'.view) where
    pub stands_on : (t.full ≢ None → t'.full ≢ None) → (held : Held) (x : List ℕ) → StandsFor right (at seat t) held x → StandsFor right (at seat' t') held x
    stands_on goes (Plain a) x h = h
    stands_on goes (Numbered s) x h = (h.0, subst (λ (q : TableName). Names right q.shape seat'.view s x) (sym same) (names_grew right (shape_of seat) seat.view seat'.view g s x h.1))
    stands_on goes (Own set) x h = (
      h.0,
      (h.1.0, later (λ z k n. SetBlocked right z k n seat'.view x h.1.0) seat seat' same g (blocked_since right (shape_of seat) (bank_of seat) (version_of seat) seat.view seat'.view (since_grew (version_of seat) seat.view seat'.view g) x h.1.0 h.1.1)),
      goes h.2,
    )

    pub keeps : (t.full ≢ None → t'.full ≢ None) → Keeps program_of (StandsFor right) (at seat t) (at seat' t')
    keeps goes = record { same = refl; stays = stands_on goes }

    -- a value stands for a set
    held_stands : (held : Held) (x : List ℕ) → IsHeld right (shape_of seat) (bank_of seat) (version_of seat) seat'.view held x → t'.full ≢ None → StandsFor right (at seat' t') held x
    held_stands (Plain a) x h full = h
    held_stands (Numbered s) x h full = (h.0, later (λ z k n. Tells right z k n seat'.view true s (set_of x)) seat seat' same g h.1)
    held_stands (Own set) x h full = (h.0, (h.1.0, later (λ z k n. SetBlocked right z k n seat'.view x h.1.0) seat seat' same g h.1.1), full)

    number_stands : (r : ℕ) (x : List ℕ) → Small r → Tells right (shape_of seat) (bank_of seat) (version_of seat) seat'.view true r (set_of x) → StandsFor right (at seat' t') (Numbered r) x
    number_stands r x small told = (small, later (λ z k n. Tells right z k n seat'.view true r (set_of x)) seat seat' same g told)

    abbrev CountsHere : View E → Tally → List Step → List (List ℕ) → Type 0
    CountsHere v u steps sets = Counts right (shape_of seat) (bank_of seat) (version_of seat) began.view v u steps sets

    tells_more : (steps : List Step) (sets : List (List ℕ)) → ((before : List Step) (held : List (List ℕ)) → length before < 2 ^ 63 → CountsHere seat.view t before held → CountsHere seat'.view t' (before ++ steps) (held ++ sets))
        → (before : List Step) (held : List (List ℕ)) → TellsOf right (at seat t) before held → TellsOf right (at seat' t') (before ++ steps) (held ++ sets)
    tells_more steps sets move before held h short =
        let few = shorter before steps (2 ^ 63) short in
        later (λ z k n. Counts right z k n began.view seat'.view t' (before ++ steps) (held ++ sets)) seat seat' same g (move before held few (h few))

    few_counted : (before : List Step) (held : List (List ℕ)) → length before < 2 ^ 63 → CountsHere seat.view t before held → t.found + t.computed + t.own < 2 ^ 63
    few_counted before held few h = subst (λ (l : ℕ). l < 2 ^ 63) (sym (all_counted right (shape_of seat) (bank_of seat) (version_of seat) began.view seat.view t before held h)) few

    -- One step more
    makes_of : (s : Step) (held : Held) → (t.full ≢ None → t'.full ≢ None) → StandsFor right (at seat' t') held s.answer
        → ((before : List Step) (sets : List (List ℕ)) → length before < 2 ^ 63 → CountsHere seat.view t before sets → CountsHere seat'.view t' (before ++ s ∷ []) sets)
        → Makes program_of (StandsFor right) (TellsOf right) (at seat t) (at seat' t') held (s ∷ []) s.answer
    makes_of s held goes stands move = record {
      advances = record {
        keeps = keeps goes;
        told = tells_more (s ∷ []) [] (λ before sets few h. subst (λ l. CountsHere seat'.view t' (before ++ s ∷ []) l) (sym (append-nil sets)) (move before sets few h));
      };
      stands = stands;
    }

    abbrev MakesStep : Step → Held → Type 0
    MakesStep s held = Makes program_of (StandsFor right) (TellsOf right) (at seat t) (at seat' t') held (s ∷ []) s.answer

    pub stepped : ((log : List E) (op : Op) (a b : Operand) (x y : List ℕ) → right log op a b x → right log op a b y → x ≡ y) → Sound right (shape_of seat) (bank_of seat) (version_of seat) seat'.view
        → (s : Step) (a b : ℕ) (o : Outcome) (held : Held) → IsMade right (shape_of seat) (bank_of seat) (version_of seat) seat.view seat'.view s a b o → IsBooked t t' o held → MakesStep s held
    stepped one sound s a b (outcome.Found r) held h m = subst (MakesStep s) (sym m.2)
        (makes_of s (Numbered r) (full_same t.full t'.full m.1) (number_stands r s.answer h.small h.told)
        (λ before sets few c. found_more right (shape_of seat) (bank_of seat) (version_of seat) began.view seat.view seat'.view t t' before sets s r c g sound (m.0 (few_counted before sets few c)) m.1 h))
    stepped one sound s a b (outcome.Computed r) held h m = subst (MakesStep s) (sym m.2)
        (makes_of s (Numbered r) (full_same t.full t'.full m.1) (number_stands r s.answer h.small h.told)
        (λ before sets few c. computed_more right (shape_of seat) (bank_of seat) (version_of seat) began.view one seat.view seat'.view t t' before sets s a b r c g sound (m.0 (few_counted before sets few c)) m.1 h))
    stepped one sound s a b (outcome.KeyFull r word) held h m = subst (MakesStep s) (sym m.2)
        (makes_of s (Numbered r) (λ _. full_some t.full t'.full word m.1) (number_stands r s.answer h.small h.told)
        (λ before sets few c. key_full_more right (shape_of seat) (bank_of seat) (version_of seat) began.view seat.view seat'.view t t' before sets s r word c g sound (m.0 (few_counted before sets few c)) m.1 h))
    stepped one sound s a b (outcome.SetFull set word) held h m = subst (MakesStep s) (sym m.2)
        (makes_of s (Own set) (λ _. full_some t.full t'.full word m.1) (held_stands (Own set) s.answer (h.same, (word, h.answer)) (full_some t.full t'.full word m.1))
        (λ before sets few c. set_full_more right (shape_of seat) (bank_of seat) (version_of seat) began.view seat.view seat'.view t t' before sets s set word c g sound (m.0 (few_counted before sets few c)) m.1 h))

    -- a step with an operand that has no room
    own_blocked : (held : Held) (o : Operand) → number_of held ≡ None → IsOperand (StandsFor right (at seat t)) held o → OperandBlocked right (shape_of seat) (bank_of seat) (version_of seat) seat.view o × (t.full ≢ None)
    own_blocked (Plain a) o e h = absurd (not_none a e)
    own_blocked (Numbered s) o e h = absurd (not_none s e)
    own_blocked (Own set) (index k) e h = absurd h
    own_blocked (Own set) (set_of x) e h = (h.1, h.2)

    own_cause : (op : Op) (p q : Held) (x y : Operand) (answer : List ℕ) → (number_of p ≡ None) ⊎ (number_of q ≡ None) → AreOperands automata.states (StandsFor right (at seat t)) op p q x y
        → Cause right (shape_of seat) (bank_of seat) (version_of seat) seat.view (record { op = op; a = x; b = y; answer = answer }) × (t.full ≢ None)
    own_cause op p q x y answer none h = ⊎_elim
        (λ (e : number_of p ≡ None). let b = own_blocked p x e h.first in (by_first b.0, b.1))
        (λ (e : number_of q ≡ None). let b = own_blocked q y e h.second in (by_second b.0, b.1)) none

    pub beside : Sound right (shape_of seat) (bank_of seat) (version_of seat) seat'.view → (op : Op) (p q : Held) (x y : Operand) → (number_of p ≡ None) ⊎ (number_of q ≡ None) → AreOperands automata.states (StandsFor right (at seat t)) op p q x y
        → (held : Held) → IsTallied t t' 0 0 1 → t'.full ≡ t.full → IsBeside right (shape_of seat) (bank_of seat) (version_of seat) seat.view seat'.view (step automata.states op x y) held → MakesStep (step automata.states op x y) held
    beside sound op p q x y none h held more full made =
        let s = step automata.states op x y in
        let cause = own_cause op p q x y s.answer none h in
        let word = some_full t.full cause.1 in
        makes_of s held (full_same t.full t'.full full) (held_stands held s.answer made.answer (full_same t.full t'.full full cause.1))
        (λ before sets few c. own_more right (shape_of seat) (bank_of seat) (version_of seat) began.view seat.view seat'.view t t' before sets s word.0 c g sound (more (few_counted before sets few c)) (full ∙ word.1) (λ none. absurd (cause.1 none))
        (cause_since right (shape_of seat) (bank_of seat) (version_of seat) seat.view seat'.view (since_grew (version_of seat) seat.view seat'.view g) s cause.0) made.wrote)

    -- A set is held
    abbrev pub AdvancesBy : List (List ℕ) → Type 0
    AdvancesBy sets = Advances program_of (StandsFor right) (TellsOf right) (at seat t) (at seat' t') [] sets

    holds_of : Sound right (shape_of seat) (bank_of seat) (version_of seat) seat'.view → (set : List ℕ) → Wrote (IsAt (bank_of seat) (version_of seat) (SuffixWord right (shape_of seat) (bank_of seat) (version_of seat) seat'.view set)) seat.view seat'.view
        → (t.full ≢ None → t'.full ≢ None) → OneMore t t' 0 0 0 → (t'.full ≡ t.full) ⊎ ((word : ℕ) × (t'.full ≡ first_full t.full word) × SetBlocked right (shape_of seat) (bank_of seat) (version_of seat) seat'.view set word)
        → AdvancesBy (set ∷ [])
    holds_of sound set wrote goes more full = record {
      keeps = keeps goes;
      told = tells_more [] (set ∷ []) (λ before sets few c. subst (λ l. CountsHere seat'.view t' l (sets ++ set ∷ [])) (sym (append-nil before))
          (held_more right (shape_of seat) (bank_of seat) (version_of seat) began.view seat.view seat'.view t t' before sets set c g sound more full wrote));
    }

    none_tallied : t' ≡ t → OneMore t t' 0 0 0
    none_tallied e = record { found = same_plus t'.found t.found (ap (λ (u : Tally). u.found) e); computed = same_plus t'.computed t.computed (ap (λ (u : Tally). u.computed) e); own = same_plus t'.own t.own (ap (λ (u : Tally). u.own) e) }
      where
        same_plus : (a b : ℕ) → a ≡ b → a ≡ b + 0
        same_plus a b e = omega arith

    full_tallied : (full : Option ℕ) → t' ≡ record t { full = full } → OneMore t t' 0 0 0
    full_tallied full e = record { found = same_plus t'.found t.found (ap (λ (u : Tally). u.found) e); computed = same_plus t'.computed t.computed (ap (λ (u : Tally). u.computed) e); own = same_plus t'.own t.own (ap (λ (u : Tally). u.own) e) }
      where
        same_plus : (a b : ℕ) → a ≡ b → a ≡ b + 0
        same_plus a b e = omega arith

    pub held_on : Sound right (shape_of seat) (bank_of seat) (version_of seat) seat'.view → (set : List ℕ) → Wrote (IsAt (bank_of seat) (version_of seat) (SuffixWord right (shape_of seat) (bank_of seat) (version_of seat) seat'.view set)) seat.view seat'.view
        → (held : Held) → IsKept right (shape_of seat) (bank_of seat) (version_of seat) seat'.view set held t t' → AdvancesBy (set ∷ []) × StandsFor right (at seat' t') held set
    held_on sound set wrote (Plain a) h = absurd h
    held_on sound set wrote (Numbered r) h =
        let full = ap (λ (u : Tally). u.full) h.0 in
        (holds_of sound set wrote (full_same t.full t'.full full) (none_tallied h.0) (inl full), number_stands r set h.1 h.2)
    held_on sound set wrote (Own own) h =
        let full : t'.full ≡ first_full t.full h.1.0 = ap (λ (u : Tally). u.full) h.1.1 in
        let some = full_some t.full t'.full h.1.0 full in
        (holds_of sound set wrote (λ _. some) (full_tallied (first_full t.full h.1.0) h.1.1) (inr (h.1.0, full, h.1.2)), held_stands (Own own) set (h.0, (h.1.0, h.1.2)) some)

    -- The seat looked, and nothing else
    pub looked_on : t' ≡ t → Sound right (shape_of seat) (bank_of seat) (version_of seat) seat'.view → seat'.view.touch.wrote ≡ seat.view.touch.wrote → AdvancesBy []
    looked_on e sound none = record {
      keeps = keeps (full_same t.full t'.full (ap (λ (u : Tally). u.full) e));
      told = tells_more [] [] (λ before sets few c. subst (λ (q : List Step × List (List ℕ)). CountsHere seat'.view t' q.0 q.1) (λ i. (sym (append-nil before) i, sym (append-nil sets) i))
          (subst (λ (u : Tally). CountsHere seat'.view u before sets) (sym e) (none_counted right (shape_of seat) (bank_of seat) (version_of seat) began.view seat.view seat'.view t before sets c g sound none)));
    }

  -- what a value stands for, it is
  value_of : (seat : Seated E) (t : Tally) (z : Shape) → seat.table.shape ≡ z → (held : Held) (x : List ℕ) → StandsFor right (at seat t) held x → IsValue right z seat.view held x
  value_of seat t z e (Plain a) x h = h
  value_of seat t z e (Numbered s) x h = subst (λ (q : Shape). Names right q seat.view s x) e h.1
  value_of seat t z e (Own set) x h = h.0

  operand_of : (seat : Seated E) (t : Tally) (z : Shape) → seat.table.shape ≡ z → (held : Held) (o : Operand) → IsOperand (StandsFor right (at seat t)) held o → IsOperand (IsValue right z seat.view) held o
  operand_of seat t z e held (index k) h = h
  operand_of seat t z e held (set_of x) h = value_of seat t z e held x h

  pub operands_of : (seat : Seated E) (t : Tally) (z : Shape) → seat.table.shape ≡ z → (op : Op) (p q : Held) (x y : Operand) → AreOperands automata.states (StandsFor right (at seat t)) op p q x y → AreOperands automata.states (IsValue right z seat.view) op p q x y
  operands_of seat t z e op p q x y h = record { first = operand_of seat t z e p x h.first; second = operand_of seat t z e q y h.second; taken = h.taken; known = h.known }

  -- and of the memo as it was
  module _ (seat : Seated E) (t : Tally) (old : Memory E) (is_old : at seat t ≡ old) where
    pub value_old : (z : Shape) → seat.table.shape ≡ z → (held : Held) (x : List ℕ) → StandsFor right old held x → IsValue right z seat.view held x
    value_old z e held x h = value_of seat t z e held x (subst (λ (m : Memory E). StandsFor right m held x) (sym is_old) h)

    abbrev AreOf : Op → Held → Held → Operand → Operand → Memory E → Type 0
    AreOf op p q x y m = AreOperands (program_of m).states (StandsFor right m) op p q x y

    pub operands_old : (z : Shape) → seat.table.shape ≡ z → (op : Op) (p q : Held) (x y : Operand) → AreOf op p q x y old → AreOperands automata.states (IsValue right z seat.view) op p q x y
    operands_old z e op p q x y h = operands_of seat t z e op p q x y (subst (AreOf op p q x y) (sym is_old) h)

    small_stands : (s : ℕ) (x : List ℕ) → StandsFor right (at seat t) (Numbered s) x → Small s
    small_stands s x h = h.0

    pub small_old : length automata.states ≤ 500_000 → (op : Op) (p q : Held) (a b : ℕ) (x y : Operand) → AreOf op p q x y old → number_of p ≡ Some a → number_of q ≡ Some b → Small a × Small b
    small_old few op p q a b x y h e d = small_numbers automata.states few (StandsFor right (at seat t)) small_stands (λ m x n. n) op p q a b x y (subst (AreOf op p q x y) (sym is_old) h) e d

  -- The same as the calls say it: of the shape of the table that the memo looks at, and of the memo as it was
  module _ (seat seat' : Seated E) (t t' : Tally) (same : seat'.table ≡ seat.table) (g : Grew seat.view seat'.view) (old : Memory E) (is_old : at seat t ≡ old) (z : Shape) (shape_is : seat.table.shape ≡ z) where
    abbrev LooksAt : Shape → Type 0
    LooksAt q = Sound right q (bank_of seat) (version_of seat) seat'.view

    sound_there : IsSound right z seat'.view → LooksAt z
    sound_there h = there (λ (k n : ℕ). Sound right z k n seat'.view) seat.view seat'.view g h

    pub keeps_old : (t.full ≢ None → t'.full ≢ None) → Keeps program_of (StandsFor right) old (at seat' t')
    keeps_old goes = subst (λ (m : Memory E). Keeps program_of (StandsFor right) m (at seat' t')) is_old (keeps seat seat' t t' same g goes)

    abbrev AdvancesFrom : Memory E → List (List ℕ) → Type 0
    AdvancesFrom m sets = Advances program_of (StandsFor right) (TellsOf right) m (at seat' t') [] sets

    pub kept_old : IsSound right z seat'.view → (set : List ℕ) → WroteNodes right z set seat.view seat'.view → (held : Held) → IsKept right z (bank_of seat) (version_of seat) seat'.view set held t t'
        → AdvancesFrom old (set ∷ []) × StandsFor right (at seat' t') held set
    kept_old sound set wrote held h =
        let r = subst (λ (q : Shape). LooksAt q → WroteNodes right q set seat.view seat'.view → IsKept right q (bank_of seat) (version_of seat) seat'.view set held t t' → AdvancesFrom (at seat t) (set ∷ []) × StandsFor right (at seat' t') held set) shape_is
        (λ s w k. held_on seat seat' t t' same g s set w held k) (sound_there sound) wrote h in
        (subst (λ (m : Memory E). AdvancesFrom m (set ∷ [])) is_old r.0, r.1)

    pub looked_old : t' ≡ t → OnlyLooked right z seat.view seat'.view → AdvancesFrom old []
    looked_old e h = subst (λ (m : Memory E). AdvancesFrom m []) is_old (subst (λ (q : Shape). LooksAt q → AdvancesFrom (at seat t) []) shape_is (λ s. looked_on seat seat' t t' same g e s h.wrote) (sound_there h.sound))

    abbrev MakesOld : Op → Held → Held → Held → Memory E → Type 0
    MakesOld op p q held m = (x y : Operand) → AreOperands (program_of m).states (StandsFor right m) op p q x y
        → Makes program_of (StandsFor right) (TellsOf right) m (at seat' t') held (step (program_of m).states op x y ∷ []) (answer_of (program_of m).states op x y)

    abbrev MakesNow : Step → Held → Type 0
    MakesNow s held = Makes program_of (StandsFor right) (TellsOf right) (at seat t) (at seat' t') held (s ∷ []) s.answer

    pub stepped_old : ((log : List E) (op : Op) (a b : Operand) (x y : List ℕ) → right log op a b x → right log op a b y → x ≡ y) → IsSound right z seat'.view
        → (op : Op) (p q : Held) (a b : ℕ) (o : Outcome) (held : Held) → making.Makes right z automata.states op p q a b seat.view seat'.view o → IsBooked t t' o held → MakesOld op p q held old
    stepped_old one sound op p q a b o held makes booked = subst (MakesOld op p q held) is_old
        (λ x y h. subst (λ (r : Shape). LooksAt r → IsMade right r (bank_of seat) (version_of seat) seat.view seat'.view (step automata.states op x y) a b o → MakesNow (step automata.states op x y) held) shape_is
        (λ s m. stepped seat seat' t t' same g one s (step automata.states op x y) a b o held m booked) (sound_there sound) (makes x y (operands_of seat t z shape_is op p q x y h)))

    pub beside_old : IsSound right z seat'.view → (op : Op) (p q : Held) → (number_of p ≡ None) ⊎ (number_of q ≡ None) → (held : Held) → IsTallied t t' 0 0 1 → t'.full ≡ t.full
        → making.MakesBeside right z automata.states op p q seat.view seat'.view held → MakesOld op p q held old
    beside_old sound op p q none held more full makes = subst (MakesOld op p q held) is_old
        (λ x y h. subst (λ (r : Shape). LooksAt r → IsBeside right r (bank_of seat) (version_of seat) seat.view seat'.view (step automata.states op x y) held → MakesNow (step automata.states op x y) held) shape_is
        (λ s m. beside seat seat' t t' same g s op p q x y none h held more full m) (sound_there sound) (makes x y (operands_of seat t z shape_is op p q x y h)))

-- what a memo keeps of itself while its seat looks and writes
pub memory_on : {E : Type 0} (right : List E → Op → Operand → Operand → List ℕ → Type 0) (automata_of : List E → Automata) (table : TableName) (automata : Automata) (began seat seat' : Seated E) (t t' : Tally)
    → IsMemory right automata_of table (memory automata began seat t) → seat'.table ≡ seat.table → Grew seat.view seat'.view → IsSound right table.shape seat'.view → IsMemory right automata_of table (memory automata began seat' t')
memory_on right automata_of table automata began seat seat' t t' h same g sound = record {
  table = same ∙ h.table;
  at = same ∙ h.at;
  grew = grew_trans began.view seat.view seat'.view h.grew g;
  inside = ap (λ (s : Stay). is_inside s.place) g.stay ∙ h.inside;
  program = program_grew automata_of seat.view seat'.view g automata h.program;
  sound = subst (λ (q : TableName). IsSound right q.shape seat'.view) (sym (same ∙ h.at)) sound;
}
