-- What a memo remembers goes on standing.
use Rattle.std.proofs.Common.{◌≡◌, ℕ, zero, suc, ◌+◌, ◌*◌, ◌<◌, Bool, true, false, cond, List, [], ◌∷◌, ◌++◌, length, Option, Some, None, slice_get, refl, sym, ◌∙◌, ap, subst, nat_eq, arith, ◌⊎◌, inl, inr, IfSome, IfOk}
use Rattle.std.specs.Prelude.{Result, Ok, Err}
use Rattle.std.specs.Ordering.{nat_cmp, is_eq}
use Rattle.std.specs.Cmp.Lexicographic.{slice_cmp, texts_ties}
use Rattle.std.specs.Str.{bytes_eq}
use Rattle.std.specs.BTreeMap as tree
use Rattle.std.specs.BTreeMap.{BTreeMap}
use Rattle.std.specs.HashMap as hash
use Rattle.std.specs.HashMap.{HashMap}
use Rattle.std.proofs.lemmas.Option.{same_Some}
use Rattle.std.proofs.lemmas.Bool.{eqb-true}
use Rattle.std.proofs.lemmas.Slice.Eq.{bytes_eq-Decides}
use Rattle.px_text.specs.declared.op.Op.{Op}
use Rattle.px_text.specs.declared.op.Op.TheVariants.{TextClass, NumberClass, Pop, Add, Push, Mask}
use Rattle.px_text.specs.Operands.{Operand, index, set_of, first_is_set, second_is_set}
use Rattle.px_afa.specs.declared.state.State.{State}
use Rattle.px_afa.specs.Building.{Automata}
use Rattle.px_afa.specs.Sets.{first_set}
use Rattle.px_afa.specs.Functions.{push}
use Rattle.px_afa.specs.Steps.{TakesOperands, answer_of}
use Rattle.px_runner.specs.declared.held.Held.{Held}
use Rattle.px_runner.specs.declared.held.Held.TheVariants.{Plain, Numbered, Own}
use Rattle.px_runner.specs.Operands.{IsPlain, IsOperand, AreOperands}
use Rattle.px_runner.specs.Remembering.{StandsFor, Grows, AreFirsts, AreNumbered, number_of, IsNumberOf, IsFact, code_of, key_of, AreFacts}

abbrev Sets : Type 0
Sets = List (List ℕ)

abbrev found : BTreeMap (List ℕ) ℕ → List ℕ → Option ℕ
found numbers set = tree.get (slice_cmp nat_cmp) numbers set

-- the last of a list
pub last_there : (sets : Sets) (set : List ℕ) → slice_get (sets ++ set ∷ []) (length sets) ≡ Some set
last_there [] set = refl
last_there (x ∷ sets) set = last_there sets set

-- one more set leaves the others where they are
pub grows_by : (sets : Sets) (set : List ℕ) → Grows sets (sets ++ set ∷ [])
grows_by [] set n s h = cc
grows_by (x ∷ sets) set zero s h = h
grows_by (x ∷ sets) set (suc n) s h = grows_by sets set n s h

-- and is the only one that is more
one_more : (sets : Sets) (set : List ℕ) (n : ℕ) (s : List ℕ) → slice_get (sets ++ set ∷ []) n ≡ Some s → (slice_get sets n ≡ Some s) ⊎ ((n ≡ length sets) × (set ≡ s))
one_more [] set zero s h = inr (refl, same_Some set s h)
one_more [] set (suc n) s h = cc
one_more (x ∷ sets) set zero s h = inl h
one_more (x ∷ sets) set (suc n) s h = go (one_more sets set n s h)
  where
    go : (slice_get sets n ≡ Some s) ⊎ ((n ≡ length sets) × (set ≡ s)) → (slice_get sets n ≡ Some s) ⊎ ((suc n ≡ suc (length sets)) × (set ≡ s))
    go (inl e) = inl e
    go (inr e) = inr (ap suc e.0, e.1)

-- a set that is added is found at its number
pub numbered_more : (sets : Sets) (set : List ℕ) (m n : BTreeMap (List ℕ) ℕ) (at : ℕ) → AreNumbered sets m → at ≡ length sets →
    ((n : ℕ) → slice_get sets n ≡ Some set → ⊥) → ((q : List ℕ) → found n q ≡ cond (is_eq (slice_cmp nat_cmp set q)) (Some at) (found m q)) → AreNumbered (sets ++ set ∷ []) n
numbered_more sets set m n at old here new up q k = go (bytes_eq set q) refl
  where
    tied : bytes_eq set q ≡ is_eq (slice_cmp nat_cmp set q)
    tied = texts_ties set q

    go : (b : Bool) → bytes_eq set q ≡ b → (found n q ≡ Some k → slice_get (sets ++ set ∷ []) k ≡ Some q) × (slice_get (sets ++ set ∷ []) k ≡ Some q → found n q ≡ Some k)
    go true h =
        let same : set ≡ q = (bytes_eq-Decides set q).0 h in
        let is : found n q ≡ Some at = up q ∙ ap (λ b. cond b (Some at) (found m q)) (sym tied ∙ h) in
        (forth same is, λ f. back (one_more sets set k q f) same is)
      where
        forth : set ≡ q → found n q ≡ Some at → found n q ≡ Some k → slice_get (sets ++ set ∷ []) k ≡ Some q
        forth same is f =
            let e : k ≡ length sets = sym (same_Some at k (sym is ∙ f)) ∙ here in
            ap (slice_get (sets ++ set ∷ [])) e ∙ (last_there sets set ∙ ap Some same)

        back : (slice_get sets k ≡ Some q) ⊎ ((k ≡ length sets) × (set ≡ q)) → set ≡ q → found n q ≡ Some at → found n q ≡ Some k
        back (inl e) same is = absurd (new k (e ∙ ap Some (sym same)))
        back (inr e) same is = is ∙ ap Some (here ∙ sym e.0)
    go false h =
        let is : found n q ≡ found m q = up q ∙ ap (λ b. cond b (Some at) (found m q)) (sym tied ∙ h) in
        (λ f. grows_by sets set k q ((old q k).0 (sym is ∙ f)), λ f. is ∙ back (one_more sets set k q f))
      where
        back : (slice_get sets k ≡ Some q) ⊎ ((k ≡ length sets) × (set ≡ q)) → found m q ≡ Some k
        back (inl e) = (old q k).1 e
        back (inr e) = let one : bytes_eq set q ≡ true = (bytes_eq-Decides set q).1 e.1 in cc

-- what a value stands for, it stands for in a store that has grown
pub stands_on : (old new : Sets) (held : Held) (set : List ℕ) → Grows old new → StandsFor old held set → StandsFor new held set
stands_on old new (Plain n) set grows h = h
stands_on old new (Numbered n) set grows h = grows n set h
stands_on old new (Own own) set grows h = h

-- a value stands for one set
pub one_set : (sets : Sets) (held : Held) (a b : List ℕ) → StandsFor sets held a → StandsFor sets held b → a ≡ b
one_set sets (Plain n) a b f g = absurd f
one_set sets (Numbered n) a b f g = same_Some a b (sym f ∙ g)
one_set sets (Own own) a b f g = sym f ∙ g

number_on : (old new : Sets) (n : ℕ) (x : Operand) → Grows old new → IsNumberOf old n x → IsNumberOf new n x
number_on old new n (set_of set) grows h = grows n set h
number_on old new n (index k) grows h = h

fact_on : (states : List State) (old new : Sets) (op : Op) (a b answer : ℕ) → Grows old new → IsFact states old op a b answer → IsFact states new op a b answer
fact_on states old new op a b answer grows f = record {
  x = f.x;
  y = f.y;
  first = number_on old new a f.x grows f.first;
  second = number_on old new b f.y grows f.second;
  taken = f.taken;
  answers = grows answer (answer_of states op f.x f.y) f.answers;
}

pub facts_on : {S : Type 0} (states : List State) (old new : Sets) (facts : HashMap ℕ ℕ S) → Grows old new → AreFacts states old facts → AreFacts states new facts
facts_on states old new facts grows are op a b answer small_a small_b h = fact_on states old new op a b answer grows (are op a b answer small_a small_b h)

-- the set of first states stays under its number
pub firsts_on : (automata : Automata) (old new : Sets) (firsts : Option ℕ) → Grows old new → AreFirsts automata old firsts → AreFirsts automata new firsts
firsts_on automata old new None grows are = are
firsts_on automata old new (Some n) grows are = grows n (first_set automata.firsts) are

-- what a value that stands for it has for a number is its number
pub firsts_learned : (automata : Automata) (sets : Sets) (held : Held) (set : List ℕ) (number : Option ℕ) → number ≡ number_of held → set ≡ first_set automata.firsts →
    StandsFor sets held set → AreFirsts automata sets number
firsts_learned automata sets (Plain n) set number e same h = absurd h
firsts_learned automata sets (Numbered n) set number e same h = rw e (h ∙ ap Some same)
firsts_learned automata sets (Own own) set number e same h = rw e tt

numbered : (sets : Sets) (held : Held) (n : ℕ) (x : Operand) → number_of held ≡ Some n → IsOperand (StandsFor sets) held x → IsNumberOf sets n x
numbered sets (Plain k) n (index l) e h = sym (same_Some k n e) ∙ h
numbered sets (Plain k) n (set_of set) e h = absurd h
numbered sets (Numbered k) n (index l) e h = absurd h
numbered sets (Numbered k) n (set_of set) e h = ap (slice_get sets) (sym (same_Some k n e)) ∙ h
numbered sets (Own own) n x e h = cc

abbrev is_set : Operand → Bool
is_set (set_of set) = true
is_set (index k) = false

unlike : false ≡ true → ⊥
unlike e = cc

-- an operation takes operands of one shape
shapes : (op : Op) (x y : Operand) → TakesOperands op x y → (is_set x ≡ first_is_set op) × (is_set y ≡ second_is_set op)
shapes TextClass (index a) (index b) h = (refl, refl)
shapes NumberClass (index a) (index b) h = (refl, refl)
shapes Pop (set_of a) (index b) h = (refl, refl)
shapes Add (set_of a) (set_of b) h = (refl, refl)
shapes Push (set_of a) (index b) h = (refl, refl)
shapes Mask (set_of a) (set_of b) h = (refl, refl)
shapes _ _ _ h = absurd h

one_operand : (sets : Sets) (n : ℕ) (x y : Operand) → is_set x ≡ is_set y → IsNumberOf sets n x → IsNumberOf sets n y → x ≡ y
one_operand sets n (set_of a) (set_of b) e f g = ap set_of (same_Some a b (sym f ∙ g))
one_operand sets n (index a) (index b) e f g = ap index (sym f ∙ g)
one_operand sets n (set_of a) (index b) e f g = absurd (unlike (sym e))
one_operand sets n (index a) (set_of b) e f g = absurd (unlike e)

-- a fact has the answer of the operands that have its numbers
answered : (states : List State) (sets : Sets) (op : Op) (a b : Held) (i j n : ℕ) (x y : Operand) → number_of a ≡ Some i → number_of b ≡ Some j →
    IsFact states sets op i j n → AreOperands states (StandsFor sets) op a b x y → slice_get sets n ≡ Some (answer_of states op x y)
answered states sets op a b i j n x y e f fact o =
    let mine = shapes op x y o.taken in
    let its = shapes op fact.x fact.y fact.taken in
    let first : fact.x ≡ x = one_operand sets i fact.x x (its.0 ∙ sym mine.0) fact.first (numbered sets a i x e o.first) in
    let second : fact.y ≡ y = one_operand sets j fact.y y (its.1 ∙ sym mine.1) fact.second (numbered sets b j y f o.second) in
    fact.answers ∙ (ap (λ z. Some (answer_of states op z fact.y)) first ∙ ap (λ z. Some (answer_of states op x z)) second)

pub known_answers : {S : Type 0} (states : List State) (sets : Sets) (facts : HashMap ℕ ℕ S) (op : Op) (a b : Held) (i j : ℕ) → AreFacts states sets facts →
    number_of a ≡ Some i → number_of b ≡ Some j → i < 4294967296 → j < 4294967296 → (o : Option ℕ) → o ≡ hash.get nat_eq facts (key_of op i j) →
    IfSome o (λ n. (x y : Operand) → AreOperands states (StandsFor sets) op a b x y → slice_get sets n ≡ Some (answer_of states op x y))
known_answers states sets facts op a b i j are e f small_i small_j None is = tt
known_answers states sets facts op a b i j are e f small_i small_j (Some n) is =
    λ x y o. answered states sets op a b i j n x y e f (are op i j n small_i small_j (sym is)) o

pub operands_on : (states : List State) (old new : Sets) (op : Op) (a b : Held) (x y : Operand) → Grows old new →
    AreOperands states (StandsFor old) op a b x y → AreOperands states (StandsFor new) op a b x y
operands_on states old new op a b x y grows o = record {
  first = operand_on a x o.first;
  second = operand_on b y o.second;
  taken = o.taken;
  known = o.known;
}
  where
    operand_on : (held : Held) (z : Operand) → IsOperand (StandsFor old) held z → IsOperand (StandsFor new) held z
    operand_on held (set_of set) h = stands_on old new held set grows h
    operand_on held (index k) h = h

-- the first operand of an operation on a set stands for one
pub first_there : (states : List State) (sets : Sets) (op : Op) (a b : Held) (x y : Operand) → first_is_set op ≡ true →
    AreOperands states (StandsFor sets) op a b x y → (set : List ℕ) × StandsFor sets a set
first_there states sets op a b x y e o = go x o.first ((shapes op x y o.taken).0 ∙ e)
  where
    go : (z : Operand) → IsOperand (StandsFor sets) a z → is_set z ≡ true → (set : List ℕ) × StandsFor sets a set
    go (set_of set) h f = (set, h)
    go (index k) h f = absurd (unlike f)

one_plain : (held : Held) (a b : ℕ) → IsPlain held a → IsPlain held b → a ≡ b
one_plain (Plain n) a b f g = sym f ∙ g
one_plain (Numbered n) a b f g = absurd f
one_plain (Own set) a b f g = absurd f

pushed_answer : (states : List State) (sets : Sets) (a b : Held) (set : List ℕ) (label : ℕ) (answer : List ℕ) → StandsFor sets a set → IsPlain b label →
    answer ≡ push states set label → (op : Op) → op ≡ Push → (x y : Operand) → AreOperands states (StandsFor sets) op a b x y → answer ≡ answer_of states op x y
pushed_answer states sets a b set label answer stands plain is op push_is x y o =
    is ∙ (go x y (subst (λ op. AreOperands states (StandsFor sets) op a b x y) push_is o) ∙ ap (λ op. answer_of states op x y) (sym push_is))
  where
    go : (x y : Operand) → AreOperands states (StandsFor sets) Push a b x y → push states set label ≡ answer_of states Push x y
    go (set_of s) (index k) o = ap (λ s. push states s label) (one_set sets a set s stands o.first) ∙ ap (push states s) (one_plain b label k plain o.second)
    go (set_of s) (set_of t) o = absurd o.taken
    go (index k) y o = absurd o.known

pub pushed_answers : {E : Type 0} (states : List State) (sets : Sets) (a b : Held) (set : List ℕ) (label : ℕ) → StandsFor sets a set → IsPlain b label →
    (op : Op) → op ≡ Push → (r : Result (List ℕ) E) → IfOk r (λ inside. inside ≡ push states set label) →
    IfOk r (λ answer. (x y : Operand) → AreOperands states (StandsFor sets) op a b x y → answer ≡ answer_of states op x y)
pushed_answers states sets a b set label stands plain op push_is (Ok answer) is = pushed_answer states sets a b set label answer stands plain is op push_is
pushed_answers states sets a b set label stands plain op push_is (Err e) is = tt

abbrev op_of : ℕ → Op
op_of zero = TextClass
op_of (suc zero) = NumberClass
op_of (suc (suc zero)) = Pop
op_of (suc (suc (suc zero))) = Add
op_of (suc (suc (suc (suc zero)))) = Push
op_of _ = Mask

-- an operation has a code of its own
op_is : (op : Op) → op_of (code_of op) ≡ op
op_is TextClass = refl
op_is NumberClass = refl
op_is Pop = refl
op_is Add = refl
op_is Push = refl
op_is Mask = refl

-- a step at operands that have these numbers, and its answer
pub fact_is : (states : List State) (sets : Sets) (op : Op) (a b answer : Held) (i j n : ℕ) (x y : Operand) → number_of a ≡ Some i → number_of b ≡ Some j → answer ≡ Numbered n →
    AreOperands states (StandsFor sets) op a b x y → StandsFor sets answer (answer_of states op x y) → IsFact states sets op i j n
fact_is states sets op a b answer i j n x y e f g o stands = record {
  x = x;
  y = y;
  first = numbered sets a i x e o.first;
  second = numbered sets b j y f o.second;
  taken = o.taken;
  answers = subst (λ held. StandsFor sets held (answer_of states op x y)) g stands;
}

-- one fact more
pub facts_more : {S : Type 0} (states : List State) (sets : Sets) (m n : HashMap ℕ ℕ S) (op : Op) (a b at : ℕ) → a < 4294967296 → b < 4294967296 → IsFact states sets op a b at →
    AreFacts states sets m → ((q : ℕ) → hash.get nat_eq n q ≡ cond (nat_eq (key_of op a b) q) (Some at) (hash.get nat_eq m q)) → AreFacts states sets n
facts_more states sets m n op a b at small_a small_b fact are up op2 c d found small_c small_d h =
    go (nat_eq (key_of op a b) (key_of op2 c d)) refl (sym (up (key_of op2 c d)) ∙ h)
  where
    go : (same : Bool) → nat_eq (key_of op a b) (key_of op2 c d) ≡ same → cond same (Some at) (hash.get nat_eq m (key_of op2 c d)) ≡ Some found → IsFact states sets op2 c d found
    go true same is =
        let keys : (code_of op * 4294967296 + a) * 4294967296 + b ≡ (code_of op2 * 4294967296 + c) * 4294967296 + d = eqb-true (key_of op a b) (key_of op2 c d) same in
        let codes : code_of op ≡ code_of op2 = omega arith in
        let first : a ≡ c = omega arith in
        let second : b ≡ d = omega arith in
        let ops : op ≡ op2 = sym (op_is op) ∙ (ap op_of codes ∙ op_is op2) in
        subst (λ r. IsFact states sets op2 c d r) (same_Some at found is)
        (subst (λ q. IsFact states sets op2 c q at) second (subst (λ q. IsFact states sets op2 q b at) first (subst (λ q. IsFact states sets q a b at) ops fact)))
    go false same is = are op2 c d found small_c small_d is
