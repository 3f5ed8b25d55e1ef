-- Where the paths of keys lie, and that a set of one element may be written at the beginning of its path.
use Rattle.std.proofs.Common.{◌≡◌, ◌≢◌, ℕ, suc, ◌∙◌, ◌+◌, ◌-◌, ◌/◌, ◌%◌, ◌<◌, ◌≤◌, Bool, true, false, cond, List, [], min, refl, sym, ap, subst, arith, eq-eqb, ne_eqb}
use Rattle.std.proofs.Math.Nat.{mod-lt, suc-mod, mod_self, mod-eq_of_lt}
use Rattle.std.proofs.Math.Pow.{pow_mono}
use Rattle.px_text.specs.declared.op.Op.{Op}
use Rattle.px_rule.specs.declared.shape.Shape.{Shape}
use Rattle.px_rule.specs.declared.view.View.{View}
use Rattle.px_text.specs.Operands.{Operand}
use Rattle.px_rule.specs.Words.{Small, node_word, key_of, is_node, IsShape, nodes_of, steps_of, size_of, start_of, path_of, long_of}
use Rattle.px_rule.specs.Known.{named}
use Rattle.px_rule.specs.Steps.{MayWrite}

pub nodes_wide : (z : Shape) → IsShape z → (16 ≤ nodes_of z) × (nodes_of z ≤ 1048576)
nodes_wide z s = let n : ℕ = nodes_of z in let low : 16 ≤ n = pow_mono {i = 4} {j = z.node_bits} s.2 in let high : n ≤ 1048576 = pow_mono {i = z.node_bits} {j = 20} s.3 in (omega arith, omega arith)

pub steps_wide : (z : Shape) → IsShape z → (16 ≤ steps_of z) × (steps_of z ≤ 1048576)
steps_wide z s = let n : ℕ = steps_of z in let low : 16 ≤ n = pow_mono {i = 4} {j = z.step_bits} s.4 in let high : n ≤ 1048576 = pow_mono {i = z.step_bits} {j = 20} s.5 in (omega arith, omega arith)

-- a path has 15 places or more
pub long_wide : (z : Shape) (key : ℕ) → IsShape z → 15 ≤ long_of z key
long_wide z key s = let a = nodes_wide z s in let b = steps_wide z s in let n : ℕ = nodes_of z in let m : ℕ = steps_of z in let a' : 16 ≤ n = a.0 in let b' : 16 ≤ m = b.0 in
    elim (is_node key) as (λ t. 15 ≤ cond t (min 64 (n - 1)) (min 64 m)) [ true ↦ omega arith | false ↦ omega arith ]

pub node_is_node : (e t : ℕ) → Small e → Small t → is_node (key_of (node_word e t)) ≡ true
node_is_node e t se st = eq-eqb (key_of (node_word e t) / 1152921504606846976) 1 (omega arith)

-- the path of a node word lies in the node places, and not at place 0
pub node_path : (z : Shape) (key i : ℕ) → IsShape z → is_node key ≡ true → (0 < path_of z key i) × (path_of z key i < nodes_of z)
node_path z key i s is =
    let n : ℕ = nodes_of z in
    let wide : 16 ≤ n = (nodes_wide z s).0 in
    let x : ℕ = (start_of key + i) % (n - 1) in
    let p : ℕ = path_of z key i in
    let at : p ≡ 1 + x = ap (λ (t : Bool). cond t (1 + (start_of key + i) % (nodes_of z - 1)) (nodes_of z + (start_of key + i) % steps_of z)) is in
    let less : x < n - 1 = mod-lt (start_of key + i) (omega arith) in
    let a : 0 < p = omega arith in let b : p < n = omega arith in (a, b)

-- and that of a step word in the step places
pub step_path : (z : Shape) (key i : ℕ) → IsShape z → is_node key ≡ false → (nodes_of z ≤ path_of z key i) × (path_of z key i < size_of z)
step_path z key i s is =
    let n : ℕ = nodes_of z in
    let m : ℕ = steps_of z in
    let wide : 16 ≤ m = (steps_wide z s).0 in
    let x : ℕ = (start_of key + i) % m in
    let p : ℕ = path_of z key i in
    let at : p ≡ n + x = ap (λ (t : Bool). cond t (1 + (start_of key + i) % (nodes_of z - 1)) (nodes_of z + (start_of key + i) % steps_of z)) is in
    let less : x < m = mod-lt (start_of key + i) (omega arith) in
    let a : n ≤ p = omega arith in let b : p < n + m = omega arith in (a, b)

module _ {E : Type 0} (right : List E → Op → Operand → Operand → List ℕ → Type 0) (z : Shape) where
  -- the set of one element may be written at the first place of its path
  pub single_may : (k n p e : ℕ) (v : View E) → IsShape z → Small e → p ≡ path_of z (key_of (node_word e 0)) 0 → MayWrite right z k n p (node_word e 0) v
  single_may k n p e v shape small at =
      let w : ℕ = node_word e 0 in
      let is = node_is_node e 0 small (omega arith) in
      let there = node_path z (key_of w) 0 shape is in
      let low : p < nodes_of z = subst (λ (q : ℕ). q < nodes_of z) (sym at) there.1 in
      let some_place : 0 < p = subst (λ (q : ℕ). 0 < q) (sym at) there.0 in
      record {
        some_word = λ none. omega arith;
        within = let a : ℕ = nodes_of z in let b : ℕ = steps_of z in let l : p < a = low in let r : p < a + b = omega arith in r;
        turn = 0;
        on_path = (let l = long_wide z (key_of w) shape in omega arith, sym at);
        before = λ j none. absurd (omega arith);
        as_node = λ _. (e, 0, [], some_place, small, omega arith, refl, tt, named 0 [] refl);
        as_step = λ high. absurd (let a : ℕ = nodes_of z in let l : p < a = low in let h : a ≤ p = high in omega arith);
      }

-- the remainder of the next number
next_turn : (x y m : ℕ) → y ≡ suc x → suc (x % m) < m → y % m ≡ suc (x % m)
next_turn x y m e low = ap (λ (t : ℕ). t % m) e ∙ (suc-mod x m ∙ mod-eq_of_lt low)

first_turn : (x y m : ℕ) → y ≡ suc x → suc (x % m) ≡ m → y % m ≡ 0
first_turn x y m e all = ap (λ (t : ℕ). t % m) e ∙ (suc-mod x m ∙ (ap (λ (t : ℕ). t % m) all ∙ mod_self m))

module _ (z : Shape) (key i p : ℕ) (shape : IsShape z) (here : p ≡ path_of z key i) where
  -- the place at the next turn is one further, and after the last place of its kind the first
  module _ (is : is_node key ≡ true) where
    node_here : (j : ℕ) → path_of z key j ≡ 1 + (start_of key + j) % (nodes_of z - 1)
    node_here j = ap (λ (t : Bool). cond t (1 + (start_of key + j) % (nodes_of z - 1)) (nodes_of z + (start_of key + j) % steps_of z)) is

    pub next_node : p + 1 ≢ nodes_of z → p + 1 ≡ path_of z key (i + 1)
    next_node not_last =
        let n : ℕ = nodes_of z in
        let s : ℕ = start_of key in
        let wide : 16 ≤ n = (nodes_wide z shape).0 in
        let r : ℕ = (s + i) % (n - 1) in
        let at : p ≡ 1 + r = here ∙ node_here i in
        let less : r < n - 1 = mod-lt (s + i) (omega arith) in
        let no : p + 1 ≢ n = not_last in
        let low : suc r < n - 1 = omega arith in
        let turn : (s + (i + 1)) % (n - 1) ≡ suc r = next_turn (s + i) (s + (i + 1)) (n - 1) (omega arith) low in
        let there : path_of z key (i + 1) ≡ 1 + suc r = node_here (i + 1) ∙ ap (λ (t : ℕ). 1 + t) turn in
        let q : ℕ = path_of z key (i + 1) in
        let there' : q ≡ 1 + suc r = there in
        let e : p + 1 ≡ q = omega arith in e

    pub first_node : p + 1 ≡ nodes_of z → 1 ≡ path_of z key (i + 1)
    first_node last =
        let n : ℕ = nodes_of z in
        let s : ℕ = start_of key in
        let wide : 16 ≤ n = (nodes_wide z shape).0 in
        let r : ℕ = (s + i) % (n - 1) in
        let at : p ≡ 1 + r = here ∙ node_here i in
        let is_last : p + 1 ≡ n = last in
        let all : suc r ≡ n - 1 = omega arith in
        sym (node_here (i + 1) ∙ ap (λ (t : ℕ). 1 + t) (first_turn (s + i) (s + (i + 1)) (n - 1) (omega arith) all))

  module _ (is : is_node key ≡ false) where
    step_here : (j : ℕ) → path_of z key j ≡ nodes_of z + (start_of key + j) % steps_of z
    step_here j = ap (λ (t : Bool). cond t (1 + (start_of key + j) % (nodes_of z - 1)) (nodes_of z + (start_of key + j) % steps_of z)) is

    pub next_step : p + 1 ≢ size_of z → p + 1 ≡ path_of z key (i + 1)
    next_step not_last =
        let n : ℕ = nodes_of z in
        let m : ℕ = steps_of z in
        let s : ℕ = start_of key in
        let wide : 16 ≤ m = (steps_wide z shape).0 in
        let r : ℕ = (s + i) % m in
        let at : p ≡ n + r = here ∙ step_here i in
        let less : r < m = mod-lt (s + i) (omega arith) in
        let no : p + 1 ≢ n + m = not_last in
        let low : suc r < m = omega arith in
        let turn : (s + (i + 1)) % m ≡ suc r = next_turn (s + i) (s + (i + 1)) m (omega arith) low in
        let q : ℕ = path_of z key (i + 1) in
        let there : q ≡ n + suc r = step_here (i + 1) ∙ ap (λ (t : ℕ). n + t) turn in
        let e : p + 1 ≡ q = omega arith in e

    pub first_step : p + 1 ≡ size_of z → nodes_of z ≡ path_of z key (i + 1)
    first_step last =
        let n : ℕ = nodes_of z in
        let m : ℕ = steps_of z in
        let s : ℕ = start_of key in
        let r : ℕ = (s + i) % m in
        let at : p ≡ n + r = here ∙ step_here i in
        let is_last : p + 1 ≡ n + m = last in
        let all : suc r ≡ m = omega arith in
        let zero_turn : (s + (i + 1)) % m ≡ 0 = first_turn (s + i) (s + (i + 1)) m (omega arith) all in
        let q : ℕ = path_of z key (i + 1) in
        let there : q ≡ n + 0 = step_here (i + 1) ∙ ap (λ (t : ℕ). n + t) zero_turn in
        let e : n ≡ q = omega arith in e

-- every place of a path is in the bank
pub path_within : (z : Shape) (key i : ℕ) → IsShape z → path_of z key i < size_of z
path_within z key i shape = by (is_node key) refl
  where
    by : (t : Bool) → is_node key ≡ t → path_of z key i < size_of z
    by true is = let n : ℕ = nodes_of z in let m : ℕ = steps_of z in let q : ℕ = path_of z key i in let low : q < n = (node_path z key i shape is).1 in let r : q < n + m = omega arith in r
    by false is = (step_path z key i shape is).1

-- the kind that a word shows is that of its key
pub shows_node : (w : ℕ) → w / 1152921504606846976 ≡ 1 → is_node (key_of w) ≡ true
shows_node w e = eq-eqb (key_of w / 1152921504606846976) 1 (omega arith)

pub shows_step : (w : ℕ) → w / 1152921504606846976 ≢ 1 → is_node (key_of w) ≡ false
shows_step w other = ne_eqb (key_of w / 1152921504606846976) 1 (λ e. other (omega arith))
