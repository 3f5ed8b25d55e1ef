-- Numbers and their digits, nodes and their words.
use Rattle.std.proofs.Common.{◌≡◌, ◌≢◌, ◌<◌, ◌≤◌, ◌-◌, ℕ, zero, suc, arith, Bool, true, false, ◌&&◌, not, List, [], ◌∷◌, ◌++◌, map, length, get_or, nat_eq, nat_lt, append_assoc, length-append, length-drop, take, drop, drop-cons, add-one, ◌+◌, cond, refl, ap, ◌∙◌, sym, subst, eq-eqb, Option, Some, None}
use Rattle.std.specs.Prelude.{◌||◌, nat_le, decimal}
use Rattle.std.specs.List.{list_all}
use Rattle.std.specs.Option.{option_and_then}
use Rattle.std.specs.Int.Digits.{number_from_digits_after}
use Rattle.std.proofs.lemmas.Bool.{eqb-true, leb-true, le-leb, le-ltb, ltb-false, ne_eqb, and_parts}
use Rattle.std.proofs.lemmas.List.{take-append-drop, get_or-take, take_all, length-take-le}
use Rattle.std.proofs.lemmas.Str.Parse.{IsNumeralModel, numerals_by_fold}
use Rattle.std.proofs.lemmas.Fmt.{digits_decimal, digits_value-decimal, decimal-digits_value, decimal_nonempty, first_decimal, length-decimal-le}
use Rattle.std.proofs.Common.{rules}
use Rattle.px_text.specs.Names.{is_digit}
use Rattle.px_text.specs.Numbers.{value, is_empty}
use Rattle.px_explain.specs.declared.node.ProofNode.{ProofNode}
use Rattle.px_explain.specs.declared.node.ProofNode.TheVariants.{Y, N, T, C, R, V, A, B, O, P, Bang}
use Rattle.px_explain.specs.Bounds.{has_above}
use Rattle.px_explain.specs.Openings.{has_no_feed}
use Rattle.px_explain.specs.Texts.{words, BeginsWithLine}
use Rattle.px_text.proofs.Digits.{digit_between}
use Rattle.px_explain.specs.Lines.{is_numeral, number_of, at_letter, letters, numbered_letters, node_of}

abbrev read_on : ℕ → List ℕ → ℕ
read_on n ds = number_from_digits_after 10 n (map (λ b. b - 48) ds)

own : IsNumeralModel (λ ds. list_all is_digit ds ≡ true) value
own = numerals_by_fold _ (search rules) read_on (search rules)

numeral_parts : (ds : List ℕ) → is_numeral ds ≡ true → (list_all is_digit ds ≡ true) × (0 < length ds) × (get_or ds 0 0 ≡ 48 → length ds ≡ 1)
numeral_parts [] h = absurd (apart h)
  where
    apart : false ≡ true → ⊥
    apart e = cc
numeral_parts (d ∷ ds) h =
    let p = and_parts (list_all is_digit (d ∷ ds) && nat_le (length (d ∷ ds)) 10) (is_empty ds || not (nat_eq d 48)) h in
    ((and_parts (list_all is_digit (d ∷ ds)) (nat_le (length (d ∷ ds)) 10) p.0).0, omega arith, alone ds p.1)
  where
    alone : (es : List ℕ) → (is_empty es || not (nat_eq d 48)) ≡ true → d ≡ 48 → length (d ∷ es) ≡ 1
    alone [] q e = refl
    alone (x ∷ es) q e = absurd (apart (sym q ∙ ap not (eq-eqb d 48 e)))
      where
        apart : true ≡ false → ⊥
        apart f = cc

pub number_exact : (ds : List ℕ) (n : ℕ) → number_of ds ≡ Some n → (ds ≡ decimal n) × (n ≤ 4_294_967_295)
number_exact ds n e = by_test (is_numeral ds && nat_le (value ds) 4_294_967_295) refl e
  where
    by_test : (b : Bool) → (is_numeral ds && nat_le (value ds) 4_294_967_295) ≡ b → cond b (Some (value ds)) None ≡ Some n → (ds ≡ decimal n) × (n ≤ 4_294_967_295)
    by_test true t f =
        let same : value ds ≡ n = cc in
        let p = and_parts (is_numeral ds) (nat_le (value ds) 4_294_967_295) t in
        let q = numeral_parts ds p.0 in
        let small = leb-true (value ds) 4_294_967_295 p.1 in
        (sym (decimal-digits_value own ds q.0 q.1 q.2 (omega arith)) ∙ ap decimal same, omega arith)
    by_test false t f = absurd (apart f)
      where
        apart : None ≡ Some n → ⊥
        apart g = cc

numeral_from : (ds : List ℕ) → list_all is_digit ds ≡ true → length ds ≤ 10 → 0 < length ds → 48 < get_or ds 0 0 → is_numeral ds ≡ true
numeral_from [] a l h f = absurd (omega arith)
numeral_from (d ∷ ds) a l h f = rw (a, le-leb (length (d ∷ ds)) 10 l, ne_eqb d 48 (above d f)) (or_true (is_empty ds))
  where
    above : (d : ℕ) → 48 < d → d ≡ 48 → ⊥
    above d f e = omega arith

    or_true : (b : Bool) → (b || true) ≡ true
    or_true true = refl
    or_true false = refl

numeral_decimal : (n : ℕ) → n ≤ 4_294_967_295 → is_numeral (decimal n) ≡ true
numeral_decimal zero h = ap is_numeral (decimal-digits_value own (48 ∷ []) refl (omega arith) (λ e. refl) (omega arith))
numeral_decimal (suc n) h =
    numeral_from (decimal (suc n)) (digits_decimal own (suc n) (omega arith)) (length-decimal-le 10 (suc n) (omega arith) (omega arith) (omega arith))
    (decimal_nonempty (suc n) (omega arith)) (first_decimal (suc n) (omega arith) (omega arith))

pub number_decimal : (n : ℕ) → n ≤ 4_294_967_295 → number_of (decimal n) ≡ Some n
number_decimal n h =
    let v = digits_value-decimal own n (omega arith) in
    rw (numeral_decimal n h, v, le-leb n 4_294_967_295 h) refl

-- each entry of a table has P
AreEntries : (ℕ → ProofNode → Type 0) → List (ℕ × ProofNode) → Type 0
AreEntries Q [] = Unit {0}
AreEntries Q (e ∷ es) = Q e.0 e.1 × AreEntries Q es

entry_is : (Q : ℕ → ProofNode → Type 0) (letter : ℕ) (entries : List (ℕ × ProofNode)) (node : ProofNode) → AreEntries Q entries → at_letter letter entries ≡ Some node → Q letter node
unfolding AreEntries
entry_is Q letter [] node a h = absurd (apart h)
  where
    apart : None ≡ Some node → ⊥
    apart g = cc
entry_is Q letter (e ∷ es) node a h = by_test (nat_eq letter e.0) refl h (entry_is Q letter es node a.1)
  where
    by_test : (b : Bool) → nat_eq letter e.0 ≡ b → cond b (Some e.1) (at_letter letter es) ≡ Some node → (at_letter letter es ≡ Some node → Q letter node) → Q letter node
    by_test true t f again = let same : e.1 ≡ node = cc in subst (λ (m : ProofNode). Q letter m) same (subst (λ (l : ℕ). Q l e.1) (sym (eqb-true letter e.0 t)) a.0)
    by_test false t f again = again f

-- what is read is the node whose words they are
IsWord : ℕ → ProofNode → Type 0
IsWord letter node = ((letter ∷ []) ≡ words node) × (has_above 4_294_967_295 node ≡ false)

IsNumbered : ℕ → ℕ → ProofNode → Type 0
IsNumbered n letter node = ((letter ∷ 32 ∷ decimal n) ≡ words node) × (has_above 4_294_967_295 node ≡ nat_lt 4_294_967_295 n)

pub words_node : (ws : List ℕ) (node : ProofNode) → node_of ws ≡ Some node → (ws ≡ words node) × (has_above 4_294_967_295 node ≡ false)
unfolding AreEntries IsWord IsNumbered
words_node [] node h = absurd (apart h)
  where
    apart : None ≡ Some node → ⊥
    apart g = cc
words_node (letter ∷ []) node h =
    entry_is IsWord letter letters node ((refl, refl), ((refl, refl), ((refl, refl), ((refl, refl), ((refl, refl), ((refl, refl), tt)))))) h
words_node (letter ∷ space ∷ ds) node h = by_space (nat_eq space 32) refl h
  where
    by_number : (o : Option ℕ) → number_of ds ≡ o → space ≡ 32 → option_and_then (λ n. at_letter letter (numbered_letters n)) o ≡ Some node →
        ((letter ∷ space ∷ ds) ≡ words node) × (has_above 4_294_967_295 node ≡ false)
    by_number None e s f = absurd (apart f)
      where
        apart : None ≡ Some node → ⊥
        apart g = cc
    by_number (Some n) e s f =
        let exact = number_exact ds n e in
        let is = entry_is (IsNumbered n) letter (numbered_letters n) node ((refl, refl), ((refl, refl), ((refl, refl), ((refl, refl), ((refl, refl), tt))))) f in
        (ap (λ (z : ℕ). letter ∷ z ∷ ds) s ∙ ap (λ (zs : List ℕ). letter ∷ 32 ∷ zs) exact.0 ∙ is.0, is.1 ∙ ltb_false n exact.1)
      where
        ltb_false : (n : ℕ) → n ≤ 4_294_967_295 → nat_lt 4_294_967_295 n ≡ false
        ltb_false n h = le-ltb 4_294_967_295 n h

    by_space : (b : Bool) → nat_eq space 32 ≡ b → cond b (option_and_then (λ n. at_letter letter (numbered_letters n)) (number_of ds)) None ≡ Some node →
        ((letter ∷ space ∷ ds) ≡ words node) × (has_above 4_294_967_295 node ≡ false)
    by_space true t f = by_number (number_of ds) refl (eqb-true space 32 t) f
    by_space false t f = absurd (apart f)
      where
        apart : None ≡ Some node → ⊥
        apart g = cc

-- the words of a node are read as that node
pub node_words : (node : ProofNode) → has_above 4_294_967_295 node ≡ false → node_of (words node) ≡ Some node
node_words (Y n) h = ap (option_and_then (λ m. at_letter 121 (numbered_letters m))) (number_decimal n (ltb-false 4_294_967_295 n h))
node_words (N n) h = ap (option_and_then (λ m. at_letter 110 (numbered_letters m))) (number_decimal n (ltb-false 4_294_967_295 n h))
node_words T h = refl
node_words (C n) h = ap (option_and_then (λ m. at_letter 99 (numbered_letters m))) (number_decimal n (ltb-false 4_294_967_295 n h))
node_words R h = refl
node_words V h = refl
node_words A h = refl
node_words (B n) h = ap (option_and_then (λ m. at_letter 98 (numbered_letters m))) (number_decimal n (ltb-false 4_294_967_295 n h))
node_words (O n) h = ap (option_and_then (λ m. at_letter 111 (numbered_letters m))) (number_decimal n (ltb-false 4_294_967_295 n h))
node_words P h = refl
node_words Bang h = refl

-- lines apart
pub no_feed : List ℕ → Bool
no_feed [] = true
no_feed (b ∷ bs) = not (nat_eq b 10) && no_feed bs

pub no_feed_is : (bs : List ℕ) → no_feed bs ≡ has_no_feed bs
unfolding no_feed
no_feed_is [] = refl
no_feed_is (b ∷ bs) = ap (λ (t : Bool). not (nat_eq b 10) && t) (no_feed_is bs)

digits_no_feed : (ds : List ℕ) → list_all is_digit ds ≡ true → no_feed ds ≡ true
unfolding no_feed
digits_no_feed [] h = refl
digits_no_feed (d ∷ ds) h =
    let p = and_parts (is_digit d) (list_all is_digit ds) h in
    let b = digit_between d p.0 in
    rw (ne_eqb d 10 (apart d b.0)) (digits_no_feed ds p.1)
  where
    apart : (d : ℕ) → 48 ≤ d → d ≡ 10 → ⊥
    apart d l e = omega arith

decimal_no_feed : (n : ℕ) → n ≤ 4_294_967_295 → no_feed (decimal n) ≡ true
decimal_no_feed n h = digits_no_feed (decimal n) (digits_decimal own n (omega arith))

pub words_no_feed : (node : ProofNode) → has_above 4_294_967_295 node ≡ false → no_feed (words node) ≡ true
unfolding no_feed
words_no_feed (Y n) h = decimal_no_feed n (ltb-false 4_294_967_295 n h)
words_no_feed (N n) h = decimal_no_feed n (ltb-false 4_294_967_295 n h)
words_no_feed T h = refl
words_no_feed (C n) h = decimal_no_feed n (ltb-false 4_294_967_295 n h)
words_no_feed R h = refl
words_no_feed V h = refl
words_no_feed A h = refl
words_no_feed (B n) h = decimal_no_feed n (ltb-false 4_294_967_295 n h)
words_no_feed (O n) h = decimal_no_feed n (ltb-false 4_294_967_295 n h)
words_no_feed P h = refl
words_no_feed Bang h = refl

true_not_false : true ≡ false → ⊥
true_not_false e = cc

-- a text is cut at its first feed in one way
pub split_once : (a b x y : List ℕ) → no_feed a ≡ true → no_feed b ≡ true → a ++ 10 ∷ x ≡ b ++ 10 ∷ y → (a ≡ b) × (x ≡ y)
unfolding no_feed
split_once [] [] x y p q e = (refl, cc)
split_once [] (c ∷ b) x y p q e =
    let head : 10 ≡ c = cc in
    let r = and_parts (not (nat_eq c 10)) (no_feed b) q in
    absurd (true_not_false (sym r.0 ∙ ap not (eq-eqb c 10 (sym head))))
split_once (c ∷ a) [] x y p q e =
    let head : c ≡ 10 = cc in
    let r = and_parts (not (nat_eq c 10)) (no_feed a) p in
    absurd (true_not_false (sym r.0 ∙ ap not (eq-eqb c 10 head)))
split_once (c ∷ a) (d ∷ b) x y p q e =
    let head : c ≡ d = cc in
    let tail : a ++ 10 ∷ x ≡ b ++ 10 ∷ y = cc in
    let r = split_once a b x y (and_parts (not (nat_eq c 10)) (no_feed a) p).1 (and_parts (not (nat_eq d 10)) (no_feed b) q).1 tail in
    let first = r.0 in
    (joined head first, r.1)
  where
    joined : c ≡ d → a ≡ b → (c ∷ a) ≡ (d ∷ b)
    joined e f = cc

at_seam : (a x : List ℕ) → get_or (a ++ 10 ∷ x) (length a) 0 ≡ 10
at_seam [] x = refl
at_seam (b ∷ a) x = at_seam a x

pub no_line : (text : List ℕ) → ((i : ℕ) → i < length text → get_or text i 0 ≢ 10) → BeginsWithLine text → ⊥
no_line text h l = h (length (words l.0)) (inside text (words l.0) l.1 l.3) (there text (words l.0) l.1 l.3)
  where
    inside : (text a x : List ℕ) → text ≡ (a ++ 10 ∷ []) ++ x → length a < length text
    inside text a x e = omega (arith, simp length-append at (ap length e))

    there : (text a x : List ℕ) → text ≡ (a ++ 10 ∷ []) ++ x → get_or text (length a) 0 ≡ 10
    there text a x e = ap (λ (t : List ℕ). get_or t (length a) 0) (e ∙ append_assoc a (10 ∷ []) x) ∙ at_seam a x

pub front_no_feed : (ws : List ℕ) → ((i : ℕ) → i < length ws → get_or ws i 0 ≢ 10) → no_feed ws ≡ true
unfolding no_feed
front_no_feed [] h = refl
front_no_feed (w ∷ ws) h = rw (ne_eqb w 10 (h zero (omega arith))) (front_no_feed ws (λ i l. h (suc i) (omega arith)))

-- a line that is none
pub no_words : (text ws more : List ℕ) → text ≡ ws ++ 10 ∷ more → no_feed ws ≡ true → node_of ws ≡ None → BeginsWithLine text → ⊥
no_words text ws more e p n l =
    let cut = split_once ws (words l.0) more l.1 p (words_no_feed l.0 l.2) (sym e ∙ l.3 ∙ append_assoc (words l.0) (10 ∷ []) l.1) in
    apart (sym (node_words l.0 l.2) ∙ ap node_of (sym cut.0) ∙ n)
  where
    apart : {A : Type 0} {x : A} → Some x ≡ None → ⊥
    apart e = cc

pub line_cut : (text : List ℕ) (at : ℕ) → at < length text → nat_eq (get_or text at 0) 10 ≡ true → text ≡ take at text ++ 10 ∷ drop (at + 1) text
line_cut text at l h =
    sym (take-append-drop at text)
    ∙ ap (λ (ds : List ℕ). take at text ++ ds) (drop-cons text at 0 l ∙ ap (λ (b : ℕ). b ∷ drop (suc at) text) (eqb-true (get_or text at 0) 10 h) ∙ ap (λ (n : ℕ). 10 ∷ drop n text) (sym (add-one at)))

pub front_before : (text : List ℕ) (at : ℕ) → at ≤ length text → ((k : ℕ) → 0 ≤ k → k < at → nat_eq (get_or text k 0) 10 ≡ true → ⊥) → no_feed (take at text) ≡ true
front_before text at l h =
    front_no_feed (take at text) (λ i m e. h i (omega arith) (within i m) (eq-eqb (get_or text i 0) 10 (sym (get_or-take at text i 0 (within i m)) ∙ e)))
  where
    within : (i : ℕ) → i < length (take at text) → i < at
    within i m = let e = length-take-le at text l in omega arith

pub behind_line : (text : List ℕ) (at : ℕ) → at < length text → take (length text - (at + 1)) (drop (at + 1) text) ≡ drop (at + 1) text
behind_line text at l = take_all (length text - (at + 1)) (drop (at + 1) text) (omega (arith, length-drop (at + 1) text))
