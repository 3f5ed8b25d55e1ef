-- How a feed goes on after some of its adds, groups and documents.
use Rattle.std.proofs.Common.{◌≡◌, ◌∙◌, ◌<◌, ◌+◌, ◌*◌, ◌-◌, ◌++◌, ◌∷◌, [], ℕ, zero, suc, List, codes, Result, Ok, Err, OnOk, is_ok, if◌then◌else◌, refl, sym, ap, ap₂, arith, append_assoc}
use Rattle.px_feed.specs.Generator.{add, add_of, adds, after, after_add, after_adds, document, documents, draw, digit, drawn, drop_before, further, group, groups}

-- what is left before one more, and behind it
left_before : (n i : ℕ) → i < n → n - i ≡ suc (n - (i + 1))
left_before n i lt = omega arith

suc-left : (n m : ℕ) → suc n + m ≡ suc (n + m)
suc-left n m = omega arith

zero-left : (m : ℕ) → 0 + m ≡ m
zero-left m = omega arith

-- draws after draws
pub after_more : (n m x : ℕ) → after (n + m) x ≡ after m (after n x)
after_more zero m x = ap (λ k. after k x) (zero-left m)
after_more (suc n) m x = ap (λ k. after k x) (suc-left n m) ∙ after_more n m (drawn x)

-- one add more
pub adds_on : (n i x y : ℕ) (out more : List ℕ) → i < n → more ≡ out ++ add x → y ≡ after_add x
    → more ++ adds (n - (i + 1)) y ≡ out ++ adds (n - i) x
adds_on n i x y out more lt e s =
    ap₂ (λ text k. text ++ adds (n - (i + 1)) k) e s
    ∙ append_assoc out (add x) (adds (n - (i + 1)) (after_add x))
    ∙ ap (λ k. out ++ adds k x) (sym (left_before n i lt))

pub after_adds_on : (n i x y : ℕ) → i < n → y ≡ after_add x → after_adds (n - (i + 1)) y ≡ after_adds (n - i) x
after_adds_on n i x y lt s = ap (after_adds (n - (i + 1))) s ∙ ap (λ k. after_adds k x) (sym (left_before n i lt))

-- one group more
pub groups_on : (n i x y : ℕ) (out more : List ℕ) → i < n → more ≡ out ++ group x → y ≡ after 4 x → more ++ groups (n - (i + 1)) y ≡ out ++ groups (n - i) x
groups_on n i x y out more lt e s =
    ap₂ (λ text k. text ++ groups (n - (i + 1)) k) e s
    ∙ append_assoc out (group x) (groups (n - (i + 1)) (after 4 x))
    ∙ ap (λ k. out ++ groups k x) (sym (left_before n i lt))

-- one document more, and the drop before it
pub documents_on : (filters n i x y : ℕ) (out dropped more : List ℕ) → i < n → dropped ≡ out ++ drop_before filters (i + 1) → more ≡ dropped ++ document x → y ≡ after 16 x
    → more ++ documents filters (n - (i + 1)) (i + 1 + 1) y ≡ out ++ documents filters (n - i) (i + 1) x
documents_on filters n i x y out dropped more lt d e s =
    let rest = documents filters (n - (i + 1)) (i + 1 + 1) (after 16 x) in
    ap₂ (λ text k. text ++ documents filters (n - (i + 1)) (i + 1 + 1) k) (e ∙ ap (λ text. text ++ document x) d) s
    ∙ append_assoc (out ++ drop_before filters (i + 1)) (document x) rest
    ∙ append_assoc out (drop_before filters (i + 1)) (document x ++ rest)
    ∙ ap (λ text. out ++ text) (sym (append_assoc (drop_before filters (i + 1)) (document x) rest))
    ∙ ap (λ k. out ++ documents filters k (i + 1) x) (sym (left_before n i lt))

-- the group behind the others
pub after_group : (i x y z : ℕ) → y ≡ after (4 * i) x → z ≡ after 4 y → z ≡ after (4 * (i + 1)) x
after_group i x y z e s = s ∙ ap (after 4) e ∙ sym (after_more (4 * i) 4 x) ∙ ap (λ k. after k x) (four_more i)
  where
    four_more : (i : ℕ) → 4 * i + 4 ≡ 4 * (i + 1)
    four_more i = omega arith

-- an add by its parts
module _ (s drawn_kind element x y z : ℕ) (is : drawn_kind ≡ s) (given : drawn_kind ≡ draw 1 4 x) (state : y ≡ drawn x) where
  kind_is : s ≡ draw 1 4 x
  kind_is = sym is ∙ given

  behind : z ≡ drawn y → z ≡ after 2 x
  behind next = next ∙ ap drawn state

  pub add_is : element ≡ 48 + draw 1 8 y → z ≡ drawn y → add_of s (element ∷ []) z ≡ add x
  add_is digit_is next =
      let first : element ∷ [] ≡ digit 2 8 x = ap (λ d. d ∷ []) (digit_is ∙ ap (λ k. 48 + draw 1 8 k) state) in
      λ i. add_of (kind_is i) (first i) (behind next i)

  pub after_add_is : z ≡ drawn y → after (further s) z ≡ after_add x
  after_add_is next = λ i. after (further (kind_is i)) (behind next i)

-- what stands where a call succeeded
pub once_ok : {A E : Type 0} (r : Result A E) (P Q : Type 0) → (P → Q) → OnOk r P → OnOk r Q
once_ok (Ok x) P Q f p = f p
once_ok (Err e) P Q f p = tt

-- what was appended, in other words
pub appended : {A E : Type 0} (r : Result A E) (text old more wanted : List ℕ) → more ≡ wanted → OnOk r (text ≡ old ++ more) → OnOk r (text ≡ old ++ wanted)
appended r text old more wanted e = once_ok r (text ≡ old ++ more) (text ≡ old ++ wanted) (λ p. p ∙ ap (λ k. old ++ k) e)

-- the state in other words
pub stands : {A E : Type 0} (r : Result A E) (x y z : ℕ) → y ≡ z → OnOk r (x ≡ y) → OnOk r (x ≡ z)
stands r x y z e = once_ok r (x ≡ y) (x ≡ z) (λ p. p ∙ e)

-- the bytes that an appending call appends
pub extended : {A E : Type 0} (r : Result A E) (text old more wanted : List ℕ) → text ≡ (if is_ok r then old ++ more else old) → more ≡ wanted → OnOk r (text ≡ old ++ wanted)
extended (Ok x) text old more wanted e f = e ∙ ap (λ k. old ++ k) f
extended (Err x) text old more wanted e f = tt

-- the line of the last kind, whose second digit is drawn behind the first
pub choice_is : (a value below x y : ℕ) → value ≡ 48 + draw 1 10 x → y ≡ drawn x → below ≡ 48 + draw 1 8 y
    → codes "+//e" ++ (a ∷ []) ++ codes "[text()>" ++ (value ∷ []) ++ codes " or .//e" ++ (below ∷ []) ++ codes "]\n" ≡ add_of 3 (a ∷ []) x
choice_is a value below x y v s b =
    let next : below ≡ 48 + draw 2 8 x = b ∙ ap (λ k. 48 + draw 1 8 k) s in
    ap₂ (λ first second. codes "+//e" ++ (a ∷ []) ++ codes "[text()>" ++ (first ∷ []) ++ codes " or .//e" ++ (second ∷ []) ++ codes "]\n") v next

-- a document by its parts
pub document_is : {A E : Type 0} (r : Result A E) (text old opened grouped : List ℕ) (x : ℕ) → opened ≡ old ++ codes "(r\n" → grouped ≡ opened ++ groups 4 x
    → text ≡ (if is_ok r then grouped ++ codes ")r\n" else grouped) → OnOk r (text ≡ old ++ document x)
document_is r text old opened grouped x o g e =
    appended r text old _ (document x)
    refl
    (once_ok r (text ≡ grouped ++ codes ")r\n") _ (λ p. p ∙ ap (λ k. k ++ codes ")r\n") (g ∙ ap (λ k. k ++ groups 4 x) o)
    ∙ append_assoc (old ++ codes "(r\n") (groups 4 x) (codes ")r\n") ∙ append_assoc old (codes "(r\n") (groups 4 x ++ codes ")r\n"))
    (extended r text grouped (codes ")r\n") (codes ")r\n") e refl))
