-- What was written is read back.
use Rattle.std.proofs.Common.{◌≡◌, ◌≢◌, ◌≤◌, ℕ, arith, Bool, true, false, List, [], ◌∷◌, ◌++◌, append_assoc, append-nil, length, length-append, Result, Ok, Err, Some, refl, ap, ◌∙◌, sym, subst, MatchResult}
use Rattle.std.specs.Prelude.{◌||◌}
use Rattle.std.specs.List.{list_any}
use Rattle.px_explain.specs.declared.node.ProofNode.{ProofNode}
use Rattle.px_explain.specs.declared.proof.Proof.{Proof}
use Rattle.px_explain.specs.declared.reading.ProofFault.{ProofFault}
use Rattle.px_explain.specs.declared.reading.ProofFault.TheVariants.{NotAProof, TooMany, Memory}
use Rattle.px_explain.specs.Bounds.{has_above, AreSmall}
use Rattle.px_explain.specs.Lines.{node_of}
use Rattle.px_explain.specs.Texts.{words, line, text_of, BeginsWithLine}
use Rattle.px_explain.specs.Refusing.{Refuses}
use Rattle.px_explain.proofs.Numerals.{words_no_feed, split_once, node_words}
use Rattle.std.proofs.lemmas.Bool.{or_parts}

-- the first lines of the same bytes are the same
pub same_line : (x y : ProofNode) (xs ys : List ℕ) → has_above 4_294_967_295 x ≡ false → has_above 4_294_967_295 y ≡ false → line x ++ xs ≡ line y ++ ys → (x ≡ y) × (xs ≡ ys)
same_line x y xs ys f g e =
    let cut = split_once (words x) (words y) xs ys (words_no_feed x f) (words_no_feed y g) (sym (append_assoc (words x) (10 ∷ []) xs) ∙ e ∙ append_assoc (words y) (10 ∷ []) ys) in
    (one (sym (node_words x f) ∙ ap node_of cut.0 ∙ node_words y g), cut.1)
  where
    one : {a b : ProofNode} → Some a ≡ Some b → a ≡ b
    one e = cc

-- one line more in front of both
pub joined : (x y : ProofNode) (front nodes tail : List ProofNode) → x ≡ y → nodes ≡ front ++ tail → (y ∷ nodes) ≡ (x ∷ front) ++ tail
joined x y front nodes tail e f = ap (λ (z : ProofNode). z ∷ nodes) (sym e) ∙ ap (λ (zs : List ProofNode). x ∷ zs) f

-- what a text's lines begin with
pub fronts : (front nodes : List ProofNode) (rest : List ℕ) → AreSmall front → AreSmall nodes → text_of front ++ rest ≡ text_of nodes →
    (tail : List ProofNode) × (nodes ≡ front ++ tail) × (rest ≡ text_of tail)
fronts [] nodes rest f n e = (nodes, refl, e)
fronts (x ∷ front) [] rest f n e = absurd (not_nil (words x) (text_of front) rest e)
  where
    not_nil : (w t r : List ℕ) → ((w ++ 10 ∷ []) ++ t) ++ r ≡ [] → ⊥
    not_nil w t r e = omega (arith, simp length-append at (ap length e))
fronts (x ∷ front) (y ∷ nodes) rest f n e =
    let p = or_parts (has_above 4_294_967_295 x) (list_any (has_above 4_294_967_295) front) f in
    let q = or_parts (has_above 4_294_967_295 y) (list_any (has_above 4_294_967_295) nodes) n in
    let same = same_line x y (text_of front ++ rest) (text_of nodes) p.0 q.0 (sym (append_assoc (line x) (text_of front) rest) ∙ e) in
    let more = fronts front nodes rest p.1 q.1 same.1 in
    (more.0, joined x y front nodes more.0 same.0 more.1, more.2)

tail_nil : (tail : List ProofNode) → [] ≡ text_of tail → tail ≡ []
tail_nil [] e = refl
tail_nil (t ∷ ts) e = absurd (nil_not (words t) (text_of ts) (e ∙ append_assoc (words t) (10 ∷ []) (text_of ts)))
  where
    nil_not : (w r : List ℕ) → [] ≡ w ++ 10 ∷ r → ⊥
    nil_not w r e = omega (arith, simp length-append at (ap length e))

begins : (tail : List ProofNode) (rest : List ℕ) → AreSmall tail → rest ≡ text_of tail → rest ≢ [] → BeginsWithLine rest
begins [] rest s e n = absurd (n e)
begins (t ∷ ts) rest s e n = (t, text_of ts, (or_parts (has_above 4_294_967_295 t) (list_any (has_above 4_294_967_295) ts) s).0, e)

small_behind : (front tail : List ProofNode) → AreSmall (front ++ tail) → AreSmall tail
small_behind [] tail s = s
small_behind (x ∷ front) tail s = small_behind front tail (or_parts (has_above 4_294_967_295 x) (list_any (has_above 4_294_967_295) (front ++ tail)) s).1

pub read_back : (text : List ℕ) (nodes : List ProofNode) (result : Result Proof ProofFault) → length nodes ≤ 100_000 → AreSmall nodes → text ≡ text_of nodes →
    MatchResult result (λ proof. (text ≡ text_of proof) × AreSmall proof) (λ fault. Refuses fault text) → MatchResult result (λ proof. proof ≡ nodes) (λ f. f ≡ Memory)
read_back text nodes (Ok proof) few small e h =
    let f = fronts proof nodes [] h.1 small (append-nil (text_of proof) ∙ sym h.0 ∙ e) in
    sym (f.1 ∙ ap (λ (t : List ProofNode). proof ++ t) (tail_nil f.0 f.2) ∙ append-nil proof)
read_back text nodes (Err (NotAProof k)) few small e h =
    let f = fronts h.0 nodes h.1 h.2 small (sym h.5 ∙ e) in
    absurd (h.7 (begins f.0 h.1 (small_behind h.0 f.0 (subst AreSmall f.1 small)) f.2 h.6))
read_back text nodes (Err TooMany) few small e h =
    let f = fronts h.0 nodes h.1 h.2 small (sym h.4 ∙ e) in
    absurd (too_many h.0 f.0 nodes h.1 h.3 f.1 few f.2 h.5)
  where
    too_many : (front tail nodes : List ProofNode) (rest : List ℕ) → length front ≡ 100_000 → nodes ≡ front ++ tail → length nodes ≤ 100_000 → rest ≡ text_of tail → rest ≢ [] → ⊥
    too_many front [] nodes rest l e few f n = n f
    too_many front (t ∷ ts) nodes rest l e few f n = omega (arith, simp length-append at (ap length e))
read_back text nodes (Err Memory) few small e h = refl
