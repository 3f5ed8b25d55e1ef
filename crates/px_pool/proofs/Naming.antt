-- The replies of a batch by the passes that they name.
use Rattle.std.proofs.Common.{◌≡◌, ◌≢◌, ℕ, zero, suc, ◌+◌, ◌<◌, ◌≤◌, Bool, true, false, eqb, cond, List, [], ◌∷◌, length, refl, sym, ap, ◌∙◌, subst, arith, eq-eqb, ne_eqb}
use Rattle.std.specs.Prelude.{slice_get, Some}
use Rattle.std.proofs.lemmas.Option.{none-some, same_Some, slice_get_within}
use mathlib.Core.Logic.{dite}
use native.Mathlib.Decide.{ℕ_discrete, dec_lt}
use Rattle.px_reader.specs.declared.doc.Doc.{Doc}
use Rattle.px_rule.specs.declared.shape.Shape.{Shape}
use Rattle.px_rule.specs.Banks.{total, one_if}
use Rattle.px_rule.specs.Histories.{named}
use Rattle.px_crew.specs.Drawn.{times}
use Rattle.px_hub.specs.declared.reply.Reply.{Reply}
use Rattle.px_hub.specs.Passes.{PassView}
use Rattle.px_pool.specs.Batches.{AnswersAll, EachAnswers, all_numbers, Batched}
use Rattle.px_pool.specs.Counting.{RepliesOf, AreDifferent, AddUp, pass_of}
use Rattle.px_pool.proofs.Staying.{same}
use Rattle.px_pool.proofs.Places.{times_both}
use Rattle.px_pool.proofs.Counts.{counted, in_bank, enters_by, touches_rise, enters_rise, reply_of}

-- ---- sums at numbers, as sums over the replies
-- x so many times
abbrev many : ℕ → ℕ → ℕ
many zero x = 0
many (suc k) x = x + many k x

-- the numbers of places behind the first
abbrev behind : List ℕ → List ℕ
behind [] = []
behind (zero ∷ ns) = behind ns
behind (suc n ∷ ns) = n ∷ behind ns

next_same : (n i : ℕ) → one_if (eqb (suc n) (suc i)) ≡ one_if (eqb n i)
next_same n i = dite (ℕ_discrete n i)
    (λ e. ap one_if (eq-eqb (suc n) (suc i) (ap suc e) ∙ sym (eq-eqb n i e)))
    (λ apart. ap one_if (ne_eqb (suc n) (suc i) (λ e. apart (omega (arith, e))) ∙ sym (ne_eqb n i apart)))

never : (n i : ℕ) → n ≢ i → one_if (eqb n i) ≡ 0
never n i apart = ap one_if (ne_eqb n i apart)

times_behind : (i : ℕ) (ns : List ℕ) → times i (behind ns) ≡ times (suc i) ns
times_behind i [] = refl
times_behind i (zero ∷ ns) = let r = times_behind i ns in let z = never 0 (suc i) (λ e. absurd (omega (arith, e))) in omega arith
times_behind i (suc n ∷ ns) = let r = times_behind i ns in let s = next_same n i in omega arith

module _ (f : Reply → ℕ) where
  counted_none : (ns : List ℕ) → counted f [] ns ≡ 0
  counted_none [] = refl
  counted_none (n ∷ ns) = let r = counted_none ns in omega arith

  counted_first : (r : Reply) (rs : List Reply) (ns : List ℕ) → counted f (r ∷ rs) ns ≡ many (times 0 ns) (f r) + counted f rs (behind ns)
  counted_first r rs [] = omega arith
  counted_first r rs (zero ∷ ns) =
      let rest = counted_first r rs ns in
      let one : one_if (eqb 0 0) ≡ 1 = ap one_if (eq-eqb 0 0 refl) in
      let more : many (times 0 (zero ∷ ns)) (f r) ≡ f r + many (times 0 ns) (f r) = ap (λ (k : ℕ). many k (f r)) (let e : times 0 (zero ∷ ns) ≡ suc (times 0 ns) = omega arith in e) in
      omega arith
  counted_first r rs (suc n ∷ ns) =
      let rest = counted_first r rs ns in
      let z = never (suc n) 0 (λ e. absurd (omega (arith, e))) in
      let same : many (times 0 (suc n ∷ ns)) (f r) ≡ many (times 0 ns) (f r) = ap (λ (k : ℕ). many k (f r)) (let e : times 0 (suc n ∷ ns) ≡ times 0 ns = omega arith in e) in
      omega arith

  named_first : (p : ℕ) (r : Reply) (rs : List Reply) → total f (named pass_of p (r ∷ rs)) ≡ many (one_if (eqb r.pass p)) (f r) + total f (named pass_of p rs)
  named_first p r rs = go (eqb r.pass p)
    where
      go : (b : Bool) → total f (cond b (r ∷ named pass_of p rs) (named pass_of p rs)) ≡ many (one_if b) (f r) + total f (named pass_of p rs)
      go true = omega arith
      go false = omega arith

  -- where just the numbers of the replies that name the pass stand in the list, each once
  by_name : (p : ℕ) (replies : List Reply) (ns : List ℕ) → ((i : ℕ) (r : Reply) → slice_get replies i ≡ Some r → times i ns ≡ one_if (eqb r.pass p)) → counted f replies ns ≡ total f (named pass_of p replies)
  by_name p [] ns each = counted_none ns
  by_name p (r ∷ rs) ns each =
      counted_first r rs ns
      ∙ (λ i. many (each 0 r refl i) (f r) + by_name p rs (behind ns) (λ i s at. times_behind i ns ∙ each (suc i) s at) i)
      ∙ sym (named_first p r rs)

-- ---- each pass of the slice
abbrev numbers_at : List (List ℕ) → ℕ → List ℕ
numbers_at [] k = []
numbers_at (ns ∷ nss) zero = ns
numbers_at (ns ∷ nss) (suc k) = numbers_at nss k

times_part : (i : ℕ) (nss : List (List ℕ)) (k : ℕ) → times i (numbers_at nss k) ≤ times i (all_numbers nss)
times_part i [] k = omega arith
times_part i (ns ∷ nss) zero = let b = times_both i ns (all_numbers nss) in omega arith
times_part i (ns ∷ nss) (suc k) = let b = times_both i ns (all_numbers nss) in let r = times_part i nss k in omega arith

module _ (z : Shape) (docs : List Doc) (replies : List Reply) where
  at_pass : (vs : List PassView) (nss : List (List ℕ)) (ws : List PassView) → EachAnswers z docs replies vs nss ws → (k : ℕ) (v w : PassView) → slice_get vs k ≡ Some v → slice_get ws k ≡ Some w
      → AnswersAll z docs replies v (numbers_at nss k) w
  at_pass [] [] [] e k v w here there = absurd (none-some v here)
  at_pass (x ∷ vs) (ns ∷ nss) (y ∷ ws) e zero v w here there =
      subst (λ (a : PassView). AnswersAll z docs replies a ns w) (same_Some x v here) (subst (λ (b : PassView). AnswersAll z docs replies x ns b) (same_Some y w there) e.0)
  at_pass (x ∷ vs) (ns ∷ nss) (y ∷ ws) e (suc k) v w here there = at_pass vs nss ws e.1 k v w here there
  at_pass (x ∷ vs) [] ws e k v w here there = absurd e
  at_pass (x ∷ vs) (ns ∷ nss) [] e k v w here there = absurd e
  at_pass [] (ns ∷ nss) ws e k v w here there = absurd e
  at_pass [] [] (y ∷ ws) e k v w here there = absurd e

  -- a number that stands in some list stands in that of one of the passes
  whose : (vs : List PassView) (nss : List (List ℕ)) (ws : List PassView) → EachAnswers z docs replies vs nss ws → (i : ℕ) → 0 < times i (all_numbers nss)
      → (k : ℕ) × (v : PassView) × (w : PassView) × (slice_get vs k ≡ Some v) × AnswersAll z docs replies v (numbers_at nss k) w × (0 < times i (numbers_at nss k))
  whose [] [] [] e i some = absurd (omega arith)
  whose (v ∷ vs) (ns ∷ nss) (w ∷ ws) e i some = dite (dec_lt 0 (times i ns))
      (λ here. (0, v, w, refl, e.0, here))
      (λ none. let b = times_both i ns (all_numbers nss) in let r = whose vs nss ws e.1 i (omega arith) in (suc r.0, r.1, r.2, r.3, r.4, r.5))
  whose (v ∷ vs) [] ws e i some = absurd e
  whose (v ∷ vs) (ns ∷ nss) [] e i some = absurd e
  whose [] (ns ∷ nss) ws e i some = absurd e
  whose [] [] (w ∷ ws) e i some = absurd e

  pub replies_of : (vs ws : List PassView) → Batched z docs vs replies ws → RepliesOf docs vs replies
  replies_of vs ws b i low =
      let o = b.once i low in
      let at = whose vs b.numbers ws b.answers i (omega arith) in
      let one = reply_of z docs replies at.1 at.1 (numbers_at b.numbers at.0) at.2 (same at.1) at.4 i at.5 in
      (one.0, one.1, at.0, at.1, one.2, one.3, at.3, one.4)

  module _ (vs ws : List PassView) (b : Batched z docs vs replies ws) (apart : AreDifferent vs) where
    -- a number stands in the list of the pass that its reply names, and in no other
    times_is : (k : ℕ) (v w : PassView) → slice_get vs k ≡ Some v → slice_get ws k ≡ Some w → (i : ℕ) (r : Reply) → slice_get replies i ≡ Some r → times i (numbers_at b.numbers k) ≡ one_if (eqb r.pass v.number)
    times_is k v w here there i r at = dite (ℕ_discrete r.pass v.number) named_so other
      where
        low : i < length docs
        low = let l = slice_get_within replies i r at in let e = b.long in omega arith

        once : times i (all_numbers b.numbers) ≡ 1
        once = b.once i low

        of_it : (j : ℕ) (x y : PassView) → AnswersAll z docs replies x (numbers_at b.numbers j) y → 0 < times i (numbers_at b.numbers j) → r.pass ≡ x.number
        of_it j x y answers some = let one = reply_of z docs replies x x (numbers_at b.numbers j) y (same x) answers i some in ap pass_of (same_Some r one.1 (sym at ∙ one.3)) ∙ one.4.pass

        named_so : r.pass ≡ v.number → times i (numbers_at b.numbers k) ≡ one_if (eqb r.pass v.number)
        named_so is =
            let o = once in
            let y = whose vs b.numbers ws b.answers i (omega arith) in
            let j : y.0 ≡ k = apart y.0 k y.1 v y.3 here (sym (of_it y.0 y.1 y.2 y.4 y.5) ∙ is) in
            let some : 0 < times i (numbers_at b.numbers k) = subst (λ (m : ℕ). 0 < times i (numbers_at b.numbers m)) j y.5 in
            let most = times_part i b.numbers k in
            let one : one_if (eqb r.pass v.number) ≡ 1 = ap one_if (eq-eqb r.pass v.number is) in omega arith

        other : r.pass ≢ v.number → times i (numbers_at b.numbers k) ≡ one_if (eqb r.pass v.number)
        other is_not =
            let z0 = never r.pass v.number is_not in
            dite (dec_lt 0 (times i (numbers_at b.numbers k)))
            (λ some. absurd (is_not (of_it k v w (at_pass vs b.numbers ws b.answers k v w here there) some)))
            (λ none. omega arith)

    pub add_up : AddUp vs ws replies
    add_up k v w here there =
        let answers = at_pass vs b.numbers ws b.answers k v w here there in
        let ns = numbers_at b.numbers k in
        let is = times_is k v w here there in record {
          touches = let t = touches_rise z docs replies v ns w answers in let n = by_name in_bank v.number replies ns is in omega arith;
          enters = let t = enters_rise z docs replies v ns w answers in let n = by_name enters_by v.number replies ns is in omega arith;
        }
