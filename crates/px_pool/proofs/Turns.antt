-- The turns of a worker.
use Rattle.std.proofs.Common.{◌≡◌, ℕ, ◌+◌, ◌<◌, ◌≤◌, false, List, [], ◌∷◌, ◌++◌, map, refl, sym, ap, ◌∙◌, subst, arith}
use Rattle.std.specs.Prelude.{leb, length, Result, Ok, Err, IfOk}
use Rattle.std.proofs.Common.{le-leb}
use Rattle.std.proofs.lemmas.Bool.{lt-leb}
use Rattle.px_rule.specs.Banks.{one_if}
use Rattle.px_rule.specs.declared.shape.Shape.{Shape}
use Rattle.px_rule.specs.declared.view.Place.TheVariants.{Outside}
use Rattle.px_reader.specs.declared.doc.Doc.{Doc}
use Rattle.px_crew.specs.declared.rule.Hand.{Hand}
use Rattle.px_crew.specs.declared.rule.Quota.{Quota}
use Rattle.px_crew.specs.Drawn.{WordName, Seated, AllBelow, Drew, hand}
use Rattle.px_hub.specs.Passes.{PassView}
use Rattle.px_hub.specs.Replying.{Stays}
use Rattle.px_pool.specs.declared.worker.Answer.{Answer}
use Rattle.px_pool.specs.Batches.{Answers}
use Rattle.px_pool.specs.Working.{Calls, Left, Going, Done, number_of, IsLeast}
use Rattle.px_pool.proofs.Staying.{stays_same, stays_on}

least_more : (drawn : List ℕ) (n : ℕ) → IsLeast (n + 1) (drawn ++ n ∷ [])
least_more [] n m below = omega (arith, below.0)
least_more (x ∷ xs) n m below = least_more xs n m below.1

pub map-more : (answers : List Answer) (a : Answer) → map number_of (answers ++ a ∷ []) ≡ map number_of answers ++ a.number ∷ []
map-more [] a = refl
map-more (b ∷ bs) a = ap (λ ns. b.number ∷ ns) (map-more bs a)

pub none_at_err : {T E : Type 0} (P : T → Type 0) (r : Result T E) (e : E) → r ≡ Err e → IfOk r P
none_at_err P (Ok x) e is = absurd (let same : Ok x ≡ Err e = is in cc)
none_at_err P (Err x) e is = tt

module _ (z : Shape) (docs : List Doc) where
  -- one call more
  calls_more : (v : PassView) (answers : List Answer) (u : PassView) (a : Answer) (w : PassView) → Calls z docs v answers u → Answers z docs u a.number a.reply w → Calls z docs v (answers ++ a ∷ []) w
  calls_more v [] u a w is r = (w, subst (λ (x : PassView). Answers z docs x a.number a.reply w) is r, refl)
  calls_more v (b ∷ bs) u a w c r = (c.0, c.1, calls_more c.0 bs u a w c.2 r)

  -- a worker that has drawn nothing, and its pass
  pub begins : (draws : WordName) (v : PassView) (a : Seated) → v.is_open ≡ false → v.view.stay.place ≡ Outside → a.table ≡ draws.table → a.hand ≡ hand 1 [] 0 → Going z docs draws v a [] v a
  begins draws v a closed outside table none = record {
    left = record { stays = stays_same v closed outside; table = refl };
    of_draws = table;
    drew = none;
    calls = refl;
  }

  -- a number below the limit was drawn, and its document answered
  pub goes_on : (quota : Quota) (draws : WordName) (v : PassView) (a : Seated) (answers : List Answer) (u : PassView) (b : Seated) (one : Answer) (w : PassView) (d : Seated)
      → quota.limit ≡ length docs → Going z docs draws v a answers u b → one.number < length docs → d.table ≡ b.table → Drew quota b.hand one.number d.hand → Stays u w
      → Answers z docs u one.number one.reply w → Going z docs draws v a (answers ++ one ∷ []) w d
  goes_on quota draws v a answers u b one w d limit g low table drew stays r = record {
    left = record { stays = stays_on v u w g.left.stays stays; table = table ∙ g.left.table };
    of_draws = table ∙ g.of_draws;
    drew =
        let e : one_if (leb quota.limit one.number) ≡ 0 = ap one_if (lt-leb quota.limit one.number (omega (arith, limit))) in
        drew.hand_is ∙ (λ i. hand (g.drew i).parts ((g.drew i).drawn ++ one.number ∷ []) ((g.drew i).ends + e i)) ∙ ap (λ ns. hand 1 ns 0) (sym (map-more answers one));
    calls = calls_more v answers u one w g.calls r;
  }

  -- and it is the last that was drawn
  pub goes_round : (quota : Quota) (draws : WordName) (v : PassView) (a : Seated) (answers : List Answer) (u : PassView) (b : Seated) (one : Answer) (w : PassView) (d : Seated) (items : List Answer)
      → quota.limit ≡ length docs → Going z docs draws v a answers u b → one.number < length docs → d.table ≡ b.table → Drew quota b.hand one.number d.hand → Stays u w
      → Answers z docs u one.number one.reply w → items ≡ answers ++ one ∷ [] → Going z docs draws v a items w d × IsLeast (one.number + 1) (map number_of items)
  goes_round quota draws v a answers u b one w d items limit g low table drew stays r is =
      subst (λ (xs : List Answer). Going z docs draws v a xs w d × IsLeast (one.number + 1) (map number_of xs)) (sym is)
      (goes_on quota draws v a answers u b one w d limit g low table drew stays r, subst (λ (ns : List ℕ). IsLeast (one.number + 1) ns) (sym (map-more answers one)) (least_more (map number_of answers) one.number))

  -- a number that is not below the limit was drawn
  pub ends_there : (quota : Quota) (draws : WordName) (v : PassView) (a : Seated) (answers : List Answer) (w : PassView) (b : Seated) (n : ℕ) (d : Seated)
      → quota.limit ≡ length docs → Going z docs draws v a answers w b → length docs ≤ n → Drew quota b.hand n d.hand → Done z docs v answers w d.hand
  ends_there quota draws v a answers w b n d limit g high drew = record {
    end = n;
    beyond = high;
    drew =
        let e : one_if (leb quota.limit n) ≡ 1 = ap one_if (le-leb quota.limit n (omega (arith, limit))) in
        drew.hand_is ∙ (λ i. hand (g.drew i).parts ((g.drew i).drawn ++ n ∷ []) ((g.drew i).ends + e i));
    calls = g.calls;
  }

  -- what a worker that gives up leaves
  pub leaves : (draws : WordName) (v : PassView) (a : Seated) (answers : List Answer) (u : PassView) (b : Seated) (w : PassView) (d : Seated)
      → Going z docs draws v a answers u b → d.table ≡ b.table → Stays u w → Left v a w d
  leaves draws v a answers u b w d g table stays = record { stays = stays_on v u w g.left.stays stays; table = table ∙ g.left.table }

  -- the next number is at least the least
  pub at_least : (draws : WordName) (v : PassView) (a : Seated) (answers : List Answer) (u : PassView) (b : Seated) (quota : Quota) (n least : ℕ) (d : Seated)
      → Going z docs draws v a answers u b → IsLeast least (map number_of answers) → Drew quota b.hand n d.hand → least ≤ n
  at_least draws v a answers u b quota n least d g is drew = is n (subst (AllBelow n) (ap (λ (h : Hand). h.drawn) g.drew) drew.above)
