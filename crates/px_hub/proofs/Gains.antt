-- Which entries a pass has seen more once it has caught up, and whose they are.
use Rattle.std.proofs.Common.{◌≡◌, ℕ, ◌≤◌, List, [], ◌∷◌, ◌++◌, length, Some, refl, sym, ap, ◌∙◌, arith, length-append}
use Rattle.std.proofs.lemmas.List.{append-nil}
use Rattle.px_rule.specs.declared.view.Kind.TheVariants.{Pass}
use Rattle.px_rule.specs.declared.view.Stay.{Stay}
use Rattle.px_rule.specs.declared.view.View.{View}
use Rattle.px_rule.specs.Histories.{Begins, named}
use Rattle.px_rule.specs.Steps.{whole_asking}
use Rattle.px_rule.proofs.Beginnings.{begins_length, named-append, named_own}
use Rattle.px_hub.specs.Settling.{Settled}

none_left : {A : Type 0} (xs : List A) → length xs ≤ 0 → xs ≡ []
none_left [] h = refl
none_left (x ∷ xs) h = absurd (omega arith)

module _ {E : Type 0} (who : E → ℕ) where
  -- entries came of which none names p
  pub record Came (p : ℕ) (v w : View E) : Type 0 where
    pub others : List E
    pub of_others : named who p others ≡ []
    pub seen : w.past.seen ≡ v.past.seen ++ others
    pub own : named who p w.past.seen ≡ w.past.mine

  -- such entries came, and then one that names p
  pub record Gained (p : ℕ) (e : E) (v w : View E) : Type 0 where
    pub others : List E
    pub of_others : named who p others ≡ []
    pub seen : w.past.seen ≡ (v.past.seen ++ others) ++ e ∷ []
    pub own : named who p w.past.seen ≡ w.past.mine

  -- the entries that name p, behind others
  named_behind : (p : ℕ) (seen others log mine : List E) → named who p seen ≡ mine → log ≡ seen ++ others → named who p log ≡ mine ++ named who p others
  named_behind p seen others log mine whole is = ap (named who p) is ∙ (named-append who p seen others ∙ ap (λ l. l ++ named who p others) whole)

module _ {E : Type 0} (who : E → ℕ) (legal : List E → Type 0) where
  pub came : (p made : ℕ) (log : List E) (banks : Stay) (v w : View E) → v.past.kind ≡ Pass p → named who p v.past.seen ≡ v.past.mine → Settled who legal log made banks v w → Came who p v w
  came p made log banks v w is_pass whole s =
      let others : List E = s.before.0 in
      let now = named_behind who p v.past.seen others log v.past.mine whole s.before.1 in
      let none : named who p others ≡ [] = none_left (named who p others) (
      let fits = begins_length (named who p log) w.past.mine (s.own p is_pass) in
      let long = ap length now ∙ length-append v.past.mine (named who p others) in
      let mine = ap length s.mine in omega arith) in
      record {
        others = others;
        of_others = none;
        seen = s.seen ∙ s.before.1;
        own = ap (named who p) s.seen ∙ (now ∙ (ap (λ l. v.past.mine ++ l) none ∙ (append-nil v.past.mine ∙ sym s.mine)));
      }

  pub gained : (p made : ℕ) (e : E) (log : List E) (banks : Stay) (v w : View E) → v.past.kind ≡ Pass p → who e ≡ p → named who p v.past.seen ≡ v.past.mine → Begins v.past.seen log
      → Settled who legal (log ++ e ∷ []) made banks (whole_asking (Some e) v) w → Gained who p e v w
  gained p made e log banks v w is_pass is_who whole before s =
      let others : List E = before.0 in
      let now = named_behind who p v.past.seen others log v.past.mine whole before.1 in
      let all : named who p (log ++ e ∷ []) ≡ (v.past.mine ++ named who p others) ++ e ∷ [] = named_own who p e log is_who ∙ ap (λ l. l ++ e ∷ []) now in
      let none : named who p others ≡ [] = none_left (named who p others) (
      let fits = begins_length (named who p (log ++ e ∷ [])) w.past.mine (s.own p is_pass) in
      let long = ap length all ∙ length-append (v.past.mine ++ named who p others) (e ∷ []) in
      let part = length-append v.past.mine (named who p others) in
      let mine = ap length s.mine ∙ length-append v.past.mine (e ∷ []) in omega arith) in
      record {
        others = others;
        of_others = none;
        seen = s.seen ∙ ap (λ l. l ++ e ∷ []) before.1;
        own = ap (named who p) s.seen ∙ (all ∙ (ap (λ l. (v.past.mine ++ l) ++ e ∷ []) none ∙ (ap (λ l. l ++ e ∷ []) (append-nil v.past.mine) ∙ sym s.mine)));
      }
