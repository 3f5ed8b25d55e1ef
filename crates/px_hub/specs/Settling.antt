-- What a pass and the desk know once the pass has caught up with the desk.
use Rattle.std.specs.Prelude.{◌≡◌, ℕ, ◌<◌, List, [], ◌∷◌, ◌++◌, length, All}
use Rattle.px_rule.specs.declared.view.View.{View}
use Rattle.px_rule.specs.declared.view.Stay.{Stay}
use Rattle.px_rule.specs.declared.view.Kind.TheVariants.{Pass}
use Rattle.px_rule.specs.Histories.{Begins, named}
use Rattle.px_rule.specs.Steps.{standing}

-- What stays of what the desk knows, whatever it hears, loads and claims
pub record SameDesk {E : Type 0} (v w : View E) : Type 0 where
  pub kind : w.past.kind ≡ v.past.kind
  pub permit : w.past.permit ≡ v.past.permit
  pub seen : w.past.seen ≡ v.past.seen
  pub made : w.past.made ≡ v.past.made
  pub keeps : w.stay.keeps ≡ v.stay.keeps

-- the desk has accepted an entry more
abbrev pub with_entry : {E : Type 0} → E → View E → View E
with_entry entry v = record v { past = record v.past { seen = v.past.seen ++ entry ∷ [] } }

-- `log` is the desk's history, `made` how many passes it made, and `banks` what it knows of the banks
module _ {E : Type 0} (who : E → ℕ) (legal : List E → Type 0) where
  -- The pass has seen all that the desk has, loaded its length last, and knows the banks that stand and the claims that failed
  pub record Settled (log : List E) (made : ℕ) (banks : Stay) (v w : View E) : Type 0 where
    pub kind : w.past.kind ≡ v.past.kind
    pub mine : w.past.mine ≡ v.past.mine
    pub seen : w.past.seen ≡ log
    pub before : Begins v.past.seen log
    pub loads : v.past.loads < w.past.loads
    pub last : w.past.last ≡ length log
    pub of_passes : All (λ e. who e < made) log
    pub is_legal : legal log
    pub own : (p : ℕ) → v.past.kind ≡ Pass p → Begins (named who p log) w.past.mine
    pub place : w.stay.place ≡ v.stay.place
    pub enters : w.stay.enters ≡ v.stay.enters
    pub stays : w.stay.stays ≡ standing 0 banks.stands ++ v.stay.stays
    pub busy : w.stay.busy ≡ banks.busy ++ v.stay.busy
    pub touch : w.touch ≡ v.touch
