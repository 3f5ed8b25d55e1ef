-- What a pass and the desk keep when the pass catches up, and when a change of it is accepted.
use Rattle.std.proofs.Common.{◌≡◌, ℕ, zero, suc, ◌+◌, ◌≤◌, ◌<◌, List, [], ◌∷◌, ◌++◌, length, length-append, Some, refl, sym, ap, ◌∙◌, subst, arith}
use Rattle.std.specs.Prelude.{All, take}
use lib.ListN.{get_elem?}
use Rattle.std.specs.Arc.{arc_value}
use Rattle.px_xpath.specs.declared.numbered.Numbered.{Numbered}
use Rattle.px_xpath.specs.Histories.{IsLegal}
use Rattle.px_afa.specs.Building.{program}
use Rattle.px_workload.specs.declared.change.Change.{Change}
use Rattle.px_workload.specs.Changes.{history}
use Rattle.px_rule.specs.declared.view.Busy.{Busy}
use Rattle.px_rule.specs.declared.view.Stay.{Stay}
use Rattle.px_rule.specs.declared.view.View.{View}
use Rattle.px_rule.specs.Histories.{Begins, named}
use Rattle.px_rule.specs.Steps.{standing, whole_asking}
use Rattle.px_rule.specs.Table.{TableName, Seated}
use Rattle.px_rule.proofs.Beginnings.{begins_length}
use Rattle.px_hub.specs.declared.at_version.AtVersion.{AtVersion}
use Rattle.px_hub.specs.declared.home.Home.{Home}
use Rattle.px_hub.specs.declared.home.Home.TheVariants.{Bank, NoBank}
use Rattle.px_hub.specs.Banking.{AreStands}
use Rattle.px_hub.specs.Entries.{who_of}
use Rattle.px_hub.specs.Settling.{SameDesk, Settled, with_entry}
use Rattle.px_hub.specs.Passes.{PassView, pass_view, AreLiveBehind, IsBuilt, IsHome, IsPass, IsDesk}
use Rattle.px_hub.specs.Calls.{CaughtUp, Accepted}
use Rattle.px_hub.proofs.Gains.{Came, Gained, came, gained}

pub take_front : {A : Type 0} (n : ℕ) (xs ys : List A) → n ≤ length xs → take n (xs ++ ys) ≡ take n xs
take_front zero xs ys h = refl
take_front (suc n) [] ys h = absurd (omega arith)
take_front (suc n) (x ∷ xs) ys h = ap (λ l. x ∷ l) (take_front n xs ys (omega arith))

at_back : {A : Type 0} (xs ys : List A) (i j : ℕ) → j ≡ length xs + i → get_elem? (xs ++ ys) j ≡ get_elem? ys i
at_back [] ys i j e = let same : j ≡ i = omega arith in ap (get_elem? ys) same
at_back (x ∷ xs) ys i zero e = absurd (omega arith)
at_back (x ∷ xs) ys i (suc j) e = at_back xs ys i j (omega arith)

-- the machine of the first changes is so behind more changes
pub built_grows : (xs ys : List Change) (c : AtVersion) → Begins xs ys → IsBuilt xs c → IsBuilt ys c
built_grows xs ys c b k =
    let same : take c.version ys ≡ take c.version xs = ap (take c.version) b.1 ∙ take_front c.version xs b.0 k.within in
    record {
      within = let l = begins_length xs ys b in let w = k.within in omega arith;
      live = subst (λ l. AreLiveBehind l (arc_value c.live).filters) (sym same) k.live;
      program = k.program ∙ ap (λ l. program (history l)) (sym same);
      compiled = k.compiled ∙ ap (λ l. program (history l)) (sym same);
    }

-- a bank, or its lack, lasts while stays and busy entries are added at the front
pub home_grows : (banks number n : ℕ) (v w : View Change) (h : Home) (front : List (ℕ × ℕ)) (more : List Busy) → w.stay.stays ≡ front ++ v.stay.stays → w.stay.busy ≡ more ++ v.stay.busy
    → IsHome banks number n v h → IsHome banks number n w h
home_grows banks number n v w (Bank k) front more stays busy s =
    let i : ℕ = length front + s.1.0 in
    (s.0, (i, ap (λ l. get_elem? l i) stays ∙ (at_back front v.stay.stays s.1.0 i refl ∙ s.1.1)))
home_grows banks number n v w (NoBank words) front more stays busy s =
    (s.0, λ k word at. let r = s.1 k word at in let i : ℕ = length more + r.0 in (i, r.1, ap (λ l. get_elem? l i) busy ∙ (at_back more v.stay.busy r.0 i refl ∙ r.2), r.3))

-- p is a pass, w what it knows after a call
module _ (table at at' : TableName) (passes version version' : ℕ) (filters filters' : List Numbered) (c : AtVersion) (p : PassView) (w : View Change) where
  abbrev after : PassView
  after = pass_view p.number w p.have p.home p.is_open

  -- What holds of a pass holds of it once it has caught up: v is the pass as it was then, perhaps with one entry asked for
  settled_pass : (log : List Change) (made : ℕ) (banks : Stay) (v : View Change) → IsPass table passes at version filters c p → v.past.kind ≡ p.view.past.kind → v.past.seen ≡ p.view.past.seen → v.stay ≡ p.view.stay
      → Settled who_of (λ h. IsLegal (history h)) log made banks v w → made ≡ passes → at' ≡ table → version' ≡ length log → AreLiveBehind log filters'
      → named who_of p.number w.past.seen ≡ w.past.mine → IsPass table passes at' version' filters' c after
  settled_pass log made banks v i kind seen stay s made_is at_is version_is live own = record {
    at_table = at_is;
    kind = s.kind ∙ (kind ∙ i.kind);
    below = i.below;
    own = own;
    seen = record {
      of_passes = subst (λ l. All (λ (x : Change). who_of x < passes) l) (sym s.seen) (subst (λ (m : ℕ). All (λ (x : Change). who_of x < m) log) made_is s.of_passes);
      is_legal = subst (λ l. IsLegal (history l)) (sym s.seen) s.is_legal;
    };
    version_is = version_is ∙ ap length (sym s.seen);
    live = subst (λ l. AreLiveBehind l filters') (sym s.seen) live;
    built = subst (λ l. IsBuilt l c) (sym s.seen) (built_grows p.view.past.seen log c (subst (λ l. Begins l log) seen s.before) i.built);
    home = home_grows table.shape.banks p.number p.have p.view w p.home (standing 0 banks.stands) banks.busy (s.stays ∙ ap (λ l. standing 0 banks.stands ++ l.stays) stay) (s.busy ∙ ap (λ l. banks.busy ++ l.busy) stay) i.home;
    outside = λ closed. s.place ∙ (ap (λ l. l.place) stay ∙ i.outside closed);
  }

  -- the pass has caught up
  pub catches_up : (log : List Change) (made : ℕ) (banks : Stay) → IsPass table passes at version filters c p → Settled who_of (λ h. IsLegal (history h)) log made banks p.view w → made ≡ passes → at' ≡ table
      → version' ≡ length log → AreLiveBehind log filters' → IsPass table passes at' version' filters' c after × CaughtUp p after
  catches_up log made banks i s made_is at_is version_is live =
      let m : Came who_of p.number p.view w = came who_of (λ h. IsLegal (history h)) p.number made log banks p.view w i.kind i.own s in (
        settled_pass log made banks p.view i refl refl refl s made_is at_is version_is live m.own,
        record {
          came = record { number = refl; others = m.others; of_others = m.of_others; seen = m.seen; mine = s.mine; own = m.own };
          machine = record { have = refl; home = refl; is_open = refl; place = s.place; enters = s.enters; touch = s.touch };
          loads = s.loads;
          last = s.last ∙ ap length (sym s.seen);
        },
      )

  -- a change of the pass was accepted behind the history
  pub accepts : (change : Change) (log : List Change) (made : ℕ) (banks : Stay) → IsPass table passes at version filters c p → who_of change ≡ p.number → Begins p.view.past.seen log
      → Settled who_of (λ h. IsLegal (history h)) (log ++ change ∷ []) made banks (whole_asking (Some change) p.view) w → made ≡ passes → at' ≡ table
      → version' ≡ length (log ++ change ∷ []) → AreLiveBehind (log ++ change ∷ []) filters' → IsPass table passes at' version' filters' c after × Accepted change version' p after
  accepts change log made banks i is_who before s made_is at_is version_is live =
      let m : Gained who_of p.number change p.view w = gained who_of (λ h. IsLegal (history h)) p.number made change log banks p.view w i.kind is_who i.own before s in (
        settled_pass (log ++ change ∷ []) made banks (whole_asking (Some change) p.view) i refl refl refl s made_is at_is version_is live m.own,
        record {
          number = refl;
          others = m.others;
          of_others = m.of_others;
          seen = m.seen;
          mine = s.mine;
          own = m.own;
          version_is = version_is ∙ ap length (sym s.seen);
          machine = record { have = refl; home = refl; is_open = refl; place = s.place; enters = s.enters; touch = s.touch };
        },
      )

-- what the desk has after a call
module _ (table : TableName) (passes : ℕ) (seat seat' : Seated Change) (journal : List Change) (versions : List ℕ) (c : AtVersion) where
  -- no change came
  pub desk_stays : (versions' : List ℕ) (c' : AtVersion) → IsDesk table passes seat journal versions c → SameDesk seat.view seat'.view → seat'.table ≡ table
      → AreStands table.shape.banks versions' seat'.view.stay.stands → All (λ n. n ≤ length journal) versions' → IsBuilt journal c' → IsDesk table passes seat' journal versions' c'
  desk_stays versions' c' i s at stands reached built = record {
    at_table = at;
    kind = s.kind ∙ i.kind;
    keeps = s.keeps ∙ i.keeps;
    permit = s.permit ∙ i.permit;
    seen = s.seen ∙ i.seen;
    made = s.made ∙ i.made;
    stands = stands;
    reached = reached;
    built = built;
  }

  -- a change was accepted
  pub desk_accepts : (change : Change) (journal' : List Change) → IsDesk table passes seat journal versions c → SameDesk (with_entry change seat.view) seat'.view → seat'.view.stay ≡ seat.view.stay → seat'.table ≡ table
      → journal' ≡ journal ++ change ∷ [] → IsDesk table passes seat' journal' versions c
  desk_accepts change journal' i s banks at more = record {
    at_table = at;
    kind = s.kind ∙ i.kind;
    keeps = s.keeps ∙ i.keeps;
    permit = s.permit ∙ i.permit;
    seen = s.seen ∙ (ap (λ l. l ++ change ∷ []) i.seen ∙ sym more);
    made = s.made ∙ i.made;
    stands = subst (λ (l : Stay). AreStands table.shape.banks versions l.stands) (sym banks) i.stands;
    reached = λ k d low. let most = i.reached k d low in let long = ap length more ∙ length-append journal (change ∷ []) in omega arith;
    built = built_grows journal journal' c (change ∷ [], more) i.built;
  }
