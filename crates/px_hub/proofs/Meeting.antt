-- A pass takes a note in.
use Rattle.std.proofs.Common.{◌≡◌, ℕ, ◌<◌, true, false, cond, leb, leb-true, ◌⊎◌, List, length, refl, sym, ap, ◌∙◌, subst, arith}
use Rattle.px_xpath.specs.declared.numbered.Numbered.{Numbered}
use Rattle.px_xpath.specs.Histories.{IsLegal}
use Rattle.px_workload.specs.declared.change.Change.{Change}
use Rattle.px_workload.specs.Changes.{history}
use Rattle.px_rule.specs.declared.view.View.{View}
use Rattle.px_rule.specs.Histories.{Begins, named}
use Rattle.px_rule.specs.Steps.{IsTold, IsMet, longer, whole_met}
use Rattle.px_rule.specs.Table.{TableName}
use Rattle.px_rule.proofs.Beginnings.{begins_whole, begins_trans, begins_length, named_begins}
use Rattle.px_hub.specs.declared.at_version.AtVersion.{AtVersion}
use Rattle.px_hub.specs.Entries.{who_of}
use Rattle.px_hub.specs.Passes.{PassView, pass_view, IsSeen, AreLiveBehind, IsPass}
use Rattle.px_hub.specs.Calls.{Met}
use Rattle.px_hub.proofs.Keeping.{built_grows, home_grows}

pub longer_less : {E : Type 0} (xs ys : List E) → length ys < length xs → longer xs ys ≡ xs
longer_less {E} xs ys h = elim (leb (length xs) (length ys)) as (λ t. leb (length xs) (length ys) ≡ t → cond t ys xs ≡ xs) [ true ↦ (λ e. let l = leb-true (length xs) (length ys) e in absurd (omega arith)) | false ↦ (λ _. refl) ] refl

-- p is the pass, and u what the note knows
module _ (table at at' : TableName) (passes version version' : ℕ) (filters filters' : List Numbered) (c : AtVersion) (p : PassView) (u : View Change) where
  abbrev met : View Change
  met = whole_met p.view u

  -- the entries of the pass in what it has seen are those that it has asked for
  own : IsPass table passes at version filters c p → IsTold who_of (λ h. IsLegal (history h)) met → Begins p.view.past.seen met.past.seen → named who_of p.number met.past.seen ≡ p.view.past.mine
  own i told before =
      let log = told.1.log in
      let now = named who_of p.number met.past.seen in
      let mine = p.view.past.mine in
      let fits = begins_length (named who_of p.number p.view.past.seen) now (named_begins who_of p.number p.view.past.seen met.past.seen before) in
      let long = ap length i.own in
      sym (begins_whole now mine (begins_trans now (named who_of p.number log) mine (named_begins who_of p.number met.past.seen log told.1.seen) (told.1.of_pass p.number i.kind)) (omega arith))

  pub meets : (w : View Change) (seen : List Change) → IsPass table passes at version filters c p → w ≡ met → IsTold who_of (λ h. IsLegal (history h)) met → IsMet p.view u met
      → longer p.view.past.seen u.past.seen ≡ seen → ((seen ≡ p.view.past.seen) ⊎ (seen ≡ u.past.seen)) → at' ≡ table → IsSeen passes seen → version' ≡ length seen → AreLiveBehind seen filters'
      → IsPass table passes at' version' filters' c (pass_view p.number w p.have p.home p.is_open) × Met u.past.seen p (pass_view p.number w p.have p.home p.is_open)
  meets w seen i w_is told both is which at_is is_seen version_is live =
      subst (λ (y : View Change). IsPass table passes at' version' filters' c (pass_view p.number y p.have p.home p.is_open) × Met u.past.seen p (pass_view p.number y p.have p.home p.is_open)) (sym w_is) (
        record {
          at_table = at_is;
          kind = i.kind;
          below = i.below;
          own = own i told both.0;
          seen = subst (λ l. IsSeen passes l) (sym is) is_seen;
          version_is = version_is ∙ ap length (sym is);
          live = subst (λ l. AreLiveBehind l filters') (sym is) live;
          built = built_grows p.view.past.seen met.past.seen c both.0 i.built;
          home = home_grows table.shape.banks p.number p.have p.view met p.home u.stay.stays u.stay.busy refl refl i.home;
          outside = i.outside;
        },
        record {
          number = refl;
          mine = refl;
          own = own i told both.0;
          before = both.0;
          noted = both.1;
          longer = subst (λ l. (l ≡ p.view.past.seen) ⊎ (l ≡ u.past.seen)) (sym is) which;
          machine = record { have = refl; home = refl; is_open = refl; place = refl; enters = refl; touch = refl };
        },
      )
