-- What a refresh gives a pass.
use Rattle.std.proofs.Common.{◌≡◌, ℕ, true, false, ◌+◌, ◌<◌, List, ◌++◌, length, refl, sym, ap, ◌∙◌, subst, arith}
use Rattle.std.specs.Prelude.{All}
use mathlib.Core.Option.{some}
use lib.ListN.{get_elem?}
use Rattle.px_xpath.specs.declared.numbered.Numbered.{Numbered}
use Rattle.px_xpath.specs.Histories.{IsLegal}
use Rattle.px_workload.specs.declared.change.Change.{Change}
use Rattle.px_workload.specs.Changes.{history}
use Rattle.px_rule.specs.declared.view.Busy.{Busy}
use Rattle.px_rule.specs.declared.view.Kind.{Kind}
use Rattle.px_rule.specs.declared.view.Kind.TheVariants.{Desk, Pass, DeskNote, PassNote, Spent}
use Rattle.px_rule.specs.declared.view.Stay.{Stay}
use Rattle.px_rule.specs.declared.view.View.{View}
use Rattle.px_rule.specs.Rule.{is_pass}
use Rattle.px_rule.specs.Steps.{loaded, note_kind, number_of, standing}
use Rattle.px_rule.specs.Table.{TableName}
use Rattle.px_rule.proofs.Views.{below}
use Rattle.px_hub.specs.declared.at_version.AtVersion.{AtVersion}
use Rattle.px_hub.specs.declared.home.Home.{Home}
use Rattle.px_hub.specs.declared.home.Home.TheVariants.{Bank, NoBank}
use Rattle.px_hub.specs.Entries.{who_of}
use Rattle.px_hub.specs.Settling.{Settled}
use Rattle.px_hub.specs.Passes.{PassView, pass_view, AreLiveBehind, IsBuilt, IsHome, IsPass}
use Rattle.px_hub.specs.Banking.{GivesHome}
use Rattle.px_hub.specs.Calls.{FoundHome, Refreshed}
use Rattle.px_hub.proofs.Standing.{standing_has, at_front}
use Rattle.px_hub.proofs.Trying.{index_at}
use Rattle.px_hub.proofs.Gains.{Came, came}

-- a note of a pass has its number
pub noted_number : (k : Kind) → is_pass k ≡ true → number_of (note_kind k) ≡ number_of k
noted_number (Pass p) e = refl
noted_number Desk e = absurd (cc)
noted_number DeskNote e = absurd (cc)
noted_number (PassNote p) e = absurd (cc)
noted_number Spent e = absurd (cc)

abbrev busy_of : ℕ → ℕ → ℕ → ℕ → ℕ → Busy
busy_of number n loads k word = record { bank = k; new = n; word = word; pass = number; loads = loads }

-- the bank, or the words of all, as the pass was told of them
abbrev FoundAt : ℕ → ℕ → ℕ → ℕ → View Change → Home → Type 0
FoundAt banks number n loads w (Bank k) = (k < banks) × ((i : ℕ) × (get_elem? w.stay.stays i ≡ some (k, n)))
FoundAt banks number n loads w (NoBank words) = (length words ≡ banks) × ((k word : ℕ) → get_elem? words k ≡ some word → (i : ℕ) × (get_elem? w.stay.busy i ≡ some (busy_of number n loads k word)))

found_at : (banks number n loads : ℕ) (versions : List ℕ) (d : Stay) (w : View Change) (rest : List (ℕ × ℕ)) (more : List Busy) (h : Home) → GivesHome versions n number loads banks d h
    → w.stay.stays ≡ standing 0 d.stands ++ rest → w.stay.busy ≡ d.busy ++ more → FoundAt banks number n loads w h
found_at banks number n loads versions d w rest more (Bank k) gives stays busy =
    let b = gives.1 in
    let r = standing_has 0 d.stands k b.0 b.1 b.3 in
    let on : 0 + k ≡ k = omega arith in
    (gives.0, (r.0, ap (λ l. get_elem? l r.0) stays ∙ at_front (standing 0 d.stands) rest r.0 (k, n) (r.1 ∙ (λ i. some (on i, b.2 i)))))
found_at banks number n loads versions d w rest more (NoBank words) gives stays busy = (
  gives.0,
  λ k word at.
      let low : k < banks = let l = below words k word at in let m = gives.0 in omega arith in
      let r = gives.1 k low in
      let word_is = index_at words k word at in
      (r.0, ap (λ l. get_elem? l r.0) busy ∙ at_front d.busy more r.0 (busy_of number n loads k word) (r.1 ∙ (λ i. some (busy_of number n loads k (word_is i))))),
)

home_is : (banks number n loads : ℕ) (w : View Change) (h : Home) → FoundAt banks number n loads w h → IsHome banks number n w h
home_is banks number n loads w (Bank k) f = f
home_is banks number n loads w (NoBank words) f = (f.0, λ k word at. let r = f.1 k word at in (r.0, busy_of number n loads k word, r.1, (refl, refl, refl, refl)))

found_home : (banks loads : ℕ) (v w : PassView) (h : Home) → v.view.past.loads < loads → FoundAt banks w.number (length w.view.past.seen) loads w.view h → FoundHome banks v w h
found_home banks loads v w (Bank k) more f = f
found_home banks loads v w (NoBank words) more f = (f.0, λ k word at. let r = f.1 k word at in (r.0, busy_of w.number (length w.view.past.seen) loads k word, r.1, (refl, refl, refl, refl), more))

-- p is a pass, d what the desk knows of the banks once it gave it one, and w what the pass knows then
module _ (table at at' : TableName) (passes version version' : ℕ) (filters filters' : List Numbered) (c c' : AtVersion) (p : PassView) (d : Stay) (w : View Change) (home : Home) where
  abbrev after : PassView
  after = pass_view p.number w c'.version home p.is_open

  pub refreshes : (found made : ℕ) (log : List Change) (versions : List ℕ) → IsPass table passes at version filters c p → GivesHome versions (length log) (number_of p.view.past.kind) (p.view.past.loads + 1) table.shape.banks d home
      → Settled who_of (λ h. IsLegal (history h)) log made d (record p.view { past = loaded p.view.past found }) w
      → made ≡ passes → at' ≡ table → version' ≡ length log → AreLiveBehind log filters' → c'.version ≡ length log → IsBuilt log c' → p.is_open ≡ false
      → IsPass table passes at' version' filters' c' after × Refreshed table.shape.banks version' p after
  refreshes found made log versions i gives s made_is at_is version_is live have built closed =
      let v : View Change = record p.view { past = loaded p.view.past found } in
      let m : Came who_of p.number v w = came who_of (λ h. IsLegal (history h)) p.number made log d v w i.kind i.own s in
      let long : length w.past.seen ≡ length log = ap length s.seen in
      let at : FoundAt table.shape.banks p.number (length log) (p.view.past.loads + 1) w home =
      found_at table.shape.banks p.number (length log) (p.view.past.loads + 1) versions d w p.view.stay.stays p.view.stay.busy home
      (subst (λ (n : ℕ). GivesHome versions (length log) n (p.view.past.loads + 1) table.shape.banks d home) (ap number_of i.kind) gives) s.stays s.busy in (
        record {
          at_table = at_is;
          kind = s.kind ∙ i.kind;
          below = i.below;
          own = m.own;
          seen = record {
            of_passes = subst (λ l. All (λ (x : Change). who_of x < passes) l) (sym s.seen) (subst (λ (n : ℕ). All (λ (x : Change). who_of x < n) log) made_is s.of_passes);
            is_legal = subst (λ l. IsLegal (history l)) (sym s.seen) s.is_legal;
          };
          version_is = version_is ∙ sym long;
          live = subst (λ l. AreLiveBehind l filters') (sym s.seen) live;
          built = subst (λ l. IsBuilt l c') (sym s.seen) built;
          home = subst (λ (n : ℕ). IsHome table.shape.banks p.number n w home) (sym have) (home_is table.shape.banks p.number (length log) (p.view.past.loads + 1) w home at);
          outside = λ c. s.place ∙ i.outside c;
        },
        record {
          came = record { number = refl; others = m.others; of_others = m.of_others; seen = m.seen; mine = s.mine; own = m.own };
          version_is = version_is ∙ sym long;
          have = have ∙ sym version_is;
          loads = let more = s.loads in omega arith;
          last = s.last ∙ sym version_is;
          home = found_home table.shape.banks (p.view.past.loads + 1) p after home (omega arith) (subst (λ (n : ℕ). FoundAt table.shape.banks p.number n (p.view.past.loads + 1) w home) (sym long) at);
          closed = closed;
          outside = s.place ∙ i.outside closed;
          enters = s.enters;
          touch = s.touch;
        },
      )
