-- What holds of every seat holds of it after each step.
use Rattle.std.proofs.Common.{leb-false, ◌∷◌, ◌≡◌, ℕ, ◌<◌, ◌≤◌, Bool, true, false, cond, leb, leb-true, List, [], length, Option, refl, sym, ap, ◌∙◌, subst, arith}
use Rattle.px_rule.specs.declared.shape.Shape.{Shape}
use Rattle.px_rule.specs.declared.view.Kind.{Kind}
use Rattle.px_rule.specs.declared.view.Kind.TheVariants.{Desk, Pass, DeskNote, PassNote, Spent}
use Rattle.px_rule.specs.declared.view.Place.{Place}
use Rattle.px_rule.specs.declared.view.Place.TheVariants.{Outside, Inside, Stray}
use Rattle.px_rule.specs.declared.view.View.{View}
use Rattle.px_rule.specs.Words.{shows}
use Rattle.px_rule.specs.Histories.{Begins}
use Rattle.px_rule.proofs.Views.{all_at}
use Rattle.px_rule.proofs.Beginnings.{begins_refl, begins_beside}
use Rattle.px_rule.specs.Rule.{is_desk, is_pass, Alike}
use Rattle.px_rule.specs.Steps.{Told, IsIn, note_kind, longer, whole_note, whole_pass, whole_met, whole_heard, joined, entered, went}
use Rattle.px_rule.specs.Table.{is_in, is_inside, bank_in, version_in, IsSeat}

note_no_pass : (k : Kind) → is_pass (note_kind k) ≡ false
note_no_pass Desk = refl
note_no_pass (Pass p) = refl
note_no_pass DeskNote = refl
note_no_pass (PassNote p) = refl
note_no_pass Spent = refl

note_no_desk : (k : Kind) → is_desk (note_kind k) ≡ false
note_no_desk Desk = refl
note_no_desk (Pass p) = refl
note_no_desk DeskNote = refl
note_no_desk (PassNote p) = refl
note_no_desk Spent = refl

pub pass_no_desk : (k : Kind) → is_pass k ≡ true → is_desk k ≡ false
pass_no_desk Desk e = absurd (cc)
pass_no_desk (Pass p) e = refl
pass_no_desk DeskNote e = absurd (cc)
pass_no_desk (PassNote p) e = absurd (cc)
pass_no_desk Spent e = absurd (cc)

in_its_bank : (p : Place) → is_in p ≡ true → IsIn (bank_in p) p
in_its_bank Outside e = absurd (cc)
in_its_bank (Inside k n) e = refl
in_its_bank (Stray k) e = refl

inside_is : (p : Place) → is_inside p ≡ true → p ≡ Inside (bank_in p) (version_in p)
inside_is Outside e = absurd (cc)
inside_is (Inside k n) e = refl
inside_is (Stray k) e = absurd (cc)

inside_in : (p : Place) → is_inside p ≡ true → is_in p ≡ true
inside_in Outside e = absurd (cc)
inside_in (Inside k n) e = refl
inside_in (Stray k) e = absurd (cc)

nowhere : (p : Place) → p ≡ Outside → (k : ℕ) → IsIn k p → ⊥
nowhere p e k i = subst (IsIn k) e i

not_inside : (p : Place) → p ≡ Outside → (k n : ℕ) → p ≡ Inside k n → ⊥
not_inside p e k n i = let f : Outside ≡ Inside k n = sym e ∙ i in cc

module _ {E : Type 0} where
  pub note_alike : (permit : Option E) (v : View E) → Alike (whole_note permit v)
  note_alike permit v = record { walks = sym (note_no_pass v.past.kind); keeps = sym (note_no_desk v.past.kind); kept = λ _. refl }

  -- a seat that is outside
  outside : (z : Shape) (bank : ℕ) (v : View E) → Alike v → v.stay.place ≡ Outside → IsSeat z bank v
  outside z bank v a out = record { alike = a; out = λ _. out; of_table = λ k i. absurd (nowhere v.stay.place out k i); seen = λ k n i. absurd (not_inside v.stay.place out k n i) }

  pub note_seat : (z : Shape) (bank : ℕ) (permit : Option E) (v : View E) → IsSeat z bank (whole_note permit v)
  note_seat z bank permit v = outside z bank (whole_note permit v) (note_alike permit v) refl

  pub pass_seat : (z : Shape) (bank : ℕ) (v : View E) → IsSeat z bank (whole_pass v)
  pass_seat z bank v = outside z bank (whole_pass v) (record { walks = refl; keeps = refl; kept = λ e. absurd (let f : true ≡ false = e in cc) }) refl

  -- a seat that stays where it is, and has seen no less
  pub same_place : (z : Shape) (bank : ℕ) (v w : View E) → IsSeat z bank v → w.past.kind ≡ v.past.kind → w.stay.walks ≡ v.stay.walks → w.stay.keeps ≡ v.stay.keeps → w.stay.place ≡ v.stay.place → length v.past.seen ≤ length w.past.seen
      → (is_pass v.past.kind ≡ false → w.touch.kept ≡ []) → IsSeat z bank w
  same_place z bank v w s kind walks keeps place more kept = record {
    alike = record { walks = walks ∙ (s.alike.walks ∙ ap is_pass (sym kind)); keeps = keeps ∙ (s.alike.keeps ∙ ap is_desk (sym kind)); kept = λ e. kept (ap is_pass (sym kind) ∙ e) };
    out = λ e. place ∙ s.out (ap is_pass (sym kind) ∙ e);
    of_table = λ k i. s.of_table k (subst (IsIn k) place i);
    seen = λ k n i. let l = s.seen k n (sym place ∙ i) in omega arith;
  }

  pub longer_is : (xs ys : List E) → length xs ≤ length (longer xs ys)
  longer_is xs ys = elim (leb (length xs) (length ys)) as (λ t. leb (length xs) (length ys) ≡ t → length xs ≤ length (cond t ys xs)) [ true ↦ (λ e. leb-true (length xs) (length ys) e) | false ↦ (λ _. omega arith) ] refl

  pub joined_seat : (z : Shape) (bank : ℕ) (v u : View E) → IsSeat z bank v → IsSeat z bank (joined v u)
  joined_seat z bank v u s = elim (is_desk v.past.kind) as (λ t. IsSeat z bank (cond t (whole_heard v u) (whole_met v u)))
      [ true ↦ same_place z bank v (whole_heard v u) s refl refl refl refl (omega arith) s.alike.kept | false ↦ same_place z bank v (whole_met v u) s refl refl refl refl (longer_is v.past.seen u.past.seen) s.alike.kept ]

  -- a join into a pass, and into the desk
  pub joined_pass : (v u : View E) → is_pass v.past.kind ≡ true → joined v u ≡ whole_met v u
  joined_pass v u e = ap (λ (t : Bool). cond t (whole_heard v u) (whole_met v u)) (pass_no_desk v.past.kind e)

  pub joined_desk : (v u : View E) → is_desk v.past.kind ≡ true → joined v u ≡ whole_heard v u
  joined_desk v u e = ap (λ (t : Bool). cond t (whole_heard v u) (whole_met v u)) e

  pub entered_seat : (z : Shape) (bank old n x : ℕ) (v : View E) → IsSeat z old v → is_pass v.past.kind ≡ true → bank < z.banks → n ≤ length v.past.seen → IsSeat z bank (record v { stay = entered bank n x v.stay })
  entered_seat z bank old n x v s pass_is low enough = record {
    alike = record { walks = s.alike.walks; keeps = s.alike.keeps; kept = s.alike.kept };
    out = λ none. absurd (let e : true ≡ false = sym pass_is ∙ none in cc);
    of_table = λ k i. elim (shows n x) as (λ t. IsIn k (cond t (Inside bank n) (Stray bank)) → (bank ≡ k) × (k < z.banks)) [ true ↦ (λ e. (e, subst (λ (j : ℕ). j < z.banks) e low)) | false ↦ (λ e. (e, subst (λ (j : ℕ). j < z.banks) e low)) ] i;
    seen = λ k m i. elim (shows n x) as (λ t. cond t (Inside bank n) (Stray bank) ≡ Inside k m → m ≤ length v.past.seen)
        [ true ↦ (λ e. subst (λ (j : ℕ). j ≤ length v.past.seen) (ap version_in e) enough) | false ↦ (λ e. absurd (cc)) ] i;
  }

  pub went_seat : (z : Shape) (bank : ℕ) (v : View E) → IsSeat z bank v → IsSeat z bank (record v { stay = went v.stay })
  went_seat z bank v s = outside z bank (record v { stay = went v.stay }) (record { walks = s.alike.walks; keeps = s.alike.keeps; kept = s.alike.kept }) refl

  -- what a seat that is in a bank has
  pub in_bank_of : (z : Shape) (bank : ℕ) (v : View E) → IsSeat z bank v → is_in v.stay.place ≡ true → (is_pass v.past.kind ≡ true) × IsIn bank v.stay.place × (bank < z.banks)
  in_bank_of z bank v s e =
      let i = in_its_bank v.stay.place e in
      let t = s.of_table (bank_in v.stay.place) i in (
        elim (is_pass v.past.kind) as (λ b. is_pass v.past.kind ≡ b → b ≡ true) [ true ↦ (λ _. refl) | false ↦ (λ none. absurd (nowhere v.stay.place (s.out none) (bank_in v.stay.place) i)) ] refl,
        subst (λ (k : ℕ). IsIn k v.stay.place) (sym t.0) i,
        subst (λ (k : ℕ). k < z.banks) (sym t.0) t.1,
      )

  pub inside_of : (z : Shape) (bank : ℕ) (v : View E) → IsSeat z bank v → is_inside v.stay.place ≡ true
      → (v.stay.place ≡ Inside (bank_in v.stay.place) (version_in v.stay.place)) × (bank ≡ bank_in v.stay.place) × (bank < z.banks) × (version_in v.stay.place ≤ length v.past.seen) × (is_pass v.past.kind ≡ true)
  inside_of z bank v s e =
      let p = inside_is v.stay.place e in
      let i = in_its_bank v.stay.place (inside_in v.stay.place e) in
      let t = s.of_table (bank_in v.stay.place) i in
      let b = in_bank_of z bank v s (inside_in v.stay.place e) in
      (p, t.0, b.2, s.seen (bank_in v.stay.place) (version_in v.stay.place) p, b.0)

-- A pass that took a note in, and then loaded, has seen all that the note had
pub sees_note : {E : Type 0} (who : E → ℕ) (legal : List E → Type 0) (v u : View E) (x : ℕ) → Told who legal (whole_met v u).past x → Begins u.past.seen (whole_met v u).past.seen
sees_note who legal v u x told =
    let olds = v.past.seen ∷ u.past.seen ∷ v.past.olds in
    let mine = all_at (λ o. Begins o told.log) olds 0 v.past.seen refl told.olds in
    let theirs = all_at (λ o. Begins o told.log) olds 1 u.past.seen refl told.olds in
    elim (leb (length v.past.seen) (length u.past.seen)) as (λ t. leb (length v.past.seen) (length u.past.seen) ≡ t → Begins u.past.seen (cond t u.past.seen v.past.seen))
    [ true ↦ (λ _. begins_refl u.past.seen) | false ↦ (λ e. let l = leb-false (length v.past.seen) (length u.past.seen) e in begins_beside u.past.seen v.past.seen told.log theirs mine (omega arith)) ] refl
