-- Split and Join keep the rule.
use Rattle.std.proofs.Common.{◌⊎◌, ⊎_elim, Option, ◌≡◌, ◌≢◌, ℕ, ◌+◌, ◌<◌, Bool, true, false, cond, List, [], ◌∷◌, ◌++◌, map, length, set, refl, sym, ap, ◌∙◌, subst}
use Rattle.std.specs.Prelude.{slice_index, slice_set, Some, None}
use Rattle.std.proofs.lemmas.List.{map-set}
use mathlib.Core.Option.{some}
use lib.ListN.{get_elem?}
use Rattle.atomic_table.specs.Table.{State, Me, Splits, Joins}
use Rattle.atomic_table.proofs.Lists.{set_again, set_else, at_map}
use Rattle.px_text.specs.declared.op.Op.{Op}
use Rattle.px_rule.specs.declared.view.Past.{Past}
use Rattle.px_rule.specs.declared.view.Kind.{Kind}
use Rattle.px_rule.specs.declared.view.Kind.TheVariants.{Desk, Pass, DeskNote, PassNote, Spent}
use Rattle.px_text.specs.Operands.{Operand}
use Rattle.px_rule.specs.Words.{nodes_of, steps_of, bank_word, place_word, path_of, long_of}
use Rattle.px_rule.specs.Histories.{Histories, named}
use Rattle.px_rule.specs.Banks.{Banks}
use Rattle.px_rule.specs.Places.{Places}
use Rattle.px_rule.specs.Rule.{is_pass, is_desk, Alike, past_of, stay_of, touch_of, Rule}
use Rattle.px_rule.specs.Steps.{stay_spent, is_note, is_pass_note, CanJoin, joined, stay_note, stay_pass, stay_met, touch_none, whole_asking, whole_more, whole_pass, whole_heard, whole_note, whole_met, whole_spent}
use Rattle.px_rule.specs.declared.shape.Shape.{Shape}
use Rattle.px_rule.specs.declared.view.View.{View}
use Rattle.px_rule.specs.declared.view.Stay.{Stay}
use Rattle.px_rule.specs.declared.view.Touch.{Touch}
use Rattle.px_rule.proofs.Places as place_steps
use Rattle.px_rule.proofs.Histories as past_steps
use Rattle.px_rule.proofs.NotesOfBanks as tell_steps
use Rattle.px_rule.proofs.Views.{put, each_join}
use Rattle.px_rule.proofs.Seats.{note_alike, pass_no_desk}
use Rattle.px_rule.proofs.Assembly.{same_banks, at_past, at_stay, at_touch, cut, no_touches}

-- what the kinds of notes are not
no_pass : (k : Kind) → is_note k ≡ true → is_pass k ≡ false
no_pass Desk e = refl
no_pass (Pass p) e = absurd (cc)
no_pass DeskNote e = refl
no_pass (PassNote p) e = refl
no_pass Spent e = refl

not_desk : (k : Kind) → is_note k ≡ true → k ≢ Desk
not_desk Desk e f = absurd (cc)
not_desk (Pass p) e f = cc
not_desk DeskNote e f = cc
not_desk (PassNote p) e f = cc
not_desk Spent e f = cc

pass_note_is : (k : Kind) → is_pass_note k ≡ true → is_note k ≡ true
pass_note_is Desk e = absurd (cc)
pass_note_is (Pass p) e = absurd (cc)
pass_note_is DeskNote e = absurd (cc)
pass_note_is (PassNote p) e = refl
pass_note_is Spent e = absurd (cc)

module _ {E : Type 0} (who : E → ℕ) (legal : List E → Type 0) (right : List E → Op → Operand → Operand → List ℕ → Type 0) (z : Shape) where
  abbrev St : Type 0
  St = State (Unit {0}) (View E)

  abbrev M : Type 0
  M = Me (Unit {0}) (View E)

  abbrev Holds : St → Type 0
  Holds = Rule who legal right z

  same_alike : (v : View E) (permit : Option E) → Alike v → Alike (whole_asking permit v)
  same_alike v permit a = record { walks = a.walks; keeps = a.keeps; kept = a.kept }

  -- Split: a note of the desk or of a pass
  pub notes : (id : ℕ) (v : View E) → Splits Holds id v v (whole_note None v)
  notes id v s h at =
      cut who legal right z s h id v (whole_note None v) h.made h.seat h.holder h.mine (h.alike id v at) (note_alike None v)
      (past_steps.notes who legal h.log h.desk h.made h.seat h.holder h.mine (slice_index s.words 0) (map past_of s.views) h.past id v.past (at_past who legal right z s h id v at))
      (subst (λ l. Banks (slice_index s.words 0) (bank_word z s.words) h.stands h.desk h.made (l ++ stay_note v.stay ∷ [])) (sym (set_again (map stay_of s.views) id v.stay (at_stay who legal right z s h id v at)))
      (tell_steps.notes (slice_index s.words 0) (bank_word z s.words) h.stands h.desk h.made (map stay_of s.views) h.banks id v.stay (at_stay who legal right z s h id v at)))
      (no_touches who legal right z s h id v at)

  -- Split: a note of a pass with a permit
  pub asks : (id : ℕ) (v : View E) (p : ℕ) (e : E) → v.past.kind ≡ Pass p → who e ≡ p → named who p v.past.seen ≡ v.past.mine → Splits Holds id v (whole_asking (Some e) v) (whole_note (Some e) v)
  asks id v p e pass_is is_who whole s h at =
      cut who legal right z s h id (whole_asking (Some e) v) (whole_note (Some e) v) h.made h.seat (put h.holder p (length (map past_of s.views))) (put h.mine p (v.past.mine ++ e ∷ [])) (same_alike v (Some e) (h.alike id v at)) (note_alike (Some e) v)
      (past_steps.asks who legal h.log h.desk h.made h.seat h.holder h.mine (slice_index s.words 0) (map past_of s.views) h.past id v.past p e (at_past who legal right z s h id v at) pass_is is_who whole)
      (subst (λ l. Banks (slice_index s.words 0) (bank_word z s.words) h.stands h.desk h.made (l ++ stay_note v.stay ∷ [])) (sym (set_again (map stay_of s.views) id v.stay (at_stay who legal right z s h id v at)))
      (tell_steps.notes (slice_index s.words 0) (bank_word z s.words) h.stands h.desk h.made (map stay_of s.views) h.banks id v.stay (at_stay who legal right z s h id v at)))
      (no_touches who legal right z s h id v at)

  -- Split: the next pass
  pub makes : (id : ℕ) (v : View E) → v.past.kind ≡ Desk → v.past.seen ≡ [] → v.past.made < 65 → Splits Holds id v (whole_more v) (whole_pass v)
  makes id v desk_is new room s h at =
      let d = (h.past.each id v.past (at_past who legal right z s h id v at)).is_desk desk_is in
      cut who legal right z s h id (whole_more v) (whole_pass v) (h.made + 1) (put h.seat h.made (length (map past_of s.views))) h.holder h.mine (let a = h.alike id v at in record { walks = a.walks; keeps = a.keeps; kept = a.kept }) (record { walks = refl; keeps = refl; kept = λ e. absurd (let e' : true ≡ false = e in cc) })
      (past_steps.makes who legal h.log h.desk h.made h.seat h.holder h.mine (slice_index s.words 0) (map past_of s.views) h.past id v.past (at_past who legal right z s h id v at) desk_is new)
      (subst (λ l. Banks (slice_index s.words 0) (bank_word z s.words) h.stands h.desk (h.made + 1) (l ++ stay_pass v.stay ∷ [])) (sym (set_again (map stay_of s.views) id v.stay (at_stay who legal right z s h id v at)))
      (tell_steps.makes (slice_index s.words 0) (bank_word z s.words) h.stands h.desk h.made (map stay_of s.views) h.banks id v.stay (at_stay who legal right z s h id v at) (subst (λ (m : ℕ). m < 65) d.2 room)))
      (no_touches who legal right z s h id v at)

  -- what stays of the two seats of a join
  together : (s : St) (h : Holds s) (id : ℕ) (v : View E) (other : ℕ) (u w : View E) (holder : ℕ → ℕ) → get_elem? s.views id ≡ some v → Alike w
      → Histories who legal h.log h.desk h.made h.seat holder h.mine (slice_index s.words 0) (set (set (map past_of s.views) id w.past) other whole_spent.past)
      → Banks (slice_index s.words 0) (bank_word z s.words) h.stands h.desk h.made (set (set (map stay_of s.views) id w.stay) other stay_spent)
      → w.touch ≡ v.touch → Holds (record { words = s.words; homes = s.homes; views = slice_set (slice_set s.views id w) other whole_spent })
  together s h id v other u w holder at alike past banks touch =
      let both : (B : Type 0) (f : View E → B) → map f (slice_set (slice_set s.views id w) other whole_spent) ≡ set (set (map f s.views) id (f w)) other (f whole_spent) =
      λ B f. map-set f (slice_set s.views id w) other whole_spent ∙ ap (λ l. set l other (f whole_spent)) (map-set f s.views id w) in
      let m : ℕ = slice_index s.words 0 in
      let touches : List Touch = map touch_of s.views in
      let same : set touches id w.touch ≡ touches = ap (set touches id) touch ∙ set_again touches id v.touch (at_touch who legal right z s h id v at) in
      record {
        log = h.log;
        desk = h.desk;
        made = h.made;
        seat = h.seat;
        holder = holder;
        mine = h.mine;
        stands = h.stands;
        wide = h.wide;
        sized = h.sized;
        alike = each_join (λ j x. Alike x) s.views id other w whole_spent (λ j x _ _ e. h.alike j x e) alike (record { walks = refl; keeps = refl; kept = λ _. refl });
        past = subst (Histories who legal h.log h.desk h.made h.seat holder h.mine m) (sym (both (Past E) past_of)) past;
        banks = subst (Banks m (bank_word z s.words) h.stands h.desk h.made) (sym (both Stay stay_of)) banks;
        places = subst (Places (nodes_of z) (steps_of z) (path_of z) (long_of z) right h.log h.stands (place_word z s.words)) (sym (both Touch touch_of ∙ ap (λ (l : List Touch). set l other touch_none) same))
            (place_steps.spends (nodes_of z) (steps_of z) (path_of z) (long_of z) right h.log h.stands (place_word z s.words) touches h.places other touch_none refl);
      }

  -- Join: a pass takes a note in
  meets : (id : ℕ) (v : View E) (other : ℕ) (u : View E) → is_note u.past.kind ≡ true → Joins Holds id v other u (whole_met v u) whole_spent
  meets id v other u note s h at apart there =
      let there' : get_elem? s.views other ≡ some u = sym (set_else s.views id other (whole_met v u) apart) ∙ there in
      let m : ℕ = slice_index s.words 0 in
      let stays : List Stay = map stay_of s.views in
      let a = h.alike id v at in
      let quiet : u.stay.walks ≡ false = (h.alike other u there').walks ∙ no_pass u.past.kind note in
      together s h id v other u (whole_met v u) h.holder at (record { walks = a.walks; keeps = a.keeps; kept = a.kept })
      (past_steps.meets who legal h.log h.desk h.made h.seat h.holder h.mine m (map past_of s.views) h.past id v.past other u.past (at_past who legal right z s h id v at) (at_map past_of s.views other u there') (not_desk u.past.kind note))
      (tell_steps.spends m (bank_word z s.words) h.stands h.desk h.made (set stays id (stay_met v.stay u.stay))
      (tell_steps.meets m (bank_word z s.words) h.stands h.desk h.made stays h.banks id other v.stay u.stay (at_stay who legal right z s h id v at) (at_map stay_of s.views other u there'))
      other u.stay (set_else stays id other (stay_met v.stay u.stay) apart ∙ at_map stay_of s.views other u there') quiet)
      refl

  -- Join: the desk takes a note in
  hears : (id : ℕ) (v : View E) (other : ℕ) (u : View E) → is_note u.past.kind ≡ true → Joins Holds id v other u (whole_heard v u) whole_spent
  hears id v other u note s h at apart there =
      let there' : get_elem? s.views other ≡ some u = sym (set_else s.views id other (whole_heard v u) apart) ∙ there in
      let m : ℕ = slice_index s.words 0 in
      let stays : List Stay = map stay_of s.views in
      let a = h.alike id v at in
      let quiet : u.stay.walks ≡ false = (h.alike other u there').walks ∙ no_pass u.past.kind note in
      together s h id v other u (whole_heard v u) (past_steps.held who legal h.log h.desk h.made h.seat h.holder h.mine m (map past_of s.views) h.past u.past.permit id) at (record { walks = a.walks; keeps = a.keeps; kept = a.kept })
      (past_steps.hears who legal h.log h.desk h.made h.seat h.holder h.mine m (map past_of s.views) h.past id v.past other u.past (at_past who legal right z s h id v at) (at_map past_of s.views other u there') (not_desk u.past.kind note))
      (tell_steps.spends m (bank_word z s.words) h.stands h.desk h.made (set stays id v.stay) (same_banks who legal right z s h id v at) other u.stay
      (set_else stays id other v.stay apart ∙ at_map stay_of s.views other u there') quiet)
      refl

  -- Join, of either kind
  pub joins : (id : ℕ) (v : View E) (other : ℕ) (u : View E) → CanJoin v u → Joins Holds id v other u (joined v u) whole_spent
  joins id v other u can = ⊎_elim
      (λ (x : (is_pass v.past.kind ≡ true) × (is_note u.past.kind ≡ true) × (u.past.permit ≡ None)).
      subst (λ (t : Bool). Joins Holds id v other u (cond t (whole_heard v u) (whole_met v u)) whole_spent) (sym (pass_no_desk v.past.kind x.0)) (meets id v other u x.1))
      (λ (x : (is_desk v.past.kind ≡ true) × (is_pass_note u.past.kind ≡ true) × ((u.past.permit ≡ None) ⊎ (v.past.permit ≡ None))).
      subst (λ (t : Bool). Joins Holds id v other u (cond t (whole_heard v u) (whole_met v u)) whole_spent) (sym x.0) (hears id v other u (pass_note_is u.past.kind x.1)))
      can
