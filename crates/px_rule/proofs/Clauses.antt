-- The rule gives each of its clauses.
use Rattle.std.proofs.Common.{◌≡◌, ℕ, ◌<◌, ◌≤◌, List, [], ◌∷◌, ◌++◌, length, take, sym, ap, ◌∙◌, subst}
use Rattle.std.specs.Prelude.{All}
use Rattle.std.proofs.lemmas.List.Elements.{All-weaker}
use mathlib.Core.Option.{some}
use lib.ListN.{get_elem?}
use Rattle.atomic_table.specs.Table.{State}
use Rattle.atomic_table.proofs.Lists.{at_map}
use Rattle.px_text.specs.declared.op.Op.{Op}
use Rattle.px_rule.specs.declared.shape.Shape.{Shape}
use Rattle.px_rule.specs.declared.view.Kind.TheVariants.{Desk}
use Rattle.px_rule.specs.declared.view.Found.{Found}
use Rattle.px_rule.specs.declared.view.Stand.{Stand}
use Rattle.px_rule.specs.declared.view.View.{View}
use Rattle.px_text.specs.Operands.{Operand}
use Rattle.px_rule.specs.Words.{nodes_of, steps_of, path_of, long_of, place_word}
use Rattle.px_rule.specs.RightBanks.{RightBank}
use Rattle.px_rule.specs.Histories.{Begins, named}
use Rattle.px_rule.specs.Banks.{Reached, Where}
use Rattle.px_rule.specs.Places.{Stays}
use Rattle.px_rule.specs.Rule.{is_desk, past_of, stay_of, touch_of, Rule}
use Rattle.px_rule.specs.Clauses.{Clauses}
use Rattle.px_rule.proofs.Views.{whole_at}

module _ {E : Type 0} (who : E → ℕ) (legal : List E → Type 0) (right : List E → Op → Operand → Operand → List ℕ → Type 0) (z : Shape) where
  pub clauses_of : (s : State (Unit {0}) (View E)) → Rule who legal right z s → Clauses who legal right z s
  clauses_of s h =
      let there = h.past.present in
      let whole = whole_at past_of s.views h.desk there.0 there.1 in
      let d : View E = whole.0 in
      let at_desk : get_elem? s.views h.desk ≡ some d = whole.1 in
      let kind : d.past.kind ≡ Desk = ap (λ p. p.kind) whole.2 ∙ there.2 in
      let fits = λ (i : ℕ) (v : View E) (at : get_elem? s.views i ≡ some v). h.past.each i v.past (at_map past_of s.views i v at) in
      let stays = λ (i : ℕ) (v : View E) (at : get_elem? s.views i ≡ some v). h.banks.each i v.stay (at_map stay_of s.views i v at) in
      let own = (fits h.desk d at_desk).is_desk kind in
      let stands : d.stay.stands ≡ h.stands = ((stays h.desk d at_desk).keeper ((h.alike h.desk d at_desk).keeps ∙ ap is_desk kind)).1 in
      let known = λ (k : ℕ) (b : Stand) (e : get_elem? d.stay.stands k ≡ some b). subst (λ (l : List Stand). get_elem? l k ≡ some b) stands e in
      record {
        desk = h.desk;
        d = d;
        one_desk = (at_desk, kind, h.past.word ∙ sym (ap length own.1), subst legal (sym own.1) h.past.is_legal, λ i v at is. ((fits i v at).is_desk is).0);
        prefixes = λ i v at _. let f = fits i v at in (
          subst (Begins v.past.seen) (sym own.1) f.seen,
          subst (λ (l : List E). All (λ o. Begins o l) v.past.olds) (sym own.1) f.olds,
          subst (λ (m : ℕ). v.past.last ≤ m) (sym h.past.word) f.last,
        );
        passes = (
          λ i p v at is. subst (λ (m : ℕ). p < m) (sym own.2) ((fits i v at).is_pass p is).0,
          λ i j p v w at at' is is'. sym ((fits i v at).is_pass p is).1 ∙ ((fits j w at').is_pass p is').1,
          λ i v at none. ((stays i v at).out ((h.alike i v at).walks ∙ none), (h.alike i v at).kept none),
        );
        bank_words = (ap length stands ∙ h.wide, λ k b e. h.banks.words k b (known k b e));
        inside_stands = λ i k n v at inside. let w = subst (Where h.stands) inside (stays i v at).where_is in (w.0, subst (λ (l : List Stand). get_elem? l k ≡ some w.0) (sym stands) w.1, w.2, w.3);
        kept_stands = λ i v at. (
          subst (λ (l : List Stand). All (Reached l) v.stay.stays) (sym stands) (stays i v at).stays,
          All-weaker (Stays (nodes_of z) (steps_of z) (path_of z) (long_of z) right h.stands (place_word z s.words))
              (λ (f : Found). (b : Stand) × (get_elem? d.stay.stands f.bank ≡ some b) × (f.version ≤ b.version) × (f.version ≡ b.version → (b.building ≡ 0) × (place_word z s.words f.bank f.place ≡ f.word)))
              (λ f o. (o.bank, subst (λ (l : List Stand). get_elem? l f.bank ≡ some o.bank) (sym stands) o.at, o.reached, o.still)) v.touch.kept (h.places.each i v.touch (at_map touch_of s.views i v at)),
        );
        right_banks = λ k b e free. subst (λ (l : List E). RightBank (nodes_of z) (steps_of z) (path_of z) (long_of z) (right (take b.version l)) (place_word z s.words k)) (sym own.1) (h.places.standing k b (known k b e) free);
        one_built = (λ j k a b e e'. h.banks.one j k a b (known j a e) (known k b e'), λ k p b e built low. h.places.zeroed k b (known k b e) built p low);
        busy_counted = λ i v at. (stays i v at).busy;
        entries = (
          subst (λ (x : List E × ℕ). All (λ e. who e < x.1) x.0) (λ i. (sym own.1 i, sym own.2 i)) h.past.of_passes,
          λ i p v at is. subst (λ (x : List E × List E). Begins (named who p x.0) x.1) (λ j. (sym own.1 j, sym ((fits i v at).is_pass p is).2 j)) (h.past.asked p),
          λ i j v w e f at at' has has' same. sym ((fits i v at).permit e has).1 ∙ (ap h.holder same ∙ ((fits j w at').permit f has').1),
          λ i j v w e at at' has is. ((fits j w at').is_pass (who e) is).2 ∙ (((fits i v at).permit e has).2 ∙ ap (λ (l : List E). named who (who e) l ++ e ∷ []) (sym own.1)),
        );
      }
