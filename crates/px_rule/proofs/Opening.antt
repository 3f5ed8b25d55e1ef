-- A table of zeros, of which the desk alone knows, meets the rule.
use Rattle.std.proofs.Common.{◌≡◌, ℕ, zero, suc, ◌<◌, ◌≤◌, Bool, true, false, cond, List, [], ◌∷◌, refl, sym, ap, ◌∙◌, subst, arith}
use Rattle.std.specs.Prelude.{slice_index, replicate, All, leb}
use Rattle.std.proofs.lemmas.List.{length-replicate}
use Rattle.std.proofs.lemmas.List.Elements.{All-nil}
use mathlib.Core.Option.{some, some-ne-none, some-injective}
use lib.ListN.{get_elem?}
use Rattle.atomic_table.specs.Table.{opening}
use Rattle.px_text.specs.declared.op.Op.{Op}
use Rattle.px_text.specs.Operands.{Operand}
use Rattle.px_rule.specs.Words.{words_of, nodes_of, steps_of, packed, size_of, place_word, place_at, path_of, long_of}
use Rattle.px_rule.specs.Histories.{Begins, Fits}
use Rattle.px_rule.specs.Banks.{Reached, IsBusy, StayFits, stand}
use Rattle.px_rule.specs.Places.{Stays}
use Rattle.px_rule.specs.Rule.{Alike, Rule}
use Rattle.px_rule.specs.Steps.{opening_desk, opening_view}
use Rattle.px_rule.proofs.Beginnings.{begins_nil}
use Rattle.px_rule.specs.declared.shape.Shape.{Shape}
use Rattle.px_rule.specs.declared.view.View.{View}
use Rattle.px_rule.specs.declared.view.Stand.{Stand}
use Rattle.px_rule.proofs.RightBanks.{empty_right}

zeros_at : (n i : ℕ) → slice_index (replicate n 0) i ≡ 0
zeros_at zero i = refl
zeros_at (suc n) zero = refl
zeros_at (suc n) (suc i) = zeros_at n i

all_same : {A : Type 0} (n i : ℕ) (a b : A) → get_elem? (replicate n a) i ≡ some b → a ≡ b
all_same zero i a b e = absurd (some-ne-none b (sym e))
all_same (suc n) zero a b e = some-injective a b e
all_same (suc n) (suc i) a b e = all_same n i a b e

alone : {A : Type 0} (F : ℕ → A → Type 0) (a : A) → F 0 a → (i : ℕ) (v : A) → get_elem? (a ∷ []) i ≡ some v → F i v
alone F a h zero v e = subst (F 0) (some-injective a v e) h
alone F a h (suc i) v e = absurd (some-ne-none v (sym e))

zero_word : (b : Bool) (x : ℕ) → x ≡ 0 → cond b x 0 ≡ 0
zero_word true x e = e
zero_word false x e = refl

module _ {E : Type 0} (who : E → ℕ) (legal : List E → Type 0) (right : List E → Op → Operand → Operand → List ℕ → Type 0) (z : Shape) where
  pub opens : legal [] → Rule who legal right z (opening (replicate (words_of z) 0) [] (opening_view z))
  opens empty =
      let words : List ℕ = replicate (words_of z) 0 in
      let v : View E = opening_view z in
      let stands : List Stand = replicate z.banks (stand 0 0 0) in record {
        log = [];
        desk = 0;
        made = 0;
        seat = λ p. 0;
        holder = λ p. 0;
        mine = λ p. [];
        stands = stands;
        wide = length-replicate z.banks (stand 0 0 0);
        sized = length-replicate (words_of z) 0;
        alike = alone (λ i u. Alike u) v (record { walks = refl; keeps = refl; kept = λ _. refl });
        past = record {
          word = refl;
          is_legal = empty;
          of_passes = All-nil (λ x. who x < 0);
          asked = λ p. begins_nil [];
          fresh = λ p h. refl;
          present = (opening_desk, refl, refl);
          each = alone (Fits who [] 0 0 (λ p. 0) (λ p. 0) (λ p. [])) opening_desk (record {
            seen = begins_nil [];
            olds = All-nil (λ o. Begins o []);
            last = omega arith;
            asker_last = omega arith;
            is_desk = λ h. (refl, refl, refl);
            is_pass = λ r h. absurd (cc);
            is_note = λ r h. absurd (cc);
            permit = λ e' h. absurd (cc);
          });
        };
        banks = record {
          words = λ k b e. let same = all_same z.banks k (stand 0 0 0) b e in (
            zero_word (leb (suc k) z.banks) (slice_index words (suc k)) (zeros_at (words_of z) (suc k)) ∙ ap (λ (c : Stand). packed c.version c.building 0) same,
            subst (λ (c : Stand). c.version ≤ 0) same (omega arith),
            subst (λ (c : Stand). c.building ≤ 1) same (omega arith),
          );
          one = λ j k a b e f p q. absurd (let s : 0 ≡ a.building = ap (λ (c : Stand). c.building) (all_same z.banks j (stand 0 0 0) a e) in omega arith);
          few = (refl, omega arith);
          each = alone (StayFits stands 0) v.stay (record { out = λ h. refl; where_is = tt; stays = All-nil (Reached stands); busy = All-nil IsBusy; keeper = λ h. (refl, refl) });
        };
        places = record {
          standing = λ k b e free. empty_right (nodes_of z) (steps_of z) (path_of z) (long_of z) (right _) (place_word z words k)
              (λ p low. zero_word (leb (suc p) (size_of z)) (slice_index words (place_at z k p)) (zeros_at (words_of z) (place_at z k p)));
          zeroed = λ k b e built p low. zero_word (leb (suc p) (size_of z)) (slice_index words (place_at z k p)) (zeros_at (words_of z) (place_at z k p));
          each = alone (λ i u. All (Stays (nodes_of z) (steps_of z) (path_of z) (long_of z) right stands (place_word z words)) u.kept) v.touch (All-nil (Stays (nodes_of z) (steps_of z) (path_of z) (long_of z) right stands (place_word z words)));
        };
      }
