-- Load and Accept keep the rule, and tell what they tell.
use Rattle.std.proofs.Common.{◌≡◌, ℕ, suc, ◌+◌, ◌*◌, ◌%◌, ◌^◌, ◌<◌, cond, List, [], ◌∷◌, ◌++◌, map, length, set, refl, sym, ap, ◌∙◌, subst, arith, length-set, get_or-set_same, leb}
use Rattle.std.specs.Prelude.{slice_index, slice_set, Some}
use Rattle.std.proofs.lemmas.List.{set-get_or, get_or-set_other}
use Rattle.atomic_table.specs.Table.{State, Me, Act, Valid, stepped, Allows, carried_after, keeps}
use Rattle.atomic_table.proofs.Lists.{set_again}
use Rattle.px_text.specs.declared.op.Op.{Op}
use Rattle.px_rule.specs.declared.view.Kind.TheVariants.{Desk}
use Rattle.px_text.specs.Operands.{Operand}
use Rattle.px_rule.specs.Words.{nodes_of, steps_of, size_of, place_at, bank_word, place_word, path_of, long_of}
use Rattle.px_rule.specs.Histories.{Histories}
use Rattle.px_rule.specs.Banks.{Banks}
use Rattle.px_rule.specs.Places.{Places}
use Rattle.px_rule.specs.Rule.{Alike, past_of, stay_of, touch_of, Rule}
use Rattle.px_rule.specs.Steps.{Told, loaded, accepted, Loads, Accepts}
use Rattle.px_rule.specs.declared.shape.Shape.{Shape}
use Rattle.px_rule.specs.declared.view.View.{View}
use Rattle.px_rule.specs.declared.view.Stand.{Stand}
use Rattle.px_rule.specs.declared.view.Stay.{Stay}
use Rattle.px_rule.specs.declared.view.Touch.{Touch}
use Rattle.px_rule.proofs.Places as place_steps
use Rattle.px_rule.proofs.Histories as past_steps
use Rattle.px_rule.specs.Clauses.{Moment}
use Rattle.px_rule.proofs.Clauses.{clauses_of}
use Rattle.px_rule.proofs.Assembly.{assembled, same_banks, same_places, small, at_past, at_touch}

module _ {E : Type 0} (who : E → ℕ) (legal : List E → Type 0) (right : List E → Op → Operand → Operand → List ℕ → Type 0) (z : Shape) where
  abbrev St : Type 0
  St = State (Unit {0}) (View E)

  abbrev M : Type 0
  M = Me (Unit {0}) (View E)

  abbrev Holds : St → Type 0
  Holds = Rule who legal right z

  module _ (short : (log : List E) → legal log → length log < 1048576) where
    pub loads : (slots id : ℕ) (me : M) → Allows Holds slots id me 0 (λ n. n) (λ n after. Loads who legal me.0 n after.0 × Moment who legal right z me.0 n × (after.1 ≡ me.1))
    loads slots id me s h _ at _ = let v = me.0 in let n : ℕ = slice_index s.words 0 in let words' : List ℕ = slice_set s.words 0 n in
        let same : words' ≡ s.words = set-get_or s.words 0 0 in
        let w : View E = record v { past = loaded v.past n } in (
          w,
          keeps,
          tt,
          subst (λ (ws : List ℕ). Holds (record { words = ws; homes = s.homes; views = set s.views id w })) (sym same)
              (assembled who legal right z s h id v at s.words w h.log h.stands (same_seat (h.alike id v at)) refl refl
              (past_steps.loads who legal h.log h.desk h.made h.seat h.holder h.mine n (map past_of s.views) h.past id v.past (at_past who legal right z s h id v at))
              (same_banks who legal right z s h id v at) (same_places who legal right z s h id v at s.words refl)),
          (
            (refl, past_steps.tells who legal h.log h.desk h.made h.seat h.holder h.mine n (map past_of s.views) h.past id v.past (at_past who legal right z s h id v at)),
            record { state = s; seat = id; knows = at; version_is = refl; clauses = clauses_of who legal right z s h },
            refl,
          ),
        )
      where
        same_seat : {v : View E} {n : ℕ} → Alike v → Alike (record v { past = loaded v.past n })
        same_seat a = record { walks = a.walks; keeps = a.keeps; kept = a.kept }

    -- A load that leaves the view tells the same of it
    pub tells : (slots id : ℕ) (me : M) → Allows Holds slots id me 0 (λ n. n) (λ n after. (after.0 ≡ me.0) × Told who legal me.0.past n × (after.1 ≡ me.1))
    tells slots id me s h _ at _ =
        let v = me.0 in
        let n : ℕ = slice_index s.words 0 in
        let words : slice_set s.words 0 n ≡ s.words = set-get_or s.words 0 0 in
        let views : set s.views id v ≡ s.views = set_again s.views id v at in (
          v,
          keeps,
          tt,
          subst (λ (x : List ℕ × List (View E)). Holds (record { words = x.0; homes = s.homes; views = x.1 })) (λ i. (sym words i, sym views i)) h,
          (refl, past_steps.tells who legal h.log h.desk h.made h.seat h.holder h.mine n (map past_of s.views) h.past id v.past (at_past who legal right z s h id v at), refl),
        )

    -- The entry of the desk's permit is accepted
    pub accepts : (slots id : ℕ) (me : M) (e : E) → me.0.past.kind ≡ Desk → me.0.past.permit ≡ Some e → legal (me.0.past.seen ++ e ∷ [])
        → Allows Holds slots id me 0 (λ n. (n + 1) % 2 ^ 64) (λ n after. Accepts me.0 n after.0 × (after.1 ≡ me.1))
    accepts slots id me e desk_is has may s h _ at _ =
        let v = me.0 in
        let n : ℕ = slice_index s.words 0 in
        let words' : List ℕ = slice_set s.words 0 (n + 1) in
        let w : View E = record v { past = accepted v.past } in
        let here = at_past who legal right z s h id v at in
        let low = small who legal right z s h id v at short in
        let wraps : (n + 1) % 2 ^ 64 ≡ n + 1 = omega arith in
        let within : 0 < length s.words = let m : ℕ = z.banks + z.banks * size_of z in let e : length s.words ≡ suc m = h.sized in omega arith in
        let top_is : slice_index words' 0 ≡ n + 1 = get_or-set_same s.words 0 (n + 1) 0 within in
        let bank_is' : bank_word z words' ≡ bank_word z s.words = λ i j. cond (leb (suc j) z.banks) (get_or-set_other s.words 0 (suc j) (n + 1) 0 (λ e. omega arith) i) 0 in
        let place_is' : place_word z words' ≡ place_word z s.words = λ i j q. cond (leb (suc q) (size_of z)) (get_or-set_other s.words 0 (place_at z j q) (n + 1) 0 (λ e. omega arith) i) 0 in
        let own = (h.past.each id v.past here).is_desk desk_is in
        subst (λ (m : ℕ). (w : View E) × (a : Act (Unit {0})) × Valid s.homes me.1 a × Holds (stepped s 0 m id me.1 w a) × (Accepts v n w × (carried_after me.1 a ≡ me.1))) (sym wraps) (
          w,
          keeps,
          tt,
          assembled who legal right z s h id v at words' w (h.log ++ e ∷ []) h.stands (let a = h.alike id v at in record { walks = a.walks; keeps = a.keeps; kept = a.kept }) (length-set s.words 0 (n + 1)) refl
              (subst (λ (m : ℕ). Histories who legal (h.log ++ e ∷ []) h.desk h.made h.seat h.holder h.mine m (set (map past_of s.views) id w.past)) (sym top_is)
              (past_steps.accepts who legal h.log h.desk h.made h.seat h.holder h.mine n (map past_of s.views) h.past id v.past e here desk_is has may))
              (subst (λ (x : ℕ × (ℕ → ℕ)). Banks x.0 x.1 h.stands h.desk h.made (set (map stay_of s.views) id v.stay)) (λ i. (sym top_is i, sym bank_is' i)) (raised (same_banks who legal right z s h id v at)))
              (subst (λ (x : (ℕ → ℕ → ℕ) × List Touch). Places (nodes_of z) (steps_of z) (path_of z) (long_of z) right (h.log ++ e ∷ []) h.stands x.0 x.1) (λ i. (sym place_is' i, sym (set_again (map touch_of s.views) id v.touch (at_touch who legal right z s h id v at)) i))
              (place_steps.accepts (nodes_of z) (steps_of z) (path_of z) (long_of z) right h.log h.stands (place_word z s.words) (map touch_of s.views) h.places e
              (λ k b at'. let y = (h.banks.words k b at').1 in let t = h.past.word in omega arith))),
          ((refl, h.past.word ∙ sym (ap length own.1)), refl),
        )
      where
        raised : {m : ℕ} {word : ℕ → ℕ} {stands : List Stand} {desk made : ℕ} {views : List Stay} → Banks m word stands desk made views → Banks (m + 1) word stands desk made views
        raised b = record { words = λ k c e. let y = b.words k c e in let l = y.1 in (y.0, omega arith, y.2); one = b.one; few = b.few; each = b.each }
