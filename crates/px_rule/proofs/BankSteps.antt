-- Enter, Leave, Claim, Zero and Publish keep the rule.
use Rattle.std.proofs.Common.{◌≡◌, ℕ, ◌+◌, ◌-◌, ◌*◌, ◌%◌, ◌^◌, ◌<◌, ◌≤◌, true, false, cond, eqb, List, ◌∷◌, map, length, set, refl, sym, ap, ◌∙◌, subst, arith, length-set}
use Rattle.std.specs.Prelude.{slice_index, slice_set, bit_and}
use mathlib.Core.Option.{some, some-injective}
use lib.ListN.{get_elem?}
use prog.Atomic.{either}
use Rattle.atomic_table.specs.Table.{State, Me, Act, Valid, stepped, Allows, carried_after, keeps}
use Rattle.atomic_table.proofs.Lists.{set_again}
use Rattle.px_text.specs.declared.op.Op.{Op}
use Rattle.px_rule.specs.declared.view.Kind.{Kind}
use Rattle.px_rule.specs.declared.view.Kind.TheVariants.{Desk, Pass, DeskNote, PassNote, Spent}
use Rattle.px_rule.specs.declared.view.Place.{Place}
use Rattle.px_text.specs.Operands.{Operand}
use Rattle.px_rule.specs.Words.{nodes_of, steps_of, packed, mask, size_of, bank_at, place_at, bank_word, place_word, path_of, long_of}
use Rattle.px_rule.specs.Banks.{one_if, in_bank, Reached, Banks, stand}
use Rattle.px_rule.specs.Places.{Places}
use Rattle.px_rule.specs.Rule.{is_pass, is_desk, stay_of, touch_of, Rule}
use Rattle.px_rule.specs.Steps.{IsIn, entered, went, claimed, Enters, Leaves, Claims, Zeroed, restood, Published}
use Rattle.px_rule.specs.declared.shape.Shape.{Shape}
use Rattle.px_rule.specs.declared.view.View.{View}
use Rattle.px_rule.specs.declared.view.Place.TheVariants.{Outside, Inside, Stray}
use Rattle.px_rule.specs.declared.view.Stand.{Stand}
use Rattle.px_rule.specs.declared.view.Stay.{Stay}
use Rattle.px_rule.specs.declared.view.Touch.{Touch}
use Rattle.px_rule.proofs.EnterLeave as bank_steps
use Rattle.px_rule.proofs.ClaimPublish as claim_steps
use Rattle.px_rule.proofs.Places as place_steps
use Rattle.px_rule.proofs.Views.{all_at}
use Rattle.px_rule.proofs.WordChanges.{zero_apart, bank_apart, bank_turned, bank_is, place_here, place_beside, place_else, bank_stays}
use Rattle.px_rule.proofs.Assembly.{assembled, same_past, on_bank, small, at_past, at_stay, at_touch, desk_stands, walks_of, keeps_of, bank_within}

-- a seat that is in a bank is counted there
counted_in : (k : ℕ) (p : Place) → IsIn k p → (j : ℕ) → in_bank j p ≡ one_if (eqb k j)
counted_in k Outside e j = elim e [ ]
counted_in k (Inside i n) e j = ap (λ (x : ℕ). one_if (eqb x j)) e
counted_in k (Stray i) e j = ap (λ (x : ℕ). one_if (eqb x j)) e

desk_kind : (k : Kind) → is_desk k ≡ true → k ≡ Desk
desk_kind Desk e = refl
desk_kind (Pass p) e = absurd (cc)
desk_kind DeskNote e = absurd (cc)
desk_kind (PassNote p) e = absurd (cc)
desk_kind Spent e = absurd (cc)

module _ {E : Type 0} (who : E → ℕ) (legal : List E → Type 0) (right : List E → Op → Operand → Operand → List ℕ → Type 0) (z : Shape) where
  abbrev St : Type 0
  St = State (Unit {0}) (View E)

  abbrev M : Type 0
  M = Me (Unit {0}) (View E)

  abbrev Holds : St → Type 0
  Holds = Rule who legal right z

  module _ (short : (log : List E) → legal log → length log < 1048576) where
    -- what a step owes where the word is x
    abbrev Goes : St → ℕ → M → ℕ → (ℕ → ℕ) → (ℕ → View E → Type 0) → ℕ → Type 0
    Goes s id me i f then x = (w : View E) × (a : Act (Unit {0})) × Valid s.homes me.1 a × Holds (stepped s i (f x) id me.1 w a) × (then x w × (carried_after me.1 a ≡ me.1))

    pub enters : (slots id k n : ℕ) (me : M) → is_pass me.0.past.kind ≡ true → me.0.stay.place ≡ Outside → k < z.banks
        → Allows Holds slots id me (bank_at k) (λ x. (x + 1) % 2 ^ 64) (λ x after. Enters k n me.0 x after.0 × (after.1 ≡ me.1))
    enters slots id k n me pass_is outside below s h _ at _ =
        let v = me.0 in
        let walks = walks_of who legal right z s h id v at pass_is in
        let x : ℕ = bank_word z s.words k in
        let x' : ℕ = (x + 1) % 2 ^ 64 in
        let m : ℕ = slice_index s.words 0 in
        let known : k < length h.stands = let e = h.wide in omega arith in
        let views : List Stay = map stay_of s.views in
        let here = at_stay who legal right z s h id v at in
        subst (Goes s id me (bank_at k) (λ y. (y + 1) % 2 ^ 64) (Enters k n v)) (sym (bank_is z s.words k below)) (
          record v { stay = entered k n x v.stay },
          keeps,
          tt,
          on_bank who legal right z s h id v at k x' (entered k n x v.stay) below refl refl
              (bank_steps.enters m (bank_word z s.words) h.stands h.desk h.made views h.banks (bank_word z (slice_set s.words (bank_at k) x')) id k n v.stay here walks outside known (small who legal right z s h id v at short)
              (bank_turned z s.words k x' below (bank_within who legal right z s h id v at k below))),
          ((refl, λ i told. bank_steps.still m (bank_word z s.words) h.stands h.desk h.made views h.banks k n (all_at (Reached h.stands) v.stay.stays i (k, n) told (h.banks.each id v.stay here).stays)), refl),
        )

    pub leaves : (slots id k : ℕ) (me : M) → is_pass me.0.past.kind ≡ true → IsIn k me.0.stay.place → k < z.banks
        → Allows Holds slots id me (bank_at k) (λ x. (x + (2 ^ 64 - 1)) % 2 ^ 64) (λ x after. Leaves me.0 after.0 × (after.1 ≡ me.1))
    leaves slots id k me pass_is is_in below s h _ at _ =
        let v = me.0 in
        let walks = walks_of who legal right z s h id v at pass_is in
        let inside = counted_in k v.stay.place is_in in
        let x : ℕ = bank_word z s.words k in
        let x' : ℕ = (x + (2 ^ 64 - 1)) % 2 ^ 64 in
        let m : ℕ = slice_index s.words 0 in
        subst (Goes s id me (bank_at k) (λ y. (y + (2 ^ 64 - 1)) % 2 ^ 64) (λ _ w. Leaves v w)) (sym (bank_is z s.words k below)) (
          record v { stay = went v.stay },
          keeps,
          tt,
          on_bank who legal right z s h id v at k x' (went v.stay) below refl refl
              (bank_steps.leaves m (bank_word z s.words) h.stands h.desk h.made (map stay_of s.views) h.banks (bank_word z (slice_set s.words (bank_at k) x')) id k v.stay (at_stay who legal right z s h id v at) walks inside (small who legal right z s h id v at short)
              (bank_turned z s.words k x' below (bank_within who legal right z s h id v at k below))),
          (refl, refl),
        )

    pub claims : (slots id k old new : ℕ) (me : M) (a : Stand) → is_desk me.0.past.kind ≡ true → get_elem? me.0.stay.stands k ≡ some a → a.version ≡ old → a.building ≡ 0
        → ((j : ℕ) (c : Stand) → get_elem? me.0.stay.stands j ≡ some c → c.building ≡ 0) → old < new → new ≤ length me.0.past.seen → k < z.banks
        → Allows Holds slots id me (bank_at k) (λ x. either (eqb x (packed old 0 0)) (packed new 1 0) x) (λ x after. Claims k old new me.0 x after.0 × (after.1 ≡ me.1))
    claims slots id k old new me a desk_is has is_old free none_built up fits below s h _ at _ =
        let v = me.0 in
        let keeps_all = keeps_of who legal right z s h id v at desk_is in
        let x : ℕ = bank_word z s.words k in
        let f : ℕ → ℕ = λ y. either (eqb y (packed old 0 0)) (packed new 1 0) y in
        let words' : List ℕ = slice_set s.words (bank_at k) (f x) in
        let m : ℕ = slice_index s.words 0 in
        let same = desk_stands who legal right z s h id v at keeps_all in
        let has' : get_elem? h.stands k ≡ some a = subst (λ (l : List Stand). get_elem? l k ≡ some a) same has in
        let own = (h.past.each id v.past (at_past who legal right z s h id v at)).is_desk (desk_kind v.past.kind desk_is) in
        let low : new ≤ m = let e = h.past.word in let l = ap length own.1 in omega arith in
        let stands' : List Stand = cond (eqb x (packed old 0 0)) (set h.stands k (stand new 1 0)) h.stands in
        let w : View E = record v { stay = claimed k old new v.past.asker v.past.asker_loads x v.stay } in
        subst (Goes s id me (bank_at k) f (Claims k old new v)) (sym (bank_is z s.words k below)) (
          w,
          keeps,
          tt,
          assembled who legal right z s h id v at words' w h.log stands' (let q = h.alike id v at in record { walks = walks_after v.stay x ∙ q.walks; keeps = keeps_after v.stay x ∙ q.keeps; kept = q.kept }) (length-set s.words (bank_at k) (f x))
              (elim (eqb x (packed old 0 0)) as (λ t. length (cond t (set h.stands k (stand new 1 0)) h.stands) ≡ length h.stands) [ true ↦ length-set h.stands k (stand new 1 0) | false ↦ refl ])
              (same_past who legal right z s h id v at words' (zero_apart s.words k (f x)))
              (subst (λ (i : ℕ). Banks i (bank_word z words') stands' h.desk h.made (set (map stay_of s.views) id w.stay)) (sym (zero_apart s.words k (f x)))
              (claim_steps.claims m (bank_word z s.words) h.stands h.desk h.made (map stay_of s.views) h.banks (bank_word z words') id k old new v.past.asker v.past.asker_loads v.stay a (at_stay who legal right z s h id v at) keeps_all has is_old free none_built up low
              (bank_turned z s.words k (f x) below (bank_within who legal right z s h id v at k below))))
              (subst (λ (y : (ℕ → ℕ → ℕ) × List Touch). Places (nodes_of z) (steps_of z) (path_of z) (long_of z) right h.log stands' y.0 y.1)
              (λ i. (sym (bank_apart z s.words k (f x) below) i, sym (set_again (map touch_of s.views) id v.touch (at_touch who legal right z s h id v at)) i))
              (elim (eqb x (packed old 0 0)) as (λ t. Places (nodes_of z) (steps_of z) (path_of z) (long_of z) right h.log (cond t (set h.stands k (stand new 1 0)) h.stands) (place_word z s.words) (map touch_of s.views))
              [ true ↦ place_steps.claims (nodes_of z) (steps_of z) (path_of z) (long_of z) right h.log h.stands (place_word z s.words) (map touch_of s.views) h.places k old new a has' is_old up | false ↦ h.places ])),
          ((refl, claim_steps.inside_some m (bank_word z s.words) h.stands h.desk h.made (map stay_of s.views) h.banks k old a has' is_old free), refl),
        )
      where
        walks_after : (v : Stay) (x : ℕ) → (claimed k old new me.0.past.asker me.0.past.asker_loads x v).walks ≡ v.walks
        walks_after v x = elim (eqb x (packed old 0 0)) as (λ t. (cond t (record v { stands = set v.stands k (stand new 1 0) }) (record v { busy = record { bank = k; new = new; word = x; pass = me.0.past.asker; loads = me.0.past.asker_loads } ∷ v.busy })).walks ≡ v.walks) [ true ↦ refl | false ↦ refl ]

        keeps_after : (v : Stay) (x : ℕ) → (claimed k old new me.0.past.asker me.0.past.asker_loads x v).keeps ≡ v.keeps
        keeps_after v x = elim (eqb x (packed old 0 0)) as (λ t. (cond t (record v { stands = set v.stands k (stand new 1 0) }) (record v { busy = record { bank = k; new = new; word = x; pass = me.0.past.asker; loads = me.0.past.asker_loads } ∷ v.busy })).keeps ≡ v.keeps) [ true ↦ refl | false ↦ refl ]

    given_state_publishes : (slots id k : ℕ) (me : M) (a : Stand) → is_desk me.0.past.kind ≡ true → get_elem? me.0.stay.stands k ≡ some a → a.building ≡ 1 → size_of z ≤ a.zeroed → k < z.banks
        → Allows Holds slots id me (bank_at k) (λ x. bit_and x mask) (λ x after. (after.0 ≡ restood k (record a { building = 0 }) me.0) × (after.1 ≡ me.1))
    given_state_publishes slots id k me a desk_is has built all_zero below s h _ at _ =
        let v = me.0 in
        let keeps_all = keeps_of who legal right z s h id v at desk_is in
        let x : ℕ = bank_word z s.words k in
        let f : ℕ → ℕ = λ y. bit_and y mask in
        let words' : List ℕ = slice_set s.words (bank_at k) (f x) in
        let m : ℕ = slice_index s.words 0 in
        let a' : Stand = record a { building = 0 } in
        let has' : get_elem? h.stands k ≡ some a = subst (λ (l : List Stand). get_elem? l k ≡ some a) (desk_stands who legal right z s h id v at keeps_all) has in
        let w : View E = restood k a' v in
        subst (Goes s id me (bank_at k) f (λ _ w. w ≡ restood k a' v)) (sym (bank_is z s.words k below)) (
          w,
          keeps,
          tt,
          assembled who legal right z s h id v at words' w h.log (set h.stands k a') (let q = h.alike id v at in record { walks = q.walks; keeps = q.keeps; kept = q.kept }) (length-set s.words (bank_at k) (f x)) (length-set h.stands k a')
              (same_past who legal right z s h id v at words' (zero_apart s.words k (f x)))
              (subst (λ (i : ℕ). Banks i (bank_word z words') (set h.stands k a') h.desk h.made (set (map stay_of s.views) id w.stay)) (sym (zero_apart s.words k (f x)))
              (claim_steps.publishes m (bank_word z s.words) h.stands h.desk h.made (map stay_of s.views) h.banks (bank_word z words') id k v.stay a (at_stay who legal right z s h id v at) keeps_all has built (small who legal right z s h id v at short)
              (bank_turned z s.words k (f x) below (bank_within who legal right z s h id v at k below))))
              (subst (λ (y : (ℕ → ℕ → ℕ) × List Touch). Places (nodes_of z) (steps_of z) (path_of z) (long_of z) right h.log (set h.stands k a') y.0 y.1)
              (λ i. (sym (bank_apart z s.words k (f x) below) i, sym (set_again (map touch_of s.views) id v.touch (at_touch who legal right z s h id v at)) i))
              (place_steps.publishes (nodes_of z) (steps_of z) (path_of z) (long_of z) right h.log h.stands (place_word z s.words) (map touch_of s.views) h.places k a has' built all_zero)),
          (refl, refl),
        )

    pub publishes : (slots id k : ℕ) (me : M) (a : Stand) → is_desk me.0.past.kind ≡ true → get_elem? me.0.stay.stands k ≡ some a → a.building ≡ 1 → size_of z ≤ a.zeroed → k < z.banks
        → Allows Holds slots id me (bank_at k) (λ x. bit_and x mask) (λ x after. Published k me.0 after.0 × (after.1 ≡ me.1))
    publishes slots id k me a desk_is has built all_zero below s h n at l = let r = given_state_publishes slots id k me a desk_is has built all_zero below s h n at l in
        (r.0, r.1, r.2, r.3, (λ c e. r.4.0 ∙ ap (λ (d : Stand). restood k (record d { building = 0 }) me.0) (some-injective a c (sym has ∙ e)), r.4.1))

    given_state_zeroes : (slots id k : ℕ) (me : M) (a : Stand) → is_desk me.0.past.kind ≡ true → get_elem? me.0.stay.stands k ≡ some a → a.building ≡ 1 → a.zeroed < size_of z → k < z.banks
        → Allows Holds slots id me (place_at z k a.zeroed) (λ _. 0) (λ _ after. (after.0 ≡ restood k (record a { zeroed = a.zeroed + 1 }) me.0) × (after.1 ≡ me.1))
    given_state_zeroes slots id k me a desk_is has built within below s h _ at _ =
        let v = me.0 in
        let keeps_all = keeps_of who legal right z s h id v at desk_is in
        let p : ℕ = a.zeroed in
        let words' : List ℕ = slice_set s.words (place_at z k p) 0 in
        let a' : Stand = record a { zeroed = a.zeroed + 1 } in
        let has' : get_elem? h.stands k ≡ some a = subst (λ (l : List Stand). get_elem? l k ≡ some a) (desk_stands who legal right z s h id v at keeps_all) has in
        let top_is : slice_index words' 0 ≡ slice_index s.words 0 = zero_apart s.words (z.banks + k * size_of z + p) 0 in
        let w : View E = restood k a' v in (
          w,
          keeps,
          tt,
          assembled who legal right z s h id v at words' w h.log (set h.stands k a') (let q = h.alike id v at in record { walks = q.walks; keeps = q.keeps; kept = q.kept }) (length-set s.words (place_at z k p) 0) (length-set h.stands k a')
              (same_past who legal right z s h id v at words' top_is)
              (subst (λ (m : ℕ). Banks m (bank_word z words') (set h.stands k a') h.desk h.made (set (map stay_of s.views) id w.stay)) (sym top_is)
              (claim_steps.zeroes (slice_index s.words 0) (bank_word z s.words) h.stands h.desk h.made (map stay_of s.views) h.banks (bank_word z words') id k v.stay a (at_stay who legal right z s h id v at) keeps_all has built
              (λ j i. bank_stays z s.words k p 0 i j)))
              (subst (Places (nodes_of z) (steps_of z) (path_of z) (long_of z) right h.log (set h.stands k a') (place_word z words')) (sym (set_again (map touch_of s.views) id v.touch (at_touch who legal right z s h id v at)))
              (place_steps.zeroes (nodes_of z) (steps_of z) (path_of z) (long_of z) right h.log h.stands (place_word z s.words) (map touch_of s.views) h.places (place_word z words') k a has' built
              (place_here z s.words k p 0 h.sized below within) (λ q no. place_beside z s.words k p 0 q no) (λ j q no. place_else z s.words k p 0 j q within no))),
          (refl, refl),
        )

    pub zeroes : (slots id k p : ℕ) (me : M) (a : Stand) → is_desk me.0.past.kind ≡ true → get_elem? me.0.stay.stands k ≡ some a → a.building ≡ 1 → a.zeroed ≡ p → p < size_of z → k < z.banks
        → Allows Holds slots id me (place_at z k p) (λ _. 0) (λ _ after. Zeroed k me.0 after.0 × (after.1 ≡ me.1))
    zeroes slots id k p me a desk_is has built at within below =
        let G : ℕ → Type 0 = λ q. q < size_of z → Allows Holds slots id me (place_at z k q) (λ _. 0) (λ _ after. Zeroed k me.0 after.0 × (after.1 ≡ me.1)) in
        subst G at (λ low s h n at' l. let r = given_state_zeroes slots id k me a desk_is has built low below s h n at' l in
        (r.0, r.1, r.2, r.3, (λ c e. r.4.0 ∙ ap (λ (d : Stand). restood k (record d { zeroed = d.zeroed + 1 }) me.0) (some-injective a c (sym has ∙ e)), r.4.1))) within
