-- The three parts of the rule put together, after a step of one seat and after a seat was cut in two.
use Rattle.std.proofs.Common.{◌≡◌, ℕ, suc, ◌+◌, ◌*◌, ◌^◌, ◌<◌, ◌≤◌, true, false, List, [], ◌∷◌, ◌++◌, map, length, set, take, refl, sym, ap, ◌∙◌, subst, arith, length-set}
use Rattle.std.specs.Prelude.{slice_index, slice_set}
use Rattle.std.proofs.lemmas.List.{map-set, take-append-le}
use mathlib.Core.Option.{some}
use lib.ListN.{get_elem?}
use Rattle.atomic_table.specs.Table.{State, Me}
use Rattle.atomic_table.proofs.Lists.{set_again, at_map}
use Rattle.px_text.specs.declared.op.Op.{Op}
use Rattle.px_rule.specs.declared.view.Past.{Past}
use Rattle.px_text.specs.Operands.{Operand}
use Rattle.px_rule.specs.Words.{nodes_of, steps_of, size_of, bank_at, place_at, bank_word, place_word, path_of, long_of}
use Rattle.px_rule.specs.RightBanks.{RightBank}
use Rattle.px_rule.specs.Histories.{Histories}
use Rattle.px_rule.specs.Banks.{Where, Banks}
use Rattle.px_rule.specs.Places.{Places}
use Rattle.px_rule.specs.Rule.{is_pass, is_desk, Alike, past_of, stay_of, touch_of, Rule}
use Rattle.px_rule.specs.Steps.{touch_none, Shown}
use Rattle.px_rule.specs.declared.shape.Shape.{Shape}
use Rattle.px_rule.specs.declared.view.View.{View}
use Rattle.px_rule.specs.declared.view.Place.TheVariants.{Outside, Inside}
use Rattle.px_rule.specs.declared.view.Stand.{Stand}
use Rattle.px_rule.specs.declared.view.Stay.{Stay}
use Rattle.px_rule.specs.declared.view.Touch.{Touch}
use Rattle.px_rule.proofs.Places as place_steps
use Rattle.px_rule.proofs.Views.{each_set, each_snoc}
use mathlib.Core.List.{map-append}
use Rattle.px_rule.proofs.WordChanges.{zero_apart, bank_apart, bank_stays}
use Rattle.px_rule.proofs.RightBanks.{one_number, one_set}

module _ {E : Type 0} (who : E → ℕ) (legal : List E → Type 0) (right : List E → Op → Operand → Operand → List ℕ → Type 0) (z : Shape) where
  abbrev St : Type 0
  St = State (Unit {0}) (View E)

  abbrev M : Type 0
  M = Me (Unit {0}) (View E)

  abbrev Holds : St → Type 0
  Holds = Rule who legal right z

  module _ (s : St) (h : Holds s) (id : ℕ) (v : View E) (at : get_elem? s.views id ≡ some v) where
    abbrev top : ℕ
    top = slice_index s.words 0

    pub at_past : get_elem? (map past_of s.views) id ≡ some v.past
    at_past = at_map past_of s.views id v at

    pub at_stay : get_elem? (map stay_of s.views) id ≡ some v.stay
    at_stay = at_map stay_of s.views id v at

    pub at_touch : get_elem? (map touch_of s.views) id ≡ some v.touch
    at_touch = at_map touch_of s.views id v at

    -- the three parts together, after a step of one seat
    pub assembled : (words' : List ℕ) (w : View E) (log' : List E) (stands' : List Stand) → Alike w → length words' ≡ length s.words → length stands' ≡ length h.stands
        → Histories who legal log' h.desk h.made h.seat h.holder h.mine (slice_index words' 0) (set (map past_of s.views) id w.past)
        → Banks (slice_index words' 0) (bank_word z words') stands' h.desk h.made (set (map stay_of s.views) id w.stay)
        → Places (nodes_of z) (steps_of z) (path_of z) (long_of z) right log' stands' (place_word z words') (set (map touch_of s.views) id w.touch)
        → Holds (record { words = words'; homes = s.homes; views = set s.views id w })
    assembled words' w log' stands' alike long wide past banks places = record {
      log = log';
      desk = h.desk;
      made = h.made;
      seat = h.seat;
      holder = h.holder;
      mine = h.mine;
      stands = stands';
      wide = wide ∙ h.wide;
      sized = long ∙ h.sized;
      alike = each_set (λ j u. Alike u) s.views id w (λ j u _ e. h.alike j u e) alike;
      past = subst (Histories who legal log' h.desk h.made h.seat h.holder h.mine (slice_index words' 0)) (sym (map-set past_of s.views id w)) past;
      banks = subst (Banks (slice_index words' 0) (bank_word z words') stands' h.desk h.made) (sym (map-set stay_of s.views id w)) banks;
      places = subst (Places (nodes_of z) (steps_of z) (path_of z) (long_of z) right log' stands' (place_word z words')) (sym (map-set touch_of s.views id w)) places;
    }

    pub same_past : (words' : List ℕ) → slice_index words' 0 ≡ top → Histories who legal h.log h.desk h.made h.seat h.holder h.mine (slice_index words' 0) (set (map past_of s.views) id v.past)
    same_past words' e = subst (λ (x : ℕ × List (Past E)). Histories who legal h.log h.desk h.made h.seat h.holder h.mine x.0 x.1) (λ i. (sym e i, sym (set_again (map past_of s.views) id v.past at_past) i)) h.past

    pub same_banks : Banks top (bank_word z s.words) h.stands h.desk h.made (set (map stay_of s.views) id v.stay)
    same_banks = subst (Banks top (bank_word z s.words) h.stands h.desk h.made) (sym (set_again (map stay_of s.views) id v.stay at_stay)) h.banks

    pub same_places : (words' : List ℕ) → place_word z words' ≡ place_word z s.words → Places (nodes_of z) (steps_of z) (path_of z) (long_of z) right h.log h.stands (place_word z words') (set (map touch_of s.views) id v.touch)
    same_places words' e = subst (λ (x : (ℕ → ℕ → ℕ) × List Touch). Places (nodes_of z) (steps_of z) (path_of z) (long_of z) right h.log h.stands x.0 x.1) (λ i. (sym e i, sym (set_again (map touch_of s.views) id v.touch at_touch) i)) h.places

    -- a step on the word of bank k, which changes what the seat knows of banks
    pub on_bank : (k n : ℕ) (stay : Stay) → k < z.banks → stay.walks ≡ v.stay.walks → stay.keeps ≡ v.stay.keeps
        → Banks top (bank_word z (slice_set s.words (bank_at k) n)) h.stands h.desk h.made (set (map stay_of s.views) id stay)
        → Holds (record { words = slice_set s.words (bank_at k) n; homes = s.homes; views = set s.views id (record v { stay = stay }) })
    on_bank k n stay below walks keeps_all banks = let a = h.alike id v at in let words' : List ℕ = slice_set s.words (bank_at k) n in
        assembled words' (record v { stay = stay }) h.log h.stands (record { walks = walks ∙ a.walks; keeps = keeps_all ∙ a.keeps; kept = a.kept }) (length-set s.words (bank_at k) n) refl (same_past words' (zero_apart s.words k n))
        (subst (λ (m : ℕ). Banks m (bank_word z words') h.stands h.desk h.made (set (map stay_of s.views) id stay)) (sym (zero_apart s.words k n)) banks)
        (same_places words' (bank_apart z s.words k n below))

    pub bank_within : (k : ℕ) → k < z.banks → suc k < length s.words
    bank_within k below = let n : ℕ = z.banks * size_of z in let e : length s.words ≡ suc (z.banks + n) = h.sized in omega arith

    -- a pass walks, and the desk keeps the banks' states
    pub walks_of : is_pass v.past.kind ≡ true → v.stay.walks ≡ true
    walks_of e = (h.alike id v at).walks ∙ e

    pub keeps_of : is_desk v.past.kind ≡ true → v.stay.keeps ≡ true
    keeps_of e = (h.alike id v at).keeps ∙ e

    -- the desk's states of banks are those of the rule
    pub desk_stands : v.stay.keeps ≡ true → v.stay.stands ≡ h.stands
    desk_stands all = ((h.banks.each id v.stay at_stay).keeper all).1

    -- a step on a place leaves the histories and the bank words
    pub on_place : (k p n : ℕ) (touch : Touch) → (is_pass v.past.kind ≡ false → touch.kept ≡ [])
        → Places (nodes_of z) (steps_of z) (path_of z) (long_of z) right h.log h.stands (place_word z (slice_set s.words (place_at z k p) n)) (set (map touch_of s.views) id touch)
        → Holds (record { words = slice_set s.words (place_at z k p) n; homes = s.homes; views = set s.views id (record v { touch = touch }) })
    on_place k p n touch kept places = let words' : List ℕ = slice_set s.words (place_at z k p) n in let a = h.alike id v at in
        let top_is : slice_index words' 0 ≡ slice_index s.words 0 = zero_apart s.words (z.banks + k * size_of z + p) n in
        assembled words' (record v { touch = touch }) h.log h.stands (record { walks = a.walks; keeps = a.keeps; kept = kept }) (length-set s.words (place_at z k p) n) refl (same_past words' top_is)
        (subst (λ (x : ℕ × (ℕ → ℕ)). Banks x.0 x.1 h.stands h.desk h.made (set (map stay_of s.views) id v.stay)) (λ i. (sym top_is i, sym (bank_stays z s.words k p n) i)) same_banks) places

    -- a seat that is inside a bank is a pass
    pub inside_pass : (k n : ℕ) → v.stay.place ≡ Inside k n → is_pass v.past.kind ≡ false → ⊥
    inside_pass k n inside none = let e : Outside ≡ Inside k n = sym ((h.banks.each id v.stay at_stay).out ((h.alike id v at).walks ∙ none)) ∙ inside in cc

    -- the bank of a pass that is inside
    pub inside_stand : (k n : ℕ) → v.stay.place ≡ Inside k n → (b : Stand) × (get_elem? h.stands k ≡ some b) × (b.version ≡ n) × (b.building ≡ 0)
    inside_stand k n inside = subst (Where h.stands) inside (h.banks.each id v.stay at_stay).where_is

    -- the first n changes that the seat has seen are those of the history
    pub same_front : (n : ℕ) → n ≤ length v.past.seen → take n h.log ≡ take n v.past.seen
    same_front n low = let b = (h.past.each id v.past at_past).seen in ap (take n) b.1 ∙ take-append-le n v.past.seen b.0 low

    -- what a pass that is inside is shown
    pub shown_at : (k n p : ℕ) → v.stay.place ≡ Inside k n → n ≤ length v.past.seen → Shown right z k n p v (place_word z s.words k p)
    shown_at k n p inside low =
        let b = inside_stand k n inside in
        let R = right (take n v.past.seen) in
        let bank : RightBank (nodes_of z) (steps_of z) (path_of z) (long_of z) R (place_word z s.words k) =
        subst (λ (l : List E). RightBank (nodes_of z) (steps_of z) (path_of z) (long_of z) (right l) (place_word z s.words k)) (ap (λ (i : ℕ). take i h.log) b.2 ∙ same_front n low) (h.places.standing k b.0 b.1 b.3) in
        record {
          mem = place_word z s.words k;
          bank = bank;
          agrees = λ q w has. let y = place_steps.agrees (nodes_of z) (steps_of z) (path_of z) (long_of z) right h.log h.stands (place_word z s.words) (map touch_of s.views) h.places id k n v.touch b.0 at_touch b.1 b.2 q w (has.0, has.1) in (y.0, y.1, y.2);
          here = refl;
          one_number = one_number (nodes_of z) (steps_of z) (path_of z) (long_of z) R (place_word z s.words k) bank;
          one_set = one_set (nodes_of z) (place_word z s.words k);
        }

    -- a seat that knows no word is cut off
    pub no_touches : Places (nodes_of z) (steps_of z) (path_of z) (long_of z) right h.log h.stands (place_word z s.words) (set (map touch_of s.views) id v.touch ++ touch_none ∷ [])
    no_touches = subst (λ l. Places (nodes_of z) (steps_of z) (path_of z) (long_of z) right h.log h.stands (place_word z s.words) (l ++ touch_none ∷ [])) (sym (set_again (map touch_of s.views) id v.touch at_touch))
        (place_steps.came (nodes_of z) (steps_of z) (path_of z) (long_of z) right h.log h.stands (place_word z s.words) (map touch_of s.views) h.places touch_none refl)

    pub small : ((log : List E) → legal log → length log < 2 ^ 20) → top < 1048576
    small short = let e = h.past.word in let l = short h.log h.past.is_legal in omega arith

  -- the parts together, after a seat was cut in two
  pub cut : (s : St) (h : Holds s) (id : ℕ) (l r : View E) (made : ℕ) (seat holder : ℕ → ℕ) (mine : ℕ → List E) → Alike l → Alike r
      → Histories who legal h.log h.desk made seat holder mine (slice_index s.words 0) (set (map past_of s.views) id l.past ++ r.past ∷ [])
      → Banks (slice_index s.words 0) (bank_word z s.words) h.stands h.desk made (set (map stay_of s.views) id l.stay ++ r.stay ∷ [])
      → Places (nodes_of z) (steps_of z) (path_of z) (long_of z) right h.log h.stands (place_word z s.words) (set (map touch_of s.views) id l.touch ++ r.touch ∷ [])
      → Holds (record { words = s.words; homes = s.homes; views = slice_set s.views id l ++ r ∷ [] })
  cut s h id l r made seat holder mine alike_l alike_r past banks places =
      let at : (B : Type 0) (f : View E → B) → map f (slice_set s.views id l ++ r ∷ []) ≡ set (map f s.views) id (f l) ++ f r ∷ [] =
      λ B f. map-append f (slice_set s.views id l) (r ∷ []) ∙ ap (λ xs. xs ++ f r ∷ []) (map-set f s.views id l) in
      record {
        log = h.log;
        desk = h.desk;
        made = made;
        seat = seat;
        holder = holder;
        mine = mine;
        stands = h.stands;
        wide = h.wide;
        sized = h.sized;
        alike = each_snoc (λ j u. Alike u) (slice_set s.views id l) r (each_set (λ j u. Alike u) s.views id l (λ j u _ e. h.alike j u e) alike_l) alike_r;
        past = subst (Histories who legal h.log h.desk made seat holder mine (slice_index s.words 0)) (sym (at (Past E) past_of)) past;
        banks = subst (Banks (slice_index s.words 0) (bank_word z s.words) h.stands h.desk made) (sym (at Stay stay_of)) banks;
        places = subst (Places (nodes_of z) (steps_of z) (path_of z) (long_of z) right h.log h.stands (place_word z s.words)) (sym (at Touch touch_of)) places;
      }
