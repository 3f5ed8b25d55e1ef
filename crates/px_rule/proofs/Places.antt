-- Each step keeps the rule of the places.
use Rattle.std.proofs.Common.{◌≡◌, ◌≢◌, ℕ, ◌+◌, ◌<◌, ◌≤◌, Bool, true, cond, eqb, List, [], ◌∷◌, ◌++◌, length, set, take, refl, sym, ap, ◌∙◌, subst, ⊎_elim, arith, eq-eqb, ne_eqb}
use Rattle.std.specs.Prelude.{All}
use Rattle.std.proofs.lemmas.List.{take-append-le}
use Rattle.std.proofs.lemmas.List.Elements.{All-nil, All-cons, All-weaker}
use mathlib.Core.Logic.{dite}
use mathlib.Core.Option.{some}
use native.Mathlib.Decide.{ℕ_discrete}
use lib.ListN.{get_elem?}
use prog.Atomic.{either}
use Rattle.atomic_table.proofs.Lists.{at_set, set_here, set_else}
use Rattle.px_text.specs.declared.op.Op.{Op}
use Rattle.px_rule.specs.declared.view.Stand.{Stand}
use Rattle.px_rule.specs.declared.view.Found.{Found}
use Rattle.px_rule.specs.declared.view.Touch.{Touch}
use Rattle.px_text.specs.Operands.{Operand, set_of}
use Rattle.px_rule.specs.Words.{key_of}
use Rattle.px_rule.specs.RightBanks.{SetAt, Means, as_set, IsStep, OnPath, RightBank}
use Rattle.px_rule.specs.Known.{Agrees, found, MayPut}
use Rattle.px_rule.specs.Banks.{stand}
use Rattle.px_rule.specs.Places.{Stays, Places}
use Rattle.px_rule.specs.Steps.{looked, written}
use Rattle.px_rule.proofs.Views.{each_set, each_snoc, all_at, below, same_at}
use Rattle.px_rule.proofs.RightBanks.{MayWrite, writes, empty_right}
use Rattle.px_rule.proofs.Known.{stands_sound}

module _ {E : Type 0} (nodes steps : ℕ) (path : ℕ → ℕ → ℕ) (long : ℕ → ℕ) (right : List E → Op → Operand → Operand → List ℕ → Type 0) where
  abbrev Ok : List Stand → (ℕ → ℕ → ℕ) → Found → Type 0
  Ok = Stays nodes steps path long right

  abbrev Now : List E → List Stand → (ℕ → ℕ → ℕ) → List Touch → Type 0
  Now = Places nodes steps path long right

  module _ (log : List E) (stands : List Stand) (mem : ℕ → ℕ → ℕ) (views : List Touch) (h : Now log stands mem views) where
    -- what a view keeps of a bank that stands
    pub agrees : (id k n : ℕ) (v : Touch) (b : Stand) → get_elem? views id ≡ some v → get_elem? stands k ≡ some b → b.version ≡ n → Agrees nodes steps path long (right (take n log)) v.kept k n (mem k)
    agrees id k n v b at known is p w has =
        let o = all_at (Ok stands mem) v.kept has.0 (found k n p w) has.1 (h.each id v at) in
        let same : o.bank ≡ b = same_at stands k o.bank b o.at known in
        ((o.still (sym is ∙ sym (ap (λ (c : Stand). c.version) same))).1, o.some_word, o.within)

    fresh : (k n p w : ℕ) (b : Stand) → get_elem? stands k ≡ some b → b.version ≡ n → b.building ≡ 0 → mem k p ≡ w → w ≢ 0 → p < nodes + steps → Ok stands mem (found k n p w)
    fresh k n p w b known is free at some_word within =
        record { bank = b; at = known; reached = omega arith; still = λ _. (free, at); some_word = some_word; within = within }

    -- A look changes no word
    pub looks : (id k n p : ℕ) (v : Touch) (b : Stand) → get_elem? views id ≡ some v → get_elem? stands k ≡ some b → b.version ≡ n → b.building ≡ 0 → p < nodes + steps
        → Now log stands mem (set views id (looked k n p (mem k p) v))
    looks id k n p v b at known is free within = record {
      standing = h.standing;
      zeroed = h.zeroed;
      each = each_set (λ i u. All (Ok stands mem) u.kept) views id (looked k n p (mem k p) v) (λ j u _ e. h.each j u e)
          (dite (ℕ_discrete (mem k p) 0)
          (λ none. subst (λ (t : Bool). All (Ok stands mem) (cond t v.kept (found k n p (mem k p) ∷ v.kept))) (sym (eq-eqb (mem k p) 0 none)) (h.each id v at))
          (λ some_word. subst (λ (t : Bool). All (Ok stands mem) (cond t v.kept (found k n p (mem k p) ∷ v.kept))) (sym (ne_eqb (mem k p) 0 some_word))
          (All-cons (Ok stands mem) (found k n p (mem k p)) v.kept (fresh k n p (mem k p) b known is free refl some_word within) (h.each id v at))));
    }

    -- a write where the place was empty
    may_write : (id k n p w : ℕ) (v : Touch) (b : Stand) → get_elem? views id ≡ some v → get_elem? stands k ≡ some b → b.version ≡ n → RightBank nodes steps path long (right (take n log)) (mem k)
        → ((op : Op) (a c : Operand) (x y : List ℕ) → right (take n log) op a c x → right (take n log) op a c y → x ≡ y)
        → MayPut nodes steps path long (right (take n log)) v.kept k n p w → MayWrite nodes steps path long (right (take n log)) (mem k) p w
    may_write id k n p w v b at known is bank one m =
        let ok = agrees id k n v b at known is in
        let R = right (take n log) in
        let sound = stands_sound nodes steps path long R v.kept k n (mem k) ok bank one in
        record {
          some_word = m.some_word;
          in_bank = m.within;
          on_path = record {
            turn = m.turn;
            within = m.on_path.0;
            here = m.on_path.1;
            before = λ j l. let x = m.before j l in let y = ok (path (key_of w) j) x.0 x.1 in ((λ z. y.1 (sym y.0 ∙ z)), (λ z. x.2 (ap key_of (sym y.0) ∙ z)));
          };
          as_node = λ low. let x = m.as_node low in (x.0, x.1, x.2, x.3, x.4, x.5, x.6, x.7, names_of nodes (mem k) x.1 x.2 (sound true x.1 (set_of x.2) x.8));
          as_step = λ high. let x = m.as_step high in record {
            op = x.0;
            a = x.1;
            b = x.2;
            r = x.3;
            first = x.4;
            second = x.5;
            answer = x.6;
            small = (x.7, x.8, x.9);
            word = x.10;
            first_is = sound _ x.1 x.4 x.11;
            second_is = sound _ x.2 x.5 x.12;
            answer_is = names_of nodes (mem k) x.3 x.6 (sound true x.3 (set_of x.6) x.13);
            is_right = x.14;
          };
        }
      where
        set_in : Operand → List ℕ
        set_in (set_of x) = x
        set_in _ = []

        names_at : (nodes : ℕ) (m : ℕ → ℕ) (t : Bool) (s : ℕ) (o : Operand) → t ≡ true → Means nodes m t s o → SetAt nodes m s (set_in o)
        names_at nodes m t s o e (Rattle.px_rule.specs.RightBanks.as_index _) = absurd (cc)
        names_at nodes m t s o e (as_set _ x h) = h

        names_of : (nodes : ℕ) (m : ℕ → ℕ) (s : ℕ) (x : List ℕ) → Means nodes m true s (set_of x) → SetAt nodes m s x
        names_of nodes m s x h = names_at nodes m true s (set_of x) refl h

    -- the word of a kept place changes only where it was empty
    moved : (mem' : ℕ → ℕ → ℕ) → ((j q : ℕ) → mem j q ≢ 0 → mem' j q ≡ mem j q) → (f : Found) → Ok stands mem f → Ok stands mem' f
    moved mem' grown f o = record {
      bank = o.bank;
      at = o.at;
      reached = o.reached;
      some_word = o.some_word;
      within = o.within;
      still = λ e. let x = o.still e in (x.0, grown f.bank f.place (λ z. o.some_word (sym x.1 ∙ z)) ∙ x.1);
    }

    -- A write keeps the rule
    pub puts : (mem' : ℕ → ℕ → ℕ) (id k n p w : ℕ) (v : Touch) (b : Stand) → get_elem? views id ≡ some v → get_elem? stands k ≡ some b → b.version ≡ n → b.building ≡ 0
        → ((op : Op) (a c : Operand) (x y : List ℕ) → right (take n log) op a c x → right (take n log) op a c y → x ≡ y)
        → MayPut nodes steps path long (right (take n log)) v.kept k n p w
        → mem' k p ≡ either (eqb (mem k p) 0) w (mem k p) → ((q : ℕ) → q ≢ p → mem' k q ≡ mem k q) → ((j q : ℕ) → j ≢ k → mem' j q ≡ mem j q)
        → Now log stands mem' (set views id (written k n p w (mem k p) v))
    puts mem' id k n p w v b at known is free one m here others elsewhere = dite (ℕ_discrete (mem k p) 0)
        (λ none.
        let hit : mem' k p ≡ w = here ∙ ap (λ (t : Bool). either t w (mem k p)) (eq-eqb (mem k p) 0 none) in
        let grown : (j q : ℕ) → mem j q ≢ 0 → mem' j q ≡ mem j q = λ j q s. dite (ℕ_discrete j k)
        (λ yes. dite (ℕ_discrete q p) (λ e. absurd (s ((λ i. mem (yes i) (e i)) ∙ none))) (λ no. ap (λ (i : ℕ). mem' i q) yes ∙ (others q no ∙ ap (λ (i : ℕ). mem i q) (sym yes))))
        (λ no. elsewhere j q no) in
        let bank = subst (λ (i : ℕ). RightBank nodes steps path long (right (take i log)) (mem k)) is (h.standing k b known free) in
        let new = writes nodes steps path long (right (take n log)) (mem k) (mem' k) p w bank none hit others (may_write id k n p w v b at known is bank one m) in
        record {
          standing = λ j c e free'. dite (ℕ_discrete j k)
              (λ yes. let same : c ≡ b = same_at stands k c b (subst (λ (i : ℕ). get_elem? stands i ≡ some c) yes e) known in
              subst (λ (x : ℕ × ℕ). RightBank nodes steps path long (right (take x.0 log)) (mem' x.1)) (λ i. (sym (ap (λ (z : Stand). z.version) same ∙ is) i, sym yes i)) new)
              (λ no. right_same (right (take c.version log)) (mem j) (mem' j) (λ q. elsewhere j q no) (h.standing j c e free'));
          zeroed = λ j c e built q l. dite (ℕ_discrete j k)
              (λ yes. absurd (let same : c ≡ b = same_at stands k c b (subst (λ (i : ℕ). get_elem? stands i ≡ some c) yes e) known in let z : c.building ≡ 0 = ap (λ (z : Stand). z.building) same ∙ free in omega arith))
              (λ no. elsewhere j q no ∙ h.zeroed j c e built q l);
          each = each_set (λ i u. All (Ok stands mem') u.kept) views id (written k n p w (mem k p) v)
              (λ j u _ e. All-weaker (Ok stands mem) (Ok stands mem') (moved mem' grown) u.kept (h.each j u e))
              (subst (λ (t : Bool). All (Ok stands mem') (cond t (found k n p w ∷ v.kept) (found k n p (mem k p) ∷ v.kept))) (sym (eq-eqb (mem k p) 0 none))
              (All-cons (Ok stands mem') (found k n p w) v.kept
              (record { bank = b; at = known; reached = omega arith; still = λ _. (free, hit); some_word = m.some_word; within = m.within })
              (All-weaker (Ok stands mem) (Ok stands mem') (moved mem' grown) v.kept (h.each id v at))));
        })
        (λ some_word.
        let miss : mem' k p ≡ mem k p = here ∙ ap (λ (t : Bool). either t w (mem k p)) (ne_eqb (mem k p) 0 some_word) in
        let still : (j q : ℕ) → mem' j q ≡ mem j q = λ j q. dite (ℕ_discrete j k)
        (λ yes. ap (λ (i : ℕ). mem' i q) yes ∙ (dite (ℕ_discrete q p) (λ e. ap (mem' k) e ∙ (miss ∙ ap (mem k) (sym e))) (λ no. others q no) ∙ ap (λ (i : ℕ). mem i q) (sym yes)))
        (λ no. elsewhere j q no) in
        record {
          standing = λ j c e free'. right_same (right (take c.version log)) (mem j) (mem' j) (still j) (h.standing j c e free');
          zeroed = λ j c e built q l. still j q ∙ h.zeroed j c e built q l;
          each = each_set (λ i u. All (Ok stands mem') u.kept) views id (written k n p w (mem k p) v)
              (λ j u _ e. All-weaker (Ok stands mem) (Ok stands mem') (moved mem' (λ j q _. still j q)) u.kept (h.each j u e))
              (subst (λ (t : Bool). All (Ok stands mem') (cond t (found k n p w ∷ v.kept) (found k n p (mem k p) ∷ v.kept))) (sym (ne_eqb (mem k p) 0 some_word))
              (All-cons (Ok stands mem') (found k n p (mem k p)) v.kept
              (record { bank = b; at = known; reached = omega arith; still = λ _. (free, miss); some_word = some_word; within = m.within })
              (All-weaker (Ok stands mem) (Ok stands mem') (moved mem' (λ j q _. still j q)) v.kept (h.each id v at))));
        })
      where
        right_same : (R : Op → Operand → Operand → List ℕ → Type 0) (m m' : ℕ → ℕ) → ((q : ℕ) → m' q ≡ m q) → RightBank nodes steps path long R m → RightBank nodes steps path long R m'
        right_same R m m' same r = subst (RightBank nodes steps path long R) (λ i q. sym (same q) i) r

    -- Bank k has another state
    restates : (mem' : ℕ → ℕ → ℕ) (k : ℕ) (a a' : Stand) → get_elem? stands k ≡ some a
        → (a'.building ≡ 0 → RightBank nodes steps path long (right (take a'.version log)) (mem' k)) → (a'.building ≡ 1 → (p : ℕ) → p < a'.zeroed → mem' k p ≡ 0)
        → ((j q : ℕ) → j ≢ k → mem' j q ≡ mem j q)
        → ((n p w : ℕ) → n ≤ a.version → (n ≡ a.version → (a.building ≡ 0) × (mem k p ≡ w)) → (n ≤ a'.version) × (n ≡ a'.version → (a'.building ≡ 0) × (mem' k p ≡ w)))
        → Now log (set stands k a') mem' views
    restates mem' k a a' has bank zeros others kept =
        let new : List Stand = set stands k a' in
        let known = below stands k a has in
        record {
          standing = λ j c e free. ⊎_elim
              (λ (x : (j ≡ k) × (a' ≡ c)). subst (λ (y : ℕ × Stand). RightBank nodes steps path long (right (take y.1.version log)) (mem' y.0)) (λ i. (sym x.0 i, x.1 i)) (bank (ap (λ (z : Stand). z.building) x.1 ∙ free)))
              (λ (x : (j ≢ k) × (get_elem? stands j ≡ some c)). subst (RightBank nodes steps path long (right (take c.version log))) (λ i q. sym (others j q x.0) i) (h.standing j c x.1 free))
              (at_set stands k j a' c e);
          zeroed = λ j c e built q l. ⊎_elim
              (λ (x : (j ≡ k) × (a' ≡ c)). ap (λ (i : ℕ). mem' i q) x.0 ∙ zeros (ap (λ (z : Stand). z.building) x.1 ∙ built) q (subst (λ (z : Stand). q < z.zeroed) (sym x.1) l))
              (λ (x : (j ≢ k) × (get_elem? stands j ≡ some c)). others j q x.0 ∙ h.zeroed j c x.1 built q l)
              (at_set stands k j a' c e);
          each = λ i u e. All-weaker (Ok stands mem) (Ok new mem') (λ f o. dite (ℕ_discrete f.bank k)
              (λ yes. let same : o.bank ≡ a = same_at stands k o.bank a (subst (λ (i : ℕ). get_elem? stands i ≡ some o.bank) yes o.at) has in
              let x = kept f.version f.place f.word (subst (λ (z : Stand). f.version ≤ z.version) same o.reached)
              (λ e. let y = o.still (e ∙ sym (ap (λ (z : Stand). z.version) same)) in (ap (λ (z : Stand). z.building) (sym same) ∙ y.0, ap (λ (i : ℕ). mem i f.place) (sym yes) ∙ y.1)) in
              record {
                bank = a';
                at = subst (λ (i : ℕ). get_elem? new i ≡ some a') (sym yes) (set_here stands k a' known);
                reached = x.0;
                still = λ e. let y = x.1 e in (y.0, ap (λ (i : ℕ). mem' i f.place) yes ∙ y.1);
                some_word = o.some_word;
                within = o.within;
              })
              (λ no. record {
                bank = o.bank;
                at = set_else stands k f.bank a' no ∙ o.at;
                reached = o.reached;
                still = λ e. let y = o.still e in (y.0, others f.bank f.place no ∙ y.1);
                some_word = o.some_word;
                within = o.within;
              }))
              u.kept (h.each i u e);
        }

    pub claims : (k old new : ℕ) (a : Stand) → get_elem? stands k ≡ some a → a.version ≡ old → old < new → Now log (set stands k (stand new 1 0)) mem views
    claims k old new a has is up = restates mem k a (stand new 1 0) has (λ e. absurd (omega arith)) (λ _ p l. absurd (omega arith)) (λ j q _. refl) (λ n p w l _. (omega arith, λ e. absurd (omega arith)))

    -- One more place of bank k is zero
    pub zeroes : (mem' : ℕ → ℕ → ℕ) (k : ℕ) (a : Stand) → get_elem? stands k ≡ some a → a.building ≡ 1 → mem' k a.zeroed ≡ 0 → ((q : ℕ) → q ≢ a.zeroed → mem' k q ≡ mem k q) → ((j q : ℕ) → j ≢ k → mem' j q ≡ mem j q)
        → Now log (set stands k (record a { zeroed = a.zeroed + 1 })) mem' views
    zeroes mem' k a has built here others elsewhere = restates mem' k a (record a { zeroed = a.zeroed + 1 }) has (λ e. absurd (omega arith))
        (λ _ p l. dite (ℕ_discrete p a.zeroed) (λ yes. ap (mem' k) yes ∙ here) (λ no. others p no ∙ h.zeroed k a has built p (omega arith)))
        elsewhere (λ n p w l s. (l, λ e. absurd (let z = (s e).0 in omega arith)))

    pub publishes : (k : ℕ) (a : Stand) → get_elem? stands k ≡ some a → a.building ≡ 1 → nodes + steps ≤ a.zeroed → Now log (set stands k (record a { building = 0 })) mem views
    publishes k a has built all_zero = restates mem k a (record a { building = 0 }) has
        (λ _. empty_right nodes steps path long (right (take a.version log)) (mem k) (λ p l. h.zeroed k a has built p (omega arith)))
        (λ e. absurd (omega arith)) (λ j q _. refl) (λ n p w l s. (l, λ e. absurd (let z = (s e).0 in omega arith)))

    -- the history goes on
    pub accepts : (e : E) → ((k : ℕ) (b : Stand) → get_elem? stands k ≡ some b → b.version ≤ length log) → Now (log ++ e ∷ []) stands mem views
    accepts e low = record {
      standing = λ k b at free. subst (λ l. RightBank nodes steps path long (right l) (mem k)) (sym (take-append-le b.version log (e ∷ []) (low k b at))) (h.standing k b at free);
      zeroed = h.zeroed;
      each = h.each;
    }

    -- a seat came that keeps nothing
    pub came : (w : Touch) → w.kept ≡ [] → Now log stands mem (views ++ w ∷ [])
    came w none = record { standing = h.standing; zeroed = h.zeroed; each = each_snoc (λ i u. All (Ok stands mem) u.kept) views w h.each (subst (All (Ok stands mem)) (sym none) (All-nil (Ok stands mem))) }

    -- a seat keeps nothing any more
    pub spends : (id : ℕ) (w : Touch) → w.kept ≡ [] → Now log stands mem (set views id w)
    spends id w none = record { standing = h.standing; zeroed = h.zeroed; each = each_set (λ i u. All (Ok stands mem) u.kept) views id w (λ j u _ e. h.each j u e) (subst (All (Ok stands mem)) (sym none) (All-nil (Ok stands mem))) }
