-- What a pass and the desk know once the pass has caught up.
use Rattle.std.proofs.Common.{◌≡◌, ℕ, ◌<◌, ◌≤◌, Bool, true, cond, List, [], ◌++◌, length, None, refl, sym, ap, ◌∙◌, subst, arith, le-leb}
use Rattle.std.specs.Prelude.{All}
use Rattle.px_rule.specs.declared.view.Kind.TheVariants.{Desk}
use Rattle.px_rule.specs.declared.view.View.{View}
use Rattle.px_rule.specs.Histories.{Begins, named}
use Rattle.px_rule.specs.Steps.{Told, Loads, loaded, longer, standing, whole_note, whole_met}
use Rattle.px_rule.proofs.Beginnings.{begins_length, begins_whole}
use Rattle.px_hub.specs.Settling.{Settled}

pub longer_more : {E : Type 0} (xs ys : List E) → length xs ≤ length ys → longer xs ys ≡ ys
longer_more xs ys h = ap (λ (b : Bool). cond b ys xs) (le-leb (length xs) (length ys) h)

-- the desk d found the version f, and the pass v, to which it was shown, found x
module _ {E : Type 0} (who : E → ℕ) (legal : List E → Type 0) (d v : View E) (f x : ℕ) where
  abbrev shown : View E
  shown = whole_note None (record d { past = loaded d.past f })

  abbrev met : View E
  met = whole_met v shown

  abbrev after : View E
  after = record met { past = loaded met.past x }

  settled : Begins v.past.seen d.past.seen → d.past.kind ≡ Desk → d.stay.keeps ≡ true → Told who legal d.past f → Told who legal met.past x → x ≤ length d.past.seen
      → Settled who legal d.past.seen d.past.made d.stay v after
  settled before desk keeps here there most =
      let known = here.of_desk desk in
      let seen : met.past.seen ≡ d.past.seen = longer_more v.past.seen d.past.seen (begins_length v.past.seen d.past.seen before) in
      let long = ap length seen in
      let least : length d.past.seen ≤ x = let a = begins_length met.past.seen there.log there.seen in let b = there.long in omega arith in
      let log : there.log ≡ d.past.seen = begins_whole met.past.seen there.log there.seen (let b = there.long in omega arith) ∙ seen in
      record {
        kind = refl;
        mine = refl;
        seen = seen;
        before = before;
        loads = omega arith;
        last = omega arith;
        of_passes = subst (λ l. All (λ e. who e < d.past.made) l) (sym known.0) known.1;
        is_legal = subst legal (sym known.0) here.is_legal;
        own = λ p is. subst (λ l. Begins (named who p l) v.past.mine) log (there.of_pass p is);
        place = refl;
        enters = refl;
        stays = ap (λ (t : Bool). cond t (standing 0 d.stay.stands) [] ++ v.stay.stays) keeps;
        busy = refl;
        touch = refl;
      }

  pub settles : (d1 n v1 w : View E) → Begins v.past.seen d.past.seen → d.past.kind ≡ Desk → d.stay.keeps ≡ true → Loads who legal d f d1 → n ≡ whole_note None d1
      → v1 ≡ whole_met v n → Loads who legal v1 x w → x ≤ length d1.past.seen → Settled who legal d.past.seen d.past.made d.stay v w
  settles d1 n v1 w before desk keeps here n_is v1_is there most =
      let met_is : v1 ≡ met = v1_is ∙ ap (whole_met v) (n_is ∙ ap (whole_note None) here.0) in
      let w_is : w ≡ after = there.0 ∙ ap (λ (u : View E). record u { past = loaded u.past x }) met_is in
      let told : Told who legal met.past x = subst (λ (u : View E). Told who legal u.past x) met_is there.1 in
      let long : length d1.past.seen ≡ length d.past.seen = ap (λ (u : View E). length u.past.seen) here.0 in
      subst (λ (u : View E). Settled who legal d.past.seen d.past.made d.stay v u) (sym w_is) (settled before desk keeps here.1 told (omega arith))
