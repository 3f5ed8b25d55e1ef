use Rattle.std.specs.Prelude.{take}
use Rattle.std.proofs.Common.{◌≡◌, ◌≤◌, ◌+◌, ℕ, refl, sym, ap, subst, ◌∙◌, arith}
use Rattle.px_rule.specs.declared.view.Stay.{Stay}
use Rattle.px_rule.specs.declared.view.View.{View}
use Rattle.px_rule.specs.Table.{bank_in, version_in}
use Rattle.px_rule.specs.Steps.{MayWrite}
use Rattle.px_rule.specs.Kept.{IsAt}
use Rattle.px_rule.proofs.Lasting.{grew_look, grew_write, grew_trans, passed_grew, kept_look, kept_write, kept_write_other}
use Rattle.px_intern.proofs.Growing.{found_same, node_at, proper_grew, may_put, written_at, shown_at, inside_at}
use Rattle.px_rule.proofs.Sounds.{wrote_look, wrote_write, wrote_on}
use Rattle.px_intern.proofs.walk.try_place.Goals as goal

two_more : (a b c : ℕ) → b ≡ a + 1 → c ≡ b + 1 → c ≤ a + 2
two_more a b c h j = omega arith

one_more : (a b : ℕ) → b ≡ a + 1 → b ≤ a + 2
one_more a b h = omega arith

pub write_step-found-requires-clause-table : goal.write_step-found-requires-clause-table
write_step-found-requires-clause-table g c = c.look_step-found.ensures.table ∙ c.requires.table

pub write_step-found-requires-clause-inside : goal.write_step-found-requires-clause-inside
write_step-found-requires-clause-inside g c = inside_at c.args.seat.now.view c.look_step-found.new.seat.view (ap (λ (u : View _). u.stay) c.look_step-found.ensures.view) c.requires.inside

pub write_step-found-requires-clause-word : goal.write_step-found-requires-clause-word
write_step-found-requires-clause-word g c =
    let v = c.args.seat.now.view in
    let w = c.look_step-found.new.seat.view in
    let k = bank_in v.stay.place in
    let n = version_in v.stay.place in
    let z = c.args.shared.now.shape in
    let p = c.args.at in
    let step = c.look_step-found.ensures.view in
    let grew = grew_look k n p c.look_step-found.result v w step in
    subst (λ (s : Stay). MayWrite g.L.Law.right z (bank_in s.place) (version_in s.place) p c.args.word w) (sym (ap (λ (u : View _). u.stay) step))
    (may_put g.L.Law.right z k n c.args.word c.requires.path.0 p w (proper_grew g.L.Law.right z k n v w c.args.word grew (c.requires.word c.requires.shape))
    (passed_grew g.L.Law.right z k n c.args.word c.requires.path.0 v w grew c.requires.path.3) c.requires.path.1 c.requires.path.2 c.requires.within)

pub returns-then-found-ne0-clause-grew : goal.returns-then-found-ne0-clause-grew
returns-then-found-ne0-clause-grew g c = grew_look _ _ _ _ c.args.seat.now.view c.look_step-found.new.seat.view c.look_step-found.ensures.view

pub returns-then-found-ne0-clause-wrote : goal.returns-then-found-ne0-clause-wrote
returns-then-found-ne0-clause-wrote g c =
    let v = c.args.seat.now.view in
    wrote_look (IsAt (bank_in v.stay.place) (version_in v.stay.place) (λ x. x ≡ c.args.word)) (bank_in v.stay.place) (version_in v.stay.place) c.args.at c.look_step-found.result v c.look_step-found.new.seat.view c.look_step-found.ensures.view

pub returns-then-found-ne0-clause-touched : goal.returns-then-found-ne0-clause-touched
returns-then-found-ne0-clause-touched g c = one_more c.args.seat.now.view.touch.touches c.look_step-found.new.seat.view.touch.touches (ap (λ (u : View _). u.touch.touches) c.look_step-found.ensures.view)

pub returns-then-found-ne0-clause-found : goal.returns-then-found-ne0-clause-found
returns-then-found-ne0-clause-found g c =
    let v = c.args.seat.now.view in
    let w = c.look_step-found.new.seat.view in
    let k = bank_in v.stay.place in
    let n = version_in v.stay.place in
    let z = c.args.shared.now.shape in
    let p = c.args.at in
    let x = c.look_step-found.result in
    record {
      kept = kept_look k n p x v w c.look_step-found.ensures.view c.if-found-ne0.true;
      same = found_same g.L.Law.right z k n c.args.word c.requires.path.0 p x v c.requires.shape (g.L.Law.one_answer (take n v.past.seen)) c.requires.path.1 c.requires.path.2 c.requires.within (c.requires.word c.requires.shape) c.look_step-found.ensures.shown c.if-found-ne0.true;
      node = node_at g.L.Law.right z c.args.word c.requires.path.0 p c.requires.shape c.requires.path.2;
    }

pub returns-then-found-eq0-clause-table : goal.returns-then-found-eq0-clause-table
returns-then-found-eq0-clause-table g c = c.write_step-found.ensures.table ∙ c.look_step-found.ensures.table

pub returns-then-found-eq0-clause-grew : goal.returns-then-found-eq0-clause-grew
returns-then-found-eq0-clause-grew g c =
    grew_trans c.args.seat.now.view c.look_step-found.new.seat.view c.write_step-found.new.seat.view (grew_look _ _ _ _ _ _ c.look_step-found.ensures.view) (grew_write _ _ _ _ _ _ _ c.write_step-found.ensures.view)

pub returns-then-found-eq0-clause-wrote : goal.returns-then-found-eq0-clause-wrote
returns-then-found-eq0-clause-wrote g c =
    let v = c.args.seat.now.view in
    let u = c.look_step-found.new.seat.view in
    let w = c.write_step-found.new.seat.view in
    let k = bank_in v.stay.place in
    let n = version_in v.stay.place in
    let p = c.args.at in
    let P = IsAt k n (λ x. x ≡ c.args.word) in
    let step = written_at v u w p c.args.word c.write_step-found.result (ap (λ (a : View _). a.stay) c.look_step-found.ensures.view) c.write_step-found.ensures.view in
    wrote_on P P P v u w (λ f h. h) (λ f h. h) (wrote_look P k n p c.look_step-found.result v u c.look_step-found.ensures.view)
    (wrote_write P k n p c.args.word c.write_step-found.result u w (refl, refl, refl) step)

pub returns-then-found-eq0-clause-touched : goal.returns-then-found-eq0-clause-touched
returns-then-found-eq0-clause-touched g c =
    two_more c.args.seat.now.view.touch.touches c.look_step-found.new.seat.view.touch.touches c.write_step-found.new.seat.view.touch.touches (ap (λ (a : View _). a.touch.touches) c.look_step-found.ensures.view)
    (ap (λ (a : View _). a.touch.touches) c.write_step-found.ensures.view)

pub returns-else-found-eq0-clause-table : goal.returns-else-found-eq0-clause-table
returns-else-found-eq0-clause-table g c = c.write_step-found.ensures.table ∙ c.look_step-found.ensures.table

pub returns-else-found-eq0-clause-grew : goal.returns-else-found-eq0-clause-grew
returns-else-found-eq0-clause-grew g c =
    grew_trans c.args.seat.now.view c.look_step-found.new.seat.view c.write_step-found.new.seat.view (grew_look _ _ _ _ _ _ c.look_step-found.ensures.view) (grew_write _ _ _ _ _ _ _ c.write_step-found.ensures.view)

pub returns-else-found-eq0-clause-wrote : goal.returns-else-found-eq0-clause-wrote
returns-else-found-eq0-clause-wrote g c =
    let v = c.args.seat.now.view in
    let u = c.look_step-found.new.seat.view in
    let w = c.write_step-found.new.seat.view in
    let k = bank_in v.stay.place in
    let n = version_in v.stay.place in
    let p = c.args.at in
    let P = IsAt k n (λ x. x ≡ c.args.word) in
    let step = written_at v u w p c.args.word c.write_step-found.result (ap (λ (a : View _). a.stay) c.look_step-found.ensures.view) c.write_step-found.ensures.view in
    wrote_on P P P v u w (λ f h. h) (λ f h. h) (wrote_look P k n p c.look_step-found.result v u c.look_step-found.ensures.view)
    (wrote_write P k n p c.args.word c.write_step-found.result u w (refl, refl, refl) step)

pub returns-else-found-eq0-clause-touched : goal.returns-else-found-eq0-clause-touched
returns-else-found-eq0-clause-touched g c =
    two_more c.args.seat.now.view.touch.touches c.look_step-found.new.seat.view.touch.touches c.write_step-found.new.seat.view.touch.touches (ap (λ (a : View _). a.touch.touches) c.look_step-found.ensures.view)
    (ap (λ (a : View _). a.touch.touches) c.write_step-found.ensures.view)

pub returns-then-found-eq0-clause-found : goal.returns-then-found-eq0-clause-found
returns-then-found-eq0-clause-found g c =
    let v = c.args.seat.now.view in
    let u = c.look_step-found.new.seat.view in
    let w = c.write_step-found.new.seat.view in
    let k = bank_in v.stay.place in
    let n = version_in v.stay.place in
    let p = c.args.at in
    let step = written_at v u w p c.args.word c.write_step-found.result (ap (λ (a : View _). a.stay) c.look_step-found.ensures.view) c.write_step-found.ensures.view in
    record {
      kept = kept_write k n p c.args.word c.write_step-found.result u w step c.if-found-eq0.true;
      same = λ _. refl;
      node = node_at g.L.Law.right c.args.shared.now.shape c.args.word c.requires.path.0 p c.requires.shape c.requires.path.2;
    }

pub returns-else-found-eq0-clause-found : goal.returns-else-found-eq0-clause-found
returns-else-found-eq0-clause-found g c =
    let v = c.args.seat.now.view in
    let u = c.look_step-found.new.seat.view in
    let w = c.write_step-found.new.seat.view in
    let k = bank_in v.stay.place in
    let n = version_in v.stay.place in
    let z = c.args.shared.now.shape in
    let p = c.args.at in
    let x = c.write_step-found.result in
    let stay = ap (λ (a : View _). a.stay) c.look_step-found.ensures.view in
    let grew = grew_look k n p c.look_step-found.result v u c.look_step-found.ensures.view in
    record {
      kept = kept_write_other k n p c.args.word x u w (written_at v u w p c.args.word x stay c.write_step-found.ensures.view) c.if-found-eq0.false;
      same = found_same g.L.Law.right z k n c.args.word c.requires.path.0 p x u c.requires.shape (g.L.Law.one_answer (take n u.past.seen)) c.requires.path.1 c.requires.path.2 c.requires.within
          (proper_grew g.L.Law.right z k n v u c.args.word grew (c.requires.word c.requires.shape)) (shown_at g.L.Law.right z v u p x stay c.write_step-found.ensures.shown) c.if-found-eq0.false;
      node = node_at g.L.Law.right z c.args.word c.requires.path.0 p c.requires.shape c.requires.path.2;
    }
