use Rattle.std.proofs.Common.{◌≡◌, ◌≤◌, length, sym, ap, ◌∙◌, subst, arith}
use Rattle.px_rule.specs.declared.view.View.{View}
use Rattle.px_rule.specs.Table.{Seated}
use Rattle.px_hub.specs.Settling.{Settled}
use Rattle.px_hub.proofs.Settles.{settles}
use Rattle.px_hub.proofs.exchange.settle.Goals as goal

pub returns-clause-pass : goal.returns-clause-pass
returns-clause-pass g c =
    let E = g.row.L-Entry.Denot in
    let d : View E = c.args.desk.now.view in
    let v : View E = c.args.pass.now.view in
    let d1 : View E = c.load.new.seat.view in
    let w : View E = c.load-2.new.seat.view in
    let w_is : c.note-told.new.seat.view ≡ w = ap (λ (s : Seated E). s.view) c.note-told.ensures.seat in
    let told : c.note-told.result.view.past.last ≡ c.load-2.result = ap (λ (u : View E). u.past.last) (c.note-told.ensures.note) ∙ ap (λ (u : View E). u.past.last) c.load-2.ensures.told.0 in
    let long : length c.note-shown.new.seat.view.past.seen ≡ length d1.past.seen = ap (λ (s : Seated E). length s.view.past.seen) c.note-shown.ensures.seat in
    let most : c.load-2.result ≤ length d1.past.seen = let l = c.hear.ensures.last in omega arith in
    subst (λ (u : View E). Settled g.L.Law.who g.L.Law.legal d.past.seen d.past.made d.stay v u) (sym w_is)
    (settles g.L.Law.who g.L.Law.legal d v c.load.result c.load-2.result d1 c.note-shown.result.view c.take_in.new.pass.view w c.requires.before c.requires.desk.0 c.requires.desk.1 c.load.ensures.told c.note-shown.ensures.note c.take_in.ensures.view c.load-2.ensures.told most)
