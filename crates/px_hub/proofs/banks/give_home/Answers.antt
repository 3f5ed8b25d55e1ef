use Rattle.std.proofs.Common.{◌≡◌, ℕ, ◌+◌, None, sym, ap, ◌∙◌, subst}
use Rattle.px_rule.specs.declared.view.Stay.{Stay}
use Rattle.px_rule.specs.declared.view.View.{View}
use Rattle.px_rule.specs.Steps.{loaded, number_of, whole_note, whole_heard}
use Rattle.px_hub.specs.Banking.{GivesHome}
use Rattle.px_hub.proofs.Homes.{noted_number}
use Rattle.px_hub.proofs.banks.give_home.Goals as goal

pub returns-clause-home : goal.returns-clause-home
returns-clause-home g c =
    let E = g.row.L-Entry.Denot in
    let d : View E = c.args.desk.now.view in
    let v : View E = c.args.pass.now.view in
    let banks : ℕ = c.args.shared.now.shape.banks in
    let versions = c.args.stands.now.items in
    let chosen : Stay = c.choose_home-home.new.desk.view.stay in
    let home = c.choose_home-home.result in
    let asked : View E = record v { past = loaded v.past c.load.result } in
    let heard : c.hear.new.desk.view ≡ whole_heard d (whole_note None asked) = c.hear.ensures.view ∙ ap (whole_heard d) (c.note-note.ensures.note ∙ ap (whole_note None) c.load.ensures.told.0) in
    let asker : c.hear.new.desk.view.past.asker ≡ number_of v.past.kind = ap (λ (u : View E). u.past.asker) heard ∙ noted_number v.past.kind c.requires.pass in
    let asks : c.hear.new.desk.view.past.asker_loads ≡ v.past.loads + 1 = ap (λ (u : View E). u.past.asker_loads) heard in
    let gives = subst (λ (y : ℕ × ℕ). GivesHome versions c.args.version y.0 y.1 banks chosen home) (λ i. (asker i, asks i)) c.choose_home-home.ensures.home in
    subst (λ (s : Stay). GivesHome versions c.args.version (number_of v.past.kind) (v.past.loads + 1) banks s home) (sym c.settle.ensures.banks) gives
