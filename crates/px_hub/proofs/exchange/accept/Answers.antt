use Rattle.std.proofs.Common.{◌≡◌, ◌++◌, ◌∷◌, [], List, Some, sym, ap, ◌∙◌, subst}
use Rattle.px_rule.specs.declared.view.View.{View}
use Rattle.px_rule.specs.Histories.{Begins}
use Rattle.px_rule.specs.Steps.{whole_note, whole_heard, whole_accepted}
use Rattle.px_rule.proofs.Beginnings.{begins_more}
use Rattle.px_hub.proofs.exchange.accept.Goals as goal

pub settle-requires-clause-before : goal.settle-requires-clause-before
settle-requires-clause-before g c =
    let E = g.row.L-Entry.Denot in
    let d : View E = c.args.desk.now.view in
    let v : View E = c.args.pass.now.view in
    let e : E = c.args.entry.now in
    let asked : c.ask-permit.new.pass.view.past.seen ≡ v.past.seen = ap (λ (u : View E). u.past.seen) c.ask-permit.ensures.pass in
    let noted : c.ask-permit.result.view.past.seen ≡ v.past.seen = ap (λ (u : View E). u.past.seen) c.ask-permit.ensures.note in
    let heard : c.hear.new.desk.view ≡ whole_heard d (whole_note (Some e) v) = c.hear.ensures.view ∙ ap (whole_heard d) c.ask-permit.ensures.note in
    let now : c.change.new.desk.view.past.seen ≡ d.past.seen ++ e ∷ [] = ap (λ (u : View E). u.past.seen) (c.change.ensures.view ∙ ap whole_accepted heard) in
    subst (λ (l : List E × List E). Begins l.0 l.1) (λ i. (sym asked i, sym now i)) (begins_more v.past.seen d.past.seen (e ∷ []) (subst (λ l. Begins l d.past.seen) noted c.hear.ensures.before))
