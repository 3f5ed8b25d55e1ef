use Rattle.std.proofs.Common.{◌≡◌, sym, ap, ◌∙◌, arith}
use Rattle.px_workload.specs.declared.change.Change.{Change}
use Rattle.px_rule.specs.declared.view.View.{View}
use Rattle.px_hub.proofs.Beside.{sizes_add, size_put_in}
use Rattle.px_hub.proofs.desk.Desk.size_beside.Goals as goal

pub overflow_sub-result : goal.overflow_sub-result
overflow_sub-result g c =
    let seen = c.args.self.now.past.seen in
    let same : c.self.inside.journal.changes ≡ seen = sym c.self.invariant.seen ∙ ap (λ (v : View Change). v.past.seen) c.self.view_is in
    let add = sizes_add c.args.id c.live_size.result c.size_of.result c.self.inside.journal.changes seen same c.requires.legal c.requires.live c.live_size.ensures c.size_of.ensures.size in
    omega arith

pub returns-clause-others : goal.returns-clause-others
returns-clause-others g c =
    let seen = c.args.self.now.past.seen in
    let same : c.self.inside.journal.changes ≡ seen = sym c.self.invariant.seen ∙ ap (λ (v : View Change). v.past.seen) c.self.view_is in
    let add = sizes_add c.args.id c.live_size.result c.size_of.result c.self.inside.journal.changes seen same c.requires.legal c.requires.live c.live_size.ensures c.size_of.ensures.size in
    omega arith

pub returns-clause-replaced : goal.returns-clause-replaced
returns-clause-replaced g c new =
    let seen = c.args.self.now.past.seen in
    let same : c.self.inside.journal.changes ≡ seen = sym c.self.invariant.seen ∙ ap (λ (v : View Change). v.past.seen) c.self.view_is in
    let add = sizes_add c.args.id c.live_size.result c.size_of.result c.self.inside.journal.changes seen same c.requires.legal c.requires.live c.live_size.ensures c.size_of.ensures.size in
    let put = size_put_in c.args.id c.live_size.result c.size_of.result c.self.inside.journal.changes seen same new add c.live_size.ensures (c.size_of.ensures.others new) in
    omega arith
