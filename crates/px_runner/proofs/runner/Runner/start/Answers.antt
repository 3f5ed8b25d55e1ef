use Rattle.std.proofs.Common.{◌≡◌, ◌+◌, [], ◌∷◌, ◌++◌, length, refl, ◌∙◌, ap, arith}
use Rattle.px_runner.proofs.Moves.{start_on}
use Rattle.px_runner.proofs.runner.Runner.start.Goals as goal

pub returns-clause-ok : goal.returns-clause-ok
returns-clause-ok g c =
    let long = c.args.self.now.text.ok.0 in
    let len = c.len.ensures in
    let begins : c.len.result ≡ length c.args.self.now.text.items = omega arith in
    start_on g.M.Memo.automata g.M.Memo.stands_for g.M.Memo.tells c.args.memo.now c.push.new.memo c.hold.new.self c.args.self.now
    (record { innermost = c.replace-parent.new.dest; outer = c.push-2.new.self; text = c.args.self.now.text; none = c.args.self.now.none; steps = c.args.self.now.steps + 1 })
    c.in_ok-needed.needed c.in_ok-gathered.gathered c.args.label c.len.result begins
    c.requires.label c.in_ok-needed.ensures.ok c.in_ok-gathered.ensures.ok c.in_ok-gathered.ensures.stands
    c.replace-parent.ensures.after (c.in_ok-push.ensures.items ∙ ap (λ f. c.args.self.now.outer.items ++ f ∷ []) c.replace-parent.ensures.value) refl refl refl
