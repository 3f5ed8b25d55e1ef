use Rattle.std.proofs.Common.{◌≡◌, sym, subst}
use Rattle.px_afa.specs.Classes.{text_class, number_class}
use Rattle.px_runner.specs.Operands.{IsTextClass, IsNumberClass}
use Rattle.px_runner.proofs.Known.{text_class-known, number_class-known}
use Rattle.px_runner.proofs.Raised.{text_values_ok}
use Rattle.px_runner.proofs.raise.text_values.Goals as goal

pub values-requires-clause-text : goal.values-requires-clause-text
values-requires-clause-text g c =
    let is : c.text_class-literal.result ≡ text_class (g.M.Memo.automata c.args.memo.now).states c.args.text.now = cc in
    subst (λ k. IsTextClass (g.M.Memo.automata c.args.memo.now).states k) (sym is) (text_class-known (g.M.Memo.automata c.args.memo.now).states c.args.text.now)

pub values-requires-clause-number : goal.values-requires-clause-number
values-requires-clause-number g c =
    let is : c.number_class-number.result ≡ number_class (g.M.Memo.automata c.args.memo.now).states c.args.text.now = cc in
    subst (λ k. IsNumberClass (g.M.Memo.automata c.args.memo.now).states k) (sym is) (number_class-known (g.M.Memo.automata c.args.memo.now).states c.args.text.now)

pub returns-clause-ok : goal.returns-clause-ok
returns-clause-ok g c =
    let texts : c.text_class-literal.result ≡ text_class (g.M.Memo.automata c.args.memo.now).states c.args.text.now = cc in
    let numbers : c.number_class-number.result ≡ number_class (g.M.Memo.automata c.args.memo.now).states c.args.text.now = cc in
    text_values_ok g.M.Memo.automata g.M.Memo.stands_for g.M.Memo.tells c.args.memo.now c.values.new.memo c.values.result c.args.text.now
    c.text_class-literal.result c.number_class-number.result texts numbers c.values.ensures.ok
