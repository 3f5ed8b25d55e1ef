-- As many names as places.
use Rattle.std.proofs.Common.{◌≡◌, ◌==◌, length, sym, ap, ◌∙◌, arith, vec_len}
use Rattle.px_reader.proofs.Stacked.{count_reversed, none_by_count}
use Rattle.px_reader.proofs.name_stack.NameStack.is_empty.Goals as goal

pub returns : goal.returns
returns c =
    let n = count_reversed c.self.inside.bytes.items c.self.inside.starts.items in
    let l : vec_len c.self.inside.starts ≡ length c.self.inside.starts.items = omega arith in
    c.is_empty.ensures ∙ ap (λ k. k == 0) (l ∙ sym n ∙ ap length c.self.view_is) ∙ sym (none_by_count c.args.self.now)
