-- As many names as places.
use Rattle.std.proofs.Common.{◌≡◌, length, sym, ap, ◌∙◌, arith, vec_len}
use Rattle.px_reader.proofs.Stacked.{count_reversed}
use Rattle.px_reader.proofs.name_stack.NameStack.len.Goals as goal

pub returns : goal.returns
returns c =
    let n = count_reversed c.self.inside.bytes.items c.self.inside.starts.items in
    let l : vec_len c.self.inside.starts ≡ length c.self.inside.starts.items = omega arith in
    c.len.ensures ∙ l ∙ sym n ∙ ap length c.self.view_is
