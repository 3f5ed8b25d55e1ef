use Rattle.std.proofs.Common.{◌≡◌, ◌++◌, IsOk, take, drop, length, min, arith, ap, sym, ◌∙◌, append_assoc}
use Rattle.px_text.specs.Escapes.{unescaped}
use Rattle.px_text.proofs.Unescaping.{up_to_escape, no_backslash}
use Rattle.px_text.proofs.escapes.unescape.Goals as goal

pub loop-at-preserved : goal.loop-at-preserved
loop-at-preserved c =
    let out = c.loop-at.out.items in
    let rest = c.loop-at.rest.now in
    let at = c.in-Some.at in
    let cut = up_to_escape rest at c.min.result (c.min.ensures ∙ ap (λ t. min (length t) 2) c.split_at.ensures.back) (omega (arith, c.in-Some.ensures.0.high)) c.in-Some.ensures.0.before c.in-Some.ensures.1 in
    let appended : c.extend_from_slice-in-Some.new.self.items ++ unescaped c.split_at-in-Some.result.1.now
    ≡ ((out ++ take at rest) ++ unescaped (take c.min.result (drop at rest))) ++ unescaped (drop c.min.result (drop at rest)) =
    cc (c.in_ok-extend_from_slice.ensures.items, c.in_ok-extend_from_slice-2.ensures.items, c.read_escape.ensures.value, c.split_at.ensures.front, c.split_at.ensures.back, c.split_at-in-Some.ensures.front, c.split_at-in-Some.ensures.back)
    in
    record {
      room = omega (arith, c.in_ok-extend_from_slice.ensures.len, c.in_ok-extend_from_slice-2.ensures.len);
      same = (simp append_assoc at appended) ∙ ap (λ t. out ++ t) (sym cut) ∙ c.loop-at.invariant.same;
    }

pub returns : goal.returns
returns c =
    let ok : IsOk c.extend_from_slice-2.result = c.extend_from_slice-2.ensures.succeeds c.loop-at.invariant.room in
    let text = no_backslash c.loop-at.rest.now c.in_default.ensures in
    record { items = rw ok (rw ok at c.extend_from_slice-2.ensures.items ∙ ap (λ t. c.loop-at.out.items ++ t) (sym text) ∙ c.loop-at.invariant.same) }
