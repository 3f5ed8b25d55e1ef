use Rattle.std.proofs.Common.{◌≡◌, ◌+◌, ◌-◌, ◌*◌, ◌^◌, nat_lt, length, min, take, drop, if◌then◌else◌, refl, arith, ap, sym, ◌∙◌}
use Rattle.std.specs.declared.cmp.Ordering.TheVariants.{Equal, Greater}
use Rattle.std.specs.Ordering.{nat_cmp, ordering_then}
use Rattle.px_text.specs.Numbers.{value}
use Rattle.px_text.proofs.Comparing.{number_order}
use Rattle.px_text.proofs.scan.NumberScan.cmp_size.Goals as goal
use Rattle.px_text.proofs.scan.NumberScan.cmp_size.Goals.{then-self, else-self}

pub returns : goal.returns
returns c = λ whole fraction w f digits.
    let below : c.if-self.below ≡ (if c.args.self.now.fraction.goes_below then Greater else Equal) =
    elim c.if-self.branch [ then-self w ↦ rw w.if-self.true w.below-is | else-self w ↦ rw w.if-self.false w.below-is ]
    in
    let places : 18 - c.args.self.now.fraction.count ≡ 18 - length fraction = omega (arith, f.count_is) in
    let size : c.size.result ≡ min (value whole) (10 ^ 18) * 10 ^ 18 + value (take 18 fraction) * 10 ^ (18 - length fraction) =
    c.size.ensures.value ∙ rw (w.value_is, f.value_is, places) refl
    in
    let rest : (if c.args.self.now.fraction.goes_below then Greater else Equal) ≡ (if nat_lt 0 (value (drop 18 fraction)) then Greater else Equal) =
    ap (λ t. if t then Greater else Equal) f.below_is
    in
    c.then.ensures ∙ ap (λ o. ordering_then o c.if-self.below) (c.cmp.ensures ∙ ap (λ s. nat_cmp s c.args.size) size)
    ∙ ap (λ o. ordering_then (nat_cmp (min (value whole) (10 ^ 18) * 10 ^ 18 + value (take 18 fraction) * 10 ^ (18 - length fraction)) c.args.size) o) (below ∙ rest)
    ∙ sym (number_order whole fraction c.args.size digits c.requires)
