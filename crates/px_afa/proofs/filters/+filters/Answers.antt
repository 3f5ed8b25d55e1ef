use Rattle.std.proofs.Common.{◌≡◌, ◌+◌, ◌-◌, length, take, drop, refl, ap, arith}
use Rattle.px_xpath.specs.Histories.{count_of, parts_behind}
use Rattle.px_xpath.specs.Views.{conditions, ways}
use Rattle.px_afa.specs.Ends.{end_size}
use Rattle.px_afa.proofs.Parts.{way_few}
use Rattle.px_afa.proofs.filters.+filters.Goals as goal

pub way-returns-in_ok-n-in-len1-up-clause-few : goal.way-returns-in_ok-n-in-len1-up-clause-few
way-returns-in_ok-n-in-len1-up-clause-few t c =
    let pushed = c.in_ok-push_part-in-len1-up.ensures.count in
    let before = c.in_ok-condition_parts-in-len1-up.ensures.count in
    let behind = c.in_ok-behind-in-len1-up.ensures.count in
    let none = ap length c.new-parts.ensures.items in
    let all = ap length c.deref.ensures.value in
    let parts : length c.deref.result.now ≡ count_of (conditions c.as_slice.result.now) + parts_behind (ways (take (length c.args.steps.now - 1) (drop 1 c.args.steps.now))) (end_size c.args.end) = omega arith in
    way_few c.args.steps.now (take (length c.args.steps.now - 1) (drop 1 c.args.steps.now)) c.step-item.result c.as_slice.result.now (end_size c.args.end)
    _ _ _ _ _ _ c.in-len1-up.len_at_least c.step-item.is refl c.as_slice.ensures
    c.in_ok-condition_parts-in-len1-up.ensures.few c.in_ok-behind-in-len1-up.ensures.few parts c.in_ok-body-in-len1-up.ensures.few c.in_ok-n-in-len1-up.ensures.few
