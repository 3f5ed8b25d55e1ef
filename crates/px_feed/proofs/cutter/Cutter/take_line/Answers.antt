-- The line is judged, and counted.
use Rattle.std.proofs.Common.{◌∙◌, ◌++◌, ◌∷◌, [], ◌+◌, ◌≤◌, ap, sym, length, arith}
use Rattle.std.proofs.lemmas.List.{length_push}
use Rattle.std.proofs.lemmas.List.Sums.{sum_by_push}
use Rattle.px_feed.specs.Cutting.{Standing, Cut}
use Rattle.px_feed.specs.Items.{bytes_in, most_bytes}
use Rattle.px_feed.proofs.Cuttings.{cuts_weaker}
use Rattle.px_feed.proofs.cutter.Cutter.take_line.Goals as goal

pub returns-clause-cuts : goal.returns-clause-cuts
returns-clause-cuts c = λ lines given h.
    let line = c.args.line.now in
    let grown = c.in-Some.ensures.1 in
    let bounded = c.in-Some.extent.bounded in
    let sizes = h.sizes in
    let fits : bytes_in lines + length line ≤ most_bytes = omega arith in
    cuts_weaker c.judge_line-answer.result (Standing c.judge_line-answer.new.self.document (lines ++ line ∷ [])) (Cut _ _ _ (lines ++ line ∷ [])) (lines ++ line ∷ []) given
    (λ g k. record {
      standing = k;
      counts = c.in-Some.ensures.0 ∙ ap (λ n. n + 1) h.counts ∙ sym (length_push lines line);
      sizes = c.in-Some.ensures.1 ∙ ap (λ n. n + length line) h.sizes ∙ sym (sum_by_push length lines line);
    })
    (c.judge_line-answer.ensures.cuts lines given h.standing (h.counts, fits))
