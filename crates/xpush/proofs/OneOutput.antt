-- A form and its input have one output.
use Rattle.std.proofs.Common.{◌≡◌, ℕ, List, ap, sym, ◌∙◌}
use Rattle.px_feed.specs.declared.status.Status.{Status}
use Rattle.px_feed.proofs.OneOutput.{feeds-one, matches-one, shows-one}
use Rattle.px_document.specs.Findings as findings
use Rattle.px_document.proofs.OneFinding.{explained-one, verified-one}
use Rattle.px_parallel.proofs.OneLoad.{one_load}
use Rattle.xpush.specs.Answers.{OutOf}
use Rattle.xpush.specs.Forms.{Form, Explains, Loads, Makes, Matches, Serves, Shows, Verifies}

pub out-one : (form : Form) (bytes text other : List ℕ) (status end : Status) → OutOf form bytes text status → OutOf form bytes other end → (text ≡ other) × (status ≡ end)
out-one (Matches filter) bytes text other status end p q = matches-one filter bytes text other status end p q
out-one (Shows filter) bytes text other status end (output, p, e, s) (second, q, f, t) =
    let same = shows-one filter output.0 second.0 output.1 second.1 p q in (e ∙ same.0 ∙ sym f, s ∙ same.1 ∙ sym t)
out-one (Explains filter) bytes text other status end (finding, p, e, s) (second, q, f, t) =
    let same = explained-one filter bytes finding second p q in (e ∙ ap findings.text same ∙ sym f, s ∙ ap findings.status same ∙ sym t)
out-one (Verifies filter) bytes text other status end (finding, p, e, s) (second, q, f, t) =
    let same = verified-one filter bytes finding second p q in (e ∙ ap findings.text same ∙ sym f, s ∙ ap findings.status same ∙ sym t)
out-one (Makes seed filters documents) bytes text other status end (output, p, e, s) (second, q, f, t) =
    (e ∙ p.0 ∙ sym q.0 ∙ sym f, s ∙ p.1 ∙ sym q.1 ∙ sym t)
out-one (Serves hub) bytes text other status end (output, p, e, s) (second, q, f, t) =
    let same = feeds-one bytes output.0 second.0 output.1 second.1 p q in (e ∙ same.0 ∙ sym f, s ∙ same.1 ∙ sym t)
out-one (Loads seed filters documents hub) bytes text other status end (output, p, e, s) (second, q, f, t) =
    (e ∙ one_load seed filters documents output.0 second.0 p.0 q.0 ∙ sym f, s ∙ p.1 ∙ sym q.1 ∙ sym t)
