-- Worked values of what is written.
use Rattle.std.specs.Prelude.{◌≡◌, ◌++◌, [], ◌∷◌, codes, refl}
use Rattle.std.specs.Fmt.{digits}
use Rattle.px_feed.specs.declared.line.OutLine.TheVariants as line
use Rattle.px_feed.specs.declared.status.Status.TheVariants.{Done, Refused}
use Rattle.px_explain.specs.Canonical.{canonical}
use Rattle.px_explain.specs.Openings.{end_line}
use Rattle.px_explain.specs.Rows.{a_b, a_not_b, a_with, b}
use Rattle.px_explain.specs.Texts.{text_of}
use Rattle.px_explain.specs.declared.node.ProofNode.TheVariants.{Y, N}
use Rattle.px_text.specs.Nodes.{NoNodes, ElementThen}
use Rattle.px_xpath.specs.Meaning.{holds}
use Rattle.px_document.specs.Findings.{text, status}
use Rattle.px_document.specs.declared.finding.Finding.{Finding}
use Rattle.px_document.specs.declared.finding.Finding.TheVariants.{Line, NoProofLine, WrongNode, Explained}

-- /a/b on an element b in a
abbrev pub yes : Finding
yes = let root = a_with (ElementThen b [] NoNodes NoNodes) in Explained (holds a_b root) (canonical a_b root)

pub explained_yes : text yes ≡ codes "yes\ny 1\ny 1\n"
unfolding digits
explained_yes = refl

pub yes_is_done : status yes ≡ Done
yes_is_done = refl

-- /a[not(b)] there
abbrev pub not_so : Finding
not_so = let root = a_with (ElementThen b [] NoNodes NoNodes) in Explained (holds a_not_b root) (canonical a_not_b root)

pub explained_not : text not_so ≡ codes "no\nn 1\nc 1\n!\ny 1\n"
unfolding digits
explained_not = refl

pub not_is_refused : status not_so ≡ Refused
not_is_refused = refl

-- The line `!` of a proof has no space, and is no refusal.
pub explained_not_absent : text (let root = a_with NoNodes in Explained (holds a_not_b root) (canonical a_not_b root)) ≡ codes "yes\ny 1\n!\nn 0\n"
unfolding digits
explained_not_absent = refl

pub wrong_node : text (WrongNode 1) ≡ codes "! proof wrong 1\n"
unfolding digits
wrong_node = refl

pub no_line : text (NoProofLine 1) ≡ codes "! proof line 1\n"
unfolding digits
no_line = refl

pub verified : text (Line line.Yes) ≡ codes "yes\n"
verified = refl

-- what an input of `verify` begins with
pub opening : text_of (Y 1 ∷ N 0 ∷ []) ++ end_line ++ codes "(a\n" ≡ codes "y 1\nn 0\n=\n(a\n"
unfolding digits
opening = refl
