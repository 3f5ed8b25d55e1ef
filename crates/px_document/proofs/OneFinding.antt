-- One thing is found of an input.
use Rattle.std.proofs.Common.{◌≡◌, ◌⊎◌, ℕ, Bool, true, false, List, Result, Ok, Err, ap, sym, ◌∙◌, subst, refl, inl, inr}
use Rattle.px_text.specs.Nodes.{Root}
use Rattle.px_reader.specs.Lines.{lines_of}
use Rattle.px_reader.specs.Verdicts.{Verdict, IsFaulty, IsTree}
use Rattle.px_reader.proofs.Verdicts.{judges_one}
use Rattle.px_xpath.specs.Filters.{Way}
use Rattle.px_xpath.specs.declared.fault.FilterFault.{FilterFault}
use Rattle.px_xpath.proofs.OneFault.{faultless, faults_one, texts_one}
use Rattle.px_feed.specs.declared.line.OutLine.TheVariants as line
use Rattle.px_explain.specs.Checking.{Shows}
use Rattle.px_explain.specs.Openings.{Opening, ProofThen, NoProofAt, TooManyLines}
use Rattle.px_explain.specs.Table.{Justifies}
use Rattle.px_explain.specs.declared.checker.Checked.{Checked}
use Rattle.px_explain.specs.declared.checker.Checked.TheVariants.{Yes, No, Wrong}
use Rattle.px_explain.specs.declared.node.ProofNode.{ProofNode}
use Rattle.px_explain.proofs.OneOpening.{opens_once}
use Rattle.px_explain.proofs.Outcomes.{justified_so}
use Rattle.px_document.specs.Outputs.{Explains, ExplainsDocument, ExplainsTree, ExplainsVerdict, UnderFilter, Verifies, VerifiesInput, VerifiesOpening, VerifiesVerdict, saying}
use Rattle.px_document.specs.declared.finding.Finding.{Finding}
use Rattle.px_document.specs.declared.finding.Finding.TheVariants.{Line}

-- one thing is found
abbrev pub FindsOne : (Finding → Type 0) → Type 0
FindsOne finds = (finding other : Finding) → finds finding → finds other → finding ≡ other

-- of a filter's text too, which is one filter or has one fault
under_one : (finds : Way → Finding → Type 0) (text : List ℕ) → ((way : Way) → FindsOne (finds way)) → FindsOne (UnderFilter finds text)
under_one finds text one finding other (Ok way, p, x) (Ok second, q, y) =
    one way finding other x (let P : Way → Type 0 = λ found. finds found other in subst P (sym (texts_one text way second p q)) y)
under_one finds text one finding other (Ok way, p, x) (Err fault, q, y) = absurd (faultless text way fault p q)
under_one finds text one finding other (Err fault, p, x) (Ok way, q, y) = absurd (faultless text way fault q p)
under_one finds text one finding other (Err fault, p, x) (Err second, q, y) = x ∙ ap (λ found. Line (line.NoFilter found)) (faults_one text fault second p q) ∙ sym y

tree_one : (way : Way) (root : Root) → FindsOne (ExplainsTree way root)
tree_one way root finding other (inl x) (inl y) = x.1 ∙ sym y.1
tree_one way root finding other (inl x) (inr y) = absurd (y.0 x.0)
tree_one way root finding other (inr x) (inl y) = absurd (x.0 y.0)
tree_one way root finding other (inr x) (inr y) = x.1 ∙ sym y.1

explained_verdict : (way : Way) (verdict : Verdict) → FindsOne (ExplainsVerdict way verdict)
explained_verdict way (IsFaulty at kind) finding other x y = x ∙ sym y
explained_verdict way (IsTree root) finding other x y = tree_one way root finding other x y

explained_document : (bytes : List ℕ) (way : Way) → FindsOne (ExplainsDocument way bytes)
explained_document bytes way finding other (verdict, v, x) (second, w, y) =
    let P : Verdict → Type 0 = λ one. ExplainsVerdict way one other in
    explained_verdict way verdict finding other x (subst P (sym (judges_one (lines_of bytes) verdict second v w)) y)

pub explained-one : (filter bytes : List ℕ) → FindsOne (Explains filter bytes)
explained-one filter bytes = under_one (λ way. ExplainsDocument way bytes) filter (explained_document bytes)

-- no nodes prove both answers
never_both : (way : Way) (root : Root) (nodes : List ProofNode) → Justifies way root nodes true → Justifies way root nodes false → ⊥
never_both way root nodes p q = apart (sym (justified_so way root nodes true p) ∙ justified_so way root nodes false q)
  where
    apart : true ≡ false → ⊥
    apart e = cc

-- a proof shows one thing
shows_one : (way : Way) (root : Root) (nodes : List ProofNode) (checked other : Checked) → Shows way root nodes checked → Shows way root nodes other → checked ≡ other
shows_one way root nodes Yes Yes p q = refl
shows_one way root nodes No No p q = refl
shows_one way root nodes (Wrong at) (Wrong other) p q = ap (λ one. Wrong one) (p.2 ∙ sym q.2)
shows_one way root nodes Yes No p q = absurd (never_both way root nodes p q)
shows_one way root nodes No Yes p q = absurd (never_both way root nodes q p)
shows_one way root nodes Yes (Wrong at) p q = absurd (q.0 p)
shows_one way root nodes (Wrong at) Yes p q = absurd (p.0 q)
shows_one way root nodes No (Wrong at) p q = absurd (q.1 p)
shows_one way root nodes (Wrong at) No p q = absurd (p.1 q)

verified_verdict : (way : Way) (nodes : List ProofNode) (verdict : Verdict) → FindsOne (VerifiesVerdict way nodes verdict)
verified_verdict way nodes (IsFaulty at kind) finding other x y = x ∙ sym y
verified_verdict way nodes (IsTree root) finding other (checked, s, x) (second, t, y) = x ∙ ap saying (shows_one way root nodes checked second s t) ∙ sym y

verified_opening : (way : Way) (opening : Opening) → FindsOne (VerifiesOpening way opening)
verified_opening way (NoProofAt at) finding other x y = x ∙ sym y
verified_opening way TooManyLines finding other x y = x ∙ sym y
verified_opening way (ProofThen nodes document) finding other (verdict, v, x) (second, w, y) =
    let P : Verdict → Type 0 = λ one. VerifiesVerdict way nodes one other in
    verified_verdict way nodes verdict finding other x (subst P (sym (judges_one (lines_of document) verdict second v w)) y)

verified_input : (bytes : List ℕ) (way : Way) → FindsOne (VerifiesInput way bytes)
verified_input bytes way finding other (opening, o, x) (second, p, y) =
    let P : Opening → Type 0 = λ one. VerifiesOpening way one other in
    verified_opening way opening finding other x (subst P (sym (opens_once bytes opening second o p)) y)

pub verified-one : (filter bytes : List ℕ) → FindsOne (Verifies filter bytes)
verified-one filter bytes = under_one (λ way. VerifiesInput way bytes) filter (verified_input bytes)
