-- The texts of the open elements in one buffer.
use Rattle.std.proofs.Common.{◌≡◌, ℕ, ◌≤◌, List, [], ◌∷◌, ◌++◌, length, take, drop, sym, ◌∙◌, ap, arith, subst, length-append}
use Rattle.std.proofs.Math.Seq.{take-length, drop-length}
use Rattle.std.proofs.lemmas.List.{take-append-drop, drop-append-le, take-append-le}
use Rattle.px_runner.specs.declared.frame.Frame.{Frame}
use Rattle.px_runner.specs.Events.{Open}
use Rattle.px_runner.specs.Frames.{AreTexts}

-- the innermost frame goes on where it began, and more is said in it
pub said : (buffer more : List ℕ) (f g : Frame) (fs : List Frame) (o p : Open) (os : List Open) →
    AreTexts buffer (f ∷ fs) (o ∷ os) → g.begins ≡ f.begins → p.text ≡ o.text ++ more → AreTexts (buffer ++ more) (g ∷ fs) (p ∷ os)
said buffer more f g fs o p os h begins text =
    let within : f.begins ≤ length buffer = h.0 in
    let long = length-append buffer more in
    let now : f.begins ≤ length (buffer ++ more) = omega arith in
    subst (λ b. (b ≤ length (buffer ++ more)) × (drop b (buffer ++ more) ≡ p.text) × AreTexts (take b (buffer ++ more)) fs os) (sym begins) (
      now,
      drop-append-le f.begins buffer more within ∙ (ap (λ t. t ++ more) h.1 ∙ sym text),
      subst (λ t. AreTexts t fs os) (sym (take-append-le f.begins buffer more within)) h.2,
    )

-- an element begins at the end of the buffer
pub began : (buffer : List ℕ) (g : Frame) (fs : List Frame) (p : Open) (os : List Open) →
    AreTexts buffer fs os → g.begins ≡ length buffer → p.text ≡ [] → AreTexts buffer (g ∷ fs) (p ∷ os)
began buffer g fs p os h begins text =
    let less : length buffer ≤ length buffer = omega arith in
    subst (λ b. (b ≤ length buffer) × (drop b buffer ≡ p.text) × AreTexts (take b buffer) fs os) (sym begins)
    (less, drop-length buffer ∙ sym text, subst (λ t. AreTexts t fs os) (sym (take-length buffer)) h)

-- an element that ends leaves its text to its parent
pub ended : (buffer : List ℕ) (f g k : Frame) (fs : List Frame) (c o p : Open) (os : List Open) →
    AreTexts buffer (f ∷ g ∷ fs) (c ∷ o ∷ os) → k.begins ≡ g.begins → p.text ≡ o.text ++ c.text → AreTexts buffer (k ∷ fs) (p ∷ os)
ended buffer f g k fs c o p os h begins text =
    let front = take f.begins buffer in
    let back = drop f.begins buffer in
    let whole : front ++ back ≡ buffer = take-append-drop f.begins buffer in
    let within : g.begins ≤ length front = h.2.0 in
    subst (λ b. AreTexts b (k ∷ fs) (p ∷ os)) whole
    (said front back g k fs o p os h.2 begins (text ∙ ap (λ t. o.text ++ t) (sym h.1)))
