-- The answer of a push by the sets that were read.
use Rattle.std.proofs.Common.{◌≡◌, ℕ, List, sym, ◌∙◌, subst}
use Rattle.std.specs.Prelude.{Result, Ok, Err, IfOk}
use Rattle.px_text.specs.declared.op.Op.{Op}
use Rattle.px_text.specs.declared.op.Op.TheVariants.{Push}
use Rattle.px_text.specs.Operands.{Operand, index, set_of}
use Rattle.px_afa.specs.declared.state.State.{State}
use Rattle.px_afa.specs.Functions.{push}
use Rattle.px_afa.specs.Steps.{answer_of}
use Rattle.px_runner.specs.declared.held.Held.{Held}
use Rattle.px_runner.specs.declared.held.Held.TheVariants.{Plain, Numbered, Own}
use Rattle.px_runner.specs.Operands.{IsPlain}
use Rattle.px_call.specs.Values.{AreRead}

one_plain : (b : Held) (m n : ℕ) → IsPlain b m → IsPlain b n → m ≡ n
one_plain (Plain k) m n e f = sym e ∙ f
one_plain (Numbered k) m n e f = absurd e
one_plain (Own set) m n e f = absurd e

pushed_at : (states : List State) (first second : List ℕ) (b : Held) (label : ℕ) (set : List ℕ) → IsPlain b label → set ≡ push states first label → (x y : Operand) → AreRead Push first second b x y → set ≡ answer_of states Push x y
pushed_at states first second b label set plain is (set_of l) (index k) h = is ∙ (λ i. push states (h.first_is i) (one_plain b label k plain h.second_is i))
pushed_at states first second b label set plain is (set_of l) (set_of k) h = absurd h.taken
pushed_at states first second b label set plain is (index l) y h = absurd h.taken

pub pushed_read : {E : Type 0} (states : List State) (first second : List ℕ) (b : Held) (label : ℕ) → IsPlain b label → (op : Op) → op ≡ Push → (r : Result (List ℕ) E) → IfOk r (λ inside. inside ≡ push states first label)
    → IfOk r (λ set. (x y : Operand) → AreRead op first second b x y → set ≡ answer_of states op x y)
pushed_read states first second b label plain op e (Ok set) is = subst (λ (o : Op). (x y : Operand) → AreRead o first second b x y → set ≡ answer_of states o x y) (sym e) (pushed_at states first second b label set plain is)
pushed_read states first second b label plain op e (Err status) is = tt
