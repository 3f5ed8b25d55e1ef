-- What the words say.
use Rattle.std.proofs.Common.{◌≡◌, Option, Some, None, IfSome, IsNone, subst, sym}
use Rattle.xpush.specs.Forms.{Form}

-- what holds of the form that is said
pub of_form : (said : Option Form) (form : Form) (P : Form → Type 0) → Some form ≡ said → P form → IfSome said P
of_form said form P e p = let Q : Option Form → Type 0 = λ said. IfSome said P in subst Q e p

-- what says a form is no silence
pub in_form : (said : Option Form) (form : Form) → Some form ≡ said → IsNone said → ⊥
in_form said form e n = absurd (cc)

-- what holds of every form holds of the one that is said
pub of_any : (said : Option Form) (P : Form → Type 0) → ((form : Form) → P form) → IfSome said P
of_any (Some form) P every = every form
of_any None P every = tt

-- where nothing is said, anything holds of what is
pub none_said : (said : Option Form) → said ≡ None → (P : Form → Type 0) → IfSome said P
none_said said e P = let Q : Option Form → Type 0 = λ one. IfSome one P in subst Q (sym e) tt
