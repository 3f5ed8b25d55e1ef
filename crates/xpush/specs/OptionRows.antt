-- What a few words give to the options of `make`.
use Rattle.std.specs.Prelude.{◌≡◌, [], ◌∷◌, codes, Some, None, refl}
use Rattle.xpush.specs.Forms.{Makes, make_form}

pub in_any_order : make_form (codes "--filters=2" ∷ codes "--seed" ∷ codes "0000000001" ∷ codes "--documents=3" ∷ []) ≡ Some (Makes 1 2 3)
in_any_order = refl

pub twice : make_form (codes "--filters=2" ∷ codes "--seed=1" ∷ codes "--documents=3" ∷ codes "--seed=1" ∷ []) ≡ None
twice = refl

pub one_is_missing : make_form (codes "--filters=2" ∷ codes "--seed=1" ∷ []) ≡ None
one_is_missing = refl

pub no_value : make_form (codes "--filters=2" ∷ codes "--seed=1" ∷ codes "--documents" ∷ []) ≡ None
no_value = refl

pub hyphens_alone : make_form (codes "--filters=2" ∷ codes "--seed=1" ∷ codes "--documents=3" ∷ codes "--" ∷ []) ≡ None
hyphens_alone = refl

pub past_the_range : make_form (codes "--filters=2" ∷ codes "--seed=2147483648" ∷ codes "--documents=3" ∷ []) ≡ None
past_the_range = refl

pub at_its_end : make_form (codes "--filters=50000" ∷ codes "--seed=2147483647" ∷ codes "--documents=100000" ∷ []) ≡ Some (Makes 2147483647 50000 100000)
at_its_end = refl

pub eleven_digits : make_form (codes "--filters=00000000002" ∷ codes "--seed=1" ∷ codes "--documents=3" ∷ []) ≡ None
eleven_digits = refl
