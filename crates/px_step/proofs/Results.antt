-- What was returned.
use Rattle.std.specs.Prelude.{Result, Ok, Err, IfOk}

pub if_ok : {A E X Y : Type 0} (result : Result A E) → IfOk result (λ _. X) → (X → Y) → IfOk result (λ _. Y)
if_ok (Ok x) h f = f h
if_ok (Err e) h f = h
