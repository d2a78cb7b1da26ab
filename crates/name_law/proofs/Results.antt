-- Answers that are one.
use Rattle.std.proofs.Common.{◌≡◌, Result, Ok, Err}

pub ok_is : {X E : Type 0} (x y : X) → (let a : Result X E = Ok x in a ≡ Ok y) → x ≡ y
ok_is x y h = cc

pub err_ok : {X E : Type 0} {x : X} {why : E} → Err why ≡ Ok x → ⊥
err_ok h = cc
