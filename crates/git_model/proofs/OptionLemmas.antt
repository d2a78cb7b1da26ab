-- What an option with a value was made of.
use Rattle.std.proofs.Common.{◌≡◌, Bool, true, false, Option, Some, None, refl}
use Rattle.std.specs.Prelude.{if◌then◌else◌}
use Rattle.std.specs.Option.{option_and_then}
use Rattle.text_model.proofs.Options.{none_some}

-- a step with a value began with one
pub and_then-some : {A B : Type 0} (f : A → Option B) (o : Option A) (y : B) → option_and_then f o ≡ Some y → (x : A) × (o ≡ Some x) × (f x ≡ Some y)
and_then-some f None y h = absurd (none_some h)
and_then-some f (Some x) y h = (x, refl, h)

pub if-some : {A : Type 0} (t : Bool) (x : Option A) (y : A) → (if t then x else None) ≡ Some y → (t ≡ true) × (x ≡ Some y)
if-some true x y h = (refl, h)
if-some false x y h = absurd (none_some h)
