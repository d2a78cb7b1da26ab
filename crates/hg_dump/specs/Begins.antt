-- What bytes begin with.
use Rattle.std.specs.Prelude.{◌≡◌, ◌≢◌, ◌++◌, Option, MatchOption}
use Rattle.std.specs.Borrow.{Bor}
use Rattle.text_model.specs.Text.{Bytes}

-- the bytes don't begin with this front
abbrev pub LacksFront : Bytes → Bytes → Type 0
LacksFront bytes front = (rest : Bytes) → bytes ≢ front ++ rest

-- the bytes are this front and the rest behind it
abbrev pub HasFront : Bytes → Bytes → Bytes → Type 0
HasFront bytes front rest = bytes ≡ front ++ rest

-- what stands behind the front; none exactly where the bytes don't begin with it
abbrev pub IsBehind : Bytes → Bytes → Option (Bor Bytes) → Type 0
IsBehind bytes front behind = MatchOption behind (LacksFront bytes front) (λ rest. HasFront bytes front rest.now)

-- what follows the whole in the bytes is what follows the part that is left in the rest
abbrev pub GoOnAlike : Bytes → Bytes → Bytes → Bytes → Type 0
GoOnAlike bytes whole rest left = (end : Bytes) → (HasFront bytes whole end → HasFront rest left end) × (HasFront rest left end → HasFront bytes whole end)
