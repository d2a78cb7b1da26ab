-- A section of a size that is told.
use Rattle.std.proofs.Common.{◌≡◌, ◌++◌, append_assoc}
use Rattle.text_model.specs.Text.{Bytes}

-- the line of the size, the text and the end of its line
pub regroup : (out size text end : Bytes) → ((out ++ size) ++ text) ++ end ≡ out ++ (size ++ (text ++ end))
regroup out size text end = simp append_assoc
