-- The order of two parents of a file without metadata of its own.
use Rattle.std.proofs.Common.{◌≡◌, Bool, true, false, [], Some, None, refl}
use Rattle.std.specs.Prelude.{if◌then◌else◌}
use Rattle.text_model.specs.Text.{Bytes, whole_lines}
use Rattle.text_model.specs.Id.{Id}
use Rattle.hg_model.specs.FileText.{plain_meta, begins_with_mark, names_copy, manifest_order, file_order}

-- a body without metadata of its own names no copy
pub plain-names_none : (body : Bytes) → names_copy (plain_meta body) ≡ false
unfolding whole_lines
plain-names_none body = by (begins_with_mark body)
  where
    by : (t : Bool) → names_copy (if t then Some [] else None) ≡ false
    by true = refl
    by false = refl

pub plain-order : (body : Bytes) (p q : Id) → file_order (plain_meta body) p q ≡ manifest_order p q
plain-order body p q = rw (plain-names_none body) refl
