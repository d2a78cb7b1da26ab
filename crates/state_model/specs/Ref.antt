-- Which names of refs are fit: names that `git check-ref-format` takes (the rules are in its manual page), that begin with `refs/`, and that are not
-- too long. The limit, and that nothing outside `refs/` is taken, is this project's own.
use Rattle.std.specs.Prelude.{ℕ, Bool, not, ◌&&◌, ◌==◌, nat_le, nat_lt, length, codes}
use Rattle.std.specs.List.{list_all, starts_with, ends_with}
use Rattle.text_model.specs.Text.{Bytes, has_byte, has_piece}
use Rattle.text_model.specs.Path.{components}
use Rattle.state_model.specs.Limits.{ref_limit}

-- no control character, space or DEL, and none of `~^:?*[\`
abbrev pub is_ref_byte : ℕ → Bool
is_ref_byte b = nat_lt 32 b && not (b == 127) && not (has_byte b (codes "~^:?*[\\"))

-- a part between slashes isn't empty, and neither begins with `.` nor ends with `.lock`
abbrev pub is_ref_part : Bytes → Bool
is_ref_part part = not (length part == 0) && not (starts_with ◌==◌ part (codes ".")) && not (ends_with ◌==◌ part (codes ".lock"))

-- A name under `refs/` has two parts at least.
unfoldable pub is_fit_ref : Bytes → Bool
is_fit_ref name =
    starts_with ◌==◌ name (codes "refs/") && nat_le (length name) ref_limit
    && list_all is_ref_byte name && list_all is_ref_part (components name)
    && not (ends_with ◌==◌ name (codes ".")) && not (has_piece (codes "..") name) && not (has_piece (codes "@{") name)
