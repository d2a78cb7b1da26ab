-- The date of a link, with the one item that names it.
use Rattle.std.proofs.Common.{◌∷◌, [], refl, arith}
use Rattle.std.proofs.lemmas.Int.{ints}
use Rattle.std.specs.Prelude.{pos}
use Rattle.text_model.specs.Text.{Bytes, IsBytes}
use Rattle.text_model.proofs.TextBytes.{small-bytes}
use Rattle.hg_model.specs.Changeset.{Plain, IsDateLine}
use Rattle.pair_model.specs.Octopus.{link_key}

pub one-date : (value : Bytes) → IsBytes value → IsDateLine (Plain (pos 0) (pos 0) (record { key = link_key; value = value } ∷ []))
one-date value bytes = record {
  time_low = omega (arith, ints);
  time_high = omega (arith, ints);
  tz_low = omega (arith, ints);
  tz_high = omega (arith, ints);
  items = ((((λ e. cc), refl, small-bytes link_key refl, bytes), tt), refl);
}
