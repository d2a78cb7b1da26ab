-- A line's entry, as it is read.
use Rattle.std.specs.Prelude.{length, take, drop, Option, None, nat_lt, if◌then◌else◌, option_and_then, option_map}
use Rattle.text_model.specs.Text.{Bytes}
use Rattle.text_model.specs.Id.{id_of_hex}
use Rattle.hg_model.specs.Manifest.{ManifestEntry, flag_of}

-- an entry from its path and what stands after the NUL
unfoldable pub entry_in : Bytes → Bytes → Option ManifestEntry
entry_in path tail =
    if nat_lt (length tail) 40 then None
    else option_and_then (λ node. option_map (λ flag. record { path = path; node = node; flag = flag }) (flag_of (drop 40 tail))) (id_of_hex (take 40 tail))
