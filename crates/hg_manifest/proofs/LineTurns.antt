-- What one line reads as.
use Rattle.std.proofs.Common.{◌≡◌, ◌<◌, ◌==◌, ◌&&◌, Bool, true, false, length, take, drop, Option, Some, None, refl, sym, ap, ◌∙◌, arith, option_map, option_and_then}
use Rattle.std.specs.Prelude.{if◌then◌else◌, nat_lt}
use Rattle.std.specs.List.{list_all}
use Rattle.std.proofs.lemmas.Bool.{ne_eqb, ltb-true}
use Rattle.std.proofs.lemmas.List.{take_all}
use Rattle.text_model.specs.Text.{Bytes}
use Rattle.text_model.specs.Id.{Id, id_of_hex, is_lower_digit, bytes_of_digits}
use Rattle.text_model.specs.Cuts.{cut_of}
use Rattle.hg_model.specs.Manifest.{ManifestEntry, flag_of, entry_of_line}
use Rattle.hg_model.proofs.EntryLemmas.{tail_entry, entry_of_line-cut, entry_of_line-none}
use Rattle.hg_manifest.specs.Reading.{entry_in}

-- a tail that is too short has no digits of an id
short_digits : (tail : Bytes) → length tail < 40 → id_of_hex (take 40 tail) ≡ None
short_digits tail short =
    let whole : take 40 tail ≡ tail = take_all 40 tail (omega arith) in
    let other : (length tail == 40) ≡ false = ne_eqb (length tail) 40 (λ e. absurd (omega arith)) in
    ap id_of_hex whole ∙ ap (λ (b : Bool). if b && list_all is_lower_digit tail then Some (bytes_of_digits tail) else None) other

abbrev with_node : Bytes → Bytes → Option Id → Option ManifestEntry
with_node path tail node = option_and_then (λ n. option_map (λ flag. record { path = path; node = n; flag = flag }) (flag_of (drop 40 tail))) node

entry_in-is : (path tail : Bytes) → entry_in path tail ≡ tail_entry path tail
unfolding entry_in
entry_in-is path tail = by (nat_lt (length tail) 40) refl
  where
    by : (t : Bool) → nat_lt (length tail) 40 ≡ t → (if t then None else with_node path tail (id_of_hex (take 40 tail))) ≡ with_node path tail (id_of_hex (take 40 tail))
    by false t = refl
    by true t = sym (ap (with_node path tail) (short_digits tail (ltb-true (length tail) 40 t)))

-- a line with a NUL reads as its path and what stands after that
pub line_reads : (text path tail : Bytes) → Some (path, tail) ≡ cut_of 0 text → entry_in path tail ≡ entry_of_line text
line_reads text path tail e = entry_in-is path tail ∙ sym (entry_of_line-cut text path tail (sym e))

pub no_nul : (text : Bytes) → None ≡ cut_of 0 text → None ≡ entry_of_line text
no_nul text e = sym (entry_of_line-none text (sym e))
