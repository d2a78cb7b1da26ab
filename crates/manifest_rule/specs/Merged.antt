-- Three lists of entries, met path by path.
use Rattle.std.specs.Prelude.{◌≡◌, Bool, true, false, not, ◌&&◌, ◌||◌, if◌then◌else◌, Option, Some, None, option_map, is_some, bytes_eq, ⊤}
use Rattle.std.specs.Borrow.{Bor}
use Rattle.text_model.specs.Text.{Bytes, is_below}
use Rattle.text_model.specs.Id.{Id}
use Rattle.hg_model.specs.Manifest.{ManifestEntry, flag_text}
use Rattle.pair_model.specs.Rule.{same_entry}
use Rattle.hg_manifest.specs.Values.{manifest_entry}
use Rattle.hg_manifest.specs.declared.entry.Entry.{Entry}
use Rattle.pair_known.specs.declared.hg_row.HgRow.{HgRow}
use Rattle.manifest_rule.specs.Listed.{entry_of_value}
use Rattle.manifest_rule.specs.declared.merge.Found.{Found}

-- the entry that is lent
abbrev pub lent_row : Option (Bor HgRow) → Option ManifestEntry
lent_row row = option_map (λ r. entry_of_value r.now) row

abbrev pub lent_entry : Option (Bor Entry) → Option ManifestEntry
lent_entry entry = option_map (λ e. manifest_entry e.now) entry

-- what the entry says beside its path
abbrev pub said : Option ManifestEntry → Option (Id × Bytes)
said e = option_map (λ x. (x.node, flag_text x.flag)) e

abbrev pub differs : Option ManifestEntry → Option ManifestEntry → Bool
differs a b = not (same_entry (said a) (said b))

-- the entry differs from that of each parent that is there
abbrev pub is_listed : Bool → Bool → Option ManifestEntry → Option ManifestEntry → Option ManifestEntry → Bool
is_listed first second e f g = if first then (if second then differs e f && differs e g else differs e f) else true

-- the entry, where it has the path
abbrev pub with_path : Bytes → Option ManifestEntry → Option ManifestEntry
with_path p None = None
with_path p (Some e) = if bytes_eq e.path p then Some e else None

-- the path isn't above that of the entry
abbrev pub IsAtFront : Bytes → Option ManifestEntry → Type 0
IsAtFront p None = ⊤
IsAtFront p (Some e) = is_below e.path p ≡ false

-- the smaller of two paths that may be there
abbrev pub least_of : Option Bytes → Option Bytes → Option Bytes
least_of None b = b
least_of (Some x) None = Some x
least_of (Some x) (Some y) = if is_below y x then Some y else Some x

-- the least of the paths of three entries, and which of them have it
pub record IsNext (e f g : Option ManifestEntry) (found : Found) : Type 0 where
  pub some : (is_some (with_path (found.path).now e) || is_some (with_path (found.path).now f) || is_some (with_path (found.path).now g)) ≡ true
  pub before : IsAtFront (found.path).now e × IsAtFront (found.path).now f × IsAtFront (found.path).now g
  pub row : lent_row found.row ≡ with_path (found.path).now e
  pub first : lent_entry found.first ≡ with_path (found.path).now f
  pub second : lent_entry found.second ≡ with_path (found.path).now g

-- there is none
abbrev pub NoneLeft : Option ManifestEntry → Option ManifestEntry → Option ManifestEntry → Type 0
NoneLeft e f g = (e ≡ None) × (f ≡ None) × (g ≡ None)
