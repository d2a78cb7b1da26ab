-- The text of a manifest: a line for each file, as Mercurial's manifest has it.
use Rattle.std.specs.Prelude.{Bool, true, ◌≡◌, ℕ, ◌+◌, not, ◌==◌, if◌then◌else◌, List, [], ◌∷◌, ◌++◌, length, map, take, drop, Option, Some, None, option_and_then, option_map, codes, IsTrue, bytes_eq}
use Rattle.std.specs.List.{flat_map, before_first, after_first}
use Rattle.text_model.specs.Lists.{Each, rises}
use Rattle.text_model.specs.Text.{Bytes, IsBytes, lf, nul, has_byte, is_below, whole_lines}
use Rattle.text_model.specs.Id.{Id, IsId, hex, id_of_hex}
use Rattle.text_model.specs.Path.{is_fit_path}

-- a plain file, one that can be run, a symbolic link
pub data Flag : Type 0 where
  Regular : Flag
  Executable : Flag
  Symlink : Flag

abbrev pub flag_text : Flag → Bytes
flag_text Regular = []
flag_text Executable = codes "x"
flag_text Symlink = codes "l"

pub record ManifestEntry : Type 0 where
  pub path : Bytes
  pub node : Id
  pub flag : Flag

abbrev pub entry_text : ManifestEntry → Bytes
entry_text e = e.path ++ nul ∷ hex e.node ++ flag_text e.flag ++ lf ∷ []

unfoldable pub manifest_text : List ManifestEntry → Bytes
manifest_text entries = flat_map entry_text entries

-- fit paths that rise strictly
abbrev pub IsManifest : List ManifestEntry → Type 0
IsManifest entries = Each (λ e. IsTrue (is_fit_path e.path) × IsBytes e.path × IsId e.node) entries × IsTrue (rises is_below (map (λ e. e.path) entries))

abbrev pub IsManifestText : Bytes → List ManifestEntry → Type 0
IsManifestText text entries = IsManifest entries × (text ≡ manifest_text entries)

-- the path of the last entry, if there is one
abbrev pub last_path : List ManifestEntry → Option Bytes
last_path [] = None
last_path (e ∷ []) = Some e.path
last_path (e ∷ f ∷ entries) = last_path (f ∷ entries)

abbrev pub flag_of : Bytes → Option Flag
flag_of text =
    if bytes_eq text (codes "\n") then Some Regular
    else if bytes_eq text (codes "x\n") then Some Executable
    else if bytes_eq text (codes "l\n") then Some Symlink
    else None

-- the entry of a line with its LF, whatever its path is
abbrev pub entry_of_line : Bytes → Option ManifestEntry
entry_of_line text =
    let path = before_first (λ b. b == nul) text in
    let rest = after_first (λ b. b == nul) text in
    if not (has_byte nul text) then None
    else option_and_then (λ node. option_map (λ flag. record { path = path; node = node; flag = flag }) (flag_of (drop 40 rest))) (id_of_hex (take 40 rest))

-- what is wrong with a manifest's text, and the offset of the first line that doesn't fit
pub data ManifestFault : Type 0 where
  BadLine : (place : ℕ) → ManifestFault
  UnfitPath : (place : ℕ) → ManifestFault

-- the path rises above that of the line before, if there is one
abbrev pub rises_above : Option Bytes → Bytes → Bool
rises_above None path = true
rises_above (Some last) path = is_below last path

abbrev pub entry_fault : Option Bytes → ℕ → Option ManifestEntry → Option ManifestFault
entry_fault last at None = Some (BadLine at)
entry_fault last at (Some e) = if not (rises_above last e.path) then Some (BadLine at) else if is_fit_path e.path then None else Some (UnfitPath at)

-- the path of a line
abbrev pub path_of_line : Bytes → Bytes
path_of_line text = before_first (λ b. b == nul) text

unfoldable pub lines_fault : Option Bytes → ℕ → List Bytes → Option ManifestFault
lines_fault last at [] = None
lines_fault last at (text ∷ texts) = elim (entry_fault last at (entry_of_line text)) as (λ _. Option ManifestFault) [
  | None ↦ lines_fault (Some (path_of_line text)) (at + length text) texts
  | Some fault ↦ Some fault
]

-- none where the text is that of a manifest
abbrev pub manifest_fault : Bytes → Option ManifestFault
manifest_fault text = lines_fault None 0 (whole_lines text)
