-- Lines that stand in a manifest.
use Rattle.std.specs.Prelude.{◌≡◌, Bool, false, bytes_eq, List, Option, Some, None}
use Rattle.std.specs.List.{find}
use Rattle.text_model.specs.Lists.{SomeOf}
use Rattle.text_model.specs.Text.{Bytes}
use Rattle.text_model.specs.Id.{Id}
use Rattle.hg_model.specs.Manifest.{ManifestEntry}

-- a line has this path and this node
abbrev pub HasLine : Bytes → Id → List ManifestEntry → Type 0
HasLine path node lines = SomeOf lines (λ e. (e.path ≡ path) × (e.node ≡ node))

-- the entry that was found has this node
abbrev pub has_node : Id → Option ManifestEntry → Bool
has_node node None = false
has_node node (Some e) = bytes_eq e.node node

-- the line of this path has this node
abbrev pub has_line : Bytes → Id → List ManifestEntry → Bool
has_line path node lines = has_node node (find (λ e. bytes_eq e.path path) lines)
