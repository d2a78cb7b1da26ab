-- The entry of a path in a parent.
use Rattle.std.proofs.Common.{Option, bytes_eq}
use Rattle.std.specs.List.{find}
use Rattle.text_model.specs.Text.{Bytes}
use Rattle.hg_model.specs.Manifest.{ManifestEntry}
use Rattle.file_rule.specs.declared.parents.Parent.{Parent}

abbrev pub found : Parent → Bytes → Option ManifestEntry
found parent p = find (λ x. bytes_eq x.path p) (parent.manifest).now
