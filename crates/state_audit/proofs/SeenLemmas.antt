-- Lines of a manifest whose file revisions were seen.
use Rattle.std.proofs.Common.{◌≡◌, true, List, [], ◌∷◌, map, subst, inl, inr}
use Rattle.std.specs.Prelude.{IsTrue}
use Rattle.text_model.specs.Lists.{Each}
use Rattle.text_model.specs.Text.{Bytes}
use Rattle.text_model.specs.Id.{Id}
use Rattle.hg_model.specs.Manifest.{ManifestEntry}
use Rattle.hg_manifest.specs.Lines.{HasLine}
use Rattle.view_model.specs.View.{Row, entry_of_row, file_node}
use Rattle.pair_model.specs.Block.{Block}
use Rattle.state_audit.specs.Seen.{IsLineSeen, is_seen_at}

pub lines-seen : (front : List Block) (rows : List Row) → Each (λ row. IsTrue (is_seen_at front row.path (file_node row.revision))) rows → Each (IsLineSeen front) (map entry_of_row rows)
lines-seen front [] h = tt
lines-seen front (row ∷ rows) h = (h.0, lines-seen front rows h.1)

pub line-seen : (front : List Block) (lines : List ManifestEntry) (path : Bytes) (node : Id) → HasLine path node lines → Each (IsLineSeen front) lines → is_seen_at front path node ≡ true
line-seen front [] path node has all = absurd has
line-seen front (e ∷ lines) path node (inl h) all = subst (λ (n : Id). is_seen_at front path n ≡ true) h.1 (subst (λ (x : Bytes). is_seen_at front x e.node ≡ true) h.0 all.0)
line-seen front (e ∷ lines) path node (inr h) all = line-seen front lines path node h all.1
