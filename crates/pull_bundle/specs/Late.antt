-- File revisions whose parents stand in changesets of the blocks.
use Rattle.std.specs.Prelude.{◌≡◌, Bool, false, ◌||◌, List, map}
use Rattle.text_model.specs.Text.{Bytes}
use Rattle.text_model.specs.Id.{Id}
use Rattle.hg_model.specs.Manifest.{ManifestEntry}
use Rattle.hg_model.specs.Revision.{Revision}
use Rattle.view_model.specs.View.{Row, changeset_node}
use Rattle.view_model.specs.Held.{AreChangesetsHeld}
use Rattle.view_model.specs.Dump.{revisions_in}
use Rattle.hg_store.specs.Known.{AreFileParents}
use Rattle.pair_model.specs.Block.{Block, changesets_in}
use Rattle.partner_model.specs.Given.{is_late_file}
use Rattle.hg_dump.specs.declared.refers.Refers.{Refers}
use Rattle.hg_dump.specs.Refers.{RefersTo}

-- The changesets of the blocks are stored, links among them, and just the revisions to which they refer are remembered.
pub record RefersIn (hg : List Revision) (referred : Refers) (front : List Block) : Type 0 where
  pub held : AreChangesetsHeld hg (map changeset_node (changesets_in front)) (changesets_in front)
  pub refers : RefersTo referred (revisions_in (changesets_in front))

abbrev pub are_late : List Block → Bytes → Id → Id → Bool
are_late blocks path p q = is_late_file blocks path p || is_late_file blocks path q

abbrev pub is_late_row : List Block → Row → Bool
is_late_row blocks row = are_late blocks row.path (row.revision).p (row.revision).q

-- the parents of the file revision that a line names stand in changesets of the blocks
abbrev pub IsLineInTime : List Revision → List Block → ManifestEntry → Type 0
IsLineInTime known blocks e = (parents : Id × Id) → AreFileParents known e.path e.node parents → are_late blocks e.path parents.0 parents.1 ≡ false
