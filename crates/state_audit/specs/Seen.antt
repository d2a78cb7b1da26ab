-- File revisions to which changesets of blocks refer.
use Rattle.std.specs.Prelude.{◌≡◌, Bool, true, List}
use Rattle.text_model.specs.Lists.{Each}
use Rattle.text_model.specs.Text.{Bytes}
use Rattle.text_model.specs.Id.{Id}
use Rattle.hg_model.specs.Manifest.{ManifestEntry}
use Rattle.hg_model.specs.Revision.{FilesAt, Revision, knows}
use Rattle.view_model.specs.Dump.{revisions_in}
use Rattle.pair_model.specs.Block.{Block, changesets_in}
use Rattle.pull_bundle.specs.Late.{RefersIn}
use Rattle.state_audit.specs.declared.seen.Seen.{Seen}

-- a changeset of the blocks refers to the revision of a file
abbrev pub is_seen_at : List Block → Bytes → Id → Bool
is_seen_at front path node = knows (revisions_in (changesets_in front)) (FilesAt path) node

abbrev pub IsLineSeen : List Block → ManifestEntry → Type 0
IsLineSeen front e = is_seen_at front e.path e.node ≡ true

-- what is remembered is of these blocks
pub record AreSeen (hg : List Revision) (s : Seen) (front : List Block) : Type 0 where
  pub refers : RefersIn hg s.referred.now front
  pub lines : Each (IsLineSeen front) s.near.now
