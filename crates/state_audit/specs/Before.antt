-- The blocks before one, among all blocks that are known.
use Rattle.std.specs.Prelude.{◌≡◌, Bool, false, List, option_map, unwrap_or, is_some}
use Rattle.std.specs.List.{list_all}
use Rattle.text_model.specs.Id.{Id, has_id}
use Rattle.view_model.specs.View.{ChangesetView, CommitView, CommitFits, paths_of, has_clash}
use Rattle.pair_model.specs.Block.{Block, block_of_node}
use Rattle.partner_model.specs.Partner.{OfHg, IsHeldView, AreCommitParentsPaired}
use Rattle.partner_model.specs.Given.{IsBlockFor, IsOnLink, IsTooDeep}
use Rattle.partner_model.specs.Clash.{MeetsCollision}
use Rattle.frame_law.specs.Ground.{IsGround, AreAmong}
use Rattle.pair_known.specs.Partners.{hg_at}
use Rattle.pair_known.specs.declared.known.Known.{Known}
use Rattle.pair_known.specs.declared.git_draft.GitDraft.{GitDraft}
use Rattle.pair_choice.specs.Chosen.{IsChosenCommit}

-- the changeset of a commit is among the nodes
abbrev pub is_there : List (Id × Id) → List Id → Id → Bool
is_there partners nodes id = unwrap_or (option_map (has_id nodes) (hg_at partners id)) false

abbrev pub are_there : List (Id × Id) → List Id → List Id → Bool
are_there partners nodes ids = list_all (is_there partners nodes) ids

-- The first blocks are among all of them, and these are the nodes of their changesets.
pub record IsBefore (k : Known) (blocks front : List Block) (nodes : List Id) : Type 0 where
  pub whole : IsGround blocks (IsHeldView k.hg)
  pub part : IsGround front (IsHeldView k.hg)
  pub among : AreAmong front blocks
  pub nodes_are : (node : Id) → has_id nodes node ≡ is_some (block_of_node front node)

-- The changeset has a partner over the first blocks, and this is its block, whatever parents its files and its manifest have.
pub record GetsBlock (k : Known) (front : List Block) (v : ChangesetView) (d : Block) : Type 0 where
  pub no_clash : has_clash (paths_of v.rows) ≡ false
  pub on_no_link : ¬ (IsOnLink front (IsHeldView k.hg) v)
  pub no_collision : ¬ (MeetsCollision front (IsHeldView k.hg) k.git (OfHg v))
  pub not_deep : ¬ (IsTooDeep front (IsHeldView k.hg) (OfHg v))
  pub block : IsBlockFor front (IsHeldView k.hg) (OfHg v) d
  pub fits : CommitFits d.commit

-- it has none
abbrev pub HasNone : Known → List Block → ChangesetView → Type 0
HasNone k front v = (d : Block) → ¬ (GetsBlock k front v d)

-- The partner over all blocks, each of whose parents has its changeset among the first ones, with its block over these.
pub record IsPartnerHere (k : Known) (blocks front : List Block) (v : ChangesetView) (d : GitDraft) (c : CommitView) : Type 0 where
  pub chosen : IsChosenCommit k blocks v d c
  pub paired : AreCommitParentsPaired front c
