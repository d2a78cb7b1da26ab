-- A changeset over the parents that the commit of its marks has.
use Rattle.std.specs.Prelude.{◌≡◌, ◌≤◌, ◌-◌, ◌++◌, ℕ, true, false, not, is_some, List, [], ◌∷◌, length, map, IsTrue}
use Rattle.text_model.specs.Limits.{parent_limit}
use Rattle.text_model.specs.Lists.{Each}
use Rattle.text_model.specs.Id.{Id, is_null}
use Rattle.git_model.specs.Tree.{has_distinct}
use Rattle.hg_model.specs.Revision.{Revision}
use Rattle.view_model.specs.View.{ChangesetView, IsChangesetView, SameRows}
use Rattle.pair_model.specs.Block.{Block, block_of_id, hg_partner, Parents}
use Rattle.pair_model.specs.Octopus.{first_of, last_id}
use Rattle.pair_model.specs.Rule.{tree_row_of, ruled_rows, ruled_manifest, ruled_files}
use Rattle.partner_model.specs.Filled.{Walks}
use Rattle.pair_known.specs.declared.known.Known.{Known}
use Rattle.pair_known.specs.declared.hg_draft.HgDraft.{HgDraft}
use Rattle.pair_known.specs.Drafts.{IsHgDraft}
use Rattle.pair_known.specs.Over.{IsChangesetIn}
use Rattle.file_rule.specs.Parents.{IsParent, IsParentView}
use Rattle.file_rule.specs.declared.parents.Parent.{Parent}

-- the draft stands for the changeset, and the parents are held
pub record IsDraftOver (known : List Revision) (d : HgDraft) (first second : Parent) (ps : Parents) (v : ChangesetView) : Type 0 where
  pub draft : IsHgDraft known d v
  pub view : IsChangesetView v
  pub in_first : IsParent known first ps.first
  pub in_second : IsParent known second ps.second
  pub there : (first.is_there ≡ not (is_null ps.p)) × (second.is_there ≡ not (is_null ps.q))
  pub no_first : is_null ps.p ≡ true → (ps.first).rows ≡ []
  pub no_second : is_null ps.q ≡ true → (ps.second).rows ≡ []

-- the files, the manifest and the list of files are those that the rules give
pub record ListsComeBack (ps : Parents) (v : ChangesetView) : Type 0 where
  pub rows : SameRows (ruled_rows ps (map tree_row_of v.rows)) v.rows
  pub manifest : v.manifest ≡ ruled_manifest ps v.rows
  pub files : (v.fields).files ≡ ruled_files ps v.rows

-- each has a partner
abbrev pub AreCommitParentsPaired : List Block → List Id → Type 0
AreCommitParentsPaired blocks ids = Each (λ id. IsTrue (is_some (block_of_id blocks id))) ids

-- the second has the files and the manifest of the first, as a link has those of its commit's first parent
pub record IsLike (base other : ChangesetView) : Type 0 where
  pub node : (other.fields).manifest ≡ (base.fields).manifest
  pub manifest : other.manifest ≡ base.manifest
  pub rows : other.rows ≡ base.rows

-- the parents that the commit of a changeset's marks has, with the first one's node, and the parents that its changeset has
pub record IsNamedOver (k : Known) (blocks : List Block) (d : HgDraft) (v : ChangesetView) (ids : List Id) (node : Id) (ps : Parents) : Type 0 where
  pub inside : IsChangesetIn k blocks d v
  pub paired : AreCommitParentsPaired blocks ids
  pub distinct : IsTrue (has_distinct ids)
  pub few : length ids ≤ parent_limit
  pub node_is : node ≡ first_of (map (hg_partner blocks) ids)
  pub base : ChangesetView
  pub at_first : IsParentView k.hg node base
  pub at_second : IsParentView k.hg v.q ps.second
  pub like : IsLike base ps.first
  pub null_first : is_null node ≡ is_null ps.p
  pub parents : (ps.p ≡ v.p) × (ps.q ≡ v.q)

-- the links lead from the first parent to all of these nodes but the last, which is the second parent
abbrev pub LeadsTo : List Revision → ℕ → Id → Id → List Id → Type 0
LeadsTo known n p q nodes = (is_null q ≡ false) × (ids : List Id) × Walks known n (n - 2) p ids × (nodes ≡ ids ++ q ∷ [])

-- the parents that the commit of a changeset has by its links, and the partners of these parents
pub record IsOctopusOver (k : Known) (blocks : List Block) (d : HgDraft) (v : ChangesetView) (ids nodes : List Id) : Type 0 where
  pub inside : IsChangesetIn k blocks d v
  pub paired : AreCommitParentsPaired blocks ids
  pub distinct : IsTrue (has_distinct ids)
  pub least : 3 ≤ length ids
  pub most : length ids ≤ parent_limit
  pub nodes_are : nodes ≡ map (hg_partner blocks) ids
  pub second : v.q ≡ last_id nodes
  pub there : is_null v.p ≡ false
