-- What the laws of partners ask of the blocks, of the known changesets and of bodies, in this project's own words.
use Rattle.std.specs.Prelude.{◌≡◌, ◌≢◌, List, map, IsTrue}
use Rattle.text_model.specs.Lists.{Each, rises, In}
use Rattle.text_model.specs.Text.{is_below}
use Rattle.text_model.specs.Id.{null, blob_id}
use Rattle.git_model.specs.Tree.{has_distinct}
use Rattle.view_model.specs.View.{ChangesetView, changeset_node, SameChangeset, tree_paths, Row}
use Rattle.pair_model.specs.Block.{Block, node_of, id_of}
use Rattle.partner_model.specs.Partner.{IsKnownAs}

-- no two blocks have one node or one commit id, none has the null node, and the rows of each commit stand in order
pub record IsTable (blocks : List Block) : Type 0 where
  pub nodes : IsTrue (has_distinct (map node_of blocks))
  pub ids : IsTrue (has_distinct (map id_of blocks))
  pub there : Each (λ b. node_of b ≢ null) blocks
  pub rows : Each (λ b. IsTrue (rises is_below (tree_paths (b.commit).rows))) blocks

-- known changesets of one node are the same
abbrev pub AreApart : (ChangesetView → Type 0) → Type 0
AreApart Known = (k l : ChangesetView) → Known k → Known l → changeset_node k ≡ changeset_node l → SameChangeset k l

-- each link of the block is known
abbrev pub AreLinksKnown : List Block → (ChangesetView → Type 0) → Block → Type 0
AreLinksKnown blocks Known b = Each (IsKnownAs Known) b.links

-- bodies of one blob id are one
abbrev pub AreBlobsApart : List ChangesetView → Type 0
AreBlobsApart views = (k l : ChangesetView) (r s : Row) → In k views → In l views → In r k.rows → In s l.rows → blob_id (r.revision).body ≡ blob_id (s.revision).body → (r.revision).body ≡ (s.revision).body
