-- What is asked of a block that is added to a state, and what it brings.
use Rattle.std.specs.Prelude.{◌≡◌, ◌≤◌, ◌⊎◌, ◌||◌, ◌&&◌, Bool, true, false, not, List, [], ◌∷◌, ◌++◌, map, length, None, IsTrue, is_some, ⊤}
use Rattle.std.specs.List.{list_any}
use Rattle.text_model.specs.Lists.{In, Each}
use Rattle.text_model.specs.Id.{Id, null}
use Rattle.hg_model.specs.Changeset.{changeset_text}
use Rattle.hg_model.specs.FileText.{file_text}
use Rattle.hg_model.specs.Revision.{Revision, Changesets, is_known_parent, known_after_all}
use Rattle.git_model.specs.Object.{Object, knows_object, is_other_content}
use Rattle.git_model.specs.Unfold.{walk_fault, rows_limit}
use Rattle.tree_shape.specs.Laws.{IsKnown}
use Rattle.view_model.specs.View.{Row, TreeRow, files_among, ChangesetView, rows_text, rows_size, text_limit, changeset_node, commit_objects, HasBodiesOf}
use Rattle.view_model.specs.Held.{IsChangesetHeld, IsCommitHeld, AreChangesetsHeld}
use Rattle.view_model.specs.Dump.{revisions_in}
use Rattle.pair_model.specs.Block.{Block, id_of, block_of_node, block_of_id}
use Rattle.pair_model.specs.Collision.{commit_collides}
use Rattle.pair_model.specs.Octopus.{is_link_view}
use Rattle.partner_model.specs.Clash.{commit_side_collides, changeset_side_collides}
use Rattle.pair_known.specs.declared.hg_draft.HgDraft.{HgDraft}
use Rattle.pair_known.specs.declared.hg_block.HgBlock.{HgBlock}
use Rattle.pair_known.specs.declared.git_draft.GitDraft.{GitDraft}
use Rattle.pair_known.specs.Drafts.{IsHgDraft}
use Rattle.pair_known.specs.Ruled.{IsMadeCommit, IsRuledCommit, blob_of_row, IsMadeChangeset, HasFileParents, HasManifestParents}
use Rattle.pair_state.specs.declared.state_parts.StateParts.{StateParts}
use Rattle.pair_state.specs.Blocks.{IsStateOf, body_blob}

-- both lists have the same elements
abbrev pub HaveSame : {X : Type 0} → List X → List X → Type 0
HaveSame {X} xs ys = ((x : X) → In x xs → In x ys) × ((x : X) → In x ys → In x xs)

-- a commit of at most 64 parents has at most 62 links
abbrev pub HasFewLinks : Block → Type 0
HasFewLinks b = length b.links ≤ 62

-- ---- the commit of a changeset

-- a changeset that is stored and in no block, with the stored links and the commit of its block, which has its bodies
pub record PushesCommit (s : StateParts) (h : HgDraft) (links : List Id) (d : GitDraft) (node : Id) (blocks : List Block) (b : Block) : Type 0 where
  pub state : IsStateOf s blocks
  pub draft : IsHgDraft s.known.hg h b.changeset
  pub held : IsChangesetHeld s.known.hg node b.changeset
  pub links_held : AreChangesetsHeld s.known.hg links b.links
  pub links_are : links ≡ map changeset_node b.links
  pub few : HasFewLinks b
  pub no_link : is_link_view b.changeset ≡ false
  pub free : block_of_node blocks node ≡ None
  pub ruled : IsRuledCommit s.known.git d b.commit
  pub bodies : HasBodiesOf (b.changeset).rows (b.commit).rows

-- the block came behind the others
pub record CommitPushed (s next : StateParts) (blocks : List Block) (b : Block) : Type 0 where
  pub apart : commit_side_collides s.known.git blocks b ≡ false
  pub state : IsStateOf next (blocks ++ b ∷ [])
  pub tags : next.tags ≡ s.tags
  pub names : next.names ≡ s.names
  pub revisions : next.known.hg ≡ s.known.hg
  pub objects : HaveSame next.known.git (s.known.git ++ commit_objects b.commit)

-- ---- the changesets of a commit

-- the parents of a changeset are known; a null one is the second or both, and no other stands twice
pub record HasParents (known : List Revision) (h : ChangesetView) : Type 0 where
  pub p : IsTrue (is_known_parent known Changesets h.p)
  pub q : IsTrue (is_known_parent known Changesets h.q)
  pub first : h.p ≡ null → h.q ≡ null
  pub distinct : h.p ≡ h.q → h.p ≡ null

-- each is the first parent of the next, whose second parent stands in a block
abbrev pub AreBehind : List Block → Id → List ChangesetView → Type 0
AreBehind blocks node [] = ⊤
AreBehind blocks node (h ∷ hs) = (h.p ≡ node) × IsTrue (is_some (block_of_node blocks h.q)) × AreBehind blocks (changeset_node h) hs

-- the first of a block's changesets has known parents, and each is the first parent of the next
abbrev pub AreLinked : List Revision → List Block → List ChangesetView → Type 0
AreLinked known blocks [] = ⊤
AreLinked known blocks (h ∷ hs) = HasParents known h × AreBehind blocks (changeset_node h) hs

-- each text of a changeset has at most 2^26 bytes
pub record HasShortTexts (h : ChangesetView) : Type 0 where
  pub text : length (changeset_text h.fields) ≤ text_limit
  pub manifest : length (rows_text h.rows) ≤ text_limit
  pub files : Each (λ row. length (file_text (row.revision).meta (row.revision).body) ≤ text_limit) h.rows

-- the draft stands for the changeset, whose texts are within the limit and whose revisions have known parents
pub record IsPart (known : List Revision) (d : HgDraft) (h : ChangesetView) : Type 0 where
  pub made : IsMadeChangeset known d h
  pub file_parents : Each (HasFileParents known) h.rows
  pub manifest_parents : HasManifestParents known h.manifest
  pub fits : HasShortTexts h

-- the drafts of links, which bring no file revisions
abbrev pub AreLinkParts : List Revision → List HgDraft → List ChangesetView → Type 0
AreLinkParts known [] [] = ⊤
AreLinkParts known (d ∷ ds) (l ∷ ls) = IsPart known d l × (d.fresh ≡ []) × AreLinkParts known ds ls
AreLinkParts known _ _ = ⊥

-- the drafts stand for the changesets of a block over a state
pub record BringsParts (s : StateParts) (h : HgBlock) (blocks : List Block) (b : Block) : Type 0 where
  pub state : IsStateOf s blocks
  pub links : AreLinkParts s.known.hg h.links b.links
  pub last : IsPart s.known.hg h.last b.changeset
  pub parents : AreLinked s.known.hg blocks (b.links ++ b.changeset ∷ [])
  pub few : HasFewLinks b
  pub no_link : is_link_view b.changeset ≡ false

-- a commit that is stored and in no block, with the changesets of its block
pub record PushesChangeset (s : StateParts) (h : HgBlock) (id : Id) (blocks : List Block) (b : Block) : Type 0 where
  pub brings : BringsParts s h blocks b
  pub held : IsCommitHeld s.known.git id b.commit
  pub walks : walk_fault s.known.git ((b.commit).value).tree_id ≡ None
  pub free : block_of_id blocks id ≡ None

-- the block came behind the others
pub record ChangesetPushed (s next : StateParts) (blocks : List Block) (b : Block) : Type 0 where
  pub apart : changeset_side_collides s.known.hg blocks b ≡ false
  pub state : IsStateOf next (blocks ++ b ∷ [])
  pub tags : next.tags ≡ s.tags
  pub names : next.names ≡ s.names
  pub revisions : next.known.hg ≡ known_after_all s.known.hg (revisions_in (b.links ++ b.changeset ∷ []))
  pub objects : next.known.git ≡ s.known.git

-- ---- both sides

-- The content of each file of a commit is that of the blob that is stored or comes with it, or the body of a file of the changeset.
abbrev pub AreContents : List Object → List Row → List TreeRow → Type 0
AreContents known files rows = Each (λ t. IsKnown known (blob_of_row t) ⊎ In (blob_of_row t) (map body_blob files)) (files_among rows)

-- A block, either side of which may be stored already. A commit that is stored has the contents that are stored.
pub record PushesBlock (s : StateParts) (h : HgBlock) (d : GitDraft) (blocks : List Block) (b : Block) : Type 0 where
  pub brings : BringsParts s h blocks b
  pub made : IsMadeCommit s.known.git d b.commit
  pub within : rows_size b.commit ≤ rows_limit
  pub contents : AreContents (d.fresh ++ s.known.git) (b.changeset).rows (b.commit).rows
  pub stored : knows_object s.known.git (id_of b) ≡ true → Each (λ t. IsKnown (d.fresh ++ s.known.git) (blob_of_row t)) (files_among (b.commit).rows)
  pub blobs : Each (λ row. knows_object (d.fresh ++ s.known.git) (body_blob row).id ≡ true) (b.changeset).rows

-- a body of a file has the id of an object with another content
abbrev pub bodies_collide : List Object → Block → Bool
bodies_collide known b = list_any (λ row. list_any (is_other_content (body_blob row)) (known ++ commit_objects b.commit)) (b.changeset).rows

-- A revision or an object of the block is known otherwise, or a part of it stands in a block; or the commit is new, and a body is known otherwise.
abbrev pub block_collides : List Revision → List Object → List Block → Block → Bool
block_collides revisions objects blocks b =
    changeset_side_collides revisions blocks b || (commit_collides objects blocks b.commit || (not (knows_object objects (id_of b)) && bodies_collide objects b))

-- the block came behind the others
pub record BlockPushed (s next : StateParts) (blocks : List Block) (b : Block) : Type 0 where
  pub apart : block_collides s.known.hg s.known.git blocks b ≡ false
  pub state : IsStateOf next (blocks ++ b ∷ [])
  pub tags : next.tags ≡ s.tags
  pub names : next.names ≡ s.names
  pub revisions : next.known.hg ≡ known_after_all s.known.hg (revisions_in (b.links ++ b.changeset ∷ []))
  pub objects : HaveSame next.known.git (s.known.git ++ commit_objects b.commit)
