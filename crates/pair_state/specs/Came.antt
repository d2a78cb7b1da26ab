-- Revisions that come to a store, one after the other.
use Rattle.std.specs.Prelude.{◌≡◌, ◌≤◌, Bool, true, false, ◌||◌, ⊤, List, [], ◌∷◌, ◌++◌, length, None, Some, is_some, IsTrue, ◌⊎◌}
use Rattle.text_model.specs.Limits.{text_limit}
use Rattle.text_model.specs.Path.{is_fit_path}
use Rattle.hg_model.specs.FileText.{file_text, IsFile}
use Rattle.std.specs.List.{list_any}
use Rattle.text_model.specs.Lists.{In}
use Rattle.text_model.specs.Id.{Id, is_null, has_id, node_id}
use Rattle.text_model.specs.Text.{Bytes}
use Rattle.hg_model.specs.Changeset.{changeset_text}
use Rattle.hg_model.specs.Revision.{Revision, Group, Changesets, revision_of, knows, known_after, is_otherwise, ancestry_fault, shape_fault, known_after_all}
use Rattle.hg_store.specs.Known.{AreAdded}
use Rattle.view_model.specs.View.{ChangesetView, Row, changeset_node}
use Rattle.view_model.specs.Held.{IsFileHeld}
use Rattle.pair_known.specs.Rows.{RowValue, row_value}
use Rattle.view_model.specs.Dump.{revisions_in}
use Rattle.pair_model.specs.Block.{Block, block_of_node}
use Rattle.pair_known.specs.Ruled.{HasFileParents}
use Rattle.pair_known.specs.declared.hg_block.HgBlock.{HgBlock}
use Rattle.pair_known.specs.declared.hg_draft.HgDraft.{HgDraft}
use Rattle.pair_state.specs.Push.{HasParents, IsPart, AreLinkParts, AreLinked}

-- the node is null, or known with another text or other parents
abbrev pub is_bad : List Revision → Revision → Bool
is_bad known r = is_null r.node || list_any (is_otherwise r) known

-- nothing else is wrong with the revision
pub record IsReady (known : List Revision) (r : Revision) : Type 0 where
  pub ancestry : ancestry_fault known r ≡ None
  pub node : node_id r.p r.q r.text ≡ r.node
  pub shape : shape_fault r.group r.text ≡ None

-- none is bad as it comes
abbrev pub AreClean : List Revision → List Revision → Type 0
AreClean known [] = ⊤
AreClean known (r ∷ rs) = (is_bad known r ≡ false) × AreClean (known_after known r) rs

-- the revisions came, and none was bad
pub record HaveCome (old new rs : List Revision) : Type 0 where
  pub are : new ≡ known_after_all old rs
  pub clean : AreClean old rs

-- one of the revisions is bad, over the store or the others
pub record HasBad (old rs : List Revision) : Type 0 where
  pub revision : Revision
  pub is_new : In revision rs
  pub bad : is_bad (old ++ rs) revision ≡ true

-- the look-ups of the one are those of the other
abbrev pub IsWithinHg : List Revision → List Revision → Type 0
IsWithinHg old new = (group : Group) (node : Id) (r : Revision) → revision_of old group node ≡ Some r → revision_of new group node ≡ Some r

-- the draft stands for the changeset over a store that has grown by it and perhaps more, each revision over those before it
pub record IsAskedOver (base now : List Revision) (d : HgDraft) (node : Id) (k : ChangesetView) : Type 0 where
  pub part : IsPart base d k
  pub within : IsWithinHg base now
  pub node_is : node ≡ changeset_node k
  pub link : knows now Changesets node ≡ true
  pub added : AreAdded now

-- a file of a changeset whose revision the draft or the store has, over a store that has its parents and its changeset, and to which each
-- revision was added over those before it
pub record IsFileAsked (known fresh : List Revision) (v : RowValue) (link : Id) (x : Row) : Type 0 where
  pub value : v ≡ row_value x
  pub held : IsFileHeld (fresh ++ known) x
  pub parents : HasFileParents known x
  pub link_known : knows known Changesets link ≡ true
  pub short : length (file_text (x.revision).meta (x.revision).body) ≤ text_limit
  pub fit : IsTrue (is_fit_path x.path)
  pub spells : IsFile (x.revision).meta (x.revision).body
  pub added : AreAdded known

-- the draft stands for the changeset with this node and text, whose parents are known, over a store that may have grown
pub record IsAsked (base now : List Revision) (d : HgDraft) (node : Id) (text : Bytes) (k : ChangesetView) : Type 0 where
  pub part : IsPart base d k
  pub within : IsWithinHg base now
  pub parents : HasParents now k
  pub node_is : node ≡ changeset_node k
  pub text_is : text ≡ changeset_text k.fields

-- ---- the changesets of a block

-- one of the changesets has one of these nodes
abbrev pub is_any_among : List Id → List ChangesetView → Bool
is_any_among saved hs = list_any (λ h. has_id saved (changeset_node h)) hs

-- the draft stands for a changeset whose parents are known, over a store that may have grown
pub record IsPartOver (base now : List Revision) (d : HgDraft) (h : ChangesetView) : Type 0 where
  pub part : IsPart base d h
  pub within : IsWithinHg base now
  pub parents : HasParents now h

-- the drafts stand for the changesets of a block; those of other blocks are among these nodes and known
pub record ArePartsOf (known : List Revision) (saved : List Id) (d : HgBlock) (blocks : List Block) (ls : List ChangesetView) (h : ChangesetView) : Type 0 where
  pub links : AreLinkParts known d.links ls
  pub last : IsPart known d.last h
  pub linked : AreLinked known blocks (ls ++ h ∷ [])
  pub stands : (q : Id) → IsTrue (is_some (block_of_node blocks q)) → (has_id saved q ≡ true) × (knows known Changesets q ≡ true)

-- the revisions of the changesets came, and none of these has one of the nodes
pub record PartsCame (old new : List Revision) (saved : List Id) (hs : List ChangesetView) : Type 0 where
  pub came : HaveCome old new (revisions_in hs)
  pub apart : is_any_among saved hs ≡ false

-- a revision of the changesets is bad, or one of them has one of the nodes
abbrev pub PartsCollide : List Revision → List Id → List ChangesetView → Type 0
PartsCollide old saved hs = HasBad old (revisions_in hs) ⊎ (is_any_among saved hs ≡ true)
