-- What a right block has of its partner: the value of the commit, the links, and partners of the parents. And the bodies of a history are objects where those
-- of its commits are.
use Rattle.std.proofs.Common.{◌≡◌, List, [], ◌∷◌, ◌++◌, length, map, sym, ap, subst, ◌∙◌, append_assoc, append-nil}
use Rattle.std.specs.Prelude.{is_some, IsTrue}
use Rattle.text_model.specs.Lists.{Each}
use Rattle.text_model.specs.Id.{object_id, commit}
use Rattle.hg_model.specs.Revision.{Revision}
use Rattle.git_model.specs.Commit.{Commit, commit_text}
use Rattle.git_model.specs.Object.{Object}
use Rattle.view_model.specs.View.{CommitView, commit_id, files_among, SameCommit}
use Rattle.pair_model.specs.Block.{Block, hg_partner, block_of_id, changesets_in}
use Rattle.pair_model.specs.Octopus.{links_by, links_of}
use Rattle.partner_model.specs.Partner.{IsHeldView, AreCommitParentsPaired}
use Rattle.verify_model.specs.Holds.{IsRight, Holds}
use Rattle.frame_law.proofs.Kept.{commit_for_paired}
use Rattle.frame_law.proofs.Bodies.{HasBlob, IsBlobIn, blobs_of_rows}
use Rattle.frame_law.proofs.Rows.{all_push}

-- the links of a commit are by its value alone
pub links_like : (blocks : List Block) (c d : CommitView) → c.value ≡ d.value → links_of blocks c ≡ links_of blocks d
unfolding links_of commit_id
links_like blocks c d e = λ i. links_by blocks (object_id commit (commit_text (e i))) (length (e i).parents) (map (hg_partner blocks) (e i).parents)

-- and so is which of its parents have partners
pub paired_like : (blocks : List Block) (c d : CommitView) → c.value ≡ d.value → AreCommitParentsPaired blocks c → AreCommitParentsPaired blocks d
paired_like blocks c d e p = subst (λ (v : Commit). Each (λ id. IsTrue (is_some (block_of_id blocks id))) v.parents) e p

module _ (known : List Revision) (objects : List Object) (before : List Block) (b : Block) (r : IsRight known objects before b) where
  abbrev pub made : CommitView
  made = ((r.gets).block).0

  pub right_same : SameCommit b.commit made
  right_same = subst (SameCommit b.commit) (ap (λ (x : Block). x.commit) ((r.gets).block).2) r.commit

  pub right_links : b.links ≡ links_of before b.commit
  right_links = r.links ∙ ap (λ (x : Block). x.links) ((r.gets).block).2 ∙ links_like before made b.commit (sym right_same.value)

  pub right_paired : AreCommitParentsPaired before b.commit
  right_paired = paired_like before made b.commit (sym right_same.value) (commit_for_paired before (IsHeldView known) b.changeset made ((r.gets).block).1)

-- ---- the bodies of a history

-- the bodies of the commit's files are objects
abbrev pub AreBlobsIn : List Object → Block → Type 0
AreBlobsIn all b = Each (IsBlobIn all) (files_among (b.commit).rows)

module _ (known : List Revision) (objects all : List Object) where
  pub blobs_push : (before : List Block) (b : Block) → AreBlobsIn all b → IsRight known objects before b → Each (λ v. Each (HasBlob all) v.rows) (changesets_in before) → Each (λ v. Each (HasBlob all) v.rows) (changesets_in (before ++ b ∷ []))
  blobs_push before b w r each = all_push (Each (HasBlob all)) tt before each b b.commit (right_links known objects before b r) (blobs_of_rows all (b.changeset).rows (files_among (b.commit).rows) r.bodies w)

  pub all_blobs : (before rest : List Block) → Each (AreBlobsIn all) rest → Holds known objects before rest → Each (λ v. Each (HasBlob all) v.rows) (changesets_in before) → Each (λ v. Each (HasBlob all) v.rows) (changesets_in (before ++ rest))
  unfolding Holds
  all_blobs before [] w h each = subst (λ (x : List Block). Each (λ v. Each (HasBlob all) v.rows) (changesets_in x)) (sym (append-nil before)) each
  all_blobs before (b ∷ rest) w h each =
      subst (λ (x : List Block). Each (λ v. Each (HasBlob all) v.rows) (changesets_in x)) (append_assoc before (b ∷ []) rest) (all_blobs (before ++ b ∷ []) rest w.1 h.1 (blobs_push before b w.0 h.0 each))
