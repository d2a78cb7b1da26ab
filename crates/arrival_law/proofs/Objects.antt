-- What is known of the commits of a saved history: each of them, and each of their objects.
use Rattle.std.proofs.Common.{◌≡◌, true≢false, List, [], ◌∷◌, ◌++◌, map, None, refl, sym, ap, subst, ◌∙◌, inl, inr}
use Rattle.std.specs.Prelude.{IsTrue}
use Rattle.text_model.specs.Lists.{Each, In}
use Rattle.text_model.specs.Id.{tree, tag, same_kind}
use Rattle.text_model.proofs.Elements.{each_from, each_in, in_left, in_map}
use Rattle.git_model.specs.Tree.{TreeEntry, is_blob_mode, IsTreeText}
use Rattle.git_model.specs.Object.{Object, AreObjects, object_at, has_id, objects_after_all}
use Rattle.git_model.specs.Shape.{shape_depth}
use Rattle.git_model.specs.Unfold.{walk_fault}
use Rattle.git_store.proofs.KnownLemmas.{same_kind-is}
use Rattle.tree_shape.specs.Laws.{IsKnown}
use Rattle.view_model.specs.View.{CommitView, IsCommitView, TreeRow, commit_id, commit_objects, files_among, leaf_of_row}
use Rattle.view_model.specs.Held.{IsCommitHeld, AreCommitsHeld}
use Rattle.view_model.specs.Dump.{objects_in}
use Rattle.pair_model.specs.Block.{Block, id_of, commits_in}
use Rattle.state_model.specs.Kept.{Kept, is_tag}
use Rattle.saved_model.specs.Step.{dump_objects, known_of}
use Rattle.dump_law.proofs.CommitsHeld.{brought_there, tree_is, all_walks, commits_held}
use Rattle.dump_law.proofs.Elements.{of-filter, passes}
use Rattle.dump_law.proofs.Parts.{file_in}
use Rattle.dump_law.proofs.Rows.{leaves_good}
use Rattle.dump_law.proofs.Streams.{commit_split, own, shapes_of, of_append}
use Rattle.next_law.proofs.GitKnown.{distinct-after}
use Rattle.next_law.proofs.Known.{IsSaved}
use Rattle.next_law.proofs.LikeNew.{find-in}
use Rattle.next_law.proofs.ObjectLike.{all-more}
use Rattle.next_law.proofs.Objects.{known-checked}
use Rattle.tag_law.proofs.Adds.{in-all}
use Rattle.tag_law.proofs.TagsRead.{after-append}
use Rattle.closure_model.specs.Shaped.{AreBlobsWritten, blob_of}
use Rattle.closure_model.specs.Arrives.{AreCommitsRead}

-- ---- blobs

blobs-written : (c : CommitView) → IsCommitView c → Each (λ row. In (blob_of row) (commit_objects c)) (files_among c.rows)
blobs-written c v = each_from (λ row. In (blob_of row) (commit_objects c)) (files_among c.rows) (λ row i.
    let is = passes (λ (row : TreeRow). is_blob_mode row.mode) row c.rows i in
    let leaf = in_map leaf_of_row row c.rows (of-filter (λ (row : TreeRow). is_blob_mode row.mode) row c.rows i) in
    subst (λ (l : List Object). In (blob_of row) l) (sym (commit_split c))
    (in_left (blob_of row) (shapes_of c) (own c ∷ []) (file_in shape_depth (map leaf_of_row c.rows) (leaf_of_row row) (leaves_good c v) leaf is)))

pub each-blob : (blocks : List Block) → Each IsCommitView (commits_in blocks) → AreBlobsWritten blocks
each-blob [] views = tt
each-blob (b ∷ blocks) views = (blobs-written b.commit views.0, each-blob blocks views.1)

pub each-commit : (P : CommitView → Type 0) (blocks : List Block) → Each P (commits_in blocks) → Each (λ b. P b.commit) blocks
each-commit P [] each = tt
each-commit P (b ∷ blocks) each = (each.0, each-commit P blocks each.1)

pub each-held : (known : List Object) (blocks : List Block) → AreCommitsHeld known (map commit_id (commits_in blocks)) (commits_in blocks) → Each (λ b. IsCommitHeld known (id_of b) b.commit) blocks
each-held known [] held = tt
each-held known (b ∷ blocks) held = (held.0, each-held known blocks held.1)

-- ---- all that is known

module _ (k : Kept) (saved : IsSaved k) where
  abbrev cs : List CommitView
  cs = commits_in k.blocks

  abbrev dump : List Object
  dump = dump_objects cs

  abbrev known : List Object
  known = (known_of k).objects

  there : (o : Object) → In o (objects_in cs) → IsKnown known o
  there o i =
      let first = objects_after_all [] dump in
      ap (λ (os : List Object). object_at os o.id) (after-append [] dump k.tags) ∙ all-more first k.tags o.id o (brought_there cs saved.commits o i)

  -- each object of the commits is known
  pub all-known : Each (λ o. In o known) (objects_in cs)
  all-known = each_from (λ o. In o known) (objects_in cs) (λ o i. (find-in (has_id o.id) known o (there o i)).0)

  pub no-tree : (o : Object) → In o k.tags → IsTrue (same_kind o.kind tree) → ⊥
  no-tree o i t =
      let kind = same_kind-is o.kind tree t in
      true≢false (sym (each_in (λ o. IsTrue (is_tag o)) k.tags o (saved.tags).tags_only i) ∙ ap (λ kind. same_kind kind tag) kind)

  are-objects : AreObjects known
  are-objects = record {
    distinct = distinct-after [] (dump ++ k.tags) refl;
    ids = known-checked k saved.commits saved.tags;
    trees = each_from (λ o. IsTrue (same_kind o.kind tree) → (entries : List TreeEntry) × IsTreeText o.content entries) known (λ o i t. elim (of_append o dump k.tags (in-all (dump ++ k.tags) o i)) [
      | inl j ↦ tree_is cs saved.commits o j t
      | inr j ↦ absurd (no-tree o j t)
    ]);
  }

  pub commits-read : AreCommitsRead known k.blocks
  commits-read = record {
    held = each-held known k.blocks (commits_held cs saved.commits known are-objects there cs (λ c i. i));
    walks = each-commit (λ c. walk_fault known (c.value).tree_id ≡ None) k.blocks (all_walks cs saved.commits known are-objects there);
  }
