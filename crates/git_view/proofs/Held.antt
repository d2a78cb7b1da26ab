-- The commit of an id, with the files of its tree.
use Rattle.std.proofs.Common.{◌≡◌, Bool, true, false, List, map, Option, Some, None, refl, sym, subst, ◌∙◌}
use Rattle.std.specs.Prelude.{if◌then◌else◌}
use Rattle.text_model.specs.Text.{Bytes}
use Rattle.text_model.specs.Id.{Id, commit, same_kind, object_id}
use Rattle.git_model.specs.Commit.{Commit}
use Rattle.git_model.specs.Object.{Object, object_at}
use Rattle.git_model.specs.Unfold.{FileRow, IsUnfolding, tree_rows, walk_fault}
use Rattle.text_model.proofs.Options.{none_some, some_is}
use Rattle.git_store.specs.Known.{AreKnown, content_of, content_at, IsCommitAt}
use Rattle.git_store.proofs.KnownLemmas.{same_kind-is}
use Rattle.tree_shape.proofs.Unfolding.{unfolds}
use Rattle.view_model.specs.View.{CommitView, commit_id}
use Rattle.view_model.specs.Held.{IsCommitHeld}
use Rattle.git_view.proofs.Found.{found}
use Rattle.git_view.proofs.Walks.{none-refused}
use Rattle.git_view.proofs.Rows.{row_in, rows-again, blob-of, blobs-held}

-- the object of a commit
pub record CommitAt (known : List Object) (id : Id) (content : Bytes) : Type 0 where
  pub object : Object
  pub at : object_at known id ≡ Some object
  pub kind_is : object.kind ≡ commit
  pub content_is : object.content ≡ content

pub commit-at : (known : List Object) (id : Id) (content : Bytes) → content_at commit known id ≡ Some content → CommitAt known id content
commit-at known id content h = by (object_at known id) refl h
  where
    kind : (o : Object) → object_at known id ≡ Some o → (t : Bool) → same_kind o.kind commit ≡ t → (if t then Some o.content else None) ≡ Some content → CommitAt known id content
    kind o e true t i = record { object = o; at = e; kind_is = same_kind-is o.kind commit t; content_is = some_is {x = o.content} {y = content} i }
    kind o e false t i = absurd (none_some {x = content} i)

    by : (o : Option Object) → object_at known id ≡ o → content_of commit o ≡ Some content → CommitAt known id content
    by None e i = absurd (none_some {x = content} i)
    by (Some o) e i = kind o e (same_kind o.kind commit) refl i

module _ (known : List Object) (are : AreKnown known) (id : Id) where
  pub commit-is_held : (v : Commit) → IsCommitAt known id v → walk_fault known v.tree_id ≡ None → (c : CommitView) × IsCommitHeld known id c × (c.value ≡ v)
  commit-is_held v is h =
      let of = commit-at known id is.content is.held in
      let rows : List FileRow = tree_rows known v.tree_id in
      let c : CommitView = record { value = v; rows = map (row_in known) rows } in (
        c,
        record {
          object = of.object;
          is_held = of.at;
          kind = of.kind_is;
          text = (is.is.0, of.content_is ∙ is.is.1);
          rows = subst (IsUnfolding known v.tree_id) (sym (rows-again known rows)) (unfolds known v.tree_id are.are (none-refused known are.are v.tree_id h));
          blobs = blobs-held known rows (λ row i file. blob-of known are.are v.tree_id row h i file);
        },
        refl,
      )

  pub held-id : (c : CommitView) → IsCommitHeld known id c → commit_id c ≡ id
  unfolding commit_id
  held-id c held =
      let of = found known id held.object are held.is_held in
      sym (of.id_is ∙ of.of_content ∙ (λ i. object_id (held.kind i) (held.text.1 i)))
