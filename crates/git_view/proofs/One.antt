-- An id has one held commit.
use Rattle.std.proofs.Common.{◌≡◌, Bool, true, false, List, [], ◌∷◌, map, refl, sym, ap, subst, ◌∙◌}
use Rattle.text_model.specs.Lists.{Each}
use Rattle.text_model.specs.Id.{Id}
use Rattle.git_model.specs.Commit.{Commit}
use Rattle.git_model.specs.Tree.{is_blob_mode}
use Rattle.git_model.specs.Object.{Object, object_at}
use Rattle.git_model.specs.Unfold.{FileRow, IsUnfolding}
use Rattle.git_model.proofs.OneTextLemmas.{one_commit}
use Rattle.text_model.proofs.Options.{some_is}
use Rattle.view_model.specs.View.{CommitView, TreeRow}
use Rattle.view_model.specs.Held.{file_row_of, IsRowHeld, IsCommitHeld}
use Rattle.git_view.proofs.Unfoldings.{one-unfolding}

module _ (known : List Object) where
  one-row : (a b : TreeRow) → file_row_of a ≡ file_row_of b → IsRowHeld known a → IsRowHeld known b → a ≡ b
  one-row a b same x y = (λ i. record { path = (same i).path; mode = (same i).mode; id = (same i).id; content = by (is_blob_mode a.mode) refl i })
    where
      mode : is_blob_mode b.mode ≡ is_blob_mode a.mode
      mode = ap (λ (r : FileRow). is_blob_mode r.mode) (sym same)

      by : (t : Bool) → is_blob_mode a.mode ≡ t → a.content ≡ b.content
      by false t = x.none t ∙ sym (y.none (mode ∙ t))
      by true t =
          let u = x.blob t in
          let v = y.blob (mode ∙ t) in
          let object : u.0 ≡ v.0 = some_is {x = u.0} {y = v.0} (sym u.1 ∙ ap (λ (r : FileRow). object_at known r.id) same ∙ v.1) in
          sym u.2 ∙ ap (λ (o : Object). o.content) object ∙ v.2

  one-rows : (xs ys : List TreeRow) → map file_row_of xs ≡ map file_row_of ys → Each (IsRowHeld known) xs → Each (IsRowHeld known) ys → xs ≡ ys
  one-rows [] [] e x y = refl
  one-rows [] (b ∷ ys) e x y = absurd cc
  one-rows (a ∷ xs) [] e x y = absurd cc
  one-rows (a ∷ xs) (b ∷ ys) e x y =
      let first : file_row_of a ≡ file_row_of b = heads e in
      let more : map file_row_of xs ≡ map file_row_of ys = tails e in
      (λ i. one-row a b first x.0 y.0 i ∷ one-rows xs ys more x.1 y.1 i)
    where
      heads : {X : Type 0} {u v : X} {us vs : List X} → u ∷ us ≡ v ∷ vs → u ≡ v
      heads h = cc

      tails : {X : Type 0} {u v : X} {us vs : List X} → u ∷ us ≡ v ∷ vs → us ≡ vs
      tails h = cc

  pub one-held : (id : Id) (c d : CommitView) → IsCommitHeld known id c → IsCommitHeld known id d → c ≡ d
  one-held id c d x y =
      let object : x.object ≡ y.object = some_is {x = x.object} {y = y.object} (sym x.is_held ∙ y.is_held) in
      let value : c.value ≡ d.value = one_commit x.object.content c.value d.value x.text (y.text.0, ap (λ (o : Object). o.content) object ∙ y.text.1) in
      let rows : map file_row_of c.rows ≡ map file_row_of d.rows =
      one-unfolding known (c.value).tree_id (map file_row_of c.rows) (map file_row_of d.rows) x.rows (subst (λ (v : Commit). IsUnfolding known v.tree_id (map file_row_of d.rows)) (sym value) y.rows) in
      (λ i. record { value = value i; rows = one-rows c.rows d.rows rows x.blobs y.blobs i })
