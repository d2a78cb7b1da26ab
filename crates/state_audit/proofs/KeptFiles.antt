-- Where all trees of a draft's files are stored, a stored commit with its text has these files.
use Rattle.std.proofs.Common.{◌≡◌, ◌⊎◌, ◌&&◌, Bool, true, false, true≢false, List, [], ◌∷◌, ◌++◌, map, Option, Some, None, refl, sym, ap, subst, ◌∙◌, inl, inr}
use Rattle.std.specs.Prelude.{option_map, bytes_eq}
use Rattle.std.specs.List.{list_all}
use Rattle.std.proofs.lemmas.Slice.Eq.{bytes_eq-Decides}
use Rattle.text_model.specs.Lists.{Each, In}
use Rattle.text_model.specs.Text.{Bytes}
use Rattle.text_model.specs.Id.{Id, ObjectKind, same_kind}
use Rattle.text_model.proofs.EachLemmas.{Each-weaker}
use Rattle.text_model.proofs.Elements.{each_in, each_from}
use Rattle.text_model.proofs.TestLemmas.{both}
use Rattle.git_model.specs.Commit.{Commit}
use Rattle.git_model.specs.Object.{Object, object_at}
use Rattle.git_model.specs.Unfold.{FileRow, walk_fault, met_rows, tree_rows, by_walk, by_paths, is_met_before}
use Rattle.git_model.specs.Shape.{Leaf, leaf_of, root_of, trees_of}
use Rattle.git_model.proofs.SortLemmas.{of-order}
use Rattle.git_store.specs.Known.{AreKnown, is_same_as, knows_same}
use Rattle.git_store.proofs.KnownLemmas.{same_kind-is}
use Rattle.git_store.proofs.Places.{found-one}
use Rattle.git_view.proofs.Found.{found-id}
use Rattle.git_view.proofs.Unfoldings.{one-unfolding}
use Rattle.git_view.proofs.Walks.{none-refused}
use Rattle.tree_shape.specs.Laws.{IsKnown}
use Rattle.tree_shape.specs.Sets.{IsFileRow, IsFiles}
use Rattle.tree_shape.specs.Shapes.{id_of_rows, trees_of_rows}
use Rattle.tree_shape.proofs.Elements.{in-append}
use Rattle.tree_shape.proofs.Growing.{IsDeep, growing}
use Rattle.tree_shape.proofs.Names.{same-components}
use Rattle.tree_shape.proofs.Rebuilding.{walk-leaves}
use Rattle.tree_shape.proofs.Unfolding.{fit-short, unfolds}
use Rattle.tree_shape.proofs.WalkOrder.{walk-good, walk-back, shorts-none, root-is, trees-is}
use Rattle.view_model.specs.View.{CommitView}
use Rattle.view_model.specs.Held.{file_row_of, IsCommitHeld}
use Rattle.pair_known.specs.declared.git_draft.GitDraft.{GitDraft}
use Rattle.pair_known.specs.Ruled.{IsMadeCommit}
use Rattle.pair_state.proofs.CommitParts as parts

-- rows are known by their leaves
same-rows : (rs ss : List FileRow) → map leaf_of rs ≡ map leaf_of ss → rs ≡ ss
same-rows [] [] h = refl
same-rows [] (s ∷ ss) h = absurd cc
same-rows (r ∷ rs) [] h = absurd cc
same-rows (r ∷ rs) (s ∷ ss) h =
    let head : leaf_of r ≡ leaf_of s = cc in
    let tail : map leaf_of rs ≡ map leaf_of ss = cc in
    let path = same-components r.path s.path (ap (λ (l : Leaf). l.names) head) in
    (λ k. record { path = path k; mode = (head k).mode; id = (head k).id } ∷ same-rows rs ss tail k)

-- ---- trees that are stored

-- the same of what is found as of its kind and its content
abbrev is_like : Object → Option (ObjectKind × Bytes) → Bool
is_like o None = false
is_like o (Some p) = same_kind o.kind p.0 && bytes_eq o.content p.1

like-same : (o : Object) (found : Option Object) → is_like o (option_map {U = ObjectKind × Bytes} (λ (h : Object). (h.kind, h.content)) found) ≡ is_same_as o found
like-same o None = refl
like-same o (Some h) = refl

module _ (known : List Object) (o : Object) where
  pub same-found : (kind : ObjectKind) (content text : Bytes) → text ≡ o.content → Some (kind, content) ≡ option_map {U = ObjectKind × Bytes} (λ (h : Object). (h.kind, h.content)) (object_at known o.id)
      → (same_kind o.kind kind && bytes_eq text content) ≡ knows_same known o
  same-found kind content text own at = ap (λ (t : Bytes). same_kind o.kind kind && bytes_eq t content) own ∙ ap (is_like o) at ∙ like-same o (object_at known o.id)

  pub same-none : None ≡ option_map {U = ObjectKind × Bytes} (λ (h : Object). (h.kind, h.content)) (object_at known o.id) → false ≡ knows_same known o
  same-none at = ap (is_like o) at ∙ like-same o (object_at known o.id)

same-there : (known : List Object) (o : Object) → knows_same known o ≡ true → IsKnown known o
same-there known o = by (object_at known o.id) refl
  where
    by : (found : Option Object) → object_at known o.id ≡ found → is_same_as o found ≡ true → object_at known o.id ≡ Some o
    by None at h = absurd (true≢false (sym h))
    by (Some x) at h =
        let parts = both (same_kind o.kind x.kind) (bytes_eq o.content x.content) h in
        let id = found-id known o.id x at in
        let kind = same_kind-is o.kind x.kind parts.0 in
        let content = (bytes_eq-Decides o.content x.content).0 parts.1 in
        at ∙ (λ k. Some (record { id = sym id k; kind = sym kind k; content = sym content k }))

all-there : (known os : List Object) → list_all (knows_same known) os ≡ true → Each (IsKnown known) os
all-there known [] h = tt
all-there known (o ∷ os) h =
    let parts = both (knows_same known o) (list_all (knows_same known) os) h in
    (same-there known o parts.0, all-there known os parts.1)

-- ---- the walk through them

module _ (known : List Object) (are : AreKnown known) (d : GitDraft) (c : CommitView) (made : IsMadeCommit known d c) (stored : list_all (knows_same known) d.trees ≡ true) where
  abbrev files : List FileRow
  files = map file_row_of c.rows

  abbrev walked : List FileRow
  walked = by_walk files

  is-files : IsFiles files
  is-files = parts.are-files c made.view

  each-walked : Each IsFileRow walked
  each-walked = each_from IsFileRow walked (λ r i. each_in IsFileRow files r is-files.each (of-order is_met_before r files i))

  trees-held : Each (IsKnown known) (trees_of files)
  trees-held = subst (λ (rows : List FileRow). Each (IsKnown known) (trees_of rows)) made.files (Each-weaker (λ o. In o (d.trees ++ known)) (IsKnown known) held (trees_of d.files) made.trees_held)
    where
      by : (o : Object) → In o d.trees ⊎ In o known → IsKnown known o
      by o (inl i) = each_in (IsKnown known) d.trees o (all-there known d.trees stored) i
      by o (inr i) = found-one known are.are.distinct o i

      held : (o : Object) → In o (d.trees ++ known) → IsKnown known o
      held o i = by o (in-append o d.trees known i)

  met : met_rows known (root_of files) ≡ walked
  met =
      let root : root_of files ≡ id_of_rows 257 walked = sym (ap (id_of_rows 257) (sym (shorts-none walked)) ∙ root-is files is-files) in
      let held : Each (IsKnown known) (trees_of_rows 257 walked) = subst (Each (IsKnown known)) (sym (ap (trees_of_rows 257) (sym (shorts-none walked)) ∙ trees-is files is-files)) trees-held in
      let deep = Each-weaker IsFileRow (IsDeep 256) (λ r is. fit-short r.path is.fit) walked each-walked in
      ap (met_rows known) root
      ∙ same-rows (met_rows known (id_of_rows 257 walked)) walked
      (walk-leaves known (id_of_rows 257 walked) are.are ∙ (growing known 256).leaves_are walked (walk-good files is-files (parts.no-clash c made.view)) each-walked deep held)

  walk-is : tree_rows known (c.value).tree_id ≡ files
  walk-is = ap (tree_rows known) (parts.root-is c made.view) ∙ ap by_paths met ∙ walk-back files is-files (parts.no-clash c made.view)

  pub kept-files : (id : Id) (e : CommitView) → IsCommitHeld known id e → walk_fault known (e.value).tree_id ≡ None → e.value ≡ c.value → map file_row_of e.rows ≡ map file_row_of c.rows
  kept-files id e held walk same =
      let root = (e.value).tree_id in
      one-unfolding known root (map file_row_of e.rows) (tree_rows known root) held.rows (unfolds known root are.are (none-refused known are.are root walk))
      ∙ ap (λ (v : Commit). tree_rows known v.tree_id) same ∙ walk-is
