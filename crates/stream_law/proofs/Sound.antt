-- The objects of a commit that is a view have the ids of their kinds and contents, and contents without a fault.
use Rattle.std.proofs.Common.{◌≡◌, ◌≤◌, ◌<◌, ◌==◌, inl, inr, ℕ, zero, suc, Bool, true, false, true≢false, List, [], ◌∷◌, length, map, Option, Some, None, refl, sym, ap, subst, arith}
use Rattle.std.specs.Prelude.{if◌then◌else◌, nat_lt}
use Rattle.std.specs.List.{flat_map}
use Rattle.std.proofs.lemmas.Bool.Decides.{nat_tests}
use Rattle.text_model.specs.Lists.{Each, In}
use Rattle.text_model.specs.Limits.{parent_limit}
use Rattle.text_model.specs.Text.{Bytes, IsBytes}
use Rattle.text_model.specs.Id.{Id, IsId, blob, object_id}
use Rattle.text_model.specs.Path.{is_fit_name}
use Rattle.text_model.proofs.Elements.{each_in}
use Rattle.git_model.specs.Tree.{Mode, File, GroupFile, Exec, Link, Directory, Gitlink, is_directory, is_blob_mode, TreeEntry}
use Rattle.git_model.specs.Commit.{commit_text, commit_fault, parent_ids}
use Rattle.git_model.specs.Object.{Object, tree_name, content_fault}
use Rattle.git_model.specs.Shape.{Leaf, leaves_below, is_named, leaf_named, leaf_object, shape_entries, shape_objects, shape_depth}
use Rattle.git_model.proofs.CommitLemmas.{commit_fault-text, parent_ids-text}
use Rattle.view_model.specs.View.{CommitView, IsCommitView, IsRowId, leaf_of_row, commit_objects}
use Rattle.view_model.specs.Dump.{objects_in}
use Rattle.dump_law.proofs.Elements.{of-map}
use Rattle.dump_law.proofs.Rows.{IsGoodRow, no_part_with, row_id}
use Rattle.dump_law.proofs.Streams.{AreRows, shapes_of, own, commit_split, of_append, of_flat}
use Rattle.dump_law.proofs.Trees.{of_below, found_is, under}
use Rattle.stream_law.proofs.Names.{fit-components}
use Rattle.stream_law.proofs.Trees.{AreFit, fit-below, no-tree_fault}

-- the id is that of kind and content, and the content has no fault
abbrev pub IsSound : Object → Type 0
IsSound o = (o.id ≡ object_id o.kind o.content) × (content_fault o.kind o.content ≡ None)

-- ---- blobs

blob-id : (mode : Mode) (id : Id) (content : Bytes) → IsRowId mode id content → is_blob_mode mode ≡ true → id ≡ object_id blob content
blob-id File id content h b = h
blob-id GroupFile id content h b = h
blob-id Exec id content h b = h
blob-id Link id content h b = h
blob-id Directory id content h b = absurd (true≢false (sym b))
blob-id Gitlink id content h b = absurd (true≢false (sym b))

leaf-sound : (L : List Leaf) (name : Bytes) (o : Object) → AreRows L → In o (leaf_object (leaf_named name L)) → IsSound o
leaf-sound L name o rows i = by (leaf_named name L) refl i
  where
    by : (u : Option Leaf) → leaf_named name L ≡ u → In o (leaf_object u) → IsSound o
    by None e j = absurd j
    by (Some l) e j = at (is_blob_mode l.mode) refl
      where
        at : (t : Bool) → is_blob_mode l.mode ≡ t → IsSound o
        at false f = absurd (rw f at j)
        at true f =
            let r = found_is (λ leaf. is_named name leaf.names) l L e in
            elim (rw f at j) [
              | inl q ↦ subst IsSound (sym q) (blob-id l.mode l.id l.content (rows l r.0) f, refl)
              | inr k ↦ absurd k
            ]

-- ---- trees

shapes-sound : (n : ℕ) (L : List Leaf) → AreRows L → AreFit L → (o : Object) → In o (shape_objects n L) → IsSound o
unfolding shape_objects
shapes-sound zero L rows fit o i = absurd i
shapes-sound (suc d) L rows fit o i =
    elim (of_append o (flat_map (λ e. if is_directory e.mode then shape_objects d (leaves_below e.name L) else leaf_object (leaf_named e.name L)) (shape_entries (suc d) L)) _ i) [
      | inl j ↦ (let r = of_flat (λ (e : TreeEntry). if is_directory e.mode then shape_objects d (leaves_below e.name L) else leaf_object (leaf_named e.name L)) o (shape_entries (suc d) L) j in
          by r.0 r.2 (λ k. shapes-sound d (leaves_below (r.0).name L) (λ l m. rows (under (r.0).name l) (of_below (r.0).name L l m).there) (fit-below (r.0).name L fit) o k))
      | inr (inl q) ↦ subst IsSound (sym q) (refl, ap tree_name (no-tree_fault d L fit))
      | inr (inr k) ↦ absurd k
    ]
  where
    by : (e : TreeEntry) → In o (if is_directory e.mode then shape_objects d (leaves_below e.name L) else leaf_object (leaf_named e.name L))
        → (In o (shape_objects d (leaves_below e.name L)) → IsSound o) → IsSound o
    by e k deeper = at (is_directory e.mode) refl
      where
        at : (t : Bool) → is_directory e.mode ≡ t → IsSound o
        at true f = deeper (rw f at k)
        at false f = leaf-sound L e.name o rows (rw f at k)

-- ---- the commit

own-sound : (c : CommitView) → IsCommitView c → IsSound (own c)
own-sound c v =
    let shape : commit_fault (commit_text c.value) ≡ None = commit_fault-text (commit_text c.value) c.value (v.value, refl) in
    let parents : parent_ids (commit_text c.value) ≡ (c.value).parents = parent_ids-text (commit_text c.value) c.value (v.value, refl) in
    let few : nat_lt parent_limit (length (c.value).parents) ≡ false = not-less (length (c.value).parents) v.few in
    (refl, rw (shape, parents, v.distinct, few) refl)
  where
    not-less : (n : ℕ) → n ≤ parent_limit → nat_lt parent_limit n ≡ false
    not-less n h = grind (arith, h, nat_tests)

-- ---- the whole

both-parts : (P Q : Bytes → Type 0) (names : List Bytes) → Each P names → Each Q names → Each (λ name. P name × Q name) names
both-parts P Q [] p q = tt
both-parts P Q (name ∷ names) p q = ((p.0, q.0), both-parts P Q names p.1 q.1)

leaves-fit : (c : CommitView) → IsCommitView c → AreFit (map leaf_of_row c.rows)
leaves-fit c v = record {
  names = λ l i.
      let r = of-map leaf_of_row l c.rows i in
      let row = each_in IsGoodRow c.rows r.0 v.rows r.1 in
      let names = (leaf_of_row r.0).names in
      subst (λ (x : Leaf). Each (λ name. (is_fit_name name ≡ true) × IsBytes name) x.names) (sym r.2)
      (both-parts (λ name. is_fit_name name ≡ true) IsBytes names (fit-components r.0.path row.0) (no_part_with (λ b. b < 256) (λ b. b == 47) r.0.path row.1));
  ids = λ l i.
      let r = of-map leaf_of_row l c.rows i in
      let row = each_in IsGoodRow c.rows r.0 v.rows r.1 in
      subst (λ (x : Leaf). IsId x.id) (sym r.2) (row_id r.0.mode r.0.id r.0.content row.3);
}

commit-sound : (c : CommitView) → IsCommitView c → (o : Object) → In o (commit_objects c) → IsSound o
commit-sound c v o i = elim (of_append o (shapes_of c) (own c ∷ []) (subst (λ (l : List Object). In o l) (commit_split c) i)) [
  | inl j ↦ shapes-sound shape_depth (map leaf_of_row c.rows) rows (leaves-fit c v) o j
  | inr (inl q) ↦ subst IsSound (sym q) (own-sound c v)
  | inr (inr k) ↦ absurd k
]
  where
    rows : AreRows (map leaf_of_row c.rows)
    rows l j =
        let r = of-map leaf_of_row l c.rows j in
        subst (λ (x : Leaf). IsRowId x.mode x.id x.content) (sym r.2) (each_in IsGoodRow c.rows r.0 v.rows r.1).3

pub objects-sound : (cs : List CommitView) → Each IsCommitView cs → (o : Object) → In o (objects_in cs) → IsSound o
objects-sound cs vs o i = let r = of_flat commit_objects o cs i in commit-sound r.0 (each_in IsCommitView cs r.0 vs r.1) o r.2
