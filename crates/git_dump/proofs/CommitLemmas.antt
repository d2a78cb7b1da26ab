-- The objects of a commit that is held, and commits one by one.
use Rattle.std.proofs.Common.{◌≡◌, ◌+◌, ◌<◌, ℕ, zero, suc, get_or, arith, Bool, true, false, List, [], ◌∷◌, ◌++◌, codes, length, map, take, drop, Some, None, refl, sym, ap, subst, ◌∙◌, append-nil}
use Rattle.std.specs.Prelude.{slice_get, if◌then◌else◌}
use Rattle.std.proofs.lemmas.List.Concat.{flat_map-append}
use Rattle.text_model.specs.Lists.{Each}
use Rattle.text_model.specs.Text.{Bytes}
use Rattle.text_model.specs.Id.{Id, IsId, ObjectKind, commit, tree, same_kind, object_id, hex}
use Rattle.git_model.specs.Commit.{Commit, commit_text}
use Rattle.git_model.specs.Object.{Object, object_of}
use Rattle.git_model.specs.Shape.{leaf_of, shape_objects}
use Rattle.git_model.specs.Tree.{is_blob_mode}
use Rattle.git_model.specs.Unfold.{FileRow, met_rows, tree_rows}
use Rattle.git_model.proofs.CommitLemmas.{id_line-lacks, commit_text-lines}
use Rattle.git_model.proofs.OneTextLemmas.{same_cut, same_id}
use Rattle.text_model.proofs.Options.{none_some, some_is}
use Rattle.git_store.specs.Known.{AreKnown, content_of, content_at, IsCommitAt}
use Rattle.tree_shape.proofs.Again.{root-tree, same-rows, one-row}
use Rattle.tree_shape.proofs.AnyOrder.{leaf_with, objects-any_order}
use Rattle.tree_shape.proofs.Rebuilding.{walk-leaves}
use Rattle.view_model.specs.View.{CommitView, TreeRow, leaf_of_row, commit_objects}
use Rattle.view_model.specs.Held.{file_row_of, IsRowHeld, AreCommitsHeld}
use Rattle.view_model.specs.Dump.{objects_in}
use Rattle.git_view.proofs.Found.{found, some-tree}
use Rattle.git_view.proofs.Held.{commit-at}
use Rattle.git_view.proofs.Rows as rows
use Rattle.git_view.proofs.Shapes.{filled}
use Rattle.git_dump.specs.Commits.{IsWalkableCommit, AreWalkableCommits}
use Rattle.git_dump.specs.Walks.{object_list, objects_at, walk_objects, IsWalkable, IsClosed}
use Rattle.git_dump.specs.Visits.{Met, Visited}
use Rattle.git_dump.proofs.Objects.{root-walkable, root-objects}
use Rattle.git_dump.proofs.VisitLemmas.{visited-append}
use Rattle.git_dump.proofs.WalkLemmas.{no-tree, closed-other}

module _ (known : List Object) (are : AreKnown known) (id : Id) where
  module _ (c : CommitView) (is : IsWalkableCommit known id c) where
    -- ---- the objects

    -- the content of a row by its mode and id
    abbrev full_content : FileRow → Bytes
    full_content row = rows.content_for known row.mode row.id

    row-content : (row : TreeRow) → IsRowHeld known row → row.content ≡ rows.content_for known row.mode row.id
    row-content row h = by (is_blob_mode row.mode) refl
      where
        by : (t : Bool) → is_blob_mode row.mode ≡ t → row.content ≡ rows.content_by t known row.id
        by true t = let b = h.blob t in sym b.2 ∙ sym (ap rows.content_of b.1)
        by false t = h.none t

    leaves-full : (rs : List TreeRow) → Each (IsRowHeld known) rs → map leaf_of_row rs ≡ map (leaf_with full_content) (map file_row_of rs)
    leaves-full [] h = refl
    leaves-full (row ∷ rs) h = (λ i. record { names = (leaf_of_row row).names; mode = row.mode; id = row.id; content = row-content row h.0 i } ∷ leaves-full rs h.1 i)

    leaves-filled : (rs : List FileRow) → map (leaf_with full_content) rs ≡ map (filled (rows.content_for known)) (map leaf_of rs)
    leaves-filled [] = refl
    leaves-filled (row ∷ rs) = (λ i. leaf_with full_content row ∷ leaves-filled rs i)

    tree-objects : shape_objects 257 (map leaf_of_row c.rows) ≡ walk_objects known 257 (c.value).tree_id
    tree-objects =
        let root : Id = (c.value).tree_id in
        ap (shape_objects 257) (leaves-full c.rows is.0.blobs ∙ ap (map (leaf_with full_content)) (rows.rows-are known id c are.are is.0 is.1))
        ∙ objects-any_order full_content (tree_rows known root) (met_rows known root) (same-rows known are.are root) (one-row known are.are root)
        ∙ ap (shape_objects 257) (leaves-filled (met_rows known root) ∙ ap (map (filled (rows.content_for known))) (walk-leaves known root are.are))
        ∙ root-objects known are.are root is.1

    own-object : object_of commit (commit_text c.value) ∷ [] ≡ objects_at known id
    own-object =
        let of = found known id is.0.object are is.0.is_held in
        sym (ap object_list is.0.is_held ∙ (λ i. record { id = (of.of_content ∙ (λ k. object_id (is.0.kind k) (is.0.text.1 k))) i; kind = is.0.kind i; content = is.0.text.1 i } ∷ []))

    pub objects-of : commit_objects c ≡ walk_objects known 257 (c.value).tree_id ++ objects_at known id
    unfolding commit_objects
    objects-of = (λ i. tree-objects i ++ own-object i)

    -- ---- the tree

    tree-id : IsId (c.value).tree_id
    tree-id =
        let t = root-tree known are.are (c.value).tree_id is.1 in
        let o = some-tree known (c.value).tree_id t.0 t.1 in
        let of = found known (c.value).tree_id o.0 are o.1 in
        subst IsId (sym of.id_is) of.sound.id

    pub tree-is : (v : Commit) → IsCommitAt known id v → v.tree_id ≡ (c.value).tree_id
    tree-is v at =
        let of = commit-at known id at.content at.held in
        let object : of.object ≡ is.0.object = some_is {x = of.object} {y = is.0.object} (sym of.at ∙ is.0.is_held) in
        let text : commit_text v ≡ commit_text c.value = sym at.is.1 ∙ sym of.content_is ∙ ap (λ (o : Object). o.content) object ∙ is.0.text.1 in
        let cut = same_cut (codes "tree " ++ hex v.tree_id) _ (codes "tree " ++ hex (c.value).tree_id) _ (id_line-lacks (codes "tree ") v.tree_id refl at.is.0.tree_id) (id_line-lacks (codes "tree ") (c.value).tree_id refl tree-id)
        (sym (commit_text-lines v) ∙ text ∙ commit_text-lines c.value) in
        same_id (codes "tree ") v.tree_id (c.value).tree_id at.is.0.tree_id tree-id cut.front_is

    pub is-there : content_at commit known id ≡ None → ⊥
    is-there none =
        let there : content_at commit known id ≡ Some is.0.object.content =
        ap (content_of commit) is.0.is_held ∙ ap (λ (k : ObjectKind). if same_kind k commit then Some is.0.object.content else None) is.0.kind in
        none_some {x = is.0.object.content} (sym none ∙ there)

    pub own-closed : (a b : Met) → IsClosed known a.met → Visited (objects_at known id) a b → IsClosed known b.met
    own-closed a b closed v = closed-other known id a b closed v (no-tree known id is.0.object is.0.is_held (ap (λ k. same_kind k tree) is.0.kind))

    pub tree-walkable : IsWalkable known 257 (c.value).tree_id
    tree-walkable = root-walkable known are.are (c.value).tree_id is.1

-- ---- commits one by one

-- the commit of the id at a place
pub record CommitAtPlace (known : List Object) (id : Id) (cs : List CommitView) (i : ℕ) : Type 0 where
  pub view : CommitView
  pub is : IsWalkableCommit known id view
  pub at_place : slice_get cs i ≡ Some view

pub commit-at_place : (known : List Object) (ids : List Id) (cs : List CommitView) → AreWalkableCommits known ids cs → (i : ℕ) (id d : Id) → i < length ids → id ≡ get_or ids i d → CommitAtPlace known id cs i
commit-at_place known [] [] are i id d below is = absurd (omega (arith, below))
commit-at_place known [] (c ∷ cs) are i id d below is = absurd are.0
commit-at_place known (n ∷ ids) [] are i id d below is = absurd are.0
commit-at_place known (n ∷ ids) (c ∷ cs) are zero id d below is = record { view = c; is = subst (λ (x : Id). IsWalkableCommit known x c) (sym is) (are.0.0, are.1.0); at_place = refl }
commit-at_place known (n ∷ ids) (c ∷ cs) are (suc i) id d below is =
    let at = commit-at_place known ids cs (are.0.1, are.1.1) i id d (omega (arith, below)) is in
    record { view = at.view; is = at.is; at_place = at.at_place }

pub commits-length : (known : List Object) (ids : List Id) (cs : List CommitView) → AreCommitsHeld known ids cs → length cs ≡ length ids
commits-length known [] [] are = refl
commits-length known [] (c ∷ cs) are = absurd are
commits-length known (id ∷ ids) [] are = absurd are
commits-length known (id ∷ ids) (c ∷ cs) are = ap suc (commits-length known ids cs are.1)

pub commits-take : (known : List Object) (ids : List Id) (cs : List CommitView) (n : ℕ) → AreWalkableCommits known ids cs → AreWalkableCommits known (take n ids) (take n cs)
commits-take known ids cs zero are = (tt, tt)
commits-take known [] [] (suc n) are = (tt, tt)
commits-take known [] (c ∷ cs) (suc n) are = absurd are.0
commits-take known (id ∷ ids) [] (suc n) are = absurd are.0
commits-take known (id ∷ ids) (c ∷ cs) (suc n) are = let rest = commits-take known ids cs n (are.0.1, are.1.1) in ((are.0.0, rest.0), (are.1.0, rest.1))

pub commits-drop : (known : List Object) (ids : List Id) (cs : List CommitView) (n : ℕ) → AreWalkableCommits known ids cs → AreWalkableCommits known (drop n ids) (drop n cs)
commits-drop known ids cs zero are = are
commits-drop known [] [] (suc n) are = (tt, tt)
commits-drop known [] (c ∷ cs) (suc n) are = absurd are.0
commits-drop known (id ∷ ids) [] (suc n) are = absurd are.0
commits-drop known (id ∷ ids) (c ∷ cs) (suc n) are = commits-drop known ids cs n (are.0.1, are.1.1)

take-push : (cs : List CommitView) (i : ℕ) (c : CommitView) → slice_get cs i ≡ Some c → take (i + 1) cs ≡ take i cs ++ c ∷ []
take-push [] i c h = absurd (none_some {x = c} h)
take-push (d ∷ cs) zero c h = ap (λ (x : CommitView). x ∷ []) (some_is {x = d} {y = c} h)
take-push (d ∷ cs) (suc i) c h = let e : suc i + 1 ≡ suc (i + 1) = omega arith in rw e (ap (λ (l : List CommitView). d ∷ l) (take-push cs i c h))

pub visited-push : (cs : List CommitView) (i : ℕ) (c : CommitView) (a b d : Met) → slice_get cs i ≡ Some c → Visited (objects_in (take i cs)) a b → Visited (commit_objects c) b d → Visited (objects_in (take (i + 1) cs)) a d
visited-push cs i c a b d at v w =
    subst (λ (os : List Object). Visited os a d)
    (sym (ap objects_in (take-push cs i c at) ∙ flat_map-append commit_objects (take i cs) (c ∷ []) ∙ ap (λ (l : List Object). objects_in (take i cs) ++ l) (append-nil (commit_objects c))))
    (visited-append (objects_in (take i cs)) (commit_objects c) a b d v w)
