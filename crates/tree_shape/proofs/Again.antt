-- A walk that nothing ends goes through whole trees, and its rows give them again.
use Rattle.std.proofs.Common.{◌≡◌, ◌-◌, ℕ, zero, suc, Bool, true, false, List, [], ◌∷◌, Option, Some, None, refl, sym, ap, subst, ◌∙◌, inl, inr, arith}
use Rattle.std.specs.Prelude.{filter, if◌then◌else◌}
use Rattle.text_model.proofs.Options.{none_some}
use Rattle.text_model.specs.Lists.{In, Each}
use Rattle.text_model.specs.Text.{Bytes}
use Rattle.text_model.specs.Id.{Id, tree, object_id}
use Rattle.text_model.specs.Path.{is_fit_path, is_fit_name}
use Rattle.text_model.proofs.Elements.{each_in, each_from}
use Rattle.git_model.specs.Tree.{is_directory, TreeEntry, tree_text}
use Rattle.git_model.specs.Object.{Object, tree_at, AreObjects}
use Rattle.git_model.specs.Unfold.{FileRow, WalkFault, joined_path, visits, visit_fault, first_visit_fault, is_object_there, is_row, walk, walk_fault, met_rows, tree_rows, is_path_below}
use Rattle.git_model.specs.Shape.{Leaf, shape_entries, shape_objects, root_of, trees_of}
use Rattle.git_model.proofs.ObjectLemmas.{tree_at-tree}
use Rattle.tree_shape.specs.Laws.{IsKnown, AreKnown}
use Rattle.tree_shape.specs.Shapes.{is_tree}
use Rattle.tree_shape.specs.Walks.{row_at, entry_visits, IsFront}
use Rattle.tree_shape.proofs.Elements.{in-flat}
use Rattle.tree_shape.proofs.FitLemmas.{fit-joined, front-deeper}
use Rattle.tree_shape.proofs.WalkLemmas.{next, step-none, fault-cons, no-root, walk-fault}
use Rattle.tree_shape.proofs.VisitLemmas.{fault_by, is_over, dir-tree}
use Rattle.tree_shape.proofs.Unfolding.{visits-suc, one-path}
use Rattle.tree_shape.specs.Orders.{Same}
use Rattle.tree_shape.proofs.AnyOrder.{OnePath, root-any_order, trees-any_order}
use Rattle.git_model.proofs.SortLemmas.{in-order, of-order}
use Rattle.tree_shape.proofs.Rows.{clash}
use Rattle.tree_shape.proofs.Held.{held}
use Rattle.tree_shape.specs.Wholes.{Sound}
use Rattle.tree_shape.proofs.Rebuilding.{walk-leaves, level}

-- ---- an entry that is not refused

pub record Fine (known : List Object) (v : FileRow) : Type 0 where
  pub fit : is_fit_path v.path ≡ true
  pub there : is_object_there known v ≡ true
  pub subtree : is_directory v.mode ≡ true → (entries : List TreeEntry) × (tree_at known v.id ≡ Some entries)

there-by : (fit held row over : Bool) → fault_by fit held row over ≡ None → (fit ≡ true) × (held ≡ true)
there-by true true row over h = (refl, refl)
there-by true false row over h = absurd cc
there-by false held row over h = absurd cc

pub fine : (known : List Object) (size : ℕ) (v : FileRow) → visit_fault known size v ≡ None → Fine known v
fine known size v h =
    let parts = there-by (is_fit_path v.path) (is_object_there known v) (is_row known v) (is_over size v) h in
    record { fit = parts.0; there = parts.1; subtree = λ d. dir-tree known v d parts.1 }

pub all-fine : (known : List Object) (size : ℕ) (vs : List FileRow) (v : FileRow) → first_visit_fault known size vs ≡ None → In v vs → Fine known v
all-fine known size [] v h i = absurd i
all-fine known size (w ∷ vs) v h i =
    let parts = step-none (visit_fault known size w) w.id (first_visit_fault known (next known size w) vs) (sym (fault-cons known size w vs) ∙ h) in
    elim i [
      | inl q ↦ subst (Fine known) (sym q) (fine known size w parts.0)
      | inr j ↦ all-fine known (next known size w) vs v parts.1 j
    ]

-- ---- trees of which no entry is refused are whole

module _ (known : List Object) (are : AreObjects known) where
  name-fit : (id : Id) (entries : List TreeEntry) (e : TreeEntry) → tree_at known id ≡ Some entries → In e entries → is_fit_name e.name ≡ true
  name-fit id entries e h i = (each_in _ entries e (tree_at-tree known id entries are h).0 i).0

  visited : (levels : ℕ) (path : Bytes) (id : Id) (entries : List TreeEntry) (e : TreeEntry) (v : FileRow) → tree_at known id ≡ Some entries → In e entries → In v (entry_visits known levels path e) → In v (visits known (suc levels) path id)
  visited levels path id entries e v h i j = subst (λ (vs : List FileRow). In v vs) (sym (visits-suc known levels path id entries h)) (in-flat (entry_visits known levels path) entries e v i j)

  pub sound : (levels : ℕ) (path : Bytes) (id : Id) (entries : List TreeEntry) → IsFront levels path → tree_at known id ≡ Some entries → ((v : FileRow) → In v (visits known (suc levels) path id) → Fine known v) → Sound known (suc levels) id entries
  sound zero path id entries front h all = (
    h,
    each_from _ entries (λ e i d.
        let f = all (row_at (joined_path path e.name) e) (visited zero path id entries e (row_at (joined_path path e.name) e) h i (inl refl)) in
        absurd (clash (sym f.fit ∙ fit-joined zero path e.name front (name-fit id entries e h i)))),
  )
  sound (suc levels) path id entries front h all = (
    h,
    each_from _ entries (λ e i d.
        let v : FileRow = row_at (joined_path path e.name) e in
        let f = all v (visited (suc levels) path id entries e v h i (inl refl)) in
        let s = f.subtree d in
        let less : suc levels - 1 ≡ levels = omega arith in
        let deep : IsFront levels (joined_path path e.name) = subst (λ (n : ℕ). IsFront n (joined_path path e.name)) less (front-deeper (suc levels) path e.name front (name-fit id entries e h i) (omega arith) f.fit) in (
          s.0,
          sound levels (joined_path path e.name) e.id s.0 deep s.1 (λ w j. all w (visited (suc levels) path id entries e w h i
              (inr (subst (λ (t : Bool). In w (if t then visits known (suc levels) (joined_path path e.name) e.id else [])) (sym d) j)))),
        )),
  )

  pub root-tree : (root : Id) → walk_fault known root ≡ None → (entries : List TreeEntry) × (tree_at known root ≡ Some entries)
  root-tree root h = by (tree_at known root) refl
    where
      by : (o : Option (List TreeEntry)) → tree_at known root ≡ o → (entries : List TreeEntry) × (tree_at known root ≡ Some entries)
      by None e = absurd (none_some {x = _} (sym h ∙ no-root known root e))
      by (Some entries) e = (entries, e)

  pub root-sound : (root : Id) (entries : List TreeEntry) → walk_fault known root ≡ None → tree_at known root ≡ Some entries → Sound known 257 root entries
  root-sound root entries h at = sound 256 [] root entries refl at (λ v i. all-fine known 0 (walk known root) v (sym (walk-fault known root entries at) ∙ h) i)

  pub same-rows : (root : Id) → Same (tree_rows known root) (met_rows known root)
  same-rows root = record { to = λ x i. of-order is_path_below x (met_rows known root) i; from = λ x i. in-order is_path_below x (met_rows known root) i }

  pub one-row : (root : Id) → OnePath (tree_rows known root)
  one-row root a b i j q = one-path known root are a b (of-order is_path_below a (met_rows known root) i) (of-order is_path_below b (met_rows known root) j) q

  met-again : (root : Id) → walk_fault known root ≡ None → root_of (met_rows known root) ≡ root
  unfolding root_of
  met-again root h =
      let t = root-tree root h in
      ap (λ (leaves : List Leaf). object_id tree (tree_text (shape_entries 257 leaves))) (walk-leaves known root are)
      ∙ ap (λ (es : List TreeEntry). object_id tree (tree_text es)) ((level known are 257).shape root t.0 (root-sound root t.0 h t.1))
      ∙ sym (held known root t.0 are t.1).is_id

  -- the root of the rows is the root of the walk
  pub root-again : (root : Id) → walk_fault known root ≡ None → root_of (tree_rows known root) ≡ root
  root-again root h = root-any_order (tree_rows known root) (met_rows known root) (same-rows root) (one-row root) ∙ met-again root h

  met-trees : (root : Id) → walk_fault known root ≡ None → AreKnown known (trees_of (met_rows known root))
  unfolding trees_of
  met-trees root h =
      let t = root-tree root h in
      subst (λ (leaves : List Leaf). Each (IsKnown known) (filter is_tree (shape_objects 257 leaves))) (sym (walk-leaves known root are))
      ((level known are 257).objects root t.0 (root-sound root t.0 h t.1))

  -- the trees of the rows are there
  pub trees-again : (root : Id) → walk_fault known root ≡ None → AreKnown known (trees_of (tree_rows known root))
  trees-again root h = subst (AreKnown known) (sym (trees-any_order (tree_rows known root) (met_rows known root) (same-rows root) (one-row root))) (met-trees root h)
