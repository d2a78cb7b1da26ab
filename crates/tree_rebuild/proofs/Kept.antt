-- A tree that is held, where its rows are those of a directory, is that of the directory.
use Rattle.std.proofs.Common.{◌≡◌, ◌<◌, ◌-◌, ℕ, zero, suc, Bool, true, false, List, [], ◌∷◌, ◌++◌, length, drop, get_or, map, Some, None, refl, sym, ap, subst, ◌∙◌, append_assoc, inl, inr, arith}
use Rattle.std.specs.Prelude.{filter, if◌then◌else◌, slice_get, bytes_eq}
use Rattle.std.specs.List.{flat_map}
use Rattle.std.proofs.lemmas.List.{append-nil}
use Rattle.text_model.specs.Lists.{In, Each}
use Rattle.text_model.specs.Text.{Bytes}
use Rattle.text_model.specs.Id.{Id, tree, object_id}
use Rattle.text_model.proofs.EachLemmas.{Each-append}
use Rattle.git_model.specs.Tree.{is_directory, TreeEntry, tree_text}
use Rattle.git_model.specs.Object.{Object, object_of, object_at, tree_at, AreObjects}
use Rattle.git_model.specs.Unfold.{FileRow, has_no_entries}
use Rattle.git_model.specs.Shape.{Leaf, leaf_of, shape_entries, shape_objects}
use Rattle.text_model.proofs.Options.{some_is}
use Rattle.text_model.proofs.Elements.{in_left, in_right, each_in, each_from}
use Rattle.tree_shape.specs.Laws.{IsKnown}
use Rattle.tree_shape.specs.Shapes.{Good, is_tree, entries_in, trees_in, id_of_rows, trees_of_rows, row_trees}
use Rattle.tree_shape.proofs.Sorted.{id-is, trees-are}
use Rattle.tree_shape.specs.Wholes.{entry_leaves, leaves_in, Below, Sound, tree_leaves, AreWhole}
use Rattle.tree_rebuild.specs.Added.{IsAdded}
use Rattle.tree_shape.proofs.Elements.{in-append}
use Rattle.tree_shape.proofs.Unfolding.{no-entries}
use Rattle.tree_shape.proofs.Held.{held}
use Rattle.tree_shape.proofs.Rebuilding.{leaves-some, sound-at, level}

pub at-in : {X : Type 0} (xs : List X) (i : ℕ) (x : X) → i < length xs → x ≡ get_or xs i x → In x xs
at-in [] i x h is = absurd (omega (arith, h))
at-in (y ∷ xs) zero x h is = inl is
at-in (y ∷ xs) (suc i) x h is = inr (at-in xs i x (omega (arith, h)) is)

pub built-are : (made trees : List Object) → made ≡ trees → Each (λ o. In o trees) made
built-are made trees h = subst (λ (os : List Object). Each (λ o. In o trees) os) (sym h) (each_from (λ o. In o trees) trees (λ o i. i))

pub built-held : (known made trees : List Object) → made ≡ trees → Each (λ o. In o (made ++ known)) trees
built-held known made trees h = subst (λ (os : List Object). Each (λ o. In o (os ++ known)) trees) (sym h) (each_from (λ o. In o (trees ++ known)) trees (λ o i. in_left o trees known i))

-- ---- an object that is known is among the objects

pub known-in : (known : List Object) (id : Id) (o : Object) → object_at known id ≡ Some o → In o known
known-in [] id o h = absurd cc
known-in (x ∷ known) id o h = by (bytes_eq id x.id) h (known-in known id o)
  where
    by : (t : Bool) → (if t then Some x else object_at known id) ≡ Some o → (object_at known id ≡ Some o → In o known) → In o (x ∷ known)
    by true h rec = inl (sym (some_is {x = x} {y = o} h))
    by false h rec = inr (rec h)

pub all-in : (known : List Object) (os : List Object) → Each (IsKnown known) os → Each (λ o. In o known) os
all-in known [] h = tt
all-in known (o ∷ os) h = (known-in known o.id o h.0, all-in known os h.1)

pub first-of : (rest : List FileRow) (row : FileRow) → Some row ≡ slice_get rest 0 → rest ≡ row ∷ drop 1 rest
first-of [] row h = absurd (none h)
  where
    none : Some row ≡ None → ⊥
    none q = cc
first-of (r ∷ rest) row h = let is : row ≡ r = some_is {x = row} {y = r} h in (λ k. sym is k ∷ rest)

-- ---- whole trees

pub whole-of : (known : List Object) (n : ℕ) (id : Id) (entries : List TreeEntry) → Sound known n id entries → AreWhole known n entries
whole-of known zero id entries s = absurd s
whole-of known (suc n) id entries s = let less : n ≡ suc n - 1 = omega arith in subst (λ (k : ℕ). Each (Below (Sound known k)) entries) less s.1

pub below-sound : (known : List Object) (levels : ℕ) (old : List TreeEntry) (e : TreeEntry) (subtree : List TreeEntry) → AreWhole known levels old → In e old → is_directory e.mode ≡ true → tree_at known e.id ≡ Some subtree
    → Sound known (levels - 1) e.id subtree
below-sound known levels old e subtree w i d at =
    let s = each_in (Below (Sound known (levels - 1))) old e w i d in
    let same : s.0 ≡ subtree = some_is {x = s.0} {y = subtree} (sym (sound-at known (levels - 1) e.id s.0 s.1) ∙ at) in
    subst (Sound known (levels - 1) e.id) same s.1

pub sound-leaves : (known : List Object) (n : ℕ) (id : Id) (entries : List TreeEntry) → Sound known n id entries → leaves_in known n id ≡ tree_leaves known n entries
sound-leaves known zero id entries s = absurd s
sound-leaves known (suc n) id entries s = let less : n ≡ suc n - 1 = omega arith in leaves-some known n id entries s.0 ∙ ap (λ (k : ℕ). flat_map (entry_leaves known (leaves_in known k)) entries) less

-- the tree that is held has the id of the rows, and their trees are held
pub record IsKept (known : List Object) (levels : ℕ) (id : Id) (rows : List FileRow) : Type 0 where
  pub is : id ≡ id_of_rows levels rows
  pub held : Each (λ o. In o known) (trees_of_rows levels rows)

pub kept-tree : (known : List Object) (levels : ℕ) (id : Id) (entries : List TreeEntry) (rows : List FileRow) → AreObjects known → Sound known levels id entries → tree_leaves known levels entries ≡ map leaf_of rows
    → IsKept known levels id rows
kept-tree known levels id entries rows are s same =
    let leaves : leaves_in known levels id ≡ map leaf_of rows = sound-leaves known levels id entries s ∙ same in
    record {
      is = (held known id entries are (sound-at known levels id entries s)).is_id ∙ ap (λ (es : List TreeEntry). object_id tree (tree_text es)) (sym ((level known are levels).shape id entries s))
          ∙ ap (λ (l : List Leaf). object_id tree (tree_text (shape_entries levels l))) leaves;
      held = all-in known (trees_of_rows levels rows) (subst (λ (l : List Leaf). Each (IsKnown known) (filter is_tree (shape_objects levels l))) leaves ((level known are levels).objects id entries s));
    }

-- ---- trees that are added

pub added-none : (known made trees : List Object) → Each (λ o. In o known) trees → IsAdded known made made trees
added-none known made trees h = record { added = []; is = sym (append-nil made); are = tt; held = h }

pub added-all : (known made new trees : List Object) → new ≡ made ++ trees → IsAdded known made new trees
added-all known made new trees is = record { added = trees; is = is; are = each_from (λ o. In o trees) trees (λ o i. i); held = each_from (λ o. In o (trees ++ known)) trees (λ o i. in_left o trees known i) }

pub added-more : (known a b c first second : List Object) → IsAdded known a b first → IsAdded known b c second → IsAdded known a c (first ++ second)
added-more known a b c first second f s = record {
  added = f.added ++ s.added;
  is = s.is ∙ ap (λ (os : List Object). os ++ s.added) f.is ∙ append_assoc a f.added s.added;
  are = Each-append (λ o. In o (first ++ second)) f.added s.added
      (each_from (λ o. In o (first ++ second)) f.added (λ o i. in_left o first second (each_in (λ o. In o first) f.added o f.are i)))
      (each_from (λ o. In o (first ++ second)) s.added (λ o i. in_right o first second (each_in (λ o. In o second) s.added o s.are i)));
  held = Each-append (λ o. In o ((f.added ++ s.added) ++ known)) first second
      (each_from (λ o. In o ((f.added ++ s.added) ++ known)) first (λ o i. elim (in-append o f.added known (each_in (λ o. In o (f.added ++ known)) first o f.held i)) [
        | inl j ↦ in_left o (f.added ++ s.added) known (in_left o f.added s.added j)
        | inr k ↦ in_right o (f.added ++ s.added) known k
      ]))
      (each_from (λ o. In o ((f.added ++ s.added) ++ known)) second (λ o i. elim (in-append o s.added known (each_in (λ o. In o (s.added ++ known)) second o s.held i)) [
        | inl j ↦ in_left o (f.added ++ s.added) known (in_right o f.added s.added j)
        | inr k ↦ in_right o (f.added ++ s.added) known k
      ]));
}

pub added-are : (known made trees : List Object) → IsAdded known [] made trees → Each (λ o. In o trees) made
added-are known made trees a = subst (λ (os : List Object). Each (λ o. In o trees) os) (sym a.is) a.are

pub added-held : (known made trees : List Object) → IsAdded known [] made trees → Each (λ o. In o (made ++ known)) trees
added-held known made trees a = subst (λ (os : List Object). Each (λ o. In o (os ++ known)) trees) (sym a.is) a.held

-- with the trees of the rows that are left, all are there
pub record Added (known old new rest all : List Object) : Type 0 where
  pub done : List Object
  pub parts : done ++ rest ≡ all
  pub so_far : IsAdded known old new done

pub added-start : (known made all : List Object) → Added known made made all all
added-start known made all = record { done = []; parts = refl; so_far = added-none known made [] tt }

pub added-turn : (known old made new below before after all : List Object) → Added known old made before all → before ≡ below ++ after → IsAdded known made new below → Added known old new after all
added-turn known old made new below before after all a b n = record {
  done = a.done ++ below;
  parts = append_assoc a.done below after ∙ ap (λ (os : List Object). a.done ++ os) (sym b) ∙ a.parts;
  so_far = added-more known old made new a.done below a.so_far n;
}

-- a tree without entries that is held
no-rows : (known : List Object) (depth : ℕ) (id : Id) → AreObjects known → tree_at known id ≡ Some [] → Each (λ o. In o known) (filter is_tree (shape_objects depth []))
unfolding shape_objects shape_entries
no-rows known zero id are h = tt
no-rows known (suc depth) id are h = (known-in known _ _ (held known id [] are h).known_as, tt)

pub empty-held : (known : List Object) (depth : ℕ) (id : Id) (row : FileRow) → AreObjects known → has_no_entries (tree_at known id) ≡ true → Each (λ o. In o known) (row_trees depth row)
empty-held known depth id row are h = by (is_directory row.mode)
  where
    by : (t : Bool) → Each (λ o. In o known) (if t then trees_of_rows depth [] else [])
    by true = no-rows known depth id are (no-entries (tree_at known id) h)
    by false = tt

-- nothing is left, and the tree itself comes last
pub finish-over : (known : List Object) (depth : ℕ) (rows : List FileRow) (text : Bytes) (made old new : List Object) (id : Id) → Good rows → 0 < depth
    → text ≡ tree_text (entries_in (depth - 1) (map leaf_of rows)) → Added known old made [] (trees_in (depth - 1) (map leaf_of rows))
    → (id ≡ object_id tree text) × (new ≡ made ++ object_of tree text ∷ []) → (id ≡ id_of_rows depth rows) × IsAdded known old new (trees_of_rows depth rows)
finish-over known depth rows text made old new id good pos t a h =
    let up : suc (depth - 1) ≡ depth = omega (arith, pos) in
    let all : IsAdded known old made (trees_in (depth - 1) (map leaf_of rows)) = subst (IsAdded known old made) (sym (append-nil a.done) ∙ a.parts) a.so_far in
    subst (λ (d : ℕ). (id ≡ id_of_rows d rows) × IsAdded known old new (trees_of_rows d rows)) up (
      h.0 ∙ ap (object_id tree) t ∙ sym (id-is (depth - 1) rows good),
      subst (IsAdded known old new) (sym (trees-are (depth - 1) rows good))
          (added-more known old made new (trees_in (depth - 1) (map leaf_of rows)) (object_of tree (tree_text (entries_in (depth - 1) (map leaf_of rows))) ∷ []) all
          (added-all known made new (object_of tree (tree_text (entries_in (depth - 1) (map leaf_of rows))) ∷ []) (h.1 ∙ ap (λ (b : Bytes). made ++ object_of tree b ∷ []) t))),
    )
