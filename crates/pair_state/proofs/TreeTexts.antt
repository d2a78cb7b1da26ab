-- The trees of files have the texts of trees.
use Rattle.std.proofs.Common.{◌≡◌, ◌≤◌, ℕ, zero, suc, Bool, true, false, List, [], ◌∷◌, ◌++◌, length, map, Option, Some, None, refl, sym, ap, subst, ◌∙◌, arith}
use Rattle.text_model.specs.Cuts.{cut_of}
use Rattle.text_model.specs.Lists.{Each}
use Rattle.text_model.specs.Text.{Bytes, IsBytes}
use Rattle.text_model.specs.Id.{tree}
use Rattle.text_model.specs.Path.{is_fit_path}
use Rattle.text_model.proofs.ByteLemmas.{IsBytes-front}
use Rattle.text_model.proofs.EachLemmas.{Each-append, Each-front, Each-rest}
use Rattle.text_model.proofs.LackLemmas.{has_byte-lacks}
use Rattle.text_model.proofs.Elements.{each_in, each_from}
use Rattle.text_model.proofs.Digests.{IsId-object_id}
use Rattle.git_model.specs.Tree.{is_directory, TreeEntry, IsTree, tree_text, has_distinct}
use Rattle.git_model.specs.Object.{Object, object_of, tree_name}
use Rattle.git_model.specs.Unfold.{FileRow, by_walk, is_met_before}
use Rattle.git_model.specs.Shape.{first_clash, trees_of}
use Rattle.git_model.proofs.TreeTextLemmas.{tree_fault-text}
use Rattle.tree_shape.specs.Sets.{IsFileRow, IsFiles}
use Rattle.tree_shape.specs.Shapes.{entries_in, trees_in, trees_of_rows, Good}
use Rattle.tree_shape.proofs.WalkOrder.{walk-good, walk-trees}
use Rattle.git_model.proofs.SortLemmas.{of-order}
use Rattle.tree_shape.proofs.FitPieces.{fit-pieces, fit-name}
use Rattle.tree_shape.proofs.PutRows.{entries-dir, trees-dir, entries-file, trees-file, trees-empty}
use Rattle.tree_shape.proofs.Rows.{deep, flat, in-is, Splits, file-one, dir-one, good-rest, good-front, shorter, shorter-good}
use Rattle.tree_shape.proofs.Sorted.{entries-rise, trees-are}
use Rattle.tree_shape.proofs.Turns.{none-depth}
use Rattle.git_store.specs.Growth.{IsRight}
use Rattle.tree_shape.proofs.Growing.{leaves, IsEntry, names, distinct-more, shorter-row, all-shorter, cut-group}

-- ---- trees

-- the object is a tree with these entries
abbrev IsTreeOf : Object → Type 0
IsTreeOf o = (entries : List TreeEntry) × IsTree entries × (o ≡ object_of tree (tree_text entries))

abbrev AreTrees : ℕ → Type 0
AreTrees depth = (rows : List FileRow) → Good rows → Each IsFileRow rows → Each IsTreeOf (trees_of_rows depth rows)

-- the entries of rows and the trees below them
record Part (depth : ℕ) (rows : List FileRow) : Type 0 where
  each : Each IsEntry (entries_in depth (leaves rows))
  distinct : has_distinct (names (entries_in depth (leaves rows))) ≡ true
  trees : Each IsTreeOf (trees_in depth (leaves rows))

file-part : (depth : ℕ) → AreTrees depth → (a : FileRow) (rows : List FileRow) → Good (a ∷ rows) → IsFileRow a → cut_of 47 a.path ≡ None → Part depth rows → Part depth (a ∷ rows)
file-part depth level a rows g f e p =
    let fl = flat a.path e in
    let entry : TreeEntry = record { mode = a.mode; name = a.path; id = a.id } in
    let same = entries-file depth a rows g e in
    record {
      each = subst (Each IsEntry) (sym same) ((fit-name a.path f.fit (has_byte-lacks 47 a.path fl.plain), f.bytes, f.id), p.each);
      distinct = ap (λ (es : List TreeEntry). has_distinct (names es)) same ∙ distinct-more depth a.path (leaves rows) (file-one a rows g e).others p.distinct;
      trees = by (is_directory a.mode) refl;
    }
  where
    by : (t : Bool) → is_directory a.mode ≡ t → Each IsTreeOf (trees_in depth (leaves (a ∷ rows)))
    by false d = subst (Each IsTreeOf) (sym (trees-file depth a rows g e d)) p.trees
    by true d = subst (Each IsTreeOf) (sym (trees-empty depth a rows g e d)) (Each-append IsTreeOf (trees_of_rows depth []) (trees_in depth (leaves rows)) (level [] tt tt) p.trees)

dir-part : (depth : ℕ) → AreTrees depth → (name after : Bytes) (a : FileRow) (group rest : List FileRow) → Good (a ∷ (group ++ rest)) → Splits name a group rest → cut_of 47 a.path ≡ Some (name, after) → Each IsFileRow (a ∷ group)
    → Part depth rest → Part depth (a ∷ (group ++ rest))
dir-part depth level name after a group rest g s c f p =
    let below : List FileRow = map (shorter name) (a ∷ group) in
    let good : Good below = shorter-good name (a ∷ group) s.all (good-front (a ∷ group) rest g) in
    let rows : Each IsFileRow below = all-shorter IsFileRow IsFileRow name (a ∷ group) (shorter-row name) s.all f in
    let w = deep a.path name after c in
    let fit = fit-pieces name after (sym (ap is_fit_path w.is) ∙ f.0.fit) in
    let same = entries-dir depth name a group rest g s in
    record {
      each = subst (Each IsEntry) (sym same)
          ((fit-name name fit.first (has_byte-lacks 47 name w.plain), IsBytes-front name (47 ∷ after) (subst IsBytes w.is f.0.bytes), IsId-object_id tree _), p.each);
      distinct = ap (λ (es : List TreeEntry). has_distinct (names es)) same ∙ distinct-more depth name (leaves rest) (dir-one name a group rest g s).others p.distinct;
      trees = subst (Each IsTreeOf) (sym (trees-dir depth name a group rest g s)) (Each-append IsTreeOf (trees_of_rows depth below) (trees_in depth (leaves rest)) (level below good rows) p.trees);
    }

part : (depth : ℕ) → AreTrees depth → (fuel : ℕ) (rows : List FileRow) → length rows ≤ fuel → Good rows → Each IsFileRow rows → Part depth rows
part depth level fuel [] le g f = record { each = tt; distinct = refl; trees = tt }
part depth level zero (a ∷ rows) le g f = absurd (omega (arith, le))
part depth level (suc fuel) (a ∷ rows) le g f = by (λ rest shorter g2 f2. part depth level fuel rest shorter g2 f2) (cut_of 47 a.path) refl
  where
    by : ((rest : List FileRow) → length rest ≤ fuel → Good rest → Each IsFileRow rest → Part depth rest) → (o : Option (Bytes × Bytes)) → cut_of 47 a.path ≡ o → Part depth (a ∷ rows)
    by rec None e = file-part depth level a rows g f.0 e (rec rows (omega (arith, le)) g.2 f.1)
    by rec (Some q) e =
        let w = deep a.path q.0 q.1 e in
        let c = cut-group q.0 a rows (in-is q.0 q.1 a w.plain w.is) in
        let g2 : Good (a ∷ (c.group ++ c.rest)) = subst (λ (r : List FileRow). Good (a ∷ r)) c.whole g in
        let f2 : Each IsFileRow ((a ∷ c.group) ++ c.rest) = subst (λ (r : List FileRow). Each IsFileRow (a ∷ r)) c.whole f in
        let rest = rec c.rest (omega (arith, le, c.shorter_rest)) (good-rest (a ∷ c.group) c.rest g2) (Each-rest IsFileRow (a ∷ c.group) c.rest f2) in
        subst (λ (r : List FileRow). Part depth (a ∷ r)) (sym c.whole) (dir-part depth level q.0 q.1 a c.group c.rest g2 c.splits e (Each-front IsFileRow (a ∷ c.group) c.rest f2) rest)

are-trees : (depth : ℕ) → AreTrees depth
are-trees zero rows g f = subst (Each IsTreeOf) (sym (none-depth rows).1) tt
are-trees (suc depth) rows g f =
    let p = part depth (are-trees depth) (length rows) rows (omega arith) g f in
    let entries : List TreeEntry = entries_in depth (leaves rows) in
    subst (Each IsTreeOf) (sym (trees-are depth rows g))
    (Each-append IsTreeOf (trees_in depth (leaves rows)) (object_of tree (tree_text entries) ∷ []) p.trees ((entries, (p.each, entries-rise depth rows g, p.distinct), refl), tt))

-- ---- the trees of files

is-right : (o : Object) → IsTreeOf o → IsRight o
is-right o t = subst IsRight (sym t.2) (refl, ap tree_name (tree_fault-text (tree_text t.0) t.0 (t.1, refl)))

each-right : (os : List Object) → Each IsTreeOf os → Each IsRight os
each-right [] h = tt
each-right (o ∷ os) h = (is-right o h.0, each-right os h.1)

pub trees-right : (rows : List FileRow) → IsFiles rows → first_clash rows ≡ None → Each IsRight (trees_of rows)
unfolding trees_of
trees-right rows files apart = each-right (trees_of rows) (subst (Each IsTreeOf) (walk-trees rows files) (are-trees 257 (by_walk rows) (walk-good rows files apart)
    (each_from IsFileRow (by_walk rows) (λ x i. each_in IsFileRow rows x files.each (of-order is_met_before x rows i)))))
