-- A turn over the rows of a directory beside the entries of its old tree, and the end.
use Rattle.std.proofs.Common.{◌≡◌, ◌<◌, ◌≤◌, ◌+◌, ◌-◌, ℕ, Bool, true, false, not, ◌&&◌, ◌==◌, List, [], ◌∷◌, ◌++◌, length, take, drop, map, Option, Some, None, Result, Ok, Err, refl, sym, ap, subst, ◌∙◌, append-nil, arith}
use Rattle.std.specs.Prelude.{if◌then◌else◌, IsTrue, IfSome, IfOk, OnOk, MatchOption, slice_get}
use Rattle.std.specs.Option.{is_none, is_some, unwrap_or}
use Rattle.std.specs.List.{flat_map}
use Rattle.std.proofs.lemmas.List.{drop-drop, drop_all, length-drop}
use Rattle.std.proofs.lemmas.Bool.Decides.{Decides-eqb}
use Rattle.text_model.specs.Lists.{Each}
use Rattle.text_model.specs.Text.{Bytes}
use Rattle.text_model.specs.Id.{Id}
use Rattle.text_model.specs.Cuts.{cut_of}
use Rattle.text_model.proofs.Elements.{each_from}
use Rattle.git_model.specs.Tree.{is_directory, TreeEntry, has_distinct, IsTree, tree_text}
use Rattle.git_model.specs.Object.{Object, AreObjects}
use Rattle.git_model.specs.Unfold.{FileRow}
use Rattle.git_model.specs.Shape.{Leaf, leaf_of, leaves_below}
use Rattle.tree_shape.specs.Shapes.{shorts, entries_in, id_of_rows, trees_of_rows}
use Rattle.tree_shape.specs.Wholes.{Below, Sound, tree_leaves, AreWhole}
use Rattle.tree_shape.proofs.Names.{IsName}
use Rattle.tree_shape.proofs.Rows.{clash}
use Rattle.tree_shape.proofs.Unfolding.{name-of, text-none}
use Rattle.tree_rebuild.specs.Added.{IsAdded}
use Rattle.tree_rebuild.specs.Entries.{met_text, row_named, IsDirectoryNext, IsRowNext, IsIdNext}
use Rattle.tree_rebuild.specs.News.{same_leaves, leaves_in_directory, new_in, new_of, new_over}
use Rattle.tree_rebuild.proofs.SameLeaves.{leaves-one, leaves-self}
use Rattle.tree_rebuild.proofs.SameSteps.{Has, IsGroup, sound-deep, none-left, each-left, distinct-left}
use Rattle.tree_rebuild.proofs.NewSteps.{new_entries, new-zero}
use Rattle.tree_rebuild.proofs.Beside.{leaf-turn, directory-turn}
use Rattle.tree_rebuild.proofs.Kept.{kept-tree, added-none}

pub met-none : (differs : Bool) (place : ℕ) (text : Bytes) (old : List TreeEntry) → differs ≡ false → place ≡ 0 → text ≡ [] → met_text differs place text old ≡ []
met-none differs place text old d p t = (λ k. t k ++ (if d k then [] else tree_text (take (p k) old))) ∙ text-none

-- ---- the entries that are left

pub record Left (known : List Object) (n : ℕ) (es : List TreeEntry) : Type 0 where
  pub whole : Each (Below (Sound known n)) es
  pub distinct : has_distinct (map (λ e. e.name) es) ≡ true
  pub names : Each (λ e. IsName e.name) es

pub left-of : (known : List Object) (levels : ℕ) (es old : List TreeEntry) (place : ℕ) → es ≡ old → IsTree old → AreWhole known levels old → Left known (levels - 1) (drop place es)
left-of known levels es old place same is_tree whole = subst (λ (l : List TreeEntry). Left known (levels - 1) (drop place l)) (sym same) (record {
  whole = each-left (Below (Sound known (levels - 1))) old place whole;
  distinct = distinct-left old place is_tree.2;
  names = each-left (λ e. IsName e.name) old place (each_from (λ e. IsName e.name) old (λ e i. name-of old e is_tree i));
})

-- ---- an outcome

pub none-is : {X : Type 0} (outcome : Option X) (b : Bool) → is_some outcome ≡ not b → b ≡ is_none outcome
none-is (Some x) true h = absurd (clash h)
none-is (Some x) false h = refl
none-is None true h = refl
none-is None false h = absurd (clash (sym h))

pub kept-same : {X : Type 0} (outcome : Option X) (same : Bool) (depth : ℕ) → MatchOption outcome (same ≡ true) (λ _. 0 < depth → same ≡ false) → IsTrue (is_none outcome) → same ≡ true
kept-same None same depth h n = h
kept-same (Some x) same depth h n = absurd (clash (sym n))

pub made-other : {X : Type 0} (outcome : Option X) (same : Bool) (depth : ℕ) → MatchOption outcome (same ≡ true) (λ _. 0 < depth → same ≡ false) → 0 < depth → (IsTrue (is_none outcome) → ⊥) → same ≡ false
made-other None same depth h pos n = absurd (n refl)
made-other (Some x) same depth h pos n = h pos

-- ---- a turn

pub same-turn : (known : List Object) (n skip : ℕ) (es : List TreeEntry) (rest back : List FileRow) (before after : Bool) (place next : ℕ) (all : Bool) → (not before && Has known n skip (drop place es) rest) ≡ all
    → (after ≡ false → (before ≡ false) × (next ≡ place + 1))
    → (not after && Has known n skip (drop 1 (drop place es)) back) ≡ Has known n skip (drop place es) rest
    → (not after && Has known n skip (drop next es) back) ≡ all
same-turn known n skip es rest back before true place next all inv step turn = by before inv
  where
    by : (b : Bool) → (not b && Has known n skip (drop place es) rest) ≡ all → false ≡ all
    by true h = h
    by false h = turn ∙ h
same-turn known n skip es rest back before false place next all inv step turn =
    let s = step refl in
    ap (λ (l : List TreeEntry). Has known n skip l back) (ap (λ (k : ℕ). drop k es) s.1 ∙ sym (drop-drop 1 place es))
    ∙ turn ∙ ap (λ (b : Bool). not b && Has known n skip (drop place es) rest) (sym s.0) ∙ inv

-- ---- the end

pub same-end : (known : List Object) (levels skip : ℕ) (es : List TreeEntry) (rest : List FileRow) (differs : Bool) (place : ℕ) (all : Bool) → Left known (levels - 1) (drop place es) → place ≤ length es → rest ≡ []
    → (not differs && Has known (levels - 1) skip (drop place es) rest) ≡ all → (not differs && (place == length es)) ≡ all
same-end known levels skip es rest differs place all left within none inv = ap (λ (b : Bool). not differs && b) (by (place == length es) refl) ∙ inv
  where
    by : (t : Bool) → (place == length es) ≡ t → (place == length es) ≡ Has known (levels - 1) skip (drop place es) rest
    by true t =
        let p = (Decides-eqb place (length es)).0 t in
        t ∙ (λ k. Has known (levels - 1) skip (sym (drop_all place es (omega (arith, p))) k) (sym none k))
    by false t = t ∙ sym (some (drop place es) left.whole long) ∙ ap (Has known (levels - 1) skip (drop place es)) (sym none)
      where
        long : drop place es ≡ [] → ⊥
        long q = let n : length (drop place es) ≡ 0 = ap length q in let m = length-drop place es in clash (sym ((Decides-eqb place (length es)).1 (omega (arith, within, n, m))) ∙ t)

        some : (l : List TreeEntry) → Each (Below (Sound known (levels - 1))) l → (l ≡ [] → ⊥) → Has known (levels - 1) skip l [] ≡ false
        some [] w h = absurd (h refl)
        some (e ∷ es) w h = none-left known (levels - 1) skip e es w.0

-- no tree is new where the leaves are the same
none-new : (depth : ℕ) (leaves : List Leaf) → new_entries depth leaves leaves ≡ []
none-new depth leaves = by (entries_in depth leaves)
  where
    one : (e : TreeEntry) → new_of (new_in depth) leaves leaves e ≡ []
    one e = from (new_in depth (leaves_below e.name leaves) (leaves_below e.name leaves)) (is_directory e.mode) (same_leaves (leaves_in_directory (e.name ∷ []) leaves) (leaves_in_directory (e.name ∷ []) leaves)) (leaves-self (leaves_in_directory (e.name ∷ []) leaves))
      where
        from : (xs : List Object) (d s : Bool) → s ≡ true → (if d && not s then xs else []) ≡ []
        from xs true s h = ap (λ (t : Bool). if not t then xs else []) h
        from xs false s h = refl

    by : (es : List TreeEntry) → flat_map (new_of (new_in depth) leaves leaves) es ≡ []
    by [] = refl
    by (e ∷ es) = (λ k. one e k ++ by es k)

pub kept-new : (depth levels : ℕ) (old new : List Leaf) (made before : List Object) → same_leaves old new ≡ true → made ++ new_entries depth old [] ≡ before ++ new_entries depth old new → made ≡ before ++ new_over levels old new
kept-new depth levels old new made before same inv =
    sym (append-nil made) ∙ inv ∙ ap (λ (os : List Object). before ++ os) (ap (λ (l : List Leaf). new_entries depth l new) (leaves-one old new same) ∙ none-new depth new)
    ∙ ap (λ (t : Bool). before ++ (if t then [] else new_in levels old new)) (sym same)

pub made-new : (levels : ℕ) (old new : List Leaf) (made before : List Object) → same_leaves old new ≡ false → made ≡ before ++ new_in levels old new → made ≡ before ++ new_over levels old new
made-new levels old new made before same h = h ∙ ap (λ (t : Bool). before ++ (if t then [] else new_in levels old new)) (sym same)

-- ---- turns beside the state of the entries that were met

pub over-zero : (levels : ℕ) (old new : List Leaf) → levels ≡ 0 → new_over levels old new ≡ []
over-zero levels old new e = ap (λ (os : List Object). if same_leaves old new then [] else os) (new-zero levels old new e) ∙ by (same_leaves old new)
  where
    none : List Object
    none = []

    by : (t : Bool) → (if t then none else none) ≡ none
    by true = refl
    by false = refl

pub some-shorts : (skip : ℕ) (rows : List FileRow) → 0 < length rows → 0 < length (shorts skip rows)
some-shorts skip [] h = absurd (omega (arith, h))
some-shorts skip (r ∷ rows) h = omega arith

pub leaf-step : (known : List Object) (n skip : ℕ) (es : List TreeEntry) (name : Bytes) (first : FileRow) (rest back : List FileRow) (before after : Bool) (place next : ℕ) (all : Bool)
    → Some first ≡ slice_get rest 0 → None ≡ cut_of 47 (drop skip first.path) → name ≡ drop skip first.path → back ≡ drop 1 rest → Left known n (drop place es)
    → (after ≡ false → (before ≡ false) × (next ≡ place + 1) × IsRowNext known (row_named name first) (drop place es))
    → (after ≡ true → before ≡ false → IsRowNext known (row_named name first) (drop place es) → ⊥)
    → (not before && Has known n skip (drop place es) rest) ≡ all → (not after && Has known n skip (drop next es) back) ≡ all
leaf-step known n skip es name first rest back true after place next all f c m b left same other inv =
    ap (λ (t : Bool). not t && Has known n skip (drop next es) back) (differs after refl) ∙ inv
  where
    differs : (t : Bool) → after ≡ t → after ≡ true
    differs true t = t
    differs false t = absurd (clash (same t).0)
leaf-step known n skip es name first rest back false after place next all f c m b left same other inv =
    same-turn known n skip es rest back false after place next all inv (λ t. ((same t).0, (same t).1))
    (ap (λ (l : List FileRow). not after && Has known n skip (drop 1 (drop place es)) l) b
    ∙ leaf-turn known n skip (drop place es) first rest after left.whole left.names f c
    (λ t. subst (λ (p : Bytes). IsRowNext known (row_named p first) (drop place es)) m (same t).2)
    (λ t i. other t refl (subst (λ (p : Bytes). IsRowNext known (row_named p first) (drop place es)) (sym m) i)))

pub directory-step : (known : List Object) (n skip : ℕ) (es : List TreeEntry) (name behind : Bytes) (first : FileRow) (rest front back : List FileRow) (below : List TreeEntry) (held : Id) (before after : Bool) (place next : ℕ) (all is_kept : Bool) (outcome : Option Id)
    → is_kept ≡ is_none outcome → Some first ≡ slice_get rest 0 → Some (name, behind) ≡ cut_of 47 (drop skip first.path) → IsGroup skip name rest front back → 0 < length front → Left known n (drop place es)
    → (IsDirectoryNext name (drop place es) → IsIdNext held (drop place es) × Sound known n held below)
    → MatchOption outcome (same_leaves (tree_leaves known n below) (map leaf_of (shorts (skip + length name + 1) front)) ≡ true) (λ _. 0 < n → same_leaves (tree_leaves known n below) (map leaf_of (shorts (skip + length name + 1) front)) ≡ false)
    → (after ≡ false → (before ≡ false) × (next ≡ place + 1) × IsDirectoryNext name (drop place es) × IsTrue is_kept)
    → (after ≡ true → before ≡ false → IsDirectoryNext name (drop place es) → IsTrue is_kept → ⊥)
    → (not before && Has known n skip (drop place es) rest) ≡ all → (not after && Has known n skip (drop next es) back) ≡ all
directory-step known n skip es name behind first rest front back below held true after place next all is_kept outcome k f c g some left found result same other inv =
    ap (λ (t : Bool). not t && Has known n skip (drop next es) back) (differs after refl) ∙ inv
  where
    differs : (t : Bool) → after ≡ t → after ≡ true
    differs true t = t
    differs false t = absurd (clash (same t).0)
directory-step known n skip es name behind first rest front back below held false after place next all is_kept outcome k f c g some left found result same other inv =
    let is_same = same_leaves (tree_leaves known n below) (map leaf_of (shorts (skip + length name + 1) front)) in
    same-turn known n skip es rest back false after place next all inv (λ t. ((same t).0, (same t).1))
    (directory-turn known n skip name behind first rest front back f c g below held is_same refl some (drop place es) after left.whole left.distinct left.names found
    (λ t. ((same t).2, kept-same outcome is_same n result (sym k ∙ (same t).3)))
    (λ t i. made-other outcome is_same n result (sound-deep known n held below (found i).1) (λ q. other t refl i (k ∙ q))))

-- ---- what the end gives

pub result-same : (id : Option Id) (is_whole all : Bool) (levels : ℕ) (P : Id → Type 0) → is_whole ≡ all → MatchOption id (is_whole ≡ true) (λ x. (is_whole ≡ false) × P x) → MatchOption id (all ≡ true) (λ _. 0 < levels → all ≡ false)
result-same None is_whole all levels P e h = sym e ∙ h
result-same (Some x) is_whole all levels P e h = λ _. sym e ∙ h.0

pub result-id : (id : Option Id) (is_whole : Bool) (P Q : Id → Type 0) → MatchOption id (is_whole ≡ true) (λ x. (is_whole ≡ false) × P x) → ((x : Id) → P x → Q x) → IfSome id Q
result-id None is_whole P Q h f = tt
result-id (Some x) is_whole P Q h f = f x h.1

pub result-made : (id : Option Id) (P Q A : Type 0) → MatchOption id P (λ _. Q) → (Q → A) → IfSome id (λ _. A)
result-made None P Q A h f = tt
result-made (Some x) P Q A h f = f h

pub result-new : {E : Type 0} (result : Result (Option Id) E) (is_whole : Bool) (R : Id → Type 0) (P Q A : Type 0)
    → IfOk result (λ id. MatchOption id (is_whole ≡ true) (λ x. (is_whole ≡ false) × R x)) → IfOk result (λ id. MatchOption id P (λ _. Q)) → (is_whole ≡ true → P → A) → (is_whole ≡ false → Q → A) → OnOk result A
result-new (Err e) is_whole R P Q A h k f g = tt
result-new (Ok None) is_whole R P Q A h k f g = f h k
result-new (Ok (Some x)) is_whole R P Q A h k f g = g h.0 k

-- ---- the root

module _ (known : List Object) (levels : ℕ) (old : Id) (entries : List TreeEntry) (rows : List FileRow) where
  pub root-id : (root : Option Id) → AreObjects known → Sound known levels old entries → MatchOption root (same_leaves (tree_leaves known levels entries) (map leaf_of rows) ≡ true) (λ _. 0 < levels → same_leaves (tree_leaves known levels entries) (map leaf_of rows) ≡ false)
      → IfSome root (λ id. id ≡ id_of_rows levels rows) → unwrap_or root old ≡ id_of_rows levels rows
  root-id None are s same id = (kept-tree known levels old entries rows are s (leaves-one (tree_leaves known levels entries) (map leaf_of rows) same)).is
  root-id (Some x) are s same id = id

  pub root-added : (root : Option Id) (made new : List Object) → AreObjects known → Sound known levels old entries → MatchOption root (same_leaves (tree_leaves known levels entries) (map leaf_of rows) ≡ true) (λ _. 0 < levels → same_leaves (tree_leaves known levels entries) (map leaf_of rows) ≡ false)
      → IfSome root (λ _. IsAdded known made new (trees_of_rows levels rows)) → new ≡ made ++ new_over levels (tree_leaves known levels entries) (map leaf_of rows) → IsAdded known made new (trees_of_rows levels rows)
  root-added None made new are s same added n =
      let k = kept-tree known levels old entries rows are s (leaves-one (tree_leaves known levels entries) (map leaf_of rows) same) in
      let none : made ≡ new = sym (n ∙ ap (λ (t : Bool). made ++ (if t then [] else new_in levels (tree_leaves known levels entries) (map leaf_of rows))) same ∙ append-nil made) in
      subst (λ (os : List Object). IsAdded known made os (trees_of_rows levels rows)) none (added-none known made (trees_of_rows levels rows) k.held)
  root-added (Some x) made new are s same added n = added
