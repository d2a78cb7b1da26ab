-- The objects of rows: the blob of each file and the tree of each empty subtree stand among them, and the trees are the same whatever the files contain.
use Rattle.std.proofs.Common.{◌≡◌, ◌+◌, ◌≤◌, ◌<◌, ℕ, zero, suc, Bool, true, false, true≢false, List, [], ◌∷◌, ◌++◌, length, map, Option, Some, None, Ok, Err, Result, refl, sym, ap, subst, ◌∙◌, inl, inr, arith}
use Rattle.std.specs.Prelude.{◌==◌, nat_lt, if◌then◌else◌}
use Rattle.std.specs.List.{flat_map, list_all}
use Rattle.std.proofs.lemmas.Bool.Decides.{nat_tests}
use Rattle.text_model.specs.Lists.{Each, In}
use Rattle.text_model.specs.Text.{Bytes, IsBytes}
use Rattle.text_model.specs.Fault.{FaultName}
use Rattle.text_model.specs.Id.{Id, blob, tree}
use Rattle.text_model.proofs.ByteLemmas.{IsBytes-append}
use Rattle.text_model.proofs.Digests.{IsId-object_id}
use Rattle.text_model.proofs.Options.{some_none}
use Rattle.text_model.proofs.TestLemmas.{both}
use Rattle.git_model.specs.Tree.{Mode, File, GroupFile, Exec, Link, Directory, Gitlink, mode_text, is_directory, is_blob_mode, TreeEntry, tree_entry_text, tree_text, IsTreeText, RawEntry, first_entry, judged, tree_fault}
use Rattle.git_model.specs.Object.{Object, object_of}
use Rattle.git_model.specs.Shape.{Leaf, first_names, leaves_below, leaf_named, leaf_object, shape_entries, shape_objects}
use Rattle.git_model.proofs.TreeLemmas.{first_entry-takes}
use Rattle.git_model.proofs.TreeReadLemmas.{TreeTo, tree_none, tree_more, tree_all, nothing_left, read_cut, read_bad}
use Rattle.tree_shape.specs.Shapes.{is_tree}
use Rattle.git_view.proofs.Shapes.{filled, below-filled, entries-filled}
use Rattle.dump_law.proofs.Streams.{of_append, of_flat}
use Rattle.dump_law.proofs.Trees.{Good, good_below, under, entry_of, entry_leaf, entry_tree, entry_name, entry_in, of_entry, first_of, in_first_names, in_below, of_below, leaf_found, leaf_absent, nothing, blank_text, own_in, tree_in, blob_in}

directory_is : (m : Mode) → is_directory m ≡ true → m ≡ Directory
directory_is Directory h = refl
directory_is File h = absurd (true≢false (sym h))
directory_is GroupFile h = absurd (true≢false (sym h))
directory_is Exec h = absurd (true≢false (sym h))
directory_is Link h = absurd (true≢false (sym h))
directory_is Gitlink h = absurd (true≢false (sym h))

no_directory : (m : Mode) → is_blob_mode m ≡ true → is_directory m ≡ false
no_directory Directory h = absurd (true≢false (sym h))
no_directory Gitlink h = absurd (true≢false (sym h))
no_directory File h = refl
no_directory GroupFile h = refl
no_directory Exec h = refl
no_directory Link h = refl

abbrev pub blob_of : Leaf → Object
blob_of l = record { id = l.id; kind = blob; content = l.content }

-- ---- what stands below the entry of a leaf

module _ (mode : Mode) (id : Id) (content : Bytes) where
  abbrev leaf : List Bytes → Leaf
  leaf names = record { names = names; mode = mode; id = id; content = content }

  named : (d : ℕ) (L : List Leaf) (x : Bytes) → Good (suc d) L → In (leaf (x ∷ [])) L → leaf_named x L ≡ Some (leaf (x ∷ []))
  named d L x g i = by (leaf_named x L) refl
    where
      by : (o : Option Leaf) → leaf_named x L ≡ o → leaf_named x L ≡ Some (leaf (x ∷ []))
      by None e = absurd (leaf_absent x L (leaf (x ∷ [])) e i refl)
      by (Some l) e = let f = leaf_found x L l e in e ∙ ap (λ (m : Leaf). Some m) (g.one l (leaf (x ∷ [])) f.0 i f.1)

  not_named : (d : ℕ) (L : List Leaf) (x z : Bytes) (zs : List Bytes) → Good (suc d) L → In (leaf (x ∷ z ∷ zs)) L → leaf_named x L ≡ None
  not_named d L x z zs g i = by (leaf_named x L) refl
    where
      by : (o : Option Leaf) → leaf_named x L ≡ o → leaf_named x L ≡ None
      by None e = e
      by (Some l) e = let f = leaf_found x L l e in absurd (g.apart (leaf (x ∷ z ∷ zs)) l i f.0 z zs (sym (ap (λ (names : List Bytes). names ++ z ∷ zs) f.1)))

  -- an object that stands among those of each list with the leaf under one name, where so many levels are left below it
  module _ (o : Object) (extra : ℕ) (base : (d : ℕ) (L : List Leaf) (x : Bytes) → Good (suc d) L → In (leaf (x ∷ [])) L → extra ≤ d → In o (shape_objects (suc d) L)) where
    object_in : (n : ℕ) (L : List Leaf) (names : List Bytes) → Good n L → In (leaf names) L → length names + extra ≤ n → In o (shape_objects n L)
    object_in n L [] g i short = absurd (omega (arith, g.some (leaf []) i))
    object_in zero L (x ∷ names) g i short = absurd (omega (arith, short))
    object_in (suc d) L (x ∷ []) g i short = base d L x g i (omega (arith, short))
    object_in (suc d) L (x ∷ z ∷ zs) g i short =
        let deeper = object_in d (leaves_below x L) (z ∷ zs) (good_below d L x g) (in_below x L (leaf (x ∷ z ∷ zs)) z zs i refl) (omega (arith, short)) in
        tree_in d L (entry_of d L x) o (entry_in d L x (in_first_names x L (leaf (x ∷ z ∷ zs)) (z ∷ zs) i refl))
        (ap (λ (e : TreeEntry). e.mode) (entry_tree d L x (not_named d L x z zs g i)))
        (subst (λ (name : Bytes). In o (shape_objects d (leaves_below name L))) (sym (entry_name d L x)) deeper)

pub file_in : (n : ℕ) (L : List Leaf) (l : Leaf) → Good n L → In l L → is_blob_mode l.mode ≡ true → In (blob_of l) (shape_objects n L)
file_in n L l g i is = object_in l.mode l.id l.content (blob_of l) 0 base n L l.names g i (omega (arith, g.short l i))
  where
    base : (d : ℕ) (K : List Leaf) (x : Bytes) → Good (suc d) K → In (record { names = x ∷ []; mode = l.mode; id = l.id; content = l.content }) K → 0 ≤ d → In (blob_of l) (shape_objects (suc d) K)
    base d K x h j le =
        let at = named l.mode l.id l.content d K x h j in
        let e = entry_leaf d K x (record { names = x ∷ []; mode = l.mode; id = l.id; content = l.content }) at in
        blob_in d K (entry_of d K x) (blob_of l) (entry_in d K x (in_first_names x K (record { names = x ∷ []; mode = l.mode; id = l.id; content = l.content }) [] j refl))
        (ap (λ (t : TreeEntry). is_directory t.mode) e ∙ no_directory l.mode is)
        (subst (λ (name : Bytes). In (blob_of l) (leaf_object (leaf_named name K))) (sym (entry_name d K x))
        (subst (λ (u : Option Leaf). In (blob_of l) (leaf_object u)) (sym at) (rw is (inl refl))))

pub empty_tree_in : (n : ℕ) (L : List Leaf) (l : Leaf) → Good n L → In l L → l.mode ≡ Directory → length l.names + 1 ≤ n → In (object_of tree []) (shape_objects n L)
empty_tree_in n L l g i is short = object_in l.mode l.id l.content (object_of tree []) 1 base n L l.names g i short
  where
    own : (d : ℕ) → 1 ≤ d → In (object_of tree []) (shape_objects d [])
    own zero le = absurd (omega (arith, le))
    own (suc k) le = subst (λ (text : Bytes). In (object_of tree text) (shape_objects (suc k) [])) (blank_text k) (own_in k [])

    base : (d : ℕ) (K : List Leaf) (x : Bytes) → Good (suc d) K → In (record { names = x ∷ []; mode = l.mode; id = l.id; content = l.content }) K → 1 ≤ d → In (object_of tree []) (shape_objects (suc d) K)
    base d K x h j le =
        let m : Leaf = record { names = x ∷ []; mode = l.mode; id = l.id; content = l.content } in
        let at = named l.mode l.id l.content d K x h j in
        tree_in d K (entry_of d K x) (object_of tree []) (entry_in d K x (in_first_names x K m [] j refl))
        (ap (λ (t : TreeEntry). t.mode) (entry_leaf d K x m at) ∙ is)
        (subst (λ (name : Bytes). In (object_of tree []) (shape_objects d (leaves_below name K))) (sym (entry_name d K x))
        (subst (λ (below : List Leaf). In (object_of tree []) (shape_objects d below)) (sym (nothing (leaves_below x K) (alone d K x h j))) (own d le)))
      where
        alone : (d : ℕ) (K : List Leaf) (x : Bytes) → Good (suc d) K → In (record { names = x ∷ []; mode = l.mode; id = l.id; content = l.content }) K → (b : Leaf) → In b (leaves_below x K) → ⊥
        alone d K x h j b k = by b.names refl
          where
            above : In (under x b) K
            above = (of_below x K b k).there

            by : (names : List Bytes) → b.names ≡ names → ⊥
            by [] e = omega (arith, (of_below x K b k).some, ap (λ (l : List Bytes). length l) e)
            by (y ∷ ys) e = h.apart (under x b) (record { names = x ∷ []; mode = l.mode; id = l.id; content = l.content }) above j y ys (ap (λ (l : List Bytes). x ∷ l) e)

-- ---- trees

no_tree : (name : Bytes) (L : List Leaf) (o : Object) → In o (leaf_object (leaf_named name L)) → is_tree o ≡ true → ⊥
no_tree name L o i t = by (leaf_named name L) i
  where
    by : (u : Option Leaf) → In o (leaf_object u) → ⊥
    by None j = j
    by (Some l) j = at (is_blob_mode l.mode) refl
      where
        at : (b : Bool) → is_blob_mode l.mode ≡ b → ⊥
        at false f = rw f at j
        at true f = elim (rw f at j) [ inl q ↦ true≢false (sym t ∙ ap is_tree q) | inr k ↦ k ]

-- a tree of the files without their contents is one of the files
pub tree_of_filled : (content : Mode → Id → Bytes) (n : ℕ) (L : List Leaf) (o : Object) → In o (shape_objects n (map (filled content) L)) → is_tree o ≡ true → In o (shape_objects n L)
unfolding shape_objects
tree_of_filled content zero L o i t = absurd i
tree_of_filled content (suc d) L o i t =
    elim (of_append o (flat_map (λ e. if is_directory e.mode then shape_objects d (leaves_below e.name (map (filled content) L)) else leaf_object (leaf_named e.name (map (filled content) L))) (shape_entries (suc d) (map (filled content) L))) _ i) [
      | inl j ↦ (let r = of_flat (λ (e : TreeEntry). if is_directory e.mode then shape_objects d (leaves_below e.name (map (filled content) L)) else leaf_object (leaf_named e.name (map (filled content) L))) o (shape_entries (suc d) (map (filled content) L)) j in
          by r.0 (subst (λ (es : List TreeEntry). In r.0 es) (entries-filled content (suc d) L) r.1) r.2 (λ k. tree_of_filled content d (leaves_below (r.0).name L) o k t))
      | inr (inl q) ↦ subst (λ (x : Object). In x (shape_objects (suc d) L)) (sym (q ∙ ap (λ (es : List TreeEntry). object_of tree (tree_text es)) (entries-filled content (suc d) L))) (own_in d L)
      | inr (inr k) ↦ absurd k
    ]
  where
    by : (e : TreeEntry) → In e (shape_entries (suc d) L) → In o (if is_directory e.mode then shape_objects d (leaves_below e.name (map (filled content) L)) else leaf_object (leaf_named e.name (map (filled content) L)))
        → (In o (shape_objects d (map (filled content) (leaves_below e.name L))) → In o (shape_objects d (leaves_below e.name L))) → In o (shape_objects (suc d) L)
    by e k j deeper = at (is_directory e.mode) refl
      where
        at : (b : Bool) → is_directory e.mode ≡ b → In o (shape_objects (suc d) L)
        at true f = tree_in d L e o k (directory_is e.mode f) (deeper (subst (λ (ls : List Leaf). In o (shape_objects d ls)) (below-filled content e.name L) (rw f at j)))
        at false f = absurd (no_tree e.name (map (filled content) L) o (rw f at j) t)

-- ---- the bytes of trees

pub record AreOfBytes (L : List Leaf) : Type 0 where
  pub names : (l : Leaf) → In l L → Each IsBytes l.names
  pub ids : (l : Leaf) → In l L → IsBytes l.id

bytes_below : (x : Bytes) (L : List Leaf) → AreOfBytes L → AreOfBytes (leaves_below x L)
bytes_below x L b = record { names = λ l i. (b.names (under x l) (of_below x L l i).there).1; ids = λ l i. b.ids (under x l) (of_below x L l i).there }

bytes_by : (bytes : Bytes) → list_all (λ b. nat_lt b 256) bytes ≡ true → IsBytes bytes
bytes_by [] h = tt
bytes_by (b ∷ bytes) h = let p = both (nat_lt b 256) (list_all (λ b. nat_lt b 256) bytes) h in (small p.0, bytes_by bytes p.1)
  where
    small : nat_lt b 256 ≡ true → b < 256
    small t = grind (arith, t, nat_tests)

mode_bytes : (m : Mode) → IsBytes (mode_text m)
mode_bytes File = bytes_by (mode_text File) refl
mode_bytes GroupFile = bytes_by (mode_text GroupFile) refl
mode_bytes Exec = bytes_by (mode_text Exec) refl
mode_bytes Link = bytes_by (mode_text Link) refl
mode_bytes Directory = bytes_by (mode_text Directory) refl
mode_bytes Gitlink = bytes_by (mode_text Gitlink) refl

abbrev IsOfBytes : TreeEntry → Type 0
IsOfBytes e = IsBytes e.name × IsBytes e.id

entry_bytes : (d : ℕ) (L : List Leaf) → AreOfBytes L → (e : TreeEntry) → In e (shape_entries (suc d) L) → IsOfBytes e
entry_bytes d L b e i = let r = of_entry d L e i in subst IsOfBytes (sym r.2) (by r.0 r.1 (leaf_named r.0 L) refl)
  where
    by : (x : Bytes) → In x (first_names L) → (o : Option Leaf) → leaf_named x L ≡ o → IsOfBytes (entry_of d L x)
    by x k None at = let f = first_of x L k in subst IsOfBytes (sym (entry_tree d L x at)) ((subst (Each IsBytes) f.3 (b.names f.0 f.2)).0, (IsId-object_id tree _).1)
    by x k (Some l) at = let f = first_of x L k in subst IsOfBytes (sym (entry_leaf d L x l at)) ((subst (Each IsBytes) f.3 (b.names f.0 f.2)).0, b.ids l (leaf_found x L l at).0)

text_bytes : (es : List TreeEntry) → ((e : TreeEntry) → In e es → IsOfBytes e) → IsBytes (tree_text es)
unfolding tree_text
text_bytes [] h = tt
text_bytes (e ∷ es) h =
    let b = h e (inl refl) in
    IsBytes-append (tree_entry_text e) (flat_map tree_entry_text es)
    (IsBytes-append (mode_text e.mode ++ 32 ∷ e.name) (0 ∷ e.id) (IsBytes-append (mode_text e.mode) (32 ∷ e.name) (mode_bytes e.mode) (omega arith, b.0)) (omega arith, b.1))
    (text_bytes es (λ x i. h x (inr i)))

pub tree_bytes : (n : ℕ) (L : List Leaf) → AreOfBytes L → (o : Object) → In o (shape_objects n L) → is_tree o ≡ true → IsBytes o.content
unfolding shape_objects
tree_bytes zero L b o i t = absurd i
tree_bytes (suc d) L b o i t =
    elim (of_append o (flat_map (λ e. if is_directory e.mode then shape_objects d (leaves_below e.name L) else leaf_object (leaf_named e.name L)) (shape_entries (suc d) L)) _ i) [
      | inl j ↦ (let r = of_flat (λ (e : TreeEntry). if is_directory e.mode then shape_objects d (leaves_below e.name L) else leaf_object (leaf_named e.name L)) o (shape_entries (suc d) L) j in
          by r.0 r.2 (λ k. tree_bytes d (leaves_below (r.0).name L) (bytes_below (r.0).name L b) o k t))
      | inr (inl q) ↦ subst (λ (x : Object). IsBytes x.content) (sym q) (text_bytes (shape_entries (suc d) L) (entry_bytes d L b))
      | inr (inr k) ↦ absurd k
    ]
  where
    by : (e : TreeEntry) → In o (if is_directory e.mode then shape_objects d (leaves_below e.name L) else leaf_object (leaf_named e.name L)) → (In o (shape_objects d (leaves_below e.name L)) → IsBytes o.content) → IsBytes o.content
    by e j deeper = at (is_directory e.mode) refl
      where
        at : (u : Bool) → is_directory e.mode ≡ u → IsBytes o.content
        at true f = deeper (rw f at j)
        at false f = absurd (no_tree e.name L o (rw f at j) t)

-- ---- a tree without a fault

tree_reads : (content : Bytes) → tree_fault content ≡ None → (fuel : ℕ) (before : List TreeEntry) (rest : Bytes) → TreeTo content before rest → length rest ≤ fuel → (entries : List TreeEntry) × IsTreeText content entries
tree_reads content none zero before rest to enough = (before, tree_all content before (nothing_left content before rest to (empty rest enough)))
  where
    empty : (l : Bytes) → length l ≤ 0 → (length l == 0) ≡ true
    empty [] h = refl
    empty (b ∷ l) h = absurd (omega (arith, h))
tree_reads content none (suc fuel) before rest to enough =
    by (length rest == 0) refl (first_entry rest) refl (λ more after x le. tree_reads content none fuel more after x le)
  where
    next : (raw : RawEntry) (after : Bytes) → first_entry rest ≡ Some (raw, after) → (j : Result TreeEntry FaultName) → judged before raw ≡ j
        → ((more : List TreeEntry) (after : Bytes) → TreeTo content more after → length after ≤ fuel → (entries : List TreeEntry) × IsTreeText content entries) → (entries : List TreeEntry) × IsTreeText content entries
    next raw after f (Ok e) g go = go (before ++ e ∷ []) after (tree_more content before rest raw after e to f g) (omega (arith, enough, (first_entry-takes rest raw after f).len))
    next raw after f (Err name) g go = absurd (some_none (sym (read_bad content before rest raw after name to.to f g) ∙ none))

    by : (t : Bool) → (length rest == 0) ≡ t → (o : Option (RawEntry × Bytes)) → first_entry rest ≡ o
        → ((more : List TreeEntry) (after : Bytes) → TreeTo content more after → length after ≤ fuel → (entries : List TreeEntry) × IsTreeText content entries) → (entries : List TreeEntry) × IsTreeText content entries
    by true e o f go = (before, tree_all content before (nothing_left content before rest to e))
    by false e None f go = absurd (some_none (sym (read_cut content before rest to.to f e) ∙ none))
    by false e (Some p) f go = next p.0 p.1 f (judged before p.0) refl go

pub tree_text_is : (content : Bytes) → IsBytes content → tree_fault content ≡ None → (entries : List TreeEntry) × IsTreeText content entries
tree_text_is content bytes none = tree_reads content none (length content) [] content (tree_none content bytes) (omega arith)
