-- Trees whose objects are known are those of one set of rows.
use Rattle.std.proofs.Common.{◌≡◌, ◌<◌, ◌≤◌, ◌⊎◌, inl, inr, ℕ, zero, suc, Bool, true, false, true≢false, List, [], ◌∷◌, ◌++◌, length, take, drop, Option, Some, None, codes, refl, sym, ap, subst, ◌∙◌, arith, append_assoc, length-append}
use Rattle.std.specs.Prelude.{bytes_eq, if◌then◌else◌}
use Rattle.std.specs.List.{flat_map, filter_map, find}
use Rattle.std.proofs.lemmas.List.{take_at, drop_at}
use Rattle.std.proofs.lemmas.Slice.Eq.{bytes_eq-Decides}
use Rattle.text_model.specs.Lists.{Each, In}
use Rattle.text_model.specs.Text.{Bytes}
use Rattle.text_model.specs.Id.{tree, blob, object_id}
use Rattle.text_model.specs.Cuts.{Lacks, cut_of}
use Rattle.text_model.proofs.CutLemmas.{cut_of-at}
use Rattle.text_model.proofs.LackLemmas.{Lacks-by_test}
use Rattle.text_model.proofs.TestLemmas.{bytes_eq-self}
use Rattle.text_model.proofs.Digests.{IsId-object_id}
use Rattle.text_model.proofs.Elements.{each_from, in_left, in_right, in_map}
use Rattle.text_model.proofs.Options.{none_some, some_is, some_none}
use Rattle.git_model.specs.Tree.{Mode, File, GroupFile, Exec, Link, Directory, Gitlink, mode_text, mode_of, is_directory, is_blob_mode, TreeEntry, tree_entry_text, tree_text, is_entry_below}
use Rattle.git_model.specs.Object.{Object, object_at, object_of}
use Rattle.git_model.specs.Shape.{Leaf, first_name_of, first_names, cut_name, leaves_below, is_named, leaf_named, shape_entries, leaf_object, shape_objects}
use Rattle.git_model.proofs.SortLemmas.{in-order, of-order}
use Rattle.view_model.specs.View.{IsRowId}
use Rattle.dump_law.proofs.Elements.{of-map, in-flat, in-filter_map, of-filter_map, in-first, of-first}

-- ---- a tree's text is that of one list of entries

pub cut_two : (b : ℕ) (f r g s : Bytes) → Lacks b f → Lacks b g → f ++ b ∷ r ≡ g ++ b ∷ s → (f ≡ g) × (r ≡ s)
cut_two b f r g s x y e =
    let is : (f, r) ≡ (g, s) = some_is (sym (cut_of-at b f r x) ∙ ap (cut_of b) e ∙ cut_of-at b g s y) in
    (ap (λ (p : Bytes × Bytes). p.0) is, ap (λ (p : Bytes × Bytes). p.1) is)

pub split_at : (a r b s : Bytes) → length a ≡ length b → a ++ r ≡ b ++ s → (a ≡ b) × (r ≡ s)
split_at a r b s n e = (
  sym (take_at a r (length a) refl) ∙ ap (take (length a)) e ∙ take_at b s (length a) (sym n),
  sym (drop_at a r (length a) refl) ∙ ap (drop (length a)) e ∙ drop_at b s (length a) (sym n),
)

no_space : (m : Mode) → Lacks 32 (mode_text m)
no_space File = Lacks-by_test 32 (codes "100644") refl
no_space GroupFile = Lacks-by_test 32 (codes "100664") refl
no_space Exec = Lacks-by_test 32 (codes "100755") refl
no_space Link = Lacks-by_test 32 (codes "120000") refl
no_space Directory = Lacks-by_test 32 (codes "40000") refl
no_space Gitlink = Lacks-by_test 32 (codes "160000") refl

mode_back : (m : Mode) → mode_of (mode_text m) ≡ Some m
mode_back File = refl
mode_back GroupFile = refl
mode_back Exec = refl
mode_back Link = refl
mode_back Directory = refl
mode_back Gitlink = refl

pub record IsEntry (e : TreeEntry) : Type 0 where
  pub name : Lacks 0 e.name
  pub id : length e.id ≡ 20

entry_then : (e : TreeEntry) (rest : Bytes) → tree_entry_text e ++ rest ≡ mode_text e.mode ++ 32 ∷ (e.name ++ 0 ∷ (e.id ++ rest))
entry_then e rest = append_assoc (mode_text e.mode ++ 32 ∷ e.name) (0 ∷ e.id) rest ∙ append_assoc (mode_text e.mode) (32 ∷ e.name) (0 ∷ (e.id ++ rest))

entry_some : (e : TreeEntry) (rest : Bytes) → tree_entry_text e ++ rest ≡ [] → ⊥
entry_some e rest h = omega (arith, ap (λ (l : Bytes). length l) (sym (entry_then e rest) ∙ h), length-append (mode_text e.mode) (32 ∷ (e.name ++ 0 ∷ (e.id ++ rest))))

one_text : (es fs : List TreeEntry) → Each IsEntry es → Each IsEntry fs → tree_text es ≡ tree_text fs → es ≡ fs
unfolding tree_text
one_text [] [] x y h = refl
one_text [] (f ∷ fs) x y h = absurd (entry_some f (flat_map tree_entry_text fs) (sym h))
one_text (e ∷ es) [] x y h = absurd (entry_some e (flat_map tree_entry_text es) h)
one_text (e ∷ es) (f ∷ fs) x y h =
    let r = flat_map tree_entry_text es in
    let s = flat_map tree_entry_text fs in
    let a = cut_two 32 (mode_text e.mode) (e.name ++ 0 ∷ (e.id ++ r)) (mode_text f.mode) (f.name ++ 0 ∷ (f.id ++ s)) (no_space e.mode) (no_space f.mode) (sym (entry_then e r) ∙ h ∙ entry_then f s) in
    let b = cut_two 0 e.name (e.id ++ r) f.name (f.id ++ s) (x.0).name (y.0).name a.1 in
    let d = split_at e.id r f.id s ((x.0).id ∙ sym (y.0).id) b.1 in
    let mode : e.mode ≡ f.mode = some_is (sym (mode_back e.mode) ∙ ap mode_of a.0 ∙ mode_back f.mode) in
    (λ i. record { mode = mode i; name = b.0 i; id = d.0 i } ∷ one_text es fs x.1 y.1 d.1 i)

text_some : (e : TreeEntry) (es : List TreeEntry) → In e es → tree_text es ≡ [] → ⊥
unfolding tree_text
text_some e [] i h = i
text_some e (f ∷ fs) i h = entry_some f (flat_map tree_entry_text fs) h

-- ---- leaves by their names

pub found_is : {X : Type 0} (p : X → Bool) (x : X) (xs : List X) → find p xs ≡ Some x → In x xs × (p x ≡ true)
found_is p x [] h = absurd (none_some h)
found_is {X = X} p x (y ∷ xs) h = by (p y) refl (found_is p x xs)
  where
    by : (t : Bool) → p y ≡ t → (find p xs ≡ Some x → In x xs × (p x ≡ true)) → In x (y ∷ xs) × (p x ≡ true)
    by true e go = let same : y ≡ x = some_is (rw e at h) in (inl (sym same), ap p (sym same) ∙ e)
    by false e go = let r = go (rw e at h) in (inr r.0, r.1)

absent_is : {X : Type 0} (p : X → Bool) (x : X) (xs : List X) → find p xs ≡ None → In x xs → p x ≡ true → ⊥
absent_is p x [] h i t = i
absent_is {X = X} p x (y ∷ xs) h i t = by (p y) refl i (λ n j. absent_is p x xs n j t)
  where
    by : (u : Bool) → p y ≡ u → In x (y ∷ xs) → (find p xs ≡ None → In x xs → ⊥) → ⊥
    by true e j go = some_none (rw e at h)
    by false e (inl q) go = true≢false (sym t ∙ ap p q ∙ e)
    by false e (inr j) go = go (rw e at h) j

named_is : (x : Bytes) (names : List Bytes) → is_named x names ≡ true → names ≡ x ∷ []
named_is x [] h = absurd (true≢false (sym h))
named_is x (a ∷ []) h = ap (λ (n : Bytes). n ∷ []) ((bytes_eq-Decides a x).0 h)
named_is x (a ∷ b ∷ r) h = absurd (true≢false (sym h))

pub leaf_found : (x : Bytes) (L : List Leaf) (l : Leaf) → leaf_named x L ≡ Some l → In l L × (l.names ≡ x ∷ [])
leaf_found x L l h = let r = found_is (λ leaf. is_named x leaf.names) l L h in (r.0, named_is x l.names r.1)

pub leaf_absent : (x : Bytes) (L : List Leaf) (l : Leaf) → leaf_named x L ≡ None → In l L → l.names ≡ x ∷ [] → ⊥
leaf_absent x L l h i e = absent_is (λ leaf. is_named x leaf.names) l L h i (ap (is_named x) e ∙ bytes_eq-self x)

abbrev without : Leaf → Bytes → List Bytes → Leaf
without l z zs = record { names = z ∷ zs; mode = l.mode; id = l.id; content = l.content }

abbrev pub under : Bytes → Leaf → Leaf
under x l = record { names = x ∷ l.names; mode = l.mode; id = l.id; content = l.content }

pub in_below : (x : Bytes) (L : List Leaf) (l : Leaf) (z : Bytes) (zs : List Bytes) → In l L → l.names ≡ x ∷ z ∷ zs → In (without l z zs) (leaves_below x L)
in_below x L l z zs i e = in-filter_map (λ leaf. cut_name x leaf leaf.names) l (without l z zs) L i (ap (cut_name x l) e ∙ rw (bytes_eq-self x) refl)

pub record Above (x : Bytes) (L : List Leaf) (m : Leaf) : Type 0 where
  pub there : In (under x m) L
  pub some : 0 < length m.names

pub of_below : (x : Bytes) (L : List Leaf) (m : Leaf) → In m (leaves_below x L) → Above x L m
of_below x L m i =
    let r = of-filter_map (λ leaf. cut_name x leaf leaf.names) m L i in
    by r.0 r.1 r.0.names refl r.2
  where
    by : (l : Leaf) → In l L → (names : List Bytes) → l.names ≡ names → cut_name x l names ≡ Some m → Above x L m
    by l j [] e h = absurd (none_some h)
    by l j (a ∷ []) e h = absurd (none_some h)
    by l j (a ∷ b ∷ rest) e h = at (bytes_eq a x) refl
      where
        at : (t : Bool) → bytes_eq a x ≡ t → Above x L m
        at false f = absurd (none_some (rw f at h))
        at true f =
            let same : without l b rest ≡ m = some_is (rw f at h) in
            let first : a ≡ x = (bytes_eq-Decides a x).0 f in
            let whole : l ≡ under x m =
            (λ i. record { names = e i; mode = l.mode; id = l.id; content = l.content }) ∙ (λ i. record { names = first i ∷ (same i).names; mode = (same i).mode; id = (same i).id; content = (same i).content }) in
            record { there = subst (λ w. In w L) whole j; some = subst (λ (w : Leaf). 0 < length w.names) same (omega arith) }

pub first_of : (x : Bytes) (L : List Leaf) → In x (first_names L) → (l : Leaf) × (rest : List Bytes) × In l L × (l.names ≡ x ∷ rest)
first_of x L i =
    let r = of-filter_map first_name_of x L (of-first bytes_eq x (filter_map first_name_of L) i) in
    by r.0 r.1 r.0.names refl r.2
  where
    by : (l : Leaf) → In l L → (names : List Bytes) → l.names ≡ names → first_name_of l ≡ Some x → (l : Leaf) × (rest : List Bytes) × In l L × (l.names ≡ x ∷ rest)
    by l j [] e h = absurd (none_some (rw e at h))
    by l j (a ∷ rest) e h = (l, rest, j, e ∙ ap (λ (n : Bytes). n ∷ rest) (some_is (rw e at h)))

pub in_first_names : (x : Bytes) (L : List Leaf) (l : Leaf) (rest : List Bytes) → In l L → l.names ≡ x ∷ rest → In x (first_names L)
in_first_names x L l rest i e = in-first x (filter_map first_name_of L) (in-filter_map first_name_of l x L i (rw e refl))

pub nothing : {X : Type 0} (xs : List X) → ((x : X) → In x xs → ⊥) → xs ≡ []
nothing [] h = refl
nothing (x ∷ xs) h = absurd (h x (inl refl))

-- ---- entries

abbrev pub entry_of : ℕ → List Leaf → Bytes → TreeEntry
entry_of depth leaves name =
    elim (leaf_named name leaves) as (λ _. TreeEntry) [
      | Some leaf ↦ record { mode = leaf.mode; name = name; id = leaf.id }
      | None ↦ record { mode = Directory; name = name; id = object_id tree (tree_text (shape_entries depth (leaves_below name leaves))) }
    ]

pub entry_leaf : (d : ℕ) (L : List Leaf) (x : Bytes) (l : Leaf) → leaf_named x L ≡ Some l → entry_of d L x ≡ record { mode = l.mode; name = x; id = l.id }
entry_leaf d L x l e = rw (e, entry_of) refl

pub entry_tree : (d : ℕ) (L : List Leaf) (x : Bytes) → leaf_named x L ≡ None → entry_of d L x ≡ record { mode = Directory; name = x; id = object_id tree (tree_text (shape_entries d (leaves_below x L))) }
entry_tree d L x e = rw (e, entry_of) refl

pub entry_name : (d : ℕ) (L : List Leaf) (x : Bytes) → (entry_of d L x).name ≡ x
entry_name d L x = by (leaf_named x L) refl
  where
    by : (o : Option Leaf) → leaf_named x L ≡ o → (entry_of d L x).name ≡ x
    by None e = ap (λ (t : TreeEntry). t.name) (entry_tree d L x e)
    by (Some l) e = ap (λ (t : TreeEntry). t.name) (entry_leaf d L x l e)

pub entry_in : (d : ℕ) (L : List Leaf) (x : Bytes) → In x (first_names L) → In (entry_of d L x) (shape_entries (suc d) L)
unfolding shape_entries
entry_in d L x i = in-order is_entry_below (entry_of d L x) _ (in_map (entry_of d L) x (first_names L) i)

pub of_entry : (d : ℕ) (L : List Leaf) (e : TreeEntry) → In e (shape_entries (suc d) L) → (x : Bytes) × In x (first_names L) × (e ≡ entry_of d L x)
unfolding shape_entries
of_entry d L e i = of-map (entry_of d L) e (first_names L) (of-order is_entry_below e _ i)

pub blank_text : (k : ℕ) → tree_text (shape_entries (suc k) []) ≡ []
unfolding shape_entries tree_text
blank_text k = refl

-- ---- objects

pub own_in : (d : ℕ) (L : List Leaf) → In (object_of tree (tree_text (shape_entries (suc d) L))) (shape_objects (suc d) L)
unfolding shape_objects
own_in d L = in_right _ (flat_map (λ e. if is_directory e.mode then shape_objects d (leaves_below e.name L) else leaf_object (leaf_named e.name L)) (shape_entries (suc d) L)) _ (inl refl)

pub tree_in : (d : ℕ) (L : List Leaf) (e : TreeEntry) (o : Object) → In e (shape_entries (suc d) L) → e.mode ≡ Directory → In o (shape_objects d (leaves_below e.name L)) → In o (shape_objects (suc d) L)
unfolding shape_objects
tree_in d L e o i m j =
    in_left o (flat_map (λ e. if is_directory e.mode then shape_objects d (leaves_below e.name L) else leaf_object (leaf_named e.name L)) (shape_entries (suc d) L)) _
    (in-flat (λ (e : TreeEntry). if is_directory e.mode then shape_objects d (leaves_below e.name L) else leaf_object (leaf_named e.name L)) e o (shape_entries (suc d) L) i (rw (ap is_directory m) j))

pub blob_in : (d : ℕ) (L : List Leaf) (e : TreeEntry) (o : Object) → In e (shape_entries (suc d) L) → is_directory e.mode ≡ false → In o (leaf_object (leaf_named e.name L)) → In o (shape_objects (suc d) L)
unfolding shape_objects
blob_in d L e o i m j =
    in_left o (flat_map (λ e. if is_directory e.mode then shape_objects d (leaves_below e.name L) else leaf_object (leaf_named e.name L)) (shape_entries (suc d) L)) _
    (in-flat (λ (e : TreeEntry). if is_directory e.mode then shape_objects d (leaves_below e.name L) else leaf_object (leaf_named e.name L)) e o (shape_entries (suc d) L) i (rw m j))

-- ---- rows

pub record Good (n : ℕ) (L : List Leaf) : Type 0 where
  pub some : (l : Leaf) → In l L → 0 < length l.names
  pub short : (l : Leaf) → In l L → length l.names ≤ n
  pub names : (l : Leaf) → In l L → Each (Lacks 0) l.names
  pub rows : (l : Leaf) → In l L → IsRowId l.mode l.id l.content
  pub ids : (l : Leaf) → In l L → length l.id ≡ 20
  pub one : (a b : Leaf) → In a L → In b L → a.names ≡ b.names → a ≡ b
  pub apart : (a b : Leaf) → In a L → In b L → (x : Bytes) (rest : List Bytes) → a.names ≡ b.names ++ x ∷ rest → ⊥

pub good_below : (d : ℕ) (L : List Leaf) (x : Bytes) → Good (suc d) L → Good d (leaves_below x L)
good_below d L x g = record {
  some = λ l i. (of_below x L l i).some;
  short = λ l i. omega (arith, g.short (under x l) (of_below x L l i).there);
  names = λ l i. (g.names (under x l) (of_below x L l i).there).1;
  rows = λ l i. g.rows (under x l) (of_below x L l i).there;
  ids = λ l i. g.ids (under x l) (of_below x L l i).there;
  one = λ a b i j e.
      let same = g.one (under x a) (under x b) (of_below x L a i).there (of_below x L b j).there (ap (λ (l : List Bytes). x ∷ l) e) in
      (λ k. record { names = e k; mode = (same k).mode; id = (same k).id; content = (same k).content });
  apart = λ a b i j z rest e. g.apart (under x a) (under x b) (of_below x L a i).there (of_below x L b j).there z rest (ap (λ (l : List Bytes). x ∷ l) e);
}

entries_fit : (d : ℕ) (L : List Leaf) → Good (suc d) L → Each IsEntry (shape_entries (suc d) L)
entries_fit d L g = each_from IsEntry (shape_entries (suc d) L) (λ e i. let r = of_entry d L e i in subst IsEntry (sym r.2) (fit r.0 r.1))
  where
    fit : (x : Bytes) → In x (first_names L) → IsEntry (entry_of d L x)
    fit x i = by (leaf_named x L) refl
      where
        lacks : Lacks 0 x
        lacks = let r = first_of x L i in (subst (Each (Lacks 0)) r.3 (g.names r.0 r.2)).0

        by : (o : Option Leaf) → leaf_named x L ≡ o → IsEntry (entry_of d L x)
        by None e = subst IsEntry (sym (entry_tree d L x e)) (record { name = lacks; id = (IsId-object_id tree _).0 })
        by (Some l) e = subst IsEntry (sym (entry_leaf d L x l e)) (record { name = lacks; id = g.ids l (leaf_found x L l e).0 })

module _ (known : List Object) where
  -- the object's content is known under its id
  abbrev pub Has : Object → Type 0
  Has o = (s : Object) × (object_at known o.id ≡ Some s) × (s.content ≡ o.content)

  abbrev pub HasAll : List Object → Type 0
  HasAll objects = (o : Object) → In o objects → Has o

  pub same_content : (a b : Object) → Has a → Has b → a.id ≡ b.id → a.content ≡ b.content
  same_content a b x y e = sym x.2 ∙ ap (λ (o : Object). o.content) (some_is (sym x.1 ∙ ap (object_at known) e ∙ y.1)) ∙ y.2

  -- a leaf without entries is no tree with some
  empty_apart : (d : ℕ) (L M : List Leaf) (x : Bytes) (a : Leaf) → Good (suc d) L → Good (suc d) M → HasAll (shape_objects (suc d) L) → HasAll (shape_objects (suc d) M)
      → leaf_named x L ≡ Some a → a.mode ≡ Directory → a.id ≡ object_id tree (tree_text (shape_entries d (leaves_below x M))) → leaf_named x M ≡ None → In x (first_names L) → In x (first_names M) → ⊥
  empty_apart d L M x a g h all also e m id none i j = at d g h all also id (first_of x M j)
    where
      is : In a L × (a.names ≡ x ∷ [])
      is = leaf_found x L a e

      no_leaves : leaves_below x L ≡ []
      no_leaves = nothing (leaves_below x L) (λ l k. inside l (of_below x L l k))
        where
          inside : (l : Leaf) → Above x L l → ⊥
          inside l b = by l.names refl b.some
            where
              by : (names : List Bytes) → l.names ≡ names → 0 < length l.names → ⊥
              by [] n s = absurd (omega (arith, s, ap (λ (t : List Bytes). length t) n))
              by (z ∷ zs) n s = g.apart (under x l) a b.there (leaf_found x L a e).0 z zs (ap (λ (t : List Bytes). x ∷ t) n ∙ ap (λ (t : List Bytes). t ++ z ∷ zs) (sym (leaf_found x L a e).1))

      at : (d : ℕ) → Good (suc d) L → Good (suc d) M → HasAll (shape_objects (suc d) L) → HasAll (shape_objects (suc d) M) → a.id ≡ object_id tree (tree_text (shape_entries d (leaves_below x M)))
          → (l : Leaf) × (rest : List Bytes) × In l M × (l.names ≡ x ∷ rest) → ⊥
      at d g h all also id (l, [], k, n) = leaf_absent x M l none k n
      at zero g h all also id (l, z ∷ zs, k, n) = omega (arith, h.short l k, ap (λ (t : List Bytes). length t) n)
      at (suc d) g h all also id (l, z ∷ zs, k, n) =
          let own : Object = object_of tree (tree_text (shape_entries (suc d) (leaves_below x M))) in
          let other : Object = object_of tree (tree_text (shape_entries (suc d) [])) in
          let mine = entry_in (suc d) L x i in
          let yours = entry_in (suc d) M x j in
          let has_other = all other (tree_in (suc d) L (entry_of (suc d) L x) other mine (ap (λ (t : TreeEntry). t.mode) (entry_leaf (suc d) L x a e) ∙ m)
          (subst (λ (n : Bytes). In other (shape_objects (suc d) (leaves_below n L))) (sym (entry_name (suc d) L x)) (subst (λ (ls : List Leaf). In other (shape_objects (suc d) ls)) (sym no_leaves) (own_in d [])))) in
          let has_own = also own (tree_in (suc d) M (entry_of (suc d) M x) own yours (ap (λ (t : TreeEntry). t.mode) (entry_tree (suc d) M x none))
          (subst (λ (n : Bytes). In own (shape_objects (suc d) (leaves_below n M))) (sym (entry_name (suc d) M x)) (own_in d (leaves_below x M)))) in
          let empty : a.id ≡ object_id tree [] = (subst (λ (mode : Mode). IsRowId mode a.id a.content) m (g.rows a is.0)).0 in
          let ids : own.id ≡ other.id = sym id ∙ empty ∙ ap (object_id tree) (sym (blank_text d)) in
          let texts : tree_text (shape_entries (suc d) (leaves_below x M)) ≡ [] = same_content own other has_own has_other ids ∙ blank_text d in
          text_some (entry_of d (leaves_below x M) z) (shape_entries (suc d) (leaves_below x M))
          (entry_in d (leaves_below x M) z (in_first_names z (leaves_below x M) (without l z zs) zs (in_below x M l z zs k n) refl)) texts

  -- the blobs of one id have one content
  one_content : (d : ℕ) (L M : List Leaf) (x : Bytes) (a b : Leaf) → Good (suc d) L → Good (suc d) M → HasAll (shape_objects (suc d) L) → HasAll (shape_objects (suc d) M)
      → leaf_named x L ≡ Some a → leaf_named x M ≡ Some b → a.mode ≡ b.mode → a.id ≡ b.id → In x (first_names L) → In x (first_names M) → a.content ≡ b.content
  one_content d L M x a b g h all also e f m id i j = by a.mode refl
    where
      none : (mode : Mode) → (mode ≡ Directory) ⊎ (mode ≡ Gitlink) → (l : Leaf) → l.mode ≡ mode → IsRowId l.mode l.id l.content → l.content ≡ []
      none mode (inl q) l n r = (subst (λ (t : Mode). IsRowId t l.id l.content) (n ∙ q) r).1
      none mode (inr q) l n r = (subst (λ (t : Mode). IsRowId t l.id l.content) (n ∙ q) r).1

      both_none : (mode : Mode) → (mode ≡ Directory) ⊎ (mode ≡ Gitlink) → a.mode ≡ mode → a.content ≡ b.content
      both_none mode q n = none mode q a n (g.rows a (leaf_found x L a e).0) ∙ sym (none mode q b (sym m ∙ n) (h.rows b (leaf_found x M b f).0))

      has : (K : List Leaf) (l : Leaf) → HasAll (shape_objects (suc d) K) → leaf_named x K ≡ Some l → In x (first_names K) → is_directory l.mode ≡ false → is_blob_mode l.mode ≡ true → Has (record { id = l.id; kind = blob; content = l.content })
      has K l all e i dir isn =
          all _ (blob_in d K (entry_of d K x) (record { id = l.id; kind = blob; content = l.content }) (entry_in d K x i) (ap (λ (t : TreeEntry). is_directory t.mode) (entry_leaf d K x l e) ∙ dir)
          (subst (λ (n : Bytes). In (record { id = l.id; kind = blob; content = l.content }) (leaf_object (leaf_named n K))) (sym (entry_name d K x))
          (subst (λ (o : Option Leaf). In (record { id = l.id; kind = blob; content = l.content }) (leaf_object o)) (sym e) (rw isn (inl refl)))))

      blobs : is_directory a.mode ≡ false → is_blob_mode a.mode ≡ true → a.content ≡ b.content
      blobs dir isn = same_content (record { id = a.id; kind = blob; content = a.content }) (record { id = b.id; kind = blob; content = b.content }) (has L a all e i dir isn) (has M b also f j (ap is_directory (sym m) ∙ dir) (ap is_blob_mode (sym m) ∙ isn)) id

      by : (mode : Mode) → a.mode ≡ mode → a.content ≡ b.content
      by File n = blobs (ap is_directory n) (ap is_blob_mode n)
      by GroupFile n = blobs (ap is_directory n) (ap is_blob_mode n)
      by Exec n = blobs (ap is_directory n) (ap is_blob_mode n)
      by Link n = blobs (ap is_directory n) (ap is_blob_mode n)
      by Directory n = both_none Directory (inl refl) n
      by Gitlink n = both_none Gitlink (inr refl) n

  pub same_leaves : (n : ℕ) (L M : List Leaf) → Good n L → Good n M → HasAll (shape_objects n L) → HasAll (shape_objects n M)
      → object_id tree (tree_text (shape_entries n L)) ≡ object_id tree (tree_text (shape_entries n M)) → (l : Leaf) → In l L → In l M
  same_leaves zero L M g h all also id l i = absurd (omega (arith, g.some l i, g.short l i))
  same_leaves (suc d) L M g h all also id l i = by l.names refl (same_leaves d)
    where
      texts : tree_text (shape_entries (suc d) L) ≡ tree_text (shape_entries (suc d) M)
      texts = same_content (object_of tree (tree_text (shape_entries (suc d) L))) (object_of tree (tree_text (shape_entries (suc d) M))) (all _ (own_in d L)) (also _ (own_in d M)) id

      entries : shape_entries (suc d) L ≡ shape_entries (suc d) M
      entries = one_text (shape_entries (suc d) L) (shape_entries (suc d) M) (entries_fit d L g) (entries_fit d M h)
          (same_content (object_of tree (tree_text (shape_entries (suc d) L))) (object_of tree (tree_text (shape_entries (suc d) M))) (all _ (own_in d L)) (also _ (own_in d M)) id)

      Deeper : Type 0
      Deeper = (L M : List Leaf) → Good d L → Good d M → HasAll (shape_objects d L) → HasAll (shape_objects d M)
          → object_id tree (tree_text (shape_entries d L)) ≡ object_id tree (tree_text (shape_entries d M)) → (l : Leaf) → In l L → In l M

      below_all : (K : List Leaf) (x : Bytes) → HasAll (shape_objects (suc d) K) → leaf_named x K ≡ None → In x (first_names K) → HasAll (shape_objects d (leaves_below x K))
      below_all K x all none j o k = all o (tree_in d K (entry_of d K x) o (entry_in d K x j) (ap (λ (t : TreeEntry). t.mode) (entry_tree d K x none))
          (subst (λ (n : Bytes). In o (shape_objects d (leaves_below n K))) (sym (entry_name d K x)) k))

      match : Deeper → (x : Bytes) (rest : List Bytes) → l.names ≡ x ∷ rest → In x (first_names L) → In x (first_names M) → entry_of d L x ≡ entry_of d M x → In l M
      match deeper x rest n j k e = cases (leaf_named x L) refl (leaf_named x M) refl
        where
          split : (a : Leaf) → leaf_named x L ≡ Some a → (rest : List Bytes) → l.names ≡ x ∷ rest → l ≡ a
          split a p [] q = let f = leaf_found x L a p in g.one l a i f.0 (q ∙ sym f.1)
          split a p (z ∷ zs) q = let f = leaf_found x L a p in absurd (g.apart l a i f.0 z zs (q ∙ ap (λ (t : List Bytes). t ++ z ∷ zs) (sym f.1)))

          deep : leaf_named x L ≡ None → leaf_named x M ≡ None → (rest : List Bytes) → l.names ≡ x ∷ rest → In l M
          deep p q [] m = absurd (leaf_absent x L l p i m)
          deep p q (z ∷ zs) m =
              let ids = ap (λ (t : TreeEntry). t.id) (sym (entry_tree d L x p) ∙ e ∙ entry_tree d M x q) in
              let there = deeper (leaves_below x L) (leaves_below x M) (good_below d L x g) (good_below d M x h) (below_all L x all p j) (below_all M x also q k) ids (without l z zs) (in_below x L l z zs i m) in
              subst (λ (w : Leaf). In w M) (λ r. record { names = sym m r; mode = l.mode; id = l.id; content = l.content }) (of_below x M (without l z zs) there).there

          cases : (o : Option Leaf) → leaf_named x L ≡ o → (u : Option Leaf) → leaf_named x M ≡ u → In l M
          cases (Some a) p (Some b) q =
              let same = sym (entry_leaf d L x a p) ∙ e ∙ entry_leaf d M x b q in
              let mode : a.mode ≡ b.mode = ap (λ (t : TreeEntry). t.mode) same in
              let id : a.id ≡ b.id = ap (λ (t : TreeEntry). t.id) same in
              let content = one_content d L M x a b g h all also p q mode id j k in
              let names : a.names ≡ b.names = (leaf_found x L a p).1 ∙ sym (leaf_found x M b q).1 in
              let whole : b ≡ l = (λ r. record { names = sym names r; mode = sym mode r; id = sym id r; content = sym content r }) ∙ sym (split a p rest n) in
              subst (λ (w : Leaf). In w M) whole (leaf_found x M b q).0
          cases (Some a) p None q =
              let same = sym (entry_leaf d L x a p) ∙ e ∙ entry_tree d M x q in
              absurd (empty_apart d L M x a g h all also p (ap (λ (t : TreeEntry). t.mode) same) (ap (λ (t : TreeEntry). t.id) same) q j k)
          cases None p (Some b) q =
              let same = sym (entry_leaf d M x b q) ∙ sym e ∙ entry_tree d L x p in
              absurd (empty_apart d M L x b h g also all q (ap (λ (t : TreeEntry). t.mode) same) (ap (λ (t : TreeEntry). t.id) same) p k j)
          cases None p None q = deep p q rest n

      by : (names : List Bytes) → l.names ≡ names → Deeper → In l M
      by [] n deeper = absurd (omega (arith, g.some l i, ap (λ (t : List Bytes). length t) n))
      by (x ∷ rest) n deeper =
          let j = in_first_names x L l rest i n in
          let r = of_entry d M (entry_of d L x) (subst (λ (es : List TreeEntry). In (entry_of d L x) es) entries (entry_in d L x j)) in
          let same : x ≡ r.0 = sym (entry_name d L x) ∙ ap (λ (t : TreeEntry). t.name) r.2 ∙ entry_name d M r.0 in
          match deeper x rest n j (subst (λ (y : Bytes). In y (first_names M)) (sym same) r.1) (r.2 ∙ ap (entry_of d M) (sym same))
