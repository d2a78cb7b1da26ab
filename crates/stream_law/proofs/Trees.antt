-- The trees of leaves with fit names are those of their entries: they have no fault.
use Rattle.std.proofs.Common.{◌≡◌, ℕ, suc, Bool, true, false, true≢false, not, List, [], ◌∷◌, map, Option, Some, None, refl, sym, ap, subst, ◌∙◌, inl, inr}
use Rattle.std.specs.Prelude.{bytes_eq, IsTrue}
use Rattle.std.specs.List.{filter_map, list_any}
use Rattle.std.proofs.lemmas.Slice.Eq.{bytes_eq-Decides}
use Rattle.text_model.specs.Lists.{Each, In, rises}
use Rattle.text_model.specs.Text.{Bytes, IsBytes, is_below, has_byte}
use Rattle.text_model.specs.Id.{IsId, tree}
use Rattle.text_model.specs.Path.{is_fit_path, is_fit_name}
use Rattle.text_model.proofs.Digests.{IsId-object_id}
use Rattle.text_model.proofs.Elements.{each_from, each_in, none_all}
use Rattle.text_model.proofs.Options.{not_true}
use Rattle.text_model.proofs.OrderLemmas.{is_below-irreflexive}
use Rattle.text_model.proofs.TestLemmas.{both}
use Rattle.git_model.specs.Tree.{TreeEntry, tree_text, tree_fault, sort_name, is_entry_below, IsTree, has_distinct}
use Rattle.git_model.specs.Shape.{Leaf, first_name_of, first_names, leaves_below, leaf_named, shape_entries}
use Rattle.git_model.proofs.SortLemmas.{Distinct, Ascends, order-ascends}
use Rattle.git_model.proofs.TreeTextLemmas.{tree_fault-text}
use Rattle.tree_shape.proofs.Sorted.{same-sort}
use Rattle.dump_law.proofs.Elements.{of-map}
use Rattle.dump_law.proofs.Trees.{entry_of, entry_leaf, entry_tree, entry_name, of_entry, first_of, leaf_found, of_below, under}
use Rattle.stream_law.proofs.Names.{distinct-first}

-- leaves with fit names and with ids
pub record AreFit (L : List Leaf) : Type 0 where
  pub names : (l : Leaf) → In l L → Each (λ name. (is_fit_name name ≡ true) × IsBytes name) l.names
  pub ids : (l : Leaf) → In l L → IsId l.id

pub fit-below : (x : Bytes) (L : List Leaf) → AreFit L → AreFit (leaves_below x L)
fit-below x L f = record { names = λ l i. (f.names (under x l) (of_below x L l i).there).1; ids = λ l i. f.ids (under x l) (of_below x L l i).there }

fit-first : (L : List Leaf) → AreFit L → (x : Bytes) → In x (first_names L) → (is_fit_name x ≡ true) × IsBytes x
fit-first L f x i = let r = first_of x L i in (subst (Each (λ name. (is_fit_name name ≡ true) × IsBytes name)) r.3 (f.names r.0 r.2)).0

abbrev key : TreeEntry → Bytes
key e = sort_name e.mode e.name

abbrev IsEntry : TreeEntry → Type 0
IsEntry e = IsTrue (is_fit_name e.name) × IsBytes e.name × IsId e.id

-- ---- the entries of a tree

entry-fit : (d : ℕ) (L : List Leaf) → AreFit L → (e : TreeEntry) → In e (shape_entries (suc d) L) → IsEntry e
entry-fit d L f e i = let r = of_entry d L e i in subst IsEntry (sym r.2) (by r.0 (fit-first L f r.0 r.1) (leaf_named r.0 L) refl)
  where
    by : (x : Bytes) → (is_fit_name x ≡ true) × IsBytes x → (o : Option Leaf) → leaf_named x L ≡ o → IsEntry (entry_of d L x)
    by x n None at = subst IsEntry (sym (entry_tree d L x at)) (n.0, n.1, IsId-object_id tree _)
    by x n (Some l) at = subst IsEntry (sym (entry_leaf d L x l at)) (n.0, n.1, f.ids l (leaf_found x L l at).0)

no-slash : (name : Bytes) → is_fit_name name ≡ true → has_byte 47 name ≡ false
no-slash name h = not_true (has_byte 47 name) (both (is_fit_path name) (not (has_byte 47 name)) h).1

entries-distinct : (d : ℕ) (L : List Leaf) → AreFit L → Distinct key (map (entry_of d L) (first_names L))
entries-distinct d L f = distinct-first (entry_of d L) key (filter_map first_name_of L) (λ x y i j e.
    sym (entry_name d L x)
    ∙ same-sort (entry_of d L x) (entry_of d L y)
    (ap (has_byte 47) (entry_name d L x) ∙ no-slash x (fit-first L f x i).0)
    (ap (has_byte 47) (entry_name d L y) ∙ no-slash y (fit-first L f y j).0) e
    ∙ entry_name d L y)

entries-ascend : (d : ℕ) (L : List Leaf) → AreFit L → Ascends key (shape_entries (suc d) L)
unfolding shape_entries
entries-ascend d L f = order-ascends key (map (entry_of d L) (first_names L)) (entries-distinct d L f)

ascends-up : (es : List TreeEntry) → Ascends key es → rises is_entry_below es ≡ true
ascends-up [] h = refl
ascends-up (e ∷ []) h = refl
ascends-up (e ∷ f ∷ es) h = rw (h.0.0, ascends-up (f ∷ es) h.1) refl

-- an entry is known by its name
names-distinct : (the : Bytes → TreeEntry) (es : List TreeEntry) → Ascends key es → ((e : TreeEntry) → In e es → e ≡ the e.name) → has_distinct (map (λ (e : TreeEntry). e.name) es) ≡ true
names-distinct the [] up is = refl
names-distinct the (e ∷ es) up is =
    let none : list_any (bytes_eq e.name) (map (λ (x : TreeEntry). x.name) es) ≡ false =
    none_all (bytes_eq e.name) (map (λ (x : TreeEntry). x.name) es) (λ name i. let r = of-map (λ (x : TreeEntry). x.name) name es i in other r.0 r.1 name r.2) in
    rw (none, names-distinct the es up.1 (λ x i. is x (inr i))) refl
  where
    other : (x : TreeEntry) → In x es → (name : Bytes) → name ≡ x.name → bytes_eq e.name name ≡ false
    other x i name q = by (bytes_eq e.name name) refl
      where
        by : (t : Bool) → bytes_eq e.name name ≡ t → bytes_eq e.name name ≡ false
        by false t = t
        by true t =
            let named : e.name ≡ x.name = (bytes_eq-Decides e.name name).0 t ∙ q in
            let same : x ≡ e = is x (inr i) ∙ ap the (sym named) ∙ sym (is e (inl refl)) in
            let below : is_below (key e) (key e) ≡ true = subst (λ (z : TreeEntry). is_below (key e) (key z) ≡ true) same (each_in (λ z. is_below (key e) (key z) ≡ true) es x up.0 i) in
            absurd (true≢false (sym below ∙ is_below-irreflexive (key e)))

entries-tree : (d : ℕ) (L : List Leaf) → AreFit L → IsTree (shape_entries (suc d) L)
entries-tree d L f = (
  each_from IsEntry (shape_entries (suc d) L) (entry-fit d L f),
  ascends-up (shape_entries (suc d) L) (entries-ascend d L f),
  names-distinct (entry_of d L) (shape_entries (suc d) L) (entries-ascend d L f) (λ e i.
      let r = of_entry d L e i in
      r.2 ∙ ap (entry_of d L) (sym (ap (λ (x : TreeEntry). x.name) r.2 ∙ entry_name d L r.0))),
)

pub no-tree_fault : (d : ℕ) (L : List Leaf) → AreFit L → tree_fault (tree_text (shape_entries (suc d) L)) ≡ None
no-tree_fault d L f = tree_fault-text (tree_text (shape_entries (suc d) L)) (shape_entries (suc d) L) (entries-tree d L f, refl)
