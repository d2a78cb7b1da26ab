-- The files below an entry of a tree are found by the entry's name.
use Rattle.tree_shape.proofs.Rebuilding.{HasName, leaves-named, leaves-empty, below-put}
use Rattle.std.proofs.Common.{◌≡◌, ◌≢◌, ℕ, Bool, true, false, true≢false, not, ◌||◌, List, [], ◌∷◌, ◌++◌, map, Some, None, refl, sym, ap, subst, ◌∙◌, append-nil, inl, inr}
use Rattle.std.specs.Prelude.{bytes_eq, if◌then◌else◌}
use Rattle.std.specs.List.{flat_map, cons_option, list_any}
use Rattle.std.proofs.lemmas.List.Elements.{filter_map-append}
use Rattle.std.proofs.lemmas.Slice.Eq.{bytes_eq-Decides}
use Rattle.text_model.specs.Lists.{In, Each}
use Rattle.text_model.specs.Text.{Bytes}
use Rattle.text_model.specs.Id.{Id}
use Rattle.text_model.proofs.TestLemmas.{both, or_true}
use Rattle.text_model.proofs.Options.{not_true, some_none}
use Rattle.git_model.specs.Tree.{is_directory, TreeEntry, has_distinct}
use Rattle.git_model.specs.Object.{Object, tree_at}
use Rattle.git_model.specs.Shape.{Leaf, cut_name, leaves_below, is_named, leaf_named}
use Rattle.tree_shape.proofs.Leaves.{same, other}
use Rattle.git_model.specs.Unfold.{has_no_entries}
use Rattle.tree_shape.proofs.Rebuilding.{file-leaf}
use Rattle.tree_shape.specs.Wholes.{put_name, leaf_at, is_leaf, entry_leaves, leaves_in}
use Rattle.tree_shape.proofs.Unfolding.{no-entries}

-- ---- leaves of one entry

none-put : (name other : Bytes) (leaves : List Leaf) → Each HasName leaves → leaf_named name (map (put_name other) leaves) ≡ None
none-put name other [] h = refl
none-put name other (leaf ∷ leaves) h =
    ap (λ (names : List Bytes). if is_named name (other ∷ names) then Some (put_name other leaf) else leaf_named name (map (put_name other) leaves)) h.0.2
    ∙ none-put name other leaves h.1

cut-apart : (name first : Bytes) (leaf : Leaf) (names : List Bytes) → first ≢ name → cut_name name leaf (first ∷ names) ≡ None
cut-apart name first leaf [] h = refl
cut-apart name first leaf (next ∷ names) h = ap (λ (t : Bool). if t then Some (record { names = next ∷ names; mode = leaf.mode; id = leaf.id; content = leaf.content }) else None) (other first name h)

below-apart : (name first : Bytes) (leaves : List Leaf) → first ≢ name → leaves_below name (map (put_name first) leaves) ≡ []
below-apart name first [] h = refl
below-apart name first (leaf ∷ leaves) h = (λ k. cons_option (cut-apart name first (put_name first leaf) leaf.names h k) (below-apart name first leaves h k))

module _ (known : List Object) (below : Id → List Leaf) (named : (id : Id) → Each HasName (below id)) (empty : (id : Id) → tree_at known id ≡ Some [] → below id ≡ []) where
  -- another name finds nothing
  other-below : (name : Bytes) (e : TreeEntry) → e.name ≢ name → leaves_below name (entry_leaves known below e) ≡ []
  other-below name e h = by (is_leaf known e)
    where
      by : (t : Bool) → leaves_below name (if t then leaf_at e ∷ [] else map (put_name e.name) (below e.id)) ≡ []
      by true = refl
      by false = below-apart name e.name (below e.id) h

  other-named : (name : Bytes) (e : TreeEntry) → e.name ≢ name → leaf_named name (entry_leaves known below e) ≡ None
  other-named name e h = by (is_leaf known e)
    where
      by : (t : Bool) → leaf_named name (if t then leaf_at e ∷ [] else map (put_name e.name) (below e.id)) ≡ None
      by true = ap (λ (t : Bool). if t then Some (leaf_at e) else None) (other e.name name h)
      by false = none-put name e.name (below e.id) (named e.id)

  named-append : (name : Bytes) (xs ys : List Leaf) → leaf_named name xs ≡ None → leaf_named name (xs ++ ys) ≡ leaf_named name ys
  named-append name [] ys h = refl
  named-append name (x ∷ xs) ys h = by (is_named name x.names) h (named-append name xs ys)
    where
      by : (t : Bool) → (if t then Some x else leaf_named name xs) ≡ None → (leaf_named name xs ≡ None → leaf_named name (xs ++ ys) ≡ leaf_named name ys)
          → (if t then Some x else leaf_named name (xs ++ ys)) ≡ leaf_named name ys
      by true i rest = absurd (some_none {x = x} i)
      by false i rest = rest i

  below-append : (name : Bytes) (xs ys : List Leaf) → leaves_below name (xs ++ ys) ≡ leaves_below name xs ++ leaves_below name ys
  below-append name xs ys = filter_map-append (λ leaf. cut_name name leaf leaf.names) xs ys

  nothing-below : (name : Bytes) (entries : List TreeEntry) → ((e : TreeEntry) → In e entries → e.name ≢ name) → leaves_below name (flat_map (entry_leaves known below) entries) ≡ []
  nothing-below name [] h = refl
  nothing-below name (e ∷ entries) h =
      below-append name (entry_leaves known below e) (flat_map (entry_leaves known below) entries)
      ∙ (λ k. other-below name e (h e (inl refl)) k ++ nothing-below name entries (λ f i. h f (inr i)) k)

  same-below : (e : TreeEntry) → is_directory e.mode ≡ true → leaves_below e.name (entry_leaves known below e) ≡ below e.id
  same-below e d = by (is_leaf known e) refl
    where
      by : (t : Bool) → is_leaf known e ≡ t → leaves_below e.name (if t then leaf_at e ∷ [] else map (put_name e.name) (below e.id)) ≡ below e.id
      by true l = sym (empty e.id (no-entries (tree_at known e.id) (sym (ap (λ (t : Bool). not t || has_no_entries (tree_at known e.id)) d) ∙ l)))
      by false l = below-put e.name (below e.id) (named e.id)

  same-named : (e : TreeEntry) (rest : List Leaf) → is_directory e.mode ≡ false → leaf_named e.name (entry_leaves known below e ++ rest) ≡ Some (leaf_at e)
  same-named e rest d =
      ap (λ (t : Bool). leaf_named e.name ((if t then leaf_at e ∷ [] else map (put_name e.name) (below e.id)) ++ rest)) (file-leaf known e d)
      ∙ ap (λ (t : Bool). if t then Some (leaf_at e) else leaf_named e.name rest) (same e.name)

  -- a name stands in one entry
  apart : (e : TreeEntry) (entries : List TreeEntry) → has_distinct (map (λ e. e.name) (e ∷ entries)) ≡ true → (f : TreeEntry) → In f entries → e.name ≢ f.name
  apart e entries h f i q =
      let parts = both (not (list_any (bytes_eq e.name) (map (λ e. e.name) entries))) (has_distinct (map (λ e. e.name) entries)) h in
      true≢false (sym (any entries f i q) ∙ not_true (list_any (bytes_eq e.name) (map (λ e. e.name) entries)) parts.0)
    where
      any : (es : List TreeEntry) (f : TreeEntry) → In f es → e.name ≡ f.name → list_any (bytes_eq e.name) (map (λ e. e.name) es) ≡ true
      any [] f i q = absurd i
      any (g ∷ es) f i q = elim i [
        | inl p ↦ ap (λ (t : Bool). t || list_any (bytes_eq e.name) (map (λ e. e.name) es)) ((bytes_eq-Decides e.name g.name).1 (q ∙ ap (λ (x : TreeEntry). x.name) p))
        | inr j ↦ ap (λ (t : Bool). bytes_eq e.name g.name || t) (any es f j q) ∙ or_true (bytes_eq e.name g.name)
      ]

  rest-distinct : (e : TreeEntry) (entries : List TreeEntry) → has_distinct (map (λ e. e.name) (e ∷ entries)) ≡ true → has_distinct (map (λ e. e.name) entries) ≡ true
  rest-distinct e entries h = (both (not (list_any (bytes_eq e.name) (map (λ e. e.name) entries))) (has_distinct (map (λ e. e.name) entries)) h).1

  -- below the name of a directory stands what lies in it
  pub found-below : (entries : List TreeEntry) (e : TreeEntry) → has_distinct (map (λ e. e.name) entries) ≡ true → In e entries → is_directory e.mode ≡ true → leaves_below e.name (flat_map (entry_leaves known below) entries) ≡ below e.id
  found-below [] e h i d = absurd i
  found-below (f ∷ entries) e h i d = below-append e.name (entry_leaves known below f) (flat_map (entry_leaves known below) entries) ∙ elim i [
    | inl q ↦
        (λ k. leaves_below (ap (λ (x : TreeEntry). x.name) q k) (entry_leaves known below f) ++ leaves_below (ap (λ (x : TreeEntry). x.name) q k) (flat_map (entry_leaves known below) entries))
        ∙ (λ k. same-below f (ap (λ (x : TreeEntry). is_directory x.mode) (sym q) ∙ d) k ++ nothing-below f.name entries (λ g j r. apart f entries h g j (sym r)) k)
        ∙ append-nil (below f.id) ∙ ap (λ (x : TreeEntry). below x.id) (sym q)
    | inr j ↦ (λ k. other-below e.name f (apart f entries h e j) k ++ found-below entries e (rest-distinct f entries h) j d k)
  ]

  -- the name of a file finds it
  pub found-named : (entries : List TreeEntry) (e : TreeEntry) → has_distinct (map (λ e. e.name) entries) ≡ true → In e entries → is_directory e.mode ≡ false → leaf_named e.name (flat_map (entry_leaves known below) entries) ≡ Some (leaf_at e)
  found-named [] e h i d = absurd i
  found-named (f ∷ entries) e h i d = elim i [
    | inl q ↦ subst (λ (x : TreeEntry). leaf_named x.name (entry_leaves known below f ++ flat_map (entry_leaves known below) entries) ≡ Some (leaf_at x)) (sym q)
        (same-named f (flat_map (entry_leaves known below) entries) (ap (λ (x : TreeEntry). is_directory x.mode) (sym q) ∙ d))
    | inr j ↦ named-append e.name (entry_leaves known below f) (flat_map (entry_leaves known below) entries) (other-named e.name f (apart f entries h e j)) ∙ found-named entries e (rest-distinct f entries h) j d
  ]

pub tree-below : (known : List Object) (depth : ℕ) (entries : List TreeEntry) (e : TreeEntry) → has_distinct (map (λ e. e.name) entries) ≡ true → In e entries → is_directory e.mode ≡ true
    → leaves_below e.name (flat_map (entry_leaves known (leaves_in known depth)) entries) ≡ leaves_in known depth e.id
tree-below known depth = found-below known (leaves_in known depth) (leaves-named known depth) (leaves-empty known depth)

pub tree-named : (known : List Object) (depth : ℕ) (entries : List TreeEntry) (e : TreeEntry) → has_distinct (map (λ e. e.name) entries) ≡ true → In e entries → is_directory e.mode ≡ false
    → leaf_named e.name (flat_map (entry_leaves known (leaves_in known depth)) entries) ≡ Some (leaf_at e)
tree-named known depth = found-named known (leaves_in known depth) (leaves-named known depth) (leaves-empty known depth)
