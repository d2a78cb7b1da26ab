-- The rows of a commit as leaves of its tree.
use Rattle.std.proofs.Common.{◌≡◌, ◌≢◌, ◌<◌, ◌≤◌, ℕ, Bool, true, false, true≢false, ◌==◌, List, [], ◌∷◌, ◌++◌, length, take, map, refl, sym, ap, subst, ◌∙◌, arith, append_assoc}
use Rattle.std.specs.Prelude.{nat_le, IsTrue}
use Rattle.std.specs.List.{list_any, slice_split, join_with_byte}
use Rattle.std.specs.Cmp.Lexicographic.{pointwise}
use Rattle.std.proofs.lemmas.Bool.{eq-eqb}
use Rattle.std.proofs.lemmas.Bool.Decides.{nat_tests}
use Rattle.std.proofs.lemmas.List.{take_at}
use Rattle.std.proofs.lemmas.List.Splits.{join_with_byte-slice_split, length-slice_split}
use Rattle.text_model.specs.Lists.{Each, In}
use Rattle.text_model.specs.Text.{Bytes, IsBytes}
use Rattle.text_model.specs.Id.{Id, IsId, blob, tree, object_id}
use Rattle.text_model.specs.Cuts.{Lacks}
use Rattle.text_model.specs.Path.{components, is_fit_path, lies_below}
use Rattle.text_model.proofs.TestLemmas.{both}
use Rattle.text_model.proofs.Digests.{IsId-object_id}
use Rattle.text_model.proofs.Elements.{each_in, in_map, none_in}
use Rattle.hg_model.proofs.EntryLemmas.{is_fit_path-plain}
use Rattle.git_model.specs.Tree.{Mode, File, GroupFile, Exec, Link, Directory, Gitlink, tree_text}
use Rattle.git_model.specs.Object.{Object}
use Rattle.git_model.specs.Shape.{Leaf, shape_depth, shape_entries, shape_objects}
use Rattle.git_model.proofs.SortLemmas.{Ascends, rises-ascends, ascends-one}
use Rattle.view_model.specs.View.{CommitView, IsCommitView, TreeRow, leaf_of_row, root_of_rows, tree_paths, IsRowId}
use Rattle.dump_law.proofs.Elements.{of-map, one_of_key}
use Rattle.dump_law.proofs.Trees.{Good, HasAll, same_leaves}

-- ---- the components of a path

pub no_part_with : (P : ℕ → Type 0) (p : ℕ → Bool) (path : Bytes) → Each P path → Each (Each P) (slice_split p path)
no_part_with P p [] h = (tt, tt)
no_part_with P p (x ∷ xs) h = by (p x) refl (slice_split p xs) refl (no_part_with P p xs h.1)
  where
    by : (t : Bool) → p x ≡ t → (parts : List Bytes) → slice_split p xs ≡ parts → Each (Each P) (slice_split p xs) → Each (Each P) (slice_split p (x ∷ xs))
    by true e parts f go = rw e (tt, go)
    by false e [] f go = rw (e, f) ((h.0, tt), tt)
    by false e (part ∷ parts) f go = let r = subst (Each (Each P)) f go in rw (e, f) ((h.0, r.0), r.1)

pub some_parts : (path : Bytes) → 0 < length (components path)
some_parts path = omega (arith, length-slice_split (λ b. b == 47) path)

pub few_parts : (path : Bytes) → is_fit_path path ≡ true → length (components path) ≤ 256
unfolding is_fit_path
few_parts path h =
    let six = both _ _ h in
    let five = both _ _ six.0 in
    let four = both _ _ five.0 in
    let three = both _ _ four.0 in
    let two = both _ _ three.0 in
    small two.1
  where
    small : nat_le (length (components path)) 256 ≡ true → length (components path) ≤ 256
    small t = grind (arith, t, nat_tests)

one_path : (p q : Bytes) → components p ≡ components q → p ≡ q
one_path p q e = sym (join_with_byte-slice_split 47 p) ∙ ap (join_with_byte 47) e ∙ join_with_byte-slice_split 47 q

join_further : (parts : List Bytes) (x : Bytes) (rest : List Bytes) → 0 < length parts → join_with_byte 47 (parts ++ x ∷ rest) ≡ (join_with_byte 47 parts ++ 47 ∷ []) ++ join_with_byte 47 (x ∷ rest)
join_further [] x rest h = absurd (omega (arith, h))
join_further (a ∷ []) x rest h = sym (append_assoc a (47 ∷ []) (join_with_byte 47 (x ∷ rest)))
join_further (a ∷ b ∷ parts) x rest h =
    ap (λ (l : Bytes). a ++ (47 ∷ l)) (join_further (b ∷ parts) x rest (omega arith))
    ∙ sym (append_assoc a (47 ∷ (join_with_byte 47 (b ∷ parts) ++ 47 ∷ [])) (join_with_byte 47 (x ∷ rest)))
    ∙ ap (λ (l : Bytes). l ++ join_with_byte 47 (x ∷ rest)) (sym (append_assoc a (47 ∷ join_with_byte 47 (b ∷ parts)) (47 ∷ [])))

pointwise_self : (xs : Bytes) → pointwise ◌==◌ xs xs ≡ true
pointwise_self [] = refl
pointwise_self (x ∷ xs) = rw (eq-eqb x x refl) (pointwise_self xs)

lies : (p q : Bytes) (x : Bytes) (rest : List Bytes) → components p ≡ components q ++ x ∷ rest → lies_below p q ≡ true
lies p q x rest e =
    let whole : p ≡ (q ++ 47 ∷ []) ++ join_with_byte 47 (x ∷ rest) =
    sym (join_with_byte-slice_split 47 p) ∙ ap (join_with_byte 47) e ∙ join_further (components q) x rest (some_parts q) ∙ ap (λ (l : Bytes). (l ++ 47 ∷ []) ++ join_with_byte 47 (x ∷ rest)) (join_with_byte-slice_split 47 q) in
    ap (λ (l : Bytes). pointwise ◌==◌ (q ++ 47 ∷ []) (take (length (q ++ 47 ∷ [])) l)) whole
    ∙ ap (pointwise ◌==◌ (q ++ 47 ∷ [])) (take_at (q ++ 47 ∷ []) (join_with_byte 47 (x ∷ rest)) (length (q ++ 47 ∷ [])) refl)
    ∙ pointwise_self (q ++ 47 ∷ [])

-- ---- rows

pub row_id : (mode : Mode) (id : Id) (content : Bytes) → IsRowId mode id content → IsId id
row_id Directory id content h = subst IsId (sym h.0) (IsId-object_id tree [])
row_id Gitlink id content h = h.0
row_id File id content h = subst IsId (sym h) (IsId-object_id blob content)
row_id GroupFile id content h = subst IsId (sym h) (IsId-object_id blob content)
row_id Exec id content h = subst IsId (sym h) (IsId-object_id blob content)
row_id Link id content h = subst IsId (sym h) (IsId-object_id blob content)

abbrev pub IsGoodRow : TreeRow → Type 0
IsGoodRow row = IsTrue (is_fit_path row.path) × IsBytes row.path × IsBytes row.content × IsRowId row.mode row.id row.content

abbrev pub path_of : TreeRow → Bytes
path_of row = row.path

pub rows_up : (c : CommitView) → IsCommitView c → Ascends path_of c.rows
rows_up c v = rises-ascends path_of c.rows v.in_order

pub rows_free : (c : CommitView) → IsCommitView c → (a b : TreeRow) → In a c.rows → In b c.rows → lies_below a.path b.path ≡ false
rows_free c v a b i j =
    none_in (lies_below a.path) (tree_paths c.rows) b.path
    (none_in (λ path. list_any (lies_below path) (tree_paths c.rows)) (tree_paths c.rows) a.path v.no_clash (in_map path_of a c.rows i)) (in_map path_of b c.rows j)

row_back : (a b : TreeRow) → leaf_of_row a ≡ leaf_of_row b → a ≡ b
row_back a b e =
    let path : a.path ≡ b.path = one_path a.path b.path (ap (λ (l : Leaf). l.names) e) in
    (λ i. record { path = path i; mode = (e i).mode; id = (e i).id; content = (e i).content })

pub leaves_good : (c : CommitView) → IsCommitView c → Good shape_depth (map leaf_of_row c.rows)
leaves_good c v = record {
  some = λ l i. let r = of-map leaf_of_row l c.rows i in subst (λ (x : Leaf). 0 < length x.names) (sym r.2) (some_parts r.0.path);
  short = λ l i. let r = of-map leaf_of_row l c.rows i in subst (λ (x : Leaf). length x.names ≤ 257) (sym r.2) (omega (arith, few_parts r.0.path (each_in IsGoodRow c.rows r.0 v.rows r.1).0));
  names = λ l i. let r = of-map leaf_of_row l c.rows i in
      subst (λ (x : Leaf). Each (Lacks 0) x.names) (sym r.2) (no_part_with (λ x. x ≢ 0) (λ b. b == 47) r.0.path (is_fit_path-plain r.0.path (each_in IsGoodRow c.rows r.0 v.rows r.1).0).no_nul);
  rows = λ l i. let r = of-map leaf_of_row l c.rows i in subst (λ (x : Leaf). IsRowId x.mode x.id x.content) (sym r.2) (each_in IsGoodRow c.rows r.0 v.rows r.1).3;
  ids = λ l i. let r = of-map leaf_of_row l c.rows i in subst (λ (x : Leaf). length x.id ≡ 20) (sym r.2) (row_id r.0.mode r.0.id r.0.content (each_in IsGoodRow c.rows r.0 v.rows r.1).3).0;
  one = λ a b i j e.
      let r = of-map leaf_of_row a c.rows i in
      let s = of-map leaf_of_row b c.rows j in
      let path : r.0.path ≡ s.0.path = one_path r.0.path s.0.path (ap (λ (l : Leaf). l.names) (sym r.2) ∙ e ∙ ap (λ (l : Leaf). l.names) s.2) in
      r.2 ∙ ap leaf_of_row (one_of_key path_of c.rows (rows_up c v) r.0 s.0 r.1 s.1 path) ∙ sym s.2;
  apart = λ a b i j x rest e.
      let r = of-map leaf_of_row a c.rows i in
      let s = of-map leaf_of_row b c.rows j in
      true≢false (sym (lies r.0.path s.0.path x rest (ap (λ (l : Leaf). l.names) (sym r.2) ∙ e ∙ ap (λ (l : Leaf). l.names ++ x ∷ rest) s.2)) ∙ rows_free c v r.0 s.0 r.1 s.1);
}

pub root_is : (c : CommitView) → root_of_rows c.rows ≡ object_id tree (tree_text (shape_entries shape_depth (map leaf_of_row c.rows)))
unfolding root_of_rows
root_is c = refl

pub same_rows : (known : List Object) (c d : CommitView) → IsCommitView c → IsCommitView d → HasAll known (shape_objects shape_depth (map leaf_of_row c.rows)) → HasAll known (shape_objects shape_depth (map leaf_of_row d.rows))
    → (c.value).tree_id ≡ (d.value).tree_id → c.rows ≡ d.rows
same_rows known c d v w all also e =
    let roots : object_id tree (tree_text (shape_entries shape_depth (map leaf_of_row c.rows))) ≡ object_id tree (tree_text (shape_entries shape_depth (map leaf_of_row d.rows))) =
    sym (root_is c) ∙ sym v.agrees ∙ e ∙ w.agrees ∙ root_is d in
    ascends-one path_of c.rows d.rows (rows_up c v) (rows_up d w)
    (λ row i. back d row (same_leaves known shape_depth (map leaf_of_row c.rows) (map leaf_of_row d.rows) (leaves_good c v) (leaves_good d w) all also roots (leaf_of_row row) (in_map leaf_of_row row c.rows i)))
    (λ row i. back c row (same_leaves known shape_depth (map leaf_of_row d.rows) (map leaf_of_row c.rows) (leaves_good d w) (leaves_good c v) also all (sym roots) (leaf_of_row row) (in_map leaf_of_row row d.rows i)))
  where
    back : (k : CommitView) (row : TreeRow) → In (leaf_of_row row) (map leaf_of_row k.rows) → In row k.rows
    back k row i = let r = of-map leaf_of_row (leaf_of_row row) k.rows i in subst (λ (x : TreeRow). In x k.rows) (sym (row_back row r.0 r.2)) r.1
