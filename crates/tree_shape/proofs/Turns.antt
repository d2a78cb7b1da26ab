-- The turns of the loop over the names of rows.
use Rattle.std.proofs.Common.{◌≡◌, ◌≤◌, ◌<◌, ◌+◌, ◌-◌, ℕ, suc, Bool, true, false, List, [], ◌∷◌, ◌++◌, length, take, drop, get_or, map, Some, None, refl, sym, ap, subst, ◌∙◌, append_assoc, arith}
use Rattle.std.specs.Prelude.{if◌then◌else◌, slice_get}
use Rattle.std.specs.List.{prefix_len}
use Rattle.std.proofs.lemmas.List.{drop-drop, drop-map, take-map, map-append, take-append-drop, length-map, length-drop}
use Rattle.std.proofs.Math.Seq.{drop-cons}
use Rattle.text_model.specs.Lists.{Each}
use Rattle.text_model.specs.Text.{Bytes}
use Rattle.text_model.specs.Id.{Id, tree, object_id}
use Rattle.text_model.specs.Cuts.{cut_of}
use Rattle.git_model.specs.Tree.{Directory, is_directory, TreeEntry, tree_entry_text, tree_text}
use Rattle.git_model.specs.Object.{Object, object_of}
use Rattle.git_model.specs.Unfold.{FileRow}
use Rattle.git_model.specs.Shape.{leaf_of, shape_entries, shape_objects}
use Rattle.tree_shape.specs.Shapes.{short, shorts, entries_in, trees_in, id_of_rows, trees_of_rows, row_trees, Good, is_in}
use Rattle.tree_shape.proofs.Rows.{Splits, deep, in-is, good-rest, good-front, shorter, shorter-good}
use Rattle.tree_shape.proofs.PutRows.{entries-dir, trees-dir, entries-file, trees-file, trees-empty, text-step}
use Rattle.tree_shape.proofs.Sorted.{id-is, trees-are}

-- ---- counting

pub count-next : (skip : ℕ) (rows : List FileRow) (i : ℕ) (a : FileRow) → i < length rows → a ≡ get_or rows i a → drop i (shorts skip rows) ≡ short skip a ∷ drop (i + 1) (shorts skip rows)
count-next skip rows i a lt is =
    let one : suc i ≡ i + 1 = omega arith in
    drop-map (short skip) i rows
    ∙ ap (map (short skip)) (drop-cons rows i a lt ∙ ap (λ (x : FileRow). x ∷ drop (suc i) rows) (sym is) ∙ ap (λ (n : ℕ). a ∷ drop n rows) one)
    ∙ ap (λ (r : List FileRow). short skip a ∷ r) (sym (drop-map (short skip) (i + 1) rows))

pub count-stops : (p : FileRow → Bool) (i n : ℕ) (x : FileRow) (xs ys : List FileRow) → n ≡ i + prefix_len p ys → ys ≡ x ∷ xs → p x ≡ false → n ≡ i
count-stops p i n x xs ys h e f = omega (arith, h, ap (prefix_len p) e ∙ ap (λ (b : Bool). if b then 1 + prefix_len p xs else 0) f)

pub count-goes : (p : FileRow → Bool) (i n : ℕ) (x : FileRow) (xs ys : List FileRow) → n ≡ i + prefix_len p ys → ys ≡ x ∷ xs → p x ≡ true → n ≡ (i + 1) + prefix_len p xs
count-goes p i n x xs ys h e f = omega (arith, h, ap (prefix_len p) e ∙ ap (λ (b : Bool). if b then 1 + prefix_len p xs else 0) f)

-- ---- a split behind the first rows that pass

prefix-within : (p : FileRow → Bool) (xs : List FileRow) → prefix_len p xs ≤ length xs
prefix-within p [] = omega arith
prefix-within p (x ∷ xs) = by (p x) (prefix-within p xs)
  where
    by : (b : Bool) → prefix_len p xs ≤ length xs → (if b then 1 + prefix_len p xs else 0) ≤ suc (length xs)
    by true h = omega (arith, h)
    by false h = omega arith

pub count-within : (name : Bytes) (skip count : ℕ) (rows : List FileRow) → count ≡ prefix_len (is_in name) (shorts skip rows) → count ≤ length rows
count-within name skip count rows h = omega (arith, h, prefix-within (is_in name) (shorts skip rows), length-map rows (short skip))

pub prefix-all : (p : FileRow → Bool) (xs : List FileRow) → Each (λ x. p x ≡ true) (take (prefix_len p xs) xs)
prefix-all p [] = tt
prefix-all p (x ∷ xs) = by (p x) refl (prefix-all p xs)
  where
    by : (b : Bool) → p x ≡ b → Each (λ y. p y ≡ true) (take (prefix_len p xs) xs) → Each (λ y. p y ≡ true) (take (if b then 1 + prefix_len p xs else 0) (x ∷ xs))
    by true e h = let one : suc (prefix_len p xs) ≡ 1 + prefix_len p xs = omega arith in subst (λ (n : ℕ). Each (λ y. p y ≡ true) (take n (x ∷ xs))) one (e, h)
    by false e h = tt

pub prefix-stops : (p : FileRow → Bool) (xs : List FileRow) (q : FileRow) (more : List FileRow) → drop (prefix_len p xs) xs ≡ q ∷ more → p q ≡ false
prefix-stops p [] q more h = absurd cc
prefix-stops p (x ∷ xs) q more h = by (p x) refl h (prefix-stops p xs q more)
  where
    by : (b : Bool) → p x ≡ b → drop (if b then 1 + prefix_len p xs else 0) (x ∷ xs) ≡ q ∷ more → (drop (prefix_len p xs) xs ≡ q ∷ more → p q ≡ false) → p q ≡ false
    by true e h rec = let one : suc (prefix_len p xs) ≡ 1 + prefix_len p xs = omega arith in rec (subst (λ (n : ℕ). drop n (x ∷ xs) ≡ q ∷ more) (sym one) h)
    by false e h rec = let is : x ≡ q = cc in sym (ap p is) ∙ e

-- ---- shorter rows

pub shorts-more : (skip : ℕ) (name : Bytes) (rows : List FileRow) → shorts (skip + length name + 1) rows ≡ map (shorter name) (shorts skip rows)
shorts-more skip name [] = refl
shorts-more skip name (r ∷ rows) =
    let same : skip + (length name + 1) ≡ skip + length name + 1 = omega arith in
    (λ k. record { path = (ap (λ (n : ℕ). drop n r.path) (sym same) ∙ sym (drop-drop (length name + 1) skip r.path)) k; mode = r.mode; id = r.id } ∷ shorts-more skip name rows k)

-- ---- a turn at a directory

pub record GroupTurn (depth skip : ℕ) (name : Bytes) (rows front back : List FileRow) : Type 0 where
  pub good_back : Good (shorts skip back)
  pub good_front : Good (shorts (skip + length name + 1) front)
  pub less : length back < length rows
  pub entries : entries_in depth (map leaf_of (shorts skip rows))
      ≡ record { mode = Directory; name = name; id = id_of_rows depth (shorts (skip + length name + 1) front) } ∷ entries_in depth (map leaf_of (shorts skip back))
  pub trees : trees_in depth (map leaf_of (shorts skip rows)) ≡ trees_of_rows depth (shorts (skip + length name + 1) front) ++ trees_in depth (map leaf_of (shorts skip back))

pub some-first : (a b : FileRow) → Some a ≡ Some b → a ≡ b
some-first a b h = cc

pub group-turn : (depth skip : ℕ) (name after : Bytes) (rows front back : List FileRow) (first : FileRow) (count : ℕ) → Some first ≡ slice_get rows 0
    → Some (name, after) ≡ cut_of 47 (drop skip first.path) → count ≡ prefix_len (is_in name) (shorts skip rows) → front ≡ take count rows → back ≡ drop count rows → Good (shorts skip rows)
    → GroupTurn depth skip name rows front back
group-turn depth skip name after [] front back first count f c n p q g = absurd (none f)
  where
    none : Some first ≡ None → ⊥
    none e = cc
group-turn depth skip name after (r ∷ rows) front back first count f c n p q g =
    let is : first ≡ r = some-first first r f in
    let d = deep (short skip r).path name after (sym (c ∙ ap (λ (x : FileRow). cut_of 47 (drop skip x.path)) is)) in
    let yes_in : is_in name (short skip r) ≡ true = in-is name after (short skip r) d.plain d.is in
    let m : ℕ = prefix_len (is_in name) (shorts skip rows) in
    let one : count ≡ suc m = omega (arith, n ∙ ap (λ (b : Bool). if b then 1 + m else 0) yes_in) in
    let front_is : front ≡ r ∷ take m rows = p ∙ ap (λ (k : ℕ). take k (r ∷ rows)) one in
    let back_is : back ≡ drop m rows = q ∙ ap (λ (k : ℕ). drop k (r ∷ rows)) one in
    let G : List FileRow = shorts skip (take m rows) in
    let R : List FileRow = shorts skip (drop m rows) in
    let whole : shorts skip rows ≡ G ++ R = ap (shorts skip) (sym (take-append-drop m rows)) ∙ map-append (short skip) (take m rows) (drop m rows) in
    let good : Good (short skip r ∷ (G ++ R)) = subst (λ (s : List FileRow). Good (short skip r ∷ s)) whole g in
    let splits : Splits name (short skip r) G R = record {
      all = (yes_in, subst (λ (s : List FileRow). Each (λ t. is_in name t ≡ true) s) (take-map (short skip) m rows) (prefix-all (is_in name) (shorts skip rows)));
      stops = λ t more e. prefix-stops (is_in name) (shorts skip rows) t more (drop-map (short skip) m rows ∙ e);
    } in
    let front_short : shorts (skip + length name + 1) front ≡ map (shorter name) (short skip r ∷ G) = shorts-more skip name front ∙ ap (λ (s : List FileRow). map (shorter name) (shorts skip s)) front_is in
    let back_short : shorts skip back ≡ R = ap (shorts skip) back_is in
    record {
      good_back = subst (λ (s : List FileRow). Good s) (sym back_short) (good-rest G R good.2);
      good_front = subst (λ (s : List FileRow). Good s) (sym front_short) (shorter-good name (short skip r ∷ G) splits.all (good-front (short skip r ∷ G) R good));
      less = omega (arith, ap (λ (s : List FileRow). length s) back_is, length-drop m rows);
      entries =
          ap (λ (s : List FileRow). entries_in depth (map leaf_of (short skip r ∷ s))) whole
          ∙ entries-dir depth name (short skip r) G R good splits
          ∙ (λ k. record { mode = Directory; name = name; id = id_of_rows depth (sym front_short k) } ∷ entries_in depth (map leaf_of (sym back_short k)));
      trees =
          ap (λ (s : List FileRow). trees_in depth (map leaf_of (short skip r ∷ s))) whole
          ∙ trees-dir depth name (short skip r) G R good splits
          ∙ (λ k. trees_of_rows depth (sym front_short k) ++ trees_in depth (map leaf_of (sym back_short k)));
    }

-- ---- a turn at a file

pub record FileTurn (depth skip : ℕ) (first : FileRow) (rows back : List FileRow) : Type 0 where
  pub good_back : Good (shorts skip back)
  pub less : length back < length rows
  pub entries : entries_in depth (map leaf_of (shorts skip rows))
      ≡ record { mode = first.mode; name = drop skip first.path; id = first.id } ∷ entries_in depth (map leaf_of (shorts skip back))
  pub trees : trees_in depth (map leaf_of (shorts skip rows)) ≡ row_trees depth first ++ trees_in depth (map leaf_of (shorts skip back))
  pub empty : is_directory first.mode ≡ true → first.id ≡ object_id tree []

pub file-turn : (depth skip : ℕ) (rows back : List FileRow) (first : FileRow) → Some first ≡ slice_get rows 0 → None ≡ cut_of 47 (drop skip first.path) → back ≡ drop 1 rows → Good (shorts skip rows)
    → FileTurn depth skip first rows back
file-turn depth skip [] back first f c q g = absurd (none f)
  where
    none : Some first ≡ None → ⊥
    none e = cc
file-turn depth skip (r ∷ rows) back first f c q g =
    let is : first ≡ r = some-first first r f in
    let e : cut_of 47 (short skip r).path ≡ None = sym (c ∙ ap (λ (x : FileRow). cut_of 47 (drop skip x.path)) is) in
    record {
      good_back = subst (λ (s : List FileRow). Good (shorts skip s)) (sym q) g.2;
      less = omega (arith, ap (λ (s : List FileRow). length s) q);
      entries =
          entries-file depth (short skip r) (shorts skip rows) g e
          ∙ (λ k. record { mode = (sym is k).mode; name = drop skip (sym is k).path; id = (sym is k).id } ∷ entries_in depth (map leaf_of (shorts skip (sym q k))));
      trees = by (is_directory r.mode) refl ∙ (λ k. row_trees depth (sym is k) ++ trees_in depth (map leaf_of (shorts skip (sym q k))));
      empty = λ d. ap (λ (x : FileRow). x.id) is ∙ g.0.empty (sym (ap (λ (x : FileRow). is_directory x.mode) is) ∙ d);
    }
  where
    by : (t : Bool) → is_directory r.mode ≡ t → trees_in depth (map leaf_of (short skip r ∷ shorts skip rows)) ≡ (if t then trees_of_rows depth [] else []) ++ trees_in depth (map leaf_of (shorts skip rows))
    by true d = trees-empty depth (short skip r) (shorts skip rows) g (sym (c ∙ ap (λ (x : FileRow). cut_of 47 (drop skip x.path)) (some-first first r f))) d
    by false d = trees-file depth (short skip r) (shorts skip rows) g (sym (c ∙ ap (λ (x : FileRow). cut_of 47 (drop skip x.path)) (some-first first r f))) d

-- ---- what is there and what is left are the whole

pub text-turn : (text new : Bytes) (e : TreeEntry) (before after all : List TreeEntry) → text ++ tree_text before ≡ tree_text all → before ≡ e ∷ after → new ≡ text ++ tree_entry_text e → new ++ tree_text after ≡ tree_text all
text-turn text new e before after all h b n =
    ap (λ (t : Bytes). t ++ tree_text after) n ∙ append_assoc text (tree_entry_text e) (tree_text after)
    ∙ ap (λ (t : Bytes). text ++ t) (sym (text-step e after) ∙ ap tree_text (sym b)) ∙ h

pub trees-turn : (made new old below before after all : List Object) → made ++ before ≡ old ++ all → before ≡ below ++ after → new ≡ made ++ below → new ++ after ≡ old ++ all
trees-turn made new old below before after all h b n =
    ap (λ (t : List Object). t ++ after) n ∙ append_assoc made below after ∙ ap (λ (t : List Object). made ++ t) (sym b) ∙ h

pub empty-id : id_of_rows 0 [] ≡ object_id tree []
unfolding shape_entries tree_text
empty-id = refl

pub none-depth : (rows : List FileRow) → (id_of_rows 0 rows ≡ id_of_rows 0 []) × (trees_of_rows 0 rows ≡ [])
unfolding shape_entries shape_objects
none-depth rows = (refl, refl)

-- nothing is left
pub none-left : (rows : List FileRow) → None ≡ slice_get rows 0 → rows ≡ []
none-left [] h = refl
none-left (r ∷ rows) h = absurd (clash h)
  where
    clash : None ≡ Some r → ⊥
    clash e = cc

-- the tree itself comes last
pub finish : (depth : ℕ) (rows : List FileRow) (text : Bytes) (made old new : List Object) (id : Id) → Good rows → 0 < depth
    → text ≡ tree_text (entries_in (depth - 1) (map leaf_of rows)) → made ≡ old ++ trees_in (depth - 1) (map leaf_of rows)
    → (id ≡ object_id tree text) × (new ≡ made ++ object_of tree text ∷ []) → (id ≡ id_of_rows depth rows) × (new ≡ old ++ trees_of_rows depth rows)
finish depth rows text made old new id good pos t m h =
    let up : suc (depth - 1) ≡ depth = omega arith in
    subst (λ (d : ℕ). (id ≡ id_of_rows d rows) × (new ≡ old ++ trees_of_rows d rows)) up (
      h.0 ∙ ap (object_id tree) t ∙ sym (id-is (depth - 1) rows good),
      h.1 ∙ (λ k. m k ++ object_of tree (t k) ∷ [])
          ∙ append_assoc old (trees_in (depth - 1) (map leaf_of rows)) (object_of tree (tree_text (entries_in (depth - 1) (map leaf_of rows))) ∷ [])
          ∙ ap (λ (o : List Object). old ++ o) (sym (trees-are (depth - 1) rows good)),
    )
