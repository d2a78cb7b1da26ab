-- Residues whose paths rise, and lists that are distinct by their order.
use Rattle.std.proofs.Common.{◌≡◌, ◌≢◌, ◌++◌, ℕ, zero, suc, take, Bool, true, false, true≢false, List, [], ◌∷◌, map, length, Option, Some, None, refl, sym, ap, subst, ◌∙◌, inl, inr, arith}
use Rattle.std.specs.Prelude.{◌==◌, if◌then◌else◌}
use Rattle.std.specs.List.{filter_map}
use Rattle.text_model.specs.Lists.{In, Each, in_order, with_inserted}
use Rattle.text_model.specs.Text.{Bytes, is_below}
use Rattle.text_model.proofs.OrderLemmas.{is_below-irreflexive}
use Rattle.git_model.specs.Unfold.{FileRow, by_paths, is_path_below}
use Rattle.git_model.specs.Residue.{ResidueItem, ResidueKind, kind_of_row, item_of, residue_of, carried, fits, rows_with, file_with, row_of_item}
use Rattle.text_model.proofs.Elements.{each_in as each-of, each_from as each-by}
use Rattle.git_model.proofs.SortLemmas.{Ascends, Distinct, by_key, in-order, in-inserted, ascends-rises, rises-ascends, ascends-distinct, order-same}
use Rattle.git_model.proofs.ResidueLemmas.{path_of, append_none}
use Rattle.git_model.proofs.RowOrder.{kept, filter_is, KeepsKey}
use Rattle.git_object.specs.Values.{AreItems}
use Rattle.tree_shape.specs.Sets.{IsFiles}
use Rattle.tree_residue.proofs.Takes.{taken-ascends, kept-key}

abbrev pub row_item : FileRow → Option ResidueItem
row_item row = item_of row.path (kind_of_row row.mode row.id)

pub item-path : KeepsKey row_item (λ (r : FileRow). r.path) (λ (i : ResidueItem). i.path)
item-path row item e = by (kind_of_row row.mode row.id) e
  where
    by : (o : Option ResidueKind) → item_of row.path o ≡ Some item → item.path ≡ row.path
    by None e = absurd cc
    by (Some kind) e = let same : record { path = row.path; kind = kind } ≡ item = cc in ap (λ (i : ResidueItem). i.path) (sym same)

pub residue-rises : (rows : List FileRow) → Ascends (λ (r : FileRow). r.path) rows → AreItems (residue_of rows)
residue-rises rows h = ascends-rises (λ (i : ResidueItem). i.path) (residue_of rows) (taken-ascends row_item (λ (r : FileRow). r.path) (λ (i : ResidueItem). i.path) item-path rows h)

pub carried-rises : (old : List ResidueItem) (files : List FileRow) → Ascends (λ (i : ResidueItem). i.path) old → AreItems (carried old files)
carried-rises old files h = subst AreItems (sym (filter_is (fits files) old))
    (ascends-rises (λ (i : ResidueItem). i.path) (filter_map (kept (fits files)) old) (taken-ascends (kept (fits files)) (λ (i : ResidueItem). i.path) (λ (i : ResidueItem). i.path) (kept-key (fits files) (λ (i : ResidueItem). i.path)) old h))

pub items-take : (n : ℕ) (items : List ResidueItem) → Ascends (λ (i : ResidueItem). i.path) items → Ascends (λ (i : ResidueItem). i.path) (take n items)
items-take zero items h = tt
items-take (suc n) [] h = tt
items-take (suc n) (x ∷ items) h = (
  each-by (λ y. is_below x.path y.path ≡ true) (take n items) (λ y i. each-of (λ y. is_below x.path y.path ≡ true) items y h.0 (of-take n items y i)),
  items-take n items h.1,
)
  where
    of-take : (n : ℕ) (items : List ResidueItem) (y : ResidueItem) → In y (take n items) → In y items
    of-take zero items y i = absurd i
    of-take (suc n) [] y i = i
    of-take (suc n) (x ∷ items) y (inl q) = inl q
    of-take (suc n) (x ∷ items) y (inr j) = inr (of-take n items y j)

-- ---- what rises in order is distinct

module _ {X : Type 0} (key : X → Bytes) where
  inserted-back : (x : X) (ys : List X) → Ascends key (with_inserted (by_key key) x ys) → Ascends key ys × Each (λ y. key x ≢ key y) ys
  inserted-back x [] h = (tt, tt)
  inserted-back x (y ∷ ys) h = by (is_below (key y) (key x)) h (inserted-back x ys)
    where
      other : is_below (key y) (key x) ≡ true → key x ≢ key y
      other h q = true≢false (sym h ∙ ap (is_below (key y)) q ∙ is_below-irreflexive (key y))

      by : (t : Bool) → Ascends key (if t then y ∷ with_inserted (by_key key) x ys else x ∷ y ∷ ys) → (Ascends key (with_inserted (by_key key) x ys) → Ascends key ys × Each (λ y. key x ≢ key y) ys)
          → Ascends key (y ∷ ys) × Each (λ y. key x ≢ key y) (y ∷ ys)
      by true h rec =
          let r = rec h.1 in (
            (each-by (λ z. is_below (key y) (key z) ≡ true) ys (λ z i. each-of (λ z. is_below (key y) (key z) ≡ true) (with_inserted (by_key key) x ys) z h.0 (in-inserted (by_key key) z x ys (inr i))), r.0),
            (other (each-of (λ z. is_below (key y) (key z) ≡ true) (with_inserted (by_key key) x ys) x h.0 (in-inserted (by_key key) x x ys (inl refl))), r.1),
          )
      by false h rec = (h.1, (ascends-distinct key (x ∷ y ∷ ys) h).0)

  pub order-distinct : (xs : List X) → Ascends key (in_order (by_key key) xs) → Distinct key xs
  order-distinct [] h = tt
  order-distinct (x ∷ xs) h =
      let p = inserted-back x (in_order (by_key key) xs) h in
      (each-by (λ y. key x ≢ key y) xs (λ y i. each-of (λ y. key x ≢ key y) (in_order (by_key key) xs) y p.1 (in-order (by_key key) y xs i)), order-distinct xs p.0)

pub rows-are : (items : List ResidueItem) (files : List FileRow) → rows_with items files ≡ by_paths (map (file_with items) files ++ filter_map row_of_item items)
unfolding rows_with
rows-are items files = refl

pub rows-distinct : (items : List ResidueItem) (files rows : List FileRow) → rows ≡ map (file_with items) files ++ filter_map row_of_item items → IsFiles (rows_with items files) → Distinct (λ (r : FileRow). r.path) rows
rows-distinct items files rows is h =
    order-distinct (λ (r : FileRow). r.path) rows (rises-ascends (λ (r : FileRow). r.path) (by_paths rows) (subst IsFiles (rows-are items files ∙ ap by_paths (sym is)) h).in_order)

-- ---- nothing beside the files

pub empty-is : {X : Type 0} (xs : List X) → (length xs == 0) ≡ true → xs ≡ []
empty-is [] e = refl
empty-is (x ∷ xs) e = absurd (grind (arith, e))

-- no items change nothing
pub none-with : (files : List FileRow) → Ascends path_of files → rows_with [] files ≡ files
unfolding rows_with
none-with files up = ap (in_order is_path_below) (append_none (map (file_with []) files) ∙ same files) ∙ order-same path_of files up
  where
    same : (rows : List FileRow) → map (file_with []) rows ≡ rows
    same [] = refl
    same (row ∷ rows) = ap (λ (l : List FileRow). row ∷ l) (same rows)
