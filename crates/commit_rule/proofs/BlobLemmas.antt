-- The text of a row's revision, and the blobs that are brought.
use Rattle.std.proofs.Common.{◌≡◌, ◌≤◌, ◌<◌, ℕ, zero, suc, inl, inr, get_or, true, false, true≢false, List, [], ◌∷◌, ◌++◌, length, Option, Some, None, refl, sym, ap, subst, ◌∙◌, arith}
use Rattle.std.specs.Prelude.{IsTrue, is_some, option_map, slice_get}
use Rattle.view_model.specs.Held.{IsFileHeld}
use Rattle.std.specs.Option.{option_or}
use Rattle.std.proofs.lemmas.List.{length-append}
use Rattle.std.proofs.lemmas.List.Folds.{find-append}
use Rattle.std.proofs.lemmas.Slice.Eq.{bytes_eq-Decides}
use Rattle.text_model.specs.Lists.{Each, SomeOf}
use Rattle.text_model.specs.Text.{Bytes}
use Rattle.text_model.specs.Id.{Id}
use Rattle.text_model.proofs.EachLemmas.{Each-append, Each-weaker}
use Rattle.text_model.proofs.Options.{none_some, some_is}
use Rattle.text_model.proofs.Elements.{get_unmap, each_at}
use Rattle.hg_model.specs.FileText.{IsFileText, mark}
use Rattle.hg_model.specs.Revision.{Revision, FilesAt, revision_of, is_of}
use Rattle.hg_store.specs.Known.{AreAdded, text_of}
use Rattle.git_model.specs.Object.{Object, object_at, knows_object, has_id}
use Rattle.view_model.specs.View.{Row, TreeRow, text_limit}
use Rattle.pair_known.specs.Rows.{RowValue, row_value}
use Rattle.pair_known.specs.Ruled.{blob_of_row}
use Rattle.pair_known.proofs.HeldViews.{held-as}
use Rattle.commit_rule.specs.Parts.{IsRowOf, AreRowsOf, AreBrought, HasStoredBlob}
use Rattle.commit_rule.proofs.ListLemmas.{some-left, some-last}

-- ---- the text

revision-in : (xs ys : List Revision) (path : Bytes) (node : Id) (o : Option Revision) → revision_of xs (FilesAt path) node ≡ o → revision_of (xs ++ ys) (FilesAt path) node ≡ option_or o (revision_of ys (FilesAt path) node)
revision-in xs ys path node o e = find-append (is_of (FilesAt path) node) xs ys ∙ ap (λ (p : Option Revision). option_or p (revision_of ys (FilesAt path) node)) e

-- a text has the bytes of its body
body-in : (text : Bytes) (meta : Option Bytes) (body : Bytes) → IsFileText text meta body → length body ≤ length text
body-in text None body h = omega (arith, ap length h.1)
body-in text (Some meta) body h = omega (arith, ap length h.1, length-append (meta ++ mark) body)

module _ (fresh known : List Revision) (value : RowValue) (r : Row) (is : IsRowOf (fresh ++ known) value r) where
  place : revision_of (fresh ++ known) (FilesAt value.path) value.node ≡ Some is.1.revision
  place = (λ i. revision_of (fresh ++ known) (FilesAt ((sym is.0) i).path) ((sym is.0) i).node) ∙ is.1.is_held

  pub brought-text : (f : Revision) → Some f ≡ revision_of fresh (FilesAt value.path) value.node → IsFileText f.text (r.revision).meta (r.revision).body
  brought-text f at =
      let same : f ≡ is.1.revision = some_is (sym (revision-in fresh known value.path value.node (Some f) (sym at)) ∙ place) in
      subst (λ (x : Revision). IsFileText x.text (r.revision).meta (r.revision).body) (sym same) is.1.text

  stored-revision : None ≡ revision_of fresh (FilesAt value.path) value.node → revision_of known (FilesAt value.path) value.node ≡ Some is.1.revision
  stored-revision none = sym (revision-in fresh known value.path value.node None (sym none)) ∙ place

  pub stored-there : None ≡ revision_of fresh (FilesAt value.path) value.node → text_of known (FilesAt value.path) value.node ≡ Some is.1.revision.text
  stored-there none = ap (option_map (λ (x : Revision). x.text)) (stored-revision none)

  pub stored-text : (text : Bytes) → None ≡ revision_of fresh (FilesAt value.path) value.node → Some text ≡ text_of known (FilesAt value.path) value.node → IsFileText text (r.revision).meta (r.revision).body
  stored-text text none at = subst (λ (x : Bytes). IsFileText x (r.revision).meta (r.revision).body) (sym (some_is (at ∙ stored-there none))) is.1.text

  -- the body of a revision that was added to the store is short, as its text is
  pub stored-short : AreAdded known → None ≡ revision_of fresh (FilesAt value.path) value.node → length (r.revision).body ≤ text_limit
  stored-short added none =
      let short = (held-as known added (FilesAt value.path) value.node is.1.revision (stored-revision none)).short in
      omega (arith, short, body-in is.1.revision.text (r.revision).meta (r.revision).body is.1.text)

-- a text is lent as it is
pub lent-text : (lent text : Bytes) (meta : Option Bytes) (body : Bytes) → lent ≡ text → IsFileText text meta body → IsFileText lent meta body
lent-text lent text meta body same is = subst (λ (t : Bytes). IsFileText t meta body) (sym same) is

-- ---- the blobs

object-in : (xs ys : List Object) (id : Id) (o : Option Object) → object_at xs id ≡ o → object_at (xs ++ ys) id ≡ option_or o (object_at ys id)
object-in xs ys id o e = find-append (has_id id) xs ys ∙ ap (λ (p : Option Object). option_or p (object_at ys id)) e

pub knows-front : (xs ys : List Object) (id : Id) → knows_object xs id ≡ true → knows_object (xs ++ ys) id ≡ true
knows-front xs ys id h = by (object_at xs id) refl h
  where
    by : (o : Option Object) → object_at xs id ≡ o → is_some o ≡ true → knows_object (xs ++ ys) id ≡ true
    by None e k = absurd (true≢false (sym k))
    by (Some o) e k = ap is_some (object-in xs ys id (Some o) e)

pub knows-back : (xs ys : List Object) (id : Id) → knows_object ys id ≡ true → knows_object (xs ++ ys) id ≡ true
knows-back xs ys id h = by (object_at xs id) refl
  where
    by : (o : Option Object) → object_at xs id ≡ o → knows_object (xs ++ ys) id ≡ true
    by None e = ap is_some (object-in xs ys id None e) ∙ h
    by (Some o) e = ap is_some (object-in xs ys id (Some o) e)

-- more objects between
knows-more : (xs ms ys : List Object) (id : Id) → knows_object (xs ++ ys) id ≡ true → knows_object ((xs ++ ms) ++ ys) id ≡ true
knows-more xs ms ys id h = by (object_at xs id) refl
  where
    by : (o : Option Object) → object_at xs id ≡ o → knows_object ((xs ++ ms) ++ ys) id ≡ true
    by None e = knows-back (xs ++ ms) ys id (sym (ap is_some (object-in xs ys id None e)) ∙ h)
    by (Some o) e = knows-front (xs ++ ms) ys id (knows-front xs ms id (ap is_some e))

knows-itself : (o : Object) → knows_object (o ∷ []) o.id ≡ true
knows-itself o = rw ((bytes_eq-Decides o.id o.id).1 refl) refl

module _ (known fresh : List Object) (ts : List TreeRow) (t : TreeRow) (was : AreBrought known fresh ts) where
  -- a row whose blob is there
  pub brought-none : knows_object (fresh ++ known) t.id ≡ true → AreBrought known fresh (ts ++ t ∷ [])
  brought-none knows = record {
    blobs = Each-weaker (λ o. SomeOf ts (λ row. o ≡ blob_of_row row)) (λ o. SomeOf (ts ++ t ∷ []) (λ row. o ≡ blob_of_row row)) (λ o h. some-left (λ row. o ≡ blob_of_row row) ts (t ∷ []) h) fresh was.blobs;
    are_new = was.are_new;
    all = Each-append (λ row. IsTrue (knows_object (fresh ++ known) row.id)) ts (t ∷ []) was.all (knows, tt);
  }

  -- a row whose blob is brought
  pub brought-one : knows_object known t.id ≡ false → AreBrought known (fresh ++ blob_of_row t ∷ []) (ts ++ t ∷ [])
  brought-one new = record {
    blobs = Each-append (λ o. SomeOf (ts ++ t ∷ []) (λ row. o ≡ blob_of_row row)) fresh (blob_of_row t ∷ [])
        (Each-weaker (λ o. SomeOf ts (λ row. o ≡ blob_of_row row)) (λ o. SomeOf (ts ++ t ∷ []) (λ row. o ≡ blob_of_row row)) (λ o h. some-left (λ row. o ≡ blob_of_row row) ts (t ∷ []) h) fresh was.blobs)
        (some-last (λ row. blob_of_row t ≡ blob_of_row row) ts t refl, tt);
    are_new = Each-append (λ o. knows_object known o.id ≡ false) fresh (blob_of_row t ∷ []) was.are_new (new, tt);
    all = Each-append (λ row. IsTrue (knows_object ((fresh ++ blob_of_row t ∷ []) ++ known) row.id)) ts (t ∷ [])
        (Each-weaker (λ row. IsTrue (knows_object (fresh ++ known) row.id)) (λ row. IsTrue (knows_object ((fresh ++ blob_of_row t ∷ []) ++ known) row.id)) (λ row h. knows-more fresh (blob_of_row t ∷ []) known row.id h) ts was.all)
        (knows-front (fresh ++ blob_of_row t ∷ []) known t.id (knows-back fresh (blob_of_row t ∷ []) t.id (knows-itself (blob_of_row t))), tt);
  }

pub both-some : {X Y Z : Type 0} (f : X → Z) (g : Y → Z) (a : Option X) (b : Option Y) → option_map f a ≡ option_map g b → is_some a ≡ is_some b
both-some f g None None e = refl
both-some f g None (Some y) e = absurd (none_some e)
both-some f g (Some x) None e = absurd (none_some (sym e))
both-some f g (Some x) (Some y) e = refl

pub one-some : {X Z : Type 0} (f : X → Z) (a : Option X) (b : Option Z) → option_map f a ≡ b → is_some a ≡ is_some b
one-some f None b e = ap is_some e
one-some f (Some x) b e = ap is_some e

pub one-none : {X Z : Type 0} (f : X → Z) (a : Option X) (b : Option Z) → option_map f a ≡ b → is_some a ≡ false → None ≡ b
one-none f None b e h = e
one-none f (Some x) b e h = absurd (true≢false h)

-- ---- a row at a place

pub row-there : (known : List Revision) (values : List RowValue) (rows : List Row) (i : ℕ) (value : RowValue) → AreRowsOf known values rows → slice_get values i ≡ Some value
    → (r : Row) × (slice_get rows i ≡ Some r) × IsRowOf known value r
row-there known values rows i value are at =
    let r = get_unmap row_value rows i value (ap (λ (l : List RowValue). slice_get l i) (sym are.0) ∙ at) in
    (r.0, r.1, (r.2, each_at (IsFileHeld known) rows i r.0 r.1 are.1))

-- ---- a blob that stands among near rows

pub some-blob : (rows : List RowValue) (i : ℕ) (row : RowValue) (id : Id) → i < length rows → row ≡ get_or rows i row → row.blob ≡ id → SomeOf rows (λ near. near.blob ≡ id)
some-blob [] i row id below is same = absurd (omega (arith, below))
some-blob (near ∷ rows) zero row id below is same = inl (ap (λ (v : RowValue). v.blob) (sym is) ∙ same)
some-blob (near ∷ rows) (suc i) row id below is same = inr (some-blob rows i row id (omega (arith, below)) is same)

pub stored-blob : (known : List Object) (rows : List RowValue) (id : Id) → Each (HasStoredBlob known) rows → SomeOf rows (λ near. near.blob ≡ id) → IsTrue (knows_object known id)
stored-blob known [] id each some = absurd some
stored-blob known (near ∷ rows) id each (inl same) = ap (knows_object known) (sym same) ∙ each.0
stored-blob known (near ∷ rows) id each (inr some) = stored-blob known rows id each.1 some
