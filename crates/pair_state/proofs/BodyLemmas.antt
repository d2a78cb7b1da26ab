-- A file's body beside the object that has the id of its blob.
use Rattle.std.proofs.Common.{◌≡◌, ◌<◌, ◌+◌, ℕ, zero, suc, arith, length, map, take, get_or, true, false, not, ◌&&◌, List, [], ◌∷◌, Option, Some, None, refl, sym, ap, subst, ◌∙◌}
use Rattle.std.specs.Prelude.{bytes_eq, option_map, slice_get, MatchOption}
use Rattle.std.proofs.lemmas.Option.{slice_get-get_or}
use Rattle.std.proofs.lemmas.Slice.Eq.{bytes_eq-Decides}
use Rattle.text_model.specs.Text.{Bytes}
use Rattle.text_model.specs.Id.{Id, ObjectKind, blob, same_kind}
use Rattle.text_model.specs.Lists.{Each}
use Rattle.text_model.proofs.TestLemmas.{both}
use Rattle.hg_model.specs.FileText.{IsFileText}
use Rattle.hg_model.specs.Manifest.{ManifestEntry}
use Rattle.hg_model.specs.Revision.{Revision, FilesAt}
use Rattle.git_model.specs.Object.{Object, object_at, knows_object}
use Rattle.text_model.proofs.Options.{none_some, some_is}
use Rattle.git_store.proofs.KnownLemmas.{same_kind-is}
use Rattle.git_store.proofs.Growth.{found-in}
use Rattle.git_view.proofs.Found.{found-id}
use Rattle.hg_store.specs.Known.{text_of, IsFileBlob}
use Rattle.tree_shape.specs.Laws.{IsKnown}
use Rattle.view_model.specs.View.{Row, entry_of_row, file_node}
use Rattle.view_model.specs.Held.{IsFileHeld}
use Rattle.pair_known.proofs.HeldViews.{blob-of_row}
use Rattle.pair_known.specs.Rows.{RowValue, row_value}
use Rattle.pair_state.specs.Blocks.{body_blob}
use Rattle.pair_state.specs.Step.{AreAsked, IsElse, IsAskedLine, IsBlobLine, IsElseLine}

abbrev kind_and_content : Object → ObjectKind × Bytes
kind_and_content o = (o.kind, o.content)

-- the object that was found
record FoundObject (git : List Object) (id : Id) (kind : ObjectKind) (content : Bytes) : Type 0 where
  object : Object
  at : object_at git id ≡ Some object
  kind_is : object.kind ≡ kind
  content_is : object.content ≡ content

found-object : (git : List Object) (id : Id) (kind : ObjectKind) (content : Bytes) → Some (kind, content) ≡ option_map {U = ObjectKind × Bytes} kind_and_content (object_at git id) → FoundObject git id kind content
found-object git id kind content h = by (object_at git id) refl h
  where
    by : (o : Option Object) → object_at git id ≡ o → Some (kind, content) ≡ option_map {U = ObjectKind × Bytes} kind_and_content o → FoundObject git id kind content
    by None e i = absurd (none_some {x = (kind, content)} (sym i))
    by (Some o) e i =
        let same : (kind, content) ≡ (o.kind, o.content) = some_is {x = (kind, content)} {y = (o.kind, o.content)} i in
        record { object = o; at = e; kind_is = sym (ap (λ (p : ObjectKind × Bytes). p.0) same); content_is = sym (ap (λ (p : ObjectKind × Bytes). p.1) same) }

-- the text of a revision has the row's body
pub body-is : (hg : List Revision) (x : Row) (text : Bytes) (found : Option Bytes) (body : Bytes)
    → ((meta : Option Bytes) (rest : Bytes) → IsFileText text meta rest → (found ≡ meta) × (body ≡ rest))
    → IsFileHeld hg x → Some text ≡ text_of hg (FilesAt x.path) (file_node x.revision) → body ≡ (x.revision).body
body-is hg x text found body only held at =
    let same : text ≡ held.revision.text = some_is {x = text} {y = held.revision.text} (at ∙ ap (option_map (λ (r : Revision). r.text)) held.is_held) in
    (only (x.revision).meta (x.revision).body (subst (λ (t : Bytes). IsFileText t (x.revision).meta (x.revision).body) (sym same) held.text)).1

module _ (git : List Object) (x : Row) (kind : ObjectKind) (content body : Bytes) (is : body ≡ (x.revision).body) (at : Some (kind, content) ≡ option_map {U = ObjectKind × Bytes} kind_and_content (object_at git (body_blob x).id)) where
  of : FoundObject git (body_blob x).id kind content
  of = found-object git (body_blob x).id kind content at

  is-body : (same_kind blob kind && bytes_eq body content) ≡ true → IsKnown git (body_blob x)
  is-body h =
      let parts = both (same_kind blob kind) (bytes_eq body content) h in
      let same : of.object ≡ body_blob x = (λ i. record {
        id = sym (found-id git (body_blob x).id of.object of.at) i;
        kind = (of.kind_is ∙ sym (same_kind-is blob kind parts.0)) i;
        content = (of.content_is ∙ sym ((bytes_eq-Decides body content).0 parts.1) ∙ is) i;
      }) in
      of.at ∙ ap (λ (o : Object). Some o) same

  is-else : (same_kind blob kind && bytes_eq body content) ≡ false → IsElse git (body_blob x)
  is-else h =
      let like : (same_kind blob of.object.kind && bytes_eq (x.revision).body of.object.content) ≡ false =
      (λ i. same_kind blob (of.kind_is i) && bytes_eq (sym is i) (of.content_is i)) ∙ h in (
        of.object,
        found-in git (body_blob x).id of.object of.at,
        (λ i. (bytes_eq-Decides (body_blob x).id of.object.id).1 (found-id git (body_blob x).id of.object of.at) i && not (like i)),
      )

-- ---- the file of a line

pub of-some : {X : Type 0} (P : X → Type 0) (N : Type 0) (o : Option X) (x : X) → o ≡ Some x → MatchOption o N P → P x
of-some P N o x is h = subst (λ o. MatchOption o N P) is h

-- what is found of the revision that a line names: its text with the body in it, and the object that has the id of its blob
module _ (hg : List Revision) (git : List Object) (e : ManifestEntry) (asked : IsAskedLine hg git e) (path : Bytes) (path_is : path ≡ e.path)
    (text : Bytes) (found : Option Bytes) (body : Bytes)
    (only : (meta : Option Bytes) (rest : Bytes) → IsFileText text meta rest → (found ≡ meta) × (body ≡ rest))
    (at : Some text ≡ text_of hg (FilesAt path) e.node) (id : Id) (is : IsFileBlob hg path e.node id) (kind : ObjectKind) (content : Bytes)
    (there : Some (kind, content) ≡ option_map {U = ObjectKind × Bytes} kind_and_content (object_at git id)) where
  abbrev file : Row
  file = asked.0

  abbrev same : e ≡ entry_of_row file
  same = asked.1

  abbrev held : IsFileHeld hg file
  held = asked.2

  path-same : path ≡ file.path
  path-same = path_is ∙ ap (λ (x : ManifestEntry). x.path) same

  node-same : e.node ≡ file_node file.revision
  node-same = ap (λ (x : ManifestEntry). x.node) same

  its-body : body ≡ (file.revision).body
  its-body = body-is hg file text found body only held (at ∙ (λ i. text_of hg (FilesAt (path-same i)) (node-same i)))

  its-id : id ≡ (body_blob file).id
  its-id = blob-of_row hg file id held
      (subst (λ (n : Id). IsFileBlob hg file.path n id) node-same (subst (λ (p : Bytes). IsFileBlob hg p e.node id) path-same is))

  its-blob : Some (kind, content) ≡ option_map {U = ObjectKind × Bytes} kind_and_content (object_at git (body_blob file).id)
  its-blob = there ∙ ap (λ (x : Id). option_map {U = ObjectKind × Bytes} kind_and_content (object_at git x)) its-id

  pub blob-line : (same_kind blob kind && bytes_eq body content) ≡ true → IsBlobLine hg git e
  blob-line h = (file, same, held, is-body git file kind content body its-body its-blob h)

  pub else-line : (same_kind blob kind && bytes_eq body content) ≡ false → IsElseLine hg git e
  else-line h = (file, same, held, is-else git file kind content body its-body its-blob h)

-- ---- files one by one

pub record AskedAt (hg : List Revision) (git : List Object) (xs : List Row) (i : ℕ) (v : RowValue) : Type 0 where
  pub row : Row
  pub at : slice_get xs i ≡ Some row
  pub asked : AreAsked hg git (v ∷ []) (row ∷ [])

pub asked-at : (hg : List Revision) (git : List Object) (values : List RowValue) (xs : List Row) (i : ℕ) (v : RowValue) → AreAsked hg git values xs → slice_get values i ≡ Some v → AskedAt hg git xs i v
asked-at hg git values xs i v asked at = by xs i asked.held asked.blobs (ap (λ (l : List RowValue). slice_get l i) (sym asked.are) ∙ at)
  where
    by : (xs : List Row) (i : ℕ) → Each (IsFileHeld hg) xs → Each (λ row. knows_object git (body_blob row).id ≡ true) xs → slice_get (map row_value xs) i ≡ Some v → AskedAt hg git xs i v
    by [] i h b e = absurd (none_some {x = v} e)
    by (x ∷ xs) zero h b e = record { row = x; at = refl; asked = record { are = ap (λ (w : RowValue). w ∷ []) (sym (some_is {x = row_value x} {y = v} e)); held = (h.0, tt); blobs = (b.0, tt) } }
    by (x ∷ xs) (suc i) h b e = let r = by xs i h.1 b.1 e in record { row = r.row; at = r.at; asked = r.asked }

pub each-more : {X : Type 0} (P : X → Type 0) (xs : List X) (i : ℕ) (x : X) → Each P (take i xs) → slice_get xs i ≡ Some x → P x → Each P (take (i + 1) xs)
each-more P [] i x h at p = absurd (none_some {x = x} at)
each-more P (y ∷ xs) zero x h at p = (subst P (sym (some_is {x = y} {y = x} at)) p, tt)
each-more P (y ∷ xs) (suc i) x h at p = let e : suc i + 1 ≡ suc (i + 1) = omega arith in rw e (h.0, each-more P xs i x h.1 at p)

pub value-at : (values list : List RowValue) (i : ℕ) (v : RowValue) → list ≡ values → i < length list → v ≡ get_or list i v → slice_get values i ≡ Some v
value-at values list i v same below is = ap (λ (l : List RowValue). slice_get l i) (sym same) ∙ slice_get-get_or list i v below ∙ ap (λ (w : RowValue). Some w) (sym is)

pub value-is : (hg : List Revision) (git : List Object) (v : RowValue) (x : Row) → AreAsked hg git (v ∷ []) (x ∷ []) → v ≡ row_value x
value-is hg git v x asked = one asked.are
  where
    one : {v w : RowValue} → v ∷ [] ≡ w ∷ [] → v ≡ w
    one e = cc
