-- The files of an unmarking have the bodies of its changeset; so its draft stands for it where no two of those bodies have one blob id.
use Rattle.std.proofs.Common.{◌≡◌, Bool, true, false, true≢false, List, [], ◌∷◌, ◌++◌, Some, None, Option, refl, sym, ap, ◌∙◌, inl, inr}
use Rattle.std.specs.Prelude.{IsTrue, is_some}
use Rattle.std.specs.Option.{option_or}
use Rattle.std.proofs.lemmas.List.Folds.{find-append}
use Rattle.std.proofs.lemmas.Slice.Eq.{bytes_eq-Decides}
use Rattle.text_model.specs.Lists.{In, SomeOf}
use Rattle.text_model.specs.Text.{Bytes}
use Rattle.text_model.specs.Id.{Id, blob_id}
use Rattle.text_model.proofs.Options.{some_is}
use Rattle.text_model.proofs.Elements.{each_from, each_in}
use Rattle.git_model.specs.Object.{Object, object_at, has_id, knows_object}
use Rattle.git_model.specs.Tree.{Mode, File, GroupFile, Exec, Link as LinkMode, Directory, Gitlink, is_blob_mode}
use Rattle.view_model.specs.View.{Row, TreeRow, files_among, HaveSameBodies, IsRowId, CommitView}
use Rattle.view_model.specs.Held.{IsRowHeld, IsBlobHeld}
use Rattle.pair_known.specs.GitDrafts.{IsGitDraft}
use Rattle.pair_known.specs.Ruled.{IsMadeCommit, blob_of_row}
use Rattle.pair_known.specs.declared.git_draft.GitDraft.{GitDraft}
use Rattle.pair_known.proofs.PartnerLemmas.{found-in}
use Rattle.unmark_law.proofs.ChangesetOne.{IsFileRow, IsViewRow, file_rows}
use Rattle.changeset_unmark.specs.Drafts.{IsBuiltCommit}
use Rattle.pair_choice.specs.Bodies.{IsBodyHeld, AreBodiesApart}

-- ---- a file and its row

-- a file of the commit has its file in the changeset
pub record HasFile (hs : List Row) (t : TreeRow) : Type 0 where
  pub row : Row
  pub among : In row hs
  pub body : (row.revision).body ≡ t.content

pub file-of : (hs : List Row) (ts : List TreeRow) → HaveSameBodies hs ts → (t : TreeRow) → In t ts → HasFile hs t
file-of [] [] same t i = absurd i
file-of [] (x ∷ ts) same t i = absurd same
file-of (h ∷ hs) [] same t i = absurd i
file-of (h ∷ hs) (x ∷ ts) same t i = elim i [
  | inl e ↦ record { row = h; among = inl refl; body = same.1 ∙ ap (λ (y : TreeRow). y.content) (sym e) }
  | inr j ↦ let f = file-of hs ts same.2 t j in record { row = f.row; among = inr f.among; body = f.body }
]

-- and the other way round
pub record HasRow (ts : List TreeRow) (h : Row) : Type 0 where
  pub row : TreeRow
  pub among : In row ts
  pub body : (h.revision).body ≡ row.content

pub row-of : (hs : List Row) (ts : List TreeRow) → HaveSameBodies hs ts → (h : Row) → In h hs → HasRow ts h
row-of [] [] same h i = absurd i
row-of [] (x ∷ ts) same h i = absurd i
row-of (y ∷ hs) [] same h i = absurd same
row-of (y ∷ hs) (x ∷ ts) same h i = elim i [
  | inl e ↦ record { row = x; among = inl refl; body = ap (λ (z : Row). (z.revision).body) e ∙ same.1 }
  | inr j ↦ let f = row-of hs ts same.2 h j in record { row = f.row; among = inr f.among; body = f.body }
]

pub among-files : (ts : List TreeRow) (t : TreeRow) → In t ts → is_blob_mode t.mode ≡ true → In t (files_among ts)
among-files [] t i e = absurd i
among-files (x ∷ ts) t i e = by (is_blob_mode x.mode) refl i (λ j. among-files ts t j e)
  where
    by : (b : Bool) → is_blob_mode x.mode ≡ b → In t (x ∷ ts) → (In t ts → In t (files_among ts)) → In t (files_among (x ∷ ts))
    by true f j rec = rw f (elim j [ inl q ↦ inl q | inr k ↦ inr (rec k) ])
    by false f j rec = rw f (elim j [ inl q ↦ absurd (true≢false (sym e ∙ ap (λ (y : TreeRow). is_blob_mode y.mode) q ∙ f)) | inr k ↦ rec k ])

pub files-in : (ts : List TreeRow) (t : TreeRow) → In t (files_among ts) → In t ts × (is_blob_mode t.mode ≡ true)
files-in [] t i = absurd i
files-in (x ∷ ts) t i = by (is_blob_mode x.mode) refl i (files-in ts t)
  where
    by : (b : Bool) → is_blob_mode x.mode ≡ b → In t (files_among (x ∷ ts)) → (In t (files_among ts) → In t ts × (is_blob_mode t.mode ≡ true)) → In t (x ∷ ts) × (is_blob_mode t.mode ≡ true)
    by true f j rec =
        let k : In t (x ∷ files_among ts) = rw f at j in
        elim k [ inl q ↦ (inl q, ap (λ (y : TreeRow). is_blob_mode y.mode) q ∙ f) | inr l ↦ let r = rec l in (inr r.0, r.1) ]
    by false f j rec =
        let k : In t (files_among ts) = rw f at j in
        let r = rec k in
        (inr r.0, r.1)

-- what is no file has no content
pub no-content : (mode : Mode) (id : Id) (content : Bytes) → IsRowId mode id content → is_blob_mode mode ≡ false → content ≡ []
no-content File id content r e = absurd (true≢false e)
no-content GroupFile id content r e = absurd (true≢false e)
no-content Exec id content r e = absurd (true≢false e)
no-content LinkMode id content r e = absurd (true≢false e)
no-content Directory id content r e = r.1
no-content Gitlink id content r e = r.1

-- ---- objects by their ids

pub object-front : (xs ys : List Object) (id : Id) (o : Object) → object_at xs id ≡ Some o → object_at (xs ++ ys) id ≡ Some o
object-front xs ys id o e = find-append (has_id id) xs ys ∙ ap (λ (q : Option Object). option_or q (object_at ys id)) e

pub object-behind : (xs ys : List Object) (id : Id) → object_at xs id ≡ None → object_at (xs ++ ys) id ≡ object_at ys id
object-behind xs ys id e = find-append (has_id id) xs ys ∙ ap (λ (q : Option Object). option_or q (object_at ys id)) e

pub id-of : (xs : List Object) (id : Id) (o : Object) → object_at xs id ≡ Some o → id ≡ o.id
id-of xs id o e = (bytes_eq-Decides id o.id).0 (found-in (has_id id) xs o e).1

-- two bodies that are held are one where their blob ids are
pub one-body : (os : List Object) (a b : Row) → IsBodyHeld os a → IsBodyHeld os b → blob_id (a.revision).body ≡ blob_id (b.revision).body → (a.revision).body ≡ (b.revision).body
one-body os a b x y e =
    let same : x.0 ≡ y.0 = some_is (sym x.1 ∙ ap (object_at os) e ∙ y.1) in
    sym x.2 ∙ ap (λ (o : Object). o.content) same ∙ y.2

-- ---- the draft of an unmarking

module _ (git : List Object) (d : GitDraft) (c : CommitView) (built : IsBuiltCommit git d c) (hs : List Row) (same : HaveSameBodies hs (files_among c.rows)) where
  pub file-is : (t : TreeRow) → In t (files_among c.rows) → IsFileRow t
  file-is t i = each_in IsFileRow (files_among c.rows) t (file_rows c.rows (built.view).rows) i

  -- an object of the draft is the blob of a file
  pub fresh-row : (o : Object) → In o d.fresh → (t : TreeRow) × In t (files_among c.rows) × (o ≡ blob_of_row t)
  fresh-row o i = some-of (files_among c.rows) (each_in (λ (x : Object). SomeOf (files_among c.rows) (λ row. x ≡ blob_of_row row)) d.fresh o built.blobs i)
    where
      some-of : (ts : List TreeRow) → SomeOf ts (λ row. o ≡ blob_of_row row) → (t : TreeRow) × In t ts × (o ≡ blob_of_row t)
      some-of [] s = absurd s
      some-of (t ∷ ts) s = elim s [ inl e ↦ (t, inl refl, e) | inr r ↦ let q = some-of ts r in (q.0, inr q.1, q.2) ]

  module _ (apart : AreBodiesApart git hs) where
    body-of : (t : TreeRow) → In t (files_among c.rows) → (row : Row) × IsBodyHeld (git ++ apart.fresh) row × (blob_id (row.revision).body ≡ t.id) × ((row.revision).body ≡ t.content)
    body-of t i =
        let f = file-of hs (files_among c.rows) same t i in
        (f.row, each_in (IsBodyHeld (git ++ apart.fresh)) hs f.row apart.held f.among, ap blob_id f.body ∙ sym (file-is t i).1, f.body)

    blob-held : (t : TreeRow) → In t (files_among c.rows) → IsBlobHeld (d.fresh ++ git) t
    blob-held t i = by (object_at d.fresh t.id) (object_at git t.id) refl refl
      where
        row : (row : Row) × IsBodyHeld (git ++ apart.fresh) row × (blob_id (row.revision).body ≡ t.id) × ((row.revision).body ≡ t.content)
        row = body-of t i

        known : knows_object (d.fresh ++ git) t.id ≡ true
        known = each_in (λ (t : TreeRow). IsTrue (knows_object (d.fresh ++ git) t.id)) (files_among c.rows) t built.all i

        by : (o g : Option Object) → object_at d.fresh t.id ≡ o → object_at git t.id ≡ g → IsBlobHeld (d.fresh ++ git) t
        by (Some o) g e f =
            let s = fresh-row o (found-in (has_id t.id) d.fresh o e).0 in
            let other = body-of s.0 s.1 in
            let id : t.id ≡ (s.0).id = id-of d.fresh t.id o e ∙ ap (λ (x : Object). x.id) s.2 in
            let one = one-body (git ++ apart.fresh) other.0 row.0 other.1 row.1 (other.2 ∙ sym id ∙ sym row.2) in
            (o, object-front d.fresh git t.id o e, ap (λ (x : Object). x.content) s.2 ∙ sym other.3 ∙ one ∙ row.3)
        by None (Some o) e f =
            let held = row.1 in
            let at : object_at (git ++ apart.fresh) t.id ≡ Some held.0 = ap (object_at (git ++ apart.fresh)) (sym row.2) ∙ held.1 in
            let is : o ≡ held.0 = some_is (sym (object-front git apart.fresh t.id o f) ∙ at) in
            (o, object-behind d.fresh git t.id e ∙ f, ap (λ (x : Object). x.content) is ∙ held.2 ∙ row.3)
        by None None e f = absurd (true≢false (sym known ∙ ap is_some (object-behind d.fresh git t.id e ∙ f)))

    row-held : (t : TreeRow) → In t c.rows → IsRowHeld (d.fresh ++ git) t
    row-held t i = record {
      blob = λ e. blob-held t (among-files c.rows t i e);
      none = λ e. no-content t.mode t.id t.content (each_in IsViewRow c.rows t (built.view).rows i).3 e;
    }

    -- where no two bodies have one blob id, the draft stands for the commit
    pub stands : IsGitDraft git d c
    stands = record { value = built.value; files = built.files; blobs = each_from (IsRowHeld (d.fresh ++ git)) c.rows row-held }

-- a draft that is made is one that is built
pub built-of : (git : List Object) (d : GitDraft) (c : CommitView) → IsMadeCommit git d c → IsBuiltCommit git d c
built-of git d c made = record {
  value = made.value;
  files = made.files;
  trees_are = made.trees_are;
  trees_held = made.trees_held;
  blobs = made.blobs;
  are_new = made.are_new;
  all = made.all;
  view = made.view;
}
