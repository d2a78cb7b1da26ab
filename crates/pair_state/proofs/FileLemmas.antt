-- One file of a changeset: its revision is one that the draft brings, or else known.
use Rattle.std.proofs.Common.{◌≡◌, ◌≤◌, ◌+◌, ◌||◌, ℕ, zero, suc, arith, Bool, true, false, List, [], ◌∷◌, ◌++◌, length, map, take, drop, Option, Some, None, refl, sym, ap, subst, ◌∙◌}
use Rattle.std.specs.Prelude.{bytes_eq, is_some, slice_get, if◌then◌else◌}
use Rattle.std.proofs.lemmas.Slice.Eq.{bytes_eq-Decides}
use Rattle.text_model.proofs.Options.{some_is}
use Rattle.text_model.specs.Text.{Bytes}
use Rattle.text_model.specs.Id.{Id, is_null}
use Rattle.text_model.specs.Fault.{FaultName}
use Rattle.text_model.specs.Fault as fault
use Rattle.text_model.proofs.TestLemmas.{or_true}
use Rattle.text_model.proofs.Elements.{each_at}
use Rattle.hg_model.proofs.ParentOrder.{file_order-either}
use Rattle.hg_filelog.proofs.MarkLemmas.{lacks-never}
use Rattle.hg_model.specs.FileText.{IsFileText, file_text, file_order}
use Rattle.hg_model.specs.Revision.{Revision, Group, Changesets, FilesAt, is_of, revision_of, knows, is_known_parent, first_name, named_if, ancestry_fault, text_fault, same_parents}
use Rattle.hg_store.specs.Known.{AreAdded, HasBlob, knows_same, is_same_as}
use Rattle.hg_store.proofs.KnownLemmas.{same-has_no_fault}
use Rattle.view_model.specs.View.{ChangesetView, Row, file_node, text_limit}
use Rattle.view_model.specs.Held.{IsFileHeld}
use Rattle.pair_known.specs.Ruled.{HasFileParents}
use Rattle.pair_known.specs.declared.hg_draft.HgDraft.{HgDraft}
use Rattle.view_model.specs.Dump.{file_revision}
use Rattle.pair_known.specs.Fresh.{fresh_revision}
use Rattle.pair_known.specs.Rows.{RowValue, row_value}
use Rattle.pair_known.specs.declared.fresh_files.FreshFile.{FreshFile}
use Rattle.pair_state.specs.Came.{is_bad, IsReady, HaveCome, IsWithinHg, IsAskedOver, IsFileAsked}
use Rattle.pair_state.proofs.CameLemmas.{find-front, come-one, not-bad, within-all, within-knows}

find-rest : (front known : List Revision) (group : Group) (node : Id) → revision_of front group node ≡ None → revision_of (front ++ known) group node ≡ revision_of known group node
find-rest [] known group node e = refl
find-rest (x ∷ front) known group node e = by (is_of group node x) e (find-rest front known group node)
  where
    by : (t : Bool) → (if t then Some x else revision_of front group node) ≡ None → (revision_of front group node ≡ None → revision_of (front ++ known) group node ≡ revision_of known group node)
        → (if t then Some x else revision_of (front ++ known) group node) ≡ revision_of known group node
    by true is later = cc
    by false is later = later is

last-none : (a b d : Option FaultName) → first_name (a ∷ b ∷ d ∷ []) ≡ None → d ≡ None
last-none None None None h = refl
last-none None None (Some n) h = cc
last-none None (Some n) d h = cc
last-none (Some n) b d h = cc

pub not-bad_of_text : (known : List Revision) (r : Revision) → text_fault known r ≡ None → is_bad known r ≡ false
unfolding text_fault
not-bad_of_text known r h = not-bad (is_bad known r) (last-none _ _ _ h)

module _ (known fresh : List Revision) (v : RowValue) (link : Id) (x : Row) (a : IsFileAsked known fresh v link x) where
  abbrev r : Revision
  r = file_revision link x

  pub file-ready : IsReady known r
  unfolding ancestry_fault
  file-ready = record {
    ancestry = rw (a.parents.0, a.parents.1, a.link_known) refl;
    node = refl;
    shape = ap (λ (b : Bool). named_if b fault.FileShape) (lacks-never (x.revision).meta (x.revision).body a.spells);
  }

  pub file-blob : HasBlob (file_text (x.revision).meta (x.revision).body) v.blob
  file-blob = record { meta = (x.revision).meta; body = (x.revision).body; spells = (a.spells, refl); id = ap (λ (w : RowValue). w.blob) a.value }

  -- ---- the draft brings it

  module _ (f : FreshFile) (at : Some (fresh_revision f) ≡ revision_of fresh (FilesAt v.path) v.node) where
    same-revision : a.held.revision ≡ fresh_revision f
    same-revision = some_is (sym a.held.is_held ∙ find-front fresh known (FilesAt x.path) (file_node x.revision) (fresh_revision f) (sym (at ∙ (λ i. revision_of fresh (FilesAt (a.value i).path) (a.value i).node))))

    pub fresh-text : IsFileText f.text (x.revision).meta (x.revision).body
    fresh-text = subst (λ (q : Revision). IsFileText q.text (x.revision).meta (x.revision).body) same-revision a.held.text

    pub fresh-parents : ((x.revision).p, (x.revision).q) ≡ file_order (x.revision).meta f.p f.q
    fresh-parents = a.held.parents ∙ (λ i. file_order (x.revision).meta (same-revision i).p (same-revision i).q)

    pub fresh-whole : (path text : Bytes) (node : Id) (pq : Id × Id) → path ≡ v.path → node ≡ v.node → ((meta : Option Bytes) (body : Bytes) → IsFileText f.text meta body → pq ≡ file_order meta f.p f.q) → text ≡ f.text
        → record { group = FilesAt path; node = node; p = pq.0; q = pq.1; link = link; text = text } ≡ r
    fresh-whole path text node pq path_is node_is parents text_is =
        let both : pq ≡ ((x.revision).p, (x.revision).q) = parents (x.revision).meta (x.revision).body fresh-text ∙ sym fresh-parents in
        (λ i. record {
          group = FilesAt ((path_is ∙ ap (λ (w : RowValue). w.path) a.value) i);
          node = (node_is ∙ ap (λ (w : RowValue). w.node) a.value) i;
          p = (both i).0;
          q = (both i).1;
          link = link;
          text = (text_is ∙ fresh-text.1) i;
        })

  -- ---- it is known

  pub file-known : revision_of fresh (FilesAt v.path) v.node ≡ None → HaveCome known known (r ∷ [])
  file-known none = come-one known known r (sym (ap (λ (t : Bool). if t then known else known ++ r ∷ []) (ap is_some held))) (not-bad_of_text known r (same-has_no_fault known r a.added same))
    where
      held : revision_of known (FilesAt x.path) (file_node x.revision) ≡ Some a.held.revision
      held = sym (find-rest fresh known (FilesAt x.path) (file_node x.revision) (sym (λ i. revision_of fresh (FilesAt (a.value i).path) (a.value i).node) ∙ none)) ∙ a.held.is_held

      self : (i : Id) → bytes_eq i i ≡ true
      self i = (bytes_eq-Decides i i).1 refl

      pair : same_parents (FilesAt x.path) (x.revision).p (x.revision).q a.held.revision.p a.held.revision.q ≡ true
      pair = subst (λ (pq : Id × Id). same_parents (FilesAt x.path) pq.0 pq.1 a.held.revision.p a.held.revision.q ≡ true) (sym a.held.parents)
          (file_order-either (λ (pq : Id × Id). same_parents (FilesAt x.path) pq.0 pq.1 a.held.revision.p a.held.revision.q ≡ true) (x.revision).meta a.held.revision.p a.held.revision.q
          (rw (self a.held.revision.p, self a.held.revision.q) refl)
          (rw (self a.held.revision.p, self a.held.revision.q) (or_true _)))

      same : knows_same known r ≡ true
      same = ap (is_same_as r) held ∙ rw ((bytes_eq-Decides r.text a.held.revision.text).1 (sym a.held.text.1), pair) refl

-- ---- files one by one

pub map-at : {X Y : Type 0} (f : X → Y) (xs : List X) (i : ℕ) (x : X) → slice_get xs i ≡ Some x → map f xs ≡ map f (take i xs) ++ f x ∷ map f (drop (i + 1) xs)
map-at f [] i x e = cc
map-at f (y ∷ xs) zero x e = let some : y ≡ x = cc in ap (λ z. f z ∷ map f xs) some
map-at f (y ∷ xs) (suc i) x e = let n : suc i + 1 ≡ suc (i + 1) = omega arith in rw n (ap (λ l. f y ∷ l) (map-at f xs i x e))

pub record RowAt (rows : List Row) (i : ℕ) (v : RowValue) : Type 0 where
  pub row : Row
  pub at : slice_get rows i ≡ Some row
  pub value : v ≡ row_value row

pub row-at : (rows : List Row) (i : ℕ) (v : RowValue) → slice_get (map row_value rows) i ≡ Some v → RowAt rows i v
row-at [] i v e = cc
row-at (x ∷ rows) zero v e = let some : row_value x ≡ v = cc in record { row = x; at = refl; value = sym some }
row-at (x ∷ rows) (suc i) v e = let r = row-at rows i v e in record { row = r.row; at = r.at; value = r.value }

-- a look-up behind what the draft brings
within-behind : (fresh old new : List Revision) → IsWithinHg old new → IsWithinHg (fresh ++ old) (fresh ++ new)
within-behind [] old new w group node s e = w group node s e
within-behind (x ∷ fresh) old new w group node s e = by (is_of group node x) e (within-behind fresh old new w group node s)
  where
    by : (t : Bool) → (if t then Some x else revision_of (fresh ++ old) group node) ≡ Some s → (revision_of (fresh ++ old) group node ≡ Some s → revision_of (fresh ++ new) group node ≡ Some s)
        → (if t then Some x else revision_of (fresh ++ new) group node) ≡ Some s
    by true is later = is
    by false is later = later is

pub parent-within : (old new : List Revision) → IsWithinHg old new → (group : Group) (p : Id) → is_known_parent old group p ≡ true → is_known_parent new group p ≡ true
parent-within old new w group p h = by (is_null p) h
  where
    by : (t : Bool) → (t || knows old group p) ≡ true → (t || knows new group p) ≡ true
    by true i = refl
    by false i = within-knows old new w group p i

module _ (base now : List Revision) (d : HgDraft) (link : Id) (k : ChangesetView) (a : IsAskedOver base now d link k) where
  pub asked-row : (i : ℕ) (v : RowValue) → slice_get d.rows i ≡ Some v → RowAt k.rows i v
  asked-row i v e = row-at k.rows i v (ap (λ (l : List RowValue). slice_get l i) (sym a.part.made.draft.rows) ∙ e)

  pub asked-file : (i : ℕ) (v : RowValue) (x : RowAt k.rows i v) → IsFileAsked now d.fresh v link x.row
  asked-file i v x =
      let held = each_at (IsFileHeld (d.fresh ++ base)) k.rows i x.row x.at a.part.made.draft.files in
      let parents = each_at (HasFileParents base) k.rows i x.row x.at a.part.file_parents in
      let view = each_at _ k.rows i x.row x.at a.part.made.view.rows in
      record {
        value = x.value;
        held = record {
          revision = held.revision;
          is_held = within-behind d.fresh base now a.within (FilesAt (x.row).path) (file_node (x.row).revision) held.revision held.is_held;
          parents = held.parents;
          text = held.text;
        };
        parents = (parent-within base now a.within (FilesAt (x.row).path) ((x.row).revision).p parents.0, parent-within base now a.within (FilesAt (x.row).path) ((x.row).revision).q parents.1);
        link_known = a.link;
        short = each_at (λ (row : Row). length (file_text (row.revision).meta (row.revision).body) ≤ text_limit) k.rows i x.row x.at a.part.fits.files;
        fit = view.0;
        spells = view.2.2;
        added = a.added;
      }

  pub asked-on : (new rs : List Revision) → HaveCome now new rs → AreAdded new → IsAskedOver base new d link k
  asked-on new rs come added =
      let w : IsWithinHg now new = subst (IsWithinHg now) (sym come.are) (within-all now rs) in
      record {
        part = a.part;
        within = λ group node r e. w group node r (a.within group node r e);
        node_is = a.node_is;
        link = within-knows now new w Changesets link a.link;
        added = added;
      }
