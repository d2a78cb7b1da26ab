-- Where bodies of one blob id are one, a changeset is the unmarking of its marked commit.
use Rattle.std.proofs.Common.{◌≡◌, Bool, true, false, List, [], ◌∷◌, Option, Some, None, refl, sym, ap, ◌∙◌, inl, inr, ◌⊎◌}
use Rattle.std.specs.Prelude.{bytes_eq, unwrap_or, MatchBool}
use Rattle.std.specs.List.{AllZip}
use Rattle.std.specs.Option.{option_or}
use Rattle.text_model.proofs.Options.{some_is}
use Rattle.text_model.specs.Lists.{In}
use Rattle.text_model.specs.Text.{Bytes}
use Rattle.text_model.specs.Id.{Id, blob_id}
use Rattle.pair_model.specs.Block.{Block, changesets_in, view_at, view_or_none, Parents}
use Rattle.view_model.specs.View.{FileRevision, Row, TreeRow, ChangesetView, IsChangesetView, CommitView, SameCommit, changeset_node, Compared, compared_revision, files_among, HaveSameBodies}
use Rattle.pair_model.specs.Rule.{tree_row_of, with_body, new_revision, revision_at, ruled_row}
use Rattle.partner_model.specs.Mark.{is_ruled, parents_of_changeset, mark_commit}
use Rattle.partner_model.specs.Partner.{IsUnmarkedRow, UnmarksCommit, AreChangesetParentsPaired}
use Rattle.partner_model.specs.Table.{AreBlobsApart}
use Rattle.pair_model.specs.Octopus.{is_link_view}
use Rattle.unmark_law.proofs.TreeRows.{IsFileOf, files_marked, revision_same}
use Rattle.partner_law.proofs.Up.{compared_is}
use Rattle.partner_law.proofs.Given.{ruled_by, at, revision_is}

-- ---- where a revision of the rule comes from

-- some row of the changesets has the revision
pub record IsHeld (views : List ChangesetView) (r : FileRevision) : Type 0 where
  pub view : ChangesetView
  pub among : In view views
  pub row : Row
  pub in_rows : In row view.rows
  pub is : row.revision ≡ r

row_found : (path : Bytes) (rows : List Row) (r : FileRevision) → revision_at rows path ≡ Some r → (row : Row) × In row rows × (row.revision ≡ r)
row_found path [] r h = absurd cc
row_found path (x ∷ xs) r h = by (bytes_eq x.path path) refl (row_found path xs r)
  where
    by : (t : Bool) → bytes_eq x.path path ≡ t → (revision_at xs path ≡ Some r → (row : Row) × In row xs × (row.revision ≡ r)) → (row : Row) × In row (x ∷ xs) × (row.revision ≡ r)
    by true e go =
        let g : Some x.revision ≡ Some r = rw e at h in
        (x, inl refl, some_is g)
    by false e go =
        let g : revision_at xs path ≡ Some r = rw e at h in
        let t = go g in
        (t.0, inr t.1, t.2)

pub view_found : (views : List ChangesetView) (node : Id) (v : ChangesetView) → view_at views node ≡ Some v → In v views
view_found [] node v h = absurd cc
view_found (x ∷ xs) node v h = by (bytes_eq (changeset_node x) node) refl (view_found xs node v)
  where
    by : (t : Bool) → bytes_eq (changeset_node x) node ≡ t → (view_at xs node ≡ Some v → In v xs) → In v (x ∷ xs)
    by true e go =
        let g : Some x ≡ Some v = rw e at h in
        inl (sym (some_is g))
    by false e go =
        let g : view_at xs node ≡ Some v = rw e at h in
        inr (go g)

held : (views : List ChangesetView) (node : Id) (path : Bytes) (r : FileRevision) → revision_at (view_or_none views node).rows path ≡ Some r → IsHeld views r
held views node path r h = by (view_at views node) refl
  where
    by : (o : Option ChangesetView) → view_at views node ≡ o → IsHeld views r
    by None e =
        let g : None ≡ Some r = rw e at h in
        absurd cc
    by (Some v) e =
        let g : revision_at v.rows path ≡ Some r = rw e at h in
        let f = row_found path v.rows r g in
        record { view = v; among = view_found views node v e; row = f.0; in_rows = f.1; is = f.2 }

with_body_held : (id : Id) (e : Option FileRevision) (r : FileRevision) → with_body id e ≡ Some r → e ≡ Some r
with_body_held id None r h = h
with_body_held id (Some s) r h = by (bytes_eq (blob_id s.body) id) refl
  where
    by : (t : Bool) → bytes_eq (blob_id s.body) id ≡ t → Some s ≡ Some r
    by true e = rw e at h
    by false e =
        let g : None ≡ Some r = rw e at h in
        absurd cc

-- the revision of the rule is held, or has the content as its body
pub source_by : (views : List ChangesetView) (p q : Id) (path : Bytes) (id : Id) (content : Bytes) →
    IsHeld views (ruled_by (revision_at (view_or_none views p).rows path) (revision_at (view_or_none views q).rows path) id content)
    ⊎ ((ruled_by (revision_at (view_or_none views p).rows path) (revision_at (view_or_none views q).rows path) id content).body ≡ content)
source_by views p q path id content = by (with_body id e1) (with_body id e2) refl refl
  where
    e1 : Option FileRevision
    e1 = revision_at (view_or_none views p).rows path

    e2 : Option FileRevision
    e2 = revision_at (view_or_none views q).rows path

    by : (o u : Option FileRevision) → with_body id e1 ≡ o → with_body id e2 ≡ u → IsHeld views (unwrap_or (option_or o u) (new_revision e1 e2 content)) ⊎ ((unwrap_or (option_or o u) (new_revision e1 e2 content)).body ≡ content)
    by (Some r) u f g = inl (held views p path r (with_body_held id e1 r f))
    by None (Some r) f g = inl (held views q path r (with_body_held id e2 r g))
    by None None f g = inr refl

-- ---- rows

-- where a row's revision compares as the rule's, it is the rule's
agrees : (blocks : List Block) (h : ChangesetView) → AreBlobsApart (h ∷ changesets_in blocks) → (row : Row) → In row h.rows → is_ruled (parents_of_changeset blocks h) row ≡ true
    → row.revision ≡ (ruled_row (parents_of_changeset blocks h) (tree_row_of row)).revision
agrees blocks h apart row among e = by (source_by (changesets_in blocks) h.p h.q row.path (blob_id (row.revision).body) (row.revision).body)
  where
    ps : Parents
    ps = parents_of_changeset blocks h

    found : FileRevision
    found = (ruled_row ps (tree_row_of row)).revision

    c : compared_revision row.revision ≡ compared_revision found
    c = compared_is row.revision found e

    whole : (row.revision).body ≡ found.body → row.revision ≡ found
    whole b = λ i. record { p = (c i).p; q = (c i).q; meta = (c i).meta; body = b i }

    by : IsHeld (changesets_in blocks) (at ps (tree_row_of row) (blob_id (row.revision).body) (row.revision).body) ⊎ ((at ps (tree_row_of row) (blob_id (row.revision).body) (row.revision).body).body ≡ (row.revision).body) → row.revision ≡ found
    by (inr b) = whole (sym (ap (λ x. x.body) (revision_is ps (tree_row_of row)) ∙ b))
    by (inl held) =
        let is : (held.row).revision ≡ found = held.is ∙ sym (revision_is ps (tree_row_of row)) in
        let one : blob_id (row.revision).body ≡ blob_id ((held.row).revision).body = ap (λ (x : Compared). x.body) c ∙ ap (λ x. blob_id x.body) (sym is) in
        whole (apart h held.view row held.row (inl refl) (inr held.among) among held.in_rows one ∙ ap (λ x. x.body) is)

unmarked_row : (ps : Parents) (h : Row) (c : TreeRow) → IsFileOf h c → (h.revision).body ≡ c.content → (is_ruled ps h ≡ true → h.revision ≡ (ruled_row ps (tree_row_of h)).revision) → IsUnmarkedRow ps h c
unmarked_row ps h c s b f = by (is_ruled ps h) refl
  where
    by : (t : Bool) → is_ruled ps h ≡ t → MatchBool t (h.revision ≡ (ruled_row ps c).revision) ((h.revision).body ≡ c.content)
    by true g = f g ∙ revision_same ps (tree_row_of h) c s.path s.id b
    by false g = b

rows_from : (ps : Parents) (hs : List Row) (cs : List TreeRow) → ((row : Row) → In row hs → is_ruled ps row ≡ true → row.revision ≡ (ruled_row ps (tree_row_of row)).revision)
    → AllZip IsFileOf hs cs → HaveSameBodies hs cs → AllZip (IsUnmarkedRow ps) hs cs
rows_from ps [] [] f s b = tt
rows_from ps [] (c ∷ cs) f s b = absurd s
rows_from ps (h ∷ hs) [] f s b = absurd s
rows_from ps (h ∷ hs) (c ∷ cs) f s b = (unmarked_row ps h c s.0 b.1 (f h (inl refl)), rows_from ps hs cs (λ row among g. f row (inr among) g) s.1 b.2)

-- the unmarking of its marked commit, where the bodies are the commit's
pub unmarks_from : (blocks : List Block) (h : ChangesetView) (c : CommitView) → AreBlobsApart (h ∷ changesets_in blocks) → IsChangesetView h → is_link_view h ≡ false → AreChangesetParentsPaired blocks h
    → SameCommit (mark_commit blocks h) c → HaveSameBodies h.rows (files_among c.rows) → UnmarksCommit blocks c h
unmarks_from blocks h c apart v no_link paired marked bodies = record {
  view = v;
  no_link = no_link;
  paired = paired;
  marked = marked;
  bodies = rows_from (parents_of_changeset blocks h) h.rows (files_among c.rows) (agrees blocks h apart) (files_marked blocks h c v.in_order marked) bodies;
}
