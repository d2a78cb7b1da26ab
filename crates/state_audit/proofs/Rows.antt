-- File revisions to which changesets of blocks refer: their parents and their bodies were asked before.
use Rattle.std.proofs.Common.{◌≡◌, Bool, true, false, List, [], ◌∷◌, map, Option, Some, None, refl, sym, ap, subst, ◌∙◌, inl, inr}
use Rattle.std.specs.Prelude.{◌&&◌, ◌↔◌, bytes_eq, option_map, IsTrue}
use Rattle.std.specs.List.{list_any}
use Rattle.std.proofs.lemmas.Slice.Eq.{bytes_eq-Decides}
use Rattle.text_model.specs.Lists.{Each, In}
use Rattle.text_model.specs.Text.{Bytes}
use Rattle.text_model.specs.Id.{Id, ObjectKind, blob_id}
use Rattle.text_model.proofs.Elements.{each_in, none_in}
use Rattle.text_model.proofs.Options.{some_is, some_none, or_parts, or_neither}
use Rattle.text_model.proofs.TestLemmas.{both, bytes_eq-is}
use Rattle.hg_model.specs.Revision.{FilesAt, Revision, knows}
use Rattle.git_model.specs.Object.{Object, object_at}
use Rattle.git_store.proofs.Growth.{any-in}
use Rattle.view_model.specs.View.{ChangesetView, FileRevision, Row, changeset_node, file_node, entry_of_row}
use Rattle.view_model.specs.Held.{IsFileHeld, IsChangesetHeld, AreChangesetsHeld}
use Rattle.view_model.specs.Dump.{revisions_in}
use Rattle.pair_model.specs.Block.{Block, changesets_in}
use Rattle.partner_model.specs.Given.{has_late_file}
use Rattle.hg_dump.specs.declared.refers.Refers.{Refers}
use Rattle.pair_known.specs.Rows.{RowValue, row_value}
use Rattle.pair_known.proofs.HeldViews.{one_row}
use Rattle.pair_choice.specs.Bodies.{IsBodyHeld}
use Rattle.pull_bundle.specs.Late.{RefersIn, is_late_row}
use Rattle.pull_bundle.proofs.Referred.{knows-file}
use Rattle.state_audit.specs.Audited.{AreInTime, AreBodiesHeld, IsFileRight}

-- a row with the path and the node
pub record IsRowAt (hs : List ChangesetView) (path : Bytes) (node : Id) : Type 0 where
  pub view : ChangesetView
  pub among : In view hs
  pub row : Row
  pub in_rows : In row view.rows
  pub path_is : row.path ≡ path
  pub node_is : file_node row.revision ≡ node

row-at : (front : List Block) (path : Bytes) (node : Id) → knows (revisions_in (changesets_in front)) (FilesAt path) node ≡ true → IsRowAt (changesets_in front) path node
row-at front path node h =
    let at = any-in (λ (v : ChangesetView). list_any (λ row. bytes_eq row.path path && bytes_eq (file_node row.revision) node) v.rows) (changesets_in front) (sym (knows-file path node front) ∙ h) in
    let row = any-in (λ (row : Row). bytes_eq row.path path && bytes_eq (file_node row.revision) node) (at.0).rows at.2 in
    let parts = both (bytes_eq (row.0).path path) (bytes_eq (file_node (row.0).revision) node) row.2 in
    record { view = at.0; among = at.1; row = row.0; in_rows = row.1; path_is = bytes_eq-is (row.0).path path parts.0; node_is = bytes_eq-is (file_node (row.0).revision) node parts.1 }

pub view-held : (hg : List Revision) (hs : List ChangesetView) → AreChangesetsHeld hg (map changeset_node hs) hs → (v : ChangesetView) → In v hs → IsChangesetHeld hg (changeset_node v) v
view-held hg [] held v i = absurd i
view-held hg (x ∷ hs) held v (inl e) = subst (λ (w : ChangesetView). IsChangesetHeld hg (changeset_node w) w) (sym e) held.0
view-held hg (x ∷ hs) held v (inr j) = view-held hg hs held.1 v j

module _ (hg : List Revision) where
  -- the revision of a path and a node is one
  revision-one : (a b : Row) → IsFileHeld hg a → IsFileHeld hg b → a.path ≡ b.path → file_node a.revision ≡ file_node b.revision → a.revision ≡ b.revision
  revision-one a b ha hb p n =
      let c : Row = record { path = b.path; flag = a.flag; revision = b.revision } in
      let hc : IsFileHeld hg c = record { revision = hb.revision; is_held = hb.is_held; parents = hb.parents; text = hb.text } in
      let entry : entry_of_row a ≡ entry_of_row c = λ i. record { path = p i; node = n i; flag = a.flag } in
      ap (λ (r : Row). r.revision) (one_row hg a c ha hc entry)

  module _ (referred : Refers) (front : List Block) (refers : RefersIn hg referred front) (file : Row) (held : IsFileHeld hg file) (v : RowValue) (is : v ≡ row_value file)
      (known : knows (revisions_in (changesets_in front)) (FilesAt v.path) v.node ≡ true) where
    at : IsRowAt (changesets_in front) file.path (file_node file.revision)
    at = row-at front file.path (file_node file.revision) (subst (λ (x : RowValue). knows (revisions_in (changesets_in front)) (FilesAt x.path) x.node ≡ true) is known)

    same : at.row.revision ≡ file.revision
    same = revision-one at.row file (each_in (IsFileHeld hg) (at.view).rows at.row (view-held hg (changesets_in front) refers.held at.view at.among).files at.in_rows) held at.path_is at.node_is

    pub in-time_before : AreInTime front → is_late_row front file ≡ false
    in-time_before times =
        let whole = each_in (λ w. has_late_file front w.rows ≡ false) (changesets_in front) at.view times at.among in
        let own : is_late_row front at.row ≡ false = none_in (is_late_row front) (at.view).rows at.row whole at.in_rows in
        let whole-row : is_late_row front at.row ≡ is_late_row front file = (λ i. is_late_row front (record { path = at.path_is i; flag = at.row.flag; revision = same i })) in
        sym whole-row ∙ own

    pub body_before : (git : List Object) → AreBodiesHeld git front → IsBodyHeld git file
    body_before git blobs =
        let own = each_in (IsBodyHeld git) (at.view).rows at.row (each_in (λ w. Each (IsBodyHeld git) w.rows) (changesets_in front) at.view blobs at.among) at.in_rows in
        subst (λ (r : FileRevision). (o : Object) × (object_at git (blob_id r.body) ≡ Some o) × (o.content ≡ r.body)) same own

-- ---- a body beside what is stored under its blob id

pub body-test : (git : List Object) (file : Row) (id : Id) (kind : ObjectKind) (content body : Bytes) (b : Bool) → id ≡ blob_id (file.revision).body → body ≡ (file.revision).body
    → Some (kind, content) ≡ option_map {U = ObjectKind × Bytes} (λ (o : Object). (o.kind, o.content)) (object_at git id) → b ≡ bytes_eq content body → IsTrue b ↔ IsBodyHeld git file
body-test git file id kind content body b of is at test = by (object_at git id) refl
  where
    by : (o : Option Object) → object_at git id ≡ o → IsTrue b ↔ IsBodyHeld git file
    by None e = absurd (some_none (at ∙ ap (option_map {U = ObjectKind × Bytes} (λ (o : Object). (o.kind, o.content))) e))
    by (Some o) e =
        let pair : (kind, content) ≡ (o.kind, o.content) = some_is (at ∙ ap (option_map {U = ObjectKind × Bytes} (λ (o : Object). (o.kind, o.content))) e) in
        let same : content ≡ o.content = ap (λ (p : ObjectKind × Bytes). p.1) pair in
        let here : object_at git (blob_id (file.revision).body) ≡ Some o = ap (object_at git) (sym of) ∙ e in (
          (λ t. (o, here, sym same ∙ (bytes_eq-Decides content body).0 (sym test ∙ t) ∙ is)),
          (λ h. test ∙ (bytes_eq-Decides content body).1 (same ∙ ap (λ (x : Object). x.content) (some_is (sym here ∙ h.1)) ∙ h.2 ∙ sym is)),
        )

-- ---- files one by one

pub files-right : (git : List Object) (front : List Block) (files : List Row) → Each (IsFileRight git front) files ↔ ((has_late_file front files ≡ false) × Each (IsBodyHeld git) files)
files-right git front [] = ((λ h. (refl, tt)), (λ h. tt))
files-right git front (x ∷ xs) = (
  (λ h. let more = (files-right git front xs).0 h.1 in (or_neither (is_late_row front x) (has_late_file front xs) h.0.0 more.0, (h.0.1, more.1))),
  (λ h. let parts = or_parts (is_late_row front x) (has_late_file front xs) h.0 in ((parts.0, h.1.0), (files-right git front xs).1 (parts.1, h.1.1))),
)
