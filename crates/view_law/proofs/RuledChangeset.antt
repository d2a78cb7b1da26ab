-- The changeset that is marked of a commit over blocks whose changesets are views is a view.
use Rattle.std.proofs.Common.{◌≡◌, ◌≢◌, ℕ, Bool, true, false, true≢false, not, List, [], ◌∷◌, ◌++◌, length, map, Option, Some, None, refl, sym, ap, subst, ◌∙◌, if◌then◌else◌}
use Rattle.std.specs.Prelude.{IsTrue, is_some, unwrap_or, option_map, bytes_eq, ⊤}
use Rattle.std.specs.List.{find, list_any, last_or}
use Rattle.std.specs.Option.{option_or}
use Rattle.text_model.specs.Lists.{Each, rises}
use Rattle.text_model.specs.Text.{Bytes, IsBytes, has_byte, is_below}
use Rattle.text_model.specs.Id.{Id, IsId, null, is_null, blob_id}
use Rattle.text_model.specs.Path.{is_fit_path}
use Rattle.text_model.proofs.EachLemmas.{Each-append, Each-weaker}
use Rattle.text_model.proofs.Elements.{each_in}
use Rattle.text_model.proofs.HexLemmas.{IsId-null}
use Rattle.text_model.proofs.Options.{not_true, or_parts}
use Rattle.text_model.proofs.TestLemmas.{both, bytes_eq-is, bytes_eq-self, bytes_eq-other}
use Rattle.hg_model.specs.Changeset.{IsChangeset, IsDateLine, Plain, Extra, AreExtras}
use Rattle.hg_model.proofs.ManifestLemmas.{manifest_text-none}
use Rattle.hg_model.proofs.ParentOrder.{manifest_order-again, manifest_order-ids}
use Rattle.git_model.specs.Commit.{IsLine}
use Rattle.git_model.specs.Tree.{has_distinct}
use Rattle.view_model.specs.View.{FileRevision, Row, IsRevision, ManifestParents, NoManifest, Over, AreManifestParents, manifest_node, ChangesetView, IsChangesetView, changeset_node, TreeRow, CommitView, IsCommitView, commit_id, files_among, tree_paths, paths_of, rows_text}
use Rattle.pair_model.specs.Block.{Block, node_of, id_of, changesets_in, hg_partner, view_or_none, Parents}
use Rattle.pair_model.specs.Octopus.{links_over, links_by, links_of, link_view, partners_of_parents, last_id, first_of, second_of, parents_of_commit}
use Rattle.pair_model.specs.Rule.{revision_at, with_body, new_revision, ruled_revision, ruled_row, ruled_rows, one_or_two, over_pair, ruled_manifest, ruled_files, rule_changeset}
use Rattle.pair_model.specs.MarkList.{extras_of}
use Rattle.pair_model.specs.User.{user_of_line, description_of}
use Rattle.pair_model.proofs.UserLemmas.{user-some, user-one_line}
use Rattle.partner_model.specs.Mark.{mark_changeset}
use Rattle.partner_model.specs.Table.{IsTable}
use Rattle.mark_law.proofs.MarkExtras.{marks-extras}
use Rattle.mark_law.proofs.LineBytes.{user-bytes, description-bytes}
use Rattle.unmark_law.proofs.ChangesetOne.{marks_in, marks_are, date_is}
use Rattle.unmark_law.proofs.Tables.{finds, found_there, hg_one, hg_there, HasId}
use Rattle.changeset_rule.proofs.RowViews.{new-is_revision}
use Rattle.changeset_rule.proofs.RuledLemmas.{each-among}
use Rattle.filled_law.proofs.Right.{files-rise}
use Rattle.changeset_rule.proofs.ViewLemmas.{IsListed, fit-listed, files-listed, date-plain, IsId-manifest_node, no-lines}
use Rattle.link_rule.proofs.PartnerViews.{changeset-in}
use Rattle.dump_law.proofs.Brought.{node_is_id}
use Rattle.next_law.proofs.LikeNew.{find-in}
use Rattle.view_law.proofs.Links.{HasFiles, files-at, IsParentNode, IsNewNode, IsFirstApart, saved-apart, not-null}

-- ---- the rows

abbrev IsRightRow : Row → Type 0
IsRightRow row = IsTrue (is_fit_path row.path) × IsBytes row.path × IsRevision row.revision

-- there is none, or it is a revision
abbrev IsRevisionOrNone : Option FileRevision → Type 0
IsRevisionOrNone None = ⊤
IsRevisionOrNone (Some r) = IsRevision r

with-right : (id : Id) (e : Option FileRevision) → IsRevisionOrNone e → IsRevisionOrNone (with_body id e)
with-right id None h = tt
with-right id (Some r) h = by (bytes_eq (blob_id r.body) id)
  where
    by : (t : Bool) → IsRevisionOrNone (if t then Some r else None)
    by true = h
    by false = tt

or-right : (a b : Option FileRevision) → IsRevisionOrNone a → IsRevisionOrNone b → IsRevisionOrNone (option_or a b)
or-right None b h k = k
or-right (Some r) b h k = h

unwrap-right : (a : Option FileRevision) (r : FileRevision) → IsRevisionOrNone a → IsRevision r → IsRevision (unwrap_or a r)
unwrap-right None r h k = k
unwrap-right (Some s) r h k = h

at-right : (rows : List Row) → Each IsRightRow rows → (path : Bytes) → IsRevisionOrNone (revision_at rows path)
at-right rows each path = by (find (λ row. bytes_eq row.path path) rows) refl
  where
    by : (o : Option Row) → find (λ row. bytes_eq row.path path) rows ≡ o → IsRevisionOrNone (option_map (λ row. row.revision) o)
    by None e = tt
    by (Some row) e = (each_in IsRightRow rows row each (find-in _ rows row e).0).2

module _ (ps : Parents) (first : HasFiles ps.first) (second : HasFiles ps.second) where
  row-revision : (t : TreeRow) → IsBytes t.content → IsRevision (ruled_row ps t).revision
  unfolding ruled_revision
  row-revision t bytes =
      let e1 = revision_at (ps.first).rows t.path in
      let e2 = revision_at (ps.second).rows t.path in
      unwrap-right (option_or (with_body t.id e1) (with_body t.id e2)) (new_revision e1 e2 t.content)
      (or-right (with_body t.id e1) (with_body t.id e2) (with-right t.id e1 (at-right (ps.first).rows first.rows t.path)) (with-right t.id e2 (at-right (ps.second).rows second.rows t.path)))
      (new-is_revision e1 e2 t.content bytes)

  rows-right : (ts : List TreeRow) → Each (λ t. IsTrue (is_fit_path t.path) × IsBytes t.path × IsBytes t.content) ts → Each IsRightRow (map (ruled_row ps) ts)
  rows-right [] h = tt
  rows-right (t ∷ ts) h = ((h.0.0, h.0.1, row-revision t h.0.2), rows-right ts h.1)

  paths-same : (ts : List TreeRow) → tree_paths ts ≡ paths_of (map (ruled_row ps) ts)
  paths-same [] = refl
  paths-same (t ∷ ts) = ap (λ (l : List Bytes). t.path ∷ l) (paths-same ts)

  -- ---- the manifest

  same-lines : (rows : List Row) (m : ManifestParents) → rows_text rows ≡ rows_text (ps.first).rows → AreManifestParents m (ps.first).rows → AreManifestParents m rows
  same-lines rows NoManifest e are = no-lines rows (e ∙ ap rows_text are ∙ manifest_text-none)
  same-lines rows (Over p q) e are = are

  ordered : (rows : List Row) (x y : Id) → IsId x → IsId y → AreManifestParents (over_pair (x, y)) rows
  ordered rows x y i j = let ids = manifest_order-ids x y i j in (ids.0, ids.1, manifest_order-again x y)

  manifest-right : (rows : List Row) → AreManifestParents (ruled_manifest ps rows) rows
  unfolding ruled_manifest
  manifest-right rows = by (bytes_eq (rows_text rows) (rows_text (ps.first).rows)) refl
    where
      m1 : Id
      m1 = ((ps.first).fields).manifest

      m2 : Id
      m2 = ((ps.second).fields).manifest

      new : (t : Bool) → AreManifestParents (over_pair (if t then (m1, null) else (m1, m2))) rows
      new true = ordered rows m1 null first.id IsId-null
      new false = ordered rows m1 m2 first.id second.id

      by : (t : Bool) → bytes_eq (rows_text rows) (rows_text (ps.first).rows) ≡ t → AreManifestParents (if t then (ps.first).manifest else over_pair (one_or_two m1 m2)) rows
      by true e = same-lines rows (ps.first).manifest (bytes_eq-is (rows_text rows) (rows_text (ps.first).rows) e) first.manifest
      by false e = new (bytes_eq m1 m2)

  -- ---- the files

  listed : (rows : List Row) → Each IsRightRow rows → Each IsListed (map (λ (row : Row). row.path) rows)
  listed [] h = tt
  listed (row ∷ rows) h = (fit-listed row.path h.0.0 h.0.1, listed rows h.1)

  files-right : (rows : List Row) → Each IsRightRow rows → Each IsListed (ruled_files ps rows)
  files-right rows h = files-listed ps rows (listed rows h) (listed (ps.first).rows first.rows) (listed (ps.second).rows second.rows)

-- ---- the parents

record AreRightParents (p q : Id) : Type 0 where
  pub ids : IsId p × IsId q
  pub first : p ≡ null → q ≡ null
  pub distinct : p ≡ q → p ≡ null

last-each : (P : Id → Type 0) (x : Id) (xs : List Id) → P x → Each P xs → P (unwrap_or (last_or (Some x) xs) null)
last-each P x [] h each = h
last-each P x (y ∷ xs) h each = last-each P y xs each.0 each.1

-- the node of a link, which is an id too
abbrev IsLinkNode : List Block → Id → Type 0
IsLinkNode blocks x = IsId x × IsNewNode blocks x

link-nodes : (blocks : List Block) (ls : List ChangesetView) → Each (λ l. IsNewNode blocks (changeset_node l)) ls → Each (IsLinkNode blocks) (map changeset_node ls)
link-nodes blocks [] each = tt
link-nodes blocks (l ∷ ls) each = ((node_is_id l, each.0), link-nodes blocks ls each.1)

parents-by : (blocks : List Block) (id : Id) (n : ℕ) (xs : List Id) → IsFirstApart xs → Each (IsParentNode blocks) xs → Each (λ l. IsNewNode blocks (changeset_node l)) (links_by blocks id n xs)
    → AreRightParents (last_id (first_of xs ∷ map changeset_node (links_by blocks id n xs))) (second_of xs)
unfolding links_over
parents-by blocks id n [] apart each nodes = record { ids = (IsId-null, IsId-null); first = λ e. refl; distinct = λ e. refl }
parents-by blocks id n (x ∷ []) apart each nodes = record { ids = ((each.0).id, IsId-null); first = λ e. refl; distinct = λ e. e }
parents-by blocks id n (x ∷ y ∷ []) apart each nodes = record {
  ids = ((each.0).id, ((each.1).0).id);
  first = λ e. absurd (not-null x (each.0).some e);
  distinct = λ e. absurd (apart.0 e);
}
parents-by blocks id n (x ∷ y ∷ z ∷ rest) apart each nodes =
    let base = view_or_none (changesets_in blocks) x in
    let l = link_view id base n 1 x y in
    let ls = links_over id base n 2 (changeset_node l) (z ∷ rest) in
    let p = last-each (IsLinkNode blocks) (changeset_node l) (map changeset_node ls) (node_is_id l, nodes.0) (link-nodes blocks ls nodes.1) in
    let q = last-each (IsParentNode blocks) y (z ∷ rest) (each.1).0 (each.1).1 in
    record {
      ids = (p.0, q.id);
      first = λ e. absurd (not-null _ (p.1).some e);
      distinct = λ e. absurd (saved-apart blocks _ _ (p.1).unsaved q.saved e);
    }

-- ---- the partners of the parents

partner-right : (blocks : List Block) → IsTable blocks → (id : Id) → HasId blocks id → IsParentNode blocks (hg_partner blocks id)
partner-right blocks table id h =
    let f = finds id_of id blocks h in
    let b = f.it in
    let is : hg_partner blocks id ≡ node_of b = ap (λ (o : Option Block). unwrap_or (option_map node_of o) null) f.found in
    record {
      some = not-null_test (hg_partner blocks id) (hg_there blocks table id h);
      id = subst IsId (sym is) (node_is_id b.changeset);
      saved = ap (λ (n : Id). is_some (find (λ v. bytes_eq (changeset_node v) n) (changesets_in blocks))) is ∙ found_there changeset_node (changesets_in blocks) b.changeset (changeset-in blocks b f.among);
    }
  where
    not-null_test : (x : Id) → x ≢ null → is_null x ≡ false
    not-null_test x h = bytes_eq-other x null h

pub partners-right : (blocks : List Block) → IsTable blocks → (ids : List Id) → Each (HasId blocks) ids → Each (IsParentNode blocks) (map (hg_partner blocks) ids)
partners-right blocks table [] each = tt
partners-right blocks table (id ∷ ids) each = (partner-right blocks table id each.0, partners-right blocks table ids each.1)

apart-from : (blocks : List Block) → IsTable blocks → (id : Id) (ids : List Id) → HasId blocks id → Each (HasId blocks) ids → list_any (bytes_eq id) ids ≡ false → Each (λ y. hg_partner blocks id ≢ y) (map (hg_partner blocks) ids)
apart-from blocks table id [] has each none = tt
apart-from blocks table id (x ∷ ids) has each none =
    let parts = or_parts (bytes_eq id x) (list_any (bytes_eq id) ids) none in (
      (λ e. true≢false (sym (ap (bytes_eq id) (sym (hg_one blocks table id x has each.0 e)) ∙ bytes_eq-self id) ∙ parts.0)),
      apart-from blocks table id ids has each.1 parts.1,
    )

pub first-apart : (blocks : List Block) → IsTable blocks → (ids : List Id) → Each (HasId blocks) ids → has_distinct ids ≡ true → IsFirstApart (map (hg_partner blocks) ids)
first-apart blocks table [] each distinct = tt
first-apart blocks table (id ∷ ids) each distinct =
    apart-from blocks table id ids each.0 each.1 (not_true (list_any (bytes_eq id) ids) (both (not (list_any (bytes_eq id) ids)) (has_distinct ids) distinct).0)

-- ---- the whole

plain-with : (line : Bytes) (extras : List Extra) → AreExtras extras → IsDateLine (Plain (user_of_line line).time (user_of_line line).tz extras)
plain-with line extras are =
    let d = date-plain line in
    record { time_low = d.time_low; time_high = d.time_high; tz_low = d.tz_low; tz_high = d.tz_high; items = are }

module _ (blocks : List Block) (c : CommitView) (view : IsCommitView c) where
  fields-right : (h : ChangesetView) → (ps : Parents) → HasFiles ps.first → HasFiles ps.second → (rows : List Row) → Each IsRightRow rows
      → (h.fields).manifest ≡ manifest_node (ruled_manifest ps rows) rows → (h.fields).user ≡ (user_of_line (c.value).author).user
      → (h.fields).date ≡ Plain (user_of_line (c.value).author).time (user_of_line (c.value).author).tz (extras_of (marks_in blocks c))
      → (h.fields).files ≡ ruled_files ps rows → (h.fields).description ≡ description_of (c.value).message → IsChangeset h.fields
  fields-right h ps first second rows right manifest user date files description =
      let line : IsLine (c.value).author = (view.value).author in
      record {
        manifest = subst IsId (sym manifest) (IsId-manifest_node (ruled_manifest ps rows) rows);
        user = subst (λ (u : Bytes). (u ≢ []) × (has_byte 10 u ≡ false) × IsBytes u) (sym user) (user-some (c.value).author, user-one_line (c.value).author line.1, user-bytes (c.value).author line.0);
        date = subst IsDateLine (sym date) (plain-with (c.value).author (extras_of (marks_in blocks c)) (marks-extras (marks_in blocks c) (marks_are blocks c view)));
        files = subst (Each IsListed) (sym files) (files-right ps first second rows right);
        description = subst IsBytes (sym description) (description-bytes (c.value).message (view.value).message);
      }

  pub marked-changeset : IsTable blocks → Each IsChangesetView (changesets_in blocks) → Each IsChangesetView (links_of blocks c) → Each (HasId blocks) (c.value).parents
      → Each (λ l. IsNewNode blocks (changeset_node l)) (links_of blocks c) → IsChangesetView (mark_changeset blocks c)
  unfolding mark_changeset rule_changeset parents_of_commit links_of
  marked-changeset table views links paired nodes =
      let ps = parents_of_commit blocks c in
      let all = Each-append IsChangesetView (links_of blocks c) (changesets_in blocks) links views in
      let first : HasFiles ps.first = files-at (links_of blocks c ++ changesets_in blocks) all ps.p in
      let second : HasFiles ps.second = files-at (links_of blocks c ++ changesets_in blocks) all ps.q in
      let rows = ruled_rows ps c.rows in
      let right = rows-right ps first second (files_among c.rows) (each-among _ c.rows (Each-weaker _ (λ (t : TreeRow). IsTrue (is_fit_path t.path) × IsBytes t.path × IsBytes t.content) (λ t h. (h.0, h.1, h.2)) c.rows view.rows)) in
      let parents = parents-by blocks (commit_id c) (length (c.value).parents) (partners_of_parents blocks c) (first-apart blocks table (c.value).parents paired view.distinct) (partners-right blocks table (c.value).parents paired) nodes in
      record {
        parents = parents.ids;
        first = parents.first;
        distinct = parents.distinct;
        fields = fields-right (mark_changeset blocks c) ps first second rows right refl refl (date_is blocks c) refl refl;
        manifest = manifest-right ps first second rows;
        rows = right;
        in_order = subst (λ (paths : List Bytes). IsTrue (rises is_below paths)) (paths-same ps first second (files_among c.rows)) (files-rise c.rows view.in_order);
        agrees = refl;
      }
