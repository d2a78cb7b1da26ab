-- The changeset that the rule gives, put together of its parts.
use Rattle.std.proofs.Common.{◌≡◌, ◌≤◌, ◌++◌, Bool, true, false, true≢false, not, List, [], ◌∷◌, length, map, Option, refl, sym, ap, subst, ◌∙◌, arith}
use Rattle.std.specs.Prelude.{bytes_eq, is_some, if◌then◌else◌, IfSome, IsTrue}
use Rattle.std.specs.List.{list_any}
use Rattle.std.proofs.lemmas.Slice.Eq.{bytes_eq-Decides}
use Rattle.text_model.specs.Lists.{Each, rises}
use Rattle.text_model.specs.Text.{Bytes, IsBytes, is_below}
use Rattle.text_model.specs.Path.{is_fit_path}
use Rattle.text_model.specs.Id.{Id, null, is_null, blob_id}
use Rattle.text_model.proofs.TestLemmas.{both}
use Rattle.hg_model.specs.Changeset.{Plain, changeset_text}
use Rattle.hg_model.specs.Changeset as model
use Rattle.git_model.specs.Tree.{Mode, File, GroupFile, Exec, Link, Directory, Gitlink, is_blob_mode, has_distinct}
use Rattle.git_model.proofs.SortLemmas.{Ascends, rises-ascends, ascends-rises}
use Rattle.git_model.specs.Commit as git
use Rattle.hg_store.specs.Known.{AreAdded, knows_same}
use Rattle.hg_changeset.specs.Values.{changeset_value}
use Rattle.hg_changeset.specs.declared.changeset.Changeset.{Changeset}
use Rattle.view_model.specs.View.{IsRowId, ChangesetView, IsChangesetView, CommitView, TreeRow, Row, IsRevision, manifest_node, files_among, paths_of, tree_paths, rows_text, ChangesetFits}
use Rattle.pair_model.specs.Block.{Block, block_of_id, hg_partner, git_partner, Parents}
use Rattle.pair_model.specs.Rule.{ruled_row, ruled_rows, ruled_manifest, ruled_files, rule_changeset}
use Rattle.pair_model.specs.User.{user_of_line, description_of}
use Rattle.pair_model.proofs.UserLemmas.{user-some, user-one_line}
use Rattle.pair_model.specs.Octopus.{parents_of_commit, first_of, second_of}
use Rattle.pair_model.specs.Plain.{changeset_by_rule}
use Rattle.pair_known.specs.Partners.{ArePartners}
use Rattle.pair_known.specs.Blocks.{IsHistoryHeld}
use Rattle.pair_known.specs.Over.{IsCommitOver}
use Rattle.pair_known.specs.Ruled.{IsMadeChangeset, IsRuledChangeset, IsLooseView, HasFileParents, HasManifestParents}
use Rattle.pair_known.specs.declared.known.Known.{Known}
use Rattle.pair_known.specs.declared.git_draft.GitDraft.{GitDraft}
use Rattle.pair_known.specs.declared.hg_draft.HgDraft.{HgDraft}
use Rattle.pair_known.specs.declared.draft_texts.DraftTexts.{DraftTexts}
use Rattle.pair_known.proofs.PartnerLemmas.{pairs_of, back-partner}
use Rattle.file_rule.specs.Parents.{IsParent}
use Rattle.file_rule.specs.Rows.{AreRows, AreMadeRows}
use Rattle.file_rule.specs.declared.parents.Parent.{Parent}
use Rattle.file_rule.specs.declared.rows.RuledRows.{RuledRows}
use Rattle.manifest_rule.specs.Listed.{AreListedOver}
use Rattle.manifest_rule.specs.Over.{IsMadeManifest}
use Rattle.manifest_rule.specs.declared.manifest.RuledManifest.{RuledManifest}
use Rattle.link_rule.proofs.PartnerViews.{partner-held, no-null}
use Rattle.changeset_rule.specs.Parents.{HasFilesAt, AreParentNodes}
use Rattle.changeset_rule.specs.declared.parents.ParentNodes.{ParentNodes}
use Rattle.changeset_rule.proofs.ParentLemmas.{parents-are, nodes, first-at, second-node, second-at, ids}
use Rattle.changeset_rule.proofs.RowViews.{IsRightRow, row-revision, rows-parents}
use Rattle.changeset_rule.proofs.ViewLemmas.{IsListed, fit-listed, files-listed, rows-listed, date-plain, rows-at, manifest-right, IsId-manifest_node}

-- the id of a row that is a file
row-blob : (m : Mode) (id : Id) (content : Bytes) → IsRowId m id content → is_blob_mode m ≡ true → id ≡ blob_id content
row-blob File id content h b = h
row-blob GroupFile id content h b = h
row-blob Exec id content h b = h
row-blob Link id content h b = h
row-blob Directory id content h b = absurd (true≢false (sym b))
row-blob Gitlink id content h b = absurd (true≢false (sym b))

-- what holds of all rows holds of the files
pub each-among : (P : TreeRow → Type 0) (ts : List TreeRow) → Each P ts → Each P (files_among ts)
each-among P [] h = tt
each-among P (t ∷ ts) h = by (is_blob_mode t.mode) (each-among P ts h.1)
  where
    by : (b : Bool) → Each P (files_among ts) → Each P (if b then t ∷ files_among ts else files_among ts)
    by true rest = (h.0, rest)
    by false rest = rest

-- files rise where the rows do
ascends-among : (ts : List TreeRow) → Ascends (λ (t : TreeRow). t.path) ts → Ascends (λ (t : TreeRow). t.path) (files_among ts)
ascends-among [] h = tt
ascends-among (t ∷ ts) h = by (is_blob_mode t.mode) (ascends-among ts h.1)
  where
    by : (b : Bool) → Ascends (λ (t : TreeRow). t.path) (files_among ts) → Ascends (λ (t : TreeRow). t.path) (if b then t ∷ files_among ts else files_among ts)
    by true rest = (each-among (λ (x : TreeRow). is_below t.path x.path ≡ true) ts h.0, rest)
    by false rest = rest

rises-among : (ts : List TreeRow) → IsTrue (rises is_below (tree_paths ts)) → IsTrue (rises is_below (tree_paths (files_among ts)))
rises-among ts h = ascends-rises (λ (t : TreeRow). t.path) (files_among ts) (ascends-among ts (rises-ascends (λ (t : TreeRow). t.path) ts h))

each-of : {X : Type 0} (P Q : X → Type 0) (xs : List X) → ((x : X) → P x → Q x) → Each P xs → Each Q xs
each-of P Q [] f h = tt
each-of P Q (x ∷ xs) f h = (f x h.0, each-of P Q xs f h.1)

each-mapped : {X Y : Type 0} (g : X → Y) (P : X → Type 0) (Q : Y → Type 0) (xs : List X) → ((x : X) → P x → Q (g x)) → Each P xs → Each Q (map g xs)
each-mapped g P Q [] f h = tt
each-mapped g P Q (x ∷ xs) f h = (f x h.0, each-mapped g P Q xs f h.1)

apart : (a b : Id) → not (list_any (bytes_eq a) (b ∷ [])) ≡ true → bytes_eq a b ≡ true → ⊥
apart a b h e = true≢false (sym (rw e at h))

-- ---- a commit of two parents at most

pub few-of : (k : Known) (blocks : List Block) (d : GitDraft) (v : CommitView) → IsCommitOver k blocks d v → length (d.commit).parents ≤ 2 → length (v.value).parents ≤ 2
few-of k blocks d v over few = subst (λ (x : git.Commit). length x.parents ≤ 2) (sym (over.draft).value) few

module _ (k : Known) (blocks : List Block) (v : CommitView) (history : IsHistoryHeld k blocks) where
  not-null : (a : Id) → IsTrue (is_some (block_of_id blocks a)) → hg_partner blocks a ≡ null → ⊥
  not-null a h e = no-null k blocks history history.added _ (hg_partner blocks a) ((bytes_eq-Decides (hg_partner blocks a) null).1 e) (partner-held k blocks history history.added a h)

  pub null-first : (ids : List Id) → length ids ≤ 2 → Each (λ p. IsTrue (is_some (block_of_id blocks p))) ids → first_of (map (hg_partner blocks) ids) ≡ null → second_of (map (hg_partner blocks) ids) ≡ null
  null-first [] few all e = refl
  null-first (a ∷ []) few all e = refl
  null-first (a ∷ b ∷ []) few all e = absurd (not-null a all.0 e)
  null-first (a ∷ b ∷ c ∷ ids) few all e = absurd (grind (arith, few))

  pub one-parent : ArePartners (pairs_of blocks) → (ids : List Id) → length ids ≤ 2 → Each (λ p. IsTrue (is_some (block_of_id blocks p))) ids → has_distinct ids ≡ true
      → first_of (map (hg_partner blocks) ids) ≡ second_of (map (hg_partner blocks) ids) → first_of (map (hg_partner blocks) ids) ≡ null
  one-parent are [] few all distinct e = refl
  one-parent are (a ∷ []) few all distinct e = e
  one-parent are (a ∷ b ∷ []) few all distinct e =
      let same : a ≡ b = sym (back-partner blocks are a all.0) ∙ ap (git_partner blocks) e ∙ back-partner blocks are b all.1.0 in
      absurd (apart a b (both _ _ distinct).0 ((bytes_eq-Decides a b).1 same))
  one-parent are (a ∷ b ∷ c ∷ ids) few all distinct e = absurd (grind (arith, few))

module _ (k : Known) (blocks : List Block) (d : GitDraft) (v : CommitView) (over : IsCommitOver k blocks d v) where
  abbrev pub ps : Parents
  ps = parents_of_commit blocks v

  added : AreAdded k.hg
  added = (over.history).added

  in-first : HasFilesAt k.hg (first_of (nodes k blocks d v over)) ps.first
  in-first = first-at k blocks d v over

  in-second : HasFilesAt k.hg (second-node k blocks d v over) ps.second
  in-second = second-at k blocks d v over

  -- ---- the changeset with its parts

  abbrev pub rows : List Row
  rows = ruled_rows ps v.rows

  abbrev fields-with : Id → List Bytes → git.Commit → model.Changeset
  fields-with manifest files c = record {
    manifest = manifest;
    user = (user_of_line c.author).user;
    date = Plain (user_of_line c.author).time (user_of_line c.author).tz [];
    files = files;
    description = description_of c.message;
  }

  abbrev with-rows : List Row → ChangesetView
  with-rows rs = record {
    p = ps.p;
    q = ps.q;
    fields = fields-with (manifest_node (ruled_manifest ps rs) rs) (ruled_files ps rs) v.value;
    manifest = ruled_manifest ps rs;
    rows = rs;
  }

  pub rule-is : changeset_by_rule blocks v ≡ with-rows rows
  unfolding rule_changeset
  rule-is = refl

  pub are-rows : (first second : Parent) → IsParent k.hg first ps.first → IsParent k.hg second ps.second → AreRows k.hg (d.fresh ++ k.git) d.files first second ps v.rows
  are-rows first second a b = record {
    in_first = a;
    in_second = b;
    of_files = (over.draft).files;
    ids = each-of _ (λ (t : TreeRow). is_blob_mode t.mode ≡ true → t.id ≡ blob_id t.content) v.rows (λ t h. row-blob t.mode t.id t.content h.3) (over.view).rows;
    contents = (over.draft).blobs;
  }

  same-paths : (ts : List TreeRow) → tree_paths ts ≡ paths_of (map (ruled_row ps) ts)
  same-paths [] = refl
  same-paths (t ∷ ts) = ap (λ (l : List Bytes). t.path ∷ l) (same-paths ts)

  pub rising : IsTrue (rises is_below (paths_of rows))
  rising = subst (λ (paths : List Bytes). IsTrue (rises is_below paths)) (same-paths (files_among v.rows)) (rises-among v.rows (over.view).in_order)

  pub are-listed : (made : RuledRows) → AreMadeRows k.hg made ps v.rows → (first second : Parent) → IsParent k.hg first ps.first → IsParent k.hg second ps.second
      → first.is_there ≡ not (is_null ps.p) → second.is_there ≡ not (is_null ps.q) → AreListedOver made.rows first second ps rows
  are-listed made rows-are first second a b there1 there2 = record {
    of_rows = rows-are.rows;
    rising = rising;
    there = (flipped (is_null ps.p) first.is_there there1, flipped (is_null ps.q) second.is_there there2);
    in_first = sym a.entries;
    in_second = sym b.entries;
  }
    where
      flipped : (a b : Bool) → b ≡ not a → a ≡ not b
      flipped true b e = ap not (sym e)
      flipped false b e = ap not (sym e)

  pub right-first : Each (IsRightRow k.hg) (ps.first).rows
  right-first = rows-at k.hg added _ ps.first in-first

  pub right-second : Each (IsRightRow k.hg) (ps.second).rows
  right-second = rows-at k.hg added _ ps.second in-second

  abbrev IsRow : Row → Type 0
  IsRow row = IsTrue (is_fit_path row.path) × IsBytes row.path × IsRevision row.revision

  rows-right : Each IsRow rows
  rows-right = each-mapped (ruled_row ps) _ IsRow (files_among v.rows) (λ t h. (h.0, h.1, row-revision k.hg added ps right-first right-second t h.2)) (each-among _ v.rows (over.view).rows)

  pub loose : IsBytes (user_of_line (v.value).author).user → IsBytes (description_of (v.value).message) → IsLooseView (with-rows rows)
  loose user desc =
      record {
        parents = ids k blocks d v over;
        fields = record {
          manifest = IsId-manifest_node (ruled_manifest ps rows) rows;
          user = (user-some (v.value).author, user-one_line (v.value).author (((over.view).value).author).1, user);
          date = date-plain (v.value).author;
          files = files-listed ps rows (each-mapped (λ (row : Row). row.path) IsRow IsListed rows (λ row h. fit-listed row.path h.0 h.1) rows-right) (rows-listed k.hg (ps.first).rows right-first) (rows-listed k.hg (ps.second).rows right-second);
          description = desc;
        };
        manifest = (manifest-right k.hg ps rows added _ _ in-first in-second).0;
        rows = rows-right;
        in_order = rising;
        agrees = refl;
      }

  -- the parents of the commit differ, so the changeset's do
  pub whole : length (v.value).parents ≤ 2 → ArePartners (pairs_of blocks) → IsLooseView (changeset_by_rule blocks v) → IsChangesetView (changeset_by_rule blocks v)
  unfolding rule_changeset
  whole few are view =
      let p-is : ps.p ≡ first_of (map (hg_partner blocks) (v.value).parents) = ap (λ (x : Parents). x.p) (parents-are blocks v few) in
      let q-is : ps.q ≡ second_of (map (hg_partner blocks) (v.value).parents) = ap (λ (x : Parents). x.q) (parents-are blocks v few) in
      record {
        parents = view.parents;
        first = λ e. q-is ∙ null-first k blocks v over.history (v.value).parents few over.parents (sym p-is ∙ e);
        distinct = λ e. p-is ∙ one-parent k blocks v over.history are (v.value).parents few over.parents (over.view).distinct (sym p-is ∙ e ∙ q-is);
        fields = view.fields;
        manifest = view.manifest;
        rows = view.rows;
        in_order = view.in_order;
        agrees = view.agrees;
      }

  pub fields-are : (m : RuledManifest) → IsMadeManifest m ps rows → (files : List Bytes) → files ≡ ruled_files ps rows → (x : Changeset) → changeset_value x ≡ fields-with m.node files d.commit
      → changeset_value x ≡ (with-rows rows).fields
  fields-are m m-is files files-are x x-is = x-is ∙ (λ i. fields-with (m-is.node i) (files-are i) (sym (over.draft).value i))

  pub draft-made : (ns : ParentNodes) → AreParentNodes k.hg ns ps → (made : RuledRows) → AreMadeRows k.hg made ps v.rows → Each (λ r. knows_same k.hg r ≡ false) made.fresh
      → (m : RuledManifest) → IsMadeManifest m ps rows → (files : List Bytes) → files ≡ ruled_files ps rows
      → (x : Changeset) → changeset_value x ≡ fields-with m.node files d.commit → IsBytes x.user → IsBytes x.desc
      → (t : DraftTexts) → IfSome t.changeset (λ text. text ≡ changeset_text (changeset_value x)) → t.manifest ≡ m.text
      → IsMadeChangeset k.hg (record { p1 = ns.p1; p2 = ns.p2; changeset = x; manifest = m.manifest; rows = made.rows; fresh = made.fresh; texts = t }) (changeset_by_rule blocks v)
  draft-made ns are made rows-are new m m-is files files-are x x-is user desc t text t-is =
      let fields = fields-are m m-is files files-are x x-is in
      let D : HgDraft = record { p1 = ns.p1; p2 = ns.p2; changeset = x; manifest = m.manifest; rows = made.rows; fresh = made.fresh; texts = t } in
      subst (λ (h : ChangesetView). IsMadeChangeset k.hg D h) (sym rule-is) (record {
        draft = record {
          parents = (sym (are.parents).0, sym (are.parents).1);
          fields = sym fields;
          manifest = sym m-is.manifest;
          rows = rows-are.rows;
          files = rows-are.held;
          texts = record {
            changeset = subst (λ (f : model.Changeset). IfSome t.changeset (λ s. s ≡ changeset_text f)) fields text;
            manifest = subst (λ (o : Option Bytes). IfSome o (λ s. s ≡ rows_text rows)) (sym t-is) m-is.text;
          };
        };
        of_rows = rows-are.of_rows;
        are_new = new;
        view = loose (subst IsBytes (ap (λ (f : model.Changeset). f.user) fields) user) (subst IsBytes (ap (λ (f : model.Changeset). f.description) fields) desc);
      })

  -- the parents of its revisions are known
  pub has-parents : Each (HasFileParents k.hg) (changeset_by_rule blocks v).rows × HasManifestParents k.hg (changeset_by_rule blocks v).manifest
  has-parents = (
    subst (λ (h : ChangesetView). Each (HasFileParents k.hg) h.rows) (sym rule-is) (rows-parents k.hg added ps right-first right-second (files_among v.rows)),
    subst (λ (h : ChangesetView). HasManifestParents k.hg h.manifest) (sym rule-is) (manifest-right k.hg ps rows added _ _ in-first in-second).1,
  )

  pub ruled : length (v.value).parents ≤ 2 → (D : HgDraft) → IsMadeChangeset k.hg D (changeset_by_rule blocks v) → ChangesetFits (changeset_by_rule blocks v) → IsRuledChangeset k.hg D (changeset_by_rule blocks v)
  ruled few D made fits =
      let are : ArePartners (pairs_of blocks) = subst ArePartners ((over.history).held).partners (over.history).partners in
      record {
        made = made;
        file_parents = has-parents.0;
        manifest_parents = has-parents.1;
        fits = fits;
        view = whole few are made.view;
      }
