-- The next changeset over a store that holds those before it: its draft may be added.
use Rattle.std.proofs.Common.{◌≡◌, ◌<◌, ◌++◌, ℕ, false, arith, List, [], ◌∷◌, length, map, Option, refl, sym, ap, subst, ◌∙◌}
use Rattle.std.specs.Prelude.{IsTrue, IfSome}
use Rattle.std.specs.List.{flat_map}
use Rattle.text_model.specs.Lists.{Each, rises}
use Rattle.text_model.specs.Text.{Bytes, IsBytes, is_below}
use Rattle.text_model.specs.Path.{is_fit_path}
use Rattle.text_model.specs.Id.{Id, IsId, node_id}
use Rattle.text_model.proofs.EachLemmas.{Each-weaker}
use Rattle.text_model.proofs.Elements.{each_in}
use Rattle.hg_model.specs.FileText.{IsFile}
use Rattle.hg_model.specs.Changeset.{changeset_text}
use Rattle.hg_model.specs.Revision.{Revision}
use Rattle.hg_changeset.specs.Values.{changeset_value}
use Rattle.hg_store.specs.Known.{AreAdded, knows_same}
use Rattle.view_model.specs.View.{Row, ChangesetView, IsRevision, paths_of, rows_text}
use Rattle.view_model.specs.Held.{IsFileHeld, AreChangesetsHeld}
use Rattle.pair_model.specs.Block.{Parents}
use Rattle.pair_model.specs.Rule.{ruled_manifest}
use Rattle.pair_known.specs.Drafts.{IsHgDraft, AreFreshOf}
use Rattle.pair_known.specs.Rows.{RowValue, row_value}
use Rattle.pair_known.specs.Ruled.{IsLooseView, HasFileParents, HasManifestParents}
use Rattle.pair_known.specs.declared.hg_draft.HgDraft.{HgDraft}
use Rattle.file_rule.specs.Parents.{IsParentView}
use Rattle.changeset_rule.specs.Parents.{HasFilesAt}
use Rattle.changeset_rule.proofs.FitsLemmas.{HasShortText, rows-short}
use Rattle.changeset_rule.proofs.KnownParents.{file-parents}
use Rattle.changeset_rule.proofs.RowViews.{IsRightRow}
use Rattle.changeset_rule.proofs.ViewLemmas.{IsListed, fit-listed, files-listed, manifest-right, rows-at}
use Rattle.pair_state.specs.Came.{IsAsked}
use Rattle.pair_state.specs.Push.{IsPart, HasParents, HasShortTexts}
use Rattle.pair_state.specs.Step.{line_of}
use Rattle.pair_state.proofs.CameLemmas.{lines-are, within-self}
use Rattle.pair_state.proofs.PartLemmas.{asked}
use Rattle.make_model.specs.Numbers.{Numbers, numbers_of, state_before}
use Rattle.make_model.specs.History.{made_parents, made_row, changeset_over, made_history}
use Rattle.make_history.specs.Drafts.{IsOver, next_rows, next_view}
use Rattle.make_history.specs.Histories.{IsMade}
use Rattle.make_history.specs.declared.add.History.{History}
use Rattle.make_history.proofs.DraftLemmas.{rises-with}
use Rattle.make_history.proofs.FieldLemmas.{fields-are, fields-short, lines-short}
use Rattle.make_history.proofs.NextLemmas.{next_of}
use Rattle.make_history.proofs.NewRowLemmas.{made-parents, made-is_revision, made-short, body-bytes}
use Rattle.make_history.proofs.ParentLemmas as parents
use Rattle.make_history.proofs.PathLemmas.{IsGoodPath, good-path}
use Rattle.make_history.proofs.SmallLemmas.{IsSmall, numbers-below, each-with, with-few, small-first, small-second, made-small, new-in, history-length}

-- ---- over parents that are held

-- the view is that of a changeset with these files
at-node : (known : List Revision) (node : Id) (v : ChangesetView) → IsParentView known node v → HasFilesAt known node v
at-node known node v view = record { base = v; view = view; manifest = refl; manifest_node = refl; rows = refl }

abbrev IsRow : Row → Type 0
IsRow row = IsTrue (is_fit_path row.path) × IsBytes row.path × IsRevision row.revision

module _ (known : List Revision) (added : AreAdded known) (ps : Parents) (x : Numbers) (n : ℕ) (few : n < 20000)
    (first : IsParentView known ps.p ps.first) (second : IsParentView known ps.q ps.second) (small : IsSmall n ps.first) (other : IsSmall n ps.second) (good : IsGoodPath (made_row ps x n).path) where
  abbrev rows : List Row
  rows = next_rows ps x n

  abbrev new : Row
  new = made_row ps x n

  right-first : Each (IsRightRow known) (ps.first).rows
  right-first = rows-at known added ps.p ps.first (at-node known ps.p ps.first first)

  right-second : Each (IsRightRow known) (ps.second).rows
  right-second = rows-at known added ps.q ps.second (at-node known ps.q ps.second second)

  paths : Each (λ (row : Row). IsGoodPath row.path) rows
  paths = each-with (λ (row : Row). IsGoodPath row.path) new (ps.first).rows good small.paths

  listed : (rs : List Row) → Each (λ (row : Row). IsGoodPath row.path) rs → Each IsListed (map (λ (row : Row). row.path) rs)
  listed [] h = tt
  listed (row ∷ rs) h = (fit-listed row.path (h.0).fit (h.0).bytes, listed rs h.1)

  pub parents-known : Each (HasFileParents known) rows
  parents-known =
      each-with (HasFileParents known) new (ps.first).rows (made-parents known added ps right-first right-second x n)
      (Each-weaker (IsRightRow known) (HasFileParents known) (λ row r. file-parents known added row r.held) (ps.first).rows right-first)

  pub manifest-known : HasManifestParents known (ruled_manifest ps rows)
  manifest-known = (manifest-right known ps rows added ps.p ps.q (at-node known ps.p ps.first first) (at-node known ps.q ps.second second)).1

  rows-right : IsFile (new.revision).meta (new.revision).body → Each IsRow rows
  rows-right file =
      each-with IsRow new (ps.first).rows (good.fit, good.bytes, made-is_revision known added ps right-first right-second x n (body-bytes n few) file)
      (Each-weaker (IsRightRow known) IsRow (λ row r. (r.fit, r.bytes, r.revision)) (ps.first).rows right-first)

  pub short : HasShortTexts (next_view ps x n)
  unfolding changeset_over
  short = record {
    text = fields-short ps rows x n few paths small.paths other.paths (omega (arith, with-few new (ps.first).rows, small.few, few)) (omega (arith, small.few, few)) (omega (arith, other.few, few));
    manifest = lines-short rows paths (omega (arith, with-few new (ps.first).rows, small.few, few));
    files =
        each-with HasShortText new (ps.first).rows (made-short ps x n few small.paths)
        (rows-short known added [] (ps.first).rows tt (Each-weaker (IsRightRow known) (IsFileHeld known) (λ row r. r.held) (ps.first).rows right-first));
  }

  pub loose : IsTrue (rises is_below (paths_of (ps.first).rows)) → IsId ps.p × IsId ps.q → IsFile (new.revision).meta (new.revision).body → IsLooseView (next_view ps x n)
  unfolding changeset_over
  loose rising ids file = record {
    parents = ids;
    fields = fields-are ps rows x n few (files-listed ps rows (listed rows paths) (listed (ps.first).rows small.paths) (listed (ps.second).rows other.paths));
    manifest = (manifest-right known ps rows added ps.p ps.q (at-node known ps.p ps.first first) (at-node known ps.q ps.second second)).0;
    rows = rows-right file;
    in_order = rises-with new (ps.first).rows rising;
    agrees = refl;
  }

-- ---- over the changesets before it

-- what is made is the draft of the changeset with this number, over parents among those before it
pub record IsDraftOf (known : List Revision) (d : HgDraft) (before : List ChangesetView) (x : Numbers) (n : ℕ) : Type 0 where
  pub draft : IsHgDraft known d (next_view (made_parents x.parents before) x n)
  pub fresh : AreFreshOf d.fresh (next_rows (made_parents x.parents before) x n)
  pub unknown : Each (λ r. knows_same known r ≡ false) d.fresh

-- the nodes of its parents are those of the draft
pub drafted : (known : List Revision) (d : HgDraft) (before : List ChangesetView) (x : Numbers) (n : ℕ) → IsDraftOf known d before x n → ((made_parents x.parents before).p ≡ d.p1) × ((made_parents x.parents before).q ≡ d.p2)
unfolding changeset_over
drafted known d before x n is = is.draft.parents

-- so are its rows
pub drafted-rows : (known : List Revision) (d : HgDraft) (before : List ChangesetView) (x : Numbers) (n : ℕ) → IsDraftOf known d before x n → d.rows ≡ map row_value (next_rows (made_parents x.parents before) x n)
unfolding changeset_over
drafted-rows known d before x n is = is.draft.rows

module _ (seed n : ℕ) (h : History) (made : IsMade h (made_history seed n)) (few : n < 20000) where
  abbrev known : List Revision
  known = h.store

  abbrev before : List ChangesetView
  before = made_history seed n

  added : AreAdded known
  added = made.added

  held : Each (parents.IsHeld known) before
  held = parents.held-each known before (subst (λ (l : List Id). AreChangesetsHeld known l before) made.nodes made.held)

  -- the parents are there
  pub over : (number : ℕ) (p q : Id) → p ≡ (made_parents number before).p → q ≡ (made_parents number before).q → IsOver known p q (made_parents number before)
  over number p q e f =
      let ps = made_parents number before in
      subst (λ (t : Id × Id). IsOver known t.0 t.1 ps) (λ i. (sym e i, sym f i)) (parents.over known added number before held n (made-small seed n))

  pub draft-is : (d : HgDraft) (y : Numbers) (p q : Id) → p ≡ (made_parents y.parents before).p → q ≡ (made_parents y.parents before).q → ((ps : Parents) → IsOver known p q ps → IsHgDraft known d (next_view ps y n))
      → ((ps : Parents) → IsOver known p q ps → AreFreshOf d.fresh (next_rows ps y n)) → Each (λ r. knows_same known r ≡ false) d.fresh → IsDraftOf known d before y n
  draft-is d y p q e f draft fresh unknown =
      let ps = made_parents y.parents before in
      let o = over y.parents p q e f in
      record { draft = draft ps o; fresh = fresh ps o; unknown = unknown }

  abbrev next : Numbers
  next = numbers_of seed n

  abbrev two : Parents
  two = made_parents next.parents before

  abbrev count : ℕ
  count = length before

  below : count < 20000
  below = omega (arith, history-length seed n, few)

  small : Each (IsSmall count) before
  small = subst (λ (m : ℕ). Each (IsSmall m) before) (sym (history-length seed n)) (made-small seed n)

  good : IsGoodPath (made_row two next count).path
  good = let b = numbers-below (state_before seed n) in good-path next.directory next.file b.0 b.1

  module _ (d : HgDraft) (y : Numbers) (value : y ≡ next) (is : IsDraftOf known d before y n) where
    moved : IsDraftOf known d before next count
    moved = subst (λ (t : Numbers × ℕ). IsDraftOf known d before t.0 t.1) (λ i. (value i, sym (history-length seed n) i)) is

    first : IsParentView known two.p two.first
    first = parents.first-view known added next.parents before held

    second : IsParentView known two.q two.second
    second = parents.second-view known added next.parents before held

    file : IsFile ((made_row two next count).revision).meta ((made_row two next count).revision).body
    unfolding changeset_over
    file = (each_in (IsFileHeld (d.fresh ++ known)) (next_rows two next count) (made_row two next count) moved.draft.files (new-in (made_row two next count) (two.first).rows)).text.0

    part : IsPart known d (next_of seed n)
    unfolding changeset_over
    part =
        let one = small-first count next.parents before small in
        let other = small-second count next.parents before small in
        let wide = parents.over known added next.parents before held n (made-small seed n) in
        record {
          made = record {
            draft = moved.draft;
            of_rows = moved.fresh;
            are_new = moved.unknown;
            view = loose known added two next count below first second one other good wide.rising (parents.parent-ids next.parents before) file;
          };
          file_parents = parents-known known added two next count below first second one other good;
          manifest_parents = manifest-known known added two next count below first second one other good;
          fits = short known added two next count below first second one other good;
        }

    both-known : HasParents known (next_of seed n)
    unfolding changeset_over
    both-known = record {
      p = parents.first-parent known added next.parents before held;
      q = parents.second-parent known added next.parents before held;
      first = parents.none-first known added next.parents before held;
      distinct = parents.distinct known seed n held added next.parents;
    }

    -- its draft may be added
    pub next-asked : (text : Bytes) (node p q : Id) → text ≡ changeset_text (changeset_value d.changeset) → p ≡ (made_parents y.parents before).p → q ≡ (made_parents y.parents before).q → node ≡ node_id p q text → IsAsked known known d node text (next_of seed n)
    next-asked text node p q text_is p_is q_is node_is =
        let e = drafted known d before y n is in
        asked known known d (next_of seed n) (record { part = part; within = within-self known; parents = both-known }) text node text_is (node_is ∙ (λ i. node_id ((p_is ∙ e.0) i) ((q_is ∙ e.1) i) text))

    pub next-loose : IsLooseView (next_of seed n)
    next-loose = part.made.view

-- the lines of its manifest, where they were made
pub next-lines : (made : Option Bytes) (values : List RowValue) (hs : List Row) → IfSome made (λ text. text ≡ rows_text hs) → values ≡ map row_value hs → IfSome made (λ text. text ≡ flat_map line_of values)
next-lines made values hs lines is = subst (λ (t : Bytes). IfSome made (λ text. text ≡ t)) (sym (ap (flat_map line_of) is ∙ lines-are hs)) lines
