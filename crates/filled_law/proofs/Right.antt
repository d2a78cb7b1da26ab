-- The changeset that a commit's marks name is its unmarking, where its own marks, its line, its message and its residue are those of the commit.
use Rattle.std.proofs.Common.{◌≡◌, ◌≤◌, ℕ, Bool, true, false, List, [], ◌∷◌, ◌++◌, length, map, Option, Some, None, refl, sym, ap, subst, ◌∙◌}
use Rattle.std.specs.Prelude.{option_map, if◌then◌else◌, IsTrue}
use Rattle.std.specs.List.{AllZip}
use Rattle.std.proofs.lemmas.List.{length-map}
use Rattle.text_model.specs.Lists.{Each, rises}
use Rattle.text_model.specs.Text.{Bytes, is_below}
use Rattle.text_model.specs.Id.{Id, blob_id}
use Rattle.text_model.proofs.Options.{none_some, some_is}
use Rattle.git_model.specs.Residue.{ResidueItem, rows_with}
use Rattle.git_model.proofs.SortLemmas.{Ascends, rises-ascends, ascends-rises}
use Rattle.git_model.specs.Tree.{is_blob_mode}
use Rattle.view_model.specs.Held.{file_row_of}
use Rattle.view_model.specs.View.{Row, TreeRow, files_among, tree_paths, ChangesetView, CommitView, SameTreeRows, SameCommit}
use Rattle.pair_model.specs.Block.{Block, git_partner, hg_partner, not_null, changesets_in, Parents, parents_among}
use Rattle.pair_model.specs.Rule.{mode_of_flag, tree_row_of, carried_to, tree_rows_with}
use Rattle.pair_model.specs.MarkList.{Mark, marks_text, AreHeadersOf}
use Rattle.pair_model.specs.Octopus.{partners_of_parents, parents_of_commit, first_of, second_of}
use Rattle.partner_model.specs.Mark.{parents_of_changeset, mark_commit, residue_in}
use Rattle.partner_model.specs.Partner.{AreChangesetParentsPaired, AreCommitParentsPaired, IsUnmarkedRow, UnmarksCommit}
use Rattle.partner_model.specs.Table.{IsTable}
use Rattle.partner_model.specs.Filled.{filled_rows, changeset_by_marks, filled_changeset}
use Rattle.mark_law.proofs.Sections.{given_of, from_manifest, from_manifest_within}
use Rattle.unmark_law.proofs.Tables.{HasId, HasNode, hg_has, git_hg, map_back, each_map}
use Rattle.unmark_law.proofs.ChangesetOne.{IsFileRow, file_rows, tree_rows, plain_is, there}
use Rattle.unmark_law.proofs.TreeRows.{IsFileOf, files_of, plain_rows, plain_row, rows_joined, joined_to, rows_split}
use Rattle.depth_law.proofs.PlainChangeset.{nodes_back, over_is}
use Rattle.partner_law.proofs.Roots.{root_same}
use Rattle.partner_law.proofs.Given.{row_blob, commit_over}
use Rattle.filled_law.specs.Walks.{named_row, mark_at, behind, starts_entry}
use Rattle.filled_law.specs.Fillings.{IsFilledRight, IsNarrow, RightIsUnmarking}
use Rattle.filled_law.proofs.Walk.{walk, walked}
use Rattle.filled_law.proofs.MarkedRows.{named-row, named-body, put-parts, put-some, rows-unmarked}
use Rattle.filled_law.proofs.Parts.{starts-none, marks-are}

-- ---- parents

module _ (blocks : List Block) (c : CommitView) (few : length (c.value).parents ≤ 2) where
  few-partners : length (partners_of_parents blocks c) ≤ 2
  few-partners = simp length-map few

  -- those of the commit's changeset are the first and the second partner
  pub over-two : parents_of_commit blocks c ≡ parents_among (changesets_in blocks) (first_of (partners_of_parents blocks c)) (second_of (partners_of_parents blocks c))
  over-two = over_is blocks c few-partners

  -- those that a changeset with these parents has
  pub over-named : (h : ChangesetView) → h.p ≡ (parents_of_commit blocks c).p → h.q ≡ (parents_of_commit blocks c).q → parents_of_commit blocks c ≡ parents_of_changeset blocks h
  over-named h p q = over-two ∙ (λ i. parents_among (changesets_in blocks) ((sym over-two i).p) ((sym over-two i).q)) ∙ (λ i. parents_among (changesets_in blocks) (sym p i) (sym q i))

  module _ (t : IsTable blocks) (paired : AreCommitParentsPaired blocks c) where
    those : not_null ((parents_of_commit blocks c).p ∷ (parents_of_commit blocks c).q ∷ []) ≡ partners_of_parents blocks c
    those = (λ i. not_null ((over-two i).p ∷ (over-two i).q ∷ [])) ∙ nodes_back (partners_of_parents blocks c) (there blocks t (c.value).parents paired) few-partners

    pub parents-paired : Each (HasNode blocks) (not_null ((parents_of_commit blocks c).p ∷ (parents_of_commit blocks c).q ∷ []))
    parents-paired = subst (λ (xs : List Id). Each (HasNode blocks) xs) (sym those) (each_map (hg_partner blocks) (HasId blocks) (HasNode blocks) (hg_has blocks) (c.value).parents paired)

    pub parents-back : map (git_partner blocks) (not_null ((parents_of_commit blocks c).p ∷ (parents_of_commit blocks c).q ∷ [])) ≡ (c.value).parents
    parents-back = ap (map (git_partner blocks)) those ∙ map_back (hg_partner blocks) (git_partner blocks) (HasId blocks) (git_hg blocks t) (c.value).parents paired

-- ---- rows

each-among : (P : TreeRow → Type 0) (ts : List TreeRow) → Each P ts → Each P (files_among ts)
each-among P [] h = tt
each-among P (t ∷ ts) h = by (is_blob_mode t.mode) refl (each-among P ts h.1)
  where
    by : (b : Bool) → is_blob_mode t.mode ≡ b → Each P (files_among ts) → Each P (files_among (t ∷ ts))
    by true e rest = rw e (h.0, rest)
    by false e rest = rw e rest

ascends-among : (ts : List TreeRow) → Ascends (λ (t : TreeRow). t.path) ts → Ascends (λ (t : TreeRow). t.path) (files_among ts)
ascends-among [] h = tt
ascends-among (t ∷ ts) h = by (is_blob_mode t.mode) refl (ascends-among ts h.1)
  where
    by : (b : Bool) → is_blob_mode t.mode ≡ b → Ascends (λ (x : TreeRow). x.path) (files_among ts) → Ascends (λ (x : TreeRow). x.path) (files_among (t ∷ ts))
    by true e rest = rw e (each-among (λ (x : TreeRow). is_below t.path x.path ≡ true) ts h.0, rest)
    by false e rest = rw e rest

-- the files of a commit rise
pub files-rise : (ts : List TreeRow) → IsTrue (rises is_below (tree_paths ts)) → rises is_below (tree_paths (files_among ts)) ≡ true
files-rise ts h = ascends-rises (λ (t : TreeRow). t.path) (files_among ts) (ascends-among ts (rises-ascends (λ (t : TreeRow). t.path) ts h))

-- a row that is named is of the file
pub named-file : (ps : Parents) (o : Option Mark) (t : TreeRow) (row : Row) → IsFileRow t → named_row ps o t ≡ Some row → IsFileOf row t
named-file ps o t row f e =
    let both = named-row ps o t row e in
    record { path = both.0; flag = sym both.1; id = by o e }
  where
    by : (o : Option Mark) → named_row ps o t ≡ Some row → blob_id (row.revision).body ≡ t.id
    by None g = ap (λ (x : Row). blob_id (x.revision).body) (sym (some_is g)) ∙ row_blob ps t f
    by (Some m) g = ap blob_id (named-body ps m t row g) ∙ sym f.1

pub rows-files : (ps : Parents) (ts : List TreeRow) (ms : List Mark) (rows : List Row) → Each IsFileRow ts → walk ps ms ts ≡ Some rows → AllZip IsFileOf rows ts
rows-files ps [] ms [] f w = tt
rows-files ps [] ms (row ∷ rows) f w = absurd (by (starts_entry ms) w)
  where
    by : (b : Bool) → (if b then None else Some []) ≡ Some (row ∷ rows) → ⊥
    by true e = none_some e
    by false e = let s : [] ≡ row ∷ rows = some_is e in cc
rows-files ps (t ∷ ts) ms [] f w = absurd (put-some (named_row ps (mark_at t.path ms) t) (walk ps (behind t.path ms) ts) w)
rows-files ps (t ∷ ts) ms (row ∷ rows) f w =
    let p = put-parts (named_row ps (mark_at t.path ms) t) (walk ps (behind t.path ms) ts) row rows w in
    (named-file ps (mark_at t.path ms) t row f.0 p.0, rows-files ps ts (behind t.path ms) rows f.1 p.1)

-- rows of these files have just these files
pub files-plain : (rows : List Row) (ts : List TreeRow) → Each IsFileRow ts → AllZip IsFileOf rows ts → files_of rows ≡ map file_row_of (map plain_row ts)
files-plain [] [] f z = refl
files-plain [] (t ∷ ts) f z = absurd z
files-plain (row ∷ rows) [] f z = absurd z
files-plain (row ∷ rows) (t ∷ ts) f z =
    let mode = ap mode_of_flag (sym (z.0).flag) ∙ plain_is t.mode f.0.0 in
    let rest = files-plain rows ts f.1 z.1 in
    λ i. record { path = (z.0).path i; mode = mode i; id = (z.0).id i } ∷ rest i

-- ---- the whole

-- what the named changeset is made of
pub record IsNamed (blocks : List Block) (c : CommitView) (h : ChangesetView) (marks : List Mark) : Type 0 where
  pub rows : filled_rows (parents_of_commit blocks c) marks (files_among c.rows) ≡ Some h.rows
  pub parents : (h.p ≡ (parents_of_commit blocks c).p) × (h.q ≡ (parents_of_commit blocks c).q)
  pub whole : changeset_by_marks (parents_of_commit blocks c) c marks h.rows ≡ h

pub named-parts : (blocks : List Block) (c : CommitView) (h : ChangesetView) (marks : List Mark) → filled_changeset blocks c marks ≡ Some h → IsNamed blocks c h marks
unfolding filled_changeset
named-parts blocks c h marks e = by (filled_rows (parents_of_commit blocks c) marks (files_among c.rows)) refl e
  where
    by : (o : Option (List Row)) → filled_rows (parents_of_commit blocks c) marks (files_among c.rows) ≡ o → option_map (changeset_by_marks (parents_of_commit blocks c) c marks) o ≡ Some h → IsNamed blocks c h marks
    by None f g = absurd (none_some g)
    by (Some rows) f g =
        let s : changeset_by_marks (parents_of_commit blocks c) c marks rows ≡ h = some_is g in
        record {
          rows = f ∙ ap (λ (x : ChangesetView). Some x.rows) s;
          parents = (ap (λ (x : ChangesetView). x.p) (sym s), ap (λ (x : ChangesetView). x.q) (sym s));
          whole = ap (λ (x : ChangesetView). changeset_by_marks (parents_of_commit blocks c) c marks x.rows) (sym s) ∙ s;
        }

module _ (blocks : List Block) (t : IsTable blocks) (c : CommitView) (h : ChangesetView) (marks : List Mark) (narrow : IsNarrow blocks c) (list : AreHeadersOf (c.value).headers marks) (named : IsNamed blocks c h marks) where
  -- the parents that are looked at are the changeset's
  pub over-own : parents_of_commit blocks c ≡ parents_of_changeset blocks h
  over-own = over-named blocks c narrow.few h named.parents.0 named.parents.1

  pub walk-is : walk (parents_of_commit blocks c) marks (files_among c.rows) ≡ Some h.rows
  walk-is = walked (parents_of_commit blocks c) (files_among c.rows) marks (list.0).1 (files-rise c.rows (narrow.view).in_order) ∙ named.rows

  pub files-are : AllZip IsFileOf h.rows (files_among c.rows)
  files-are = rows-files (parents_of_commit blocks c) (files_among c.rows) marks h.rows (file_rows c.rows (narrow.view).rows) walk-is

  pub own-paired : AreChangesetParentsPaired blocks h
  own-paired = subst (λ (x : Parents). Each (HasNode blocks) (not_null (x.p ∷ x.q ∷ []))) over-own (parents-paired blocks c narrow.few t narrow.paired)

  own-parents : map (git_partner blocks) (not_null (h.p ∷ h.q ∷ [])) ≡ (c.value).parents
  own-parents = ap (λ (x : Parents). map (git_partner blocks) (not_null (x.p ∷ x.q ∷ []))) (sym over-own) ∙ parents-back blocks c narrow.few t narrow.paired

  -- with what is handed on they have the rows of the commit
  rows-back : residue_in c.rows ≡ carried_to blocks h → SameTreeRows (tree_rows_with (carried_to blocks h) (map tree_row_of h.rows)) c.rows
  rows-back residue =
      let files = files-plain h.rows (files_among c.rows) (file_rows c.rows (narrow.view).rows) files-are in
      joined_to (tree_rows_with (carried_to blocks h) (map tree_row_of h.rows)) c.rows
      (rows_joined (carried_to blocks h) (map tree_row_of h.rows) ∙ (λ i. rows_with (sym residue i) (files i)) ∙ sym (rows_joined (residue_in c.rows) (plain_rows c.rows))
      ∙ ap (map file_row_of) (rows_split c.rows (narrow.view).in_order (tree_rows c.rows (narrow.view).rows)))

  module _ (r : IsFilledRight blocks c h marks) where
    marked : SameCommit (mark_commit blocks h) c
    marked =
        let rows = rows-back r.residue in
        commit_over blocks h c rows
        (root_same (tree_rows_with (carried_to blocks h) (map tree_row_of h.rows)) c.rows rows ∙ sym (narrow.view).agrees) own-parents
        (sym r.author) (sym r.committer) (ap marks_text (sym r.marks_are) ∙ sym list.1) (sym r.message)

    bodies : AllZip (IsUnmarkedRow (parents_of_changeset blocks h)) h.rows (files_among c.rows)
    bodies =
        let ps : Parents = parents_of_changeset blocks h in
        let rest = from_manifest ps (given_of h) h in
        rows-unmarked ps rest (starts-none rest 6 (from_manifest_within ps (given_of h) h)) h.rows (files_among c.rows) (r.view).in_order
        (ap (λ ms. walk ps ms (files_among c.rows)) (sym (marks-are ps h) ∙ sym r.marks_are) ∙ (λ i. walk (sym over-own i) marks (files_among c.rows)) ∙ walk-is)

    pub unmarks : UnmarksCommit blocks c h
    unmarks = record { view = r.view; no_link = r.no_link; paired = own-paired; marked = marked; bodies = bodies }

pub right-is_unmarking : (blocks : List Block) → IsTable blocks → RightIsUnmarking blocks
right-is_unmarking blocks t c h marks narrow list r = unmarks blocks t c h marks narrow list (named-parts blocks c h marks r.filled) r

-- and what is made of named rows is what the marks name
pub filled-by : (blocks : List Block) (c : CommitView) (marks : List Mark) (rows : List Row) → filled_rows (parents_of_commit blocks c) marks (files_among c.rows) ≡ Some rows
    → filled_changeset blocks c marks ≡ Some (changeset_by_marks (parents_of_commit blocks c) c marks rows)
unfolding filled_changeset
filled-by blocks c marks rows e = ap (option_map (changeset_by_marks (parents_of_commit blocks c) c marks)) e
