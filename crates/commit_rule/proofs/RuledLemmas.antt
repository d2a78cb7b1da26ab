-- What was made of a draft is the commit that the rule gives.
use Rattle.std.proofs.Common.{◌≡◌, ◌≤◌, ◌+◌, ℕ, Bool, true, false, List, [], ◌∷◌, ◌++◌, map, length, Option, Some, None, refl, sym, ap, subst, ◌∙◌, inl, inr, arith}
use Rattle.std.proofs.lemmas.Int.{ints}
use Rattle.std.specs.Prelude.{IsTrue, is_some, option_map, unwrap_or, bytes_eq, IfSome, MatchOption, ℤ, pos, negsuc, neg_ℤ, ◌≤ℤ◌, FitsSigned, sum_by, ◌^◌}
use Rattle.std.specs.Int.{w64}
use Rattle.std.proofs.lemmas.List.Sums.{sum_by-cons}
use Rattle.std.proofs.lemmas.Option.{same_Some, none-some}
use Rattle.text_model.specs.Lists.{In, Each, SomeOf, rises}
use Rattle.text_model.specs.Text.{Bytes, IsBytes, lf, has_byte, is_below}
use Rattle.text_model.specs.Id.{Id, IsId, is_null, tree, commit, object_id, blob_id}
use Rattle.text_model.proofs.ByteLemmas.{IsBytes-append}
use Rattle.text_model.proofs.EachLemmas.{Each-append, Each-front, Each-weaker}
use Rattle.hg_model.specs.Changeset.{DateLine, Plain, Raw, IsDateLine}
use Rattle.git_model.specs.Tree.{tree_text}
use Rattle.hg_model.specs.Manifest.{Flag, Regular, Executable, Symlink}
use Rattle.hg_model.specs.FileText.{IsFile}
use Rattle.hg_model.specs.Revision.{Revision}
use Rattle.text_model.specs.Path.{is_fit_path}
use Rattle.text_model.proofs.Elements.{each_in, each_from}
use Rattle.text_model.proofs.Digests.{IsId-object_id}
use Rattle.git_model.specs.Commit.{Commit, commit_text, IsCommitText, IsLine}
use Rattle.git_model.specs.Object.{Object, object_of, knows_object}
use Rattle.git_model.specs.Unfold.{FileRow, row_size, rows_limit, walk_fault, tree_rows}
use Rattle.git_model.specs.Shape.{root_of, trees_of, first_clash, shape_objects, shape_depth}
use Rattle.git_model.specs.Residue.{ResidueItem, residue_of, carried, rows_with}
use Rattle.git_model.proofs.OneTextLemmas.{one_commit}
use Rattle.git_model.proofs.SortLemmas.{rises-ascends}
use Rattle.git_store.specs.Known.{AreKnown, IsCommitAt}
use Rattle.tree_shape.specs.Sets.{IsFiles}
use Rattle.tree_shape.proofs.TreesWithin.{trees-within}
use Rattle.tree_shape.proofs.Unfolding.{unfolds, walk-files}
use Rattle.git_view.proofs.Rows.{rows-are}
use Rattle.git_view.proofs.Shapes.{same-entries}
use Rattle.git_view.proofs.Walks.{none-refused, apart}
use Rattle.hg_changeset.specs.Values.{changeset_value}
use Rattle.view_model.specs.View.{files_among, IsRowId, Row, TreeRow, ChangesetView, CommitView, commit_id, IsCommitView, IsChangesetView, IsRevision, CommitFits, leaf_of_row, root_of_rows, rows_size, commit_objects, has_clash, paths_of, text_limit, commit_limit}
use Rattle.view_model.specs.Held.{file_row_of, IsCommitHeld, AreCommitsHeld}
use Rattle.pair_model.specs.Block.{Block, node_of, id_of, block_of_node, commits_in, git_partner, not_null}
use Rattle.pair_model.specs.Rule.{mode_of_flag, author_by, tree_row_of, tree_row_with, tree_rows_with, old_residue, carried_to, rule_commit}
use Rattle.pair_model.specs.User.{message_of}
use Rattle.pair_model.proofs.UserLemmas.{line-one_line}
use Rattle.pair_known.specs.declared.known.Known.{Known}
use Rattle.pair_known.specs.declared.hg_draft.HgDraft.{HgDraft}
use Rattle.pair_known.specs.declared.git_draft.GitDraft.{GitDraft}
use Rattle.pair_known.specs.Blocks.{AreBlocksHeld}
use Rattle.pair_known.specs.Drafts.{IsHgDraft}
use Rattle.pair_known.specs.Over.{IsChangesetOver}
use Rattle.pair_known.specs.Partners.{ArePartners, git_at}
use Rattle.pair_known.specs.Rows.{RowValue, row_value}
use Rattle.pair_known.specs.Ruled.{IsMadeCommit, blob_of_row}
use Rattle.pair_known.proofs.HeldCommits.{held-at}
use Rattle.commit_rule.specs.Parts.{file_of_row, partners_at, AreShort, AreShortBodies, AreBrought, AreRowsOf, IsTreeOf, residue_below, WalksThrough}
use Rattle.commit_rule.proofs.TreeObjects.{objects-short}
use Rattle.commit_rule.proofs.FileLemmas.{all-blobs, view-files, same-files, same-paths, paths-same, no-has_clash, content-short}
use Rattle.pair_model.proofs.RuledFiles.{IsRow}
use Rattle.commit_rule.proofs.Handed.{bare-with, files-with, AreOld, AreRows, are-rows, file-rows, short-rows, row-in, blob-row}
use Rattle.pair_known.proofs.PartnerLemmas.{partners-of-pairs, has-partner, found-in, IsId-partners, distinct-partners, chosen}

-- ---- fields

time-fits : (time : ℤ) → neg_ℤ (pos (2 ^ 62)) ≤ℤ time → time ≤ℤ pos (2 ^ 62) → FitsSigned w64 time
time-fits (pos n) low high = omega (arith, ints, low, high)
time-fits (negsuc n) low high = omega (arith, ints, low, high)

zero-fits : FitsSigned w64 (pos 0)
zero-fits = omega (arith, ints)

author-line : (user : Bytes) (date : DateLine) → IsDateLine date → has_byte 10 user ≡ false → has_byte lf (author_by user date) ≡ false
author-line user (Plain time tz extras) is one = line-one_line user time tz (time-fits time is.time_low is.time_high) one
author-line user (Raw text) is one = line-one_line user (pos 0) (pos 0) zero-fits one

-- the root of rows is that of their files
pub same-root : (rows : List TreeRow) → root_of_rows rows ≡ root_of (map file_row_of rows)
unfolding root_of_rows root_of
same-root rows = ap (λ es. object_id tree (tree_text es)) (same-entries shape_depth rows)

pub IsId-root : (rows : List TreeRow) → IsId (root_of_rows rows)
unfolding root_of_rows
IsId-root rows = IsId-object_id tree _

same-size : (rows : List TreeRow) → sum_by row_size (map file_row_of rows) ≡ sum_by (λ row. length row.path + 42) rows
same-size [] = refl
same-size (row ∷ rows) =
    sum_by-cons row_size (file_row_of row) (map file_row_of rows)
    ∙ ap (λ (n : ℕ). (length row.path + 42) + n) (same-size rows)
    ∙ sym (sum_by-cons (λ (t : TreeRow). length t.path + 42) row rows)

few-two : (p q : Id) (f : Id → Id) → length (map f (not_null (p ∷ q ∷ []))) ≤ 64
few-two p q f = by (is_null p) (is_null q)
  where
    by : (s t : Bool) → length (map f (chosen p q s t)) ≤ 64
    by true true = omega arith
    by true false = omega arith
    by false true = omega arith
    by false false = omega arith

tree-rows : (rows : List Row) → Each (λ row. IsTrue (is_fit_path row.path) × IsBytes row.path × IsRevision row.revision) rows
    → Each IsRow (map tree_row_of rows)
tree-rows [] h = tt
tree-rows (row ∷ rows) h = ((h.0.0, h.0.1, body (row.revision).meta (row.revision).body h.0.2.2, id row.flag (row.revision).body), tree-rows rows h.1)
  where
    body : (meta : Option Bytes) (bytes : Bytes) → IsFile meta bytes → IsBytes bytes
    body None bytes h = h.0
    body (Some meta) bytes h = h.0

    id : (flag : Flag) (bytes : Bytes) → IsRowId (mode_of_flag flag) (blob_id bytes) bytes
    id Regular bytes = refl
    id Executable bytes = refl
    id Symlink bytes = refl

-- ---- what is within its limits

view-rows : (v : CommitView) → IsCommitView v → IsFiles (map file_row_of v.rows)
view-rows v is = record { each = file-rows v.rows is.rows; in_order = subst (λ (paths : List Bytes). IsTrue (rises is_below paths)) (sym (paths-same v.rows)) is.in_order }

-- a commit that was made is within its limits exactly where the rows of its tree and its text are
module _ (known : List Object) (d : GitDraft) (v : CommitView) (made : IsMadeCommit known d v) where
  size-is : sum_by row_size d.files ≡ rows_size v
  size-is = ap (sum_by row_size) made.files ∙ same-size v.rows

  pub fits-parts : CommitFits v → (sum_by row_size d.files ≤ rows_limit) × (length (commit_text d.commit) ≤ commit_limit)
  fits-parts fits = (subst (λ (n : ℕ). n ≤ rows_limit) (sym size-is) fits.rows, subst (λ (x : Commit). length (commit_text x) ≤ commit_limit) made.value fits.text)

  pub parts-fit : sum_by row_size d.files ≤ rows_limit → length (commit_text d.commit) ≤ commit_limit → CommitFits v
  unfolding commit_objects
  parts-fit rows text =
      let short : length (commit_text v.value) ≤ commit_limit = subst (λ (x : Commit). length (commit_text x) ≤ commit_limit) (sym made.value) text in
      let trees : AreShort (trees_of (map file_row_of v.rows)) = subst (λ (fs : List FileRow). AreShort (trees_of fs)) made.files (trees-within d.files (subst IsFiles (sym made.files) (view-rows v made.view)).each rows) in
      record {
        text = short;
        objects = Each-append (λ (o : Object). length o.content ≤ text_limit) (shape_objects shape_depth (map leaf_of_row v.rows)) (object_of commit (commit_text v.value) ∷ [])
            (objects-short v.rows trees made.short) (omega (arith, short), tt);
        rows = subst (λ (n : ℕ). n ≤ rows_limit) size-is rows;
      }

-- ---- the tree of the first parent's partner

commit-held : (known : List Object) (blocks : List Block) (b : Block) → AreCommitsHeld known (map commit_id (commits_in blocks)) (commits_in blocks) → In b blocks → IsCommitHeld known (id_of b) b.commit
commit-held known [] b h i = absurd i
commit-held known (x ∷ blocks) b h i = elim i [
  | inl q ↦ subst (λ (y : Block). IsCommitHeld known (id_of y) y.commit) (sym q) h.0
  | inr j ↦ commit-held known blocks b h.1 j
]

-- the rows of a tree, where there is one
pub rows_below : List Object → Option Id → List FileRow
rows_below known None = []
rows_below known (Some root) = tree_rows known root

abbrev pub IsOld : List Block → Id → Option Id → Type 0
IsOld blocks node old = MatchOption old (block_of_node blocks node ≡ None) (IsTreeOf blocks node)

-- there is one, or none
pub some-old : (blocks : List Block) (node : Id) → (old : Option Id) × IsOld blocks node old
some-old blocks node = by (block_of_node blocks node) refl
  where
    by : (o : Option Block) → block_of_node blocks node ≡ o → (old : Option Id) × IsOld blocks node old
    by None e = (None, e)
    by (Some b) e = (Some ((b.commit).value).tree_id, (b, e, refl))

module _ (k : Known) (blocks : List Block) (held : AreBlocksHeld k blocks) (are : AreKnown k.git) (node : Id) where
  module _ (b : Block) (at : block_of_node blocks node ≡ Some b) where
    there : In b blocks
    there = (found-in (λ (x : Block). bytes_eq (node_of x) node) blocks b at).0

    walks : walk_fault k.git ((b.commit).value).tree_id ≡ None
    walks = each_in (λ (x : Block). walk_fault k.git ((x.commit).value).tree_id ≡ None) blocks b held.walks there

    pub at-commit : IsCommitHeld k.git (id_of b) b.commit
    at-commit = commit-held k.git blocks b held.commits there

    same-rows : map file_row_of (b.commit).rows ≡ tree_rows k.git ((b.commit).value).tree_id
    same-rows = rows-are k.git (id_of b) b.commit are.are at-commit walks

  pub walks-old : (old : Option Id) → IsOld blocks node old → WalksThrough k.git old
  walks-old None is = tt
  walks-old (Some root) is = ap (walk_fault k.git) is.2 ∙ walks is.0 is.1

  pub residue-old : (old : Option Id) → IsOld blocks node old → old_residue blocks node ≡ residue_below k.git old
  residue-old None is = ap (λ (o : Option Block). unwrap_or (option_map (λ b. residue_of (map file_row_of (b.commit).rows)) o) []) is
  residue-old (Some root) is =
      ap (λ (o : Option Block). unwrap_or (option_map (λ b. residue_of (map file_row_of (b.commit).rows)) o) []) is.1
      ∙ ap residue_of (same-rows is.0 is.1 ∙ ap (tree_rows k.git) (sym is.2))

  pub are-old : (old : Option Id) → IsOld blocks node old → AreOld (rows_below k.git old)
  unfolding rows_below
  are-old None is = record { files = record { each = tt; in_order = refl }; apart = λ a b i j. absurd i }
  are-old (Some root) is =
      let none = none-refused k.git are.are root (walks-old (Some root) is) in
      record {
        files = walk-files k.git root are.are none;
        apart = λ a b i j. apart k.git are.are root (tree_rows k.git root) (unfolds k.git root are.are none) b a j i;
      }

  pub residue-below : (old : Option Id) → residue_below k.git old ≡ residue_of (rows_below k.git old)
  unfolding rows_below
  residue-below None = refl
  residue-below (Some root) = refl

-- the same where the store is asked only for a tree that is there
abbrev pub AreAsked : Known → Option Id → Type 0
AreAsked k old = IfSome old (λ _. AreKnown k.git)

-- the store is asked where a block has the node
pub asked-of : (k : Known) (blocks : List Block) (node : Id) (b : Block) (old : Option Id) → IsOld blocks node old → AreAsked k old → block_of_node blocks node ≡ Some b → AreKnown k.git
asked-of k blocks node b None is are at = absurd (none-some b (sym is ∙ at))
asked-of k blocks node b (Some root) is are at = are

pub asked-with : (k : Known) (blocks : List Block) (node : Id) → ((b : Block) → block_of_node blocks node ≡ Some b → AreKnown k.git) → (old : Option Id) → IsOld blocks node old → AreAsked k old
asked-with k blocks node are None is = tt
asked-with k blocks node are (Some root) is = are is.0 is.1

module _ (k : Known) (blocks : List Block) (held : AreBlocksHeld k blocks) (node : Id) where
  pub walks-through : (old : Option Id) → IsOld blocks node old → AreAsked k old → WalksThrough k.git old
  walks-through None is are = tt
  walks-through (Some root) is are = walks-old k blocks held are node (Some root) is

  pub old-rows : (old : Option Id) → IsOld blocks node old → AreAsked k old → AreOld (rows_below k.git old)
  unfolding rows_below
  old-rows None is are = record { files = record { each = tt; in_order = refl }; apart = λ a b i j. absurd i }
  old-rows (Some root) is are = are-old k blocks held are node (Some root) is

  pub residue-rows : (old : Option Id) → IsOld blocks node old → AreAsked k old → old_residue blocks node ≡ residue_of (rows_below k.git old)
  unfolding rows_below
  residue-rows None is are = ap (λ (o : Option Block). unwrap_or (option_map (λ b. residue_of (map file_row_of (b.commit).rows)) o) []) is
  residue-rows (Some root) is are = residue-old k blocks held are node (Some root) is ∙ residue-below k blocks held are node (Some root)

pub below-rows : (known : List Object) (old : Option Id) → residue_below known old ≡ residue_of (rows_below known old)
unfolding rows_below
below-rows known None = refl
below-rows known (Some root) = refl

-- the block of a node, by the partner that a look-up finds
pub no-block : (blocks : List Block) (node : Id) → None ≡ option_map id_of (block_of_node blocks node) → block_of_node blocks node ≡ None
no-block blocks node e = by (block_of_node blocks node) e
  where
    by : (o : Option Block) → None ≡ option_map id_of o → o ≡ None
    by None e = refl
    by (Some b) e = absurd (none-some _ e)

pub some-block : (blocks : List Block) (node partner : Id) → Some partner ≡ option_map id_of (block_of_node blocks node) → (b : Block) × (block_of_node blocks node ≡ Some b) × (partner ≡ id_of b)
some-block blocks node partner e = by (block_of_node blocks node) refl e
  where
    by : (o : Option Block) → block_of_node blocks node ≡ o → Some partner ≡ option_map id_of o → (b : Block) × (block_of_node blocks node ≡ Some b) × (partner ≡ id_of b)
    by None at e = absurd (none-some _ (sym e))
    by (Some b) at e = (b, at, same_Some _ _ e)

-- the commit of a block is stored
pub block-commit : (k : Known) (blocks : List Block) (node : Id) (b : Block) → AreBlocksHeld k blocks → block_of_node blocks node ≡ Some b → IsCommitAt k.git (id_of b) (b.commit).value
block-commit k blocks node b held at =
    held-at k.git (id_of b) b.commit (commit-held k.git blocks b held.commits (found-in (λ (x : Block). bytes_eq (node_of x) node) blocks b at).0)

pub one-commit-at : (known : List Object) (id : Id) (v w : Commit) → IsCommitAt known id v → IsCommitAt known id w → v ≡ w
one-commit-at known id v w a b = one_commit b.content v w (subst (λ (t : Bytes). IsCommitText t v) (same_Some _ _ (sym a.held ∙ b.held)) a.is) b.is

-- ---- the whole

draft-paths : (rows : List Row) → map (λ (r : RowValue). r.path) (map row_value rows) ≡ paths_of rows
draft-paths [] = refl
draft-paths (row ∷ rows) = ap (λ (l : List Bytes). row.path ∷ l) (draft-paths rows)

-- the paths are those of the draft
pub clear-too : (known : List Revision) (d : HgDraft) (v w : ChangesetView) → IsHgDraft known d v → IsHgDraft known d w → has_clash (paths_of v.rows) ≡ false → has_clash (paths_of w.rows) ≡ false
clear-too known d v w a b h =
    ap has_clash (sym (draft-paths w.rows) ∙ ap (map (λ (r : RowValue). r.path)) (sym b.rows ∙ a.rows) ∙ draft-paths v.rows) ∙ h

pub some-mapped : (o : Object) (items : List ResidueItem) (ts : List TreeRow) → SomeOf ts (λ row. o ≡ blob_of_row row) → SomeOf (map (tree_row_with items) ts) (λ row. o ≡ blob_of_row row)
some-mapped o items [] h = h
some-mapped o items (t ∷ ts) h = elim h [ inl q ↦ inl q | inr r ↦ inr (some-mapped o items ts r) ]

pub all-mapped : (known : List Object) (items : List ResidueItem) (ts : List TreeRow) → Each (λ row. IsTrue (knows_object known row.id)) ts → Each (λ row. IsTrue (knows_object known row.id)) (map (tree_row_with items) ts)
all-mapped known items [] h = tt
all-mapped known items (t ∷ ts) h = (h.0, all-mapped known items ts h.1)

module _ (k : Known) (blocks : List Block) (d : HgDraft) (v : ChangesetView) (over : IsChangesetOver k blocks d v) where
  draft : IsHgDraft k.hg d v
  draft = over.inside.draft

  held : AreBlocksHeld k blocks
  held = over.inside.history.held

  pub rows-of : AreRowsOf (d.fresh ++ k.hg) d.rows v.rows
  rows-of = (draft.rows, draft.files)

  files-of : map file_of_row d.rows ≡ map file_row_of (map tree_row_of v.rows)
  files-of = ap (map file_of_row) draft.rows ∙ same-files v.rows

  pub are-files : IsFiles (map file_of_row d.rows)
  are-files = subst IsFiles (sym files-of) (view-files v over.inside.view)

  pub first-partner : is_null d.p1 ≡ false → IsTrue (is_some (git_at k.partners d.p1))
  first-partner some =
      subst (λ (p : Id). IsTrue (is_some (git_at k.partners p))) draft.parents.0
      (has-partner k.partners blocks (v.p ∷ v.q ∷ []) v.p held.partners over.parents (inl refl) (ap is_null draft.parents.0 ∙ some))

  pub second-partner : is_null d.p2 ≡ false → IsTrue (is_some (git_at k.partners d.p2))
  second-partner some =
      subst (λ (p : Id). IsTrue (is_some (git_at k.partners p))) draft.parents.1
      (has-partner k.partners blocks (v.p ∷ v.q ∷ []) v.q held.partners over.parents (inr (inl refl)) (ap is_null draft.parents.1 ∙ some))

  module _ (old : Option Id) (are : AreAsked k old) (clear : has_clash (paths_of v.rows) ≡ false) (is-old : IsOld blocks d.p1 old) where
    handed : carried_to blocks v ≡ carried (residue_of (rows_below k.git old)) (map file_row_of (map tree_row_of v.rows))
    handed = ap (λ (items : List ResidueItem). carried items (map file_row_of (map tree_row_of v.rows)))
        (ap (old_residue blocks) draft.parents.0 ∙ residue-rows k blocks held d.p1 old is-old are)

    rows-right : AreRows (rows_below k.git old) v.rows
    rows-right = are-rows (rows_below k.git old) (old-rows k blocks held d.p1 old is-old are) v.rows (tree-rows v.rows over.inside.view.rows)
        (view-files v over.inside.view) (ap has_clash (same-paths v.rows) ∙ clear)

    each-row : Each IsRow (rule_commit blocks v).rows
    unfolding rule_commit
    each-row = subst (λ (items : List ResidueItem). Each IsRow (tree_rows_with items (map tree_row_of v.rows))) (sym handed) rows-right.each

    bare : map file_row_of (rule_commit blocks v).rows ≡ rows_with (carried_to blocks v) (map file_row_of (map tree_row_of v.rows))
    unfolding rule_commit
    bare = bare-with (carried_to blocks v) (map tree_row_of v.rows)

    bare-rows : map file_row_of (rule_commit blocks v).rows ≡ rows_with (carried (residue_of (rows_below k.git old)) (map file_row_of (map tree_row_of v.rows))) (map file_row_of (map tree_row_of v.rows))
    bare-rows = bare ∙ ap (λ (items : List ResidueItem). rows_with items (map file_row_of (map tree_row_of v.rows))) handed

    right-files : IsFiles (map file_row_of (rule_commit blocks v).rows)
    right-files = subst IsFiles (sym bare-rows) rows-right.files

    right-apart : first_clash (map file_row_of (rule_commit blocks v).rows) ≡ None
    right-apart = ap first_clash bare-rows ∙ rows-right.apart

    -- what the rows of the tree are, as they are made
    made-rows : rows_with (carried (residue_below k.git old) (map file_of_row d.rows)) (map file_of_row d.rows) ≡ map file_row_of (rule_commit blocks v).rows
    made-rows =
        ap (λ (fs : List FileRow). rows_with (carried (residue_below k.git old) fs) fs) files-of
        ∙ ap (λ (items : List ResidueItem). rows_with (carried items (map file_row_of (map tree_row_of v.rows))) (map file_row_of (map tree_row_of v.rows))) (below-rows k.git old)
        ∙ sym bare-rows

    pub files-right : IsFiles (rows_with (carried (residue_below k.git old) (map file_of_row d.rows)) (map file_of_row d.rows))
    files-right = subst IsFiles (sym made-rows) right-files

    pub files-apart : first_clash (rows_with (carried (residue_below k.git old) (map file_of_row d.rows)) (map file_of_row d.rows)) ≡ None
    files-apart = ap first_clash made-rows ∙ right-apart

    -- where the commit is within its limits, each body is
    short-bodies : CommitFits (rule_commit blocks v) → AreShortBodies v.rows
    unfolding rule_commit commit_objects
    short-bodies fits = each_from (λ (row : Row). length (row.revision).body ≤ text_limit) v.rows (λ row i.
        content-short (rule_commit blocks v).rows right-files right-apart
        (Each-front (λ (o : Object). length o.content ≤ text_limit) (shape_objects shape_depth (map leaf_of_row (rule_commit blocks v).rows)) (object_of commit (commit_text (rule_commit blocks v).value) ∷ []) fits.objects)
        (tree_row_with (carried_to blocks v) (tree_row_of row)) (row-in (carried_to blocks v) v.rows row i) (blob-row (carried_to blocks v) row))

    files-are : map (tree_row_with (carried_to blocks v)) (map tree_row_of v.rows) ≡ files_among (rule_commit blocks v).rows
    unfolding rule_commit
    files-are = sym (files-with (carried_to blocks v) (map tree_row_of v.rows)
        (rises-ascends (λ (row : TreeRow). row.path) (map tree_row_of v.rows) (subst (λ (paths : List Bytes). IsTrue (rises is_below paths)) (sym (same-paths v.rows)) over.inside.view.in_order)) (all-blobs v.rows))

    module _ (value : Commit) (files : List FileRow) (root : Id) (root-is : root ≡ root_of files)
        (value-is : value ≡ record {
          tree_id = root;
          parents = partners_at k.partners (d.p1 ∷ d.p2 ∷ []);
          author = author_by (changeset_value d.changeset).user (changeset_value d.changeset).date;
          committer = author_by (changeset_value d.changeset).user (changeset_value d.changeset).date;
          headers = [];
          message = message_of (changeset_value d.changeset).description;
        })
        (files-is : files ≡ rows_with (carried (residue_below k.git old) (map file_of_row d.rows)) (map file_of_row d.rows)) where
      root-right : root_of_rows (rule_commit blocks v).rows ≡ root
      root-right = same-root (rule_commit blocks v).rows ∙ ap root_of (sym (files-is ∙ made-rows)) ∙ sym root-is

      value-of : (rule_commit blocks v).value ≡ value
      unfolding rule_commit
      value-of = (λ i. record {
        tree_id = root-right i;
        parents = (sym (partners-of-pairs k.partners blocks (v.p ∷ v.q ∷ []) held.partners) ∙ (λ j. partners_at k.partners (draft.parents.0 j ∷ draft.parents.1 j ∷ []))) i;
        author = author_by (draft.fields i).user (draft.fields i).date;
        committer = author_by (draft.fields i).user (draft.fields i).date;
        headers = [];
        message = message_of (draft.fields i).description;
      }) ∙ sym value-is

      view-of : IsBytes value.author → IsCommitView (rule_commit blocks v)
      unfolding rule_commit
      view-of bytes =
          let h : IsChangesetView v = over.inside.view in
          let line : IsLine (author_by (v.fields).user (v.fields).date) = (
            subst IsBytes (sym (ap (λ (x : Commit). x.author) value-of)) bytes,
            author-line (v.fields).user (v.fields).date h.fields.date h.fields.user.1,
          ) in
          record {
            value = record {
              tree_id = IsId-root (rule_commit blocks v).rows;
              parents = IsId-partners blocks (not_null (v.p ∷ v.q ∷ []));
              author = line;
              committer = line;
              headers = record { lines = []; each = tt; are = refl };
              message = IsBytes-append (v.fields).description (lf ∷ []) h.fields.description (omega arith, tt);
            };
            few = few-two v.p v.q (git_partner blocks);
            distinct = distinct-partners blocks (subst ArePartners held.partners over.inside.history.partners) v.p v.q over.parents h.distinct;
            rows = each-row;
            in_order = subst (λ (paths : List Bytes). IsTrue (rises is_below paths)) (paths-same (rule_commit blocks v).rows) right-files.in_order;
            no_clash = no-has_clash (rule_commit blocks v).rows right-files right-apart;
            agrees = refl;
          }

      short-of : AreShortBodies v.rows → Each (λ row. length row.content ≤ text_limit) (rule_commit blocks v).rows
      unfolding rule_commit
      short-of h = short-rows (carried_to blocks v) v.rows h

      -- the draft is that of the rule's commit
      pub made : (fresh trees : List Object) → IsBytes value.author → AreShortBodies v.rows → AreBrought k.git fresh (map tree_row_of v.rows)
          → Each (λ o. In o (trees_of files)) trees → Each (λ o. In o (trees ++ k.git)) (trees_of files)
          → (made-of : GitDraft) → made-of ≡ record { commit = value; files = files; fresh = fresh; trees = trees } → IsMadeCommit k.git made-of (rule_commit blocks v)
      made fresh trees bytes short brought trees-are trees-held made-of of = subst (λ (x : GitDraft). IsMadeCommit k.git x (rule_commit blocks v)) (sym of) (record {
        value = value-of;
        files = files-is ∙ made-rows;
        trees_are = trees-are;
        trees_held = trees-held;
        blobs = Each-weaker (λ o. SomeOf (map tree_row_of v.rows) (λ row. o ≡ blob_of_row row)) (λ o. SomeOf (files_among (rule_commit blocks v).rows) (λ row. o ≡ blob_of_row row))
            (λ o h. subst (λ (rows : List TreeRow). SomeOf rows (λ row. o ≡ blob_of_row row)) files-are (some-mapped o (carried_to blocks v) (map tree_row_of v.rows) h)) fresh brought.blobs;
        are_new = brought.are_new;
        all = subst (Each (λ row. IsTrue (knows_object (fresh ++ k.git) row.id))) files-are (all-mapped (fresh ++ k.git) (carried_to blocks v) (map tree_row_of v.rows) brought.all);
        short = short-of short;
        view = view-of bytes;
      })

  pub bodies-short : ((b : Block) → block_of_node blocks d.p1 ≡ Some b → AreKnown k.git) → has_clash (paths_of v.rows) ≡ false → CommitFits (rule_commit blocks v) → AreShortBodies v.rows
  bodies-short are clear = let old = some-old blocks d.p1 in short-bodies old.0 (asked-with k blocks d.p1 are old.0 old.1) clear old.1
