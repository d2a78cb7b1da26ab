-- The commit that the rule gives of a changeset over blocks whose commits are views is a view, and so is the marked one.
use Rattle.std.proofs.Common.{◌≡◌, Bool, true, false, true≢false, List, [], ◌∷◌, map, Option, Some, None, refl, sym, ap, subst, ◌∙◌, arith}
use Rattle.std.specs.Prelude.{IsTrue, is_some, unwrap_or, option_map, bytes_eq, ℤ, pos, negsuc, neg_ℤ, ◌≤ℤ◌, ◌^◌, FitsSigned}
use Rattle.std.specs.Int.{w64}
use Rattle.std.proofs.lemmas.Int.{ints}
use Rattle.std.proofs.lemmas.List.{length-map}
use Rattle.text_model.specs.Lists.{Each, rises}
use Rattle.text_model.specs.Text.{Bytes, IsBytes, lf, has_byte, is_below}
use Rattle.text_model.specs.Id.{Id, null, is_null, blob_id}
use Rattle.text_model.specs.Path.{is_fit_path}
use Rattle.text_model.proofs.ByteLemmas.{IsBytes-append}
use Rattle.text_model.proofs.Elements.{each_in, in_map}
use Rattle.text_model.proofs.TestLemmas.{bytes_eq-other}
use Rattle.hg_model.specs.Changeset.{DateLine, Plain, Raw, IsDateLine}
use Rattle.hg_model.specs.FileText.{IsFile}
use Rattle.hg_model.specs.Manifest.{Flag, Regular, Executable, Symlink}
use Rattle.git_model.specs.Commit.{IsLine}
use Rattle.git_model.specs.Residue.{ResidueItem, residue_of, carried, rows_with}
use Rattle.git_model.specs.Shape.{first_clash}
use Rattle.git_model.specs.Tree.{has_distinct}
use Rattle.git_model.specs.Unfold.{FileRow}
use Rattle.tree_shape.specs.Sets.{IsFiles}
use Rattle.view_model.specs.View.{Row, IsRowId, IsRevision, ChangesetView, IsChangesetView, CommitView, IsCommitView, paths_of, has_clash}
use Rattle.view_model.specs.Held.{file_row_of}
use Rattle.pair_model.specs.Block.{Block, block_of_node, commits_in, git_partner, not_null}
use Rattle.pair_model.specs.Rule.{mode_of_flag, author_by, tree_row_of, tree_rows_with, old_residue, carried_to, rule_commit}
use Rattle.pair_model.proofs.UserLemmas.{line-one_line}
use Rattle.pair_known.proofs.PartnerLemmas.{IsId-partners, chosen}
use Rattle.partner_model.specs.Mark.{mark_commit}
use Rattle.partner_model.specs.Partner.{AreChangesetParentsPaired}
use Rattle.partner_model.specs.Table.{IsTable}
use Rattle.mark_law.proofs.Views.{marked_is_view}
use Rattle.mark_law.proofs.LineBytes.{line-bytes}
use Rattle.unmark_law.proofs.Tables.{git_one}
use Rattle.depth_law.proofs.Back.{few_parents}
use Rattle.commit_rule.proofs.FileLemmas.{view-files, same-paths, paths-same, no-has_clash}
use Rattle.pair_model.proofs.RuledFiles.{IsRow}
use Rattle.commit_rule.proofs.Handed.{bare-with, AreOld, AreRows, are-rows, file-rows, apart-rows}
use Rattle.commit_rule.proofs.RuledLemmas.{IsId-root}
use Rattle.next_law.proofs.LikeNew.{find-in}

-- ---- the author's line

time-fits : (time : ℤ) → neg_ℤ (pos (2 ^ 62)) ≤ℤ time → time ≤ℤ pos (2 ^ 62) → FitsSigned w64 time
time-fits (pos n) low high = omega (arith, ints, low, high)
time-fits (negsuc n) low high = omega (arith, ints, low, high)

zero-fits : FitsSigned w64 (pos 0)
zero-fits = omega (arith, ints)

author-is : (user : Bytes) (date : DateLine) → IsDateLine date → has_byte 10 user ≡ false → IsBytes user → IsLine (author_by user date)
author-is user (Plain time tz extras) is one bytes = (line-bytes user time tz bytes, line-one_line user time tz (time-fits time is.time_low is.time_high) one)
author-is user (Raw text) is one bytes = (line-bytes user (pos 0) (pos 0) bytes, line-one_line user (pos 0) (pos 0) zero-fits one)

-- ---- its parents

module _ (blocks : List Block) (table : IsTable blocks) where
  other : (p q : Id) → (p ≡ q → p ≡ null) → is_null p ≡ false → IsTrue (is_some (block_of_node blocks p)) → IsTrue (is_some (block_of_node blocks q)) → bytes_eq (git_partner blocks p) (git_partner blocks q) ≡ false
  other p q apart some hp hq = bytes_eq-other (git_partner blocks p) (git_partner blocks q)
      (λ e. true≢false (sym (ap is_null (apart (git_one blocks table p q hp hq e))) ∙ some))

  distinct-two : (p q : Id) → Each (λ n. IsTrue (is_some (block_of_node blocks n))) (not_null (p ∷ q ∷ [])) → (p ≡ q → p ≡ null) → has_distinct (map (git_partner blocks) (not_null (p ∷ q ∷ []))) ≡ true
  distinct-two p q all apart = by (is_null p) (is_null q) refl refl all
    where
      by : (s t : Bool) → is_null p ≡ s → is_null q ≡ t → Each (λ n. IsTrue (is_some (block_of_node blocks n))) (chosen p q s t) → has_distinct (map (git_partner blocks) (chosen p q s t)) ≡ true
      by true true e f h = refl
      by true false e f h = refl
      by false true e f h = refl
      by false false e f h = rw (other p q apart e h.0 h.1.0) refl

-- ---- its rows

tree-rows : (rows : List Row) → Each (λ row. IsTrue (is_fit_path row.path) × IsBytes row.path × IsRevision row.revision) rows → Each IsRow (map tree_row_of rows)
tree-rows [] h = tt
tree-rows (row ∷ rows) h = ((h.0.0, h.0.1, body (row.revision).meta (row.revision).body h.0.2.2, id row.flag (row.revision).body), tree-rows rows h.1)
  where
    body : (meta : Option Bytes) (bytes : Bytes) → IsFile meta bytes → IsBytes bytes
    body None bytes h = h.0
    body (Some meta) bytes h = h.0

    id : (flag : Flag) (bytes : Bytes) → IsRowId (mode_of_flag flag) (blob_id bytes) bytes
    id Regular bytes = refl
    id Executable bytes = refl
    id Symlink bytes = refl

-- the rows of the tree of the first parent's partner
old-rows : List Block → Id → List FileRow
old-rows blocks node = unwrap_or (option_map (λ b. map file_row_of (b.commit).rows) (block_of_node blocks node)) []

residue-old : (blocks : List Block) (node : Id) → old_residue blocks node ≡ residue_of (old-rows blocks node)
unfolding old-rows
residue-old blocks node = by (block_of_node blocks node)
  where
    by : (o : Option Block) → unwrap_or (option_map (λ b. residue_of (map file_row_of (b.commit).rows)) o) [] ≡ residue_of (unwrap_or (option_map (λ b. map file_row_of (b.commit).rows) o) [])
    by None = refl
    by (Some b) = refl

view-old : (c : CommitView) → IsCommitView c → AreOld (map file_row_of c.rows)
view-old c v = record {
  files = record { each = file-rows c.rows v.rows; in_order = subst (λ (paths : List Bytes). IsTrue (rises is_below paths)) (sym (paths-same c.rows)) v.in_order };
  apart = apart-rows c.rows v.no_clash;
}

are-old : (blocks : List Block) (node : Id) → Each IsCommitView (commits_in blocks) → AreOld (old-rows blocks node)
unfolding old-rows
are-old blocks node views = by (block_of_node blocks node) refl
  where
    by : (o : Option Block) → block_of_node blocks node ≡ o → AreOld (unwrap_or (option_map (λ b. map file_row_of (b.commit).rows) o) [])
    by None e = record { files = record { each = tt; in_order = refl }; apart = λ a b i j. absurd i }
    by (Some b) e = view-old b.commit (each_in IsCommitView (commits_in blocks) b.commit views (in_map (λ (x : Block). x.commit) b blocks (find-in _ blocks b e).0))

module _ (blocks : List Block) (views : Each IsCommitView (commits_in blocks)) (h : ChangesetView) (view : IsChangesetView h) (clear : has_clash (paths_of h.rows) ≡ false) where
  handed : carried_to blocks h ≡ carried (residue_of (old-rows blocks h.p)) (map file_row_of (map tree_row_of h.rows))
  handed = ap (λ (items : List ResidueItem). carried items (map file_row_of (map tree_row_of h.rows))) (residue-old blocks h.p)

  rows-right : AreRows (old-rows blocks h.p) h.rows
  rows-right = are-rows (old-rows blocks h.p) (are-old blocks h.p views) h.rows (tree-rows h.rows view.rows) (view-files h view) (ap has_clash (same-paths h.rows) ∙ clear)

  each-row : Each IsRow (rule_commit blocks h).rows
  unfolding rule_commit
  each-row = subst (λ (items : List ResidueItem). Each IsRow (tree_rows_with items (map tree_row_of h.rows))) (sym handed) rows-right.each

  right-files : IsFiles (map file_row_of (rule_commit blocks h).rows)
  unfolding rule_commit
  right-files = subst IsFiles (sym (bare-with (carried_to blocks h) (map tree_row_of h.rows))) (subst (λ (items : List ResidueItem). IsFiles (rows_with items (map file_row_of (map tree_row_of h.rows)))) (sym handed) rows-right.files)

  right-apart : first_clash (map file_row_of (rule_commit blocks h).rows) ≡ None
  unfolding rule_commit
  right-apart = ap first_clash (bare-with (carried_to blocks h) (map tree_row_of h.rows)) ∙ ap (λ (items : List ResidueItem). first_clash (rows_with items (map file_row_of (map tree_row_of h.rows)))) handed ∙ rows-right.apart

  rule-view : IsTable blocks → AreChangesetParentsPaired blocks h → IsCommitView (rule_commit blocks h)
  unfolding rule_commit
  rule-view table paired =
      let line : IsLine (author_by (h.fields).user (h.fields).date) = author-is (h.fields).user (h.fields).date (view.fields).date (view.fields).user.1 (view.fields).user.2 in
      record {
        value = record {
          tree_id = IsId-root (rule_commit blocks h).rows;
          parents = IsId-partners blocks (not_null (h.p ∷ h.q ∷ []));
          author = line;
          committer = line;
          headers = record { lines = []; each = tt; are = refl };
          message = IsBytes-append (h.fields).description (lf ∷ []) (view.fields).description (omega arith, tt);
        };
        few = omega (arith, length-map (not_null (h.p ∷ h.q ∷ [])) (git_partner blocks), few_parents h.p h.q);
        distinct = distinct-two blocks table h.p h.q paired view.distinct;
        rows = each-row;
        in_order = subst (λ (paths : List Bytes). IsTrue (rises is_below paths)) (paths-same (rule_commit blocks h).rows) right-files.in_order;
        no_clash = no-has_clash (rule_commit blocks h).rows right-files right-apart;
        agrees = refl;
      }

  -- the marked commit of the changeset
  pub marked-view : IsTable blocks → AreChangesetParentsPaired blocks h → IsCommitView (mark_commit blocks h)
  marked-view table paired = marked_is_view blocks h view (rule-view table paired)
