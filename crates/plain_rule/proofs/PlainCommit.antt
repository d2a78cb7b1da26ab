-- A commit comes back from its changeset exactly where its fields do, and where its tree has beside its files what its first parent's commit
-- hands on to them: its files, its tree's id and its parents come back by themselves.
use Rattle.std.proofs.Common.{◌≡◌, ◌≤◌, ℕ, Bool, true, false, true≢false, List, [], ◌∷◌, ◌++◌, map, length, Option, Some, None, refl, sym, ap, subst, ◌∙◌, inl, inr, arith}
use Rattle.std.specs.Prelude.{◌==◌, ◌↔◌, not, IsTrue, is_some, bytes_eq, unwrap_or, option_map, slice_get}
use Rattle.std.specs.List.{ends_with}
use Rattle.std.proofs.lemmas.List.{length-map}
use Rattle.std.proofs.lemmas.Slice.Eq.{bytes_eq-Decides}
use Rattle.text_model.specs.Lists.{In, Each}
use Rattle.text_model.specs.Text.{Bytes, lf}
use Rattle.text_model.specs.Id.{Id, null, is_null}
use Rattle.text_model.proofs.Elements.{each_at, in_right}
use Rattle.text_model.proofs.Options.{none_some, some_is}
use Rattle.hg_model.specs.Revision.{Revision, Changesets}
use Rattle.git_model.specs.Commit.{Commit}
use Rattle.git_model.specs.Residue.{ResidueItem, residue_of, carried, plain_files, rows_with}
use Rattle.git_model.specs.Shape.{root_of}
use Rattle.git_model.proofs.SortLemmas.{Ascends, rises-ascends}
use Rattle.git_model.proofs.ResidueLemmas.{path_of, path_of_item, up_residue}
use Rattle.git_model.specs.Unfold.{FileRow, tree_rows}
use Rattle.git_store.specs.Known.{AreKnown, IsCommitAt}
use Rattle.git_view.proofs.Walks.{none-refused}
use Rattle.tree_shape.proofs.Elements.{in-flat}
use Rattle.tree_shape.proofs.Unfolding.{walk-files}
use Rattle.view_model.specs.View.{ChangesetView, CommitView, changeset_node, commit_id, root_of_rows}
use Rattle.view_model.specs.Held.{IsChangesetHeld, AreChangesetsHeld, file_row_of}
use Rattle.pair_model.specs.Block.{Block, node_of, id_of, block_of_id, block_of_node, git_partner, hg_partner, not_null, changesets_in}
use Rattle.pair_model.specs.Rule.{tree_row_of, ruled_rows, old_residue, carried_to, rule_commit, rule_changeset}
use Rattle.pair_model.specs.Octopus.{links_of, links_by, links_over, parents_of_commit, partners_of_parents, first_of, second_of, last_id}
use Rattle.pair_model.specs.Plain.{IsPlainCommit, changeset_by_rule}
use Rattle.pair_model.proofs.MessageLemmas.{message_of-description_of, ends_with-message_of}
use Rattle.pair_known.specs.declared.known.Known.{Known}
use Rattle.pair_known.specs.declared.git_draft.GitDraft.{GitDraft}
use Rattle.pair_known.specs.Over.{IsCommitOver}
use Rattle.pair_known.specs.Blocks.{AreBlocksHeld}
use Rattle.pair_known.specs.Partners.{ArePartners}
use Rattle.pair_known.proofs.HeldViews.{held-as}
use Rattle.pair_known.proofs.PartnerLemmas.{block-of-id, back-partner, found-in}
use Rattle.commit_rule.specs.Parts.{IsTreeOf, WalksThrough, residue_below}
use Rattle.pair_model.proofs.RuledFiles.{files-again}
use Rattle.commit_rule.proofs.Handed.{bare-with}
use Rattle.commit_rule.proofs.RuledLemmas.{IsOld, same-root, walks-old, residue-old, block-commit, one-commit-at}
use Rattle.plain_rule.specs.CommitHead.{line_again, first_partner, handed_to, IsHandedOn, IsPlainHead}
use Rattle.plain_rule.proofs.PlainRows.{files-same, same-by-files, rows-by-residue, residue-by-rows}

-- ---- parents

held-member : (known : List Revision) (vs : List ChangesetView) (v : ChangesetView) → AreChangesetsHeld known (map changeset_node vs) vs → In v vs → IsChangesetHeld known (changeset_node v) v
held-member known [] v h i = absurd i
held-member known (w ∷ vs) v h i = elim i [ inl q ↦ subst (λ (x : ChangesetView). IsChangesetHeld known (changeset_node x) x) (sym q) h.0 | inr j ↦ held-member known vs v h.1 j ]

no-links : (blocks : List Block) (id : Id) (n : ℕ) (nodes : List Id) → length nodes ≤ 2 → links_by blocks id n nodes ≡ []
unfolding links_over
no-links blocks id n [] few = refl
no-links blocks id n (x ∷ []) few = refl
no-links blocks id n (x ∷ y ∷ []) few = refl
no-links blocks id n (x ∷ y ∷ z ∷ nodes) few = absurd (omega (arith, few))

links-none : (blocks : List Block) (c : CommitView) → length (partners_of_parents blocks c) ≤ 2 → links_of blocks c ≡ []
unfolding links_of
links-none blocks c few = no-links blocks (commit_id c) (length (c.value).parents) (partners_of_parents blocks c) few

-- the node of a block has a block
node-there : (blocks : List Block) (b : Block) → In b blocks → is_some (block_of_node blocks (node_of b)) ≡ true
node-there [] b i = absurd i
node-there (x ∷ blocks) b i = by (bytes_eq (node_of x) (node_of b)) refl (node-there blocks b)
  where
    by : (t : Bool) → bytes_eq (node_of x) (node_of b) ≡ t → (In b blocks → is_some (block_of_node blocks (node_of b)) ≡ true)
        → is_some (block_of_node (x ∷ blocks) (node_of b)) ≡ true
    by true e rest = rw e refl
    by false e rest = elim i [ inl q ↦ absurd (true≢false (sym ((bytes_eq-Decides (node_of x) (node_of b)).1 (ap node_of (sym q))) ∙ e)) | inr j ↦ rw e (rest j) ]

partner-of-none : (blocks : List Block) (ids : List Id) → slice_get ids 0 ≡ None → first_of (map (hg_partner blocks) ids) ≡ null
partner-of-none blocks [] at = refl
partner-of-none blocks (id ∷ ids) at = absurd (none_some (sym at))

partner-of-first : (blocks : List Block) (ids : List Id) (first : Id) → slice_get ids 0 ≡ Some first
    → first_of (map (hg_partner blocks) ids) ≡ hg_partner blocks first
partner-of-first blocks [] first at = absurd (none_some at)
partner-of-first blocks (id ∷ ids) first at = ap (hg_partner blocks) (some_is at)

module _ (k : Known) (blocks : List Block) (d : GitDraft) (c : CommitView) (over : IsCommitOver k blocks d c) where
  held : AreBlocksHeld k blocks
  held = over.history.held

  -- no block has the null node
  some-node : (b : Block) → In b blocks → is_null (node_of b) ≡ false
  some-node b i =
      let there : In b.changeset (changesets_in blocks) =
      in-flat (λ (b : Block). b.links ++ b.changeset ∷ []) blocks b b.changeset i (in_right b.changeset b.links (b.changeset ∷ []) (inl refl)) in
      let stored = held-member k.hg (changesets_in blocks) b.changeset held.changesets there in
      (held-as k.hg over.history.added Changesets (node_of b) stored.revision stored.is_held).some

  no-null : (id : Id) → IsTrue (is_some (block_of_id blocks id)) → is_null (hg_partner blocks id) ≡ false
  no-null id h =
      let x = block-of-id blocks id h in
      ap is_null (ap (λ (o : Option Block). unwrap_or (option_map node_of o) null) x.1) ∙ some-node x.0 x.2

  back : (id : Id) → IsTrue (is_some (block_of_id blocks id)) → git_partner blocks (hg_partner blocks id) ≡ id
  back id h = back-partner blocks (subst ArePartners held.partners over.history.partners) id h

  -- ---- the tree of the first parent

  no-block-of-null : block_of_node blocks null ≡ None
  no-block-of-null = by (block_of_node blocks null) refl
    where
      by : (o : Option Block) → block_of_node blocks null ≡ o → o ≡ None
      by None e = refl
      by (Some b) e =
          let found = found-in (λ (x : Block). bytes_eq (node_of x) null) blocks b e in
          absurd (true≢false (sym found.1 ∙ some-node b found.0))

  -- the block of the changeset of a commit that stands in a block is that of the commit
  block-of-partner : (id : Id) → IsTrue (is_some (block_of_id blocks id)) → (b : Block) × (block_of_node blocks (hg_partner blocks id) ≡ Some b) × (id_of b ≡ id)
  block-of-partner id h = by (block_of_node blocks (hg_partner blocks id)) refl
    where
      by : (o : Option Block) → block_of_node blocks (hg_partner blocks id) ≡ o → (b : Block) × (block_of_node blocks (hg_partner blocks id) ≡ Some b) × (id_of b ≡ id)
      by None e =
          let x = block-of-id blocks id h in
          let node : hg_partner blocks id ≡ node_of x.0 = ap (λ (o : Option Block). unwrap_or (option_map node_of o) null) x.1 in
          absurd (true≢false (sym (node-there blocks x.0 x.2) ∙ ap (λ (n : Id). is_some (block_of_node blocks n)) (sym node) ∙ ap is_some e))
      by (Some b) e = (b, e, sym (ap (λ (o : Option Block). unwrap_or (option_map id_of o) null) e) ∙ back id h)

  pub no-first : slice_get (c.value).parents 0 ≡ None → block_of_node blocks (first_partner blocks c) ≡ None
  no-first none = ap (block_of_node blocks) (partner-of-none blocks (c.value).parents none) ∙ no-block-of-null

  -- the first parent's commit is stored, and it is that of the block of its partner
  module _ (first : Id) (at : slice_get (c.value).parents 0 ≡ Some first) where
    pub first-stored : (b : Block) × (block_of_node blocks (first_partner blocks c) ≡ Some b) × IsCommitAt k.git first (b.commit).value
    first-stored =
        let x = block-of-partner first (each_at (λ p. IsTrue (is_some (block_of_id blocks p))) (c.value).parents 0 first at over.parents) in
        let there = ap (block_of_node blocks) (partner-of-first blocks (c.value).parents first at) ∙ x.1 in
        (x.0, there, subst (λ (id : Id). IsCommitAt k.git id ((x.0).commit).value) x.2 (block-commit k blocks (first_partner blocks c) x.0 held there))

    -- its tree is that of its block
    pub first-tree : (v : Commit) → IsCommitAt k.git first v → IsTreeOf blocks (first_partner blocks c) v.tree_id
    first-tree v at = let x = first-stored in (x.0, x.1, ap (λ (y : Commit). y.tree_id) (one-commit-at k.git first v ((x.0).commit).value at x.2))

  -- ---- the residue of its tree

  up-below : AreKnown k.git → (root : Option Id) → WalksThrough k.git root → Ascends path_of_item (residue_below k.git root)
  up-below are None walks = tt
  up-below are (Some root) walks =
      let files = walk-files k.git root are.are (none-refused k.git are.are root walks) in
      up_residue (tree_rows k.git root) (rises-ascends path_of (tree_rows k.git root) files.in_order)

  -- the store is asked where there is a first parent
  module _ (are : (first : Id) → slice_get (d.commit).parents 0 ≡ Some first → AreKnown k.git) where
    asked : (b : Block) → block_of_node blocks (first_partner blocks c) ≡ Some b → AreKnown k.git
    asked b there = by (slice_get (c.value).parents 0) refl
      where
        by : (o : Option Id) → slice_get (c.value).parents 0 ≡ o → AreKnown k.git
        by None e = absurd (none_some (sym (no-first e) ∙ there))
        by (Some first) e = are first (ap (λ (x : Commit). slice_get x.parents 0) (sym over.draft.value) ∙ e)

    residue-is : (root : Option Id) → IsOld blocks (first_partner blocks c) root → old_residue blocks (first_partner blocks c) ≡ residue_below k.git root
    residue-is None is = ap (λ (o : Option Block). unwrap_or (option_map (λ b. residue_of (map file_row_of (b.commit).rows)) o) []) is
    residue-is (Some root) is = residue-old k blocks held (asked is.0 is.1) (first_partner blocks c) (Some root) is

    up-old : Ascends path_of_item (old_residue blocks (first_partner blocks c))
    up-old = by (block_of_node blocks (first_partner blocks c)) refl
      where
        by : (o : Option Block) → block_of_node blocks (first_partner blocks c) ≡ o → Ascends path_of_item (old_residue blocks (first_partner blocks c))
        by None e = subst (Ascends path_of_item) (sym (residue-is None e)) tt
        by (Some b) e =
            let root : Option Id = Some ((b.commit).value).tree_id in
            subst (Ascends path_of_item) (sym (residue-is root (b, e, refl)))
            (up-below (asked b e) root (walks-old k blocks held (asked b e) (first_partner blocks c) root (b, e, refl)))

    -- ---- the whole

    module _ (few : length (c.value).parents ≤ 2) where
      few-nodes : length (partners_of_parents blocks c) ≤ 2
      few-nodes = subst (λ (n : ℕ). n ≤ 2) (sym (length-map (c.value).parents (hg_partner blocks))) few

      first-is : (parents_of_commit blocks c).p ≡ first_partner blocks c
      unfolding parents_of_commit
      first-is = ap (λ (links : List ChangesetView). last_id (first_of (partners_of_parents blocks c) ∷ map changeset_node links)) (links-none blocks c few-nodes)

      second-is : (parents_of_commit blocks c).q ≡ second_of (partners_of_parents blocks c)
      unfolding parents_of_commit
      second-is = refl

      again : (ids : List Id) → length ids ≤ 2 → Each (λ p. IsTrue (is_some (block_of_id blocks p))) ids
          → map (git_partner blocks) (not_null (first_of (map (hg_partner blocks) ids) ∷ second_of (map (hg_partner blocks) ids) ∷ [])) ≡ ids
      again [] few h = refl
      again (x ∷ []) few h = rw (no-null x h.0) (λ i. back x h.0 i ∷ [])
      again (x ∷ y ∷ []) few h = rw (no-null x h.0, no-null y h.1.0) (λ i. back x h.0 i ∷ back y h.1.0 i ∷ [])
      again (x ∷ y ∷ z ∷ ids) few h = absurd (omega (arith, few))

      parents-again : map (git_partner blocks) (not_null ((parents_of_commit blocks c).p ∷ (parents_of_commit blocks c).q ∷ [])) ≡ (c.value).parents
      parents-again = (λ i. map (git_partner blocks) (not_null (first-is i ∷ second-is i ∷ []))) ∙ again (c.value).parents few over.parents

      -- the rows that the rule gives again, without contents
      bare : map file_row_of (rule_commit blocks (changeset_by_rule blocks c)).rows ≡ rows_with (handed_to blocks c) (plain_files (map file_row_of c.rows))
      unfolding rule_commit rule_changeset
      bare =
          let files = files-again (parents_of_commit blocks c) c.rows over.view.rows in
          bare-with (carried_to blocks (changeset_by_rule blocks c)) (map tree_row_of (ruled_rows (parents_of_commit blocks c) c.rows))
          ∙ (λ i. rows_with (carried (old_residue blocks (first-is i)) (files i)) (files i))

      module _ (handed : IsHandedOn blocks c) where
        rows-back : map file_row_of (rule_commit blocks (changeset_by_rule blocks c)).rows ≡ map file_row_of c.rows
        rows-back = bare ∙ rows-by-residue (old_residue blocks (first_partner blocks c)) up-old c.rows over.view.rows over.view.in_order handed

        tree-back : root_of_rows (rule_commit blocks (changeset_by_rule blocks c)).rows ≡ (c.value).tree_id
        tree-back = same-root (rule_commit blocks (changeset_by_rule blocks c)).rows ∙ ap root_of rows-back ∙ sym (same-root c.rows) ∙ sym over.view.agrees

        value-back : IsPlainHead c.value → (rule_commit blocks (changeset_by_rule blocks c)).value ≡ c.value
        unfolding rule_commit rule_changeset
        value-back h = λ i. record {
          tree_id = tree-back i;
          parents = parents-again i;
          author = h.author i;
          committer = (h.author ∙ sym h.committer) i;
          headers = (sym h.headers) i;
          message = message_of-description_of (c.value).message h.message i;
        }

        pub plain-by : IsPlainHead c.value → IsPlainCommit blocks c
        plain-by h = record {
          few = few;
          back = record { value = value-back h; rows = same-by-files (rule_commit blocks (changeset_by_rule blocks c)).rows c.rows rows-back };
        }

      pub handed-by-plain : IsPlainCommit blocks c → IsHandedOn blocks c
      handed-by-plain plain = residue-by-rows (old_residue blocks (first_partner blocks c)) up-old c.rows over.view.rows over.view.in_order
          (sym bare ∙ files-same (rule_commit blocks (changeset_by_rule blocks c)).rows c.rows plain.back.rows)

    -- by the draft's files, and by the tree of the first parent
    pub handed-by-test : (root : Option Id) → IsOld blocks (first_partner blocks c) root
        → (files : List FileRow) (old : List ResidueItem) → files ≡ d.files → old ≡ residue_below k.git root
        → (t : Bool) → (IsTrue t ↔ residue_of files ≡ carried old (plain_files files)) → (IsTrue t ↔ IsHandedOn blocks c)
    handed-by-test root is files old files-are old-is t test =
        let same = old-is ∙ sym (residue-is root is) in
        let rows = files-are ∙ over.draft.files in (
          (λ yes. ap residue_of (sym rows) ∙ test.0 yes ∙ (λ i. carried (same i) (plain_files (rows i)))),
          (λ handed. test.1 (ap residue_of rows ∙ handed ∙ (λ i. carried ((sym same) i) (plain_files ((sym rows) i))))),
        )

    -- where the fields come back
    pub is-plain : IsPlainHead d.commit → (t : Bool) → (IsTrue t ↔ IsHandedOn blocks c) → (IsTrue t ↔ IsPlainCommit blocks c)
    is-plain head t test =
        let few-too : length (c.value).parents ≤ 2 = subst (λ (x : Commit). length x.parents ≤ 2) (sym over.draft.value) head.few in (
          (λ yes. plain-by few-too (test.0 yes) (subst IsPlainHead (sym over.draft.value) head)),
          (λ plain. test.1 (handed-by-plain few-too plain)),
        )

  pub head-by-plain : IsPlainCommit blocks c → IsPlainHead c.value
  unfolding rule_commit rule_changeset
  head-by-plain h = record {
    few = h.few;
    headers = λ i. ((sym h.back.value) i).headers;
    committer = (λ i. ((sym h.back.value) i).committer) ∙ (λ i. (h.back.value i).author);
    author = λ i. (h.back.value i).author;
    message = ends_with-message_of (c.value).message (λ i. (h.back.value i).message);
  }

-- ---- what the tests say of the fields

empty-is : (xs : Bytes) → (length xs == 0) ≡ true → xs ≡ []
empty-is [] h = refl
empty-is (x ∷ xs) h = absurd (grind (arith, h))

same-is : (xs ys : Bytes) → not (bytes_eq xs ys) ≡ false → xs ≡ ys
same-is xs ys h = by (bytes_eq xs ys) refl h
  where
    by : (t : Bool) → bytes_eq xs ys ≡ t → not t ≡ false → xs ≡ ys
    by true e h = (bytes_eq-Decides xs ys).0 e
    by false e h = absurd (true≢false h)

pub head-by-tests : (x : Commit) (line : Bytes) (plain : Bool) → length x.parents ≤ 2 → (length x.headers == 0) ≡ true → not (bytes_eq x.committer line) ≡ false
    → ends_with ◌==◌ x.message (lf ∷ []) ≡ true
    → line ≡ x.author → IsTrue plain ↔ (line_again line ≡ line) → IsTrue plain ↔ IsPlainHead x
head-by-tests x line plain few none same ends is h = (
  (λ t. record {
    few = few;
    headers = empty-is x.headers none;
    committer = same-is x.committer line same ∙ is;
    author = subst (λ (l : Bytes). line_again l ≡ l) is (h.0 t);
    message = ends;
  }),
  (λ p. h.1 (subst (λ (l : Bytes). line_again l ≡ l) (sym is) p.author)),
)
