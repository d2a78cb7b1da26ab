-- What the tree of a commit's first parent has beside its files.
use Rattle.std.proofs.Common.{◌≡◌, List, [], ◌∷◌, map, Option, Some, None, sym, ap, subst, ◌∙◌, inl, inr}
use Rattle.std.specs.Prelude.{IsTrue, is_some, option_map, unwrap_or, slice_get}
use Rattle.text_model.specs.Lists.{In}
use Rattle.text_model.specs.Text.{Bytes}
use Rattle.text_model.specs.Id.{Id}
use Rattle.text_model.proofs.Elements.{each_at, each_in}
use Rattle.text_model.proofs.Options.{some_is, none_some}
use Rattle.git_model.specs.Commit.{Commit, IsCommitText}
use Rattle.git_model.specs.Object.{Object}
use Rattle.git_model.specs.Residue.{ResidueItem, residue_of}
use Rattle.git_model.specs.Unfold.{tree_rows, walk_fault}
use Rattle.git_model.proofs.OneTextLemmas.{one_commit}
use Rattle.git_store.specs.Known.{AreKnown, IsCommitAt}
use Rattle.git_view.proofs.Rows.{rows-are}
use Rattle.view_model.specs.View.{CommitView, commit_id}
use Rattle.view_model.specs.Held.{IsCommitHeld, AreCommitsHeld}
use Rattle.pair_model.specs.Block.{Block, id_of, block_of_id, commits_in}
use Rattle.pair_known.specs.declared.known.Known.{Known}
use Rattle.pair_known.specs.declared.git_draft.GitDraft.{GitDraft}
use Rattle.pair_known.specs.Over.{IsCommitOver}
use Rattle.pair_known.proofs.HeldCommits.{held-at}
use Rattle.pair_known.proofs.PartnerLemmas.{block-of-id}
use Rattle.partner_model.specs.Mark.{residue_in, first_residue}

commit-held : (known : List Object) (blocks : List Block) (b : Block) → AreCommitsHeld known (map commit_id (commits_in blocks)) (commits_in blocks) → In b blocks → IsCommitHeld known (id_of b) b.commit
commit-held known [] b h i = absurd i
commit-held known (x ∷ blocks) b h i = elim i [
  | inl q ↦ subst (λ (y : Block). IsCommitHeld known (id_of y) y.commit) (sym q) h.0
  | inr j ↦ commit-held known blocks b h.1 j
]

one-commit : (known : List Object) (id : Id) (v w : Commit) → IsCommitAt known id v → IsCommitAt known id w → v ≡ w
one-commit known id v w a b = one_commit b.content v w (subst (λ (t : Bytes). IsCommitText t v) (some_is (sym a.held ∙ b.held)) a.is) b.is

abbrev residue_at : Option Block → List ResidueItem
residue_at o = unwrap_or (option_map (λ b. residue_in (b.commit).rows) o) []

first-of : (blocks : List Block) (ids : List Id) (first : Id) → slice_get ids 0 ≡ Some first → first_residue blocks ids ≡ residue_at (block_of_id blocks first)
first-of blocks [] first at = absurd (none_some at)
first-of blocks (id ∷ ids) first at = ap (λ (x : Id). residue_at (block_of_id blocks x)) (some_is at)

module _ (k : Known) (blocks : List Block) (d : GitDraft) (v : CommitView) (over : IsCommitOver k blocks d v) (first : Id) (at : slice_get (v.value).parents 0 ≡ Some first) where
  -- the commit of the first parent's block is held
  record Held : Type 0 where
    block : Block
    found : block_of_id blocks first ≡ Some block
    among : In block blocks
    held : IsCommitHeld k.git first block.commit

  there : Held
  there =
      let x = block-of-id blocks first (each_at (λ p. IsTrue (is_some (block_of_id blocks p))) (v.value).parents 0 first at over.parents) in
      record {
        block = x.0;
        found = x.1;
        among = x.2;
        held = subst (λ (id : Id). IsCommitHeld k.git id (x.0).commit) x.3 (commit-held k.git blocks x.0 over.history.held.commits x.2);
      }

  pub first-stored : (b : Block) × IsCommitAt k.git first (b.commit).value
  first-stored = (there.block, held-at k.git first (there.block).commit there.held)

  -- its residue is that of the tree that the store has under its id
  pub residue-is : AreKnown k.git → (parent : Commit) → IsCommitAt k.git first parent → residue_of (tree_rows k.git parent.tree_id) ≡ first_residue blocks (v.value).parents
  residue-is are parent is =
      let c = (there.block).commit in
      let walks = each_in (λ (x : Block). walk_fault k.git ((x.commit).value).tree_id ≡ None) blocks there.block over.history.held.walks there.among in
      let rows = rows-are k.git first c are.are there.held walks in
      let same : parent ≡ c.value = one-commit k.git first parent c.value is (held-at k.git first c there.held) in
      ap (λ (x : Commit). residue_of (tree_rows k.git x.tree_id)) same
      ∙ ap residue_of (sym rows)
      ∙ ap residue_at (sym there.found)
      ∙ sym (first-of blocks (v.value).parents first at)
