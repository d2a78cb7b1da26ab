-- A member has one block, by whichever words the links are known.
use Rattle.std.proofs.Common.{ℕ, zero, suc, List, inl, inr}
use Rattle.text_model.proofs.EachLemmas.{Each-weaker}
use Rattle.view_model.specs.View.{ChangesetView, CommitView}
use Rattle.pair_model.specs.Block.{Block}
use Rattle.pair_model.specs.Octopus.{links_of}
use Rattle.partner_model.specs.Partner.{Member, OfHg, OfGit, IsKnownAs, UnmarksChangeset, Unmarks, HasDepth, HasEvenDepth, HasOddDepth}
use Rattle.partner_model.specs.Given.{IsCommitFor, IsChangesetFor, IsBlockFor}

module _ (blocks : List Block) where
  unmarks-changeset : (K L : ChangesetView → Type 0) → ((v : ChangesetView) → K v → L v) → (h : ChangesetView) (c : CommitView) → UnmarksChangeset blocks K h c
      → UnmarksChangeset blocks L h c
  unmarks-changeset K L to h c u = record {
    view = u.view;
    paired = u.paired;
    marked = u.marked;
    walked = Each-weaker (IsKnownAs K) (IsKnownAs L) (λ l k. (k.0, to k.0 k.1, k.2)) (links_of blocks c) u.walked;
    bodies = u.bodies;
  }

  unmarks : (K L : ChangesetView → Type 0) → ((v : ChangesetView) → K v → L v) → (m k : Member) → Unmarks blocks K m k → Unmarks blocks L m k
  unmarks K L to (OfGit c) (OfHg h) u = u
  unmarks K L to (OfHg h) (OfGit c) u = unmarks-changeset K L to h c u
  unmarks K L to (OfHg h) (OfHg k) u = u
  unmarks K L to (OfGit c) (OfGit d) u = u

  module _ (K L : ChangesetView → Type 0) (to : (v : ChangesetView) → K v → L v) (back : (v : ChangesetView) → L v → K v) where
    depth : (n : ℕ) (m : Member) → HasDepth blocks K n m → HasDepth blocks L n m
    unfolding HasDepth
    depth zero m (inl plain) = inl plain
    depth zero m (inr none) = inr (λ k u. none k (unmarks L K back m k u))
    depth (suc n) m (marked, k, u, below) = (marked, k, unmarks K L to m k u, depth n k below)

    even : (m : Member) → HasEvenDepth blocks K m → HasEvenDepth blocks L m
    even m (n, is, has) = (n, is, depth n m has)

    odd : (m : Member) → HasOddDepth blocks K m → HasOddDepth blocks L m
    odd m (n, is, has) = (n, is, depth n m has)

    commit-for : (h : ChangesetView) (c : CommitView) → IsCommitFor blocks K h c → IsCommitFor blocks L h c
    commit-for h c (inl x) = inl (even (OfHg h) x.0, x.1, x.2)
    commit-for h c (inr x) = inr (odd (OfHg h) x.0, unmarks-changeset K L to h c x.1)

    changeset-for : (c : CommitView) (h : ChangesetView) → IsChangesetFor blocks K c h → IsChangesetFor blocks L c h
    changeset-for c h (inl x) = inl (even (OfGit c) x.0, x.1, x.2)
    changeset-for c h (inr x) = inr (odd (OfGit c) x.0, x.1)

    pub block-for : (m : Member) (b : Block) → IsBlockFor blocks K m b → IsBlockFor blocks L m b
    block-for (OfHg h) b (c, for, is) = (c, commit-for h c for, is)
    block-for (OfGit c) b (h, for, is) = (h, changeset-for c h for, is)
