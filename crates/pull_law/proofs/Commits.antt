-- A commit that gives a block isn't refused, and one that is refused has one name.
use Rattle.std.proofs.Common.{◌≡◌, List, Option, Some, None, sym, ap, subst, ◌∙◌, inl, inr}
use Rattle.std.specs.Prelude.{IsSomeAnd, IsTrue}
use Rattle.text_model.specs.Id.{Id}
use Rattle.text_model.specs.Fault.{FaultName}
use Rattle.text_model.specs.Fault as fault
use Rattle.text_model.proofs.Options.{some_is}
use Rattle.hg_model.specs.Revision.{Revision}
use Rattle.git_model.specs.Commit.{Commit, IsCommitText}
use Rattle.git_model.specs.Object.{Object, object_at}
use Rattle.git_model.specs.Unfold.{WalkFault, walk_fault}
use Rattle.git_model.proofs.OneTextLemmas.{one_commit}
use Rattle.view_model.specs.View.{CommitView}
use Rattle.view_model.specs.Held.{IsCommitHeld}
use Rattle.pair_model.specs.Block.{Block}
use Rattle.partner_model.specs.Partner.{OfGit, IsHeldView}
use Rattle.partner_model.specs.Given.{IsBlockFor}
use Rattle.partner_model.specs.Clash.{changeset_side_collides}
use Rattle.partner_model.specs.Table.{IsTable}
use Rattle.history_model.specs.Pull.{ChangesetsFit, FilesRefused, FilesPass, WalkRefused, CommitRefused, CommitGives}
use Rattle.git_view.proofs.One.{one-held}
use Rattle.pull_law.proofs.Choices.{IsOneName, unless-one, unless-none, not-true}
use Rattle.pull_law.proofs.Known.{HasNoNull}
use Rattle.pull_law.proofs.Members.{one-block, block-refusal_one, block-or_refused}

-- ---- a commit with all its files

module _ (known : List Revision) (none : HasNoNull known) (objects : List Object) (blocks : List Block) (table : IsTable blocks) (c : CommitView) where
  abbrev IsLarge : Block → Type 0
  IsLarge b = ¬ (ChangesetsFit b)

  abbrev Collides : Block → Type 0
  Collides b = IsTrue (changeset_side_collides known blocks b)

  files-refusal_one : IsOneName (FilesRefused known objects blocks c)
  files-refusal_one = unless-one _ fault.Collision _ (unless-one _ fault.NestLimit _ (block-refusal_one known none blocks table (OfGit c) IsLarge Collides))

  pass-or_refused : (b : Block) (found : FaultName) → FilesPass known objects blocks c b → FilesRefused known objects blocks c found → ⊥
  pass-or_refused b found p =
      unless-none _ fault.Collision _ p.no_collision
      (unless-none _ fault.NestLimit _ p.not_deep
      (block-or_refused known none blocks table (OfGit c) IsLarge Collides b p.block (λ n. n p.fits) p.files_in_time p.manifest_in_time (not-true p.apart))) found

-- ---- the walk through its tree

-- the fault of a walk has one name
walk-name_one : (o p : Option WalkFault) (a b : FaultName) → o ≡ p → IsSomeAnd o (λ walk. walk.name ≡ a)
    → IsSomeAnd p (λ walk. walk.name ≡ b) → a ≡ b
walk-name_one None p a b e h k = absurd h
walk-name_one (Some w) None a b e h k = absurd k
walk-name_one (Some w) (Some v) a b e h k = sym h ∙ ap (λ (x : WalkFault). x.name) (some_is e) ∙ k

walks-or_refused : (o : Option WalkFault) (a : FaultName) → o ≡ None → IsSomeAnd o (λ walk. walk.name ≡ a) → ⊥
walks-or_refused None a e h = h
walks-or_refused (Some w) a e h = cc

module _ (objects : List Object) (id : Id) where
  -- the commit of an id has one value
  value-one : (a b : Object) (v w : Commit) → object_at objects id ≡ Some a → object_at objects id ≡ Some b → IsCommitText a.content v
      → IsCommitText b.content w → v ≡ w
  value-one a b v w h k s t =
      one_commit a.content v w s (subst (λ (o : Object). IsCommitText o.content w) (some_is (sym k ∙ h)) t)

  walk-refusal_one : IsOneName (WalkRefused objects id)
  walk-refusal_one a b x y =
      walk-name_one (walk_fault objects (x.value).tree_id) (walk_fault objects (y.value).tree_id) a b
      (ap (λ (v : Commit). walk_fault objects v.tree_id) (value-one x.object y.object x.value y.value x.is_held y.is_held x.text y.text)) x.fault y.fault

  pub walk-or_refused : (c : CommitView) (found : FaultName) → IsCommitHeld objects id c → walk_fault objects (c.value).tree_id ≡ None
      → WalkRefused objects id found → ⊥
  walk-or_refused c found held walks w =
      walks-or_refused (walk_fault objects (w.value).tree_id) found
      (ap (λ (v : Commit). walk_fault objects v.tree_id) (value-one w.object held.object w.value c.value w.is_held held.is_held w.text held.text)
      ∙ walks) w.fault

-- ---- the block of a commit, and why there is none

module _ (known : List Revision) (none : HasNoNull known) (objects : List Object) (blocks : List Block) (table : IsTable blocks) (id : Id) where
  pub block-one : (a b : Block) → CommitGives known objects blocks id a → CommitGives known objects blocks id b → a ≡ b
  block-one a b x y =
      one-block known none blocks table (OfGit x.view) a b (x.passes).block
      (subst (λ (c : CommitView). IsBlockFor blocks (IsHeldView known) (OfGit c) b) (one-held objects id y.view x.view y.is_held x.is_held) (y.passes).block)

  pub refusal-one : IsOneName (CommitRefused known objects blocks id)
  refusal-one a b (inl x) (inl y) = walk-refusal_one objects id a b x y
  refusal-one a b (inl x) (inr y) = absurd (walk-or_refused objects id y.0 a y.1 y.2 x)
  refusal-one a b (inr x) (inl y) = absurd (walk-or_refused objects id x.0 b x.1 x.2 y)
  refusal-one a b (inr x) (inr y) =
      files-refusal_one known none objects blocks table x.0 a b x.3
      (subst (λ (c : CommitView). FilesRefused known objects blocks c b) (one-held objects id y.0 x.0 y.1 x.1) y.3)

  pub gives-or_refused : (b : Block) (found : FaultName) → CommitGives known objects blocks id b → CommitRefused known objects blocks id found → ⊥
  gives-or_refused b found x (inl w) = walk-or_refused objects id x.view found x.is_held x.walks w
  gives-or_refused b found x (inr y) =
      pass-or_refused known none objects blocks table x.view b found x.passes
      (subst (λ (c : CommitView). FilesRefused known objects blocks c found) (one-held objects id y.0 x.view y.1 x.is_held) y.3)
