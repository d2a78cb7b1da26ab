-- The turns of the loop that unmarks again and again.
use Rattle.std.proofs.Common.{◌≡◌, ℕ, suc, ◌+◌, ◌<◌, ◌%◌, ◌==◌, Bool, true, false, true≢false, List, refl, sym, subst, ◌∙◌, inr, arith}
use Rattle.std.proofs.lemmas.Bool.Decides.{nat_tests}
use Rattle.text_model.specs.Lists.{Each}
use Rattle.view_model.specs.View.{ChangesetView, CommitView}
use Rattle.pair_model.specs.Block.{Block}
use Rattle.partner_model.specs.Partner.{Member, OfHg, OfGit, IsHeldView, Unmarks, UnmarksCommit, UnmarksChangeset, IsPlain, HasDepth}
use Rattle.partner_model.specs.Given.{Peels, depth_limit}
use Rattle.partner_law.proofs.Choices.{peels_on, peeled_depth}
use Rattle.depth_law.proofs.Falls.{plain_down}
use Rattle.pair_known.specs.Blocks.{IsHistoryHeld}
use Rattle.pair_known.specs.Over.{IsChangesetIn, IsCommitOver}
use Rattle.pair_known.specs.Ruled.{IsMadeChangeset}
use Rattle.pair_known.specs.declared.git_draft.GitDraft.{GitDraft}
use Rattle.pair_known.specs.declared.hg_draft.HgDraft.{HgDraft}
use Rattle.pair_known.specs.declared.known.Known.{Known}
use Rattle.pair_choice.specs.Bodies.{AreBodiesApart, IsBodyAlone}
use Rattle.partner_model.specs.Clash.{IsColliding, do_bodies_collide}
use Rattle.pair_choice.specs.Depths.{IsClear, IsDraftOf, IsUnmarking, IsDepth, depth_of_count}
use Rattle.pair_choice.specs.declared.unmark.Unmarking.TheVariants.{Nothing, Found}
use Rattle.pair_choice.specs.declared.draft.Draft.{Draft}
use Rattle.pair_choice.specs.declared.draft.Draft.TheVariants.{Changeset, Commit}
use Rattle.changeset_unmark.specs.Drafts.{IsBuiltCommit}
use Rattle.pair_choice.proofs.BodyLemmas.{stands}
use Rattle.pair_choice.proofs.Collisions.{apart-of, none-collide}
use Rattle.pair_choice.proofs.Meets.{clear-end, clear-more}
use Rattle.commit_rule.proofs.Tables.{table}

pub history-of : (k : Known) (blocks : List Block) (d : Draft) (m : Member) → IsDraftOf k blocks d m → IsHistoryHeld k blocks
history-of k blocks (Changeset d) (OfHg h) is = is.history
history-of k blocks (Commit d) (OfGit c) is = is.history
history-of k blocks (Changeset d) (OfGit c) is = absurd is
history-of k blocks (Commit d) (OfHg h) is = absurd is

-- what is unmarked from a member that isn't plain isn't plain either
pub not-plain : (k : Known) (blocks : List Block) → IsHistoryHeld k blocks → (m n : Member) → (¬ (IsPlain blocks m)) → Unmarks blocks (IsHeldView k.hg) m n → ¬ (IsPlain blocks n)
not-plain k blocks history m n not u plain = not (plain_down blocks (IsHeldView k.hg) (table k blocks history) m n u plain)

pub peels-one : (blocks : List Block) (Known : ChangesetView → Type 0) (m n : Member) → (¬ (IsPlain blocks m)) → Unmarks blocks Known m n → Peels blocks Known 1 m n
unfolding Peels
peels-one blocks Known m n not u = (not, n, u, refl)

pub peels-none : (blocks : List Block) (Known : ChangesetView → Type 0) (m : Member) → Peels blocks Known 0 m m
unfolding Peels
peels-none blocks Known m = refl

-- the last one has no unmarking
ends : (blocks : List Block) (Known : ChangesetView → Type 0) (i : ℕ) (top m : Member) → Peels blocks Known i top m → ((n : Member) → ¬ (Unmarks blocks Known m n)) → HasDepth blocks Known i top
unfolding HasDepth
ends blocks Known i top m p none =
    let e : i + 0 ≡ i = omega arith in
    subst (λ (n : ℕ). HasDepth blocks Known n top) e (peeled_depth blocks Known i 0 top m p (inr none))

pub depth-is : (k : Known) (blocks : List Block) → IsHistoryHeld k blocks → (i : ℕ) (top m : Member) → i < depth_limit → IsClear k blocks i top → Peels blocks (IsHeldView k.hg) i top m → IsUnmarking k blocks m Nothing
    → IsDepth k blocks top (depth_of_count i)
depth-is k blocks history i top m less clear p none = by (i % 2 == 0) refl
  where
    below : HasDepth blocks (IsHeldView k.hg) i top × (i < depth_limit)
    below = (ends blocks (IsHeldView k.hg) i top m p none, less)

    by : (t : Bool) → (i % 2 == 0) ≡ t → IsDepth k blocks top (depth_of_count i)
    by true e =
        let even : i % 2 ≡ 0 = grind (arith, e, nat_tests) in
        rw e (i, even, below, clear-end k blocks history i top m clear p none)
    by false e =
        let no : ¬ (i % 2 ≡ 0) = grind (arith, e, nat_tests) in
        let odd : i % 2 ≡ 1 = omega (arith, no) in
        rw e (i, odd, below, clear-end k blocks history i top m clear p none)

-- ---- a turn

-- below the top stands this member, which isn't plain, and the draft stands for it
pub record IsDown (k : Known) (blocks : List Block) (i : ℕ) (top : Member) (d : Draft) (n : Member) : Type 0 where
  pub clear : IsClear k blocks i top
  pub peels : Peels blocks (IsHeldView k.hg) i top n
  pub marked : ¬ (IsPlain blocks n)
  pub draft : IsDraftOf k blocks d n

pub one-more : (k : Known) (blocks : List Block) (i : ℕ) (top : Member) (d e : Draft) (n : Member) → IsDown k blocks i top d n → IsUnmarking k blocks n (Found e) → (o : Member) × IsDown k blocks (i + 1) top e o
one-more k blocks i top d e n down found =
    let step : suc i ≡ i + 1 = omega arith in
    let peels = subst (λ (j : ℕ). Peels blocks (IsHeldView k.hg) j top found.0) step (peels_on blocks (IsHeldView k.hg) i top n found.0 down.peels down.marked found.1) in
    let history = history-of k blocks d n down.draft in
    let clear = clear-more k blocks history i top n down.clear down.peels found.3 in
    (found.0, record { clear = clear; peels = peels; marked = not-plain k blocks history n found.0 down.marked found.1; draft = found.2 })

-- ---- one unmarking

-- the draft of the unmarking of a commit stands for it
pub inside-of : (k : Known) (blocks : List Block) (c : GitDraft) (v : CommitView) → IsCommitOver k blocks c v → (d : HgDraft) (h : ChangesetView) → UnmarksCommit blocks v h → IsMadeChangeset k.hg d h → IsChangesetIn k blocks d h
inside-of k blocks c v over d h u made = record { history = over.history; draft = made.draft; view = u.view }

pub changeset-found : (k : Known) (blocks : List Block) (c : GitDraft) (v : CommitView) → IsCommitOver k blocks c v → (d : HgDraft) → (h : ChangesetView) × UnmarksCommit blocks v h × IsMadeChangeset k.hg d h → IsUnmarking k blocks (OfGit v) (Found (Changeset d))
changeset-found k blocks c v over d found = (OfHg found.0, found.1, inside-of k blocks c v over d found.0 found.1 found.2, λ x. x)

pub no-changeset : (k : Known) (blocks : List Block) (v : CommitView) → ((h : ChangesetView) → ¬ (UnmarksCommit blocks v h)) → IsUnmarking k blocks (OfGit v) Nothing
no-changeset k blocks v none (OfHg h) u = none h u
no-changeset k blocks v none (OfGit c) u = u

-- and that of the unmarking of a changeset, where its bodies don't collide
pub over-of : (k : Known) (blocks : List Block) (h : HgDraft) (v : ChangesetView) → IsChangesetIn k blocks h v → AreBodiesApart k.git v.rows → (d : GitDraft) (c : CommitView) → UnmarksChangeset blocks (IsHeldView k.hg) v c → IsBuiltCommit k.git d c → IsCommitOver k blocks d c
over-of k blocks h v is apart d c u built = record { history = is.history; draft = stands k.git d c built v.rows u.bodies apart; view = u.view; parents = u.paired }

-- the bodies that are alone don't collide
pub none-colliding : (k : Known) (blocks : List Block) (v : ChangesetView) → do_bodies_collide k.git v.rows ≡ false → ¬ (IsColliding blocks (IsHeldView k.hg) k.git (OfHg v))
none-colliding k blocks v none collides = true≢false (sym collides.2 ∙ none)

pub commit-found : (k : Known) (blocks : List Block) (h : HgDraft) (v : ChangesetView) → IsChangesetIn k blocks h v → (d : GitDraft) → (c : CommitView) × UnmarksChangeset blocks (IsHeldView k.hg) v c × IsBuiltCommit k.git d c → Each (IsBodyAlone k.git d.fresh) v.rows
    → IsUnmarking k blocks (OfHg v) (Found (Commit d))
commit-found k blocks h v is d found alone = (
  OfGit found.0,
  found.1,
  over-of k blocks h v is (apart-of k.git d.fresh v.rows alone) d found.0 found.1 found.2,
  none-colliding k blocks v (none-collide k.git d.fresh v.rows alone),
)

pub no-commit : (k : Known) (blocks : List Block) (v : ChangesetView) → ((c : CommitView) → ¬ (UnmarksChangeset blocks (IsHeldView k.hg) v c)) → IsUnmarking k blocks (OfHg v) Nothing
no-commit k blocks v none (OfGit c) u = none c u
no-commit k blocks v none (OfHg h) u = u
