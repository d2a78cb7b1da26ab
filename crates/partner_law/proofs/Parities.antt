-- Depths of a pair, and the one partner of a member.
use Rattle.std.proofs.Common.{ℕ, suc, ◌%◌, List, [], ◌∷◌, sym, ap, subst, ◌∙◌, inl, inr, arith}
use Rattle.pair_model.specs.Block.{Block}
use Rattle.pair_model.specs.User.{user_of_line}
use Rattle.view_model.specs.View.{Row, TreeRow, ChangesetView, CommitView, SameChangeset, SameCommit, SameRows, SameTreeRows}
use Rattle.pair_model.specs.MarkList.{extras_of}
use Rattle.partner_model.specs.Mark.{mark_commit, mark_changeset}
use Rattle.partner_model.specs.Partner.{Member, OfHg, OfGit, Unmarks, UnmarksChangeset, IsPlain, HasDepth, HasEvenDepth, HasOddDepth, IsPartner}
use Rattle.partner_model.specs.Table.{IsTable, AreApart}
use Rattle.partner_law.specs.Pairs.{SameMember}
use Rattle.unmark_law.proofs.CommitOne.{commit_one}
use Rattle.unmark_law.proofs.ChangesetOne.{marks_in, changeset_one, date_is, plain_parts}
use Rattle.depth_law.proofs.PlainChangeset.{unmarked}
use Rattle.unmark_law.proofs.Same.{same_changeset, same_commit}
use Rattle.depth_law.proofs.Falls.{plain_is_bare}
use Rattle.partner_law.proofs.Up.{plain_up_commit}
use Rattle.partner_law.proofs.Given.{given_is_plain}
use Rattle.depth_law.proofs.Depths.{depth_one}

-- the unmarking of a plain changeset is plain
pub plain_up_changeset : (blocks : List Block) (Known : ChangesetView → Type 0) → IsTable blocks → (h : ChangesetView) (c : CommitView) → UnmarksChangeset blocks Known h c → IsPlain blocks (OfHg h) → IsPlain blocks (OfGit c)
plain_up_changeset blocks Known t h c u p =
    let b = plain_is_bare blocks (OfHg h) p in
    let given = user_of_line (c.value).author in
    let parts = plain_parts given.time given.tz b.0 b.1 (extras_of (marks_in blocks c)) [] (sym (date_is blocks c) ∙ ap (λ x. x.date) (u.marked).fields ∙ b.2) in
    given_is_plain blocks t c u.view u.paired (unmarked blocks c u.view parts.2)

pub plain_up : (blocks : List Block) (Known : ChangesetView → Type 0) → IsTable blocks → (m k : Member) → Unmarks blocks Known m k → IsPlain blocks m → IsPlain blocks k
plain_up blocks Known t (OfGit c) (OfHg h) u p = plain_up_commit blocks t c h u p
plain_up blocks Known t (OfGit c) (OfGit d) u p = absurd u
plain_up blocks Known t (OfHg h) (OfGit c) u p = plain_up_changeset blocks Known t h c u p
plain_up blocks Known t (OfHg h) (OfHg k) u p = absurd u

pub one_up : (blocks : List Block) (Known : ChangesetView → Type 0) → IsTable blocks → (m k : Member) (n : ℕ) → Unmarks blocks Known m k → (¬ (IsPlain blocks k)) → HasDepth blocks Known n k → HasDepth blocks Known (suc n) m
unfolding HasDepth
one_up blocks Known t m k n u not h = ((λ p. not (plain_up blocks Known t m k u p)), k, u, h)

-- ---- sameness

pub rows_through : (xs ys zs : List Row) → SameRows xs ys → SameRows xs zs → SameRows ys zs
rows_through [] [] [] a b = tt
rows_through [] [] (z ∷ zs) a b = absurd b
rows_through [] (y ∷ ys) zs a b = absurd a
rows_through (x ∷ xs) [] zs a b = absurd a
rows_through (x ∷ xs) (y ∷ ys) [] a b = absurd b
rows_through (x ∷ xs) (y ∷ ys) (z ∷ zs) a b = ((sym (a.0).0 ∙ (b.0).0, sym (a.0).1 ∙ (b.0).1, sym (a.0).2 ∙ (b.0).2), rows_through xs ys zs a.1 b.1)

pub changesets_through : (x y z : ChangesetView) → SameChangeset x y → SameChangeset x z → SameChangeset y z
changesets_through x y z a b = record { p = sym a.p ∙ b.p; q = sym a.q ∙ b.q; fields = sym a.fields ∙ b.fields; manifest = sym a.manifest ∙ b.manifest; rows = rows_through x.rows y.rows z.rows a.rows b.rows }

pub trees_through : (xs ys zs : List TreeRow) → SameTreeRows xs ys → SameTreeRows xs zs → SameTreeRows ys zs
trees_through [] [] [] a b = tt
trees_through [] [] (z ∷ zs) a b = absurd b
trees_through [] (y ∷ ys) zs a b = absurd a
trees_through (x ∷ xs) [] zs a b = absurd a
trees_through (x ∷ xs) (y ∷ ys) [] a b = absurd b
trees_through (x ∷ xs) (y ∷ ys) (z ∷ zs) a b = (sym a.0 ∙ b.0, sym a.1 ∙ b.1, sym a.2 ∙ b.2, trees_through xs ys zs a.3 b.3)

pub commits_through : (x y z : CommitView) → SameCommit x y → SameCommit x z → SameCommit y z
commits_through x y z a b = record { value = sym a.value ∙ b.value; rows = trees_through x.rows y.rows z.rows a.rows b.rows }

-- ---- even and odd

pub not_both : (blocks : List Block) (Known : ChangesetView → Type 0) → IsTable blocks → AreApart Known → (m : Member) → HasEvenDepth blocks Known m → HasOddDepth blocks Known m → ⊥
not_both blocks Known t a m e o =
    let same = depth_one blocks Known t a m e.0 o.0 e.2 o.2 in
    absurd (omega (arith, e.1, o.1, ap (λ (n : ℕ). n % 2) same))

pub partner_one : (blocks : List Block) (Known : ChangesetView → Type 0) → IsTable blocks → AreApart Known → (m k l : Member) → IsPartner blocks Known m k → IsPartner blocks Known m l → SameMember k l
partner_one blocks Known t a (OfHg h) (OfGit c) (OfGit d) (inl x) (inl y) = commits_through (mark_commit blocks h) c d x.2 y.2
partner_one blocks Known t a (OfHg h) (OfGit c) (OfGit d) (inl x) (inr y) = absurd (not_both blocks Known t a (OfHg h) x.0 y.0)
partner_one blocks Known t a (OfHg h) (OfGit c) (OfGit d) (inr x) (inl y) = absurd (not_both blocks Known t a (OfHg h) y.0 x.0)
partner_one blocks Known t a (OfHg h) (OfGit c) (OfGit d) (inr x) (inr y) = subst (λ z. SameCommit c z) (changeset_one blocks Known t a h c d x.1 y.1) (same_commit c)
partner_one blocks Known t a (OfHg h) (OfGit c) (OfHg d) x y = absurd y
partner_one blocks Known t a (OfHg h) (OfHg c) l x y = absurd x
partner_one blocks Known t a (OfGit c) (OfHg h) (OfHg k) (inl x) (inl y) = changesets_through (mark_changeset blocks c) h k x.2 y.2
partner_one blocks Known t a (OfGit c) (OfHg h) (OfHg k) (inl x) (inr y) = absurd (not_both blocks Known t a (OfGit c) x.0 y.0)
partner_one blocks Known t a (OfGit c) (OfHg h) (OfHg k) (inr x) (inl y) = absurd (not_both blocks Known t a (OfGit c) y.0 x.0)
partner_one blocks Known t a (OfGit c) (OfHg h) (OfHg k) (inr x) (inr y) = subst (λ z. SameChangeset h z) (commit_one blocks t c h k x.1 y.1) (same_changeset h)
partner_one blocks Known t a (OfGit c) (OfHg h) (OfGit k) x y = absurd y
partner_one blocks Known t a (OfGit c) (OfGit h) l x y = absurd x
