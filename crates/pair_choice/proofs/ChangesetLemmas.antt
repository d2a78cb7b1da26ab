-- The changeset that is chosen for a commit, and its links.
use Rattle.std.proofs.Common.{◌≡◌, ◌≤◌, ℕ, ◌<◌, ◌%◌, Bool, true, false, true≢false, List, [], ◌∷◌, ◌++◌, length, refl, sym, ap, subst, ◌∙◌, inl, inr, arith}
use Rattle.std.specs.Prelude.{◌==◌}
use Rattle.std.proofs.lemmas.Bool.Decides.{nat_tests}
use Rattle.std.proofs.lemmas.List.{length-map}
use Rattle.text_model.specs.Lists.{Each}
use Rattle.text_model.specs.Text.{Bytes}
use Rattle.text_model.specs.Id.{Id}
use Rattle.view_model.specs.View.{ChangesetView, CommitView, ChangesetFits, commit_id}
use Rattle.pair_model.specs.Block.{Block}
use Rattle.git_model.specs.Commit.{Commit}
use Rattle.pair_model.specs.Octopus.{is_link_view, links_of, links_by, links_over, partners_of_parents}
use Rattle.partner_model.specs.Mark.{mark_changeset}
use Rattle.partner_model.specs.Partner.{Member, OfHg, OfGit, IsHeldView, UnmarksCommit, Unmarks, IsPlain, HasDepth}
use Rattle.partner_model.specs.Given.{IsChangesetFor, IsTooDeep, depth_limit}
use Rattle.depth_law.proofs.Back.{links_none}
use Rattle.depth_law.proofs.Falls.{plain_is_bare}
use Rattle.depth_law.proofs.PlainCommit.{plain_commit, commit_is_plain, commit_paired, commit_few}
use Rattle.unmark_law.proofs.NoLinks.{marked-no_link}
use Rattle.partner_law.proofs.Choices.{depth_is_below}
use Rattle.pair_known.specs.Blocks.{IsHistoryHeld}
use Rattle.pair_known.specs.Over.{IsCommitOver, AreCommitParentsPaired}
use Rattle.pair_known.specs.Ruled.{IsMadeChangeset}
use Rattle.pair_known.specs.declared.fault.PairFault.{PairFault}
use Rattle.pair_known.specs.declared.fault.PairFault.TheVariants as made
use Rattle.pair_known.specs.declared.known.Known.{Known}
use Rattle.pair_known.specs.declared.git_draft.GitDraft.{GitDraft}
use Rattle.pair_known.specs.declared.hg_block.HgBlock.{HgBlock}
use Rattle.link_rule.specs.Links.{AreLinksMade}
use Rattle.pair_choice.specs.Chosen.{IsChosenBlock, CommitRefuses}
use Rattle.pair_known.specs.Fault.{choice_fault}
use Rattle.pair_choice.specs.Parts.{IsBlockMade}
use Rattle.pair_choice.specs.Depths.{MeetsNone}
use Rattle.commit_rule.proofs.Tables.{table}
use Rattle.pair_choice.proofs.Histories.{apart}
use Rattle.pair_choice.proofs.Meets.{plain-meets, none-meets}

-- ---- links

few-of-none : (blocks : List Block) (id : Id) (n : ℕ) (xs : List Id) → links_by blocks id n xs ≡ [] → length xs ≤ 2
unfolding links_over
few-of-none blocks id n [] e = omega arith
few-of-none blocks id n (x ∷ []) e = omega arith
few-of-none blocks id n (x ∷ y ∷ []) e = omega arith
few-of-none blocks id n (x ∷ y ∷ z ∷ xs) e = absurd cc

pub few-parents : (blocks : List Block) (c : CommitView) → links_of blocks c ≡ [] → length (c.value).parents ≤ 2
unfolding links_of
few-parents blocks c e =
    let few = few-of-none blocks (commit_id c) (length (c.value).parents) (partners_of_parents blocks c) e in
    simp length-map at few

pub unmarked-no-links : (blocks : List Block) (c : CommitView) (h : ChangesetView) → UnmarksCommit blocks c h → links_of blocks c ≡ []
unmarked-no-links blocks c h u =
    let few : length (partners_of_parents blocks c) ≤ 2 = simp length-map (commit_few blocks c h u.marked) in
    links_none blocks c few

-- the block of an unmarking
pub unmarked-made : (k : Known) (blocks : List Block) (c : CommitView) (h : ChangesetView) (d : HgBlock) → UnmarksCommit blocks c h → IsMadeChangeset k.hg d.last h → d.links ≡ [] → ChangesetFits h → IsBlockMade k blocks c d h
unmarked-made k blocks c h d u made none fits =
    let links = unmarked-no-links blocks c h u in
    record {
      made = made;
      links = subst (λ (ls : List ChangesetView). AreLinksMade k.hg d.links ls) (sym links) (rw none tt);
      strict = λ e. u.view;
      fits = subst (λ (ls : List ChangesetView). Each ChangesetFits (ls ++ h ∷ [])) (sym links) (fits, tt);
    }

-- ---- the choice

-- the changeset is the partner, and isn't refused for its depth
pub record IsChoice (k : Known) (blocks : List Block) (c : CommitView) (h : ChangesetView) : Type 0 where
  pub partner : IsChangesetFor blocks (IsHeldView k.hg) c h
  pub no_link : is_link_view h ≡ false
  pub apart : MeetsNone k blocks (OfGit c)
  pub not_deep : ¬ (IsTooDeep blocks (IsHeldView k.hg) (OfGit c))

pub chosen : (k : Known) (blocks : List Block) (c : CommitView) (d : HgBlock) (h : ChangesetView) → IsChoice k blocks c h → IsBlockMade k blocks c d h → IsChosenBlock k blocks c d h
chosen k blocks c d h choice made = record {
  partner = choice.partner;
  made = made.made;
  links = made.links;
  strict = made.strict;
  no_link = choice.no_link;
  fits = made.fits;
  apart = choice.apart;
  not_deep = choice.not_deep;
}

-- why the drafts of the choice aren't made
pub refused : (k : Known) (blocks : List Block) (c : CommitView) (h : ChangesetView) (e : PairFault) → IsChoice k blocks c h → (e ≡ made.PairLimit → ¬ (Each ChangesetFits (links_of blocks c ++ h ∷ []))) → CommitRefuses k blocks c (choice_fault e)
refused k blocks c h made.PairLimit choice over = (choice.apart, choice.not_deep, h, choice.partner, over refl)
refused k blocks c h made.Memory choice over = tt

module _ (k : Known) (blocks : List Block) (history : IsHistoryHeld k blocks) (c : CommitView) where
  shallow : (n : ℕ) → HasDepth blocks (IsHeldView k.hg) n (OfGit c) → n < depth_limit → ¬ (IsTooDeep blocks (IsHeldView k.hg) (OfGit c))
  shallow n depth less = depth_is_below blocks (IsHeldView k.hg) (table k blocks history) (apart k blocks history) (OfGit c) n depth less

  no-depth : IsPlain blocks (OfGit c) → HasDepth blocks (IsHeldView k.hg) 0 (OfGit c)
  unfolding HasDepth
  no-depth plain = inl plain

  bottom : ((h : ChangesetView) → ¬ (UnmarksCommit blocks c h)) → HasDepth blocks (IsHeldView k.hg) 0 (OfGit c)
  unfolding HasDepth
  bottom none = inr all
    where
      all : (n : Member) → ¬ (Unmarks blocks (IsHeldView k.hg) (OfGit c) n)
      all (OfHg h) u = none h u
      all (OfGit d) u = u

  -- a plain commit has its unmarking
  pub plain-choice : (h : ChangesetView) → UnmarksCommit blocks c h → (c.value).headers ≡ [] → IsChoice k blocks c h
  plain-choice h u bare =
      let plain = commit_is_plain blocks (table k blocks history) c h u bare in
      record {
        partner = inl ((0, refl, no-depth plain), commit_paired blocks c h u.paired u.marked, sym (plain_commit blocks (table k blocks history) c h u bare));
        no_link = u.no_link;
        apart = plain-meets k blocks (OfGit c) plain;
        not_deep = shallow 0 (no-depth plain) (omega arith);
      }

  -- so has one of odd depth
  pub odd-choice : (h : ChangesetView) → UnmarksCommit blocks c h → (n : ℕ) → n % 2 ≡ 1 → HasDepth blocks (IsHeldView k.hg) n (OfGit c) → n < depth_limit → MeetsNone k blocks (OfGit c) → IsChoice k blocks c h
  odd-choice h u n odd depth less clear = record { partner = inr ((n, odd, depth), u); no_link = u.no_link; apart = clear; not_deep = shallow n depth less }

  pub even-choice : AreCommitParentsPaired blocks c → (n : ℕ) → n % 2 ≡ 0 → HasDepth blocks (IsHeldView k.hg) n (OfGit c) → n < depth_limit → MeetsNone k blocks (OfGit c) → IsChoice k blocks c (mark_changeset blocks c)
  even-choice paired n even depth less clear = record { partner = inl ((n, even, depth), paired, refl); no_link = marked-no_link blocks c; apart = clear; not_deep = shallow n depth less }

  -- and one without an unmarking has its marked changeset
  pub alone-choice : AreCommitParentsPaired blocks c → ((h : ChangesetView) → ¬ (UnmarksCommit blocks c h)) → IsChoice k blocks c (mark_changeset blocks c)
  alone-choice paired none = even-choice paired 0 refl (bottom none) (omega arith) (none-meets k blocks history (OfGit c) all)
    where
      all : (n : Member) → ¬ (Unmarks blocks (IsHeldView k.hg) (OfGit c) n)
      all (OfHg h) u = none h u
      all (OfGit d) u = u

-- ---- headers of the draft

none-there : (xs : Bytes) → (length xs == 0) ≡ true → xs ≡ []
none-there [] e = refl
none-there (x ∷ xs) e =
    let none : length (x ∷ xs) ≡ 0 = grind (arith, e, nat_tests) in
    absurd (omega (arith, none))

module _ (k : Known) (blocks : List Block) (d : GitDraft) (c : CommitView) (over : IsCommitOver k blocks d c) (bare : Bool) (is : bare ≡ (length (d.commit).headers == 0)) where
  pub no-headers : bare ≡ true → (c.value).headers ≡ []
  no-headers e = ap (λ (x : Commit). x.headers) (over.draft).value ∙ none-there (d.commit).headers (sym is ∙ e)

  -- a commit with headers isn't plain
  pub not-plain : bare ≡ false → ¬ (IsPlain blocks (OfGit c))
  not-plain e plain =
      let none : (d.commit).headers ≡ [] = sym (ap (λ (x : Commit). x.headers) (over.draft).value) ∙ plain_is_bare blocks (OfGit c) plain in
      true≢false (sym (is ∙ ap (λ (xs : Bytes). length xs == 0) none) ∙ e)
