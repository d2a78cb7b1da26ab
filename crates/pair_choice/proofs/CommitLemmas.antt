-- The commit that is chosen for a changeset.
use Rattle.std.proofs.Common.{◌≡◌, ◌≢◌, ℕ, ◌<◌, ◌≤◌, ◌%◌, length, true, false, true≢false, ◌||◌, List, [], ◌∷◌, map, refl, sym, ap, subst, ◌∙◌, inl, inr, arith}
use Rattle.std.specs.Prelude.{ℤ}
use Rattle.hg_model.specs.Changeset.{DateLine, Plain, Raw}
use Rattle.git_model.specs.Residue.{ResidueItem}
use Rattle.view_model.specs.View.{Row, TreeRow, ChangesetView, CommitView, IsChangesetView, CommitFits, HaveSameBodies, HasBodiesOf, files_among, paths_of, has_clash}
use Rattle.std.proofs.lemmas.List.{length-map}
use Rattle.pair_model.specs.Block.{Block}
use Rattle.pair_model.specs.Octopus.{links_of, partners_of_parents}
use Rattle.pair_model.specs.Rule.{tree_row_of, tree_row_with, carried_to}
use Rattle.partner_model.specs.Mark.{mark_commit}
use Rattle.partner_model.specs.Partner.{Member, OfHg, OfGit, IsHeldView, UnmarksChangeset, Unmarks, IsPlain, HasDepth}
use Rattle.partner_model.specs.Given.{IsCommitFor, IsOnLink, IsTooDeep, is_link_parent, depth_limit}
use Rattle.depth_law.proofs.Back.{links_none}
use Rattle.depth_law.proofs.PlainCommit.{commit_few}
use Rattle.unmark_law.proofs.Same.{same_commit}
use Rattle.depth_law.proofs.Depths.{depth_one}
use Rattle.depth_law.proofs.Falls.{plain_is_bare}
use Rattle.depth_law.proofs.PlainChangeset.{plain_changeset, changeset_is_plain}
use Rattle.partner_law.proofs.Choices.{depth_is_below}
use Rattle.partner_law.proofs.Partners.{linked_has_partner}
use Rattle.unmark_law.proofs.TreeRows.{marked_rows, files_with}
use Rattle.pair_known.specs.Blocks.{IsHistoryHeld}
use Rattle.pair_known.specs.Over.{AreChangesetParentsPaired, IsCommitOver}
use Rattle.pair_known.specs.Ruled.{IsRuledCommit}
use Rattle.pair_known.specs.declared.fault.PairFault.{PairFault}
use Rattle.pair_known.specs.declared.fault.PairFault.TheVariants as made
use Rattle.pair_known.specs.declared.known.Known.{Known}
use Rattle.pair_known.specs.declared.git_draft.GitDraft.{GitDraft}
use Rattle.pair_choice.specs.Chosen.{IsChosenCommit, ChangesetRefuses}
use Rattle.pair_known.specs.Fault.{choice_fault}
use Rattle.pair_choice.specs.Parts.{is_bare_date}
use Rattle.pair_choice.specs.Depths.{MeetsNone}
use Rattle.commit_rule.proofs.Tables.{table}
use Rattle.pair_choice.proofs.Histories.{apart}
use Rattle.pair_choice.proofs.Meets.{plain-meets, none-meets}
use Rattle.pair_choice.proofs.ParentLemmas.{no-link-parents, paired-or-not}

-- ---- marks of a changeset

-- a date line without extras
pub bare-date : (date : DateLine) → is_bare_date date ≡ true → (time : ℤ) × (tz : ℤ) × (date ≡ Plain time tz [])
bare-date (Plain time tz []) e = (time, tz, refl)
bare-date (Plain time tz (x ∷ xs)) e = absurd (true≢false (sym e))
bare-date (Raw text) e = absurd (true≢false (sym e))

is-bare : (date : DateLine) (time tz : ℤ) → date ≡ Plain time tz [] → is_bare_date date ≡ true
is-bare date time tz e = ap is_bare_date e

-- a plain changeset has none
pub not-bare : (blocks : List Block) (h : ChangesetView) → is_bare_date (h.fields).date ≡ false → ¬ (IsPlain blocks (OfHg h))
not-bare blocks h e plain =
    let b = plain_is_bare blocks (OfHg h) plain in
    true≢false (sym (is-bare (h.fields).date b.0 b.1 b.2) ∙ e)

-- ---- bodies

kept-bodies : (items : List ResidueItem) (hs : List Row) → HaveSameBodies hs (map (tree_row_with items) (map tree_row_of hs))
kept-bodies items [] = tt
kept-bodies items (h ∷ hs) = (refl, refl, kept-bodies items hs)

marked-bodies : (blocks : List Block) (h : ChangesetView) → IsChangesetView h → HasBodiesOf h.rows (mark_commit blocks h).rows
marked-bodies blocks h view =
    let files = ap files_among (marked_rows blocks h) ∙ files_with (carried_to blocks h) h.rows view.in_order in
    subst (λ (ts : List TreeRow). HaveSameBodies h.rows ts) (sym files) (kept-bodies (carried_to blocks h) h.rows)

-- ---- links

-- a marked commit has two parents at most, and so no links
marked-no-links : (blocks : List Block) (h : ChangesetView) → links_of blocks (mark_commit blocks h) ≡ []
marked-no-links blocks h =
    let few : length (partners_of_parents blocks (mark_commit blocks h)) ≤ 2 = simp length-map (commit_few blocks (mark_commit blocks h) h (same_commit (mark_commit blocks h))) in
    links_none blocks (mark_commit blocks h) few

marked-over : (k : Known) (blocks : List Block) (h : ChangesetView) (c : CommitView) → c ≡ mark_commit blocks h → (d : GitDraft) → IsRuledCommit k.git d c → links_of blocks c ≢ [] → IsCommitOver k blocks d c
marked-over k blocks h c is d ruled some = absurd (some (ap (links_of blocks) is ∙ marked-no-links blocks h))

-- ---- the choice

-- the commit is the partner, and none of the first refusals but a clash is due
pub record IsChoice (k : Known) (blocks : List Block) (h : ChangesetView) (c : CommitView) : Type 0 where
  pub partner : IsCommitFor blocks (IsHeldView k.hg) h c
  pub bodies : HasBodiesOf h.rows c.rows
  pub over : (d : GitDraft) → IsRuledCommit k.git d c → links_of blocks c ≢ [] → IsCommitOver k blocks d c
  pub on_no_link : ¬ (IsOnLink blocks (IsHeldView k.hg) h)
  pub apart : MeetsNone k blocks (OfHg h)
  pub not_deep : ¬ (IsTooDeep blocks (IsHeldView k.hg) (OfHg h))

pub chosen : (k : Known) (blocks : List Block) (h : ChangesetView) (d : GitDraft) (c : CommitView) → has_clash (paths_of h.rows) ≡ false → IsChoice k blocks h c → IsRuledCommit k.git d c → IsChosenCommit k blocks h d c
chosen k blocks h d c clear choice ruled = record {
  partner = choice.partner;
  ruled = ruled;
  bodies = choice.bodies;
  over = choice.over d ruled;
  no_clash = clear;
  on_no_link = choice.on_no_link;
  apart = choice.apart;
  not_deep = choice.not_deep;
}

-- why the draft of the choice isn't made
pub refused : (k : Known) (blocks : List Block) (h : ChangesetView) (c : CommitView) (e : PairFault) → has_clash (paths_of h.rows) ≡ false → IsChoice k blocks h c → (e ≡ made.PairLimit → ¬ (CommitFits c)) → ChangesetRefuses k blocks h (choice_fault e)
refused k blocks h c made.PairLimit clear choice over = (clear, choice.on_no_link, choice.apart, choice.not_deep, c, choice.partner, over refl)
refused k blocks h c made.Memory clear choice over = tt

module _ (k : Known) (blocks : List Block) (history : IsHistoryHeld k blocks) (h : ChangesetView) where
  shallow : (n : ℕ) → HasDepth blocks (IsHeldView k.hg) n (OfHg h) → n < depth_limit → ¬ (IsTooDeep blocks (IsHeldView k.hg) (OfHg h))
  shallow n depth less = depth_is_below blocks (IsHeldView k.hg) (table k blocks history) (apart k blocks history) (OfHg h) n depth less

  no-depth : IsPlain blocks (OfHg h) → HasDepth blocks (IsHeldView k.hg) 0 (OfHg h)
  unfolding HasDepth
  no-depth plain = inl plain

  bottom : ((c : CommitView) → ¬ (UnmarksChangeset blocks (IsHeldView k.hg) h c)) → HasDepth blocks (IsHeldView k.hg) 0 (OfHg h)
  unfolding HasDepth
  bottom none = inr all
    where
      all : (n : Member) → ¬ (Unmarks blocks (IsHeldView k.hg) (OfHg h) n)
      all (OfGit c) u = none c u
      all (OfHg g) u = u

  -- a plain changeset has its unmarking
  pub plain-choice : (c : CommitView) → UnmarksChangeset blocks (IsHeldView k.hg) h c → is_bare_date (h.fields).date ≡ true → IsChoice k blocks h c
  plain-choice c u bare =
      let b = bare-date (h.fields).date bare in
      let plain = changeset_is_plain blocks (IsHeldView k.hg) (table k blocks history) h c b.0 b.1 u b.2 in
      let back = plain_changeset blocks (IsHeldView k.hg) (table k blocks history) h c b.0 b.1 u b.2 in
      record {
        partner = inl ((0, refl, no-depth plain), back.paired, sym back.marked);
        bodies = u.bodies;
        over = marked-over k blocks h c (sym back.marked);
        on_no_link = λ on. on.1 c u;
        apart = plain-meets k blocks (OfHg h) plain;
        not_deep = shallow 0 (no-depth plain) (omega arith);
      }

  -- so has one of odd depth
  pub odd-choice : (c : CommitView) → UnmarksChangeset blocks (IsHeldView k.hg) h c → MeetsNone k blocks (OfHg h) → ((d : GitDraft) → IsRuledCommit k.git d c → IsCommitOver k blocks d c) → (n : ℕ) → n % 2 ≡ 1 → HasDepth blocks (IsHeldView k.hg) n (OfHg h) → n < depth_limit → IsChoice k blocks h c
  odd-choice c u clear over n odd depth less = record {
    partner = inr ((n, odd, depth), u);
    bodies = u.bodies;
    over = λ d ruled some. over d ruled;
    on_no_link = λ on. on.1 c u;
    apart = clear;
    not_deep = shallow n depth less;
  }

  -- of an even depth the parents are paired
  pub even-paired : (c : CommitView) → UnmarksChangeset blocks (IsHeldView k.hg) h c → (n : ℕ) → n % 2 ≡ 0 → HasDepth blocks (IsHeldView k.hg) n (OfHg h) → AreChangesetParentsPaired blocks h
  even-paired c u n even depth = paired-or-not blocks h (λ not.
      let one = (linked_has_partner blocks (IsHeldView k.hg) (table k blocks history) h c u not).0 in
      let same : 1 ≡ n = depth_one blocks (IsHeldView k.hg) (table k blocks history) (apart k blocks history) (OfHg h) 1 n one depth in
      omega (arith, same, even))

  pub even-choice : IsChangesetView h → (c : CommitView) → UnmarksChangeset blocks (IsHeldView k.hg) h c → MeetsNone k blocks (OfHg h) → (n : ℕ) → n % 2 ≡ 0 → HasDepth blocks (IsHeldView k.hg) n (OfHg h) → n < depth_limit → IsChoice k blocks h (mark_commit blocks h)
  even-choice view c u clear n even depth less = record {
    partner = inl ((n, even, depth), even-paired c u n even depth, refl);
    bodies = marked-bodies blocks h view;
    over = marked-over k blocks h (mark_commit blocks h) refl;
    on_no_link = λ on. on.1 c u;
    apart = clear;
    not_deep = shallow n depth less;
  }

  -- and one without an unmarking has its marked commit
  pub alone-choice : IsChangesetView h → ((c : CommitView) → ¬ (UnmarksChangeset blocks (IsHeldView k.hg) h c)) → (is_link_parent blocks h.p || is_link_parent blocks h.q) ≡ false → IsChoice k blocks h (mark_commit blocks h)
  alone-choice view none no_link = record {
    partner = inl ((0, refl, bottom none), no-link-parents blocks h no_link, refl);
    bodies = marked-bodies blocks h view;
    over = marked-over k blocks h (mark_commit blocks h) refl;
    on_no_link = λ on. true≢false (sym on.0 ∙ no_link);
    apart = none-meets k blocks history (OfHg h) all;
    not_deep = shallow 0 (bottom none) (omega arith);
  }
    where
      all : (n : Member) → ¬ (Unmarks blocks (IsHeldView k.hg) (OfHg h) n)
      all (OfGit c) u = none c u
      all (OfHg g) u = u
