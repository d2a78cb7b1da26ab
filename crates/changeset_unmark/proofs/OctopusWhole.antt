-- What is found over the partners to which links lead says all of an unmarking.
use Rattle.std.proofs.Common.{◌≡◌, ◌≤◌, Bool, true, false, true≢false, List, length, Option, Some, None, refl, sym, ap, subst, ◌∙◌, arith}
use Rattle.std.specs.Prelude.{◌↔◌, IsTrue, MatchOption, nat_le, slice_get, if◌then◌else◌}
use Rattle.std.proofs.lemmas.Bool.{leb-true}
use Rattle.text_model.specs.Id.{Id, object_id, commit}
use Rattle.git_model.specs.Commit.{Commit, commit_text}
use Rattle.git_store.specs.Known.{AreKnown}
use Rattle.hg_store.specs.Known.{AreAdded}
use Rattle.view_model.specs.View.{ChangesetView, CommitView}
use Rattle.hg_model.specs.Changeset.{Changeset}
use Rattle.hg_changeset.specs.Values.{changeset_value}
use Rattle.pair_model.specs.Block.{Block, Parents, block_of_node}
use Rattle.pair_model.specs.MarkList.{ChangesetMarks}
use Rattle.pair_model.specs.Octopus.{links_of, parents_of_commit}
use Rattle.partner_model.specs.Partner.{UnmarksChangeset, IsHeldView}
use Rattle.pair_known.specs.declared.known.Known.{Known}
use Rattle.pair_known.specs.declared.hg_draft.HgDraft.{HgDraft}
use Rattle.pair_known.specs.declared.git_draft.GitDraft.{GitDraft}
use Rattle.pair_known.specs.Ruled.{IsMadeCommit}
use Rattle.file_rule.specs.Parents.{IsParent, IsParentView}
use Rattle.file_rule.specs.declared.parents.Parent.{Parent}
use Rattle.commit_rule.specs.Parts.{AreShortBodies}
use Rattle.commit_rule.proofs.RuledLemmas.{some-old, asked-with}
use Rattle.link_rule.specs.Links.{links_along}
use Rattle.changeset_unmark.specs.Drafts.{IsBuiltCommit}
use Rattle.changeset_unmark.specs.Heads.{IsDateOf}
use Rattle.changeset_unmark.specs.Over.{IsNamedOver, IsOctopusOver}
use Rattle.changeset_unmark.specs.Named.{count_of, commit_named, IsNamed}
use Rattle.changeset_unmark.specs.Links.{AreLinksThere}
use Rattle.changeset_unmark.proofs.Built.{unmarks}
use Rattle.changeset_unmark.proofs.Found.{comes_back, is_named}
use Rattle.changeset_unmark.proofs.OverLemmas.{items-right}
use Rattle.changeset_unmark.proofs.OctopusOver.{named-alike, named-back, base, own, named-over, first-at-node, links-are, walked, alike, unmarked}
use Rattle.changeset_unmark.proofs.WholeLemmas.{OverAnswer, Answer}

many-count : (ids : List Id) → 3 ≤ length ids → count_of ids ≡ Some (length ids)
many-count ids h = by (nat_le (length ids) 2) refl
  where
    by : (t : Bool) → nat_le (length ids) 2 ≡ t → (if t then None else Some (length ids)) ≡ Some (length ids)
    by true e = absurd (omega (arith, leb-true (length ids) 2 e))
    by false e = refl

module _ (k : Known) (added : AreAdded k.hg) (blocks : List Block) (d : HgDraft) (v : ChangesetView) (ids nodes : List Id) (over : IsOctopusOver k blocks d v ids nodes)
    (m : ChangesetMarks) (dated : IsDateOf (changeset_value d.changeset).date m) (many : m.parents ≡ Some (length ids)) where
  date : IsDateOf (v.fields).date m
  date = subst (λ (x : Changeset). IsDateOf x.date m) (sym over.inside.draft.fields) dated

  came-back : (c : CommitView) → (c.value).parents ≡ ids → UnmarksChangeset blocks (IsHeldView k.hg) v c → IsNamed blocks ids (own k added blocks d v ids nodes over) v m
  came-back c same u =
      let named : IsNamed blocks ids (parents_of_commit blocks c) v m =
      subst (λ (xs : List Id). IsNamed blocks xs (parents_of_commit blocks c) v m) same (comes_back blocks (IsHeldView k.hg) v over.inside.view m date c u (parents_of_commit blocks c) refl) in
      named-alike blocks ids (parents_of_commit blocks c) (own k added blocks d v ids nodes over) v m
      (alike k added blocks d v ids nodes over c same (unmarked k added blocks d v ids nodes over c same u)) named

  -- what is answered over the parents, of which this is the first partner
  module _ (node : Id) (at : slice_get nodes 0 ≡ Some node) (found : Option GitDraft) (answers : (ps : Parents) → IsNamedOver k blocks d v ids node ps → OverAnswer k blocks v ids ps m found) where
    named : IsNamedOver k blocks d v ids node (own k added blocks d v ids nodes over)
    named = named-over k added blocks d v ids nodes over node at

    answer-is : (o : Option GitDraft) → found ≡ o → OverAnswer k blocks v ids (own k added blocks d v ids nodes over) m o
    answer-is o is = subst (λ (x : Option GitDraft). OverAnswer k blocks v ids (own k added blocks d v ids nodes over) m x) is (answers (own k added blocks d v ids nodes over) named)

    pub octopus-none : found ≡ None → (c : CommitView) → (c.value).parents ≡ ids → ¬ (UnmarksChangeset blocks (IsHeldView k.hg) v c)
    octopus-none is c same = λ u. answer-is None is (came-back c same u)

    -- whether the links of a commit that is found are there
    module _ (made : GitDraft) (is : found ≡ Some made) (parent : Parent) (views : (first : ChangesetView) → IsParentView k.hg node first → IsParent k.hg parent first) (t : Bool) (xs : List Id) (are-nodes : xs ≡ nodes)
        (tests : (first : ChangesetView) → (first.fields).manifest ≡ parent.manifest_node → IsTrue t ↔ AreLinksThere k.hg d.p1 (links_along (object_id commit (commit_text made.commit)) first (length xs) xs)) where
      abbrev links : Commit → List ChangesetView
      links x = links_along (object_id commit (commit_text x)) (base k added blocks d v ids nodes over) (length nodes) nodes

      some : IsNamed blocks ids (own k added blocks d v ids nodes over) v m × IsBuiltCommit k.git made (commit_named blocks ids v m) × (AreShortBodies v.rows → IsMadeCommit k.git made (commit_named blocks ids v m))
      some = answer-is (Some made) is

      test : IsTrue t ↔ AreLinksThere k.hg d.p1 (links made.commit)
      test =
          subst (λ (ys : List Id). IsTrue t ↔ AreLinksThere k.hg d.p1 (links_along (object_id commit (commit_text made.commit)) (base k added blocks d v ids nodes over) (length ys) ys)) are-nodes
          (tests (base k added blocks d v ids nodes over) (views (base k added blocks d v ids nodes over) (first-at-node k added blocks d v ids nodes over node at)).node)

      -- the links are those of the commit
      same-links : (c : CommitView) → (c.value).parents ≡ ids → c.value ≡ made.commit → AreLinksThere k.hg v.p (links_of blocks c) ≡ AreLinksThere k.hg d.p1 (links made.commit)
      same-links c same same-value =
          (λ i. AreLinksThere k.hg (over.inside.draft.parents.0 i) (links-are k added blocks d v ids nodes over c same i)) ∙ (λ i. AreLinksThere k.hg d.p1 (links (same-value i)))

      pub octopus-apart : t ≡ false → (c : CommitView) → (c.value).parents ≡ ids → ¬ (UnmarksChangeset blocks (IsHeldView k.hg) v c)
      octopus-apart isnt c same = λ u.
          let it : c ≡ commit_named blocks ids v m = is_named blocks (IsHeldView k.hg) v over.inside.view m date c u ∙ ap (λ (ys : List Id). commit_named blocks ys v m) same in
          let there = unmarked k added blocks d v ids nodes over c same u in
          true≢false (sym (test.1 (subst (λ (X : Type 0). X) (same-links c same (ap (λ (x : CommitView). x.value) it ∙ some.1.value)) there)) ∙ isnt)

      pub octopus-some : ((b : Block) → block_of_node blocks node ≡ Some b → AreKnown k.git) → t ≡ true → (c : CommitView) × UnmarksChangeset blocks (IsHeldView k.hg) v c × IsBuiltCommit k.git made c × (AreShortBodies v.rows → IsMadeCommit k.git made c)
      octopus-some known on =
          let there = subst (λ (X : Type 0). X) (sym (same-links (commit_named blocks ids v m) refl some.1.value)) (test.0 on) in
          let same = alike k added blocks d v ids nodes over (commit_named blocks ids v m) refl there in
          let back = named-back blocks ids (parents_of_commit blocks (commit_named blocks ids v m)) (own k added blocks d v ids nodes over) v m same some.0 in
          let old = some-old blocks node in
          let fit = items-right k added blocks d v ids node (own k added blocks d v ids nodes over) named old.0 old.1 (asked-with k blocks node known old.0 old.1) m.tree date.3.tree some.0.residue.fit in (
            commit_named blocks ids v m,
            unmarks blocks (IsHeldView k.hg) v over.inside.view m date ids (parents_of_commit blocks (commit_named blocks ids v m)) fit refl same.p same.q over.paired over.most over.distinct
                (many-count ids over.least ∙ sym many) (walked k added blocks d v ids nodes over (commit_named blocks ids v m) refl there) back,
            some.1,
            some.2,
          )

-- what is answered over the parents is answered of the changeset, whose unmarking has no others
pub through-whole : (k : Known) (blocks : List Block) (v : ChangesetView) (ids : List Id) → ((c : CommitView) → UnmarksChangeset blocks (IsHeldView k.hg) v c → (c.value).parents ≡ ids) → (o : Option GitDraft)
    → MatchOption o ((c : CommitView) → (c.value).parents ≡ ids → ¬ (UnmarksChangeset blocks (IsHeldView k.hg) v c)) (λ d. (c : CommitView) × UnmarksChangeset blocks (IsHeldView k.hg) v c × IsBuiltCommit k.git d c × (AreShortBodies v.rows → IsMadeCommit k.git d c))
    → Answer k blocks v o
through-whole k blocks v ids only None h = λ c u. h c (only c u) u
through-whole k blocks v ids only (Some made) h = h
