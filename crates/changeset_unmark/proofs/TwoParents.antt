-- A changeset whose marks name no number of parents, over the partners of its own parents.
use Rattle.std.proofs.Common.{◌≡◌, ◌≤◌, Bool, true, false, true≢false, List, [], ◌∷◌, length, map, Option, Some, None, refl, sym, ap, subst, ◌∙◌, arith, leb-true}
use Rattle.std.specs.Prelude.{IsTrue, is_some, option_map, nat_le, if◌then◌else◌}
use Rattle.std.proofs.lemmas.List.{length-map}
use Rattle.std.proofs.lemmas.Slice.Eq.{bytes_eq-Decides}
use Rattle.std.proofs.lemmas.Bool.{leb-false}
use Rattle.text_model.specs.Lists.{Each}
use Rattle.text_model.specs.Id.{Id, null, is_null}
use Rattle.text_model.proofs.EachLemmas.{Each-weaker}
use Rattle.git_model.specs.Tree.{has_distinct}
use Rattle.hg_store.specs.Known.{AreAdded}
use Rattle.view_model.specs.View.{ChangesetView, CommitView}
use Rattle.pair_model.specs.Block.{Block, id_of, changesets_in, view_or_none, block_of_node, git_partner, hg_partner, not_null, parents_among}
use Rattle.pair_model.specs.MarkList.{ChangesetMarks}
use Rattle.pair_model.specs.Octopus.{links_of, partners_of_parents, parents_of_commit, first_of, second_of}
use Rattle.partner_model.specs.Mark.{parents_of_changeset}
use Rattle.partner_model.specs.Partner.{UnmarksChangeset}
use Rattle.partner_model.specs.Filled.{HasMarks}
use Rattle.partner_model.specs.Table.{IsTable}
use Rattle.pair_known.specs.Over.{IsChangesetIn}
use Rattle.pair_known.specs.Partners.{ArePartners, git_at}
use Rattle.pair_known.specs.declared.known.Known.{Known}
use Rattle.pair_known.specs.declared.hg_draft.HgDraft.{HgDraft}
use Rattle.pair_known.proofs.PartnerLemmas.{pairs_of, git-pairs, partners-of-pairs, distinct-partners, chosen}
use Rattle.unmark_law.proofs.Tables.{HasNode, HasId, git_has, hg_has, hg_git, git_hg, each_map, map_back, eq_true}
use Rattle.unmark_law.proofs.ChangesetOne.{q_is, there}
use Rattle.depth_law.proofs.Back.{links_none}
use Rattle.depth_law.proofs.PlainChangeset.{nodes_back, first_is, over_is}
use Rattle.plain_rule.proofs.BlockLemmas.{parent-view, among-first, among-second}
use Rattle.file_rule.specs.Parents.{IsParentView}
use Rattle.commit_rule.specs.Parts.{partners_at}
use Rattle.commit_rule.proofs.Tables.{table}
use Rattle.changeset_unmark.specs.Parents.{HavePartners}
use Rattle.changeset_unmark.specs.Over.{IsNamedOver}
use Rattle.changeset_unmark.specs.Named.{count_of}
use Rattle.changeset_unmark.proofs.Found.{count_is}

-- ---- partners

same-some : (pairs : List (Id × Id)) (blocks : List Block) → pairs ≡ pairs_of blocks → (node : Id) → is_some (git_at pairs node) ≡ is_some (block_of_node blocks node)
same-some pairs blocks e node = (λ i. is_some (git_at (e i) node)) ∙ ap is_some (git-pairs blocks node) ∙ mapped (block_of_node blocks node)
  where
    mapped : (o : Option Block) → is_some (option_map id_of o) ≡ is_some o
    mapped None = refl
    mapped (Some b) = refl

pub have-nodes : (pairs : List (Id × Id)) (blocks : List Block) → pairs ≡ pairs_of blocks → (nodes : List Id) → HavePartners pairs nodes → Each (HasNode blocks) (not_null nodes)
have-nodes pairs blocks e nodes h = Each-weaker (λ node. IsTrue (is_some (git_at pairs node))) (HasNode blocks) (λ node k. sym (same-some pairs blocks e node) ∙ k) (not_null nodes) h

pub nodes-have : (pairs : List (Id × Id)) (blocks : List Block) → pairs ≡ pairs_of blocks → (nodes : List Id) → Each (HasNode blocks) (not_null nodes) → HavePartners pairs nodes
nodes-have pairs blocks e nodes h = Each-weaker (HasNode blocks) (λ node. IsTrue (is_some (git_at pairs node))) (λ node k. same-some pairs blocks e node ∙ k) (not_null nodes) h

first-again : (p q : Id) → (p ≡ null → q ≡ null) → first_of (not_null (p ∷ q ∷ [])) ≡ p
first-again p q f = by (is_null p) (is_null q) refl refl
  where
    by : (s t : Bool) → is_null p ≡ s → is_null q ≡ t → first_of (not_null (p ∷ q ∷ [])) ≡ p
    by true true e g = rw (e, g) (sym (eq_true p null e))
    by true false e g = absurd (true≢false (sym ((bytes_eq-Decides q null).1 (f (eq_true p null e))) ∙ g))
    by false t e g = rw e refl

second-again : (p q : Id) → (p ≡ null → q ≡ null) → second_of (not_null (p ∷ q ∷ [])) ≡ q
second-again p q f = by (is_null p) (is_null q) refl refl
  where
    by : (s t : Bool) → is_null p ≡ s → is_null q ≡ t → second_of (not_null (p ∷ q ∷ [])) ≡ q
    by true true e g = rw (e, g) (sym (eq_true q null g))
    by true false e g = absurd (true≢false (sym ((bytes_eq-Decides q null).1 (f (eq_true p null e))) ∙ g))
    by false true e g = rw (e, g) (sym (eq_true q null g))
    by false false e g = rw (e, g) refl

two-nodes : (p q : Id) → length (not_null (p ∷ q ∷ [])) ≤ 2
two-nodes p q = by (is_null p) (is_null q)
  where
    by : (s t : Bool) → length (chosen p q s t) ≤ 2
    by true true = omega arith
    by true false = omega arith
    by false true = omega arith
    by false false = omega arith

few-count : (ids : List Id) → length ids ≤ 2 → count_of ids ≡ None
few-count ids h = by (nat_le (length ids) 2) refl
  where
    by : (t : Bool) → nat_le (length ids) 2 ≡ t → (if t then None else Some (length ids)) ≡ None
    by true e = refl
    by false e = absurd (omega (arith, leb-false (length ids) 2 e))

count-few : (ids : List Id) → count_of ids ≡ None → length ids ≤ 2
count-few ids e = by (nat_le (length ids) 2) refl e
  where
    by : (t : Bool) → nat_le (length ids) 2 ≡ t → (if t then None else Some (length ids)) ≡ None → length ids ≤ 2
    by true f k = leb-true (length ids) 2 f
    by false f k = absurd cc

-- ---- the parents of the commit

module _ (k : Known) (added : AreAdded k.hg) (blocks : List Block) (d : HgDraft) (v : ChangesetView) (inside : IsChangesetIn k blocks d v) where
  t : IsTable blocks
  t = table k blocks inside.history

  pairs : k.partners ≡ pairs_of blocks
  pairs = inside.history.held.partners

  own-nodes : List Id
  own-nodes = not_null (v.p ∷ v.q ∷ [])

  draft-nodes : ◌≡◌ {A = List Id} (d.p1 ∷ d.p2 ∷ []) (v.p ∷ v.q ∷ [])
  draft-nodes = λ i. sym inside.draft.parents.0 i ∷ sym inside.draft.parents.1 i ∷ []

  -- each parent that is there has a partner
  module _ (have : HavePartners k.partners (d.p1 ∷ d.p2 ∷ [])) (ids : List Id) (ids-are : ids ≡ partners_at k.partners (d.p1 ∷ d.p2 ∷ [])) where
    nodes : Each (HasNode blocks) (not_null (v.p ∷ v.q ∷ []))
    nodes = have-nodes k.partners blocks pairs (v.p ∷ v.q ∷ []) (subst (HavePartners k.partners) draft-nodes have)

    ids-named : ids ≡ map (git_partner blocks) (not_null (v.p ∷ v.q ∷ []))
    ids-named = ids-are ∙ ap (partners_at k.partners) draft-nodes ∙ partners-of-pairs k.partners blocks (v.p ∷ v.q ∷ []) pairs

    few : length ids ≤ 2
    few = subst (λ (xs : List Id). length xs ≤ 2) (sym ids-named) (simp length-map (two-nodes v.p v.q))

    nodes-again : map (hg_partner blocks) ids ≡ not_null (v.p ∷ v.q ∷ [])
    nodes-again = ap (map (hg_partner blocks)) ids-named ∙ map_back (git_partner blocks) (hg_partner blocks) (HasNode blocks) (hg_git blocks t) (not_null (v.p ∷ v.q ∷ [])) nodes

    paired : Each (HasId blocks) ids
    paired = subst (Each (HasId blocks)) (sym ids-named) (each_map (git_partner blocks) (HasNode blocks) (HasId blocks) (git_has blocks) (not_null (v.p ∷ v.q ∷ [])) nodes)

    pub named-over : IsNamedOver k blocks d v ids d.p1 (parents_of_changeset blocks v)
    named-over =
        let first = parent-view k.hg added blocks inside.history.held.changesets v.p (among-first blocks v.p v.q nodes) in
        record {
          inside = inside;
          paired = paired;
          distinct = subst (λ (xs : List Id). has_distinct xs ≡ true) (sym ids-named)
              (distinct-partners blocks (subst ArePartners pairs inside.history.partners) v.p v.q nodes inside.view.distinct);
          few = omega (arith, few);
          node_is = sym inside.draft.parents.0 ∙ sym (first-again v.p v.q inside.view.first) ∙ ap first_of (sym nodes-again);
          base = view_or_none (changesets_in blocks) v.p;
          at_first = subst (λ (x : Id). IsParentView k.hg x (view_or_none (changesets_in blocks) v.p)) inside.draft.parents.0 first;
          at_second = parent-view k.hg added blocks inside.history.held.changesets v.q (among-second blocks v.p v.q nodes);
          like = record { node = refl; manifest = refl; rows = refl };
          null_first = ap is_null (sym inside.draft.parents.0);
          parents = (refl, refl);
        }

    pub no-count : count_of ids ≡ None
    no-count = few-count ids few

    module _ (c : CommitView) (parents-are : (c.value).parents ≡ ids) where
      partners-are : partners_of_parents blocks c ≡ not_null (v.p ∷ v.q ∷ [])
      partners-are = ap (map (hg_partner blocks)) parents-are ∙ nodes-again

      short : length (partners_of_parents blocks c) ≤ 2
      short = subst (λ (xs : List Id). length xs ≤ 2) (sym partners-are) (two-nodes v.p v.q)

      pub over-is : parents_of_commit blocks c ≡ parents_of_changeset blocks v
      over-is =
          over_is blocks c short ∙ (λ i. parents_among (changesets_in blocks) (first_of (partners-are i)) (second_of (partners-are i)))
          ∙ (λ i. parents_among (changesets_in blocks) (first-again v.p v.q inside.view.first i) (second-again v.p v.q inside.view.first i))

      pub no-links : links_of blocks c ≡ []
      no-links = links_none blocks c short

  -- an unmarking has these parents
  module _ (KnownView : ChangesetView → Type 0) (m : ChangesetMarks) (date : HasMarks v m) (none : m.parents ≡ None) (c : CommitView) (u : UnmarksChangeset blocks KnownView v c) where
    few-parents : length (partners_of_parents blocks c) ≤ 2
    few-parents = simp length-map (count-few (c.value).parents (count_is blocks KnownView v inside.view m date c u ∙ none))

    nodes-are : not_null (v.p ∷ v.q ∷ []) ≡ partners_of_parents blocks c
    nodes-are =
        (λ i. not_null ((sym (u.marked).p ∙ first_is blocks c few-parents) i ∷ (sym (u.marked).q ∙ q_is blocks c) i ∷ []))
        ∙ nodes_back (partners_of_parents blocks c) (there blocks t (c.value).parents u.paired) few-parents

    pub unmarked-have : HavePartners k.partners (d.p1 ∷ d.p2 ∷ [])
    unmarked-have =
        subst (HavePartners k.partners) (sym draft-nodes) (nodes-have k.partners blocks pairs (v.p ∷ v.q ∷ [])
        (subst (Each (HasNode blocks)) (sym nodes-are) (each_map (hg_partner blocks) (HasId blocks) (HasNode blocks) (hg_has blocks) (c.value).parents u.paired)))

    pub unmarked-parents : (ids : List Id) → ids ≡ partners_at k.partners (d.p1 ∷ d.p2 ∷ []) → (c.value).parents ≡ ids
    unmarked-parents ids are =
        sym (are ∙ ap (partners_at k.partners) draft-nodes ∙ partners-of-pairs k.partners blocks (v.p ∷ v.q ∷ []) pairs ∙ ap (map (git_partner blocks)) nodes-are
        ∙ map_back (hg_partner blocks) (git_partner blocks) (HasId blocks) (git_hg blocks t) (c.value).parents u.paired)
