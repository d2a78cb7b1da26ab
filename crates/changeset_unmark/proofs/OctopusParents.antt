-- The partners of the parents to which a changeset's links lead.
use Rattle.std.proofs.Common.{◌≡◌, ◌≢◌, ◌≤◌, ◌-◌, ℕ, Bool, true, false, List, [], ◌∷◌, ◌++◌, length, length-append, map, Option, Some, None, refl, sym, ap, subst, ◌∙◌, arith}
use Rattle.std.specs.Prelude.{IsTrue, MatchOption, nat_le, if◌then◌else◌}
use Rattle.std.proofs.lemmas.Bool.{false_from_ne_true}
use Rattle.std.proofs.lemmas.List.{length-map}
use Rattle.text_model.specs.Lists.{Each}
use Rattle.text_model.specs.Id.{Id, IsId, null, is_null}
use Rattle.text_model.proofs.EachLemmas.{Each-append}
use Rattle.text_model.proofs.Options.{none_some, some_is}
use Rattle.git_model.specs.Tree.{has_distinct}
use Rattle.hg_model.specs.Revision.{Revision}
use Rattle.hg_store.specs.Known.{AreAdded}
use Rattle.view_model.specs.View.{ChangesetView, CommitView, changeset_node, commit_id}
use Rattle.pair_model.specs.Block.{Block, changesets_in, view_or_none, git_partner, hg_partner, not_null}
use Rattle.pair_model.specs.MarkList.{ChangesetMarks}
use Rattle.pair_model.specs.Octopus.{links_by, links_of, partners_of_parents, parents_of_commit, first_of, last_id}
use Rattle.partner_model.specs.Filled.{HasMarks, Walks}
use Rattle.partner_model.specs.Partner.{UnmarksChangeset, IsHeldView, IsKnownAs}
use Rattle.pair_known.specs.declared.known.Known.{Known}
use Rattle.pair_known.specs.declared.hg_draft.HgDraft.{HgDraft}
use Rattle.pair_known.specs.Over.{IsChangesetIn}
use Rattle.pair_known.proofs.PartnerLemmas.{partners-of-pairs, IsId-commit_id}
use Rattle.unmark_law.proofs.Tables.{HasNode, HasId, git_has, hg_has, hg_git, git_hg, each_map, map_back, eq_true}
use Rattle.unmark_law.proofs.ChangesetOne.{q_is, there}
use Rattle.commit_rule.specs.Parts.{partners_at}
use Rattle.changeset_unmark.specs.Parents.{HavePartners}
use Rattle.changeset_unmark.specs.Over.{LeadsTo, IsOctopusOver}
use Rattle.changeset_unmark.specs.Named.{count_of}
use Rattle.changeset_unmark.proofs.Built.{p_over}
use Rattle.changeset_unmark.proofs.Found.{count_is}
use Rattle.changeset_unmark.proofs.LinkWalk.{one-walk, LeadsOn, leads-on, walk-some-nodes, walk-length, walk-known, last-put}
use Rattle.changeset_unmark.proofs.OctopusOver.{each-last, second-last}
use Rattle.commit_rule.proofs.Tables.{table}
use Rattle.changeset_unmark.proofs.TwoParents.{have-nodes, nodes-have}

keeps : (xs : List Id) → Each (λ x. is_null x ≡ false) xs → not_null xs ≡ xs
keeps [] h = refl
keeps (x ∷ xs) h = rw (h.0) (ap (λ (l : List Id). x ∷ l) (keeps xs h.1))

not-null : (xs : List Id) → Each (λ x. x ≢ null) xs → Each (λ x. is_null x ≡ false) xs
not-null [] h = tt
not-null (x ∷ xs) h = (false_from_ne_true (is_null x) (λ e. h.0 (eq_true x null e)), not-null xs h.1)

count-some : (ids : List Id) (n : ℕ) → count_of ids ≡ Some n → length ids ≡ n
count-some ids n e = by (nat_le (length ids) 2) e
  where
    by : (t : Bool) → (if t then None else Some (length ids)) ≡ Some n → length ids ≡ n
    by true k = absurd (none_some k)
    by false k = some_is k

leads-by : (known : List Revision) → AreAdded known → (blocks : List Block) (id : Id) → IsId id → (n : ℕ) → 3 ≤ n → n ≤ 64 → (nodes : List Id) → length nodes ≡ n → Each (λ x. is_null x ≡ false) nodes
    → Each (IsKnownAs (IsHeldView known)) (links_by blocks id n nodes) → LeadsOn known n (last_id (first_of nodes ∷ map changeset_node (links_by blocks id n nodes))) nodes
leads-by known added blocks id is n least most [] count some all = absurd (omega (arith, count))
leads-by known added blocks id is n least most (x ∷ rest) count some all = leads-on known added id is (view_or_none (changesets_in blocks) x) n least most x rest some.0 some.1 all (omega (arith, count))

module _ (k : Known) (added : AreAdded k.hg) (blocks : List Block) (d : HgDraft) (v : ChangesetView) (inside : IsChangesetIn k blocks d v) (n : ℕ) (least : 3 ≤ n) (most : n ≤ 64) where
  -- the links lead to one list
  pub leads-one : (xs ys : List Id) → LeadsTo k.hg n d.p1 d.p2 xs → LeadsTo k.hg n d.p1 d.p2 ys → xs ≡ ys
  leads-one xs ys a b = a.3 ∙ ap (λ (ids : List Id). ids ++ d.p2 ∷ []) (one-walk k.hg n (n - 2) d.p1 a.1 b.1 a.2 b.2) ∙ sym b.3

  leads-some : (nodes : List Id) → LeadsTo k.hg n d.p1 d.p2 nodes → Each (λ x. is_null x ≡ false) nodes
  leads-some nodes a =
      let known = walk-known k.hg added n (n - 2) d.p1 a.1 (omega arith) a.2 in
      subst (Each (λ x. is_null x ≡ false)) (sym a.3) (Each-append (λ x. is_null x ≡ false) a.1 (d.p2 ∷ []) (walk-some-nodes k.hg n (n - 2) d.p1 a.1 known a.2) (a.0, tt))

  leads-count : (nodes : List Id) → LeadsTo k.hg n d.p1 d.p2 nodes → length nodes ≡ n
  leads-count nodes a = let count = walk-length k.hg n (n - 2) d.p1 a.1 a.2 in omega (arith, ap length a.3, length-append a.1 (d.p2 ∷ []), count)

  ids-of : (nodes : List Id) → LeadsTo k.hg n d.p1 d.p2 nodes → (ids : List Id) → ids ≡ partners_at k.partners nodes → ids ≡ map (git_partner blocks) nodes
  ids-of nodes a ids are = are ∙ partners-of-pairs k.partners blocks nodes inside.history.held.partners ∙ ap (map (git_partner blocks)) (keeps nodes (leads-some nodes a))

  pub ids-count : (nodes : List Id) → LeadsTo k.hg n d.p1 d.p2 nodes → (ids : List Id) → ids ≡ partners_at k.partners nodes → length ids ≡ n
  ids-count nodes a ids are = ap length (ids-of nodes a ids are) ∙ length-map nodes (git_partner blocks) ∙ leads-count nodes a

  pub octopus-over : (nodes : List Id) → LeadsTo k.hg n d.p1 d.p2 nodes → HavePartners k.partners nodes → (ids : List Id) → ids ≡ partners_at k.partners nodes → IsTrue (has_distinct ids) → IsOctopusOver k blocks d v ids nodes
  octopus-over nodes a have ids are distinct =
      let t = table k blocks inside.history in
      let own : ids ≡ map (git_partner blocks) nodes = ids-of nodes a ids are in
      let kept = keeps nodes (leads-some nodes a) in
      let each : Each (HasNode blocks) nodes = subst (Each (HasNode blocks)) kept (have-nodes k.partners blocks inside.history.held.partners nodes have) in
      let count = ids-count nodes a ids are in
      record {
        inside = inside;
        paired = subst (Each (HasId blocks)) (sym own) (each_map (git_partner blocks) (HasNode blocks) (HasId blocks) (git_has blocks) nodes each);
        distinct = distinct;
        least = omega (arith, count);
        most = omega (arith, count);
        nodes_are = sym (ap (map (hg_partner blocks)) own ∙ map_back (git_partner blocks) (hg_partner blocks) (HasNode blocks) (hg_git blocks t) nodes each);
        second = inside.draft.parents.1 ∙ sym (ap last_id a.3 ∙ last-put a.1 d.p2);
        there = ap is_null inside.draft.parents.0 ∙ walk-known k.hg added n (n - 2) d.p1 a.1 (omega arith) a.2;
      }

  -- an unmarking has the parents to which the links lead
  module _ (m : ChangesetMarks) (date : HasMarks v m) (many : m.parents ≡ Some n) (c : CommitView) (u : UnmarksChangeset blocks (IsHeldView k.hg) v c) where
    count : length (c.value).parents ≡ n
    count = count-some (c.value).parents n (count_is blocks (IsHeldView k.hg) v inside.view m date c u ∙ many)

    pub unmarked-leads : LeadsTo k.hg n d.p1 d.p2 (partners_of_parents blocks c)
    unfolding links_of parents_of_commit
    unmarked-leads =
        let nodes = partners_of_parents blocks c in
        let long : length (partners_of_parents blocks c) ≡ n = length-map (c.value).parents (hg_partner blocks) ∙ count in
        let some : Each (λ x. is_null x ≡ false) (partners_of_parents blocks c) = not-null nodes (there blocks (table k blocks inside.history) (c.value).parents u.paired) in
        let all : Each (IsKnownAs (IsHeldView k.hg)) (links_by blocks (commit_id c) n (partners_of_parents blocks c)) = subst (λ (i : ℕ). Each (IsKnownAs (IsHeldView k.hg)) (links_by blocks (commit_id c) i (partners_of_parents blocks c))) count u.walked in
        let on = leads-by k.hg added blocks (commit_id c) (IsId-commit_id c) n least most nodes long some all in
        let first : last_id (first_of (partners_of_parents blocks c) ∷ map changeset_node (links_by blocks (commit_id c) n (partners_of_parents blocks c))) ≡ d.p1 =
        ap (λ (i : ℕ). last_id (first_of (partners_of_parents blocks c) ∷ map changeset_node (links_by blocks (commit_id c) i (partners_of_parents blocks c)))) (sym count) ∙ sym (p_over blocks c) ∙ (u.marked).p ∙ inside.draft.parents.0 in
        let last : last_id (partners_of_parents blocks c) ≡ d.p2 = sym (second-last nodes (omega (arith, long))) ∙ sym (q_is blocks c) ∙ (u.marked).q ∙ inside.draft.parents.1 in (
          ap is_null (sym last) ∙ each-last (λ x. is_null x ≡ false) nodes some (omega (arith, long)),
          on.ids,
          subst (λ (x : Id). Walks k.hg n (n - 2) x on.ids) first on.walk,
          on.are ∙ ap (λ (x : Id). on.ids ++ x ∷ []) last,
        )

    pub unmarked-have : (nodes : List Id) → LeadsTo k.hg n d.p1 d.p2 nodes → HavePartners k.partners nodes
    unmarked-have nodes a =
        let same = leads-one (partners_of_parents blocks c) nodes unmarked-leads a in
        nodes-have k.partners blocks inside.history.held.partners nodes (subst (Each (HasNode blocks)) (same ∙ sym (keeps nodes (leads-some nodes a))) (each_map (hg_partner blocks) (HasId blocks) (HasNode blocks) (hg_has blocks) (c.value).parents u.paired))

    pub unmarked-ids : (nodes : List Id) → LeadsTo k.hg n d.p1 d.p2 nodes → (ids : List Id) → ids ≡ partners_at k.partners nodes → (c.value).parents ≡ ids
    unmarked-ids nodes a ids are =
        let same = leads-one (partners_of_parents blocks c) nodes unmarked-leads a in
        sym (ids-of nodes a ids are ∙ ap (map (git_partner blocks)) (sym same) ∙ map_back (hg_partner blocks) (git_partner blocks) (HasId blocks) (git_hg blocks (table k blocks inside.history)) (c.value).parents u.paired)

-- ---- what is found, or not

pub leads-none : (known : List Revision) (n : ℕ) (p q : Id) (o : Option (List Id)) → o ≡ None → MatchOption o ((nodes : List Id) → ¬ (LeadsTo known n p q nodes)) (LeadsTo known n p q) → (nodes : List Id) → ¬ (LeadsTo known n p q nodes)
leads-none known n p q o e h = subst (λ (x : Option (List Id)). MatchOption x ((nodes : List Id) → ¬ (LeadsTo known n p q nodes)) (LeadsTo known n p q)) e h

pub leads-found : (known : List Revision) (n : ℕ) (p q : Id) (o : Option (List Id)) (nodes : List Id) → o ≡ Some nodes → MatchOption o ((xs : List Id) → ¬ (LeadsTo known n p q xs)) (LeadsTo known n p q) → LeadsTo known n p q nodes
leads-found known n p q o nodes e h = subst (λ (x : Option (List Id)). MatchOption x ((xs : List Id) → ¬ (LeadsTo known n p q xs)) (LeadsTo known n p q)) e h
