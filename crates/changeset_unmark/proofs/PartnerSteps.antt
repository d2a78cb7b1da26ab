-- The partners of one node more.
use Rattle.std.proofs.Common.{◌≡◌, ◌+◌, ◌++◌, ℕ, zero, suc, Bool, true, false, List, [], ◌∷◌, map, take, Option, Some, None, refl, sym, ap, subst, ◌∙◌}
use Rattle.std.specs.Prelude.{IsTrue, is_some, not, slice_get, unwrap_or, MatchOption}
use Rattle.text_model.specs.Lists.{Each}
use Rattle.text_model.specs.Id.{Id, null, is_null}
use Rattle.text_model.proofs.EachLemmas.{Each-append}
use Rattle.text_model.proofs.Elements.{take_push, map_append}
use Rattle.text_model.proofs.Options.{none_some, some_is}
use Rattle.git_model.proofs.ResidueLemmas.{filter_append}
use Rattle.pair_model.specs.Block.{not_null}
use Rattle.pair_known.specs.Partners.{git_at}
use Rattle.commit_rule.specs.Parts.{partners_at}
use Rattle.changeset_unmark.specs.Parents.{HavePartners}

nodes-more : (nodes : List Id) (i : ℕ) (x : Id) → slice_get nodes i ≡ Some x → not_null (take (i + 1) nodes) ≡ not_null (take i nodes) ++ not_null (x ∷ [])
nodes-more nodes i x at = ap not_null (take_push nodes i x at) ∙ filter_append (λ (id : Id). not (is_null id)) (take i nodes) (x ∷ [])

pub have-more : (pairs : List (Id × Id)) (nodes : List Id) (i : ℕ) (x : Id) → slice_get nodes i ≡ Some x → HavePartners pairs (take i nodes) → HavePartners pairs (x ∷ []) → HavePartners pairs (take (i + 1) nodes)
have-more pairs nodes i x at front one =
    subst (Each (λ node. IsTrue (is_some (git_at pairs node)))) (sym (nodes-more nodes i x at))
    (Each-append (λ node. IsTrue (is_some (git_at pairs node))) (not_null (take i nodes)) (not_null (x ∷ [])) front one)

pub partners-more : (pairs : List (Id × Id)) (nodes : List Id) (i : ℕ) (x : Id) → slice_get nodes i ≡ Some x → partners_at pairs (take (i + 1) nodes) ≡ partners_at pairs (take i nodes) ++ partners_at pairs (x ∷ [])
partners-more pairs nodes i x at =
    ap (map (λ node. unwrap_or (git_at pairs node) null)) (nodes-more nodes i x at)
    ∙ map_append (λ node. unwrap_or (git_at pairs node) null) (not_null (take i nodes)) (not_null (x ∷ []))

pub have-at : (pairs : List (Id × Id)) (nodes : List Id) (i : ℕ) (x : Id) → slice_get nodes i ≡ Some x → HavePartners pairs nodes → HavePartners pairs (x ∷ [])
have-at pairs nodes i x at h = by nodes i at h
  where
    by : (nodes : List Id) (i : ℕ) → slice_get nodes i ≡ Some x → HavePartners pairs nodes → HavePartners pairs (x ∷ [])
    by [] i at h = absurd (none_some at)
    by (y ∷ ys) zero at h = subst (λ (z : Id). HavePartners pairs (z ∷ [])) (some_is at) (front (is_null y) refl h)
      where
        front : (t : Bool) → is_null y ≡ t → HavePartners pairs (y ∷ ys) → HavePartners pairs (y ∷ [])
        front true e k = rw e tt
        front false e k = let g = rw e at k in rw e (g.0, tt)
    by (y ∷ ys) (suc j) at h = by ys j at (rest (is_null y) refl h)
      where
        rest : (t : Bool) → is_null y ≡ t → HavePartners pairs (y ∷ ys) → HavePartners pairs ys
        rest true e k = rw e at k
        rest false e k = let g = rw e at k in g.1

-- ---- what is found, or not

pub partners_none : (pairs : List (Id × Id)) (nodes : List Id) (o : Option (List Id)) → o ≡ None → MatchOption o (¬ (HavePartners pairs nodes)) (λ (ids : List Id). HavePartners pairs nodes × (ids ≡ partners_at pairs nodes)) → ¬ (HavePartners pairs nodes)
partners_none pairs nodes o e h = subst (λ (x : Option (List Id)). MatchOption x (¬ (HavePartners pairs nodes)) (λ (ids : List Id). HavePartners pairs nodes × (ids ≡ partners_at pairs nodes))) e h

pub partners_some : (pairs : List (Id × Id)) (nodes : List Id) (o : Option (List Id)) (ids : List Id) → o ≡ Some ids → MatchOption o (¬ (HavePartners pairs nodes)) (λ (xs : List Id). HavePartners pairs nodes × (xs ≡ partners_at pairs nodes))
    → HavePartners pairs nodes × (ids ≡ partners_at pairs nodes)
partners_some pairs nodes o ids e h = subst (λ (x : Option (List Id)). MatchOption x (¬ (HavePartners pairs nodes)) (λ (xs : List Id). HavePartners pairs nodes × (xs ≡ partners_at pairs nodes))) e h
