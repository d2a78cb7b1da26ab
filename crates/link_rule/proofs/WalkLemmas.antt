-- Steps of the walk through links.
use Rattle.std.proofs.Common.{◌≡◌, ◌&&◌, ℕ, suc, false, true≢false, List, [], ◌∷◌, ◌++◌, refl, sym, ap, subst, ◌∙◌}
use Rattle.text_model.specs.Id.{Id}
use Rattle.text_model.proofs.Options.{some_is}
use Rattle.hg_model.specs.Changeset.{Changeset, IsChangesetText}
use Rattle.hg_model.specs.Revision.{Revision}
use Rattle.hg_model.proofs.ChangesetLemmas.{one_changeset}
use Rattle.hg_store.specs.Views.{IsChangesetOf}
use Rattle.pair_model.specs.Octopus.{is_link}
use Rattle.partner_model.specs.Filled.{is_numbered, Walks}
use Rattle.link_rule.specs.Walk.{IsLinkAt}

module _ (known : List Revision) (n : ℕ) where
  -- a changeset that isn't the link, though it is known
  pub no-link : (k : ℕ) (node p q : Id) (x : Changeset) → IsChangesetOf known node p q x → false ≡ (is_link x p q && is_numbered k n x.date) → (parents : Id × Id) → IsLinkAt known n k node parents → ⊥
  no-link k node p q x of other parents at =
      let same : at.revision ≡ of.revision = some_is (sym at.is_held ∙ of.is_held) in
      let fields : at.fields ≡ x = one_changeset of.revision.text at.fields x (subst (λ (r : Revision). IsChangesetText r.text at.fields) same at.text) of.fields in
      let first : (at.revision).p ≡ p = ap (λ (r : Revision). r.p) same ∙ sym of.first in
      let second : (at.revision).q ≡ q = ap (λ (r : Revision). r.q) same ∙ sym of.second in
      true≢false (sym at.link ∙ (λ i. is_link (fields i) (first i) (second i) && is_numbered k n (fields i).date) ∙ sym other)

  -- the ids of a walk of no links
  pub walks-none : (node : Id) → Walks known n 0 node (node ∷ [])
  unfolding Walks
  walks-none node = refl

  -- one link more
  walks-next : (k : ℕ) (node p q : Id) (front : List Id) → IsLinkAt known n (suc k) node (p, q) → Walks known n k p front → Walks known n (suc k) node (front ++ q ∷ [])
  unfolding Walks
  walks-next k node p q front at rest =
      let first : p ≡ (at.revision).p = ap (λ (x : Id × Id). x.0) at.are in
      let second : q ≡ (at.revision).q = ap (λ (x : Id × Id). x.1) at.are in
      (at.revision, at.is_held, at.fields, at.text, at.link, front, subst (λ (x : Id). Walks known n k x front) first rest, ap (λ (x : Id). front ++ x ∷ []) second)

  pub record IsStep (k : ℕ) (node : Id) : Type 0 where
    pub parents : Id × Id
    pub at : IsLinkAt known n (suc k) node parents
    pub front : List Id
    pub rest : Walks known n k parents.0 front

  walks-back : (k : ℕ) (node : Id) (ids : List Id) → Walks known n (suc k) node ids → IsStep k node
  unfolding Walks
  walks-back k node ids h = record { parents = ((h.0).p, (h.0).q); at = record { revision = h.0; is_held = h.1; fields = h.2; text = h.3; link = h.4; are = refl }; front = h.5; rest = h.6 }

  one-parents : (k : ℕ) (node : Id) (a b : Id × Id) → IsLinkAt known n k node a → IsLinkAt known n k node b → a ≡ b
  one-parents k node a b h j = h.are ∙ ap (λ (r : Revision). (r.p, r.q)) (some_is (sym h.is_held ∙ j.is_held)) ∙ sym j.are

  module _ (m k : ℕ) (is : m ≡ suc k) (node : Id) where
    pub next : (p q : Id) (front : List Id) → IsLinkAt known n m node (p, q) → Walks known n k p front → Walks known n m node (front ++ q ∷ [])
    next p q front at rest =
        subst (λ (j : ℕ). Walks known n j node (front ++ q ∷ [])) (sym is) (walks-next k node p q front (subst (λ (j : ℕ). IsLinkAt known n j node (p, q)) is at) rest)

    pub none-here : ((parents : Id × Id) → IsLinkAt known n m node parents → ⊥) → (ids : List Id) → Walks known n m node ids → ⊥
    none-here none ids walks =
        let step = walks-back k node ids (subst (λ (j : ℕ). Walks known n j node ids) is walks) in
        none step.parents (subst (λ (j : ℕ). IsLinkAt known n j node step.parents) (sym is) step.at)

    pub none-before : (p q : Id) → IsLinkAt known n m node (p, q) → ((ids : List Id) → Walks known n k p ids → ⊥) → (ids : List Id) → Walks known n m node ids → ⊥
    none-before p q at none ids walks =
        let step = walks-back k node ids (subst (λ (j : ℕ). Walks known n j node ids) is walks) in
        let same : step.parents ≡ (p, q) = one-parents (suc k) node step.parents (p, q) step.at (subst (λ (j : ℕ). IsLinkAt known n j node (p, q)) is at) in
        none step.front (subst (λ (x : Id × Id). Walks known n k x.0 step.front) same step.rest)
