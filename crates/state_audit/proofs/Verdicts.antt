-- What all blocks come to: the first that isn't right is one, and so is the id of the right commit.
use Rattle.std.proofs.Common.{◌≡◌, List, [], ◌∷◌, ◌++◌, refl, sym, ap, subst, ◌∙◌, inl, inr, append_assoc, append-nil}
use Rattle.text_model.specs.Id.{Id}
use Rattle.hg_model.specs.Revision.{Revision}
use Rattle.git_model.specs.Object.{Object}
use Rattle.view_model.specs.View.{SameCommit}
use Rattle.pair_model.specs.Block.{Block, id_of}
use Rattle.partner_model.specs.Partner.{OfHg, IsHeldView}
use Rattle.verify_model.specs.Holds.{HasPartner, IsRight, Holds, IsRightId, DiffersIn}
use Rattle.partner_law.proofs.Choices.{block_for_one}
use Rattle.frame_law.specs.Ground.{IsGround}
use Rattle.frame_law.proofs.Frame.{ground_table}
use Rattle.frame_law.proofs.Fronts.{ground_front, holds_at}

module _ (hg : List Revision) (git : List Object) where
  -- ---- a history that holds

  -- it doesn't differ
  pub holds-differs : (blocks : List Block) (kept right : Id) → Holds hg git [] blocks → DiffersIn hg git blocks kept right → ⊥
  holds-differs blocks kept right h d = d.wrong (holds_at hg git [] d.before d.block d.after (subst (Holds hg git []) d.split h))

  -- ---- the first block that isn't right

  record AreSame (before other : List Block) (b d : Block) : Type 0 where
    pub front : before ≡ other
    pub block : b ≡ d

  first-one : (seen before other : List Block) (b d : Block) (after rest : List Block) → before ++ b ∷ after ≡ other ++ d ∷ rest → Holds hg git seen before → Holds hg git seen other
      → (IsRight hg git (seen ++ before) b → ⊥) → (IsRight hg git (seen ++ other) d → ⊥) → AreSame before other b d
  unfolding Holds
  first-one seen [] [] b d after rest e h k wrong bad =
      let same : b ≡ d = cc in
      record { front = refl; block = same }
  first-one seen [] (x ∷ other) b d after rest e h k wrong bad =
      let same : b ≡ x = cc in
      absurd (wrong (subst (λ (bs : List Block). IsRight hg git bs b) (sym (append-nil seen)) (subst (IsRight hg git seen) (sym same) k.0)))
  first-one seen (x ∷ before) [] b d after rest e h k wrong bad =
      let same : x ≡ d = cc in
      absurd (bad (subst (λ (bs : List Block). IsRight hg git bs d) (sym (append-nil seen)) (subst (IsRight hg git seen) same h.0)))
  first-one seen (x ∷ before) (y ∷ other) b d after rest e h k wrong bad =
      let same : x ≡ y = cc in
      let more : before ++ b ∷ after ≡ other ++ d ∷ rest = cc in
      let s = first-one (seen ++ x ∷ []) before other b d after rest more h.1 (subst (λ (z : Block). Holds hg git (seen ++ z ∷ []) other) (sym same) k.1)
      (λ r. wrong (subst (λ (bs : List Block). IsRight hg git bs b) (append_assoc seen (x ∷ []) before) r))
      (λ r. bad (subst (λ (bs : List Block). IsRight hg git bs d) (append_assoc seen (y ∷ []) other) (subst (λ (z : Block). IsRight hg git ((seen ++ z ∷ []) ++ other) d) same r))) in
      record { front = (λ i. same i ∷ s.front i); block = s.block }

  -- ---- the right id

  module _ (front : List Block) (g : IsGround front (IsHeldView hg)) (b : Block) where
    one : (d x : Block) → HasPartner hg git front b.changeset d → HasPartner hg git front b.changeset x → d ≡ x
    one d x h k = block_for_one front (IsHeldView hg) (ground_table front (IsHeldView hg) g) g.apart (OfHg b.changeset) d x h.block k.block

    right-one : (i j : Id) → IsRightId hg git front b i → IsRightId hg git front b j → i ≡ j
    right-one i j (inl x) (inl y) = x.3 ∙ ap id_of (one x.0 y.0 x.1 y.1) ∙ sym y.3
    right-one i j (inl x) (inr (inl y)) = absurd (x.2 (subst (λ (d : Block). SameCommit b.commit d.commit) (one y.0 x.0 y.1 x.1) y.2))
    right-one i j (inl x) (inr (inr y)) = absurd (y.0 x.0 x.1)
    right-one i j (inr (inl x)) (inl y) = absurd (y.2 (subst (λ (d : Block). SameCommit b.commit d.commit) (one x.0 y.0 x.1 y.1) x.2))
    right-one i j (inr (inl x)) (inr (inl y)) = x.3 ∙ sym y.3
    right-one i j (inr (inl x)) (inr (inr y)) = x.3 ∙ sym y.1
    right-one i j (inr (inr x)) (inl y) = absurd (x.0 y.0 y.1)
    right-one i j (inr (inr x)) (inr (inl y)) = x.1 ∙ sym y.3
    right-one i j (inr (inr x)) (inr (inr y)) = x.1 ∙ sym y.1

  pub differs-one : (blocks : List Block) → IsGround blocks (IsHeldView hg) → (kept right other id : Id) → DiffersIn hg git blocks kept right → DiffersIn hg git blocks other id → (kept ≡ other) × (right ≡ id)
  differs-one blocks g kept right other id x y =
      let s = first-one [] x.before y.before x.block y.block x.after y.after (sym x.split ∙ y.split) x.hold y.hold x.wrong y.wrong in
      let here = ground_front x.before (x.block ∷ x.after) (IsHeldView hg) (subst (λ (bs : List Block). IsGround bs (IsHeldView hg)) x.split g) in
      let same : IsRightId hg git x.before x.block id = subst (λ (b : Block). IsRightId hg git x.before b id) (sym s.block) (subst (λ (bs : List Block). IsRightId hg git bs y.block id) (sym s.front) y.right_is) in
      (x.kept_is ∙ ap id_of s.block ∙ sym y.kept_is, right-one x.before here x.block right id x.right_is same)
