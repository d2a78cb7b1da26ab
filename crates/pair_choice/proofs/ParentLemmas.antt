-- The parents of a changeset, by the partners that are known.
use Rattle.std.proofs.Common.{◌≡◌, Bool, true, false, true≢false, ◌||◌, List, [], ◌∷◌, Option, Some, None, refl, sym, ap, ◌∙◌}
use Rattle.std.specs.Prelude.{IsTrue, is_some, is_none, not, ◌&&◌, option_map}
use Rattle.text_model.specs.Lists.{Each}
use Rattle.text_model.specs.Id.{Id, is_null}
use Rattle.pair_model.specs.Block.{Block, id_of, block_of_node, not_null}
use Rattle.view_model.specs.View.{ChangesetView}
use Rattle.partner_model.specs.Given.{is_link_parent}
use Rattle.pair_known.specs.Blocks.{IsHistoryHeld}
use Rattle.pair_known.specs.Over.{AreChangesetParentsPaired}
use Rattle.pair_known.specs.Partners.{git_at}
use Rattle.pair_known.specs.declared.known.Known.{Known}
use Rattle.pair_known.proofs.PartnerLemmas.{git-pairs}

pub none-known : (k : Known) (blocks : List Block) → IsHistoryHeld k blocks → (node : Id) → is_none (git_at k.partners node) ≡ is_none (block_of_node blocks node)
none-known k blocks history node = (λ i. is_none (git_at ((history.held).partners i) node)) ∙ ap is_none (git-pairs blocks node) ∙ mapped (block_of_node blocks node)
  where
    mapped : (o : Option Block) → is_none (option_map id_of o) ≡ is_none o
    mapped None = refl
    mapped (Some b) = refl

-- what the code asks of a parent
none-of-some : {X : Type 0} (o : Option X) (r : Bool) → is_some o ≡ not r → r ≡ is_none o
none-of-some None true e = refl
none-of-some None false e = absurd (true≢false (sym e))
none-of-some (Some x) true e = absurd (true≢false e)
none-of-some (Some x) false e = refl

pub link-parent : (k : Known) (blocks : List Block) → IsHistoryHeld k blocks → (node : Id) (o : Option Id) (r : Bool) → is_null node ≡ false → o ≡ git_at k.partners node → is_some o ≡ not r → r ≡ is_link_parent blocks node
link-parent k blocks history node o r e at f = none-of-some o r f ∙ ap is_none at ∙ none-known k blocks history node ∙ ap (λ (b : Bool). not b && is_none (block_of_node blocks node)) (sym e)

pub null-parent : (blocks : List Block) (node : Id) → is_null node ≡ true → false ≡ is_link_parent blocks node
null-parent blocks node e = ap (λ (b : Bool). not b && is_none (block_of_node blocks node)) (sym e)

-- a parent that is no link has a partner
paired-one : (blocks : List Block) (node : Id) → is_link_parent blocks node ≡ false → (rest : List Id) → Each (λ p. IsTrue (is_some (block_of_node blocks p))) (not_null rest) → Each (λ p. IsTrue (is_some (block_of_node blocks p))) (not_null (node ∷ rest))
paired-one blocks node e rest h = by (is_null node) (block_of_node blocks node) refl refl
  where
    by : (s : Bool) (o : Option Block) → is_null node ≡ s → block_of_node blocks node ≡ o → Each (λ p. IsTrue (is_some (block_of_node blocks p))) (not_null (node ∷ rest))
    by true o f g = rw f h
    by false (Some b) f g = rw f (ap is_some g, h)
    by false None f g =
        let t : is_link_parent blocks node ≡ true = rw (f, g) refl in
        absurd (true≢false (sym t ∙ e))

none-of : (a b : Bool) → (a || b) ≡ false → (a ≡ false) × (b ≡ false)
none-of true b e = absurd (true≢false e)
none-of false b e = (refl, e)

pub no-link-parents : (blocks : List Block) (v : ChangesetView) → (is_link_parent blocks v.p || is_link_parent blocks v.q) ≡ false → AreChangesetParentsPaired blocks v
no-link-parents blocks v e =
    let n = none-of (is_link_parent blocks v.p) (is_link_parent blocks v.q) e in
    paired-one blocks v.p n.0 (v.q ∷ []) (paired-one blocks v.q n.1 [] tt)

-- where a parent is a link, they aren't all paired; so it can be decided
pub paired-or-not : (blocks : List Block) (v : ChangesetView) → ((¬ (AreChangesetParentsPaired blocks v)) → ⊥) → AreChangesetParentsPaired blocks v
paired-or-not blocks v h = by (is_link_parent blocks v.p || is_link_parent blocks v.q) refl
  where
    has : (node : Id) → is_link_parent blocks node ≡ true → (rest : List Id) → Each (λ p. IsTrue (is_some (block_of_node blocks p))) (not_null (node ∷ rest)) → ⊥
    has node e rest each = go (is_null node) (block_of_node blocks node) refl refl
      where
        go : (s : Bool) (o : Option Block) → is_null node ≡ s → block_of_node blocks node ≡ o → ⊥
        go true o f g =
            let t : is_link_parent blocks node ≡ false = rw f refl in
            true≢false (sym e ∙ t)
        go false (Some b) f g =
            let t : is_link_parent blocks node ≡ false = rw (f, g) refl in
            true≢false (sym e ∙ t)
        go false None f g =
            let both : IsTrue (is_some (block_of_node blocks node)) × Each (λ p. IsTrue (is_some (block_of_node blocks p))) (not_null rest) = rw f at each in
            true≢false (sym both.0 ∙ ap is_some g)

    rest-of : (node : Id) (rest : List Id) → Each (λ p. IsTrue (is_some (block_of_node blocks p))) (not_null (node ∷ rest)) → Each (λ p. IsTrue (is_some (block_of_node blocks p))) (not_null rest)
    rest-of node rest each = go (is_null node) refl
      where
        go : (s : Bool) → is_null node ≡ s → Each (λ p. IsTrue (is_some (block_of_node blocks p))) (not_null rest)
        go true f = rw f at each
        go false f =
            let both : IsTrue (is_some (block_of_node blocks node)) × Each (λ p. IsTrue (is_some (block_of_node blocks p))) (not_null rest) = rw f at each in
            both.1

    by : (t : Bool) → (is_link_parent blocks v.p || is_link_parent blocks v.q) ≡ t → AreChangesetParentsPaired blocks v
    by false e = no-link-parents blocks v e
    by true e = absurd (h (λ paired. first (is_link_parent blocks v.p) refl paired))
      where
        first : (s : Bool) → is_link_parent blocks v.p ≡ s → AreChangesetParentsPaired blocks v → ⊥
        first true f paired = has v.p f (v.q ∷ []) paired
        first false f paired =
            let g : is_link_parent blocks v.q ≡ true = rw f at e in
            has v.q g [] (rest-of v.p (v.q ∷ []) paired)
