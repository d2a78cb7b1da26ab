-- Why a changeset has no partner over the blocks before it, and that the partner over all blocks is that over these.
use Rattle.std.proofs.Common.{◌≡◌, true, false, true≢false, List, [], ◌∷◌, Option, Some, None, refl, sym, ap, subst, ◌∙◌, inl, inr}
use Rattle.std.specs.Prelude.{is_some, option_map, unwrap_or}
use Rattle.text_model.specs.Lists.{Each, In}
use Rattle.text_model.specs.Id.{Id, has_id}
use Rattle.text_model.proofs.Elements.{each_in}
use Rattle.text_model.proofs.TestLemmas.{both}
use Rattle.view_model.specs.View.{ChangesetView, CommitView, CommitFits}
use Rattle.pair_model.specs.Block.{Block, node_of, id_of, block_of_node, block_of_id}
use Rattle.pair_model.specs.Octopus.{links_of}
use Rattle.partner_model.specs.Partner.{OfHg, IsHeldView, IsKnownAs, AreCommitParentsPaired}
use Rattle.partner_model.specs.Given.{IsCommitFor, block_with}
use Rattle.unmark_law.proofs.Tables.{HasId, one_for, found_there}
use Rattle.partner_law.proofs.Choices.{block_for_one}
use Rattle.next_law.proofs.Linked.{no-links}
use Rattle.frame_law.proofs.Frame.{AreTwo, ground_table}
use Rattle.frame_law.proofs.Kept.{commit_for_down, commit_for_paired}
use Rattle.frame_law.proofs.First.{not_on_link, deep_too, deep_again, collision_too, collision_again, commit_for_back}
use Rattle.pair_known.specs.Blocks.{IsHistoryHeld}
use Rattle.pair_known.specs.Partners.{hg_at}
use Rattle.pair_known.specs.declared.known.Known.{Known}
use Rattle.pair_known.specs.declared.git_draft.GitDraft.{GitDraft}
use Rattle.pair_known.proofs.PartnerLemmas.{hg-pairs, block-of-id, block-there}
use Rattle.pair_known.specs.declared.choice_fault.ChoiceFault.{ChoiceFault}
use Rattle.pair_known.specs.declared.choice_fault.ChoiceFault.TheVariants.{PathClash, ParentIsLink, NestLimit, PairLimit, Collision, Memory}
use Rattle.pair_choice.specs.Chosen.{IsChosenCommit, ChangesetRefuses}
use Rattle.state_audit.specs.Before.{is_there, are_there, IsBefore, GetsBlock, HasNone, IsPartnerHere}

-- the links of a partner are known
walked : (blocks : List Block) (K : ChangesetView → Type 0) (v : ChangesetView) (c : CommitView) → IsCommitFor blocks K v c → Each (IsKnownAs K) (links_of blocks c)
walked blocks K v c (inl x) = subst (Each (IsKnownAs K)) (sym (no-links blocks c v x.2)) tt
walked blocks K v c (inr x) = (x.1).walked

module _ (k : Known) (blocks front : List Block) (nodes : List Id) (b : IsBefore k blocks front nodes) (v : ChangesetView) where
  abbrev K : ChangesetView → Type 0
  K = IsHeldView k.hg

  two : AreTwo front K blocks K
  two = record { first = b.part; second = b.whole; among = b.among }

  -- a partner over the first blocks is that over all
  over-all : (c : CommitView) → IsCommitFor front K v c → IsCommitFor blocks K v c
  over-all c x = commit_for_down front K blocks K two v c (walked front K v c x) x

  one-partner : (c d : CommitView) → IsCommitFor blocks K v c → IsCommitFor blocks K v d → c ≡ d
  one-partner c d x y =
      ap (λ (e : Block). e.commit)
      (block_for_one blocks K (ground_table blocks K b.whole) (b.whole).apart (OfHg v) (block_with blocks v c) (block_with blocks v d) (c, x, refl) (d, y, refl))

  -- ---- it is refused

  pub refused-none : (f : ChoiceFault) → (f ≡ Memory → ⊥) → ChangesetRefuses k blocks v f → HasNone k front v
  refused-none PathClash n why d g = true≢false (sym why ∙ g.no_clash)
  refused-none ParentIsLink n why d g = not_on_link blocks K v (g.block).0 (over-all (g.block).0 (g.block).1) why.1
  refused-none Collision n why d g = let c = g.block in g.no_collision (collision_too front K blocks K two v c.0 (walked front K v c.0 c.1) k.git c.1 why.2)
  refused-none NestLimit n why d g = let c = g.block in g.not_deep (deep_too front K blocks K two v c.0 (walked front K v c.0 c.1) c.1 why.3)
  refused-none PairLimit n why d g =
      let c = g.block in
      let same = one-partner c.0 why.4 (over-all c.0 c.1) why.5 in
      why.6 (subst CommitFits (ap (λ (e : Block). e.commit) c.2 ∙ same) g.fits)
  refused-none Memory n why d g = n refl

  -- ---- the parents of its partner

  module _ (history : IsHistoryHeld k blocks) where
    found-by : (id : Id) → is_there k.partners nodes id ≡ unwrap_or (option_map (has_id nodes) (option_map node_of (block_of_id blocks id))) false
    found-by id = ap (λ (o : Option Id). unwrap_or (option_map (has_id nodes) o) false) (ap (λ (ps : List (Id × Id)). hg_at ps id) (history.held).partners ∙ hg-pairs blocks id)

    there-is : (id : Id) → is_there k.partners nodes id ≡ true → HasId front id
    there-is id h = by (block_of_id blocks id) refl (sym (found-by id) ∙ h)
      where
        by : (o : Option Block) → block_of_id blocks id ≡ o → unwrap_or (option_map (has_id nodes) (option_map node_of o)) false ≡ true → HasId front id
        by None e t = absurd (true≢false (sym t))
        by (Some d) e t =
            let e-in = block-there front (node_of d) (sym (b.nodes_are (node_of d)) ∙ t) in
            let d-in = block-of-id blocks id (ap is_some e) in
            let is : d-in.0 ≡ d = same-some d-in.0 d (sym d-in.1 ∙ e) in
            let among : In d blocks = subst (λ (x : Block). In x blocks) is d-in.2 in
            let same : e-in.0 ≡ d = one_for node_of blocks (ground_table blocks K b.whole).nodes e-in.0 d (each_in (λ x. In x blocks) front e-in.0 b.among e-in.2) among e-in.3 in
            subst (λ (i : Id). HasId front i) (ap id_of same ∙ sym (ap id_of is) ∙ d-in.3) (found_there id_of front e-in.0 e-in.2)
          where
            same-some : (x y : Block) → Some x ≡ Some y → x ≡ y
            same-some x y e = cc

    is-there : (id : Id) → HasId front id → is_there k.partners nodes id ≡ true
    is-there id h =
        let e = block-of-id front id h in
        let there : HasId blocks id = subst (λ (i : Id). HasId blocks i) e.3 (found_there id_of blocks e.0 (each_in (λ x. In x blocks) front e.0 b.among e.2)) in
        let d = block-of-id blocks id there in
        let same : d.0 ≡ e.0 = one_for id_of blocks (b.whole).ids d.0 e.0 d.2 (each_in (λ x. In x blocks) front e.0 b.among e.2) (d.3 ∙ sym e.3) in
        found-by id ∙ ap (λ (o : Option Block). unwrap_or (option_map (has_id nodes) (option_map node_of o)) false) d.1
        ∙ b.nodes_are (node_of d.0) ∙ ap (λ (x : Block). is_some (block_of_node front (node_of x))) same ∙ found_there node_of front e.0 e.2

    all-there : (ids : List Id) → are_there k.partners nodes ids ≡ true → Each (HasId front) ids
    all-there [] h = tt
    all-there (id ∷ ids) h = let p = both (is_there k.partners nodes id) (are_there k.partners nodes ids) h in (there-is id p.0, all-there ids p.1)

    are-there : (ids : List Id) → Each (HasId front) ids → are_there k.partners nodes ids ≡ true
    are-there [] h = refl
    are-there (id ∷ ids) h = rw (is-there id h.0, are-there ids h.1) refl

    module _ (d : GitDraft) (c : CommitView) (chosen : IsChosenCommit k blocks v d c) where
      ids-are : (c.value).parents ≡ (d.commit).parents
      ids-are = ap (λ x. x.parents) (((chosen.ruled).made).value)

      pub partner-here : (ids : List Id) → ids ≡ (d.commit).parents → are_there k.partners nodes ids ≡ true → IsPartnerHere k blocks front v d c
      partner-here ids is h = record { chosen = chosen; paired = subst (Each (HasId front)) (is ∙ sym ids-are) (all-there ids h) }

      pub none-here : (ids : List Id) → ids ≡ (d.commit).parents → are_there k.partners nodes ids ≡ false → HasNone k front v
      none-here ids is h e g =
          let x = g.block in
          let same = one-partner x.0 c (over-all x.0 x.1) chosen.partner in
          let paired : AreCommitParentsPaired front c = subst (AreCommitParentsPaired front) same (commit_for_paired front K v x.0 x.1) in
          true≢false (sym (are-there ids (subst (Each (HasId front)) (ids-are ∙ sym is) paired)) ∙ h)

  -- what it gets over the first blocks
  module _ (d : GitDraft) (c : CommitView) (here : IsPartnerHere k blocks front v d c) where
    pub partner-first : IsCommitFor front K v c
    partner-first = commit_for_back front K blocks K two v c (λ l x. x) here.paired (here.chosen).partner

    pub gets-block : GetsBlock k front v (block_with front v c)
    gets-block =
        let x = partner-first in
        let w = walked front K v c x in
        record {
          no_clash = (here.chosen).no_clash;
          on_no_link = not_on_link front K v c x;
          no_collision = λ m. (here.chosen).apart (collision_again front K blocks K two v c w k.git x m);
          not_deep = λ m. (here.chosen).not_deep (deep_again front K blocks K two v c w x m);
          block = (c, x, refl);
          fits = ((here.chosen).ruled).fits;
        }

    -- and nothing else
    pub gets-one : (e : Block) → GetsBlock k front v e → e ≡ block_with front v c
    gets-one e g = block_for_one front K (ground_table front K b.part) (b.part).apart (OfHg v) e (block_with front v c) g.block (c, partner-first, refl)
