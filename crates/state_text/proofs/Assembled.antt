-- The parts that are made of sections stand for their state.
use Rattle.std.proofs.Common.{◌≡◌, true, false, true≢false, List, [], ◌∷◌, map, is_some, IsTrue, Some, None, refl, sym, ap, subst, ◌∙◌}
use Rattle.text_model.specs.Lists.{Each, In}
use Rattle.text_model.specs.Id.{Id, has_id}
use Rattle.text_model.proofs.Elements.{each_from}
use Rattle.hg_model.specs.Revision.{Revision, is_of, revision_of, known_after_all}
use Rattle.hg_model.proofs.RevisionLemmas.{is_of-self}
use Rattle.git_model.specs.Tree.{has_distinct}
use Rattle.git_model.specs.Object.{Object, object_at}
use Rattle.git_model.specs.Unfold.{walk_fault}
use Rattle.hg_store.specs.Known.{AreAdded}
use Rattle.git_store.specs.Known.{AreKnown}
use Rattle.view_model.specs.View.{ChangesetView, changeset_node, commit_id}
use Rattle.view_model.specs.Held.{AreChangesetsHeld, AreCommitsHeld}
use Rattle.view_model.specs.Dump.{brought_by}
use Rattle.pair_model.specs.Block.{Block, node_of, id_of, changesets_in, commits_in}
use Rattle.pair_model.specs.Octopus.{is_link_view}
use Rattle.hg_dump_law.specs.Taken.{in_bundle_order}
use Rattle.dump_law.proofs.Order.{found_dump}
use Rattle.dump_law.proofs.Saved.{finds}
use Rattle.saved_model.specs.Step.{in_written_order}
use Rattle.state_model.specs.Kept.{State, NameRow}
use Rattle.state_model.specs.Saved.{AreBlocks}
use Rattle.hg_section.specs.declared.section.HgSection.{HgSection}
use Rattle.tag_section.specs.declared.tags.TagSection.{TagSection}
use Rattle.pair_known.specs.Partners.{ArePartners}
use Rattle.pair_known.specs.Blocks.{IsHistoryHeld}
use Rattle.pair_state.specs.declared.blocks.Block as pair
use Rattle.pair_state.specs.declared.state_parts.StateParts.{StateParts}
use Rattle.pair_state.specs.Blocks.{BlockValue, value_of, block_value, IsStateOf}
use Rattle.pair_state.specs.AllBlocks.{is_referred, HasAllBlocks}
use Rattle.state_text.specs.Stands.{Stands, HoldsExactly}
use Rattle.state_text.specs.Whole.{block_in, AreSectionsOf}
use Rattle.dump_law.proofs.Blocks.{nodes-distinct, ids-blocks}
use Rattle.state_text.proofs.BlockLemmas.{partners-blocks}

-- the parts are made of these sections
pub record IsMadeOf (s : StateParts) (hg : HgSection) (blocks : List pair.Block) (tags : TagSection) (names : List NameRow) : Type 0 where
  pub hg_is : s.known.hg ≡ hg.store
  pub git_is : s.known.git ≡ tags.store
  pub partners_are : s.known.partners ≡ map (λ b. (b.node, b.commit)) blocks
  pub blocks_are : s.blocks ≡ blocks
  pub changesets_are : s.changesets ≡ hg.nodes
  pub commits_are : s.commits ≡ tags.ids
  pub tags_are : s.tags ≡ tags.tags
  pub names_are : s.names ≡ names
  pub none_agreed : s.agreed ≡ []

-- ---- blocks

walks-blocks : (git : List Object) (bs : List Block) → Each (λ c. walk_fault git (c.value).tree_id ≡ None) (commits_in bs) → Each (λ b. walk_fault git ((b.commit).value).tree_id ≡ None) bs
walks-blocks git [] h = tt
walks-blocks git (b ∷ bs) h = (h.0, walks-blocks git bs h.1)

nodes-first : (bs : List Block) → map (λ (e : Id × Id). e.0) (map {B = Id × Id} (λ b. (node_of b, id_of b)) bs) ≡ map node_of bs
nodes-first [] = refl
nodes-first (b ∷ bs) = ap (λ (l : List Id). node_of b ∷ l) (nodes-first bs)

ids-second : (bs : List Block) → map (λ (e : Id × Id). e.1) (map {B = Id × Id} (λ b. (node_of b, id_of b)) bs) ≡ map id_of bs
ids-second [] = refl
ids-second (b ∷ bs) = ap (λ (l : List Id). id_of b ∷ l) (ids-second bs)

no_links : (bs : List Block) → AreBlocks bs → Each (λ b. is_link_view b.changeset ≡ false) bs
no_links [] h = tt
no_links (b ∷ bs) h = (h.0.1, no_links bs h.1)

values-blocks : (bs : List Block) → map value_of (map block_in bs) ≡ map block_value bs
values-blocks [] = refl
values-blocks (b ∷ bs) = ap (λ (l : List BlockValue). block_value b ∷ l) (values-blocks bs)

-- ---- each revision is one to which the history refers

referred : (bs : List Block) (known : List Revision) → known ≡ known_after_all [] (in_bundle_order (brought_by [] (changesets_in bs))) → Each (λ r. IsTrue (is_referred bs r)) known
referred bs known is = each_from (λ r. IsTrue (is_referred bs r)) known there
  where
    there : (r : Revision) → In r known → is_referred bs r ≡ true
    there r i =
        let found = (finds (is_of r.group r.node) r known i (is_of-self r)).is in
        ap is_some (sym (found_dump (changesets_in bs) r.group r.node)) ∙ ap (λ (l : List Revision). is_some (revision_of l r.group r.node)) (sym is) ∙ ap is_some found

module _ (s : StateParts) (hg : HgSection) (blocks : List pair.Block) (tags : TagSection) (names : List NameRow) (m : State) (a : AreSectionsOf hg blocks tags names m) (e : IsMadeOf s hg blocks tags names) where
  abbrev hs : List ChangesetView
  hs = changesets_in m.blocks

  changesets-held : AreChangesetsHeld s.known.hg (map changeset_node hs) hs
  changesets-held =
      subst (λ (k : List Revision). AreChangesetsHeld k (map changeset_node hs) hs) (sym e.hg_is)
      (subst (λ (l : List Id). AreChangesetsHeld hg.store l hs) (a.changesets).nodes (a.changesets).held)

  commits-held : AreCommitsHeld s.known.git (map commit_id (commits_in m.blocks)) (commits_in m.blocks)
  commits-held =
      subst (λ (k : List Object). AreCommitsHeld k (map commit_id (commits_in m.blocks)) (commits_in m.blocks)) (sym e.git_is)
      (subst (λ (l : List Id). AreCommitsHeld tags.store l (commits_in m.blocks)) (a.commits).ids (a.commits).held)

  partners-are : s.known.partners ≡ map {B = Id × Id} (λ b. (node_of b, id_of b)) m.blocks
  partners-are = e.partners_are ∙ ap (map (λ (b : pair.Block). (b.node, b.commit))) a.pairs ∙ partners-blocks m.blocks

  -- no node and no id stands twice in a state
  are-partners : ArePartners s.known.partners
  are-partners =
      let saved = (a.state).1.0.0.0 in
      subst ArePartners (sym partners-are) (record {
        nodes = ap has_distinct (nodes-first m.blocks) ∙ nodes-distinct m.blocks ((saved.0.1).dumped).distinct;
        ids = ap has_distinct (ids-second m.blocks ∙ sym (ids-blocks m.blocks)) ∙ (saved.1).distinct;
      })

  history-held : IsHistoryHeld s.known m.blocks
  history-held = record {
    held = record {
      changesets = changesets-held;
      commits = commits-held;
      walks = walks-blocks s.known.git m.blocks (subst (λ (k : List Object). Each (λ c. walk_fault k (c.value).tree_id ≡ None) (commits_in m.blocks)) (sym e.git_is) (a.commits).walks);
      partners = partners-are;
    };
    no_links = no_links m.blocks (a.state).0;
    added = subst AreAdded (sym e.hg_is) (a.changesets).added;
    partners = are-partners;
  }

  is-state : IsStateOf s m.blocks
  is-state = record {
    held = history-held;
    sound = subst AreKnown (sym e.git_is) (a.commits).sound;
    blocks_are = ap (map value_of) (e.blocks_are ∙ a.pairs) ∙ values-blocks m.blocks;
    changesets = e.changesets_are ∙ (a.changesets).nodes;
    commits = e.commits_are ∙ (a.commits).ids ∙ ids-blocks m.blocks;
    agreed = λ node h. absurd (true≢false (sym h ∙ ap (λ (l : List Id). has_id l node) e.none_agreed));
  }

  pub stands : Stands s m
  stands = record {
    blocks = record { state = is-state; saved = referred m.blocks s.known.hg (e.hg_is ∙ (a.changesets).known) };
    tags = e.tags_are ∙ (a.commits).tags_are;
    tags_held = subst (λ (k : List Object). Each (λ o. object_at k o.id ≡ Some o) m.tags) (sym e.git_is) (a.commits).tags_held;
    names = e.names_are ∙ a.names_are;
  }

  pub has-blocks : (held : List Block) × HasAllBlocks s held
  has-blocks = (m.blocks, stands.blocks)

  pub exactly : HoldsExactly s m
  unfolding in_bundle_order in_written_order
  exactly = record { revisions = e.hg_is ∙ (a.changesets).known; objects = e.git_is ∙ (a.commits).known }
