-- What a pull of a stream makes of a saved state.
use Rattle.std.proofs.Common.{◌≡◌, ◌≤◌, ◌+◌, ◌*◌, ℕ, List, [], ◌∷◌, ◌++◌, length, take, drop, map, Some, None, Ok, refl, sym, ap, subst, ◌∙◌, inl, inr, append-nil}
use Rattle.std.specs.Prelude.{find}
use Rattle.text_model.specs.Lists.{In, Each}
use Rattle.text_model.specs.Text.{Bytes}
use Rattle.text_model.specs.Id.{Id}
use Rattle.text_model.proofs.Elements.{flat_map_append, take_front, drop_front}
use Rattle.hg_model.specs.Revision.{Revision, known_after_all}
use Rattle.hg_dump_law.specs.Taken.{AreParentsEarlier}
use Rattle.hg_dump_law.proofs.Earlier.{earlier-drop}
use Rattle.dump_law.proofs.Bases.{base-is-same}
use Rattle.git_model.specs.Object.{Object}
use Rattle.git_model.specs.Stream.{Placed, stream_reading}
use Rattle.git_store.specs.Growth.{IsThere}
use Rattle.git_batch.specs.declared.arrival.ObjectArrival.{ObjectArrival}
use Rattle.view_model.specs.View.{ChangesetView, changeset_node}
use Rattle.view_model.specs.Held.{AreChangesetsHeld}
use Rattle.view_model.specs.Dump.{revisions_in, hg_increment}
use Rattle.pair_model.specs.Block.{Block, id_of, changesets_in}
use Rattle.history_model.specs.Pull.{State, StreamBrings, PullGitRefuses, objects_with, saved_ids, place_of}
use Rattle.state_model.specs.Kept as saved
use Rattle.state_model.specs.Kept.{Kept, kept_of, with_kept, ids_of}
use Rattle.saved_model.specs.Step.{OfStream, Refuses, known_of, with_blocks, first_large_block, first_large_tag, lacks_target, new_tags, next_of, made_of}
use Rattle.bridge_text.specs.declared.fault.Fault.TheVariants.{StateLimit}
use Rattle.pair_state.specs.declared.state_parts.StateParts.{StateParts}
use Rattle.pair_state.specs.AllBlocks.{state_value}
use Rattle.state_size.specs.Large.{StandsInOrder, kept_up_to}
use Rattle.state_text.specs.Stands.{Stands}
use Rattle.next_law.proofs.Known.{saved-of, sound-known}
use Rattle.next_law.proofs.Pulls.{checked}
use Rattle.pull_stream.proofs.Growth.{each-placed}
use Rattle.pull_stream.proofs.Orders.{same-place}
use Rattle.pull_stream.specs.Ready.{place_among}
use Rattle.pull_outcome.specs.declared.pulled.GitPulled.{GitPulled}
use Rattle.pull_outcome.specs.declared.refused.PullFault.{PullFault}
use Rattle.pull_outcome.specs.Pulls.{PulledGit, GoesOnGit, RefusesGit}
use Rattle.pull_outcome.specs.Refused.{IsRefusedBy}
use Rattle.pull_outcome.specs.Steps.{StepsGit}
use Rattle.pull_engine.specs.Limit.{IsLargeStream, refused_at}
use Rattle.pull_engine.specs.Read.{IsReadState, IsPulled}
use Rattle.pull_engine.specs.Tags.{IsAsked, AreNewTags, IsLacking, HasTags}
use Rattle.pull_engine.proofs.Came.{block-among, tag-among, commit-came, tag-came}
use Rattle.pull_engine.proofs.Earlier.{stream-earlier}
use Rattle.pull_engine.proofs.Next.{state-is, old-is, new-is, old-tags, new-tags, refused-for, few-steps}
use Rattle.pull_engine.proofs.NewTags as tag
use Rattle.pull_engine.proofs.NewTags.{TagsAreNew, tags-left, stands-with}
use Rattle.pull_engine.proofs.StreamBytes.{came-in}

-- what is said of all states that the next parts stand for, and of all objects that came
abbrev pub IsSmall : StateParts → ℕ → ℕ → Type 0
IsSmall next first_new first_tag = (n : saved.State) → StandsInOrder next n
    → first_large_block (kept_up_to first_new n.blocks (take first_tag n.tags)) (drop first_new n.blocks) ≡ None

abbrev pub HasSmallTags : StateParts → ℕ → ℕ → Type 0
HasSmallTags next first_new first_tag = (n : saved.State) → StandsInOrder next n
    → first_large_tag (with_blocks (kept_up_to first_new n.blocks (take first_tag n.tags)) (drop first_new n.blocks)) (drop first_tag n.tags) ≡ None

abbrev pub IsLarge : StateParts → ℕ → ℕ → List ObjectArrival → PullFault → Type 0
IsLarge next first_new first_tag arrivals fault = (n : saved.State) → StandsInOrder next n
    → IsLargeStream (kept_up_to first_new n.blocks (take first_tag n.tags)) (drop first_new n.blocks) (drop first_tag n.tags) arrivals fault

abbrev pub LacksTarget : GitPulled → PullFault → Type 0
LacksTarget p fault = (blocks : List Block) (tags : List Object) (placed : List Placed) → IsAsked p.state p.arrivals blocks tags placed
    → IsLacking (find (lacks_target blocks tags placed) placed) fault

module _ (s : StateParts) (m : saved.State) (read : IsReadState s m) (bytes : Bytes) where
  abbrev k : Kept
  k = kept_of m

  -- ---- what is refused before

  pub refused-before : (fault : PullFault) → RefusesGit s m.blocks bytes fault → IsRefusedBy (Refuses k (OfStream bytes)) fault
  refused-before = refused-for (PullGitRefuses (state_value s m.blocks) bytes) (Refuses k (OfStream bytes))
      (λ why due. inl (subst (λ (st : State). PullGitRefuses st bytes why) (state-is s m read) due))

  pub asked-before : (before now : ℕ) → StepsGit (state_value s m.blocks) bytes before now → StepsGit (known_of k) bytes before now
  asked-before before now = subst (λ (st : State). StepsGit st bytes before now) (state-is s m read)

  -- ---- a pull that brings new blocks

  module _ (p : GitPulled) (done : PulledGit s m.blocks bytes p) (on : GoesOnGit s m.blocks p) where
    abbrev came : List Placed
    came = (done.makes).came

    abbrev new : List Block
    new = (done.makes).new

    abbrev all : List Block
    all = m.blocks ++ new

    abbrev tags : List Object
    tags = new_tags m.tags came

    reads : stream_reading (known_of k).objects bytes ≡ Ok came
    reads = subst (λ (st : State). stream_reading st.objects bytes ≡ Ok came) (state-is s m read) (done.makes).reads

    brings : StreamBrings (known_of k) came new
    brings = subst (λ (st : State). StreamBrings st came new) (state-is s m read) (done.makes).brings

    came-held : Each (λ o. IsThere (p.state).known.git o.object) came
    came-held = each-placed (IsThere (p.state).known.git) came (came-in s m.blocks bytes p done)

    earlier : AreParentsEarlier [] (changesets_in all)
    earlier = stream-earlier m read.saved bytes came new reads brings

    asked : IsAsked p.state p.arrivals all m.tags came
    asked = tag.asked s m read p on came done.came came-held all done.next

    -- ---- a tag lacks its target

    pub refused-target : (fault : PullFault) → LacksTarget p fault → IsRefusedBy (Refuses k (OfStream bytes)) fault
    refused-target fault lacks = by (lacks all m.tags came asked)
      where
        Due : PullFault → Type 0
        Due = IsRefusedBy (Refuses k (OfStream bytes))

        by : IsLacking (find (lacks_target all m.tags came) came) fault → Due fault
        by (inl is) = subst Due (sym is) tt
        by (inr (o, found, is)) = subst Due (sym is) (inr (record { came = came; reads = reads; new = new; brings = brings; cause = inl (o, found, refl) }))

    -- ---- the new tags

    module _ (ids : List Id) (are : TagsAreNew p ids) (next : StateParts) (has : HasTags p.state next ids) (first_tag : ℕ) (first : first_tag ≡ length (p.state).tags) where
      right : AreNewTags all m.tags came ids
      right = are all m.tags came asked

      abbrev after : Kept
      after = record { blocks = all; tags = m.tags ++ tags }

      stands : Stands next (with_kept m after)
      stands = stands-with s m read p on came done.came came-held all done.next ids are next has

      in-order : StandsInOrder next (with_kept m after)
      in-order = record { stands = stands; parents = earlier }

      kept-are : (p.state).tags ≡ ids_of m.tags
      kept-are = (tags-left s m read p on came done.came came-held).0

      old : kept_up_to p.first_new all (take first_tag (m.tags ++ tags)) ≡ k
      old = ap (kept_up_to p.first_new all) (old-tags p.state m.tags tags first_tag kept-are first) ∙ old-is m.blocks new m.tags p.first_new done.first_new

      added : drop p.first_new all ≡ new
      added = new-is m.blocks new m.tags p.first_new done.first_new

      behind : drop first_tag (m.tags ++ tags) ≡ tags
      behind = new-tags p.state m.tags tags first_tag kept-are first

      sizes : first_large_block (kept_up_to p.first_new all (take first_tag (m.tags ++ tags))) (drop p.first_new all) ≡ first_large_block k new
      sizes = λ i. first_large_block (old i) (added i)

      tag-sizes : first_large_tag (with_blocks (kept_up_to p.first_new all (take first_tag (m.tags ++ tags))) (drop p.first_new all)) (drop first_tag (m.tags ++ tags)) ≡ first_large_tag (with_blocks k new) tags
      tag-sizes = λ i. first_large_tag (with_blocks (old i) (added i)) (behind i)

      -- where the commit of a new block and a new tag came
      listed-at : (id : Id) (at : ℕ) → place_of came id ≡ Some at → place_among p.arrivals id ≡ Some at
      listed-at id at is = ap (λ (l : List ObjectArrival). place_among l id) done.came ∙ same-place came id ∙ is

      commit-place : (b : Block) → In b new → (at : ℕ) × (place_of came (id_of b) ≡ Some at)
      commit-place b i =
          let sound = sound-known k (saved-of m read.saved) in
          commit-came (objects_with (known_of k) came) (checked (known_of k) sound bytes came reads) (known_of k).revisions m.blocks came (saved_ids (known_of k)) brings.ordered new brings.order brings.brings b i

      pub refused-large : (fault : PullFault) → IsLarge next p.first_new first_tag p.arrivals fault → IsRefusedBy (Refuses k (OfStream bytes)) fault
      refused-large fault large = by (large (with_kept m after) in-order)
        where
          Due : PullFault → Type 0
          Due = IsRefusedBy (Refuses k (OfStream bytes))

          by : IsLargeStream (kept_up_to p.first_new all (take first_tag (m.tags ++ tags))) (drop p.first_new all) (drop first_tag (m.tags ++ tags)) p.arrivals fault → Due fault
          by (inl is) = subst Due (sym is) tt
          by (inr (inl (b, first, is))) =
              let found = sym sizes ∙ first in
              let at = commit-place b (block-among k new b found) in
              subst Due (sym (is ∙ ap (refused_at StateLimit (id_of b)) (listed-at (id_of b) at.0 at.1)))
              (inr (record { came = came; reads = reads; new = new; brings = brings; cause = inr (inl (right.1, b, at.0, found, at.1, refl)) }))
          by (inr (inr (none, t, first, is))) =
              let found = sym tag-sizes ∙ first in
              let at = tag-came m.tags came t (tag-among (with_blocks k new) tags t found) in
              subst Due (sym (is ∙ ap (refused_at StateLimit t.id) (listed-at t.id at.0 at.1)))
              (inr (record { came = came; reads = reads; new = new; brings = brings; cause = inr (inr (right.1, sym sizes ∙ none, t, at.0, found, at.1, refl)) }))

      -- ---- what is accepted

      split : changesets_in all ≡ changesets_in m.blocks ++ changesets_in new
      split = flat_map_append (λ (b : Block). b.links ++ b.changeset ∷ []) m.blocks new

      -- what is written is told by what the blocks refer to
      made-is : p.made ≡ made_of k (OfStream bytes) new
      made-is =
          let known = known_after_all s.known.hg (revisions_in (changesets_in new)) in
          let held = subst (λ (hs : List ChangesetView). AreChangesetsHeld known (map changeset_node hs) hs) split
          (subst (λ (rs : List Revision). AreChangesetsHeld rs (map changeset_node (changesets_in all)) (changesets_in all)) done.revisions (((done.next).state).held.held).changesets) in
          let rest = earlier-drop [] (changesets_in m.blocks ++ changesets_in new) (length (changesets_in m.blocks)) (subst (AreParentsEarlier []) split earlier) in
          let behind = subst (λ (hs : List ChangesetView). AreParentsEarlier (revisions_in (changesets_in m.blocks)) hs) (drop_front (changesets_in m.blocks) (changesets_in new))
          (subst (λ (hs : List ChangesetView). AreParentsEarlier (revisions_in hs) (drop (length (changesets_in m.blocks)) (changesets_in m.blocks ++ changesets_in new))) (take_front (changesets_in m.blocks) (changesets_in new)) rest) in
          (done.makes).is ∙ base-is-same known (changesets_in m.blocks) (changesets_in new) held behind
          ∙ ap (λ (hs : List ChangesetView). hg_increment (revisions_in hs) (changesets_in m.blocks) (changesets_in new)) (sym split)

      pub accepted : IsSmall next p.first_new first_tag → HasSmallTags next p.first_new first_tag → (text : Bytes)
          → IsPulled m (OfStream bytes) (record { state = next; first_new = p.first_new; made = p.made; text = text })
      accepted small small_tags text = (
        next_of k new tags,
        (
          new,
          tags,
          record {
            came = came;
            reads = reads;
            brings = brings;
            targets = right.1;
            tags_are = refl;
            small = sym sizes ∙ small (with_kept m after) in-order;
            small_tags = sym tag-sizes ∙ small_tags (with_kept m after) in-order;
          },
          refl,
          made-is,
        ),
        stands,
        done.first_new,
      )

    pub asked-after : (before now : ℕ) → now + 18 * p.first_new ≤ before + 18 * length (p.state).blocks → StepsGit (known_of k) bytes before now
    asked-after before now h = inr (record {
      came = came;
      reads = reads;
      ordered = brings.ordered;
      order = brings.order;
      first = brings.ordered;
      others = [];
      split = sym (append-nil brings.ordered);
      new = new;
      brings = brings.brings;
      few = few-steps p.state m.blocks new p.first_new before now done.next done.first_new h;
    })
