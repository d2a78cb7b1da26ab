-- What a pull of a bundle makes of a saved state.
use Rattle.std.proofs.Common.{◌≡◌, ◌≤◌, ◌+◌, ◌*◌, ℕ, List, [], ◌++◌, length, drop, Some, None, Ok, refl, sym, ap, subst, ◌∙◌, inl, inr, append-nil}
use Rattle.text_model.specs.Lists.{In}
use Rattle.text_model.specs.Text.{Bytes}
use Rattle.hg_model.specs.Reading.{Arrival, bundle_reading}
use Rattle.hg_bundle.specs.declared.arrival.Arrival as listed
use Rattle.git_store.specs.Growth.{IsWithin}
use Rattle.pair_model.specs.Block.{Block, node_of}
use Rattle.history_model.specs.Pull.{State, BundleBrings, PullHgRefuses, known_with, changesets_among}
use Rattle.state_model.specs.Kept as saved
use Rattle.state_model.specs.Kept.{Kept, kept_of, with_kept}
use Rattle.saved_model.specs.Step.{OfBundle, Refuses, known_of, first_large_block, place_of_node}
use Rattle.bridge_text.specs.declared.fault.Fault.TheVariants.{StateLimit}
use Rattle.pair_state.specs.declared.state_parts.StateParts.{StateParts}
use Rattle.state_size.specs.Large.{StandsInOrder, kept_up_to}
use Rattle.state_text.specs.Stands.{AreAt, Stands}
use Rattle.next_law.proofs.Known.{saved-of, sound-known}
use Rattle.next_law.proofs.Pulls.{own}
use Rattle.pull_outcome.specs.declared.pulled.HgPulled.{HgPulled}
use Rattle.pull_outcome.specs.declared.refused.PullFault.{PullFault}
use Rattle.pull_outcome.specs.Pulls.{PulledHg, GoesOnHg, RefusesHg}
use Rattle.pull_outcome.specs.Refused.{IsRefusedBy}
use Rattle.pull_outcome.specs.Steps.{StepsHg}
use Rattle.pair_state.specs.AllBlocks.{state_value}
use Rattle.pull_engine.specs.Limit.{IsLargeBundle, refused_at}
use Rattle.pull_engine.specs.Places.{node_place}
use Rattle.pull_engine.specs.Read.{IsReadState, IsPulled}
use Rattle.pull_engine.proofs.Came.{block-among, changeset-came, node-same}
use Rattle.pull_engine.proofs.Earlier.{bundle-earlier}
use Rattle.pull_engine.proofs.Lookups.{within-of}
use Rattle.pull_engine.proofs.Next.{state-is, tags-stay, stands-on, old-is, new-is, refused-for, few-steps}

-- what is said of all states that it stands for
abbrev pub IsSmall : HgPulled → Type 0
IsSmall p = (n : saved.State) → StandsInOrder p.state n → first_large_block (kept_up_to p.first_new n.blocks n.tags) (drop p.first_new n.blocks) ≡ None

abbrev pub IsLarge : HgPulled → PullFault → Type 0
IsLarge p fault = (n : saved.State) → StandsInOrder p.state n → IsLargeBundle (kept_up_to p.first_new n.blocks n.tags) (drop p.first_new n.blocks) p.arrivals fault

-- ---- what follows whatever the source tells

module _ (s : StateParts) (m : saved.State) (read : IsReadState s m) (p : HgPulled) (on : GoesOnHg s m.blocks p) where
  stays : IsWithin s.known.git (p.state).known.git
  stays = within-of s.known.git (p.state).known.git (((on.next).state).sound.are).distinct on.objects

  pub tags-left : AreAt (p.state).known.git (p.state).tags m.tags
  tags-left = tags-stay s m read p.state stays on.tags

  pub goes-on : (n : saved.State) × Stands p.state n
  goes-on = (_, stands-on s m read p.state (m.blocks ++ on.new) m.tags on.next tags-left on.names)

-- ---- of bytes that are told

module _ (s : StateParts) (m : saved.State) (read : IsReadState s m) (bytes : Bytes) where
  abbrev k : Kept
  k = kept_of m

  -- ---- what is refused before

  pub refused-before : (fault : PullFault) → RefusesHg s m.blocks bytes fault → IsRefusedBy (Refuses k (OfBundle bytes)) fault
  refused-before = refused-for (PullHgRefuses (state_value s m.blocks) bytes) (Refuses k (OfBundle bytes))
      (λ why due. inl (subst (λ (st : State). PullHgRefuses st bytes why) (state-is s m read) due))

  pub asked-before : (before now : ℕ) → StepsHg (state_value s m.blocks) bytes before now → StepsHg (known_of k) bytes before now
  asked-before before now = subst (λ (st : State). StepsHg st bytes before now) (state-is s m read)

  -- ---- a pull that brings new blocks

  module _ (p : HgPulled) (done : PulledHg s m.blocks bytes p) (on : GoesOnHg s m.blocks p) where
    abbrev came : List Arrival
    came = (done.makes).arrivals

    abbrev new : List Block
    new = (done.makes).new

    reads : bundle_reading (known_of k).revisions bytes ≡ Ok came
    reads = subst (λ (st : State). bundle_reading st.revisions bytes ≡ Ok came) (state-is s m read) (done.makes).reads

    brings : BundleBrings (known_of k) came new
    brings = subst (λ (st : State). BundleBrings st came new) (state-is s m read) (done.makes).brings

    abbrev next : Kept
    next = record { blocks = m.blocks ++ new; tags = m.tags }

    stands : Stands p.state (with_kept m next)
    stands = stands-on s m read p.state (m.blocks ++ new) m.tags done.next (tags-left s m read p on) on.names

    in-order : StandsInOrder p.state (with_kept m next)
    in-order = record { stands = stands; parents = bundle-earlier m read.saved bytes came new reads brings }

    sizes : first_large_block (kept_up_to p.first_new (m.blocks ++ new) m.tags) (drop p.first_new (m.blocks ++ new)) ≡ first_large_block k new
    sizes = λ i. first_large_block (old-is m.blocks new m.tags p.first_new done.first_new i) (new-is m.blocks new m.tags p.first_new done.first_new i)

    pub accepted : IsSmall p → (text : Bytes) → IsPulled m (OfBundle bytes) (record { state = p.state; first_new = p.first_new; made = p.made; text = text })
    accepted small text =
        let none = sym sizes ∙ small (with_kept m next) in-order in (
          next,
          (new, [], (record { arrivals = came; reads = reads; brings = brings; small = none }, refl), (λ i. record { blocks = m.blocks ++ new; tags = sym (append-nil m.tags) i }), (done.makes).is),
          stands,
          done.first_new,
        )

    -- where the changeset of a new block came
    place : (b : Block) → In b new → (at : ℕ) × (place_of_node came (node_of b) ≡ Some at) × (node_place p.arrivals (node_of b) ≡ Some at)
    place b i =
        let sound = sound-known k (saved-of m read.saved) in
        let at = changeset-came (known_with (known_of k) came) (own (known_of k) sound bytes came reads) (known_of k).objects m.blocks came new brings.brings b i in
        (at.0, at.1, ap (λ (l : List listed.Arrival). node_place l (node_of b)) done.came ∙ node-same came (node_of b) ∙ at.1)

    pub refused-large : (fault : PullFault) → IsLarge p fault → IsRefusedBy (Refuses k (OfBundle bytes)) fault
    refused-large fault large = by (large (with_kept m next) in-order)
      where
        Due : PullFault → Type 0
        Due = IsRefusedBy (Refuses k (OfBundle bytes))

        by : IsLargeBundle (kept_up_to p.first_new (m.blocks ++ new) m.tags) (drop p.first_new (m.blocks ++ new)) p.arrivals fault → Due fault
        by (inl is) = subst Due (sym is) tt
        by (inr (b, first, is)) =
            let found = sym sizes ∙ first in
            let at = place b (block-among k new b found) in
            subst Due (sym (is ∙ ap (refused_at StateLimit (node_of b)) at.2))
            (inr (record { arrivals = came; reads = reads; new = new; brings = brings; block = b; first = found; at = at.0; place = at.1; is = refl }))

    pub asked-after : (before now : ℕ) → now + 18 * p.first_new ≤ before + 18 * length (p.state).blocks → StepsHg (known_of k) bytes before now
    asked-after before now h = inr (record {
      arrivals = came;
      reads = reads;
      first = changesets_among came;
      others = [];
      split = sym (append-nil (changesets_among came));
      new = new;
      brings = brings.brings;
      few = few-steps p.state m.blocks new p.first_new before now done.next done.first_new h;
    })
