-- What is known where a history is saved: all that its dump brings, and no null id.
use Rattle.std.proofs.Common.{◌≡◌, true, false, List, [], ◌∷◌, map, refl, sym, subst}
use Rattle.text_model.specs.Lists.{Each}
use Rattle.text_model.specs.Id.{is_null}
use Rattle.hg_model.specs.Revision.{Revision, known_after_all}
use Rattle.hg_bundle.specs.Brought.{AreAdditions}
use Rattle.view_model.specs.View.{ChangesetView, changeset_node}
use Rattle.view_model.specs.Held.{AreChangesetsHeld}
use Rattle.view_model.specs.Dump.{brought_by}
use Rattle.pair_model.specs.Block.{changesets_in, commits_in}
use Rattle.state_model.specs.Kept.{State, Kept, kept_of}
use Rattle.state_model.specs.Saved.{AreDumped, AreCommitsSaved, AreTagsSaved, AreBlocks, IsState, links_lead}
use Rattle.saved_model.specs.Step.{in_written_order, dump_revisions, known_of}
use Rattle.hg_dump_law.specs.Taken.{in_bundle_order}
use Rattle.dump_law.proofs.Dumped.{dump_is_read}
use Rattle.dump_law.proofs.Order.{dump-held}
use Rattle.pull_law.specs.Sound.{HasOwnNode, IsSoundState}
use Rattle.pull_law.proofs.Known.{own-after, held-node}
use Rattle.next_law.proofs.Objects.{HasContent, known-checked, known-contents}
use Rattle.next_law.proofs.Table.{is-table}

-- the sections of a history that is saved, without its names
pub record IsSaved (k : Kept) : Type 0 where
  pub blocks : AreBlocks k.blocks
  pub dumped : AreDumped (changesets_in k.blocks)
  pub links : links_lead 0 (changesets_in k.blocks) ≡ true
  pub commits : AreCommitsSaved (commits_in k.blocks)
  pub tags : AreTagsSaved (commits_in k.blocks) k.tags

pub saved-of : (s : State) → IsState s → IsSaved (kept_of s)
saved-of s is =
    let h = is.1 in
    record { blocks = is.0; dumped = (h.0.0.0.0.1).dumped; links = (h.0.0.0.0.1).links; commits = h.0.0.0.1; tags = h.0.1 }

pub in-order : (rs : List Revision) → in_written_order rs ≡ in_bundle_order rs
unfolding in_written_order in_bundle_order
in-order rs = refl

module _ (k : Kept) (saved : IsSaved k) where
  abbrev changesets : List ChangesetView
  changesets = changesets_in k.blocks

  pub additions : AreAdditions [] 0 (dump_revisions changesets)
  additions = subst (AreAdditions [] 0) (sym (in-order (brought_by [] changesets))) (dump_is_read changesets saved.dumped).additions

  pub own-known : Each HasOwnNode (known_of k).revisions
  own-known = own-after [] 0 (dump_revisions changesets) tt additions

  -- each changeset is held under its node
  pub held-known : AreChangesetsHeld (known_of k).revisions (map changeset_node changesets) changesets
  held-known = subst (λ (rs : List Revision). AreChangesetsHeld (known_after_all [] rs) (map changeset_node changesets) changesets) (sym (in-order (brought_by [] changesets))) (dump-held changesets saved.dumped)

  some-nodes : (hs : List ChangesetView) → AreChangesetsHeld (known_of k).revisions (map changeset_node hs) hs → Each (λ h. is_null (changeset_node h) ≡ false) hs
  some-nodes [] held = tt
  some-nodes (h ∷ hs) held = ((held-node (known_of k).revisions (changeset_node h) h own-known held.0).1, some-nodes hs held.1)

  pub sound-known : IsSoundState (known_of k)
  sound-known = record {
    revisions = own-known;
    objects = known-checked k saved.commits saved.tags;
    blocks = is-table k.blocks (saved.dumped).distinct (saved.commits).distinct (some-nodes changesets held-known) (saved.commits).views;
  }

  pub contents-known : Each HasContent (known_of k).objects
  contents-known = known-contents k saved.commits saved.tags
