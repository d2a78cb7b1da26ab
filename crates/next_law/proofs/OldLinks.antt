-- The links of the blocks of a saved history are known.
use Rattle.std.proofs.Common.{List, [], ◌∷◌, ◌++◌, map}
use Rattle.text_model.specs.Lists.{Each}
use Rattle.hg_model.specs.Revision.{Revision}
use Rattle.view_model.specs.View.{ChangesetView, changeset_node}
use Rattle.view_model.specs.Held.{AreChangesetsHeld}
use Rattle.pair_model.specs.Block.{Block, changesets_in}
use Rattle.partner_model.specs.Partner.{IsHeldView, IsKnownAs}
use Rattle.state_model.specs.Saved.{AreBlocks}
use Rattle.unmark_law.proofs.Same.{same_changeset}
use Rattle.hg_view.proofs.Grown.{IsMore, view-more}
use Rattle.next_law.proofs.Linked.{AreKnownLinks}

each-held : (known : List Revision) (hs : List ChangesetView) → AreChangesetsHeld known (map changeset_node hs) hs → Each (λ h. IsHeldView known h) hs
each-held known [] held = tt
each-held known (h ∷ hs) held = (held.0, each-held known hs held.1)

pub held-more : (known other : List Revision) → IsMore known other → (hs : List ChangesetView) → AreChangesetsHeld known (map changeset_node hs) hs → AreChangesetsHeld other (map changeset_node hs) hs
held-more known other more [] held = tt
held-more known other more (h ∷ hs) held = (view-more known other more (changeset_node h) h held.0, held-more known other more hs held.1)

pub held-front : (known : List Revision) (hs ks : List ChangesetView) → AreChangesetsHeld known (map changeset_node (hs ++ ks)) (hs ++ ks) → AreChangesetsHeld known (map changeset_node hs) hs
held-front known [] ks held = tt
held-front known (h ∷ hs) ks held = (held.0, held-front known hs ks held.1)

pub held-rest : (known : List Revision) (hs ks : List ChangesetView) → AreChangesetsHeld known (map changeset_node (hs ++ ks)) (hs ++ ks) → AreChangesetsHeld known (map changeset_node ks) ks
held-rest known [] ks held = held
held-rest known (h ∷ hs) ks held = held-rest known hs ks held.1

known-as : (known : List Revision) (hs : List ChangesetView) → AreChangesetsHeld known (map changeset_node hs) hs → Each (IsKnownAs (IsHeldView known)) hs
known-as known [] held = tt
known-as known (h ∷ hs) held = ((h, held.0, same_changeset h), known-as known hs held.1)

pub old-links : (known : List Revision) (blocks : List Block) → AreBlocks blocks → AreChangesetsHeld known (map changeset_node (changesets_in blocks)) (changesets_in blocks) → Each (AreKnownLinks known) blocks
old-links known [] are held = tt
old-links known (b ∷ blocks) are held =
    let own = held-front known (b.links ++ b.changeset ∷ []) (changesets_in blocks) held in (
      record { known_as = known-as known b.links (held-front known b.links (b.changeset ∷ []) own); links = are.0.0 },
      old-links known blocks are.1 (held-rest known (b.links ++ b.changeset ∷ []) (changesets_in blocks) held),
    )
