-- The first blocks of a history: they are one, and each block that holds is right over those before it.
use Rattle.std.proofs.Common.{◌≡◌, false, List, [], ◌∷◌, ◌++◌, map, sym, ap, subst, ◌∙◌, append_assoc, append-nil}
use Rattle.std.specs.Prelude.{IsTrue}
use Rattle.text_model.specs.Lists.{Each, In, rises}
use Rattle.text_model.specs.Text.{is_below}
use Rattle.text_model.proofs.EachLemmas.{Each-front}
use Rattle.text_model.proofs.Elements.{each_from, in_left, map_append, flat_map_append}
use Rattle.hg_model.specs.Revision.{Revision}
use Rattle.git_model.specs.Object.{Object}
use Rattle.git_model.specs.Tree.{has_distinct}
use Rattle.view_model.specs.View.{ChangesetView, changeset_node, tree_paths}
use Rattle.view_model.specs.Held.{AreChangesetsHeld}
use Rattle.pair_model.specs.Block.{Block, id_of, changesets_in}
use Rattle.pair_model.specs.Octopus.{is_link_view}
use Rattle.partner_model.specs.Partner.{IsHeldView}
use Rattle.verify_model.specs.Holds.{IsRight, Holds}
use Rattle.pull_law.proofs.Tables.{distinct-front}
use Rattle.frame_law.specs.Ground.{IsGround, AreAmong}

pub each_held : (known : List Revision) (hs : List ChangesetView) → AreChangesetsHeld known (map changeset_node hs) hs → Each (IsHeldView known) hs
each_held known [] held = tt
each_held known (h ∷ hs) held = (held.0, each_held known hs held.1)

pub changesets_front : (front more : List Block) → changesets_in (front ++ more) ≡ changesets_in front ++ changesets_in more
changesets_front front more = flat_map_append (λ (b : Block). b.links ++ b.changeset ∷ []) front more

pub ground_front : (front more : List Block) (K : ChangesetView → Type 0) → IsGround (front ++ more) K → IsGround front K
ground_front front more K g = record {
  nodes = distinct-front (map changeset_node (changesets_in front)) (map changeset_node (changesets_in more))
      (sym (ap (λ (hs : List ChangesetView). has_distinct (map changeset_node hs)) (changesets_front front more) ∙ ap has_distinct (map_append changeset_node (changesets_in front) (changesets_in more))) ∙ g.nodes);
  ids = distinct-front (map id_of front) (map id_of more) (sym (ap has_distinct (map_append id_of front more)) ∙ g.ids);
  rows = Each-front (λ (b : Block). IsTrue (rises is_below (tree_paths (b.commit).rows))) front more g.rows;
  known = Each-front K (changesets_in front) (changesets_in more) (subst (Each K) (changesets_front front more) g.known);
  no_links = Each-front (λ (b : Block). is_link_view b.changeset ≡ false) front more g.no_links;
  apart = g.apart;
  real = g.real;
}

pub front_among : (front more : List Block) → AreAmong front (front ++ more)
front_among front more = each_from (λ b. In b (front ++ more)) front (λ b i. in_left b front more i)

pub holds_at : (known : List Revision) (objects : List Object) (seen before : List Block) (b : Block) (after : List Block) → Holds known objects seen (before ++ b ∷ after) → IsRight known objects (seen ++ before) b
unfolding Holds
holds_at known objects seen [] b after h = subst (λ (bs : List Block). IsRight known objects bs b) (sym (append-nil seen)) h.0
holds_at known objects seen (x ∷ before) b after h =
    subst (λ (bs : List Block). IsRight known objects bs b) (append_assoc seen (x ∷ []) before) (holds_at known objects (seen ++ x ∷ []) before b after h.1)
