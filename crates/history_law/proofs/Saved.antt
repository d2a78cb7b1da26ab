-- What a saved state gives: its text, once it is read, is a sound state that holds each changeset.
use Rattle.std.proofs.Common.{◌≡◌, ◌≢◌, true≢false, List, [], ◌∷◌, ◌++◌, map, Ok, refl, sym, ap, subst, ◌∙◌, inl}
use Rattle.std.specs.Prelude.{IsTrue}
use Rattle.std.proofs.lemmas.Slice.Eq.{bytes_eq-Decides}
use Rattle.text_model.specs.Lists.{Each, In, rises}
use Rattle.text_model.specs.Text.{is_below}
use Rattle.text_model.specs.Id.{null, object_id}
use Rattle.text_model.proofs.EachLemmas.{Each-append}
use Rattle.text_model.proofs.Elements.{in_left, in_right, each_in}
use Rattle.hg_model.specs.Revision.{Revision, known_after_all}
use Rattle.hg_model.specs.Reading.{Arrival, bundle_reading}
use Rattle.git_model.specs.Object.{Object}
use Rattle.git_model.specs.Stream.{IsChecked}
use Rattle.git_model.specs.Tree.{has_distinct}
use Rattle.view_model.specs.View.{ChangesetView, IsCommitView, changeset_node, tree_paths}
use Rattle.view_model.specs.Held.{AreChangesetsHeld}
use Rattle.pair_model.specs.Block.{Block, node_of, changesets_in, commits_in}
use Rattle.partner_model.specs.Partner.{IsHeldView}
use Rattle.partner_model.specs.Table.{IsTable}
use Rattle.history_model.specs.Pull.{revisions_among}
use Rattle.state_model.specs.Kept.{State, kept_of, hg_dump}
use Rattle.state_model.specs.Saved.{AreDumped, AreCommitsSaved, IsState}
use Rattle.saved_model.specs.Step.{dump_revisions, dump_objects}
use Rattle.pull_law.specs.Sound.{HasOwnNode}
use Rattle.pull_law.proofs.Known.{objects-after, held-node}
use Rattle.dump_law.proofs.Blocks.{nodes-distinct, ids-blocks}
use Rattle.history_law.specs.Sound.{HasViews, IsSound}
use Rattle.history_law.proofs.Known.{changesets_of}
use Rattle.history_law.proofs.Read.{read-own}

-- ---- what the dumps say

-- what the dump of changesets brings where nothing is known: its revisions, in which each changeset is known with all that it stands for
pub record IsDumpRead (hs : List ChangesetView) : Type 0 where
  pub arrivals : List Arrival
  pub reads : bundle_reading [] (hg_dump hs) ≡ Ok arrivals
  pub are : revisions_among arrivals ≡ dump_revisions hs
  pub held : AreChangesetsHeld (known_after_all [] (dump_revisions hs)) (map changeset_node hs) hs

each-held : (known : List Revision) (hs : List ChangesetView) → AreChangesetsHeld known (map changeset_node hs) hs → Each (IsHeldView known) hs
each-held known [] held = tt
each-held known (h ∷ hs) held = (held.0, each-held known hs held.1)

own-nodes : (hs : List ChangesetView) → IsDumpRead hs → Each HasOwnNode (known_after_all [] (dump_revisions hs))
own-nodes hs read =
    subst (λ (rs : List Revision). Each HasOwnNode (known_after_all [] rs)) read.are (read-own [] (hg_dump hs) read.arrivals tt read.reads)

-- ---- a table

module _ (blocks : List Block) (known : List Revision) (own : Each HasOwnNode known) (held : Each (IsHeldView known) (changesets_in blocks)) where
  nodes-there : (bs : List Block) → ((h : ChangesetView) → In h (changesets_in bs) → In h (changesets_in blocks)) → Each (λ b. node_of b ≢ null) bs
  nodes-there [] in' = tt
  nodes-there (b ∷ bs) in' =
      let there = in' b.changeset (in_left b.changeset (changesets_of b) (changesets_in bs) (in_right b.changeset b.links (b.changeset ∷ []) (inl refl))) in
      let node = held-node known (node_of b) b.changeset own (each_in (IsHeldView known) (changesets_in blocks) b.changeset held there) in
      (λ e. true≢false (sym ((bytes_eq-Decides (node_of b) null).1 e) ∙ node.1), nodes-there bs (λ h i. in' h (in_right h (changesets_of b) (changesets_in bs) i)))

  rows-rise : (bs : List Block) → Each IsCommitView (commits_in bs) → Each (λ b. IsTrue (rises is_below (tree_paths (b.commit).rows))) bs
  rows-rise [] views = tt
  rows-rise (b ∷ bs) views = ((views.0).in_order, rows-rise bs views.1)

  pub saved-table : AreDumped (changesets_in blocks) → AreCommitsSaved (commits_in blocks) → IsTable blocks
  saved-table changesets commits = record {
    nodes = nodes-distinct blocks changesets.distinct;
    ids = ap has_distinct (sym (ids-blocks blocks)) ∙ commits.distinct;
    there = nodes-there blocks (λ h i. i);
    rows = rows-rise blocks commits.views;
  }

-- ---- objects

-- the objects of the stream of commits, and the tags, have the ids of their kinds and contents
pub record AreObjectsRight (s : State) : Type 0 where
  pub objects : IsChecked (dump_objects (commits_in s.blocks))
  pub tags : IsChecked s.tags

-- ---- the state

pub sound : (s : State) → IsState s → IsDumpRead (changesets_in s.blocks) → AreObjectsRight s → IsSound (kept_of s)
sound s is read right =
    let known = known_after_all [] (dump_revisions (changesets_in s.blocks)) in
    let sections = is.1 in
    let changesets : AreDumped (changesets_in s.blocks) = (sections.0.0.0.0.1).dumped in
    let commits : AreCommitsSaved (commits_in s.blocks) = sections.0.0.0.1 in
    let own = own-nodes (changesets_in s.blocks) read in
    let held = each-held known (changesets_in s.blocks) read.held in
    let checked = λ (o : Object). o.id ≡ object_id o.kind o.content in
    record {
      state = record {
        revisions = own;
        objects = objects-after checked [] (dump_objects (commits_in s.blocks) ++ s.tags) tt
            (Each-append checked (dump_objects (commits_in s.blocks)) s.tags right.objects right.tags);
        blocks = saved-table s.blocks known own held changesets commits;
      };
      held = held;
    }

pub has-views : (s : State) → IsState s → HasViews (kept_of s)
has-views s is = ((is.1.0.0.0.0.1).dumped).views
