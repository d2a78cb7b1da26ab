-- The stream of a right history with its tags is accepted where nothing is saved, and brings just the blocks and the tags.
use Rattle.std.proofs.Common.{◌≡◌, Bool, true, false, List, [], ◌∷◌, ◌++◌, map, None, refl, sym, ap, subst, ◌∙◌}
use Rattle.std.specs.Prelude.{filter, IsTrue}
use Rattle.std.specs.List.{find}
use Rattle.text_model.specs.Lists.{In, first_of_each}
use Rattle.text_model.specs.Id.{Id}
use Rattle.text_model.proofs.Elements.{each_from, each_in, in_map}
use Rattle.git_model.specs.Object.{Object, same_object, objects_after_all}
use Rattle.git_model.specs.Order.{IsOrder}
use Rattle.git_model.specs.Stream.{Placed, stream_text}
use Rattle.view_model.specs.View.{commit_id}
use Rattle.view_model.specs.Dump.{brought_by, paths_in}
use Rattle.pair_model.specs.Block.{Block, id_of, commits_in}
use Rattle.history_model.specs.Pull.{CommitsBring, objects_among}
use Rattle.state_model.specs.Kept.{Kept, git_dump, is_tag}
use Rattle.state_model.specs.Tags.{leads, has_target}
use Rattle.state_model.specs.Saved.{AreTagsSaved, passes_limit}
use Rattle.saved_model.specs.Step.{in_written_order, known_of, AcceptsStream, tags_came, new_tags, lacks_target}
use Rattle.dump_law.proofs.Elements.{in-filter}
use Rattle.pull_law.specs.Sound.{IsSoundState}
use Rattle.pull_law.proofs.Searches.{none-found}
use Rattle.state_size.proofs.FirstLarge.{small-tags, no-large-block, no-large-tag}
use Rattle.tag_section.proofs.Whole.{filter-all, first-distinct}
use Rattle.verify_model.specs.Holds.{Holds}
use Rattle.closure_model.specs.Shaped.{AreShaped, AreBlobsWritten}
use Rattle.closure_model.specs.Arrives.{StreamArrives}
use Rattle.closure_model.specs.Closure.{nothing}
use Rattle.stream_return_law.proofs.Bodies.{bodies_one}
use Rattle.stream_return_law.proofs.Commits.{commits_bring}
use Rattle.stream_return_law.proofs.Placement.{in_order}

-- ---- the tags

commit_ids : (blocks : List Block) → map commit_id (commits_in blocks) ≡ map id_of blocks
commit_ids [] = refl
commit_ids (b ∷ bs) = ap (λ (l : List Id). id_of b ∷ l) (commit_ids bs)

module _ (blocks : List Block) (tags : List Object) (a : StreamArrives blocks tags) (saved : AreTagsSaved (commits_in blocks) tags) where
  came_are : tags_came a.came ≡ tags
  came_are = ap (first_of_each same_object) a.tags_are ∙ first-distinct tags saved.distinct

  new_are : new_tags [] a.came ≡ tags
  new_are = (λ i. filter (λ o. leads [] (came_are i) o) (came_are i)) ∙ filter-all (λ o. leads [] tags o) tags saved.lead

  has_targets : find (lacks_target blocks [] a.came) a.came ≡ None
  has_targets = none-found (lacks_target blocks [] a.came) a.came (each_from (λ o. lacks_target blocks [] a.came o ≡ false) a.came (λ o i. by o i (is_tag o.object) refl))
    where
      by : (o : Placed) → In o a.came → (t : Bool) → is_tag o.object ≡ t → lacks_target blocks [] a.came o ≡ false
      by o i true f =
          let among : In o.object tags = subst (In o.object) a.tags_are (in-filter is_tag o.object (objects_among a.came) (in_map (λ (x : Placed). x.object) o a.came i) f) in
          let there : has_target (map commit_id (commits_in blocks)) [] tags o.object ≡ true = each_in (λ o. IsTrue (has_target (map commit_id (commits_in blocks)) [] tags o)) tags o.object saved.targets among in
          let here : has_target (map id_of blocks) [] (tags_came a.came) o.object ≡ true = (λ j. has_target (sym (commit_ids blocks) j) [] (sym (sym came_are) j) o.object) ∙ there in
          rw (f, here) refl
      by o i false f = rw f refl

-- ---- the law

-- pulls where nothing is saved come to one thing
pub nothing_sound : IsSoundState (known_of nothing)
unfolding in_written_order brought_by paths_in
nothing_sound = record { revisions = tt; objects = tt; blocks = record { nodes = refl; ids = refl; there = tt; rows = tt } }

pub accepted : (k : Kept) → Holds (known_of k).revisions (known_of k).objects [] k.blocks → AreShaped k → AreBlobsWritten k.blocks → AreTagsSaved (commits_in k.blocks) k.tags → passes_limit k ≡ false → (a : StreamArrives k.blocks k.tags)
    → AcceptsStream nothing (git_dump (commits_in k.blocks) ++ stream_text k.tags) k.blocks k.tags
unfolding in_written_order brought_by paths_in
accepted k h shaped w saved small a =
    let known = (known_of k).revisions in
    let objects = (known_of k).objects in
    let are : objects_after_all [] (objects_among a.came) ≡ (known_of k).objects = ap (objects_after_all []) a.objects in
    let apart = bodies_one known objects k.blocks shaped.commits w shaped.one_object h in
    let brings : CommitsBring [] (objects_after_all [] (objects_among a.came)) [] (map id_of k.blocks) k.blocks =
    commits_bring (known_of k).revisions (objects_after_all [] (objects_among a.came)) k shaped.ground shaped apart a.read (subst (λ (l : List Object). Holds (known_of k).revisions l [] k.blocks) (sym are) h) in
    record {
      came = a.came;
      reads = a.reads;
      brings = record { ordered = map id_of k.blocks; order = subst (λ x. IsOrder x [] (map id_of k.blocks)) (sym a.commits) (in_order known objects k.blocks (shaped.ground).ids h); brings = brings };
      targets = has_targets k.blocks k.tags a saved;
      tags_are = sym (new_are k.blocks k.tags a saved);
      small = no-large-block nothing k.blocks (small-tags k.blocks [] k.tags small);
      small_tags = no-large-tag (record { blocks = k.blocks; tags = [] }) k.tags small;
    }
