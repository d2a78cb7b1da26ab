-- What is known of a saved history stays known where more is saved behind it, and no two known objects have one id.
use Rattle.std.proofs.Common.{◌≡◌, ◌⊎◌, false, List, [], ◌++◌, refl, sym, subst, inl, inr}
use Rattle.std.specs.List.{list_any}
use Rattle.text_model.specs.Lists.{In}
use Rattle.text_model.proofs.Elements.{each_in, in_left, in_right, none_all}
use Rattle.git_model.specs.Object.{Object, is_other_content}
use Rattle.view_model.specs.View.{CommitView}
use Rattle.view_model.specs.Dump.{objects_in}
use Rattle.pair_model.specs.Block.{Block, commits_in}
use Rattle.state_model.specs.Kept.{Kept}
use Rattle.state_model.specs.Saved.{has_other_content}
use Rattle.saved_model.specs.Step.{next_of, dump_objects, known_of}
use Rattle.dump_law.proofs.CommitsHeld.{of_new}
use Rattle.dump_law.proofs.Streams.{of_append}
use Rattle.next_law.proofs.GitKnown.{distinct-after}
use Rattle.next_law.proofs.Known.{IsSaved}
use Rattle.next_law.proofs.ObjectLike.{IsKnownAs}
use Rattle.tag_law.proofs.Adds.{in-all, distinct-apart}
use Rattle.arrival_law.proofs.Objects.{all-known}
use Rattle.arrival_law.proofs.Known.{state-known, as-is, in-known}
use Rattle.right_law.proofs.Judged.{AreHere}
use Rattle.right_law.proofs.Changesets.{objects_front}

module _ (k : Kept) (saved : IsSaved k) where
  abbrev commits : List CommitView
  commits = commits_in k.blocks

  -- each tag is known
  tag-there : AreHere k.tags (known_of k).objects
  tag-there o i =
      let known = (known_of k).objects in
      in-known known o (as-is known o (each_in (IsKnownAs known) (dump_objects commits ++ k.tags) o (state-known k saved) (in_right o (dump_objects commits) k.tags i)))

  -- and each object of the commits
  pub commits-there : AreHere (objects_in commits) (known_of k).objects
  commits-there o i = each_in (λ p. In p (known_of k).objects) (objects_in commits) o (all-known k saved) i

  -- what is known is either
  known-from : (o : Object) → In o (known_of k).objects → In o (objects_in commits) ⊎ In o k.tags
  known-from o i = elim (of_append o (dump_objects commits) k.tags (in-all (dump_objects commits ++ k.tags) o i)) [
    | inl j ↦ inl (of_new commits saved.commits o j)
    | inr j ↦ inr j
  ]

  -- no two have one id
  pub one-known : has_other_content (known_of k).objects ≡ false
  one-known =
      let all = (known_of k).objects in
      none_all (λ o. list_any (is_other_content o) all) all (λ o i. none_all (is_other_content o) all (λ p j. distinct-apart all (distinct-after [] (dump_objects commits ++ k.tags) refl) o p i j))

-- what was known is known where more is saved behind it
pub objects-stay : (k : Kept) (new : List Block) (tags : List Object) → IsSaved k → IsSaved (next_of k new tags) → AreHere (known_of k).objects (known_of (next_of k new tags)).objects
objects-stay k new tags saved then o i = elim (known-from k saved o i) [
  | inl j ↦ commits-there (next_of k new tags) then o (subst (In o) (sym (objects_front k.blocks new)) (in_left o (objects_in (commits_in k.blocks)) (objects_in (commits_in new)) j))
  | inr j ↦ tag-there (next_of k new tags) then o (in_left o k.tags tags j)
]
