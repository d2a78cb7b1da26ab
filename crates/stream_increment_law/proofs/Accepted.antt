-- The stream of the new commits of a right history is accepted over the earlier ones: it brings just the new blocks, and no tag.
use Rattle.std.proofs.Common.{◌≡◌, false, not, List, [], ◌++◌, map, filter, None, refl, sym, ap, subst, ◌∙◌}
use Rattle.std.specs.Prelude.{◌&&◌}
use Rattle.std.specs.List.{find}
use Rattle.std.proofs.lemmas.List.{append_cancel_left}
use Rattle.std.proofs.lemmas.List.Elements.{filter-append}
use Rattle.text_model.specs.Lists.{Each, In, first_of_each}
use Rattle.text_model.proofs.EachLemmas.{Each-rest}
use Rattle.text_model.proofs.Elements.{each_from, each_in, in_map, in_right, map_append}
use Rattle.git_model.specs.Object.{Object, objects_after_all, same_object}
use Rattle.git_model.specs.Order.{IsOrder, has}
use Rattle.git_model.specs.Stream.{Placed}
use Rattle.view_model.specs.View.{CommitView, IsCommitView, commit_objects}
use Rattle.view_model.specs.Dump.{git_increment}
use Rattle.pair_model.specs.Block.{Block, id_of, commits_in}
use Rattle.history_model.specs.Pull.{CommitsBring, objects_among, ancestries}
use Rattle.state_model.specs.Kept.{State, Kept, kept_of, ids_of, is_tag}
use Rattle.state_model.specs.Saved.{IsState}
use Rattle.state_model.specs.Tags.{leads}
use Rattle.saved_model.specs.Step.{AcceptsStream, dump_objects, known_of, lacks_target, new_tags, next_of, tags_came, with_blocks, first_large_tag}
use Rattle.dump_law.proofs.Commits.{own_in_order}
use Rattle.dump_law.proofs.CommitsHeld.{of_new}
use Rattle.dump_law.proofs.Streams.{own, of_flat}
use Rattle.pull_law.proofs.Searches.{none-found}
use Rattle.history_law.proofs.States.{saved-sound}
use Rattle.next_law.proofs.Known.{IsSaved, saved-of}
use Rattle.next_law.proofs.Room.{none-passed}
use Rattle.state_size.proofs.FirstLarge.{small-tags, no-large-block}
use Rattle.verify_model.specs.Holds.{Holds, StateHolds}
use Rattle.closure_model.specs.Arrives.{ancestry_of_block}
use Rattle.arrival_law.proofs.Arrivals.{keeps-none, is_commit, ancestry, commits-came, own-ancestries, part-alone}
use Rattle.arrival_law.proofs.Whole.{shaped}
use Rattle.stream_return_law.proofs.Outcome.{not_refused}
use Rattle.stream_return_law.proofs.Placement.{order_behind}
use Rattle.stream_increment_law.specs.Increment.{StreamGoesOn}
use Rattle.stream_increment_law.proofs.Arrives.{fresh_objects, dump_grows, more_commits, is-read}
use Rattle.stream_increment_law.proofs.Commits.{commits_bring_more}

-- ---- the law

module _ (k : Kept) (new : List Block) (tags : List Object) (saved : IsSaved k) (saved_next : IsSaved (record { blocks = k.blocks ++ new; tags = k.tags ++ tags }))
    (h : Holds (known_of (record { blocks = k.blocks ++ new; tags = k.tags ++ tags })).revisions (known_of (record { blocks = k.blocks ++ new; tags = k.tags ++ tags })).objects [] (k.blocks ++ new)) where
  abbrev next : Kept
  next = record { blocks = k.blocks ++ new; tags = k.tags ++ tags }

  abbrev cs : List CommitView
  cs = commits_in (k.blocks ++ new)

  abbrev fresh : List Object
  fresh = fresh_objects k.blocks new

  own_new : filter is_commit fresh ≡ map own (commits_in new)
  own_new =
      append_cancel_left (map own (commits_in k.blocks)) (filter is_commit fresh) (map own (commits_in new))
      (ap (λ (l : List Object). l ++ filter is_commit fresh) (sym (own_in_order (commits_in k.blocks) saved.commits)) ∙ sym (filter-append is_commit (dump_objects (commits_in k.blocks)) fresh)
      ∙ ap (filter is_commit) (sym (dump_grows k.blocks new)) ∙ own_in_order cs saved_next.commits ∙ ap (map own) (more_commits k.blocks new) ∙ map_append own (commits_in k.blocks) (commits_in new))

  no_tags : Each (λ o. is_tag o ≡ false) fresh
  no_tags = each_from (λ o. is_tag o ≡ false) fresh (λ o i.
      let r = of_flat commit_objects o cs (of_new cs saved_next.commits o (subst (In o) (sym (dump_grows k.blocks new)) (in_right o (dump_objects (commits_in k.blocks)) fresh i))) in
      part-alone r.0 (each_in IsCommitView cs r.0 (saved_next.commits).views r.1) o r.2)

  module _ (came : List Placed) (are : objects_among came ≡ fresh) where
    none_came : tags_came came ≡ []
    none_came = ap (first_of_each same_object) (ap (filter is_tag) are ∙ keeps-none is_tag fresh no_tags)

    none_new : new_tags k.tags came ≡ []
    none_new = (λ i. filter (λ o. not (has (ids_of k.tags) o.id) && leads (ids_of k.tags) (none_came i) o) (none_came i))

    has_targets : find (lacks_target (k.blocks ++ new) k.tags came) came ≡ None
    has_targets = none-found (lacks_target (k.blocks ++ new) k.tags came) came (each_from (λ o. lacks_target (k.blocks ++ new) k.tags came o ≡ false) came (λ o i.
        rw (each_in (λ o. is_tag o ≡ false) (objects_among came) o.object (subst (Each (λ o. is_tag o ≡ false)) (sym are) no_tags) (in_map (λ (x : Placed). x.object) o came i)) refl))

    commits_are : ancestries came ≡ map ancestry_of_block new
    commits_are =
        let views = Each-rest IsCommitView (commits_in k.blocks) (commits_in new) (subst (Each IsCommitView) (more_commits k.blocks new) (saved_next.commits).views) in
        commits-came came ∙ ap (λ (os : List Object). map ancestry (filter is_commit os)) are ∙ ap (map ancestry) own_new ∙ own-ancestries new views

  none_large : first_large_tag (with_blocks k new) [] ≡ None
  unfolding first_large_tag
  none_large = refl

  pub accepted : AcceptsStream k (git_increment (commits_in k.blocks) (commits_in new)) new []
  accepted =
      let read = is-read k new tags saved_next in
      record {
        came = read.came;
        reads = read.reads;
        brings = record {
          ordered = map id_of new;
          order = subst (λ x. IsOrder x (map id_of k.blocks) (map id_of new)) (sym (commits_are read.came read.are)) (order_behind (known_of next).revisions (known_of next).objects k.blocks new ((shaped next saved_next).ground).ids h);
          brings = subst (λ (os : List Object). CommitsBring (known_of k).revisions (objects_after_all (known_of k).objects os) k.blocks (map id_of new) new) (sym read.are) (commits_bring_more k new tags saved saved_next h);
        };
        targets = has_targets read.came read.are;
        tags_are = sym (none_new read.came read.are);
        small = no-large-block k new (small-tags (k.blocks ++ new) k.tags tags (none-passed next saved_next));
        small_tags = none_large;
      }

-- ---- from state to state

pub goes_on : (s next : State) (new : List Block) (tags : List Object) → IsState s → IsState next → kept_of next ≡ next_of (kept_of s) new tags → StateHolds next → StreamGoesOn (kept_of s) new
goes_on s next new tags is is_next e h =
    let saved = subst IsSaved e (saved-of next is_next) in
    let holds = subst (λ (k : Kept). Holds (known_of k).revisions (known_of k).objects [] k.blocks) e h in
    let a = accepted (kept_of s) new tags (saved-of s is) saved holds in
    record { accepted = a; no_fault = not_refused (kept_of s) (saved-sound s is).state (git_increment (commits_in s.blocks) (commits_in new)) new [] a }
