-- Behind the stream each new commit is known and its tree can be walked; and all that is known then is known of the longer history too.
use Rattle.std.proofs.Common.{◌≡◌, List, [], ◌++◌, None, refl, sym, subst, inl, inr}
use Rattle.std.specs.Prelude.{IsTrue}
use Rattle.text_model.specs.Lists.{Each, In}
use Rattle.text_model.specs.Id.{tree, same_kind, object_id}
use Rattle.text_model.proofs.EachLemmas.{Each-append, Each-front, Each-rest, Each-weaker}
use Rattle.text_model.proofs.Elements.{each_from, each_in, in_left, in_right}
use Rattle.git_model.specs.Tree.{TreeEntry, IsTreeText}
use Rattle.git_model.specs.Object.{Object, AreObjects, objects_after_all}
use Rattle.git_model.specs.Unfold.{walk_fault}
use Rattle.tree_shape.specs.Laws.{IsKnown}
use Rattle.view_model.specs.View.{CommitView}
use Rattle.view_model.specs.Dump.{objects_in}
use Rattle.pair_model.specs.Block.{Block, commits_in}
use Rattle.state_model.specs.Kept.{Kept}
use Rattle.saved_model.specs.Step.{dump_objects, known_of}
use Rattle.dump_law.proofs.CommitsHeld.{brought_there, tree_is, all_walks, commits_held}
use Rattle.dump_law.proofs.Streams.{of_append}
use Rattle.next_law.proofs.GitKnown.{distinct-after}
use Rattle.next_law.proofs.Known.{IsSaved}
use Rattle.next_law.proofs.ObjectLike.{IsKnownAs, all-more, known-more}
use Rattle.next_law.proofs.Objects.{known-checked}
use Rattle.tag_law.proofs.Adds.{in-all}
use Rattle.tag_law.proofs.TagsRead.{after-append}
use Rattle.closure_model.specs.Arrives.{AreCommitsRead}
use Rattle.arrival_law.proofs.Objects.{each-commit, each-held, no-tree}
use Rattle.arrival_law.proofs.Known.{read-known, state-known, as-is, in-known}
use Rattle.stream_increment_law.proofs.Arrives.{fresh_objects, dump_grows, more_commits, is-read}

-- ---- all that is known behind the stream

module _ (k : Kept) (new : List Block) (tags : List Object) (own : IsSaved k) (all : IsSaved (record { blocks = k.blocks ++ new; tags = k.tags ++ tags })) where
  abbrev next : Kept
  next = record { blocks = k.blocks ++ new; tags = k.tags ++ tags }

  abbrev old : List Object
  old = dump_objects (commits_in k.blocks)

  abbrev fresh : List Object
  fresh = fresh_objects k.blocks new

  abbrev cs : List CommitView
  cs = commits_in (k.blocks ++ new)

  abbrev known : List Object
  known = objects_after_all (known_of k).objects fresh

  grows : dump_objects cs ≡ old ++ fresh
  grows = dump_grows k.blocks new

  old-known : Each (IsKnownAs known) (old ++ k.tags)
  old-known = Each-weaker (IsKnownAs (known_of k).objects) (IsKnownAs known) (λ o x. known-more (known_of k).objects known (all-more (known_of k).objects fresh) o x) (old ++ k.tags) (state-known k own)

  fresh-known : Each (IsKnownAs known) fresh
  fresh-known =
      let r = is-read k new tags all in
      subst (λ (os : List Object). Each (IsKnownAs (objects_after_all (known_of k).objects os)) os) r.are (read-known (known_of k).objects _ r.came r.reads)

  dump-in : (o : Object) → In o (objects_in cs) → In o (dump_objects cs)
  dump-in o i = in-all (dump_objects cs) o (in-known (objects_after_all [] (dump_objects cs)) o (brought_there cs all.commits o i))

  there : (o : Object) → In o (objects_in cs) → IsKnown known o
  there o i = as-is known o (each_in (IsKnownAs known) (old ++ fresh) o (Each-append (IsKnownAs known) old fresh (Each-front (IsKnownAs known) old k.tags old-known) fresh-known)
      (subst (In o) grows (dump-in o i)))

  -- it is of the dump of the whole, or a tag
  of-known : (o : Object) → In o known → In o (dump_objects cs ++ k.tags)
  of-known o i = elim (of_append o (old ++ k.tags) fresh (in-all ((old ++ k.tags) ++ fresh) o (subst (In o) (sym (after-append [] (old ++ k.tags) fresh)) i))) [
    | inl j ↦ elim (of_append o old k.tags j) [ inl d ↦ in_left o (dump_objects cs) k.tags (subst (In o) (sym grows) (in_left o old fresh d)) | inr t ↦ in_right o (dump_objects cs) k.tags t ]
    | inr j ↦ in_left o (dump_objects cs) k.tags (subst (In o) (sym grows) (in_right o old fresh j))
  ]

  -- all of it is known of the whole
  pub known-here : (o : Object) → In o known → In o (known_of next).objects
  known-here o i =
      let whole = each_in (IsKnownAs (known_of next).objects) (dump_objects cs ++ (k.tags ++ tags)) o (state-known next all) in
      in-known (known_of next).objects o (as-is (known_of next).objects o (elim (of_append o (dump_objects cs) k.tags (of-known o i)) [
        | inl j ↦ whole (in_left o (dump_objects cs) (k.tags ++ tags) j)
        | inr t ↦ whole (in_right o (dump_objects cs) (k.tags ++ tags) (in_left o k.tags tags t))
      ]))

  are-objects : AreObjects known
  are-objects = record {
    distinct = distinct-after (known_of k).objects fresh (distinct-after [] (old ++ k.tags) refl);
    ids = each_from (λ o. o.id ≡ object_id o.kind o.content) known (λ o i. each_in (λ o. o.id ≡ object_id o.kind o.content) (known_of next).objects o (known-checked next all.commits all.tags) (known-here o i));
    trees = each_from (λ o. IsTrue (same_kind o.kind tree) → (entries : List TreeEntry) × IsTreeText o.content entries) known (λ o i t. elim (of_append o (dump_objects cs) k.tags (of-known o i)) [
      | inl j ↦ tree_is cs all.commits o j t
      | inr j ↦ absurd (no-tree k own o j t)
    ]);
  }

  pub new-read : AreCommitsRead known new
  new-read = record {
    held = each-held known new (commits_held cs all.commits known are-objects there (commits_in new) (λ c i. subst (In c) (sym (more_commits k.blocks new)) (in_right c (commits_in k.blocks) (commits_in new) i)));
    walks = each-commit (λ c. walk_fault known (c.value).tree_id ≡ None) new
        (Each-rest (λ c. walk_fault known (c.value).tree_id ≡ None) (commits_in k.blocks) (commits_in new)
        (subst (Each (λ c. walk_fault known (c.value).tree_id ≡ None)) (more_commits k.blocks new) (all_walks cs all.commits known are-objects there)));
  }
