-- The stream of the tags that are kept is read over the objects of the commits.
use Rattle.std.proofs.Common.{◌≡◌, false, not, List, [], ◌∷◌, ◌++◌, Result, Ok, refl, sym, ap, subst, ◌∙◌, append-nil, arith}
use Rattle.std.specs.Prelude.{is_ok, is_some, IsTrue}
use Rattle.std.specs.List.{list_any}
use Rattle.text_model.specs.Lists.{Each, In, first_of_each}
use Rattle.text_model.specs.Text.{IsBytes}
use Rattle.text_model.proofs.EachLemmas.{Each-append, Each-weaker}
use Rattle.text_model.proofs.Elements.{each_in, each_from, in_left, none_in, none_all, map_append, flat_map_append}
use Rattle.text_model.proofs.Options.{or_parts}
use Rattle.text_model.specs.Id.{object_id}
use Rattle.git_model.specs.Object.{Object, same_object, is_other_content, objects_after, objects_after_all}
use Rattle.git_model.specs.Stream.{Placed, IsFit, stream_text, stream_reading}
use Rattle.git_store.specs.Known.{AreKnown}
use Rattle.git_batch.proofs.StreamLaws.{brings_all, brings_only}
use Rattle.hg_model.specs.Revision.{Revision}
use Rattle.view_model.specs.View.{CommitView, commit_id, commit_objects}
use Rattle.view_model.specs.Dump.{objects_in}
use Rattle.pair_model.specs.Block.{Block, block_of_id, commits_in}
use Rattle.pair_model.specs.Collision.{commit_collides}
use Rattle.partner_model.specs.Clash.{is_any_saved}
use Rattle.history_model.specs.Pull.{State, known_with, objects_with, objects_among}
use Rattle.state_model.specs.Kept.{Kept, kept_of, git_dump, is_tag}
use Rattle.saved_model.specs.Step.{Pull, OfBundle, OfStream, Accepts, dump_objects, known_of, new_tags}
use Rattle.dump_law.proofs.Elements.{of-filter, of-first}
use Rattle.next_law.specs.Next.{IsLeftOfBytes, input_of}
use Rattle.next_law.specs.Next.{HasRoom}
use Rattle.next_law.proofs.Bytes.{dump-bytes, tags-bytes}
use Rattle.next_law.proofs.GitKnown.{stream-known}
use Rattle.next_law.proofs.Known.{IsSaved, saved-of, sound-known}
use Rattle.next_law.proofs.NewBlocks.{IsOfBundle, IsOfStream, each-new}
use Rattle.next_law.proofs.ObjectLike.{IsKnownAs, known-more, all-more, commit-known}
use Rattle.next_law.proofs.Objects.{HasContent, are-read, adds-contents}
use Rattle.next_law.proofs.OneGit.{old-known}
use Rattle.next_law.proofs.Pulls.{bundle-new, stream-new}
use Rattle.next_law.proofs.Room.{room-left}
use Rattle.tag_law.specs.Tags.{HasDistinctTags, HasTagStream}
use Rattle.tag_law.proofs.Adds.{adds-apart, adds-all, adds-known, in-all, distinct-apart, known-two, as-known}
use Rattle.tag_law.proofs.Comes.{comes}
use Rattle.tag_law.proofs.DistinctTags.{distinct-left}
use Rattle.tag_law.proofs.TagsOnly.{of-came, of-new}

pub after-append : (known xs ys : List Object) → objects_after_all known (xs ++ ys) ≡ objects_after_all (objects_after_all known xs) ys
after-append known [] ys = refl
after-append known (x ∷ xs) ys = after-append (objects_after known x) xs ys

-- no object that is known is another one than this
abbrev Agrees : List Object → Object → Type 0
Agrees known x = (t : Object) → IsKnownAs known t → is_other_content t x ≡ false

agrees-known : (known : List Object) (x : Object) → IsKnownAs known x → Agrees known x
agrees-known known x h t k = known-two known t x k h

of-blocks : (P : Object → Type 0) (blocks : List Block) → Each (λ b. Each P (commit_objects b.commit)) blocks → Each P (objects_in (commits_in blocks))
of-blocks P [] h = tt
of-blocks P (b ∷ blocks) h = Each-append P (commit_objects b.commit) (objects_in (commits_in blocks)) h.0 (of-blocks P blocks h.1)

more-objects : (old new : List Block) → objects_in (commits_in (old ++ new)) ≡ objects_in (commits_in old) ++ objects_in (commits_in new)
more-objects old new = ap objects_in (map_append (λ (b : Block). b.commit) old new) ∙ flat_map_append commit_objects (commits_in old) (commits_in new)

-- ---- the new blocks

module _ (s : State) where
  bundle-own : (known : List Revision) (front : List Block) (b : Block) → IsOfBundle s known front b → Each (Agrees s.objects) (commit_objects b.commit)
  bundle-own known front b h =
      let objects = s.objects ++ objects_in (commits_in front) in
      let own = commit_objects b.commit in
      let side = (or_parts (commit_collides objects (s.blocks ++ front) b.commit) (is_any_saved (s.blocks ++ front) b.links) (((h.gives).passes).apart)).0 in
      let none = (or_parts (list_any (λ o. list_any (is_other_content o) (objects ++ own)) own) (is_some (block_of_id (s.blocks ++ front) (commit_id b.commit))) side).0 in
      each_from (Agrees s.objects) own (λ x i. as-known s.objects x (none_all (is_other_content x) s.objects (λ y j.
      none_in (is_other_content x) (objects ++ own) y (none_in (λ o. list_any (is_other_content o) (objects ++ own)) own x none i)
      (in_left y objects own (in_left y s.objects (objects_in (commits_in front)) j)))))

  stream-own : (objects : List Object) → AreKnown objects → (front : List Block) (b : Block) → IsOfStream s objects front b → Each (Agrees objects) (commit_objects b.commit)
  stream-own objects are front b h =
      let gives = h.gives in
      let is : b.commit ≡ gives.view = ap (λ (d : Block). d.commit) ((gives.passes).block).2 in
      subst (λ (c : CommitView). Each (Agrees objects) (commit_objects c)) (sym is)
      (Each-weaker (IsKnownAs objects) (Agrees objects) (agrees-known objects) (commit_objects gives.view) (commit-known objects are h.id gives.view gives.is_held gives.walks))

-- ---- all that is known

-- some known objects hold each of the tags, and none is another one than an object of the commits
record AreTagsKnown (blocks : List Block) (tags : List Object) : Type 0 where
  known : List Object
  tags_known : Each (IsKnownAs known) tags
  agree : Each (Agrees known) (objects_in (commits_in blocks))

module _ (k : Kept) (saved : IsSaved k) (dump : IsBytes (git_dump (commits_in k.blocks))) (text : IsBytes (stream_text k.tags)) where
  abbrev cs : List CommitView
  cs = commits_in k.blocks

  abbrev known : List Object
  known = (known_of k).objects

  -- what the dump brings are objects of the commits
  of-dump : (x : Object) → In x (objects_after_all [] (dump_objects cs)) → In x (objects_in cs)
  of-dump x i =
      of-first same_object x (objects_in cs)
      (of-filter (λ o. not (list_any (same_object o) [])) x (first_of_each same_object (objects_in cs)) (in-all (dump_objects cs) x i))

  old-tags : Each (IsKnownAs known) k.tags
  old-tags =
      let first = objects_after_all [] (dump_objects cs) in
      let read = are-read (objects_in cs) k.tags (saved.tags).read in
      let adds = adds-all first k.tags (adds-contents (objects_in cs) k.tags read.adds) (λ o x i j. adds-apart (objects_in cs) k.tags read.adds o x i (of-dump x j))
      (distinct-apart k.tags (saved.tags).distinct) in
      subst (λ (os : List Object). Each (IsKnownAs os) k.tags) (sym (after-append [] (dump_objects cs) k.tags)) (adds-known first k.tags adds)

  old-agree : Each (Agrees known) (objects_in cs)
  old-agree = Each-weaker (IsKnownAs known) (Agrees known) (agrees-known known) (objects_in cs) (old-known k saved dump)

  joined : (objects : List Object) (new : List Block) → Each (Agrees objects) (objects_in cs) → Each (λ b. Each (Agrees objects) (commit_objects b.commit)) new
      → Each (Agrees objects) (objects_in (commits_in (k.blocks ++ new)))
  joined objects new old own =
      subst (Each (Agrees objects)) (sym (more-objects k.blocks new)) (Each-append (Agrees objects) (objects_in cs) (objects_in (commits_in new)) old (of-blocks (Agrees objects) new own))

  tags-known : (pull : Pull) (new : List Block) (added : List Object) → IsBytes (input_of pull) → Accepts k pull new added → AreTagsKnown (k.blocks ++ new) (k.tags ++ added)
  tags-known (OfBundle bundle) new added bytes (a, none) =
      let s = known_of k in
      let own = each-new (IsOfBundle s (known_with s a.arrivals)) (λ b. Each (Agrees known) (commit_objects b.commit)) (bundle-own s (known_with s a.arrivals)) [] new (bundle-new k (sound-known k saved) bundle new a) in
      record {
        known = known;
        tags_known = subst (λ (l : List Object). Each (IsKnownAs known) (k.tags ++ l)) (sym none) (subst (Each (IsKnownAs known)) (sym (append-nil k.tags)) old-tags);
        agree = joined known new old-agree own;
      }
  tags-known (OfStream stream) new added bytes a =
      let s = known_of k in
      let objects = objects_with s a.came in
      let more = all-more known (objects_among a.came) in
      let own = each-new (IsOfStream s objects) (λ b. Each (Agrees objects) (commit_objects b.commit)) (stream-own s objects (stream-known k saved dump text stream a.came a.reads bytes)) [] new
      (stream-new k (sound-known k saved) stream new added a) in
      let old = Each-weaker (IsKnownAs known) (Agrees objects) (λ o x. agrees-known objects o (known-more known objects more o x)) (objects_in cs) (old-known k saved dump) in
      let came = adds-known known (objects_among a.came) (brings_only known stream a.came a.reads).2 in
      let fresh = each_from (IsKnownAs objects) (new_tags k.tags a.came) (λ o i. each_in (IsKnownAs objects) (objects_among a.came) o came
      (of-filter is_tag o (objects_among a.came) (of-came a.came o (of-new k.tags a.came o i)))) in
      record {
        known = objects;
        tags_known = Each-append (IsKnownAs objects) k.tags added (Each-weaker (IsKnownAs known) (IsKnownAs objects) (λ o x. known-more known objects more o x) k.tags old-tags)
            (subst (Each (IsKnownAs objects)) (sym a.tags_are) fresh);
        agree = joined objects new old own;
      }

-- ---- the law

-- a part of what came is a part of the new tags
each-fresh : (P : Object → Type 0) (kept : List Object) (came : List Placed) → Each P (objects_among came) → Each P (new_tags kept came)
each-fresh P kept came each =
    each_from P (new_tags kept came) (λ o i. each_in P (objects_among came) o each (of-filter is_tag o (objects_among came) (of-came came o (of-new kept came o i))))

ok-is : {X Y : Type 0} (r : Result X Y) (x : X) → r ≡ Ok x → IsTrue (is_ok r)
ok-is r x e = ap is_ok e

pub read-left : IsLeftOfBytes HasTagStream
read-left s pull k made is text input (new, added, accepts, next, wrote) =
    let old = kept_of s in
    let saved = saved-of s is in
    let c = comes old pull new added accepts in
    let tags = s.tags ++ added in
    let known = objects_in (commits_in (s.blocks ++ new)) in
    let read = are-read (objects_in (commits_in s.blocks)) s.tags (saved.tags).read in
    let all = tags-known old saved (dump-bytes s text) (tags-bytes s text) pull new added input accepts in
    let distinct = subst HasDistinctTags next (distinct-left s pull k made is (new, added, accepts, next, wrote)) in
    let room = subst HasRoom next (room-left s pull k made is (new, added, accepts, next, wrote)) in
    let each : (P : Object → Type 0) → Each P s.tags → Each P (objects_among c.came) → Each P tags =
    (λ P a b. Each-append P s.tags added a (subst (Each P) (sym c.added_are) (each-fresh P s.tags c.came b))) in
    let contents = each HasContent (adds-contents (objects_in (commits_in s.blocks)) s.tags read.adds) (adds-contents (known_of old).objects (objects_among c.came) c.adds) in
    let adds = adds-all known tags contents (λ t x i j. each_in (Agrees all.known) known x all.agree j t (each_in (IsKnownAs all.known) tags t all.tags_known i)) (distinct-apart tags distinct) in
    let brings = brings_all known tags (each IsFit read.fit c.fit) (omega (arith, room.git)) (each (λ o. o.id ≡ object_id o.kind o.content) read.checked c.checked) adds in
    subst HasTagStream (sym next) (ok-is (stream_reading known (stream_text tags)) brings.placed brings.reads)
