-- No object of the commits that a pull leaves is another one of the same id.
use Rattle.std.proofs.Common.{◌≡◌, List, [], ◌∷◌, ◌++◌, map, None, refl, sym, ap, subst, ◌∙◌, append_assoc, append-nil}
use Rattle.std.specs.Prelude.{is_some}
use Rattle.std.specs.List.{list_any}
use Rattle.text_model.specs.Lists.{Each}
use Rattle.text_model.specs.Text.{IsBytes}
use Rattle.text_model.proofs.EachLemmas.{Each-append, Each-weaker}
use Rattle.text_model.proofs.Options.{or_parts}
use Rattle.hg_model.specs.Revision.{Revision}
use Rattle.git_model.specs.Object.{Object, is_other_content, objects_after, objects_after_all}
use Rattle.git_model.specs.Unfold.{walk_fault}
use Rattle.git_store.specs.Known.{AreKnown}
use Rattle.view_model.specs.View.{CommitView, commit_id, commit_objects}
use Rattle.view_model.specs.Held.{AreCommitsHeld}
use Rattle.view_model.specs.Dump.{objects_in}
use Rattle.pair_model.specs.Block.{Block, block_of_id, commits_in}
use Rattle.pair_model.specs.Collision.{commit_collides}
use Rattle.partner_model.specs.Clash.{is_any_saved}
use Rattle.history_model.specs.Pull.{State, known_with, objects_with, objects_among}
use Rattle.state_model.specs.Kept.{Kept, kept_of, git_dump}
use Rattle.saved_model.specs.Step.{Pull, OfBundle, OfStream, Accepts, dump_objects, known_of}
use Rattle.git_model.specs.Stream.{stream_text}
use Rattle.pull_law.proofs.Known.{objects-after}
use Rattle.dump_law.proofs.CommitsHeld.{git-held, git-walks}
use Rattle.next_law.specs.Next.{IsLeftOfBytes, HasNoneOther, input_of}
use Rattle.next_law.proofs.Bytes.{contents-bytes, dump-bytes, tags-bytes}
use Rattle.next_law.proofs.GitKnown.{are-known, distinct-after, stream-known}
use Rattle.next_law.proofs.Known.{IsSaved, saved-of, sound-known}
use Rattle.next_law.proofs.NewBlocks.{AreNew, IsOfBundle, IsOfStream, commits-more}
use Rattle.next_law.proofs.ObjectLike.{IsKnownAs, known-more, append-more, all-more, none-other, commit-known, added-known}
use Rattle.next_law.proofs.Objects.{dump-is, dump-read, adds-contents}
use Rattle.next_law.proofs.Pulls.{bundle-new, stream-new}

known-push : (known : List Object) (blocks : List Block) (b : Block) → Each (IsKnownAs known) (objects_in (commits_in blocks)) → Each (IsKnownAs known) (commit_objects b.commit) → Each (IsKnownAs known) (objects_in (commits_in (blocks ++ b ∷ [])))
known-push known blocks b each own =
    subst (Each (IsKnownAs known)) (sym (commits-more blocks b)) (Each-append (IsKnownAs known) (objects_in (commits_in blocks)) (commit_objects b.commit) each own)

-- ---- what was there

after-append : (known xs ys : List Object) → objects_after_all known (xs ++ ys) ≡ objects_after_all (objects_after_all known xs) ys
after-append known [] ys = refl
after-append known (x ∷ xs) ys = after-append (objects_after known x) xs ys

module _ (known : List Object) (are : AreKnown known) where
  all-known : (cs : List CommitView) → AreCommitsHeld known (map commit_id cs) cs → Each (λ c. walk_fault known (c.value).tree_id ≡ None) cs → Each (IsKnownAs known) (objects_in cs)
  all-known [] held walks = tt
  all-known (c ∷ cs) held walks = Each-append (IsKnownAs known) (commit_objects c) (objects_in cs) (commit-known known are (commit_id c) c held.0 walks.0) (all-known cs held.1 walks.1)

module _ (k : Kept) (saved : IsSaved k) (dump : IsBytes (git_dump (commits_in k.blocks))) where
  dumped-known : AreKnown (objects_after_all [] (dump_objects (commits_in k.blocks)))
  dumped-known =
      let objects = dump_objects (commits_in k.blocks) in
      let read = dump-read (commits_in k.blocks) saved.commits in
      are-known (objects_after_all [] objects) (distinct-after [] objects refl)
      (objects-after _ [] objects tt read.checked) (objects-after _ [] objects tt (adds-contents [] objects read.adds))
      (objects-after _ [] objects tt (contents-bytes objects (subst IsBytes (dump-is (commits_in k.blocks)) dump)))

  pub old-known : Each (IsKnownAs (known_of k).objects) (objects_in (commits_in k.blocks))
  old-known =
      let cs = commits_in k.blocks in
      let first = objects_after_all [] (dump_objects cs) in
      let each = all-known first dumped-known cs (git-held cs saved.commits) (git-walks cs saved.commits) in
      subst (λ (os : List Object). Each (IsKnownAs os) (objects_in cs)) (sym (after-append [] (dump_objects cs) k.tags))
      (Each-weaker (IsKnownAs first) (IsKnownAs (objects_after_all first k.tags)) (λ o x. known-more first (objects_after_all first k.tags) (all-more first k.tags) o x) (objects_in cs) each)

-- ---- a bundle

module _ (s : State) (known : List Revision) where
  bundle-known : (front new : List Block) → AreNew (IsOfBundle s known) front new → Each (IsKnownAs (s.objects ++ objects_in (commits_in front))) (objects_in (commits_in (s.blocks ++ front)))
      → Each (IsKnownAs (s.objects ++ objects_in (commits_in (front ++ new)))) (objects_in (commits_in (s.blocks ++ (front ++ new))))
  bundle-known front [] h each = subst (λ (l : List Block). Each (IsKnownAs (s.objects ++ objects_in (commits_in l))) (objects_in (commits_in (s.blocks ++ l)))) (sym (append-nil front)) each
  bundle-known front (b ∷ new) h each =
      let objects = s.objects ++ objects_in (commits_in front) in
      let own = commit_objects b.commit in
      let blocks = s.blocks ++ front in
      let side = (or_parts (commit_collides objects blocks b.commit) (is_any_saved blocks b.links) (((h.0).gives).passes).apart).0 in
      let none = (or_parts (list_any (λ o. list_any (is_other_content o) (objects ++ own)) own) (is_some (block_of_id blocks (commit_id b.commit))) side).0 in
      let old = Each-weaker (IsKnownAs objects) (IsKnownAs (objects ++ own)) (λ o x. known-more objects (objects ++ own) (append-more objects own) o x) (objects_in (commits_in blocks)) each in
      let more = known-push (objects ++ own) blocks b old (added-known objects own none) in
      let longer : objects ++ own ≡ s.objects ++ objects_in (commits_in (front ++ b ∷ [])) =
      append_assoc s.objects (objects_in (commits_in front)) own ∙ ap (λ (l : List Object). s.objects ++ l) (sym (commits-more front b)) in
      let turned = subst (λ (os : List Object). Each (IsKnownAs os) (objects_in (commits_in (blocks ++ b ∷ [])))) longer more in
      subst (λ (l : List Block). Each (IsKnownAs (s.objects ++ objects_in (commits_in l))) (objects_in (commits_in (s.blocks ++ l)))) (append_assoc front (b ∷ []) new)
      (bundle-known (front ++ b ∷ []) new h.1
      (subst (λ (l : List Block). Each (IsKnownAs (s.objects ++ objects_in (commits_in (front ++ b ∷ [])))) (objects_in (commits_in l))) (append_assoc s.blocks front (b ∷ [])) turned))

-- ---- a stream

module _ (s : State) (objects : List Object) (are : AreKnown objects) where
  stream-each : (front new : List Block) → AreNew (IsOfStream s objects) front new → Each (IsKnownAs objects) (objects_in (commits_in (s.blocks ++ front))) → Each (IsKnownAs objects) (objects_in (commits_in (s.blocks ++ (front ++ new))))
  stream-each front [] h each = subst (λ (l : List Block). Each (IsKnownAs objects) (objects_in (commits_in (s.blocks ++ l)))) (sym (append-nil front)) each
  stream-each front (b ∷ new) h each =
      let gives = (h.0).gives in
      let is : b.commit ≡ gives.view = ap (λ (d : Block). d.commit) ((gives.passes).block).2 in
      let own = subst (λ (c : CommitView). Each (IsKnownAs objects) (commit_objects c)) (sym is) (commit-known objects are (h.0).id gives.view gives.is_held gives.walks) in
      let more = known-push objects (s.blocks ++ front) b each own in
      subst (λ (l : List Block). Each (IsKnownAs objects) (objects_in (commits_in (s.blocks ++ l)))) (append_assoc front (b ∷ []) new)
      (stream-each (front ++ b ∷ []) new h.1 (subst (λ (l : List Block). Each (IsKnownAs objects) (objects_in (commits_in l))) (append_assoc s.blocks front (b ∷ [])) more))

-- ---- the law

-- some known objects hold those of all commits of the blocks
pub record AreObjectsKnown (blocks : List Block) : Type 0 where
  pub known : List Object
  pub each : Each (IsKnownAs known) (objects_in (commits_in blocks))

module _ (k : Kept) (saved : IsSaved k) (dump : IsBytes (git_dump (commits_in k.blocks))) (tags : IsBytes (stream_text k.tags)) where
  pub objects-known : (pull : Pull) (new : List Block) (added : List Object) → IsBytes (input_of pull) → Accepts k pull new added → AreObjectsKnown (k.blocks ++ new)
  objects-known (OfBundle bundle) new added bytes (a, none) =
      let s = known_of k in
      let known = known_with s a.arrivals in
      let first = subst (λ (os : List Object). Each (IsKnownAs os) (objects_in (commits_in (k.blocks ++ [])))) (sym (append-nil s.objects))
      (subst (λ (l : List Block). Each (IsKnownAs s.objects) (objects_in (commits_in l))) (sym (append-nil k.blocks)) (old-known k saved dump)) in
      record { known = s.objects ++ objects_in (commits_in new); each = bundle-known s known [] new (bundle-new k (sound-known k saved) bundle new a) first }
  objects-known (OfStream stream) new added bytes a =
      let s = known_of k in
      let objects = objects_with s a.came in
      let old = Each-weaker (IsKnownAs s.objects) (IsKnownAs objects) (λ o x. known-more s.objects objects (all-more s.objects (objects_among a.came)) o x) (objects_in (commits_in k.blocks)) (old-known k saved dump) in
      let first = subst (λ (l : List Block). Each (IsKnownAs objects) (objects_in (commits_in l))) (sym (append-nil k.blocks)) old in
      record { known = objects; each = stream-each s objects (stream-known k saved dump tags stream a.came a.reads bytes) [] new (stream-new k (sound-known k saved) stream new added a) first }

pub none-other_left : IsLeftOfBytes HasNoneOther
none-other_left s pull k made is text input (new, added, accepts, next, wrote) =
    let all = objects-known (kept_of s) (saved-of s is) (dump-bytes s text) (tags-bytes s text) pull new added input accepts in
    subst HasNoneOther (sym next) (none-other all.known (objects_in (commits_in (s.blocks ++ new))) all.each)
