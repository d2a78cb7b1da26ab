-- The changesets and the commits that a pull leaves are views, and the commits are within their limits.
use Rattle.std.proofs.Common.{◌≡◌, ◌++◌, List, [], ◌∷◌, map, None, refl, sym, subst}
use Rattle.text_model.specs.Lists.{Each}
use Rattle.text_model.specs.Text.{Bytes, IsBytes}
use Rattle.text_model.specs.Id.{object_id}
use Rattle.text_model.proofs.EachLemmas.{Each-front, Each-rest}
use Rattle.git_model.specs.Object.{Object, objects_after_all}
use Rattle.git_model.specs.Stream.{IsFit, stream_text}
use Rattle.git_model.specs.Unfold.{walk_fault}
use Rattle.git_store.specs.Known.{AreKnown}
use Rattle.git_batch.proofs.StreamLaws.{brings_only}
use Rattle.view_model.specs.View.{IsChangesetView, CommitView, IsCommitView, CommitFits, commit_id}
use Rattle.view_model.specs.Held.{AreCommitsHeld}
use Rattle.pair_model.specs.Block.{Block, changesets_in, commits_in}
use Rattle.history_model.specs.Pull.{known_with, objects_with, objects_among, revisions_among}
use Rattle.saved_model.specs.Step.{Pull, OfBundle, OfStream, Accepts, AcceptsBundle, AcceptsStream, dump_objects, known_of}
use Rattle.state_model.specs.Kept.{Kept, kept_of, git_dump}
use Rattle.dump_law.proofs.CommitsHeld.{git-held, git-walks}
use Rattle.pull_law.proofs.Known.{objects-after}
use Rattle.next_law.specs.Next.{IsLeftOfBytes, input_of}
use Rattle.next_law.proofs.Bytes.{contents-bytes, dump-bytes, tags-bytes}
use Rattle.next_law.proofs.GitKnown.{are-known, distinct-after, stream-known}
use Rattle.next_law.proofs.Known.{IsSaved, saved-of, sound-known}
use Rattle.next_law.proofs.NewBlocks.{IsOfBundle, IsOfStream}
use Rattle.next_law.proofs.Objects.{dump-is, dump-read, are-read, adds-contents, known-each}
use Rattle.next_law.proofs.Pulls as pulls
use Rattle.view_law.proofs.CommitFit.{held-commit_fits}
use Rattle.view_law.proofs.Fits.{founded-known}
use Rattle.next_law.proofs.Founded.{founded-after}
use Rattle.view_law.proofs.Views.{IsRightBlock, all-changesets, all-commits, all-commits_fit, each-grown, bundle-right, stream-right}
use Rattle.view_law.specs.Views.{HasChangesetViews, HasCommitViews, HasCommitsFit}

-- ---- what was there

-- blocks of such changesets and commits
join : (bs : List Block) → Each IsChangesetView (changesets_in bs) → Each IsCommitView (commits_in bs) → Each CommitFits (commits_in bs) → Each IsRightBlock bs
join [] changesets views fits = tt
join (b ∷ bs) changesets views fits = (
  record { changesets = Each-front IsChangesetView (b.links ++ b.changeset ∷ []) (changesets_in bs) changesets; commit = views.0; fits = fits.0 },
  join bs (Each-rest IsChangesetView (b.links ++ b.changeset ∷ []) (changesets_in bs) changesets) views.1 fits.1,
)

module _ (k : Kept) (saved : IsSaved k) where
  -- the objects of its stream
  abbrev dumped : List Object
  dumped = dump_objects (commits_in k.blocks)

  dump-known : IsBytes (git_dump (commits_in k.blocks)) → AreKnown (objects_after_all [] dumped)
  dump-known bytes =
      let read = dump-read (commits_in k.blocks) saved.commits in
      are-known (objects_after_all [] dumped) (distinct-after [] dumped refl) (objects-after (λ o. o.id ≡ object_id o.kind o.content) [] dumped tt read.checked)
      (objects-after _ [] dumped tt (adds-contents [] dumped read.adds))
      (objects-after (λ o. IsBytes o.content) [] dumped tt (contents-bytes dumped (subst IsBytes (dump-is (commits_in k.blocks)) bytes)))

  dump-fit : Each IsFit (objects_after_all [] dumped)
  dump-fit = objects-after IsFit [] dumped tt (dump-read (commits_in k.blocks) saved.commits).fit

  commits-fit : AreKnown (objects_after_all [] dumped) → (cs : List CommitView) → Each IsCommitView cs → AreCommitsHeld (objects_after_all [] dumped) (map commit_id cs) cs
      → Each (λ c. walk_fault (objects_after_all [] dumped) (c.value).tree_id ≡ None) cs → Each CommitFits cs
  commits-fit are [] views held walks = tt
  commits-fit are (c ∷ cs) views held walks =
      (held-commit_fits (objects_after_all [] dumped) dump-fit are.are (commit_id c) c views.0 held.0 walks.0, commits-fit are cs views.1 held.1 walks.1)

  pub old-right : IsBytes (git_dump (commits_in k.blocks)) → Each IsRightBlock k.blocks
  old-right bytes =
      let cs = commits_in k.blocks in
      let are = dump-known bytes in
      join k.blocks (saved.dumped).views (saved.commits).views
      (commits-fit are cs (saved.commits).views (git-held cs saved.commits) (git-walks cs saved.commits))

  known-fit : Each IsFit (known_of k).objects
  known-fit = known-each k saved.commits saved.tags IsFit (dump-read (commits_in k.blocks) saved.commits).fit (are-read _ k.tags (saved.tags).read).fit

  -- ---- what comes

  bundle-all : (bundle : Bytes) (new : List Block) → Each IsRightBlock k.blocks → AcceptsBundle k bundle new → Each IsRightBlock (k.blocks ++ new)
  bundle-all bundle new old a =
      let s = known_of k in
      let sound = sound-known k saved in
      let known = known_with s a.arrivals in
      let founded = founded-after s.revisions 0 (revisions_among a.arrivals) (founded-known k saved) (pulls.additions s sound bundle a.arrivals a.reads) in
      each-grown (IsOfBundle s known) IsRightBlock k.blocks (bundle-right s known (pulls.own s sound bundle a.arrivals a.reads) founded) new old (pulls.bundle-new k sound bundle new a)

  stream-all : (stream : Bytes) (new : List Block) (tags : List Object) → IsBytes (git_dump (commits_in k.blocks)) → IsBytes (stream_text k.tags) → IsBytes stream → Each IsRightBlock k.blocks
      → AcceptsStream k stream new tags → Each IsRightBlock (k.blocks ++ new)
  stream-all stream new tags dump tag-bytes bytes old a =
      let s = known_of k in
      let sound = sound-known k saved in
      let objects = objects_with s a.came in
      let are = stream-known k saved dump tag-bytes stream a.came a.reads bytes in
      let fit = objects-after IsFit s.objects (objects_among a.came) known-fit ((brings_only s.objects stream a.came a.reads).0).fit in
      each-grown (IsOfStream s objects) IsRightBlock k.blocks (stream-right s objects are fit) new old (pulls.stream-new k sound stream new tags a)

-- ---- the laws

-- each block that is left is of views
abbrev HasRight : Kept → Type 0
HasRight k = Each IsRightBlock k.blocks

right-left : IsLeftOfBytes HasRight
right-left s pull k made is text input (new, tags, accepts, next, wrote) =
    let saved = saved-of s is in
    let dump = dump-bytes s text in
    let old = old-right (kept_of s) saved dump in
    subst HasRight (sym next) (by pull input accepts old)
  where
    by : (p : Pull) → IsBytes (input_of p) → Accepts (kept_of s) p new tags → Each IsRightBlock s.blocks → Each IsRightBlock (s.blocks ++ new)
    by (OfBundle bundle) bytes a old = bundle-all (kept_of s) (saved-of s is) bundle new old a.0
    by (OfStream stream) bytes a old = stream-all (kept_of s) (saved-of s is) stream new tags (dump-bytes s text) (tags-bytes s text) bytes old a

pub changesets-left : IsLeftOfBytes HasChangesetViews
changesets-left s pull k made is text input steps = all-changesets k.blocks (right-left s pull k made is text input steps)

pub commits-left : IsLeftOfBytes HasCommitViews
commits-left s pull k made is text input steps = all-commits k.blocks (right-left s pull k made is text input steps)

pub commits_fit-left : IsLeftOfBytes HasCommitsFit
commits_fit-left s pull k made is text input steps = all-commits_fit k.blocks (right-left s pull k made is text input steps)
