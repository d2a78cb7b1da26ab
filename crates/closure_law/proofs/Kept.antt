-- What a pull leaves over a right history is right, over what the text of the next state brings.
use Rattle.std.proofs.Common.{◌≡◌, false, List, [], ◌++◌, sym, ap, subst, ◌∙◌, append-nil, inl, inr}
use Rattle.std.specs.List.{list_any}
use Rattle.text_model.specs.Lists.{Each, In}
use Rattle.text_model.specs.Text.{Bytes}
use Rattle.text_model.proofs.EachLemmas.{Each-weaker}
use Rattle.text_model.proofs.Elements.{each_in, none_all}
use Rattle.text_model.proofs.Options.{none_some}
use Rattle.hg_model.specs.Revision.{Changesets, Revision, revision_of}
use Rattle.git_model.specs.Object.{Object, is_other_content}
use Rattle.view_model.specs.View.{CommitFits}
use Rattle.view_model.specs.Dump.{objects_in}
use Rattle.pair_model.specs.Block.{Block, changesets_in, commits_in}
use Rattle.partner_model.specs.Partner.{IsHeldView}
use Rattle.history_model.specs.Pull.{known_with, revisions_among, changesets_among}
use Rattle.state_model.specs.Kept.{State, Kept, kept_of, empty_state}
use Rattle.state_model.specs.Saved.{IsState, has_other_content}
use Rattle.saved_model.specs.Step.{Pull, OfBundle, OfStream, AcceptsBundle, Steps, known_of, dump_objects}
use Rattle.hg_view.proofs.Grown.{more-all}
use Rattle.verify_model.specs.Holds.{Holds, StateHolds}
use Rattle.dump_law.proofs.Dumped.{find_none}
use Rattle.dump_law.proofs.Streams.{of_append}
use Rattle.pull_law.specs.Sound.{HasOwnNode}
use Rattle.pull_law.proofs.Known.{AreSome, no-null, own-some}
use Rattle.pull_law.proofs.Members.{apart}
use Rattle.history_law.proofs.States.{saved-sound}
use Rattle.next_law.proofs.Alike.{IsLike, like-more, all-like}
use Rattle.next_law.proofs.Known.{IsSaved, saved-of, held-known, sound-known}
use Rattle.next_law.proofs.Otherwise.{referred, bundle-like}
use Rattle.next_law.proofs.Pulls.{own, bundle-new}
use Rattle.stream_law.proofs.Fits.{old-fit}
use Rattle.closure_model.specs.Shaped.{AreShaped, AreBlobsWritten}
use Rattle.frame_law.specs.Ground.{IsGround}
use Rattle.frame_law.proofs.Bodies.{AreOne}
use Rattle.right_law.specs.Views.{AreViews}
use Rattle.right_law.proofs.Brought.{holds_too, bundle_holds}
use Rattle.stream_return_law.proofs.Ones.{known_one}
use Rattle.stream_return_law.proofs.Whole.{stream_pulled}
use Rattle.arrival_law.proofs.Objects.{each-blob, each-commit}
use Rattle.arrival_law.proofs.Views.{ground}
use Rattle.arrival_law.proofs.Whole.{shaped}
use Rattle.closure_law.proofs.Held.{all-held}

-- ---- what is known with a bundle

module _ (k : Kept) (saved : IsSaved k) (bundle : Bytes) (new : List Block) (a : AcceptsBundle k bundle new) where
  -- all that is known with it
  abbrev came : List Revision
  came = known_with (known_of k) a.arrivals

  own-came : Each HasOwnNode came
  own-came = own (known_of k) (sound-known k saved) bundle a.arrivals a.reads

  some-came : AreSome came
  some-came = own-some came own-came

  -- each revision is known to which the changesets refer
  like-came : Each (IsLike came) (referred (k.blocks ++ new))
  like-came =
      let before = (known_of k).revisions in
      let old = Each-weaker (IsLike before) (IsLike came) (like-more before came (more-all before (revisions_among a.arrivals))) (referred k.blocks) (all-like before (changesets_in k.blocks) (held-known k saved)) in
      bundle-like (known_of k) came own-came [] new (bundle-new k (sound-known k saved) bundle new a) (subst (λ (l : List Block). Each (IsLike came) (referred l)) (sym (append-nil k.blocks)) old)

  -- the blocks with the new ones are a history of it
  pub ground-came : (next : Kept) → next.blocks ≡ k.blocks ++ new → AreShaped next → IsGround next.blocks (IsHeldView came)
  ground-came next e x = record {
    nodes = (x.ground).nodes;
    ids = (x.ground).ids;
    rows = (x.ground).rows;
    known = all-held came (changesets_in next.blocks) x.changesets x.one_revision (subst (λ (l : List Block). Each (IsLike came) (referred l)) (sym e) like-came);
    no_links = (x.ground).no_links;
    apart = apart came (no-null came some-came);
    real = λ v held n. none_some (sym (find_none Changesets came some-came) ∙ ap (revision_of came Changesets) (sym n) ∙ held.is_held);
  }

-- ---- objects

-- where each id has one content, objects that are among them change nothing
one-both : (all others : List Object) → AreOne others → ((o : Object) → In o all → In o others) → has_other_content (all ++ others) ≡ false
one-both all others one there =
    none_all (λ o. list_any (is_other_content o) (all ++ others)) (all ++ others) (λ o i. none_all (is_other_content o) (all ++ others) (λ p j. one o p (among o i) (among p j)))
  where
    among : (o : Object) → In o (all ++ others) → In o others
    among o i = elim (of_append o all others i) [ inl j ↦ there o j | inr j ↦ j ]

-- ---- both pulls

module _ (k next : Kept) (saved : IsSaved k) (x : AreShaped next) (blobs : AreBlobsWritten next.blocks) where
  abbrev all : List Object
  all = (known_of next).objects

  one : has_other_content (objects_in (commits_in next.blocks) ++ all) ≡ false
  one = one-both (objects_in (commits_in next.blocks)) all (known_one (dump_objects (commits_in next.blocks) ++ next.tags)) (λ o i. each_in (λ o. In o all) (objects_in (commits_in next.blocks)) o x.objects i)

  views : AreViews next.blocks
  views = record { changesets = x.changesets; commits = x.commits }

  pub bundle-pulled : (bundle : Bytes) (new : List Block) → AcceptsBundle k bundle new → next.blocks ≡ k.blocks ++ new → Holds (known_of k).revisions (known_of k).objects [] k.blocks → Holds (known_of next).revisions all [] next.blocks
  bundle-pulled bundle new a e h =
      let with = known_with (known_of k) a.arrivals in
      let g = ground-came k saved bundle new a next e x in
      let brought = bundle_holds (known_of k).revisions with (known_of k).objects (known_of k).objects all k.blocks (revisions_among (changesets_among a.arrivals)) new (ground k saved)
      (subst (λ (l : List Block). IsGround l (IsHeldView with)) e g) (subst AreViews e views) (subst AreBlobsWritten e blobs)
      (subst (λ (l : List Block). has_other_content (objects_in (commits_in l) ++ all) ≡ false) e one) h (a.brings).brings in
      holds_too with all next.blocks g views blobs (objects_in (commits_in next.blocks)) (λ o i. i) (known_of next).revisions all x.ground one
      (subst (λ (l : List Block). Holds with all [] l) (sym e) brought)

-- a state of the same blocks is right too, whatever tags it has
pub right-again : (s t : State) → IsState s → IsState t → s.blocks ≡ t.blocks → StateHolds s → StateHolds t
right-again s t is on e h =
    let a = kept_of s in
    let b = kept_of t in
    let x = shaped b (saved-of t on) in
    let blobs = each-blob t.blocks ((saved-of t on).commits).views in
    holds_too (known_of a).revisions (known_of a).objects t.blocks (subst (λ (l : List Block). IsGround l (IsHeldView (known_of a).revisions)) e (shaped a (saved-of s is)).ground) (views a b (saved-of s is) x blobs) blobs
    (objects_in (commits_in t.blocks)) (λ o i. i) (known_of b).revisions (known_of b).objects x.ground (one a b (saved-of s is) x blobs) (subst (λ (l : List Block). Holds (known_of a).revisions (known_of a).objects [] l) e h)

pub kept-right : (s next : State) (pull : Pull) (made : Bytes) → IsState s → IsState next → Steps (kept_of s) pull (kept_of next) made → StateHolds s → StateHolds next
kept-right s next (OfBundle bundle) made is on (new, tags, a, e, out) h =
    let saved = saved-of next on in
    bundle-pulled (kept_of s) (kept_of next) (saved-of s is) (shaped (kept_of next) saved) (each-blob next.blocks (saved.commits).views) bundle new a.0 (ap (λ (k : Kept). k.blocks) e) h
kept-right s next (OfStream stream) made is on steps h =
    let saved = saved-of next on in
    stream_pulled (kept_of s) (kept_of next) stream made (saved-sound s is) (ground (kept_of s) (saved-of s is)) (shaped (kept_of next) saved) (each-blob next.blocks (saved.commits).views)
    (each-commit CommitFits next.blocks (old-fit (commits_in next.blocks) saved.commits)) steps h

pub empty-right : StateHolds empty_state
unfolding Holds
empty-right = tt
