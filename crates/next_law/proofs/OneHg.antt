-- No revision to which the changesets refer that a pull leaves is another one of the same node.
use Rattle.std.proofs.Common.{List, [], ◌++◌, sym, subst, append-nil}
use Rattle.text_model.specs.Lists.{Each}
use Rattle.text_model.proofs.EachLemmas.{Each-weaker}
use Rattle.hg_model.specs.Revision.{Revision}
use Rattle.git_model.specs.Object.{Object}
use Rattle.pair_model.specs.Block.{Block, changesets_in}
use Rattle.history_model.specs.Pull.{known_with, objects_with, revisions_among}
use Rattle.state_model.specs.Kept.{Kept, kept_of}
use Rattle.saved_model.specs.Step.{Pull, OfBundle, OfStream, Accepts, known_of}
use Rattle.hg_view.proofs.Grown.{more-all}
use Rattle.pull_law.proofs.Known.{AreSome, own-some}
use Rattle.next_law.specs.Next.{IsLeft, HasNoneOtherwise}
use Rattle.next_law.proofs.Alike.{IsLike, like-more, all-like, none-otherwise}
use Rattle.next_law.proofs.Known.{IsSaved, saved-of, held-known, sound-known}
use Rattle.next_law.proofs.NewBlocks.{known_behind}
use Rattle.next_law.proofs.Otherwise.{referred, bundle-like, stream-like}
use Rattle.next_law.proofs.Pulls.{own, bundle-new, stream-new, stream-some}

-- some known revisions hold all to which the changesets of the blocks refer
pub record AreReferred (blocks : List Block) : Type 0 where
  pub known : List Revision
  pub some : AreSome known
  pub like : Each (IsLike known) (referred blocks)

module _ (k : Kept) (saved : IsSaved k) where
  old-like : Each (IsLike (known_of k).revisions) (referred (k.blocks ++ []))
  old-like = subst (λ (l : List Block). Each (IsLike (known_of k).revisions) (referred l)) (sym (append-nil k.blocks)) (all-like (known_of k).revisions (changesets_in k.blocks) (held-known k saved))

  pub are-referred : (pull : Pull) (new : List Block) (tags : List Object) → Accepts k pull new tags → AreReferred (k.blocks ++ new)
  are-referred (OfBundle bundle) new tags (a, none) =
      let s = known_of k in
      let known = known_with s a.arrivals in
      let sound = sound-known k saved in
      let old = Each-weaker (IsLike s.revisions) (IsLike known) (λ r l. like-more s.revisions known (more-all s.revisions (revisions_among a.arrivals)) r l) (referred (k.blocks ++ [])) old-like in
      record { known = known; some = own-some known (own s sound bundle a.arrivals a.reads); like = bundle-like s known (own s sound bundle a.arrivals a.reads) [] new (bundle-new k sound bundle new a) old }
  are-referred (OfStream stream) new tags a =
      let s = known_of k in
      record { known = known_behind s new; some = stream-some k (sound-known k saved) stream new tags a; like = stream-like s (objects_with s a.came) [] new (stream-new k (sound-known k saved) stream new tags a) old-like }

pub none-left : IsLeft HasNoneOtherwise
none-left s pull k made is (new, tags, accepts, next, wrote) =
    let all = are-referred (kept_of s) (saved-of s is) pull new tags accepts in
    subst HasNoneOtherwise (sym next) (none-otherwise all.known (referred (s.blocks ++ new)) all.like)
