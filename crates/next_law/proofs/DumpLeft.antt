-- The changesets that a pull leaves have a dump again, where they are views within their limits.
use Rattle.std.proofs.Common.{◌≡◌, false, List, ◌++◌, sym, ap, ◌∙◌, subst}
use Rattle.text_model.specs.Lists.{Each}
use Rattle.text_model.specs.Id.{is_null}
use Rattle.text_model.proofs.EachLemmas.{Each-weaker}
use Rattle.text_model.proofs.TestLemmas.{both, bytes_eq-is}
use Rattle.std.specs.Prelude.{bytes_eq}
use Rattle.hg_model.specs.Revision.{Revision, is_of, same_group}
use Rattle.view_model.specs.Dump.{revisions_in}
use Rattle.pair_model.specs.Block.{changesets_in}
use Rattle.state_model.specs.Kept.{Kept, kept_of}
use Rattle.pull_law.proofs.Known.{AreSome}
use Rattle.pull_law.proofs.Searches.{found}
use Rattle.next_law.specs.Next.{IsLeft, HasDump}
use Rattle.next_law.proofs.Alike.{IsLike}
use Rattle.next_law.proofs.Alone.{distinct-left}
use Rattle.next_law.proofs.Blocks.{blocks-left}
use Rattle.next_law.proofs.EarlierLeft.{earlier-left}
use Rattle.next_law.proofs.Known.{saved-of}
use Rattle.next_law.proofs.OneHg.{are-referred, none-left}
use Rattle.next_law.proofs.Otherwise.{referred}
use Rattle.next_law.proofs.ReadHg.{views-read}
use Rattle.next_law.proofs.Room.{room-left}

like-some : (known : List Revision) → AreSome known → (r : Revision) → IsLike known r → is_null r.node ≡ false
like-some known some r l =
    let at = found (λ (x : Revision). is_null x.node ≡ false) (is_of r.group r.node) known l.revision some l.is_held in
    let same = bytes_eq-is r.node (l.revision).node (both (same_group r.group (l.revision).group) (bytes_eq r.node (l.revision).node) at.1).1 in
    ap is_null same ∙ at.0

-- no revision to which the changesets refer that a pull leaves is null
abbrev HasSome : Kept → Type 0
HasSome k = Each (λ r. is_null r.node ≡ false) (revisions_in (changesets_in k.blocks))

some-left : IsLeft HasSome
some-left s pull k made is (new, tags, accepts, next, wrote) =
    let all = are-referred (kept_of s) (saved-of s is) pull new tags accepts in
    subst HasSome (sym next) (Each-weaker (IsLike all.known) (λ r. is_null r.node ≡ false) (λ r l. like-some all.known all.some r l) (referred (s.blocks ++ new)) all.like)

pub dump-left : IsLeft HasDump
dump-left s pull k made is steps views fits =
    let distinct = distinct-left s pull k made is steps in
    let one = none-left s pull k made is steps in
    let room = room-left s pull k made is steps in
    record {
      dumped = record {
        views = views;
        distinct = distinct.0;
        few = room.few;
        short = room.hg;
        read = views-read (changesets_in k.blocks) views fits (some-left s pull k made is steps) one (earlier-left s pull k made is steps) room.hg;
        one = one;
      };
      links = (blocks-left s pull k made is steps).1;
    }
