-- What a pull over a saved history leaves, section by section of its text.
use Rattle.std.specs.Prelude.{◌≡◌, ◌+◌, ◌≤◌, false, List, [], length, map, is_ok, IsTrue}
use Rattle.text_model.specs.Lists.{Each}
use Rattle.text_model.specs.Text.{Bytes, IsBytes}
use Rattle.text_model.specs.Id.{is_null}
use Rattle.hg_model.specs.Reading.{bundle_reading}
use Rattle.git_model.specs.Tree.{has_distinct}
use Rattle.view_model.specs.View.{ChangesetView, IsChangesetView, ChangesetFits, changeset_node, commit_id}
use Rattle.view_model.specs.Dump.{revisions_in, objects_in}
use Rattle.pair_model.specs.Block.{changesets_in, commits_in}
use Rattle.git_model.specs.Stream.{stream_text}
use Rattle.state_model.specs.Limits.{dump_limit, changeset_limit}
use Rattle.state_model.specs.Kept.{State, Kept, kept_of, hg_dump, git_dump}
use Rattle.state_model.specs.Text.{no_links, state_text}
use Rattle.state_model.specs.Saved.{AreBlocks, AreChangesetsSaved, IsState, links_lead, has_otherwise, has_other_content}
use Rattle.hg_dump_law.specs.Taken.{AreParentsEarlier}
use Rattle.saved_model.specs.Step.{Pull, OfBundle, OfStream, Steps}

-- it holds of whatever a pull over a saved history leaves
abbrev pub IsLeft : (Kept → Type 0) → Type 0
IsLeft Holds = (s : State) (pull : Pull) (k : Kept) (made : Bytes) → IsState s → Steps (kept_of s) pull k made → Holds k

-- the bytes that a pull takes
abbrev pub input_of : Pull → Bytes
input_of (OfBundle bundle) = bundle
input_of (OfStream stream) = stream

-- it holds of whatever a pull leaves, where the text of the history and the input are made of bytes
abbrev pub IsLeftOfBytes : (Kept → Type 0) → Type 0
IsLeftOfBytes Holds = (s : State) (pull : Pull) (k : Kept) (made : Bytes) → IsState s → IsBytes (state_text s) → IsBytes (input_of pull) → Steps (kept_of s) pull k made → Holds k

-- the links of each block are links and its changeset is none; after each row of links, which is not too long, stands such a changeset
abbrev pub HasBlocks : Kept → Type 0
HasBlocks k = AreBlocks k.blocks × IsTrue (links_lead 0 (changesets_in k.blocks))

-- no changeset stands twice, links among them, and no commit
abbrev pub HasDistinct : Kept → Type 0
HasDistinct k = IsTrue (has_distinct (map changeset_node (changesets_in k.blocks))) × IsTrue (has_distinct (map commit_id (commits_in k.blocks)))

-- no revision is another one of the same node
abbrev pub HasNoneOtherwise : Kept → Type 0
HasNoneOtherwise k = has_otherwise (revisions_in (changesets_in k.blocks)) ≡ false

-- no object is another one of the same id
abbrev pub HasNoneOther : Kept → Type 0
HasNoneOther k = has_other_content (objects_in (commits_in k.blocks)) ≡ false

-- The parents of each revision belong to earlier changesets, at the first changeset that refers to it.
abbrev pub HasParentsEarlier : Kept → Type 0
HasParentsEarlier k = AreParentsEarlier [] (changesets_in k.blocks)

-- the dumps and the number of changesets are within their limits, and each commit has its changeset
pub record HasRoom (k : Kept) : Type 0 where
  pub hg : length (hg_dump (changesets_in k.blocks)) ≤ dump_limit
  pub git : length (git_dump (commits_in k.blocks)) + length (stream_text k.tags) ≤ dump_limit
  pub few : length (changesets_in k.blocks) ≤ changeset_limit
  pub pairs : length (commits_in k.blocks) ≡ length (no_links (changesets_in k.blocks))

-- The dump of changesets that are views within their limits is read, where their parents are earlier, no revision is null or another one of
-- the same node, and the dump is within its limit.
abbrev pub ViewsAreRead : Type 0
ViewsAreRead = (hs : List ChangesetView) → Each IsChangesetView hs → Each ChangesetFits hs → Each (λ r. is_null r.node ≡ false) (revisions_in hs)
    → has_otherwise (revisions_in hs) ≡ false → AreParentsEarlier [] hs → length (hg_dump hs) ≤ dump_limit → IsTrue (is_ok (bundle_reading [] (hg_dump hs)))

-- where the changesets that a pull leaves are views within their limits, they have a dump again
abbrev pub HasDump : Kept → Type 0
HasDump k = Each IsChangesetView (changesets_in k.blocks) → Each ChangesetFits (changesets_in k.blocks) → AreChangesetsSaved (changesets_in k.blocks)
