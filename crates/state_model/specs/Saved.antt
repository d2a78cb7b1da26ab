-- Which states have a text, which bytes are the text of one, and why others are none.
use Rattle.std.specs.Prelude.{◌≡◌, ◌≢◌, ℕ, zero, suc, ◌+◌, ◌<◌, ◌≤◌, Bool, true, false, ◌||◌, ◌==◌, nat_lt, if◌then◌else◌, List, [], ◌∷◌, ◌++◌, length, map, Option, Some, None, is_ok, IsTrue, ⊤}
use Rattle.std.specs.List.{list_any}
use Rattle.text_model.specs.Lists.{Each}
use Rattle.text_model.specs.Limits.{rows_limit}
use Rattle.text_model.specs.Text.{Bytes, spaced, first_line, is_decimal}
use Rattle.hg_model.specs.Revision.{Revision, is_otherwise}
use Rattle.hg_model.specs.Reading.{bundle_reading}
use Rattle.git_model.specs.Tree.{has_distinct}
use Rattle.git_model.specs.Object.{Object, is_other_content}
use Rattle.git_model.specs.Stream.{stream_text, stream_reading}
use Rattle.view_model.specs.View.{ChangesetView, CommitView, IsChangesetView, IsCommitView, rows_size, changeset_node, commit_id}
use Rattle.view_model.specs.Dump.{revisions_in, objects_in}
use Rattle.pair_model.specs.Block.{Block, changesets_in, commits_in}
use Rattle.pair_model.specs.Octopus.{is_link_view}
use Rattle.state_model.specs.Limits.{dump_limit, changeset_limit, link_limit, slot_limit}
use Rattle.state_model.specs.Kept.{State, Kept, hg_dump, git_dump, empty_state, is_tag, ids_of}
use Rattle.state_model.specs.Tags.{leads, has_target}
use Rattle.state_model.specs.Names.{targets_of, AreNames}
use Rattle.state_model.specs.Text.{Sections, sections_of, no_links, text_up_to, state_text, version_word, version}

-- ---- what a state's text says

-- after each row of links, which is not too long, stands a changeset that is none; the number counts the links so far
unfoldable pub links_lead : ℕ → List ChangesetView → Bool
links_lead n [] = n == 0
links_lead n (h ∷ hs) = if is_link_view h then (if nat_lt n link_limit then links_lead (n + 1) hs else false) else links_lead 0 hs

-- One id has two texts or two pairs of parents, of which a dump would show the first alone; so the text would have two states.
abbrev pub has_otherwise : List Revision → Bool
has_otherwise revisions = list_any (λ r. list_any (is_otherwise r) revisions) revisions

abbrev pub has_other_content : List Object → Bool
has_other_content objects = list_any (λ o. list_any (is_other_content o) objects) objects

-- the changesets are all that their dump says, which is read from nothing
pub record AreDumped (changesets : List ChangesetView) : Type 0 where
  pub views : Each IsChangesetView changesets
  pub distinct : IsTrue (has_distinct (map changeset_node changesets))
  pub few : length changesets ≤ changeset_limit
  pub short : length (hg_dump changesets) ≤ dump_limit
  pub read : IsTrue (is_ok (bundle_reading [] (hg_dump changesets)))
  pub one : has_otherwise (revisions_in changesets) ≡ false

pub record AreChangesetsSaved (changesets : List ChangesetView) : Type 0 where
  pub dumped : AreDumped changesets
  pub links : IsTrue (links_lead 0 changesets)

pub record AreCommitsSaved (commits : List CommitView) : Type 0 where
  pub views : Each IsCommitView commits
  pub distinct : IsTrue (has_distinct (map commit_id commits))
  pub short : length (git_dump commits) ≤ dump_limit
  pub read : IsTrue (is_ok (stream_reading [] (git_dump commits)))
  pub rows : Each (λ c. rows_size c ≤ rows_limit) commits
  pub one : has_other_content (objects_in commits) ≡ false

pub record AreTagsSaved (commits : List CommitView) (tags : List Object) : Type 0 where
  pub tags_only : Each (λ o. IsTrue (is_tag o)) tags
  pub distinct : IsTrue (has_distinct (ids_of tags))
  pub read : IsTrue (is_ok (stream_reading (objects_in commits) (stream_text tags)))
  pub targets : Each (λ o. IsTrue (has_target (map commit_id commits) [] tags o)) tags
  pub lead : Each (λ o. IsTrue (leads [] tags o)) tags
  pub short : length (git_dump commits) + length (stream_text tags) ≤ dump_limit

abbrev pub SectionHolds : ℕ → Sections → Type 0
SectionHolds zero s = ⊤
SectionHolds (suc zero) s = AreChangesetsSaved s.changesets
SectionHolds (suc (suc zero)) s = AreCommitsSaved s.commits
SectionHolds (suc (suc (suc zero))) s = length s.commits ≡ length (no_links s.changesets)
SectionHolds (suc (suc (suc (suc zero)))) s = AreTagsSaved s.commits s.tags
SectionHolds (suc (suc (suc (suc (suc k))))) s = AreNames (targets_of s) s.names × (length (text_up_to 5 s) ≤ slot_limit)

abbrev pub SectionsHold : ℕ → Sections → Type 0
SectionsHold zero s = SectionHolds zero s
SectionsHold (suc k) s = SectionsHold k s × SectionHolds (suc k) s

-- the links of each block are links, and its changeset is none
abbrev pub AreBlocks : List Block → Type 0
AreBlocks blocks = Each (λ b. Each (λ l. IsTrue (is_link_view l)) b.links × (is_link_view b.changeset ≡ false)) blocks

-- a state that has a text
abbrev pub IsState : State → Type 0
IsState s = AreBlocks s.blocks × SectionsHold 5 (sections_of s)

-- the text is that of the state
abbrev pub IsStateText : Bytes → State → Type 0
IsStateText text s = IsState s × (text ≡ state_text s)

-- ---- any bytes

-- the bytes begin with the sections 0 to k of some state, as far as these can tell; nothing follows section 5
pub record SectionsFit (k : ℕ) (text : Bytes) : Type 0 where
  pub sections : Sections
  pub rest : Bytes
  pub begins : text ≡ text_up_to k sections ++ rest
  pub hold : SectionsHold k sections
  pub last : k ≡ 5 → rest ≡ []

-- the first section that doesn't fit, of those from 0 to 5
abbrev pub IsShapeFault : Bytes → ℕ → Type 0
IsShapeFault text k = (k ≤ 5) × (¬ (SectionsFit k text)) × ((j : ℕ) → j < k → SectionsFit j text)

-- the first line names another version
pub record IsVersionFault (text : Bytes) : Type 0 where
  pub number : Bytes
  pub rest : Bytes
  pub first : first_line text ≡ Some (spaced (version_word ∷ number ∷ []), rest)
  pub number_is : is_decimal number ≡ true
  pub other : number ≢ version

-- what a slot holds: nothing stands for the empty state
abbrev pub SlotHolds : Option Bytes → State → Type 0
SlotHolds None s = s ≡ empty_state
SlotHolds (Some text) s = IsStateText text s

-- ---- limits of a state

-- A dump or the number of changesets is past its limit. Names don't enter: with 100,000 of them the text of a state within these limits is still
-- below its own.
abbrev pub passes_limit : Kept → Bool
passes_limit s =
    nat_lt dump_limit (length (hg_dump (changesets_in s.blocks)))
    || nat_lt dump_limit (length (git_dump (commits_in s.blocks)) + length (stream_text s.tags))
    || nat_lt changeset_limit (length (changesets_in s.blocks))
