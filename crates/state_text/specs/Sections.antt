-- What is read of the sections of a state's text.
use Rattle.std.specs.Prelude.{◌≡◌, ◌≢◌, ℕ, List, [], ◌∷◌, ◌++◌, length, map, codes}
use Rattle.text_model.specs.Text.{Bytes}
use Rattle.text_model.specs.Id.{Id}
use Rattle.git_model.specs.Object.{Object}
use Rattle.git_model.specs.Stream.{stream_text}
use Rattle.view_model.specs.View.{ChangesetView, CommitView}
use Rattle.state_model.specs.Kept.{NameRow, hg_dump, git_dump}
use Rattle.state_model.specs.Text.{sized, refs_text}
use Rattle.state_model.specs.Names.{Targets, AreNames}
use Rattle.state_model.specs.Saved.{AreChangesetsSaved, AreCommitsSaved, AreTagsSaved}
use Rattle.hg_section.specs.declared.section.HgSection.{HgSection}
use Rattle.hg_section.specs.Section.{HoldsChangesets}
use Rattle.git_section.specs.declared.section.GitSection.{GitSection}
use Rattle.git_section.specs.Sections.{HoldsCommits}
use Rattle.tag_section.specs.declared.tags.TagSection.{TagSection}
use Rattle.tag_section.specs.Tags.{HoldsTags}
use Rattle.pair_state.specs.declared.blocks.Block as pair
use Rattle.state_part.specs.declared.pairs.IdPair.{IdPair}
use Rattle.state_part.specs.Pairs.{map_section}
use Rattle.state_text.specs.declared.heads.Head.{Head}
use Rattle.state_text.specs.Heads.{heads_of}

abbrev pub hg_text : List ChangesetView → Bytes
hg_text hs = sized (codes "hg") (hg_dump hs)

abbrev pub git_text : List CommitView → Bytes
git_text cs = sized (codes "git") (git_dump cs)

abbrev pub tags_text : List Object → Bytes
tags_text tags = sized (codes "tags") (stream_text tags)

abbrev pub names_text : List NameRow → Bytes
names_text names = sized (codes "names") (refs_text names)

-- ---- the changesets

abbrev pub NoHg : Bytes → Type 0
NoHg bytes = (hs : List ChangesetView) (rest : Bytes) → AreChangesetsSaved hs → bytes ≢ hg_text hs ++ rest

-- the section of these changesets begins the bytes, and this is what it brings
pub record HasHg (bytes : Bytes) (section : HgSection) (heads : List Head) (rest : Bytes) (hs : List ChangesetView) : Type 0 where
  pub saved : AreChangesetsSaved hs
  pub is : bytes ≡ hg_text hs ++ rest
  pub holds : HoldsChangesets section hs
  pub heads_are : heads ≡ heads_of 0 hs

-- ---- the commits

abbrev pub NoGit : Bytes → Type 0
NoGit bytes = (cs : List CommitView) (rest : Bytes) → AreCommitsSaved cs → bytes ≢ git_text cs ++ rest

pub record HasGit (bytes : Bytes) (section : GitSection) (used : ℕ) (rest : Bytes) (cs : List CommitView) : Type 0 where
  pub saved : AreCommitsSaved cs
  pub is : bytes ≡ git_text cs ++ rest
  pub holds : HoldsCommits section cs
  pub size : length (git_dump cs) ≡ used

-- ---- the pairs

-- changesets that are no links, each with the commit of its place
unfoldable pub paired : List Head → List Id → List pair.Block
paired (h ∷ hs) (c ∷ cs) = record { node = h.node; commit = c; links = h.links } ∷ paired hs cs
paired _ _ = []

abbrev pub pair_in : pair.Block → IdPair
pair_in b = record { commit = b.commit; node = b.node }

-- the section of the pairs
abbrev pub pairs_text : List pair.Block → Bytes
pairs_text blocks = map_section (map pair_in blocks)

-- ---- the tags

abbrev pub NoTags : List CommitView → Bytes → Type 0
NoTags cs bytes = (tags : List Object) (rest : Bytes) → AreTagsSaved cs tags → bytes ≢ tags_text tags ++ rest

pub record HasTags (cs : List CommitView) (bytes : Bytes) (section : TagSection) (rest : Bytes) (tags : List Object) : Type 0 where
  pub saved : AreTagsSaved cs tags
  pub is : bytes ≡ tags_text tags ++ rest
  pub holds : HoldsTags section cs tags

-- ---- the names

-- what names may name, by the blocks and the ids of the tags that were read
abbrev pub targets_read : List pair.Block → List Id → Targets
targets_read blocks tags = record { pairs = map (λ b. (b.node, b.commit)) blocks; tags = tags }

abbrev pub NoNames : Targets → Bytes → Type 0
NoNames t bytes = (names : List NameRow) → AreNames t names → bytes ≢ names_text names

pub record HasNames (t : Targets) (bytes : Bytes) (names : List NameRow) : Type 0 where
  pub kept : AreNames t names
  pub is : bytes ≡ names_text names
