-- The one text of a saved state: six sections, one behind another. Its form is this project's own, and this is its second version.
use Rattle.std.specs.Prelude.{ℕ, zero, suc, ◌==◌, not, if◌then◌else◌, List, [], ◌∷◌, ◌++◌, length, filter, codes, decimal}
use Rattle.std.specs.List.{flat_map, zip}
use Rattle.text_model.specs.Text.{Bytes, line, spaced, sp}
use Rattle.text_model.specs.Id.{hex}
use Rattle.git_model.specs.Object.{Object}
use Rattle.git_model.specs.Stream.{stream_text}
use Rattle.view_model.specs.View.{ChangesetView, CommitView, changeset_node, commit_id}
use Rattle.pair_model.specs.Block.{changesets_in, commits_in}
use Rattle.pair_model.specs.Octopus.{is_link_view}
use Rattle.state_model.specs.Kept.{State, NameRow, hg_dump, git_dump}

-- the changesets and commits that sections 1 and 2 hold, not yet paired, the tags and the names
pub record Sections : Type 0 where
  pub changesets : List ChangesetView
  pub commits : List CommitView
  pub tags : List Object
  pub names : List NameRow

-- the name and the size of a section, its text, LF
abbrev pub sized : Bytes → Bytes → Bytes
sized word text = line (spaced (word ∷ decimal (length text) ∷ [])) ++ line text

abbrev pub version_word : Bytes
version_word = codes "hg-git-bridge"

abbrev pub version : Bytes
version = codes "2"

-- `id SP refname LF` for each ref, in their order
abbrev pub ref_line : NameRow → Bytes
ref_line row = line (hex row.id ++ sp ∷ row.name)

abbrev pub refs_text : List NameRow → Bytes
refs_text names = flat_map ref_line names

abbrev pub no_links : List ChangesetView → List ChangesetView
no_links changesets = filter (λ h. not (is_link_view h)) changesets

-- `git-hex SP hg-hex LF` for each pair
abbrev pub map_lines : List CommitView → List ChangesetView → Bytes
map_lines commits changesets = flat_map (λ p. line (spaced (hex (commit_id p.0) ∷ hex (changeset_node p.1) ∷ []))) (zip commits changesets)

abbrev pub section_text : ℕ → Sections → Bytes
section_text k s =
    if k == 0 then line (spaced (version_word ∷ version ∷ []))
    else if k == 1 then sized (codes "hg") (hg_dump s.changesets)
    else if k == 2 then sized (codes "git") (git_dump s.commits)
    else if k == 3 then line (spaced (codes "map" ∷ decimal (length s.commits) ∷ [])) ++ map_lines s.commits (no_links s.changesets)
    else if k == 4 then sized (codes "tags") (stream_text s.tags)
    else sized (codes "names") (refs_text s.names)

-- the text of the sections 0 to k
unfoldable pub text_up_to : ℕ → Sections → Bytes
text_up_to zero s = section_text 0 s
text_up_to (suc k) s = text_up_to k s ++ section_text (suc k) s

abbrev pub sections_of : State → Sections
sections_of s = record { changesets = changesets_in s.blocks; commits = commits_in s.blocks; tags = s.tags; names = s.names }

unfoldable pub state_text : State → Bytes
state_text s = text_up_to 5 (sections_of s)
