-- How long the text of a state is.
use Rattle.std.proofs.Common.{◌≡◌, ◌+◌, ◌*◌, ◌≤◌, List, [], ◌∷◌, ◌++◌, length, decimal, codes, arith, length-append}
use Rattle.std.proofs.lemmas.Fmt.{length-decimal-le}
use Rattle.text_model.specs.Text.{Bytes, lf, sp, line, spaced}
use Rattle.text_model.specs.Id.{hex, commit}
use Rattle.text_model.proofs.Digests.{IsId-object_id, IsId-node_id}
use Rattle.text_model.proofs.HexLemmas.{length-hex}
use Rattle.hg_model.specs.Changeset.{changeset_text}
use Rattle.git_model.specs.Commit.{commit_text}
use Rattle.git_model.specs.Stream.{stream_text}
use Rattle.view_model.specs.View.{ChangesetView, CommitView, changeset_node, commit_id}
use Rattle.state_model.specs.Kept.{hg_dump, git_dump}
use Rattle.state_model.specs.Limits.{dump_limit, name_limit}
use Rattle.state_model.specs.Text.{Sections, section_text, sized, version_word, version, no_links, map_lines, refs_text, text_up_to}
use Rattle.state_model.specs.Names.{targets_of}
use Rattle.name_law.proofs.Sizes.{refs-short}
use Rattle.state_law.specs.Left.{AreWithin, TextFits}

-- two words in a line
two-words : (a b : Bytes) → length (line (spaced (a ∷ b ∷ []))) ≡ length a + length b + 2
two-words a b = omega (arith, length-append (spaced (a ∷ b ∷ [])) (lf ∷ []), length-append a (sp ∷ (b ++ [])), length-append b [])

sized-short : (word text : Bytes) → length text ≤ dump_limit → length (sized word text) ≤ length word + length text + 13
sized-short word text short =
    let digits : length (decimal (length text)) ≤ 10 = length-decimal-le 10 (length text) (omega arith) (omega (arith, short)) (omega (arith, short)) in
    let head = line (spaced (word ∷ decimal (length text) ∷ [])) in
    omega (arith, length-append head (line text), two-words word (decimal (length text)), length-append text (lf ∷ []), digits)

-- ---- the map

commit-long : (c : CommitView) → length (hex (commit_id c)) ≡ 40
unfolding commit_id
commit-long c = omega (arith, length-hex (commit_id c), (IsId-object_id commit (commit_text c.value)).0)

node-long : (h : ChangesetView) → length (hex (changeset_node h)) ≡ 40
unfolding changeset_node
node-long h = omega (arith, length-hex (changeset_node h), (IsId-node_id h.p h.q (changeset_text h.fields)).0)

map-short : (cs : List CommitView) (hs : List ChangesetView) → length (map_lines cs hs) ≤ 82 * length cs
map-short [] hs = omega arith
map-short (c ∷ cs) [] = omega arith
map-short (c ∷ cs) (h ∷ hs) =
    let own = line (spaced (hex (commit_id c) ∷ hex (changeset_node h) ∷ [])) in
    omega (arith, length-append own (map_lines cs hs), two-words (hex (commit_id c)) (hex (changeset_node h)), commit-long c, node-long h, map-short cs hs)

-- ---- the sections

first-short : (s : Sections) → length (section_text 0 s) ≤ 16
first-short s = omega (arith, two-words version_word version)

map-section : (s : Sections) → AreWithin s → length (section_text 3 s) ≤ 82 * length s.commits + 15
map-section s w =
    let n = length s.commits in
    let digits : length (decimal n) ≤ 10 = length-decimal-le 10 n (omega arith) (omega (arith, w.few)) (omega (arith, w.few)) in
    let head = line (spaced (codes "map" ∷ decimal n ∷ [])) in
    omega (arith, length-append head (map_lines s.commits (no_links s.changesets)), two-words (codes "map") (decimal n), digits, map-short s.commits (no_links s.changesets))

names-section : (s : Sections) → AreWithin s → length (section_text 5 s) ≤ 4138 * name_limit + 18
names-section s w =
    let short : length (refs_text s.names) ≤ 4138 * name_limit = omega (arith, refs-short (targets_of s) w.targets s.names w.names, (w.names).few) in
    omega (arith, sized-short (codes "names") (refs_text s.names) (omega (arith, short)), short)

pub text-fits : TextFits
unfolding text_up_to
text-fits s w =
    let hg = sized-short (codes "hg") (hg_dump s.changesets) w.hg in
    let git = sized-short (codes "git") (git_dump s.commits) (omega (arith, w.git)) in
    let tags = sized-short (codes "tags") (stream_text s.tags) (omega (arith, w.git)) in
    omega (
      arith,
      first-short s,
      hg,
      git,
      map-section s w,
      tags,
      names-section s w,
      w.hg,
      w.git,
      w.few,
      length-append (text_up_to 4 s) (section_text 5 s),
      length-append (text_up_to 3 s) (section_text 4 s),
      length-append (text_up_to 2 s) (section_text 3 s),
      length-append (text_up_to 1 s) (section_text 2 s),
      length-append (section_text 0 s) (section_text 1 s),
    )
