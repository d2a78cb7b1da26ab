-- The state that holds nothing is one that can be saved.
use Rattle.std.proofs.Common.{◌≡◌, ◌≤◌, ◌<◌, ◌+◌, ℕ, suc, [], ◌∷◌, ◌++◌, length, length-append, refl, ap, arith}
use Rattle.std.specs.Prelude.{IsTrue, is_ok, codes, decimal}
use Rattle.std.proofs.lemmas.Fmt.{length-decimal-le}
use Rattle.text_model.specs.Text.{Bytes, line, spaced, lf, sp}
use Rattle.hg_model.specs.Bundle.{bundle_text, group_text}
use Rattle.hg_model.specs.Chunk.{chunk_text}
use Rattle.git_model.specs.Stream.{stream_reading, stream_text}
use Rattle.git_batch.proofs.StreamLaws.{brings_all}
use Rattle.view_model.specs.Dump.{brought_by, written_bundle, written_group, written_from, paths_in, git_increment}
use Rattle.state_model.specs.Kept.{empty_state, hg_dump}
use Rattle.state_model.specs.Limits.{dump_limit, slot_limit}
use Rattle.state_model.specs.Names.{targets_of, AreNames}
use Rattle.state_model.specs.Saved.{AreDumped, AreCommitsSaved, AreTagsSaved, IsState, links_lead}
use Rattle.state_model.specs.Text.{text_up_to, section_text, sections_of, sized}
use Rattle.next_law.proofs.ReadHg.{views-read}

bundle-length : length (hg_dump []) ≡ 18
unfolding bundle_text written_bundle brought_by written_group written_from paths_in group_text chunk_text
bundle-length = refl

bundle-short : length (hg_dump []) ≤ dump_limit
bundle-short = omega (arith, bundle-length)

no-changesets : AreDumped []
unfolding brought_by
no-changesets = record { views = tt; distinct = refl; few = omega arith; short = bundle-short; read = views-read [] tt tt tt refl tt bundle-short; one = refl }

stream-read : IsTrue (is_ok (stream_reading [] (stream_text [])))
unfolding stream_text
stream-read = ap is_ok (brings_all [] [] tt (omega arith) tt tt).reads

no-commits : AreCommitsSaved []
unfolding git_increment stream_text
no-commits = record { views = tt; distinct = refl; short = omega arith; read = stream-read; rows = tt; one = refl }

no-tags : AreTagsSaved [] []
unfolding git_increment stream_text
no-tags = record { tags_only = tt; distinct = refl; read = stream-read; targets = tt; lead = tt; short = omega arith }

no-names : AreNames (targets_of (sections_of empty_state)) []
no-names = record { few = omega arith; fit = tt; targets = tt; rising = refl }

-- ---- the length of its text

sized-length : (word text : Bytes) → length text < 100 → length (sized word text) ≤ length word + length text + 6
sized-length word text small =
    let d = decimal (length text) in
    let digits = length-decimal-le 3 (length text) (omega arith) (omega (arith, small)) (omega (arith, small)) in
    omega (arith, digits, length-append (line (spaced (word ∷ d ∷ []))) (line text), length-append (spaced (word ∷ d ∷ [])) (lf ∷ []), length-append word ((sp ∷ d) ++ []), length-append (sp ∷ d) [], length-append text (lf ∷ []))

pairs-length : length (section_text 3 (sections_of empty_state)) ≤ 8
pairs-length =
    let d = decimal 0 in
    let digits = length-decimal-le 3 0 (omega arith) (omega arith) (omega arith) in
    omega (arith, digits, length-append (line (spaced (codes "map" ∷ d ∷ []))) [], length-append (spaced (codes "map" ∷ d ∷ [])) (lf ∷ []), length-append (codes "map") ((sp ∷ d) ++ []), length-append (sp ∷ d) [])

one-more : (k : ℕ) → length (text_up_to (suc k) (sections_of empty_state)) ≡ length (text_up_to k (sections_of empty_state)) + length (section_text (suc k) (sections_of empty_state))
unfolding text_up_to
one-more k = length-append (text_up_to k (sections_of empty_state)) (section_text (suc k) (sections_of empty_state))

first-length : length (text_up_to 0 (sections_of empty_state)) ≡ 16
unfolding text_up_to
first-length = refl

text-short : length (text_up_to 5 (sections_of empty_state)) ≤ slot_limit
unfolding git_increment stream_text
text-short = omega (
  arith,
  first-length,
  one-more 0,
  one-more 1,
  one-more 2,
  one-more 3,
  one-more 4,
  sized-length (codes "hg") (hg_dump []) (omega (arith, bundle-length)),
  bundle-length,
  sized-length (codes "git") [] (omega arith),
  pairs-length,
  sized-length (codes "tags") [] (omega arith),
  sized-length (codes "names") [] (omega arith),
)

pub is-state : IsState empty_state
unfolding links_lead
is-state = (tt, (((((tt, record { dumped = no-changesets; links = refl }), no-commits), refl), no-tags), (no-names, text-short)))
