-- The text of the empty state is made of bytes.
use Rattle.std.proofs.Common.{◌≡◌, ℕ, true, [], ◌∷◌, ◌++◌, length, refl, arith, leb-true}
use Rattle.std.specs.Prelude.{codes, decimal, nat_le}
use Rattle.std.specs.List.{list_all}
use Rattle.std.proofs.lemmas.Bool.{and_parts}
use Rattle.text_model.specs.Text.{Bytes, IsBytes, line, spaced, lf, sp}
use Rattle.text_model.proofs.ByteLemmas.{IsBytes-append}
use Rattle.mark_law.proofs.TextFacts.{IsBytes-decimal}
use Rattle.hg_model.specs.Bundle.{bundle_text, group_text}
use Rattle.hg_model.specs.Chunk.{chunk_text}
use Rattle.git_model.specs.Stream.{stream_text}
use Rattle.view_model.specs.Dump.{brought_by, written_bundle, written_group, written_from, paths_in, git_increment}
use Rattle.state_model.specs.Kept.{empty_state, hg_dump}
use Rattle.state_model.specs.Text.{Sections, sized, version_word, version, section_text, text_up_to, sections_of, state_text}

-- a text of small bytes
small : (text : Bytes) → list_all (λ b. nat_le b 255) text ≡ true → IsBytes text
small [] h = tt
small (b ∷ text) h =
    let a = and_parts (nat_le b 255) (list_all (λ b. nat_le b 255) text) h in
    (omega (arith, leb-true b 255 a.0), small text a.1)

line-bytes : (text : Bytes) → IsBytes text → IsBytes (line text)
line-bytes text h = IsBytes-append text (lf ∷ []) h (omega arith, tt)

head-bytes : (word : Bytes) (n : ℕ) → IsBytes word → IsBytes (line (spaced (word ∷ decimal n ∷ [])))
head-bytes word n h =
    line-bytes (spaced (word ∷ decimal n ∷ [])) (IsBytes-append word ((sp ∷ decimal n) ++ []) h (omega arith, IsBytes-append (decimal n) [] (IsBytes-decimal n) tt))

sized-bytes : (word text : Bytes) → IsBytes word → IsBytes text → IsBytes (sized word text)
sized-bytes word text h k = IsBytes-append (line (spaced (word ∷ decimal (length text) ∷ []))) (line text) (head-bytes word (length text) h) (line-bytes text k)

abbrev nothing : Sections
nothing = sections_of empty_state

bundle-bytes : IsBytes (hg_dump [])
unfolding bundle_text written_bundle brought_by written_group written_from paths_in group_text chunk_text
bundle-bytes = small (hg_dump []) refl

pub empty-bytes : IsBytes (state_text empty_state)
unfolding state_text text_up_to git_increment stream_text
empty-bytes =
    IsBytes-append (text_up_to 4 nothing) (section_text 5 nothing)
    (IsBytes-append (text_up_to 3 nothing) (section_text 4 nothing)
    (IsBytes-append (text_up_to 2 nothing) (section_text 3 nothing)
    (IsBytes-append (text_up_to 1 nothing) (section_text 2 nothing)
    (IsBytes-append (text_up_to 0 nothing) (section_text 1 nothing)
    (small (line (spaced (version_word ∷ version ∷ []))) refl)
    (sized-bytes (codes "hg") (hg_dump []) (small (codes "hg") refl) bundle-bytes))
    (sized-bytes (codes "git") [] (small (codes "git") refl) tt))
    (IsBytes-append (line (spaced (codes "map" ∷ decimal 0 ∷ []))) [] (head-bytes (codes "map") 0 (small (codes "map") refl)) tt))
    (sized-bytes (codes "tags") [] (small (codes "tags") refl) tt))
    (sized-bytes (codes "names") [] (small (codes "names") refl) tt)
