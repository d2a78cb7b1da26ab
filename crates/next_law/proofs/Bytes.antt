-- The contents of the objects of a stream are made of bytes where the stream is.
use Rattle.std.proofs.Common.{List, [], ◌∷◌, length}
use Rattle.std.specs.Prelude.{codes, decimal}
use Rattle.text_model.specs.Lists.{Each}
use Rattle.text_model.specs.Text.{Bytes, IsBytes, line, lf, spaced}
use Rattle.text_model.specs.Id.{hex, kind_word}
use Rattle.text_model.proofs.ByteLemmas.{IsBytes-front, IsBytes-rest}
use Rattle.git_model.specs.Object.{Object}
use Rattle.git_model.specs.Stream.{object_text, stream_text}
use Rattle.state_model.specs.Kept.{State, git_dump}
use Rattle.state_model.specs.Text.{Sections, sections_of, section_text, sized, text_up_to, state_text}
use Rattle.pair_model.specs.Block.{commits_in}

pub contents-bytes : (objects : List Object) → IsBytes (stream_text objects) → Each (λ o. IsBytes o.content) objects
unfolding stream_text
contents-bytes [] h = tt
contents-bytes (o ∷ objects) h =
    let own = IsBytes-front (object_text o) (stream_text objects) h in
    let body = IsBytes-rest (line (spaced (hex o.id ∷ kind_word o.kind ∷ decimal (length o.content) ∷ []))) (line o.content) own in
    (IsBytes-front o.content (lf ∷ []) body, contents-bytes objects (IsBytes-rest (object_text o) (stream_text objects) h))

sized-bytes : (word text : Bytes) → IsBytes (sized word text) → IsBytes text
sized-bytes word text h = IsBytes-front text (lf ∷ []) (IsBytes-rest (line (spaced (word ∷ decimal (length text) ∷ []))) (line text) h)

-- the sections of a text
section-bytes : (s : Sections) → IsBytes (text_up_to 5 s) → IsBytes (section_text 2 s) × IsBytes (section_text 4 s)
unfolding text_up_to
section-bytes s h =
    let four = IsBytes-front (text_up_to 4 s) (section_text 5 s) h in
    let three = IsBytes-front (text_up_to 3 s) (section_text 4 s) four in
    let two = IsBytes-front (text_up_to 2 s) (section_text 3 s) three in
    (IsBytes-rest (text_up_to 1 s) (section_text 2 s) two, IsBytes-rest (text_up_to 3 s) (section_text 4 s) four)

-- the stream and the tags of a state's text
pub dump-bytes : (s : State) → IsBytes (state_text s) → IsBytes (git_dump (commits_in s.blocks))
unfolding state_text
dump-bytes s h = sized-bytes (codes "git") (git_dump (commits_in s.blocks)) (section-bytes (sections_of s) h).0

pub tags-bytes : (s : State) → IsBytes (state_text s) → IsBytes (stream_text s.tags)
unfolding state_text
tags-bytes s h = sized-bytes (codes "tags") (stream_text s.tags) (section-bytes (sections_of s) h).1
