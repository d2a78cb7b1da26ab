-- One line of a text of names. Mercurial's help topics `bookmarks` and `phases` say what these are there, and `git for-each-ref` prints the refs of
-- the other side; the forms of the lines, and the refs of phases, are this project's own.
use Rattle.std.specs.Prelude.{if◌then◌else◌, [], ◌∷◌, ◌++◌, Option, Some, None, option_map, option_and_then, codes, bytes_eq}
use Rattle.text_model.specs.Text.{Bytes, lf, sp, line, spaced}
use Rattle.text_model.specs.Id.{Id, hex, id_of_hex}
use Rattle.text_model.specs.Cuts.{cut_of}

-- how far a changeset has come: shared for good, to be shared, or kept back
pub data Phase : Type 0 where
  Public : Phase
  Draft : Phase
  Secret : Phase

-- the number that Mercurial gives a phase
abbrev pub phase_word : Phase → Bytes
phase_word Public = codes "0"
phase_word Draft = codes "1"
phase_word Secret = codes "2"

-- a name as Mercurial's side has it: of a changeset, by its node, of a kept tag, or any other ref
pub data NameLine : Type 0 where
  Bookmark : (node : Id) (name : Bytes) → NameLine
  PlainTag : (node : Id) (name : Bytes) → NameLine
  Annotated : (id : Id) (name : Bytes) → NameLine
  InPhase : (phase : Phase) (node : Id) → NameLine
  OtherRef : (id : Id) (name : Bytes) → NameLine

-- the words of the line
abbrev pub line_words : NameLine → Bytes
line_words (Bookmark node name) = spaced (codes "bookmark" ∷ hex node ∷ name ∷ [])
line_words (PlainTag node name) = spaced (codes "tag" ∷ hex node ∷ name ∷ [])
line_words (Annotated id name) = spaced (codes "annotated" ∷ hex id ∷ name ∷ [])
line_words (InPhase phase node) = spaced (codes "phase" ∷ phase_word phase ∷ hex node ∷ [])
line_words (OtherRef id name) = spaced (codes "ref" ∷ hex id ∷ name ∷ [])

abbrev pub line_text : NameLine → Bytes
line_text l = line (line_words l)

-- ---- the ref that it names

abbrev pub heads : Bytes
heads = codes "refs/heads/"

abbrev pub tags : Bytes
tags = codes "refs/tags/"

abbrev pub phases : Bytes
phases = codes "refs/hg/phase/"

-- the ref that keeps the phase of a changeset
abbrev pub phase_ref : Phase → Id → Bytes
phase_ref phase node = phases ++ phase_word phase ++ 47 ∷ hex node

abbrev pub ref_name : NameLine → Bytes
ref_name (Bookmark node name) = heads ++ name
ref_name (PlainTag node name) = tags ++ name
ref_name (Annotated id name) = tags ++ name
ref_name (InPhase phase node) = phase_ref phase node
ref_name (OtherRef id name) = name

-- ---- the line that a text is, where it is one: the value whose text it is

-- the digits of an id, a space, and what is left
abbrev pub id_and_rest : Bytes → Option (Id × Bytes)
id_and_rest text = option_and_then (λ p. option_map (λ id. (id, p.1)) (id_of_hex p.0)) (cut_of sp text)

abbrev pub phase_of : Bytes → Option Phase
phase_of word =
    if bytes_eq word (codes "0") then Some Public else if bytes_eq word (codes "1") then Some Draft else if bytes_eq word (codes "2") then Some Secret else None

abbrev pub phase_and_id : Bytes → Option NameLine
phase_and_id text = option_and_then (λ p. option_and_then (λ phase. option_map (InPhase phase) (id_of_hex p.1)) (phase_of p.0)) (cut_of sp text)

-- by the first word and what stands behind the space after it
abbrev pub line_by : Bytes → Bytes → Option NameLine
line_by word rest =
    if bytes_eq word (codes "bookmark") then option_map (λ p. Bookmark p.0 p.1) (id_and_rest rest)
    else if bytes_eq word (codes "tag") then option_map (λ p. PlainTag p.0 p.1) (id_and_rest rest)
    else if bytes_eq word (codes "annotated") then option_map (λ p. Annotated p.0 p.1) (id_and_rest rest)
    else if bytes_eq word (codes "phase") then phase_and_id rest
    else if bytes_eq word (codes "ref") then option_map (λ p. OtherRef p.0 p.1) (id_and_rest rest)
    else None

-- the line without its LF, which it has to have
abbrev pub name_line_of : Bytes → Option NameLine
name_line_of text = option_and_then (λ p. option_and_then (λ q. line_by q.0 q.1) (cut_of sp p.0)) (cut_of lf text)

-- the same of a line of Git's side, which has an id and a ref
abbrev pub ref_line_of : Bytes → Option NameLine
ref_line_of text = option_and_then (λ p. option_map (λ q. OtherRef q.0 q.1) (id_and_rest p.0)) (cut_of lf text)
