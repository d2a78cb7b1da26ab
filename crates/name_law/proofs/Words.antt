-- Lines whose text is read as the same line.
use Rattle.std.proofs.Common.{◌≡◌, ℕ, ◌<◌, false, [], ◌∷◌, ◌++◌, append-nil, Some, refl, sym, ap, subst, ◌∙◌, arith}
use Rattle.std.specs.Prelude.{option_map, codes}
use Rattle.text_model.specs.Text.{Bytes, has_byte, line, spaced}
use Rattle.text_model.specs.Id.{Id, IsId, hex}
use Rattle.text_model.specs.Cuts.{Lacks}
use Rattle.text_model.proofs.CutLemmas.{cut_of-at}
use Rattle.text_model.proofs.LackLemmas.{Lacks-by_test, Lacks-append}
use Rattle.text_model.proofs.HexLemmas.{hex-lacks, id_of_hex-hex}
use Rattle.name_model.specs.Line.{Phase, Public, Draft, Secret, phase_word, phase_of, NameLine, Bookmark, PlainTag, Annotated, InPhase, OtherRef, line_words, line_text, id_and_rest, line_by, name_line_of, ref_line_of}

-- the id of the line is one, and its name lacks LF
abbrev pub IsLine : NameLine → Type 0
IsLine (Bookmark node name) = IsId node × Lacks 10 name
IsLine (PlainTag node name) = IsId node × Lacks 10 name
IsLine (Annotated id name) = IsId id × Lacks 10 name
IsLine (InPhase phase node) = IsId node
IsLine (OtherRef id name) = IsId id × Lacks 10 name

-- ---- words with spaces between them

three : (word mid last : Bytes) → spaced (word ∷ mid ∷ last ∷ []) ≡ word ++ 32 ∷ (mid ++ 32 ∷ last)
three word mid last = ap (λ (x : Bytes). word ++ 32 ∷ (mid ++ 32 ∷ x)) (append-nil last)

two-lack : (mid last : Bytes) → Lacks 10 mid → Lacks 10 last → Lacks 10 (mid ++ 32 ∷ last)
two-lack mid last m l = Lacks-append 10 mid (32 ∷ last) m ((λ e. absurd (omega (arith, e))), l)

three-lack : (word mid last : Bytes) → Lacks 10 word → Lacks 10 mid → Lacks 10 last → Lacks 10 (spaced (word ∷ mid ∷ last ∷ []))
three-lack word mid last w m l = subst (Lacks 10) (sym (three word mid last)) (two-lack word (mid ++ 32 ∷ last) w (two-lack mid last m l))

hex-line : (id : Id) → IsId id → Lacks 10 (hex id)
hex-line id h = hex-lacks 10 id (omega arith) h.1

phase-lacks : (b : ℕ) (phase : Phase) → b < 48 → Lacks b (phase_word phase)
phase-lacks b Public lt = ((λ e. absurd (omega (arith, lt, e))), tt)
phase-lacks b Draft lt = ((λ e. absurd (omega (arith, lt, e))), tt)
phase-lacks b Secret lt = ((λ e. absurd (omega (arith, lt, e))), tt)

-- the words of a line are one line
pub one_line : (l : NameLine) → IsLine l → Lacks 10 (line_words l)
one_line (Bookmark node name) h = three-lack (codes "bookmark") (hex node) name (Lacks-by_test 10 (codes "bookmark") refl) (hex-line node h.0) h.1
one_line (PlainTag node name) h = three-lack (codes "tag") (hex node) name (Lacks-by_test 10 (codes "tag") refl) (hex-line node h.0) h.1
one_line (Annotated id name) h = three-lack (codes "annotated") (hex id) name (Lacks-by_test 10 (codes "annotated") refl) (hex-line id h.0) h.1
one_line (InPhase phase node) h = three-lack (codes "phase") (phase_word phase) (hex node) (Lacks-by_test 10 (codes "phase") refl) (phase-lacks 10 phase (omega arith)) (hex-line node h)
one_line (OtherRef id name) h = three-lack (codes "ref") (hex id) name (Lacks-by_test 10 (codes "ref") refl) (hex-line id h.0) h.1

-- ---- what is read of them

id-back : (id : Id) (name : Bytes) → IsId id → id_and_rest (hex id ++ 32 ∷ name) ≡ Some (id, name)
id-back id name h = rw (cut_of-at 32 (hex id) name (hex-lacks 32 id (omega arith) h.1), id_of_hex-hex id h) refl

-- a line is read by its first word
by_word : (word mid last : Bytes) → has_byte 32 word ≡ false → Lacks 10 (spaced (word ∷ mid ∷ last ∷ [])) → name_line_of (line (spaced (word ∷ mid ∷ last ∷ []))) ≡ line_by word (mid ++ 32 ∷ last)
by_word word mid last w whole =
    rw (cut_of-at 10 (spaced (word ∷ mid ∷ last ∷ [])) [] whole, three word mid last, cut_of-at 32 word (mid ++ 32 ∷ last) (Lacks-by_test 32 word w)) refl

phase-back : (phase : Phase) → phase_of (phase_word phase) ≡ Some phase
phase-back Public = refl
phase-back Draft = refl
phase-back Secret = refl

by_phase : (phase : Phase) (node : Id) → IsId node → line_by (codes "phase") (phase_word phase ++ 32 ∷ hex node) ≡ Some (InPhase phase node)
by_phase phase node h = rw (cut_of-at 32 (phase_word phase) (hex node) (phase-lacks 32 phase (omega arith)), phase-back phase, id_of_hex-hex node h) refl

pub line-back : (l : NameLine) → IsLine l → name_line_of (line_text l) ≡ Some l
line-back (Bookmark node name) h =
    by_word (codes "bookmark") (hex node) name refl (one_line (Bookmark node name) h) ∙ ap (option_map (λ (p : Id × Bytes). Bookmark p.0 p.1)) (id-back node name h.0)
line-back (PlainTag node name) h =
    by_word (codes "tag") (hex node) name refl (one_line (PlainTag node name) h) ∙ ap (option_map (λ (p : Id × Bytes). PlainTag p.0 p.1)) (id-back node name h.0)
line-back (Annotated id name) h =
    by_word (codes "annotated") (hex id) name refl (one_line (Annotated id name) h) ∙ ap (option_map (λ (p : Id × Bytes). Annotated p.0 p.1)) (id-back id name h.0)
line-back (InPhase phase node) h = by_word (codes "phase") (phase_word phase) (hex node) refl (one_line (InPhase phase node) h) ∙ by_phase phase node h
line-back (OtherRef id name) h =
    by_word (codes "ref") (hex id) name refl (one_line (OtherRef id name) h) ∙ ap (option_map (λ (p : Id × Bytes). OtherRef p.0 p.1)) (id-back id name h.0)

-- ---- the same of a line of Git's side

pub ref_line-lacks : (id : Id) (name : Bytes) → IsId id → Lacks 10 name → Lacks 10 (hex id ++ 32 ∷ name)
ref_line-lacks id name h n = two-lack (hex id) name (hex-line id h) n

pub ref_line-back : (id : Id) (name : Bytes) → IsId id → Lacks 10 name → ref_line_of (line (hex id ++ 32 ∷ name)) ≡ Some (OtherRef id name)
ref_line-back id name h n = rw (cut_of-at 10 (hex id ++ 32 ∷ name) [] (ref_line-lacks id name h n), id-back id name h) refl
