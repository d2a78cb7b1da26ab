-- What is left of bytes behind what they begin with.
use Rattle.std.proofs.Common.{◌≡◌, ◌<◌, ◌+◌, ◌++◌, ℕ, true, List, [], ◌∷◌, map, length, drop, Option, Some, None, Bor, refl, sym, ap, subst, ◌∙◌, arith, append-nil, append_assoc}
use Rattle.std.specs.Prelude.{slice_get, ◌==◌}
use Rattle.std.specs.List.{flat_map}
use Rattle.byteorder.specs.Endian.{big_bytes}
use Rattle.std.proofs.lemmas.List.{append_cancel_left, nil_from_length}
use Rattle.std.proofs.lemmas.Bool.Decides.{Decides-eqb}
use Rattle.text_model.specs.Text.{Bytes}
use Rattle.text_model.proofs.Elements.{drop_next}
use Rattle.hg_model.specs.Chunk.{chunk_text, magic_text}
use Rattle.hg_model.specs.Delta.{number32, hunk_text}
use Rattle.hg_model.specs.Revision.{Changesets, Manifests, Revision}
use Rattle.hg_model.specs.Bundle.{FileGroup, group_text, bundle_text, file_group_text}
use Rattle.view_model.specs.Dump.{of_group, written_group, written_bundle, written_file, paths_in}
use Rattle.hg_dump.specs.Begins.{LacksFront, HasFront, IsBehind, GoOnAlike}
use Rattle.hg_dump.specs.Written.{entry_over, entry_chunk, chunks_over, file_part_of}

-- ---- one part behind another

pub has-both : (bytes a b mid rest : Bytes) → HasFront bytes a mid → HasFront mid b rest → HasFront bytes (a ++ b) rest
has-both bytes a b mid rest first second = first ∙ ap (λ (x : Bytes). a ++ x) second ∙ sym (append_assoc a b rest)

pub lacks-first : (bytes a b : Bytes) → LacksFront bytes a → LacksFront bytes (a ++ b)
lacks-first bytes a b none rest is = none (b ++ rest) (is ∙ append_assoc a b rest)

pub lacks-second : (bytes a b mid : Bytes) → HasFront bytes a mid → LacksFront mid b → LacksFront bytes (a ++ b)
lacks-second bytes a b mid first none rest is = none rest (append_cancel_left a mid (b ++ rest) (sym first ∙ is ∙ append_assoc a b rest))

pub behind-both : (bytes a b mid : Bytes) (behind : Option (Bor Bytes)) → HasFront bytes a mid → IsBehind mid b behind → IsBehind bytes (a ++ b) behind
behind-both bytes a b mid None first none = lacks-second bytes a b mid first none
behind-both bytes a b mid (Some x) first second = has-both bytes a b mid x.now first second

-- ---- the parts of a row, one after the other

pub alike-begin : (bytes whole left : Bytes) → whole ≡ left → GoOnAlike bytes whole bytes left
alike-begin bytes whole left same end = ((λ is. is ∙ ap (λ (x : Bytes). x ++ end) same), (λ is. is ∙ ap (λ (x : Bytes). x ++ end) (sym same)))

pub alike-step : (bytes whole now a left rest : Bytes) → GoOnAlike bytes whole now (a ++ left) → HasFront now a rest → GoOnAlike bytes whole rest left
alike-step bytes whole now a left rest alike has end = (
  (λ is. append_cancel_left a rest (left ++ end) (sym has ∙ (alike end).0 is ∙ append_assoc a left end)),
  (λ is. (alike end).1 (has ∙ ap (λ (x : Bytes). a ++ x) is ∙ sym (append_assoc a left end))),
)

pub alike-lacks : (bytes whole now a left : Bytes) → GoOnAlike bytes whole now (a ++ left) → LacksFront now a → LacksFront bytes whole
alike-lacks bytes whole now a left alike none end is = none (left ++ end) ((alike end).0 is ∙ append_assoc a left end)

pub alike-end : (bytes whole rest : Bytes) → GoOnAlike bytes whole rest [] → HasFront bytes whole rest
alike-end bytes whole rest alike = (alike rest).1 refl

-- ---- the entries of a group

chunks-next : (size i : ℕ) (rs : List Revision) (r : Revision) → slice_get rs i ≡ Some r → chunks_over size (drop i rs) ≡ entry_chunk (entry_over size r) ++ chunks_over (length r.text) (drop (i + 1) rs)
chunks-next size i rs r at = ap (λ (l : List Revision). chunks_over size l) (drop_next rs i r at)

pub entry-step : (bytes whole now rest : Bytes) (size next i : ℕ) (rs : List Revision) (r : Revision) → slice_get rs i ≡ Some r → GoOnAlike bytes whole now (chunks_over size (drop i rs))
    → HasFront now (entry_chunk (entry_over size r)) rest → next ≡ length r.text → GoOnAlike bytes whole rest (chunks_over next (drop (i + 1) rs))
entry-step bytes whole now rest size next i rs r at alike has is =
    subst (λ (n : ℕ). GoOnAlike bytes whole rest (chunks_over n (drop (i + 1) rs))) (sym is)
    (alike-step bytes whole now (entry_chunk (entry_over size r)) (chunks_over (length r.text) (drop (i + 1) rs)) rest
    (subst (λ (l : Bytes). GoOnAlike bytes whole now l) (chunks-next size i rs r at) alike) has)

pub entry-lacks : (bytes whole now : Bytes) (size i : ℕ) (rs : List Revision) (r : Revision) → slice_get rs i ≡ Some r → GoOnAlike bytes whole now (chunks_over size (drop i rs))
    → LacksFront now (entry_chunk (entry_over size r)) → LacksFront bytes whole
entry-lacks bytes whole now size i rs r at alike none =
    alike-lacks bytes whole now (entry_chunk (entry_over size r)) (chunks_over (length r.text) (drop (i + 1) rs))
    (subst (λ (l : Bytes). GoOnAlike bytes whole now l) (chunks-next size i rs r at) alike) none

-- ---- the only hunk of a delta

pub hunk-spelled : (size : ℕ) (text : Bytes) → big_bytes 4 0 ++ big_bytes 4 size ++ big_bytes 4 (length text) ++ text ≡ hunk_text (record { start = 0; finish = size; bytes = text })
unfolding number32
hunk-spelled size text = refl

-- ---- the part of a file

pub no-references : (n : ℕ) → (n == 0) ≡ true → n ≡ 0
no-references n e = (Decides-eqb n 0).0 e

pub part-none : (f : FileGroup) (rs : List Revision) → length rs ≡ 0 → [] ≡ file_part_of f rs
part-none f [] none = refl
part-none f (r ∷ rs) none = absurd (omega (arith, none))

pub part-some : (f : FileGroup) (rs : List Revision) → 0 < length rs → chunk_text f.path ++ group_text f.entries ≡ file_part_of f rs
part-some f [] some = absurd (omega (arith, some))
part-some f (r ∷ rs) some = refl

-- ---- the parts of a bundle

module _ (known : List Revision) (bytes : Bytes) (rs : List Revision) where
  abbrev changesets : Bytes
  changesets = group_text (written_group known Changesets (of_group Changesets rs))

  abbrev manifests : Bytes
  manifests = group_text (written_group known Manifests (of_group Manifests rs))

  abbrev files : Bytes
  files = flat_map file_group_text (map (written_file known rs) (paths_in rs)) ++ chunk_text []

  pub begins-magic : LacksFront bytes magic_text → LacksFront bytes (bundle_text (written_bundle known rs))
  unfolding bundle_text written_bundle
  begins-magic none = lacks-first bytes magic_text (changesets ++ (manifests ++ files)) none

  pub begins-changesets : (one : Bytes) → HasFront bytes magic_text one → LacksFront one changesets → LacksFront bytes (bundle_text (written_bundle known rs))
  unfolding bundle_text written_bundle
  begins-changesets one has none = lacks-second bytes magic_text (changesets ++ (manifests ++ files)) one has (lacks-first one changesets (manifests ++ files) none)

  pub begins-manifests : (one two : Bytes) → HasFront bytes magic_text one → HasFront one changesets two → LacksFront two manifests → LacksFront bytes (bundle_text (written_bundle known rs))
  unfolding bundle_text written_bundle
  begins-manifests one two has next none =
      lacks-second bytes magic_text (changesets ++ (manifests ++ files)) one has (lacks-second one changesets (manifests ++ files) two next (lacks-first two manifests files none))

-- ---- the whole

pub nil-is : (xs : Bytes) → (length xs == 0) ≡ true → xs ≡ []
nil-is xs e = nil_from_length xs (no-references (length xs) e)

pub nothing-behind : (bytes whole rest : Bytes) → HasFront bytes whole rest → rest ≡ [] → bytes ≡ whole
nothing-behind bytes whole rest has none = has ∙ ap (λ (x : Bytes). whole ++ x) none ∙ append-nil whole

pub all-of-it : (bytes whole rest : Bytes) → HasFront bytes whole rest → bytes ≡ whole → rest ≡ []
all-of-it bytes whole rest has same = append_cancel_left whole rest [] (sym has ∙ same ∙ sym (append-nil whole))

pub not-whole : (bytes whole : Bytes) → LacksFront bytes whole → bytes ≡ whole → ⊥
not-whole bytes whole none same = none [] (same ∙ sym (append-nil whole))
