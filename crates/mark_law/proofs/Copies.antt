-- Metadata that are a copy's are those of its path and node, and the source of a rename is made of bytes.
use Rattle.std.proofs.Common.{◌≡◌, ℕ, Bool, true, false, List, [], ◌∷◌, ◌++◌, ◌<◌, length, drop, Some, None, refl, sym, ap, subst, ◌∙◌, append-nil}
use Rattle.std.specs.Prelude.{not, ◌&&◌, ◌==◌, if◌then◌else◌, codes, bytes_eq}
use Rattle.std.specs.List.{flat_map}
use Rattle.text_model.proofs.EachLemmas.{Each-front, Each-rest}
use Rattle.text_model.proofs.LineLemmas.{whole_lines-whole}
use Rattle.text_model.proofs.Options.{none_some}
use Rattle.std.proofs.lemmas.Slice.Eq.{bytes_eq-Decides}
use Rattle.text_model.specs.Lists.{all_but_last}
use Rattle.text_model.specs.Text.{Bytes, IsBytes, lf, line, whole_lines}
use Rattle.text_model.specs.Id.{Id, hex, is_hex_id, bytes_of_digits}
use Rattle.hg_model.specs.FileText.{copy_meta, copy_by, copy_of}

pair_is : (a b : Bytes × Id) → Some a ≡ Some b → a ≡ b
pair_is a b e = cc

guarded : (s t u : Bool) (x y : Bytes × Id) → (if s && t && u then Some x else None) ≡ Some y → (u ≡ true) × (x ≡ y)
guarded true true true x y e = (refl, pair_is x y e)
guarded true true false x y e = absurd (none_some e)
guarded true false u x y e = absurd (none_some e)
guarded false t u x y e = absurd (none_some e)

copy_by_is : (first second path : Bytes) (node : Id) → copy_by (first ∷ second ∷ []) ≡ Some (path, node) → first ++ second ≡ copy_meta path node
copy_by_is first second path node e =
    let found : Bytes × Id = (all_but_last (drop 6 first), bytes_of_digits (all_but_last (drop 9 second))) in
    let g = guarded (not (length (all_but_last (drop 6 first)) == 0)) (is_hex_id (all_but_last (drop 9 second))) (bytes_eq (first ++ second) (copy_meta found.0 found.1)) found (path, node) e in
    (bytes_eq-Decides (first ++ second) (copy_meta found.0 found.1)).0 g.0 ∙ ap (λ (x : Bytes × Id). copy_meta x.0 x.1) g.1

lines_copy : (ls : List Bytes) (path : Bytes) (node : Id) → copy_by ls ≡ Some (path, node) → flat_map (λ x. x) ls ≡ copy_meta path node
lines_copy [] path node e = absurd (none_some e)
lines_copy (a ∷ []) path node e = absurd (none_some e)
lines_copy (a ∷ b ∷ []) path node e = ap (λ (x : List ℕ). a ++ x) (append-nil b) ∙ copy_by_is a b path node e
lines_copy (a ∷ b ∷ c ∷ ls) path node e = absurd (none_some e)

pub copy_is : (meta path : Bytes) (node : Id) → copy_of meta ≡ Some (path, node) → meta ≡ copy_meta path node
copy_is meta path node e = sym (whole_lines-whole meta) ∙ lines_copy (whole_lines meta) path node e

pub source_bytes : (meta path : Bytes) (node : Id) → IsBytes meta → copy_of meta ≡ Some (path, node) → IsBytes path
source_bytes meta path node h e =
    let all : IsBytes (copy_meta path node) = subst (λ (x : List ℕ). IsBytes x) (copy_is meta path node e) h in
    let first : IsBytes (line (codes "copy: " ++ path)) = Each-front (λ b. b < 256) (line (codes "copy: " ++ path)) (line (codes "copyrev: " ++ hex node)) all in
    Each-rest (λ b. b < 256) (codes "copy: ") path (Each-front (λ b. b < 256) (codes "copy: " ++ path) (lf ∷ []) first)
