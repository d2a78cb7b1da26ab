-- Whether a path lies below a directory.
use Rattle.std.proofs.Common.{◌≡◌, ◌≤◌, Bool, true, false, ◌&&◌, ◌∷◌, ◌++◌, length, take, drop, refl, sym, ap, ◌∙◌, arith}
use Rattle.std.specs.Prelude.{bytes_eq}
use Rattle.std.proofs.lemmas.List.{take-append-drop, length-append}
use Rattle.std.proofs.lemmas.Slice.Eq.{bytes_eq-Decides}
use Rattle.text_model.specs.Text.{Bytes}
use Rattle.text_model.specs.Path.{lies_below}
use Rattle.text_model.proofs.TestLemmas.{both}
use Rattle.text_model.proofs.Elements.{drop_front}
use Rattle.tree_shape.specs.Clashes.{begins_with_slash}
use Rattle.tree_shape.proofs.Rows.{in-lies}
use Rattle.tree_shape.proofs.FileSets.{lies-true, bool-same}
use Rattle.tree_shape.proofs.ClashLemmas.{slash-first, take-front}

pub lies-by : (path d : Bytes) → (bytes_eq (take (length d) path) d && begins_with_slash (drop (length d) path)) ≡ lies_below path d
lies-by path d = bool-same (bytes_eq (take (length d) path) d && begins_with_slash (drop (length d) path)) (lies_below path d)
    (λ e.
    let parts = both (bytes_eq (take (length d) path) d) (begins_with_slash (drop (length d) path)) e in
    let s = slash-first (drop (length d) path) parts.1 in
    let equal : take (length d) path ≡ d = (bytes_eq-Decides (take (length d) path) d).0 parts.0 in
    let is : path ≡ d ++ 47 ∷ s.0 = sym (take-append-drop (length d) path) ∙ (λ k. equal k ++ s.1 k) in
    ap (λ (p : Bytes). lies_below p d) is ∙ in-lies d s.0)
    (λ e.
    let t = lies-true path d e in
    let front : take (length d) path ≡ d = ap (take (length d)) t.1 ∙ take-front d (47 ∷ t.0) in
    let rest : drop (length d) path ≡ 47 ∷ t.0 = ap (drop (length d)) t.1 ∙ drop_front d (47 ∷ t.0) in
    (λ k. bytes_eq (front k) d && begins_with_slash (rest k)) ∙ (λ k. (bytes_eq-Decides d d).1 refl k && true))

-- a path that is no longer than a directory's lies not below it
pub short-lies : (path d : Bytes) → length path ≤ length d → false ≡ lies_below path d
short-lies path d le = by (lies_below path d) refl
  where
    by : (t : Bool) → lies_below path d ≡ t → false ≡ t
    by false e = refl
    by true e = let t = lies-true path d e in absurd (omega (arith, le, ap length t.1, length-append d (47 ∷ t.0)))
