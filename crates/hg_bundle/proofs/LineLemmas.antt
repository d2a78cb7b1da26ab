-- The line of an entry, piece by piece.
use Rattle.std.proofs.Common.{◌≡◌, List, ℕ, [], ◌∷◌, ◌++◌, length, take, ap, sym, ◌∙◌, append_assoc, append-nil, decimal, arith, ◌≤◌}
use Rattle.std.proofs.lemmas.List.{length-take, take-take}
use Rattle.text_model.specs.Text.{Bytes}
use Rattle.text_model.specs.Id.{hex}
use Rattle.hg_model.specs.Revision.{Group, Changesets, Manifests, FilesAt}
use Rattle.hg_model.specs.Bundle.{BundleEntry, entry_line}
use Rattle.hg_bundle.specs.Line.{group_text}

-- what was appended first and then, is appended in all
pub grows : (old a mid b new : List ℕ) → mid ≡ old ++ a → new ≡ mid ++ b → new ≡ old ++ (a ++ b)
grows old a mid b new first second = second ∙ ap (λ (l : List ℕ). l ++ b) first ∙ append_assoc old a b

-- the front of a front
pub front_of_front : (xs ys zs : List ℕ) → take (length ys) xs ≡ ys → take (length zs) ys ≡ zs → take (length zs) xs ≡ zs
front_of_front xs ys zs first second =
    let shorter : length zs ≤ length ys = omega (arith, length-take (length zs) ys, ap length second) in
    sym (take-take (length zs) (length ys) xs shorter) ∙ ap (λ (l : List ℕ). take (length zs) l) first ∙ second

-- the group, four ids and a number, each behind a space, and the end of the line
abbrev pub pieces : Bytes → BundleEntry → Bytes
pieces head e = (((((head ++ 32 ∷ hex e.node) ++ 32 ∷ hex e.p) ++ 32 ∷ hex e.q) ++ 32 ∷ hex e.link) ++ 32 ∷ []) ++ decimal (length e.delta) ++ 10 ∷ []

regroup : (h a b c d n : Bytes) → (((((h ++ 32 ∷ a) ++ 32 ∷ b) ++ 32 ∷ c) ++ 32 ∷ d) ++ 32 ∷ []) ++ n ≡ h ++ (32 ∷ (a ++ (32 ∷ (b ++ (32 ∷ (c ++ (32 ∷ (d ++ (32 ∷ (n ++ []))))))))))
regroup h a b c d n =
    append_assoc ((((h ++ 32 ∷ a) ++ 32 ∷ b) ++ 32 ∷ c) ++ 32 ∷ d) (32 ∷ []) n
    ∙ append_assoc (((h ++ 32 ∷ a) ++ 32 ∷ b) ++ 32 ∷ c) (32 ∷ d) (32 ∷ n)
    ∙ append_assoc ((h ++ 32 ∷ a) ++ 32 ∷ b) (32 ∷ c) (32 ∷ (d ++ 32 ∷ n))
    ∙ append_assoc (h ++ 32 ∷ a) (32 ∷ b) (32 ∷ (c ++ 32 ∷ (d ++ 32 ∷ n)))
    ∙ append_assoc h (32 ∷ a) (32 ∷ (b ++ 32 ∷ (c ++ 32 ∷ (d ++ 32 ∷ n))))
    ∙ ap (λ (l : List ℕ). h ++ 32 ∷ (a ++ 32 ∷ (b ++ 32 ∷ (c ++ 32 ∷ (d ++ 32 ∷ l))))) (sym (append-nil n))

pub line_pieces : (group : Group) (e : BundleEntry) → pieces (group_text group) e ≡ entry_line group e
unfolding entry_line
line_pieces Changesets e = ap (λ (l : List ℕ). l ++ 10 ∷ []) (regroup (group_text Changesets) (hex e.node) (hex e.p) (hex e.q) (hex e.link) (decimal (length e.delta)))
line_pieces Manifests e = ap (λ (l : List ℕ). l ++ 10 ∷ []) (regroup (group_text Manifests) (hex e.node) (hex e.p) (hex e.q) (hex e.link) (decimal (length e.delta)))
line_pieces (FilesAt path) e = ap (λ (l : List ℕ). l ++ 10 ∷ []) (regroup (group_text (FilesAt path)) (hex e.node) (hex e.p) (hex e.q) (hex e.link) (decimal (length e.delta)))
