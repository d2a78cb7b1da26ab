-- One id before others.
use Rattle.std.proofs.Common.{◌≡◌, ◌≤◌, ◌-◌, not, ◌&&◌, List, [], ◌∷◌, length, get_or, take, drop, sym, bytes_eq, arith}
use Rattle.std.specs.List.{list_any}
use Rattle.text_model.specs.Id.{Id}
use Rattle.text_model.proofs.Elements.{take_whole}
use Rattle.git_model.specs.Tree.{has_distinct}

pub distinct-step : (ids : List Id) (first : Id) → 1 ≤ length ids → first ≡ get_or ids 0 first
    → has_distinct ids ≡ (not (list_any (bytes_eq first) (take (length ids - 1) (drop 1 ids))) && has_distinct (take (length ids - 1) (drop 1 ids)))
distinct-step [] first some is = absurd (omega arith)
distinct-step (x ∷ ids) first some is =
    let rest : take (length (x ∷ ids) - 1) (drop 1 (x ∷ ids)) ≡ ids = take_whole ids (length (x ∷ ids) - 1) (omega arith) in
    λ i. not (list_any (bytes_eq (sym is i)) (sym rest i)) && has_distinct (sym rest i)
