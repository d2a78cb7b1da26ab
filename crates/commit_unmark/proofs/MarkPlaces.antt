-- The mark at a place of a list.
use Rattle.std.proofs.Common.{◌≡◌, ◌+◌, ℕ, Bool, List, ◌∷◌, drop, Option, Some, None, refl, sym, ap, ◌∙◌}
use Rattle.std.specs.Prelude.{slice_get, option_map, is_some, if◌then◌else◌}
use Rattle.text_model.specs.Text.{Bytes}
use Rattle.pair_model.specs.MarkList.{Mark}
use Rattle.partner_model.specs.Filled.{entry_path, is_at}
use Rattle.filled_law.specs.Walks.{mark_at, behind, starts_entry}
use Rattle.text_model.proofs.Elements.{drop_next}

module _ (marks : List Mark) (place : ℕ) (m : Mark) (at : slice_get marks place ≡ Some m) where
  there : drop place marks ≡ m ∷ drop (place + 1) marks
  there = drop_next marks place m at

  pub entry-at : {X : Type 0} (o : Option X) (f : X → Bytes) → option_map f o ≡ entry_path m → is_some o ≡ starts_entry (drop place marks)
  entry-at {X = X} o f e = same o ∙ ap is_some e ∙ ap starts_entry (sym there)
    where
      same : (p : Option X) → is_some p ≡ is_some (option_map f p)
      same None = refl
      same (Some x) = refl

  pub at-mark : (path : Bytes) (t : Bool) → t ≡ is_at path m → mark_at path (drop place marks) ≡ (if t then Some m else None)
  at-mark path t e = ap (mark_at path) there ∙ ap (λ b. if b then Some m else None) (sym e)

  pub behind-mark : (path : Bytes) (t : Bool) → t ≡ is_at path m → behind path (drop place marks) ≡ (if t then drop (place + 1) marks else drop place marks)
  behind-mark path t e = ap (behind path) there ∙ ap (λ b. if b then drop (place + 1) marks else m ∷ drop (place + 1) marks) (sym e) ∙ ap (λ ms. if t then drop (place + 1) marks else ms) (sym there)
