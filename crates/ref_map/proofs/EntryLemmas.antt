-- Entries of a table of refs by their names, as rows.
use Rattle.std.proofs.Common.{◌≡◌, ℕ, Bool, true, false, List, [], ◌∷◌, ◌++◌, map, None, refl, ap, ◌∙◌}
use Rattle.std.specs.Prelude.{if◌then◌else◌, is_some, bytes_eq}
use Rattle.std.specs.Global.{Vec}
use Rattle.std.specs.Map.{lookup}
use Rattle.text_model.specs.Lists.{in_order, with_inserted}
use Rattle.text_model.specs.Text.{Bytes, is_below}
use Rattle.text_model.specs.Id.{Id}
use Rattle.text_model.proofs.TestLemmas.{bytes_eq-sym}
use Rattle.text_model.proofs.Options.{none_is}
use Rattle.state_model.specs.Kept.{NameRow}
use Rattle.state_model.specs.Names.{is_name_below}
use Rattle.ref_map.specs.Entries.{entry_row}
use Rattle.ref_map.specs.Rows.{has_name}

-- a look-up by a name finds what a row has
pub found : (name : Bytes) (es : List (Vec ℕ × Id)) → is_some (lookup (λ k. bytes_eq name k.items) es) ≡ has_name (map entry_row es) name
found name [] = refl
found name (e ∷ es) = by (bytes_eq (e.0).items name) refl (found name es)
  where
    by : (t : Bool) → bytes_eq (e.0).items name ≡ t → is_some (lookup (λ k. bytes_eq name k.items) es) ≡ has_name (map entry_row es) name
        → is_some (lookup (λ k. bytes_eq name k.items) (e ∷ es)) ≡ has_name (map entry_row (e ∷ es)) name
    by true t later = rw (bytes_eq-sym name (e.0).items, t) refl
    by false t later = rw (bytes_eq-sym name (e.0).items, t) later

pub absent : (name : Bytes) (es : List (Vec ℕ × Id)) (rows : List NameRow) → map entry_row es ≡ rows → has_name rows name ≡ false → lookup (λ k. bytes_eq name k.items) es ≡ None
absent name es rows are none = none_is (lookup (λ k. bytes_eq name k.items) es) (found name es ∙ ap (λ (l : List NameRow). has_name l name) are ∙ none)

pub pushed : (es : List (Vec ℕ × Id)) (e : Vec ℕ × Id) → map entry_row (es ++ e ∷ []) ≡ map entry_row es ++ entry_row e ∷ []
pushed [] e = refl
pushed (x ∷ es) e = ap (λ (l : List NameRow). entry_row x ∷ l) (pushed es e)

-- the order of entries is that of their rows
abbrev pub is_entry_below : Vec ℕ × Id → Vec ℕ × Id → Bool
is_entry_below a b = is_below (a.0).items (b.0).items

inserted : (e : Vec ℕ × Id) (es : List (Vec ℕ × Id)) → map entry_row (with_inserted is_entry_below e es) ≡ with_inserted is_name_below (entry_row e) (map entry_row es)
inserted e [] = refl
inserted e (x ∷ es) = by (is_entry_below x e) (inserted e es)
  where
    by : (t : Bool) → map entry_row (with_inserted is_entry_below e es) ≡ with_inserted is_name_below (entry_row e) (map entry_row es)
        → map entry_row (if t then x ∷ with_inserted is_entry_below e es else e ∷ x ∷ es)
        ≡ (if t then entry_row x ∷ with_inserted is_name_below (entry_row e) (map entry_row es) else entry_row e ∷ entry_row x ∷ map entry_row es)
    by true later = ap (λ (l : List NameRow). entry_row x ∷ l) later
    by false later = refl

pub ordered : (es : List (Vec ℕ × Id)) → map entry_row (in_order is_entry_below es) ≡ in_order is_name_below (map entry_row es)
ordered [] = refl
ordered (e ∷ es) = inserted e (in_order is_entry_below es) ∙ ap (with_inserted is_name_below (entry_row e)) (ordered es)
