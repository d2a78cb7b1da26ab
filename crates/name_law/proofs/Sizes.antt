-- How long the text of refs is.
use Rattle.std.proofs.Common.{◌*◌, ◌≤◌, List, [], ◌∷◌, ◌++◌, length, length-append, arith}
use Rattle.std.specs.Prelude.{IsTrue}
use Rattle.text_model.specs.Lists.{Each}
use Rattle.text_model.specs.Text.{lf, sp}
use Rattle.text_model.specs.Id.{hex}
use Rattle.text_model.proofs.HexLemmas.{length-hex}
use Rattle.state_model.specs.Kept.{NameRow}
use Rattle.state_model.specs.Text.{ref_line, refs_text}
use Rattle.state_model.specs.Ref.{is_fit_ref}
use Rattle.state_model.specs.Names.{Targets, is_target, AreNames}
use Rattle.name_model.specs.Targets.{AreTargets}
use Rattle.name_law.proofs.Forms.{id_is, fit-short}

module _ (t : Targets) (a : AreTargets t) where
  line-short : (row : NameRow) → IsTrue (is_fit_ref row.name) → IsTrue (is_target t row.id) → length (ref_line row) ≤ 4138
  line-short row fit known =
      omega (
        arith,
        length-append (hex row.id ++ sp ∷ row.name) (lf ∷ []),
        length-append (hex row.id) (sp ∷ row.name),
        length-hex row.id,
        (id_is t a row fit known).0,
        fit-short row.name fit,
      )

  lines-short : (names : List NameRow) → Each (λ row. IsTrue (is_fit_ref row.name)) names → Each (λ row. IsTrue (is_target t row.id)) names → length (refs_text names) ≤ 4138 * length names
  lines-short [] f k = omega arith
  lines-short (row ∷ names) f k = omega (arith, length-append (ref_line row) (refs_text names), line-short row f.0 k.0, lines-short names f.1 k.1)

  -- 40 digits, a space, the name and LF
  pub refs-short : (names : List NameRow) → AreNames t names → length (refs_text names) ≤ 4138 * length names
  refs-short names n = lines-short names n.fit n.targets
