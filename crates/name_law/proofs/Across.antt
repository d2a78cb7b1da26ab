-- Names that can be kept come back from the text of either side.
use Rattle.std.proofs.Common.{◌≡◌, List, [], ◌∷◌, ◌++◌, Ok, sym, ap, ◌∙◌}
use Rattle.std.specs.Prelude.{IsTrue}
use Rattle.text_model.specs.Lists.{Each}
use Rattle.text_model.specs.Text.{Bytes}
use Rattle.text_model.specs.Id.{hex}
use Rattle.state_model.specs.Kept.{NameRow}
use Rattle.state_model.specs.Text.{refs_text}
use Rattle.state_model.specs.Ref.{is_fit_ref}
use Rattle.state_model.specs.Names.{Targets, is_target, AreNames}
use Rattle.name_model.specs.Line.{line_words}
use Rattle.name_model.specs.Targets.{AreTargets, line_of_ref}
use Rattle.name_model.specs.Reading.{of_ref_line, of_name_line, refs_reading, names_reading, names_text}
use Rattle.name_model.proofs.OrderLemmas.{rises-up, up-apart}
use Rattle.name_model.proofs.TextLemmas.{Returns, printed}
use Rattle.name_law.proofs.Results.{ok_is}
use Rattle.name_law.proofs.Forms.{name_line-lacks, name_line-gives, row-lacks, row-gives}

-- the texts of a ref without the LF
name_words : Targets → NameRow → Bytes
name_words t row = line_words (line_of_ref t row)

ref_words : NameRow → Bytes
ref_words row = hex row.id ++ 32 ∷ row.name

module _ (t : Targets) (a : AreTargets t) where
  each_name : (names : List NameRow) → Each (λ row. IsTrue (is_fit_ref row.name)) names → Each (λ row. IsTrue (is_target t row.id)) names → Each (Returns (of_name_line t) (name_words t)) names
  unfolding name_words
  each_name [] f k = tt
  each_name (row ∷ names) f k = (record { one_line = name_line-lacks t a row f.0 k.0; reads = name_line-gives t a row f.0 k.0 }, each_name names f.1 k.1)

  each_ref : (names : List NameRow) → Each (λ row. IsTrue (is_fit_ref row.name)) names → Each (λ row. IsTrue (is_target t row.id)) names → Each (Returns (of_ref_line t) ref_words) names
  unfolding ref_words
  each_ref [] f k = tt
  each_ref (row ∷ names) f k = (record { one_line = row-lacks t a row f.0 k.0; reads = row-gives t a row f.0 k.0 }, each_ref names f.1 k.1)

  pub names-back : (names : List NameRow) → AreNames t names → names_reading t (names_text t names) ≡ Ok names
  unfolding name_words
  names-back names n =
      let up = rises-up names n.rising in
      printed (of_name_line t) (name_words t) names (each_name names n.fit n.targets) up (up-apart names up) n.few

  pub refs-back : (names : List NameRow) → AreNames t names → refs_reading t (refs_text names) ≡ Ok names
  unfolding ref_words
  refs-back names n =
      let up = rises-up names n.rising in
      printed (of_ref_line t) ref_words names (each_ref names n.fit n.targets) up (up-apart names up) n.few

  -- names with one text are one list
  pub names-one : (xs ys : List NameRow) → AreNames t xs → AreNames t ys → names_text t xs ≡ names_text t ys → xs ≡ ys
  names-one xs ys x y e = ok_is xs ys (sym (names-back xs x) ∙ ap (names_reading t) e ∙ names-back ys y)

  pub refs-one : (xs ys : List NameRow) → AreNames t xs → AreNames t ys → refs_text xs ≡ refs_text ys → xs ≡ ys
  refs-one xs ys x y e = ok_is xs ys (sym (refs-back xs x) ∙ ap (refs_reading t) e ∙ refs-back ys y)
