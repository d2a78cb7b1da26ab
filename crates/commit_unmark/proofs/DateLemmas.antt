-- The date line that marks name.
use Rattle.std.proofs.Common.{◌≡◌, Bool, true, false, true≢false, List, [], ◌∷◌, Option, Some, None, refl, sym, ap, subst, ◌∙◌}
use Rattle.std.specs.Prelude.{is_some, unwrap_or, MatchOption, ℤ}
use Rattle.std.specs.List.{find}
use Rattle.text_model.specs.Lists.{Each}
use Rattle.text_model.proofs.Options.{none_some, some_is}
use Rattle.text_model.specs.Text.{Bytes, IsBytes, has_byte}
use Rattle.hg_model.specs.Changeset.{DateLine, Plain, Raw, Extra, IsDateLine, date_text, date_of}
use Rattle.hg_model.proofs.DateLemmas.{date_of-is, date_of-text}
use Rattle.hg_changeset.specs.Values.{date_value}
use Rattle.hg_changeset.specs.declared.date.DateLine as value
use Rattle.pair_model.specs.MarkList.{Mark, Rename, File, Manifest, Files, User, Date, RawDate, OneExtra}
use Rattle.partner_model.specs.Filled.{date_mark, first_mark}
use Rattle.commit_unmark.specs.Parts.{is_of, extras_by, date_by}
use Rattle.commit_unmark.specs.declared.marks.Kind.TheVariants as kind
use Rattle.commit_unmark.proofs.PartLemmas.{first-by}

-- whether a mark is that of a date hangs on no extras
same-kind : (es : List Extra) (m : Mark) → is_of kind.Date m ≡ is_some (date_mark es m)
same-kind es (Rename a b) = refl
same-kind es (File a b c d) = refl
same-kind es (Manifest a) = refl
same-kind es (Files a) = refl
same-kind es (User a) = refl
same-kind es (Date a b) = refl
same-kind es (RawDate a) = refl
same-kind es (OneExtra a) = refl

find-same : {X : Type 0} (f g : X → Bool) (xs : List X) → ((x : X) → f x ≡ g x) → find f xs ≡ find g xs
find-same f g [] e = refl
find-same f g (x ∷ xs) e = by (g x) refl (find-same f g xs e)
  where
    by : (t : Bool) → g x ≡ t → find f xs ≡ find g xs → find f (x ∷ xs) ≡ find g (x ∷ xs)
    by true k go = rw (e x ∙ k, k) refl
    by false k go = rw (e x ∙ k, k) go

pub find-each : {X : Type 0} (P : X → Type 0) (f : X → Bool) (xs : List X) (x : X) → Some x ≡ find f xs → Each P xs → P x
find-each P f [] x e h = absurd (none_some (sym e))
find-each P f (y ∷ xs) x e h = by (f y) refl (λ k. find-each P f xs x k h.1)
  where
    by : (t : Bool) → f y ≡ t → (Some x ≡ find f xs → P x) → P x
    by true k go = subst P (sym (some_is (rw k at e))) h.0
    by false k go = go (rw k at e)

find-true : {X : Type 0} (f : X → Bool) (xs : List X) (x : X) → Some x ≡ find f xs → f x ≡ true
find-true f [] x e = absurd (none_some (sym e))
find-true f (y ∷ xs) x e = by (f y) refl (find-true f xs x)
  where
    by : (t : Bool) → f y ≡ t → (Some x ≡ find f xs → f x ≡ true) → f x ≡ true
    by true k go = ap f (some_is (rw k at e)) ∙ k
    by false k go = go (rw k at e)

-- what is told of a date line with these numbers, and of the one that marks name over them
abbrev pub PlainFound : List Mark → ℤ → ℤ → Option value.DateLine → Type 0
PlainFound marks time tz found = MatchOption found (IsDateLine (Plain time tz (extras_by marks)) → ⊥) (λ date. (date_value date ≡ Plain time tz (extras_by marks)) × IsDateLine (Plain time tz (extras_by marks)))

abbrev pub DateFound : List Mark → ℤ → ℤ → Option value.DateLine → Type 0
DateFound marks time tz found = MatchOption found (IsDateLine (date_by marks time tz) → ⊥) (λ date. (date_value date ≡ date_by marks time tz) × IsDateLine (date_by marks time tz))

module _ (marks : List Mark) (time tz : ℤ) where
  pub none-dated : None ≡ find (is_of kind.Date) marks → date_by marks time tz ≡ Plain time tz (extras_by marks)
  none-dated e = ap (λ o. unwrap_or o (Plain time tz (extras_by marks))) (first-by (date_mark (extras_by marks)) marks None (e ∙ find-same (is_of kind.Date) (λ m. is_some (date_mark (extras_by marks) m)) marks (same-kind (extras_by marks))))

  pub marked-dated : (m : Mark) → Some m ≡ find (is_of kind.Date) marks → (d : DateLine) × (date_mark (extras_by marks) m ≡ Some d) × (date_by marks time tz ≡ d)
  marked-dated m e = by (date_mark (extras_by marks) m) refl
    where
      first : first_mark (date_mark (extras_by marks)) marks ≡ date_mark (extras_by marks) m
      first = first-by (date_mark (extras_by marks)) marks (Some m) (e ∙ find-same (is_of kind.Date) (λ n. is_some (date_mark (extras_by marks) n)) marks (same-kind (extras_by marks)))

      by : (o : Option DateLine) → date_mark (extras_by marks) m ≡ o → (d : DateLine) × (date_mark (extras_by marks) m ≡ Some d) × (date_by marks time tz ≡ d)
      by None k = absurd (true≢false (sym (find-true (is_of kind.Date) marks m e) ∙ same-kind (extras_by marks) m ∙ ap is_some k))
      by (Some d) k = (d, k, ap (λ o. unwrap_or o (Plain time tz (extras_by marks))) (first ∙ k))

  -- what is told of the mark's date line is told of the marks'
  pub by-mark : (m : Mark) → Some m ≡ find (is_of kind.Date) marks → (found : Option value.DateLine)
      → MatchOption found ((d : DateLine) → date_mark (extras_by marks) m ≡ Some d → IsDateLine d → ⊥) (λ date. (date_mark (extras_by marks) m ≡ Some (date_value date)) × IsDateLine (date_value date))
      → MatchOption found (IsDateLine (date_by marks time tz) → ⊥) (λ date. (date_value date ≡ date_by marks time tz) × IsDateLine (date_by marks time tz))
  by-mark m e None none =
      let d = marked-dated m e in
      λ right. none d.0 d.1 (subst IsDateLine d.2 right)
  by-mark m e (Some date) some =
      let d = marked-dated m e in
      let same : date_value date ≡ date_by marks time tz = some_is (sym some.0 ∙ d.1) ∙ sym d.2 in
      (same, subst IsDateLine same some.1)

  pub by-given : None ≡ find (is_of kind.Date) marks → (found : Option value.DateLine)
      → MatchOption found (IsDateLine (Plain time tz (extras_by marks)) → ⊥) (λ date. (date_value date ≡ Plain time tz (extras_by marks)) × IsDateLine (Plain time tz (extras_by marks)))
      → MatchOption found (IsDateLine (date_by marks time tz) → ⊥) (λ date. (date_value date ≡ date_by marks time tz) × IsDateLine (date_by marks time tz))
  by-given e found h = subst (λ (d : DateLine). MatchOption found (IsDateLine d → ⊥) (λ date. (date_value date ≡ d) × IsDateLine d)) (sym (none-dated e)) h

-- ---- a text that a mark names as a date line

-- a text that reads as a raw line is that line
pub raw-found : (text : Bytes) → IsBytes text → has_byte 10 text ≡ false → (d : DateLine) → d ≡ date_of text → (raw : Bytes) → d ≡ Raw raw → (d ≡ Raw text) × IsDateLine (Raw text)
raw-found text bytes one_line d read raw is =
    let of = date_of-is text bytes one_line in
    let same : raw ≡ text = ap date_text (sym is ∙ read) ∙ of.1 in
    (is ∙ ap Raw same, subst IsDateLine (sym read ∙ is ∙ ap Raw same) of.0)

-- a text that reads as another line is no raw one
pub plain-found : (text : Bytes) (d : DateLine) → d ≡ date_of text → (time tz : ℤ) (extras : List Extra) → d ≡ Plain time tz extras → IsDateLine (Raw text) → ⊥
plain-found text d read time tz extras is right =
    let raw : Plain time tz extras ≡ Raw text = sym is ∙ read ∙ date_of-text (Raw text) right in cc
