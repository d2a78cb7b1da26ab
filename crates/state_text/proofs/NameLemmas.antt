-- The names that a text is that of.
use Rattle.std.proofs.Common.{◌≡◌, ◌≢◌, ◌==◌, arith, true, List, [], ◌∷◌, length, Option, Some, None, Result, Ok, Err, refl, sym, ap, subst, ◌∙◌}
use Rattle.std.specs.Prelude.{IfOk, MatchOption}
use Rattle.std.proofs.lemmas.Bool.Decides.{nat_tests}
use Rattle.text_model.specs.Text.{Bytes}
use Rattle.text_model.specs.Fault.{Refusal}
use Rattle.state_model.specs.Kept.{NameRow}
use Rattle.state_model.specs.Text.{refs_text}
use Rattle.state_model.specs.Names.{Targets, AreNames}
use Rattle.name_model.specs.Targets.{AreTargets}
use Rattle.name_model.specs.Reading.{refs_reading}
use Rattle.name_law.proofs.Kept.{refs-kept}
use Rattle.name_law.proofs.Across.{refs-back}

ok-is : (x y : List NameRow) → ◌≡◌ {A = Result (List NameRow) Refusal} (Ok x) (Ok y) → x ≡ y
ok-is x y h = cc

err-ok : (why : Refusal) (x : List NameRow) → ◌≡◌ {A = Result (List NameRow) Refusal} (Err why) (Ok x) → ⊥
err-ok why x h = cc

pub not_refused : (t : Targets) (text : Bytes) (why : Refusal) → refs_reading t text ≡ Err why → AreTargets t → (names : List NameRow) → AreNames t names → refs_text names ≡ text → ⊥
not_refused t text why reads a names n e = err-ok why names (sym reads ∙ ap (refs_reading t) (sym e) ∙ refs-back t a names n)

pub found-names : {E : Type 0} (t : Targets) (text : Bytes) (rows : List NameRow) (r : Result (Option (List NameRow)) E) → refs_reading t text ≡ Ok rows
    → IfOk r (λ found. MatchOption found (refs_text rows ≢ text) (λ same. (same ≡ rows) × (refs_text rows ≡ text)))
    → IfOk r (λ found. AreTargets t → MatchOption found ((names : List NameRow) → AreNames t names → refs_text names ≢ text) (λ names. AreNames t names × (refs_text names ≡ text)))
found-names t text rows (Err e) reads h = tt
found-names t text rows (Ok None) reads h = λ a names n e. h (ap refs_text (ok-is rows names (sym reads ∙ ap (refs_reading t) (sym e) ∙ refs-back t a names n)) ∙ e)
found-names t text rows (Ok (Some same)) reads h = λ a. (subst (AreNames t) (sym h.0) (refs-kept t text rows reads), ap refs_text h.0 ∙ h.1)

pub empty-is : (xs : Bytes) → (length xs == 0) ≡ true → xs ≡ []
empty-is [] h = refl
empty-is (x ∷ xs) h = absurd (grind (arith, h, nat_tests))
