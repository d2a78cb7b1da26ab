-- Each text of a file with both marks or none is that of some metadata and a body.
use Rattle.std.proofs.Common.{◌≡◌, ℕ, Bool, true, false, true≢false, ◌&&◌, ◌||◌, eqb, [], ◌∷◌, ◌++◌, drop, Option, Some, None, refl, sym, ap, subst, ◌∙◌}
use Rattle.text_model.specs.Text.{Bytes, IsBytes, has_piece}
use Rattle.text_model.proofs.ByteLemmas.{IsBytes-drop, IsBytes-front, IsBytes-rest}
use Rattle.text_model.proofs.Options.{not_false}
use Rattle.hg_model.specs.FileText.{mark, begins_with_mark, IsFileText, lacks_second_mark}
use Rattle.hg_filelog.proofs.MarkLemmas.{begins-takes}

-- what stands before the first mark, and behind it
record Cut (bytes : Bytes) : Type 0 where
  pub front : Bytes
  pub rest : Bytes
  pub whole : bytes ≡ front ++ mark ++ rest
  pub none : has_piece mark front ≡ false

or_second : (a b : Bool) → a ≡ false → (a || b) ≡ true → b ≡ true
or_second a b f h = sym (rw f refl) ∙ h

one_byte : (b : ℕ) → begins_with_mark (b ∷ []) ≡ false
one_byte b = by (eqb 1 b)
  where
    by : (t : Bool) → (t && false) ≡ false
    by true = refl
    by false = refl

first_cut : (bytes : Bytes) → has_piece mark bytes ≡ true → Cut bytes
first_cut [] h = absurd (true≢false (sym h))
first_cut (b ∷ bytes) h = by (begins_with_mark (b ∷ bytes)) refl (first_cut bytes)
  where
    longer : (front rest : Bytes) → begins_with_mark (b ∷ front ++ mark ++ rest) ≡ false → has_piece mark front ≡ false → has_piece mark (b ∷ front) ≡ false
    longer [] rest begins none = rw (one_byte b) refl
    longer (c ∷ front) rest begins none = rw (begins) none

    later : begins_with_mark (b ∷ bytes) ≡ false → Cut bytes → Cut (b ∷ bytes)
    later begins cut = record {
      front = b ∷ cut.front;
      rest = cut.rest;
      whole = ap (λ (x : Bytes). b ∷ x) cut.whole;
      none = longer cut.front cut.rest (sym (ap (λ (x : Bytes). begins_with_mark (b ∷ x)) cut.whole) ∙ begins) cut.none;
    }

    by : (t : Bool) → begins_with_mark (b ∷ bytes) ≡ t → (has_piece mark bytes ≡ true → Cut bytes) → Cut (b ∷ bytes)
    by true begins further = record { front = []; rest = drop 2 (b ∷ bytes); whole = begins-takes (b ∷ bytes) begins; none = refl }
    by false begins further = later begins (further (or_second (begins_with_mark (b ∷ bytes)) (has_piece mark bytes) begins h))

-- the parts of a text
pub record Parts (text : Bytes) : Type 0 where
  pub meta : Option Bytes
  pub body : Bytes
  pub spells : IsFileText text meta body

wrapped : (text rest : Bytes) → IsBytes rest → text ≡ mark ++ rest → Cut rest → Parts text
wrapped text rest fits whole cut =
    let inner = subst IsBytes cut.whole fits in
    record {
      meta = Some cut.front;
      body = cut.rest;
      spells = ((IsBytes-rest (cut.front ++ mark) cut.rest inner, IsBytes-front cut.front mark (IsBytes-front (cut.front ++ mark) cut.rest inner), cut.none), whole ∙ ap (λ (x : Bytes). mark ++ x) cut.whole);
    }

pub some_parts : (text : Bytes) → IsBytes text → lacks_second_mark text ≡ false → Parts text
some_parts text fits lacks = by (begins_with_mark text) refl
  where
    by : (t : Bool) → begins_with_mark text ≡ t → Parts text
    by false begins = record { meta = None; body = text; spells = ((fits, begins), refl) }
    by true begins =
        let there : has_piece mark (drop 2 text) ≡ true = not_false (has_piece mark (drop 2 text)) (sym (rw begins refl) ∙ lacks) in
        wrapped text (drop 2 text) (IsBytes-drop 2 text fits) (begins-takes text begins) (first_cut (drop 2 text) there)
