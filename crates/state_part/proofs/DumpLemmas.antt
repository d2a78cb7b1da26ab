-- The dumps that a text begins with.
use Rattle.std.proofs.Common.{◌≡◌, ◌<◌, ◌^◌, [], ◌∷◌, ◌++◌, length, codes, refl, sym, ap, subst, ◌∙◌, arith, append_assoc, length-append}
use Rattle.std.specs.Prelude.{Option, Some, None, MatchOption}
use Rattle.std.proofs.lemmas.List.{append_cancel_left}
use Rattle.text_model.specs.Text.{Bytes, lf}
use Rattle.state_model.specs.Text.{sized}
use Rattle.state_part.specs.Form.{head_line, count_line, NoSection, dumps_text, HasDumps, NoDumps}
use Rattle.state_part.proofs.SectionLemmas.{one_section}

-- a section within a text is shorter than it
within : (text front word part rest : Bytes) → length text < 2 ^ 64 → text ≡ front ++ (sized word part ++ rest) → length part < 2 ^ 64
within text front word part rest long is =
    omega (
      arith,
      long,
      ap (λ (t : Bytes). length t) is,
      length-append front (sized word part ++ rest),
      length-append (sized word part) rest,
      length-append (count_line word (length part)) (part ++ lf ∷ []),
      length-append part (lf ∷ []),
    )

module _ (text behind bundle rest : Bytes) (long : length text < 2 ^ 64) (first : text ≡ head_line ++ behind) (section : behind ≡ sized (codes "hg") bundle ++ rest) where
  -- what stands before the second section
  pub before-second : text ≡ (head_line ++ sized (codes "hg") bundle) ++ rest
  before-second = first ∙ ap (λ (t : Bytes). head_line ++ t) section ∙ sym (append_assoc head_line (sized (codes "hg") bundle) rest)

  same-second : (b s r : Bytes) → text ≡ dumps_text b s r → (bundle ≡ b) × (rest ≡ sized (codes "git") s ++ r)
  same-second b s r is =
      one_section (codes "hg") bundle b rest (sized (codes "git") s ++ r)
      (within text head_line (codes "hg") bundle rest long (first ∙ ap (λ (t : Bytes). head_line ++ t) section))
      (within text head_line (codes "hg") b (sized (codes "git") s ++ r) long is)
      (sym section ∙ append_cancel_left head_line _ _ (sym first ∙ is))

  pub no-second : NoSection (codes "git") rest → NoDumps text
  no-second none b s r is = none s r (same-second b s r is).1

  pub has-dumps : (stream after : Bytes) → rest ≡ sized (codes "git") stream ++ after → HasDumps text bundle stream
  has-dumps stream after second = record {
    rest = after;
    is = first ∙ ap (λ (t : Bytes). head_line ++ t) (section ∙ ap (λ (t : Bytes). sized (codes "hg") bundle ++ t) second);
    short = long;
  }

-- a text begins with the dumps of one bundle and one stream at most
pub one_dumps : (text bundle stream b s r : Bytes) → HasDumps text bundle stream → text ≡ dumps_text b s r → (bundle ≡ b) × (stream ≡ s)
one_dumps text bundle stream b s r has is =
    let behind : Bytes = sized (codes "hg") bundle ++ (sized (codes "git") stream ++ has.rest) in
    let first = same-second text behind bundle (sized (codes "git") stream ++ has.rest) has.short has.is refl b s r is in
    let front : Bytes = head_line ++ sized (codes "hg") bundle in
    let other : Bytes = head_line ++ sized (codes "hg") b in (
      first.0,
      (one_section (codes "git") stream s has.rest r
          (within text front (codes "git") stream has.rest has.short (has.is ∙ sym (append_assoc head_line (sized (codes "hg") bundle) (sized (codes "git") stream ++ has.rest))))
          (within text other (codes "git") s r has.short (is ∙ sym (append_assoc head_line (sized (codes "hg") b) (sized (codes "git") s ++ r))))
          first.1).0,
    )

-- nothing was found
pub found-none : {T : Type 0} (found : Option T) (No : Type 0) (Has : T → Type 0) → found ≡ None → MatchOption found No Has → No
found-none {T} found No Has is h = subst (λ (o : Option T). MatchOption o No Has) is h

-- what was found
pub found-is : {T : Type 0} (found : Option T) (t : T) (No : Type 0) (Has : T → Type 0) → found ≡ Some t → MatchOption found No Has → Has t
found-is {T} found t No Has is h = subst (λ (o : Option T). MatchOption o No Has) is h
