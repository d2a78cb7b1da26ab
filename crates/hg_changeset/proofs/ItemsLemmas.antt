-- Reading extras item by item.
use Rattle.std.proofs.Common.{◌≡◌, ◌<◌, ◌+◌, ◌==◌, ℕ, zero, suc, get_or, Bool, true, false, List, [], ◌∷◌, length, Option, Some, None, refl, sym, ap, ◌∙◌, length-append, arith}
use Rattle.std.specs.Option.{option_and_then}
use Rattle.std.specs.List.{slice_split}
use Rattle.text_model.specs.Text.{Bytes}
use Rattle.text_model.specs.Cuts.{cut_of}
use Rattle.text_model.proofs.CutLemmas.{cut_of-takes, cut_of-none}
use Rattle.std.specs.Prelude.{if◌then◌else◌}
use Rattle.hg_model.specs.Changeset.{Extra, extra_of, with_extra, last_key, extras_from, extras_of}
use Rattle.hg_model.proofs.ExtrasLemmas.{pieces-cut, pieces-one}

-- the items of the text are those that are read and those of the rest
abbrev pub ItemsTo : Bytes → List Extra → Bytes → Type 0
ItemsTo text done rest = extras_of text ≡ extras_from done (slice_split (λ b. b == 0) rest)

pub items-start : (text : Bytes) → ItemsTo text [] text
unfolding extras_of
items-start text = refl

module _ (text rest piece after : Bytes) (cut : Some (piece, after) ≡ cut_of 0 rest) where
  pub items-shorter : length after < length rest
  items-shorter = omega (arith, ap (λ (x : Bytes). length x) (cut_of-takes 0 rest piece after (sym cut)).0, length-append piece (0 ∷ after))

  pieces : slice_split (λ b. b == 0) rest ≡ piece ∷ slice_split (λ b. b == 0) after
  pieces = let t = cut_of-takes 0 rest piece after (sym cut) in ap (slice_split (λ b. b == 0)) t.0 ∙ pieces-cut piece after t.1

  pub items-more : (done more : List Extra) → ItemsTo text done rest → option_and_then (with_extra done) (extra_of piece) ≡ Some more → ItemsTo text more after
  items-more done more i e =
      i ∙ ap (extras_from done) pieces ∙ ap (option_and_then (λ (m : List Extra). extras_from m (slice_split (λ b. b == 0) after))) e

  pub items-bad : (done : List Extra) → ItemsTo text done rest → option_and_then (with_extra done) (extra_of piece) ≡ None → extras_of text ≡ None
  items-bad done i e =
      i ∙ ap (extras_from done) pieces ∙ ap (option_and_then (λ (m : List Extra). extras_from m (slice_split (λ b. b == 0) after))) e

-- the last item
pub items-last : (text rest : Bytes) (done : List Extra) (r : Option (List Extra)) → ItemsTo text done rest → None ≡ cut_of 0 rest → option_and_then (with_extra done) (extra_of rest) ≡ r → extras_of text ≡ r
items-last text rest done r i none e = i ∙ ap (extras_from done) (pieces-one rest (cut_of-none 0 rest (sym none))) ∙ by r e
  where
    by : (r : Option (List Extra)) → option_and_then (with_extra done) (extra_of rest) ≡ r → extras_from done (rest ∷ []) ≡ r
    by None e = ap (option_and_then (λ (m : List Extra). extras_from m [])) e
    by (Some more) e = ap (option_and_then (λ (m : List Extra). extras_from m [])) e

-- what taking an item answers
abbrev pub Taken : List Extra → Bytes → Bool → List Extra → Type 0
Taken done piece taken more = option_and_then (with_extra done) (extra_of piece) ≡ (if taken then Some more else None)

pub taken-some : (done : List Extra) (piece : Bytes) (taken : Bool) (more : List Extra) → Taken done piece taken more → taken ≡ true → option_and_then (with_extra done) (extra_of piece) ≡ Some more
taken-some done piece taken more e t = e ∙ rw t refl

pub taken-none : (done : List Extra) (piece : Bytes) (taken : Bool) (more : List Extra) → Taken done piece taken more → taken ≡ false → option_and_then (with_extra done) (extra_of piece) ≡ None
taken-none done piece taken more e t = e ∙ rw t refl

-- the key of the last item
pub last_key-at : (es : List Extra) (i : ℕ) (d : Extra) → i + 1 ≡ length es → last_key es ≡ Some (get_or es i d).key
last_key-at [] i d h = absurd (omega (arith, h))
last_key-at (e ∷ []) zero d h = refl
last_key-at (e ∷ []) (suc i) d h = absurd (omega (arith, h))
last_key-at (e ∷ f ∷ es) zero d h = absurd (omega (arith, h))
last_key-at (e ∷ f ∷ es) (suc i) d h = last_key-at (f ∷ es) i d (omega (arith, h))
