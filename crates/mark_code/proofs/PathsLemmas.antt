-- The paths of a list, word by word.
use Rattle.std.proofs.Common.{◌≡◌, ◌<◌, ◌==◌, List, [], ◌∷◌, ◌++◌, length, Option, Some, None, option_map, refl, sym, ap, ◌∙◌, append_assoc, length-append, arith}
use Rattle.std.specs.Option.{option_and_then}
use Rattle.std.specs.List.{slice_split}
use Rattle.text_model.specs.Text.{Bytes, sp}
use Rattle.text_model.specs.Cuts.{Lacks, cut_of}
use Rattle.text_model.proofs.TestLemmas.{differs}
use Rattle.text_model.proofs.CutLemmas.{cut_of-takes, cut_of-none}
use Rattle.mark_code.specs.Reading.{raw_of, raws_of}

-- ---- the texts between the spaces

pub pieces-cut : (front rest : Bytes) → Lacks sp front → slice_split (λ b. b == sp) (front ++ sp ∷ rest) ≡ front ∷ slice_split (λ b. b == sp) rest
pieces-cut [] rest h = refl
pieces-cut (x ∷ xs) rest h = rw (differs x 32 h.0, pieces-cut xs rest h.1) refl

pub pieces-one : (piece : Bytes) → Lacks sp piece → slice_split (λ b. b == sp) piece ≡ piece ∷ []
pieces-one [] h = refl
pieces-one (x ∷ xs) h = rw (differs x 32 h.0, pieces-one xs h.1) refl

-- ---- the paths so far, and those of the rest

onto : List Bytes → Option (List Bytes) → Option (List Bytes)
onto done r = option_map (λ (more : List Bytes). done ++ more) r

pub PathsTo : Bytes → List Bytes → Bytes → Type 0
PathsTo text done rest = raws_of (slice_split (λ b. b == sp) text) ≡ onto done (raws_of (slice_split (λ b. b == sp) rest))

pub paths-start : (text : Bytes) → PathsTo text [] text
unfolding PathsTo onto
paths-start text = by (raws_of (slice_split (λ b. b == sp) text))
  where
    by : (r : Option (List Bytes)) → r ≡ option_map (λ (more : List Bytes). more) r
    by None = refl
    by (Some raws) = refl

onto-none : (done : List Bytes) → onto done None ≡ None
unfolding onto
onto-none done = refl

module _ (text : Bytes) (done : List Bytes) (rest : Bytes) (so_far : PathsTo text done rest) where
  module _ (word after : Bytes) (cut : Some (word, after) ≡ cut_of sp rest) where
    pieces : slice_split (λ b. b == sp) rest ≡ word ∷ slice_split (λ b. b == sp) after
    pieces = let t = cut_of-takes sp rest word after (sym cut) in ap (slice_split (λ b. b == sp)) t.0 ∙ pieces-cut word after t.1

    pub paths-shorter : length after < length rest
    paths-shorter = omega (arith, ap (λ (x : Bytes). length x) (cut_of-takes sp rest word after (sym cut)).0, length-append word (sp ∷ after))

    pub paths-more : (raw : Bytes) → Some raw ≡ raw_of word → PathsTo text (done ++ raw ∷ []) after
    unfolding PathsTo onto
    paths-more raw e =
        so_far ∙ ap (λ (texts : List Bytes). option_map (λ (more : List Bytes). done ++ more) (raws_of texts)) pieces
        ∙ ap (λ (r : Option Bytes). option_map (λ (more : List Bytes). done ++ more) (option_and_then (λ (x : Bytes). option_map (λ (raws : List Bytes). x ∷ raws) (raws_of (slice_split (λ b. b == sp) after))) r)) (sym e)
        ∙ by (raws_of (slice_split (λ b. b == sp) after))
      where
        by : (r : Option (List Bytes)) → option_map (λ (more : List Bytes). done ++ more) (option_map (λ (raws : List Bytes). raw ∷ raws) r) ≡ option_map (λ (more : List Bytes). (done ++ raw ∷ []) ++ more) r
        by None = refl
        by (Some raws) = ap (λ (x : List Bytes). Some x) (sym (append_assoc done (raw ∷ []) raws))

    pub paths-bad : None ≡ raw_of word → None ≡ raws_of (slice_split (λ b. b == sp) text)
    unfolding PathsTo onto
    paths-bad e = sym (
        so_far ∙ ap (λ (texts : List Bytes). option_map (λ (more : List Bytes). done ++ more) (raws_of texts)) pieces
        ∙ ap (λ (r : Option Bytes). option_map (λ (more : List Bytes). done ++ more) (option_and_then (λ (x : Bytes). option_map (λ (raws : List Bytes). x ∷ raws) (raws_of (slice_split (λ b. b == sp) after))) r)) (sym e)
        )

  -- the last one
  module _ (none : None ≡ cut_of sp rest) where
    whole : (r : Option Bytes) → r ≡ raw_of rest → option_map (λ (more : List Bytes). done ++ more) (option_and_then (λ (x : Bytes). Some (x ∷ [])) r) ≡ raws_of (slice_split (λ b. b == sp) text)
    unfolding PathsTo onto
    whole r e =
        ap (λ (s : Option Bytes). option_map (λ (more : List Bytes). done ++ more) (option_and_then (λ (x : Bytes). Some (x ∷ [])) s)) e
        ∙ sym (so_far ∙ ap (λ (texts : List Bytes). option_map (λ (more : List Bytes). done ++ more) (raws_of texts)) (pieces-one rest (cut_of-none sp rest (sym none))))

    pub paths-all : (raw : Bytes) → Some raw ≡ raw_of rest → Some (done ++ raw ∷ []) ≡ raws_of (slice_split (λ b. b == sp) text)
    paths-all raw e = whole (Some raw) e

    pub paths-last_bad : None ≡ raw_of rest → None ≡ raws_of (slice_split (λ b. b == sp) text)
    paths-last_bad e = whole None e
