-- What `strip_prefix` tells of bytes.
use Rattle.std.proofs.Common.{◌≡◌, ◌≢◌, ◌==◌, true, false, [], ◌∷◌, ◌++◌, length, take, drop, sym, ap, ◌∙◌, take-append-drop, true≢false}
use Rattle.std.proofs.Math.Seq.{take-append_seam}
use Rattle.std.specs.Cmp.Lexicographic.{pointwise}
use Rattle.std.proofs.lemmas.Slice.Eq.{bytes_eq-Decides}
use Rattle.text_model.specs.Text.{Bytes, sp}

pub stripped_none : (word bytes : Bytes) → pointwise ◌==◌ (take (length word) bytes) word ≡ false → (rest : Bytes) → bytes ≢ word ++ rest
stripped_none word bytes e rest is =
    true≢false (sym ((bytes_eq-Decides (take (length word) bytes) word).1 (ap (take (length word)) is ∙ take-append_seam word rest)) ∙ e)

pub stripped_some : (word bytes rest : Bytes) → pointwise ◌==◌ (take (length word) bytes) word ≡ true → rest ≡ drop (length word) bytes → bytes ≡ word ++ rest
stripped_some word bytes rest e is =
    sym (take-append-drop (length word) bytes) ∙ ap (λ (t : Bytes). t ++ drop (length word) bytes) ((bytes_eq-Decides (take (length word) bytes) word).0 e) ∙ ap (λ (t : Bytes). word ++ t) (sym is)

-- a word, and then a space
pub stripped_word : (word bytes behind numbered : Bytes) → pointwise ◌==◌ (take (length word) bytes) word ≡ true → behind ≡ drop (length word) bytes
    → pointwise ◌==◌ (take 1 behind) (sp ∷ []) ≡ true → numbered ≡ drop 1 behind → bytes ≡ word ++ sp ∷ numbered
stripped_word word bytes behind numbered a a_is b b_is =
    stripped_some word bytes behind a a_is ∙ ap (λ (t : Bytes). word ++ t) (stripped_some (sp ∷ []) behind numbered b b_is)
