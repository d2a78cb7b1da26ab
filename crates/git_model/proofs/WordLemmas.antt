-- Lines that begin with a word, alone and before an id.
use Rattle.std.proofs.Common.{◌≡◌, ◌==◌, true, [], ◌∷◌, ◌++◌, length, take, drop, refl, sym, ap, ◌∙◌, take-append-drop, eqb-true, eq-eqb}
use Rattle.std.specs.Cmp.Lexicographic.{pointwise}
use Rattle.std.proofs.lemmas.List.{take_at, drop_at}
use Rattle.text_model.specs.Text.{Bytes}
use Rattle.text_model.specs.Id.{Id, IsId, hex, bytes_of_digits}
use Rattle.text_model.proofs.TestLemmas.{both}
use Rattle.text_model.proofs.HexLemmas.{is_hex_id-hex, id_of_hex-some, id_of_hex-hex}
use Rattle.text_model.proofs.Options.{some_is}
use Rattle.git_model.specs.Commit.{begins, is_id_line}

same : (xs : Bytes) → pointwise ◌==◌ xs xs ≡ true
same [] = refl
same (x ∷ xs) = rw (eq-eqb x x refl, same xs) refl

-- texts that are equal byte by byte are one
pub exact : (xs ys : Bytes) → pointwise ◌==◌ xs ys ≡ true → xs ≡ ys
exact [] [] h = refl
exact [] (y ∷ ys) h = absurd cc
exact (x ∷ xs) [] h = absurd cc
exact (x ∷ xs) (y ∷ ys) h =
    let p = both (x == y) (pointwise ◌==◌ xs ys) h in
    let rest = exact xs ys p.1 in
    λ i. eqb-true x y p.0 i ∷ rest i

pub begins-word : (word rest : Bytes) → begins word (word ++ rest) ≡ true
begins-word word rest = ap (pointwise ◌==◌ word) (take_at word rest (length word) refl) ∙ same word

pub behind-word : (word rest : Bytes) → drop (length word) (word ++ rest) ≡ rest
behind-word word rest = drop_at word rest (length word) refl

-- what begins with the word is the word and the rest
pub begins-takes : (word text : Bytes) → begins word text ≡ true → text ≡ word ++ drop (length word) text
begins-takes word text h = sym (take-append-drop (length word) text) ∙ ap (λ (l : Bytes). l ++ drop (length word) text) (sym (exact word (take (length word) text) h))

pub is_id_line-hex : (word : Bytes) (id : Id) → IsId id → is_id_line word (word ++ hex id) ≡ true
is_id_line-hex word id is = rw (begins-word word (hex id), behind-word word (hex id)) (is_hex_id-hex id is)

pub bytes_of_digits-hex : (id : Id) → IsId id → bytes_of_digits (hex id) ≡ id
bytes_of_digits-hex id is = some_is (sym (id_of_hex-some (hex id) (is_hex_id-hex id is)) ∙ id_of_hex-hex id is)
