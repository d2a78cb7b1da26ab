-- A residue has one text.
use Rattle.std.proofs.Common.{◌≡◌, ◌≢◌, ◌*◌, ℕ, List, [], ◌∷◌, ◌++◌, length, take, refl, sym, ap, ◌∙◌, arith}
use Rattle.std.specs.Prelude.{codes, drop, slice_index}
use Rattle.std.specs.List.{flat_map}
use Rattle.text_model.specs.Lists.{Each}
use Rattle.text_model.specs.Text.{Bytes, IsBytes}
use Rattle.text_model.specs.Id.{hex}
use Rattle.text_model.specs.Escape.{escape}
use Rattle.text_model.specs.Cuts.{Lacks}
use Rattle.text_model.proofs.LackLemmas.{Lacks-append}
use Rattle.text_model.proofs.EscapeLemmas.{escape-injective}
use Rattle.text_model.proofs.HexLemmas.{hex-injective, length-hex}
use Rattle.text_model.proofs.Elements.{take_front, drop_front}
use Rattle.git_model.specs.Residue.{ResidueKind, Group, Link, Empty, ResidueItem}
use Rattle.pair_model.specs.MarkList.{item_word, residue_words, residue_text, IsItemKind}
use Rattle.mark_law.proofs.TextFacts.{spaced_one}
use Rattle.mark_law.proofs.Marks.{sp_gap, plain_lacks_gap, escape_lacks, hex_lacks}

abbrev pub IsItem : ResidueItem → Type 0
IsItem item = IsBytes item.path × IsItemKind item.kind

word_lacks : (path : Bytes) (kind : ResidueKind) → IsBytes path → IsItemKind kind → Lacks 32 (item_word path kind)
word_lacks path Group h k = Lacks-append 32 (codes "group:") (escape path) (plain_lacks_gap 32 sp_gap (codes "group:") refl) (escape_lacks 32 sp_gap path h)
word_lacks path (Link id) h k =
    Lacks-append 32 (codes "link:" ++ hex id) (58 ∷ escape path) (Lacks-append 32 (codes "link:") (hex id) (plain_lacks_gap 32 sp_gap (codes "link:") refl) (hex_lacks 32 sp_gap id k.1)) ((omega arith), escape_lacks 32 sp_gap path h)
word_lacks path Empty h k = Lacks-append 32 (codes "empty:") (escape path) (plain_lacks_gap 32 sp_gap (codes "empty:") refl) (escape_lacks 32 sp_gap path h)

first_apart : (x y : ℕ) (xs ys : List ℕ) → x ≢ y → x ∷ xs ≡ y ∷ ys → ⊥
first_apart x y xs ys n e = n (ap (λ (z : List ℕ). slice_index z 0) e)

word_one : (p q : Bytes) (k l : ResidueKind) → IsBytes p → IsBytes q → IsItemKind k → IsItemKind l → item_word p k ≡ item_word q l → (p ≡ q) × (k ≡ l)
word_one p q Group Group hp hq hk hl e = (escape-injective p q hp hq (ap (drop 6) e), refl)
word_one p q Empty Empty hp hq hk hl e = (escape-injective p q hp hq (ap (drop 6) e), refl)
word_one p q (Link a) (Link b) hp hq hk hl e =
    let same : hex a ++ 58 ∷ escape p ≡ hex b ++ 58 ∷ escape q = ap (drop 5) e in
    let la : length (hex a) ≡ 40 = length-hex a ∙ ap (λ n. 2 * n) hk.0 in
    let lb : length (hex b) ≡ 40 = length-hex b ∙ ap (λ n. 2 * n) hl.0 in
    let ids : hex a ≡ hex b = sym (take_front (hex a) (58 ∷ escape p)) ∙ (λ i. take ((la ∙ sym lb) i) (same i)) ∙ take_front (hex b) (58 ∷ escape q) in
    let paths : 58 ∷ escape p ≡ 58 ∷ escape q = sym (drop_front (hex a) (58 ∷ escape p)) ∙ (λ i. drop ((la ∙ sym lb) i) (same i)) ∙ drop_front (hex b) (58 ∷ escape q) in
    (escape-injective p q hp hq (ap (drop 1) paths), ap Link (hex-injective a b hk hl ids))
word_one p q Group (Link b) hp hq hk hl e = absurd (first_apart 103 108 (drop 1 (item_word p Group)) (drop 1 (item_word q (Link b))) (omega arith) e)
word_one p q Group Empty hp hq hk hl e = absurd (first_apart 103 101 (drop 1 (item_word p Group)) (drop 1 (item_word q Empty)) (omega arith) e)
word_one p q (Link a) Group hp hq hk hl e = absurd (first_apart 108 103 (drop 1 (item_word p (Link a))) (drop 1 (item_word q Group)) (omega arith) e)
word_one p q (Link a) Empty hp hq hk hl e = absurd (first_apart 108 101 (drop 1 (item_word p (Link a))) (drop 1 (item_word q Empty)) (omega arith) e)
word_one p q Empty Group hp hq hk hl e = absurd (first_apart 101 103 (drop 1 (item_word p Empty)) (drop 1 (item_word q Group)) (omega arith) e)
word_one p q Empty (Link b) hp hq hk hl e = absurd (first_apart 101 108 (drop 1 (item_word p Empty)) (drop 1 (item_word q (Link b))) (omega arith) e)

words_lack : (xs : List ResidueItem) → Each IsItem xs → Each (Lacks 32) (residue_words xs)
words_lack [] h = tt
words_lack (x ∷ xs) h = (word_lacks x.path x.kind h.0.0 h.0.1, words_lack xs h.1)

words_one : (xs ys : List ResidueItem) → Each IsItem xs → Each IsItem ys → residue_words xs ≡ residue_words ys → xs ≡ ys
words_one [] [] h k e = refl
words_one [] (y ∷ ys) h k e = absurd cc
words_one (x ∷ xs) [] h k e = absurd cc
words_one (x ∷ xs) (y ∷ ys) h k e =
    let a : item_word x.path x.kind ≡ item_word y.path y.kind = cc in
    let b : residue_words xs ≡ residue_words ys = cc in
    let c = word_one x.path y.path x.kind y.kind h.0.0 k.0.0 h.0.1 k.0.1 a in
    let d = words_one xs ys h.1 k.1 b in
    λ i. record { path = c.0 i; kind = c.1 i } ∷ d i

some_text : (path : Bytes) (kind : ResidueKind) (rest : List ℕ) → [] ≡ item_word path kind ++ rest → ⊥
some_text path Group rest e = cc
some_text path (Link id) rest e = cc
some_text path Empty rest e = cc

-- a residue's text reads as one residue
pub residue_one : (xs ys : List ResidueItem) → Each IsItem xs → Each IsItem ys → residue_text xs ≡ residue_text ys → xs ≡ ys
unfolding residue_text
residue_one [] [] h k e = refl
residue_one [] (y ∷ ys) h k e = absurd (some_text y.path y.kind (flat_map (λ w. 32 ∷ w) (residue_words ys)) e)
residue_one (x ∷ xs) [] h k e = absurd (some_text x.path x.kind (flat_map (λ w. 32 ∷ w) (residue_words xs)) (sym e))
residue_one (x ∷ xs) (y ∷ ys) h k e =
    words_one (x ∷ xs) (y ∷ ys) h k (spaced_one (item_word x.path x.kind) (item_word y.path y.kind) (residue_words xs) (residue_words ys) (words_lack (x ∷ xs) h) (words_lack (y ∷ ys) k) e)
