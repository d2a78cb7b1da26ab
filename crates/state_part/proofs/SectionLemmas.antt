-- A section is read in one way.
use Rattle.std.proofs.Common.{◌≡◌, ◌≢◌, ◌<◌, ◌^◌, ℕ, [], ◌∷◌, ◌++◌, length, take, drop, sym, ap, ◌∙◌, arith, append_assoc, length-append}
use Rattle.std.proofs.Math.Seq.{take-append_seam, drop-append_seam}
use Rattle.text_model.specs.Text.{Bytes, lf}
use Rattle.state_model.specs.Text.{sized}
use Rattle.state_part.specs.Form.{count_line, HasCount, NoSection}
use Rattle.state_part.proofs.CountLemmas.{one_count}

-- the parts of a section, in the order in which they are read
pub sized-parts : (word text rest : Bytes) → sized word text ++ rest ≡ count_line word (length text) ++ (text ++ lf ∷ rest)
sized-parts word text rest =
    append_assoc (count_line word (length text)) (text ++ lf ∷ []) rest ∙ ap (λ (t : Bytes). count_line word (length text) ++ t) (append_assoc text (lf ∷ []) rest)

-- the size, and what stands behind its line
pub record Behind (n : ℕ) (behind text rest : Bytes) : Type 0 where
  pub size : n ≡ length text
  pub is : behind ≡ text ++ lf ∷ rest

pub behind_is : (word bytes behind text rest : Bytes) (n : ℕ) → length bytes < 2 ^ 64 → HasCount word bytes n behind → bytes ≡ sized word text ++ rest → Behind n behind text rest
behind_is word bytes behind text rest n long line section =
    let parts : bytes ≡ count_line word (length text) ++ (text ++ lf ∷ rest) = section ∙ sized-parts word text rest in
    let within : length text < 2 ^ 64 = omega (arith, long, ap (λ (t : Bytes). length t) parts, length-append (count_line word (length text)) (text ++ lf ∷ rest), length-append text (lf ∷ rest)) in
    let one = one_count word n (length text) behind (text ++ lf ∷ rest) line.fits within (sym line.is ∙ parts) in
    record { size = one.number; is = one.rest }

pub too_short : (word bytes behind : Bytes) (n : ℕ) → length bytes < 2 ^ 64 → HasCount word bytes n behind → length behind < n → NoSection word bytes
too_short word bytes behind n long line short text rest section =
    let b = behind_is word bytes behind text rest n long line section in
    absurd (omega (arith, short, b.size, ap (λ (t : Bytes). length t) b.is, length-append text (lf ∷ rest)))

pub no_end : (word bytes behind after : Bytes) (n : ℕ) → length bytes < 2 ^ 64 → HasCount word bytes n behind → after ≡ drop n behind → ((rest : Bytes) → after ≢ lf ∷ rest)
    → NoSection word bytes
no_end word bytes behind after n long line after_is none text rest section =
    let b = behind_is word bytes behind text rest n long line section in
    none rest (after_is ∙ ap (λ (k : ℕ). drop k behind) b.size ∙ ap (drop (length text)) b.is ∙ drop-append_seam text (lf ∷ rest))

-- of two lists of bytes, each with more behind it, the parts are the same where the lengths are
same_parts : (a b x y : Bytes) → length a ≡ length b → a ++ x ≡ b ++ y → (a ≡ b) × (x ≡ y)
same_parts a b x y long e = (
  sym (take-append_seam a x) ∙ ap (take (length a)) e ∙ ap (λ (n : ℕ). take n (b ++ y)) long ∙ take-append_seam b y,
  sym (drop-append_seam a x) ∙ ap (drop (length a)) e ∙ ap (λ (n : ℕ). drop n (b ++ y)) long ∙ drop-append_seam b y,
)

-- bytes begin with one section of a word
pub one_section : (word a b x y : Bytes) → length a < 2 ^ 64 → length b < 2 ^ 64 → sized word a ++ x ≡ sized word b ++ y → (a ≡ b) × (x ≡ y)
one_section word a b x y short_a short_b e =
    let one = one_count word (length a) (length b) (a ++ lf ∷ x) (b ++ lf ∷ y) short_a short_b (sym (sized-parts word a x) ∙ e ∙ sized-parts word b y) in
    let parts = same_parts a b (lf ∷ x) (lf ∷ y) one.number one.rest in
    (parts.0, behind parts.1)
  where
    behind : lf ∷ x ≡ lf ∷ y → x ≡ y
    behind h = cc
