-- The words of a line, and what is read of them.
use Rattle.std.proofs.Common.{◌≡◌, ℕ, ◌<◌, ◌≤◌, ◌^◌, true, false, ◌&&◌, List, [], ◌∷◌, ◌++◌, None, Some, decimal, refl, sym, ap, ◌∙◌, arith, append-nil, le-ltb, lt-ltb}
use Rattle.std.proofs.lemmas.List.Splits.{join_with_byte-slice_split}
use Rattle.std.specs.List.{join_with_byte}
use Rattle.text_model.specs.Text.{Bytes, sp, spaced, is_decimal, number_of, decimal_below}
use Rattle.text_model.specs.Cuts.{cut_of}
use Rattle.text_model.specs.Id.{Id, hex, id_of_hex, ObjectKind, kind_word}
use Rattle.text_model.specs.Fault.{Refusal, refusal, refusal_at}
use Rattle.text_model.specs.Fault as fault
use Rattle.text_model.proofs.Options.{some_is}
use Rattle.text_model.proofs.HexLemmas.{id_of_hex-takes}
use Rattle.text_model.proofs.DecimalLemmas.{decimal_below-takes, number_of-decimal}
use Rattle.git_model.specs.Stream.{Header, BadLine, header_of, header_by, is_kind_word, kind_of, size_limit}
use Rattle.git_model.proofs.StreamWords.{words, words-cut, words-last, words-some, header_said, header_no_id, header_no_form, header_over, kind_of-takes}
use Rattle.git_batch.specs.Header.{three_words, line_fault}

-- one word
pub one_word : (text : Bytes) → None ≡ cut_of sp text → None ≡ three_words (words text)
one_word text e = sym (ap three_words (words-last text (sym e)))

pub two_words : (text first rest : Bytes) → Some (first, rest) ≡ cut_of sp text → None ≡ cut_of sp rest → None ≡ three_words (words text)
two_words text first rest e last = sym (ap three_words (words-cut text first rest (sym e) ∙ ap (λ (l : List Bytes). first ∷ l) (words-last rest (sym last))))

pub more_words : (text first rest second third fourth behind : Bytes) → Some (first, rest) ≡ cut_of sp text → Some (second, third) ≡ cut_of sp rest → Some (fourth, behind) ≡ cut_of sp third
    → None ≡ three_words (words text)
more_words text first rest second third fourth behind e f g =
    let others = words-some behind in
    sym
    (ap three_words
    (words-cut text first rest (sym e)
    ∙ ap (λ (l : List Bytes). first ∷ l) (words-cut rest second third (sym f))
    ∙ ap (λ (l : List Bytes). first ∷ second ∷ l) (words-cut third fourth behind (sym g))
    ∙ ap (λ (l : List Bytes). first ∷ second ∷ fourth ∷ l) others.is))

pub all_words : (text first rest second third : Bytes) → Some (first, rest) ≡ cut_of sp text → Some (second, third) ≡ cut_of sp rest → None ≡ cut_of sp third
    → Some (first, second, third) ≡ three_words (words text)
all_words text first rest second third e f g =
    sym
    (ap three_words
    (words-cut text first rest (sym e)
    ∙ ap (λ (l : List Bytes). first ∷ l) (words-cut rest second third (sym f))
    ∙ ap (λ (l : List Bytes). first ∷ second ∷ l) (words-last third (sym g))))

-- the three words that a line has
pub words_are : (parts : List Bytes) (first second third : Bytes) → Some (first, second, third) ≡ three_words parts → parts ≡ first ∷ second ∷ third ∷ []
words_are [] first second third e = absurd cc
words_are (a ∷ []) first second third e = absurd cc
words_are (a ∷ b ∷ []) first second third e = absurd cc
words_are (a ∷ b ∷ d ∷ []) first second third e =
    ap (λ (w : Bytes × Bytes × Bytes). w.0 ∷ w.1 ∷ w.2 ∷ []) (sym (some_is {x = (first, second, third)} {y = (a, b, d)} e))
words_are (a ∷ b ∷ d ∷ f ∷ parts) first second third e = absurd cc

-- the line is its words
pub line_is : (text first second third : Bytes) → words text ≡ first ∷ second ∷ third ∷ [] → text ≡ spaced (first ∷ second ∷ third ∷ [])
line_is text first second third e =
    sym (join_with_byte-slice_split 32 text) ∙ ap (join_with_byte 32) e ∙ ap (λ (l : Bytes). first ++ sp ∷ (second ++ sp ∷ l)) (sym (append-nil third))

-- a header that was read is the line's
pub record Said (at : ℕ) (digits word size : Bytes) (id : Id) (kind : ObjectKind) (n : ℕ) : Type 0 where
  pub reads : header_of at (digits ∷ word ∷ size ∷ []) ≡ Header id kind n
  pub text : spaced (digits ∷ word ∷ size ∷ []) ≡ spaced (hex id ∷ kind_word kind ∷ decimal n ∷ [])

pub said : (at : ℕ) (digits word size : Bytes) (id : Id) (kind : ObjectKind) (n : ℕ) → Some id ≡ id_of_hex digits → is_kind_word word ≡ true → is_decimal size ≡ true
    → Some kind ≡ kind_of word → Some n ≡ decimal_below (2 ^ 64) size → n ≤ size_limit kind → Said at digits word size id kind n
said at digits word size id kind n named form number kind_is n_is within =
    let one = id_of_hex-takes digits id (sym named) in
    let two = kind_of-takes word kind (sym kind_is) in
    let three = decimal_below-takes (2 ^ 64) size n (omega arith) (sym n_is) in
    let number_is : number_of size ≡ n = ap number_of three.0 ∙ number_of-decimal n three.1 in
    let forms : (is_kind_word word && is_decimal size) ≡ true = rw (form, number) refl in record {
      reads =
          header_said at digits word size id (sym named) forms
          ∙ ap (header_by at id (number_of size)) (sym kind_is)
          ∙ ap (λ (k : ℕ). header_by at id k (Some kind)) number_is
          ∙ rw (le-ltb (size_limit kind) n within) refl;
      text = rw (← one.1, ← two, ← three.0) refl;
    }

-- ---- why three words are refused

pub refused_over : (at : ℕ) (digits word size : Bytes) (id : Id) (kind : ObjectKind) (n : ℕ) → Some id ≡ id_of_hex digits → is_kind_word word ≡ true → is_decimal size ≡ true
    → Some kind ≡ kind_of word → Some n ≡ decimal_below (2 ^ 64) size → size_limit kind < n → header_of at (digits ∷ word ∷ size ∷ []) ≡ BadLine (refusal_at fault.Limit at)
refused_over at digits word size id kind n named form number kind_is n_is over =
    let three = decimal_below-takes (2 ^ 64) size n (omega arith) (sym n_is) in
    let number_is : number_of size ≡ n = ap number_of three.0 ∙ number_of-decimal n three.1 in
    let forms : (is_kind_word word && is_decimal size) ≡ true = rw (form, number) refl in
    header_said at digits word size id (sym named) forms
    ∙ ap (header_by at id (number_of size)) (sym kind_is)
    ∙ ap (λ (k : ℕ). header_by at id k (Some kind)) number_is
    ∙ rw (lt-ltb (size_limit kind) n over) refl

pub refused_huge : (at : ℕ) (digits word size : Bytes) (id : Id) (kind : ObjectKind) → Some id ≡ id_of_hex digits → is_kind_word word ≡ true → is_decimal size ≡ true
    → Some kind ≡ kind_of word → None ≡ decimal_below (2 ^ 64) size → header_of at (digits ∷ word ∷ size ∷ []) ≡ BadLine (refusal_at fault.Limit at)
refused_huge at digits word size id kind named form number kind_is huge =
    let forms : (is_kind_word word && is_decimal size) ≡ true = rw (form, number) refl in
    header_said at digits word size id (sym named) forms
    ∙ ap (header_by at id (number_of size)) (sym kind_is)
    ∙ header_over at id size kind number (sym huge)

pub refused_kind : (at : ℕ) (digits word size : Bytes) (id : Id) → Some id ≡ id_of_hex digits → is_kind_word word ≡ true → is_decimal size ≡ true
    → None ≡ kind_of word → header_of at (digits ∷ word ∷ size ∷ []) ≡ BadLine (refusal fault.KindUnknown id at)
refused_kind at digits word size id named form number none =
    let forms : (is_kind_word word && is_decimal size) ≡ true = rw (form, number) refl in
    header_said at digits word size id (sym named) forms ∙ ap (header_by at id (number_of size)) (sym none)

-- ---- the same of the whole line

pub refused : (at : ℕ) (text digits word size : Bytes) (why : Refusal) → Some (digits, word, size) ≡ three_words (words text) → header_of at (digits ∷ word ∷ size ∷ []) ≡ BadLine why
    → line_fault (header_of at (words text)) ≡ Some why
refused at text digits word size why e is = ap (λ (l : List Bytes). line_fault (header_of at l)) (words_are (words text) digits word size e) ∙ ap line_fault is

pub no_form : (at : ℕ) (text digits word size : Bytes) → Some (digits, word, size) ≡ three_words (words text) → (is_kind_word word && is_decimal size) ≡ false
    → line_fault (header_of at (words text)) ≡ Some (refusal_at fault.Line at)
no_form at text digits word size e form = refused at text digits word size (refusal_at fault.Line at) e (header_no_form at digits word size form)

pub no_id : (at : ℕ) (text digits word size : Bytes) → Some (digits, word, size) ≡ three_words (words text) → None ≡ id_of_hex digits
    → line_fault (header_of at (words text)) ≡ Some (refusal_at fault.Line at)
no_id at text digits word size e none = refused at text digits word size (refusal_at fault.Line at) e (header_no_id at digits word size (sym none))

pub header_is : (at : ℕ) (text digits word size : Bytes) (id : Id) (kind : ObjectKind) (n : ℕ) → Some (digits, word, size) ≡ three_words (words text) → Said at digits word size id kind n
    → header_of at (words text) ≡ Header id kind n
header_is at text digits word size id kind n e s = ap (header_of at) (words_are (words text) digits word size e) ∙ s.reads

pub text_is : (at : ℕ) (text digits word size : Bytes) (id : Id) (kind : ObjectKind) (n : ℕ) → Some (digits, word, size) ≡ three_words (words text) → Said at digits word size id kind n
    → text ≡ spaced (hex id ∷ kind_word kind ∷ decimal n ∷ [])
text_is at text digits word size id kind n e s = line_is text digits word size (words_are (words text) digits word size e) ∙ s.text
