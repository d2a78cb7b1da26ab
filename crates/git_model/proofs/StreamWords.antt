-- The three words of an object's line.
use Rattle.std.proofs.Common.{◌≡◌, ◌<◌, ◌^◌, ℕ, Bool, true, false, ◌&&◌, ◌==◌, List, [], ◌∷◌, ◌++◌, Option, None, Some, refl, sym, ap, ◌∙◌, arith, lt-ltb, ltb-false}
use Rattle.std.specs.Prelude.{nat_lt, bytes_eq}
use Rattle.std.specs.List.{slice_split}
use Rattle.text_model.specs.Text.{Bytes, sp, is_decimal, number_of, decimal_below}
use Rattle.text_model.specs.Cuts.{Lacks, cut_of}
use Rattle.text_model.specs.Id.{Id, is_hex_id, bytes_of_digits, id_of_hex, ObjectKind, blob, tree, commit, tag, kind_word}
use Rattle.text_model.specs.Fault.{Refusal, refusal, refusal_at}
use Rattle.text_model.specs.Fault as fault
use Rattle.text_model.proofs.TestLemmas.{both, differs, bytes_eq-is}
use Rattle.text_model.proofs.CutLemmas.{cut_of-takes, cut_of-none}
use Rattle.text_model.proofs.Options.{none_some, some_is, some_none}
use Rattle.git_model.specs.Stream.{BadLine, header_of, header_by, is_kind_word, find_kind, kind_of, size_limit}

-- the words between the spaces
abbrev pub words : Bytes → List Bytes
words text = slice_split (λ b. b == sp) text

pub words-more : (word rest : Bytes) → Lacks sp word → words (word ++ sp ∷ rest) ≡ word ∷ words rest
words-more [] rest h = refl
words-more (b ∷ word) rest h = rw (differs b 32 h.0, words-more word rest h.1) refl

pub words-one : (word : Bytes) → Lacks sp word → words word ≡ word ∷ []
words-one [] h = refl
words-one (b ∷ word) h = rw (differs b 32 h.0, words-one word h.1) refl

pub words-cut : (text word rest : Bytes) → cut_of sp text ≡ Some (word, rest) → words text ≡ word ∷ words rest
words-cut text word rest e = let t = cut_of-takes sp text word rest e in ap words t.0 ∙ words-more word rest t.1

pub words-last : (text : Bytes) → cut_of sp text ≡ None → words text ≡ text ∷ []
words-last text e = words-one text (cut_of-none sp text e)

-- there is a word at least
pub record Begins (texts : List Bytes) : Type 0 where
  pub first : Bytes
  pub others : List Bytes
  pub is : texts ≡ first ∷ others

pub words-some : (text : Bytes) → Begins (words text)
words-some text = by (cut_of sp text) refl
  where
    by : (r : Option (Bytes × Bytes)) → cut_of sp text ≡ r → Begins (words text)
    by None e = record { first = text; others = []; is = words-last text e }
    by (Some p) e = record { first = p.0; others = words p.1; is = words-cut text p.0 p.1 e }

-- ---- what three words say

-- the words of this form, whose id is this
pub header_said : (at : ℕ) (digits word size : Bytes) (id : Id) → id_of_hex digits ≡ Some id → (is_kind_word word && is_decimal size) ≡ true
    → header_of at (digits ∷ word ∷ size ∷ []) ≡ header_by at id (number_of size) (kind_of word)
header_said at digits word size id named form = by (is_hex_id digits) refl
  where
    by : (t : Bool) → is_hex_id digits ≡ t → header_of at (digits ∷ word ∷ size ∷ []) ≡ header_by at id (number_of size) (kind_of word)
    by true t =
        let is : bytes_of_digits digits ≡ id = some_is (sym (rw t refl) ∙ named) in
        let parts = both (is_kind_word word) (is_decimal size) form in
        rw (t, parts.0, parts.1, is) refl
    by false t = absurd (none_some (sym (rw t refl) ∙ named))

-- digits that name no id
pub header_no_id : (at : ℕ) (digits word size : Bytes) → id_of_hex digits ≡ None → header_of at (digits ∷ word ∷ size ∷ []) ≡ BadLine (refusal_at fault.Line at)
header_no_id at digits word size named = by (is_hex_id digits) refl
  where
    by : (t : Bool) → is_hex_id digits ≡ t → header_of at (digits ∷ word ∷ size ∷ []) ≡ BadLine (refusal_at fault.Line at)
    by true t = absurd (some_none {x = bytes_of_digits digits} (sym (rw t refl) ∙ named))
    by false t = rw t refl

-- a kind's word, or a size, of another form
pub header_no_form : (at : ℕ) (digits word size : Bytes) → (is_kind_word word && is_decimal size) ≡ false → header_of at (digits ∷ word ∷ size ∷ []) ≡ BadLine (refusal_at fault.Line at)
header_no_form at digits word size form = by (is_hex_id digits) (is_kind_word word) (is_decimal size) refl refl refl form
  where
    by : (h k d : Bool) → is_hex_id digits ≡ h → is_kind_word word ≡ k → is_decimal size ≡ d → (is_kind_word word && is_decimal size) ≡ false → header_of at (digits ∷ word ∷ size ∷ []) ≡ BadLine (refusal_at fault.Line at)
    by false k d eh ek ed f = rw eh refl
    by true false d eh ek ed f = rw (eh, ek) refl
    by true true false eh ek ed f = rw (eh, ek, ed) refl
    by true true true eh ek ed f = absurd (cc (ek, ed))

-- a decimal of 2^64 or more is over each limit
pub header_over : (at : ℕ) (id : Id) (size : Bytes) (kind : ObjectKind) → is_decimal size ≡ true → decimal_below (2 ^ 64) size ≡ None
    → header_by at id (number_of size) (Some kind) ≡ BadLine (refusal_at fault.Limit at)
header_over at id size kind is none = by (nat_lt (number_of size) (2 ^ 64)) refl
  where
    small : (k : ObjectKind) → size_limit k < 2 ^ 64
    small blob = omega arith
    small tree = omega arith
    small commit = omega arith
    small tag = omega arith

    by : (t : Bool) → nat_lt (number_of size) (2 ^ 64) ≡ t → header_by at id (number_of size) (Some kind) ≡ BadLine (refusal_at fault.Limit at)
    by true t = absurd (some_none {x = number_of size} (sym (rw (is, t) refl) ∙ none))
    by false t = rw (lt-ltb (size_limit kind) (number_of size) (omega (arith, ltb-false _ _ t, small kind))) refl

found_kind : (word : Bytes) (kinds : List ObjectKind) (kind : ObjectKind) → find_kind word kinds ≡ Some kind → word ≡ kind_word kind
found_kind word [] kind e = absurd (none_some e)
found_kind word (k ∷ ks) kind e = by (bytes_eq (kind_word k) word) refl (found_kind word ks kind)
  where
    by : (t : Bool) → bytes_eq (kind_word k) word ≡ t → (find_kind word ks ≡ Some kind → word ≡ kind_word kind) → word ≡ kind_word kind
    by true t others = sym (bytes_eq-is (kind_word k) word t) ∙ ap kind_word (some_is (sym (rw t refl) ∙ e))
    by false t others = others (sym (rw t refl) ∙ e)

-- the word of a kind
pub kind_of-takes : (word : Bytes) (kind : ObjectKind) → kind_of word ≡ Some kind → word ≡ kind_word kind
kind_of-takes word kind e = found_kind word (blob ∷ tree ∷ commit ∷ tag ∷ []) kind e
