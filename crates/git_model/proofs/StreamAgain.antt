-- What is written of an object is read as the object.
use Rattle.std.proofs.Common.{◌≡◌, ◌≢◌, ◌<◌, ◌≤◌, ◌+◌, ◌-◌, ◌^◌, ℕ, zero, suc, Bool, true, false, ◌&&◌, List, [], ◌∷◌, ◌++◌, length, map, take, drop, get_or, Option, None, Some, decimal, codes, refl, sym, ap, ◌∙◌, arith, append_assoc, append-nil, length-append, length-drop, le-ltb, true≢false}
use Rattle.std.specs.Prelude.{if◌then◌else◌, nat_le, slice_index}
use Rattle.std.specs.List.{list_all}
use Rattle.std.proofs.lemmas.Bool.Decides.{nat_tests}
use Rattle.std.proofs.lemmas.List.{take_at, get_or-drop, get_or-append-add}
use Rattle.std.proofs.lemmas.List.Folds.{list_all_at}
use Rattle.std.proofs.lemmas.Fmt.{length-decimal-le}
use Rattle.std.proofs.Math.Seq.{get_or-append_seam}
use Rattle.text_model.specs.Lists.{Each}
use Rattle.text_model.specs.Text.{Bytes, lf, sp, line, spaced, is_digit, is_decimal, number_of}
use Rattle.text_model.specs.Cuts.{Lacks}
use Rattle.text_model.specs.Id.{Id, IsId, hex, ObjectKind, blob, tree, commit, tag, kind_word}
use Rattle.text_model.specs.Fault.{Refusal, refusal_at, reach, input_limit}
use Rattle.text_model.specs.Fault as fault
use Rattle.text_model.proofs.TestLemmas.{both, bytes_eq-is}
use Rattle.text_model.proofs.EachLemmas.{Each-append}
use Rattle.text_model.proofs.HexLemmas.{length-hex, id_of_hex-hex, hex-lacks}
use Rattle.text_model.proofs.DecimalLemmas.{DigitsOf, digits-is_decimal, number_of-decimal, is_decimal-decimal}
use Rattle.text_model.proofs.FaultLemmas.{reach-within}
use Rattle.git_model.specs.Object.{Object}
use Rattle.git_model.specs.Stream.{object_text, Header, BadLine, header_by, header_of, is_kind_word, kind_of, size_limit, is_missing, unless_bad, line_by, line_reading, body_fault, Found, NoObject, with_content, object_reading, stream_text, IsFit, ReadsAll, StreamFraming, stream_from, stream_framing}
use Rattle.git_model.proofs.StreamWords.{words, words-more, words-one, header_said}
use Rattle.git_model.proofs.StreamLemmas.{stream_item, stream_end}
use Rattle.git_model.proofs.StreamLine.{line_reading-lf, object_behind_line}

-- the line of an object without its LF
abbrev pub header_line : Object → Bytes
header_line o = spaced (hex o.id ∷ kind_word o.kind ∷ decimal (length o.content) ∷ [])

-- ---- bytes that stand nowhere in it

lacks_by : (b : ℕ) (test : ℕ → Bool) → test b ≡ false → (text : Bytes) → list_all test text ≡ true → Lacks b text
lacks_by b test not_it [] all = tt
lacks_by b test not_it (x ∷ text) all =
    let p = both (test x) (list_all test text) all in
    (λ e. true≢false (sym p.0 ∙ ap test e ∙ not_it), lacks_by b test not_it text p.1)

kind-letters : (kind : ObjectKind) → list_all (λ b. nat_le 97 b && nat_le b 122) (kind_word kind) ≡ true
kind-letters blob = refl
kind-letters tree = refl
kind-letters commit = refl
kind-letters tag = refl

is_kind_word-word : (kind : ObjectKind) → is_kind_word (kind_word kind) ≡ true
is_kind_word-word blob = refl
is_kind_word-word tree = refl
is_kind_word-word commit = refl
is_kind_word-word tag = refl

kind_of-word : (kind : ObjectKind) → kind_of (kind_word kind) ≡ Some kind
kind_of-word blob = refl
kind_of-word tree = refl
kind_of-word commit = refl
kind_of-word tag = refl

length-kind : (kind : ObjectKind) → length (kind_word kind) ≤ 6
length-kind blob = omega arith
length-kind tree = omega arith
length-kind commit = omega arith
length-kind tag = omega arith

pub size_limit-small : (kind : ObjectKind) → size_limit kind ≤ 2 ^ 26
size_limit-small blob = omega arith
size_limit-small tree = omega arith
size_limit-small commit = omega arith
size_limit-small tag = omega arith

decimal-digits : (n : ℕ) → n < 2 ^ 64 → DigitsOf (decimal n)
decimal-digits n small = digits-is_decimal (decimal n) (is_decimal-decimal n small)

-- a byte that is neither a letter nor a digit
parts-lack : (b : ℕ) (id : Id) (kind : ObjectKind) (n : ℕ) → b < 48 → IsId id → n < 2 ^ 64 → Lacks b (hex id) × Lacks b (kind_word kind) × Lacks b (decimal n)
parts-lack b id kind n low is small =
    let no_letter : (nat_le 97 b && nat_le b 122) ≡ false = grind (arith, nat_tests) in
    let no_digit : is_digit b ≡ false = grind (arith, nat_tests) in
    (hex-lacks b id low is.1, lacks_by b _ no_letter (kind_word kind) (kind-letters kind), lacks_by b is_digit no_digit (decimal n) (decimal-digits n small).digits)

header-lacks_lf : (o : Object) → IsId o.id → length o.content < 2 ^ 64 → Lacks lf (header_line o)
header-lacks_lf o is small =
    let p = parts-lack lf o.id o.kind (length o.content) (omega arith) is small in
    let more : sp ≢ lf = λ e. omega (arith, e) in
    Each-append (λ x. x ≢ lf) (hex o.id) _ p.0
    (more, Each-append (λ x. x ≢ lf) (kind_word o.kind) _ p.1 (more, Each-append (λ x. x ≢ lf) (decimal (length o.content)) [] p.2 tt))

length-header : (o : Object) → length (header_line o) ≡ length (hex o.id) + 1 + length (kind_word o.kind) + 1 + length (decimal (length o.content))
length-header o =
    let a = length-append (hex o.id) (sp ∷ (kind_word o.kind ++ (sp ∷ (decimal (length o.content) ++ [])))) in
    let b = length-append (kind_word o.kind) (sp ∷ (decimal (length o.content) ++ [])) in
    let d = length-append (decimal (length o.content)) [] in
    omega (arith, a, b, d)

header-short : (o : Object) → IsId o.id → length o.content ≤ size_limit o.kind → length (header_line o) < 4096
header-short o is within =
    let small = size_limit-small o.kind in
    let digits = length-decimal-le 8 (length o.content) (omega arith) (omega (arith, within, small)) (omega (arith, within, small)) in
    omega (arith, length-header o, length-hex o.id, is.0, length-kind o.kind, digits)

-- ---- what it says

header-words : (o : Object) → IsId o.id → length o.content < 2 ^ 64 → words (header_line o) ≡ hex o.id ∷ kind_word o.kind ∷ decimal (length o.content) ∷ []
header-words o is small =
    let p = parts-lack sp o.id o.kind (length o.content) (omega arith) is small in
    let last : words (decimal (length o.content) ++ []) ≡ decimal (length o.content) ∷ [] = ap words (append-nil (decimal (length o.content))) ∙ words-one (decimal (length o.content)) p.2 in
    words-more (hex o.id) _ p.0 ∙ ap (λ (l : List Bytes). hex o.id ∷ l) (words-more (kind_word o.kind) _ p.1 ∙ ap (λ (l : List Bytes). kind_word o.kind ∷ l) last)

header-says : (at : ℕ) (o : Object) → IsId o.id → length o.content ≤ size_limit o.kind → header_of at (words (header_line o)) ≡ Header o.id o.kind (length o.content)
header-says at o is within =
    let small : length o.content < 2 ^ 64 = omega (arith, within, size_limit-small o.kind) in
    let form : (is_kind_word (kind_word o.kind) && is_decimal (decimal (length o.content))) ≡ true = rw (is_kind_word-word o.kind, is_decimal-decimal (length o.content) small) refl in
    ap (header_of at) (header-words o is small)
    ∙ header_said at (hex o.id) (kind_word o.kind) (decimal (length o.content)) o.id (id_of_hex-hex o.id is) form
    ∙ ap (header_by at o.id (number_of (decimal (length o.content)))) (kind_of-word o.kind)
    ∙ ap (λ (n : ℕ). header_by at o.id n (Some o.kind)) (number_of-decimal (length o.content) small)
    ∙ rw (le-ltb (size_limit o.kind) (length o.content) within) refl

-- ---- it ends with a digit, and not with ` missing`

last_of_missing : (text : Bytes) → is_missing text ≡ true → slice_index text (length text - 1) ≡ 103
last_of_missing text missing =
    let same : codes " missing" ≡ drop (length text - 8) text = bytes_eq-is (codes " missing") (drop (length text - 8) text) missing in
    let long : 8 ≡ length (drop (length text - 8) text) = ap (λ (l : Bytes). length l) same in
    let place : length text - 8 + 7 ≡ length text - 1 = omega (arith, long, length-drop (length text - 8) text) in
    ap (λ (i : ℕ). get_or text i 0) (sym place) ∙ sym (get_or-drop (length text - 8) text 7 0) ∙ ap (λ (l : Bytes). get_or l 7 0) (sym same)

digit_at : (text : Bytes) (i : ℕ) → list_all is_digit text ≡ true → i < length text → slice_index text i ≢ 103
digit_at text i all lt e = true≢false (sym all ∙ list_all_at is_digit text i 0 lt (ap is_digit e))

header-not_missing : (o : Object) → IsId o.id → length o.content < 2 ^ 64 → is_missing (header_line o) ≡ false
header-not_missing o is small = by (is_missing (header_line o)) refl
  where
    by : (t : Bool) → is_missing (header_line o) ≡ t → is_missing (header_line o) ≡ false
    by false t = t
    by true t =
        let d = decimal-digits (length o.content) small in
        let digits : Bytes = decimal (length o.content) in
        let front : Bytes = hex o.id ++ (sp ∷ (kind_word o.kind ++ (sp ∷ []))) in
        let whole : header_line o ≡ (hex o.id ++ (sp ∷ (kind_word o.kind ++ (sp ∷ [])))) ++ decimal (length o.content) =
        sym
        (append_assoc (hex o.id) (sp ∷ (kind_word o.kind ++ (sp ∷ []))) (decimal (length o.content))
        ∙ ap (λ (l : Bytes). hex o.id ++ (sp ∷ l)) (append_assoc (kind_word o.kind) (sp ∷ []) (decimal (length o.content)))
        ∙ ap (λ (l : Bytes). hex o.id ++ (sp ∷ (kind_word o.kind ++ (sp ∷ l)))) (sym (append-nil (decimal (length o.content))))) in
        let all : length (header_line o) ≡ length front + length digits = ap (λ (l : Bytes). length l) whole ∙ length-append front digits in
        let place : length (header_line o) - 1 ≡ length front + (length digits - 1) = omega (arith, all, d.some) in
        let last : slice_index (header_line o) (length (header_line o) - 1) ≡ slice_index digits (length digits - 1) =
        ap (λ (i : ℕ). get_or (header_line o) i 0) place ∙ ap (λ (l : Bytes). get_or l (length front + (length digits - 1)) 0) whole ∙ get_or-append-add front digits (length digits - 1) 0 in
        absurd (digit_at digits (length digits - 1) d.digits (omega (arith, d.some)) (sym last ∙ last_of_missing (header_line o) t))

-- ---- the object

pub length-object : (o : Object) → length (object_text o) ≡ length (header_line o) + 1 + length o.content + 1
length-object o =
    let a = length-append (line (header_line o)) (line o.content) in
    let b = length-append (header_line o) (lf ∷ []) in
    let d = length-append o.content (lf ∷ []) in
    omega (arith, a, b, d)

body_fits : (at : ℕ) (content rest : Bytes) → at + length content + 1 ≤ input_limit → body_fault at (length content) (content ++ lf ∷ rest) ≡ None
unfolding body_fault
body_fits at content rest fits =
    let all : length (content ++ lf ∷ rest) ≡ length content + suc (length rest) = length-append content (lf ∷ rest) in
    let there : reach (at + length (content ++ lf ∷ rest)) (at + length content + 1) ≡ None =
    reach-within (at + length (content ++ lf ∷ rest)) (at + length content + 1) (omega (arith, all)) fits in
    let last : slice_index (content ++ lf ∷ rest) (length content) ≡ lf = get_or-append_seam content lf rest 0 in
    rw (there, last) refl

-- an object within its limit, in an input within its limit, is read as it was written
pub object_again : (at : ℕ) (o : Object) (rest : Bytes) → IsId o.id → length o.content ≤ size_limit o.kind → at + length (object_text o) ≤ input_limit → object_reading at (object_text o ++ rest) ≡ Found o
object_again at o rest is within fits =
    let small : length o.content < 2 ^ 64 = omega (arith, within, size_limit-small o.kind) in
    let size = length-object o in
    let behind : Bytes = o.content ++ lf ∷ rest in
    let text : object_text o ++ rest ≡ line (header_line o) ++ (o.content ++ lf ∷ rest) =
    append_assoc (line (header_line o)) (line o.content) rest ∙ ap (λ (l : Bytes). line (header_line o) ++ l) (append_assoc o.content (lf ∷ []) rest) in
    let lacks = header-lacks_lf o is small in
    let short = header-short o is within in
    let end : at + length (header_line o) + 1 ≤ input_limit = omega (arith, size, fits) in
    let same : at + length (header_line o) + 1 ≤ at + length (header_line o) + 1 = omega arith in
    let there : reach (at + length (header_line o) + 1) (at + length (header_line o) + 1) ≡ None =
    reach-within (at + length (header_line o) + 1) (at + length (header_line o) + 1) same end in
    let reads : line_reading at (line (header_line o) ++ behind) ≡ Header o.id o.kind (length o.content) =
    line_reading-lf at (header_line o) behind lacks short
    ∙ ap (λ (r : Option Refusal). unless_bad r (line_by at (header_line o) (Some (header_line o, [])))) there
    ∙ ap (λ (t : Bool). if t then BadLine (refusal_at fault.Missing at) else header_of at (words (header_line o))) (header-not_missing o is small)
    ∙ header-says at o is within in
    let body : body_fault (at + length (header_line o) + 1) (length o.content) (o.content ++ lf ∷ rest) ≡ None =
    body_fits (at + length (header_line o) + 1) o.content rest (omega (arith, size, fits)) in
    ap (object_reading at) text
    ∙ object_behind_line at (header_line o) behind o.id o.kind (length o.content) lacks short reads
    ∙ ap (with_content o.id o.kind (take (length o.content) behind)) body
    ∙ ap (λ (l : Bytes). Found (record { id = o.id; kind = o.kind; content = l })) (take_at o.content (lf ∷ rest) (length o.content) refl)

-- ---- a stream

no_object : (at : ℕ) → object_reading at [] ≡ NoObject
unfolding object_reading line_reading
no_object at = refl

again_from : (n at : ℕ) (objects : List Object) → Each IsFit objects → length (stream_text objects) < n → at + length (stream_text objects) ≤ input_limit
    → ReadsAll (stream_from n at (stream_text objects)) objects
unfolding stream_text
again_from zero at objects each enough fits = absurd (omega (arith, enough))
again_from (suc n) at [] each enough fits =
    let end = stream_end n at [] (no_object at) in
    record { each = ap (λ (f : StreamFraming). map (λ p. p.object) f.objects) end; all = ap (λ (f : StreamFraming). f.bad) end }
again_from (suc n) at (o ∷ objects) each enough fits =
    let size : length (object_text o ++ stream_text objects) ≡ length (object_text o) + length (stream_text objects) = length-append (object_text o) (stream_text objects) in
    let own = length-object o in
    let step = stream_item n at (stream_text objects) o (object_again at o (stream_text objects) each.0.0 each.0.1 (omega (arith, size, fits))) in
    let others = again_from n (at + length (object_text o)) objects each.1 (omega (arith, size, own, enough)) (omega (arith, size, fits)) in
    record {
      each = ap (λ (f : StreamFraming). map (λ p. p.object) f.objects) step ∙ ap (λ (l : List Object). o ∷ l) others.each;
      all = ap (λ (f : StreamFraming). f.bad) step ∙ others.all;
    }

-- objects that are fit, written one after the other, are read as these objects
pub stream_again : (objects : List Object) → Each IsFit objects → length (stream_text objects) ≤ input_limit → ReadsAll (stream_framing (stream_text objects)) objects
unfolding stream_framing
stream_again objects each fits = again_from (suc (length (stream_text objects))) 0 objects each (omega arith) (omega (arith, fits))
