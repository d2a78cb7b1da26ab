-- What is read as an object is what is written of it.
use Rattle.std.proofs.Common.{◌≡◌, ◌<◌, ◌≤◌, ◌+◌, ◌^◌, ℕ, zero, suc, Bool, true, false, ◌==◌, List, [], ◌∷◌, ◌++◌, length, map, take, drop, Option, None, Some, decimal, refl, sym, ap, ◌∙◌, subst, arith, append_assoc, append-nil, length-append, length-take, take-append-drop, ltb-false, eqb-true}
use Rattle.std.specs.Prelude.{nat_lt, slice_index}
use Rattle.std.specs.List.{join_with_byte}
use Rattle.std.proofs.lemmas.List.Splits.{join_with_byte-slice_split}
use Rattle.std.proofs.lemmas.List.{length-take-le}
use Rattle.std.proofs.Math.Seq.{drop-cons}
use Rattle.text_model.specs.Lists.{Each}
use Rattle.text_model.specs.Text.{Bytes, lf, sp, line, spaced, first_line, is_decimal, number_of}
use Rattle.text_model.specs.Cuts.{Lacks}
use Rattle.text_model.specs.Id.{Id, IsId, hex, is_hex_id, bytes_of_digits, ObjectKind, kind_word}
use Rattle.text_model.specs.Fault.{Refusal, refusal_at, reach, input_limit}
use Rattle.text_model.specs.Fault as fault
use Rattle.text_model.proofs.LineLemmas.{first_line-is_cut}
use Rattle.text_model.proofs.CutLemmas.{cut_of-takes}
use Rattle.text_model.proofs.HexLemmas.{id_of_hex-takes, id_of_hex-some}
use Rattle.text_model.proofs.DecimalLemmas.{decimal-number_of}
use Rattle.text_model.proofs.Options.{some_none}
use Rattle.text_model.proofs.FaultLemmas.{within-reach}
use Rattle.git_model.specs.Object.{Object}
use Rattle.git_model.specs.Stream.{object_text, LineReading, NoLine, Header, BadLine, header_by, header_of, is_kind_word, kind_of, size_limit, is_missing, line_size, unless_bad, line_by, line_reading, or_line, body_fault, ObjectReading, NoObject, Found, BadObject, with_content, object_behind, object_reading, IsFit, IsFitStream, StreamFraming, put_placed, stream_text, stream_from, stream_framing}
use Rattle.git_model.proofs.StreamWords.{words, kind_of-takes}
use Rattle.git_model.proofs.StreamLemmas.{stream_item, stream_end, stream_refused}
use Rattle.git_model.proofs.StreamLine.{object_behind_line}
use Rattle.git_model.proofs.StreamAgain.{header_line, size_limit-small, length-object}

bad_header : (why : Refusal) (id : Id) (kind : ObjectKind) (size : ℕ) → BadLine why ≡ Header id kind size → ⊥
bad_header why id kind size e = cc

no_header : (id : Id) (kind : ObjectKind) (size : ℕ) → NoLine ≡ Header id kind size → ⊥
no_header id kind size e = cc

bad_line : (why : Refusal) → BadLine why ≡ NoLine → ⊥
bad_line why e = cc

-- ---- three words that say a header

pub record Says (at : ℕ) (parts : List Bytes) (id : Id) (kind : ObjectKind) (size : ℕ) : Type 0 where
  pub is : parts ≡ hex id ∷ kind_word kind ∷ decimal size ∷ []
  pub id_is : IsId id
  pub within : size ≤ size_limit kind

by_kind : (at : ℕ) (id other : Id) (n size : ℕ) (k : Option ObjectKind) (kind : ObjectKind) → header_by at id n k ≡ Header other kind size → (id ≡ other) × (k ≡ Some kind) × (n ≡ size) × (size ≤ size_limit kind)
by_kind at id other n size None kind e = absurd (bad_header _ other kind size e)
by_kind at id other n size (Some k) kind e = by (nat_lt (size_limit k) n) refl
  where
    by : (t : Bool) → nat_lt (size_limit k) n ≡ t → (id ≡ other) × (Some k ≡ Some kind) × (n ≡ size) × (size ≤ size_limit kind)
    by true t = absurd (bad_header (refusal_at fault.Limit at) other kind size (sym (rw t refl) ∙ e))
    by false t =
        let same : Header id k n ≡ Header other kind size = sym (rw t refl) ∙ e in
        let a : id ≡ other = cc in
        let b : k ≡ kind = cc in
        let d : n ≡ size = cc in
        (a, ap (λ (x : ObjectKind). Some x) b, d, rw (← d, ← b) (ltb-false (size_limit k) n t))

three_say : (at : ℕ) (digits word number : Bytes) (id : Id) (kind : ObjectKind) (size : ℕ) → header_of at (digits ∷ word ∷ number ∷ []) ≡ Header id kind size → Says at (digits ∷ word ∷ number ∷ []) id kind size
three_say at digits word number id kind size e = by (is_hex_id digits) (is_kind_word word) (is_decimal number) refl refl refl
  where
    by : (h k d : Bool) → is_hex_id digits ≡ h → is_kind_word word ≡ k → is_decimal number ≡ d → Says at (digits ∷ word ∷ number ∷ []) id kind size
    by false k d x y z = absurd (bad_header (refusal_at fault.Line at) id kind size (sym (rw x refl) ∙ e))
    by true false d x y z = absurd (bad_header (refusal_at fault.Line at) id kind size (sym (rw (x, y) refl) ∙ e))
    by true true false x y z = absurd (bad_header (refusal_at fault.Line at) id kind size (sym (rw (x, y, z) refl) ∙ e))
    by true true true x y z =
        let said : header_by at (bytes_of_digits digits) (number_of number) (kind_of word) ≡ Header id kind size = sym (rw (x, y, z) refl) ∙ e in
        let it = by_kind at (bytes_of_digits digits) id (number_of number) size (kind_of word) kind said in
        let one = id_of_hex-takes digits (bytes_of_digits digits) (id_of_hex-some digits x) in
        let two = kind_of-takes word kind it.1 in
        let small : number_of number < 2 ^ 64 = omega (arith, it.2, it.3, size_limit-small kind) in
        let three : number ≡ decimal size = sym (decimal-number_of number z small) ∙ ap decimal it.2 in
        let first : digits ≡ hex id = one.1 ∙ ap hex it.0 in record {
          is = rw (first, two, three) refl;
          id_is = subst IsId it.0 one.0;
          within = it.3;
        }

parts_say : (at : ℕ) (parts : List Bytes) (id : Id) (kind : ObjectKind) (size : ℕ) → header_of at parts ≡ Header id kind size → Says at parts id kind size
parts_say at [] id kind size e = absurd (bad_header _ id kind size e)
parts_say at (a ∷ []) id kind size e = absurd (bad_header _ id kind size e)
parts_say at (a ∷ b ∷ []) id kind size e = absurd (bad_header _ id kind size e)
parts_say at (a ∷ b ∷ c ∷ []) id kind size e = three_say at a b c id kind size e
parts_say at (a ∷ b ∷ c ∷ d ∷ parts) id kind size e = absurd (bad_header _ id kind size e)

-- a line that says a header is the header's
header_takes : (at : ℕ) (text : Bytes) (id : Id) (kind : ObjectKind) (size : ℕ) → header_of at (words text) ≡ Header id kind size
    → (text ≡ spaced (hex id ∷ kind_word kind ∷ decimal size ∷ [])) × IsId id × (size ≤ size_limit kind)
header_takes at text id kind size e =
    let s = parts_say at (words text) id kind size e in (
      sym (join_with_byte-slice_split 32 text) ∙ ap (join_with_byte 32) s.is ∙ ap (λ (l : Bytes). hex id ++ (sp ∷ (kind_word kind ++ (sp ∷ l)))) (sym (append-nil (decimal size))),
      s.id_is,
      s.within,
    )

-- ---- a line that is read as a header

pub record Line (at : ℕ) (bytes : Bytes) (id : Id) (kind : ObjectKind) (size : ℕ) : Type 0 where
  pub text : Bytes
  pub rest : Bytes
  pub is : bytes ≡ line text ++ rest
  pub lacks : Lacks lf text
  pub short : length text < 4096
  pub says : header_of at (words text) ≡ Header id kind size

none_line : (at : ℕ) (piece : Bytes) (id : Id) (kind : ObjectKind) (size : ℕ) → line_by at piece None ≡ Header id kind size → ⊥
none_line at piece id kind size e = by (is_missing piece) refl
  where
    by : (t : Bool) → is_missing piece ≡ t → ⊥
    by true t = bad_header (refusal_at fault.Missing at) id kind size (sym (rw t refl) ∙ e)
    by false t = bad_header (refusal_at fault.Line at) id kind size (sym (rw t refl) ∙ e)

some_line : (at : ℕ) (piece : Bytes) (p : Bytes × Bytes) (id : Id) (kind : ObjectKind) (size : ℕ) → line_by at piece (Some p) ≡ Header id kind size → header_of at (words p.0) ≡ Header id kind size
some_line at piece p id kind size e = by (is_missing p.0) refl
  where
    by : (t : Bool) → is_missing p.0 ≡ t → header_of at (words p.0) ≡ Header id kind size
    by true t = absurd (bad_header (refusal_at fault.Missing at) id kind size (sym (rw t refl) ∙ e))
    by false t = sym (rw t refl) ∙ e

line_takes : (at : ℕ) (bytes : Bytes) (id : Id) (kind : ObjectKind) (size : ℕ) → line_reading at bytes ≡ Header id kind size → Line at bytes id kind size
unfolding line_reading
line_takes at [] id kind size e = absurd (no_header id kind size e)
line_takes at (b ∷ bytes) id kind size e =
    by (reach (at + length (b ∷ bytes)) (at + line_size (b ∷ bytes))) (first_line (take 4096 (b ∷ bytes))) refl e
  where
    by : (why : Option Refusal) (cut : Option (Bytes × Bytes)) → first_line (take 4096 (b ∷ bytes)) ≡ cut → unless_bad why (line_by at (take 4096 (b ∷ bytes)) cut) ≡ Header id kind size
        → Line at (b ∷ bytes) id kind size
    by (Some why) cut is e = absurd (bad_header why id kind size e)
    by None None is e = absurd (none_line at (take 4096 (b ∷ bytes)) id kind size e)
    by None (Some p) is e =
        let t = cut_of-takes lf (take 4096 (b ∷ bytes)) p.0 p.1 (sym (first_line-is_cut (take 4096 (b ∷ bytes))) ∙ is) in
        let long : length (take 4096 (b ∷ bytes)) ≡ length p.0 + suc (length p.1) = ap (λ (l : Bytes). length l) t.0 ∙ length-append p.0 (lf ∷ p.1) in record {
          text = p.0;
          rest = p.1 ++ drop 4096 (b ∷ bytes);
          is =
              sym (take-append-drop 4096 (b ∷ bytes))
              ∙ ap (λ (l : Bytes). l ++ drop 4096 (b ∷ bytes)) t.0
              ∙ append_assoc p.0 (lf ∷ p.1) (drop 4096 (b ∷ bytes))
              ∙ sym (append_assoc p.0 (lf ∷ []) (p.1 ++ drop 4096 (b ∷ bytes)));
          lacks = t.1;
          short = omega (arith, long, length-take 4096 (b ∷ bytes));
          says = some_line at (take 4096 (b ∷ bytes)) p id kind size e;
        }

-- ---- an object that is read

-- the object begins the bytes, and it and the input up to its end are within their limits
pub record Takes (at : ℕ) (bytes : Bytes) (o : Object) : Type 0 where
  pub rest : Bytes
  pub is : bytes ≡ object_text o ++ rest
  pub fit : IsFit o
  pub fits : at + length (object_text o) ≤ input_limit

-- a content with its LF that is not refused
record Body (at size : ℕ) (rest : Bytes) : Type 0 where
  pub there : size + 1 ≤ length rest
  pub fits : at + size + 1 ≤ input_limit
  pub ends : slice_index rest size ≡ lf

body_takes : (at size : ℕ) (rest : Bytes) → body_fault at size rest ≡ None → Body at size rest
unfolding body_fault
body_takes at size rest none = by (reach (at + length rest) (at + size + 1)) (slice_index rest size == lf) refl refl none
  where
    by : (why : Option Refusal) (is_lf : Bool) → reach (at + length rest) (at + size + 1) ≡ why → (slice_index rest size == lf) ≡ is_lf → or_line (at + size) is_lf why ≡ None → Body at size rest
    by (Some why) is_lf r i e = absurd (some_none {x = why} e)
    by None false r i e = absurd (some_none {x = refusal_at fault.Line (at + size)} e)
    by None true r i e =
        let w = within-reach (at + length rest) (at + size + 1) r in
        record { there = omega (arith, w.0); fits = w.1; ends = eqb-true (slice_index rest size) lf i }

found_at : (at : ℕ) (text rest : Bytes) (id : Id) (kind : ObjectKind) (size : ℕ) (o : Object) → (text ≡ spaced (hex id ∷ kind_word kind ∷ decimal size ∷ [])) × IsId id × (size ≤ size_limit kind)
    → Body (at + length text + 1) size rest → record { id = id; kind = kind; content = take size rest } ≡ o → Takes at (line text ++ rest) o
found_at at text rest id kind size o says body is =
    let front : Bytes = take size rest in
    let long : length (take size rest) ≡ size = length-take-le size rest (omega (arith, body.there)) in
    let behind : drop size rest ≡ lf ∷ drop (suc size) rest = drop-cons rest size 0 (omega (arith, body.there)) ∙ ap (λ (b : ℕ). b ∷ drop (suc size) rest) body.ends in
    let whole : rest ≡ line (take size rest) ++ drop (suc size) rest =
    sym (take-append-drop size rest) ∙ ap (λ (l : Bytes). take size rest ++ l) behind ∙ sym (append_assoc (take size rest) (lf ∷ []) (drop (suc size) rest)) in
    let own : text ≡ header_line (record { id = id; kind = kind; content = take size rest }) =
    says.0 ∙ ap (λ (n : ℕ). spaced (hex id ∷ kind_word kind ∷ decimal n ∷ [])) (sym long) in
    let text_is : line text ++ rest ≡ object_text (record { id = id; kind = kind; content = take size rest }) ++ drop (suc size) rest =
    ap (λ (l : Bytes). line text ++ l) whole
    ∙ sym (append_assoc (line text) (line (take size rest)) (drop (suc size) rest))
    ∙ ap (λ (l : Bytes). (line l ++ line (take size rest)) ++ drop (suc size) rest) own in
    let size_is = length-object (record { id = id; kind = kind; content = take size rest }) in
    let same : length text ≡ length (header_line (record { id = id; kind = kind; content = take size rest })) = ap (λ (l : Bytes). length l) own in
    subst (Takes at (line text ++ rest)) is
    (record {
      rest = drop (suc size) rest;
      is = text_is;
      fit = (says.1, omega (arith, long, says.2));
      fits = omega (arith, size_is, same, long, body.fits);
    })

of_content : (id : Id) (kind : ObjectKind) (content : Bytes) (why : Option Refusal) (o : Object) → with_content id kind content why ≡ Found o → (why ≡ None) × (record { id = id; kind = kind; content = content } ≡ o)
of_content id kind content None o e = (refl, cc)
of_content id kind content (Some why) o e = absurd cc

behind_line : (at : ℕ) (bytes : Bytes) (reading : LineReading) → line_reading at bytes ≡ reading → object_reading at bytes ≡ object_behind (at + line_size bytes) (drop (line_size bytes) bytes) reading
unfolding object_reading
behind_line at bytes reading r = ap (object_behind (at + line_size bytes) (drop (line_size bytes) bytes)) r

no_found : (o : Object) → NoObject ≡ Found o → ⊥
no_found o e = cc

bad_found : (why : Refusal) (o : Object) → BadObject why ≡ Found o → ⊥
bad_found why o e = cc

pub object_takes : (at : ℕ) (bytes : Bytes) (o : Object) → object_reading at bytes ≡ Found o → Takes at bytes o
object_takes at bytes o e = by (line_reading at bytes) refl
  where
    by : (reading : LineReading) → line_reading at bytes ≡ reading → Takes at bytes o
    by NoLine r = absurd (no_found o (sym (behind_line at bytes NoLine r) ∙ e))
    by (BadLine why) r = absurd (bad_found why o (sym (behind_line at bytes (BadLine why) r) ∙ e))
    by (Header id kind size) r =
        let l = line_takes at bytes id kind size r in
        let there = object_behind_line at l.text l.rest id kind size l.lacks l.short (sym (ap (line_reading at) l.is) ∙ r) in
        let both = of_content id kind (take size l.rest) (body_fault (at + length l.text + 1) size l.rest) o (sym there ∙ sym (ap (object_reading at) l.is) ∙ e) in
        subst (λ (b : Bytes). Takes at b o) (sym l.is)
        (found_at at l.text l.rest id kind size o (header_takes at l.text id kind size l.says) (body_takes (at + length l.text + 1) size l.rest both.0) both.1)

-- ---- where nothing is read there is nothing

by_kind-some : (at : ℕ) (id : Id) (n : ℕ) (k : Option ObjectKind) → header_by at id n k ≡ NoLine → ⊥
by_kind-some at id n None e = bad_line _ e
by_kind-some at id n (Some k) e = by (nat_lt (size_limit k) n) refl
  where
    by : (t : Bool) → nat_lt (size_limit k) n ≡ t → ⊥
    by true t = bad_line (refusal_at fault.Limit at) (sym (rw t refl) ∙ e)
    by false t = no_header id k n (sym e ∙ rw t refl)

header-some : (at : ℕ) (parts : List Bytes) → header_of at parts ≡ NoLine → ⊥
header-some at [] e = bad_line _ e
header-some at (a ∷ []) e = bad_line _ e
header-some at (a ∷ b ∷ []) e = bad_line _ e
header-some at (a ∷ b ∷ c ∷ d ∷ parts) e = bad_line _ e
header-some at (a ∷ b ∷ c ∷ []) e = by (is_hex_id a) (is_kind_word b) (is_decimal c) refl refl refl
  where
    by : (h k d : Bool) → is_hex_id a ≡ h → is_kind_word b ≡ k → is_decimal c ≡ d → ⊥
    by false k d x y z = bad_line (refusal_at fault.Line at) (sym (rw x refl) ∙ e)
    by true false d x y z = bad_line (refusal_at fault.Line at) (sym (rw (x, y) refl) ∙ e)
    by true true false x y z = bad_line (refusal_at fault.Line at) (sym (rw (x, y, z) refl) ∙ e)
    by true true true x y z = by_kind-some at (bytes_of_digits a) (number_of c) (kind_of b) (sym (rw (x, y, z) refl) ∙ e)

line-some : (at : ℕ) (piece : Bytes) (cut : Option (Bytes × Bytes)) → line_by at piece cut ≡ NoLine → ⊥
line-some at piece None e = by (is_missing piece) refl
  where
    by : (t : Bool) → is_missing piece ≡ t → ⊥
    by true t = bad_line (refusal_at fault.Missing at) (sym (rw t refl) ∙ e)
    by false t = bad_line (refusal_at fault.Line at) (sym (rw t refl) ∙ e)
line-some at piece (Some p) e = by (is_missing p.0) refl
  where
    by : (t : Bool) → is_missing p.0 ≡ t → ⊥
    by true t = bad_line (refusal_at fault.Missing at) (sym (rw t refl) ∙ e)
    by false t = header-some at (words p.0) (sym (rw t refl) ∙ e)

unless-some : (why : Option Refusal) (reading : LineReading) → (reading ≡ NoLine → ⊥) → unless_bad why reading ≡ NoLine → ⊥
unless-some None reading some e = some e
unless-some (Some why) reading some e = bad_line why e

no_line-end : (at : ℕ) (bytes : Bytes) → line_reading at bytes ≡ NoLine → bytes ≡ []
unfolding line_reading
no_line-end at [] e = refl
no_line-end at (b ∷ bytes) e = absurd (unless-some _ _ (line-some at (take 4096 (b ∷ bytes)) (first_line (take 4096 (b ∷ bytes)))) e)

content-some : (id : Id) (kind : ObjectKind) (content : Bytes) (why : Option Refusal) → with_content id kind content why ≡ NoObject → ⊥
content-some id kind content None e = cc
content-some id kind content (Some why) e = cc

pub object_reading-end : (at : ℕ) (bytes : Bytes) → object_reading at bytes ≡ NoObject → bytes ≡ []
object_reading-end at bytes e = by (line_reading at bytes) refl
  where
    bad_none : (why : Refusal) → BadObject why ≡ NoObject → ⊥
    bad_none why e = cc

    by : (reading : LineReading) → line_reading at bytes ≡ reading → bytes ≡ []
    by NoLine r = no_line-end at bytes r
    by (BadLine why) r = absurd (bad_none why (sym (behind_line at bytes (BadLine why) r) ∙ e))
    by (Header id kind size) r = absurd (content-some id kind _ _ (sym (behind_line at bytes (Header id kind size) r) ∙ e))

-- ---- a stream

abbrev objects_of : StreamFraming → List Object
objects_of f = map (λ p. p.object) f.objects

-- the bytes are the stream of objects that are fit, in an input within its limit
record TakesAll (at : ℕ) (bytes : Bytes) (objects : List Object) : Type 0 where
  pub is : bytes ≡ stream_text objects
  pub fit : Each IsFit objects
  pub fits : at + length bytes ≤ input_limit

takes_from : (n at : ℕ) (bytes : Bytes) → at ≤ input_limit → length bytes < n → (stream_from n at bytes).bad ≡ None → TakesAll at bytes (objects_of (stream_from n at bytes))
unfolding stream_text
takes_from zero at bytes begins enough all = absurd (omega (arith, enough))
takes_from (suc n) at bytes begins enough all = by (object_reading at bytes) refl (takes_from n)
  where
    by : (reading : ObjectReading) → object_reading at bytes ≡ reading
        → ((place : ℕ) (rest : Bytes) → place ≤ input_limit → length rest < n → (stream_from n place rest).bad ≡ None → TakesAll place rest (objects_of (stream_from n place rest)))
        → TakesAll at bytes (objects_of (stream_from (suc n) at bytes))
    by NoObject r others =
        let end = object_reading-end at bytes r in
        let step = stream_end n at bytes r in
        subst (λ (f : StreamFraming). TakesAll at bytes (objects_of f)) (sym step)
        (record { is = end; fit = tt; fits = omega (arith, begins, ap (λ (l : Bytes). length l) end) })
    by (BadObject why) r others = absurd (some_none (sym (ap (λ (f : StreamFraming). f.bad) (stream_refused n at bytes why r)) ∙ all))
    by (Found o) r others =
        let it = object_takes at bytes o r in
        let size : length bytes ≡ length (object_text o) + length it.rest = ap (λ (l : Bytes). length l) it.is ∙ length-append (object_text o) it.rest in
        let step : stream_from (suc n) at bytes ≡ put_placed (record { object = o; at = at }) (stream_from n (at + length (object_text o)) it.rest) =
        ap (stream_from (suc n) at) it.is ∙ stream_item n at it.rest o (sym (ap (object_reading at) it.is) ∙ r) in
        let next = others (at + length (object_text o)) it.rest it.fits (omega (arith, size, length-object o, enough)) (sym (ap (λ (f : StreamFraming). f.bad) step) ∙ all) in
        subst (λ (f : StreamFraming). TakesAll at bytes (objects_of f)) (sym step)
        (record {
          is = it.is ∙ ap (λ (l : Bytes). object_text o ++ l) next.is;
          fit = (it.fit, next.fit);
          fits = omega (arith, size, next.fits);
        })

-- where all bytes are read they are the stream of the objects
pub stream_takes : (bytes : Bytes) → (stream_framing bytes).bad ≡ None → IsFitStream bytes (map (λ p. p.object) (stream_framing bytes).objects)
unfolding stream_framing
stream_takes bytes all =
    let t = takes_from (suc (length bytes)) 0 bytes (omega arith) (omega arith) all in record { is = t.is; fit = t.fit; fits = omega (arith, t.fits) }
