-- The line that begins the bytes, by what it ends at.
use Rattle.std.proofs.Common.{◌≡◌, ◌<◌, ◌≤◌, ◌+◌, ◌-◌, ℕ, suc, Bool, true, false, [], ◌∷◌, ◌++◌, length, take, drop, Option, None, Some, refl, sym, ap, ◌∙◌, arith, append_assoc, length-append, lt-ltb, ltb-true}
use Rattle.std.specs.Prelude.{nat_lt}
use Rattle.std.proofs.lemmas.Bool.Decides.{nat_tests}
use Rattle.std.proofs.lemmas.List.{take_at, take_all, drop_at}
use Rattle.std.proofs.Math.Seq.{take-append-add}
use Rattle.text_model.specs.Text.{Bytes, lf, line, first_line}
use Rattle.text_model.specs.Cuts.{Lacks}
use Rattle.text_model.specs.Id.{Id, ObjectKind}
use Rattle.text_model.specs.Fault.{Refusal, refusal_at, reach, input_limit}
use Rattle.text_model.specs.Fault as fault
use Rattle.text_model.proofs.LineLemmas.{first_line-at, first_line-none}
use Rattle.git_model.specs.Stream.{NoLine, Header, size_by, line_size, unless_bad, line_by, line_reading, body_fault, with_content, object_behind, object_reading}

-- bytes that are there are refused by their end alone
pub reach-there : (total end : ℕ) → end ≤ total → reach total end ≡ reach end end
reach-there total end le = grind (arith, nat_tests)

-- the end of the input is a refusal
pub record Ends (total end : ℕ) : Type 0 where
  pub why : Refusal
  pub is : reach total end ≡ Some why

pub reach-ends : (total end : ℕ) → total < end → Ends total end
reach-ends total end lt = by (nat_lt input_limit total) refl
  where
    by : (t : Bool) → nat_lt input_limit total ≡ t → Ends total end
    by true t =
        let low : input_limit < total = ltb-true input_limit total t in
        record { why = refusal_at fault.InputLimit input_limit; is = rw (lt-ltb input_limit end (omega (arith, low, lt)), t) refl }
    by false t = record { why = refusal_at fault.Truncated total; is = past (nat_lt input_limit end) refl t }
      where
        past : (e : Bool) → nat_lt input_limit end ≡ e → nat_lt input_limit total ≡ false → reach total end ≡ Some (refusal_at fault.Truncated total)
        past true e t = rw (e, t, lt-ltb total end lt) refl
        past false e t = rw (e, lt-ltb total end lt) refl

-- the line of bytes that are some, whose first 4,096 bytes are this piece
line_with : (at size : ℕ) (bytes piece : Bytes) (cut : Option (Bytes × Bytes)) → 0 < length bytes → take 4096 bytes ≡ piece → first_line piece ≡ cut → size_by (length bytes) cut ≡ size
    → line_reading at bytes ≡ unless_bad (reach (at + length bytes) (at + size)) (line_by at piece cut)
unfolding line_reading
line_with at size [] piece cut some is line long = absurd (omega arith)
line_with at size (b ∷ bytes) piece cut some is line long =
    let cuts : first_line (take 4096 (b ∷ bytes)) ≡ cut = ap first_line is ∙ line in
    ap (λ (k : ℕ). unless_bad (reach (at + length (b ∷ bytes)) (at + k)) (line_by at (take 4096 (b ∷ bytes)) (first_line (take 4096 (b ∷ bytes)))))
    (ap (size_by (length (b ∷ bytes))) cuts ∙ long)
    ∙ ap (λ (c : Option (Bytes × Bytes)). unless_bad (reach (at + length (b ∷ bytes)) (at + size)) (line_by at (take 4096 (b ∷ bytes)) c)) cuts
    ∙ ap (λ (l : Bytes). unless_bad (reach (at + length (b ∷ bytes)) (at + size)) (line_by at l cut)) is

-- ---- a line that ends at its LF

front : (text rest : Bytes) → length text < 4096 → take 4096 (text ++ lf ∷ rest) ≡ text ++ lf ∷ take (4095 - length text) rest
front text rest short =
    let parts : 4096 ≡ length text + suc (4095 - length text) = omega arith in
    ap (λ (k : ℕ). take k (text ++ lf ∷ rest)) parts ∙ take-append-add text (lf ∷ rest) (suc (4095 - length text))

pub line_reading-lf : (at : ℕ) (text rest : Bytes) → Lacks lf text → length text < 4096
    → line_reading at (line text ++ rest) ≡ unless_bad (reach (at + length text + 1) (at + length text + 1)) (line_by at text (Some (text, [])))
line_reading-lf at text rest lacks short =
    let behind : Bytes = take (4095 - length text) rest in
    let long : length (text ++ lf ∷ rest) ≡ length text + suc (length rest) = length-append text (lf ∷ rest) in
    let end : at + (length text + 1) ≡ at + length text + 1 = omega arith in
    let there : reach (at + length (text ++ lf ∷ rest)) (at + (length text + 1)) ≡ reach (at + length text + 1) (at + length text + 1) =
    reach-there (at + length (text ++ lf ∷ rest)) (at + (length text + 1)) (omega (arith, long)) ∙ ap (λ (k : ℕ). reach k k) end in
    ap (line_reading at) (append_assoc text (lf ∷ []) rest)
    ∙ line_with at (length text + 1) (text ++ lf ∷ rest) (text ++ lf ∷ behind) (Some (text, behind)) (omega (arith, long)) (front text rest short) (first_line-at text behind lacks) refl
    ∙ ap (λ (r : Option Refusal). unless_bad r (line_by at text (Some (text, [])))) there

-- the object behind the line
pub object_behind_line : (at : ℕ) (text rest : Bytes) (id : Id) (kind : ObjectKind) (size : ℕ) → Lacks lf text → length text < 4096 → line_reading at (line text ++ rest) ≡ Header id kind size
    → object_reading at (line text ++ rest) ≡ with_content id kind (take size rest) (body_fault (at + length text + 1) size rest)
unfolding object_reading
object_behind_line at text rest id kind size lacks short reads =
    let cut : first_line (take 4096 (text ++ lf ∷ rest)) ≡ Some (text, take (4095 - length text) rest) =
    ap first_line (front text rest short) ∙ first_line-at text (take (4095 - length text) rest) lacks in
    let long : line_size (line text ++ rest) ≡ length text + 1 = ap line_size (append_assoc text (lf ∷ []) rest) ∙ ap (size_by (length (text ++ lf ∷ rest))) cut in
    let behind : drop (length text + 1) (line text ++ rest) ≡ rest = drop_at (line text) rest (length text + 1) (length-append text (lf ∷ [])) in
    let start : at + (length text + 1) ≡ at + length text + 1 = omega arith in
    ap (λ (k : ℕ). object_behind (at + k) (drop k (line text ++ rest)) (line_reading at (line text ++ rest))) long
    ∙ ap (λ (l : Bytes). object_behind (at + (length text + 1)) l (line_reading at (line text ++ rest))) behind
    ∙ ap (object_behind (at + (length text + 1)) rest) reads
    ∙ ap (λ (k : ℕ). with_content id kind (take size rest) (body_fault k size rest)) start

-- ---- a line that ends with the input

pub line_reading-cut : (at b : ℕ) (text : Bytes) → Lacks lf (b ∷ text) → length (b ∷ text) ≤ 4096
    → line_reading at (b ∷ text) ≡ unless_bad (reach (at + length (b ∷ text)) (at + length (b ∷ text) + 1)) NoLine
line_reading-cut at b text lacks short =
    let end = reach-ends (at + length (b ∷ text)) (at + length (b ∷ text) + 1) (omega arith) in
    let over : size_by (length (b ∷ text)) None ≡ length (b ∷ text) + 1 = grind (arith, nat_tests) in
    let same : at + (length (b ∷ text) + 1) ≡ at + length (b ∷ text) + 1 = omega arith in
    line_with at (length (b ∷ text) + 1) (b ∷ text) (b ∷ text) None (omega arith) (take_all 4096 (b ∷ text) short) (first_line-none (b ∷ text) lacks) over
    ∙ ap (λ (k : ℕ). unless_bad (reach (at + length (b ∷ text)) k) (line_by at (b ∷ text) None)) same
    ∙ ap (λ (r : Option Refusal). unless_bad r (line_by at (b ∷ text) None)) end.is
    ∙ sym (ap (λ (r : Option Refusal). unless_bad r NoLine) end.is)

-- ---- a line that ends at its limit

pub line_reading-limit : (at b : ℕ) (text rest : Bytes) → Lacks lf text → length text ≡ 4096
    → line_reading at ((text ++ b ∷ []) ++ rest) ≡ unless_bad (reach (at + length text) (at + length text)) (line_by at text None)
line_reading-limit at b text rest lacks long =
    let all : length (text ++ b ∷ rest) ≡ length text + suc (length rest) = length-append text (b ∷ rest) in
    let over : size_by (length (text ++ b ∷ rest)) None ≡ length text = rw (lt-ltb 4096 (length (text ++ b ∷ rest)) (omega (arith, all, long))) (sym long) in
    let there : reach (at + length (text ++ b ∷ rest)) (at + length text) ≡ reach (at + length text) (at + length text) =
    reach-there (at + length (text ++ b ∷ rest)) (at + length text) (omega (arith, all)) in
    ap (line_reading at) (append_assoc text (b ∷ []) rest)
    ∙ line_with at (length text) (text ++ b ∷ rest) text None (omega (arith, all)) (take_at text (b ∷ rest) 4096 long) (first_line-none text lacks) over
    ∙ ap (λ (r : Option Refusal). unless_bad r (line_by at text None)) there
