-- What was read of the source, as a reading of its bytes.
use Rattle.std.proofs.Common.{◌≡◌, ◌≢◌, ℕ, ◌+◌, ◌≤◌, [], ◌∷◌, ◌++◌, length, take, Option, None, Some, IfSome, refl, sym, ap, ◌∙◌, subst, arith, append-nil, append_assoc, length-append, Bool, true, false, ◌==◌}
use Rattle.std.specs.Prelude.{slice_index}
use Rattle.std.specs.Io.KnownBytes.{Consumes}
use Rattle.std.proofs.lemmas.List.{take_at, get_or_append_left}
use Rattle.std.proofs.lemmas.Bool.Decides.{nat_tests}
use Rattle.text_model.specs.Text.{Bytes, lf, line}
use Rattle.text_model.specs.Id.{Id, ObjectKind}
use Rattle.text_model.specs.Fault.{Refusal, refusal_at, reach, input_limit}
use Rattle.text_model.specs.Fault as fault
use Rattle.text_model.proofs.FaultLemmas.{reach-within}
use Rattle.git_model.specs.Stream.{LineReading, NoLine, Header, BadLine, unless_bad, line_reading, or_line, body_fault, NoObject, Found, with_content, object_behind, object_reading}
use Rattle.git_model.proofs.StreamLine.{line_reading-lf, line_reading-cut, line_reading-limit, object_behind_line}
use Rattle.git_batch.specs.declared.line.LineEnd.{LineEnd}
use Rattle.git_batch.specs.declared.line.LineEnd.TheVariants.{Lf, Input, Limit}
use Rattle.git_batch.specs.declared.fault.BatchFault.{BatchFault}
use Rattle.git_batch.specs.declared.fault.BatchFault.TheVariants as batch
use Rattle.git_batch.specs.Line.{HasLine, piece_reading}
use Rattle.git_batch.specs.Header.{line_fault}
use Rattle.git_batch.specs.Item.{reading_fault}
use Rattle.git_batch.specs.Faults.{IsFault}

-- nothing is read of no bytes
no_line : (at : ℕ) → line_reading at [] ≡ NoLine
unfolding line_reading
no_line at = refl

line_of : (at : ℕ) (bytes rest : Bytes) (end : LineEnd) (text : Bytes) → HasLine (Some bytes) (Some rest) end text → line_reading at bytes ≡ piece_reading at end text
line_of at bytes rest Lf text has = ap (line_reading at) has.2 ∙ line_reading-lf at text rest has.0 has.1
line_of at bytes rest Input [] has = ap (line_reading at) (has.2 ∙ has.3) ∙ no_line at
line_of at bytes rest Input (b ∷ text) has =
    ap (line_reading at) (has.2 ∙ ap (λ (l : Bytes). (b ∷ text) ++ l) has.3 ∙ append-nil (b ∷ text)) ∙ line_reading-cut at b text has.0 has.1
line_of at bytes rest Limit text has = ap (line_reading at) has.2.1 ∙ line_reading-limit at has.2.0 text rest has.0 has.1

-- what is said of the line that was read holds of the line of the source's bytes
pub told_of_line : (P : LineReading → Type 0) (at : ℕ) (old new : Option Bytes) (end : LineEnd) (text : Bytes) → HasLine old new end text → P (piece_reading at end text)
    → IfSome old (λ bytes. P (line_reading at bytes))
told_of_line P at None new end text has holds = tt
told_of_line P at (Some bytes) None Lf text has holds = absurd has.2
told_of_line P at (Some bytes) None Input text has holds = absurd has.2
told_of_line P at (Some bytes) None Limit text has holds = absurd has.2.1
told_of_line P at (Some bytes) (Some rest) end text has holds = subst P (sym (line_of at bytes rest end text has)) holds

-- ---- objects

-- a fault that nothing is refused for is that of the source or of the memory
any_fault : (why : Option Refusal) (e : BatchFault) → IsFault None e → IsFault why e
any_fault why batch.Read is = tt
any_fault why batch.Memory is = tt
any_fault why (batch.Line place) is = absurd cc
any_fault why (batch.Missing place) is = absurd cc
any_fault why (batch.KindUnknown id place) is = absurd cc
any_fault why (batch.Limit place) is = absurd cc
any_fault why (batch.Truncated place) is = absurd cc
any_fault why batch.InputLimit is = absurd cc
any_fault why (batch.IdWrong id place) is = absurd cc

fault_behind : (at : ℕ) (bytes : Bytes) (reading : LineReading) (e : BatchFault) → IsFault (line_fault reading) e → IsFault (reading_fault (object_behind at bytes reading)) e
fault_behind at bytes NoLine e is = is
fault_behind at bytes (Header id kind size) e is = any_fault (reading_fault (object_behind at bytes (Header id kind size))) e is
fault_behind at bytes (BadLine why) e is = is

-- the fault of a line is that of the object
pub object_fault_of_line : (at : ℕ) (old : Option Bytes) (e : BatchFault) → IfSome old (λ bytes. IsFault (line_fault (line_reading at bytes)) e)
    → IfSome old (λ bytes. IsFault (reading_fault (object_reading at bytes)) e)
unfolding object_reading
object_fault_of_line at None e is = tt
object_fault_of_line at (Some bytes) e is = fault_behind _ _ (line_reading at bytes) e is

-- where there is no line there is no object
pub no_object_of_line : (at : ℕ) (old : Option Bytes) → IfSome old (λ bytes. line_reading at bytes ≡ NoLine) → IfSome old (λ bytes. object_reading at bytes ≡ NoObject)
unfolding object_reading
no_object_of_line at None is = tt
no_object_of_line at (Some bytes) is = ap (object_behind _ _) is

content_fault : (id : Id) (kind : ObjectKind) (content : Bytes) (why : Option Refusal) → reading_fault (with_content id kind content why) ≡ why
content_fault id kind content None = refl
content_fault id kind content (Some why) = refl

-- the fault of a content is that of the object
pub object_fault_of_content : (at : ℕ) (old mid : Option Bytes) (text : Bytes) (id : Id) (kind : ObjectKind) (size : ℕ) (e : BatchFault) → HasLine old mid Lf text
    → IfSome old (λ bytes. line_reading at bytes ≡ Header id kind size)
    → IfSome mid (λ rest. IsFault (body_fault (at + length text + 1) size rest) e)
    → IfSome old (λ bytes. IsFault (reading_fault (object_reading at bytes)) e)
object_fault_of_content at None mid text id kind size e has reads is = tt
object_fault_of_content at (Some bytes) None text id kind size e has reads is = absurd has.2
object_fault_of_content at (Some bytes) (Some rest) text id kind size e has reads is =
    let whole = object_behind_line at text rest id kind size has.0 has.1 (sym (ap (line_reading at) has.2) ∙ reads) in
    subst (λ (w : Option Refusal). IsFault w e)
    (sym (ap (λ (l : Bytes). reading_fault (object_reading at l)) has.2 ∙ ap reading_fault whole ∙ content_fault id kind (take size rest) (body_fault (at + length text + 1) size rest)))
    is

-- an object that was read is the one that begins the source's bytes
pub object_found : (at : ℕ) (old mid new : Option Bytes) (text : Bytes) (id : Id) (kind : ObjectKind) (size : ℕ) (content : Bytes) → HasLine old mid Lf text
    → IfSome old (λ bytes. line_reading at bytes ≡ Header id kind size)
    → IfSome mid (λ rest. body_fault (at + length text + 1) size rest ≡ None)
    → Consumes mid new (line content) → length content ≡ size
    → IfSome old (λ bytes. object_reading at bytes ≡ Found (record { id = id; kind = kind; content = content }))
object_found at None mid new text id kind size content has reads none took long = tt
object_found at (Some bytes) None new text id kind size content has reads none took long = absurd has.2
object_found at (Some bytes) (Some rest) None text id kind size content has reads none took long = absurd took
object_found at (Some bytes) (Some rest) (Some behind) text id kind size content has reads none took long =
    let whole = object_behind_line at text rest id kind size has.0 has.1 (sym (ap (line_reading at) has.2) ∙ reads) in
    let front : take size rest ≡ content = ap (take size) (took ∙ append_assoc content (lf ∷ []) behind) ∙ take_at content (lf ∷ behind) size long in
    ap (object_reading at) has.2
    ∙ whole
    ∙ ap (with_content id kind (take size rest)) none
    ∙ ap (λ (c : Bytes). Found (record { id = id; kind = kind; content = c })) front

-- ---- a line by its bytes

-- what the bytes of a line are refused for
pub unless_fault : (why : Option Refusal) (reading : LineReading) (e : BatchFault) → IsFault why e → IsFault (line_fault (unless_bad why reading)) e
unless_fault None reading e is = any_fault (line_fault reading) e is
unless_fault (Some why) reading e is = is

-- ---- a content by its bytes

or_fault : (at : ℕ) (is_lf : Bool) (why : Option Refusal) (e : BatchFault) → IsFault why e → IsFault (or_line at is_lf why) e
or_fault at is_lf None e is = any_fault (or_line at is_lf None) e is
or_fault at is_lf (Some why) e is = is

-- what bytes that came are refused for by their end alone
pub body_over : (at size : ℕ) (old new : Option Bytes) (came : Bytes) (e : BatchFault) → Consumes old new came → length came ≡ size + 1
    → ((total : ℕ) → at + length came ≤ total → IsFault (reach total (at + length came)) e)
    → IfSome old (λ bytes. IsFault (body_fault at size bytes) e)
unfolding body_fault
body_over at size None new came e took long is = tt
body_over at size (Some bytes) None came e took long is = absurd took
body_over at size (Some bytes) (Some rest) came e took long is =
    let all : length bytes ≡ length came + length rest = ap (λ (l : Bytes). length l) took ∙ length-append came rest in
    let end : at + length came ≡ at + size + 1 = omega (arith, long) in
    or_fault (at + size) (slice_index bytes size == lf) (reach (at + length bytes) (at + size + 1)) e
    (subst (λ (n : ℕ). IsFault (reach (at + length bytes) n) e) end (is (at + length bytes) (omega (arith, all))))

-- bytes that came within the limit are refused where the byte behind the content is no LF, and for nothing else
body_came : (at size : ℕ) (bytes came rest : Bytes) (is_lf : Bool) → bytes ≡ came ++ rest → length came ≡ size + 1 → at + size + 1 ≤ input_limit → (slice_index came size == lf) ≡ is_lf
    → body_fault at size bytes ≡ or_line (at + size) is_lf None
unfolding body_fault
body_came at size bytes came rest is_lf took long fits last =
    let all : length bytes ≡ length came + length rest = ap (λ (l : Bytes). length l) took ∙ length-append came rest in
    let there : reach (at + length bytes) (at + size + 1) ≡ None = reach-within (at + length bytes) (at + size + 1) (omega (arith, all, long)) fits in
    let behind : slice_index bytes size ≡ slice_index came size = ap (λ (l : Bytes). slice_index l size) took ∙ get_or_append_left came rest 0 size (omega (arith, long)) in
    rw (there, behind, last) refl

pub body_ended : (at size : ℕ) (old new : Option Bytes) (came : Bytes) → Consumes old new came → length came ≡ size + 1 → at + size + 1 ≤ input_limit → slice_index came size ≡ lf
    → IfSome old (λ bytes. body_fault at size bytes ≡ None)
body_ended at size None new came took long fits last = tt
body_ended at size (Some bytes) None came took long fits last = absurd took
body_ended at size (Some bytes) (Some rest) came took long fits last = body_came at size bytes came rest true took long fits (grind (arith, nat_tests, last))

pub body_unended : (at size : ℕ) (old new : Option Bytes) (came : Bytes) → Consumes old new came → length came ≡ size + 1 → at + size + 1 ≤ input_limit → slice_index came size ≢ lf
    → IfSome old (λ bytes. body_fault at size bytes ≡ Some (refusal_at fault.Line (at + size)))
body_unended at size None new came took long fits other = tt
body_unended at size (Some bytes) None came took long fits other = absurd took
body_unended at size (Some bytes) (Some rest) came took long fits other = body_came at size bytes came rest false took long fits (grind (arith, nat_tests, other))
