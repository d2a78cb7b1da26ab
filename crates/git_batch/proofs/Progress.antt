-- How far a listing has come.
use Rattle.std.proofs.Common.{◌≡◌, ℕ, zero, suc, ◌+◌, ◌≤◌, [], ◌∷◌, ◌++◌, length, Option, None, Some, IfSome, refl, sym, ap, ◌∙◌, subst, arith, append_assoc, append-nil, length-append, decimal}
use Rattle.std.specs.Io.KnownBytes.{Consumes}
use Rattle.text_model.specs.Text.{Bytes, line, spaced}
use Rattle.text_model.specs.Id.{hex, kind_word}
use Rattle.text_model.specs.Fault.{Refusal}
use Rattle.git_model.specs.Object.{Object}
use Rattle.git_model.specs.Stream.{object_text, StreamFraming, object_reading, ObjectReading, NoObject, Found, BadObject, stream_from, stream_framing, stream_listing, object_line}
use Rattle.git_model.proofs.StreamLemmas.{stream_refused, stream_item, stream_end}
use Rattle.git_batch.specs.declared.fault.BatchFault.{BatchFault}
use Rattle.git_batch.specs.declared.fault.BatchFault.TheVariants as batch
use Rattle.git_batch.specs.Faults.{IsFault}
use Rattle.git_batch.specs.Item.{reading_fault}

-- The whole input is listed as what was listed so far and what is listed of the rest, and is refused as the rest is. A framing of the rest takes `more` objects at least.
pub record GoesOn (whole rest old out : Bytes) (at : ℕ) : Type 0 where
  pub more : ℕ
  pub enough : length rest ≤ more
  pub refused : (stream_framing whole).bad ≡ (stream_from (suc more) at rest).bad
  pub lines : old ++ stream_listing (stream_framing whole).objects ≡ out ++ stream_listing (stream_from (suc more) at rest).objects

-- the same where the source tells its bytes
abbrev pub Progress : Option Bytes → Option Bytes → Bytes → Bytes → ℕ → Type 0
Progress None rest old out at = Unit {0}
Progress (Some whole) None old out at = ⊥
Progress (Some whole) (Some rest) old out at = GoesOn whole rest old out at

begins : (whole out : Bytes) → GoesOn whole whole out out 0
unfolding stream_framing
begins whole out = record { more = length whole; enough = omega arith; refused = refl; lines = refl }

pub progress_begins : (old : Option Bytes) (out : Bytes) → Progress old old out out 0
progress_begins None out = tt
progress_begins (Some whole) out = begins whole out

-- a fault of what is refused for one reason is a fault of what is refused for the same one
refused_by : (why bad : Option Refusal) → ((r : Refusal) → why ≡ Some r → bad ≡ Some r) → (e : BatchFault) → IsFault why e → IsFault bad e
refused_by why bad by batch.Read is = tt
refused_by why bad by batch.Memory is = tt
refused_by why bad by (batch.Line place) is = by _ is
refused_by why bad by (batch.Missing place) is = by _ is
refused_by why bad by (batch.KindUnknown id place) is = by _ is
refused_by why bad by (batch.Limit place) is = by _ is
refused_by why bad by (batch.Truncated place) is = by _ is
refused_by why bad by batch.InputLimit is = by _ is
refused_by why bad by (batch.IdWrong id place) is = by _ is

reading_refused : (reading : ObjectReading) (why : Refusal) → reading_fault reading ≡ Some why → reading ≡ BadObject why
reading_refused NoObject why e = cc
reading_refused (Found o) why e = cc
reading_refused (BadObject r) why e = cc

refused_at : (whole rest old out : Bytes) (at : ℕ) → GoesOn whole rest old out at → (why : Refusal) → object_reading at rest ≡ BadObject why → (stream_framing whole).bad ≡ Some why
refused_at whole rest old out at so_far why bad = so_far.refused ∙ ap (λ (f : StreamFraming). f.bad) (stream_refused so_far.more at rest why bad)

pub fault_told : (old mid : Option Bytes) (from out : Bytes) (at : ℕ) (e : BatchFault) → Progress old mid from out at
    → IfSome mid (λ bytes. IsFault (reading_fault (object_reading at bytes)) e) → IfSome old (λ bytes. IsFault (stream_framing bytes).bad e)
fault_told None mid from out at e so_far is = tt
fault_told (Some whole) None from out at e so_far is = absurd so_far
fault_told (Some whole) (Some rest) from out at e so_far is =
    refused_by (reading_fault (object_reading at rest)) (stream_framing whole).bad (λ why bad. refused_at whole rest from out at so_far why (reading_refused (object_reading at rest) why bad)) e is

-- ---- an object

object_goes_on : (more : ℕ) (whole rest old out : Bytes) (at : ℕ) (o : Object) → length (object_text o ++ rest) ≤ more
    → (stream_framing whole).bad ≡ (stream_from (suc more) at (object_text o ++ rest)).bad
    → old ++ stream_listing (stream_framing whole).objects ≡ out ++ stream_listing (stream_from (suc more) at (object_text o ++ rest)).objects
    → object_reading at (object_text o ++ rest) ≡ Found o → 0 + 1 ≤ length (object_text o)
    → GoesOn whole rest old (out ++ object_line o.id o.kind (length o.content)) (at + length (object_text o))
object_goes_on zero whole rest old out at o enough refused lines found some = absurd (omega (arith, length-append (object_text o) rest))
object_goes_on (suc more) whole rest old out at o enough refused lines found some =
    let next = stream_item (suc more) at rest o found in
    let behind = stream_from (suc more) (at + length (object_text o)) rest in record {
      more = more;
      enough = omega (arith, length-append (object_text o) rest);
      refused = refused ∙ ap (λ (f : StreamFraming). f.bad) next;
      lines = lines ∙ ap (λ (f : StreamFraming). out ++ stream_listing f.objects) next ∙ sym (append_assoc out (object_line o.id o.kind (length o.content)) (stream_listing behind.objects));
    }

goes_on : (whole mid rest old out new : Bytes) (at : ℕ) (o : Object) → GoesOn whole mid old out at → mid ≡ object_text o ++ rest → object_reading at mid ≡ Found o → 0 + 1 ≤ length (object_text o)
    → new ≡ out ++ object_line o.id o.kind (length o.content) → GoesOn whole rest old new (at + length (object_text o))
goes_on whole mid rest old out new at o so_far text found some grew =
    subst (λ (l : Bytes). GoesOn whole rest old l (at + length (object_text o))) (sym grew)
    (object_goes_on so_far.more whole rest old out at o
    (subst (λ (l : Bytes). length l ≤ so_far.more) text so_far.enough)
    (subst (λ (l : Bytes). (stream_framing whole).bad ≡ (stream_from (suc so_far.more) at l).bad) text so_far.refused)
    (subst (λ (l : Bytes). old ++ stream_listing (stream_framing whole).objects ≡ out ++ stream_listing (stream_from (suc so_far.more) at l).objects) text so_far.lines)
    (subst (λ (l : Bytes). object_reading at l ≡ Found o) text found) some)

pub progress_goes_on : (old mid new : Option Bytes) (from out grown : Bytes) (at : ℕ) (o : Object) → Progress old mid from out at → Consumes mid new (object_text o)
    → IfSome mid (λ bytes. object_reading at bytes ≡ Found o) → 0 + 1 ≤ length (object_text o) → grown ≡ out ++ object_line o.id o.kind (length o.content)
    → Progress old new from grown (at + length (object_text o))
progress_goes_on None mid new from out grown at o so_far took found some grew = tt
progress_goes_on (Some whole) None new from out grown at o so_far took found some grew = absurd so_far
progress_goes_on (Some whole) (Some mid) None from out grown at o so_far took found some grew = absurd took
progress_goes_on (Some whole) (Some mid) (Some rest) from out grown at o so_far took found some grew = goes_on whole mid rest from out grown at o so_far took found some grew

-- ---- the end

ends : (whole rest old out : Bytes) (at : ℕ) → GoesOn whole rest old out at → object_reading at rest ≡ NoObject → ((stream_framing whole).bad ≡ None) × (out ≡ old ++ stream_listing (stream_framing whole).objects)
ends whole rest old out at so_far none =
    let end = stream_end so_far.more at rest none in (
      so_far.refused ∙ ap (λ (f : StreamFraming). f.bad) end,
      sym (so_far.lines ∙ ap (λ (f : StreamFraming). out ++ stream_listing f.objects) end ∙ append-nil out),
    )

pub listed : (old mid : Option Bytes) (from out : Bytes) (at : ℕ) → Progress old mid from out at → IfSome mid (λ bytes. object_reading at bytes ≡ NoObject)
    → IfSome old (λ bytes. ((stream_framing bytes).bad ≡ None) × (out ≡ from ++ stream_listing (stream_framing bytes).objects))
listed None mid from out at so_far none = tt
listed (Some whole) None from out at so_far none = absurd so_far
listed (Some whole) (Some rest) from out at so_far none = ends whole rest from out at so_far none

-- an object takes at least its two LFs
pub object_text-some : (o : Object) → 0 + 1 ≤ length (object_text o)
object_text-some o =
    let head = line (spaced (hex o.id ∷ kind_word o.kind ∷ decimal (length o.content) ∷ [])) in
    omega (arith, length-append head (line o.content), length-append o.content (10 ∷ []))
