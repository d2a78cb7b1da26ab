-- How far a listing has come.
use Rattle.std.proofs.Common.{◌≡◌, ◌≢◌, ℕ, zero, suc, ◌+◌, ◌<◌, ◌≤◌, ◌^◌, Bool, true, false, [], ◌∷◌, ◌++◌, length, Option, None, Some, IfSome, refl, sym, ap, ◌∙◌, subst, arith, append_assoc, append-nil, length-append}
use Rattle.std.specs.Io.KnownBytes.{Consumes, IsAtEnd}
use Rattle.text_model.specs.Text.{Bytes}
use Rattle.text_model.specs.Fault.{Refusal, refusal_at}
use Rattle.text_model.specs.Fault as fault
use Rattle.hg_model.specs.Chunk.{field_of, chunk_text, magic_text, chunk_fault, magic_fault, trailing_fault}
use Rattle.hg_model.specs.Bundle.{Place, InGroup, AtPath, Framing, framing_from, framing_fault, bundle_framing, listing, listing_fault, length_limit, is_short_at, is_path, place_after, place_after_empty, put_item}
use Rattle.hg_model.specs.Revision.{Changesets}
use Rattle.hg_model.proofs.ChunkLemmas.{length-chunk}
use Rattle.hg_model.proofs.FramingLemmas.{framing_at, framing_refused, framing_empty, framing_item, magic_refused, framing_behind_magic}
use Rattle.hg_chunk.specs.declared.fault.ChunkFault.{ChunkFault}
use Rattle.hg_chunk.specs.declared.fault.ChunkFault.TheVariants as chunk
use Rattle.hg_chunk.specs.Faults as framing
use Rattle.hg_bundle.specs.declared.fault.BundleFault.{BundleFault}
use Rattle.hg_bundle.specs.declared.fault.BundleFault.TheVariants.{Refused, Read, Memory}
use Rattle.hg_bundle.specs.Faults.{IsFault, bundle_fault}
use Rattle.hg_bundle.specs.Listing.{next_place, line_at, IsLongEnough, IsStepFault}

-- The whole input is listed as what was listed so far and what is listed of the rest, and is refused as the rest is. A framing of the rest takes `more` chunks at least.
pub record GoesOn (whole rest old out : Bytes) (at : ℕ) (next : Option Place) : Type 0 where
  pub more : ℕ
  pub first : Bool
  pub enough : length rest ≤ more
  pub refused : listing_fault whole ≡ framing_fault (framing_at (suc more) first at next rest)
  pub lines : old ++ listing (bundle_framing whole).items ≡ out ++ listing (framing_at (suc more) first at next rest).items

-- the same where the source tells its bytes
abbrev pub Progress : Option Bytes → Option Bytes → Bytes → Bytes → ℕ → Option Place → Type 0
Progress None rest old out at next = Unit {0}
Progress (Some whole) None old out at next = ⊥
Progress (Some whole) (Some rest) old out at next = GoesOn whole rest old out at next

-- a fault of a chunk, as a fault of the bundle that is refused where the chunk is
pub refused_by : (why listed : Option Refusal) (e : ChunkFault) → ((r : Refusal) → why ≡ Some r → listed ≡ Some r) → framing.IsFault why e → IsFault listed (bundle_fault e)
refused_by why listed chunk.Read by is = tt
refused_by why listed chunk.Memory by is = tt
refused_by why listed (chunk.Truncated at) by is = by _ is
refused_by why listed (chunk.Length at) by is = by _ is
refused_by why listed (chunk.Limit at) by is = by _ is
refused_by why listed (chunk.Trailing at) by is = by _ is
refused_by why listed chunk.Magic by is = by _ is
refused_by why listed chunk.OtherBundle by is = by _ is
refused_by why listed chunk.InputLimit by is = by _ is

pub is_small : (place : Place) (n : ℕ) → n ≤ length_limit place → n < 2 ^ 31
is_small (InGroup group) n within = omega arith
is_small AtPath n within = omega arith

-- the fault of the magic
pub magic_told : (old : Option Bytes) (e : ChunkFault) → IfSome old (λ bytes. framing.IsFault (magic_fault bytes) e) → IfSome old (λ bytes. IsFault (listing_fault bytes) (bundle_fault e))
magic_told None e is = tt
magic_told (Some bytes) e is = refused_by (magic_fault bytes) (listing_fault bytes) e (magic_refused bytes) is

begins : (whole rest out : Bytes) → whole ≡ magic_text ++ rest → magic_fault whole ≡ None → GoesOn whole rest out out 6 (Some (InGroup Changesets))
begins whole rest out text fits =
    let all : bundle_framing whole ≡ framing_from (suc (suc (suc (suc (suc (suc (length rest))))))) (InGroup Changesets) true 6 rest =
    ap bundle_framing text ∙ framing_behind_magic rest (subst (λ (l : Bytes). magic_fault l ≡ None) text fits) in record {
      more = suc (suc (suc (suc (suc (length rest)))));
      first = true;
      enough = omega arith;
      refused = ap framing_fault all;
      lines = ap (λ (f : Framing). out ++ listing f.items) all;
    }

pub progress_begins : (old mid : Option Bytes) (out : Bytes) → Consumes old mid magic_text → IfSome old (λ bytes. magic_fault bytes ≡ None) → Progress old mid out out 6 (Some (InGroup Changesets))
progress_begins None mid out took fits = tt
progress_begins (Some whole) None out took fits = absurd took
progress_begins (Some whole) (Some rest) out took fits = begins whole rest out took fits

-- the rest is refused at its chunk
refused_at_chunk : (whole rest old out : Bytes) (at : ℕ) (place : Place) → GoesOn whole rest old out at (Some place) → (why : Refusal) → chunk_fault (length_limit place) at rest ≡ Some why → listing_fault whole ≡ Some why
refused_at_chunk whole rest old out at place so_far why refused = so_far.refused ∙ ap framing_fault (framing_refused so_far.more place so_far.first at rest why refused)

pub chunk_told : (old mid : Option Bytes) (from out : Bytes) (at : ℕ) (place : Place) (e : ChunkFault) → Progress old mid from out at (Some place)
    → IfSome mid (λ bytes. framing.IsFault (chunk_fault (length_limit place) at bytes) e) → IfSome old (λ bytes. IsFault (listing_fault bytes) (bundle_fault e))
chunk_told None mid from out at place e so_far is = tt
chunk_told (Some whole) None from out at place e so_far is = absurd so_far
chunk_told (Some whole) (Some rest) from out at place e so_far is =
    refused_by (chunk_fault (length_limit place) at rest) (listing_fault whole) e (refused_at_chunk whole rest from out at place so_far) is

-- an empty chunk ends what stood at its place
empty_goes_on : (more : ℕ) (first : Bool) (whole rest old out : Bytes) (at : ℕ) (place : Place) → length (chunk_text [] ++ rest) ≤ more
    → listing_fault whole ≡ framing_fault (framing_from (suc more) place first at (chunk_text [] ++ rest))
    → old ++ listing (bundle_framing whole).items ≡ out ++ listing (framing_from (suc more) place first at (chunk_text [] ++ rest)).items
    → chunk_fault (length_limit place) at (chunk_text [] ++ rest) ≡ None
    → GoesOn whole rest old out (at + 4) (place_after_empty place)
empty_goes_on zero first whole rest old out at place enough refused lines fits = absurd (omega (arith, length-append (chunk_text []) rest, length-chunk []))
empty_goes_on (suc more) first whole rest old out at place enough refused lines fits =
    let next = framing_empty (suc more) place first at rest fits in record {
      more = more;
      first = true;
      enough = omega (arith, length-append (chunk_text []) rest, length-chunk []);
      refused = refused ∙ ap framing_fault next;
      lines = lines ∙ ap (λ (f : Framing). out ++ listing f.items) next;
    }

-- what an item adds to a listing that isn't refused at it
item_listed : (place : Place) (first : Bool) (at byte : ℕ) (bytes : Bytes) (f : Framing) (out : Bytes)
    → out ++ listing (put_item (record { place = place; first = first; at = at; payload = byte ∷ bytes }) f).items ≡ (out ++ line_at place (byte ∷ bytes)) ++ listing f.items
item_listed place first at byte bytes f out = sym (append_assoc out (line_at place (byte ∷ bytes)) (listing f.items))

item_passes : (place : Place) (first : Bool) (at byte : ℕ) (bytes : Bytes) (f : Framing) → is_short_at place (byte ∷ bytes) ≡ false
    → framing_fault (put_item (record { place = place; first = first; at = at; payload = byte ∷ bytes }) f) ≡ framing_fault f
item_passes place first at byte bytes f long = rw long refl

item_goes_on : (more : ℕ) (first : Bool) (whole rest old out : Bytes) (at : ℕ) (place : Place) (byte : ℕ) (bytes : Bytes) → length (chunk_text (byte ∷ bytes) ++ rest) ≤ more
    → listing_fault whole ≡ framing_fault (framing_from (suc more) place first at (chunk_text (byte ∷ bytes) ++ rest))
    → old ++ listing (bundle_framing whole).items ≡ out ++ listing (framing_from (suc more) place first at (chunk_text (byte ∷ bytes) ++ rest)).items
    → chunk_fault (length_limit place) at (chunk_text (byte ∷ bytes) ++ rest) ≡ None → field_of (byte ∷ bytes) < 2 ^ 31 → is_short_at place (byte ∷ bytes) ≡ false
    → GoesOn whole rest old (out ++ line_at place (byte ∷ bytes)) (at + (length (byte ∷ bytes) + 4)) (Some (place_after place (byte ∷ bytes)))
item_goes_on zero first whole rest old out at place byte bytes enough refused lines fits small long = absurd (omega (arith, length-append (chunk_text (byte ∷ bytes)) rest, length-chunk (byte ∷ bytes)))
item_goes_on (suc more) first whole rest old out at place byte bytes enough refused lines fits small long =
    let next = framing_item (suc more) place first at byte bytes rest small fits in
    let behind = framing_from (suc more) (place_after place (byte ∷ bytes)) (is_path place) (at + (length (byte ∷ bytes) + 4)) rest in record {
      more = more;
      first = is_path place;
      enough = omega (arith, length-append (chunk_text (byte ∷ bytes)) rest, length-chunk (byte ∷ bytes));
      refused = refused ∙ ap framing_fault next ∙ item_passes place first at byte bytes behind long;
      lines = lines ∙ ap (λ (f : Framing). out ++ listing f.items) next ∙ item_listed place first at byte bytes behind out;
    }

-- a chunk that was read and listed
goes_on : (whole mid rest old out new : Bytes) (at : ℕ) (place : Place) (payload : Bytes) → GoesOn whole mid old out at (Some place) → mid ≡ chunk_text payload ++ rest
    → chunk_fault (length_limit place) at mid ≡ None → field_of payload < 2 ^ 31 → IsLongEnough place payload → new ≡ out ++ line_at place payload
    → GoesOn whole rest old new (at + (length payload + 4)) (next_place place payload)
goes_on whole mid rest old out new at place [] so_far text fits small long grew =
    subst (λ (l : Bytes). GoesOn whole rest old l (at + 4) (place_after_empty place)) (sym (append-nil out) ∙ sym grew)
    (empty_goes_on so_far.more so_far.first whole rest old out at place
    (subst (λ (l : Bytes). length l ≤ so_far.more) text so_far.enough)
    (subst (λ (l : Bytes). listing_fault whole ≡ framing_fault (framing_from (suc so_far.more) place so_far.first at l)) text so_far.refused)
    (subst (λ (l : Bytes). old ++ listing (bundle_framing whole).items ≡ out ++ listing (framing_from (suc so_far.more) place so_far.first at l).items) text so_far.lines)
    (subst (λ (l : Bytes). chunk_fault (length_limit place) at l ≡ None) text fits))
goes_on whole mid rest old out new at place (byte ∷ bytes) so_far text fits small long grew =
    subst (λ (l : Bytes). GoesOn whole rest old l (at + (length (byte ∷ bytes) + 4)) (Some (place_after place (byte ∷ bytes)))) (sym grew)
    (item_goes_on so_far.more so_far.first whole rest old out at place byte bytes
    (subst (λ (l : Bytes). length l ≤ so_far.more) text so_far.enough)
    (subst (λ (l : Bytes). listing_fault whole ≡ framing_fault (framing_from (suc so_far.more) place so_far.first at l)) text so_far.refused)
    (subst (λ (l : Bytes). old ++ listing (bundle_framing whole).items ≡ out ++ listing (framing_from (suc so_far.more) place so_far.first at l).items) text so_far.lines)
    (subst (λ (l : Bytes). chunk_fault (length_limit place) at l ≡ None) text fits)
    small long)

pub progress_goes_on : (old mid new : Option Bytes) (from out grown : Bytes) (at : ℕ) (place : Place) (payload : Bytes) → Progress old mid from out at (Some place)
    → Consumes mid new (chunk_text payload) → IfSome mid (λ bytes. chunk_fault (length_limit place) at bytes ≡ None) → field_of payload < 2 ^ 31
    → IsLongEnough place payload → grown ≡ out ++ line_at place payload
    → Progress old new from grown (at + (length payload + 4)) (next_place place payload)
progress_goes_on None mid new from out grown at place payload so_far took fits small long grew = tt
progress_goes_on (Some whole) None new from out grown at place payload so_far took fits small long grew = absurd so_far
progress_goes_on (Some whole) (Some mid) None from out grown at place payload so_far took fits small long grew = absurd took
progress_goes_on (Some whole) (Some mid) (Some rest) from out grown at place payload so_far took fits small long grew =
    goes_on whole mid rest from out grown at place payload so_far took fits small long grew

-- ---- an entry that is too short

short_item : (place : Place) (first : Bool) (at byte : ℕ) (bytes : Bytes) (f : Framing) → is_short_at place (byte ∷ bytes) ≡ true
    → framing_fault (put_item (record { place = place; first = first; at = at; payload = byte ∷ bytes }) f) ≡ Some (refusal_at fault.HeaderShort at)
short_item place first at byte bytes f short = rw short refl

short_refused : (whole mid rest old out : Bytes) (at : ℕ) (place : Place) (payload : Bytes) → GoesOn whole mid old out at (Some place) → mid ≡ chunk_text payload ++ rest
    → chunk_fault (length_limit place) at mid ≡ None → field_of payload < 2 ^ 31 → is_short_at place payload ≡ true → payload ≢ []
    → listing_fault whole ≡ Some (refusal_at fault.HeaderShort at)
short_refused whole mid rest old out at place [] so_far text fits small short some = absurd (some refl)
short_refused whole mid rest old out at place (byte ∷ bytes) so_far text fits small short some =
    so_far.refused
    ∙ ap (λ (l : Bytes). framing_fault (framing_from (suc so_far.more) place so_far.first at l)) text
    ∙ ap framing_fault (framing_item so_far.more place so_far.first at byte bytes rest small (subst (λ (l : Bytes). chunk_fault (length_limit place) at l ≡ None) text fits))
    ∙ short_item place so_far.first at byte bytes (framing_from so_far.more (place_after place (byte ∷ bytes)) (is_path place) (at + (length (byte ∷ bytes) + 4)) rest) short

-- a step's fault is the refusal of the whole input
step_fault : (whole mid rest old out : Bytes) (at : ℕ) (place : Place) (payload : Bytes) (e : BundleFault) → GoesOn whole mid old out at (Some place) → mid ≡ chunk_text payload ++ rest
    → chunk_fault (length_limit place) at mid ≡ None → field_of payload < 2 ^ 31 → IsStepFault place at payload e → IsFault (listing_fault whole) e
step_fault whole mid rest old out at place payload (Refused refusal) so_far text fits small is =
    short_refused whole mid rest old out at place payload so_far text fits small is.1 is.2 ∙ is.0
step_fault whole mid rest old out at place payload Read so_far text fits small is = absurd is
step_fault whole mid rest old out at place payload Memory so_far text fits small is = tt

pub step_told : (old mid new : Option Bytes) (from out : Bytes) (at : ℕ) (place : Place) (payload : Bytes) (e : BundleFault) → Progress old mid from out at (Some place)
    → Consumes mid new (chunk_text payload) → IfSome mid (λ bytes. chunk_fault (length_limit place) at bytes ≡ None) → field_of payload < 2 ^ 31
    → IsStepFault place at payload e → IfSome old (λ bytes. IsFault (listing_fault bytes) e)
step_told None mid new from out at place payload e so_far took fits small is = tt
step_told (Some whole) None new from out at place payload e so_far took fits small is = absurd so_far
step_told (Some whole) (Some mid) None from out at place payload e so_far took fits small is = absurd took
step_told (Some whole) (Some mid) (Some rest) from out at place payload e so_far took fits small is = step_fault whole mid rest from out at place payload e so_far took fits small is

-- ---- the end

pub end_told : (old mid : Option Bytes) (from out : Bytes) (at : ℕ) (e : ChunkFault) → Progress old mid from out at None
    → IfSome mid (λ bytes. framing.IsFault (trailing_fault at bytes) e) → IfSome old (λ bytes. IsFault (listing_fault bytes) (bundle_fault e))
end_told None mid from out at e so_far is = tt
end_told (Some whole) None from out at e so_far is = absurd so_far
end_told (Some whole) (Some rest) from out at e so_far is = refused_by (trailing_fault at rest) (listing_fault whole) e (λ r refused. so_far.refused ∙ refused) is

ends : (whole rest old out : Bytes) (at : ℕ) → GoesOn whole rest old out at None → rest ≡ [] → (listing_fault whole ≡ None) × (out ≡ old ++ listing (bundle_framing whole).items)
ends whole rest old out at so_far none = (
  so_far.refused ∙ ap (trailing_fault at) none,
  sym (append-nil out) ∙ sym so_far.lines,
)

pub listed : (old mid : Option Bytes) (from out : Bytes) (at : ℕ) → Progress old mid from out at None → IsAtEnd mid
    → IfSome old (λ bytes. (listing_fault bytes ≡ None) × (out ≡ from ++ listing (bundle_framing bytes).items))
listed None mid from out at so_far none = tt
listed (Some whole) None from out at so_far none = absurd so_far
listed (Some whole) (Some rest) from out at so_far none = ends whole rest from out at so_far none
