-- A listing without a refusal is that of a bundle within the limits, and every such bundle is listed.
use Rattle.std.proofs.Common.{◌≡◌, Bool, true, false, if◌then◌else◌, ◌++◌, length, take, drop, Option, None, Some, refl, sym, ap, ◌∙◌, subst, arith}
use Rattle.std.specs.Prelude.{bytes_eq}
use Rattle.std.proofs.lemmas.Slice.Eq.{bytes_eq-Decides}
use Rattle.std.proofs.lemmas.List.{take-append-drop}
use Rattle.text_model.specs.Text.{Bytes, IsBytes}
use Rattle.text_model.specs.Fault.{Refusal}
use Rattle.text_model.proofs.ByteLemmas.{IsBytes-drop}
use Rattle.hg_model.specs.Chunk.{magic_text, magic_fault, other_magic}
use Rattle.hg_model.specs.Bundle.{Bundle, IsBundle, IsWithinLimits, InGroup, framing_fault, bundle_framing, listing_fault}
use Rattle.hg_model.specs.Revision.{Changesets}
use Rattle.hg_model.proofs.FramingLemmas.{magic_refused, framing_behind_magic}
use Rattle.hg_model.proofs.ListingLemmas.{bundle_text-parts}
use Rattle.hg_model.proofs.TakenLemmas.{or_else_none}
use Rattle.hg_model.specs.Bundle.{ListsBundle, IsNoBundle, listing}
use Rattle.hg_model.proofs.ListingLemmas.{bundle_listed}
use Rattle.hg_model.proofs.TailLemmas.{Tail, IsTail, backs}

is_magic : (same other : Bool) (why else_why : Refusal) → (if same then None else if other then Some why else Some else_why) ≡ None → same ≡ true
is_magic true other why else_why fits = refl
is_magic false true why else_why fits = absurd cc
is_magic false false why else_why fits = absurd cc

same_magic : (first : Bytes) → other_magic first ≡ None → first ≡ magic_text
same_magic first fits = (bytes_eq-Decides first magic_text).0 (is_magic (bytes_eq first magic_text) _ _ _ fits)

is_refused : (why : Refusal) → Some why ≡ None → ⊥
is_refused why e = cc

magic_back : (bytes : Bytes) → magic_fault bytes ≡ None → bytes ≡ magic_text ++ drop 6 bytes
unfolding magic_fault
magic_back bytes fits =
    let judged = or_else_none _ _ fits in
    sym (take-append-drop 6 bytes) ∙ ap (λ (l : Bytes). l ++ drop 6 bytes) (same_magic (take 6 bytes) judged.1)

behind_magic : (bytes rest : Bytes) → bytes ≡ magic_text ++ rest → magic_fault bytes ≡ None → IsBytes rest → listing_fault bytes ≡ None
    → (t : Tail) × IsTail (InGroup Changesets) 6 rest t
behind_magic bytes rest text fits are sound =
    let all = ap bundle_framing text ∙ framing_behind_magic rest (subst (λ (l : Bytes). magic_fault l ≡ None) text fits) in
    backs (length (magic_text ++ rest)) (InGroup Changesets) true 6 rest are (omega arith) (sym (ap framing_fault all) ∙ sound)

abbrev IsRead : Bytes → Type 0
IsRead bytes = (b : Bundle) × IsBundle bytes b × IsWithinLimits bytes b

bundle_back : (bytes rest : Bytes) → bytes ≡ magic_text ++ rest → (t : Tail) × IsTail (InGroup Changesets) 6 rest t → IsRead bytes
bundle_back bytes rest text back =
    let b : Bundle = record { changesets = back.0.entries; manifests = back.0.manifests; files = back.0.files } in (
      b,
      record {
        spells = text ∙ ap (λ (l : Bytes). magic_text ++ l) back.1.text ∙ sym (bundle_text-parts b);
        changesets = back.1.entries.are;
        manifests = back.1.manifests.are;
        files = back.1.files.are;
      },
      record {
        input = omega (arith, ap length text, back.1.within);
        changesets = back.1.entries.short;
        manifests = back.1.manifests.short;
        files = back.1.files.short;
      },
    )

by_magic : (bytes : Bytes) (why : Option Refusal) → IsBytes bytes → magic_fault bytes ≡ why → listing_fault bytes ≡ None → IsRead bytes
by_magic bytes (Some why) are judged sound = let refused = magic_refused bytes why judged in absurd (is_refused why (sym refused ∙ sound))
by_magic bytes None are judged sound =
    bundle_back bytes (drop 6 bytes) (magic_back bytes judged) (behind_magic bytes (drop 6 bytes) (magic_back bytes judged) judged (IsBytes-drop 6 bytes are) sound)

-- bytes that are listed are a bundle within the limits
pub listed_bundle : (bytes : Bytes) → IsBytes bytes → listing_fault bytes ≡ None → (b : Bundle) × IsBundle bytes b × IsWithinLimits bytes b
listed_bundle bytes are sound = by_magic bytes (magic_fault bytes) are refl sound

-- a listing without a refusal is that of a bundle
pub lists_bundle : (bytes old new : Bytes) → IsBytes bytes → listing_fault bytes ≡ None → new ≡ old ++ listing (bundle_framing bytes).items → ListsBundle bytes old new
lists_bundle bytes old new are sound lines =
    let read = listed_bundle bytes are sound in record {
      bundle = read.0;
      is = read.1;
      within = read.2;
      lines = lines ∙ ap (λ (l : Bytes). old ++ l) (bundle_listed bytes read.0 read.1 read.2).1;
    }

-- bytes that are refused are no bundle
pub refused_is_none : (bytes : Bytes) (why : Refusal) → listing_fault bytes ≡ Some why → IsNoBundle bytes
refused_is_none bytes why refused b is within = is_refused why (sym refused ∙ (bundle_listed bytes b is within).0)
