-- The bytes of a delta are those of one list of hunks, which is the one that is read.
use Rattle.std.proofs.Common.{◌≡◌, ℕ, zero, suc, ◌+◌, ◌^◌, ◌<◌, ◌≤◌, Bool, true, false, cond, leb, ◌==◌, ◌&&◌, List, [], ◌∷◌, ◌++◌, length, Option, Some, None, Result, Ok, Err, refl, sym, ap, subst, ◌∙◌, arith}
use Rattle.std.specs.Prelude.{slice_range}
use Rattle.std.proofs.lemmas.Bool.{and_parts, eqb-true, leb-true, le-leb}
use Rattle.std.proofs.lemmas.List.{append-nil, nil_from_length, length-append, length-drop}
use Rattle.std.proofs.lemmas.List.Edits.{length-between}
use Rattle.std.proofs.Math.Seq.{drop-length}
use Rattle.text_model.specs.Text.{Bytes}
use Rattle.text_model.specs.Lists.{Each}
use Rattle.hg_model.specs.Delta.{Hunk, hunk_text, delta_text, IsHunk, is_hunk_within, AreWithin, patched_from, patched_text, patched_size_from, Patches, first_hunk, put_hunk, put_first, hunks_from, hunks_of, first_outside, Hunks, Cut, Outside, placed_reading, judged_reading, delta_reading, whole_delta}
use Rattle.hg_model.proofs.HunkLemmas.{AreBytes, first_hunk-length, first_hunk-spells, first_hunk-hunk_text}

-- ---- the hunks of some bytes

first_step : (n at : ℕ) (bytes : Bytes) (h : Hunk) (rest : Bytes) → first_hunk bytes ≡ Some (h, rest) → hunks_from (suc n) at bytes ≡ put_hunk h (hunks_from n (at + 12 + length h.bytes) rest)
unfolding hunks_from
first_step n at [] h rest e = absurd (omega (arith, first_hunk-length [] h rest e))
first_step n at (b ∷ bytes) h rest e = rw e refl

same_first : (o : Option (Hunk × Bytes)) (n m at : ℕ) → ((next : ℕ) (h : Hunk) (rest : Bytes) → o ≡ Some (h, rest) → hunks_from n next rest ≡ hunks_from m next rest)
    → put_first at o (hunks_from n) ≡ put_first at o (hunks_from m)
same_first None n m at same = refl
same_first (Some p) n m at same = ap (λ (r : Result (List Hunk) ℕ). put_hunk p.0 r) (same (at + 12 + length (p.0).bytes) p.0 p.1 refl)

-- any number that is at least the count of bytes gives the same hunks
pub hunks_from-enough : (n m at : ℕ) (bytes : Bytes) → length bytes ≤ n → length bytes ≤ m → hunks_from n at bytes ≡ hunks_from m at bytes
unfolding hunks_from
hunks_from-enough zero zero at bytes a b = refl
hunks_from-enough zero (suc m) at [] a b = refl
hunks_from-enough zero (suc m) at (x ∷ bytes) a b = absurd (omega arith)
hunks_from-enough (suc n) zero at [] a b = refl
hunks_from-enough (suc n) zero at (x ∷ bytes) a b = absurd (omega arith)
hunks_from-enough (suc n) (suc m) at [] a b = refl
hunks_from-enough (suc n) (suc m) at (x ∷ bytes) a b =
    same_first (first_hunk (x ∷ bytes)) n m at (λ next h rest e. let count = first_hunk-length (x ∷ bytes) h rest e in hunks_from-enough n m next rest (omega (arith, count)) (omega (arith, count)))

-- the first hunk, and those of the rest
pub hunks_from-first : (n at : ℕ) (bytes : Bytes) (h : Hunk) (rest : Bytes) → first_hunk bytes ≡ Some (h, rest) → length bytes ≤ n
    → hunks_from n at bytes ≡ put_hunk h (hunks_from (length rest) (at + 12 + length h.bytes) rest)
hunks_from-first zero at bytes h rest e le = absurd (omega (arith, first_hunk-length bytes h rest e))
hunks_from-first (suc n) at bytes h rest e le =
    first_step n at bytes h rest e
    ∙ ap (λ (r : Result (List Hunk) ℕ). put_hunk h r) (hunks_from-enough n (length rest) (at + 12 + length h.bytes) rest (omega (arith, first_hunk-length bytes h rest e)) (omega arith))

-- no bytes are no hunks
pub hunks_from-nil : (n at : ℕ) → hunks_from n at [] ≡ Ok []
unfolding hunks_from
hunks_from-nil zero at = refl
hunks_from-nil (suc n) at = refl

-- bytes that begin with no hunk are cut
pub hunks_from-cut : (n at : ℕ) (bytes : Bytes) → first_hunk bytes ≡ None → 0 < length bytes → length bytes ≤ n → hunks_from n at bytes ≡ Err at
unfolding hunks_from
hunks_from-cut n at [] e some le = absurd (omega arith)
hunks_from-cut zero at (b ∷ bytes) e some le = absurd (omega arith)
hunks_from-cut (suc n) at (b ∷ bytes) e some le = rw e refl

-- the hunks that were written are read
pub hunks_from-delta_text : (n at : ℕ) (hs : List Hunk) → Each IsHunk hs → length (delta_text hs) ≤ n → hunks_from n at (delta_text hs) ≡ Ok hs
hunks_from-delta_text n at [] each le = hunks_from-nil n at
hunks_from-delta_text n at (h ∷ hs) each le =
    hunks_from-first n at (delta_text (h ∷ hs)) h (delta_text hs) (first_hunk-hunk_text h (delta_text hs) each.0) le
    ∙ ap (λ (r : Result (List Hunk) ℕ). put_hunk h r) (hunks_from-delta_text (length (delta_text hs)) (at + 12 + length h.bytes) hs each.1 (omega arith))

-- what `put_hunk` gives comes of hunks
pub put_hunk-ok : (h : Hunk) (r : Result (List Hunk) ℕ) (hs : List Hunk) → put_hunk h r ≡ Ok hs → (left : List Hunk) × (r ≡ Ok left) × (hs ≡ h ∷ left)
put_hunk-ok h (Ok left) hs e = (left, refl, cc)
put_hunk-ok h (Err place) hs e = absurd cc

put_first-ok : (at : ℕ) (o : Option (Hunk × Bytes)) (others : ℕ → Bytes → Result (List Hunk) ℕ) (hs : List Hunk) → put_first at o others ≡ Ok hs
    → (h : Hunk) × (rest : Bytes) × (left : List Hunk) × (o ≡ Some (h, rest)) × (others (at + 12 + length h.bytes) rest ≡ Ok left) × (hs ≡ h ∷ left)
put_first-ok at None others hs e = absurd cc
put_first-ok at (Some p) others hs e =
    let parts = put_hunk-ok p.0 (others (at + 12 + length (p.0).bytes) p.1) hs e in
    (p.0, p.1, parts.0, refl, parts.1, parts.2)

-- the bytes that were read are those of the hunks
pub hunks_from-spells : (n at : ℕ) (bytes : Bytes) (hs : List Hunk) → AreBytes bytes → length bytes ≤ n → hunks_from n at bytes ≡ Ok hs → (bytes ≡ delta_text hs) × Each IsHunk hs
unfolding hunks_from
hunks_from-spells zero at [] hs fits le e = let empty : [] ≡ hs = cc in subst (λ (xs : List Hunk). ([] ≡ delta_text xs) × Each IsHunk xs) empty (refl, tt)
hunks_from-spells zero at (b ∷ bytes) hs fits le e = absurd (omega arith)
hunks_from-spells (suc n) at [] hs fits le e = let empty : [] ≡ hs = cc in subst (λ (xs : List Hunk). ([] ≡ delta_text xs) × Each IsHunk xs) empty (refl, tt)
hunks_from-spells (suc n) at (b ∷ bytes) hs fits le e =
    let p = put_first-ok at (first_hunk (b ∷ bytes)) (hunks_from n) hs e in
    let first = first_hunk-spells (b ∷ bytes) p.0 p.1 fits p.3 in
    let others = hunks_from-spells n (at + 12 + length (p.0).bytes) p.1 p.2 first.2 (omega (arith, first_hunk-length (b ∷ bytes) p.0 p.1 p.3)) p.4 in
    subst (λ (xs : List Hunk). (b ∷ bytes ≡ delta_text xs) × Each IsHunk xs) (sym p.5) (first.0 ∙ ap (λ (t : Bytes). hunk_text p.0 ++ t) others.0, (first.1, others.1))

-- ---- hunks within the base

pub is_hunk_within-facts : (from size : ℕ) (h : Hunk) → is_hunk_within from size h ≡ true → (from ≤ h.start) × (h.start ≤ h.finish) × (h.finish ≤ size)
is_hunk_within-facts from size h e =
    let ends = and_parts (leb from h.start && leb h.start h.finish) (leb h.finish size) e in
    let starts = and_parts (leb from h.start) (leb h.start h.finish) ends.0 in
    (leb-true _ _ starts.0, leb-true _ _ starts.1, leb-true _ _ ends.1)

-- the first hunk is within the base, and the others as well
outside_none : (b : Bool) (place : ℕ) (others : Option ℕ) → cond b others (Some place) ≡ None → (b ≡ true) × (others ≡ None)
outside_none true place others e = (refl, e)
outside_none false place others e = absurd cc

pub AreWithin-first_outside : (at from size : ℕ) (hs : List Hunk) → first_outside at from size hs ≡ None → AreWithin from size hs
unfolding first_outside
AreWithin-first_outside at from size [] e = tt
AreWithin-first_outside at from size (h ∷ hs) e =
    let parts = outside_none (is_hunk_within from size h) at (first_outside (at + 12 + length h.bytes) h.finish size hs) e in
    let facts = is_hunk_within-facts from size h parts.0 in
    (facts.0, facts.1, facts.2, AreWithin-first_outside (at + 12 + length h.bytes) h.finish size hs parts.1)

pub first_outside-within : (at from size : ℕ) (hs : List Hunk) → AreWithin from size hs → first_outside at from size hs ≡ None
unfolding first_outside
first_outside-within at from size [] w = refl
first_outside-within at from size (h ∷ hs) w =
    rw (le-leb from h.start w.0, le-leb h.start h.finish w.1, le-leb h.finish size w.2) (first_outside-within (at + 12 + length h.bytes) h.finish size hs w.3)

-- ---- the reading of a delta

placed_hunks : (xs : List Hunk) (o : Option ℕ) (hs : List Hunk) → placed_reading xs o ≡ Hunks hs → (xs ≡ hs) × (o ≡ None)
placed_hunks xs None hs e = (cc, refl)
placed_hunks xs (Some place) hs e = absurd cc

judged_hunks : (size : ℕ) (r : Result (List Hunk) ℕ) (hs : List Hunk) → judged_reading size r ≡ Hunks hs → (r ≡ Ok hs) × (first_outside 0 0 size hs ≡ None)
judged_hunks size (Ok xs) hs e =
    let p = placed_hunks xs (first_outside 0 0 size xs) hs e in
    (ap (λ (ys : List Hunk). Ok ys) p.0, subst (λ (ys : List Hunk). first_outside 0 0 size ys ≡ None) p.0 p.1)
judged_hunks size (Err place) hs e = absurd cc

-- the hunks of a delta that is whole and within the base
pub delta_reading-hunks : (size : ℕ) (delta : Bytes) (hs : List Hunk) → delta_reading size delta ≡ Hunks hs → (hunks_of delta ≡ Ok hs) × AreWithin 0 size hs
unfolding delta_reading
delta_reading-hunks size delta hs e =
    let p = judged_hunks size (hunks_of delta) hs e in
    (p.0, AreWithin-first_outside 0 0 size hs p.1)

pub delta_reading-within : (size : ℕ) (delta : Bytes) (hs : List Hunk) → hunks_of delta ≡ Ok hs → first_outside 0 0 size hs ≡ None → delta_reading size delta ≡ Hunks hs
unfolding delta_reading
delta_reading-within size delta hs e w = rw (e, w) refl

pub delta_reading-outside : (size : ℕ) (delta : Bytes) (hs : List Hunk) (place : ℕ) → hunks_of delta ≡ Ok hs → first_outside 0 0 size hs ≡ Some place → delta_reading size delta ≡ Outside place
unfolding delta_reading
delta_reading-outside size delta hs place e w = rw (e, w) refl

pub delta_reading-cut : (size : ℕ) (delta : Bytes) (place : ℕ) → hunks_of delta ≡ Err place → delta_reading size delta ≡ Cut place
unfolding delta_reading
delta_reading-cut size delta place e = rw e refl

-- the hunks of a delta that turns a base into a text are those that are read
pub delta_reading-Patches : (base delta text : Bytes) (p : Patches base delta text) → delta_reading (length base) delta ≡ Hunks p.hunks
delta_reading-Patches base delta text p =
    let whole : hunks_of delta ≡ Ok p.hunks = subst (λ (d : Bytes). hunks_of d ≡ Ok p.hunks) (sym p.spells) (hunks_from-delta_text (length (delta_text p.hunks)) 0 p.hunks p.each (omega arith)) in
    delta_reading-within (length base) delta p.hunks whole (first_outside-within 0 0 (length base) p.hunks p.within)

-- a delta that is read as hunks turns the base into their text
pub Patches-delta_reading : (base delta : Bytes) (hs : List Hunk) → AreBytes delta → delta_reading (length base) delta ≡ Hunks hs → (p : Patches base delta (patched_text base hs)) × (p.hunks ≡ hs)
Patches-delta_reading base delta hs fits e =
    let read = delta_reading-hunks (length base) delta hs e in
    let spelled = hunks_from-spells (length delta) 0 delta hs fits (omega arith) read.0 in
    (record { hunks = hs; spells = spelled.0; each = spelled.1; within = read.1; result = refl }, refl)

-- a base and a delta give one text
pub Patches-unique : (base delta text other : Bytes) → Patches base delta text → Patches base delta other → text ≡ other
Patches-unique base delta text other p q =
    let same : p.hunks ≡ q.hunks = same_hunks p.hunks q.hunks (sym (delta_reading-Patches base delta text p) ∙ delta_reading-Patches base delta other q) in
    p.result ∙ ap (λ (hs : List Hunk). patched_text base hs) same ∙ sym q.result
  where
    same_hunks : (xs ys : List Hunk) → Hunks xs ≡ Hunks ys → xs ≡ ys
    same_hunks xs ys e = cc

-- ---- the size of a patched text

pub length-patched_from : (from : ℕ) (base : Bytes) (hs : List Hunk) → AreWithin from (length base) hs → length (patched_from from base hs) ≡ patched_size_from from (length base) hs
unfolding patched_from patched_size_from
length-patched_from from base [] w = length-drop from base
length-patched_from from base (h ∷ hs) w =
    let part = length-between base from h.start (omega (arith, w.1, w.2)) in
    let others = length-patched_from h.finish base hs w.3 in
    omega (arith, part, others, length-append (slice_range base from h.start ++ h.bytes) (patched_from h.finish base hs), length-append (slice_range base from h.start) h.bytes)

-- ---- the delta of one hunk over the whole base

Patches-whole_hunk : (base text : Bytes) → length base < 2 ^ 32 → length text < 2 ^ 32 → Patches base (hunk_text (record { start = 0; finish = length base; bytes = text })) text
unfolding patched_from
Patches-whole_hunk base text b t =
    let h : Hunk = record { start = 0; finish = length base; bytes = text } in
    record {
      hunks = h ∷ [];
      spells = sym (append-nil (hunk_text h));
      each = ((omega arith, b, t), tt);
      within = (omega arith, omega arith, omega arith, tt);
      result = sym (ap (λ (x : Bytes). text ++ x) (drop-length base) ∙ append-nil text);
    }

Patches-nil : (base text : Bytes) → length base ≡ 0 → length text ≡ 0 → Patches base [] text
unfolding patched_from
Patches-nil base text b t = record { hunks = []; spells = refl; each = tt; within = tt; result = nil_from_length text t ∙ sym (nil_from_length base b) }

Patches-choice : (base text : Bytes) (none : Bool) → none ≡ (length base == 0 && length text == 0) → length base < 2 ^ 32 → length text < 2 ^ 32
    → Patches base (cond none [] (hunk_text (record { start = 0; finish = length base; bytes = text }))) text
Patches-choice base text true e b t =
    let parts = and_parts (length base == 0) (length text == 0) (sym e) in
    Patches-nil base text (eqb-true _ _ parts.0) (eqb-true _ _ parts.1)
Patches-choice base text false e b t = Patches-whole_hunk base text b t

-- it turns any base of that length into the text
pub Patches-whole_delta : (base text : Bytes) → length base < 2 ^ 32 → length text < 2 ^ 32 → Patches base (whole_delta (length base) text) text
Patches-whole_delta base text b t = Patches-choice base text (length base == 0 && length text == 0) refl b t
