-- A delta of one hunk that replaces its whole base.
use Rattle.std.proofs.Common.{◌≡◌, ℕ, ◌≤◌, List, [], ◌∷◌, ◌++◌, length, drop, Option, Some, None, Result, Ok, Err, refl, sym, ap, subst, ◌∙◌, arith, length-drop, append-nil}
use Rattle.std.proofs.lemmas.List.{take_all, drop_all}
use Rattle.text_model.specs.Text.{Bytes}
use Rattle.hg_model.specs.Delta.{Hunk, Hunks, Patches, AreWithin, first_hunk, put_hunk, hunks_from, hunks_of, patched_from, patched_text}
use Rattle.hg_model.proofs.HunkLemmas.{AreBytes, first_hunk-reads, first_hunk-length}
use Rattle.hg_model.proofs.DeltaLemmas.{hunks_from-first, hunks_from-nil, hunks_from-cut, first_outside-within, delta_reading-within, delta_reading-hunks, Patches-delta_reading}
use Rattle.hg_hunk.specs.Faults.{HasPatchedText}
use Rattle.hg_hunk.specs.Wholes.{whole_of, IsWhole, IsAlone}
use Rattle.hg_hunk.proofs.Walks.{left_after, left_none}

-- ---- the test

-- a hunk with nothing behind it has all bytes behind its numbers
last_bytes : (delta : Bytes) (h : Hunk) → first_hunk delta ≡ Some (h, []) → h.bytes ≡ drop 12 delta
last_bytes delta h e =
    let r = first_hunk-reads delta h [] e in
    r.part ∙ take_all _ (drop 12 delta) (omega (arith, r.size, r.long, first_hunk-length delta h [] e, length-drop 12 delta))

pub whole_is : (size : ℕ) (delta : Bytes) (h : Hunk) (rest : Bytes) → Some (h, rest) ≡ first_hunk delta → IsAlone (length rest) size h.start h.finish → IsWhole size delta
whole_is size delta h (b ∷ rest) e alone = absurd (omega (arith, alone.none))
whole_is size delta h [] e alone =
    let start = alone.first in
    let finish = alone.last in
    let bytes = last_bytes delta h (sym e) in
    let same : h ≡ whole_of size delta = λ i. record { start = start i; finish = finish i; bytes = bytes i } in
    let read : hunks_of delta ≡ Ok (h ∷ []) =
    hunks_from-first (length delta) 0 delta h [] (sym e) (omega arith) ∙ ap (λ (x : Result (List Hunk) ℕ). put_hunk h x) (hunks_from-nil _ _) in
    let within : AreWithin 0 size (h ∷ []) = (omega arith, omega (arith, start), omega (arith, finish), tt) in
    delta_reading-within size delta (h ∷ []) read (first_outside-within 0 0 size (h ∷ []) within) ∙ ap (λ (x : Hunk). Hunks (x ∷ [])) same

firsts : {a b : Hunk} {xs ys : List Hunk} → a ∷ xs ≡ b ∷ ys → (a ≡ b) × (xs ≡ ys)
firsts e = (cc, cc)

-- bytes that read as no hunk are none
no_bytes : (rest : Bytes) (at : ℕ) → hunks_from (length rest) at rest ≡ Ok [] → length rest ≡ 0
unfolding hunks_from
no_bytes [] at e = refl
no_bytes (b ∷ rest) at e = none (first_hunk (b ∷ rest)) refl
  where
    none : (o : Option (Hunk × Bytes)) → first_hunk (b ∷ rest) ≡ o → length (b ∷ rest) ≡ 0
    none None f = let bad : Err at ≡ Ok [] = sym (hunks_from-cut (length (b ∷ rest)) at (b ∷ rest) f (omega arith) (omega arith)) ∙ e in absurd cc
    none (Some p) f =
        let l = left_after (b ∷ rest) at p.0 p.1 [] e (sym f) in
        let bad : [] ≡ p.0 ∷ l.others = l.are in absurd cc

pub is_read : (size : ℕ) (delta : Bytes) (h : Hunk) (rest : Bytes) → Some (h, rest) ≡ first_hunk delta → IsWhole size delta → IsAlone (length rest) size h.start h.finish
is_read size delta h rest e w =
    let read = delta_reading-hunks size delta (whole_of size delta ∷ []) w in
    let l = left_after delta 0 h rest (whole_of size delta ∷ []) read.0 e in
    let same = firsts l.are in
    record {
      none = no_bytes rest _ (l.read ∙ ap (λ (hs : List Hunk). Ok hs) (sym same.1));
      first = ap (λ (x : Hunk). x.start) (sym same.0);
      last = ap (λ (x : Hunk). x.finish) (sym same.0);
    }

pub not_cut : (size : ℕ) (delta : Bytes) → None ≡ first_hunk delta → ¬ (IsWhole size delta)
not_cut size delta e w =
    let read = delta_reading-hunks size delta (whole_of size delta ∷ []) w in
    let bad : whole_of size delta ∷ [] ≡ [] = left_none delta 0 (whole_of size delta ∷ []) read.0 e in
    absurd cc

pub whole_long : (size : ℕ) (delta : Bytes) (h : Hunk) (rest : Bytes) → Some (h, rest) ≡ first_hunk delta → 12 ≤ length delta
whole_long size delta h rest e = omega (arith, first_hunk-length delta h rest (sym e))

-- ---- the text

pub whole_text : (base delta : Bytes) → IsWhole (length base) delta → HasPatchedText base delta (drop 12 delta)
unfolding patched_from
whole_text base delta w = (whole_of (length base) delta ∷ [], w, same)
  where
    nothing : drop (length base) base ≡ []
    nothing = drop_all (length base) base (omega arith)

    same : drop 12 delta ≡ patched_text base (whole_of (length base) delta ∷ [])
    same = sym (append-nil (drop 12 delta)) ∙ ap (λ (x : Bytes). drop 12 delta ++ x) (sym nothing)

pub whole_patches : (base delta : Bytes) → AreBytes delta → IsWhole (length base) delta → Patches base delta (drop 12 delta)
whole_patches base delta bytes w =
    let t = whole_text base delta w in
    subst (λ (x : Bytes). Patches base delta x) (sym t.2) (Patches-delta_reading base delta t.0 bytes t.1).0
