-- Going over the hunks of a delta, one after the other.
use Rattle.std.proofs.Common.{◌≡◌, ℕ, ◌+◌, ◌-◌, ◌<◌, ◌≤◌, true, false, List, [], ◌∷◌, length, Some, None, Result, Ok, Err, refl, sym, ap, ◌∙◌, arith}
use Rattle.text_model.specs.Text.{Bytes}
use Rattle.hg_model.specs.Delta.{Hunk, Outside, is_hunk_within, first_hunk, put_hunk, hunks_from, hunks_of, first_outside, delta_reading, patched_size_from, patched_size}
use Rattle.hg_model.proofs.HunkLemmas.{first_hunk-length}
use Rattle.hg_model.proofs.DeltaLemmas.{hunks_from-first, hunks_from-nil, hunks_from-cut, put_hunk-ok, is_hunk_within-facts, delta_reading-within, delta_reading-outside}
use Rattle.hg_hunk.specs.Faults.{HasPatchedSize}

-- ---- whether the hunks are whole

-- what the rest of a delta says of the whole
pub record Shapes (delta rest : Bytes) : Type 0 where
  pub at : ℕ
  pub place : at + length rest ≡ length delta
  pub whole : (hs : List Hunk) → hunks_from (length rest) at rest ≡ Ok hs → (all : List Hunk) × (hunks_of delta ≡ Ok all)
  pub cut : (bad : ℕ) → hunks_from (length rest) at rest ≡ Err bad → hunks_of delta ≡ Err bad

pub shapes_start : (delta : Bytes) → Shapes delta delta
shapes_start delta = record { at = 0; place = omega arith; whole = λ hs e. (hs, e); cut = λ bad e. e }

pub shapes_on : (delta rest : Bytes) (h : Hunk) (after : Bytes) → Shapes delta rest → Some (h, after) ≡ first_hunk rest → Shapes delta after
shapes_on delta rest h after s e =
    let first = hunks_from-first (length rest) s.at rest h after (sym e) (omega arith) in
    record {
      at = s.at + 12 + length h.bytes;
      place = omega (arith, s.place, first_hunk-length rest h after (sym e));
      whole = λ hs r. s.whole (h ∷ hs) (first ∙ ap (λ (x : Result (List Hunk) ℕ). put_hunk h x) r);
      cut = λ bad r. s.cut bad (first ∙ ap (λ (x : Result (List Hunk) ℕ). put_hunk h x) r);
    }

pub shapes_whole : (delta rest : Bytes) → Shapes delta rest → length rest ≡ 0 → (all : List Hunk) × (hunks_of delta ≡ Ok all)
shapes_whole delta [] s e = s.whole [] (hunks_from-nil 0 s.at)
shapes_whole delta (b ∷ rest) s e = absurd (omega arith)

pub shapes_cut : (delta rest : Bytes) → Shapes delta rest → None ≡ first_hunk rest → 0 < length rest → hunks_of delta ≡ Err (length delta - length rest)
shapes_cut delta rest s e some =
    let bad = s.cut s.at (hunks_from-cut (length rest) s.at rest (sym e) some (omega arith)) in
    let place : s.at ≡ length delta - length rest = omega (arith, s.place) in
    bad ∙ ap (λ (k : ℕ). Err k) place

-- ---- the hunks of a delta of whole hunks

-- the rest of the bytes reads as these hunks
pub record Left (rest : Bytes) (at : ℕ) (h : Hunk) (after : Bytes) (left : List Hunk) : Type 0 where
  pub others : List Hunk
  pub are : left ≡ h ∷ others
  pub read : hunks_from (length after) (at + 12 + length h.bytes) after ≡ Ok others

pub left_after : (rest : Bytes) (at : ℕ) (h : Hunk) (after : Bytes) (left : List Hunk) → hunks_from (length rest) at rest ≡ Ok left → Some (h, after) ≡ first_hunk rest → Left rest at h after left
left_after rest at h after left r e =
    let parts = put_hunk-ok h (hunks_from (length after) (at + 12 + length h.bytes) after) left (sym (hunks_from-first (length rest) at rest h after (sym e) (omega arith)) ∙ r) in
    record { others = parts.0; are = parts.2; read = parts.1 }

-- whole hunks end where no hunk begins
pub left_none : (rest : Bytes) (at : ℕ) (left : List Hunk) → hunks_from (length rest) at rest ≡ Ok left → None ≡ first_hunk rest → left ≡ []
left_none [] at left r e = let same : Ok [] ≡ Ok left = sym (hunks_from-nil 0 at) ∙ r in cc
left_none (b ∷ rest) at left r e = let same : Err at ≡ Ok left = sym (hunks_from-cut (length (b ∷ rest)) at (b ∷ rest) (sym e) (omega arith) (omega arith)) ∙ r in absurd cc

-- how far the hunks are judged and counted
pub record Walk (size : ℕ) (delta rest : Bytes) (from kept inserted : ℕ) : Type 0 where
  pub all : List Hunk
  pub left : List Hunk
  pub at : ℕ
  pub whole : hunks_of delta ≡ Ok all
  pub place : at + length rest ≡ length delta
  pub read : hunks_from (length rest) at rest ≡ Ok left
  pub outside : first_outside 0 0 size all ≡ first_outside at from size left
  pub count : patched_size size all ≡ kept + inserted + patched_size_from from size left
  pub within : from ≤ size
  pub kept_bound : kept ≤ from
  pub inserted_bound : inserted + length rest ≤ length delta

pub walk_start : (size : ℕ) (delta : Bytes) (all : List Hunk) → hunks_of delta ≡ Ok all → Walk size delta delta 0 0 0
walk_start size delta all e = record { all = all; left = all; at = 0; whole = e; place = omega arith; read = e; outside = refl; count = omega arith; within = omega arith; kept_bound = omega arith; inserted_bound = omega arith }

-- a hunk that is within, and the walk behind it
pub record Turn (size : ℕ) (delta rest : Bytes) (from kept inserted : ℕ) (h : Hunk) (after : Bytes) : Type 0 where
  pub starts : from ≤ h.start
  pub ordered : h.start ≤ h.finish
  pub ends : h.finish ≤ size
  pub walk : Walk size delta after h.finish (kept + (h.start - from)) (inserted + length h.bytes)

pub turn : (size : ℕ) (delta rest : Bytes) (from kept inserted : ℕ) (h : Hunk) (after : Bytes)
    → Walk size delta rest from kept inserted → Some (h, after) ≡ first_hunk rest → is_hunk_within from size h ≡ true → Turn size delta rest from kept inserted h after
unfolding first_outside patched_size_from
turn size delta rest from kept inserted h after w e t =
    let l = left_after rest w.at h after w.left w.read e in
    let facts = is_hunk_within-facts from size h t in
    let bytes = first_hunk-length rest h after (sym e) in
    let outside : first_outside w.at from size w.left ≡ first_outside (w.at + 12 + length h.bytes) h.finish size l.others = ap (λ (hs : List Hunk). first_outside w.at from size hs) l.are ∙ rw t refl in
    let count : patched_size_from from size w.left ≡ (h.start - from) + length h.bytes + patched_size_from h.finish size l.others = ap (λ (hs : List Hunk). patched_size_from from size hs) l.are in
    record {
      starts = facts.0;
      ordered = facts.1;
      ends = facts.2;
      walk = record {
        all = w.all;
        left = l.others;
        at = w.at + 12 + length h.bytes;
        whole = w.whole;
        place = omega (arith, w.place, bytes);
        read = l.read;
        outside = w.outside ∙ outside;
        count = omega (arith, w.count, count);
        within = facts.2;
        kept_bound = omega (arith, w.kept_bound, facts.0, facts.1);
        inserted_bound = omega (arith, w.inserted_bound, bytes);
      };
    }

-- the first hunk that is not within
pub walk_outside : (size : ℕ) (delta rest : Bytes) (from kept inserted : ℕ) (h : Hunk) (after : Bytes)
    → Walk size delta rest from kept inserted → Some (h, after) ≡ first_hunk rest → is_hunk_within from size h ≡ false → delta_reading size delta ≡ Outside (length delta - length rest)
unfolding first_outside
walk_outside size delta rest from kept inserted h after w e t =
    let l = left_after rest w.at h after w.left w.read e in
    let bad : first_outside w.at from size w.left ≡ Some w.at = ap (λ (hs : List Hunk). first_outside w.at from size hs) l.are ∙ rw t refl in
    let place : w.at ≡ length delta - length rest = omega (arith, w.place) in
    delta_reading-outside size delta w.all w.at w.whole (w.outside ∙ bad) ∙ ap (λ (k : ℕ). Outside k) place

-- the end of the delta
pub walk_end : (size : ℕ) (delta rest : Bytes) (from kept inserted : ℕ) → Walk size delta rest from kept inserted → None ≡ first_hunk rest → HasPatchedSize size delta (kept + (size - from) + inserted)
unfolding first_outside patched_size_from
walk_end size delta rest from kept inserted w e =
    let none = left_none rest w.at w.left w.read e in
    let outside : first_outside w.at from size w.left ≡ None = ap (λ (hs : List Hunk). first_outside w.at from size hs) none in
    let count : patched_size_from from size w.left ≡ size - from = ap (λ (hs : List Hunk). patched_size_from from size hs) none in
    (w.all, delta_reading-within size delta w.all w.whole (w.outside ∙ outside), omega (arith, w.count, count))
