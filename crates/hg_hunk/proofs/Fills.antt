-- Writing a patched text, one hunk after the other.
use Rattle.std.proofs.Common.{◌≡◌, ℕ, ◌+◌, ◌-◌, ◌<◌, ◌≤◌, List, [], ◌∷◌, ◌++◌, length, drop, Some, None, Ok, refl, sym, ap, subst, ◌∙◌, append_assoc, arith}
use Rattle.std.specs.Prelude.{slice_range}
use Rattle.std.proofs.lemmas.List.{length-append}
use Rattle.std.proofs.lemmas.List.Edits.{length-between}
use Rattle.text_model.specs.Text.{Bytes}
use Rattle.hg_model.specs.Delta.{Hunk, Hunks, AreWithin, first_hunk, hunks_from, delta_reading, patched_from, patched_text, patched_size_from, patched_size}
use Rattle.hg_model.proofs.HunkLemmas.{first_hunk-length}
use Rattle.hg_model.proofs.DeltaLemmas.{delta_reading-hunks, length-patched_from}
use Rattle.hg_hunk.specs.Faults.{HasPatchedSize, HasPatchedText}
use Rattle.hg_hunk.proofs.Walks.{left_after, left_none}

-- how far the text is written: what is left of the delta changes the base from this place on
pub record Fills (base delta rest : Bytes) (from : ℕ) (out : Bytes) (room : ℕ) : Type 0 where
  pub all : List Hunk
  pub left : List Hunk
  pub at : ℕ
  pub reading : delta_reading (length base) delta ≡ Hunks all
  pub read : hunks_from (length rest) at rest ≡ Ok left
  pub order : AreWithin from (length base) left
  pub within : from ≤ length base
  pub done : out ++ patched_from from base left ≡ patched_text base all
  pub fits : length out + patched_size_from from (length base) left ≤ room

pub fills_start : (base delta : Bytes) (n room : ℕ) → HasPatchedSize (length base) delta n → n ≤ room → Fills base delta delta 0 [] room
fills_start base delta n room h fits =
    let hunks = delta_reading-hunks (length base) delta h.0 h.1 in
    record { all = h.0; left = h.0; at = 0; reading = h.1; read = hunks.0; order = hunks.1; within = omega arith; done = refl; fits = omega (arith, fits, h.2) }

-- one hunk further
pub record FillTurn (base delta rest : Bytes) (from : ℕ) (out : Bytes) (room : ℕ) (h : Hunk) (after : Bytes) : Type 0 where
  pub starts : from ≤ h.start
  pub ordered : h.start ≤ h.finish
  pub ends : h.finish ≤ length base
  pub shorter : length after < length rest
  pub piece : length (slice_range base from h.start) ≡ h.start - from
  pub first : length out + (h.start - from) ≤ room
  pub second : length (out ++ slice_range base from h.start) + length h.bytes ≤ room
  pub fills : Fills base delta after h.finish ((out ++ slice_range base from h.start) ++ h.bytes) room

pub fill_turn : (base delta rest : Bytes) (from : ℕ) (out : Bytes) (room : ℕ) (h : Hunk) (after : Bytes) → Fills base delta rest from out room → Some (h, after) ≡ first_hunk rest → FillTurn base delta rest from out room h after
unfolding patched_from patched_size_from
fill_turn base delta rest from out room h after f e =
    let l = left_after rest f.at h after f.left f.read e in
    let order : AreWithin from (length base) (h ∷ l.others) = subst (λ (hs : List Hunk). AreWithin from (length base) hs) l.are f.order in
    let done : out ++ (slice_range base from h.start ++ h.bytes ++ patched_from h.finish base l.others) ≡ patched_text base f.all = subst (λ (hs : List Hunk). out ++ patched_from from base hs ≡ patched_text base f.all) l.are f.done in
    let fits : length out + ((h.start - from) + length h.bytes + patched_size_from h.finish (length base) l.others) ≤ room = subst (λ (hs : List Hunk). length out + patched_size_from from (length base) hs ≤ room) l.are f.fits in
    let piece : length (slice_range base from h.start) ≡ h.start - from = length-between base from h.start (omega (arith, order.1, order.2)) in
    let count : length (out ++ slice_range base from h.start) ≡ length out + (h.start - from) = omega (arith, length-append out (slice_range base from h.start), piece) in
    record {
      starts = order.0;
      ordered = order.1;
      ends = order.2;
      shorter = omega (arith, first_hunk-length rest h after (sym e));
      piece = piece;
      first = omega (arith, fits);
      second = omega (arith, fits, count);
      fills = record {
        all = f.all;
        left = l.others;
        at = f.at + 12 + length h.bytes;
        reading = f.reading;
        read = l.read;
        order = order.3;
        within = order.2;
        done = simp append_assoc (simp append_assoc at done);
        fits = omega (arith, fits, count, length-append (out ++ slice_range base from h.start) h.bytes);
      };
    }

-- what is left at the end
pub record FillEnd (base delta : Bytes) (from : ℕ) (out : Bytes) (room : ℕ) : Type 0 where
  pub room_left : length out + (length base - from) ≤ room
  pub text : HasPatchedText base delta (out ++ drop from base)

pub fill_end : (base delta rest : Bytes) (from : ℕ) (out : Bytes) (room : ℕ) → Fills base delta rest from out room → None ≡ first_hunk rest → FillEnd base delta from out room
unfolding patched_from patched_size_from
fill_end base delta rest from out room f e =
    let none = left_none rest f.at f.left f.read e in
    record {
      room_left = subst (λ (hs : List Hunk). length out + patched_size_from from (length base) hs ≤ room) none f.fits;
      text = (f.all, f.reading, subst (λ (hs : List Hunk). out ++ patched_from from base hs ≡ patched_text base f.all) none f.done);
    }

-- more room
pub more_room : (base delta rest : Bytes) (from : ℕ) (out : Bytes) (room more : ℕ) → room ≤ more → Fills base delta rest from out room → Fills base delta rest from out more
more_room base delta rest from out room more le f =
    record { all = f.all; left = f.left; at = f.at; reading = f.reading; read = f.read; order = f.order; within = f.within; done = f.done; fits = omega (arith, f.fits) }

-- a patched text has the size that was counted
pub length-patched : (base delta text : Bytes) (n : ℕ) → HasPatchedSize (length base) delta n → HasPatchedText base delta text → length text ≡ n
length-patched base delta text n s t =
    let read = delta_reading-hunks (length base) delta t.0 t.1 in
    let same = same_hunks t.0 s.0 (sym t.1 ∙ s.1) in
    ap (λ (x : Bytes). length x) t.2 ∙ length-patched_from 0 base t.0 read.1 ∙ ap (λ (hs : List Hunk). patched_size (length base) hs) same ∙ sym s.2
  where
    same_hunks : (xs ys : List Hunk) → Hunks xs ≡ Hunks ys → xs ≡ ys
    same_hunks xs ys e = cc
