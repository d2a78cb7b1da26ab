-- Unescaping a text byte by byte.
use Rattle.std.proofs.Common.{◌≡◌, ◌<◌, ◌-◌, ◌==◌, false, true≢false, ℕ, [], ◌∷◌, ◌++◌, length, Some, None, refl, sym, ap, ◌∙◌, append_assoc, append-nil, length-append, arith}
use Rattle.std.proofs.lemmas.List.Concat.{flat_map-append}
use Rattle.text_model.specs.Text.{Bytes, IsBytes}
use Rattle.text_model.specs.Escape.{escaped_byte, escape, IsEscapeOf, IsBadEscapeAt}
use Rattle.text_model.specs.Unescape.{first_byte}
use Rattle.text_model.proofs.EachLemmas.{Each-push}
use Rattle.text_model.proofs.EscapeLemmas.{first_byte-takes, no_byte-from_none}

-- the text is an escape and then the rest, and what was escaped was appended
pub record Unescaped (text rest old new : Bytes) : Type 0 where
  pub raw : Bytes
  pub bytes : IsBytes raw
  pub whole : text ≡ escape raw ++ rest
  pub out : new ≡ old ++ raw

pub Unescaped-none : (text old : Bytes) → Unescaped text text old old
Unescaped-none text old = record { raw = []; bytes = tt; whole = refl; out = sym (append-nil old) }

-- a byte more
pub Unescaped-more : (text rest after old mid new : Bytes) (byte : ℕ) → Unescaped text rest old mid → Some (byte, after) ≡ first_byte rest → new ≡ mid ++ byte ∷ [] → Unescaped text after old new
Unescaped-more text rest after old mid new byte u read pushed =
    let taken = first_byte-takes rest byte after (sym read) in
    record {
      raw = u.raw ++ byte ∷ [];
      bytes = Each-push (λ b. b < 256) u.raw byte u.bytes taken.1;
      whole =
          u.whole ∙ ap (λ (t : Bytes). escape u.raw ++ t) taken.0 ∙ sym (append_assoc (escape u.raw) (escaped_byte byte) after)
          ∙ ap (λ (t : Bytes). t ++ after) (sym (flat_map-append escaped_byte u.raw (byte ∷ []) ∙ ap (λ (t : Bytes). escape u.raw ++ t) (append-nil (escaped_byte byte))));
      out = pushed ∙ ap (λ (t : Bytes). t ++ byte ∷ []) u.out ∙ append_assoc old u.raw (byte ∷ []);
    }

-- the rest begins with no escaped byte
pub Unescaped-bad : (text rest old new : Bytes) → Unescaped text rest old new → None ≡ first_byte rest → false ≡ (length rest == 0) → IsBadEscapeAt text (length text - length rest)
Unescaped-bad text rest old new u read more =
    record {
      before = u.raw;
      rest = rest;
      bytes = u.bytes;
      splits = u.whole;
      at = omega (arith, ap (λ (t : Bytes). length t) u.whole, length-append (escape u.raw) rest);
      more = λ e. true≢false (sym (more ∙ ap (λ (t : Bytes). length t == 0) e));
      bad = no_byte-from_none rest (sym read);
    }

-- nothing is left
pub Unescaped-all : (text old new : Bytes) → Unescaped text [] old new → (raw : Bytes) × IsEscapeOf text raw × (new ≡ old ++ raw)
Unescaped-all text old new u = (u.raw, (u.bytes, u.whole ∙ append-nil (escape u.raw)), u.out)
