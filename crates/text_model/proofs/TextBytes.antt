-- Texts that are made of bytes: words, lines, escapes and the digits of ids.
use Rattle.std.proofs.Common.{◌≡◌, ◌<◌, ◌≤◌, ◌==◌, ℕ, Bool, true, false, List, [], ◌∷◌, length, refl, arith, leb-true}
use Rattle.std.specs.Prelude.{nat_le, ◌&&◌}
use Rattle.std.specs.List.{flat_map, list_all}
use Rattle.std.proofs.lemmas.Bool.{and_parts}
use Rattle.text_model.specs.Lists.{Each}
use Rattle.text_model.specs.Text.{Bytes, IsBytes, line, lf, spaced}
use Rattle.text_model.specs.Id.{Id, IsId, hex, is_lower_digit}
use Rattle.text_model.specs.Escape.{escape}
use Rattle.text_model.proofs.ByteLemmas.{IsBytes-append}
use Rattle.text_model.proofs.EachLemmas.{Each-weaker}
use Rattle.text_model.proofs.EscapeLemmas.{escape-printable}
use Rattle.text_model.proofs.HexLemmas.{is_hex_id-hex}

-- a text of small bytes
pub small-bytes : (text : Bytes) → list_all (λ b. nat_le b 255) text ≡ true → IsBytes text
small-bytes [] h = tt
small-bytes (b ∷ text) h =
    let parts = and_parts (nat_le b 255) (list_all (λ b. nat_le b 255) text) h in
    (omega (arith, leb-true b 255 parts.0), small-bytes text parts.1)

pub line-bytes : (text : Bytes) → IsBytes text → IsBytes (line text)
line-bytes text h = IsBytes-append text (lf ∷ []) h (omega arith, tt)

pub spaced-bytes : (words : List Bytes) → Each IsBytes words → IsBytes (spaced words)
spaced-bytes [] h = tt
spaced-bytes (word ∷ words) h = IsBytes-append word (flat_map (λ w. 32 ∷ w) words) h.0 (more words h.1)
  where
    more : (ws : List Bytes) → Each IsBytes ws → IsBytes (flat_map (λ w. 32 ∷ w) ws)
    more [] k = tt
    more (w ∷ ws) k = (omega arith, IsBytes-append w (flat_map (λ v. 32 ∷ v) ws) k.0 (more ws k.1))

pub escape-bytes : (raw : Bytes) → IsBytes raw → IsBytes (escape raw)
escape-bytes raw h = Each-weaker (λ b. (33 ≤ b) × (b ≤ 126)) (λ b. b < 256) (λ b k. omega (arith, k.1)) (escape raw) (escape-printable raw h)

-- ---- the digits of an id

digit-small : (b : ℕ) → is_lower_digit b ≡ true → b < 256
digit-small b h = by (nat_le 48 b && nat_le b 57) refl
  where
    by : (t : Bool) → (nat_le 48 b && nat_le b 57) ≡ t → b < 256
    by true e = omega (arith, leb-true b 57 (and_parts (nat_le 48 b) (nat_le b 57) e).1)
    by false e =
        let k : (nat_le 97 b && nat_le b 102) ≡ true = rw e at h in
        omega (arith, leb-true b 102 (and_parts (nat_le 97 b) (nat_le b 102) k).1)

digits-bytes : (text : Bytes) → list_all is_lower_digit text ≡ true → IsBytes text
digits-bytes [] h = tt
digits-bytes (b ∷ text) h =
    let parts = and_parts (is_lower_digit b) (list_all is_lower_digit text) h in
    (digit-small b parts.0, digits-bytes text parts.1)

pub hex-bytes : (id : Id) → IsId id → IsBytes (hex id)
hex-bytes id h = digits-bytes (hex id) (and_parts (length (hex id) == 40) (list_all is_lower_digit (hex id)) (is_hex_id-hex id h)).1
