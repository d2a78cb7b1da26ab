-- The value of a link's extra: three parts, which are read back.
use Rattle.std.proofs.Common.{◌≡◌, ◌≤◌, ◌<◌, ◌+◌, ◌^◌, ℕ, true, true≢false, List, [], ◌∷◌, ◌++◌, length, refl, sym, ap, ◌∙◌, arith, append_assoc, le-leb}
use Rattle.std.specs.Prelude.{◌&&◌, ◌==◌, nat_le, decimal}
use Rattle.std.specs.List.{slice_split, list_all}
use Rattle.std.proofs.lemmas.Bool.{and_parts}
use Rattle.text_model.specs.Cuts.{Lacks}
use Rattle.text_model.specs.Text.{Bytes, is_digit}
use Rattle.text_model.specs.Id.{Id, IsId, hex, is_lower_digit}
use Rattle.text_model.proofs.DecimalLemmas.{number_of-decimal, is_decimal-decimal, digits-is_decimal}
use Rattle.text_model.proofs.HexLemmas.{is_hex_id-hex}
use Rattle.text_model.proofs.TestLemmas.{differs}
use Rattle.pair_model.specs.Octopus.{link_value, is_link_value}

split-at : (front rest : Bytes) → Lacks 58 front → slice_split (λ b. b == 58) (front ++ 58 ∷ rest) ≡ front ∷ slice_split (λ b. b == 58) rest
split-at [] rest h = refl
split-at (x ∷ xs) rest h = rw (differs x 58 h.0, split-at xs rest h.1) refl

split-one : (part : Bytes) → Lacks 58 part → slice_split (λ b. b == 58) part ≡ part ∷ []
split-one [] h = refl
split-one (x ∷ xs) h = rw (differs x 58 h.0, split-one xs h.1) refl

lower-lacks : (text : Bytes) → list_all is_lower_digit text ≡ true → Lacks 58 text
lower-lacks [] h = tt
lower-lacks (b ∷ text) h =
    let parts = and_parts (is_lower_digit b) (list_all is_lower_digit text) h in
    (λ e. true≢false (sym parts.0 ∙ ap is_lower_digit e), lower-lacks text parts.1)

hex-lacks : (id : Id) → IsId id → Lacks 58 (hex id)
hex-lacks id is = lower-lacks (hex id) (and_parts (length (hex id) == 40) (list_all is_lower_digit (hex id)) (is_hex_id-hex id is)).1

digits-lack : (text : Bytes) → list_all is_digit text ≡ true → Lacks 58 text
digits-lack [] h = tt
digits-lack (b ∷ text) h =
    let parts = and_parts (is_digit b) (list_all is_digit text) h in
    (λ e. true≢false (sym parts.0 ∙ ap is_digit e), digits-lack text parts.1)

decimal-lacks : (n : ℕ) → n < 2 ^ 64 → Lacks 58 (decimal n)
decimal-lacks n h = digits-lack (decimal n) (digits-is_decimal (decimal n) (is_decimal-decimal n h)).digits

pub value-parts : (id : Id) → IsId id → (k n : ℕ) → k < 2 ^ 64 → n < 2 ^ 64 → slice_split (λ b. b == 58) (link_value id k n) ≡ hex id ∷ decimal k ∷ decimal n ∷ []
value-parts id is k n hk hn =
    ap (slice_split (λ b. b == 58)) (append_assoc (hex id) (58 ∷ decimal k) (58 ∷ decimal n))
    ∙ split-at (hex id) (decimal k ++ 58 ∷ decimal n) (hex-lacks id is)
    ∙ ap (λ (l : List Bytes). hex id ∷ l) (split-at (decimal k) (decimal n) (decimal-lacks k hk) ∙ ap (λ (l : List Bytes). decimal k ∷ l) (split-one (decimal n) (decimal-lacks n hn)))

counts-are : (k n : ℕ) → n ≤ 64 → 1 ≤ k → k + 2 ≤ n → (nat_le 3 n && nat_le n 64 && nat_le 1 k && nat_le (k + 2) n) ≡ true
counts-are k n most low high = rw (le-leb 3 n (omega (arith, low, high)), le-leb n 64 most, le-leb 1 k low, le-leb (k + 2) n high) refl

-- the value of link k of n is one of a link
pub value-right : (id : Id) → IsId id → (k n : ℕ) → n ≤ 64 → 1 ≤ k → k + 2 ≤ n → is_link_value (hex id ∷ decimal k ∷ decimal n ∷ []) ≡ true
value-right id is k n most low high =
    let hk : k < 2 ^ 64 = omega arith in
    let hn : n < 2 ^ 64 = omega arith in
    rw (is_hex_id-hex id is, is_decimal-decimal k hk, is_decimal-decimal n hn, number_of-decimal k hk, number_of-decimal n hn) (counts-are k n most low high)
