-- How the first byte of an escape is read.
use Rattle.std.specs.Prelude.{ℕ, ◌+◌, ◌-◌, ◌*◌, ◌&&◌, ◌==◌, nat_le, if◌then◌else◌, [], ◌∷◌, Option, Some, None, option_map}
use Rattle.std.specs.Option.{option_and_then}
use Rattle.text_model.specs.Text.{Bytes}
use Rattle.text_model.specs.Escape.{is_plain}

-- the value of an upper case hex digit
abbrev pub digit_value : ℕ → Option ℕ
digit_value digit =
    if nat_le 48 digit && nat_le digit 57 then Some (digit - 48)
    else if nat_le 65 digit && nat_le digit 70 then Some (digit - 65 + 10)
    else None

-- the byte that two digits name, where it does not stand for itself
abbrev pub hex_byte : ℕ → ℕ → Option ℕ
hex_byte high low =
    option_and_then (λ h. option_and_then (λ l. if is_plain (h * 16 + l) then None else Some (h * 16 + l)) (digit_value low)) (digit_value high)

-- the byte that the digits behind a `%` name, and what follows them
abbrev pub after_percent : Bytes → Option (ℕ × Bytes)
after_percent [] = None
after_percent (high ∷ []) = None
after_percent (high ∷ low ∷ rest) = option_map (λ byte. (byte, rest)) (hex_byte high low)

-- the byte that an escape begins with, and the rest of the escape
abbrev pub first_byte : Bytes → Option (ℕ × Bytes)
first_byte [] = None
first_byte (byte ∷ rest) = if is_plain byte then Some (byte, rest) else if byte == 37 then after_percent rest else None
