-- How users, dates and messages of one side become those of the other. These rules are this project's own.
use Rattle.std.specs.Prelude.{ℕ, ◌+◌, ◌-◌, ◌*◌, ◌/◌, ◌%◌, not, ◌&&◌, ◌||◌, ◌==◌, nat_lt, if◌then◌else◌, [], ◌∷◌, ◌++◌, length, take, filter, slice_index, Option, Some, None, option_map, unwrap_or, codes, ℤ, pos, negsuc, neg_ℤ, unsigned_abs, bytes_eq}
use Rattle.std.specs.List.{ends_with}
use Rattle.std.specs.Option.{option_and_then}
use Rattle.text_model.specs.Text.{Bytes, lf, sp, has_byte}
use Rattle.text_model.specs.Cuts.{cut_of}
use Rattle.git_model.specs.Commit.{Ident, ident_text, ident_of, is_zone, has_angle}

-- ---- the line of a user and a date

-- a name and an email
pub record Address : Type 0 where
  pub name : Bytes
  pub email : Bytes

-- the name in `N `, with N nonempty and without brackets
abbrev pub name_in : Bytes → Option Bytes
name_in text = if ends_with ◌==◌ text (sp ∷ []) && nat_lt 1 (length text) && not (has_angle text) then Some (take (length text - 1) text) else None

-- the email in `E>`, with E without brackets
abbrev pub email_in : Bytes → Option Bytes
email_in text = if ends_with ◌==◌ text (62 ∷ []) && not (has_angle (take (length text - 1) text)) then Some (take (length text - 1) text) else None

-- the name and the email of a user `N <E>`
unfoldable pub split_user : Bytes → Option Address
split_user user = option_and_then (λ parts. option_and_then (λ name. option_map (λ email. record { name = name; email = email }) (email_in parts.1)) (name_in parts.0)) (cut_of 60 user)

abbrev pub no_email : Bytes
no_email = codes "none@none"

abbrev pub unknown_user : Bytes
unknown_user = codes "unknown"

abbrev pub or_unknown : Bytes → Bytes
or_unknown user = if length user == 0 then unknown_user else user

-- a user without brackets is the name, and the email too where it has an `@`
abbrev pub plain_address : Bytes → Address
plain_address user = record { name = user; email = if has_byte 64 user then user else no_email }

abbrev pub without_angles : Bytes → Bytes
without_angles user = filter (λ b. not (b == 60 || b == 62)) user

-- of another user the brackets are removed, where it has some
abbrev pub other_address : Bytes → Address
other_address user = if has_angle user then plain_address (or_unknown (without_angles user)) else plain_address user

abbrev pub address_of : Bytes → Address
address_of user = unwrap_or (split_user user) (other_address user)

-- the time, or 0 where it is negative
abbrev pub seconds_of : ℤ → ℕ
seconds_of (pos n) = n
seconds_of (negsuc n) = 0

abbrev pub two_digits : ℕ → Bytes
two_digits n = (48 + n / 10) ∷ (48 + n % 10) ∷ []

-- of seconds west of UTC: `-` where it is west, else `+`
abbrev pub zone_sign : ℤ → ℕ
zone_sign (pos n) = if n == 0 then 43 else 45
zone_sign (negsuc n) = 43

-- hours and minutes, where the seconds are whole minutes below 100 hours
abbrev pub zone_of : ℤ → Bytes
zone_of tz =
    let size = unsigned_abs tz in
    if size % 60 == 0 && nat_lt size 360000 then zone_sign tz ∷ two_digits (size / 3600) ++ two_digits (size / 60 % 60) else codes "+0000"

abbrev pub line_of_address : Address → ℤ → ℤ → Bytes
line_of_address address time tz = ident_text (record { name = address.name; email = address.email; seconds = seconds_of time; zone = zone_of tz })

-- the author's line of a user and a date
unfoldable pub line_of_user : Bytes → ℤ → ℤ → Bytes
line_of_user user time tz = line_of_address (address_of user) time tz

-- ---- the user and the date of a line

abbrev pub digit_at : Bytes → ℕ → ℕ
digit_at zone i = slice_index zone i - 48

-- the seconds of two digits of hours and two of minutes, behind a sign
abbrev pub zone_size : Bytes → ℕ
zone_size zone = (digit_at zone 1 * 10 + digit_at zone 2) * 3600 + (digit_at zone 3 * 10 + digit_at zone 4) * 60

-- the seconds west of UTC of a sign and four digits
abbrev pub tz_of_zone : Bytes → Option ℤ
tz_of_zone zone = if is_zone zone then Some (if slice_index zone 0 == 45 then pos (zone_size zone) else neg_ℤ (pos (zone_size zone))) else None

pub record UserDate : Type 0 where
  pub user : Bytes
  pub time : ℤ
  pub tz : ℤ

-- the user of a name and an email: the first of four forms that fits
abbrev pub user_of_ident : Bytes → Bytes → Bytes
user_of_ident name email =
    if bytes_eq email no_email && not (length name == 0) && not (has_byte 64 name) then name
    else if bytes_eq email name && has_byte 64 name then name
    else if length name == 0 then 60 ∷ email ++ 62 ∷ []
    else name ++ codes " <" ++ email ++ 62 ∷ []

-- of a line with an ident; one that has none is itself the user
abbrev pub user_date_of : Option Ident → Bytes → UserDate
user_date_of (Some i) text = record { user = user_of_ident i.name i.email; time = pos i.seconds; tz = unwrap_or (tz_of_zone i.zone) (pos 0) }
user_date_of None text = record { user = or_unknown text; time = pos 0; tz = pos 0 }

-- the user and the date of an author's line
unfoldable pub user_of_line : Bytes → UserDate
user_of_line text = user_date_of (ident_of text) text

-- ---- messages

-- a description and one LF
abbrev pub message_of : Bytes → Bytes
message_of description = description ++ lf ∷ []

-- a message without one last LF, if there is one
abbrev pub description_of : Bytes → Bytes
description_of message = if ends_with ◌==◌ message (lf ∷ []) then take (length message - 1) message else message
