-- How long the headers of a commit and the extras of a changeset are: each unmarking of a member that isn't plain has fewer bytes of them. This
-- measure is this project's own.
use Rattle.std.specs.Prelude.{ℕ, ◌+◌, List, [], ◌∷◌, length}
use Rattle.hg_model.specs.Changeset.{Extra, DateLine, Plain, Raw}
use Rattle.partner_model.specs.Partner.{Member, OfHg, OfGit}

abbrev pub extras_size : List Extra → ℕ
extras_size [] = 0
extras_size (e ∷ es) = length e.key + length e.value + extras_size es

abbrev pub date_size : DateLine → ℕ
date_size (Plain time tz extras) = extras_size extras
date_size (Raw text) = 0

-- the bytes of the headers; the bytes of the keys and values of the extras
abbrev pub size_of : Member → ℕ
size_of (OfHg h) = date_size (h.fields).date
size_of (OfGit c) = length (c.value).headers
