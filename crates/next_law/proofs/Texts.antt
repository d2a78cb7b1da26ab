-- The texts of changesets, manifests and files are made of bytes.
use Rattle.std.proofs.Common.{◌≡◌, ◌≢◌, ◌<◌, ◌==◌, ℕ, Bool, true, false, List, [], ◌∷◌, ◌++◌, Option, Some, None, arith, if◌then◌else◌}
use Rattle.std.specs.Prelude.{IsTrue, codes}
use Rattle.std.specs.List.{flat_map}
use Rattle.text_model.specs.Lists.{Each}
use Rattle.text_model.specs.Text.{Bytes, IsBytes, has_byte, line, lf, sp, nul, signed_decimal}
use Rattle.text_model.specs.Id.{hex}
use Rattle.text_model.specs.Path.{is_fit_path}
use Rattle.text_model.proofs.ByteLemmas.{IsBytes-append}
use Rattle.text_model.proofs.Digests.{IsId-node_id}
use Rattle.text_model.proofs.TextBytes.{hex-bytes, line-bytes}
use Rattle.hg_model.specs.Changeset.{Changeset, IsChangeset, Extra, DateLine, Plain, Raw, IsDateLine, extra_byte, extra_text, extras_text, date_text, changeset_text}
use Rattle.hg_model.specs.FileText.{IsFile, file_text, mark}
use Rattle.hg_model.specs.Manifest.{Flag, Regular, Executable, Symlink, flag_text, entry_text, manifest_text}
use Rattle.view_model.specs.View.{Row, IsRevision, entry_of_row, rows_text}
use Rattle.mark_law.proofs.TextFacts.{signed-bytes}

both : (a b : Bytes) → IsBytes a → IsBytes b → IsBytes (a ++ b)
both = IsBytes-append

-- ---- a changeset

byte-extra : (b : ℕ) → b < 256 → IsBytes (extra_byte b)
byte-extra b small = by (b == 92) (b == 10) (b == 13) (b == 0)
  where
    by : (w x y z : Bool) → IsBytes (if w then codes "\\\\" else if x then codes "\\n" else if y then codes "\\r" else if z then codes "\\0" else b ∷ [])
    by true x y z = (omega arith, (omega arith, tt))
    by false true y z = (omega arith, (omega arith, tt))
    by false false true z = (omega arith, (omega arith, tt))
    by false false false true = (omega arith, (omega arith, tt))
    by false false false false = (small, tt)

escaped : (raw : Bytes) → IsBytes raw → IsBytes (flat_map extra_byte raw)
escaped [] h = tt
escaped (b ∷ raw) h = both (extra_byte b) (flat_map extra_byte raw) (byte-extra b h.0) (escaped raw h.1)

abbrev HasBytes : Extra → Type 0
HasBytes e = IsBytes e.key × IsBytes e.value

extra-bytes : (e : Extra) → HasBytes e → IsBytes (extra_text e)
extra-bytes e h = escaped (e.key ++ 58 ∷ e.value) (both e.key (58 ∷ e.value) h.0 (omega arith, h.1))

more-bytes : (es : List Extra) → Each HasBytes es → IsBytes (flat_map (λ x. nul ∷ extra_text x) es)
more-bytes [] h = tt
more-bytes (e ∷ es) h = (omega arith, both (extra_text e) (flat_map (λ x. nul ∷ extra_text x) es) (extra-bytes e h.0) (more-bytes es h.1))

extras-bytes : (es : List Extra) → Each HasBytes es → IsBytes (extras_text es)
extras-bytes [] h = tt
extras-bytes (e ∷ es) h = both (extra_text e) (flat_map (λ x. nul ∷ extra_text x) es) (extra-bytes e h.0) (more-bytes es h.1)

have-bytes : (es : List Extra) → Each (λ e. (e.key ≢ []) × (has_byte 58 e.key ≡ false) × IsBytes e.key × IsBytes e.value) es → Each HasBytes es
have-bytes [] h = tt
have-bytes (e ∷ es) h = ((h.0.2, h.0.3), have-bytes es h.1)

date-bytes : (d : DateLine) → IsDateLine d → IsBytes (date_text d)
date-bytes (Raw text) is = is.0
date-bytes (Plain time tz []) is = both (signed_decimal time) (sp ∷ signed_decimal tz) (signed-bytes time) (omega arith, signed-bytes tz)
date-bytes (Plain time tz (e ∷ es)) is =
    both (signed_decimal time ++ sp ∷ signed_decimal tz) (sp ∷ extras_text (e ∷ es)) (both (signed_decimal time) (sp ∷ signed_decimal tz) (signed-bytes time) (omega arith, signed-bytes tz))
    (omega arith, extras-bytes (e ∷ es) (have-bytes (e ∷ es) (is.items).0))

lines-bytes : (files : List Bytes) → Each (λ f. (f ≢ []) × (has_byte 10 f ≡ false) × IsBytes f) files → IsBytes (flat_map line files)
lines-bytes [] h = tt
lines-bytes (f ∷ files) h = both (line f) (flat_map line files) (line-bytes f h.0.2) (lines-bytes files h.1)

pub changeset-bytes : (x : Changeset) → IsChangeset x → IsBytes (changeset_text x)
unfolding changeset_text
changeset-bytes x is =
    let two = both (line (hex x.manifest)) (line x.user) (line-bytes (hex x.manifest) (hex-bytes x.manifest is.manifest)) (line-bytes x.user is.user.2) in
    let three = both (line (hex x.manifest) ++ line x.user) (line (date_text x.date)) two (line-bytes (date_text x.date) (date-bytes x.date is.date)) in
    let four = both ((line (hex x.manifest) ++ line x.user) ++ line (date_text x.date)) (flat_map line x.files) three (lines-bytes x.files is.files) in
    both (((line (hex x.manifest) ++ line x.user) ++ line (date_text x.date)) ++ flat_map line x.files) (lf ∷ x.description) four (omega arith, is.description)

-- ---- a manifest, and a file

flag-bytes : (f : Flag) → IsBytes (flag_text f)
flag-bytes Regular = tt
flag-bytes Executable = (omega arith, tt)
flag-bytes Symlink = (omega arith, tt)

pub rows-bytes : (rows : List Row) → Each (λ row. IsTrue (is_fit_path row.path) × IsBytes row.path × IsRevision row.revision) rows → IsBytes (rows_text rows)
unfolding manifest_text
rows-bytes [] h = tt
rows-bytes (row ∷ rows) h =
    let e = entry_of_row row in
    let node = both e.path (nul ∷ hex e.node) h.0.1 (omega arith, hex-bytes e.node (IsId-node_id (row.revision).p (row.revision).q _)) in
    let flag = both (e.path ++ nul ∷ hex e.node) (flag_text e.flag) node (flag-bytes e.flag) in
    both (entry_text e) (rows_text rows) (both ((e.path ++ nul ∷ hex e.node) ++ flag_text e.flag) (lf ∷ []) flag (omega arith, tt)) (rows-bytes rows h.1)

mark-bytes : IsBytes mark
mark-bytes = (omega arith, (omega arith, tt))

pub file-bytes : (meta : Option Bytes) (body : Bytes) → IsFile meta body → IsBytes (file_text meta body)
file-bytes None body is = is.0
file-bytes (Some meta) body is = both ((mark ++ meta) ++ mark) body (both (mark ++ meta) mark (both mark meta mark-bytes is.1) mark-bytes) is.0
