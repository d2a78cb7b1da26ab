-- How long what is written is.
use Rattle.std.proofs.Common.{◌≡◌, ℕ, ◌+◌, ◌≤◌, ◌^◌, ◌&&◌, ◌==◌, Bool, true, false, List, [], ◌∷◌, ◌++◌, length, refl, ap, arith, length-append}
use Rattle.std.specs.Prelude.{sum_by, nat_le}
use Rattle.std.proofs.lemmas.Bool.Decides.{nat_tests}
use Rattle.std.proofs.lemmas.List.Sums.{sum_by-cons}
use Rattle.text_model.specs.Lists.{Each}
use Rattle.text_model.specs.Text.{Bytes}
use Rattle.text_model.specs.Path.{is_fit_path}
use Rattle.text_model.proofs.TestLemmas.{both}
use Rattle.hg_model.specs.Chunk.{field_of, chunk_text}
use Rattle.hg_model.specs.Delta.{hunk_text, whole_delta, number32}
use Rattle.hg_model.specs.Bundle.{BundleEntry, entry_payload, AreShort, path_limit, group_text}
use Rattle.hg_model.specs.Revision.{Group, Revision}
use Rattle.hg_model.proofs.BundleEntryLemmas.{length-payload}
use Rattle.hg_model.proofs.ChunkLemmas.{length-chunk}
use Rattle.hg_model.proofs.ListingLemmas.{group_text-cons}
use Rattle.view_model.specs.Dump.{written_from, written_group}

-- ---- a delta

length-hunk : (n : ℕ) (text : Bytes) → length (hunk_text (record { start = 0; finish = n; bytes = text })) ≡ length text + 12
unfolding number32
length-hunk n text = simp length-append (omega arith)

record IsDelta (size : ℕ) (text : Bytes) : Type 0 where
  pub least : length text ≤ length (whole_delta size text)
  pub most : length (whole_delta size text) ≤ length text + 12

delta-size : (size : ℕ) (text : Bytes) → IsDelta size text
delta-size size text = by (size == 0 && length text == 0) refl
  where
    by : (b : Bool) → (size == 0 && length text == 0) ≡ b → IsDelta size text
    by true e =
        let none : length text ≡ 0 = grind (arith, (both (size == 0) (length text == 0) e).1, nat_tests) in
        record { least = rw e (omega (arith, none)); most = rw e (omega arith) }
    by false e = record { least = rw e (omega (arith, length-hunk size text)); most = rw e (omega (arith, length-hunk size text)) }

-- ---- a group

abbrev pub total : List Revision → ℕ
total rs = sum_by (λ r. length r.text) rs

abbrev pub IsShort : Revision → Type 0
IsShort r = length r.text ≤ 2 ^ 26

abbrev pub HasIds : Revision → Type 0
HasIds r = (length r.node ≡ 20) × (length r.p ≡ 20) × (length r.q ≡ 20) × (length r.link ≡ 20)

field-most : (payload : Bytes) → field_of payload ≤ length payload + 4
field-most [] = omega arith
field-most (b ∷ bytes) = omega arith

entry-size : (size : ℕ) (r : Revision) → HasIds r
    → length (entry_payload (record { node = r.node; p = r.p; q = r.q; link = r.link; delta = whole_delta size r.text })) ≡ 80 + length (whole_delta size r.text)
entry-size size r ids = length-payload (record { node = r.node; p = r.p; q = r.q; link = r.link; delta = whole_delta size r.text }) (record { node = ids.0; p = ids.1; q = ids.2; link = ids.3 })

entries-short : (base : Bytes) (rs : List Revision) → Each HasIds rs → Each IsShort rs → AreShort (written_from base rs)
unfolding written_from
entries-short base [] ids short = tt
entries-short base (r ∷ rs) ids short =
    let e : BundleEntry = record { node = r.node; p = r.p; q = r.q; link = r.link; delta = whole_delta (length base) r.text } in
    (omega (arith, field-most (entry_payload e), entry-size (length base) r ids.0, (delta-size (length base) r.text).most, short.0), entries-short r.text rs ids.1 short.1)

pub group-short : (known : List Revision) (group : Group) (rs : List Revision) → Each HasIds rs → Each IsShort rs → AreShort (written_group known group rs)
unfolding written_group
group-short known group [] ids short = tt
group-short known group (r ∷ rs) ids short = entries-short _ (r ∷ rs) ids short

entries-long : (base : Bytes) (rs : List Revision) (rest : Bytes) → Each HasIds rs → total rs + length rest ≤ length (group_text (written_from base rs) ++ rest)
unfolding written_from
entries-long base [] rest ids = omega (arith, length-append (group_text []) rest)
entries-long base (r ∷ rs) rest ids =
    let e : BundleEntry = record { node = r.node; p = r.p; q = r.q; link = r.link; delta = whole_delta (length base) r.text } in
    let tail = group_text (written_from r.text rs) ++ rest in
    omega (
      arith,
      sum_by-cons (λ (s : Revision). length s.text) r rs,
      ap length (group_text-cons e (written_from r.text rs) rest),
      length-append (chunk_text (entry_payload e)) tail,
      length-chunk (entry_payload e),
      entry-size (length base) r ids.0,
      (delta-size (length base) r.text).least,
      entries-long r.text rs rest ids.1,
    )

pub group-long : (known : List Revision) (group : Group) (rs : List Revision) (rest : Bytes) → Each HasIds rs → total rs + length rest ≤ length (group_text (written_group known group rs) ++ rest)
unfolding written_group
group-long known group [] rest ids = omega (arith, length-append (group_text []) rest)
group-long known group (r ∷ rs) rest ids = entries-long _ (r ∷ rs) rest ids

-- ---- the paths

fit-few : (path : Bytes) → is_fit_path path ≡ true → length path ≤ 4096
unfolding is_fit_path
fit-few path h =
    let parts = both _ _ (both _ _ (both _ _ (both _ _ (both _ _ (both _ _ h).0).0).0).0).0 in
    few (length path) parts.1
  where
    few : (n : ℕ) → nat_le n 4096 ≡ true → n ≤ 4096
    few n e = grind (arith, e, nat_tests)

pub path-short : (path : Bytes) → is_fit_path path ≡ true → field_of path ≤ path_limit
path-short path fit = omega (arith, field-most path, fit-few path fit)
