-- A group without its first revisions takes no more bytes: only its first entry may be longer, by less than an entry that is left out.
use Rattle.std.proofs.Common.{◌≡◌, ◌≤◌, ◌+◌, ℕ, Bool, true, false, List, [], ◌∷◌, ◌++◌, length, refl, arith, length-append}
use Rattle.std.specs.Prelude.{◌==◌, ◌&&◌, unwrap_or}
use Rattle.std.proofs.lemmas.List.Sums.{sum_by-cons}
use Rattle.std.proofs.lemmas.Bool.Decides.{nat_tests}
use Rattle.text_model.specs.Lists.{Each}
use Rattle.text_model.specs.Text.{Bytes}
use Rattle.text_model.proofs.TestLemmas.{both}
use Rattle.hg_model.specs.Delta.{number32, hunk_text, whole_delta}
use Rattle.hg_model.specs.Revision.{Group, Revision}
use Rattle.hg_model.specs.Bundle.{BundleEntry, entry_payload}
use Rattle.hg_model.specs.Reading.{first_base}
use Rattle.hg_model.proofs.HunkLemmas.{length-number32}
use Rattle.view_model.specs.Dump.{written_from, written_group}
use Rattle.dump_law.specs.Sizes.{entries_size}

-- ---- one delta and one entry

hunk-size : (n : ℕ) (text : Bytes) → length (hunk_text (record { start = 0; finish = n; bytes = text })) ≡ 12 + length text
hunk-size n text = omega (
  arith,
  length-append (number32 0 ++ number32 n ++ number32 (length text)) text,
  length-append (number32 0 ++ number32 n) (number32 (length text)),
  length-append (number32 0) (number32 n),
  length-number32 0,
  length-number32 n,
  length-number32 (length text),
)

-- behind any base a text takes at most 12 bytes more than behind another
delta_less : (n m : ℕ) (text : Bytes) → length (whole_delta n text) ≤ 12 + length (whole_delta m text)
delta_less n m text = by (n == 0 && length text == 0) refl
  where
    least : (t : Bool) → (m == 0 && length text == 0) ≡ t → length text ≤ length (whole_delta m text)
    least true e = grind (arith, nat_tests, (both (m == 0) (length text == 0) e).1)
    least false e = rw e (omega (arith, hunk-size m text))

    by : (t : Bool) → (n == 0 && length text == 0) ≡ t → length (whole_delta n text) ≤ 12 + length (whole_delta m text)
    by true e = rw e (omega arith)
    by false e = rw e (omega (arith, hunk-size n text, least (m == 0 && length text == 0) refl))

abbrev first_entry : Bytes → Revision → BundleEntry
first_entry base r = record { node = r.node; p = r.p; q = r.q; link = r.link; delta = whole_delta (length base) r.text }

from_size : (base : Bytes) (r : Revision) (rs : List Revision)
    → entries_size (written_from base (r ∷ rs)) ≡ (length (entry_payload (first_entry base r)) + 4) + entries_size (written_from r.text rs)
unfolding written_from
from_size base r rs = sum_by-cons (λ (e : BundleEntry). length (entry_payload e) + 4) (first_entry base r) (written_from r.text rs)

entry-size : (e : BundleEntry) → length (entry_payload e) ≡ length e.node + (length e.p + (length e.q + (length e.link + length e.delta)))
entry-size e = omega (arith, length-append e.node (e.p ++ (e.q ++ (e.link ++ e.delta))), length-append e.p (e.q ++ (e.link ++ e.delta)), length-append e.q (e.link ++ e.delta), length-append e.link e.delta)

-- ---- the entries of a group

-- over another base, and without the first revisions
from_less : (a b : Bytes) (old new : List Revision) → entries_size (written_from a new) ≤ 12 + entries_size (written_from b (old ++ new))
unfolding written_from
from_less a b [] [] = omega arith
from_less a b [] (n ∷ new) = omega (
  arith,
  from_size a n new,
  from_size b n new,
  entry-size (first_entry a n),
  entry-size (first_entry b n),
  delta_less (length a) (length b) n.text,
)
from_less a b (o ∷ old) new = omega (arith, from_size b o (old ++ new), from_less a o.text old new)

abbrev pub HasLink : Revision → Type 0
HasLink r = length r.link ≡ 20

pub group_less : (known : List Revision) (group : Group) (old new : List Revision) → Each HasLink old
    → entries_size (written_group known group new) ≤ entries_size (written_group known group (old ++ new))
unfolding written_group
group_less known group [] new h = omega arith
group_less known group (o ∷ old) [] h = omega arith
group_less known group (o ∷ old) (n ∷ new) h =
    let base = unwrap_or (first_base known group o.p) [] in
    omega (
      arith,
      from_size base o (old ++ n ∷ new),
      entry-size (first_entry base o),
      h.0,
      from_less (unwrap_or (first_base known group n.p) []) o.text old (n ∷ new),
    )
