-- The bytes of a bundle are those of one list of entries in each group, and the entries those of one list of revisions.
use Rattle.std.proofs.Common.{◌≡◌, ◌≢◌, ℕ, ◌+◌, ◌<◌, ◌≤◌, ◌^◌, Bool, true, false, List, [], ◌∷◌, ◌++◌, length, drop, map, refl, sym, ap, subst, ◌∙◌, arith, length-append, append-nil, append_assoc}
use Rattle.std.specs.Prelude.{◌==◌, ◌&&◌}
use Rattle.std.proofs.lemmas.Bool.{eqb-true}
use Rattle.std.proofs.lemmas.List.{append_cancel_left, drop_at, length-drop}
use Rattle.text_model.specs.Lists.{Each}
use Rattle.text_model.specs.Text.{Bytes}
use Rattle.text_model.proofs.TestLemmas.{both}
use Rattle.hg_model.specs.Chunk.{field_of, chunk_text, magic_text}
use Rattle.hg_model.specs.Delta.{number32, hunk_text, whole_delta}
use Rattle.hg_model.specs.Bundle.{BundleEntry, FileGroup, Bundle, entry_payload, entry_of, group_text, bundle_text, IsBundleEntry}
use Rattle.hg_model.specs.Revision.{Group, Revision}
use Rattle.hg_model.proofs.HunkLemmas.{length-number32}
use Rattle.hg_model.proofs.ChunkLemmas.{length-chunk, same_chunk}
use Rattle.hg_model.proofs.BundleEntryLemmas.{length-payload, entry_of-payload}
use Rattle.hg_model.proofs.ListingLemmas.{group_text-cons, group_text-nil, files_text, files_text-cons, bundle_text-parts}
use Rattle.view_model.specs.Dump.{written_from, written_group}

field-small : (payload : Bytes) → field_of payload ≤ length payload + 4
field-small [] = omega arith
field-small (b ∷ bytes) = omega arith

-- ---- chunks

first_chunk : (payload other rest more : Bytes) → length (chunk_text payload ++ rest) < 2 ^ 32 → chunk_text payload ++ rest ≡ chunk_text other ++ more → (payload ≡ other) × (rest ≡ more)
first_chunk payload other rest more short e =
    same_chunk payload other rest more
    (omega (arith, short, field-small payload, length-append (chunk_text payload) rest, length-chunk payload))
    (omega (arith, short, ap (λ (l : Bytes). length l) e, field-small other, length-append (chunk_text other) more, length-chunk other))
    e

-- what is left behind a chunk is shorter
rest_short : (payload rest : Bytes) → length (chunk_text payload ++ rest) < 2 ^ 32 → length rest < 2 ^ 32
rest_short payload rest short = omega (arith, short, length-append (chunk_text payload) rest)

no_payload : (e : BundleEntry) → IsBundleEntry e → entry_payload e ≡ [] → ⊥
no_payload e is none = omega (arith, length-payload e is, ap (λ (l : Bytes). length l) none)

pub record SameGroups (es fs : List BundleEntry) (rest more : Bytes) : Type 0 where
  pub entries : es ≡ fs
  pub rest_is : rest ≡ more
  pub short : length rest < 2 ^ 32

pub same_groups : (es fs : List BundleEntry) (rest more : Bytes) → Each IsBundleEntry es → Each IsBundleEntry fs → length (group_text es ++ rest) < 2 ^ 32
    → group_text es ++ rest ≡ group_text fs ++ more → SameGroups es fs rest more
same_groups [] [] rest more are also short e =
    let a = ap (λ (l : Bytes). l ++ rest) group_text-nil in
    let b = ap (λ (l : Bytes). l ++ more) group_text-nil in
    let c = first_chunk [] [] rest more (subst (λ (l : Bytes). length l < 2 ^ 32) a short) (sym a ∙ e ∙ b) in
    record { entries = refl; rest_is = c.1; short = rest_short [] rest (subst (λ (l : Bytes). length l < 2 ^ 32) a short) }
same_groups [] (f ∷ fs) rest more are also short e =
    let a = ap (λ (l : Bytes). l ++ rest) group_text-nil in
    let c = first_chunk [] (entry_payload f) rest (group_text fs ++ more) (subst (λ (l : Bytes). length l < 2 ^ 32) a short) (sym a ∙ e ∙ group_text-cons f fs more) in
    absurd (no_payload f also.0 (sym c.0))
same_groups (x ∷ es) [] rest more are also short e =
    let a = group_text-cons x es rest in
    let b = ap (λ (l : Bytes). l ++ more) group_text-nil in
    let c = first_chunk (entry_payload x) [] (group_text es ++ rest) more (subst (λ (l : Bytes). length l < 2 ^ 32) a short) (sym a ∙ e ∙ b) in
    absurd (no_payload x are.0 c.0)
same_groups (x ∷ es) (f ∷ fs) rest more are also short e =
    let a = group_text-cons x es rest in
    let longer : length (chunk_text (entry_payload x) ++ (group_text es ++ rest)) < 2 ^ 32 = subst (λ (l : Bytes). length l < 2 ^ 32) a short in
    let c = first_chunk (entry_payload x) (entry_payload f) (group_text es ++ rest) (group_text fs ++ more) longer (sym a ∙ e ∙ group_text-cons f fs more) in
    let first : x ≡ f = sym (entry_of-payload x are.0) ∙ ap entry_of c.0 ∙ entry_of-payload f also.0 in
    let others = same_groups es fs rest more are.1 also.1 (rest_short (entry_payload x) (group_text es ++ rest) longer) c.1 in
    record { entries = (λ i. first i ∷ others.entries i); rest_is = others.rest_is; short = others.short }

abbrev pub IsFileGroup : FileGroup → Type 0
IsFileGroup f = (f.path ≢ []) × Each IsBundleEntry f.entries

same_files : (fs gs : List FileGroup) → Each IsFileGroup fs → Each IsFileGroup gs → length (files_text fs) < 2 ^ 32 → files_text fs ≡ files_text gs → fs ≡ gs
same_files [] [] are also short e = refl
same_files [] (g ∷ gs) are also short e =
    let end = append-nil (chunk_text []) in
    let c = first_chunk [] g.path [] (group_text g.entries ++ files_text gs) (subst (λ (l : Bytes). length l < 2 ^ 32) (sym end) short) (end ∙ e ∙ files_text-cons g gs) in
    absurd (also.0.0 (sym c.0))
same_files (f ∷ fs) [] are also short e =
    let a = files_text-cons f fs in
    let c = first_chunk f.path [] (group_text f.entries ++ files_text fs) [] (subst (λ (l : Bytes). length l < 2 ^ 32) a short) (sym a ∙ e ∙ sym (append-nil (chunk_text []))) in
    absurd (are.0.0 c.0)
same_files (f ∷ fs) (g ∷ gs) are also short e =
    let a = files_text-cons f fs in
    let longer : length (chunk_text f.path ++ (group_text f.entries ++ files_text fs)) < 2 ^ 32 = subst (λ (l : Bytes). length l < 2 ^ 32) a short in
    let c = first_chunk f.path g.path (group_text f.entries ++ files_text fs) (group_text g.entries ++ files_text gs) longer (sym a ∙ e ∙ files_text-cons g gs) in
    let s = same_groups f.entries g.entries (files_text fs) (files_text gs) are.0.1 also.0.1 (rest_short f.path (group_text f.entries ++ files_text fs) longer) c.1 in
    let others = same_files fs gs are.1 also.1 s.short s.rest_is in
    (λ i. record { path = c.0 i; entries = s.entries i } ∷ others i)

pub record AreGroups (b : Bundle) : Type 0 where
  pub changesets : Each IsBundleEntry b.changesets
  pub manifests : Each IsBundleEntry b.manifests
  pub files : Each IsFileGroup b.files

-- a bundle's bytes are those of no other
pub one_bundle : (a b : Bundle) → AreGroups a → AreGroups b → length (bundle_text a) < 2 ^ 32 → bundle_text a ≡ bundle_text b → a ≡ b
one_bundle a b are also short e =
    let parts : magic_text ++ (group_text a.changesets ++ (group_text a.manifests ++ files_text a.files)) ≡ magic_text ++ (group_text b.changesets ++ (group_text b.manifests ++ files_text b.files)) =
    sym (bundle_text-parts a) ∙ e ∙ bundle_text-parts b in
    let behind = append_cancel_left magic_text _ _ parts in
    let less : length (group_text a.changesets ++ (group_text a.manifests ++ files_text a.files)) < 2 ^ 32 =
    omega (arith, short, ap (λ (l : Bytes). length l) (bundle_text-parts a), length-append magic_text (group_text a.changesets ++ (group_text a.manifests ++ files_text a.files))) in
    let cs = same_groups a.changesets b.changesets (group_text a.manifests ++ files_text a.files) (group_text b.manifests ++ files_text b.files) are.changesets also.changesets less behind in
    let ms = same_groups a.manifests b.manifests (files_text a.files) (files_text b.files) are.manifests also.manifests cs.short cs.rest_is in
    let fs = same_files a.files b.files are.files also.files ms.short ms.rest_is in
    (λ i. record { changesets = cs.entries i; manifests = ms.entries i; files = fs i })

-- ---- entries stand for revisions

-- the revision of an entry that replaces its whole base
abbrev pub revision_back : Group → BundleEntry → Revision
revision_back group e = record { group = group; node = e.node; p = e.p; q = e.q; link = e.link; text = drop 12 e.delta }

behind : (n : ℕ) (text : Bytes) → drop 12 (hunk_text (record { start = 0; finish = n; bytes = text })) ≡ text
unfolding number32
behind n text =
    let a = number32 0 in
    let b = number32 n in
    let d = number32 (length text) in
    ap (drop 12) (ap (λ (l : Bytes). a ++ l) (sym (append_assoc b d text)) ∙ sym (append_assoc a (b ++ d) text))
    ∙ drop_at (a ++ (b ++ d)) text 12 (omega (arith, length-append a (b ++ d), length-append b d, length-number32 0, length-number32 n, length-number32 (length text)))

text-back : (n : ℕ) (text : Bytes) → drop 12 (whole_delta n text) ≡ text
text-back n text = by (n == 0 && length text == 0) refl
  where
    nothing : (l : Bytes) → length l ≡ 0 → [] ≡ l
    nothing [] e = refl
    nothing (b ∷ bytes) e = absurd (omega (arith, e))

    by : (t : Bool) → (n == 0 && length text == 0) ≡ t → drop 12 (whole_delta n text) ≡ text
    by true e = rw e (nothing text (eqb-true (length text) 0 (both (n == 0) (length text == 0) e).1))
    by false e = rw e (behind n text)

pub delta-long : (n : ℕ) (text : Bytes) → length text ≤ length (whole_delta n text)
delta-long n text = omega (arith, ap (λ (l : Bytes). length l) (text-back n text), length-drop 12 (whole_delta n text))

from-back : (group : Group) (base : Bytes) (rs : List Revision) → Each (λ r. r.group ≡ group) rs → map (revision_back group) (written_from base rs) ≡ rs
unfolding written_from
from-back group base [] are = refl
from-back group base (r ∷ rs) are =
    (λ i. record { group = sym are.0 i; node = r.node; p = r.p; q = r.q; link = r.link; text = text-back (length base) r.text i } ∷ from-back group r.text rs are.1 i)

pub group-back : (known : List Revision) (group : Group) (rs : List Revision) → Each (λ r. r.group ≡ group) rs → map (revision_back group) (written_group known group rs) ≡ rs
unfolding written_group written_from
group-back known group [] are = refl
group-back known group (r ∷ rs) are = from-back group _ (r ∷ rs) are
