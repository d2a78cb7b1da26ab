-- The bytes of entries and groups.
use Rattle.std.proofs.Common.{◌≡◌, ◌+◌, ◌<◌, ◌++◌, ℕ, zero, suc, true, false, drop, get_or, List, [], ◌∷◌, length, map, Some, None, refl, sym, ap, subst, ◌∙◌, arith, append_assoc, length-append}
use Rattle.std.specs.Prelude.{unwrap_or, slice_get, is_some}
use Rattle.std.proofs.lemmas.List.{length-map}
use Rattle.std.proofs.lemmas.Option.{slice_get-get_or}
use Rattle.std.specs.List.{flat_map}
use Rattle.byteorder.specs.Endian.{big_bytes}
use Rattle.text_model.specs.Lists.{Each}
use Rattle.text_model.specs.Text.{Bytes}
use Rattle.text_model.specs.Id.{Id, IsId, is_null}
use Rattle.text_model.proofs.Options.{none_some, some_is}
use Rattle.text_model.proofs.Elements.{drop_next}
use Rattle.hg_model.specs.Revision.{Group, Changesets, Manifests, FilesAt, Revision, revision_of, knows}
use Rattle.hg_model.specs.FileText.{file_order}
use Rattle.hg_model.specs.Chunk.{chunk_text, field_of}
use Rattle.hg_model.specs.Delta.{whole_delta}
use Rattle.hg_model.specs.Bundle.{BundleEntry, entry_payload, group_text}
use Rattle.hg_model.specs.Reading.{first_base}
use Rattle.hg_model.proofs.ChunkLemmas.{chunk_of_field, field_of-length}
use Rattle.hg_filelog.proofs.MarkLemmas.{one_pair}
use Rattle.hg_store.specs.Known.{text_of}
use Rattle.view_model.specs.Dump.{written_from, written_group}
use Rattle.hg_dump.specs.declared.references.Reference.{Reference}
use Rattle.hg_dump.specs.Written.{reference_to, AreParentsOf, IsHeldIn, IsOf, AreOf, entry_over, entry_chunk, entries_over, chunks_over, base_size}
use Rattle.hg_dump.proofs.HeldLemmas.{held-text}

-- ---- the parents

-- a known revision has one pair of them
pub one_parents : (known : List Revision) (group : Group) (node : Id) (r : Revision) (a b : Id × Id) → AreParentsOf known group node r a → AreParentsOf known group node r b → a ≡ b
one_parents known Changesets node r a b x y = x ∙ sym y
one_parents known Manifests node r a b x y = x ∙ sym y
one_parents known (FilesAt path) node r a b x y =
    let same : x.revision ≡ y.revision = some_is (sym x.is_held ∙ y.is_held) in
    let meta = (one_pair x.meta y.meta x.body y.body x.spells.0 y.spells.0 (sym x.spells.1 ∙ ap (λ (s : Revision). s.text) same ∙ y.spells.1)).0 in
    x.in_order ∙ (λ i. file_order (meta i) ((same i).p) ((same i).q)) ∙ sym y.in_order

-- ---- an entry

pub entry-spelled : (e : BundleEntry) (n : ℕ) → length e.node ≡ 20 → length e.p ≡ 20 → length e.q ≡ 20 → length e.link ≡ 20 → n ≡ length e.delta
    → (big_bytes 4 (n + 84) ++ e.node ++ e.p ++ e.q ++ e.link) ++ e.delta ≡ entry_chunk e
entry-spelled e n node p q link is =
    regroup (big_bytes 4 (n + 84)) e.node e.p e.q e.link e.delta ∙ chunk_of_field (n + 84) (entry_payload e) (omega (arith, size, field))
  where
    regroup : (a b c d f g : Bytes) → (a ++ b ++ c ++ d ++ f) ++ g ≡ a ++ (b ++ (c ++ (d ++ (f ++ g))))
    regroup a b c d f g = simp append_assoc

    size : length (entry_payload e) ≡ n + 80
    size = simp length-append (omega (arith, node, p, q, link, is))

    field : field_of (entry_payload e) ≡ length (entry_payload e) + 4
    field = field_of-length (entry_payload e) (omega (arith, size))

-- ---- a group

sized : (base : Bytes) (rs : List Revision) → written_from base rs ≡ entries_over (length base) rs
unfolding written_from
sized base [] = refl
sized base (r ∷ rs) = ap (λ (l : List BundleEntry). entry_over (length base) r ∷ l) (sized r.text rs)

pub sized-group : (known : List Revision) (group : Group) (rs : List Revision) → written_group known group rs ≡ entries_over (base_size known group rs) rs
unfolding written_group
sized-group known group [] = refl
sized-group known group (r ∷ rs) = sized (unwrap_or (first_base known group r.p) []) (r ∷ rs)

pub group-spelled : (known : List Revision) (group : Group) (rs : List Revision) → chunks_over (base_size known group rs) rs ++ chunk_text [] ≡ group_text (written_group known group rs)
unfolding group_text
group-spelled known group rs = ap (λ (l : List BundleEntry). flat_map entry_chunk l ++ chunk_text []) (sym (sized-group known group rs))

-- ---- entries by their references

-- the bytes that are put for a reference are those of its revision's entry
pub entry-written : (known : List Revision) (group : Group) (ref : Reference) (r : Revision) (size n : ℕ) (p q : Id) (out mid new text : Bytes) → IsOf known group ref r
    → text_of known group ref.node ≡ Some text → ((s : Revision) → revision_of known group ref.node ≡ Some s → AreParentsOf known group ref.node s (p, q))
    → IsId ref.node × IsId p × IsId q × IsId ref.link → n ≡ length (whole_delta size text)
    → mid ≡ out ++ big_bytes 4 (n + 84) ++ ref.node ++ p ++ q ++ ref.link → new ≡ mid ++ whole_delta size text
    → new ≡ out ++ entry_chunk (entry_over size r)
entry-written known group ref r size n p q out mid new text is at parents ids count header whole =
    whole ∙ ap (λ (x : Bytes). x ++ whole_delta size text) header
    ∙ behind out (big_bytes 4 (n + 84)) ref.node p q ref.link (whole_delta size text)
    ∙ ap (λ (x : Bytes). out ++ x) (entry-spelled spelled n ids.0.0 ids.1.0 ids.2.0 ids.3.0 count ∙ ap entry_chunk same)
  where
    held : IsHeldIn known group r
    held = is.is_held

    node : ref.node ≡ r.node
    node = ap (λ (x : Reference). x.node) is.reference_is

    pair : ◌≡◌ {A = Id × Id} (p, q) (r.p, r.q)
    pair = one_parents known group r.node held.revision (p, q) (r.p, r.q) (subst (λ (n : Id). AreParentsOf known group n held.revision (p, q)) node (parents held.revision (ap (revision_of known group) node ∙ held.is_held))) held.parents

    texts : text ≡ r.text
    texts = some_is (sym at ∙ ap (text_of known group) node ∙ held-text known group r held)

    behind : (o a b c d f g : Bytes) → (o ++ a ++ b ++ c ++ d ++ f) ++ g ≡ o ++ ((a ++ b ++ c ++ d ++ f) ++ g)
    behind o a b c d f g = simp append_assoc

    spelled : BundleEntry
    spelled = record { node = ref.node; p = p; q = q; link = ref.link; delta = whole_delta size text }

    same : spelled ≡ entry_over size r
    same = (λ i. record { node = node i; p = (pair i).0; q = (pair i).1; link = (is.reference_is i).link; delta = whole_delta size (texts i) })

-- the parts of an entry
pub entry-parts : (known : List Revision) (group : Group) (ref : Reference) (r : Revision) (size n : ℕ) (p q : Id) (text : Bytes) → IsOf known group ref r
    → text_of known group ref.node ≡ Some text → ((s : Revision) → revision_of known group ref.node ≡ Some s → AreParentsOf known group ref.node s (p, q))
    → IsId ref.node × IsId p × IsId q × IsId ref.link → n ≡ length (whole_delta size text)
    → (big_bytes 4 (n + 84) ++ ref.node ++ p ++ q ++ ref.link) ++ whole_delta size text ≡ entry_chunk (entry_over size r)
entry-parts known group ref r size n p q text is at parents ids count =
    entry-written known group ref r size n p q [] (big_bytes 4 (n + 84) ++ ref.node ++ p ++ q ++ ref.link) ((big_bytes 4 (n + 84) ++ ref.node ++ p ++ q ++ ref.link) ++ whole_delta size text) text is at parents ids count refl refl

pub at-place : (references : List Reference) (i : ℕ) (r : Reference) → i < length references → r ≡ get_or references i r → slice_get references i ≡ Some r
at-place references i r below is = slice_get-get_or references i r below ∙ ap Some (sym is)

-- the revision of a reference at a place
pub record OfAt (known : List Revision) (group : Group) (reference : Reference) (rs : List Revision) (i : ℕ) : Type 0 where
  pub revision : Revision
  pub is_of : IsOf known group reference revision
  pub at_place : slice_get rs i ≡ Some revision

pub of-at : (known : List Revision) (group : Group) (references : List Reference) (rs : List Revision) → AreOf known group references rs → (i : ℕ) (reference : Reference) → slice_get references i ≡ Some reference → OfAt known group reference rs i
of-at known group references rs are i reference at = by rs i are.are_held (ap (λ (l : List Reference). slice_get l i) (sym are.references_are) ∙ at)
  where
    by : (rs : List Revision) (i : ℕ) → Each (IsHeldIn known group) rs → slice_get (map reference_to rs) i ≡ Some reference → OfAt known group reference rs i
    by [] i held e = absurd (none_some e)
    by (r ∷ rs) zero held e = record { revision = r; is_of = record { reference_is = sym (some_is e); is_held = held.0 }; at_place = refl }
    by (r ∷ rs) (suc i) held e = let o = by rs i held.1 e in record { revision = o.revision; is_of = o.is_of; at_place = o.at_place }

pub of-length : (known : List Revision) (group : Group) (references : List Reference) (rs : List Revision) → AreOf known group references rs → length references ≡ length rs
of-length known group references rs are = ap length are.references_are ∙ length-map rs reference_to

pub of-known : (known : List Revision) (group : Group) (reference : Reference) (r : Revision) → IsOf known group reference r → knows known group reference.node ≡ true
of-known known group reference r is =
    ap (λ (x : Reference). knows known group x.node) is.reference_is ∙ ap is_some (is.is_held).is_held

-- one entry more
pub chunks-step : (out new from whole : Bytes) (size next i : ℕ) (rs : List Revision) (r : Revision) → slice_get rs i ≡ Some r
    → out ++ chunks_over size (drop i rs) ≡ from ++ whole → new ≡ out ++ entry_chunk (entry_over size r) → next ≡ length r.text
    → new ++ chunks_over next (drop (i + 1) rs) ≡ from ++ whole
chunks-step out new from whole size next i rs r at before put is =
    ap (λ (x : Bytes). x ++ chunks_over next (drop (i + 1) rs)) put
    ∙ append_assoc out (entry_chunk (entry_over size r)) (chunks_over next (drop (i + 1) rs))
    ∙ ap (λ (n : ℕ). out ++ (entry_chunk (entry_over size r) ++ chunks_over n (drop (i + 1) rs))) is
    ∙ ap (λ (l : List Revision). out ++ chunks_over size l) (sym (drop_next rs i r at))
    ∙ before

-- the base of the first entry
pub base-of_first : (known : List Revision) (group : Group) (reference : Reference) (rs : List Revision) (first : OfAt known group reference rs 0) (p q : Id)
    → ((s : Revision) → revision_of known group reference.node ≡ Some s → AreParentsOf known group reference.node s (p, q))
    → base_size known group rs ≡ length (unwrap_or (first_base known group p) [])
base-of_first known group reference [] first p q parents = absurd (none_some first.at_place)
base-of_first known group reference (r ∷ rs) first p q parents =
    ap (λ (x : Id). length (unwrap_or (first_base known group x) [])) (ap (λ (x : Revision). x.p) (some_is first.at_place) ∙ sym (ap (λ (x : Id × Id). x.0) pair))
  where
    f : Revision
    f = first.revision

    held : IsHeldIn known group f
    held = (first.is_of).is_held

    node : reference.node ≡ f.node
    node = ap (λ (x : Reference). x.node) (first.is_of).reference_is

    pair : ◌≡◌ {A = Id × Id} (p, q) (f.p, f.q)
    pair = one_parents known group f.node held.revision (p, q) (f.p, f.q) (subst (λ (n : Id). AreParentsOf known group n held.revision (p, q)) node (parents held.revision (ap (revision_of known group) node ∙ held.is_held))) held.parents

pub base-null : (known : List Revision) (group : Group) (p : Id) → is_null p ≡ true → length (unwrap_or (first_base known group p) []) ≡ 0
base-null known group p null = rw null refl

pub base-text : (known : List Revision) (group : Group) (p : Id) (text : Bytes) → is_null p ≡ false → text_of known group p ≡ Some text → length (unwrap_or (first_base known group p) []) ≡ length text
base-text known group p text some at = rw (some, at) refl

pub base-unknown : (known : List Revision) (group : Group) (p : Id) → is_null p ≡ false → text_of known group p ≡ None → length (unwrap_or (first_base known group p) []) ≡ 0
base-unknown known group p some at = rw (some, at) refl

-- some reference is that to a known revision
pub record SomeHeld (known : List Revision) (group : Group) : Type 0 where
  pub revision : Revision
  pub is_held : IsHeldIn known group revision

pub some-held : (known : List Revision) (group : Group) (references : List Reference) (rs : List Revision) → AreOf known group references rs → 0 < length references → SomeHeld known group
some-held known group references rs are some = by rs are.are_held (omega (arith, of-length known group references rs are))
  where
    by : (rs : List Revision) → Each (IsHeldIn known group) rs → 0 < length rs → SomeHeld known group
    by [] held h = absurd (omega (arith, h))
    by (r ∷ rs) held h = record { revision = r; is_held = held.0 }
