-- The parts of a bundle, and how long they are.
use Rattle.std.proofs.Common.{◌≡◌, ◌<◌, ◌+◌, ℕ, zero, suc, false, true≢false, ◌++◌, List, map, [], ◌∷◌, drop, Some, length, refl, sym, ap, subst, ◌∙◌, append_assoc, length-append, arith}
use Rattle.std.specs.Prelude.{slice_get, ◌==◌}
use Rattle.std.specs.Global.{Vec}
use Rattle.std.specs.List.{flat_map}
use Rattle.std.specs.BTreeMap.{BTreeMap}
use Rattle.text_model.specs.Text.{Bytes}
use Rattle.text_model.specs.Id.{Id, IsId}
use Rattle.text_model.proofs.Elements.{drop_next}
use Rattle.hg_model.specs.Delta.{whole_delta}
use Rattle.hg_model.specs.Revision.{Group, Changesets, Manifests, FilesAt, Revision}
use Rattle.hg_model.specs.Chunk.{chunk_text, magic_text}
use Rattle.hg_model.specs.Bundle.{FileGroup, entry_payload, group_text, bundle_text, file_group_text}
use Rattle.hg_model.proofs.ChunkLemmas.{length-chunk}
use Rattle.hg_model.proofs.ParentOrder.{manifest_order-ids, file_order-ids}
use Rattle.hg_store.specs.Known.{AreAdded, text_of}
use Rattle.hg_store.proofs.Found.{found}
use Rattle.view_model.specs.Dump.{of_group, written_group, written_bundle, written_file, paths_in}
use Rattle.hg_dump.specs.declared.references.Reference.{Reference}
use Rattle.hg_dump.specs.declared.brought.Brought.{Brought}
use Rattle.hg_dump.specs.Written.{AreParentsOf, AreOf, IsOf, IsHeldIn, entry_over, entry_chunk, chunks_over, base_size, file_part, file_part_of}
use Rattle.hg_dump.specs.Referred.{Referred, or_nothing}
use Rattle.hg_dump.specs.State.{AreBrought, AreFiles, AreRising, referred_in, paths_of}
use Rattle.hg_dump.proofs.EntryLemmas.{group-spelled}
use Rattle.hg_dump.proofs.FileLemmas.{by_path}
use Rattle.hg_dump.proofs.HeldLemmas.{held-text}
use Rattle.hg_dump.proofs.PathLemmas.{file-parts}
use Rattle.text_model.proofs.Options.{some_is}

pub of-list : (known : List Revision) (b : Brought) (rs : List Revision) → AreBrought known b rs → (group : Group) (references : List Reference) → references ≡ (referred_in b group).brought → AreOf known group references (of_group group rs)
of-list known b rs are group references is = subst (λ (l : List Reference). AreOf known group l (of_group group rs)) (sym is) (are group)

-- the parts one after the other are the bundle
pub whole : (known : List Revision) (b : Brought) (rs : List Revision) → AreBrought known b rs → AreRising (paths_of b.files) → (magic one two three four : Bytes) → magic ≡ magic_text
    → one ≡ magic ++ group_text (written_group known Changesets (of_group Changesets rs))
    → two ≡ one ++ group_text (written_group known Manifests (of_group Manifests rs))
    → three ≡ two ++ flat_map (file_part known rs) (paths_of b.files)
    → four ≡ three ++ chunk_text []
    → four ≡ bundle_text (written_bundle known rs)
unfolding bundle_text written_bundle
whole known b rs are rising magic one two three four m e f g h =
    h ∙ ap (λ (x : Bytes). x ++ chunk_text []) (g ∙ (λ i. (f ∙ ap (λ (x : Bytes). x ++ manifests) (e ∙ ap (λ (x : Bytes). x ++ changesets) m)) i ++ file-parts known b.files rs (λ path. are (FilesAt path)) rising i))
    ∙ regroup magic_text changesets manifests (flat_map file_group_text files) (chunk_text [])
  where
    changesets : Bytes
    changesets = group_text (written_group known Changesets (of_group Changesets rs))

    manifests : Bytes
    manifests = group_text (written_group known Manifests (of_group Manifests rs))

    files : List FileGroup
    files = map (written_file known rs) (paths_in rs)

    regroup : (a b c d e : Bytes) → (((a ++ b) ++ c) ++ d) ++ e ≡ a ++ (b ++ (c ++ (d ++ e)))
    regroup a b c d e = simp append_assoc

pub whole-bundle : (known : List Revision) (b : Brought) (rs : List Revision) → AreBrought known b rs → AreRising (paths_of b.files)
    → magic_text ++ group_text (written_group known Changesets (of_group Changesets rs)) ++ group_text (written_group known Manifests (of_group Manifests rs)) ++ flat_map (file_part known rs) (paths_of b.files) ++ chunk_text []
    ≡ bundle_text (written_bundle known rs)
whole-bundle known b rs are rising =
    whole known b rs are rising magic_text (magic_text ++ changesets) (magic_text ++ changesets ++ manifests) (magic_text ++ changesets ++ manifests ++ files) (magic_text ++ changesets ++ manifests ++ files ++ chunk_text []) refl refl refl refl refl
  where
    changesets : Bytes
    changesets = group_text (written_group known Changesets (of_group Changesets rs))

    manifests : Bytes
    manifests = group_text (written_group known Manifests (of_group Manifests rs))

    files : Bytes
    files = flat_map (file_part known rs) (paths_of b.files)

-- the same behind other bytes
pub behind-all : (known : List Revision) (b : Brought) (rs : List Revision) → AreBrought known b rs → AreRising (paths_of b.files) → (out first one two three four : Bytes) → first ≡ out ++ magic_text
    → one ≡ first ++ group_text (written_group known Changesets (of_group Changesets rs))
    → two ≡ one ++ group_text (written_group known Manifests (of_group Manifests rs))
    → three ≡ two ++ flat_map (file_part known rs) (paths_of b.files)
    → four ≡ three ++ chunk_text []
    → four ≡ out ++ bundle_text (written_bundle known rs)
behind-all known b rs are rising out first one two three four m e f g h =
    h ∙ ap (λ (x : Bytes). x ++ chunk_text []) (g ∙ ap (λ (x : Bytes). x ++ files) (f ∙ ap (λ (x : Bytes). x ++ manifests) (e ∙ ap (λ (x : Bytes). x ++ changesets) m)))
    ∙ regroup out magic_text changesets manifests files (chunk_text [])
    ∙ ap (λ (x : Bytes). out ++ x) (whole-bundle known b rs are rising)
  where
    changesets : Bytes
    changesets = group_text (written_group known Changesets (of_group Changesets rs))

    manifests : Bytes
    manifests = group_text (written_group known Manifests (of_group Manifests rs))

    files : Bytes
    files = flat_map (file_part known rs) (paths_of b.files)

    regroup : (o a b c d e : Bytes) → ((((o ++ a) ++ b) ++ c) ++ d) ++ e ≡ o ++ ((((a ++ b) ++ c) ++ d) ++ e)
    regroup o a b c d e = simp append_assoc

-- the references of this turn are those of its path
pub here : (known rs : List Revision) (files : BTreeMap (Vec _) Referred) (key path : Bytes) (own : Referred) (references : List Reference) → AreFiles known files rs → by_path files key ≡ Some own → path ≡ key → references ≡ own.brought
    → AreOf known (FilesAt path) references (of_group (FilesAt path) rs)
here known rs files key path own references are found same is =
    subst (λ (l : List Reference). AreOf known (FilesAt path) l (of_group (FilesAt path) rs)) (ap (λ o. (or_nothing o).brought) (ap (by_path files) same ∙ found) ∙ sym is) (are path)

-- ---- how long they are

pub positive : (n : ℕ) → (n == 0) ≡ false → 0 < n
positive zero e = absurd (true≢false e)
positive (suc n) e = omega arith

-- the parents of a revision that is held
held-parents : (known : List Revision) (group : Group) (r : Revision) → AreAdded known → IsHeldIn known group r → IsId r.p × IsId r.q
held-parents known group r added held = by group held.parents
  where
    ids : IsId (held.revision).p × IsId (held.revision).q
    ids = ((found known group r.node held.revision added held.is_held).added).parents

    by : (g : Group) → AreParentsOf known g r.node held.revision (r.p, r.q) → IsId r.p × IsId r.q
    by Changesets is = subst (λ (x : Id × Id). IsId x.0 × IsId x.1) (sym is) ids
    by Manifests is = subst (λ (x : Id × Id). IsId x.0 × IsId x.1) (sym is) (manifest_order-ids (held.revision).p (held.revision).q ids.0 ids.1)
    by (FilesAt path) is =
        let own = ((found known (FilesAt path) r.node is.revision added is.is_held).added).parents in
        subst (λ (x : Id × Id). IsId x.0 × IsId x.1) (sym is.in_order) (file_order-ids is.meta (is.revision).p (is.revision).q own.0 own.1)

pub entry-size : (known : List Revision) (group : Group) (ref : Reference) (r : Revision) (size n : ℕ) (text : Bytes) → AreAdded known → IsOf known group ref r → IsId ref.node → IsId ref.link
    → text_of known group ref.node ≡ Some text → n ≡ length (whole_delta size text) → n + 84 ≡ length (entry_chunk (entry_over size r))
entry-size known group ref r size n text added is node link at count =
    let parents = held-parents known group r added is.is_held in
    let texts : text ≡ r.text = some_is (sym at ∙ ap (λ (x : Reference). text_of known group x.node) is.reference_is ∙ held-text known group r is.is_held) in
    let delta = whole_delta size r.text in
    omega (
      arith,
      length-chunk (entry_payload (entry_over size r)),
      length-append r.node (r.p ++ (r.q ++ (r.link ++ delta))),
      length-append r.p (r.q ++ (r.link ++ delta)),
      length-append r.q (r.link ++ delta),
      length-append r.link delta,
      node.0,
      ap (λ (x : Reference). length x.node) is.reference_is,
      link.0,
      ap (λ (x : Reference). length x.link) is.reference_is,
      parents.0.0,
      parents.1.0,
      count,
      ap (λ (t : Bytes). length (whole_delta size t)) texts,
    )

pub entry-text : (known : List Revision) (group : Group) (ref : Reference) (r : Revision) (text : Bytes) → IsOf known group ref r → text_of known group ref.node ≡ Some text → text ≡ r.text
entry-text known group ref r text is at = some_is (sym at ∙ ap (λ (x : Reference). text_of known group x.node) is.reference_is ∙ held-text known group r is.is_held)

-- the entry at a place, and those after it
pub chunks-size : (size i : ℕ) (rs : List Revision) (r : Revision) → slice_get rs i ≡ Some r
    → length (chunks_over size (drop i rs)) ≡ length (entry_chunk (entry_over size r)) + length (chunks_over (length r.text) (drop (i + 1) rs))
chunks-size size i rs r at =
    ap (λ (l : List Revision). length (chunks_over size l)) (drop_next rs i r at) ∙ length-append (entry_chunk (entry_over size r)) (chunks_over (length r.text) (drop (i + 1) rs))

pub group-size : (known : List Revision) (group : Group) (rs : List Revision) → length (group_text (written_group known group rs)) ≡ length (chunks_over (base_size known group rs) rs) + 4
group-size known group rs =
    omega (
      arith,
      ap (λ (b : Bytes). length b) (group-spelled known group rs),
      length-append (chunks_over (base_size known group rs) rs) (chunk_text []),
      length-chunk [],
    )

pub file-size : (f : FileGroup) (rs : List Revision) (r : Revision) → length (file_part_of f (r ∷ rs)) ≡ length f.path + 4 + length (group_text f.entries)
file-size f rs r = omega (arith, length-append (chunk_text f.path) (group_text f.entries), length-chunk f.path)

pub bundle-size : (known : List Revision) (b : Brought) (rs : List Revision) → AreBrought known b rs → AreRising (paths_of b.files)
    → length (bundle_text (written_bundle known rs)) ≡ 10 + length (group_text (written_group known Changesets (of_group Changesets rs))) + length (group_text (written_group known Manifests (of_group Manifests rs)))
    + length (flat_map (file_part known rs) (paths_of b.files))
bundle-size known b rs are rising =
    let one = group_text (written_group known Changesets (of_group Changesets rs)) in
    let two = group_text (written_group known Manifests (of_group Manifests rs)) in
    let files = flat_map (file_part known rs) (paths_of b.files) in
    omega (
      arith,
      ap (λ (l : Bytes). length l) (whole known b rs are rising magic_text (magic_text ++ one) ((magic_text ++ one) ++ two) (((magic_text ++ one) ++ two) ++ files) ((((magic_text ++ one) ++ two) ++ files) ++ chunk_text []) refl refl refl refl refl),
      length-append (((magic_text ++ one) ++ two) ++ files) (chunk_text []),
      length-append ((magic_text ++ one) ++ two) files,
      length-append (magic_text ++ one) two,
      length-append magic_text one,
      length-chunk [],
    )
