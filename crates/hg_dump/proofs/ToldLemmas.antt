-- What is known of the parts of a bundle whose entries make the texts that are known.
use Rattle.std.proofs.Common.{◌≡◌, ◌≢◌, ◌<◌, ◌≤◌, ◌+◌, ◌^◌, ◌++◌, ℕ, Bool, true, false, cond, ◌==◌, ◌&&◌, List, [], ◌∷◌, length, take, drop, Option, Some, None, Bor, refl, sym, ap, subst, ◌∙◌, arith, append-nil, append_assoc, length-append}
use Rattle.std.specs.Prelude.{option_map, IfSome}
use Rattle.std.proofs.lemmas.Bool.{and_parts, eqb-true}
use Rattle.std.proofs.lemmas.List.{append_cancel_left, nil_from_length, take_at, drop_at, take-append-drop, length-take-le}
use Rattle.byteorder.specs.Endian.{big_bytes}
use Rattle.text_model.specs.Lists.{Each}
use Rattle.text_model.specs.Text.{Bytes}
use Rattle.text_model.specs.Id.{IsId}
use Rattle.text_model.proofs.Options.{none_some, some_is}
use Rattle.hg_model.specs.Revision.{Group, Changesets, Manifests, FilesAt, Revision, revision_of}
use Rattle.hg_model.specs.Chunk.{chunk_text, field_of, magic_text}
use Rattle.hg_model.specs.Delta.{Hunk, IsHunk, Patches, number32, hunk_text, delta_text, first_hunk, patched_text, patched_from, whole_delta}
use Rattle.hg_model.specs.Bundle.{BundleEntry, FileGroup, IsBundleEntry, IsSize, entry_payload, group_text}
use Rattle.hg_model.proofs.HunkLemmas.{first_hunk-hunk_text, length-number32}
use Rattle.hg_model.proofs.ChunkLemmas.{number_of_chunk, same_chunk, field_of-length}
use Rattle.hg_model.proofs.ListingLemmas.{group_text-cons, group_text-nil, files_text-cons, bundle_text-parts, files_text}
use Rattle.hg_model.proofs.BundleEntryLemmas.{length-payload}
use Rattle.hg_store.specs.Known.{text_of}
use Rattle.hg_dump.specs.Begins.{HasFront, IsBehind}
use Rattle.hg_dump.specs.Told.{TellsText, TellsTexts}
use Rattle.hg_dump.specs.ToldParts.{TellsDelta, TellsGroup, TellsFiles}
use Rattle.hg_dump.proofs.StripLemmas.{hunk-spelled}

-- ---- a delta of one hunk

length-hunk : (h : Hunk) → length (hunk_text h) ≡ 12 + length h.bytes
length-hunk h =
    omega (
      arith,
      length-append (number32 h.start ++ number32 h.finish ++ number32 (length h.bytes)) h.bytes,
      length-append (number32 h.start ++ number32 h.finish) (number32 (length h.bytes)),
      length-append (number32 h.start) (number32 h.finish),
      length-number32 h.start,
      length-number32 h.finish,
      length-number32 (length h.bytes),
    )

-- a delta that is a hunk's text has no other hunk
one_hunk : (hunks : List Hunk) (h : Hunk) → Each IsHunk hunks → IsHunk h → delta_text hunks ≡ hunk_text h → hunks ≡ h ∷ []
one_hunk [] h each is same = absurd (omega (arith, ap length same, length-hunk h))
one_hunk (x ∷ xs) h each is same =
    let read = some_is (sym (first_hunk-hunk_text x (delta_text xs) each.0) ∙ ap first_hunk (same ∙ sym (append-nil (hunk_text h))) ∙ first_hunk-hunk_text h [] is) in
    (λ i. (read i).0 ∷ none xs (ap (λ (p : Hunk × Bytes). p.1) read) i)
  where
    none : (xs : List Hunk) → delta_text xs ≡ [] → xs ≡ []
    none [] e = refl
    none (y ∷ ys) e = absurd (omega (arith, ap length e, length-append (hunk_text y) (delta_text ys), length-hunk y))

-- a text of this length that the hunk makes is the hunk's bytes
made_text : (base bytes text : Bytes) (size : ℕ) → text ≡ patched_text base (record { start = 0; finish = size; bytes = bytes } ∷ []) → length bytes ≡ length text → bytes ≡ text
unfolding patched_from
made_text base bytes text size made same =
    let rest : drop size base ≡ [] = nil_from_length (drop size base) (omega (arith, ap length made, same, length-append bytes (drop size base))) in
    sym (made ∙ ap (λ (x : Bytes). bytes ++ x) rest ∙ append-nil bytes)

pub hunk-told : (base delta text bytes : Bytes) (size : ℕ) → Patches base delta text → size < 2 ^ 32 → length text < 2 ^ 32 → length bytes ≡ length text
    → delta ≡ hunk_text (record { start = 0; finish = size; bytes = bytes }) → bytes ≡ text
hunk-told base delta text bytes size p fits short same is =
    let h : Hunk = record { start = 0; finish = size; bytes = bytes } in
    let one = one_hunk p.hunks h p.each (omega arith, fits, omega (arith, short, same)) (sym p.spells ∙ is) in
    made_text base bytes text size (p.result ∙ ap (λ (hs : List Hunk). patched_text base hs) one) same

-- the delta that replaces a whole base is one, unless both are empty
pub whole-size : (size : ℕ) (text : Bytes) → 0 < size + length text → length (whole_delta size text) ≡ 12 + length text
whole-size size text some = by (size == 0 && length text == 0) refl
  where
    h : Hunk
    h = record { start = 0; finish = size; bytes = text }

    by : (b : Bool) → (size == 0 && length text == 0) ≡ b → length (whole_delta size text) ≡ 12 + length text
    by false e = ap (λ (b : Bool). length (cond b [] (hunk_text h))) e ∙ length-hunk h
    by true e =
        let parts = and_parts (size == 0) (length text == 0) e in
        absurd (omega (arith, some, eqb-true _ _ parts.0, eqb-true _ _ parts.1))

-- ---- what follows the three numbers of a hunk

-- there are as many bytes as the text has, and they are the text
pub hunk-behind : (bytes new text : Bytes) (size : ℕ) → TellsDelta bytes (12 + length text) text → size < 2 ^ 32 → length text < 2 ^ 32
    → HasFront bytes (big_bytes 4 0 ++ big_bytes 4 size ++ big_bytes 4 (length text)) new
    → (length text ≤ length new) × HasFront new text (drop (length text) new)
hunk-behind bytes new text size told fits short has =
    let n = length text in
    let front = big_bytes 4 0 ++ big_bytes 4 size ++ big_bytes 4 n in
    let enough : n ≤ length new = omega (arith, ap length (sym has ∙ told.spells), length-append front new, length-append told.delta told.tail, told.size_is) in
    let part = length-take-le n new enough in
    let split : new ≡ take n new ++ drop n new = sym (take-append-drop n new) in
    let whole : bytes ≡ (front ++ take n new) ++ drop n new = has ∙ ap (λ (x : Bytes). front ++ x) split ∙ sym (append_assoc front (take n new) (drop n new)) in
    let delta : told.delta ≡ front ++ take n new =
    sym (take_at told.delta told.tail (12 + n) told.size_is) ∙ ap (take (12 + n)) (sym told.spells ∙ whole) ∙ take_at (front ++ take n new) (drop n new) (12 + n) (omega (arith, length-append front (take n new), part)) in
    let hunk : told.delta ≡ hunk_text (record { start = 0; finish = size; bytes = take n new }) =
    delta ∙ ap (λ (k : ℕ). big_bytes 4 0 ++ big_bytes 4 size ++ big_bytes 4 k ++ take n new) (sym part) ∙ hunk-spelled size (take n new) in
    let same = hunk-told told.base told.delta text (take n new) size told.makes fits short part hunk in
    (enough, split ∙ ap (λ (x : Bytes). x ++ drop n new) same)

-- ---- the entries of a group

-- the text that an entry makes is the one that is known
known-text : (known : List Revision) (group : Group) (e : BundleEntry) (text : Bytes) (told : TellsText known group e) → text_of known group e.node ≡ Some text → told.text ≡ text
known-text known group e text told is = by (revision_of known group e.node) refl is
  where
    by : (o : Option Revision) → revision_of known group e.node ≡ o → option_map (λ (r : Revision). r.text) o ≡ Some text → told.text ≡ text
    by None at s = absurd (none_some s)
    by (Some r) at s = sym (told.known_is r at) ∙ some_is s

-- the delta behind the ids of an entry that is in the bundle
entry-delta : (e : BundleEntry) (bytes delta more node p q link : Bytes) (n : ℕ) → IsBundleEntry e → IsSize (entry_payload e)
    → bytes ≡ chunk_text (entry_payload e) ++ more → HasFront bytes (big_bytes 4 (n + 84) ++ node ++ p ++ q ++ link) delta
    → IsId node × IsId p × IsId q × IsId link → n + 84 < 2 ^ 32 → (length e.delta ≡ n) × (e.node ≡ node) × (delta ≡ e.delta ++ more)
unfolding chunk_text
entry-delta e bytes delta more node p q link n is fits spells has ids small =
    let field = number_of_chunk (n + 84) ((node ++ p ++ q ++ link) ++ delta) (entry_payload e) more small (omega (arith, fits)) (sym (has ∙ regroup (big_bytes 4 (n + 84)) node p q link delta) ∙ spells) in
    let size = length-payload e is in
    let long = field_of-length (entry_payload e) (omega (arith, size)) in
    let same : (node ++ p ++ q ++ link) ++ delta ≡ entry_payload e ++ more =
    append_cancel_left (big_bytes 4 (n + 84)) ((node ++ p ++ q ++ link) ++ delta) (entry_payload e ++ more)
    (sym (has ∙ regroup (big_bytes 4 (n + 84)) node p q link delta) ∙ spells ∙ append_assoc (big_bytes 4 (field_of (entry_payload e))) (entry_payload e) more ∙ ap (λ (k : ℕ). big_bytes 4 k ++ (entry_payload e ++ more)) (sym field)) in
    let own : entry_payload e ++ more ≡ (e.node ++ e.p ++ e.q ++ e.link) ++ (e.delta ++ more) = spread e.node e.p e.q e.link e.delta more in
    let first : node ++ ((p ++ q ++ link) ++ delta) ≡ e.node ++ (e.p ++ e.q ++ e.link ++ (e.delta ++ more)) = parted node p q link delta ∙ same ∙ own ∙ sym (parted e.node e.p e.q e.link (e.delta ++ more)) in (
      omega (arith, field, size, long),
      sym (take_at e.node ((e.p ++ e.q ++ e.link) ++ (e.delta ++ more)) 20 is.node) ∙ ap (take 20) (sym first) ∙ take_at node ((p ++ q ++ link) ++ delta) 20 ids.0.0,
      sym (drop_at (node ++ p ++ q ++ link) delta 80 (four node p q link ids.0.0 ids.1.0 ids.2.0 ids.3.0)) ∙ ap (drop 80) (same ∙ own) ∙ drop_at (e.node ++ e.p ++ e.q ++ e.link) (e.delta ++ more) 80 (four e.node e.p e.q e.link is.node is.p is.q is.link),
    )
  where
    regroup : (a b c d f g : Bytes) → (a ++ b ++ c ++ d ++ f) ++ g ≡ a ++ ((b ++ c ++ d ++ f) ++ g)
    regroup a b c d f g = simp append_assoc

    spread : (b c d f g h : Bytes) → (b ++ (c ++ (d ++ (f ++ g)))) ++ h ≡ (b ++ c ++ d ++ f) ++ (g ++ h)
    spread b c d f g h = simp append_assoc

    parted : (b c d f g : Bytes) → b ++ ((c ++ d ++ f) ++ g) ≡ (b ++ c ++ d ++ f) ++ g
    parted b c d f g = simp append_assoc

    four : (b c d f : Bytes) → length b ≡ 20 → length c ≡ 20 → length d ≡ 20 → length f ≡ 20 → length (b ++ c ++ d ++ f) ≡ 80
    four b c d f i j k l = omega (arith, i, j, k, l, length-append (b ++ c ++ d) f, length-append (b ++ c) d, length-append b c)

-- what is told of the delta behind a header that was found
pub delta-told : (known : List Revision) (group : Group) (bytes delta tail node p q link text : Bytes) (n : ℕ) → TellsGroup known group bytes tail
    → HasFront bytes (big_bytes 4 (n + 84) ++ node ++ p ++ q ++ link) delta → IsId node × IsId p × IsId q × IsId link → n + 84 < 2 ^ 32
    → text_of known group node ≡ Some text → TellsDelta delta n text
unfolding chunk_text
delta-told known group bytes delta tail node p q link text n told has ids small at = by told.entries told.spells told.are told.tell
  where
    by : (es : List BundleEntry) → bytes ≡ group_text es ++ tail → Each (λ e. IsBundleEntry e × IsSize (entry_payload e)) es → Each (TellsText known group) es → TellsDelta delta n text
    by [] spells are tell =
        absurd (omega (
          arith,
          number_of_chunk (n + 84) ((node ++ p ++ q ++ link) ++ delta) [] tail small (omega arith)
              (sym (has ∙ regroup (big_bytes 4 (n + 84)) node p q link delta) ∙ spells ∙ ap (λ (x : Bytes). x ++ tail) group_text-nil),
        ))
      where
        regroup : (a b c d f g : Bytes) → (a ++ b ++ c ++ d ++ f) ++ g ≡ a ++ ((b ++ c ++ d ++ f) ++ g)
        regroup a b c d f g = simp append_assoc
    by (e ∷ es) spells are tell =
        let more = group_text es ++ tail in
        let own = entry-delta e bytes delta more node p q link n are.0.0 are.0.1 (spells ∙ group_text-cons e es tail) has ids small in
        let same = known-text known group e text tell.0 (ap (text_of known group) own.1 ∙ at) in
        record { base = tell.0.base; delta = e.delta; tail = more; spells = own.2; size_is = own.0; makes = subst (λ (t : Bytes). Patches tell.0.base e.delta t) same tell.0.makes }

-- what is told of the group behind an entry that was found
pub told-behind : (known : List Revision) (group : Group) (bytes rest tail : Bytes) (e : BundleEntry) → TellsGroup known group bytes tail → HasFront bytes (chunk_text (entry_payload e)) rest
    → 0 < length (entry_payload e) → length (entry_payload e) + 4 < 2 ^ 32 → TellsGroup known group rest tail
told-behind known group bytes rest tail e told has some small = by told.entries told.spells told.are told.tell
  where
    fits : field_of (entry_payload e) < 2 ^ 32
    fits = omega (arith, small, field_of-length (entry_payload e) some)

    by : (es : List BundleEntry) → bytes ≡ group_text es ++ tail → Each (λ x. IsBundleEntry x × IsSize (entry_payload x)) es → Each (TellsText known group) es → TellsGroup known group rest tail
    by [] spells are tell =
        let same = same_chunk (entry_payload e) [] rest tail fits (omega arith) (sym has ∙ spells ∙ ap (λ (x : Bytes). x ++ tail) group_text-nil) in
        absurd (omega (arith, some, ap length same.0))
    by (x ∷ xs) spells are tell =
        let same = same_chunk (entry_payload e) (entry_payload x) rest (group_text xs ++ tail) fits (omega (arith, are.0.1)) (sym has ∙ spells ∙ group_text-cons x xs tail) in
        record { entries = xs; spells = same.1; are = are.1; tell = tell.1 }

-- the tail stands behind the empty chunk
pub told-tail : (known : List Revision) (group : Group) (bytes rest tail : Bytes) → TellsGroup known group bytes tail → HasFront bytes (chunk_text []) rest → rest ≡ tail
told-tail known group bytes rest tail told has = by told.entries told.spells told.are
  where
    by : (es : List BundleEntry) → bytes ≡ group_text es ++ tail → Each (λ e. IsBundleEntry e × IsSize (entry_payload e)) es → rest ≡ tail
    by [] spells are = append_cancel_left (chunk_text []) rest tail (sym has ∙ spells ∙ ap (λ (x : Bytes). x ++ tail) group_text-nil)
    by (e ∷ es) spells are =
        let same = same_chunk [] (entry_payload e) rest (group_text es ++ tail) (omega arith) (omega (arith, are.0.1)) (sym has ∙ spells ∙ group_text-cons e es tail) in
        absurd (omega (arith, ap length same.0, length-payload e are.0.0))

-- the same of an answer that the empty chunk is there
pub told-end : (known : List Revision) (group : Group) (first bytes : Bytes) (behind : Option (Bor Bytes)) → ((tail : Bytes) → TellsGroup known group first tail → TellsGroup known group bytes tail)
    → IsBehind bytes (chunk_text []) behind → IfSome behind (λ rest. (tail : Bytes) → TellsGroup known group first tail → rest.now ≡ tail)
told-end known group first bytes None left is = tt
told-end known group first bytes (Some rest) left is = λ tail told. told-tail known group bytes rest.now tail (left tail told) is

-- ---- the files

-- a group that is told, and the paths behind it
pub record TellsFile (known : List Revision) (path bytes : Bytes) : Type 0 where
  pub tail : Bytes
  pub group : TellsGroup known (FilesAt path) bytes tail
  pub files : TellsFiles known tail

-- what is told of the group behind a path that was found
pub told-file : (known : List Revision) (bytes path rest : Bytes) → TellsFiles known bytes → HasFront bytes (chunk_text path) rest → 0 < length path → length path + 4 < 2 ^ 32 → TellsFile known path rest
told-file known bytes path rest told has some small = by told.files told.spells told.are told.tell
  where
    fits : field_of path < 2 ^ 32
    fits = omega (arith, small, field_of-length path some)

    by : (fs : List FileGroup) → bytes ≡ files_text fs → Each (λ f. (f.path ≢ []) × IsSize f.path × Each (λ e. IsBundleEntry e × IsSize (entry_payload e)) f.entries) fs
        → Each (λ f. Each (TellsText known (FilesAt f.path)) f.entries) fs → TellsFile known path rest
    by [] spells are tell =
        let same = same_chunk path [] rest [] fits (omega arith) (sym has ∙ spells ∙ sym (append-nil (chunk_text []))) in
        absurd (omega (arith, some, ap length same.0))
    by (f ∷ fs) spells are tell =
        let same = same_chunk path f.path rest (group_text f.entries ++ files_text fs) fits (omega (arith, are.0.1)) (sym has ∙ spells ∙ files_text-cons f fs) in
        record {
          tail = files_text fs;
          group = record { entries = f.entries; spells = same.1; are = are.0.2; tell = subst (λ (p : Bytes). Each (TellsText known (FilesAt p)) f.entries) (sym same.0) tell.0 };
          files = record { files = fs; spells = refl; are = are.1; tell = tell.1 };
        }

pub told-left : (known : List Revision) (path bytes : Bytes) (behind : Option (Bor Bytes)) → TellsFile known path bytes
    → IfSome behind (λ rest. (tail : Bytes) → TellsGroup known (FilesAt path) bytes tail → rest.now ≡ tail) → IfSome behind (λ rest. TellsFiles known rest.now)
told-left known path bytes None f is = tt
told-left known path bytes (Some rest) f is = subst (λ (x : Bytes). TellsFiles known x) (sym (is f.tail f.group)) f.files

-- ---- the whole

module _ (known : List Revision) (bytes : Bytes) (told : TellsTexts known bytes) where
  abbrev pub files-part : Bytes
  files-part = files_text (told.bundle).files

  abbrev pub manifests-part : Bytes
  manifests-part = group_text (told.bundle).manifests ++ files-part

  pub told-changesets : (rest : Bytes) → HasFront bytes magic_text rest → TellsGroup known Changesets rest manifests-part
  told-changesets rest has = record {
    entries = (told.bundle).changesets;
    spells = append_cancel_left magic_text rest (group_text (told.bundle).changesets ++ manifests-part) (sym has ∙ (told.is).spells ∙ bundle_text-parts told.bundle);
    are = (told.is).changesets;
    tell = told.changesets;
  }

  pub told-manifests : (rest : Bytes) → rest ≡ manifests-part → TellsGroup known Manifests rest files-part
  told-manifests rest is = record { entries = (told.bundle).manifests; spells = is; are = (told.is).manifests; tell = told.manifests }

  pub told-files : (rest : Bytes) → rest ≡ files-part → TellsFiles known rest
  told-files rest is = record { files = (told.bundle).files; spells = is; are = (told.is).files; tell = told.files }
