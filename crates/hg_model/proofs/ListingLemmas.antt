-- A bundle within the limits is listed without a refusal, a line for each of its entries.
use Rattle.std.proofs.Common.{◌≡◌, ◌≢◌, ℕ, zero, suc, ◌+◌, ◌<◌, ◌≤◌, ◌^◌, Bool, true, false, List, [], ◌∷◌, ◌++◌, length, Option, None, Some, refl, sym, ap, ◌∙◌, subst, arith, append_assoc, append-nil, length-append}
use Rattle.std.specs.List.{flat_map}
use Rattle.std.proofs.lemmas.Bool.Decides.{nat_tests}
use Rattle.text_model.specs.Lists.{Each}
use Rattle.text_model.specs.Text.{Bytes}
use Rattle.text_model.specs.Fault.{input_limit}
use Rattle.text_model.proofs.FaultLemmas.{reach-within}
use Rattle.hg_model.specs.Chunk.{field_of, chunk_text, magic_text, chunk_fault, magic_fault}
use Rattle.hg_model.specs.Bundle.{BundleEntry, FileGroup, Bundle, entry_payload, group_text, file_group_text, bundle_text, IsBundleEntry, IsSize, IsBundle, AreShort, delta_limit, path_limit, IsWithinLimits, Place, InGroup, AtPath, Framing, framed_end, put_item, framing_from, framing_fault, bundle_framing, listing_fault, length_limit, place_after, place_after_empty, is_path, entry_of, entry_line, group_lines, bundle_lines, listed_line, listing, is_short_at}
use Rattle.hg_model.specs.Revision.{Group, Changesets, Manifests, FilesAt}
use Rattle.hg_model.proofs.ChunkLemmas.{length-chunk}
use Rattle.hg_model.proofs.FramingLemmas.{framing_at, framing_empty, framing_item, framing_behind_magic}
use Rattle.hg_model.proofs.TakenLemmas.{chunk_none}
use Rattle.hg_model.proofs.BundleEntryLemmas.{length-payload, entry_of-payload}

-- ---- a chunk

-- an item that a chunk with a payload is
framing_payload : (n : ℕ) (place : Place) (first : Bool) (at : ℕ) (payload rest : Bytes) → payload ≢ [] → field_of payload < 2 ^ 31
    → chunk_fault (length_limit place) at (chunk_text payload ++ rest) ≡ None
    → framing_from (suc n) place first at (chunk_text payload ++ rest)
    ≡ put_item (record { place = place; first = first; at = at; payload = payload })
    (framing_from n (place_after place payload) (is_path place) (at + (length payload + 4)) rest)
framing_payload n place first at [] rest some small fits = absurd (some refl)
framing_payload n place first at (byte ∷ bytes) rest some small fits = framing_item n place first at byte bytes rest small fits

limit_small : (place : Place) → length_limit place < 2 ^ 31
limit_small (InGroup group) = omega arith
limit_small AtPath = omega arith

-- ---- what a framing begins with

-- `f` begins with these lines, and is refused as `g` is, which has the lines behind them
pub record Leads (f g : Framing) (lines : Bytes) : Type 0 where
  pub refused : framing_fault f ≡ framing_fault g
  pub listed : listing f.items ≡ lines ++ listing g.items

leads_then : (f g h : Framing) (xs ys : Bytes) → Leads f g xs → Leads g h ys → Leads f h (xs ++ ys)
leads_then f g h xs ys front back = record {
  refused = front.refused ∙ back.refused;
  listed = front.listed ∙ ap (λ (l : Bytes). xs ++ l) back.listed ∙ sym (append_assoc xs ys (listing h.items));
}

-- an item that isn't too short leads with its line
item_leads : (place : Place) (first : Bool) (at : ℕ) (payload : Bytes) (f : Framing) → is_short_at place payload ≡ false
    → Leads (put_item (record { place = place; first = first; at = at; payload = payload }) f) f (listed_line place (entry_of payload))
item_leads place first at payload f long = record { refused = rw long refl; listed = refl }

not_empty : (payload : Bytes) → 0 < length payload → payload ≢ []
not_empty [] some e = absurd (omega arith)
not_empty (byte ∷ bytes) some e = cc

long_enough : (g : Group) (payload : Bytes) → 80 ≤ length payload → is_short_at (InGroup g) payload ≡ false
long_enough g payload long = grind (arith, nat_tests)

entry_leads : (fuel : ℕ) (g : Group) (first : Bool) (at : ℕ) (e : BundleEntry) (rest : Bytes) → IsBundleEntry e → field_of (entry_payload e) ≤ delta_limit
    → at + length (chunk_text (entry_payload e) ++ rest) ≤ input_limit
    → Leads (framing_from (suc fuel) (InGroup g) first at (chunk_text (entry_payload e) ++ rest)) (framing_from fuel (InGroup g) false (at + (length (entry_payload e) + 4)) rest) (entry_line g e)
entry_leads fuel g first at e rest is fits within =
    let size = length-payload e is in
    let behind = framing_from fuel (InGroup g) false (at + (length (entry_payload e) + 4)) rest in
    let item = framing_payload fuel (InGroup g) first at (entry_payload e) rest (not_empty (entry_payload e) (omega (arith, size))) (omega (arith, fits)) (chunk_none delta_limit at (entry_payload e) rest fits (omega arith) within) in
    subst (λ (f : Framing). Leads f behind (entry_line g e)) (sym item)
    (subst (λ (x : BundleEntry). Leads (put_item (record { place = InGroup g; first = first; at = at; payload = entry_payload e }) behind) behind (entry_line g x)) (entry_of-payload e is)
    (item_leads (InGroup g) first at (entry_payload e) behind (long_enough g (entry_payload e) (omega (arith, size)))))

path_leads : (fuel : ℕ) (first : Bool) (at : ℕ) (path rest : Bytes) → path ≢ [] → field_of path ≤ path_limit → at + length (chunk_text path ++ rest) ≤ input_limit
    → Leads (framing_from (suc fuel) AtPath first at (chunk_text path ++ rest)) (framing_from fuel (InGroup (FilesAt path)) true (at + (length path + 4)) rest) []
path_leads fuel first at path rest some fits within =
    let behind = framing_from fuel (InGroup (FilesAt path)) true (at + (length path + 4)) rest in
    let item = framing_payload fuel AtPath first at path rest some (omega (arith, fits)) (chunk_none path_limit at path rest fits (omega arith) within) in
    subst (λ (f : Framing). Leads f behind []) (sym item) (item_leads AtPath first at path behind refl)

-- `f` has these lines, and then goes on with the rest, at its place
pub record GoesTo (f : Framing) (next : Option Place) (rest lines : Bytes) : Type 0 where
  pub more : ℕ
  pub first : Bool
  pub at : ℕ
  pub enough : length rest ≤ more
  pub within : at + length rest ≤ input_limit
  pub leads : Leads f (framing_at (suc more) first at next rest) lines

-- the empty chunk that ends a group
end_goes : (fuel : ℕ) (place : Place) (first : Bool) (at : ℕ) (rest : Bytes) → length (chunk_text [] ++ rest) ≤ fuel → at + length (chunk_text [] ++ rest) ≤ input_limit
    → GoesTo (framing_from (suc fuel) place first at (chunk_text [] ++ rest)) (place_after_empty place) rest []
end_goes zero place first at rest enough within = absurd (omega (arith, length-append (chunk_text []) rest, length-chunk []))
end_goes (suc more) place first at rest enough within =
    let size = length-append (chunk_text []) rest in
    let next = framing_empty (suc more) place first at rest (chunk_none (length_limit place) at [] rest (omega arith) (limit_small place) within) in record {
      more = more;
      first = true;
      at = at + 4;
      enough = omega (arith, size, length-chunk []);
      within = omega (arith, size, length-chunk []);
      leads = record { refused = ap framing_fault next; listed = ap (λ (f : Framing). listing f.items) next };
    }

-- lines before what goes on
goes_behind : (f g : Framing) (next : Option Place) (rest xs ys : Bytes) → Leads f g xs → GoesTo g next rest ys → GoesTo f next rest (xs ++ ys)
goes_behind f g next rest xs ys front back = record {
  more = back.more;
  first = back.first;
  at = back.at;
  enough = back.enough;
  within = back.within;
  leads = leads_then f g (framing_at (suc back.more) back.first back.at next rest) xs ys front back.leads;
}

pub group_text-cons : (e : BundleEntry) (es : List BundleEntry) (rest : Bytes) → group_text (e ∷ es) ++ rest ≡ chunk_text (entry_payload e) ++ (group_text es ++ rest)
unfolding group_text
group_text-cons e es rest =
    ap (λ (l : Bytes). l ++ rest) (append_assoc (chunk_text (entry_payload e)) (flat_map (λ x. chunk_text (entry_payload x)) es) (chunk_text []))
    ∙ append_assoc (chunk_text (entry_payload e)) (flat_map (λ x. chunk_text (entry_payload x)) es ++ chunk_text []) rest

pub group_text-nil : group_text [] ≡ chunk_text []
unfolding group_text
group_text-nil = refl

group_goes : (fuel : ℕ) (g : Group) (first : Bool) (at : ℕ) (es : List BundleEntry) (rest : Bytes) → Each (λ e. IsBundleEntry e × IsSize (entry_payload e)) es → AreShort es
    → length (group_text es ++ rest) ≤ fuel → at + length (group_text es ++ rest) ≤ input_limit
    → GoesTo (framing_from (suc fuel) (InGroup g) first at (group_text es ++ rest)) (place_after_empty (InGroup g)) rest (group_lines g es)
group_goes fuel g first at [] rest are short enough within =
    let text : group_text [] ++ rest ≡ chunk_text [] ++ rest = ap (λ (l : Bytes). l ++ rest) group_text-nil in
    subst (λ (l : Bytes). GoesTo (framing_from (suc fuel) (InGroup g) first at l) (place_after_empty (InGroup g)) rest []) (sym text)
    (end_goes fuel (InGroup g) first at rest (rw text at enough) (rw text at within))
group_goes zero g first at (e ∷ es) rest are short enough within =
    absurd (omega (arith, ap length (group_text-cons e es rest), length-append (chunk_text (entry_payload e)) (group_text es ++ rest), length-chunk (entry_payload e)))
group_goes (suc fuel) g first at (e ∷ es) rest are short enough within =
    let text = group_text-cons e es rest in
    let size = length-append (chunk_text (entry_payload e)) (group_text es ++ rest) in
    let chunk = length-chunk (entry_payload e) in
    let longer = ap length text in
    let behind = group_goes fuel g false (at + (length (entry_payload e) + 4)) es rest are.1 short.1 (omega (arith, longer, size, chunk)) (omega (arith, longer, size, chunk)) in
    subst (λ (l : Bytes). GoesTo (framing_from (suc (suc fuel)) (InGroup g) first at l) (place_after_empty (InGroup g)) rest (entry_line g e ++ group_lines g es)) (sym text)
    (goes_behind _ _ (place_after_empty (InGroup g)) rest (entry_line g e) (group_lines g es)
    (entry_leads (suc fuel) g first at e (group_text es ++ rest) are.0.0 short.0 (rw text at within)) behind)

-- what goes on to a place, and what is listed from there
goes_then : (f g : Framing) (place : Place) (rest xs ys : Bytes) → GoesTo f (Some place) rest xs
    → ((fuel : ℕ) (first : Bool) (at : ℕ) → length rest ≤ fuel → at + length rest ≤ input_limit → Leads (framing_from (suc fuel) place first at rest) g ys)
    → Leads f g (xs ++ ys)
goes_then f g place rest xs ys front back =
    leads_then f (framing_from (suc front.more) place front.first front.at rest) g xs ys front.leads (back front.more front.first front.at front.enough front.within)

-- ---- the file groups, and the end

abbrev pub files_text : List FileGroup → Bytes
files_text fs = flat_map file_group_text fs ++ chunk_text []

abbrev files_lines : List FileGroup → Bytes
files_lines fs = flat_map (λ f. group_lines (FilesAt f.path) f.entries) fs

pub files_text-cons : (f : FileGroup) (fs : List FileGroup) → files_text (f ∷ fs) ≡ chunk_text f.path ++ (group_text f.entries ++ files_text fs)
files_text-cons f fs =
    append_assoc (file_group_text f) (flat_map file_group_text fs) (chunk_text [])
    ∙ append_assoc (chunk_text f.path) (group_text f.entries) (files_text fs)

files_lead : (fuel : ℕ) (first : Bool) (at : ℕ) (fs : List FileGroup)
    → Each (λ f. (f.path ≢ []) × IsSize f.path × Each (λ e. IsBundleEntry e × IsSize (entry_payload e)) f.entries) fs
    → Each (λ f. (field_of f.path ≤ path_limit) × AreShort f.entries) fs
    → length (files_text fs) ≤ fuel → at + length (files_text fs) ≤ input_limit
    → Leads (framing_from (suc fuel) AtPath first at (files_text fs)) (framed_end None) (files_lines fs)
files_lead fuel first at [] are short enough within =
    let text = append-nil (chunk_text []) in
    let all = end_goes fuel AtPath first at [] (rw text enough) (rw text within) in
    subst (λ (l : Bytes). Leads (framing_from (suc fuel) AtPath first at l) (framed_end None) []) text all.leads
files_lead zero first at (f ∷ fs) are short enough within =
    absurd (omega (arith, ap length (files_text-cons f fs), length-append (chunk_text f.path) (group_text f.entries ++ files_text fs), length-chunk f.path))
files_lead (suc fuel) first at (f ∷ fs) are short enough within =
    let text = files_text-cons f fs in
    let longer = ap length text in
    let size = length-append (chunk_text f.path) (group_text f.entries ++ files_text fs) in
    let chunk = length-chunk f.path in
    let group = group_goes fuel (FilesAt f.path) true (at + (length f.path + 4)) f.entries (files_text fs) are.0.2 short.0.1 (omega (arith, longer, size, chunk)) (omega (arith, longer, size, chunk)) in
    subst (λ (l : Bytes). Leads (framing_from (suc (suc fuel)) AtPath first at l) (framed_end None) (files_lines (f ∷ fs))) (sym text)
    (leads_then _ _ (framed_end None) [] (files_lines (f ∷ fs))
    (path_leads (suc fuel) first at f.path (group_text f.entries ++ files_text fs) are.0.0 short.0.0 (rw text at within))
    (goes_then _ (framed_end None) AtPath (files_text fs) (group_lines (FilesAt f.path) f.entries) (files_lines fs) group
    (λ more next to room fits. files_lead more next to fs are.1 short.1 room fits)))

-- ---- a whole bundle

magic_none : (rest : Bytes) → magic_fault (magic_text ++ rest) ≡ None
unfolding magic_fault
magic_none rest = rw (reach-within (length (magic_text ++ rest)) 6 (omega arith) (omega arith)) refl

pub bundle_text-parts : (b : Bundle) → bundle_text b ≡ magic_text ++ (group_text b.changesets ++ (group_text b.manifests ++ files_text b.files))
unfolding bundle_text
bundle_text-parts b = refl

behind_magic : (b : Bundle) (rest : Bytes) → bundle_text b ≡ magic_text ++ rest → (lines : Bytes) → length (bundle_text b) ≤ input_limit
    → ((fuel : ℕ) → length rest ≤ fuel → 6 + length rest ≤ input_limit → Leads (framing_from (suc fuel) (InGroup Changesets) true 6 rest) (framed_end None) lines)
    → Leads (bundle_framing (bundle_text b)) (framed_end None) lines
behind_magic b rest text lines within leads =
    let size : length (bundle_text b) ≡ 6 + length rest = ap length text ∙ omega arith in
    let all = ap bundle_framing text ∙ framing_behind_magic rest (magic_none rest) in
    subst (λ (f : Framing). Leads f (framed_end None) lines) (sym all) (leads (suc (suc (suc (suc (suc (length rest)))))) (omega arith) (omega (arith, size, within)))

bundle_leads : (b : Bundle) → IsBundle (bundle_text b) b → IsWithinLimits (bundle_text b) b → Leads (bundle_framing (bundle_text b)) (framed_end None) (bundle_lines b)
bundle_leads b is within =
    behind_magic b (group_text b.changesets ++ (group_text b.manifests ++ files_text b.files)) (bundle_text-parts b) (bundle_lines b) within.input (λ fuel room fits.
    goes_then _ (framed_end None) (InGroup Manifests) (group_text b.manifests ++ files_text b.files) (group_lines Changesets b.changesets) (group_lines Manifests b.manifests ++ files_lines b.files)
    (group_goes fuel Changesets true 6 b.changesets (group_text b.manifests ++ files_text b.files) is.changesets within.changesets room fits) (λ fuel first at room fits.
    goes_then _ (framed_end None) AtPath (files_text b.files) (group_lines Manifests b.manifests) (files_lines b.files)
    (group_goes fuel Manifests first at b.manifests (files_text b.files) is.manifests within.manifests room fits) (λ fuel first at room fits.
    files_lead fuel first at b.files is.files within.files room fits)))

-- a bundle within the limits is listed, and the listing has its lines
pub bundle_listed : (bytes : Bytes) (b : Bundle) → IsBundle bytes b → IsWithinLimits bytes b → (listing_fault bytes ≡ None) × (listing (bundle_framing bytes).items ≡ bundle_lines b)
bundle_listed bytes b is within =
    let all = bundle_leads b (subst (λ (l : Bytes). IsBundle l b) is.spells is) (subst (λ (l : Bytes). IsWithinLimits l b) is.spells within) in
    let there : Leads (bundle_framing bytes) (framed_end None) (bundle_lines b) = subst (λ (l : Bytes). Leads (bundle_framing l) (framed_end None) (bundle_lines b)) (sym is.spells) all in
    (there.refused, there.listed ∙ append-nil (bundle_lines b))
