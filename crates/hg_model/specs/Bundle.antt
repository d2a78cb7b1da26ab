-- Bundles HG10UN: three parts of chunks, as Mercurial's help topics `internals.bundles` and `internals.changegroups` have them.
-- The limits, and that a path may come twice and any group may be empty, are this project's own rule.
use Rattle.std.specs.Prelude.{◌≡◌, ◌≢◌, ℕ, zero, suc, ◌+◌, ◌≤◌, ◌<◌, ◌^◌, Bool, true, false, not, ◌&&◌, nat_lt, if◌then◌else◌, List, [], ◌∷◌, ◌++◌, length, take, drop, slice_range, Option, Some, None, codes, decimal}
use Rattle.std.specs.List.{flat_map}
use Rattle.text_model.specs.Lists.{Each}
use Rattle.text_model.specs.Text.{Bytes, line, spaced}
use Rattle.text_model.specs.Id.{Id, hex}
use Rattle.text_model.specs.Escape.{escape}
use Rattle.text_model.specs.Fault.{Refusal, refusal_at, input_limit}
use Rattle.text_model.specs.Fault as fault
use Rattle.hg_model.specs.Chunk.{field_of, chunk_text, magic_text, chunk_fault, first_payload, magic_fault, trailing_fault, or_else}
use Rattle.hg_model.specs.Revision.{Group, Changesets, Manifests, FilesAt}

-- an entry of a group: the delta of one revision
pub record BundleEntry : Type 0 where
  pub node : Id
  pub p : Id
  pub q : Id
  pub link : Id
  pub delta : Bytes

-- the revisions of the file at a path
pub record FileGroup : Type 0 where
  pub path : Bytes
  pub entries : List BundleEntry

pub record Bundle : Type 0 where
  pub changesets : List BundleEntry
  pub manifests : List BundleEntry
  pub files : List FileGroup

abbrev pub entry_payload : BundleEntry → Bytes
entry_payload e = e.node ++ (e.p ++ (e.q ++ (e.link ++ e.delta)))

-- the chunks of the entries, and an empty chunk
unfoldable pub group_text : List BundleEntry → Bytes
group_text entries = flat_map (λ e. chunk_text (entry_payload e)) entries ++ chunk_text []

abbrev pub file_group_text : FileGroup → Bytes
file_group_text f = chunk_text f.path ++ group_text f.entries

unfoldable pub bundle_text : Bundle → Bytes
bundle_text b = magic_text ++ (group_text b.changesets ++ (group_text b.manifests ++ (flat_map file_group_text b.files ++ chunk_text [])))

-- the four ids have 20 bytes each
pub record IsBundleEntry (e : BundleEntry) : Type 0 where
  pub node : length e.node ≡ 20
  pub p : length e.p ≡ 20
  pub q : length e.q ≡ 20
  pub link : length e.link ≡ 20

-- each chunk's length is a number of 31 bits
abbrev pub IsSize : Bytes → Type 0
IsSize payload = field_of payload < 2 ^ 31

-- the bytes are the bundle of these groups
pub record IsBundle (bytes : Bytes) (b : Bundle) : Type 0 where
  pub spells : bytes ≡ bundle_text b
  pub changesets : Each (λ e. IsBundleEntry e × IsSize (entry_payload e)) b.changesets
  pub manifests : Each (λ e. IsBundleEntry e × IsSize (entry_payload e)) b.manifests
  pub files : Each (λ f. (f.path ≢ []) × IsSize f.path × Each (λ e. IsBundleEntry e × IsSize (entry_payload e)) f.entries) b.files

-- the largest length field of a delta's chunk, and of a path's
abbrev pub delta_limit : ℕ
delta_limit = 2 ^ 27

abbrev pub path_limit : ℕ
path_limit = 4100

abbrev pub AreShort : List BundleEntry → Type 0
AreShort entries = Each (λ e. field_of (entry_payload e) ≤ delta_limit) entries

-- the bundle is one that this program reads
pub record IsWithinLimits (bytes : Bytes) (b : Bundle) : Type 0 where
  pub input : length bytes ≤ input_limit
  pub changesets : AreShort b.changesets
  pub manifests : AreShort b.manifests
  pub files : Each (λ f. (field_of f.path ≤ path_limit) × AreShort f.entries) b.files

-- ---- an input of any bytes, item by item

-- where in a bundle an item stands: in a group, or where a path or the end of the file part is due
pub data Place : Type 0 where
  InGroup : (group : Group) → Place
  AtPath : Place

-- a chunk that isn't empty: where it stands, whether it is the first of its group, the offset of its length field, and its payload
pub record Item : Type 0 where
  pub place : Place
  pub first : Bool
  pub at : ℕ
  pub payload : Bytes

-- the limit of a length field
abbrev pub length_limit : Place → ℕ
length_limit (InGroup group) = delta_limit
length_limit AtPath = path_limit

-- where the next item stands behind an item, and behind an empty chunk
abbrev pub place_after : Place → Bytes → Place
place_after (InGroup group) payload = InGroup group
place_after AtPath payload = InGroup (FilesAt payload)

abbrev pub is_path : Place → Bool
is_path (InGroup group) = false
is_path AtPath = true

abbrev pub place_after_empty : Place → Option Place
place_after_empty (InGroup Changesets) = Some (InGroup Manifests)
place_after_empty (InGroup Manifests) = Some AtPath
place_after_empty (InGroup (FilesAt path)) = Some AtPath
place_after_empty AtPath = None

-- the items up to the end, or up to the first place where the bytes are no bundle
pub record Framing : Type 0 where
  pub items : List Item
  pub bad : Option Refusal

abbrev pub framed_end : Option Refusal → Framing
framed_end bad = record { items = []; bad = bad }

abbrev pub put_item : Item → Framing → Framing
put_item item f = record { items = item ∷ f.items; bad = f.bad }

-- the items of bytes that stand at an offset; the first number is above the count of chunks
unfoldable pub framing_from : ℕ → Place → Bool → ℕ → Bytes → Framing
framing_from zero place first at bytes = framed_end None
framing_from (suc more) place first at bytes = elim (chunk_fault (length_limit place) at bytes) as (λ _. Framing) [
  | Some why ↦ framed_end (Some why)
  | None ↦ elim (first_payload bytes) as (λ _. Framing) [
    | [] ↦ elim (place_after_empty place) as (λ _. Framing) [
      | None ↦ framed_end (trailing_fault (at + 4) (drop 4 bytes))
      | Some next ↦ framing_from more next true (at + 4) (drop 4 bytes)
    ]
    | byte ∷ payload ↦ put_item (record { place = place; first = first; at = at; payload = byte ∷ payload })
        (framing_from more (place_after place (byte ∷ payload)) (is_path place) (at + (length (byte ∷ payload) + 4)) (drop (length (byte ∷ payload) + 4) bytes))
  ]
]

unfoldable pub bundle_framing : Bytes → Framing
bundle_framing bytes = elim (magic_fault bytes) as (λ _. Framing) [
  | Some why ↦ framed_end (Some why)
  | None ↦ framing_from (length bytes) (InGroup Changesets) true 6 (drop 6 bytes)
]

-- ---- the listing

-- node, first and second parent, link node and delta of a payload
abbrev pub entry_of : Bytes → BundleEntry
entry_of payload = record { node = take 20 payload; p = slice_range payload 20 40; q = slice_range payload 40 60; link = slice_range payload 60 80; delta = drop 80 payload }

abbrev pub entry_words : BundleEntry → List Bytes
entry_words e = hex e.node ∷ hex e.p ∷ hex e.q ∷ hex e.link ∷ decimal (length e.delta) ∷ []

-- the words before the ids of an entry of a group
abbrev pub group_words : Group → List Bytes
group_words Changesets = codes "changeset" ∷ []
group_words Manifests = codes "manifest" ∷ []
group_words (FilesAt path) = codes "file" ∷ escape path ∷ []

-- the line of an entry: what it is of, its four ids, and how many bytes its delta has
unfoldable pub entry_line : Group → BundleEntry → Bytes
entry_line group e = line (spaced (group_words group ++ entry_words e))

abbrev pub group_lines : Group → List BundleEntry → Bytes
group_lines group entries = flat_map (entry_line group) entries

-- a line for each entry, in the order of the bundle
abbrev pub bundle_lines : Bundle → Bytes
bundle_lines b = group_lines Changesets b.changesets ++ (group_lines Manifests b.manifests ++ flat_map (λ f. group_lines (FilesAt f.path) f.entries) b.files)

abbrev pub listed_line : Place → BundleEntry → Bytes
listed_line (InGroup group) e = entry_line group e
listed_line AtPath e = []

-- a line for each item that is an entry
abbrev pub listing : List Item → Bytes
listing items = flat_map (λ item. listed_line item.place (entry_of item.payload)) items

-- a delta chunk's payload is too short for its header
abbrev pub is_short_at : Place → Bytes → Bool
is_short_at place payload = not (is_path place) && nat_lt (length payload) 80

abbrev pub is_short : Item → Bool
is_short item = is_short_at item.place item.payload

abbrev pub first_short : List Item → Option Refusal
first_short [] = None
first_short (item ∷ items) = if is_short item then Some (refusal_at fault.HeaderShort item.at) else first_short items

-- why a listing is refused: framing alone is checked, and a payload that is too short
abbrev pub framing_fault : Framing → Option Refusal
framing_fault f = or_else (first_short f.items) f.bad

abbrev pub listing_fault : Bytes → Option Refusal
listing_fault bytes = framing_fault (bundle_framing bytes)

-- the bytes are a bundle that this program reads, and its lines were appended to `old`
pub record ListsBundle (bytes old new : Bytes) : Type 0 where
  pub bundle : Bundle
  pub is : IsBundle bytes bundle
  pub within : IsWithinLimits bytes bundle
  pub lines : new ≡ old ++ bundle_lines bundle

-- the bytes are no bundle that this program reads
abbrev pub IsNoBundle : Bytes → Type 0
IsNoBundle bytes = (b : Bundle) → IsBundle bytes b → IsWithinLimits bytes b → ⊥
