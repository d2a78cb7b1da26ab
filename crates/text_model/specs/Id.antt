-- Ids of 20 bytes. SHA-1 is that of FIPS 180-4; a node id is that of Mercurial's help topic `internals.revlogs`, and an object id that of Git's object format.
use Rattle.std.specs.Prelude.{◌≡◌, ℕ, ◌+◌, ◌-◌, ◌*◌, Bool, ◌&&◌, ◌||◌, ◌==◌, nat_le, if◌then◌else◌, List, [], ◌∷◌, ◌++◌, length, replicate, Option, Some, None, codes, decimal, bytes_eq}
use Rattle.std.specs.List.{list_all, list_any}
use Rattle.sha1.specs.Sha1.{sha1}
use Rattle.hex.specs.Hex.{encode_lower}
use Rattle.text_model.specs.Text.{Bytes, IsBytes, is_below, sp, nul}

abbrev pub Id : Type 0
Id = List ℕ

abbrev pub IsId : Id → Type 0
IsId id = (length id ≡ 20) × IsBytes id

-- the id that stands for none: 20 zero bytes
abbrev pub null : Id
null = replicate 20 0

abbrev pub is_null : Id → Bool
is_null id = bytes_eq id null

-- the id stands among the ids
abbrev pub has_id : List Id → Id → Bool
has_id ids id = list_any (bytes_eq id) ids

-- 40 lower case digits
abbrev pub hex : Id → Bytes
hex id = encode_lower id

abbrev pub is_lower_digit : ℕ → Bool
is_lower_digit b = (nat_le 48 b && nat_le b 57) || (nat_le 97 b && nat_le b 102)

abbrev pub is_hex_id : Bytes → Bool
is_hex_id text = length text == 40 && list_all is_lower_digit text

abbrev pub digit_value : ℕ → ℕ
digit_value b = if nat_le b 57 then b - 48 else b - 87

-- the bytes that pairs of digits name
abbrev pub bytes_of_digits : Bytes → Bytes
bytes_of_digits [] = []
bytes_of_digits (high ∷ []) = []
bytes_of_digits (high ∷ low ∷ rest) = (digit_value high * 16 + digit_value low) ∷ bytes_of_digits rest

-- the id that 40 lower case digits name
abbrev pub id_of_hex : Bytes → Option Id
id_of_hex text = if is_hex_id text then Some (bytes_of_digits text) else None

-- two ids in rising order of their bytes
abbrev pub smaller : Id → Id → Id
smaller p q = if is_below q p then q else p

abbrev pub larger : Id → Id → Id
larger p q = if is_below q p then p else q

-- The node of a revision: SHA-1 of the smaller parent, the larger parent and the text. From Mercurial's `internals.revlogs`.
unfoldable pub node_id : Id → Id → Bytes → Id
node_id p q text = sha1 (smaller p q ++ larger p q ++ text)

-- the four kinds of Git objects
pub data ObjectKind : Type 0 where
  blob : ObjectKind
  tree : ObjectKind
  commit : ObjectKind
  tag : ObjectKind

abbrev pub kind_word : ObjectKind → Bytes
kind_word blob = codes "blob"
kind_word tree = codes "tree"
kind_word commit = codes "commit"
kind_word tag = codes "tag"

abbrev pub same_kind : ObjectKind → ObjectKind → Bool
same_kind a b = bytes_eq (kind_word a) (kind_word b)

-- The id of a Git object: SHA-1 of the kind's word, SP, the decimal size, NUL and the content. From Git's object format.
unfoldable pub object_id : ObjectKind → Bytes → Id
object_id kind content = sha1 (kind_word kind ++ sp ∷ decimal (length content) ++ nul ∷ content)

-- the id of a blob with these bytes
abbrev pub blob_id : Bytes → Id
blob_id content = object_id blob content
