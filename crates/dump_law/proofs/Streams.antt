-- A stream is that of one list of objects, and the stream of commits that of one list of commits.
use Rattle.std.proofs.Common.{◌≡◌, ◌≢◌, ◌<◌, ◌^◌, ◌⊎◌, inl, inr, ℕ, zero, suc, Bool, true, false, true≢false, not, ◌&&◌, List, [], ◌∷◌, ◌++◌, length, map, Option, Some, None, decimal, refl, sym, ap, subst, ◌∙◌, arith, append_assoc, length-append}
use Rattle.std.specs.Prelude.{if◌then◌else◌, nat_le, slice_index, ◌==◌, ◌/◌, ◌%◌}
use Rattle.std.specs.List.{flat_map, list_all}
use Rattle.std.proofs.lemmas.Bool.Decides.{nat_tests}
use Rattle.std.proofs.lemmas.Bool.{cases_lt, eq-eqb}
use Rattle.std.proofs.lemmas.List.{get_or_past}
use Rattle.hex.specs.Hex.{lower_digits, encode_with}
use Rattle.text_model.specs.Lists.{Each, In}
use Rattle.text_model.specs.Text.{Bytes, IsBytes, line, is_digit, number_of}
use Rattle.text_model.specs.Cuts.{Lacks}
use Rattle.text_model.specs.Id.{Id, IsId, hex, ObjectKind, blob, tree, commit, tag, kind_word, same_kind, object_id, is_lower_digit}
use Rattle.text_model.proofs.TestLemmas.{both, below, below-at}
use Rattle.text_model.proofs.HexLemmas.{hex-injective, is_hex_id-hex, length-hex}
use Rattle.text_model.proofs.DecimalLemmas.{digits-is_decimal, number_of-decimal, is_decimal-decimal}
use Rattle.text_model.proofs.Digests.{IsId-object_id}
use Rattle.text_model.proofs.Elements.{each_in, each_from}
use Rattle.text_model.proofs.Options.{some_is}
use Rattle.git_model.specs.Tree.{Mode, File, GroupFile, Exec, Link, Directory, Gitlink, is_directory, is_blob_mode, TreeEntry}
use Rattle.git_model.specs.Commit.{commit_text}
use Rattle.git_model.specs.Object.{Object, object_of}
use Rattle.git_model.specs.Shape.{Leaf, leaves_below, is_named, leaf_named, leaf_object, shape_entries, shape_objects, shape_depth}
use Rattle.git_model.specs.Stream.{object_text, stream_text, kind_of}
use Rattle.git_model.proofs.CommitLemmas.{line-then}
use Rattle.view_model.specs.View.{CommitView, IsCommitView, leaf_of_row, IsRowId, commit_objects}
use Rattle.view_model.specs.Dump.{objects_in}
use Rattle.dump_law.proofs.Elements.{of-map}
use Rattle.dump_law.proofs.Trees.{cut_two, split_at, of_below, found_is}

-- ---- the text of an object

lacks_by : (b : ℕ) (test : ℕ → Bool) → test b ≡ false → (text : Bytes) → list_all test text ≡ true → Lacks b text
lacks_by b test not_it [] all = tt
lacks_by b test not_it (x ∷ text) all =
    let p = both (test x) (list_all test text) all in
    (λ e. true≢false (sym p.0 ∙ ap test e ∙ not_it), lacks_by b test not_it text p.1)

kind-letters : (kind : ObjectKind) → list_all (λ b. nat_le 97 b && nat_le b 122) (kind_word kind) ≡ true
kind-letters blob = refl
kind-letters tree = refl
kind-letters commit = refl
kind-letters tag = refl

kind_of-word : (kind : ObjectKind) → kind_of (kind_word kind) ≡ Some kind
kind_of-word blob = refl
kind_of-word tree = refl
kind_of-word commit = refl
kind_of-word tag = refl

pub kind_is : (a b : ObjectKind) → kind_word a ≡ kind_word b → a ≡ b
kind_is a b e = some_is (sym (kind_of-word a) ∙ ap kind_of e ∙ kind_of-word b)

kind_lacks : (b : ℕ) (kind : ObjectKind) → b < 48 → Lacks b (kind_word kind)
kind_lacks b kind low = lacks_by b (λ b. nat_le 97 b && nat_le b 122) (none low) (kind_word kind) (kind-letters kind)
  where
    none : b < 48 → (nat_le 97 b && nat_le b 122) ≡ false
    none l = grind (arith, l, nat_tests)

pub decimal_lacks : (b n : ℕ) → b < 48 → n < 2 ^ 64 → Lacks b (decimal n)
decimal_lacks b n low small = lacks_by b is_digit (none low) (decimal n) (digits-is_decimal (decimal n) (is_decimal-decimal n small)).digits
  where
    none : b < 48 → is_digit b ≡ false
    none l = grind (arith, l, nat_tests)

pub decimal_is : (m n : ℕ) → m < 2 ^ 64 → n < 2 ^ 64 → decimal m ≡ decimal n → m ≡ n
decimal_is m n a b e = sym (number_of-decimal m a) ∙ ap number_of e ∙ number_of-decimal n b

-- the digits of anything have no space, and digits that are an id's are those of the id alone
digit_no_space : (n : ℕ) → slice_index lower_digits n ≢ 32
unfolding below
digit_no_space n e = elim (cases_lt n 16) [
  | inl lt ↦ true≢false (sym (below-at 16 (λ i. not (slice_index lower_digits i == 32)) refl n lt) ∙ ap not (eq-eqb (slice_index lower_digits n) 32 e))
  | inr le ↦ omega (arith, sym (get_or_past lower_digits n 0 (omega (arith, le))) ∙ e)
]

hex_lacks_space : (bytes : Bytes) → Lacks 32 (hex bytes)
unfolding encode_with
hex_lacks_space [] = tt
hex_lacks_space (b ∷ bytes) = (digit_no_space (b / 16), (digit_no_space (b % 16), hex_lacks_space bytes))

bytes_by_digits : (bytes : Bytes) → list_all is_lower_digit (hex bytes) ≡ true → IsBytes bytes
unfolding encode_with
bytes_by_digits [] h = tt
bytes_by_digits (b ∷ bytes) h =
    let first = both (is_lower_digit (slice_index lower_digits (b / 16))) _ h in
    let second = both (is_lower_digit (slice_index lower_digits (b % 16))) _ first.1 in (
      elim (cases_lt (b / 16) 16) as (λ _. b < 256) [
        | inl lt ↦ omega (arith, lt)
        | inr le ↦ absurd (true≢false (sym first.0 ∙ ap is_lower_digit (get_or_past lower_digits (b / 16) 0 (omega (arith, le)))))
      ],
      bytes_by_digits bytes second.1,
    )

hex_is : (id other : Id) → IsId other → hex id ≡ hex other → id ≡ other
hex_is id other is e =
    let lower : list_all is_lower_digit (hex other) ≡ true = (both (length (hex other) == 40) _ (is_hex_id-hex other is)).1 in
    hex-injective id other (omega (arith, length-hex id, length-hex other, ap (λ (l : Bytes). length l) e, is.0), bytes_by_digits id (ap (list_all is_lower_digit) e ∙ lower)) is e

object_then : (o : Object) (rest : Bytes) → object_text o ++ rest ≡ hex o.id ++ (32 ∷ (kind_word o.kind ++ (32 ∷ (decimal (length o.content) ++ (10 ∷ (o.content ++ (10 ∷ rest)))))))
object_then o rest =
    let h : Bytes = hex o.id ++ (32 ∷ (kind_word o.kind ++ (32 ∷ (decimal (length o.content) ++ [])))) in
    let t : Bytes = 10 ∷ (o.content ++ (10 ∷ rest)) in
    let one = line-then h (line o.content) rest ∙ ap (λ (l : Bytes). h ++ (10 ∷ l)) (append_assoc o.content (10 ∷ []) rest) in
    let two = append_assoc (hex o.id) (32 ∷ (kind_word o.kind ++ (32 ∷ (decimal (length o.content) ++ [])))) t in
    let three = append_assoc (kind_word o.kind) (32 ∷ (decimal (length o.content) ++ [])) t in
    let four = append_assoc (decimal (length o.content)) [] t in
    one ∙ two ∙ ap (λ (l : Bytes). hex o.id ++ (32 ∷ l)) (three ∙ ap (λ (l : Bytes). kind_word o.kind ++ (32 ∷ l)) four)

content_short : (o : Object) (rest : Bytes) → length o.content < length (object_text o ++ rest)
content_short o rest = omega (
  arith,
  ap (λ (l : Bytes). length l) (object_then o rest),
  length-append (hex o.id) (32 ∷ (kind_word o.kind ++ (32 ∷ (decimal (length o.content) ++ (10 ∷ (o.content ++ (10 ∷ rest))))))),
  length-append (kind_word o.kind) (32 ∷ (decimal (length o.content) ++ (10 ∷ (o.content ++ (10 ∷ rest))))),
  length-append (decimal (length o.content)) (10 ∷ (o.content ++ (10 ∷ rest))),
  length-append o.content (10 ∷ rest),
)

first_object : (o p : Object) (rest more : Bytes) → IsId p.id → length (object_text o ++ rest) < 2 ^ 64 → object_text o ++ rest ≡ object_text p ++ more → (o ≡ p) × (rest ≡ more)
first_object o p rest more y small e =
    let n : length o.content < 2 ^ 64 = omega (arith, content_short o rest, small) in
    let m : length p.content < 2 ^ 64 = omega (arith, content_short p more, ap (λ (l : Bytes). length l) e, small) in
    let a = cut_two 32 (hex o.id) (kind_word o.kind ++ (32 ∷ (decimal (length o.content) ++ (10 ∷ (o.content ++ (10 ∷ rest))))))
    (hex p.id) (kind_word p.kind ++ (32 ∷ (decimal (length p.content) ++ (10 ∷ (p.content ++ (10 ∷ more))))))
    (hex_lacks_space o.id) (hex_lacks_space p.id) (sym (object_then o rest) ∙ e ∙ object_then p more) in
    let b = cut_two 32 (kind_word o.kind) (decimal (length o.content) ++ (10 ∷ (o.content ++ (10 ∷ rest)))) (kind_word p.kind) (decimal (length p.content) ++ (10 ∷ (p.content ++ (10 ∷ more))))
    (kind_lacks 32 o.kind (omega arith)) (kind_lacks 32 p.kind (omega arith)) a.1 in
    let d = cut_two 10 (decimal (length o.content)) (o.content ++ (10 ∷ rest)) (decimal (length p.content)) (p.content ++ (10 ∷ more))
    (decimal_lacks 10 (length o.content) (omega arith) n) (decimal_lacks 10 (length p.content) (omega arith) m) b.1 in
    let f = split_at o.content (10 ∷ rest) p.content (10 ∷ more) (decimal_is (length o.content) (length p.content) n m d.0) d.1 in
    let id = hex_is o.id p.id y a.0 in
    let kind = kind_is o.kind p.kind b.0 in
    ((λ i. record { id = id i; kind = kind i; content = f.0 i }), behind f.1)
  where
    behind : 10 ∷ rest ≡ 10 ∷ more → rest ≡ more
    behind h = cc

pub one_stream : (xs ys : List Object) → Each (λ o. IsId o.id) ys → length (stream_text xs) < 2 ^ 64 → stream_text xs ≡ stream_text ys → xs ≡ ys
unfolding stream_text
one_stream [] [] y small e = refl
one_stream [] (p ∷ ys) y small e = absurd (omega (arith, content_short p (flat_map object_text ys), ap (λ (l : Bytes). length l) e))
one_stream (o ∷ xs) [] y small e = absurd (omega (arith, content_short o (flat_map object_text xs), ap (λ (l : Bytes). length l) e))
one_stream (o ∷ xs) (p ∷ ys) y small e =
    let f = first_object o p (flat_map object_text xs) (flat_map object_text ys) y.0 small e in
    (λ i. f.0 i ∷ one_stream xs ys y.1 (omega (arith, small, length-append (object_text o) (flat_map object_text xs))) f.1 i)

-- ---- the objects of a commit

-- the id is that of kind and content, and it is neither a commit nor a tag
pub record IsPart (o : Object) : Type 0 where
  pub id : IsId o.id
  pub no_commit : same_kind commit o.kind ≡ false
  pub no_tag : same_kind o.kind tag ≡ false

pub of_append : {X : Type 0} (x : X) (xs ys : List X) → In x (xs ++ ys) → In x xs ⊎ In x ys
of_append x [] ys i = inr i
of_append x (y ∷ xs) ys (inl e) = inl (inl e)
of_append x (y ∷ xs) ys (inr i) = elim (of_append x xs ys i) [ inl j ↦ inl (inr j) | inr j ↦ inr j ]

pub of_flat : {X Y : Type 0} (f : X → List Y) (y : Y) (xs : List X) → In y (flat_map f xs) → (x : X) × In x xs × In y (f x)
of_flat f y [] i = absurd i
of_flat f y (x ∷ xs) i = elim (of_append y (f x) (flat_map f xs) i) [ inl j ↦ (x, inl refl, j) | inr j ↦ (let r = of_flat f y xs j in (r.0, inr r.1, r.2)) ]

abbrev pub AreRows : List Leaf → Type 0
AreRows L = (l : Leaf) → In l L → IsRowId l.mode l.id l.content

blob_id_is : (l : Leaf) → IsRowId l.mode l.id l.content → is_blob_mode l.mode ≡ true → IsId l.id
blob_id_is l r isn = by l.mode refl
  where
    made : (mode : Mode) → l.mode ≡ mode → (IsRowId mode l.id l.content → l.id ≡ object_id blob l.content) → IsId l.id
    made mode e f = subst IsId (sym (f (subst (λ (m : Mode). IsRowId m l.id l.content) e r))) (IsId-object_id blob l.content)

    by : (mode : Mode) → l.mode ≡ mode → IsId l.id
    by File e = made File e (λ h. h)
    by GroupFile e = made GroupFile e (λ h. h)
    by Exec e = made Exec e (λ h. h)
    by Link e = made Link e (λ h. h)
    by Directory e = absurd (true≢false (sym isn ∙ ap is_blob_mode e))
    by Gitlink e = absurd (true≢false (sym isn ∙ ap is_blob_mode e))

leaf_part : (L : List Leaf) (name : Bytes) (o : Object) → AreRows L → In o (leaf_object (leaf_named name L)) → IsPart o
leaf_part L name o rows i = by (leaf_named name L) refl i
  where
    by : (u : Option Leaf) → leaf_named name L ≡ u → In o (leaf_object u) → IsPart o
    by None e j = absurd j
    by (Some l) e j = at (is_blob_mode l.mode) refl
      where
        at : (t : Bool) → is_blob_mode l.mode ≡ t → IsPart o
        at false f = absurd (rw f at j)
        at true f =
            let r = found_is (λ leaf. is_named name leaf.names) l L e in
            elim (rw f at j) [
              | inl q ↦ subst IsPart (sym q) (record { id = blob_id_is l (rows l r.0) f; no_commit = refl; no_tag = refl })
              | inr k ↦ absurd k
            ]

shape_parts : (n : ℕ) (L : List Leaf) → AreRows L → (o : Object) → In o (shape_objects n L) → IsPart o
unfolding shape_objects
shape_parts zero L rows o i = absurd i
shape_parts (suc d) L rows o i =
    elim (of_append o (flat_map (λ e. if is_directory e.mode then shape_objects d (leaves_below e.name L) else leaf_object (leaf_named e.name L)) (shape_entries (suc d) L)) _ i) [
      | inl j ↦ (let r = of_flat (λ (e : TreeEntry). if is_directory e.mode then shape_objects d (leaves_below e.name L) else leaf_object (leaf_named e.name L)) o (shape_entries (suc d) L) j in
          by r.0 r.2 (λ k. shape_parts d (leaves_below (r.0).name L) (λ l m. rows_below (r.0).name l m) o k))
      | inr (inl q) ↦ subst IsPart (sym q) (record { id = IsId-object_id tree _; no_commit = refl; no_tag = refl })
      | inr (inr k) ↦ absurd k
    ]
  where
    rows_below : (name : Bytes) (l : Leaf) → In l (leaves_below name L) → IsRowId l.mode l.id l.content
    rows_below name l m = rows (record { names = name ∷ l.names; mode = l.mode; id = l.id; content = l.content }) (of_below name L l m).there

    by : (e : TreeEntry) → In o (if is_directory e.mode then shape_objects d (leaves_below e.name L) else leaf_object (leaf_named e.name L))
        → (In o (shape_objects d (leaves_below e.name L)) → IsPart o) → IsPart o
    by e k deeper = at (is_directory e.mode) refl
      where
        at : (t : Bool) → is_directory e.mode ≡ t → IsPart o
        at true f = deeper (rw f at k)
        at false f = leaf_part L e.name o rows (rw f at k)

abbrev pub shapes_of : CommitView → List Object
shapes_of c = shape_objects shape_depth (map leaf_of_row c.rows)

abbrev pub own : CommitView → Object
own c = object_of commit (commit_text c.value)

pub commit_parts : (c : CommitView) → IsCommitView c → (o : Object) → In o (shapes_of c) → IsPart o
commit_parts c v o i = shape_parts shape_depth (map leaf_of_row c.rows) (λ l j.
    let r = of-map leaf_of_row l c.rows j in
    subst (λ (x : Leaf). IsRowId x.mode x.id x.content) (sym r.2) (each_in (λ row. _) c.rows r.0 v.rows r.1).3) o i

pub commit_split : (c : CommitView) → commit_objects c ≡ shapes_of c ++ own c ∷ []
unfolding commit_objects
commit_split c = refl

commit_ids : (c : CommitView) → IsCommitView c → Each (λ o. IsId o.id) (commit_objects c)
commit_ids c v = each_from (λ o. IsId o.id) (commit_objects c) (λ o i. elim (of_append o (shapes_of c) (own c ∷ []) (subst (λ (l : List Object). In o l) (commit_split c) i)) [
  | inl j ↦ (commit_parts c v o j).id
  | inr (inl q) ↦ subst (λ (x : Object). IsId x.id) (sym q) (IsId-object_id commit (commit_text c.value))
  | inr (inr k) ↦ absurd k
])

pub all_ids : (cs : List CommitView) → Each IsCommitView cs → Each (λ o. IsId o.id) (objects_in cs)
all_ids cs vs = each_from (λ o. IsId o.id) (objects_in cs) (λ o i.
    let r = of_flat commit_objects o cs i in
    each_in (λ x. IsId x.id) (commit_objects r.0) o (commit_ids r.0 (each_in IsCommitView cs r.0 vs r.1)) r.2)
