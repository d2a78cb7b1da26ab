-- Entries of a tree in their order: what one knows of a name that comes twice.
use Rattle.std.proofs.Common.{◌≡◌, ◌≢◌, ◌<◌, ◌≤◌, ◌-◌, ◌&&◌, ℕ, zero, suc, Bool, true, false, not, List, [], ◌∷◌, ◌++◌, length, Some, None, get_or, refl, sym, ap, subst, ◌∙◌, arith, bytes_eq, true≢false, ◌⊎◌, inl, inr}
use Rattle.std.specs.Prelude.{◌||◌, slice_get}
use Rattle.std.specs.List.{list_any}
use Rattle.std.proofs.lemmas.Bool.{cases_lt}
use Rattle.std.proofs.lemmas.Slice.Eq.{bytes_eq-Decides}
use Rattle.text_model.specs.Lists.{Each, rises}
use Rattle.text_model.specs.Text.{Bytes, is_below}
use Rattle.text_model.proofs.EachLemmas.{Each-weaker}
use Rattle.text_model.proofs.TestLemmas.{both, or_true, bytes_eq-other}
use Rattle.text_model.proofs.OrderLemmas.{is_below-chain, is_below-irreflexive, is_below-one_way}
use Rattle.text_model.proofs.Options.{not_true, or_neither}
use Rattle.git_model.specs.Tree.{is_directory, TreeEntry, RawEntry, order_name, sort_name, raw_sort_name, is_directory_text, is_entry_below, rises_behind, has_name, is_file_named}
use Rattle.git_model.proofs.NameOrderLemmas.{below-front}

-- the name as it counts in the order
abbrev pub key : TreeEntry → Bytes
key e = sort_name e.mode e.name

-- each entry stands before all that follow
abbrev pub IsRising : List TreeEntry → Type 0
IsRising [] = Unit {0}
IsRising (x ∷ xs) = Each (λ (y : TreeEntry). is_below (key x) (key y) ≡ true) xs × IsRising xs

pub rising : (xs : List TreeEntry) → rises is_entry_below xs ≡ true → IsRising xs
rising [] h = tt
rising (x ∷ []) h = (tt, tt)
rising (x ∷ y ∷ ys) h =
    let parts = both (is_entry_below x y) _ h in
    let others = rising (y ∷ ys) parts.1 in
    ((parts.0, Each-weaker (λ (z : TreeEntry). is_below (key y) (key z) ≡ true) (λ (z : TreeEntry). is_below (key x) (key z) ≡ true) (λ z below. is_below-chain (key x) (key y) (key z) parts.0 below) ys others.0), others)

pub each_at : (P : TreeEntry → Type 0) (xs : List TreeEntry) (i : ℕ) (d : TreeEntry) → Each P xs → i < length xs → P (get_or xs i d)
each_at P [] i d h lt = absurd (omega arith)
each_at P (x ∷ xs) zero d h lt = h.0
each_at P (x ∷ xs) (suc i) d h lt = each_at P xs i d h.1 (omega arith)

pub rising_at : (xs : List TreeEntry) (i j : ℕ) (d : TreeEntry) → IsRising xs → i < j → j < length xs → is_below (key (get_or xs i d)) (key (get_or xs j d)) ≡ true
rising_at [] i j d h lt within = absurd (omega arith)
rising_at (x ∷ xs) i zero d h lt within = absurd (omega arith)
rising_at (x ∷ xs) zero (suc j) d h lt within = each_at (λ (y : TreeEntry). is_below (key x) (key y) ≡ true) xs j d h.0 (omega arith)
rising_at (x ∷ xs) (suc i) (suc j) d h lt within = rising_at xs i j d h.1 (omega arith) (omega arith)

-- ---- what stands above the last entry stands above all

pub last_of_more : (x y : TreeEntry) (ys : List TreeEntry) (e : RawEntry) → rises_behind (x ∷ y ∷ ys) e ≡ rises_behind (y ∷ ys) e
last_of_more x y ys e =
    let one : length (x ∷ y ∷ ys) - 1 ≡ suc (length (y ∷ ys) - 1) = omega arith in
    ap (λ (k : ℕ). elim (slice_get (x ∷ y ∷ ys) k) as (λ _. Bool) [ None ↦ true | Some last ↦ is_below (key last) (raw_sort_name e) ]) one

pub last_below : (xs : List TreeEntry) (e : RawEntry) → IsRising xs → rises_behind xs e ≡ true → Each (λ (x : TreeEntry). is_below (key x) (raw_sort_name e) ≡ true) xs
last_below [] e r h = tt
last_below (x ∷ []) e r h = (h, tt)
last_below (x ∷ y ∷ ys) e r h =
    let others = last_below (y ∷ ys) e r.1 (sym (last_of_more x y ys e) ∙ h) in
    (is_below-chain (key x) (key y) (raw_sort_name e) r.0.0 others.0, others)

-- ---- a name that comes twice is that of a file first, and of a directory then

-- a name with its slash doesn't stand before the name
slash_after : (name : Bytes) → is_below (name ++ 47 ∷ []) name ≡ false
slash_after name = is_below-one_way name (name ++ 47 ∷ []) (before name)
  where
    before : (name : Bytes) → is_below name (name ++ 47 ∷ []) ≡ true
    before [] = refl
    before (b ∷ bytes) = below-front (b ∷ []) bytes (bytes ++ 47 ∷ []) ∙ before bytes

module _ (e : RawEntry) where
  -- behind a file's entry no name of another entry comes again
  file_new : is_directory_text e.mode ≡ false → (x : TreeEntry) → is_below (key x) (raw_sort_name e) ≡ true → bytes_eq x.name e.name ≡ false
  file_new file x below = bytes_eq-other x.name e.name (λ same. by (is_directory x.mode) refl same)
    where
      as_file : is_below (key x) e.name ≡ true
      as_file = sym (ap (λ (d : Bool). is_below (key x) (order_name d e.name)) file) ∙ below

      by : (t : Bool) → is_directory x.mode ≡ t → x.name ≡ e.name → ⊥
      by true t same = true≢false (sym (sym (λ i. is_below (order_name (t i) (same i)) e.name) ∙ as_file) ∙ slash_after e.name)
      by false t same = true≢false (sym (sym (λ i. is_below (order_name (t i) (same i)) e.name) ∙ as_file) ∙ is_below-irreflexive e.name)

  -- behind a directory's entry only that of a file has its name
  directory_new : is_directory_text e.mode ≡ true → (x : TreeEntry) → is_below (key x) (raw_sort_name e) ≡ true → bytes_eq x.name e.name ≡ is_file_named e.name x
  directory_new directory x below = by (is_directory x.mode) refl
    where
      as_directory : is_below (key x) (e.name ++ 47 ∷ []) ≡ true
      as_directory = sym (ap (λ (d : Bool). is_below (key x) (order_name d e.name)) directory) ∙ below

      by : (t : Bool) → is_directory x.mode ≡ t → bytes_eq x.name e.name ≡ is_file_named e.name x
      by false t = rw t refl
      by true t =
          bytes_eq-other x.name e.name (λ same. true≢false (sym (sym (λ i. is_below (order_name (t i) (same i)) (e.name ++ 47 ∷ [])) ∙ as_directory) ∙ is_below-irreflexive (e.name ++ 47 ∷ [])))
          ∙ sym (rw t refl)

  new_by : (d : Bool) → is_directory_text e.mode ≡ d → (xs : List TreeEntry) → Each (λ (x : TreeEntry). is_below (key x) (raw_sort_name e) ≡ true) xs → has_name xs e.name ≡ (d && list_any (is_file_named e.name) xs)
  new_by true directory [] h = refl
  new_by true directory (x ∷ xs) h = λ i. directory_new directory x h.0 i || new_by true directory xs h.1 i
  new_by false file [] h = refl
  new_by false file (x ∷ xs) h = or_neither (bytes_eq x.name e.name) (has_name xs e.name) (file_new file x h.0) (new_by false file xs h.1)

  -- the test of names among the entries before asks for files alone, and only for a directory
  pub name_again : (xs : List TreeEntry) → rises is_entry_below xs ≡ true → rises_behind xs e ≡ true → has_name xs e.name ≡ (is_directory_text e.mode && list_any (is_file_named e.name) xs)
  name_again xs up above = new_by (is_directory_text e.mode) refl xs (last_below xs e (rising xs up) above)

cases_eq : (a b : ℕ) → (a ≡ b) ⊎ (a ≢ b)
cases_eq a b = elim (cases_lt a b) [
  | inl lt ↦ inr (λ e. absurd (omega (arith, lt, e)))
  | inr ge ↦ elim (cases_lt b a) [
    | inl gt ↦ inr (λ e. absurd (omega (arith, gt, e)))
    | inr le ↦ inl (omega (arith, ge, le))
  ]
]

any_default : (xs : List TreeEntry) (k : ℕ) (d x : TreeEntry) → k < length xs → get_or xs k d ≡ get_or xs k x
any_default [] k d x lt = absurd (omega arith)
any_default (y ∷ ys) zero d x lt = refl
any_default (y ∷ ys) (suc k) d x lt = any_default ys k d x (omega arith)

-- ---- the file of a name, where the entries are parted at it

abbrev is_before : Bytes → TreeEntry → Bool
is_before name x = is_below (key x) name

-- the entries that stand before a name come first
pub parted : (xs : List TreeEntry) (name : Bytes) → rises is_entry_below xs ≡ true → (i j : ℕ) (d : TreeEntry) → i ≤ j → j < length xs → is_before name (get_or xs j d) ≡ true → is_before name (get_or xs i d) ≡ true
parted xs name up i j d le within h = elim (cases_lt i j) [
  | inl lt ↦ is_below-chain (key (get_or xs i d)) (key (get_or xs j d)) name (rising_at xs i j d (rising xs up) lt within) h
  | inr ge ↦
      let same : j ≡ i = omega arith in
      subst (λ (k : ℕ). is_before name (get_or xs k d) ≡ true) same h
]

file_key : (name : Bytes) (x : TreeEntry) → is_file_named name x ≡ true → key x ≡ name
file_key name x h =
    let parts = both (not (is_directory x.mode)) (bytes_eq x.name name) h in
    ap (λ (d : Bool). order_name d x.name) (not_true (is_directory x.mode) parts.0) ∙ (bytes_eq-Decides x.name name).0 parts.1

no_file : (name : Bytes) (xs : List TreeEntry) → ((k : ℕ) (d : TreeEntry) → k < length xs → is_file_named name (get_or xs k d) ≡ false) → list_any (is_file_named name) xs ≡ false
no_file name [] h = refl
no_file name (x ∷ xs) h = or_neither (is_file_named name x) (list_any (is_file_named name) xs) (h 0 x (omega arith)) (no_file name xs (λ k d lt. h (suc k) d (omega arith)))

some_file : (name : Bytes) (xs : List TreeEntry) (k : ℕ) (d : TreeEntry) → k < length xs → is_file_named name (get_or xs k d) ≡ true → list_any (is_file_named name) xs ≡ true
some_file name [] k d lt h = absurd (omega arith)
some_file name (x ∷ xs) zero d lt h = rw h refl
some_file name (x ∷ xs) (suc k) d lt h = rw (some_file name xs k d (omega arith) h) (or_true (is_file_named name x))

-- the entries are parted at this place: those before it stand before the name, and no other does
pub record IsParted (xs : List TreeEntry) (name : Bytes) (place : ℕ) : Type 0 where
  pub before : (k : ℕ) (d : TreeEntry) → k < place → is_before name (get_or xs k d) ≡ true
  pub behind : (k : ℕ) (d : TreeEntry) → place ≤ k → k < length xs → is_before name (get_or xs k d) ≡ false

elsewhere : (xs : List TreeEntry) (name : Bytes) (place : ℕ) → rises is_entry_below xs ≡ true → IsParted xs name place → (k : ℕ) (d : TreeEntry) → k < length xs → k ≢ place → is_file_named name (get_or xs k d) ≡ false
elsewhere xs name place up parts k d lt other = by (is_file_named name (get_or xs k d)) refl
  where
    by : (t : Bool) → is_file_named name (get_or xs k d) ≡ t → is_file_named name (get_or xs k d) ≡ false
    by false t = t
    by true t =
        let same : key (get_or xs k d) ≡ name = file_key name (get_or xs k d) t in
        elim (cases_lt k place) [
          | inl front ↦ absurd (true≢false (sym (parts.before k d front) ∙ ap (λ (n : Bytes). is_below n name) same ∙ is_below-irreflexive name))
          | inr rest ↦
              let far : place < k = omega (arith, rest, other) in
              absurd (true≢false (sym (rising_at xs place k d (rising xs up) far lt) ∙ ap (is_below (key (get_or xs place d))) same ∙ parts.behind place d (omega arith) (omega (arith, far, lt))))
        ]

pub file_at : (xs : List TreeEntry) (name : Bytes) (place : ℕ) (x : TreeEntry) → rises is_entry_below xs ≡ true → IsParted xs name place → place < length xs → x ≡ get_or xs place x → is_file_named name x ≡ list_any (is_file_named name) xs
file_at xs name place x up parts lt at = by (is_file_named name x) refl
  where
    by : (t : Bool) → is_file_named name x ≡ t → is_file_named name x ≡ list_any (is_file_named name) xs
    by true t = t ∙ sym (some_file name xs place x lt (ap (is_file_named name) (sym at) ∙ t))
    by false t = t ∙ sym (no_file name xs (λ k d within. everywhere k d within (cases_eq k place)))
      where
        everywhere : (k : ℕ) (d : TreeEntry) → k < length xs → (k ≡ place) ⊎ (k ≢ place) → is_file_named name (get_or xs k d) ≡ false
        everywhere k d within (inl same) = ap (is_file_named name) (ap (λ (n : ℕ). get_or xs n d) same ∙ any_default xs place d x lt ∙ sym at) ∙ t
        everywhere k d within (inr other) = elsewhere xs name place up parts k d within other

pub file_past : (xs : List TreeEntry) (name : Bytes) (place : ℕ) → rises is_entry_below xs ≡ true → IsParted xs name place → length xs ≤ place → false ≡ list_any (is_file_named name) xs
file_past xs name place up parts past = sym (no_file name xs (λ k d lt. elsewhere xs name place up parts k d lt (λ same. omega (arith, same, lt, past))))
