-- A copy that is read is the one that the metadata spell, by the reader and by the definition.
use Rattle.std.proofs.Common.{◌≡◌, ◌≢◌, ◌&&◌, ◌||◌, ◌==◌, ◌<◌, ℕ, zero, suc, Bool, true, false, not, List, [], ◌∷◌, ◌++◌, length, take, drop, Option, Some, None, codes, refl, sym, ap, subst, ◌∙◌, append_assoc, arith, IfSome, option_map, bytes_eq, take-append-drop, flat_map, append-nil}
use Rattle.std.specs.Prelude.{if◌then◌else◌, nat_eq}
use Rattle.std.specs.List.{starts_with, list_any}
use Rattle.std.specs.Cmp.Lexicographic.{pointwise, same_text}
use Rattle.std.proofs.lemmas.Bool.{and_parts, and_from, eq-eqb, ne_eqb, false≢true}
use Rattle.std.proofs.lemmas.List.{take_at, drop_at, length-append}
use Rattle.std.proofs.lemmas.Slice.Eq.{bytes_eq-Decides}
use Rattle.text_model.specs.Lists.{all_but_last}
use Rattle.text_model.specs.Text.{Bytes, whole_lines, line}
use Rattle.text_model.specs.Id.{Id, IsId, hex, is_hex_id, bytes_of_digits, id_of_hex}
use Rattle.text_model.specs.Cuts.{Lacks, cut_of}
use Rattle.text_model.proofs.CutLemmas.{cut_of-at, cut_of-takes, cut_of-none}
use Rattle.text_model.proofs.TestLemmas.{differs}
use Rattle.text_model.proofs.HexLemmas.{id_of_hex-some, id_of_hex-takes, id_of_hex-hex, is_hex_id-hex, hex-lacks}
use Rattle.text_model.proofs.LackLemmas.{Lacks-by_test, has_byte-lacks, Lacks-append, Lacks-rest}
use Rattle.text_model.proofs.LineLemmas.{whole_lines-line, whole_lines-last, whole_lines-none, whole_lines-whole}
use Rattle.text_model.proofs.Options.{none_some, or_false, some_is}
use Rattle.hg_model.specs.FileText.{copy_meta, IsCopy, copy_by, copy_of, has_copy}
use Rattle.hg_filelog.specs.Reading.{◌>>=◌, after_word, path_in, node_in, copy_in}

bind_some : {A B : Type 0} (r : Option A) (f : A → Option B) (y : B) → (r >>= f) ≡ Some y → (x : A) × (r ≡ Some x) × (f x ≡ Some y)
bind_some (Some x) f y e = (x, refl, e)
bind_some None f y e = absurd cc

if_some : {A : Type 0} (t : Bool) (x y : A) → (if t then Some x else None) ≡ Some y → (t ≡ true) × (x ≡ y)
if_some true x y e = (refl, some_is e)
if_some false x y e = absurd (none_some e)

if_none : {A : Type 0} (t : Bool) (x y : A) → (if t then None else Some x) ≡ Some y → (t ≡ false) × (x ≡ y)
if_none true x y e = absurd (none_some e)
if_none false x y e = (refl, some_is e)

filled : (x : ℕ) (xs : Bytes) → (length (x ∷ xs) == 0) ≡ false
filled x xs = ne_eqb (length (x ∷ xs)) 0 (λ e. absurd (omega arith))

no_length : (rest : Bytes) → (length rest == 0) ≡ true → rest ≡ []
no_length [] e = refl
no_length (x ∷ xs) e = absurd (false≢true (sym (filled x xs) ∙ e))

-- ---- words at the front of a line

pointwise-same : (xs : Bytes) → pointwise nat_eq xs xs ≡ true
pointwise-same [] = refl
pointwise-same (x ∷ xs) = and_from (nat_eq x x) (pointwise nat_eq xs xs) (eq-eqb x x refl) (pointwise-same xs)

after_word-takes : (word text rest : Bytes) → after_word word text ≡ Some rest → text ≡ word ++ rest
unfolding after_word
after_word-takes word text rest e =
    let parts = if_some (starts_with ◌==◌ text word) (drop (length word) text) rest e in
    let front : word ≡ take (length word) text = same_text word (take (length word) text) (sym parts.0) in
    sym (take-append-drop (length word) text) ∙ (λ i. sym front i ++ parts.1 i)

after_word-again : (word rest : Bytes) → after_word word (word ++ rest) ≡ Some rest
unfolding after_word
after_word-again word rest =
    rw (take_at word rest (length word) refl, pointwise-same word, drop_at word rest (length word) refl) refl

-- ---- the reader

-- a copy's lines lack LF
record Lines (meta path : Bytes) (node : Id) : Type 0 where
  pub whole : meta ≡ (codes "copy: " ++ path) ++ 10 ∷ ((codes "copyrev: " ++ hex node) ++ 10 ∷ [])
  pub first : Lacks 10 (codes "copy: " ++ path)
  pub second : Lacks 10 (codes "copyrev: " ++ hex node)

lines_of : (meta path : Bytes) (node : Id) → IsCopy meta path node → Lines meta path node
lines_of meta path node is = record {
  whole = is.spells ∙ append_assoc (codes "copy: " ++ path) (10 ∷ []) (line (codes "copyrev: " ++ hex node));
  first = Lacks-append 10 (codes "copy: ") path (Lacks-by_test 10 (codes "copy: ") refl) (Lacks-by_test 10 path is.path_is.1);
  second = Lacks-append 10 (codes "copyrev: ") (hex node) (Lacks-by_test 10 (codes "copyrev: ") refl) (hex-lacks 10 node (omega arith) is.node_is.1);
}

path_in-takes : (first path : Bytes) → path_in first ≡ Some path → (first ≡ codes "copy: " ++ path) × (path ≢ [])
unfolding path_in
path_in-takes first path e =
    let a = bind_some (after_word (codes "copy: ") first) (λ p. if length p == 0 then None else Some p) path e in
    let b = if_none (length a.0 == 0) a.0 path a.2 in
    let some : a.0 ≢ [] = λ empty. false≢true (sym b.0 ∙ ap (λ (x : Bytes). length x == 0) empty) in
    subst (λ (x : Bytes). (first ≡ codes "copy: " ++ x) × (x ≢ [])) b.1 (after_word-takes (codes "copy: ") first a.0 a.1, some)

path_in-again : (path : Bytes) → path ≢ [] → path_in (codes "copy: " ++ path) ≡ Some path
unfolding path_in
path_in-again [] some = absurd (some refl)
path_in-again (x ∷ xs) some = rw (after_word-again (codes "copy: ") (x ∷ xs), filled x xs) refl

node_in-takes : (second : Bytes) (node : Id) → node_in second ≡ Some node → (second ≡ codes "copyrev: " ++ hex node) × IsId node
unfolding node_in
node_in-takes second node e =
    let a = bind_some (after_word (codes "copyrev: ") second) (λ digits. id_of_hex digits) node e in
    let b = id_of_hex-takes a.0 node a.2 in
    (after_word-takes (codes "copyrev: ") second a.0 a.1 ∙ ap (λ (x : Bytes). codes "copyrev: " ++ x) b.1, b.0)

node_in-again : (node : Id) → IsId node → node_in (codes "copyrev: " ++ hex node) ≡ Some node
unfolding node_in
node_in-again node is = rw (after_word-again (codes "copyrev: ") (hex node), id_of_hex-hex node is) refl

is_copy : (meta first second rest path : Bytes) (node : Id) → meta ≡ first ++ 10 ∷ (second ++ 10 ∷ rest) → Lacks 10 first
    → (first ≡ codes "copy: " ++ path) × (path ≢ []) → (second ≡ codes "copyrev: " ++ hex node) × IsId node → (length rest == 0) ≡ true → IsCopy meta path node
is_copy meta first second rest path node whole lacks p n none = record {
  path_is = (p.1, has_byte-lacks 10 path (Lacks-rest 10 (codes "copy: ") path (subst (λ (x : Bytes). Lacks 10 x) p.0 lacks)));
  node_is = n.1;
  spells = whole ∙ (λ i. p.0 i ++ 10 ∷ (n.0 i ++ 10 ∷ no_length rest none i)) ∙ sym (append_assoc (codes "copy: " ++ path) (10 ∷ []) (line (codes "copyrev: " ++ hex node)));
}

pub copy_in-takes : (meta path : Bytes) (node : Id) → copy_in meta ≡ Some (path, node) → IsCopy meta path node
unfolding copy_in
copy_in-takes meta path node e =
    let a = bind_some (cut_of 10 meta) (λ first. cut_of 10 first.1 >>= λ second. path_in first.0 >>= λ p. node_in second.0 >>= λ n. if length second.1 == 0 then Some (p, n) else None) (path, node) e in
    let b = bind_some (cut_of 10 a.0.1) (λ second. path_in a.0.0 >>= λ p. node_in second.0 >>= λ n. if length second.1 == 0 then Some (p, n) else None) (path, node) a.2 in
    let d = bind_some (path_in a.0.0) (λ p. node_in b.0.0 >>= λ n. if length b.0.1 == 0 then Some (p, n) else None) (path, node) b.2 in
    let f = bind_some (node_in b.0.0) (λ n. if length b.0.1 == 0 then Some (d.0, n) else None) (path, node) d.2 in
    let g = if_some (length b.0.1 == 0) (d.0, f.0) (path, node) f.2 in
    let first = cut_of-takes 10 meta a.0.0 a.0.1 a.1 in
    let second = cut_of-takes 10 a.0.1 b.0.0 b.0.1 b.1 in
    subst (λ (x : Bytes × Id). IsCopy meta x.0 x.1) {x = (d.0, f.0)} g.1 (is_copy meta a.0.0 b.0.0 b.0.1 d.0 f.0 (first.0 ∙ ap (λ (x : Bytes). a.0.0 ++ 10 ∷ x) second.0) first.1 (path_in-takes a.0.0 d.0 d.1) (node_in-takes b.0.0 f.0 f.1) g.0)

pub copy_in-again : (meta path : Bytes) (node : Id) → IsCopy meta path node → copy_in meta ≡ Some (path, node)
unfolding copy_in
copy_in-again meta path node is =
    let l = lines_of meta path node is in
    ap copy_in l.whole
    ∙ rw (cut_of-at 10 (codes "copy: " ++ path) ((codes "copyrev: " ++ hex node) ++ 10 ∷ []) l.first, cut_of-at 10 (codes "copyrev: " ++ hex node) [] l.second, path_in-again path is.path_is.0, node_in-again node is.node_is) refl

-- ---- the definition

bytes_of_digits-hex : (node : Id) → IsId node → bytes_of_digits (hex node) ≡ node
bytes_of_digits-hex node is = some_is (sym (id_of_hex-some (hex node) (is_hex_id-hex node is)) ∙ id_of_hex-hex node is)

all_but_last-line : (xs : Bytes) → all_but_last (xs ++ 10 ∷ []) ≡ xs
all_but_last-line [] = refl
all_but_last-line (x ∷ []) = refl
all_but_last-line (x ∷ y ∷ ys) = ap (λ (l : Bytes). x ∷ l) (all_but_last-line (y ∷ ys))

lacks_after : (n : ℕ) (xs : Bytes) → Lacks 10 xs → Lacks 10 (all_but_last (drop n (xs ++ 10 ∷ [])))
lacks_after zero xs lacks = subst (λ (l : Bytes). Lacks 10 l) (sym (all_but_last-line xs)) lacks
lacks_after (suc n) [] lacks = nothing n
  where
    nothing : (n : ℕ) → Lacks 10 (all_but_last (drop n []))
    nothing zero = tt
    nothing (suc n) = tt
lacks_after (suc n) (x ∷ xs) lacks = lacks_after n xs lacks.1

by_lines : (first path : Bytes) (node : Id) (lines : List Bytes) → Lacks 10 first → copy_by (line first ∷ lines) ≡ Some (path, node) → (meta : Bytes) → meta ≡ line first ++ flat_map (λ l. l) lines → IsCopy meta path node
by_lines first path node [] lacks e meta whole = absurd (none_some e)
by_lines first path node (a ∷ b ∷ lines) lacks e meta whole = absurd (none_some e)
by_lines first path node (second ∷ []) lacks e meta whole =
    let p : Bytes = all_but_last (drop 6 (line first)) in
    let digits : Bytes = all_but_last (drop 9 second) in
    let both : Bytes = line first ++ second in
    let same : Bool = bytes_eq both (copy_meta p (bytes_of_digits digits)) in
    let made = if_some (not (length p == 0) && is_hex_id digits && same) (p, bytes_of_digits digits) (path, node) e in
    let tests = and_parts (not (length p == 0) && is_hex_id digits) same made.0 in
    let others = and_parts (not (length p == 0)) (is_hex_id digits) tests.0 in
    let spells : meta ≡ copy_meta p (bytes_of_digits digits) =
    whole ∙ ap (λ (x : Bytes). line first ++ x) (append-nil second) ∙ (bytes_eq-Decides both (copy_meta p (bytes_of_digits digits))).0 tests.1 in
    let some : p ≢ [] = λ empty. false≢true (ap (λ (x : Bytes). not (length x == 0)) (sym empty) ∙ others.0) in
    let is : IsCopy meta p (bytes_of_digits digits) = record {
      path_is = (some, has_byte-lacks 10 p (lacks_after 6 first lacks));
      node_is = (id_of_hex-takes digits (bytes_of_digits digits) (id_of_hex-some digits others.1)).0;
      spells = spells;
    } in
    subst (λ (x : Bytes × Id). IsCopy meta x.0 x.1) {x = (p, bytes_of_digits digits)} made.1 is

pub copy_of-takes : (meta path : Bytes) (node : Id) → copy_of meta ≡ Some (path, node) → IsCopy meta path node
copy_of-takes meta path node e = by (cut_of 10 meta) refl
  where
    alone : (text : Bytes) → Lacks 10 text → copy_by (whole_lines text) ≡ None
    alone [] lacks = ap copy_by whole_lines-none
    alone (x ∷ xs) lacks = ap copy_by (whole_lines-last x xs lacks)

    by : (cut : Option (Bytes × Bytes)) → cut_of 10 meta ≡ cut → IsCopy meta path node
    by None c = absurd (none_some (sym (alone meta (cut_of-none 10 meta c)) ∙ e))
    by (Some cut) c =
        let first = cut_of-takes 10 meta cut.0 cut.1 c in
        let lines = ap whole_lines first.0 ∙ whole_lines-line cut.0 cut.1 first.1 in
        let whole : meta ≡ line cut.0 ++ flat_map (λ l. l) (whole_lines cut.1) =
        first.0 ∙ sym (append_assoc cut.0 (10 ∷ []) cut.1) ∙ ap (λ (x : Bytes). line cut.0 ++ x) (sym (whole_lines-whole cut.1)) in
        by_lines cut.0 path node (whole_lines cut.1) first.1 (sym (ap copy_by lines) ∙ e) meta whole

copy_by-again : (path : Bytes) (node : Id) → path ≢ [] → IsId node → copy_by (line (codes "copy: " ++ path) ∷ line (codes "copyrev: " ++ hex node) ∷ []) ≡ Some (path, node)
copy_by-again [] node some is = absurd (some refl)
copy_by-again (x ∷ xs) node some is =
    rw (all_but_last-line (x ∷ xs), filled x xs, all_but_last-line (hex node), is_hex_id-hex node is, bytes_of_digits-hex node is, (bytes_eq-Decides (copy_meta (x ∷ xs) node) (copy_meta (x ∷ xs) node)).1 refl) refl

pub copy_of-again : (meta path : Bytes) (node : Id) → IsCopy meta path node → copy_of meta ≡ Some (path, node)
copy_of-again meta path node is =
    let l = lines_of meta path node is in
    let lines : whole_lines meta ≡ line (codes "copy: " ++ path) ∷ line (codes "copyrev: " ++ hex node) ∷ [] =
    ap whole_lines l.whole ∙ whole_lines-line (codes "copy: " ++ path) (line (codes "copyrev: " ++ hex node)) l.first
    ∙ ap (λ (x : List Bytes). line (codes "copy: " ++ path) ∷ x) (whole_lines-line (codes "copyrev: " ++ hex node) [] l.second ∙ ap (λ (x : List Bytes). line (codes "copyrev: " ++ hex node) ∷ x) whole_lines-none) in
    ap copy_by lines ∙ copy_by-again path node is.path_is.0 is.node_is

same_by : {A : Type 0} (a b : Option A) → ((x : A) → a ≡ Some x → b ≡ Some x) → ((x : A) → b ≡ Some x → a ≡ Some x) → a ≡ b
same_by (Some x) b f g = sym (f x refl)
same_by None None f g = refl
same_by None (Some x) f g = g x refl

-- both read the same
pub copies_same : (meta : Bytes) → copy_in meta ≡ copy_of meta
copies_same meta = same_by (copy_in meta) (copy_of meta)
    (λ x e. copy_of-again meta x.0 x.1 (copy_in-takes meta x.0 x.1 e))
    (λ x e. copy_in-again meta x.0 x.1 (copy_of-takes meta x.0 x.1 e))

pub found : {T : Type 0} (view : T → Bytes × Id) (meta : Bytes) (r : Option T) → option_map view r ≡ copy_in meta → IfSome r (λ t. IsCopy meta (view t).0 (view t).1)
found view meta None e = tt
found view meta (Some t) e = copy_in-takes meta (view t).0 (view t).1 (sym e)

-- ---- lines that name a copy

with_end : (word xs : Bytes) → Lacks 10 word → starts_with ◌==◌ (line xs) word ≡ starts_with ◌==◌ xs word
with_end [] xs lacks = refl
with_end (y ∷ ys) [] lacks = ap (λ (b : Bool). b && pointwise ◌==◌ ys (take (length ys) [])) (differs y 10 lacks.0)
with_end (y ∷ ys) (x ∷ xs) lacks = ap (λ (b : Bool). y == x && b) (with_end ys xs lacks.1)

-- a line that is passed
pub has_copy-at : (first rest : Bytes) → Lacks 10 first → has_copy (first ++ 10 ∷ rest) ≡ (starts_with ◌==◌ first (codes "copy: ") || has_copy rest)
has_copy-at first rest lacks =
    ap (list_any (λ l. starts_with ◌==◌ l (codes "copy: "))) (whole_lines-line first rest lacks)
    ∙ ap (λ (b : Bool). b || has_copy rest) (with_end (codes "copy: ") first (Lacks-by_test 10 (codes "copy: ") refl))

-- the last line, without LF
pub has_copy-last : (rest : Bytes) → Lacks 10 rest → has_copy rest ≡ starts_with ◌==◌ rest (codes "copy: ")
has_copy-last [] lacks = ap (list_any (λ l. starts_with ◌==◌ l (codes "copy: "))) whole_lines-none
has_copy-last (x ∷ xs) lacks =
    ap (list_any (λ l. starts_with ◌==◌ l (codes "copy: "))) (whole_lines-last x xs lacks) ∙ or_false (starts_with ◌==◌ (x ∷ xs) (codes "copy: "))

-- what a turn over the lines knows
pub record LineTurn (rest first after : Bytes) : Type 0 where
  pub shorter : length after < length rest
  pub copies : has_copy rest ≡ (starts_with ◌==◌ first (codes "copy: ") || has_copy after)

pub line_turn : (rest first after : Bytes) → Some (first, after) ≡ cut_of 10 rest → LineTurn rest first after
line_turn rest first after e =
    let cut = cut_of-takes 10 rest first after (sym e) in
    record {
      shorter = omega (arith, ap (λ (x : Bytes). length x) cut.0, length-append first (10 ∷ after));
      copies = ap has_copy cut.0 ∙ has_copy-at first after cut.1;
    }

pub last_line : (rest : Bytes) → None ≡ cut_of 10 rest → has_copy rest ≡ starts_with ◌==◌ rest (codes "copy: ")
last_line rest e = has_copy-last rest (cut_of-none 10 rest (sym e))
