-- What the tests of marks tell: a part has no mark exactly where it is the one that the rule gives.
use Rattle.std.proofs.Common.{◌≡◌, Bool, true, false, true≢false, List, [], ◌∷◌, ◌++◌, Option, Some, None, refl, sym, ap, ◌∙◌, bytes_eq}
use Rattle.std.specs.Prelude.{◌↔◌, ◌&&◌, IsTrue}
use Rattle.std.proofs.lemmas.Bool.{and_parts}
use Rattle.std.proofs.lemmas.Slice.Eq.{bytes_eq-Decides}
use Rattle.text_model.specs.Lists.{rises}
use Rattle.text_model.specs.Text.{Bytes}
use Rattle.text_model.specs.Id.{blob_id}
use Rattle.text_model.proofs.EachLemmas.{Each-front}
use Rattle.hg_model.specs.Manifest.{Flag, Regular, Executable, Symlink}
use Rattle.view_model.specs.View.{FileRevision, file_node, Row, Compared, compared_revision, SameRow, ManifestParents, NoManifest, Over}
use Rattle.pair_model.specs.Block.{Parents}
use Rattle.pair_model.specs.Rule.{mode_of_flag, flag_of_mode, tree_row_of, ruled_row}
use Rattle.pair_model.specs.MarkList.{Mark, IsMark, may_follow, IsMarkList}
use Rattle.partner_model.specs.Mark.{same_meta, same_file_revision, is_ruled, same_manifest, same_paths}

same : (x y : Bytes) → bytes_eq x y ≡ true → x ≡ y
same x y h = (bytes_eq-Decides x y).0 h

own : (x : Bytes) → bytes_eq x x ≡ true
own x = (bytes_eq-Decides x x).1 refl

-- ---- one revision

meta-is : (a b : Option Bytes) → same_meta a b ≡ true → a ≡ b
meta-is None None h = refl
meta-is None (Some b) h = absurd (true≢false (sym h))
meta-is (Some a) None h = absurd (true≢false (sym h))
meta-is (Some a) (Some b) h = ap Some (same a b h)

meta-own : (a : Option Bytes) → same_meta a a ≡ true
meta-own None = refl
meta-own (Some a) = own a

pub same_revision-decides : (a b : FileRevision) → IsTrue (same_file_revision a b) ↔ (compared_revision a ≡ compared_revision b)
same_revision-decides a b = (there, back)
  where
    there : same_file_revision a b ≡ true → compared_revision a ≡ compared_revision b
    there h =
        let w = and_parts (bytes_eq (file_node a) (file_node b) && bytes_eq a.p b.p && bytes_eq a.q b.q && same_meta a.meta b.meta) (bytes_eq (blob_id a.body) (blob_id b.body)) h in
        let x = and_parts (bytes_eq (file_node a) (file_node b) && bytes_eq a.p b.p && bytes_eq a.q b.q) (same_meta a.meta b.meta) w.0 in
        let y = and_parts (bytes_eq (file_node a) (file_node b) && bytes_eq a.p b.p) (bytes_eq a.q b.q) x.0 in
        let z = and_parts (bytes_eq (file_node a) (file_node b)) (bytes_eq a.p b.p) y.0 in
        let n = same (file_node a) (file_node b) z.0 in
        let p = same a.p b.p z.1 in
        let q = same a.q b.q y.1 in
        let m = meta-is a.meta b.meta x.1 in
        let o = same (blob_id a.body) (blob_id b.body) w.1 in
        λ i. record { node = n i; p = p i; q = q i; meta = m i; body = o i }

    back : compared_revision a ≡ compared_revision b → same_file_revision a b ≡ true
    back e =
        let n : bytes_eq (file_node a) (file_node b) ≡ true = ap (λ (x : Compared). bytes_eq (file_node a) x.node) (sym e) ∙ own (file_node a) in
        let p : bytes_eq a.p b.p ≡ true = ap (λ (x : Compared). bytes_eq a.p x.p) (sym e) ∙ own a.p in
        let q : bytes_eq a.q b.q ≡ true = ap (λ (x : Compared). bytes_eq a.q x.q) (sym e) ∙ own a.q in
        let m : same_meta a.meta b.meta ≡ true = ap (λ (x : Compared). same_meta a.meta x.meta) (sym e) ∙ meta-own a.meta in
        let o : bytes_eq (blob_id a.body) (blob_id b.body) ≡ true = ap (λ (x : Compared). bytes_eq (blob_id a.body) x.body) (sym e) ∙ own (blob_id a.body) in
        rw (n, p, q, m, o) refl

flag-back : (f : Flag) → flag_of_mode (mode_of_flag f) ≡ f
flag-back Regular = refl
flag-back Executable = refl
flag-back Symlink = refl

-- an entry has no mark exactly where the rule gives it back
pub is_ruled-decides : (ps : Parents) (row : Row) → IsTrue (is_ruled ps row) ↔ SameRow (ruled_row ps (tree_row_of row)) row
is_ruled-decides ps row =
    let d = same_revision-decides row.revision (ruled_row ps (tree_row_of row)).revision in
    ((λ h. (refl, flag-back row.flag, sym (d.0 h))), (λ s. d.1 (sym s.2)))

-- ---- other parts

pub same_manifest-decides : (m n : ManifestParents) → IsTrue (same_manifest m n) ↔ (m ≡ n)
same_manifest-decides NoManifest NoManifest = ((λ h. refl), (λ e. refl))
same_manifest-decides NoManifest (Over p q) = ((λ h. absurd (true≢false (sym h))), (λ e. absurd cc))
same_manifest-decides (Over p q) NoManifest = ((λ h. absurd (true≢false (sym h))), (λ e. absurd cc))
same_manifest-decides (Over p q) (Over a b) = (
  (λ h. let x = and_parts (bytes_eq p a) (bytes_eq q b) h in (λ i. Over (same p a x.0 i) (same q b x.1 i))),
  (λ e. let x : p ≡ a = cc in let y : q ≡ b = cc in rw (sym x, sym y, own p, own q) refl),
)

pub same_paths-decides : (xs ys : List Bytes) → IsTrue (same_paths xs ys) ↔ (xs ≡ ys)
same_paths-decides xs ys = (there xs ys, back xs ys)
  where
    there : (xs ys : List Bytes) → same_paths xs ys ≡ true → xs ≡ ys
    there [] [] h = refl
    there [] (y ∷ ys) h = absurd (true≢false (sym h))
    there (x ∷ xs) [] h = absurd (true≢false (sym h))
    there (x ∷ xs) (y ∷ ys) h =
        let a = and_parts (bytes_eq x y) (same_paths xs ys) h in
        let t = there xs ys a.1 in
        λ i. same x y a.0 i ∷ t i

    own-paths : (xs : List Bytes) → same_paths xs xs ≡ true
    own-paths [] = refl
    own-paths (x ∷ xs) = rw (own x) (own-paths xs)

    back : (xs ys : List Bytes) → xs ≡ ys → same_paths xs ys ≡ true
    back xs ys e = ap (same_paths xs) (sym e) ∙ own-paths xs

-- where one test tells what another does, they have one answer
pub one-answer : {P : Type 0} (s t : Bool) → (IsTrue s ↔ P) → (IsTrue t ↔ P) → s ≡ t
one-answer true true h k = refl
one-answer true false h k = absurd (true≢false (sym (k.1 (h.0 refl))))
one-answer false true h k = absurd (true≢false (sym (h.1 (k.0 refl))))
one-answer false false h k = refl

-- ---- lists of marks, mark by mark

rises-front : (ms ns : List Mark) → rises may_follow (ms ++ ns) ≡ true → rises may_follow ms ≡ true
rises-front [] ns h = refl
rises-front (m ∷ []) ns h = refl
rises-front (m ∷ n ∷ ms) ns h =
    let a = and_parts (may_follow m n) (rises may_follow (n ∷ (ms ++ ns))) h in
    rw a.0 (rises-front (n ∷ ms) ns a.1)

-- the marks up to a place in a mark list are a mark list
pub list-front : (ms ns : List Mark) → IsMarkList (ms ++ ns) → IsMarkList ms
list-front ms ns h = (Each-front IsMark ms ns h.0, rises-front ms ns h.1)
