-- Where the mark of metadata stands in bytes.
use Rattle.std.proofs.Common.{◌≡◌, ℕ, suc, ◌+◌, ◌<◌, Bool, true, false, ◌&&◌, ◌==◌, eqb, List, [], ◌∷◌, ◌++◌, length, take, drop, refl, sym, ap, ◌∙◌, append_assoc, arith, ⊎_elim, get_or-take, slice_index, length-take, zero, not, Option, Some, None, take-append-drop, subst}
use Rattle.std.specs.List.{starts_with}
use Rattle.std.specs.Cmp.Lexicographic.{pointwise}
use Rattle.std.proofs.lemmas.Bool.{cases_Bool, and_parts, or_parts, or_from, or_right, eqb-true, false≢true}
use Rattle.text_model.proofs.Options.{none_some}
use Rattle.memchr.specs.Find.{OccursAt}
use Rattle.text_model.specs.Text.{IsBytes, has_piece}
use Rattle.text_model.proofs.ByteLemmas.{IsBytes-drop, IsBytes-take}
use Rattle.memchr.proofs.lemmas.MatchLemmas.{OccursAt-split}
use Rattle.hg_model.specs.FileText.{mark, begins_with_mark, file_text, IsFile, IsFileText, lacks_second_mark}

two_false : (b : Bool) → (b && false) ≡ false
two_false true = refl
two_false false = refl

-- what begins with the mark is the mark and the rest
pub begins-takes : (bytes : List ℕ) → begins_with_mark bytes ≡ true → bytes ≡ mark ++ drop 2 bytes
begins-takes [] e = absurd (false≢true e)
begins-takes (x ∷ []) e = absurd (false≢true (sym (two_false (eqb 1 x)) ∙ e))
begins-takes (x ∷ y ∷ rest) e =
    let heads = and_parts (eqb 1 x) (eqb 10 y && true) e in
    let one = eqb-true 1 x heads.0 in
    let ten = eqb-true 10 y (and_parts (eqb 10 y) true heads.1).0 in
    (λ i. sym one i ∷ sym ten i ∷ rest)

-- what `strip_prefix` tells
pub stripped-takes : (bytes : List ℕ) → pointwise ◌==◌ (take 2 bytes) mark ≡ true → bytes ≡ mark ++ drop 2 bytes
stripped-takes [] e = absurd (false≢true e)
stripped-takes (x ∷ []) e = absurd (false≢true (sym (two_false (eqb x 1)) ∙ e))
stripped-takes (x ∷ y ∷ rest) e =
    let heads = and_parts (eqb x 1) (eqb y 10 && true) e in
    let one = eqb-true x 1 heads.0 in
    let ten = eqb-true y 10 (and_parts (eqb y 10) true heads.1).0 in
    (λ i. one i ∷ ten i ∷ rest)

-- the mark stands in what has it
pub has_piece-at : (front rest : List ℕ) → has_piece mark (front ++ mark ++ rest) ≡ true
has_piece-at [] rest = refl
has_piece-at (x ∷ xs) rest = or_right (starts_with ◌==◌ (x ∷ xs ++ mark ++ rest) mark) _ (has_piece-at xs rest)

at_front : (bytes : List ℕ) → bytes ≡ mark ++ drop 2 bytes → OccursAt bytes mark 0
at_front bytes e = record {
  fits = omega (arith, ap (λ (x : List ℕ). length x) e);
  reads = λ j lt. same j lt;
}
  where
    same : (j : ℕ) → j < 2 → slice_index bytes (0 + j) ≡ slice_index mark j
    same zero lt = ap (λ (x : List ℕ). slice_index x 0) e
    same (suc zero) lt = ap (λ (x : List ℕ). slice_index x 1) e
    same (suc (suc j)) lt = absurd (omega arith)

one_on : (b : ℕ) (bytes : List ℕ) (k : ℕ) → OccursAt bytes mark k → OccursAt (b ∷ bytes) mark (suc k)
one_on b bytes k occurs = record {
  fits = omega (arith, occurs.fits);
  reads = λ j lt.
      let next : suc k + j ≡ suc (k + j) = omega arith in
      rw next (occurs.reads j lt);
}

-- bytes in which the mark occurs nowhere
pub has_piece-nowhere : (bytes : List ℕ) → ((k : ℕ) → OccursAt bytes mark k → ⊥) → has_piece mark bytes ≡ false
has_piece-nowhere [] none = refl
has_piece-nowhere (b ∷ bytes) none =
    or_from (begins_with_mark (b ∷ bytes)) (has_piece mark bytes)
    (⊎_elim (λ yes_it. absurd (none 0 (at_front (b ∷ bytes) (begins-takes (b ∷ bytes) yes_it)))) (λ not_it. not_it) (cases_Bool (begins_with_mark (b ∷ bytes))))
    (has_piece-nowhere bytes (λ k occurs. none (suc k) (one_on b bytes k occurs)))

-- nor does it occur before its first place
pub has_piece-before : (bytes : List ℕ) (end : ℕ) → ((k : ℕ) → k < end → OccursAt bytes mark k → ⊥) → has_piece mark (take end bytes) ≡ false
has_piece-before bytes end none = has_piece-nowhere (take end bytes) (λ k occurs.
    let fits = occurs.fits in
    let short = length-take end bytes in
    none k (omega arith) (record {
      fits = omega arith;
      reads = λ j lt. sym (get_or-take end bytes (k + j) 0 (omega arith)) ∙ occurs.reads j lt;
    }))

-- no mark begins with the last byte of one
crossed : (y : ℕ) (ys rest tail : List ℕ) → has_piece mark (y ∷ ys) ≡ false → mark ++ rest ≡ y ∷ ys ++ mark ++ tail → ⊥
crossed y [] rest tail none e = one_ten 10 refl (ap (λ (x : List ℕ). slice_index x 1) e)
  where
    one_ten : (n : ℕ) → n ≡ 10 → n ≡ 1 → ⊥
    one_ten n h k = absurd (omega arith)
crossed y (z ∷ zs) rest tail none e =
    let one : 1 ≡ y = ap (λ (x : List ℕ). slice_index x 0) e in
    let ten : 10 ≡ z = ap (λ (x : List ℕ). slice_index x 1) e in
    false≢true (sym none ∙ (λ i. has_piece mark (sym one i ∷ sym ten i ∷ zs)))

-- what stands before the first mark, and after it, is one pair
pub one_cut : (front other rest tail : List ℕ) → has_piece mark front ≡ false → has_piece mark other ≡ false → front ++ mark ++ rest ≡ other ++ mark ++ tail → (front ≡ other) × (rest ≡ tail)
one_cut [] [] rest tail f o e = (refl, ap (λ (x : List ℕ). drop 2 x) e)
one_cut [] (y ∷ ys) rest tail f o e = absurd (crossed y ys rest tail o e)
one_cut (x ∷ xs) [] rest tail f o e = absurd (crossed x xs tail rest f (sym e))
one_cut (x ∷ xs) (y ∷ ys) rest tail f o e =
    let head : x ≡ y = ap (λ (l : List ℕ). slice_index l 0) e in
    let tails = one_cut xs ys rest tail (or_parts _ _ f).1 (or_parts _ _ o).1 (ap (λ (l : List ℕ). drop 1 l) e) in
    ((λ i. head i ∷ tails.0 i), tails.1)

-- bytes that begin with the mark
pub lacks-after : (bytes rest : List ℕ) (found : Bool) → bytes ≡ mark ++ rest → has_piece mark rest ≡ found → lacks_second_mark bytes ≡ not found
lacks-after bytes rest found e f = ap lacks_second_mark e ∙ ap not f

-- the text of a pair lacks no mark
pub lacks-never : (meta : Option (List ℕ)) (body : List ℕ) → IsFile meta body → lacks_second_mark (file_text meta body) ≡ false
lacks-never None body is = ap (λ (b : Bool). b && not (has_piece mark (drop 2 body))) is.1
lacks-never (Some meta) body is = ap not (has_piece-at meta body)

-- a text that begins with a mark is that of no body alone
wrapped : (meta body rest : List ℕ) → begins_with_mark body ≡ false → body ≡ file_text (Some meta) rest → ⊥
wrapped meta body rest none e = false≢true (sym none ∙ ap begins_with_mark e)

-- one pair has the text
pub one_pair : (meta other : Option (List ℕ)) (body rest : List ℕ) → IsFile meta body → IsFile other rest → file_text meta body ≡ file_text other rest → (meta ≡ other) × (body ≡ rest)
one_pair None None body rest f o e = (refl, e)
one_pair None (Some other) body rest f o e = absurd (wrapped other body rest f.1 e)
one_pair (Some meta) None body rest f o e = absurd (wrapped meta rest body o.1 (sym e))
one_pair (Some meta) (Some other) body rest f o e =
    let cut = one_cut meta other body rest f.2 o.2 (ap (λ (x : List ℕ). drop 2 x) e) in
    (ap Some cut.0, cut.1)

-- the bytes round the place where the mark is found
pub record FoundAt (bytes : List ℕ) (end : ℕ) : Type 0 where
  pub whole : bytes ≡ take end bytes ++ mark ++ drop (end + 2) bytes
  pub front : has_piece mark (take end bytes) ≡ false
  pub there : has_piece mark bytes ≡ true

pub found : (bytes : List ℕ) (end : ℕ) → OccursAt bytes mark end → ((k : ℕ) → k < end → OccursAt bytes mark k → ⊥) → FoundAt bytes end
found bytes end occurs before =
    let whole : bytes ≡ take end bytes ++ mark ++ drop (end + 2) bytes = sym (take-append-drop end bytes) ∙ ap (λ (x : List ℕ). take end bytes ++ x) (OccursAt-split bytes mark end occurs) ∙ sym (append_assoc (take end bytes) mark (drop (end + 2) bytes)) in
    record { whole = whole; front = has_piece-before bytes end before; there = ap (has_piece mark) whole ∙ has_piece-at (take end bytes) (drop (end + 2) bytes) }

-- the metadata and the body that stand round that place
pub parts_of : (bytes rest : List ℕ) (end : ℕ) → IsBytes bytes → bytes ≡ mark ++ rest → FoundAt rest end → IsFileText bytes (Some (take end rest)) (drop (end + 2) rest)
parts_of bytes rest end fits whole at =
    let inner : IsBytes rest = IsBytes-drop 2 (mark ++ rest) (subst (λ (x : List ℕ). IsBytes x) whole fits) in
    ((IsBytes-drop (end + 2) rest inner, IsBytes-take end rest inner, at.front), whole ∙ ap (λ (x : List ℕ). mark ++ x) at.whole)
