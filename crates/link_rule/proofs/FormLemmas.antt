-- The parts of a link's value.
use Rattle.std.proofs.Common.{◌≡◌, ℕ, ◌+◌, ◌&&◌, Bool, true, false, true≢false, List, [], ◌∷◌, ◌++◌, Option, Some, None, refl, sym, ap, ◌∙◌}
use Rattle.std.specs.Prelude.{nat_le, is_some, option_map}
use Rattle.text_model.specs.Cuts.{Lacks, cut_of}
use Rattle.text_model.specs.Text.{Bytes, is_decimal, number_of}
use Rattle.text_model.specs.Id.{is_hex_id, id_of_hex}
use Rattle.text_model.proofs.CutLemmas.{cut_of-takes, cut_of-none}
use Rattle.text_model.proofs.TestLemmas.{differs}
use Rattle.pair_model.specs.Octopus.{is_link_value}
use Rattle.partner_model.specs.Filled.{has_numbers}
use Rattle.link_rule.specs.Form.{parts_of, three_of}

no-cons : {x : Bytes} {xs : List Bytes} → x ∷ xs ≡ [] → ⊥
no-cons e = cc

cut-at : (front rest : Bytes) → Lacks 58 front → parts_of (front ++ 58 ∷ rest) ≡ front ∷ parts_of rest
cut-at [] rest h = refl
cut-at (x ∷ xs) rest h = rw (differs x 58 h.0, cut-at xs rest h.1) refl

one-part : (part : Bytes) → Lacks 58 part → parts_of part ≡ part ∷ []
one-part [] h = refl
one-part (x ∷ xs) h = rw (differs x 58 h.0, one-part xs h.1) refl

no-cut : (value : Bytes) → cut_of 58 value ≡ None → parts_of value ≡ value ∷ []
no-cut value e = one-part value (cut_of-none 58 value e)

a-cut : (value front rest : Bytes) → cut_of 58 value ≡ Some (front, rest) → parts_of value ≡ front ∷ parts_of rest
a-cut value front rest e = let t = cut_of-takes 58 value front rest e in ap parts_of t.0 ∙ cut-at front rest t.1

-- there is always a part
some-part : (value : Bytes) → parts_of value ≡ [] → ⊥
some-part value h = by (cut_of 58 value) refl
  where
    by : (o : Option (Bytes × Bytes)) → cut_of 58 value ≡ o → ⊥
    by None e = no-cons (sym (no-cut value e) ∙ h)
    by (Some (front, rest)) e = no-cons (sym (a-cut value front rest e) ∙ h)

-- ---- how many parts there are, by the cuts

pub one : (value : Bytes) → cut_of 58 value ≡ None → three_of (parts_of value) ≡ None
one value e = ap three_of (no-cut value e)

pub two : (value a rest : Bytes) → cut_of 58 value ≡ Some (a, rest) → cut_of 58 rest ≡ None → three_of (parts_of value) ≡ None
two value a rest e f = ap three_of (a-cut value a rest e ∙ ap (λ (l : List Bytes). a ∷ l) (no-cut rest f))

two-cuts : (value a rest b c : Bytes) → cut_of 58 value ≡ Some (a, rest) → cut_of 58 rest ≡ Some (b, c) → parts_of value ≡ a ∷ b ∷ parts_of c
two-cuts value a rest b c e f = a-cut value a rest e ∙ ap (λ (l : List Bytes). a ∷ l) (a-cut rest b c f)

pub four : (value a rest b c : Bytes) → cut_of 58 value ≡ Some (a, rest) → cut_of 58 rest ≡ Some (b, c) → is_some (cut_of 58 c) ≡ true → three_of (parts_of value) ≡ None
four value a rest b c e f some = by (cut_of 58 c) refl some
  where
    by : (o : Option (Bytes × Bytes)) → cut_of 58 c ≡ o → is_some o ≡ true → three_of (parts_of value) ≡ None
    by None g some = absurd (true≢false (sym some))
    by (Some (m, more)) g some = more-parts (parts_of more) refl
      where
        more-parts : (l : List Bytes) → parts_of more ≡ l → three_of (parts_of value) ≡ None
        more-parts [] h = absurd (some-part more h)
        more-parts (x ∷ l) h = ap three_of (two-cuts value a rest b c e f ∙ ap (λ (l : List Bytes). a ∷ b ∷ l) (a-cut c m more g ∙ ap (λ (l : List Bytes). m ∷ l) h))

pub three : (value a rest b c : Bytes) → cut_of 58 value ≡ Some (a, rest) → cut_of 58 rest ≡ Some (b, c) → is_some (cut_of 58 c) ≡ false → three_of (parts_of value) ≡ Some (a, b, c)
three value a rest b c e f none = ap three_of (two-cuts value a rest b c e f ∙ ap (λ (l : List Bytes). a ∷ b ∷ l) (no-cut c (by (cut_of 58 c) none)))
  where
    by : (o : Option (Bytes × Bytes)) → is_some o ≡ false → o ≡ None
    by None h = refl
    by (Some x) h = absurd (true≢false h)

pub some-map : {X Y : Type 0} (f : X → Y) (o : Option X) → is_some (option_map f o) ≡ is_some o
some-map f None = refl
some-map f (Some x) = refl

-- ---- what the parts say

pub parts-are : (l : List Bytes) (a b c : Bytes) → three_of l ≡ Some (a, b, c) → l ≡ a ∷ b ∷ c ∷ []
parts-are [] a b c e = absurd cc
parts-are (x ∷ []) a b c e = absurd cc
parts-are (x ∷ y ∷ []) a b c e = absurd cc
parts-are (x ∷ y ∷ z ∷ []) a b c e = ap back e
  where
    back : Option (Bytes × Bytes × Bytes) → List Bytes
    back None = []
    back (Some p) = p.0 ∷ p.1 ∷ p.2 ∷ []
parts-are (x ∷ y ∷ z ∷ w ∷ l) a b c e = absurd cc

pub no-value : (l : List Bytes) → three_of l ≡ None → is_link_value l ≡ false
no-value [] e = refl
no-value (x ∷ []) e = refl
no-value (x ∷ y ∷ []) e = refl
no-value (x ∷ y ∷ z ∷ []) e = absurd cc
no-value (x ∷ y ∷ z ∷ w ∷ l) e = refl

pub no-numbers : (k n : ℕ) (l : List Bytes) → three_of l ≡ None → has_numbers k n l ≡ false
no-numbers k n [] e = refl
no-numbers k n (x ∷ []) e = refl
no-numbers k n (x ∷ y ∷ []) e = refl
no-numbers k n (x ∷ y ∷ z ∷ []) e = absurd cc
no-numbers k n (x ∷ y ∷ z ∷ w ∷ l) e = refl

abbrev pub counts : Bytes → Bytes → Bool
counts k n = is_decimal k && is_decimal n && nat_le 3 (number_of n) && nat_le (number_of n) 64 && nat_le 1 (number_of k) && nat_le (number_of k + 2) (number_of n)

pub hex-is : (text : Bytes) → is_some (id_of_hex text) ≡ is_hex_id text
hex-is text = by (is_hex_id text) refl
  where
    by : (t : Bool) → is_hex_id text ≡ t → is_some (id_of_hex text) ≡ is_hex_id text
    by true t = rw t refl
    by false t = rw t refl

and-six : (h a b c d e f : Bool) → (h && (a && b && c && d && e && f)) ≡ (h && a && b && c && d && e && f)
and-six true a b c d e f = refl
and-six false a b c d e f = refl

pub value-is : (l : List Bytes) (id k n : Bytes) → three_of l ≡ Some (id, k, n) → (is_hex_id id && counts k n) ≡ is_link_value l
value-is l id k n e =
    and-six (is_hex_id id) (is_decimal k) (is_decimal n) (nat_le 3 (number_of n)) (nat_le (number_of n) 64) (nat_le 1 (number_of k)) (nat_le (number_of k + 2) (number_of n))
    ∙ ap is_link_value (sym (parts-are l id k n e))
