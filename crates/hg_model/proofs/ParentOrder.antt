-- Two parents in canonical order: they are the same two, in one order.
use Rattle.std.proofs.Common.{◌≡◌, ◌&&◌, Bool, true, false, refl, ◌∙◌, sym, subst, Option}
use Rattle.std.specs.Prelude.{if◌then◌else◌}
use Rattle.std.proofs.lemmas.Slice.Eq.{bytes_eq-Decides}
use Rattle.std.proofs.Math.Bool.{or_comm}
use Rattle.text_model.specs.Text.{Bytes, is_below}
use Rattle.text_model.specs.Id.{Id, IsId, null, is_null, node_id}
use Rattle.text_model.proofs.OrderLemmas.{is_below-one_way, is_below-same, node_id-either_order}
use Rattle.hg_model.specs.FileText.{names_copy, manifest_order, file_order}

-- what holds of both orders holds of the canonical one
pub manifest_order-either : (P : Id × Id → Type 0) (p q : Id) → P (p, q) → P (q, p) → P (manifest_order p q)
manifest_order-either P p q a b = by (is_null p) refl (is_null q) refl (is_below q p) refl
  where
    by : (x : Bool) → is_null p ≡ x → (y : Bool) → is_null q ≡ y → (z : Bool) → is_below q p ≡ z → P (manifest_order p q)
    by true x y ey z ez = rw (x) b
    by false x true y z ez = rw (x, y) a
    by false x false y true z = rw (x, y, z) b
    by false x false y false z = rw (x, y, z) a

pub file_order-either : (P : Id × Id → Type 0) (meta : Option Bytes) (p q : Id) → P (p, q) → P (q, p) → P (file_order meta p q)
file_order-either P meta p q a b = by (names_copy meta) refl (is_null p) refl (is_null q) refl (is_below q p) refl
  where
    by : (n : Bool) → names_copy meta ≡ n → (x : Bool) → is_null p ≡ x → (y : Bool) → is_null q ≡ y → (z : Bool) → is_below q p ≡ z → P (file_order meta p q)
    by false n x ex y ey z ez = rw n (manifest_order-either P p q a b)
    by true n true x y ey z ez = rw (n, x) a
    by true n false x true y z ez = rw (n, x, y) b
    by true n false x false y true z = rw (n, x, y, z) b
    by true n false x false y false z = rw (n, x, y, z) a

one_parent : (p : Id) → manifest_order p p ≡ (p, p)
one_parent p = manifest_order-either (λ o. o ≡ (p, p)) p p refl refl

twice : (p : Id) → manifest_order (manifest_order p p).0 (manifest_order p p).1 ≡ manifest_order p p
twice p = (λ i. manifest_order (one_parent p i).0 (one_parent p i).1)

-- the canonical order of two in canonical order is as they stand
pub manifest_order-again : (p q : Id) → manifest_order (manifest_order p q).0 (manifest_order p q).1 ≡ manifest_order p q
manifest_order-again p q = by (is_null p) refl (is_null q) refl (is_below q p) refl
  where
    by : (x : Bool) → is_null p ≡ x → (y : Bool) → is_null q ≡ y → (z : Bool) → is_below q p ≡ z → manifest_order (manifest_order p q).0 (manifest_order p q).1 ≡ manifest_order p q
    by true x true y z ez =
        let same : p ≡ q = (bytes_eq-Decides p null).0 x ∙ sym ((bytes_eq-Decides q null).0 y) in
        subst (λ (r : Id). manifest_order (manifest_order p r).0 (manifest_order p r).1 ≡ manifest_order p r) same (twice p)
    by true x false y z ez = rw (x, y) (rw x refl)
    by false x true y z ez = rw (x, y) (rw (x, y) refl)
    by false x false y true z = rw (x, y, z) (rw (x, y, is_below-one_way q p z) refl)
    by false x false y false z = rw (x, y, z) (rw (x, y, z) refl)

pub file_order-again : (meta : Option Bytes) (p q : Id) → file_order meta (file_order meta p q).0 (file_order meta p q).1 ≡ file_order meta p q
file_order-again meta p q = by (names_copy meta) refl (is_null p) refl (is_null q) refl (is_below q p) refl
  where
    by : (n : Bool) → names_copy meta ≡ n → (x : Bool) → is_null p ≡ x → (y : Bool) → is_null q ≡ y → (z : Bool) → is_below q p ≡ z
        → file_order meta (file_order meta p q).0 (file_order meta p q).1 ≡ file_order meta p q
    by false n x ex y ey z ez = rw n (manifest_order-again p q)
    by true n true x y ey z ez = rw (n, x) (rw (x) refl)
    by true n false x true y z ez = rw (n, x, y) (rw (x, y) refl)
    by true n false x false y true z = rw (n, x, y, z) (rw (x, y, is_below-one_way q p z) refl)
    by true n false x false y false z = rw (n, x, y, z) (rw (x, y, z) refl)

pub manifest_order-node : (p q : Id) (text : Bytes) → node_id (manifest_order p q).0 (manifest_order p q).1 text ≡ node_id p q text
manifest_order-node p q text = manifest_order-either (λ o. node_id o.0 o.1 text ≡ node_id p q text) p q refl (node_id-either_order q p text)

pub file_order-node : (meta : Option Bytes) (p q : Id) (text : Bytes) → node_id (file_order meta p q).0 (file_order meta p q).1 text ≡ node_id p q text
file_order-node meta p q text = file_order-either (λ o. node_id o.0 o.1 text ≡ node_id p q text) meta p q refl (node_id-either_order q p text)

pub manifest_order-ids : (p q : Id) → IsId p → IsId q → IsId (manifest_order p q).0 × IsId (manifest_order p q).1
manifest_order-ids p q a b = manifest_order-either (λ o. IsId o.0 × IsId o.1) p q (a, b) (b, a)

pub file_order-ids : (meta : Option Bytes) (p q : Id) → IsId p → IsId q → IsId (file_order meta p q).0 × IsId (file_order meta p q).1
file_order-ids meta p q a b = file_order-either (λ o. IsId o.0 × IsId o.1) meta p q (a, b) (b, a)

-- ---- the order of two in either order

pub manifest_order-turned : (p q : Id) → manifest_order p q ≡ manifest_order q p
manifest_order-turned p q = by (is_null p) refl (is_null q) refl (is_below q p) refl (is_below p q) refl
  where
    by : (x : Bool) → is_null p ≡ x → (y : Bool) → is_null q ≡ y → (z : Bool) → is_below q p ≡ z → (w : Bool) → is_below p q ≡ w → manifest_order p q ≡ manifest_order q p
    by true x true y z ez w ew =
        let same : p ≡ q = (bytes_eq-Decides p null).0 x ∙ sym ((bytes_eq-Decides q null).0 y) in
        (λ i. manifest_order (same i) (sym same i))
    by true x false y z ez w ew = rw (x, y) refl
    by false x true y z ez w ew = rw (x, y) refl
    by false x false y true ez w ew = rw (x, y, ez, is_below-one_way q p ez) refl
    by false x false y false ez true ew = rw (x, y, ez, ew) refl
    by false x false y false ez false ew = let same : p ≡ q = is_below-same p q ew ez in (λ i. manifest_order (same i) (sym same i))

pub file_order-turned : (meta : Option Bytes) (p q : Id) → file_order meta p q ≡ file_order meta q p
file_order-turned meta p q =
    let m = manifest_order-turned p q in
    (λ i. if names_copy meta && or_comm (is_null p) (is_null q) i then ((m i).1, (m i).0) else m i)
