-- The content of the blob that has an id, and whether it is the body of a file.
use Rattle.std.proofs.Common.{◌≡◌, Bool, true, false, true≢false, List, ◌++◌, Some, None, Option, refl, sym, ap, ◌∙◌}
use Rattle.std.specs.Prelude.{IsTrue, bytes_eq, option_map, ◌↔◌, if◌then◌else◌}
use Rattle.std.proofs.lemmas.Slice.Eq.{bytes_eq-Decides}
use Rattle.text_model.specs.Text.{Bytes}
use Rattle.text_model.specs.Id.{Id, ObjectKind, blob, blob_id, same_kind}
use Rattle.text_model.proofs.Options.{some_is, none_some, some_none}
use Rattle.text_model.proofs.Elements.{none_all}
use Rattle.git_model.specs.Object.{Object, AreObjects, object_at, is_other_content}
use Rattle.git_store.specs.Known.{content_of, content_at}
use Rattle.git_store.proofs.KnownLemmas.{same_kind-is}
use Rattle.git_store.proofs.Places.{found-one}
use Rattle.view_model.specs.View.{Row}
use Rattle.pair_known.specs.declared.fresh_blobs.FreshBlob.{FreshBlob}
use Rattle.pair_known.specs.Fresh.{fresh_object}
use Rattle.partner_model.specs.Clash.{body_object}
use Rattle.pair_choice.specs.Bodies.{IsBodyAlone}
use Rattle.pair_choice.proofs.BodyLemmas.{object-front, object-behind, id-of}
use Rattle.pair_choice.proofs.Collisions.{is-no-other}

-- ---- the content that has an id

-- the object that the store answers
answered : (xs : List Object) (id : Id) (kind : ObjectKind) (bytes : Bytes) → Some (kind, bytes) ≡ option_map {U = ObjectKind × Bytes} (λ o. (o.kind, o.content)) (object_at xs id) → (o : Object) × (object_at xs id ≡ Some o) × (kind ≡ o.kind) × (bytes ≡ o.content)
answered xs id kind bytes e = by (object_at xs id) refl e
  where
    by : (o : Option Object) → object_at xs id ≡ o → Some (kind, bytes) ≡ option_map {U = ObjectKind × Bytes} (λ o. (o.kind, o.content)) o → (o : Object) × (object_at xs id ≡ Some o) × (kind ≡ o.kind) × (bytes ≡ o.content)
    by None g h = absurd (some_none h)
    by (Some o) g h =
        let p : (kind, bytes) ≡ (o.kind, o.content) = some_is h in
        (o, g, ap (λ (x : ObjectKind × Bytes). x.0) p, ap (λ (x : ObjectKind × Bytes). x.1) p)

none-answered : (xs : List Object) (id : Id) → None ≡ option_map {U = ObjectKind × Bytes} (λ o. (o.kind, o.content)) (object_at xs id) → object_at xs id ≡ None
none-answered xs id e = by (object_at xs id) refl e
  where
    by : (o : Option Object) → object_at xs id ≡ o → None ≡ option_map {U = ObjectKind × Bytes} (λ o. (o.kind, o.content)) o → object_at xs id ≡ None
    by None g h = g
    by (Some o) g h = absurd (none_some h)

content-is : (xs : List Object) (id : Id) (o : Object) → object_at xs id ≡ Some o → o.kind ≡ blob → content_at blob xs id ≡ Some o.content
content-is xs id o e kind = ap (content_of blob) e ∙ ap (λ (k : ObjectKind). if same_kind k blob then Some o.content else None) kind

pub content-front : (xs ys : List Object) (id : Id) (kind : ObjectKind) (bytes : Bytes) → kind ≡ blob → Some (kind, bytes) ≡ option_map {U = ObjectKind × Bytes} (λ o. (o.kind, o.content)) (object_at xs id) → Some bytes ≡ content_at blob (xs ++ ys) id
content-front xs ys id kind bytes is e =
    let a = answered xs id kind bytes e in
    ap Some a.3 ∙ sym (content-is (xs ++ ys) id a.0 (object-front xs ys id a.0 a.1) (sym a.2 ∙ is))

pub content-other : (xs ys : List Object) (id : Id) (kind : ObjectKind) (bytes : Bytes) → same_kind kind blob ≡ false → Some (kind, bytes) ≡ option_map {U = ObjectKind × Bytes} (λ o. (o.kind, o.content)) (object_at xs id) → None ≡ content_at blob (xs ++ ys) id
content-other xs ys id kind bytes other e =
    let a = answered xs id kind bytes e in
    sym (ap (content_of blob) (object-front xs ys id a.0 a.1) ∙ ap (λ (b : Bool). if b then Some (a.0).content else None) (ap (λ (k : ObjectKind). same_kind k blob) (sym a.2) ∙ other))

pub content-fresh : (xs ys : List Object) (id : Id) (b : FreshBlob) (bytes : Bytes) → None ≡ option_map {U = ObjectKind × Bytes} (λ o. (o.kind, o.content)) (object_at xs id) → Some (fresh_object b) ≡ object_at ys id → bytes ≡ b.content → Some bytes ≡ content_at blob (xs ++ ys) id
content-fresh xs ys id b bytes e f is =
    ap Some is ∙ sym (content-is (xs ++ ys) id (fresh_object b) (object-behind xs ys id (none-answered xs id e) ∙ sym f) refl)

pub content-none : (xs ys : List Object) (id : Id) → None ≡ option_map {U = ObjectKind × Bytes} (λ o. (o.kind, o.content)) (object_at xs id) → None ≡ object_at ys id → None ≡ content_at blob (xs ++ ys) id
content-none xs ys id e f = sym (ap (content_of blob) (object-behind xs ys id (none-answered xs id e) ∙ sym f))

-- ---- whether the blob is the body

module _ (git fresh : List Object) (are : AreObjects git) (row : Row) where
  -- the body is alone where its id is that of its blob
  alone : object_at (git ++ fresh) (blob_id (row.revision).body) ≡ Some (body_object row) → IsBodyAlone git fresh row
  alone held = record {
    held = held;
    alone = none_all (is_other_content (body_object row)) git (λ o i. is-no-other row o (λ id.
        some_is (sym (object-front git fresh (blob_id (row.revision).body) o (ap (λ (x : Id). object_at git x) id ∙ found-one git are.distinct o i)) ∙ held)));
  }

  pub body-alone : (content body : Bytes) → Some content ≡ content_at blob (git ++ fresh) (blob_id (row.revision).body) → body ≡ (row.revision).body → IsTrue (bytes_eq content body) ↔ IsBodyAlone git fresh row
  body-alone content body e b = by (object_at (git ++ fresh) (blob_id (row.revision).body)) refl e
    where
      by : (o : Option Object) → object_at (git ++ fresh) (blob_id (row.revision).body) ≡ o → Some content ≡ content_of blob o → IsTrue (bytes_eq content body) ↔ IsBodyAlone git fresh row
      by None g h = absurd (some_none h)
      by (Some o) g h = kind (same_kind o.kind blob) refl h
        where
          kind : (t : Bool) → same_kind o.kind blob ≡ t → Some content ≡ (if t then Some o.content else None) → IsTrue (bytes_eq content body) ↔ IsBodyAlone git fresh row
          kind false t h = absurd (some_none h)
          kind true t h = (
            λ e.
                let is : o.content ≡ (row.revision).body = sym (some_is h) ∙ (bytes_eq-Decides content body).0 e ∙ b in
                let id = id-of (git ++ fresh) (blob_id (row.revision).body) o g in
                let same : o ≡ body_object row = λ i. record { id = sym id i; kind = same_kind-is o.kind blob t i; content = is i } in
                alone (g ∙ ap Some same),
            λ held.
                let same : o ≡ body_object row = some_is (sym g ∙ held.held) in
                (bytes_eq-Decides content body).1 (some_is h ∙ ap (λ (x : Object). x.content) same ∙ sym b),
          )

  pub none-alone : None ≡ content_at blob (git ++ fresh) (blob_id (row.revision).body) → IsTrue false ↔ IsBodyAlone git fresh row
  none-alone e = (
    λ t. absurd (true≢false (sym t)),
    λ held. absurd (none_some (e ∙ ap (content_of blob) held.held)),
  )
