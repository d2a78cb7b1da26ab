-- The bodies of a changeset that has an unmarking collide exactly where not each of them is the one object with its blob id.
use Rattle.std.proofs.Common.{◌≡◌, Bool, true, false, true≢false, List, [], ◌∷◌, ◌++◌, map, Some, None, Option, refl, sym, ap, subst, ◌∙◌, inl, inr, ◌⊎◌}
use Rattle.std.specs.Prelude.{IsTrue, is_some, bytes_eq, ◌&&◌}
use Rattle.std.specs.List.{list_any}
use Rattle.std.proofs.lemmas.Slice.Eq.{bytes_eq-Decides}
use Rattle.text_model.specs.Lists.{Each, In}
use Rattle.text_model.specs.Id.{Id, blob, blob_id, same_kind}
use Rattle.text_model.proofs.Options.{some_is, not_false}
use Rattle.text_model.proofs.Elements.{each_from, each_in, in_left, in_right, in_map, none_in, none_all}
use Rattle.text_model.proofs.TestLemmas.{both, bytes_eq-self}
use Rattle.git_model.specs.Object.{Object, object_at, has_id, knows_object, is_other_content}
use Rattle.git_store.proofs.KnownLemmas.{same_kind-is}
use Rattle.commit_rule.proofs.FileLemmas.{of-mapped}
use Rattle.view_model.specs.View.{Row, TreeRow, files_among, HaveSameBodies, CommitView}
use Rattle.pair_known.specs.declared.git_draft.GitDraft.{GitDraft}
use Rattle.pair_known.proofs.PartnerLemmas.{found-in}
use Rattle.changeset_unmark.specs.Drafts.{IsBuiltCommit}
use Rattle.partner_model.specs.Clash.{body_object, do_bodies_collide}
use Rattle.pair_choice.specs.Bodies.{IsBodyHeld, IsBodyAlone, AreBodiesApart}
use Rattle.pair_choice.proofs.BodyLemmas.{HasRow, file-of, row-of, file-is, fresh-row, object-front, object-behind, id-of}

-- ---- another object with the id of a body

-- the object is the blob of the body
blob-is : (row : Row) (o : Object) → blob_id (row.revision).body ≡ o.id → o.kind ≡ blob → o.content ≡ (row.revision).body → o ≡ body_object row
blob-is row o id kind content = λ i. record { id = sym id i; kind = kind i; content = content i }

-- an object that has the id and isn't another one is the body's blob
pub same-is : (row : Row) (o : Object) → blob_id (row.revision).body ≡ o.id → is_other_content (body_object row) o ≡ false → o ≡ body_object row
same-is row o id e = blob-is row o id (sym (same_kind-is blob o.kind parts.0)) (sym ((bytes_eq-Decides (row.revision).body o.content).0 parts.1))
  where
    has : bytes_eq (blob_id (row.revision).body) o.id ≡ true
    has = (bytes_eq-Decides (blob_id (row.revision).body) o.id).1 id

    parts : (same_kind blob o.kind ≡ true) × (bytes_eq (row.revision).body o.content ≡ true)
    parts = both (same_kind blob o.kind) (bytes_eq (row.revision).body o.content) (not_false (same_kind blob o.kind && bytes_eq (row.revision).body o.content) (rw has at e))

-- and one that is it isn't another
pub is-no-other : (row : Row) (o : Object) → (blob_id (row.revision).body ≡ o.id → o ≡ body_object row) → is_other_content (body_object row) o ≡ false
is-no-other row o is = by (bytes_eq (blob_id (row.revision).body) o.id) refl
  where
    by : (t : Bool) → bytes_eq (blob_id (row.revision).body) o.id ≡ t → is_other_content (body_object row) o ≡ false
    by true e =
        let same = is ((bytes_eq-Decides (blob_id (row.revision).body) o.id).0 e) in
        subst (λ (x : Object). is_other_content (body_object row) x ≡ false) (sym same) (itself row)
      where
        itself : (row : Row) → is_other_content (body_object row) (body_object row) ≡ false
        itself row = rw (bytes_eq-self (blob_id (row.revision).body), bytes_eq-self (row.revision).body) refl
    by false e = rw e refl

-- ---- a body that is alone

pub held-of : (git fresh : List Object) (row : Row) → IsBodyAlone git fresh row → IsBodyHeld (git ++ fresh) row
held-of git fresh row alone = (body_object row, alone.held, refl)

-- where each one is, no two of them have one blob id
pub apart-of : (git fresh : List Object) (hs : List Row) → Each (IsBodyAlone git fresh) hs → AreBodiesApart git hs
apart-of git fresh hs each = record { fresh = fresh; held = each_from (IsBodyHeld (git ++ fresh)) hs (λ row i. held-of git fresh row (each_in (IsBodyAlone git fresh) hs row each i)) }

in-parts : {X : Type 0} (x : X) (xs ys : List X) → In x (xs ++ ys) → In x xs ⊎ In x ys
in-parts x [] ys i = inr i
in-parts x (y ∷ xs) ys i = elim i [ inl e ↦ inl (inl e) | inr j ↦ elim (in-parts x xs ys j) [ inl k ↦ inl (inr k) | inr k ↦ inr k ] ]

-- and they don't collide
pub none-collide : (git fresh : List Object) (hs : List Row) → Each (IsBodyAlone git fresh) hs → do_bodies_collide git hs ≡ false
none-collide git fresh hs each = none_all (λ (row : Row). list_any (is_other_content (body_object row)) (git ++ map body_object hs)) hs row-alone
  where
    row-alone : (row : Row) → In row hs → list_any (is_other_content (body_object row)) (git ++ map body_object hs) ≡ false
    row-alone row i = none_all (is_other_content (body_object row)) (git ++ map body_object hs) (λ o j. elim (in-parts o git (map body_object hs) j) [
      | inl k ↦ none_in (is_other_content (body_object row)) git o (each_in (IsBodyAlone git fresh) hs row each i).alone k
      | inr k ↦
          let other = of-mapped body_object hs o k in
          let a = each_in (IsBodyAlone git fresh) hs row each i in
          let b = each_in (IsBodyAlone git fresh) hs other.0 each other.1 in
          is-no-other row o (λ id.
          let same : blob_id (row.revision).body ≡ blob_id ((other.0).revision).body = id ∙ ap (λ (x : Object). x.id) other.2 in
          other.2 ∙ some_is (sym b.held ∙ ap (object_at (git ++ fresh)) (sym same) ∙ a.held))
    ])

module _ (git : List Object) (d : GitDraft) (c : CommitView) (built : IsBuiltCommit git d c) (hs : List Row) (same : HaveSameBodies hs (files_among c.rows)) where
  found-blob : (o : Object) → In o d.fresh → In o (map body_object hs)
  found-blob o i =
      let s = fresh-row git d c built hs same o i in
      let f = file-of hs (files_among c.rows) same s.0 s.1 in
      let is : o ≡ body_object f.row = s.2 ∙ (λ k. record { id = ((file-is git d c built hs same s.0 s.1).1 ∙ ap blob_id (sym f.body)) k; kind = blob; content = sym f.body k }) in
      subst (λ (x : Object). In x (map body_object hs)) (sym is) (in_map body_object f.row hs f.among)

  alone-unless : do_bodies_collide git hs ≡ false → (h : Row) → In h hs → IsBodyAlone git d.fresh h
  alone-unless none h i = record {
    held = by (object_at git (blob_id (h.revision).body)) (object_at d.fresh (blob_id (h.revision).body)) refl refl;
    alone = none_all (is_other_content (body_object h)) git (λ o j. apart o (in_left o git (map body_object hs) j));
  }
    where
      row : HasRow (files_among c.rows) h
      row = row-of hs (files_among c.rows) same h i

      known : knows_object (d.fresh ++ git) (blob_id (h.revision).body) ≡ true
      known = subst (λ (id : Id). knows_object (d.fresh ++ git) id ≡ true) ((file-is git d c built hs same row.row row.among).1 ∙ ap blob_id (sym row.body)) (each_in (λ (t : TreeRow). IsTrue (knows_object (d.fresh ++ git) t.id)) (files_among c.rows) row.row built.all row.among)

      apart : (o : Object) → In o (git ++ map body_object hs) → is_other_content (body_object h) o ≡ false
      apart o j = none_in (is_other_content (body_object h)) (git ++ map body_object hs) o (none_in (λ (r : Row). list_any (is_other_content (body_object r)) (git ++ map body_object hs)) hs h none i) j

      by : (o g : Option Object) → object_at git (blob_id (h.revision).body) ≡ o → object_at d.fresh (blob_id (h.revision).body) ≡ g → object_at (git ++ d.fresh) (blob_id (h.revision).body) ≡ Some (body_object h)
      by (Some o) g e f =
          let is = same-is h o (id-of git (blob_id (h.revision).body) o e) (apart o (in_left o git (map body_object hs) (found-in (has_id (blob_id (h.revision).body)) git o e).0)) in
          object-front git d.fresh (blob_id (h.revision).body) o e ∙ ap Some is
      by None (Some o) e f =
          let is = same-is h o (id-of d.fresh (blob_id (h.revision).body) o f) (apart o (in_right o git (map body_object hs) (found-blob o (found-in (has_id (blob_id (h.revision).body)) d.fresh o f).0))) in
          object-behind git d.fresh (blob_id (h.revision).body) e ∙ f ∙ ap Some is
      by None None e f = absurd (true≢false (sym known ∙ ap is_some (object-behind d.fresh git (blob_id (h.revision).body) f ∙ e)))

  -- where they aren't all alone, bodies collide
  pub collides : ¬ (Each (IsBodyAlone git d.fresh) hs) → do_bodies_collide git hs ≡ true
  collides not-alone = by (do_bodies_collide git hs) refl
    where
      by : (t : Bool) → do_bodies_collide git hs ≡ t → do_bodies_collide git hs ≡ true
      by true e = e
      by false e = absurd (not-alone (each_from (IsBodyAlone git d.fresh) hs (alone-unless e)))
