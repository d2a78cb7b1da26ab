-- What is asked of known revisions is the same of the same ones.
use Rattle.std.proofs.Common.{◌≡◌, inl, inr, ◌&&◌, ◌||◌, Bool, true, false, true≢false, List, [], ◌∷◌, Option, Some, None, refl, sym, ap, subst, ◌∙◌}
use Rattle.std.specs.Prelude.{bytes_eq, is_some, option_map}
use Rattle.std.proofs.lemmas.Slice.Eq.{bytes_eq-Decides}
use Rattle.text_model.specs.Lists.{Each}
use Rattle.text_model.specs.Id.{Id}
use Rattle.text_model.proofs.TestLemmas.{both, same_bool, bytes_eq-sym}
use Rattle.text_model.proofs.Options.{some_is}
use Rattle.hg_model.specs.FileText.{manifest_order, file_order}
use Rattle.hg_model.specs.Revision.{Group, Changesets, Manifests, FilesAt, Revision, revision_of, knows, same_parents}
use Rattle.hg_model.proofs.ParentOrder.{manifest_order-turned, file_order-turned}
use Rattle.view_model.specs.View.{ChangesetView, Row, ManifestParents, NoManifest, Over, file_node}
use Rattle.view_model.specs.Held.{IsFileHeld, IsManifestHeld, IsChangesetHeld}
use Rattle.hg_dump_law.proofs.Written.{IsSamePair, pair-is}
use Rattle.dump_law.specs.Same.{AreSameKnown, KnownTurns, ViewsAreSame}
use Rattle.dump_law.proofs.Saved.{pair-order}

-- ---- parents

pair-test : (a b c d : Id) → IsSamePair a b c d → ((bytes_eq a c && bytes_eq b d) || (bytes_eq a d && bytes_eq b c)) ≡ true
pair-test a b c d (inl e) = rw ((bytes_eq-Decides a c).1 e.0, (bytes_eq-Decides b d).1 e.1) refl
pair-test a b c d (inr e) = by (bytes_eq a c && bytes_eq b d) refl
  where
    by : (t : Bool) → (bytes_eq a c && bytes_eq b d) ≡ t → ((bytes_eq a c && bytes_eq b d) || (bytes_eq a d && bytes_eq b c)) ≡ true
    by true t = rw t refl
    by false t = rw (t, (bytes_eq-Decides a d).1 e.0, (bytes_eq-Decides b c).1 e.1) refl

pair-turn : (a b c d : Id) → IsSamePair a b c d → IsSamePair c d a b
pair-turn a b c d (inl e) = inl (sym e.0, sym e.1)
pair-turn a b c d (inr e) = inr (sym e.1, sym e.0)

pair-then : (a b c d e f : Id) → IsSamePair a b c d → IsSamePair c d e f → IsSamePair a b e f
pair-then a b c d e f (inl x) (inl y) = inl (x.0 ∙ y.0, x.1 ∙ y.1)
pair-then a b c d e f (inl x) (inr y) = inr (x.0 ∙ y.0, x.1 ∙ y.1)
pair-then a b c d e f (inr x) (inl y) = inr (x.0 ∙ y.1, x.1 ∙ y.0)
pair-then a b c d e f (inr x) (inr y) = inl (x.0 ∙ y.1, x.1 ∙ y.0)

pub parents-turn : (g : Group) (a b c d : Id) → same_parents g a b c d ≡ true → same_parents g c d a b ≡ true
parents-turn Changesets a b c d h = let p = both (bytes_eq a c) (bytes_eq b d) h in rw (bytes_eq-sym c a ∙ p.0, bytes_eq-sym d b ∙ p.1) refl
parents-turn Manifests a b c d h = pair-test c d a b (pair-turn a b c d (pair-is a b c d h))
parents-turn (FilesAt path) a b c d h = pair-test c d a b (pair-turn a b c d (pair-is a b c d h))

pub parents-then : (g : Group) (a b c d e f : Id) → same_parents g a b c d ≡ true → same_parents g c d e f ≡ true → same_parents g a b e f ≡ true
parents-then Changesets a b c d e f x y =
    let p = both (bytes_eq a c) (bytes_eq b d) x in
    let q = both (bytes_eq c e) (bytes_eq d f) y in
    rw ((bytes_eq-Decides a e).1 ((bytes_eq-Decides a c).0 p.0 ∙ (bytes_eq-Decides c e).0 q.0), (bytes_eq-Decides b f).1 ((bytes_eq-Decides b d).0 p.1 ∙ (bytes_eq-Decides d f).0 q.1)) refl
parents-then Manifests a b c d e f x y = pair-test a b e f (pair-then a b c d e f (pair-is a b c d x) (pair-is c d e f y))
parents-then (FilesAt path) a b c d e f x y = pair-test a b e f (pair-then a b c d e f (pair-is a b c d x) (pair-is c d e f y))

-- ---- look-ups

pub known-turns : KnownTurns
known-turns xs ys same = record { to = λ g n s at. by g n s at (revision_of xs g n) refl; from = λ g n k. from g n (revision_of xs g n) refl k }
  where
    by : (g : Group) (n : Id) (s : Revision) → revision_of ys g n ≡ Some s → (o : Option Revision) → revision_of xs g n ≡ o
        → (r : Revision) × (revision_of xs g n ≡ Some r) × (r.text ≡ s.text) × (same_parents g s.p s.q r.p r.q ≡ true)
    by g n s at None e = absurd (true≢false (sym (same.from g n (ap is_some at)) ∙ ap is_some e))
    by g n s at (Some r) e =
        let t = same.to g n r e in
        let is : t.0 ≡ s = some_is (sym t.1 ∙ at) in
        (r, e, sym t.2 ∙ ap (λ (x : Revision). x.text) is, parents-turn g r.p r.q s.p s.q (subst (λ (x : Revision). same_parents g r.p r.q x.p x.q ≡ true) is t.3))

    from : (g : Group) (n : Id) (o : Option Revision) → revision_of xs g n ≡ o → is_some (revision_of xs g n) ≡ true → knows ys g n ≡ true
    from g n None e k = absurd (true≢false (sym k ∙ ap is_some e))
    from g n (Some r) e k = ap is_some (same.to g n r e).1

module _ (xs ys : List Revision) (same : AreSameKnown xs ys) where
  pub knows-same : (g : Group) (n : Id) → knows xs g n ≡ knows ys g n
  knows-same g n = same_bool (knows xs g n) (knows ys g n) ((known-turns xs ys same).from g n) (same.from g n)

  pub text-same : (g : Group) (n : Id) → option_map (λ (r : Revision). r.text) (revision_of xs g n) ≡ option_map (λ (r : Revision). r.text) (revision_of ys g n)
  text-same g n = by (revision_of xs g n) refl (revision_of ys g n) refl
    where
      by : (o : Option Revision) → revision_of xs g n ≡ o → (u : Option Revision) → revision_of ys g n ≡ u → option_map (λ (r : Revision). r.text) (revision_of xs g n) ≡ option_map (λ (r : Revision). r.text) (revision_of ys g n)
      by None e None f = rw (e, f) refl
      by None e (Some s) f = absurd (true≢false (sym (same.from g n (ap is_some f)) ∙ ap is_some e))
      by (Some r) e u f =
          let t = same.to g n r e in
          rw (e, t.1) (ap Some (sym t.2))

  files-same : (rows : List Row) → Each (IsFileHeld xs) rows → Each (IsFileHeld ys) rows
  files-same [] h = tt
  files-same (row ∷ rows) h =
      let r = (h.0).revision in
      let t = same.to (FilesAt row.path) (file_node row.revision) r (h.0).is_held in (
        record {
          revision = t.0;
          is_held = t.1;
          parents = (h.0).parents ∙ pair-order (file_order (row.revision).meta) (file_order-turned (row.revision).meta) r.p r.q (t.0).p (t.0).q (pair-is r.p r.q (t.0).p (t.0).q t.3);
          text = ((h.0).text.0, t.2 ∙ (h.0).text.1);
        },
        files-same rows h.1,
      )

  manifest-same : (node : Id) (m : ManifestParents) (rows : List Row) → IsManifestHeld xs node m rows → IsManifestHeld ys node m rows
  manifest-same node NoManifest rows h = h
  manifest-same node (Over p q) rows h =
      let r = h.revision in
      let t = same.to Manifests node r h.is_held in
      record {
        revision = t.0;
        is_held = t.1;
        parents = h.parents ∙ pair-order manifest_order manifest_order-turned r.p r.q (t.0).p (t.0).q (pair-is r.p r.q (t.0).p (t.0).q t.3);
        text = (h.text.0, t.2 ∙ h.text.1);
      }

  pub view-same : (node : Id) (h : ChangesetView) → IsChangesetHeld xs node h → IsChangesetHeld ys node h
  view-same node h x =
      let r = x.revision in
      let t = same.to Changesets node r x.is_held in
      let p = both (bytes_eq r.p (t.0).p) (bytes_eq r.q (t.0).q) t.3 in
      record {
        revision = t.0;
        is_held = t.1;
        parents = (x.parents.0 ∙ (bytes_eq-Decides r.p (t.0).p).0 p.0, x.parents.1 ∙ (bytes_eq-Decides r.q (t.0).q).0 p.1);
        fields = (x.fields.0, t.2 ∙ x.fields.1);
        manifest = manifest-same (h.fields).manifest h.manifest h.rows x.manifest;
        files = files-same h.rows x.files;
      }

pub views-same : ViewsAreSame
views-same xs ys same = view-same xs ys same
