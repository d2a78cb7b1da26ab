-- A changeset's own revision, and all that come with it.
use Rattle.std.proofs.Common.{◌≡◌, ◌≤◌, Bool, true, false, true≢false, arith, List, [], ◌∷◌, ◌++◌, length, map, Option, Some, refl, sym, ap, subst, ◌∙◌}
use Rattle.std.specs.Prelude.{bytes_eq, is_some, if◌then◌else◌}
use Rattle.std.proofs.lemmas.Slice.Eq.{bytes_eq-Decides}
use Rattle.text_model.specs.Text.{Bytes}
use Rattle.text_model.specs.Id.{Id, null, is_null}
use Rattle.text_model.specs.Fault as fault
use Rattle.hg_model.specs.Changeset.{changeset_text}
use Rattle.hg_model.specs.Revision.{Revision, Changesets, is_of, revision_of, knows, known_after, has_bad_order, named_if, ancestry_fault}
use Rattle.hg_model.proofs.ChangesetLemmas.{changeset_fault-text}
use Rattle.hg_store.specs.Known.{AreAdded}
use Rattle.view_model.specs.View.{ChangesetView, changeset_node}
use Rattle.view_model.specs.Dump.{own_revision, manifest_revision, file_revision, revisions_of}
use Rattle.pair_known.specs.declared.hg_draft.HgDraft.{HgDraft}
use Rattle.pair_state.specs.Came.{IsReady, HaveCome, HasBad, IsAsked, IsAskedOver}
use Rattle.pair_state.proofs.CameLemmas.{come-more, bad-front, bad-rest, within-after}

good-order : (r : Revision) → (r.p ≡ null → r.q ≡ null) → (r.p ≡ r.q → r.p ≡ null) → has_bad_order r ≡ false
good-order r first distinct = by (is_null r.p) (is_null r.q) (bytes_eq r.p r.q) refl refl refl
  where
    null-is : (i : Id) → is_null i ≡ true → i ≡ null
    null-is i h = (bytes_eq-Decides i null).0 h

    is-null : (i : Id) → i ≡ null → is_null i ≡ true
    is-null i h = (bytes_eq-Decides i null).1 h

    by : (s t u : Bool) → is_null r.p ≡ s → is_null r.q ≡ t → bytes_eq r.p r.q ≡ u → has_bad_order r ≡ false
    by true true u e f g = rw (e, f) refl
    by true false u e f g = absurd (true≢false (sym (is-null r.q (first (null-is r.p e))) ∙ f))
    by false t true e f g = absurd (true≢false (sym (is-null r.p (distinct ((bytes_eq-Decides r.p r.q).0 g))) ∙ e))
    by false t false e f g = rw (e, g) refl

find-last : (known : List Revision) (r : Revision) → knows known r.group r.node ≡ false → is_of r.group r.node r ≡ true → knows (known ++ r ∷ []) r.group r.node ≡ true
find-last [] r h same = rw same refl
find-last (x ∷ known) r h same = by (is_of r.group r.node x) h (find-last known r)
  where
    by : (t : Bool) → is_some (if t then Some x else revision_of known r.group r.node) ≡ false → (knows known r.group r.node ≡ false → is_of r.group r.node r ≡ true → knows (known ++ r ∷ []) r.group r.node ≡ true)
        → is_some (if t then Some x else revision_of (known ++ r ∷ []) r.group r.node) ≡ true
    by true is later = refl
    by false is later = later is same

pub knows-after : (known : List Revision) (r : Revision) → is_of r.group r.node r ≡ true → knows (known_after known r) r.group r.node ≡ true
knows-after known r same = by (knows known r.group r.node) refl
  where
    by : (t : Bool) → knows known r.group r.node ≡ t → knows (if t then known else known ++ r ∷ []) r.group r.node ≡ true
    by true e = e
    by false e = find-last known r e same

module _ (base known : List Revision) (d : HgDraft) (node : Id) (text : Bytes) (k : ChangesetView) (a : IsAsked base known d node text k) where
  abbrev pub own : Revision
  own = record { group = Changesets; node = node; p = d.p1; q = d.p2; link = node; text = text }

  pub own-is : own ≡ own_revision k
  own-is = (λ i. record { group = Changesets; node = a.node_is i; p = sym a.part.made.draft.parents.0 i; q = sym a.part.made.draft.parents.1 i; link = a.node_is i; text = a.text_is i })

  pub own-ready : IsReady known own
  unfolding ancestry_fault changeset_node
  own-ready =
      let order : has_bad_order (own_revision k) ≡ false = good-order (own_revision k) a.parents.first a.parents.distinct in
      subst (IsReady known) (sym own-is) (record {
        ancestry = rw (order, a.parents.p, a.parents.q, (bytes_eq-Decides (own_revision k).node (own_revision k).node).1 refl) refl;
        node = refl;
        shape = ap (λ (o : Option _). named_if (is_some o) fault.ChangesetShape) (changeset_fault-text (changeset_text k.fields) k.fields (a.part.made.view.fields, refl));
      })

  pub own-short : length text ≤ 67108864
  own-short = omega (arith, a.part.fits.text, ap (λ (t : Bytes). length t) a.text_is)

  -- the store with the changeset
  pub asked-over : (new : List Revision) → HaveCome known new (own ∷ []) → AreAdded new → IsAskedOver base new d node k
  asked-over new come added = record {
    part = a.part;
    within = λ group n r e. subst (λ (l : List Revision). revision_of l group n ≡ Some r) (sym come.are) (within-after known own group n r (a.within group n r e));
    node_is = a.node_is;
    link = ap (λ (l : List Revision). knows l Changesets node) come.are ∙ knows-after known own ((bytes_eq-Decides node node).1 refl);
    added = added;
  }

  abbrev files : List Revision
  files = map (file_revision node) k.rows

  whole : own ∷ manifest_revision k k.manifest ++ files ≡ revisions_of k
  unfolding revisions_of
  whole = (λ i. own-is i ∷ manifest_revision k k.manifest ++ map (file_revision (a.node_is i)) k.rows)

  module _ (one : List Revision) (came : HaveCome known one (own ∷ [])) where
    pub bad-manifest : HasBad one (manifest_revision k k.manifest) → HasBad known (revisions_of k)
    bad-manifest b = subst (HasBad known) whole (bad-rest known one (own ∷ []) (manifest_revision k k.manifest ++ files) came (bad-front one (manifest_revision k k.manifest) files b))

    module _ (two : List Revision) (came2 : HaveCome one two (manifest_revision k k.manifest)) where
      pub bad-files : HasBad two files → HasBad known (revisions_of k)
      bad-files b = subst (HasBad known) whole (bad-rest known one (own ∷ []) (manifest_revision k k.manifest ++ files) came (bad-rest one two (manifest_revision k k.manifest) files came2 b))

      pub all-came : (three : List Revision) → HaveCome two three files → HaveCome known three (revisions_of k)
      all-came three came3 = subst (HaveCome known three) whole (come-more known one three (own ∷ []) (manifest_revision k k.manifest ++ files) came (come-more one two three (manifest_revision k k.manifest) files came2 came3))

  pub bad-first : HasBad known (own ∷ []) → HasBad known (revisions_of k)
  bad-first b = subst (HasBad known) whole (bad-front known (own ∷ []) (manifest_revision k k.manifest ++ files) b)
