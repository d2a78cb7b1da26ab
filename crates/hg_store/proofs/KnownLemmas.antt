-- Revisions that were added one after another.
use Rattle.std.proofs.Common.{◌≡◌, ◌++◌, ◌&&◌, ◌||◌, Bool, true, false, true≢false, not, List, [], ◌∷◌, Option, Some, None, refl, sym, ap, subst, ◌∙◌, append_assoc, append-nil}
use Rattle.std.specs.Prelude.{is_some, bytes_eq}
use Rattle.std.specs.List.{list_any}
use Rattle.std.proofs.lemmas.Slice.Eq.{bytes_eq-Decides}
use Rattle.text_model.specs.Text.{Bytes}
use Rattle.text_model.specs.Id.{Id, is_null, node_id}
use Rattle.text_model.specs.Fault.{FaultName}
use Rattle.text_model.specs.Fault as fault
use Rattle.text_model.proofs.TestLemmas.{both}
use Rattle.text_model.proofs.OrderLemmas.{node_id-either_order}
use Rattle.hg_model.proofs.RevisionLemmas.{first_name-one, named_if-None, same_group-is}
use Rattle.hg_model.specs.Revision as model
use Rattle.hg_model.specs.Revision.{Group, Changesets, Manifests, FilesAt, Revision, is_of, revision_of, knows, same_revision, same_parents, is_otherwise, first_name, named_if, ancestry_fault, shape_fault, text_fault, addition_fault}
use Rattle.hg_model.specs.FileText.{lacks_second_mark}
use Rattle.hg_store.specs.Known.{IsAddedTo, AreAddedTo, AreAdded, is_same_as, knows_same}
use Rattle.hg_store.proofs.Found.{found, node_is, shape_is, not_null}

-- ---- the first of some faults

pub addition-text : (known : List Revision) (r : Revision) → ancestry_fault known r ≡ None → addition_fault known r ≡ text_fault known r
addition-text known r h = rw h (first_name-one (text_fault known r))

-- ---- what each revision that was added shows

record HasItsText (r : Revision) : Type 0 where
  pub node : r.node ≡ node_id r.p r.q r.text
  pub shape : shape_fault r.group r.text ≡ None
  pub some : is_null r.node ≡ false

its_text : (known : List Revision) (r : Revision) → IsAddedTo known r → HasItsText r
its_text known r added = record { node = node_is known r added; shape = shape_is known r added; some = not_null known r added }

-- ---- a node stands once

knows-more : (known : List Revision) (y : Revision) (g : Group) (n : Id) → knows known g n ≡ true → knows (known ++ y ∷ []) g n ≡ true
knows-more [] y g n h = absurd (true≢false (sym h))
knows-more (x ∷ xs) y g n h = by (is_of g n x) refl (knows-more xs y g n)
  where
    by : (t : Bool) → is_of g n x ≡ t → (knows xs g n ≡ true → knows (xs ++ y ∷ []) g n ≡ true) → knows (x ∷ xs ++ y ∷ []) g n ≡ true
    by true t later = rw t refl
    by false t later = rw t (later (sym (rw t refl) ∙ h))

knows-last : (known : List Revision) (y : Revision) (g : Group) (n : Id) → is_of g n y ≡ true → knows (known ++ y ∷ []) g n ≡ true
knows-last [] y g n h = rw h refl
knows-last (x ∷ xs) y g n h = by (is_of g n x) refl (knows-last xs y g n h)
  where
    by : (t : Bool) → is_of g n x ≡ t → knows (xs ++ y ∷ []) g n ≡ true → knows (x ∷ xs ++ y ∷ []) g n ≡ true
    by true t later = rw t refl
    by false t later = rw t later

-- a revision of the same group and node is no other among those that came later
none_after : (known rs : List Revision) (r : Revision) → AreAddedTo known rs → knows known r.group r.node ≡ true → list_any (is_otherwise r) rs ≡ false
none_after known [] r h k = refl
none_after known (y ∷ ys) r h k = by (same_revision r y) refl (none_after (known ++ y ∷ []) ys r h.1 (knows-more known y r.group r.node k))
  where
    by : (t : Bool) → same_revision r y ≡ t → list_any (is_otherwise r) ys ≡ false → list_any (is_otherwise r) (y ∷ ys) ≡ false
    by true t later =
        let parts = both (model.same_group r.group y.group) (bytes_eq r.node y.node) t in
        let same : knows known r.group r.node ≡ knows known y.group y.node = (λ i. knows known (same_group-is r.group y.group parts.0 i) ((bytes_eq-Decides r.node y.node).0 parts.1 i)) in
        absurd (true≢false (sym k ∙ same ∙ h.0.fresh))
    by false t later = rw t later

is_other_than : Revision → Option Revision → Bool
is_other_than r None = false
is_other_than r (Some h) = not (is_same_as r (Some h))

any_is_first : (known rs : List Revision) (r : Revision) → AreAddedTo known rs → list_any (is_otherwise r) rs ≡ is_other_than r (revision_of rs r.group r.node)
unfolding is_other_than
any_is_first known [] r h = refl
any_is_first known (x ∷ xs) r h = by (same_revision r x) refl (any_is_first (known ++ x ∷ []) xs r h.1)
  where
    false_or : (a b : Bool) → b ≡ false → (a || b) ≡ a
    false_or true b e = refl
    false_or false b e = e

    by : (t : Bool) → same_revision r x ≡ t → list_any (is_otherwise r) xs ≡ is_other_than r (revision_of xs r.group r.node)
        → list_any (is_otherwise r) (x ∷ xs) ≡ is_other_than r (revision_of (x ∷ xs) r.group r.node)
    by true t later = rw t (false_or (not (is_same_as r (Some x))) (list_any (is_otherwise r) xs) (none_after (known ++ x ∷ []) xs r h.1 (knows-last known x r.group r.node t)))
    by false t later = rw t later

module _ (known : List Revision) (r : Revision) (added : AreAdded known) where
  -- where the same revision isn't known, a node that is known is known otherwise
  pub others-are_known : knows_same known r ≡ false → list_any (is_otherwise r) known ≡ knows known r.group r.node
  unfolding is_other_than
  others-are_known h = any_is_first [] known r added ∙ by (revision_of known r.group r.node) h
    where
      by : (o : Option Revision) → is_same_as r o ≡ false → is_other_than r o ≡ is_some o
      by None e = refl
      by (Some x) e = ap not e

  same-node : (h : Revision) → r.group ≡ h.group → r.node ≡ h.node → bytes_eq r.text h.text ≡ true → same_parents r.group r.p r.q h.p h.q ≡ true → HasItsText h → HasItsText r
  same-node h group node text parents s = record {
    node = node ∙ s.node ∙ sym same;
    shape = (λ i. shape_fault (group i) (is_text i)) ∙ s.shape;
    some = ap is_null node ∙ s.some;
  }
    where
      is_text : r.text ≡ h.text
      is_text = (bytes_eq-Decides r.text h.text).0 text

      ordered : (bytes_eq r.p h.p && bytes_eq r.q h.q) ≡ true → node_id r.p r.q r.text ≡ node_id h.p h.q h.text
      ordered e =
          let parts = both (bytes_eq r.p h.p) (bytes_eq r.q h.q) e in
          (λ i. node_id ((bytes_eq-Decides r.p h.p).0 parts.0 i) ((bytes_eq-Decides r.q h.q).0 parts.1 i) (is_text i))

      swapped : (bytes_eq r.p h.q && bytes_eq r.q h.p) ≡ true → node_id r.p r.q r.text ≡ node_id h.p h.q h.text
      swapped e =
          let parts = both (bytes_eq r.p h.q) (bytes_eq r.q h.p) e in
          (λ i. node_id ((bytes_eq-Decides r.p h.q).0 parts.0 i) ((bytes_eq-Decides r.q h.p).0 parts.1 i) (is_text i)) ∙ node_id-either_order h.q h.p h.text

      either : (a b : Bool) → (bytes_eq r.p h.p && bytes_eq r.q h.q) ≡ a → (bytes_eq r.p h.q && bytes_eq r.q h.p) ≡ b → (a || b) ≡ true → node_id r.p r.q r.text ≡ node_id h.p h.q h.text
      either true b x y e = ordered x
      either false true x y e = swapped y
      either false false x y e = absurd (true≢false (sym e))

      by_group : (g : Group) → same_parents g r.p r.q h.p h.q ≡ true → node_id r.p r.q r.text ≡ node_id h.p h.q h.text
      by_group Changesets e = ordered e
      by_group Manifests e = either (bytes_eq r.p h.p && bytes_eq r.q h.q) (bytes_eq r.p h.q && bytes_eq r.q h.p) refl refl e
      by_group (FilesAt path) e = either (bytes_eq r.p h.p && bytes_eq r.q h.q) (bytes_eq r.p h.q && bytes_eq r.q h.p) refl refl e

      same : node_id r.p r.q r.text ≡ node_id h.p h.q h.text
      same = by_group r.group parents

  sound_text : HasItsText r → list_any (is_otherwise r) known ≡ false → text_fault known r ≡ None
  unfolding text_fault
  sound_text s none = rw ((bytes_eq-Decides r.node (node_id r.p r.q r.text)).1 s.node, s.shape, s.some, none) refl

  -- a revision that is known has no fault of its text
  pub same-has_no_fault : knows_same known r ≡ true → text_fault known r ≡ None
  unfolding is_other_than
  same-has_no_fault h = by (revision_of known r.group r.node) refl h
    where
      by : (o : Option Revision) → revision_of known r.group r.node ≡ o → is_same_as r o ≡ true → text_fault known r ≡ None
      by None at e = absurd (true≢false (sym e))
      by (Some x) at e =
          let parts = both (bytes_eq r.text x.text) (same_parents r.group r.p r.q x.p x.q) e in
          let f = found known r.group r.node x added at in
          sound_text (same-node x (sym f.group_is) (sym f.node_is) parts.0 parts.1 (its_text f.before x f.added))
          (any_is_first [] known r added ∙ ap (is_other_than r) at ∙ ap not e)

  -- a revision that isn't known: its node may be that of another
  pub fresh-fault : knows_same known r ≡ false → node_id r.p r.q r.text ≡ r.node → shape_fault r.group r.text ≡ None
      → text_fault known r ≡ named_if (is_null r.node || knows known r.group r.node) fault.Collision
  unfolding text_fault
  fresh-fault same node shape =
      rw ((bytes_eq-Decides r.node (node_id r.p r.q r.text)).1 (sym node), shape, others-are_known same)
      (first_name-one (named_if (is_null r.node || knows known r.group r.node) fault.Collision))

-- ---- one more

pub AreAddedTo-push : (known rs : List Revision) (r : Revision) → AreAddedTo known rs → IsAddedTo (known ++ rs) r → AreAddedTo known (rs ++ r ∷ [])
AreAddedTo-push known [] r h k = (subst (λ (l : List Revision). IsAddedTo l r) (append-nil known) k, tt)
AreAddedTo-push known (x ∷ xs) r h k = (h.0, AreAddedTo-push (known ++ x ∷ []) xs r h.1 (subst (λ (l : List Revision). IsAddedTo l r) (sym (append_assoc known (x ∷ []) xs)) k))

-- the texts of files are those of a body, with metadata or without
pub shape-of_found : (known : List Revision) (g : Group) (n : Id) (h : Revision) → AreAdded known → revision_of known g n ≡ Some h → shape_fault g h.text ≡ None
shape-of_found known g n h added at =
    let f = found known g n h added at in
    ap (λ (x : Group). shape_fault x h.text) (sym f.group_is) ∙ shape_is f.before h f.added

pub file-splits : (known : List Revision) (path : Bytes) (n : Id) (h : Revision) → AreAdded known → revision_of known (FilesAt path) n ≡ Some h → lacks_second_mark h.text ≡ false
file-splits known path n h added at = named_if-None (lacks_second_mark h.text) fault.FileShape (shape-of_found known (FilesAt path) n h added at)
