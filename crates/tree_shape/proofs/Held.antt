-- A tree that is known, with right ids.
use Rattle.std.proofs.Common.{◌≡◌, Bool, true, false, List, [], ◌∷◌, Some, refl, sym, ap, ◌∙◌, bytes_eq}
use Rattle.std.specs.Prelude.{IsTrue, if◌then◌else◌}
use Rattle.std.proofs.lemmas.Slice.Eq.{bytes_eq-Decides}
use Rattle.text_model.specs.Lists.{Each}
use Rattle.text_model.specs.Id.{Id, ObjectKind, blob, tree, commit, tag, same_kind, object_id}
use Rattle.git_model.specs.Tree.{TreeEntry, IsTreeText, tree_text, tree_entries}
use Rattle.git_model.specs.Object.{Object, object_of, object_at, entries_of, tree_at, AreObjects}
use Rattle.tree_shape.specs.Laws.{IsKnown}
use Rattle.text_model.proofs.Options.{none_some, some_is}
use Rattle.git_model.proofs.TreeTextLemmas.{tree_entries-text}

pub record Held (known : List Object) (id : Id) (entries : List TreeEntry) : Type 0 where
  pub is_id : id ≡ object_id tree (tree_text entries)
  pub known_as : IsKnown known (object_of tree (tree_text entries))

abbrev HoldsTree : Object → Type 0
HoldsTree o = IsTrue (same_kind o.kind tree) → (entries : List TreeEntry) × IsTreeText o.content entries

abbrev HasId : Object → Type 0
HasId o = o.id ≡ object_id o.kind o.content

kind-is : (kind : ObjectKind) → same_kind kind tree ≡ true → kind ≡ tree
kind-is blob h = absurd cc
kind-is tree h = refl
kind-is commit h = absurd cc
kind-is tag h = absurd cc

-- the object is that of the entries
one : (o : Object) (entries : List TreeEntry) → HasId o → HoldsTree o → entries_of (Some o) ≡ Some entries → o ≡ object_of tree (tree_text entries)
one o entries id holds h = by (same_kind o.kind tree) refl
  where
    by : (t : Bool) → same_kind o.kind tree ≡ t → o ≡ object_of tree (tree_text entries)
    by false t = absurd (none_some {x = entries} (sym (rw t refl) ∙ h))
    by true t =
        let is = holds t in
        let same : is.0 ≡ entries = sym (tree_entries-text o.content is.0 is.1) ∙ some_is {x = tree_entries o.content} {y = entries} (sym (rw t refl) ∙ h) in
        let kind : o.kind ≡ tree = kind-is o.kind t in
        let content : o.content ≡ tree_text entries = is.1.1 ∙ ap tree_text same in
        (λ k. record { id = (id ∙ (λ j. object_id (kind j) (content j))) k; kind = kind k; content = content k })

find-one : (known : List Object) (id : Id) (entries : List TreeEntry) → Each HasId known → Each HoldsTree known → entries_of (object_at known id) ≡ Some entries
    → (o : Object) × (object_at known id ≡ Some o) × (id ≡ o.id) × (o ≡ object_of tree (tree_text entries))
find-one [] id entries ids trees h = absurd (none_some {x = entries} h)
find-one (o ∷ known) id entries ids trees h = by (bytes_eq id o.id) refl (find-one known id entries ids.1 trees.1)
  where
    by : (t : Bool) → bytes_eq id o.id ≡ t → (entries_of (object_at known id) ≡ Some entries → (p : Object) × (object_at known id ≡ Some p) × (id ≡ p.id) × (p ≡ object_of tree (tree_text entries)))
        → (p : Object) × (object_at (o ∷ known) id ≡ Some p) × (id ≡ p.id) × (p ≡ object_of tree (tree_text entries))
    by true t later =
        let here : object_at (o ∷ known) id ≡ Some o = ap (λ (b : Bool). if b then Some o else object_at known id) t in
        (o, here, (bytes_eq-Decides id o.id).0 t, one o entries ids.0 trees.0 (sym (ap entries_of here) ∙ h))
    by false t later =
        let past : object_at (o ∷ known) id ≡ object_at known id = ap (λ (b : Bool). if b then Some o else object_at known id) t in
        let r = later (sym (ap entries_of past) ∙ h) in
        (r.0, past ∙ r.1, r.2, r.3)

pub held : (known : List Object) (id : Id) (entries : List TreeEntry) → AreObjects known → tree_at known id ≡ Some entries → Held known id entries
held known id entries are h =
    let f = find-one known id entries are.ids are.trees h in
    let same : id ≡ object_id tree (tree_text entries) = f.2 ∙ ap (λ (o : Object). o.id) f.3 in
    record { is_id = same; known_as = sym (ap (object_at known) same) ∙ f.1 ∙ ap (λ (o : Object). Some o) f.3 }
