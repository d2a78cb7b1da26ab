-- The trees among objects.
use Rattle.std.proofs.Common.{◌≡◌, Bool, true, false, List, [], ◌∷◌, Some, refl, sym, subst, ◌∙◌, bytes_eq}
use Rattle.std.specs.Prelude.{IsTrue}
use Rattle.text_model.specs.Lists.{Each}
use Rattle.text_model.specs.Id.{Id, tree, same_kind}
use Rattle.text_model.proofs.Options.{some_is, none_some}
use Rattle.git_model.specs.Tree.{TreeEntry, IsTree, IsTreeText}
use Rattle.git_model.specs.Object.{Object, object_at, entries_of, tree_at, AreObjects}
use Rattle.git_model.proofs.TreeTextLemmas.{tree_entries-text}

abbrev HoldsTree : Object → Type 0
HoldsTree o = IsTrue (same_kind o.kind tree) → (entries : List TreeEntry) × IsTreeText o.content entries

tree_of : (o : Object) (entries : List TreeEntry) → HoldsTree o → entries_of (Some o) ≡ Some entries → IsTreeText o.content entries
tree_of o entries holds h = by (same_kind o.kind tree) refl
  where
    by : (t : Bool) → same_kind o.kind tree ≡ t → IsTreeText o.content entries
    by false t = absurd (none_some (sym (rw t refl) ∙ h))
    by true t =
        let is = holds t in
        let same : is.0 ≡ entries = sym (tree_entries-text o.content is.0 is.1) ∙ some_is (sym (rw t refl) ∙ h) in
        subst (IsTreeText o.content) same is.1

found : (known : List Object) (id : Id) (entries : List TreeEntry) → Each HoldsTree known → entries_of (object_at known id) ≡ Some entries → IsTree entries
found [] id entries all h = absurd (none_some h)
found (o ∷ known) id entries all h = by (bytes_eq id o.id) refl (found known id entries all.1)
  where
    by : (t : Bool) → bytes_eq id o.id ≡ t → (entries_of (object_at known id) ≡ Some entries → IsTree entries) → IsTree entries
    by true t later = (tree_of o entries all.0 (sym (rw t refl) ∙ h)).0
    by false t later = later (sym (rw t refl) ∙ h)

-- the entries at an id are a tree's
pub tree_at-tree : (known : List Object) (id : Id) (entries : List TreeEntry) → AreObjects known → tree_at known id ≡ Some entries → IsTree entries
tree_at-tree known id entries are h = found known id entries are.trees h
