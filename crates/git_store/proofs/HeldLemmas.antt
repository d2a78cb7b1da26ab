-- Looking an object up, and one more.
use Rattle.std.proofs.Common.{◌≡◌, Bool, true, false, true≢false, List, [], ◌∷◌, ◌++◌, Option, Some, None, refl, sym, ap, subst, ◌∙◌, bytes_eq, IfSome, Bor}
use Rattle.std.specs.Prelude.{option_map, is_some}
use Rattle.std.specs.Map.{lookup}
use Rattle.std.specs.Option.{option_copied}
use Rattle.std.specs.List.{list_any}
use Rattle.std.proofs.lemmas.Slice.Eq.{bytes_eq-Decides}
use Rattle.text_model.specs.Text.{Bytes}
use Rattle.text_model.specs.Lists.{Each}
use Rattle.text_model.proofs.Options.{some_is}
use Rattle.text_model.proofs.EachLemmas.{Each-push}
use Rattle.text_model.specs.Id.{Id, object_id, same_kind}
use Rattle.text_model.specs.Id as kind
use Rattle.git_model.specs.Tree.{has_distinct, TreeEntry, IsTreeText}
use Rattle.git_model.specs.Object.{Object, object_at, knows_object, entries_of}
use Rattle.git_model.proofs.TreeTextLemmas.{tree_entries-text}
use Rattle.git_store.specs.declared.held.Held.{Held}
use Rattle.git_store.specs.declared.held.Parsed.{Parsed}
use Rattle.git_store.specs.declared.held.Parsed.TheVariants.{Blob, Tree, Commit, Tag}
use Rattle.git_store.specs.Held.{parsed_kind, IsValue, object_in, objects_in, IsStore}
use Rattle.git_store.specs.Known.{IsSound, AreKnown}
use Rattle.git_store.proofs.DistinctLemmas.{has_distinct-push}
use Rattle.git_store.proofs.KnownLemmas.{ids_of}

-- ---- look-ups

pub found-in : (id : Id) (es : List (Id × Held)) → option_map (λ (h : Held). object_in (id, h)) (lookup (bytes_eq id) es) ≡ object_at (objects_in es) id
found-in id [] = refl
found-in id (e ∷ es) = by (bytes_eq id e.0) refl (found-in id es)
  where
    by : (t : Bool) → bytes_eq id e.0 ≡ t → (option_map (λ (h : Held). object_in (id, h)) (lookup (bytes_eq id) es) ≡ object_at (objects_in es) id)
        → option_map (λ (h : Held). object_in (id, h)) (lookup (bytes_eq id) (e ∷ es)) ≡ object_at (objects_in (e ∷ es)) id
    by true t later = rw t (ap (λ (i : Id). Some (object_in (i, e.1))) ((bytes_eq-Decides id e.0).0 t))
    by false t later = rw t later

value-in : (id : Id) (es : List (Id × Held)) → Each (λ e. IsValue e.1.content e.1.parsed) es → (held : Held) → lookup (bytes_eq id) es ≡ Some held → IsValue held.content held.parsed
value-in id [] all held at = absurd cc
value-in id (e ∷ es) all held at = by (bytes_eq id e.0) refl (value-in id es all.1 held)
  where
    by : (t : Bool) → bytes_eq id e.0 ≡ t → (lookup (bytes_eq id) es ≡ Some held → IsValue held.content held.parsed) → IsValue held.content held.parsed
    by true t later = subst (λ (x : Held). IsValue x.content x.parsed) {x = e.1} {y = held} (some_is (sym (rw t refl) ∙ at)) all.0
    by false t later = later (sym (rw t refl) ∙ at)

-- what was parsed of an object that is lent is what its content says
pub value-lent : (id : Id) (es : List (Id × Held)) (o : Option (Bor Held)) → Each (λ e. IsValue e.1.content e.1.parsed) es → option_copied o ≡ lookup (bytes_eq id) es
    → IfSome o (λ held. IsValue held.now.content held.now.parsed)
value-lent id es None all is = tt
value-lent id es (Some held) all is = value-in id es all held.now (sym is)

-- ---- one more object

objects_in-push : (es : List (Id × Held)) (e : Id × Held) → objects_in (es ++ e ∷ []) ≡ objects_in es ++ object_in e ∷ []
objects_in-push [] e = refl
objects_in-push (x ∷ xs) e = ap (λ (l : List Object). object_in x ∷ l) (objects_in-push xs e)

ids_of-push : (known : List Object) (o : Object) → ids_of (known ++ o ∷ []) ≡ ids_of known ++ o.id ∷ []
ids_of-push [] o = refl
ids_of-push (x ∷ known) o = ap (λ (l : List Id). x.id ∷ l) (ids_of-push known o)

unknown-id : (known : List Object) (id : Id) → knows_object known id ≡ false → list_any (bytes_eq id) (ids_of known) ≡ false
unknown-id [] id h = refl
unknown-id (x ∷ known) id h = by (bytes_eq id x.id) refl (unknown-id known id)
  where
    by : (t : Bool) → bytes_eq id x.id ≡ t → (knows_object known id ≡ false → list_any (bytes_eq id) (ids_of known) ≡ false) → list_any (bytes_eq id) (ids_of (x ∷ known)) ≡ false
    by true t later = absurd (true≢false (sym (rw t refl) ∙ h))
    by false t later = rw t (later (sym (rw t refl) ∙ h))

distinct-push : (known : List Object) (o : Object) → has_distinct (ids_of known) ≡ true → knows_object known o.id ≡ false → has_distinct (ids_of (known ++ o ∷ [])) ≡ true
distinct-push known o distinct unknown =
    ap has_distinct (ids_of-push known o) ∙ has_distinct-push (ids_of known) o.id ∙ rw (distinct, unknown-id known o.id unknown) refl

tree-in : (content : Bytes) (p : Parsed) → IsValue content p → same_kind (parsed_kind p) kind.tree ≡ true → (entries : List TreeEntry) × IsTreeText content entries
tree-in content Blob value h = absurd (true≢false (sym h))
tree-in content (Tree entries) value h = (entries, value)
tree-in content (Commit c) value h = absurd (true≢false (sym h))
tree-in content (Tag t) value h = absurd (true≢false (sym h))

pub AreKnown-push : (known : List Object) (e : Id × Held) → AreKnown known → knows_object known e.0 ≡ false → e.0 ≡ object_id (parsed_kind e.1.parsed) e.1.content
    → IsValue e.1.content e.1.parsed → IsSound (object_in e) → AreKnown (known ++ object_in e ∷ [])
AreKnown-push known e are unknown its_id value sound = record {
  are = record {
    distinct = distinct-push known (object_in e) are.are.distinct unknown;
    ids = Each-push (λ (o : Object). o.id ≡ object_id o.kind o.content) known (object_in e) are.are.ids its_id;
    trees = Each-push (λ (o : Object). same_kind o.kind kind.tree ≡ true → (entries : List TreeEntry) × IsTreeText o.content entries) known (object_in e) are.are.trees (tree-in e.1.content e.1.parsed value);
  };
  sound = Each-push IsSound known (object_in e) are.sound sound;
}

pub none-held : (id : Id) (es : List (Id × Held)) → knows_object (objects_in es) id ≡ false → lookup (bytes_eq id) es ≡ None
none-held id es unknown = by (lookup (bytes_eq id) es) (ap is_some (found-in id es) ∙ unknown)
  where
    by : (o : Option Held) → is_some (option_map (λ (h : Held). object_in (id, h)) o) ≡ false → o ≡ None
    by None h = refl
    by (Some x) h = absurd (true≢false h)

pub record Kept (known : List Object) (e : Id × Held) (new : List (Id × Held)) : Type 0 where
  pub store : IsStore new
  pub view : objects_in new ≡ known ++ object_in e ∷ []

pub kept : (known : List Object) (es new : List (Id × Held)) (e : Id × Held) → IsStore es → objects_in es ≡ known → new ≡ es ++ e ∷ [] → knows_object known e.0 ≡ false
    → e.0 ≡ object_id (parsed_kind e.1.parsed) e.1.content → IsValue e.1.content e.1.parsed → IsSound (object_in e) → Kept known e new
kept known es new e s view is unknown its_id value sound =
    let more : AreKnown (objects_in es ++ object_in e ∷ []) =
    AreKnown-push (objects_in es) e s.known (ap (λ (l : List Object). knows_object l e.0) view ∙ unknown) its_id value sound in
    let store : IsStore (es ++ e ∷ []) = record {
      values = Each-push (λ (x : Id × Held). IsValue x.1.content x.1.parsed) es e s.values value;
      known = subst AreKnown (sym (objects_in-push es e)) more;
    } in
    record {
      store = subst IsStore (sym is) store;
      view = ap objects_in is ∙ objects_in-push es e ∙ ap (λ (l : List Object). l ++ object_in e ∷ []) view;
    }

-- ---- a tree

pub tree-held : (id : Id) (h : Held) (entries : List TreeEntry) → h.parsed ≡ Tree entries → IsValue h.content h.parsed → Some entries ≡ entries_of (Some (object_in (id, h)))
tree-held id h entries is value =
    let text : IsTreeText h.content entries = subst (IsValue h.content) is value in
    rw is (ap Some (sym (tree_entries-text h.content entries text)))
