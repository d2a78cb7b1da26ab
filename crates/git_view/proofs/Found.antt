-- What is known of an object that is found.
use Rattle.std.proofs.Common.{◌≡◌, Bool, true, false, true≢false, List, [], ◌∷◌, Option, Some, None, refl, sym, ap, subst, ◌∙◌}
use Rattle.std.specs.Prelude.{⊤, bytes_eq, if◌then◌else◌}
use Rattle.std.proofs.lemmas.Slice.Eq.{bytes_eq-Decides}
use Rattle.text_model.specs.Lists.{Each}
use Rattle.text_model.specs.Id.{Id, ObjectKind, object_id}
use Rattle.git_model.specs.Tree.{TreeEntry}
use Rattle.git_model.specs.Object.{Object, object_at, entries_of, tree_at}
use Rattle.git_model.specs.Unfold.{is_kind_there}
use Rattle.text_model.proofs.Options.{none_some, some_is}
use Rattle.git_store.specs.Known.{IsSound, AreKnown}
use Rattle.git_store.proofs.KnownLemmas.{same_kind-is}

-- what holds of all objects holds of one that is found, and its id is the one asked for
find-each : (P : Object → Type 0) (known : List Object) (id : Id) (o : Object) → Each P known → object_at known id ≡ Some o → P o × (id ≡ o.id)
find-each P [] id o each at = absurd (none_some {x = o} at)
find-each P (x ∷ known) id o each at = by (bytes_eq id x.id) refl at (find-each P known id o each.1)
  where
    by : (t : Bool) → bytes_eq id x.id ≡ t → (if t then Some x else object_at known id) ≡ Some o → (object_at known id ≡ Some o → P o × (id ≡ o.id)) → P o × (id ≡ o.id)
    by true t is later = let same = some_is {x = x} {y = o} is in (subst P same each.0, (bytes_eq-Decides id x.id).0 t ∙ ap (λ (p : Object). p.id) same)
    by false t is later = later is

pub found-id : (known : List Object) (id : Id) (o : Object) → object_at known id ≡ Some o → id ≡ o.id
found-id known id o at = (find-each (λ _. ⊤) known id o (all known) at).1
  where
    all : (os : List Object) → Each (λ _. ⊤) os
    all [] = tt
    all (p ∷ os) = (tt, all os)

pub record Found (id : Id) (o : Object) : Type 0 where
  pub id_is : id ≡ o.id
  pub of_content : o.id ≡ object_id o.kind o.content
  pub sound : IsSound o

pub found : (known : List Object) (id : Id) (o : Object) → AreKnown known → object_at known id ≡ Some o → Found id o
found known id o are at =
    let content = find-each (λ p. p.id ≡ object_id p.kind p.content) known id o are.are.ids at in
    record { id_is = content.1; of_content = content.0; sound = (find-each IsSound known id o are.sound at).0 }

pub some-tree : (known : List Object) (id : Id) (entries : List TreeEntry) → tree_at known id ≡ Some entries → (o : Object) × (object_at known id ≡ Some o)
some-tree known id entries h = by (object_at known id) refl h
  where
    by : (o : Option Object) → object_at known id ≡ o → entries_of o ≡ Some entries → (o : Object) × (object_at known id ≡ Some o)
    by None e i = absurd (none_some {x = entries} i)
    by (Some o) e i = (o, e)

-- the object of a kind that is there
pub record There (known : List Object) (kind : ObjectKind) (id : Id) : Type 0 where
  pub object : Object
  pub at : object_at known id ≡ Some object
  pub kind_is : object.kind ≡ kind

pub there : (known : List Object) (kind : ObjectKind) (id : Id) → is_kind_there kind (object_at known id) ≡ true → There known kind id
there known kind id h = by (object_at known id) refl h
  where
    by : (o : Option Object) → object_at known id ≡ o → is_kind_there kind o ≡ true → There known kind id
    by None e i = absurd (true≢false (sym i))
    by (Some o) e i = record { object = o; at = e; kind_is = sym (same_kind-is kind o.kind i) }
