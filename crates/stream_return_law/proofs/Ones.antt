-- What is known of a saved history has one content for an id.
use Rattle.std.proofs.Common.{◌≡◌, Bool, true, false, List, [], map, refl, subst}
use Rattle.std.specs.Prelude.{bytes_eq}
use Rattle.text_model.proofs.TestLemmas.{bytes_eq-is}
use Rattle.git_model.specs.Object.{Object, is_other_content, objects_after_all}
use Rattle.git_model.specs.Tree.{has_distinct}
use Rattle.unmark_law.proofs.Tables.{one_for}
use Rattle.next_law.proofs.GitKnown.{distinct-after}
use Rattle.tag_law.proofs.Adds.{not-self}
use Rattle.frame_law.proofs.Bodies.{AreOne}

-- objects of which no two have one id
distinct_one : (all : List Object) → has_distinct (map (λ (o : Object). o.id) all) ≡ true → AreOne all
distinct_one all d a b i j = by (bytes_eq a.id b.id) refl
  where
    by : (t : Bool) → bytes_eq a.id b.id ≡ t → is_other_content a b ≡ false
    by true e = subst (λ (o : Object). is_other_content a o ≡ false) (one_for (λ (o : Object). o.id) all d a b i j (bytes_eq-is a.id b.id e)) (not-self a)
    by false e = rw e refl

pub known_one : (os : List Object) → AreOne (objects_after_all [] os)
known_one os = distinct_one (objects_after_all [] os) (distinct-after [] os refl)
