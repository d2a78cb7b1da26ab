-- The commits of a stream, as they are listed.
use Rattle.std.proofs.Common.{◌≡◌, Bool, true, false, List, [], ◌∷◌, map, refl, ap, ◌∙◌}
use Rattle.std.specs.Prelude.{if◌then◌else◌, filter}
use Rattle.text_model.specs.Id.{Id, ObjectKind, blob, tree, commit, tag, same_kind}
use Rattle.bridge_text.specs.Kinds.{object_kind}
use Rattle.git_model.specs.Object.{Object}
use Rattle.git_model.specs.Stream.{Placed}
use Rattle.git_batch.specs.declared.arrival.ObjectArrival.{ObjectArrival}
use Rattle.git_batch.specs.Arrivals.{kind_of, arrival_of, is_of, commits_among}
use Rattle.git_section.specs.Sections.{objects_of, commit_ids}

kind_again : (k : ObjectKind) → object_kind (kind_of k) ≡ k
kind_again blob = refl
kind_again tree = refl
kind_again commit = refl
kind_again tag = refl

-- the listed commits are those of the objects
pub same_commits : (placed : List Placed) → commits_among (map arrival_of placed) ≡ commit_ids (objects_of placed)
same_commits [] = refl
same_commits (p ∷ placed) =
    ap (λ (k : ObjectKind). map (λ (a : ObjectArrival). a.id) (if same_kind commit k then arrival_of p ∷ filter (is_of commit) (map arrival_of placed) else filter (is_of commit) (map arrival_of placed))) (kind_again (p.object).kind)
    ∙ by (same_kind commit (p.object).kind) (same_commits placed)
  where
    by : (t : Bool) → commits_among (map arrival_of placed) ≡ commit_ids (objects_of placed)
        → map (λ (a : ObjectArrival). a.id) (if t then arrival_of p ∷ filter (is_of commit) (map arrival_of placed) else filter (is_of commit) (map arrival_of placed))
        ≡ map (λ (o : Object). o.id) (if t then p.object ∷ filter (λ (o : Object). same_kind commit o.kind) (objects_of placed) else filter (λ (o : Object). same_kind commit o.kind) (objects_of placed))
    by true rest = ap (λ (l : List Id). (p.object).id ∷ l) rest
    by false rest = rest
