use Rattle.std.proofs.Common.{◌≡◌, ◌++◌, ◌∷◌, [], List, Bool, Ok, Result, IfOk, ap, subst, ◌∙◌, bytes_eq}
use Rattle.std.specs.Prelude.{if◌then◌else◌}
use Rattle.std.specs.List.{list_any}
use Rattle.text_model.specs.Id.{Id}
use Rattle.git_model.specs.Object.{Object, knows_object}
use Rattle.pair_known.proofs.FreshLemmas.{ids-push, ids_any}
use Rattle.pair_known.proofs.fresh_blobs.FreshBlobs.push.Goals as goal

if_ok : {A B : Type 0} (r : Result A B) (x : A) (P : A → Type 0) → r ≡ Ok x → IfOk r P → P x
if_ok {A} {B} r x P is h = subst (λ (r : Result A B). IfOk r P) is h

pub invariant_of-self-2 : goal.invariant_of-self-2
invariant_of-self-2 c =
    let bs = c.self.inside.items.items in
    let id = c.args.item.id in
    let old = c.self.inside.ids.keys in
    let free = ids_any bs id (ap (λ (l : List Object). knows_object l id) c.self.view_is ∙ c.requires) in
    let keys : c.insert.new.self.keys ≡ (if list_any (bytes_eq id) c.reserve.new.self.keys then c.reserve.new.self.keys else (c.reserve.new.self.keys ++ id ∷ [])) =
    if_ok c.insert.result c.unwrap.result (λ _. c.insert.new.self.keys ≡ (if list_any (bytes_eq id) c.reserve.new.self.keys then c.reserve.new.self.keys else (c.reserve.new.self.keys ++ id ∷ []))) c.unwrap.ensures c.insert.ensures.keys in
    let more : c.insert.new.self.keys ≡ old ++ id ∷ [] =
    keys ∙ ap (λ (l : List Id). if list_any (bytes_eq id) l then l else (l ++ id ∷ [])) c.reserve.ensures.keys
    ∙ ap (λ (t : Bool). if t then old else (old ++ id ∷ [])) (ap (list_any (bytes_eq id)) c.self.invariant ∙ free) in
    ids-push bs c.args.item old c.insert.new.self.keys c.push.new.self.items c.self.invariant more c.in_ok-push.ensures.items
