-- A store to which objects came, none of which was refused.
use Rattle.std.proofs.Common.{List, [], ◌∷◌}
use Rattle.text_model.specs.Lists.{Each}
use Rattle.git_model.specs.Object.{Object, objects_after, objects_after_all}
use Rattle.git_model.specs.Stream.{Placed}
use Rattle.git_batch.specs.Arrivals.{AddsAll}
use Rattle.git_store.specs.Growth.{HasGrown}
use Rattle.git_store.proofs.Growth.{grown-none, grown-more, one-more}
use Rattle.history_model.specs.Pull.{objects_among}

pub grown : (known : List Object) (came : List Placed) → AddsAll known (objects_among came) → HasGrown known (objects_after_all known (objects_among came)) (objects_among came)
grown known [] adds = grown-none known
grown known (p ∷ came) adds =
    let rest = grown (objects_after known p.object) came adds.1 in
    grown-more known (objects_after known p.object) (objects_after_all (objects_after known p.object) (objects_among came)) (p.object ∷ []) (objects_among came)
    (one-more known p.object adds.0) rest

-- of what came what holds of its objects
pub each-placed : (P : Object → Type 0) (came : List Placed) → Each P (objects_among came) → Each (λ o. P o.object) came
each-placed P [] all = tt
each-placed P (p ∷ came) all = (all.0, each-placed P came all.1)
