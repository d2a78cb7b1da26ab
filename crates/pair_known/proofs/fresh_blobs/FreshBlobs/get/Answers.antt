use Rattle.std.proofs.Common.{List, sym, ap, ◌∙◌, bytes_eq, get_or}
use Rattle.std.specs.Prelude.{option_map}
use Rattle.std.specs.List.{list_any}
use Rattle.git_model.specs.Object.{Object, object_at}
use Rattle.pair_known.specs.declared.fresh_blobs.FreshBlob.{FreshBlob}
use Rattle.pair_known.specs.Fresh.{fresh_object}
use Rattle.pair_known.proofs.FreshLemmas.{blob-at, ids_free, blob-within_len, blob-here}
use Rattle.pair_known.proofs.fresh_blobs.FreshBlobs.get.Goals as goal

pub bounds-items-place : goal.bounds-items-place
bounds-items-place c =
    let within = blob-within_len c.self.inside.items.items c.self.inside.ids.keys c.self.invariant c.args.id.now c.in-Some.place c.in-Some.ensures.index in
    rw c.as_slice-items.ensures.value within

pub returns-in-Some : goal.returns-in-Some
returns-in-Some c =
    blob-here c.self.inside.items.items c.self.inside.ids.keys c.self.invariant c.args.id.now c.in-Some.place c.in-Some.ensures.index c.index-items-place.result (c.index-items-place.is ∙ ap (λ (l : List FreshBlob). get_or l c.in-Some.place c.index-items-place.result) c.as_slice-items.ensures.value)
    ∙ ap (λ (l : List Object). object_at l c.args.id.now) c.self.view_is

pub returns-in-None : goal.returns-in-None
returns-in-None c =
    ap (option_map fresh_object) (sym (ids_free c.self.inside.items.items c.args.id.now (ap (list_any (bytes_eq c.args.id.now)) (sym c.self.invariant) ∙ sym c.in-None.ensures.found)))
    ∙ sym (blob-at c.self.inside.items.items c.args.id.now)
    ∙ ap (λ (l : List Object). object_at l c.args.id.now) c.self.view_is
