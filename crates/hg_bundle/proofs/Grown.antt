-- What was listed so far was added to the known revisions.
use Rattle.std.proofs.Common.{◌≡◌, ℕ, not, List, [], ◌∷◌, ◌++◌, sym, ap, ◌∙◌}
use Rattle.text_model.specs.Text.{Bytes}
use Rattle.hg_model.specs.Revision.{Group, Revision, knows, known_after, known_after_all}
use Rattle.hg_model.specs.Bundle.{Place, InGroup, AtPath, BundleEntry, entry_of}
use Rattle.hg_model.specs.Reading.{Arrival}
use Rattle.hg_bundle.specs.declared.arrival.Arrival as listed
use Rattle.hg_bundle.specs.declared.gather.Gathered.{Gathered}
use Rattle.hg_bundle.specs.Arrivals.{AreArrivals, AreMarked, arrival_of, revisions_of}
use Rattle.hg_bundle.specs.Steps.{Adds, Begins, Steps, entry_revision}
use Rattle.hg_bundle.proofs.Reading.{known-push, listed-push}

abbrev pub Grown : List Revision → Gathered → Type 0
Grown known g = AreArrivals known g.store g.arrivals

-- one more, behind those that are marked
marked-push : (known : List Revision) (came : List Arrival) (a : Arrival) → AreMarked known came → a.fresh ≡ not (knows (known_after_all known (revisions_of came)) (a.revision).group (a.revision).node)
    → AreMarked known (came ++ a ∷ [])
marked-push known [] a marked is = (is, tt)
marked-push known (x ∷ came) a marked is = (marked.0, marked-push (known_after known x.revision) came a marked.1 is)

begins-grown : (known : List Revision) (old new : Gathered) → Grown known old → Begins old new → Grown known new
begins-grown known old new g b = (g.0, b.arrivals ∙ g.1, b.store ∙ g.2, g.3)

adds-grown : (known : List Revision) (group : Group) (at : ℕ) (e : BundleEntry) (old new : Gathered) → Grown known old → Adds group at e old new → Grown known new
adds-grown known group at e old new g h =
    let a : Arrival = record { revision = entry_revision old group e; at = at; fresh = not (knows old.store group e.node) } in (
      g.0 ++ a ∷ [],
      h.arrivals ∙ ap (λ (l : List listed.Arrival). l ++ arrival_of a ∷ []) g.1 ∙ sym (listed-push g.0 a),
      h.store ∙ ap (λ (l : List Revision). known_after l a.revision) g.2 ∙ sym (known-push known g.0 a),
      marked-push known g.0 a g.3 (ap (λ (l : List Revision). not (knows l group e.node)) g.2),
    )

pub steps-grown : (known : List Revision) (place : Place) (at : ℕ) (payload : Bytes) (old new : Gathered) → Grown known old → Steps place at payload old new → Grown known new
steps-grown known place at [] old new g s = begins-grown known old new g s
steps-grown known AtPath at (byte ∷ bytes) old new g s = begins-grown known old new g s.1
steps-grown known (InGroup group) at (byte ∷ bytes) old new g s = adds-grown known group at (entry_of (byte ∷ bytes)) old new g s.1
