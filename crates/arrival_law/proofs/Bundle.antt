-- The bundle of a saved history arrives as it is written.
use Rattle.std.proofs.Common.{◌≡◌, Bool, true, false, List, [], ◌∷◌, map, refl, sym, ap, subst, ◌∙◌}
use Rattle.text_model.specs.Lists.{Each, In}
use Rattle.text_model.proofs.Elements.{each_from, each_in, in_map}
use Rattle.hg_model.specs.Revision.{Revision, Changesets}
use Rattle.hg_model.specs.Reading.{Arrival}
use Rattle.view_model.specs.View.{ChangesetView}
use Rattle.view_model.specs.Dump.{revisions_in, brought_by, of_group}
use Rattle.pair_model.specs.Block.{changesets_in}
use Rattle.history_model.specs.Pull.{is_changesets, changesets_among, revisions_among}
use Rattle.state_model.specs.Kept.{Kept}
use Rattle.saved_model.specs.Step.{dump_revisions, known_of}
use Rattle.pull_law.proofs.Known.{no-null, own-some}
use Rattle.dump_law.proofs.Dumped.{dump-brings}
use Rattle.dump_law.proofs.DumpOne.{dump-nodes}
use Rattle.history_law.proofs.Dumps.{each-dumped}
use Rattle.next_law.proofs.Known.{IsSaved, in-order, own-known}
use Rattle.closure_model.specs.Arrives.{BundleArrives}

pub among-group : (arrivals : List Arrival) → revisions_among (changesets_among arrivals) ≡ of_group Changesets (revisions_among arrivals)
among-group [] = refl
among-group (a ∷ arrivals) = by (is_changesets (a.revision).group) refl (among-group arrivals)
  where
    by : (t : Bool) → is_changesets (a.revision).group ≡ t → revisions_among (changesets_among arrivals) ≡ of_group Changesets (revisions_among arrivals)
        → revisions_among (changesets_among (a ∷ arrivals)) ≡ of_group Changesets (revisions_among (a ∷ arrivals))
    by true e go = rw e (ap (λ (l : List Revision). a.revision ∷ l) go)
    by false e go = rw e go

-- what changesets refer to is all that their bundle brings
dumped-among : (hs : List ChangesetView) → Each (λ r. In r (revisions_in hs)) (dump_revisions hs)
dumped-among hs = each-dumped (λ r. In r (revisions_in hs)) hs (each_from (λ r. In r (revisions_in hs)) (revisions_in hs) (λ r i. i))

pub arrives : (k : Kept) → IsSaved k → BundleArrives k.blocks
arrives k saved =
    let hs = changesets_in k.blocks in
    let brings = dump-brings hs saved.dumped in
    let arrivals : List Arrival = brings.0 in
    let revisions : revisions_among arrivals ≡ dump_revisions hs = brings.2 ∙ sym (in-order (brought_by [] hs)) in
    record {
      arrivals = arrivals;
      reads = brings.1;
      revisions = revisions;
      nodes = ap (map (λ (r : Revision). r.node)) (among-group arrivals ∙ ap (of_group Changesets) brings.2) ∙ dump-nodes hs saved.dumped;
      among = each_from (λ a. In a.revision (revisions_in hs)) arrivals (λ a i.
          each_in (λ r. In r (revisions_in hs)) (revisions_among arrivals) a.revision (subst (Each (λ r. In r (revisions_in hs))) (sym revisions) (dumped-among hs)) (in_map (λ (a : Arrival). a.revision) a arrivals i));
      no_null = no-null (known_of k).revisions (own-some (known_of k).revisions (own-known k saved));
    }
