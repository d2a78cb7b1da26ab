-- What is known of a saved history comes from its changesets.
use Rattle.std.proofs.Common.{Bool, true, false, List, [], ◌∷◌, ◌++◌, map, filter}
use Rattle.std.specs.Prelude.{if◌then◌else◌, not}
use Rattle.std.specs.List.{flat_map, list_any}
use Rattle.text_model.specs.Lists.{Each, first_of_each}
use Rattle.text_model.specs.Text.{Bytes}
use Rattle.text_model.proofs.EachLemmas.{Each-append}
use Rattle.text_model.proofs.Elements.{in_map}
use Rattle.hg_model.specs.Revision.{Revision, Changesets, Manifests, FilesAt, same_group, same_revision, known_after_all}
use Rattle.view_model.specs.View.{ChangesetView, changeset_node}
use Rattle.view_model.specs.Dump.{of_group, paths_in, brought_by, revisions_in}
use Rattle.pair_model.specs.Block.{Block, changesets_in}
use Rattle.saved_model.specs.Step.{in_written_order, dump_revisions}
use Rattle.pull_law.proofs.Known.{after-all}
use Rattle.history_law.specs.Sound.{IsFromBlocks}
use Rattle.history_law.proofs.Known.{all-from}

each-filter : {X : Type 0} (P : X → Type 0) (test : X → Bool) (xs : List X) → Each P xs → Each P (filter test xs)
each-filter P test [] each = tt
each-filter P test (x ∷ xs) each = by (test x) (each-filter P test xs each.1)
  where
    by : (t : Bool) → Each P (filter test xs) → Each P (if t then x ∷ filter test xs else filter test xs)
    by true rest = (each.0, rest)
    by false rest = rest

each-first : {X : Type 0} (P : X → Type 0) (same : X → X → Bool) (xs : List X) → Each P xs → Each P (first_of_each same xs)
each-first P same [] each = tt
each-first P same (x ∷ xs) each = (each.0, each-filter P (λ y. not (same x y)) (first_of_each same xs) (each-first P same xs each.1))

each-of : (P : Revision → Type 0) (rs : List Revision) → Each P rs → (paths : List Bytes) → Each P (flat_map (λ path. of_group (FilesAt path) rs) paths)
each-of P rs each [] = tt
each-of P rs each (path ∷ paths) =
    Each-append P (of_group (FilesAt path) rs) (flat_map (λ path. of_group (FilesAt path) rs) paths)
    (each-filter P (λ r. same_group (FilesAt path) r.group) rs each) (each-of P rs each paths)

-- what holds of each revision to which changesets refer holds of each that their bundle brings
pub each-dumped : (P : Revision → Type 0) (hs : List ChangesetView) → Each P (revisions_in hs) → Each P (dump_revisions hs)
unfolding brought_by in_written_order
each-dumped P hs each =
    let rs = brought_by [] hs in
    let new : Each P rs = each-filter P (λ r. not (list_any (same_revision r) [])) (first_of_each same_revision (revisions_in hs)) (each-first P same_revision (revisions_in hs) each) in
    let files = flat_map (λ path. of_group (FilesAt path) rs) (paths_in rs) in
    Each-append P (of_group Changesets rs) (of_group Manifests rs ++ files) (each-filter P (λ r. same_group Changesets r.group) rs new)
    (Each-append P (of_group Manifests rs) files (each-filter P (λ r. same_group Manifests r.group) rs new) (each-of P rs new (paths_in rs)))

pub known-from : (blocks : List Block) → Each (IsFromBlocks blocks) (known_after_all [] (dump_revisions (changesets_in blocks)))
known-from blocks =
    after-all (IsFromBlocks blocks) [] (dump_revisions (changesets_in blocks)) tt
    (each-dumped (IsFromBlocks blocks) (changesets_in blocks) (all-from (map changeset_node (changesets_in blocks)) (changesets_in blocks) (λ h i. in_map changeset_node h (changesets_in blocks) i)))
