-- A saved state with other names.
use Rattle.std.proofs.Common.{◌≡◌, ◌≤◌, ℕ, not, List, length, sym, subst, arith}
use Rattle.std.proofs.lemmas.List.Sums.{length-filter, count_by-le-length}
use Rattle.view_model.specs.View.{ChangesetView}
use Rattle.pair_model.specs.Block.{changesets_in, commits_in}
use Rattle.pair_model.specs.Octopus.{is_link_view}
use Rattle.state_model.specs.Kept.{kept_of}
use Rattle.state_model.specs.Limits.{changeset_limit}
use Rattle.state_model.specs.Names.{Targets, targets_in, targets_of, AreNames}
use Rattle.state_model.specs.Text.{sections_of, no_links}
use Rattle.state_model.specs.Saved.{AreChangesetsSaved, AreCommitsSaved, AreTagsSaved}
use Rattle.name_model.specs.Targets.{AreTargets}
use Rattle.dump_law.proofs.Names.{targets-same, targets-saved}
use Rattle.command_model.specs.Names.{with_names}
use Rattle.state_law.specs.Left.{AreWithin}
use Rattle.state_law.specs.Named.{SetIsLeft}
use Rattle.state_law.proofs.Lengths.{text-fits}

-- there are no more commits than changesets
pub few-commits : (n : ℕ) (hs : List ChangesetView) → n ≡ length (no_links hs) → length hs ≤ changeset_limit → n ≤ changeset_limit
few-commits n hs e few =
    let p = λ (h : ChangesetView). not (is_link_view h) in
    omega (arith, e, few, length-filter p hs, count_by-le-length p hs)

pub set-left : SetIsLeft
set-left s names is n =
    let changesets : AreChangesetsSaved (changesets_in s.blocks) = is.1.0.0.0.0.1 in
    let commits : AreCommitsSaved (commits_in s.blocks) = is.1.0.0.0.1 in
    let pairs : length (commits_in s.blocks) ≡ length (no_links (changesets_in s.blocks)) = is.1.0.0.1 in
    let tags : AreTagsSaved (commits_in s.blocks) s.tags = is.1.0.1 in
    let next = with_names s names in
    let same : targets_of (sections_of s) ≡ targets_in (kept_of s) = targets-same s is.0 in
    let kept : AreNames (targets_of (sections_of next)) names = subst (λ (t : Targets). AreNames t names) (sym same) n in
    let within : AreWithin (sections_of next) = record {
      hg = (changesets.dumped).short;
      git = tags.short;
      few = few-commits (length (commits_in s.blocks)) (changesets_in s.blocks) pairs (changesets.dumped).few;
      targets = subst AreTargets (sym same) (targets-saved s is);
      names = kept;
    } in
    (is.0, (((((tt, changesets), commits), pairs), tags), (kept, text-fits (sections_of next) within)))
