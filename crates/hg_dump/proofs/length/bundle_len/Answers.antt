use Rattle.std.proofs.Common.{arith}
use Rattle.hg_model.specs.Revision.{Changesets, Manifests, FilesAt}
use Rattle.view_model.specs.Dump.{of_group}
use Rattle.hg_dump.proofs.BundleLemmas.{of-list, bundle-size}
use Rattle.hg_dump.proofs.length.bundle_len.Goals as goal

pub group_len-changesets-requires : goal.group_len-changesets-requires
group_len-changesets-requires c = (of_group Changesets c.requires.0, of-list c.args.store.now c.args.brought.now c.requires.0 c.requires.1 Changesets c.brought.result.now c.brought.ensures)

pub group_len-manifests-requires : goal.group_len-manifests-requires
group_len-manifests-requires c = (of_group Manifests c.requires.0, of-list c.args.store.now c.args.brought.now c.requires.0 c.requires.1 Manifests c.brought-2.result.now c.brought-2.ensures)

pub returns : goal.returns
returns c = λ rs are.
    let known = c.args.store.now in
    let b = c.args.brought.now in
    omega (
      arith,
      c.group_len-changesets.ensures (of_group Changesets rs) (of-list known b rs are Changesets c.brought.result.now c.brought.ensures),
      c.group_len-manifests.ensures (of_group Manifests rs) (of-list known b rs are Manifests c.brought-2.result.now c.brought-2.ensures),
      c.files_len-files.ensures.len rs (λ path. are (FilesAt path)),
      bundle-size known b rs are c.files_len-files.ensures.rising,
      c.saturating_add.ensures,
      c.saturating_add-2.ensures,
      c.saturating_add-3.ensures,
    )
