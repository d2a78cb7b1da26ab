use Rattle.std.proofs.lemmas.Result.{on_ok_weaker}
use Rattle.hg_model.specs.Revision.{Changesets, Manifests, FilesAt}
use Rattle.view_model.specs.Dump.{of_group}
use Rattle.hg_dump.proofs.BundleLemmas.{of-list, behind-all}
use Rattle.hg_dump.proofs.bundle.put_bundle.Goals as goal

pub put_group-requires : goal.put_group-requires
put_group-requires c = (of_group Changesets c.requires.0, of-list c.args.store.now c.args.brought.now c.requires.0 c.requires.1 Changesets c.brought.result.now c.brought.ensures)

pub put_group-requires-2 : goal.put_group-requires-2
put_group-requires-2 c = (of_group Manifests c.requires.0, of-list c.args.store.now c.args.brought.now c.requires.0 c.requires.1 Manifests c.brought-2.result.now c.brought-2.ensures)

pub returns-clause-ok : goal.returns-clause-ok
returns-clause-ok c =
    on_ok_weaker c.put_empty.result
    (λ put rs are.
    let known = c.args.store.now in
    let b = c.args.brought.now in
    behind-all known b rs are c.in_ok-put_files.ensures.rising c.args.out.now
    c.put.new.self c.put_group.new.out c.put_group-2.new.out c.put_files.new.out c.put_empty.new.out c.in_ok-put.ensures.ok
    (c.in_ok-put_group.ensures.ok (of_group Changesets rs) (of-list known b rs are Changesets c.brought.result.now c.brought.ensures))
    (c.in_ok-put_group-2.ensures.ok (of_group Manifests rs) (of-list known b rs are Manifests c.brought-2.result.now c.brought-2.ensures))
    (c.in_ok-put_files.ensures.bytes rs (λ path. are (FilesAt path)))
    put)
    c.put_empty.ensures.ok
