use Rattle.std.proofs.Common.{sym, arith}
use Rattle.hg_model.specs.Revision.{FilesAt}
use Rattle.hg_dump.proofs.BundleLemmas.{positive}
use Rattle.hg_dump.proofs.EntryLemmas.{some-held}
use Rattle.hg_dump.proofs.HeldLemmas.{held-path}
use Rattle.hg_dump.proofs.group.put_file.Goals as goal

pub put_chunk-requires : goal.put_chunk-requires
put_chunk-requires c =
    let known = c.args.store.now in
    let path = c.args.path.now in
    let references = c.args.references.now in
    let some = positive _ (sym c.if-is_empty.ensures) in
    let first = some-held known (FilesAt path) references c.requires.0 c.requires.1 some in
    let size = held-path known path first.revision (c.first_base_len-base_len.ensures.known some) first.is_held in
    record { some = size.0; limit = omega (arith, size.1) }
