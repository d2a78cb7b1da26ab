use Rattle.std.proofs.Common.{subst, sym, refl, arith}
use Rattle.text_model.specs.Text.{Bytes}
use Rattle.hg_model.specs.Bundle.{FileGroup, group_text}
use Rattle.hg_model.specs.Chunk.{chunk_text}
use Rattle.hg_model.specs.Revision.{FilesAt}
use Rattle.view_model.specs.Dump.{written_group}
use Rattle.hg_dump.specs.Begins.{LacksFront, HasFront, IsBehind}
use Rattle.hg_dump.proofs.BundleLemmas.{positive}
use Rattle.hg_dump.proofs.EntryLemmas.{some-held, of-length}
use Rattle.hg_dump.proofs.HeldLemmas.{held-path}
use Rattle.hg_dump.proofs.StripLemmas.{lacks-first, behind-both, part-none, part-some, no-references}
use Rattle.hg_dump.proofs.ToldLemmas.{told-file, told-left}
use Rattle.hg_dump.proofs.strip.strip_file.Goals as goal

pub returns-then-is_empty-clause-behind : goal.returns-then-is_empty-clause-behind
returns-then-is_empty-clause-behind c = λ rs are.
    let known = c.args.store.now in
    let path = c.args.path.now in
    let bytes = c.args.bytes.now in
    subst (λ (f : Bytes). HasFront bytes f bytes)
    (part-none (record { path = path; entries = written_group known (FilesAt path) rs }) rs (omega (arith, of-length known (FilesAt path) c.args.references.now rs are, no-references _ (sym c.if-is_empty.ensures)))) refl

pub strip_chunk-requires : goal.strip_chunk-requires
strip_chunk-requires c =
    let known = c.args.store.now in
    let path = c.args.path.now in
    let references = c.args.references.now in
    let some = positive _ (sym c.if-is_empty.ensures) in
    let first = some-held known (FilesAt path) references c.requires.are.0 c.requires.are.1 some in
    let size = held-path known path first.revision (c.first_base_len-base_len.ensures.known some) first.is_held in
    record { some = size.0; limit = omega (arith, size.1) }

pub strip_entries-requires-clause-told : goal.strip_entries-requires-clause-told
strip_entries-requires-clause-told c =
    let known = c.args.store.now in
    let path = c.args.path.now in
    let some = positive _ (sym c.if-is_empty.ensures) in
    let first = some-held known (FilesAt path) c.args.references.now c.requires.are.0 c.requires.are.1 some in
    let sizes = held-path known path first.revision (c.first_base_len-base_len.ensures.known some) first.is_held in
    let f = told-file known c.args.bytes.now path c.in_ok-entries.entries.now c.requires.told c.in_ok-entries.ensures (omega (arith, sizes.0)) (omega (arith, sizes.1)) in
    (f.tail, f.group)

pub returns-in_err-entries-clause-behind : goal.returns-in_err-entries-clause-behind
returns-in_err-entries-clause-behind c = rw c.from_residual.ensures (λ rs are.
    let known = c.args.store.now in
    let path = c.args.path.now in
    let bytes = c.args.bytes.now in
    let f : FileGroup = record { path = path; entries = written_group known (FilesAt path) rs } in
    subst (λ (x : Bytes). LacksFront bytes x)
    (part-some f rs (omega (arith, positive _ (sym c.if-is_empty.ensures), of-length known (FilesAt path) c.args.references.now rs are)))
    (lacks-first bytes (chunk_text path) (group_text f.entries) c.in_err-entries.ensures))

pub returns-clause-behind : goal.returns-clause-behind
returns-clause-behind c = λ rs are.
    let known = c.args.store.now in
    let path = c.args.path.now in
    let bytes = c.args.bytes.now in
    let f : FileGroup = record { path = path; entries = written_group known (FilesAt path) rs } in
    subst (λ (x : Bytes). IsBehind bytes x c.strip_entries.result)
    (part-some f rs (omega (arith, positive _ (sym c.if-is_empty.ensures), of-length known (FilesAt path) c.args.references.now rs are)))
    (behind-both bytes (chunk_text path) (group_text f.entries) c.in_ok-entries.entries.now c.strip_entries.result c.in_ok-entries.ensures (c.strip_entries.ensures.behind rs are))

pub returns-clause-told : goal.returns-clause-told
returns-clause-told c =
    let known = c.args.store.now in
    let path = c.args.path.now in
    let some = positive _ (sym c.if-is_empty.ensures) in
    let first = some-held known (FilesAt path) c.args.references.now c.requires.are.0 c.requires.are.1 some in
    let sizes = held-path known path first.revision (c.first_base_len-base_len.ensures.known some) first.is_held in
    let f = told-file known c.args.bytes.now path c.in_ok-entries.entries.now c.requires.told c.in_ok-entries.ensures (omega (arith, sizes.0)) (omega (arith, sizes.1)) in
    told-left known path c.in_ok-entries.entries.now c.strip_entries.result f c.strip_entries.ensures.tail
