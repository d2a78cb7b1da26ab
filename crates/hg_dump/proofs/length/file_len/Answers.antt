use Rattle.std.proofs.Common.{◌≡◌, ◌+◌, ◌-◌, ◌^◌, ℕ, List, [], ◌∷◌, length, min, ◌<◌, arith, sym}
use Rattle.hg_model.specs.Revision.{FilesAt, Revision}
use Rattle.view_model.specs.Dump.{written_group}
use Rattle.hg_model.specs.Bundle.{FileGroup, group_text}
use Rattle.hg_dump.specs.Written.{file_part_of}
use Rattle.hg_dump.proofs.EntryLemmas.{of-length}
use Rattle.hg_dump.proofs.BundleLemmas.{positive, file-size}
use Rattle.hg_dump.proofs.length.file_len.Goals as goal

-- some revision is written
sized : (f : FileGroup) (rs : List Revision) (n group : ℕ) → 0 < length rs → group ≡ min (length (group_text f.entries)) (2 ^ 64 - 1) → n ≡ min (group + (length f.path + 4)) (2 ^ 64 - 1)
    → n ≡ min (length (file_part_of f rs)) (2 ^ 64 - 1)
sized f [] n group some is all = absurd (omega (arith, some))
sized f (r ∷ rs) n group some is all = omega (arith, is, all, file-size f rs r)

pub returns : goal.returns
returns c = λ rs are.
    let known = c.args.store.now in
    let path = c.args.path.now in
    sized (record { path = path; entries = written_group known (FilesAt path) rs }) rs c.saturating_add.result c.group_len-group.result
    (omega (arith, positive _ (sym c.if-is_empty.ensures), of-length known (FilesAt path) c.args.references.now rs are)) (c.group_len-group.ensures rs are) (omega (arith, c.saturating_add.ensures))
