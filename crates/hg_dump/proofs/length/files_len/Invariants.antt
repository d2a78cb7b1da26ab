use Rattle.std.proofs.Common.{◌≡◌, ◌<◌, ◌+◌, ◌-◌, ◌^◌, List, length, min, map, Some}
use Rattle.std.specs.List.{flat_map}
use Rattle.text_model.specs.Lists.{Each}
use Rattle.hg_model.specs.Revision.{Revision}
use Rattle.hg_dump.specs.Written.{file_part}
use Rattle.hg_dump.specs.State.{AreFiles, paths_of}
use Rattle.hg_dump.proofs.FileLemmas.{by_path}
use Rattle.hg_dump.proofs.length.files_len.Given as goal

abbrev pub invariant-loop-path : goal.invariant-loop-path
invariant-loop-path l = record {
  small : l.len < 2 ^ 64;
  counted : (rs : List Revision) → AreFiles l.store l.files rs
      → min (l.len + length (flat_map (file_part l.store rs) (map (λ e. e.0.items) l.path-iterator))) (2 ^ 64 - 1) ≡ min (length (flat_map (file_part l.store rs) (paths_of l.files))) (2 ^ 64 - 1);
  found : Each (λ e. by_path l.files e.0.items ≡ Some e.1) l.path-iterator;
}
