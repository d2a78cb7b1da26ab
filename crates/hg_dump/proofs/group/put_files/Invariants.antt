use Rattle.std.proofs.Common.{◌≡◌, ◌++◌, List, map, Some}
use Rattle.std.specs.List.{flat_map}
use Rattle.std.specs.Io.{StartsWith}
use Rattle.text_model.specs.Lists.{Each}
use Rattle.hg_model.specs.Revision.{Revision}
use Rattle.hg_dump.specs.Written.{file_part}
use Rattle.hg_dump.specs.State.{AreFiles, paths_of}
use Rattle.hg_dump.proofs.FileLemmas.{by_path}
use Rattle.hg_dump.proofs.group.put_files.Given as goal

abbrev pub invariant-loop-path : goal.invariant-loop-path
invariant-loop-path l = record {
  written : (rs : List Revision) → AreFiles l.store l.files rs
      → l.out ++ flat_map (file_part l.store rs) (map (λ e. e.0.items) l.path-iterator) ≡ l.fn.out ++ flat_map (file_part l.store rs) (paths_of l.files);
  front : StartsWith l.out l.fn.out;
  found : Each (λ e. by_path l.files e.0.items ≡ Some e.1) l.path-iterator;
}
