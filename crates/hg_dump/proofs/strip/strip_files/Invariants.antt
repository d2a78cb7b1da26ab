use Rattle.std.proofs.Common.{◌≡◌, List, map, Some}
use Rattle.std.specs.List.{flat_map}
use Rattle.text_model.specs.Lists.{Each}
use Rattle.hg_model.specs.Revision.{Revision}
use Rattle.hg_dump.specs.Begins.{GoOnAlike}
use Rattle.hg_dump.specs.Written.{file_part}
use Rattle.hg_dump.specs.State.{AreFiles, paths_of}
use Rattle.hg_dump.specs.ToldParts.{TellsFiles}
use Rattle.hg_dump.proofs.FileLemmas.{by_path}
use Rattle.hg_dump.proofs.strip.strip_files.Given as goal

abbrev pub invariant-loop-path : goal.invariant-loop-path
invariant-loop-path l = record {
  behind : (rs : List Revision) → AreFiles l.store l.files rs
      → GoOnAlike l.initial.rest (flat_map (file_part l.store rs) (paths_of l.files)) l.rest (flat_map (file_part l.store rs) (map (λ e. e.0.items) l.path-iterator));
  found : Each (λ e. by_path l.files e.0.items ≡ Some e.1) l.path-iterator;
  told : TellsFiles l.store l.rest;
}
