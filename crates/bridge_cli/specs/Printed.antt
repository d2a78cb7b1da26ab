-- What is printed of a saved state, and the command that asks for it.
use Rattle.std.specs.Prelude.{◌++◌}
use Rattle.text_model.specs.Text.{Bytes}
use Rattle.git_model.specs.Stream.{stream_text}
use Rattle.pair_model.specs.Block.{changesets_in, commits_in}
use Rattle.state_model.specs.Kept.{State, hg_dump, git_dump}
use Rattle.saved_model.specs.Written.{map_text}
use Rattle.command_model.specs.Command as model
use Rattle.ref_map.specs.declared.row.Side.TheVariants.{Hg, Git}
use Rattle.name_engine.specs.Set.{text_of}
use Rattle.bridge_cli.specs.declared.printed.Printed.{Printed}
use Rattle.bridge_cli.specs.declared.printed.Printed.TheVariants.{Bundle, Stream, Map, Names}

-- the command that prints it
abbrev pub print_command : Printed → model.Command
print_command Bundle = model.DumpHg
print_command Stream = model.DumpGit
print_command Map = model.Map
print_command (Names Hg) = model.NamesHg
print_command (Names Git) = model.NamesGit

-- its bytes: a bundle or a stream of the whole history, the ids of commits and changesets, or the names as a side has them
abbrev pub print_of : Printed → State → Bytes
print_of Bundle m = hg_dump (changesets_in m.blocks)
print_of Stream m = git_dump (commits_in m.blocks) ++ stream_text m.tags
print_of Map m = map_text m.blocks
print_of (Names side) m = text_of side m
