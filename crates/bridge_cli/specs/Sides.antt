-- The commands that set names, by the side that has their text.
use Rattle.command_model.specs.Command.{Command, SetNamesHg, SetNamesGit}
use Rattle.ref_map.specs.declared.row.Side.{Side}
use Rattle.ref_map.specs.declared.row.Side.TheVariants.{Hg, Git}

-- the command that sets what the side's text gives
abbrev pub set_command : Side → Command
set_command Hg = SetNamesHg
set_command Git = SetNamesGit
