-- Names in the words of the model.
use Rattle.name_model.specs.Line as model
use Rattle.ref_map.specs.declared.phase.Phase.{Phase}
use Rattle.ref_map.specs.declared.phase.Phase.TheVariants.{Public, Draft, Secret}
use Rattle.ref_map.specs.declared.line.NameLine.{NameLine}
use Rattle.ref_map.specs.declared.line.NameLine.TheVariants.{Bookmark, PlainTag, Annotated, InPhase, OtherRef}

abbrev pub phase_value : Phase → model.Phase
phase_value Public = model.Public
phase_value Draft = model.Draft
phase_value Secret = model.Secret

abbrev pub line_value : NameLine → model.NameLine
line_value (Bookmark node name) = model.Bookmark node name.now
line_value (PlainTag node name) = model.PlainTag node name.now
line_value (Annotated id name) = model.Annotated id name.now
line_value (InPhase phase node) = model.InPhase (phase_value phase) node
line_value (OtherRef id name) = model.OtherRef id name.now
