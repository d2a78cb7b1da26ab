-- A bundle before it is written.
use Rattle.std.specs.Prelude.{◌≡◌, List}
use Rattle.text_model.specs.Text.{Bytes}
use Rattle.hg_model.specs.Revision.{Revision}
use Rattle.hg_model.specs.Bundle.{bundle_text}
use Rattle.view_model.specs.Dump.{written_bundle}
use Rattle.hg_dump.specs.declared.dump.Dump.{Dump}
use Rattle.hg_dump.specs.State.{AreBrought}

-- what was collected is what the bundle with this text holds
pub record IsDumpOf (dump : Dump) (text : Bytes) : Type 0 where
  pub revisions : List Revision
  pub brought : AreBrought dump.store.now dump.brought revisions
  pub text_is : text ≡ bundle_text (written_bundle dump.store.now revisions)

-- what was collected is what some bundle holds
abbrev pub IsCollected : Dump → Type 0
IsCollected dump = (text : Bytes) × IsDumpOf dump text
