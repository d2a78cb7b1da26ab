-- The states of which the laws speak.
use Rattle.std.specs.Prelude.{◌≡◌, false}
use Rattle.text_model.specs.Lists.{Each}
use Rattle.text_model.specs.Id.{is_null, node_id}
use Rattle.hg_model.specs.Revision.{Revision}
use Rattle.git_model.specs.Stream.{IsChecked}
use Rattle.partner_model.specs.Table.{IsTable}
use Rattle.history_model.specs.Pull.{State}

-- the node of the revision is that of its parents and its text, and isn't the null id
pub record HasOwnNode (r : Revision) : Type 0 where
  pub some : is_null r.node ≡ false
  pub hash : r.node ≡ node_id r.p r.q r.text

-- Each known revision has the node of its parents and its text, and each known object the id of its kind and content. The blocks are a table: no
-- two have one node or one commit id.
pub record IsSoundState (s : State) : Type 0 where
  pub revisions : Each HasOwnNode s.revisions
  pub objects : IsChecked s.objects
  pub blocks : IsTable s.blocks
