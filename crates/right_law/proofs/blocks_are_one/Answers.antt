use Rattle.partner_model.specs.Partner.{IsHeldView}
use Rattle.frame_law.proofs.Frame.{ground_table}
use Rattle.right_law.proofs.Order.{own_at, same_blocks}
use Rattle.right_law.proofs.Maps.{same_map}
use Rattle.right_law.proofs.blocks_are_one.Goals as goal

pub returns-clause-exact : goal.returns-clause-exact
returns-clause-exact c = λ known objects blocks before after b g v. own_at known objects blocks g v before after b

pub returns-clause-among : goal.returns-clause-among
returns-clause-among c = λ known more objects others blocks history g k v w are h other held. same_blocks known more objects others blocks history g k v w are other held h

pub returns-clause-map : goal.returns-clause-map
returns-clause-map c = λ known more objects others blocks history g k v w own are h other held back. same_map blocks history (ground_table blocks (IsHeldView known) g).nodes (ground_table history (IsHeldView more) k).nodes
    (same_blocks known more objects others blocks history g k v w are other held h) (same_blocks more known others objects history blocks k g w v own h back other)
