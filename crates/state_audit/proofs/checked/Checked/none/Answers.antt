use Rattle.std.proofs.Common.{refl, ap, List, []}
use Rattle.text_model.specs.Id.{Id, has_id}
use Rattle.state_audit.proofs.checked.Checked.none.Goals as goal

pub returns : goal.returns
returns c = record {
  changesets = refl;
  nodes = λ node. ap (λ (ids : List Id). has_id ids node) c.new.ensures;
  referred = record { held = tt; refers = c.in_ok-of.ensures [] tt };
}
