use Rattle.std.proofs.Common.{List, ap, ◌∙◌}
use Rattle.state_model.specs.Kept.{NameRow}
use Rattle.ref_map.specs.Rows.{has_name}
use Rattle.ref_map.proofs.EntryLemmas.{found}
use Rattle.ref_map.proofs.rows.Rows.has.Goals as goal

pub returns : goal.returns
returns c = c.contains_key.ensures ∙ found c.args.name.now c.self.inside.ids.entries ∙ ap (λ (l : List NameRow). has_name l c.args.name.now) c.self.view_is
