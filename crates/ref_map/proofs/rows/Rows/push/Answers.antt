use Rattle.std.proofs.Common.{List, [], ◌∷◌, ◌++◌, map, ap, ◌∙◌}
use Rattle.state_model.specs.Kept.{NameRow}
use Rattle.indexmap.proofs.CallerLemmas.{insert_entry-new}
use Rattle.ref_map.specs.Entries.{entry_row}
use Rattle.ref_map.proofs.EntryLemmas.{absent, pushed}
use Rattle.ref_map.proofs.rows.Rows.push.Goals as goal

pub returns-clause-ok : goal.returns-clause-ok
returns-clause-ok c =
    let es = c.self.inside.ids.entries in
    let none = absent c.args.row.name.items es c.args.self.now c.self.view_is c.requires in
    ap (map entry_row) (c.in_ok-insert.ensures.entries ∙ insert_entry-new _ c.self.inside.ids c.args.row.name c.args.row.id none)
    ∙ pushed es (c.args.row.name, c.args.row.id)
    ∙ ap (λ (l : List NameRow). l ++ entry_row (c.args.row.name, c.args.row.id) ∷ []) c.self.view_is
