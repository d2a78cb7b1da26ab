use Rattle.std.proofs.Common.{rules, ℕ, map, ap, ◌∙◌}
use Rattle.std.specs.Global.{Vec}
use Rattle.std.proofs.lemmas.Cmp.{nat_list_cmp_total}
use Rattle.std.proofs.lemmas.List.Sorted.{ranks_by, answers_always}
use Rattle.text_model.specs.Lists.{in_order}
use Rattle.text_model.specs.Id.{Id}
use Rattle.state_part.proofs.SortLemmas.{sorted_is}
use Rattle.state_model.specs.Names.{is_name_below}
use Rattle.ref_map.specs.Entries.{entry_row}
use Rattle.ref_map.proofs.EntryLemmas.{is_entry_below, ordered}
use Rattle.ref_map.proofs.rows.Rows.sort.Goals as goal

pub returns : goal.returns
returns c =
    let order = ranks_by nat_list_cmp_total (λ (e : Vec ℕ × Id). (e.0).items) in
    let es = c.self.inside.ids.entries in
    record {
      ok = ap (map entry_row) (sorted_is is_entry_below order es c.sort_by.new.self.entries
          (c.in_ok-sort_by.ensures.sorted is_entry_below order (answers_always _ _ _ (λ f a r g q. search rules)))
          (c.in_ok-sort_by.ensures.stable is_entry_below order (answers_always _ _ _ (λ f a r g q. search rules))))
          ∙ ordered es
          ∙ ap (in_order is_name_below) c.self.view_is;
    }
