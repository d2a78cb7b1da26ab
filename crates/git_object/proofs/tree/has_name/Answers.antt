use Rattle.std.proofs.Common.{◌&&◌, Bool, sym, ap, ◌∙◌}
use Rattle.std.specs.List.{list_any}
use Rattle.git_model.specs.Tree.{is_file_named}
use Rattle.git_model.proofs.TreeOrderLemmas.{name_again}
use Rattle.git_object.specs.Values.{raw_entry}
use Rattle.git_object.proofs.tree.has_name.Goals as goal

pub returns-then-is_directory_text : goal.returns-then-is_directory_text
returns-then-is_directory_text c =
    let entry = raw_entry c.args.entry.now in
    let again = name_again entry c.args.entries.now c.requires.rising c.requires.above in
    c.has_file.ensures ∙ sym (again ∙ ap (λ (d : Bool). d && list_any (is_file_named entry.name) c.args.entries.now) (sym c.if-is_directory_text.ensures))

pub returns-else-is_directory_text : goal.returns-else-is_directory_text
returns-else-is_directory_text c =
    let entry = raw_entry c.args.entry.now in
    let again = name_again entry c.args.entries.now c.requires.rising c.requires.above in
    c.if-is_directory_text.false ∙ sym (again ∙ ap (λ (d : Bool). d && list_any (is_file_named entry.name) c.args.entries.now) (sym c.if-is_directory_text.ensures))
