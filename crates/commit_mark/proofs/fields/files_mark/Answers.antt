use Rattle.std.proofs.Common.{Bool, List, [], ◌∷◌, sym, ap, ◌∙◌}
use Rattle.std.specs.Prelude.{if◌then◌else◌, option_map}
use Rattle.text_model.specs.Text.{Bytes}
use Rattle.pair_model.specs.MarkList.{Files}
use Rattle.hg_changeset.specs.Values.{changeset_value}
use Rattle.commit_mark.proofs.FieldMarks.{listed-by, files-mark}
use Rattle.commit_mark.proofs.fields.files_mark.Goals as goal

pub returns-then-are_same_paths : goal.returns-then-are_same_paths
returns-then-are_same_paths c = λ ps v over.
    let o = c.args.over.now in
    let h = c.args.h.now in
    let right = c.in_ok-files.ensures ps v.rows (listed-by o h ps v over (option_map (λ m. m.now) c.entries.result) (option_map (λ m. m.now) c.entries-2.result) c.entries.ensures c.entries-2.ensures) in
    ap (λ (b : Bool). if b then [] else Files (changeset_value h.changeset).files ∷ []) (sym c.if-are_same_paths.true) ∙ files-mark o h ps v over c.are_same_paths.result c.in_ok-files.files right c.are_same_paths.ensures

pub returns : goal.returns
returns c = λ ps v over.
    let o = c.args.over.now in
    let h = c.args.h.now in
    let right = c.in_ok-files.ensures ps v.rows (listed-by o h ps v over (option_map (λ m. m.now) c.entries.result) (option_map (λ m. m.now) c.entries-2.result) c.entries.ensures c.entries-2.ensures) in
    ap (λ (fs : List Bytes). Files fs ∷ []) c.in_ok-copy.ensures ∙ ap (λ (b : Bool). if b then [] else Files (changeset_value h.changeset).files ∷ []) (sym c.if-are_same_paths.false)
    ∙ files-mark o h ps v over c.are_same_paths.result c.in_ok-files.files right c.are_same_paths.ensures
