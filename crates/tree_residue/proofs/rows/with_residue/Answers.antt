use Rattle.std.proofs.Common.{◌≡◌, ◌∙◌, ◌++◌, map, length, sym, ap, subst, List}
use Rattle.std.specs.Prelude.{◌==◌}
use Rattle.std.specs.List.{filter_map}
use Rattle.git_model.specs.Unfold.{FileRow, by_paths}
use Rattle.git_model.specs.Residue.{ResidueItem, file_with, row_of_item, rows_with}
use Rattle.tree_shape.specs.Sets.{IsFiles}
use Rattle.git_model.proofs.SortLemmas.{rises-ascends}
use Rattle.git_model.proofs.ResidueLemmas.{path_of}
use Rattle.tree_residue.proofs.RowsOf.{rows-are, rows-distinct, empty-is, none-with}
use Rattle.tree_residue.proofs.rows.with_residue.Goals as goal

pub by_paths-requires : goal.by_paths-requires
by_paths-requires c =
    let items = c.args.items.now in
    let all : c.put_items.new.rows.items ≡ map (file_with items) c.args.files ++ filter_map row_of_item items =
    c.in_ok-put_items.ensures
    ∙ ap (λ (r : List FileRow). r ++ filter_map row_of_item c.as_slice-items.result.now) (c.in_ok-put_files.ensures ∙ (λ k. c.in_ok-rows.ensures.items k ++ map (file_with c.as_slice-items.result.now) (c.into_rows.ensures k)))
    ∙ ap (λ (i : List ResidueItem). map (file_with i) c.args.files ++ filter_map row_of_item i) c.as_slice-items.ensures.items in
    record { paths = rows-distinct items c.args.files c.put_items.new.rows.items all c.requires }

pub keep-requires : goal.keep-requires
keep-requires c =
    let items = c.args.items.now in
    let all : c.put_items.new.rows.items ≡ map (file_with items) c.args.files ++ filter_map row_of_item items =
    c.in_ok-put_items.ensures
    ∙ ap (λ (r : List FileRow). r ++ filter_map row_of_item c.as_slice-items.result.now) (c.in_ok-put_files.ensures ∙ (λ k. c.in_ok-rows.ensures.items k ++ map (file_with c.as_slice-items.result.now) (c.into_rows.ensures k)))
    ∙ ap (λ (i : List ResidueItem). map (file_with i) c.args.files ++ filter_map row_of_item i) c.as_slice-items.ensures.items in
    subst IsFiles (rows-are items c.args.files ∙ ap by_paths (sym all) ∙ sym c.in_ok-sorted.ensures) c.requires

pub returns-then-is_empty : goal.returns-then-is_empty
returns-then-is_empty c =
    let files = c.args.files in
    let none = empty-is c.args.items.now (ap (λ (i : List ResidueItem). length i == 0) (sym c.as_slice-items.ensures.items) ∙ sym c.is_empty.ensures ∙ c.if-is_empty.true) in
    sym (ap (λ (i : List ResidueItem). rows_with i files) none ∙ none-with files (rises-ascends path_of files c.as_slice-count.ensures.files.in_order))

pub returns : goal.returns
returns c =
    let items = c.args.items.now in
    let all : c.put_items.new.rows.items ≡ map (file_with items) c.args.files ++ filter_map row_of_item items =
    c.in_ok-put_items.ensures
    ∙ ap (λ (r : List FileRow). r ++ filter_map row_of_item c.as_slice-items.result.now) (c.in_ok-put_files.ensures ∙ (λ k. c.in_ok-rows.ensures.items k ++ map (file_with c.as_slice-items.result.now) (c.into_rows.ensures k)))
    ∙ ap (λ (i : List ResidueItem). map (file_with i) c.args.files ++ filter_map row_of_item i) c.as_slice-items.ensures.items in
    c.keep.ensures ∙ c.in_ok-sorted.ensures ∙ ap by_paths all ∙ sym (rows-are items c.args.files)
