use Rattle.std.proofs.Common.{true≢false, sym, ap, subst, ◌∙◌}
use Rattle.std.specs.Prelude.{is_some}
use Rattle.text_model.specs.Text.{Bytes}
use Rattle.text_model.proofs.Options.{none_some}
use Rattle.hg_model.specs.Revision.{FilesAt, knows}
use Rattle.hg_store.specs.Known.{text_of, AreFileParents}
use Rattle.pair_known.specs.Rows.{RowValue}
use Rattle.commit_mark.proofs.Revisions.{held-at, held-text, text-spells, stored-parts}
use Rattle.commit_mark.proofs.file_parts.stored_parts.Goals as goal

pub unreachable-requires : goal.unreachable-requires
unreachable-requires c =
    let known = c.args.store.now in
    let row = c.args.row.now in
    let none = sym c.in_default.ensures.value ∙ ap (λ (p : Bytes). knows known (FilesAt p) c.row.inside.node) c.as_slice-path.ensures ∙ ap (λ (v : RowValue). knows known (FilesAt v.path) v.node) c.row.view_is in
    true≢false (sym (ap is_some (held-at known row c.requires.held.0 c.requires.held.1)) ∙ sym none)

pub unreachable-requires-in-None : goal.unreachable-requires-in-None
unreachable-requires-in-None c =
    let known = c.args.store.now in
    let row = c.args.row.now in
    let at = c.in-None.ensures.value ∙ ap (λ (p : Bytes). text_of known (FilesAt p) c.row.inside.node) c.as_slice-path.ensures ∙ ap (λ (v : RowValue). text_of known (FilesAt v.path) v.node) c.row.view_is in
    none_some (at ∙ held-text known row c.requires.held.0 c.requires.held.1)

pub split_text-requires : goal.split_text-requires
split_text-requires c =
    let known = c.args.store.now in
    let row = c.args.row.now in
    let at = c.in-Some-file_text.ensures.value ∙ ap (λ (p : Bytes). text_of known (FilesAt p) c.row.inside.node) c.as_slice-path.ensures ∙ ap (λ (v : RowValue). text_of known (FilesAt v.path) v.node) c.row.view_is in
    let w = c.requires.held.0 in
    record { spells = ((w.revision).meta, (w.revision).body, text-spells known row w c.requires.held.1 c.in-Some-file_text.text.now at) }

pub returns : goal.returns
returns c = λ w is.
    let known = c.args.store.now in
    let row = c.args.row.now in
    let at = c.in-Some-file_text.ensures.value ∙ ap (λ (p : Bytes). text_of known (FilesAt p) c.row.inside.node) c.as_slice-path.ensures ∙ ap (λ (v : RowValue). text_of known (FilesAt v.path) v.node) c.row.view_is in
    let pq = c.in-Some.parents in
    let found = subst (λ (v : RowValue). AreFileParents known v.path v.node pq) c.row.view_is (subst (λ (x : Bytes). AreFileParents known x c.row.inside.node pq) c.as_slice-path.ensures c.in-Some.ensures.value) in
    let meta = c.split_text.result.0 in
    let body = c.split_text.result.1 in
    stored-parts known row w is c.in-Some-file_text.text.now (record { p = pq.0; q = pq.1; meta = meta; body = body }) found at c.split_text.ensures
