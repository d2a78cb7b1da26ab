use Rattle.std.proofs.Common.{ap, ◌∙◌}
use Rattle.text_model.specs.Text.{Bytes}
use Rattle.text_model.proofs.Options.{none_some}
use Rattle.hg_model.specs.Revision.{FilesAt, revision_of}
use Rattle.hg_store.specs.Known.{text_of}
use Rattle.pair_known.specs.Rows.{RowValue}
use Rattle.pair_known.specs.Fresh.{fresh_revision}
use Rattle.commit_rule.proofs.BlobLemmas.{brought-text, stored-there, stored-text}
use Rattle.commit_rule.proofs.fresh.text_of.Goals as goal

pub unreachable-requires : goal.unreachable-requires
unreachable-requires c =
    let fresh = c.args.h.now.fresh in
    let known = c.args.known.now.hg in
    let row = c.args.row.now in
    let none = c.in-None.ensures ∙ ap (λ (p : Bytes). revision_of fresh (FilesAt p) c.row.inside.node) c.as_slice-path.ensures ∙ ap (λ (v : RowValue). revision_of fresh (FilesAt v.path) v.node) c.row.view_is in
    let at = c.in-None-shared_text.ensures.value ∙ ap (λ (p : Bytes). text_of known (FilesAt p) c.row.inside.node) c.as_slice-path.ensures ∙ ap (λ (v : RowValue). text_of known (FilesAt v.path) v.node) c.row.view_is in
    none_some (at ∙ stored-there fresh known row c.requires.held.0 c.requires.held.1 none)

pub returns-in-Some : goal.returns-in-Some
returns-in-Some c = λ r is.
    let fresh = c.args.h.now.fresh in
    let known = c.args.known.now.hg in
    let row = c.args.row.now in
    let at = c.in-Some.ensures ∙ ap (λ (p : Bytes). revision_of fresh (FilesAt p) c.row.inside.node) c.as_slice-path.ensures ∙ ap (λ (v : RowValue). revision_of fresh (FilesAt v.path) v.node) c.row.view_is in
    brought-text fresh known row r is (fresh_revision c.in-Some.file.now) at

pub returns-in-Some-shared_text : goal.returns-in-Some-shared_text
returns-in-Some-shared_text c = λ r is.
    let fresh = c.args.h.now.fresh in
    let known = c.args.known.now.hg in
    let row = c.args.row.now in
    let none = c.in-None.ensures ∙ ap (λ (p : Bytes). revision_of fresh (FilesAt p) c.row.inside.node) c.as_slice-path.ensures ∙ ap (λ (v : RowValue). revision_of fresh (FilesAt v.path) v.node) c.row.view_is in
    let at = c.in-Some-shared_text.ensures.value ∙ ap (λ (p : Bytes). text_of known (FilesAt p) c.row.inside.node) c.as_slice-path.ensures ∙ ap (λ (v : RowValue). text_of known (FilesAt v.path) v.node) c.row.view_is in
    stored-text fresh known row r is c.in-Some-shared_text.text.now none at
