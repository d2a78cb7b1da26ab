use Rattle.std.proofs.Common.{sym, ap, subst, ◌∙◌}
use Rattle.text_model.specs.Text.{Bytes}
use Rattle.hg_model.specs.FileText.{IsFileText}
use Rattle.hg_model.specs.Revision.{FilesAt, revision_of}
use Rattle.pair_known.specs.Rows.{RowValue}
use Rattle.pair_known.specs.Fresh.{fresh_revision}
use Rattle.commit_rule.proofs.BlobLemmas.{brought-text}
use Rattle.commit_mark.proofs.Revisions.{meta_in, brought-parts, stored-row}
use Rattle.commit_mark.proofs.file_parts.parts_of.Goals as goal

pub parts_with-requires : goal.parts_with-requires
parts_with-requires c =
    let fresh = c.args.fresh.now in
    let known = c.args.store.now in
    let row = c.args.row.now in
    let w = c.requires.held.0 in
    let rev = w.revision in
    let at = c.in-Some.ensures ∙ ap (λ (p : Bytes). revision_of fresh (FilesAt p) c.row.inside.node) c.as_slice.ensures ∙ ap (λ (v : RowValue). revision_of fresh (FilesAt v.path) v.node) c.row.view_is in
    let spells = brought-text fresh known row w c.requires.held.1 (fresh_revision c.in-Some.file.now) at in
    record { spells = (rev.meta, rev.body, subst (λ (x : Bytes). IsFileText x rev.meta rev.body) (sym c.as_slice-in-Some.ensures) spells) }

pub returns-in-Some : goal.returns-in-Some
returns-in-Some c = λ w is.
    let fresh = c.args.fresh.now in
    let known = c.args.store.now in
    let row = c.args.row.now in
    let at = c.in-Some.ensures ∙ ap (λ (p : Bytes). revision_of fresh (FilesAt p) c.row.inside.node) c.as_slice.ensures ∙ ap (λ (v : RowValue). revision_of fresh (FilesAt v.path) v.node) c.row.view_is in
    let parts = c.parts_with.result in
    let spells = subst (λ (x : Bytes). IsFileText x (meta_in parts) (parts.body).now) c.as_slice-in-Some.ensures c.parts_with.ensures.spells in
    brought-parts fresh known row w is (fresh_revision c.in-Some.file.now) at parts spells c.parts_with.ensures.order

pub stored_parts-requires : goal.stored_parts-requires
stored_parts-requires c =
    let fresh = c.args.fresh.now in
    let known = c.args.store.now in
    let row = c.args.row.now in
    let none = c.in-None.ensures ∙ ap (λ (p : Bytes). revision_of fresh (FilesAt p) c.row.inside.node) c.as_slice.ensures ∙ ap (λ (v : RowValue). revision_of fresh (FilesAt v.path) v.node) c.row.view_is in
    record { held = (c.requires.held.0, stored-row fresh known row c.requires.held.0 c.requires.held.1 none) }

pub returns-in-None : goal.returns-in-None
returns-in-None c = λ w is.
    let fresh = c.args.fresh.now in
    let known = c.args.store.now in
    let row = c.args.row.now in
    let none = c.in-None.ensures ∙ ap (λ (p : Bytes). revision_of fresh (FilesAt p) c.row.inside.node) c.as_slice.ensures ∙ ap (λ (v : RowValue). revision_of fresh (FilesAt v.path) v.node) c.row.view_is in
    c.stored_parts.ensures w (stored-row fresh known row w is none)
