use Rattle.std.proofs.Common.{◌≡◌, ◌≤◌, true, ◌∷◌, [], length, sym, ap, subst, ◌∙◌}
use Rattle.std.proofs.lemmas.Result.{on_ok_weaker}
use Rattle.text_model.specs.Text.{Bytes}
use Rattle.hg_model.specs.Revision.{Revision, FilesAt, revision_of}
use Rattle.hg_store.specs.Known.{HasBlob, text_limit}
use Rattle.pair_known.specs.Rows.{RowValue}
use Rattle.pair_state.specs.Came.{is_bad, IsReady, HaveCome}
use Rattle.pair_state.proofs.FileLemmas.{file-ready, file-blob, fresh-whole, file-known}
use Rattle.pair_state.proofs.files.add_file.Goals as goal

pub returns-in-None-clause-ok : goal.returns-in-None-clause-ok
returns-in-None-clause-ok c = λ x a.
    let v = c.args.row.now in
    let path = c.as_slice-path.ensures ∙ ap (λ (w : RowValue). w.path) c.row.view_is in
    let node = ap (λ (w : RowValue). w.node) c.row.view_is in
    file-known c.args.hg.now c.args.fresh.now v c.args.link x a (sym (c.in-None.ensures ∙ (λ i. revision_of c.args.fresh.now (FilesAt (path i)) (node i))))

pub add_revision-requires-clause-ready : goal.add_revision-requires-clause-ready
add_revision-requires-clause-ready c =
    let v = c.args.row.now in
    let path = c.as_slice-path.ensures ∙ ap (λ (w : RowValue). w.path) c.row.view_is in
    let node = ap (λ (w : RowValue). w.node) c.row.view_is in
    let at = c.in-Some.ensures ∙ (λ i. revision_of c.args.fresh.now (FilesAt (path i)) (node i)) in
    subst (IsReady c.args.hg.now) (sym (fresh-whole c.args.hg.now c.args.fresh.now v c.args.link c.requires.asked.0 c.requires.asked.1 c.in-Some.file.now at c.as_slice-path.result.now c.in_ok-text.text c.row.inside.node c.parents_of-p.result path node c.parents_of-p.ensures c.in_ok-text.ensures)) (file-ready c.args.hg.now c.args.fresh.now v c.args.link c.requires.asked.0 c.requires.asked.1)

pub add_revision-requires-clause-its_blob : goal.add_revision-requires-clause-its_blob
add_revision-requires-clause-its_blob c =
    let v = c.args.row.now in
    let path = c.as_slice-path.ensures ∙ ap (λ (w : RowValue). w.path) c.row.view_is in
    let node = ap (λ (w : RowValue). w.node) c.row.view_is in
    let at = c.in-Some.ensures ∙ (λ i. revision_of c.args.fresh.now (FilesAt (path i)) (node i)) in
    let whole = fresh-whole c.args.hg.now c.args.fresh.now v c.args.link c.requires.asked.0 c.requires.asked.1 c.in-Some.file.now at c.as_slice-path.result.now c.in_ok-text.text c.row.inside.node c.parents_of-p.result path node c.parents_of-p.ensures c.in_ok-text.ensures in
    subst (λ b. HasBlob c.in_ok-text.text b) (sym (ap (λ (w : RowValue). w.blob) c.row.view_is))
    (subst (λ (t : Bytes). HasBlob t v.blob) (sym (ap (λ (r : Revision). r.text) whole)) (file-blob c.args.hg.now c.args.fresh.now v c.args.link c.requires.asked.0 c.requires.asked.1))

pub add_revision-requires-clause-short : goal.add_revision-requires-clause-short
add_revision-requires-clause-short c =
    let v = c.args.row.now in
    let path = c.as_slice-path.ensures ∙ ap (λ (w : RowValue). w.path) c.row.view_is in
    let node = ap (λ (w : RowValue). w.node) c.row.view_is in
    let at = c.in-Some.ensures ∙ (λ i. revision_of c.args.fresh.now (FilesAt (path i)) (node i)) in
    let whole = fresh-whole c.args.hg.now c.args.fresh.now v c.args.link c.requires.asked.0 c.requires.asked.1 c.in-Some.file.now at c.as_slice-path.result.now c.in_ok-text.text c.row.inside.node c.parents_of-p.result path node c.parents_of-p.ensures c.in_ok-text.ensures in
    subst (λ (t : Bytes). length t ≤ text_limit) (sym (ap (λ (r : Revision). r.text) whole)) c.requires.asked.1.short

pub returns-clause-ok : goal.returns-clause-ok
returns-clause-ok c =
    on_ok_weaker c.add_revision.result (λ come x a.
    let v = c.args.row.now in
    let path = c.as_slice-path.ensures ∙ ap (λ (w : RowValue). w.path) c.row.view_is in
    let node = ap (λ (w : RowValue). w.node) c.row.view_is in
    let at = c.in-Some.ensures ∙ (λ i. revision_of c.args.fresh.now (FilesAt (path i)) (node i)) in
    subst (λ (r : Revision). HaveCome c.args.hg.now c.add_revision.new.hg (r ∷ [])) (fresh-whole c.args.hg.now c.args.fresh.now v c.args.link x a c.in-Some.file.now at c.as_slice-path.result.now c.in_ok-text.text c.row.inside.node c.parents_of-p.result path node c.parents_of-p.ensures c.in_ok-text.ensures) come) c.add_revision.ensures.ok

pub returns-clause-collision : goal.returns-clause-collision
returns-clause-collision c = λ is x a.
    let v = c.args.row.now in
    let path = c.as_slice-path.ensures ∙ ap (λ (w : RowValue). w.path) c.row.view_is in
    let node = ap (λ (w : RowValue). w.node) c.row.view_is in
    let at = c.in-Some.ensures ∙ (λ i. revision_of c.args.fresh.now (FilesAt (path i)) (node i)) in
    subst (λ (r : Revision). is_bad c.args.hg.now r ≡ true) (fresh-whole c.args.hg.now c.args.fresh.now v c.args.link x a c.in-Some.file.now at c.as_slice-path.result.now c.in_ok-text.text c.row.inside.node c.parents_of-p.result path node c.parents_of-p.ensures c.in_ok-text.ensures) (c.add_revision.ensures.collision is)
