use Rattle.std.proofs.Common.{ap, sym, subst, ◌∙◌, refl}
use Rattle.std.proofs.lemmas.Result.{err_from_is_err_and}
use Rattle.text_model.specs.Lists.{Each}
use Rattle.hg_model.specs.Revision.{Changesets, revision_of}
use Rattle.pair_known.specs.Drafts.{IsRowKnown}
use Rattle.commit_rule.specs.Parts.{HasStoredBlob}
use Rattle.pull_bundle.proofs.TakeLemmas.{held-there, view-fault, choice-fault, choice-named, late-fault, chosen-here, pair-here, inside-it, link-none}
use Rattle.pull_bundle.proofs.take.pair_for.Goals as goal

pub draft_of-requires : goal.draft_of-requires
draft_of-requires g c =
    let x = c.requires.new in
    record { near = subst (Each (IsRowKnown ((c.args.taking.now).state).known.hg)) (sym c.as_slice-near.ensures) x.3.taking.near; known = (x.3.found, ap (revision_of ((c.args.taking.now).state).known.hg Changesets) (sym x.2) ∙ x.3.is_held) }

pub returns-in_err-draft-clause-refused : goal.returns-in_err-draft-clause-refused
returns-in_err-draft-clause-refused g c =
    let p = err_from_is_err_and c.from_residual.result c.from_residual.ensures.1 in
    rw (p.1, p.2) (view-fault c.args.taking.now c.args.node.now c.in_err-draft.field-0.0 c.in_err-draft.ensures.refused)

pub returns-in_err-draft-clause-names : goal.returns-in_err-draft-clause-names
returns-in_err-draft-clause-names g c =
    let p = err_from_is_err_and c.from_residual.result c.from_residual.ensures.1 in
    rw (p.1, p.2) c.in_err-draft.ensures.names

pub pair_of_changeset-requires : goal.pair_of_changeset-requires
pair_of_changeset-requires g c =
    let x = c.requires.new in
    let v = held-there c.args.taking.now c.args.node.now x.0 x.1 x.2 x.3 c.in_ok-draft.ensures.view in
    record {
      asked = (
        x.0,
        v.0,
        inside-it c.args.taking.now c.args.node.now x.0 x.1 x.2 x.3 v.0 v.1 c.in_ok-draft.draft (c.in_ok-draft.ensures.draft v.0 v.1),
        link-none c.args.taking.now c.args.node.now x.0 x.1 x.2 x.3 v.0 v.1,
      );
      near = subst (Each (HasStoredBlob ((c.args.taking.now).state).known.git)) (sym c.as_slice-near.ensures) x.3.taking.stored;
    }

pub returns-in_err-commit-clause-refused : goal.returns-in_err-commit-clause-refused
returns-in_err-commit-clause-refused g c =
    let p = err_from_is_err_and c.from_residual-in_err-commit.result c.from_residual-in_err-commit.ensures.1 in
    let x = c.requires.new in
    let v = held-there c.args.taking.now c.args.node.now x.0 x.1 x.2 x.3 c.in_ok-draft.ensures.view in
    rw p.1 (choice-fault c.args.taking.now c.args.node.now v.0 v.1 c.in_ok-draft.draft (c.in_ok-draft.ensures.draft v.0 v.1) c.in_err-commit.field-0.0 c.in_err-commit.ensures.refused p.0 p.2)

pub returns-in_err-commit-clause-names : goal.returns-in_err-commit-clause-names
returns-in_err-commit-clause-names g c =
    let p = err_from_is_err_and c.from_residual-in_err-commit.result c.from_residual-in_err-commit.ensures.1 in
    rw p.1 (choice-named c.in_err-commit.field-0.0 p.0 p.2)

pub check_parents-requires : goal.check_parents-requires
check_parents-requires g c =
    let x = c.requires.new in
    record { held = held-there c.args.taking.now c.args.node.now x.0 x.1 x.2 x.3 c.in_ok-draft.ensures.view; taking = (x.0, x.3.taking) }

pub returns-in_err-check_parents-clause-refused : goal.returns-in_err-check_parents-clause-refused
returns-in_err-check_parents-clause-refused g c =
    let p = err_from_is_err_and c.from_residual-in_err-check_parents.result c.from_residual-in_err-check_parents.ensures.1 in
    let x = c.requires.new in
    let v = held-there c.args.taking.now c.args.node.now x.0 x.1 x.2 x.3 c.in_ok-draft.ensures.view in
    rw (p.1, p.2) (late-fault c.args.taking.now c.args.node.now v.0 v.1 c.in_ok-draft.draft (c.in_ok-draft.ensures.draft v.0 v.1) c.in_ok-commit.commit c.in_ok-commit.ensures.ok c.in_err-check_parents.field-0.0 c.in_err-check_parents.ensures.refused)

pub returns-in_err-check_parents-clause-names : goal.returns-in_err-check_parents-clause-names
returns-in_err-check_parents-clause-names g c =
    let p = err_from_is_err_and c.from_residual-in_err-check_parents.result c.from_residual-in_err-check_parents.ensures.1 in
    rw (p.1, p.2) c.in_err-check_parents.ensures.names

pub links_for-requires : goal.links_for-requires
links_for-requires g c =
    let x = c.requires.new in
    let v = held-there c.args.taking.now c.args.node.now x.0 x.1 x.2 x.3 c.in_ok-draft.ensures.view in
    let q = chosen-here c.args.taking.now c.args.node.now v.0 v.1 c.in_ok-draft.draft (c.in_ok-draft.ensures.draft v.0 v.1) c.in_ok-commit.commit c.in_ok-commit.ensures.ok x.0 x.1 x.2 x.3 in
    record { chosen = (x.0, v.0, q.0, q.1) }

pub returns-in_err-links-clause-refused : goal.returns-in_err-links-clause-refused
returns-in_err-links-clause-refused g c = let e = err_from_is_err_and c.from_residual-in_err-links.result c.from_residual-in_err-links.ensures.1 in rw (e.1, e.2) tt

pub returns-in_err-links-clause-names : goal.returns-in_err-links-clause-names
returns-in_err-links-clause-names g c = let e = err_from_is_err_and c.from_residual-in_err-links.result c.from_residual-in_err-links.ensures.1 in rw (e.1, e.2) tt

pub returns-clause-ok : goal.returns-clause-ok
returns-clause-ok g c =
    let x = c.requires.new in
    let v = held-there c.args.taking.now c.args.node.now x.0 x.1 x.2 x.3 c.in_ok-draft.ensures.view in
    pair-here c.args.taking.now c.args.node.now v.0 v.1 c.in_ok-draft.draft (c.in_ok-draft.ensures.draft v.0 v.1) c.in_ok-commit.commit c.in_ok-commit.ensures.ok
    (record { draft = c.in_ok-draft.draft; commit = c.in_ok-commit.commit; links = c.in_ok-links.links }) refl refl c.in_ok-draft.ensures.rows c.in_ok-check_parents.ensures.files c.in_ok-check_parents.ensures.manifest c.in_ok-links.ensures
