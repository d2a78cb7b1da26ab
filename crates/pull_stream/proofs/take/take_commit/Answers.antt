use Rattle.std.proofs.Common.{Err, ap, sym, subst, ◌∙◌}
use Rattle.std.proofs.lemmas.Result.{err_from_is_err_and}
use Rattle.text_model.specs.Lists.{Each}
use Rattle.partner_model.specs.Given.{block_with}
use Rattle.pair_known.specs.Drafts.{IsRowKnown}
use Rattle.pull_stream.proofs.Drafts.{tree-refused, draft-is}
use Rattle.pull_stream.proofs.Names.{tree-named, choice-named, push-named}
use Rattle.pull_stream.proofs.Rows.{last-rows}
use Rattle.pull_stream.proofs.Takes.{choice-refused, late-due, pushes, push-refused, taken}
use Rattle.pull_stream.proofs.take.take_commit.Goals as goal

pub pair_of_commit-requires : goal.pair_of_commit-requires
pair_of_commit-requires g c =
    let s = (c.args.taking).state in
    let id = c.args.id.now in
    let r = c.in_ok-draft in
    let blocks = c.requires.commit.0 in
    let takes = c.requires.commit.1 in
    let d = draft-is s id blocks (r.draft).commit r.ensures.fields r.ensures.walks r.draft takes r.ensures.draft in
    record { over = (blocks, d.0, d.1.over); near = subst (Each (IsRowKnown s.known.hg)) (sym c.as_slice-2.ensures) c.requires.near }

pub push_changeset-requires : goal.push_changeset-requires
push_changeset-requires g c =
    let s = (c.args.taking).state in
    let id = c.args.id.now in
    let r = c.in_ok-draft in
    let blocks = c.requires.commit.0 in
    let takes = c.requires.commit.1 in
    let d = draft-is s id blocks (r.draft).commit r.ensures.fields r.ensures.walks r.draft takes r.ensures.draft in
    let b = c.in_ok-block.ensures.ok blocks d.0 d.1.over in
    let k = c.in_ok-check_parents.ensures in
    let files = k.files b.0 takes.state.state.held.added b.1.made in
    let manifest = k.manifest b.0 takes.state.state.held.added b.1.made in
    record { block = (blocks, block_with blocks b.0 d.0, pushes s id blocks r.draft d.0 d.1 takes c.in_ok-block.block b.0 b.1 files manifest) }

pub returns-in_err-draft-clause-refused : goal.returns-in_err-draft-clause-refused
returns-in_err-draft-clause-refused g c =
    let p = err_from_is_err_and c.from_residual.result c.from_residual.ensures.1 in
    rw (p.1, p.2) (λ blocks takes. tree-refused (c.args.taking).state c.args.id.now blocks c.in_err-draft.field-0.0 c.in_err-draft.ensures.read c.in_err-draft.ensures.fault)

pub returns-in_err-draft-clause-names : goal.returns-in_err-draft-clause-names
returns-in_err-draft-clause-names g c =
    let p = err_from_is_err_and c.from_residual.result c.from_residual.ensures.1 in
    rw (p.1, p.2) (tree-named c.in_err-draft.field-0.0)

pub returns-in_err-block-clause-refused : goal.returns-in_err-block-clause-refused
returns-in_err-block-clause-refused g c =
    let p = err_from_is_err_and c.from_residual-in_err-block.result c.from_residual-in_err-block.ensures.1 in
    let s = (c.args.taking).state in
    let id = c.args.id.now in
    let r = c.in_ok-draft in
    rw (p.1, p.2) (λ blocks takes.
    let d = draft-is s id blocks (r.draft).commit r.ensures.fields r.ensures.walks r.draft takes r.ensures.draft in
    choice-refused s id blocks r.draft d.0 d.1 c.in_err-block.field-0.0 (c.in_err-block.ensures.refused blocks d.0 d.1.over))

pub returns-in_err-block-clause-names : goal.returns-in_err-block-clause-names
returns-in_err-block-clause-names g c =
    let p = err_from_is_err_and c.from_residual-in_err-block.result c.from_residual-in_err-block.ensures.1 in
    let s = (c.args.taking).state in
    let id = c.args.id.now in
    let r = c.in_ok-draft in
    let blocks = c.requires.commit.0 in
    let takes = c.requires.commit.1 in
    let d = draft-is s id blocks (r.draft).commit r.ensures.fields r.ensures.walks r.draft takes r.ensures.draft in
    rw (p.1, p.2) (choice-named s.known blocks d.0 c.in_err-block.field-0.0 (c.in_err-block.ensures.refused blocks d.0 d.1.over))

pub returns-in_err-check_parents-clause-refused : goal.returns-in_err-check_parents-clause-refused
returns-in_err-check_parents-clause-refused g c =
    let p = err_from_is_err_and c.from_residual-in_err-check_parents.result c.from_residual-in_err-check_parents.ensures.1 in
    let s = (c.args.taking).state in
    let id = c.args.id.now in
    let r = c.in_ok-draft in
    rw (p.1, p.2) (λ blocks takes.
    let d = draft-is s id blocks (r.draft).commit r.ensures.fields r.ensures.walks r.draft takes r.ensures.draft in
    let b = c.in_ok-block.ensures.ok blocks d.0 d.1.over in
    late-due s id blocks r.draft d.0 d.1 takes c.in_ok-block.block b.0 b.1 c.in_err-check_parents.field-0.0 (c.in_err-check_parents.ensures.refused b.0 takes.state.state.held.added b.1.made))

pub returns-in_err-check_parents-clause-ok : goal.returns-in_err-check_parents-clause-ok
returns-in_err-check_parents-clause-ok g c =
    let p = err_from_is_err_and c.from_residual-in_err-check_parents.result c.from_residual-in_err-check_parents.ensures.1 in
    rw p.1 tt

pub returns-in_err-check_parents-clause-names : goal.returns-in_err-check_parents-clause-names
returns-in_err-check_parents-clause-names g c =
    let p = err_from_is_err_and c.from_residual-in_err-check_parents.result c.from_residual-in_err-check_parents.ensures.1 in
    rw (p.1, p.2) c.in_err-check_parents.ensures.names

pub returns-in_err-state-clause-refused : goal.returns-in_err-state-clause-refused
returns-in_err-state-clause-refused g c =
    let p = err_from_is_err_and c.from_residual-in_err-state.result c.from_residual-in_err-state.ensures.1 in
    let s = (c.args.taking).state in
    let id = c.args.id.now in
    let r = c.in_ok-draft in
    rw (p.1, p.2) (λ blocks takes.
    let d = draft-is s id blocks (r.draft).commit r.ensures.fields r.ensures.walks r.draft takes r.ensures.draft in
    let b = c.in_ok-block.ensures.ok blocks d.0 d.1.over in
    let k = c.in_ok-check_parents.ensures in
    let files = k.files b.0 takes.state.state.held.added b.1.made in
    let manifest = k.manifest b.0 takes.state.state.held.added b.1.made in
    push-refused s id blocks r.draft d.0 d.1 takes c.in_ok-block.block b.0 b.1 files manifest c.in_err-state.field-0.0
    (λ is. c.in_err-state.ensures.collision (ap Err is) blocks (block_with blocks b.0 d.0) (pushes s id blocks r.draft d.0 d.1 takes c.in_ok-block.block b.0 b.1 files manifest)))

pub returns-in_err-state-clause-names : goal.returns-in_err-state-clause-names
returns-in_err-state-clause-names g c =
    let p = err_from_is_err_and c.from_residual-in_err-state.result c.from_residual-in_err-state.ensures.1 in
    rw (p.1, p.2) (push-named c.in_err-state.field-0.0)

pub returns-clause-ok : goal.returns-clause-ok
returns-clause-ok g c =
    let s = (c.args.taking).state in
    let id = c.args.id.now in
    let r = c.in_ok-draft in
    λ blocks takes.
    let d = draft-is s id blocks (r.draft).commit r.ensures.fields r.ensures.walks r.draft takes r.ensures.draft in
    let b = c.in_ok-block.ensures.ok blocks d.0 d.1.over in
    let k = c.in_ok-check_parents.ensures in
    let files = k.files b.0 takes.state.state.held.added b.1.made in
    let manifest = k.manifest b.0 takes.state.state.held.added b.1.made in
    taken s id blocks r.draft d.0 d.1 takes c.in_ok-block.block b.0 b.1 files manifest c.in_ok-state.state
    (c.in_ok-state.ensures.ok blocks (block_with blocks b.0 d.0) (pushes s id blocks r.draft d.0 d.1 takes c.in_ok-block.block b.0 b.1 files manifest))

pub returns-clause-near : goal.returns-clause-near
returns-clause-near g c =
    let s = (c.args.taking).state in
    let id = c.args.id.now in
    let r = c.in_ok-draft in
    let blocks = c.requires.commit.0 in
    let takes = c.requires.commit.1 in
    let d = draft-is s id blocks (r.draft).commit r.ensures.fields r.ensures.walks r.draft takes r.ensures.draft in
    let b = c.in_ok-block.ensures.ok blocks d.0 d.1.over in
    let k = c.in_ok-check_parents.ensures in
    let files = k.files b.0 takes.state.state.held.added b.1.made in
    let manifest = k.manifest b.0 takes.state.state.held.added b.1.made in
    let pushed = c.in_ok-state.ensures.ok blocks (block_with blocks b.0 d.0) (pushes s id blocks r.draft d.0 d.1 takes c.in_ok-block.block b.0 b.1 files manifest) in
    last-rows c.in_ok-state.state blocks (block_with blocks b.0 d.0) c.in_ok-state.rows pushed.state (c.in_ok-state.ensures.rows ∙ b.1.made.draft.rows)
