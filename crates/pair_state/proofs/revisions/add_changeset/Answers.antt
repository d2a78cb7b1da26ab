use Rattle.std.proofs.Common.{Err, sym, ap, ◌∙◌}
use Rattle.std.proofs.lemmas.Result.{err_from_is_err_and, on_ok_weaker}
use Rattle.pair_state.proofs.CameLemmas.{bad-one}
use Rattle.pair_state.proofs.FileLemmas.{asked-on}
use Rattle.pair_state.proofs.GrowthLemmas.{errs}
use Rattle.pair_state.proofs.OwnLemmas.{own-ready, own-short, asked-over, bad-first, bad-manifest, bad-files, all-came}
use Rattle.pair_state.proofs.revisions.add_changeset.Goals as goal

pub add_revision-requires-clause-ready : goal.add_revision-requires-clause-ready
add_revision-requires-clause-ready c = own-ready c.requires.asked.0 c.args.hg.now c.args.d.now c.args.node c.args.text c.requires.asked.1 c.requires.asked.2

pub add_revision-requires-clause-short : goal.add_revision-requires-clause-short
add_revision-requires-clause-short c = own-short c.requires.asked.0 c.args.hg.now c.args.d.now c.args.node c.args.text c.requires.asked.1 c.requires.asked.2

pub returns-in_err-add_revision-clause-collision : goal.returns-in_err-add_revision-clause-collision
returns-in_err-add_revision-clause-collision c = λ is base k a.
    let p = err_from_is_err_and c.from_residual.result c.from_residual.ensures.1 in
    bad-first base c.args.hg.now c.args.d.now c.args.node c.args.text k a (bad-one c.args.hg.now _ (c.in_err-add_revision.ensures.collision (errs _ _ (ap Err (sym p.2) ∙ sym p.1 ∙ is))))

pub add_manifest-requires : goal.add_manifest-requires
add_manifest-requires c =
    let base = c.requires.asked.0 in
    let k = c.requires.asked.1 in
    record { asked = (base, k, asked-over base c.args.hg.now c.args.d.now c.args.node c.args.text k c.requires.asked.2 c.add_revision.new.hg c.in_ok-add_revision.ensures.ok c.in_ok-add_revision.ensures.added); lines = c.requires.lines }

pub returns-in_err-add_manifest-clause-collision : goal.returns-in_err-add_manifest-clause-collision
returns-in_err-add_manifest-clause-collision c = λ is base k a.
    let p = err_from_is_err_and c.from_residual-in_err-add_manifest.result c.from_residual-in_err-add_manifest.ensures.1 in
    let came = c.in_ok-add_revision.ensures.ok in
    bad-manifest base c.args.hg.now c.args.d.now c.args.node c.args.text k a c.add_revision.new.hg came
    (c.in_err-add_manifest.ensures.collision (errs _ _ (ap Err (sym p.2) ∙ sym p.1 ∙ is)) base k (asked-over base c.args.hg.now c.args.d.now c.args.node c.args.text k a c.add_revision.new.hg came c.in_ok-add_revision.ensures.added))

pub add_files-requires : goal.add_files-requires
add_files-requires c =
    let base = c.requires.asked.0 in
    let k = c.requires.asked.1 in
    let over = asked-over base c.args.hg.now c.args.d.now c.args.node c.args.text k c.requires.asked.2 c.add_revision.new.hg c.in_ok-add_revision.ensures.ok c.in_ok-add_revision.ensures.added in
    record { asked = (base, k, asked-on base c.add_revision.new.hg c.args.d.now c.args.node k over c.add_manifest.new.hg _ (c.in_ok-add_manifest.ensures.ok base k over) c.in_ok-add_manifest.ensures.added) }

pub returns-clause-ok : goal.returns-clause-ok
returns-clause-ok c =
    on_ok_weaker c.add_files.result (λ done base k a.
    let came = c.in_ok-add_revision.ensures.ok in
    let over = asked-over base c.args.hg.now c.args.d.now c.args.node c.args.text k a c.add_revision.new.hg came c.in_ok-add_revision.ensures.added in
    let came2 = c.in_ok-add_manifest.ensures.ok base k over in
    all-came base c.args.hg.now c.args.d.now c.args.node c.args.text k a c.add_revision.new.hg came c.add_manifest.new.hg came2 c.add_files.new.hg
    (done base k (asked-on base c.add_revision.new.hg c.args.d.now c.args.node k over c.add_manifest.new.hg _ came2 c.in_ok-add_manifest.ensures.added))) c.add_files.ensures.ok

pub returns-clause-collision : goal.returns-clause-collision
returns-clause-collision c = λ is base k a.
    let came = c.in_ok-add_revision.ensures.ok in
    let over = asked-over base c.args.hg.now c.args.d.now c.args.node c.args.text k a c.add_revision.new.hg came c.in_ok-add_revision.ensures.added in
    let came2 = c.in_ok-add_manifest.ensures.ok base k over in
    bad-files base c.args.hg.now c.args.d.now c.args.node c.args.text k a c.add_revision.new.hg came c.add_manifest.new.hg came2
    (c.add_files.ensures.collision is base k (asked-on base c.add_revision.new.hg c.args.d.now c.args.node k over c.add_manifest.new.hg _ came2 c.in_ok-add_manifest.ensures.added))
