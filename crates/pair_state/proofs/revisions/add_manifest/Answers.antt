use Rattle.std.proofs.Common.{length, arith, sym, ap, subst, ◌∙◌}
use Rattle.std.proofs.lemmas.Result.{on_ok_weaker}
use Rattle.pair_state.specs.Came.{HaveCome, HasBad}
use Rattle.pair_state.proofs.CameLemmas.{bad-one}
use Rattle.pair_state.proofs.ManifestLemmas.{made-lines, manifest-is, manifest-ready}
use Rattle.pair_state.proofs.revisions.add_manifest.Goals as goal

pub add_revision-requires-clause-ready : goal.add_revision-requires-clause-ready
add_revision-requires-clause-ready c =
    let a = c.requires.asked.2 in
    manifest-ready c.requires.asked.0 c.args.hg.now c.args.d.now c.args.link c.requires.asked.1 a c.in-Over.p c.in-Over.q c.in-Over.is c.in_ok-text-in-Over.text (c.in_ok-text-in-Over.ensures ∙ made-lines c.requires.asked.0 c.args.hg.now c.args.d.now c.args.link c.requires.asked.1 a)

pub returns-in_ok-text-in-Over-clause-collision : goal.returns-in_ok-text-in-Over-clause-collision
returns-in_ok-text-in-Over-clause-collision c = λ is base k a.
    subst (HasBad c.args.hg.now) (sym (manifest-is base c.args.hg.now c.args.d.now c.args.link k a c.in-Over.p c.in-Over.q c.in-Over.is c.in_ok-text-in-Over.text (c.in_ok-text-in-Over.ensures ∙ made-lines base c.args.hg.now c.args.d.now c.args.link k a)))
    (bad-one c.args.hg.now _ (c.add_revision.ensures.collision is))

pub add_revision-requires-clause-short : goal.add_revision-requires-clause-short
add_revision-requires-clause-short c =
    let a = c.requires.asked.2 in
    omega (arith, a.part.fits.manifest, ap length (c.in_ok-text-in-Over.ensures ∙ made-lines c.requires.asked.0 c.args.hg.now c.args.d.now c.args.link c.requires.asked.1 a))

pub returns-in_ok-text-in-Over-clause-ok : goal.returns-in_ok-text-in-Over-clause-ok
returns-in_ok-text-in-Over-clause-ok c =
    on_ok_weaker c.add_revision.result (λ come base k a.
    subst (HaveCome c.args.hg.now c.add_revision.new.hg)
    (sym (manifest-is base c.args.hg.now c.args.d.now c.args.link k a c.in-Over.p c.in-Over.q c.in-Over.is c.in_ok-text-in-Over.text
    (c.in_ok-text-in-Over.ensures ∙ made-lines base c.args.hg.now c.args.d.now c.args.link k a))) come) c.add_revision.ensures.ok
