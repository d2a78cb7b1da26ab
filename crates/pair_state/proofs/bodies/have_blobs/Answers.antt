use Rattle.std.proofs.Common.{refl, sym, subst, ◌∙◌}
use Rattle.std.specs.Prelude.{IfSome}
use Rattle.text_model.proofs.Elements.{each_in}
use Rattle.hg_manifest.specs.Values.{manifest_entry}
use Rattle.pair_state.specs.Step.{AreBlobs, IsAskedLine, IsElseLine}
use Rattle.pair_state.proofs.KeptLemmas.{starts, goes-on, ends, told-in, some-in}
use Rattle.pair_state.proofs.bodies.have_blobs.Goals as goal

pub loop-line-init : goal.loop-line-init
loop-line-init c = record {
  same = refl;
  to = rw c.of-walk.ensures (starts c.args.known.now.hg c.args.known.now.git c.args.lines c.args.near);
}

pub has_blob-requires : goal.has_blob-requires
has_blob-requires c =
    let known = c.args.known.now in
    let e = manifest_entry c.in-Some.line.now in
    record {
      line = each_in (IsAskedLine known.hg known.git) c.args.lines e c.requires.lines
          (told-in known.hg known.git c.args.lines c.args.near c.loop-line.walk c.next.new.self e c.loop-line.invariant.to c.in-Some.ensures.some);
      second = subst (λ o. IfSome o (AreBlobs known.hg known.git)) (sym c.loop-line.invariant.same) c.requires.second;
    }

pub returns-then-not-has_blob-clause-otherwise : goal.returns-then-not-has_blob-clause-otherwise
returns-then-not-has_blob-clause-otherwise c = λ _.
    let known = c.args.known.now in
    let e = manifest_entry c.in-Some.line.now in
    some-in (IsElseLine known.hg known.git) c.args.lines e
    (told-in known.hg known.git c.args.lines c.args.near c.loop-line.walk c.next.new.self e c.loop-line.invariant.to c.in-Some.ensures.some)
    (c.has_blob.ensures.otherwise c.if-not-has_blob.true)

pub loop-line-preserved : goal.loop-line-preserved
loop-line-preserved c =
    let known = c.args.known.now in
    let e = manifest_entry c.in-Some.line.now in
    record {
      same = c.has_blob.ensures.same ∙ c.loop-line.invariant.same;
      to = goes-on known.hg known.git c.args.lines c.args.near c.loop-line.walk c.next.new.self e c.loop-line.invariant.to c.in-Some.ensures.some
          c.requires.near (c.has_blob.ensures.yes c.if-not-has_blob.false);
    }

pub returns-clause-yes : goal.returns-clause-yes
returns-clause-yes c = λ _.
    let known = c.args.known.now in
    ends known.hg known.git c.args.lines c.args.near c.loop-line.walk c.requires.near c.loop-line.invariant.to
    (c.next.ensures.none c.in_default.is)
