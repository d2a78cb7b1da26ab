use Rattle.std.proofs.Common.{[], ◌∷◌}
use Rattle.hg_manifest.specs.Values.{manifest_entry}
use Rattle.hg_manifest.proofs.BesideLemmas.{later-more}
use Rattle.hg_manifest.proofs.near.Near.pass.Goals as goal

pub loop-entry-preserved : goal.loop-entry-preserved
loop-entry-preserved c =
    later-more c.args.self.now c.loop-entry.self c.in-Some.behind c.loop-entry.invariant (record {
      passed = manifest_entry c.in-Some.entry.now ∷ [];
      whole = c.in-Some.ensures.some.0;
    })
