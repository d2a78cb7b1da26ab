use Rattle.std.proofs.Common.{take, drop, refl}
use Rattle.view_model.specs.Dump.{brought_by, hg_increment}
use Rattle.hg_dump.proofs.dump.Dump.collect.Goals as goal

pub returns-clause-text : goal.returns-clause-text
returns-clause-text c = λ hs are.
    let from = c.args.from in
    record {
      revisions = brought_by (take from hs) (drop from hs);
      brought = c.in_ok-brought.ensures.brought hs are;
      text_is = refl;
    }

pub returns-clause-collected : goal.returns-clause-collected
returns-clause-collected c =
    let hs = c.requires.held.0 in
    (hg_increment c.args.store.now (take c.args.from hs) (drop c.args.from hs), returns-clause-text c hs c.requires.held.1)
