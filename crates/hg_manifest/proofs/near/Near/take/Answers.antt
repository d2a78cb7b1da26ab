use Rattle.std.proofs.Common.{map}
use Rattle.std.proofs.lemmas.Option.{IfSome_then}
use Rattle.hg_manifest.specs.Values.{manifest_entry}
use Rattle.hg_manifest.proofs.BesideLemmas.{lines-later, later-more}
use Rattle.hg_manifest.proofs.near.Near.take.Goals as goal

pub returns-in-None-clause-lines : goal.returns-in-None-clause-lines
returns-in-None-clause-lines c =
    IfSome_then c.take_front-in-None.result c.take_front-in-None.ensures.lines
    (λ found are. lines-later c.args.self.now c.take_front.new.self (map manifest_entry found.0.now) c.take_front.ensures.later are)

pub returns-in-None-clause-later : goal.returns-in-None-clause-later
returns-in-None-clause-later c = later-more c.args.self.now c.take_front.new.self c.take_front-in-None.new.self c.take_front.ensures.later c.take_front-in-None.ensures.later
