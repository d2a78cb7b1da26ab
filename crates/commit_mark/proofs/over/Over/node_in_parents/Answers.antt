use Rattle.hg_manifest.specs.Values.{manifest_entry}
use Rattle.commit_mark.proofs.Nodes.{node-first, node-second}
use Rattle.commit_mark.proofs.over.Over.node_in_parents.Goals as goal

pub returns-in-Some : goal.returns-in-Some
returns-in-Some c = λ ps are. node-first c.args.self.now ps are c.args.path.now (manifest_entry c.in-Some.entry.now) c.in-Some.ensures

pub returns-in-None : goal.returns-in-None
returns-in-None c = λ ps are. node-second c.args.self.now ps are c.args.path.now c.in-None.ensures c.node_in.result c.node_in.ensures
