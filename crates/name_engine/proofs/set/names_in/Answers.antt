use Rattle.ref_map.specs.declared.row.Side.TheVariants.{Git}
use Rattle.name_engine.proofs.NameLemmas.{lines-named}
use Rattle.name_engine.proofs.set.names_in.Goals as goal

pub returns-clause-fault_names : goal.returns-clause-fault_names
returns-clause-fault_names c = rw c.in-Git.is (lines-named Git _ _ c.read_refs.result c.read_refs.ensures.fault)
