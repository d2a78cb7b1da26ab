-- Why a member has no partner, where its draft can't be made.
use Rattle.pair_known.specs.declared.fault.PairFault.{PairFault}
use Rattle.pair_known.specs.declared.fault.PairFault.TheVariants as made
use Rattle.pair_known.specs.declared.choice_fault.ChoiceFault.{ChoiceFault}
use Rattle.pair_known.specs.declared.choice_fault.ChoiceFault.TheVariants.{PairLimit, Memory}

abbrev pub choice_fault : PairFault → ChoiceFault
choice_fault made.PairLimit = PairLimit
choice_fault made.Memory = Memory
