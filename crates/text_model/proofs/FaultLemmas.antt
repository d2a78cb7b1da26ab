-- The words of refusals are short; and the ends that an input reaches.
use Rattle.std.proofs.Common.{◌≡◌, ℕ, ◌≤◌, length, None, arith}
use Rattle.std.proofs.lemmas.Bool.Decides.{nat_tests}
use Rattle.text_model.specs.Fault.{FaultName, fault_word, reach, input_limit}
use Rattle.text_model.specs.Fault as fault

-- no word is longer than 18 bytes
pub fault_word-short : (name : FaultName) → length (fault_word name) ≤ 18
unfolding fault_word
fault_word-short fault.Truncated = omega arith
fault_word-short fault.Length = omega arith
fault_word-short fault.Limit = omega arith
fault_word-short fault.Trailing = omega arith
fault_word-short fault.Magic = omega arith
fault_word-short fault.OtherBundle = omega arith
fault_word-short fault.InputLimit = omega arith
fault_word-short fault.HeaderShort = omega arith
fault_word-short fault.ParentOrder = omega arith
fault_word-short fault.ParentUnknown = omega arith
fault_word-short fault.LinkUnknown = omega arith
fault_word-short fault.HunkShape = omega arith
fault_word-short fault.HunkRange = omega arith
fault_word-short fault.NodeWrong = omega arith
fault_word-short fault.ChangesetShape = omega arith
fault_word-short fault.ManifestShape = omega arith
fault_word-short fault.PathUnfit = omega arith
fault_word-short fault.FileShape = omega arith
fault_word-short fault.Collision = omega arith
fault_word-short fault.Line = omega arith
fault_word-short fault.Missing = omega arith
fault_word-short fault.KindUnknown = omega arith
fault_word-short fault.IdWrong = omega arith
fault_word-short fault.ObjectShape = omega arith
fault_word-short fault.ModeOut = omega arith
fault_word-short fault.NameUnfit = omega arith
fault_word-short fault.ParentTwice = omega arith
fault_word-short fault.ParentLimit = omega arith
fault_word-short fault.ManifestUnknown = omega arith
fault_word-short fault.FileUnknown = omega arith
fault_word-short fault.ObjectUnknown = omega arith
fault_word-short fault.PathClash = omega arith
fault_word-short fault.ParentIsLink = omega arith
fault_word-short fault.FileParentLate = omega arith
fault_word-short fault.ManifestParentLate = omega arith
fault_word-short fault.NestLimit = omega arith
fault_word-short fault.PairLimit = omega arith
fault_word-short fault.Orphan = omega arith
fault_word-short fault.DanglingLink = omega arith
fault_word-short fault.StateLimit = omega arith
fault_word-short fault.NameShape = omega arith
fault_word-short fault.RefUnfit = omega arith
fault_word-short fault.NameTwice = omega arith
fault_word-short fault.TargetUnknown = omega arith
fault_word-short fault.TagUnknown = omega arith
fault_word-short fault.NameLimit = omega arith
fault_word-short fault.CountLimit = omega arith

-- ---- ends within the input and its limit

pub reach-within : (total end : ℕ) → end ≤ total → end ≤ input_limit → reach total end ≡ None
reach-within total end all within = grind (arith, nat_tests)

pub within-reach : (total end : ℕ) → reach total end ≡ None → (end ≤ total) × (end ≤ input_limit)
within-reach total end fits = (grind (arith, nat_tests), grind (arith, nat_tests))
