-- The tests of groups and nodes.
use Rattle.std.proofs.Common.{◌≡◌, ◌&&◌}
use Rattle.text_model.proofs.TestLemmas.{bytes_eq-sym}
use Rattle.hg_model.proofs.RevisionLemmas.{same_group-sym}
use Rattle.hg_dump.specs.Marks.{Mark, same_mark}

pub same_mark-sym : (a b : Mark) → same_mark a b ≡ same_mark b a
same_mark-sym a b = (λ i. same_group-sym a.group b.group i && bytes_eq-sym a.node b.node i)
