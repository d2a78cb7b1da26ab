use Rattle.std.specs.Prelude.{IsTrue}
use Rattle.text_model.specs.Id.{Id}
use Rattle.tree_sum.specs.Sums.{AreSums, is_summed}
use Rattle.tree_sum.proofs.Turns.{Done}
use Rattle.tree_sum.proofs.sums.Sums.+sum_at.Given as goal

abbrev pub decreases-sum_at : goal.decreases-sum_at
decreases-sum_at l = l.levels

-- the sums are right, and the entries so far pass and have this sum
abbrev pub invariant-entries : goal.invariant-entries
invariant-entries l = record {
  sums : AreSums l.store l.self;
  stays : (x : Id) → IsTrue (is_summed l.fn.self x) → IsTrue (is_summed l.self x);
  done : Done l.store l.levels l.entry-items l.entry-index l.sum;
}
