use Rattle.std.proofs.Common.{List, [], length, ap, subst, ◌∙◌}
use Rattle.std.specs.Prelude.{nat_lt}
use Rattle.text_model.specs.Id.{Id}
use Rattle.view_model.specs.Dump.{hg_increment}
use Rattle.view_model.specs.Held.{AreChangesetsHeld}
use Rattle.state_model.specs.Limits.{dump_limit}
use Rattle.dump_law.proofs.Bases.{base-is-same}
use Rattle.state_size.proofs.Written.{past}
use Rattle.state_size.proofs.bundle.passes_bundle.Goals as goal

pub returns : goal.returns
returns c = λ hs nodes are parents.
    let known = c.args.store.now in
    let same = base-is-same known [] hs (subst (λ (l : List Id). AreChangesetsHeld known l hs) nodes are) parents in
    ap (nat_lt dump_limit) (c.in_ok-len.ensures hs are) ∙ past (length (hg_increment known [] hs)) ∙ ap (λ b. nat_lt dump_limit (length b)) same
