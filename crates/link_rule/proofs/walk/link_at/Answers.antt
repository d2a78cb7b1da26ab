use Rattle.hg_changeset.specs.Values.{changeset_value}
use Rattle.link_rule.proofs.WalkLemmas.{no-link}
use Rattle.link_rule.proofs.walk.link_at.Goals as goal

pub returns-else-is_link_of : goal.returns-else-is_link_of
returns-else-is_link_of c =
    let found = c.in-Some.found in
    no-link c.args.store.now c.args.count c.args.number c.args.node.now found.0 found.1 (changeset_value found.2.now) c.in-Some.ensures.value c.if-is_link_of.ensures
