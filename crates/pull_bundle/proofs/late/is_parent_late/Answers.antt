use Rattle.pull_bundle.proofs.Referred.{late-manifest}
use Rattle.std.proofs.Common.{◌≡◌, not, Bool, map, ap, sym, ◌∙◌, false}
use Rattle.std.specs.Prelude.{◌&&◌}
use Rattle.text_model.specs.Id.{is_null}
use Rattle.view_model.specs.View.{changeset_node}
use Rattle.pair_model.specs.Block.{changesets_in}
use Rattle.pull_bundle.proofs.late.is_parent_late.Goals as goal

pub returns-then-not-is_null : goal.returns-then-not-is_null
returns-then-not-is_null c = λ known blocks refers.
    let some : is_null c.args.parent.now ≡ false = sym c.is_null.ensures ∙ c.if-not-is_null.true in
    ap (λ (t : Bool). not t && not c.has.result) (sym some)
    ∙ late-manifest known (map changeset_node (changesets_in blocks)) blocks refers.held c.args.referred.now refers.refers c.args.parent.now c.has.result c.has.ensures
