use Rattle.std.proofs.Common.{◌++◌, List, ℕ, refl, ap, subst, ◌∙◌}
use Rattle.text_model.specs.Id.{node_id}
use Rattle.hg_model.specs.Changeset.{Changeset, IsDateLine, changeset_text}
use Rattle.hg_changeset.specs.Values.{changeset_value}
use Rattle.view_model.specs.View.{changeset_node}
use Rattle.pair_model.specs.Octopus.{link_view}
use Rattle.link_rule.proofs.octopus.Octopus.link.Goals as goal

pub returns : goal.returns
unfolding link_view changeset_node
returns c = λ base is.
    let fields = c.in_ok-changeset.ensures.fields base c.args.p c.args.q is in
    let text = c.in_ok-write_into.ensures.ok ∙ ap (λ (l : List ℕ). l ++ changeset_text (changeset_value c.in_ok-changeset.changeset)) c.new-text.ensures.items ∙ ap changeset_text fields in
    record {
      parents = (refl, refl);
      fields = fields;
      text = c.keep.ensures ∙ text;
      node = c.node_id-node.ensures ∙ ap (node_id c.args.p c.args.q) (c.as_slice.ensures.value ∙ text);
      date = subst IsDateLine (ap (λ (x : Changeset). x.date) fields) c.in_ok-changeset.ensures.date;
    }
