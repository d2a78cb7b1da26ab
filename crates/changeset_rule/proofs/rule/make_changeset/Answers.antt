use Rattle.std.proofs.Common.{Some, not, refl, ap, ◌∙◌}
use Rattle.text_model.specs.Id.{Id, is_null}
use Rattle.pair_model.specs.Octopus.{parents_of_commit}
use Rattle.changeset_rule.proofs.ParentLemmas.{same-parent}
use Rattle.changeset_rule.proofs.RuledLemmas.{rows, are-rows, are-listed, draft-made}
use Rattle.changeset_rule.proofs.rule.make_changeset.Goals as goal

pub parent_with-first-requires : goal.parent_with-first-requires
parent_with-first-requires c =
    let is = (c.in_ok-nodes.ensures c.requires.over.0 c.requires.over.1 c.requires.over.2).first in
    record { known = (is.base, is.view) }

pub parent_with-second-requires : goal.parent_with-second-requires
parent_with-second-requires c =
    let is = (c.in_ok-nodes.ensures c.requires.over.0 c.requires.over.1 c.requires.over.2).second in
    record { known = (is.base, is.view) }

pub returns : goal.returns
returns c = λ blocks v over.
    let k = c.args.known.now in
    let d = c.args.c.now in
    let ps = parents_of_commit blocks v in
    let nodes = c.in_ok-nodes.ensures blocks v over in
    let first = same-parent k.hg c.in_ok-nodes.nodes.first ps.first c.parent_with-first.result nodes.first c.parent_with-first.ensures.view in
    let second = same-parent k.hg c.in_ok-nodes.nodes.second ps.second c.parent_with-second.result nodes.second c.parent_with-second.ensures.view in
    let rows-are = c.in_ok-made.ensures.ok ps v.rows (are-rows k blocks d v over _ _ first second) in
    let m-is = c.in_ok-manifest.ensures ps (rows k blocks d v over) (record { of_rows = rows-are.rows; in_first = first; in_second = second }) in
    let listed = are-listed k blocks d v over c.in_ok-made.made rows-are c.parent_with-first.result c.parent_with-second.result first second
    (c.parent_with-first.ensures.there ∙ ap (λ (x : Id). not (is_null x)) nodes.parents.0) (c.parent_with-second.ensures.there ∙ ap (λ (x : Id). not (is_null x)) nodes.parents.1) in
    let files-are = c.in_ok-files.ensures ps (rows k blocks d v over) listed in
    draft-made k blocks d v over c.in_ok-nodes.nodes nodes c.in_ok-made.made rows-are c.in_ok-made.ensures.new c.in_ok-manifest.manifest m-is c.in_ok-files.files files-are
    c.in_ok-changeset.changeset c.in_ok-changeset.ensures.fields c.in_ok-changeset.ensures.user c.in_ok-changeset.ensures.desc
    (record { changeset = Some c.in_ok-text.text; manifest = c.in_ok-manifest.manifest.text }) c.in_ok-text.ensures refl
