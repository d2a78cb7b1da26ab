use Rattle.std.proofs.Common.{true≢false, sym, ap, subst, ◌∙◌, map}
use Rattle.text_model.specs.Id.{null}
use Rattle.hg_model.specs.Changeset.{Changeset}
use Rattle.hg_changeset.specs.Values.{changeset_value}
use Rattle.git_model.specs.Commit.{Commit}
use Rattle.git_model.specs.Residue.{carried}
use Rattle.git_model.specs.Shape.{root_of, first_clash}
use Rattle.mark_code.specs.Values.{changeset_marks}
use Rattle.partner_model.specs.Mark.{handed_on}
use Rattle.partner_model.specs.Partner.{IsHeldView}
use Rattle.commit_rule.specs.Parts.{file_of_row, residue_below}
use Rattle.commit_rule.proofs.Handed.{short-rows}
use Rattle.commit_rule.proofs.RuledLemmas.{asked-of, walks-through}
use Rattle.changeset_unmark.specs.Heads.{IsDateOf, IsHead}
use Rattle.changeset_unmark.specs.Named.{IsNamed, commit_named}
use Rattle.changeset_unmark.specs.Residues.{items_named}
use Rattle.changeset_unmark.proofs.Built.{is_view}
use Rattle.changeset_unmark.proofs.OverLemmas.{second-view, draft-over, rows-of, are-rows, items-right, rows-right, residue-named, named-residue, built-commit, made-commit, rows_none, rows_some, head_none, head_some}
use Rattle.changeset_unmark.proofs.unmark.unmark_over.Goals as goal

pub parent_of-first-requires : goal.parent_of-first-requires
parent_of-first-requires c = record { known = (c.requires.over.3.base, c.requires.over.3.at_first) }

pub parent_of-second-requires : goal.parent_of-second-requires
parent_of-second-requires c =
    let over = c.requires.over in
    record { known = ((over.2).second, second-view c.args.known.now over.3.inside.history.added over.0 c.args.h.now over.1 c.args.parents c.args.node.now over.2 over.3) }

pub returns-then-not-branch-clause-found : goal.returns-then-not-branch-clause-found
returns-then-not-branch-clause-found c = λ blocks v ps over named.
    let second = c.parent_of-second.ensures.view ps.second (second-view c.args.known.now over.inside.history.added blocks c.args.h.now v c.args.parents c.args.node.now ps over) in
    let draft =
    draft-over c.args.known.now over.inside.history.added blocks c.args.h.now v c.args.parents c.args.node.now ps over c.parent_of-first.result c.parent_of-second.result (c.parent_of-first.ensures.view over.base over.at_first) second
    c.parent_of-first.ensures.there c.parent_of-second.ensures.there in
    true≢false (sym ((c.in_ok-lists_come_back.ensures ps v draft).1 named.lists) ∙ c.if-not-branch.true)

pub rows_named-requires-clause-files : goal.rows_named-requires-clause-files
rows_named-requires-clause-files c =
    let over = c.requires.over in
    are-rows c.args.known.now over.3.inside.history.added over.0 c.args.h.now over.1 c.args.parents c.args.node.now over.2 over.3

pub rows_named-requires-clause-right : goal.rows_named-requires-clause-right
rows_named-requires-clause-right c =
    let over = c.requires.over in
    rows-right c.args.known.now over.3.inside.history.added over.0 c.args.h.now over.1 c.args.parents c.args.node.now over.2 over.3 c.tree_of_partner-old.result
    (c.tree_of_partner-old.ensures.tree over.0 over.3.inside.history.held) c.tree_of_partner-old.ensures.known c.args.marks.tree c.requires.date.3.tree

pub returns-in_default-clause-found : goal.returns-in_default-clause-found
returns-in_default-clause-found c = λ blocks v ps over named.
    rows_none _ _ c.args.marks.tree c.in_ok-files.field-0 c.in_default.is c.in_ok-files.ensures
    (named-residue c.args.known.now over.inside.history.added blocks c.args.h.now v c.args.parents c.args.node.now ps over c.tree_of_partner-old.result
    (c.tree_of_partner-old.ensures.tree blocks over.inside.history.held) c.tree_of_partner-old.ensures.known c.args.marks.tree named.residue)

pub returns-in_default-2-clause-found : goal.returns-in_default-2-clause-found
returns-in_default-2-clause-found c = λ blocks v ps over named.
    head_none c.args.parents (changeset_value c.args.h.now.changeset) (changeset_marks c.args.marks) c.in_ok-head.field-0 c.in_default-2.is c.in_ok-head.ensures
    (subst (λ (x : Changeset). IsHead null c.args.parents x (changeset_marks c.args.marks)) over.inside.draft.fields named.head)

pub made_of-requires-clause-held : goal.made_of-requires-clause-held
made_of-requires-clause-held c =
    let over = c.requires.over in
    (over.1.rows, rows-of c.args.known.now over.3.inside.history.added over.0 c.args.h.now over.1 c.args.parents c.args.node.now over.2 over.3)

pub made_of-requires-clause-walks : goal.made_of-requires-clause-walks
made_of-requires-clause-walks c =
    let over = c.requires.over in
    let held = over.3.inside.history.held in
    walks-through c.args.known.now over.0 held c.args.node.now c.tree_of_partner-old.result (c.tree_of_partner-old.ensures.tree over.0 held) c.tree_of_partner-old.ensures.known

pub made_of-requires-clause-apart : goal.made_of-requires-clause-apart
made_of-requires-clause-apart c =
    let files = map file_of_row c.args.h.now.rows in
    let given = carried (residue_below c.args.known.now.git c.tree_of_partner-old.result) files in
    let rows = rows_some files given c.args.marks.tree c.in_ok-files.field-0 c.in-Some.files c.in-Some.is c.in_ok-files.ensures in
    ap first_clash rows.1 ∙ rows.0.apart

pub returns-clause-found : goal.returns-clause-found
returns-clause-found c = λ blocks v ps over.
    let k = c.args.known.now in
    let d = c.args.h.now in
    let ids = c.args.parents in
    let node = c.args.node.now in
    let m = changeset_marks c.args.marks in
    let old = c.tree_of_partner-old.result in
    let is-old = c.tree_of_partner-old.ensures.tree blocks over.inside.history.held in
    let asked = c.tree_of_partner-old.ensures.known in
    let second = c.parent_of-second.ensures.view ps.second (second-view k over.inside.history.added blocks d v ids node ps over) in
    let draft =
    draft-over k over.inside.history.added blocks d v ids node ps over c.parent_of-first.result c.parent_of-second.result (c.parent_of-first.ensures.view over.base over.at_first) second
    c.parent_of-first.ensures.there c.parent_of-second.ensures.there in
    let lists = (c.in_ok-lists_come_back.ensures ps v draft).0 c.if-not-branch.false in
    let files = map file_of_row d.rows in
    let rows = rows_some files (carried (residue_below k.git old) files) c.args.marks.tree c.in_ok-files.field-0 c.in-Some.files c.in-Some.is c.in_ok-files.ensures in
    let head = head_some ids (changeset_value d.changeset) m c.in_ok-head.field-0 c.in-Some-2.head c.in-Some-2.is c.in_ok-head.ensures in
    let residue = residue-named k over.inside.history.added blocks d v ids node ps over old is-old asked c.args.marks.tree rows.0 in
    let named : IsNamed blocks c.args.parents ps v (changeset_marks c.args.marks) = record { head = subst (λ (x : Changeset). IsHead null ids x m) (sym over.inside.draft.fields) head.0; residue = residue; lists = lists } in
    let fit = items-right k over.inside.history.added blocks d v ids node ps over old is-old asked c.args.marks.tree c.requires.date.3.tree residue.fit in
    let date = subst (λ (x : Changeset). IsDateOf x.date m) (sym over.inside.draft.fields) c.requires.date in
    let view = is_view blocks (IsHeldView k.hg) v over.inside.view m date ids ps fit over.few over.distinct named in
    let made = c.in_ok-made.ensures in
    let commit = made.commit ∙ ap (λ (x : Commit). record x { tree_id = root_of c.in-Some.files }) head.1 in
    let built =
    built-commit k over.inside.history.added blocks d v ids node ps over old is-old asked m fit c.in-Some.files rows.1 c.in_ok-made.made made.files commit
    (made.blobs v.rows (rows-of k over.inside.history.added blocks d v ids node ps over)) made.trees_are made.trees_held view in
    (named, built, λ short. made-commit k.git c.in_ok-made.made (commit_named blocks ids v m) built (short-rows (items_named (handed_on blocks ids v.rows) m.tree) v.rows short))

pub returns-then-not-branch-clause-known : goal.returns-then-not-branch-clause-known
returns-then-not-branch-clause-known c = λ blocks b held at. asked-of c.args.known.now blocks c.args.node.now b c.tree_of_partner-old.result (c.tree_of_partner-old.ensures.tree blocks held) c.tree_of_partner-old.ensures.known at

pub returns-in_default-clause-known : goal.returns-in_default-clause-known
returns-in_default-clause-known c = λ blocks b held at. asked-of c.args.known.now blocks c.args.node.now b c.tree_of_partner-old.result (c.tree_of_partner-old.ensures.tree blocks held) c.tree_of_partner-old.ensures.known at

pub returns-in_default-2-clause-known : goal.returns-in_default-2-clause-known
returns-in_default-2-clause-known c = λ blocks b held at. asked-of c.args.known.now blocks c.args.node.now b c.tree_of_partner-old.result (c.tree_of_partner-old.ensures.tree blocks held) c.tree_of_partner-old.ensures.known at

pub returns-clause-known : goal.returns-clause-known
returns-clause-known c = λ blocks b held at. asked-of c.args.known.now blocks c.args.node.now b c.tree_of_partner-old.result (c.tree_of_partner-old.ensures.tree blocks held) c.tree_of_partner-old.ensures.known at
