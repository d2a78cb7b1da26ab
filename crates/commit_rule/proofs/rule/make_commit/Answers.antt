use Rattle.std.proofs.Common.{List, refl, sym, ap, subst, ◌∙◌}
use Rattle.git_model.specs.Unfold.{FileRow}
use Rattle.git_model.specs.Shape.{first_clash}
use Rattle.git_model.specs.Residue.{carried, rows_with}
use Rattle.tree_shape.specs.Sets.{IsFiles}
use Rattle.commit_rule.specs.Parts.{residue_below}
use Rattle.commit_rule.proofs.RuledLemmas.{rows-of, are-files, first-partner, second-partner, walks-through, files-right, files-apart, clear-too, asked-of, made}
use Rattle.commit_rule.proofs.rule.make_commit.Goals as goal

pub files_of-requires : goal.files_of-requires
files_of-requires c = are-files c.args.known.now c.requires.over.0 c.args.h.now c.requires.over.1 c.requires.over.2

pub hand_on-requires-clause-rows : goal.hand_on-requires-clause-rows
hand_on-requires-clause-rows c =
    let k = c.args.known.now in
    let over = c.requires.over.2 in
    let old = c.tree_of_partner-old.result in
    subst (λ (fs : List FileRow). IsFiles (rows_with (carried (residue_below k.git old) fs) fs)) (sym c.in_ok-files_of.ensures)
    (files-right k c.requires.over.0 c.args.h.now c.requires.over.1 over old c.tree_of_partner-old.ensures.known c.requires.over.3 (c.tree_of_partner-old.ensures.tree c.requires.over.0 over.inside.history.held))

pub trees_over-requires-clause-walks : goal.trees_over-requires-clause-walks
trees_over-requires-clause-walks c =
    let held = c.requires.over.2.inside.history.held in
    walks-through c.args.known.now c.requires.over.0 held c.args.h.now.p1 c.tree_of_partner-old.result (c.tree_of_partner-old.ensures.tree c.requires.over.0 held) c.tree_of_partner-old.ensures.known

pub trees_over-requires-clause-apart : goal.trees_over-requires-clause-apart
trees_over-requires-clause-apart c =
    let k = c.args.known.now in
    let over = c.requires.over.2 in
    let old = c.tree_of_partner-old.result in
    ap first_clash (c.in_ok-files.ensures ∙ ap (λ (fs : List FileRow). rows_with (carried (residue_below k.git old) fs) fs) c.in_ok-files_of.ensures)
    ∙ files-apart k c.requires.over.0 c.args.h.now c.requires.over.1 over old c.tree_of_partner-old.ensures.known c.requires.over.3 (c.tree_of_partner-old.ensures.tree c.requires.over.0 over.inside.history.held)

pub fields_of-requires-clause-first : goal.fields_of-requires-clause-first
fields_of-requires-clause-first c = first-partner c.args.known.now c.requires.over.0 c.args.h.now c.requires.over.1 c.requires.over.2

pub fields_of-requires-clause-second : goal.fields_of-requires-clause-second
fields_of-requires-clause-second c = second-partner c.args.known.now c.requires.over.0 c.args.h.now c.requires.over.1 c.requires.over.2

pub fresh_blobs-requires : goal.fresh_blobs-requires
fresh_blobs-requires c = record { held = (c.requires.over.1.rows, rows-of c.args.known.now c.requires.over.0 c.args.h.now c.requires.over.1 c.requires.over.2); near = tt }

pub returns-clause-known : goal.returns-clause-known
returns-clause-known c = λ blocks b held at.
    asked-of c.args.known.now blocks c.args.h.now.p1 b c.tree_of_partner-old.result (c.tree_of_partner-old.ensures.tree blocks held) c.tree_of_partner-old.ensures.known at

pub returns-clause-made : goal.returns-clause-made
returns-clause-made c = λ blocks v over short.
    let k = c.args.known.now in
    let d = c.args.h.now in
    let old = c.tree_of_partner-old.result in
    let clear = clear-too k.hg d c.requires.over.1 v c.requires.over.2.inside.draft over.inside.draft c.requires.over.3 in
    made k blocks d v over old c.tree_of_partner-old.ensures.known clear (c.tree_of_partner-old.ensures.tree blocks over.inside.history.held)
    c.in_ok-commit.commit c.in_ok-files.files c.in_ok-trees.trees.root c.in_ok-trees.ensures.root c.in_ok-commit.ensures.fields
    (c.in_ok-files.ensures ∙ ap (λ (fs : List FileRow). rows_with (carried (residue_below k.git old) fs) fs) c.in_ok-files_of.ensures)
    c.in_ok-fresh.fresh c.in_ok-trees.trees.made c.in_ok-commit.ensures.author short (c.in_ok-fresh.ensures v.rows (rows-of k blocks d v over)) c.in_ok-trees.ensures.are c.in_ok-trees.ensures.held _ refl
