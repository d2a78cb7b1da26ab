use Rattle.std.proofs.Common.{List, sym, ap, subst, ◌∙◌}
use Rattle.std.proofs.lemmas.Option.{none-some}
use Rattle.text_model.specs.Id.{Id, commit}
use Rattle.git_model.specs.Commit.{Commit}
use Rattle.git_store.specs.Known.{IsCommitAt, content_at}
use Rattle.pair_known.specs.Partners.{git_at}
use Rattle.pair_known.proofs.PartnerLemmas.{git-pairs}
use Rattle.commit_rule.proofs.RuledLemmas.{no-block, some-block, block-commit, one-commit-at}
use Rattle.commit_rule.proofs.trees.tree_of_partner.Goals as goal

pub returns-in_default-clause-tree : goal.returns-in_default-clause-tree
returns-in_default-clause-tree c = λ blocks held.
    let node = c.args.node.now in
    no-block blocks node (sym c.in_default.is ∙ c.git_of.ensures.partner ∙ ap (λ (pairs : List (Id × Id)). git_at pairs node) held.partners ∙ git-pairs blocks node)

pub returns-in-Some-commit-clause-tree : goal.returns-in-Some-commit-clause-tree
returns-in-Some-commit-clause-tree c = λ blocks held.
    let k = c.args.known.now in
    let node = c.args.node.now in
    let b = some-block blocks node c.in-Some.partner (sym c.in-Some.is ∙ c.git_of.ensures.partner ∙ ap (λ (pairs : List (Id × Id)). git_at pairs node) held.partners ∙ git-pairs blocks node) in
    let at = subst (λ (id : Id). IsCommitAt k.git id c.in-Some-commit.commit.now) b.2 c.in-Some-commit.ensures.commit in
    (b.0, b.1, ap (λ (x : Commit). x.tree_id) (c.commit-in-Some-commit.view_is ∙ one-commit-at k.git _ _ _ at (block-commit k blocks node b.0 held b.1)))

pub returns-in-None-clause-tree : goal.returns-in-None-clause-tree
returns-in-None-clause-tree c = λ blocks held.
    let k = c.args.known.now in
    let node = c.args.node.now in
    let b = some-block blocks node c.in-Some.partner (sym c.in-Some.is ∙ c.git_of.ensures.partner ∙ ap (λ (pairs : List (Id × Id)). git_at pairs node) held.partners ∙ git-pairs blocks node) in
    let at = block-commit k blocks node b.0 held b.1 in
    absurd (none-some _ (sym c.in-None.ensures.commit ∙ ap (content_at commit k.git) b.2 ∙ at.held))
