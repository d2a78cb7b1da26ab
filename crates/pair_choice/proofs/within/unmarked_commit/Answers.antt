use Rattle.std.proofs.Common.{true≢false, sym, ◌∙◌}
use Rattle.pair_choice.proofs.LimitLemmas.{made, bodies-within}
use Rattle.pair_choice.proofs.within.unmarked_commit.Goals as goal

pub returns-then-not-bodies_fit-clause-limit : goal.returns-then-not-bodies_fit-clause-limit
returns-then-not-bodies_fit-clause-limit c = λ e blocks v w is fits.
    let draft = is.inside.draft in
    let short = bodies-within c.args.known.now.git c.args.first w is.built v.rows is.unmarks.bodies fits in
    true≢false (sym ((c.bodies_fit.ensures v.rows is.inside.history.added (draft.rows, draft.files)).1 short) ∙ c.if-not-bodies_fit.true)

pub returns-then-not-branch-clause-limit : goal.returns-then-not-branch-clause-limit
returns-then-not-branch-clause-limit c = λ e blocks v w is fits.
    let draft = is.inside.draft in
    let short = (c.bodies_fit.ensures v.rows is.inside.history.added (draft.rows, draft.files)).0 c.if-not-bodies_fit.false in
    let is_made = made c.args.known.now.git c.args.first w is.built v.rows is.unmarks.bodies short in
    true≢false (sym ((c.in_ok-commit_fits.ensures _ _ is_made).1 fits) ∙ c.if-not-branch.true)

pub returns-clause-ok : goal.returns-clause-ok
returns-clause-ok c = λ blocks v w is.
    let draft = is.inside.draft in
    let short = (c.bodies_fit.ensures v.rows is.inside.history.added (draft.rows, draft.files)).0 c.if-not-bodies_fit.false in
    let is_made = made c.args.known.now.git c.args.first w is.built v.rows is.unmarks.bodies short in
    record { made = is_made; fits = (c.in_ok-commit_fits.ensures _ _ is_made).0 c.if-not-branch.false }
