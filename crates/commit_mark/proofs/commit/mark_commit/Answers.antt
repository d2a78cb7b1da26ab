use Rattle.std.proofs.Common.{true≢false, sym, ap, ◌∙◌}
use Rattle.pair_model.specs.MarkList.{marks_text}
use Rattle.mark_law.proofs.Views.{marked_fits}
use Rattle.commit_rule.proofs.RuledLemmas.{rows-of, bodies-short, clear-too}
use Rattle.commit_mark.proofs.Commits.{HasHeaders, marked-made}
use Rattle.commit_mark.proofs.commit.mark_commit.Goals as goal

pub bodies_fit-requires : goal.bodies_fit-requires
bodies_fit-requires c = record { held = (c.requires.over.1.rows, rows-of c.args.known.now c.requires.over.0 c.args.h.now c.requires.over.1 c.requires.over.2) }

pub marks_of-requires : goal.marks_of-requires
marks_of-requires c = record { over = (c.requires.over.0, c.requires.over.1, c.requires.over.2) }

pub returns-then-not-bodies_fit-clause-limit : goal.returns-then-not-bodies_fit-clause-limit
returns-then-not-bodies_fit-clause-limit c = λ e blocks v over fits.
    let k = c.args.known.now in
    let d = c.args.h.now in
    let clear = clear-too k.hg d c.requires.over.1 v c.requires.over.2.inside.draft over.inside.draft c.requires.over.3 in
    let short = bodies-short k blocks d v over (λ b at. c.in_ok-plain.ensures.known blocks b over.inside.history.held at) clear (marked_fits blocks v fits) in
    true≢false (sym ((c.bodies_fit.ensures v.rows over.inside.history.added (rows-of k blocks d v over)).1 short) ∙ c.if-not-bodies_fit.true)

pub returns-then-not-branch-clause-limit : goal.returns-then-not-branch-clause-limit
returns-then-not-branch-clause-limit c = λ e blocks v over fits.
    let w = c.with_headers-marked.ensures in
    let has : HasHeaders c.in_ok-plain.plain c.with_headers-marked.result c.in_ok-headers_of.field-0 = record { commit = w.commit; files = w.files; fresh = w.fresh; trees = w.trees } in
    let are = c.in_ok-headers_of.ensures ∙ ap marks_text (c.in_ok-marks.ensures blocks v over) in
    let short = (c.bodies_fit.ensures v.rows over.inside.history.added (rows-of c.args.known.now blocks c.args.h.now v over)).0 c.if-not-bodies_fit.false in
    let made = marked-made c.args.known.now.git blocks v over.inside.view c.in_ok-plain.plain c.with_headers-marked.result (c.in_ok-plain.ensures.made blocks v over short) c.in_ok-headers_of.field-0 are has in
    true≢false (sym ((c.in_ok-commit_fits.ensures _ _ made).1 fits) ∙ c.if-not-branch.true)

pub returns-clause-ok : goal.returns-clause-ok
returns-clause-ok c = λ blocks v over.
    let w = c.with_headers-marked.ensures in
    let has : HasHeaders c.in_ok-plain.plain c.with_headers-marked.result c.in_ok-headers_of.field-0 = record { commit = w.commit; files = w.files; fresh = w.fresh; trees = w.trees } in
    let are = c.in_ok-headers_of.ensures ∙ ap marks_text (c.in_ok-marks.ensures blocks v over) in
    let short = (c.bodies_fit.ensures v.rows over.inside.history.added (rows-of c.args.known.now blocks c.args.h.now v over)).0 c.if-not-bodies_fit.false in
    let made = marked-made c.args.known.now.git blocks v over.inside.view c.in_ok-plain.plain c.with_headers-marked.result (c.in_ok-plain.ensures.made blocks v over short) c.in_ok-headers_of.field-0 are has in
    record { made = made; fits = (c.in_ok-commit_fits.ensures _ _ made).0 c.if-not-branch.false }
