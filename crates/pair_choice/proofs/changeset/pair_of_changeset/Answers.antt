use Rattle.std.proofs.Common.{◌≡◌, List, [], ◌∷◌, map, sym, ap, subst, refl, ◌∙◌}
use Rattle.std.specs.Prelude.{IsTrue}
use Rattle.std.proofs.lemmas.Result.{IfOk-weaker, IfErr-weaker}
use Rattle.text_model.specs.Lists.{rises}
use Rattle.text_model.specs.Text.{Bytes, is_below}
use Rattle.view_model.specs.View.{Row, ChangesetView, CommitView, paths_of, has_clash}
use Rattle.pair_model.specs.Block.{Block}
use Rattle.partner_model.specs.Partner.{UnmarksChangeset, IsHeldView}
use Rattle.changeset_unmark.specs.Drafts.{IsBuiltCommit}
use Rattle.pair_known.specs.Rows.{RowValue, row_value}
use Rattle.pair_known.specs.declared.known.Known.{Known}
use Rattle.pair_known.specs.declared.hg_draft.HgDraft.{HgDraft}
use Rattle.pair_known.specs.declared.git_draft.GitDraft.{GitDraft}
use Rattle.pair_known.specs.Over.{IsChangesetIn}
use Rattle.pair_choice.specs.Parts.{IsUnmarkedCommit}
use Rattle.pair_choice.proofs.LimitLemmas.{match-some, match-none}
use Rattle.pair_choice.proofs.UnmarkedClash.{unmarked-apart}
use Rattle.pair_choice.proofs.changeset.pair_of_changeset.Goals as goal

paths-are : (rows : List Row) → map (λ (r : RowValue). r.path) (map row_value rows) ≡ paths_of rows
paths-are [] = refl
paths-are (row ∷ rows) = ap (λ (ps : List Bytes). row.path ∷ ps) (paths-are rows)

paths-of : (k : Known) (blocks : List Block) (d : HgDraft) (v : ChangesetView) → IsChangesetIn k blocks d v → (slice : List RowValue) → slice ≡ d.rows → map (λ (r : RowValue). r.path) slice ≡ paths_of v.rows
paths-of k blocks d v asked slice is = ap (map (λ (r : RowValue). r.path)) (is ∙ (asked.draft).rows) ∙ paths-are v.rows

unmarked : (k : Known) (blocks : List Block) (d : HgDraft) (v : ChangesetView) → IsChangesetIn k blocks d v → (first : GitDraft) (w : CommitView) → UnmarksChangeset blocks (IsHeldView k.hg) v w → IsBuiltCommit k.git first w → IsUnmarkedCommit k blocks d first v w
unmarked k blocks d v asked first w unmarks built = record { inside = asked; unmarks = unmarks; built = built }

pub has_clash-requires : goal.has_clash-requires
has_clash-requires g c =
    let r = c.requires.asked in
    subst (λ (ps : List Bytes). IsTrue (rises is_below ps)) (sym (paths-of c.args.known.now r.0 c.args.h.now r.1 r.2 c.as_slice.result.now c.as_slice.ensures)) (r.2.view).in_order

pub unmark_changeset-requires : goal.unmark_changeset-requires
unmark_changeset-requires g c = record { inside = (c.requires.asked.0, c.requires.asked.1, c.requires.asked.2); near = c.requires.near }

pub commit_with-requires : goal.commit_with-requires
commit_with-requires g c =
    let k = c.args.known.now in
    let r = c.requires.asked in
    let f = match-some _ _ _ c.in-Some.first (c.in_ok-first.ensures r.0 r.1 r.2) c.in-Some.is in
    record { unmarks = (r.0, r.1, f.0, unmarked k r.0 c.args.h.now r.1 r.2 c.in-Some.first f.0 f.1 f.2, unmarked-apart r.0 (IsHeldView k.hg) r.1 f.0 f.1) }

pub returns-in-None-clause-refused : goal.returns-in-None-clause-refused
returns-in-None-clause-refused g c = λ blocks v asked.
    ap has_clash (sym (paths-of c.args.known.now blocks c.args.h.now v asked c.as_slice.result.now c.as_slice.ensures)) ∙ sym c.has_clash.ensures ∙ c.if-has_clash.true

pub commit_without-requires : goal.commit_without-requires
commit_without-requires g c =
    let k = c.args.known.now in
    let r = c.requires.asked in
    let clear = ap has_clash (sym (paths-of k r.0 c.args.h.now r.1 r.2 c.as_slice.result.now c.as_slice.ensures)) ∙ sym c.has_clash.ensures ∙ c.if-has_clash.false in
    let none = match-none _ _ _ (c.in_ok-first.ensures r.0 r.1 r.2) c.in-None-2.is in
    record { alone = (r.0, r.1, record { inside = r.2; no_clash = clear; none = none }) }

pub returns-in-Some-clause-ok : goal.returns-in-Some-clause-ok
returns-in-Some-clause-ok g c = IfOk-weaker c.commit_with.result _ _ (λ d ok blocks v asked.
    let k = c.args.known.now in
    let f = match-some _ _ _ c.in-Some.first (c.in_ok-first.ensures blocks v asked) c.in-Some.is in
    ok blocks v f.0 (unmarked k blocks c.args.h.now v asked c.in-Some.first f.0 f.1 f.2) (unmarked-apart blocks (IsHeldView k.hg) v f.0 f.1)) c.commit_with.ensures.ok

pub returns-in-Some-clause-refused : goal.returns-in-Some-clause-refused
returns-in-Some-clause-refused g c = IfErr-weaker c.commit_with.result _ _ (λ fault refused blocks v asked.
    let k = c.args.known.now in
    let f = match-some _ _ _ c.in-Some.first (c.in_ok-first.ensures blocks v asked) c.in-Some.is in
    refused blocks v f.0 (unmarked k blocks c.args.h.now v asked c.in-Some.first f.0 f.1 f.2) (unmarked-apart blocks (IsHeldView k.hg) v f.0 f.1)) c.commit_with.ensures.refused

pub returns-in-None-2-clause-ok : goal.returns-in-None-2-clause-ok
returns-in-None-2-clause-ok g c = IfOk-weaker c.commit_without.result _ _ (λ d ok blocks v asked.
    let k = c.args.known.now in
    let clear = ap has_clash (sym (paths-of k blocks c.args.h.now v asked c.as_slice.result.now c.as_slice.ensures)) ∙ sym c.has_clash.ensures ∙ c.if-has_clash.false in
    let none = match-none _ _ _ (c.in_ok-first.ensures blocks v asked) c.in-None-2.is in
    ok blocks v (record { inside = asked; no_clash = clear; none = none })) c.commit_without.ensures.ok

pub returns-in-None-2-clause-refused : goal.returns-in-None-2-clause-refused
returns-in-None-2-clause-refused g c = IfErr-weaker c.commit_without.result _ _ (λ fault refused blocks v asked.
    let k = c.args.known.now in
    let clear = ap has_clash (sym (paths-of k blocks c.args.h.now v asked c.as_slice.result.now c.as_slice.ensures)) ∙ sym c.has_clash.ensures ∙ c.if-has_clash.false in
    let none = match-none _ _ _ (c.in_ok-first.ensures blocks v asked) c.in-None-2.is in
    refused blocks v (record { inside = asked; no_clash = clear; none = none })) c.commit_without.ensures.refused
