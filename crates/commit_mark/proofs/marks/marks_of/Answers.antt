use Rattle.std.proofs.Common.{List, ◌++◌, refl, sym, ap, subst, ◌∙◌}
use Rattle.std.specs.List.{flat_map}
use Rattle.hg_changeset.specs.Values.{changeset_value}
use Rattle.pair_model.specs.Block.{changesets_in, view_or_none}
use Rattle.pair_model.specs.MarkList.{Mark}
use Rattle.plain_rule.proofs.OverLemmas.{first-view, second-view}
use Rattle.partner_model.specs.Mark.{entry_marks, manifest_marks, files_marks, user_marks, date_marks, parents_of_changeset}
use Rattle.commit_mark.specs.Parts.{BeginList, marks_in}
use Rattle.commit_mark.proofs.Begun.{begin-behind}
use Rattle.commit_mark.proofs.Overs.{is-over}
use Rattle.commit_mark.proofs.Whole.{given, all-are, to_manifest, to_files, to_user, begin-entries, begin-manifest, begin-files, begin-user, begin-date, user-same, date-same, next-part}
use Rattle.commit_mark.proofs.marks.marks_of.Goals as goal

pub parent_of-first-requires : goal.parent_of-first-requires
parent_of-first-requires c =
    let over = c.requires.over in
    record { known = (view_or_none (changesets_in over.0) (over.1).p, first-view c.args.known.now over.2.inside.history.added over.0 c.args.h.now over.1 over.2) }

pub parent_of-second-requires : goal.parent_of-second-requires
parent_of-second-requires c =
    let over = c.requires.over in
    record { known = (view_or_none (changesets_in over.0) (over.1).q, second-view c.args.known.now over.2.inside.history.added over.0 c.args.h.now over.1 over.2) }

pub put_entries-requires : goal.put_entries-requires
put_entries-requires c =
    let k = c.args.known.now in
    let h = c.args.h.now in
    let blocks = c.requires.over.0 in
    let v = c.requires.over.1 in
    let over = c.requires.over.2 in
    let ps = parents_of_changeset blocks v in
    let added = over.inside.history.added in
    let first = c.parent_of-first.ensures.view (view_or_none (changesets_in blocks) v.p) (first-view k added blocks h v over) in
    let second = c.parent_of-second.ensures.view (view_or_none (changesets_in blocks) v.q) (second-view k added blocks h v over) in
    let begins = subst (λ (ms : List Mark). BeginList (ms ++ flat_map (entry_marks ps) v.rows)) (sym c.new-marks.ensures) (begin-entries ps v over.inside.view) in
    record { over = (ps, v, (is-over k added blocks h v over _ refl refl first second c.parent_of-first.ensures.there c.parent_of-second.ensures.there), begins) }

pub put-requires : goal.put-requires
put-requires c =
    let k = c.args.known.now in
    let h = c.args.h.now in
    let blocks = c.requires.over.0 in
    let v = c.requires.over.1 in
    let over = c.requires.over.2 in
    let ps = parents_of_changeset blocks v in
    let added = over.inside.history.added in
    let first = c.parent_of-first.ensures.view (view_or_none (changesets_in blocks) v.p) (first-view k added blocks h v over) in
    let second = c.parent_of-second.ensures.view (view_or_none (changesets_in blocks) v.q) (second-view k added blocks h v over) in
    let entries = flat_map (entry_marks ps) v.rows in
    let m0 = c.in_ok-put_entries.ensures ps v (is-over k added blocks h v over _ refl refl first second c.parent_of-first.ensures.there c.parent_of-second.ensures.there) ∙ ap (λ (ms : List Mark). ms ++ entries) c.new-marks.ensures in
    let manifest = c.manifest_mark-manifest.ensures ps v (is-over k added blocks h v over _ refl refl first second c.parent_of-first.ensures.there c.parent_of-second.ensures.there) in
    begin-behind c.put_entries.new.marks (marks_in c.manifest_mark-manifest.result) entries (manifest_marks ps v) m0 manifest (begin-manifest ps v over.inside.view)

pub put-requires-2 : goal.put-requires-2
put-requires-2 c =
    let k = c.args.known.now in
    let h = c.args.h.now in
    let blocks = c.requires.over.0 in
    let v = c.requires.over.1 in
    let over = c.requires.over.2 in
    let ps = parents_of_changeset blocks v in
    let added = over.inside.history.added in
    let first = c.parent_of-first.ensures.view (view_or_none (changesets_in blocks) v.p) (first-view k added blocks h v over) in
    let second = c.parent_of-second.ensures.view (view_or_none (changesets_in blocks) v.q) (second-view k added blocks h v over) in
    let entries = flat_map (entry_marks ps) v.rows in
    let m0 = c.in_ok-put_entries.ensures ps v (is-over k added blocks h v over _ refl refl first second c.parent_of-first.ensures.there c.parent_of-second.ensures.there) ∙ ap (λ (ms : List Mark). ms ++ entries) c.new-marks.ensures in
    let manifest = c.manifest_mark-manifest.ensures ps v (is-over k added blocks h v over _ refl refl first second c.parent_of-first.ensures.there c.parent_of-second.ensures.there) in
    let m1 = next-part c.put.new.marks c.put_entries.new.marks entries (marks_in c.manifest_mark-manifest.result) (manifest_marks ps v) c.in_ok-put.ensures m0 manifest in
    let files = c.in_ok-files.ensures ps v (is-over k added blocks h v over _ refl refl first second c.parent_of-first.ensures.there c.parent_of-second.ensures.there) in
    begin-behind c.put.new.marks (marks_in c.in_ok-files.files) (to_manifest ps v) (files_marks ps v) m1 files (begin-files ps v over.inside.view)

pub put-requires-3 : goal.put-requires-3
put-requires-3 c =
    let k = c.args.known.now in
    let h = c.args.h.now in
    let blocks = c.requires.over.0 in
    let v = c.requires.over.1 in
    let over = c.requires.over.2 in
    let ps = parents_of_changeset blocks v in
    let added = over.inside.history.added in
    let first = c.parent_of-first.ensures.view (view_or_none (changesets_in blocks) v.p) (first-view k added blocks h v over) in
    let second = c.parent_of-second.ensures.view (view_or_none (changesets_in blocks) v.q) (second-view k added blocks h v over) in
    let entries = flat_map (entry_marks ps) v.rows in
    let m0 = c.in_ok-put_entries.ensures ps v (is-over k added blocks h v over _ refl refl first second c.parent_of-first.ensures.there c.parent_of-second.ensures.there) ∙ ap (λ (ms : List Mark). ms ++ entries) c.new-marks.ensures in
    let manifest = c.manifest_mark-manifest.ensures ps v (is-over k added blocks h v over _ refl refl first second c.parent_of-first.ensures.there c.parent_of-second.ensures.there) in
    let m1 = next-part c.put.new.marks c.put_entries.new.marks entries (marks_in c.manifest_mark-manifest.result) (manifest_marks ps v) c.in_ok-put.ensures m0 manifest in
    let files = c.in_ok-files.ensures ps v (is-over k added blocks h v over _ refl refl first second c.parent_of-first.ensures.there c.parent_of-second.ensures.there) in
    let m2 = next-part c.put-2.new.marks c.put.new.marks (to_manifest ps v) (marks_in c.in_ok-files.files) (files_marks ps v) c.in_ok-put-2.ensures m1 files in
    let x = changeset_value h.changeset in
    let fields = over.inside.draft.fields in
    let user = c.in_ok-user.ensures ∙ user-same ps v x fields c.in_ok-given.given c.in_ok-given.ensures in
    begin-behind c.put-2.new.marks (marks_in c.in_ok-user.user) (to_files ps v) (user_marks (v.fields).user (given ps v)) m2 user (begin-user ps v over.inside.view)

pub put_date-requires : goal.put_date-requires
put_date-requires c =
    let k = c.args.known.now in
    let h = c.args.h.now in
    let blocks = c.requires.over.0 in
    let v = c.requires.over.1 in
    let over = c.requires.over.2 in
    let ps = parents_of_changeset blocks v in
    let added = over.inside.history.added in
    let first = c.parent_of-first.ensures.view (view_or_none (changesets_in blocks) v.p) (first-view k added blocks h v over) in
    let second = c.parent_of-second.ensures.view (view_or_none (changesets_in blocks) v.q) (second-view k added blocks h v over) in
    let entries = flat_map (entry_marks ps) v.rows in
    let m0 = c.in_ok-put_entries.ensures ps v (is-over k added blocks h v over _ refl refl first second c.parent_of-first.ensures.there c.parent_of-second.ensures.there) ∙ ap (λ (ms : List Mark). ms ++ entries) c.new-marks.ensures in
    let manifest = c.manifest_mark-manifest.ensures ps v (is-over k added blocks h v over _ refl refl first second c.parent_of-first.ensures.there c.parent_of-second.ensures.there) in
    let m1 = next-part c.put.new.marks c.put_entries.new.marks entries (marks_in c.manifest_mark-manifest.result) (manifest_marks ps v) c.in_ok-put.ensures m0 manifest in
    let files = c.in_ok-files.ensures ps v (is-over k added blocks h v over _ refl refl first second c.parent_of-first.ensures.there c.parent_of-second.ensures.there) in
    let m2 = next-part c.put-2.new.marks c.put.new.marks (to_manifest ps v) (marks_in c.in_ok-files.files) (files_marks ps v) c.in_ok-put-2.ensures m1 files in
    let x = changeset_value h.changeset in
    let fields = over.inside.draft.fields in
    let user = c.in_ok-user.ensures ∙ user-same ps v x fields c.in_ok-given.given c.in_ok-given.ensures in
    let m3 = next-part c.put-3.new.marks c.put-2.new.marks (to_files ps v) (marks_in c.in_ok-user.user) (user_marks (v.fields).user (given ps v)) c.in_ok-put-3.ensures m2 user in
    let date = date-same ps v x fields c.in_ok-given.given c.in_ok-given.ensures in
    begin-behind c.put-3.new.marks (date_marks x.date c.in_ok-given.given) (to_user ps v) (date_marks (v.fields).date (given ps v)) m3 date (begin-date ps v over.inside.view)

pub returns : goal.returns
returns c = λ blocks v over.
    let k = c.args.known.now in
    let h = c.args.h.now in
    let ps = parents_of_changeset blocks v in
    let added = over.inside.history.added in
    let first = c.parent_of-first.ensures.view (view_or_none (changesets_in blocks) v.p) (first-view k added blocks h v over) in
    let second = c.parent_of-second.ensures.view (view_or_none (changesets_in blocks) v.q) (second-view k added blocks h v over) in
    let entries = flat_map (entry_marks ps) v.rows in
    let m0 = c.in_ok-put_entries.ensures ps v (is-over k added blocks h v over _ refl refl first second c.parent_of-first.ensures.there c.parent_of-second.ensures.there) ∙ ap (λ (ms : List Mark). ms ++ entries) c.new-marks.ensures in
    let manifest = c.manifest_mark-manifest.ensures ps v (is-over k added blocks h v over _ refl refl first second c.parent_of-first.ensures.there c.parent_of-second.ensures.there) in
    let m1 = next-part c.put.new.marks c.put_entries.new.marks entries (marks_in c.manifest_mark-manifest.result) (manifest_marks ps v) c.in_ok-put.ensures m0 manifest in
    let files = c.in_ok-files.ensures ps v (is-over k added blocks h v over _ refl refl first second c.parent_of-first.ensures.there c.parent_of-second.ensures.there) in
    let m2 = next-part c.put-2.new.marks c.put.new.marks (to_manifest ps v) (marks_in c.in_ok-files.files) (files_marks ps v) c.in_ok-put-2.ensures m1 files in
    let x = changeset_value h.changeset in
    let fields = over.inside.draft.fields in
    let user = c.in_ok-user.ensures ∙ user-same ps v x fields c.in_ok-given.given c.in_ok-given.ensures in
    let m3 = next-part c.put-3.new.marks c.put-2.new.marks (to_files ps v) (marks_in c.in_ok-user.user) (user_marks (v.fields).user (given ps v)) c.in_ok-put-3.ensures m2 user in
    let date = date-same ps v x fields c.in_ok-given.given c.in_ok-given.ensures in
    next-part c.put_date.new.marks c.put-3.new.marks (to_user ps v) (date_marks x.date c.in_ok-given.given) (date_marks (v.fields).date (given ps v)) c.in_ok-put_date.ensures m3 date ∙ sym (all-are ps v)
