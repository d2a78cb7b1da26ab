use Rattle.std.proofs.Common.{◌≡◌, false, not, List, None, refl, sym, ap, subst, ◌∙◌}
use Rattle.std.specs.Prelude.{MatchOption, IfSome}
use Rattle.text_model.specs.Lists.{Each}
use Rattle.text_model.specs.Id.{Id, is_null}
use Rattle.hg_model.specs.Changeset as model
use Rattle.hg_model.specs.Changeset.{IsChangeset}
use Rattle.hg_store.specs.Known.{knows_same}
use Rattle.hg_changeset.specs.Values.{changeset_value}
use Rattle.view_model.specs.View.{Row, AreManifestParents, manifest_node}
use Rattle.pair_model.specs.MarkList.{IsMarkList}
use Rattle.pair_model.specs.Octopus.{parents_of_commit}
use Rattle.changeset_rule.proofs.ParentLemmas.{same-parent}
use Rattle.changeset_rule.proofs.RuledLemmas.{few-of}
use Rattle.commit_unmark.specs.Named.{NamesNoRows, NamesRows}
use Rattle.commit_unmark.specs.Parts.{manifest_by, files_by, fields_by, IsManifestWith}
use Rattle.commit_unmark.proofs.NamedLemmas.{files-over, no-rows, no-manifest, no-fields, are-listed, draft-of}
use Rattle.commit_unmark.proofs.named.named_changeset.Goals as goal

pub parent_with-first-requires : goal.parent_with-first-requires
parent_with-first-requires c =
    let is = (c.in_ok-nodes.ensures c.requires.over.0 c.requires.over.1 c.requires.over.2).first in
    record { known = (is.base, is.view) }

pub parent_with-second-requires : goal.parent_with-second-requires
parent_with-second-requires c =
    let is = (c.in_ok-nodes.ensures c.requires.over.0 c.requires.over.1 c.requires.over.2).second in
    record { known = (is.base, is.view) }

pub returns-in_default : goal.returns-in_default
returns-in_default c = λ blocks v over.
    let k = c.args.known.now in
    let d = c.args.c.now in
    let few = few-of k blocks d v over c.requires.few in
    let nodes = c.in_ok-nodes.ensures blocks v over in
    let ps = parents_of_commit blocks v in
    let marks = c.args.marks.now in
    let first = same-parent k.hg c.in_ok-nodes.nodes.first ps.first c.parent_with-first.result nodes.first c.parent_with-first.ensures.view in
    let second = same-parent k.hg c.in_ok-nodes.nodes.second ps.second c.parent_with-second.result nodes.second c.parent_with-second.ensures.view in
    let rows = c.in_ok-made.ensures.found ps v.rows (files-over k blocks d v over few marks _ _ first second) in
    no-rows k blocks d v over few marks (subst (λ o. MatchOption o (NamesNoRows ps marks v.rows) (NamesRows k.hg ps marks v.rows)) c.in_default.is rows)

pub returns-in_default-2 : goal.returns-in_default-2
returns-in_default-2 c = λ blocks v over.
    let k = c.args.known.now in
    let d = c.args.c.now in
    let few = few-of k blocks d v over c.requires.few in
    let nodes = c.in_ok-nodes.ensures blocks v over in
    let ps = parents_of_commit blocks v in
    let marks = c.args.marks.now in
    let first = same-parent k.hg c.in_ok-nodes.nodes.first ps.first c.parent_with-first.result nodes.first c.parent_with-first.ensures.view in
    let second = same-parent k.hg c.in_ok-nodes.nodes.second ps.second c.parent_with-second.result nodes.second c.parent_with-second.ensures.view in
    let found = c.in_ok-made.ensures.found ps v.rows (files-over k blocks d v over few marks _ _ first second) in
    let rows : NamesRows k.hg ps marks v.rows c.in-Some.made = subst (λ o. MatchOption o (NamesNoRows ps marks v.rows) (NamesRows k.hg ps marks v.rows)) c.in-Some.is found in
    let manifest = c.in_ok-manifest.ensures ps rows.0 (record { of_rows = (rows.3).values; in_first = first; in_second = second }) in
    no-manifest k blocks d v over few marks rows.0 rows.1
    (subst (λ o. MatchOption o (AreManifestParents (manifest_by ps marks rows.0) rows.0 → ⊥) (λ made. IsManifestWith made (manifest_by ps marks rows.0) rows.0 × AreManifestParents (manifest_by ps marks rows.0) rows.0)) c.in_default-2.is manifest)

pub returns-in_default-3 : goal.returns-in_default-3
returns-in_default-3 c = λ blocks v over.
    let k = c.args.known.now in
    let d = c.args.c.now in
    let few = few-of k blocks d v over c.requires.few in
    let nodes = c.in_ok-nodes.ensures blocks v over in
    let ps = parents_of_commit blocks v in
    let marks = c.args.marks.now in
    let list : IsMarkList marks = c.named_files.ensures.list in
    let first = same-parent k.hg c.in_ok-nodes.nodes.first ps.first c.parent_with-first.result nodes.first c.parent_with-first.ensures.view in
    let second = same-parent k.hg c.in_ok-nodes.nodes.second ps.second c.parent_with-second.result nodes.second c.parent_with-second.ensures.view in
    let found = c.in_ok-made.ensures.found ps v.rows (files-over k blocks d v over few marks _ _ first second) in
    let rows : NamesRows k.hg ps marks v.rows c.in-Some.made = subst (λ o. MatchOption o (NamesNoRows ps marks v.rows) (NamesRows k.hg ps marks v.rows)) c.in-Some.is found in
    let hs : List Row = rows.0 in
    let named = c.in_ok-manifest.ensures ps hs (record { of_rows = (rows.3).values; in_first = first; in_second = second }) in
    let manifest : IsManifestWith c.in-Some-2.manifest (manifest_by ps marks hs) hs × AreManifestParents (manifest_by ps marks hs) hs =
    subst (λ o. MatchOption o (AreManifestParents (manifest_by ps marks hs) hs → ⊥) (λ made. IsManifestWith made (manifest_by ps marks hs) hs × AreManifestParents (manifest_by ps marks hs) hs)) c.in-Some-2.is named in
    let listed = are-listed k blocks d v over few marks hs rows.1 list c.in-Some.made.rows (rows.3).values c.parent_with-first.result c.parent_with-second.result first second
    (c.parent_with-first.ensures.there ∙ ap (λ (x : Id). not (is_null x)) nodes.parents.0) (c.parent_with-second.ensures.there ∙ ap (λ (x : Id). not (is_null x)) nodes.parents.1) in
    let files = c.in_ok-files.ensures.files ps hs listed in
    let same : fields_by d.commit marks c.in-Some-2.manifest.node c.in_ok-files.files ≡ fields_by v.value marks (manifest_node (manifest_by ps marks hs) hs) (files_by ps marks hs) =
    λ i. fields_by (sym over.draft.value i) marks ((manifest.0).node i) (files i) in
    let fields = subst (λ (f : model.Changeset). MatchOption c.in_ok-changeset.field-0 (IsChangeset f → ⊥) (λ x. (changeset_value x ≡ f) × IsChangeset f)) same c.in_ok-changeset.ensures in
    let F : model.Changeset = fields_by v.value marks (manifest_node (manifest_by ps marks hs) hs) (files_by ps marks hs) in
    no-fields k blocks d v over few marks hs rows.1
    (subst (λ o. MatchOption o (IsChangeset F → ⊥) (λ x. (changeset_value x ≡ F) × IsChangeset F)) c.in_default-3.is fields)

pub returns : goal.returns
returns c = λ blocks v over.
    let k = c.args.known.now in
    let d = c.args.c.now in
    let few = few-of k blocks d v over c.requires.few in
    let nodes = c.in_ok-nodes.ensures blocks v over in
    let ps = parents_of_commit blocks v in
    let marks = c.args.marks.now in
    let list : IsMarkList marks = c.named_files.ensures.list in
    let first = same-parent k.hg c.in_ok-nodes.nodes.first ps.first c.parent_with-first.result nodes.first c.parent_with-first.ensures.view in
    let second = same-parent k.hg c.in_ok-nodes.nodes.second ps.second c.parent_with-second.result nodes.second c.parent_with-second.ensures.view in
    let found = c.in_ok-made.ensures.found ps v.rows (files-over k blocks d v over few marks _ _ first second) in
    let rows : NamesRows k.hg ps marks v.rows c.in-Some.made = subst (λ o. MatchOption o (NamesNoRows ps marks v.rows) (NamesRows k.hg ps marks v.rows)) c.in-Some.is found in
    let hs : List Row = rows.0 in
    let named = c.in_ok-manifest.ensures ps hs (record { of_rows = (rows.3).values; in_first = first; in_second = second }) in
    let manifest : IsManifestWith c.in-Some-2.manifest (manifest_by ps marks hs) hs × AreManifestParents (manifest_by ps marks hs) hs =
    subst (λ o. MatchOption o (AreManifestParents (manifest_by ps marks hs) hs → ⊥) (λ made. IsManifestWith made (manifest_by ps marks hs) hs × AreManifestParents (manifest_by ps marks hs) hs)) c.in-Some-2.is named in
    let listed = are-listed k blocks d v over few marks hs rows.1 list c.in-Some.made.rows (rows.3).values c.parent_with-first.result c.parent_with-second.result first second
    (c.parent_with-first.ensures.there ∙ ap (λ (x : Id). not (is_null x)) nodes.parents.0) (c.parent_with-second.ensures.there ∙ ap (λ (x : Id). not (is_null x)) nodes.parents.1) in
    let files = c.in_ok-files.ensures.files ps hs listed in
    let same : fields_by d.commit marks c.in-Some-2.manifest.node c.in_ok-files.files ≡ fields_by v.value marks (manifest_node (manifest_by ps marks hs) hs) (files_by ps marks hs) =
    λ i. fields_by (sym over.draft.value i) marks ((manifest.0).node i) (files i) in
    let fields = subst (λ (f : model.Changeset). MatchOption c.in_ok-changeset.field-0 (IsChangeset f → ⊥) (λ x. (changeset_value x ≡ f) × IsChangeset f)) same c.in_ok-changeset.ensures in
    let F : model.Changeset = fields_by v.value marks (manifest_node (manifest_by ps marks hs) hs) (files_by ps marks hs) in
    let x : (changeset_value c.in-Some-3.changeset ≡ F) × IsChangeset F = subst (λ o. MatchOption o (IsChangeset F → ⊥) (λ x. (changeset_value x ≡ F) × IsChangeset F)) c.in-Some-3.is fields in
    let new : Each (λ r. knows_same k.hg r ≡ false) c.in-Some.made.fresh = subst (λ o. IfSome o (λ made. Each (λ r. knows_same k.hg r ≡ false) made.fresh)) c.in-Some.is c.in_ok-made.ensures.new in
    draft-of k blocks d v over few marks hs rows.1 list rows.2 manifest.1 x.1 _ _ nodes.parents.0 nodes.parents.1 c.in-Some.made rows.3 new c.in-Some-2.manifest manifest.0 c.in-Some-3.changeset x.0
    (record { changeset = None; manifest = c.in-Some-2.manifest.text }) refl refl
