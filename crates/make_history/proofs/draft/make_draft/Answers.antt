use Rattle.std.proofs.Common.{◌≡◌, ◌∙◌, ◌++◌, ◌*◌, false, List, ap, sym, subst}
use Rattle.std.specs.Prelude.{codes, decimal, pos}
use Rattle.text_model.specs.Lists.{Each}
use Rattle.text_model.specs.Text.{has_byte}
use Rattle.hg_model.specs.Changeset.{Plain}
use Rattle.hg_model.specs.Manifest.{ManifestEntry}
use Rattle.hg_model.specs.Revision.{Revision}
use Rattle.hg_store.specs.Known.{knows_same}
use Rattle.pair_known.specs.Drafts.{AreFreshOf}
use Rattle.view_model.specs.Held.{IsFileHeld}
use Rattle.file_rule.proofs.RowsStep.{fresh-path}
use Rattle.text_model.specs.Id.{is_null}
use Rattle.make_model.specs.History.{made_row, made_user, made_zone, made_extras, changeset_over}
use Rattle.make_history.specs.Made.{numbers_value}
use Rattle.make_history.specs.Drafts.{next_rows}
use Rattle.make_history.proofs.RowsLemmas.{clean-entries}
use Rattle.make_history.proofs.DraftLemmas.{rises-with, held-with, not-twice, no-text, fresh-among, fresh-unknown}
use Rattle.make_history.proofs.draft.make_draft.Goals as goal

pub parent_of-first-requires : goal.parent_of-first-requires
parent_of-first-requires c = let o = c.requires.over in record { known = ((o.0).first, (o.1).first) }

pub parent_of-second-requires : goal.parent_of-second-requires
parent_of-second-requires c = let o = c.requires.over in record { known = ((o.0).second, (o.1).second) }

pub make_row-requires-clause-parents : goal.make_row-requires-clause-parents
make_row-requires-clause-parents c =
    let o = c.requires.over in
    (o.0, c.parent_of-first.ensures.view (o.0).first (o.1).first, c.parent_of-second.ensures.view (o.0).second (o.1).second)

pub make_row-requires-clause-clean : goal.make_row-requires-clause-clean
make_row-requires-clause-clean c =
    let o = c.requires.over in
    subst (λ (l : List ManifestEntry). Each (λ (e : ManifestEntry). has_byte 1 e.path ≡ false) l) (c.parent_of-first.ensures.view (o.0).first (o.1).first).entries (clean-entries ((o.0).first).rows (o.1).clean)

pub rows_with-requires : goal.rows_with-requires
rows_with-requires c =
    let o = c.requires.over in
    let v = c.parent_of-first.ensures.view (o.0).first (o.1).first in
    record { held = (((o.0).first).rows, v.entries, v.files) }

pub returns-clause-lines : goal.returns-clause-lines
returns-clause-lines c = λ ps o.
    let x = numbers_value c.args.numbers.now in
    let a = c.parent_of-first.ensures.view ps.first o.first in
    let b = c.parent_of-second.ensures.view ps.second o.second in
    let rows = c.in_ok-rows.ensures (made_row ps x c.args.number) (ps.first).rows (c.in_ok-made.ensures.row ps a b).value a.entries a.files in
    (c.in_ok-manifest.ensures ps (next_rows ps x c.args.number) (record { of_rows = rows; in_first = a; in_second = b })).text

pub returns-clause-draft : goal.returns-clause-draft
unfolding changeset_over
returns-clause-draft c = λ ps o.
    let x = numbers_value c.args.numbers.now in
    let new = made_row ps x c.args.number in
    let hs = next_rows ps x c.args.number in
    let a = c.parent_of-first.ensures.view ps.first o.first in
    let b = c.parent_of-second.ensures.view ps.second o.second in
    let m = c.in_ok-made.ensures.row ps a b in
    let rows = c.in_ok-rows.ensures new (ps.first).rows m.value a.entries a.files in
    let made = c.in_ok-manifest.ensures ps hs (record { of_rows = rows; in_first = a; in_second = b }) in
    let files = c.in_ok-files.ensures ps hs (record {
      of_rows = rows;
      rising = rises-with new (ps.first).rows o.rising;
      there = (ap is_null o.nodes.0 ∙ not-twice _ _ c.parent_of-first.ensures.there, ap is_null o.nodes.1 ∙ not-twice _ _ c.parent_of-second.ensures.there);
      in_first = sym a.entries;
      in_second = sym b.entries;
    }) in
    record {
      parents = o.nodes;
      fields = (λ i. record {
        manifest = sym made.node i;
        user = made_user x.user;
        date = Plain (pos (1000 * c.args.number)) (made_zone x.zone) (made_extras x.branch);
        files = sym files i;
        description = codes "c" ++ decimal c.args.number;
      }) ∙ sym c.in_ok-changeset.ensures;
      manifest = sym made.manifest;
      rows = rows;
      files = subst (λ (l : List Revision). Each (IsFileHeld (l ++ c.args.store.now)) hs) (sym c.in_ok-fresh.ensures)
          (held-with c.args.store.now new (ps.first).rows c.in_ok-made.made.fresh (fresh-path c.args.store.now new.path c.in_ok-made.made.fresh c.in_ok-made.ensures.fresh) m.held a.files);
      texts = record { changeset = no-text _ _ c.none.ensures.changeset; manifest = no-text _ _ c.none.ensures.manifest };
    }

pub returns-clause-fresh : goal.returns-clause-fresh
returns-clause-fresh c = λ ps o.
    let x = numbers_value c.args.numbers.now in
    let new = made_row ps x c.args.number in
    let a = c.parent_of-first.ensures.view ps.first o.first in
    let b = c.parent_of-second.ensures.view ps.second o.second in
    subst (λ (l : List Revision). AreFreshOf l (next_rows ps x c.args.number)) (sym c.in_ok-fresh.ensures) (fresh-among c.in_ok-made.made.fresh new (ps.first).rows (c.in_ok-made.ensures.row ps a b).of_row)

pub returns-clause-unknown : goal.returns-clause-unknown
returns-clause-unknown c =
    subst (λ (l : List Revision). Each (λ r. knows_same c.args.store.now r ≡ false) l) (sym c.in_ok-fresh.ensures) (fresh-unknown c.args.store.now _ c.in_ok-made.made.fresh c.in_ok-made.ensures.fresh)
