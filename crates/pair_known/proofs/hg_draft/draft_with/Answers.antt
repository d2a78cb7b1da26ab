use Rattle.std.proofs.Common.{◌≡◌, ◌++◌, List, Option, refl, sym, subst}
use Rattle.std.specs.Prelude.{IfSome}
use Rattle.text_model.specs.Lists.{Each}
use Rattle.text_model.specs.Text.{Bytes}
use Rattle.text_model.specs.Id.{Id}
use Rattle.hg_model.specs.Changeset.{changeset_text}
use Rattle.hg_model.specs.Revision.{Revision}
use Rattle.hg_changeset.specs.Values.{changeset_value}
use Rattle.view_model.specs.View.{rows_text}
use Rattle.view_model.specs.Held.{IsManifestHeld, IsFileHeld}
use Rattle.pair_known.specs.Drafts.{HasView}
use Rattle.pair_known.proofs.HeldViews.{view-agrees}
use Rattle.pair_known.proofs.hg_draft.draft_with.Goals as goal

-- what the look-ups lend
lent : (c : goal.After-none) → HasView c.args.store.now c.args.node.now
lent c = (
  record { p1 = (c.args.parents).0; p2 = (c.args.parents).1; changeset = c.args.fields; manifest_node = (c.args.fields).now.manifest; manifest = c.in-Some.manifest },
  record { changeset = c.requires.fields; manifest_node = refl; manifest = c.in-Some.ensures.value; files = c.in_ok-rows.ensures.known },
)

pub returns-clause-view : goal.returns-clause-view
returns-clause-view c = lent c

pub read_changeset-requires : goal.read_changeset-requires
read_changeset-requires c = record { known = ((c.args.parents).0, (c.args.parents).1, changeset_value (c.args.fields).now, c.requires.fields) }

pub returns-clause-draft : goal.returns-clause-draft
unfolding lent
returns-clause-draft c = λ h held.
    let known = c.args.store.now in
    let view = lent c in
    let agrees = view-agrees known c.in-Some.ensures.known c.args.node.now h held view.0 view.1 in
    let manifest : IsManifestHeld known (view.0).manifest_node h.manifest h.rows = subst (λ (n : Id). IsManifestHeld known n h.manifest h.rows) agrees.node held.manifest in
    record {
      parents = (agrees.p, agrees.q);
      fields = c.in_ok-changeset.ensures h.p h.q h.fields (record { revision = held.revision; is_held = held.is_held; first = held.parents.0; second = held.parents.1; fields = held.fields });
      manifest = c.manifest_of_node.ensures h.manifest h.rows manifest;
      rows = c.in_ok-rows.ensures.rows h.rows agrees.entries held.files;
      files = subst (λ (fresh : List Revision). Each (IsFileHeld (fresh ++ known)) h.rows) (sym c.new.ensures) held.files;
      texts = record { changeset = subst (λ (t : Option Bytes). IfSome t (λ text. text ≡ changeset_text h.fields)) (sym c.none.ensures.changeset) tt; manifest = subst (λ (t : Option Bytes). IfSome t (λ text. text ≡ rows_text h.rows)) (sym c.none.ensures.manifest) tt };
    }
