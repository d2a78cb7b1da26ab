-- A changeset that is held has a view.
use Rattle.std.proofs.Common.{◌≡◌, ◌<◌, ℕ, zero, suc, false, List, [], ◌∷◌, length, map, get_or, refl, sym, ap, subst, arith}
use Rattle.std.specs.Prelude.{not, IsTrue}
use Rattle.std.specs.Borrow.{Bor}
use Rattle.text_model.specs.Lists.{Each}
use Rattle.text_model.specs.Id.{Id}
use Rattle.hg_model.specs.Changeset as model
use Rattle.hg_model.specs.Changeset.{IsChangesetText}
use Rattle.hg_model.specs.Manifest.{ManifestEntry}
use Rattle.hg_model.specs.Revision.{Revision, FilesAt, knows}
use Rattle.hg_changeset.specs.Values.{changeset_value, date_value}
use Rattle.hg_changeset.specs.declared.changeset.Changeset.{Changeset}
use Rattle.hg_changeset.specs.declared.date.DateLine.{DateLine}
use Rattle.hg_changeset.specs.declared.date.DateLine.TheVariants as line
use Rattle.hg_store.specs.Known.{AreAdded}
use Rattle.hg_store.specs.Views.{is_unknown}
use Rattle.hg_store.proofs.ViewLemmas.{position-none}
use Rattle.view_model.specs.View.{ChangesetView, entry_of_row}
use Rattle.view_model.specs.Held.{IsChangesetHeld}
use Rattle.pair_known.specs.Drafts.{HasView}
use Rattle.pair_known.proofs.HeldViews.{manifest_of-held, entries_known}

lent : {X : Type 0} → X → Bor X
lent x = record { ref_ptr = (0, 0); now = x }

date-of : model.DateLine → DateLine
date-of (model.Plain time tz extras) = line.Plain time tz extras
date-of (model.Raw text) = line.Raw text

date-back : (d : model.DateLine) → date_value (date-of d) ≡ d
unfolding date-of
date-back (model.Plain time tz extras) = refl
date-back (model.Raw text) = refl

fields-of : model.Changeset → Changeset
fields-of x = record { manifest = x.manifest; user = x.user; date = date-of x.date; files = x.files; desc = x.description }

fields-back : (x : model.Changeset) → changeset_value (fields-of x) ≡ x
unfolding fields-of
fields-back x = λ i. record { manifest = x.manifest; user = x.user; date = date-back x.date i; files = x.files; description = x.description }

known-at : (known : List Revision) (es : List ManifestEntry) → Each (λ e. IsTrue (knows known (FilesAt e.path) e.node)) es → (k : ℕ) (d : ManifestEntry) → k < length es → is_unknown known (get_or es k d) ≡ false
known-at known [] h k d below = absurd (omega (arith, below))
known-at known (e ∷ es) h zero d below = ap not h.0
known-at known (e ∷ es) h (suc k) d below = known-at known es h.1 k d (omega (arith, below))

pub has-view : (known : List Revision) → AreAdded known → (node : Id) (h : ChangesetView) → IsChangesetHeld known node h → HasView known node
unfolding fields-of lent
has-view known added node h held = (
  record { p1 = (held.revision).p; p2 = (held.revision).q; changeset = lent (fields-of h.fields); manifest_node = (h.fields).manifest; manifest = lent (map entry_of_row h.rows) },
  record {
    changeset = record {
      revision = held.revision;
      is_held = held.is_held;
      first = refl;
      second = refl;
      fields = subst (IsChangesetText (held.revision).text) (sym (fields-back h.fields)) held.fields;
    };
    manifest_node = refl;
    manifest = manifest_of-held known added (h.fields).manifest h.manifest h.rows held.manifest;
    files = position-none (is_unknown known) (map entry_of_row h.rows) (known-at known (map entry_of_row h.rows) (entries_known known h.rows held.files));
  },
)
