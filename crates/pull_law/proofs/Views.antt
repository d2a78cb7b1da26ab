-- A changeset that gives a block isn't refused, and one that is refused has one name.
use Rattle.std.proofs.Common.{◌≡◌, false, true≢false, List, [], ◌∷◌, map, Some, sym, ap, subst, ◌∙◌, inl, inr}
use Rattle.std.specs.Prelude.{is_some, IsTrue}
use Rattle.text_model.specs.Lists.{Each, SomeOf}
use Rattle.text_model.specs.Fault.{FaultName}
use Rattle.text_model.specs.Fault as fault
use Rattle.text_model.proofs.Options.{some_is}
use Rattle.hg_model.specs.Changeset.{Changeset, IsChangesetText}
use Rattle.hg_model.specs.Manifest.{ManifestEntry, IsManifestText}
use Rattle.text_model.specs.Id.{Id}
use Rattle.hg_model.specs.Revision.{Revision, Changesets, FilesAt, revision_of, knows}
use Rattle.hg_model.proofs.ChangesetLemmas.{one_changeset}
use Rattle.hg_model.proofs.ManifestLemmas.{one_manifest}
use Rattle.git_model.specs.Object.{Object}
use Rattle.view_model.specs.View.{Row, ChangesetView, ManifestParents, NoManifest, Over, entry_of_row, CommitFits}
use Rattle.view_model.specs.Held.{IsFileHeld, IsManifestHeld, IsChangesetHeld}
use Rattle.pair_model.specs.Block.{Block}
use Rattle.partner_model.specs.Partner.{OfHg, IsHeldView}
use Rattle.partner_model.specs.Given.{IsBlockFor, has_late_file, has_late_manifest}
use Rattle.partner_model.specs.Clash.{commit_side_collides}
use Rattle.partner_model.specs.Table.{IsTable}
use Rattle.history_model.specs.Pull.{Unless, LacksManifest, LacksFile, ViewRefused, ViewPasses, ChangesetRefused, GivesBlock}
use Rattle.hg_view.proofs.One.{one_held}
use Rattle.pull_law.proofs.Choices.{IsOneName, unless-one, unless-none, not-true}
use Rattle.pull_law.proofs.Known.{HasNoNull}
use Rattle.pull_law.proofs.Members.{one-block, block-refusal_one, block-or_refused}

-- ---- a changeset with all its files

-- the block of a changeset has it
own-changeset : (blocks : List Block) (Known : ChangesetView → Type 0) (h : ChangesetView) (b : Block) → IsBlockFor blocks Known (OfHg h) b → b.changeset ≡ h
own-changeset blocks Known h b is = ap (λ (d : Block). d.changeset) is.2

module _ (known : List Revision) (none : HasNoNull known) (objects : List Object) (blocks : List Block) (table : IsTable blocks) (h : ChangesetView) where
  abbrev IsLarge : Block → Type 0
  IsLarge b = ¬ (CommitFits b.commit)

  abbrev Collides : Block → Type 0
  Collides b = IsTrue (commit_side_collides objects blocks b)

  view-refusal_one : IsOneName (ViewRefused known objects blocks h)
  view-refusal_one =
      unless-one _ fault.PathClash _ (unless-one _ fault.ParentIsLink _ (unless-one _ fault.Collision _
      (unless-one _ fault.NestLimit _ (block-refusal_one known none blocks table (OfHg h) IsLarge Collides))))

  passes-or_refused : (b : Block) (found : FaultName) → ViewPasses known objects blocks h b → ViewRefused known objects blocks h found → ⊥
  passes-or_refused b found p =
      let own = own-changeset blocks (IsHeldView known) h b p.block in
      unless-none _ fault.PathClash _ (not-true p.no_clash)
      (unless-none _ fault.ParentIsLink _ p.on_no_link
      (unless-none _ fault.Collision _ p.no_collision
      (unless-none _ fault.NestLimit _ p.not_deep
      (block-or_refused known none blocks table (OfHg h) IsLarge Collides b p.block (λ n. n p.fits)
      (ap (λ (v : ChangesetView). has_late_file blocks v.rows) own ∙ p.files_in_time)
      (ap (λ (v : ChangesetView). has_late_manifest blocks v.manifest) own ∙ p.manifest_in_time) (not-true p.apart))))) found

-- ---- a changeset that is held lacks nothing

all-there : (known : List Revision) (rows : List Row) → Each (IsFileHeld known) rows
    → SomeOf (map entry_of_row rows) (λ e. knows known (FilesAt e.path) e.node ≡ false) → ⊥
all-there known [] h s = s
all-there known (row ∷ rows) h s = elim s [
  | inl e ↦ true≢false (sym (ap is_some h.0.is_held) ∙ e)
  | inr later ↦ all-there known rows h.1 later
]

-- a changeset with all its files is held under the node of a revision
module _ (known : List Revision) (node : Id) (r : Revision) (at : revision_of known Changesets node ≡ Some r) (h : ChangesetView) (held : IsChangesetHeld known node h) where
  same_fields : (x : Changeset) → IsChangesetText r.text x → x ≡ h.fields
  same_fields x text = one_changeset r.text x h.fields text (subst (λ (s : Revision). IsChangesetText s.text h.fields) (some_is (sym held.is_held ∙ at)) held.fields)

  pub no-manifest_lacks : LacksManifest known r → ⊥
  no-manifest_lacks l = by h.manifest h.rows
      (subst (λ (x : Changeset). IsManifestHeld known x.manifest h.manifest h.rows) (sym (same_fields l.fields l.text)) held.manifest)
    where
      by : (m : ManifestParents) (rows : List Row) → IsManifestHeld known (l.fields).manifest m rows → ⊥
      by NoManifest rows k = l.some k.0
      by (Over p q) rows k = true≢false (sym (ap is_some k.is_held) ∙ l.unknown)

  pub no-file_lacks : LacksFile known r → ⊥
  no-file_lacks l =
      by h.manifest h.rows (subst (λ (x : Changeset). IsManifestHeld known x.manifest h.manifest h.rows)
      (sym (same_fields l.fields l.text)) held.manifest) held.files
    where
      by : (m : ManifestParents) (rows : List Row) → IsManifestHeld known (l.fields).manifest m rows → Each (IsFileHeld known) rows → ⊥
      by NoManifest rows k files = l.some k.0
      by (Over p q) rows k files =
          let manifest : k.revision ≡ l.manifest = some_is (sym k.is_held ∙ l.is_held) in
          let entries : l.entries ≡ map entry_of_row rows =
          one_manifest (l.manifest).text l.entries (map entry_of_row rows) l.lines
          (subst (λ (s : Revision). IsManifestText s.text (map entry_of_row rows)) manifest k.text) in
          all-there known rows files (subst (λ (es : List ManifestEntry). SomeOf es (λ e. knows known (FilesAt e.path) e.node ≡ false)) entries l.unknown)

-- ---- the block of a changeset, and why there is none

module _ (known : List Revision) (none : HasNoNull known) (objects : List Object) (blocks : List Block) (table : IsTable blocks) (node : Id) where
  pub block-one : (a b : Block) → GivesBlock known objects blocks node a → GivesBlock known objects blocks node b → a ≡ b
  block-one a b x y =
      one-block known none blocks table (OfHg x.view) a b (x.passes).block
      (subst (λ (h : ChangesetView). IsBlockFor blocks (IsHeldView known) (OfHg h) b) (one_held known none node y.view x.view y.is_held x.is_held) (y.passes).block)

  abbrev ViewRefusedAt : FaultName → Type 0
  ViewRefusedAt found = (h : ChangesetView) × IsChangesetHeld known node h × ViewRefused known objects blocks h found

  -- why the changeset is refused that this revision is
  abbrev RefusedAs : Revision → FaultName → Type 0
  RefusedAs r = Unless (LacksManifest known r) fault.ManifestUnknown (Unless (LacksFile known r) fault.FileUnknown ViewRefusedAt)

  view-name_one : IsOneName ViewRefusedAt
  view-name_one a b x y =
      view-refusal_one known none objects blocks table x.0 a b x.2
      (subst (λ (h : ChangesetView). ViewRefused known objects blocks h b) (one_held known none node y.0 x.0 y.1 x.1) y.2)

  pub refusal-one : IsOneName (ChangesetRefused known objects blocks node)
  refusal-one a b x y =
      unless-one (LacksManifest known x.0) fault.ManifestUnknown _ (unless-one (LacksFile known x.0) fault.FileUnknown _ view-name_one) a b x.2
      (subst (λ (r : Revision). RefusedAs r b) (some_is (sym y.1 ∙ x.1)) y.2)

  pub gives-or_refused : (b : Block) (found : FaultName) → GivesBlock known objects blocks node b → ChangesetRefused known objects blocks node found → ⊥
  gives-or_refused b found x why =
      unless-none (LacksManifest known why.0) fault.ManifestUnknown _ (no-manifest_lacks known node why.0 why.1 x.view x.is_held)
      (unless-none (LacksFile known why.0) fault.FileUnknown _ (no-file_lacks known node why.0 why.1 x.view x.is_held)
      (λ name v. refused-view name v)) found why.2
    where
      refused-view : (name : FaultName) → ViewRefusedAt name → ⊥
      refused-view name v =
          passes-or_refused known none objects blocks table x.view b name x.passes
          (subst (λ (h : ChangesetView). ViewRefused known objects blocks h name) (one_held known none node v.0 x.view v.1 x.is_held) v.2)
