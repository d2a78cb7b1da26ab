-- When a saved history holds, and the first block at which it doesn't. A state has a text whether or not the two sides of its blocks agree; this
-- says whether they do. The rule is this project's own.
use Rattle.std.specs.Prelude.{◌≡◌, ◌⊎◌, false, List, [], ◌∷◌, ◌++◌, ⊤}
use Rattle.text_model.specs.Id.{Id, null}
use Rattle.hg_model.specs.Revision.{Revision}
use Rattle.git_model.specs.Object.{Object}
use Rattle.view_model.specs.View.{ChangesetView, SameCommit, HasBodiesOf, CommitFits, paths_of, has_clash}
use Rattle.pair_model.specs.Block.{Block, id_of}
use Rattle.partner_model.specs.Partner.{OfHg, IsHeldView}
use Rattle.partner_model.specs.Given.{IsBlockFor, IsOnLink, IsTooDeep, has_late_file, has_late_manifest}
use Rattle.partner_model.specs.Clash.{MeetsCollision}
use Rattle.saved_model.specs.Step.{known_of}
use Rattle.state_model.specs.Kept.{State, kept_of}

-- The changeset has a partner over the blocks before it, and this is its block, with the links of the partner. None has one that a pull would
-- refuse as PathClash, ParentIsLink, NestLimit, PairLimit, FileParentLate or ManifestParentLate, or for bodies that collide on the way to its depth.
pub record HasPartner (known : List Revision) (objects : List Object) (before : List Block) (h : ChangesetView) (b : Block) : Type 0 where
  pub no_clash : has_clash (paths_of h.rows) ≡ false
  pub on_no_link : ¬ (IsOnLink before (IsHeldView known) h)
  pub no_collision : ¬ (MeetsCollision before (IsHeldView known) objects (OfHg h))
  pub not_deep : ¬ (IsTooDeep before (IsHeldView known) (OfHg h))
  pub block : IsBlockFor before (IsHeldView known) (OfHg h) b
  pub fits : CommitFits b.commit
  pub files_in_time : has_late_file before h.rows ≡ false
  pub manifest_in_time : has_late_manifest before h.manifest ≡ false

-- The commit of the block is the partner of its changeset, by fields, paths, modes and ids; its links are those of the partner; and the blobs of its
-- files are the bodies of the changeset.
pub record IsRight (known : List Revision) (objects : List Object) (before : List Block) (b : Block) : Type 0 where
  pub partner : Block
  pub gets : HasPartner known objects before b.changeset partner
  pub commit : SameCommit b.commit partner.commit
  pub links : b.links ≡ partner.links
  pub bodies : HasBodiesOf (b.changeset).rows (b.commit).rows

-- each of the blocks is right over those before it
unfoldable pub Holds : List Revision → List Object → List Block → List Block → Type 0
Holds known objects before [] = ⊤
Holds known objects before (b ∷ rest) = IsRight known objects before b × Holds known objects (before ++ b ∷ []) rest

-- The id of the right commit. It is null where the changeset has no partner, and where the commit is the partner, so that only links or bodies differ.
abbrev pub IsRightId : List Revision → List Object → List Block → Block → Id → Type 0
IsRightId known objects before b right =
    ((d : Block) × HasPartner known objects before b.changeset d × (¬ (SameCommit b.commit d.commit)) × (right ≡ id_of d))
    ⊎ ((d : Block) × HasPartner known objects before b.changeset d × SameCommit b.commit d.commit × (right ≡ null))
    ⊎ (((d : Block) → ¬ (HasPartner known objects before b.changeset d)) × (right ≡ null))

-- the first of the blocks that isn't right: the id of its commit, and the id of the right one
pub record DiffersIn (known : List Revision) (objects : List Object) (blocks : List Block) (kept right : Id) : Type 0 where
  pub before : List Block
  pub block : Block
  pub after : List Block
  pub split : blocks ≡ before ++ block ∷ after
  pub hold : Holds known objects [] before
  pub wrong : ¬ (IsRight known objects before block)
  pub kept_is : kept ≡ id_of block
  pub right_is : IsRightId known objects before block right

-- each block of a saved history is right, over what its text brings
abbrev pub StateHolds : State → Type 0
StateHolds s = Holds (known_of (kept_of s)).revisions (known_of (kept_of s)).objects [] s.blocks

-- the first block of a saved history that isn't right
abbrev pub StateDiffers : State → Id → Id → Type 0
StateDiffers s kept right = DiffersIn (known_of (kept_of s)).revisions (known_of (kept_of s)).objects s.blocks kept right
