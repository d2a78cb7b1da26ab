-- What a bundle leaves over: entries to which no changeset refers, and links that stand in no block.
use Rattle.std.specs.Prelude.{◌≡◌, ◌⊎◌, ◌↔◌, false, true, List, map, IsTrue}
use Rattle.text_model.specs.Lists.{Each, In, SomeOf, IsFirstThat}
use Rattle.text_model.specs.Id.{Id}
use Rattle.text_model.specs.Fault.{Refusal, refusal}
use Rattle.text_model.specs.Fault as fault
use Rattle.hg_model.specs.Changeset.{Changeset}
use Rattle.hg_model.specs.Revision.{Group, Changesets, Revision, knows}
use Rattle.hg_model.specs.Reading.{Arrival}
use Rattle.view_model.specs.Dump.{revisions_in}
use Rattle.pair_model.specs.Block.{Block, changesets_in}
use Rattle.history_model.specs.Pull as model
use Rattle.history_model.specs.Pull.{IsKnownLink, IsOrphan, Dangles, is_changesets, revisions_among}
use Rattle.hg_store.specs.Views.{IsChangesetOf}
use Rattle.hg_dump.specs.declared.refers.Refers.{Refers}
use Rattle.hg_dump.specs.Refers.{RefersTo, IsNamedBy}
use Rattle.hg_bundle.specs.declared.arrival.Arrival as listed
use Rattle.hg_bundle.specs.Arrivals.{arrival_of}
use Rattle.pair_state.specs.declared.state_parts.StateParts.{StateParts}
use Rattle.pair_state.specs.AllBlocks.{stands_in}
use Rattle.pair_state.specs.Blocks.{IsStateOf}

-- What came was taken: each changeset that is known stands in a block, or it came and is a link.
pub record HasTaken (s : StateParts) (refers : Refers) (blocks : List Block) (list : List listed.Arrival) (came : List Arrival) : Type 0 where
  pub are : list ≡ map arrival_of came
  pub state : IsStateOf s blocks
  pub referred : RefersTo refers (revisions_in (changesets_in blocks))
  pub saved : Each (λ r. r.group ≡ Changesets → IsTrue (stands_in blocks r.node) ⊎ (IsKnownLink s.known.hg r.node × In r (revisions_among came))) s.known.hg

-- nothing is left over
pub record HasNothingOver (known : List Revision) (blocks : List Block) (came : List Arrival) : Type 0 where
  pub no_orphan : Each (λ a. ¬ (IsOrphan known a)) came
  pub no_dangling : Each (λ a. ¬ (Dangles known blocks a)) came

-- of the manifests and file revisions these are just those to which a known changeset refers
abbrev pub ReferToJust : List Revision → List Revision → Type 0
ReferToJust known rs = (r : Revision) → is_changesets r.group ≡ false → (knows rs r.group r.node ≡ true) ↔ SomeOf known (λ c. model.RefersTo known c r)

-- the revisions referred to are those to which the known changesets refer
abbrev pub AreReferred : List Revision → Refers → Type 0
AreReferred known referred = (rs : List Revision) × RefersTo referred rs × ReferToJust known rs

-- just the revisions that one of the links names which stand in no block have their groups and nodes among these
abbrev pub NameMore : List Revision → List Block → List Arrival → List Revision → Type 0
NameMore known blocks came more =
    (group : Group) (n : Id) → (knows more group n ≡ true) ↔ SomeOf came (λ a. Dangles known blocks a × IsNamedBy known (a.revision).node group n)

-- the changeset is known and names this manifest
pub record NamesManifest (known : List Revision) (node manifest : Id) : Type 0 where
  pub p : Id
  pub q : Id
  pub fields : Changeset
  pub changeset : IsChangesetOf known node p q fields
  pub names : manifest ≡ fields.manifest

-- the first entry to which no known changeset refers
pub record IsFirstOrphan (known : List Revision) (came : List Arrival) (why : Refusal) : Type 0 where
  pub orphan : Arrival
  pub first : IsFirstThat (IsOrphan known) came orphan
  pub is : why ≡ refusal fault.Orphan (orphan.revision).node orphan.at
