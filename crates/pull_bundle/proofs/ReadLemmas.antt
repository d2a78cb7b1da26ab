-- What the reading of a bundle leaves of a state.
use Rattle.std.proofs.Common.{◌≡◌, ◌⊎◌, ◌++◌, ℕ, Bool, true, false, not, inl, inr, List, [], ◌∷◌, Option, Some, None, Ok, Err, refl, sym, ap, subst, ◌∙◌, map}
use Rattle.std.specs.Prelude.{IfSome, IsTrue, Result, if◌then◌else◌}
use Rattle.text_model.specs.Lists.{Each, In, SomeOf}
use Rattle.text_model.specs.Text.{Bytes}
use Rattle.text_model.specs.Id.{Id, has_id}
use Rattle.text_model.specs.Fault.{Refusal}
use Rattle.text_model.proofs.Elements.{each_from}
use Rattle.text_model.proofs.Options.{some_is, none_some}
use Rattle.tree_shape.proofs.Elements.{in-append}
use Rattle.bridge_text.specs.Refusals.{refusal_value}
use Rattle.hg_model.specs.Revision.{Revision, knows, known_after, known_after_all}
use Rattle.hg_model.specs.Reading.{Arrival, bundle_reading}
use Rattle.hg_bundle.specs.declared.arrival.Arrival as listed
use Rattle.hg_bundle.specs.declared.fault.BundleFault.{BundleFault}
use Rattle.hg_bundle.specs.declared.fault.BundleFault.TheVariants as bundle
use Rattle.hg_bundle.specs.Faults as read
use Rattle.hg_bundle.specs.Arrivals.{Reads, AreArrivals, AreMarked, refused, arrival_of, revisions_of}
use Rattle.git_store.specs.Known.{AreKnown}
use Rattle.hg_store.specs.Known.{AreAdded}
use Rattle.view_model.specs.View.{changeset_node}
use Rattle.view_model.specs.Held.{AreChangesetsHeld}
use Rattle.pair_model.specs.Block.{Block, changesets_in}
use Rattle.pair_known.specs.declared.known.Known.{Known}
use Rattle.pair_known.specs.Blocks.{IsHistoryHeld}
use Rattle.pair_state.specs.declared.state_parts.StateParts.{StateParts}
use Rattle.pair_state.specs.Blocks.{IsAgreed, IsStateOf, value_of}
use Rattle.pull_outcome.specs.Names.{IsOfPullHg}
use Rattle.pull_outcome.specs.Refused.{IsRefusedBy, FaultCause, bundle_refused}
use Rattle.pull_bundle.specs.Takes.{HasRead, IsListed}
use Rattle.pull_bundle.proofs.Known.{grown, changeset-more, changesets-more}

-- ---- entries that are fresh

-- a revision that wasn't known is listed as fresh
abbrev pub IsFreshOf : List Revision → List listed.Arrival → Revision → Type 0
IsFreshOf known list r = In r known ⊎ SomeOf list (λ e. (e.fresh ≡ true) × IsListed r e)

marked-fresh : (known : List Revision) (came : List Arrival) → AreMarked known came → (r : Revision) → In r (known_after_all known (revisions_of came)) → IsFreshOf known (map arrival_of came) r
marked-fresh known [] marked r i = inl i
marked-fresh known (a ∷ came) marked r i = by (marked-fresh (known_after known a.revision) came marked.1 r i)
  where
    old : In r known ⊎ In r (a.revision ∷ []) → a.fresh ≡ true → IsFreshOf known (map arrival_of (a ∷ came)) r
    old (inl j) fresh = inl j
    old (inr (inl e)) fresh = inr (inl (fresh, subst (λ (x : Revision). IsListed x (arrival_of a)) (sym e) (refl, refl, refl)))
    old (inr (inr j)) fresh = absurd j

    after : (b : Bool) → knows known (a.revision).group (a.revision).node ≡ b → In r (if b then known else known ++ a.revision ∷ []) → IsFreshOf known (map arrival_of (a ∷ came)) r
    after true e j = inl j
    after false e j = old (in-append r known (a.revision ∷ []) j) (marked.0 ∙ ap not e)

    by : IsFreshOf (known_after known a.revision) (map arrival_of came) r → IsFreshOf known (map arrival_of (a ∷ came)) r
    by (inl j) = after (knows known (a.revision).group (a.revision).node) refl j
    by (inr some) = inr (inr some)

pub grown-fresh : (before known hg : List Revision) (list : List listed.Arrival) → AreArrivals before hg list → before ≡ known → Each (IsFreshOf known list) hg
grown-fresh before known hg list grown same =
    each_from (IsFreshOf known list) hg (λ r i.
    subst (λ (l : List listed.Arrival). IsFreshOf known l r) (sym grown.1)
    (subst (λ (l : List Revision). IsFreshOf l (map arrival_of grown.0) r) same (marked-fresh before grown.0 grown.3 r (subst (λ (l : List Revision). In r l) grown.2 i))))

-- ---- the next state

-- the next state has another store of revisions, and all else as it was
pub record HasStore (s next : StateParts) (hg : List Revision) : Type 0 where
  pub known : next.known ≡ record { hg = hg; git = s.known.git; partners = s.known.partners }
  pub blocks : next.blocks ≡ s.blocks
  pub changesets : next.changesets ≡ s.changesets
  pub commits : next.commits ≡ s.commits
  pub tags : next.tags ≡ s.tags
  pub names : next.names ≡ s.names
  pub agreed : next.agreed ≡ s.agreed

module _ (s next : StateParts) (hg rs : List Revision) (has : HasStore s next hg) (is : hg ≡ known_after_all s.known.hg rs) (added : AreAdded s.known.hg → AreAdded hg) where
  abbrev more : List Revision
  more = (grown s.known.hg rs).0

  whole : hg ≡ s.known.hg ++ more
  whole = is ∙ (grown s.known.hg rs).1

  agreed-more : (node : Id) → IsAgreed s.known.hg s.known.git node → IsAgreed next.known.hg next.known.git node
  agreed-more node a =
      subst (λ (k : Known). IsAgreed k.hg k.git node) (sym has.known)
      (subst (λ (l : List Revision). IsAgreed l s.known.git node) (sym whole)
      (record { view = a.view; held = changeset-more s.known.hg more node a.view a.held; blobs = a.blobs }))

  state-more : (blocks : List Block) → IsStateOf s blocks → IsStateOf next blocks
  state-more blocks state =
      let held = state.held.held in
      record {
        held = subst (λ (k : Known). IsHistoryHeld k blocks) (sym has.known) (record {
          held = record {
            changesets = subst (λ (l : List Revision). AreChangesetsHeld l (map changeset_node (changesets_in blocks)) (changesets_in blocks)) (sym whole)
                (changesets-more s.known.hg more (map changeset_node (changesets_in blocks)) (changesets_in blocks) held.changesets);
            commits = held.commits;
            walks = held.walks;
            partners = held.partners;
          };
          no_links = state.held.no_links;
          added = added state.held.added;
          partners = state.held.partners;
        });
        sound = subst (λ (k : Known). AreKnown k.git) (sym has.known) state.sound;
        blocks_are = ap (map value_of) has.blocks ∙ state.blocks_are;
        changesets = has.changesets ∙ state.changesets;
        commits = has.commits ∙ state.commits;
        agreed = λ node in_it. agreed-more node (state.agreed node (subst (λ (l : List Id). IsTrue (has_id l node)) has.agreed in_it));
      }

  pub has-read : (list : List listed.Arrival) (came : List Arrival) → list ≡ map arrival_of came → rs ≡ revisions_of came → Each (IsFreshOf s.known.hg list) hg → HasRead s next list came
  has-read list came are revisions fresh = record {
    are = are;
    store = ap (λ (k : Known). k.hg) has.known ∙ is ∙ ap (known_after_all s.known.hg) revisions;
    fresh = subst (λ (k : Known). Each (IsFreshOf s.known.hg list) k.hg) (sym has.known) fresh;
    git = ap (λ (k : Known). k.git) has.known;
    state = state-more;
    blocks = has.blocks;
    tags = has.tags;
    names = has.names;
  }

pub told : (o : Option Bytes) (s next : StateParts) (hg : List Revision) (list : List listed.Arrival) → HasStore s next hg → (AreAdded s.known.hg → AreAdded hg) → Each (IsFreshOf s.known.hg list) hg
    → IfSome o (λ bytes. Reads s.known.hg bytes (Ok (hg, list)))
    → IfSome o (λ bytes. (came : List Arrival) × (bundle_reading s.known.hg bytes ≡ Ok came) × HasRead s next list came)
told None s next hg list has added fresh h = h
told (Some bytes) s next hg list has added fresh h = (h.0, h.1, has-read s next hg (revisions_of h.0) has h.3 added list h.0 h.2 refl fresh)

-- ---- why it isn't read

is-refused : (r : Result (List Arrival) Refusal) (why : Refusal) → refused r ≡ Some why → r ≡ Err why
is-refused (Ok came) why h = absurd (none_some h)
is-refused (Err found) why h = ap Err (some_is h)

pub fault-refused : (o : Option Bytes) (known : List Revision) (fault : BundleFault) → IfSome o (λ bytes. Reads known bytes (Err fault))
    → IfSome o (λ bytes. IsRefusedBy (λ why. bundle_reading known bytes ≡ Err why) (bundle_refused fault))
fault-refused None known fault h = tt
fault-refused (Some bytes) known (bundle.Refused why) h = is-refused (bundle_reading known bytes) (refusal_value why) h
fault-refused (Some bytes) known bundle.Read h = tt
fault-refused (Some bytes) known bundle.Memory h = tt

pub fault-cause : (before now : ℕ) (fault : BundleFault) → read.FaultCause before now fault → FaultCause before now (bundle_refused fault)
fault-cause before now (bundle.Refused why) h = h
fault-cause before now bundle.Read h = h
fault-cause before now bundle.Memory h = h

pub fault-names : (fault : BundleFault) → read.IsReadFault fault → IsOfPullHg (bundle_refused fault)
fault-names (bundle.Refused why) h = inl h
fault-names bundle.Read h = tt
fault-names bundle.Memory h = tt
