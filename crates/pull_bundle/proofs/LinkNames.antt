-- What the links name that stand in no block, link by link.
use Rattle.std.proofs.Common.{◌≡◌, ◌+◌, ◌||◌, ◌⊎◌, ℕ, Bool, true, true≢false, not, List, [], ◌∷◌, ◌++◌, take, Some, inl, inr, refl, sym, ap, subst, ◌∙◌}
use Rattle.std.specs.Prelude.{◌↔◌, IsTrue, is_some, slice_get}
use Rattle.std.proofs.lemmas.Bool.{or_left, or_right}
use Rattle.text_model.specs.Lists.{SomeOf}
use Rattle.text_model.specs.Text.{Bytes}
use Rattle.text_model.specs.Id.{Id, has_id}
use Rattle.text_model.proofs.Elements.{take_push}
use Rattle.text_model.proofs.Options.{none_is, not_true, some_is}
use Rattle.hg_model.specs.Changeset.{Changeset, IsChangesetText}
use Rattle.hg_model.specs.Manifest.{ManifestEntry}
use Rattle.hg_model.specs.Revision.{Group, Manifests, FilesAt, Revision, knows}
use Rattle.hg_model.proofs.ChangesetLemmas.{one_changeset}
use Rattle.hg_store.specs.Views.{IsChangesetOf, IsManifestOf}
use Rattle.hg_model.specs.Reading.{Arrival}
use Rattle.hg_dump.specs.Refers.{IsNamedBy, AreNamedBy}
use Rattle.pair_model.specs.Block.{Block, changesets_in, view_at}
use Rattle.history_model.specs.Pull.{IsKnownLink, Dangles, is_changesets}
use Rattle.pair_state.specs.declared.state_parts.StateParts.{StateParts}
use Rattle.pair_state.specs.Blocks.{IsStateOf}
use Rattle.pair_state.proofs.BlockLemmas.{has-view}
use Rattle.pair_state.proofs.Refers.{knows-append}
use Rattle.pull_bundle.specs.LeftOver.{NameMore, NamesManifest}
use Rattle.pull_bundle.proofs.FirstThat.{some-in, some-parts, some-left, some-right, some-split}
use Rattle.pull_bundle.proofs.LeftOverLemmas.{or-either}

-- a known link stands in no block where its node is none of the state's
pub dangles-is : (s : StateParts) (blocks : List Block) (a : Arrival) → IsStateOf s blocks → IsTrue (is_changesets (a.revision).group) → IsKnownLink s.known.hg (a.revision).node → (b : Bool) → b ≡ has_id s.changesets (a.revision).node
    → IsTrue (not b) ↔ Dangles s.known.hg blocks a
dangles-is s blocks a state one link b is = (
  λ h. (one, link, none_is (view_at (changesets_in blocks) (a.revision).node) (sym stands ∙ not_true b h)),
  λ d. ap not (stands ∙ ap is_some d.2),
)
  where
    stands : b ≡ is_some (view_at (changesets_in blocks) (a.revision).node)
    stands = is ∙ ap (λ (ns : List Id). has_id ns (a.revision).node) state.changesets ∙ has-view (changesets_in blocks) (a.revision).node

-- the node is that of one changeset, which names one manifest
pub same-manifest : (known : List Revision) (node p q m : Id) (x : Changeset) → IsChangesetOf known node p q x → NamesManifest known node m → m ≡ x.manifest
same-manifest known node p q m x is names =
    let at = names.changeset in
    let same : at.revision ≡ is.revision = some_is (sym at.is_held ∙ is.is_held) in
    names.names ∙ ap (λ (y : Changeset). y.manifest) (one_changeset (is.revision).text names.fields x (subst (λ (r : Revision). IsChangesetText r.text names.fields) same at.fields) is.fields)

-- each of these manifests is named by one of the links that stand in no block
abbrev pub AreOfLinks : List Revision → List Block → List Arrival → List Id → Type 0
AreOfLinks known blocks came manifests = (m : Id) → has_id manifests m ≡ true → SomeOf came (λ a. Dangles known blocks a × NamesManifest known (a.revision).node m)

pub of-none : (known : List Revision) (blocks : List Block) (manifests : List Id) → manifests ≡ [] → AreOfLinks known blocks [] manifests
of-none known blocks manifests none m h = absurd (true≢false (sym h ∙ ap (λ (l : List Id). has_id l m) none))

-- what a changeset names that has this manifest
abbrev NamesAt : List Revision → Group → Id → Id → Type 0
NamesAt known group n m = ((group ≡ Manifests) × (n ≡ m))
    ⊎ ((path : Bytes) × (group ≡ FilesAt path) × (entries : List ManifestEntry) × IsManifestOf known m entries × SomeOf entries (λ e. (e.path ≡ path) × (e.node ≡ n)))

named-alike : (known : List Revision) (one other : Id) (group : Group) (n : Id) (by : IsNamedBy known one group n) → NamesManifest known other (by.fields).manifest → IsNamedBy known other group n
named-alike known one other group n by names = record {
  p = names.p;
  q = names.q;
  fields = names.fields;
  changeset = names.changeset;
  some = λ null. by.some (names.names ∙ null);
  names = subst (NamesAt known group n) names.names by.names;
}

pub name-none : (known : List Revision) (blocks : List Block) → NameMore known blocks [] []
name-none known blocks group n = (λ h. true≢false (sym h), λ h. absurd h)

module _ (known : List Revision) (blocks : List Block) (came : List Arrival) (i : ℕ) (a : Arrival) (at : slice_get came i ≡ Some a) (more : List Revision) (name : NameMore known blocks (take i came) more) where
  abbrev Names : Group → Id → Arrival → Type 0
  Names group n x = Dangles known blocks x × IsNamedBy known (x.revision).node group n

  next-some : (group : Group) (n : Id) → SomeOf (take i came) (Names group n) ⊎ Names group n a → SomeOf (take (i + 1) came) (Names group n)
  next-some group n (inl h) = subst (λ (l : List Arrival). SomeOf l (Names group n)) (sym (take_push came i a at)) (some-left (Names group n) (take i came) (a ∷ []) h)
  next-some group n (inr h) = subst (λ (l : List Arrival). SomeOf l (Names group n)) (sym (take_push came i a at)) (some-right (Names group n) (take i came) (a ∷ []) (inl h))

  some-next : (group : Group) (n : Id) → SomeOf (take (i + 1) came) (Names group n) → SomeOf (take i came) (Names group n) ⊎ Names group n a
  some-next group n h = last (some-split (Names group n) (take i came) (a ∷ []) (subst (λ (l : List Arrival). SomeOf l (Names group n)) (take_push came i a at) h))
    where
      last : SomeOf (take i came) (Names group n) ⊎ SomeOf (a ∷ []) (Names group n) → SomeOf (take i came) (Names group n) ⊎ Names group n a
      last (inl k) = inl k
      last (inr (inl k)) = inr k
      last (inr (inr k)) = absurd k

  -- one that isn't such a link
  pub name-skip : ¬ (Dangles known blocks a) → NameMore known blocks (take (i + 1) came) more
  name-skip other group n = (λ h. next-some group n (inl ((name group n).0 h)), λ h. by (some-next group n h))
    where
      by : SomeOf (take i came) (Names group n) ⊎ Names group n a → knows more group n ≡ true
      by (inl k) = (name group n).1 k
      by (inr k) = absurd (other k.0)

  -- one more such link
  pub name-next : Dangles known blocks a → (named : List Revision) → AreNamedBy known (a.revision).node named → NameMore known blocks (take (i + 1) came) (more ++ named)
  name-next dangles named are group n = (
    λ h. next-some group n (to (or-either (knows more group n) (knows named group n) (sym (knows-append more named group n) ∙ h))),
    λ h. knows-append more named group n ∙ by (some-next group n h),
  )
    where
      to : (knows more group n ≡ true) ⊎ (knows named group n ≡ true) → SomeOf (take i came) (Names group n) ⊎ Names group n a
      to (inl k) = inl ((name group n).0 k)
      to (inr k) = inr (dangles, (are group n).0 k)

      by : SomeOf (take i came) (Names group n) ⊎ Names group n a → (knows more group n || knows named group n) ≡ true
      by (inl k) = or_left (knows more group n) _ ((name group n).1 k)
      by (inr k) = or_right (knows more group n) _ ((are group n).1 k.1)

  -- one more that has the manifest of an earlier one
  pub name-again : (manifests : List Id) → AreOfLinks known blocks (take i came) manifests → ((m : Id) → NamesManifest known (a.revision).node m → has_id manifests m ≡ true)
      → NameMore known blocks (take (i + 1) came) more
  name-again manifests of again group n = (λ h. next-some group n (inl ((name group n).0 h)), λ h. by (some-next group n h))
    where
      earlier : IsNamedBy known (a.revision).node group n → SomeOf (take i came) (Names group n)
      earlier named =
          let own : NamesManifest known (a.revision).node (named.fields).manifest = record { p = named.p; q = named.q; fields = named.fields; changeset = named.changeset; names = refl } in
          let b = some-parts (λ b. Dangles known blocks b × NamesManifest known (b.revision).node (named.fields).manifest) (take i came) (of (named.fields).manifest (again (named.fields).manifest own)) in
          some-in (Names group n) (take i came) b.0 b.1 (b.2.0, named-alike known (a.revision).node ((b.0).revision).node group n named b.2.1)

      by : SomeOf (take i came) (Names group n) ⊎ Names group n a → knows more group n ≡ true
      by (inl k) = (name group n).1 k
      by (inr k) = (name group n).1 (earlier k.1)

-- ---- the manifests of the links

module _ (known : List Revision) (blocks : List Block) (came : List Arrival) (i : ℕ) (a : Arrival) (at : slice_get came i ≡ Some a) (manifests : List Id) (of : AreOfLinks known blocks (take i came) manifests) where
  abbrev Has : Id → Arrival → Type 0
  Has m x = Dangles known blocks x × NamesManifest known (x.revision).node m

  pub of-skip : AreOfLinks known blocks (take (i + 1) came) manifests
  of-skip m h = subst (λ (l : List Arrival). SomeOf l (Has m)) (sym (take_push came i a at)) (some-left (Has m) (take i came) (a ∷ []) (of m h))

  pub of-next : Dangles known blocks a → (next : List Id) → ((m : Id) → has_id next m ≡ true → (has_id manifests m ≡ true) ⊎ NamesManifest known (a.revision).node m)
      → AreOfLinks known blocks (take (i + 1) came) next
  of-next dangles next named m h = by (named m h)
    where
      by : (has_id manifests m ≡ true) ⊎ NamesManifest known (a.revision).node m → SomeOf (take (i + 1) came) (Has m)
      by (inl k) = of-skip m k
      by (inr k) = subst (λ (l : List Arrival). SomeOf l (Has m)) (sym (take_push came i a at)) (some-right (Has m) (take i came) (a ∷ []) (inl (dangles, k)))
