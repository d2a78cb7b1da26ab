-- What a bundle leaves over, and the revisions to which known changesets refer.
use Rattle.std.proofs.Common.{◌≡◌, ◌||◌, ◌⊎◌, Bool, true, false, true≢false, not, List, ◌++◌, map, None, inl, inr, refl, sym, ap, subst, ◌∙◌}
use Rattle.std.specs.Prelude.{◌↔◌, IsTrue}
use Rattle.std.proofs.lemmas.Bool.{or_left, or_right}
use Rattle.text_model.specs.Lists.{Each, In, SomeOf}
use Rattle.text_model.specs.Id.{Id}
use Rattle.text_model.proofs.Elements.{each_in}
use Rattle.text_model.proofs.Options.{none_is, not_true}
use Rattle.hg_model.specs.Revision.{Group, Changesets, Manifests, FilesAt, Revision, knows}
use Rattle.hg_model.specs.Reading.{Arrival}
use Rattle.hg_store.specs.Known.{AreAdded}
use Rattle.view_model.specs.View.{ChangesetView, changeset_node}
use Rattle.view_model.specs.Held.{AreChangesetsHeld}
use Rattle.view_model.specs.Dump.{revisions_in}
use Rattle.pair_model.specs.Block.{Block, changesets_in, view_at}
use Rattle.history_model.specs.Pull.{RefersTo, IsKnownLink, IsOrphan, Dangles, LeftOver, is_changesets, revisions_among}
use Rattle.hg_bundle.specs.declared.arrival.Arrival as listed
use Rattle.hg_bundle.specs.declared.arrival.RevKind.TheVariants as kind
use Rattle.hg_bundle.specs.Arrivals.{arrival_of, kind_of, path_of}
use Rattle.hg_dump.specs.declared.refers.Refers.{Refers}
use Rattle.hg_dump.specs.Refers.{IsNamedBy}
use Rattle.hg_dump.proofs.NamedLemmas.{held-named}
use Rattle.pair_state.specs.declared.state_parts.StateParts.{StateParts}
use Rattle.pair_state.specs.AllBlocks.{stands_in, is_referred}
use Rattle.pair_state.proofs.BlockLemmas.{has-view}
use Rattle.pair_state.proofs.Refers.{knows-append, changesets-referred}
use Rattle.pull_outcome.specs.declared.refused.PullFault.{PullFault}
use Rattle.pull_outcome.specs.declared.refused.PullFault.TheVariants.{Refused, Read, Memory}
use Rattle.pull_outcome.specs.Refused.{IsRefusedBy}
use Rattle.pull_bundle.specs.Takes.{IsListed}
use Rattle.pull_bundle.specs.LeftOver.{HasTaken, HasNothingOver, ReferToJust, NameMore, IsFirstOrphan}
use Rattle.pull_bundle.proofs.ArrivalLemmas.{group-is}
use Rattle.pull_bundle.proofs.FirstThat.{some-in, some-parts, in-mapped}
use Rattle.pull_bundle.proofs.Refers.{group-other, named-refers, refers-named, view-of, stands-there}

pub or-either : (a b : Bool) → (a || b) ≡ true → (a ≡ true) ⊎ (b ≡ true)
or-either true b h = inl refl
or-either false b h = inr h

-- ---- orphans

pub orphan-is : (known rs : List Revision) → ReferToJust known rs → (a : Arrival) → a.fresh ≡ true → is_changesets (a.revision).group ≡ false → (b : Bool) → b ≡ knows rs (a.revision).group (a.revision).node
    → IsTrue (not b) ↔ IsOrphan known a
orphan-is known rs just a fresh other b is = (
  λ h. record { fresh = fresh; no_changeset = other; referred = λ some. true≢false (sym ((just a.revision other).1 some) ∙ sym is ∙ not_true b h) },
  λ o. by b refl o,
)
  where
    by : (t : Bool) → b ≡ t → IsOrphan known a → not t ≡ true
    by true e o = absurd (o.referred ((just a.revision other).0 (sym is ∙ e)))
    by false e o = refl

pub old-is : (known : List Revision) (a : Arrival) → a.fresh ≡ false → IsTrue false ↔ IsOrphan known a
old-is known a old = (λ h. absurd (true≢false (sym h)), λ o. absurd (true≢false (sym o.fresh ∙ old)))

pub changeset-is : (known : List Revision) (a : Arrival) → is_changesets (a.revision).group ≡ true → IsTrue false ↔ IsOrphan known a
changeset-is known a one = (λ h. absurd (true≢false (sym h)), λ o. absurd (true≢false (sym one ∙ o.no_changeset)))

-- ---- refusals

pub orphan-left : (known : List Revision) (blocks : List Block) (came : List Arrival) (e : PullFault) → IsRefusedBy (IsFirstOrphan known came) e → IsRefusedBy (LeftOver known blocks came) e
orphan-left known blocks came (Refused why) h = inl (h.orphan, h.first, h.is)
orphan-left known blocks came Read h = tt
orphan-left known blocks came Memory h = tt

-- ---- what is referred to

module _ (s : StateParts) (referred : Refers) (blocks : List Block) (list : List listed.Arrival) (came : List Arrival) (t : HasTaken s referred blocks list came) where
  abbrev known : List Revision
  known = s.known.hg

  abbrev vs : List ChangesetView
  vs = changesets_in blocks

  added : AreAdded known
  added = t.state.held.added

  held : AreChangesetsHeld known (map changeset_node vs) vs
  held = t.state.held.held.changesets

  -- a known changeset refers to what those of the blocks do
  blocks-refer : (r : Revision) → is_changesets r.group ≡ false → knows (revisions_in vs) r.group r.node ≡ true → SomeOf known (λ c. RefersTo known c r)
  blocks-refer r other h =
      let v = view-of known (map changeset_node vs) vs held r.group r.node h in
      named-refers known v.0 r ((held-named known added v.0 v.1 v.2 r.group r.node (group-other r.group other)).0 v.3)

  -- to what a changeset refers that stands in a block, those of the blocks refer
  standing-refers : (r c : Revision) → is_changesets r.group ≡ false → In c known → RefersTo known c r → stands_in blocks c.node ≡ true → knows (revisions_in vs) r.group r.node ≡ true
  standing-refers r c other i refers stands =
      let v = stands-there known vs c.node held stands in
      v.within r.group r.node ((held-named known added c.node v.view v.held r.group r.node (group-other r.group other)).1 (refers-named known added c r i refers))

  -- a changeset that stands in no block came and is a link
  link-came : (c : Revision) → In c known → c.group ≡ Changesets → stands_in blocks c.node ≡ false → SomeOf came (λ a. Dangles known blocks a × ((a.revision).node ≡ c.node))
  link-came c i group free = by (each_in _ known c t.saved i group)
    where
      by : IsTrue (stands_in blocks c.node) ⊎ (IsKnownLink known c.node × In c (revisions_among came)) → SomeOf came (λ a. Dangles known blocks a × ((a.revision).node ≡ c.node))
      by (inl stands) = absurd (true≢false (sym stands ∙ free))
      by (inr (link, there)) =
          let a = in-mapped (λ (x : Arrival). x.revision) came c there in
          let same : (a.0).revision ≡ c = a.2 in
          some-in (λ a. Dangles known blocks a × ((a.revision).node ≡ c.node)) came a.0 a.1
          (subst (λ (x : Revision). (IsTrue (is_changesets x.group) × IsKnownLink known x.node × (view_at vs x.node ≡ None)) × (x.node ≡ c.node)) (sym same)
          ((ap is_changesets group, link, none_is (view_at vs c.node) free), refl))

  pub refer-blocks : Each (λ a. ¬ (Dangles known blocks a)) came → ReferToJust known (revisions_in vs)
  refer-blocks none r other = (blocks-refer r other, λ h. let c = some-parts (λ c. RefersTo known c r) known h in by c.0 c.1 c.2 (stands_in blocks (c.0).node) refl)
    where
      by : (c : Revision) → In c known → RefersTo known c r → (b : Bool) → stands_in blocks c.node ≡ b → knows (revisions_in vs) r.group r.node ≡ true
      by c i refers true e = standing-refers r c other i refers e
      by c i refers false e =
          let l = some-parts (λ a. Dangles known blocks a × ((a.revision).node ≡ c.node)) came (link-came c i refers.changeset e) in
          absurd (each_in (λ a. ¬ (Dangles known blocks a)) came l.0 none l.1 l.2.0)

  pub refer-more : (more : List Revision) → NameMore known blocks came more → ReferToJust known (revisions_in vs ++ more)
  refer-more more name r other = (
    λ h. to (or-either (knows (revisions_in vs) r.group r.node) (knows more r.group r.node) (sym (knows-append (revisions_in vs) more r.group r.node) ∙ h)),
    λ h. knows-append (revisions_in vs) more r.group r.node ∙ (let c = some-parts (λ c. RefersTo known c r) known h in from c.0 c.1 c.2 (stands_in blocks (c.0).node) refl),
  )
    where
      to : (knows (revisions_in vs) r.group r.node ≡ true) ⊎ (knows more r.group r.node ≡ true) → SomeOf known (λ c. RefersTo known c r)
      to (inl h) = blocks-refer r other h
      to (inr h) =
          let a = some-parts (λ a. Dangles known blocks a × IsNamedBy known (a.revision).node r.group r.node) came ((name r.group r.node).0 h) in
          named-refers known ((a.0).revision).node r a.2.1

      from : (c : Revision) → In c known → RefersTo known c r → (b : Bool) → stands_in blocks c.node ≡ b → (knows (revisions_in vs) r.group r.node || knows more r.group r.node) ≡ true
      from c i refers true e = or_left (knows (revisions_in vs) r.group r.node) _ (standing-refers r c other i refers e)
      from c i refers false e =
          let l = some-parts (λ a. Dangles known blocks a × ((a.revision).node ≡ c.node)) came (link-came c i refers.changeset e) in
          or_right (knows (revisions_in vs) r.group r.node) _
          ((name r.group r.node).1 (some-in (λ a. Dangles known blocks a × IsNamedBy known (a.revision).node r.group r.node) came l.0 l.1
          (l.2.0, subst (λ (n : Id). IsNamedBy known n r.group r.node) (sym l.2.1) (refers-named known added c r i refers))))

-- ---- what is referred to where nothing is left over

same-listed : (g h : Group) → kind_of g ≡ kind_of h → path_of g ≡ path_of h → g ≡ h
same-listed Changesets Changesets k p = refl
same-listed Changesets Manifests k p = absurd (let c : kind.Changeset ≡ kind.Manifest = k in cc)
same-listed Changesets (FilesAt y) k p = absurd (let c : kind.Changeset ≡ kind.File = k in cc)
same-listed Manifests Changesets k p = absurd (let c : kind.Manifest ≡ kind.Changeset = k in cc)
same-listed Manifests Manifests k p = refl
same-listed Manifests (FilesAt y) k p = absurd (let c : kind.Manifest ≡ kind.File = k in cc)
same-listed (FilesAt x) Changesets k p = absurd (let c : kind.File ≡ kind.Changeset = k in cc)
same-listed (FilesAt x) Manifests k p = absurd (let c : kind.File ≡ kind.Manifest = k in cc)
same-listed (FilesAt x) (FilesAt y) k p = ap FilesAt p

module _ (s : StateParts) (referred : Refers) (blocks : List Block) (list : List listed.Arrival) (came : List Arrival) (t : HasTaken s referred blocks list came) (nothing : HasNothingOver s.known.hg blocks came) where
  -- a changeset stands in a block
  changeset-referred : (r : Revision) → In r s.known.hg → r.group ≡ Changesets → IsTrue (is_referred blocks r)
  changeset-referred r i group = by (stands_in blocks r.node) refl
    where
      by : (b : Bool) → stands_in blocks r.node ≡ b → IsTrue (is_referred blocks r)
      by true e =
          ap (λ (g : Group). knows (revisions_in (changesets_in blocks)) g r.node) group
          ∙ changesets-referred r.node (changesets_in blocks) ∙ has-view (changesets_in blocks) r.node ∙ e
      by false e =
          let l = some-parts (λ a. Dangles s.known.hg blocks a × ((a.revision).node ≡ r.node)) came (link-came s referred blocks list came t r i group e) in
          absurd (each_in (λ a. ¬ (Dangles s.known.hg blocks a)) came l.0 nothing.no_dangling l.1 l.2.0)

  -- an entry that is no orphan
  other-referred : (a : Arrival) → In a came → a.fresh ≡ true → is_changesets (a.revision).group ≡ false → IsTrue (is_referred blocks a.revision)
  other-referred a i fresh other = by (is_referred blocks a.revision) refl
    where
      by : (b : Bool) → is_referred blocks a.revision ≡ b → IsTrue (is_referred blocks a.revision)
      by true e = e
      by false e =
          let just = refer-blocks s referred blocks list came t nothing.no_dangling a.revision other in
          absurd (each_in (λ x. ¬ (IsOrphan s.known.hg x)) came a nothing.no_orphan i
          (record { fresh = fresh; no_changeset = other; referred = λ some. true≢false (sym (just.1 some) ∙ e) }))

  pub fresh-referred : (r : Revision) → In r s.known.hg → SomeOf list (λ e. (e.fresh ≡ true) × IsListed r e) → IsTrue (is_referred blocks r)
  fresh-referred r i some = by (is_changesets r.group) refl
    where
      Fresh : listed.Arrival → Type 0
      Fresh e = (e.fresh ≡ true) × IsListed r e

      by : (b : Bool) → is_changesets r.group ≡ b → IsTrue (is_referred blocks r)
      by true e = changeset-referred r i (group-is r.group e)
      by false e =
          let x = some-parts (λ e. (e.fresh ≡ true) × IsListed r e) list some in
          let a = in-mapped arrival_of came x.0 (subst (λ (l : List listed.Arrival). In x.0 l) t.are x.1) in
          let group : r.group ≡ ((a.0).revision).group = same-listed r.group ((a.0).revision).group (sym x.2.1.0 ∙ ap (λ (y : listed.Arrival). y.kind) (sym a.2)) (sym x.2.1.1 ∙ ap (λ (y : listed.Arrival). y.path) (sym a.2)) in
          let node : r.node ≡ ((a.0).revision).node = sym x.2.1.2 ∙ ap (λ (y : listed.Arrival). y.node) (sym a.2) in
          let there = other-referred a.0 a.1 (ap (λ (y : listed.Arrival). y.fresh) a.2 ∙ x.2.0) (ap is_changesets (sym group) ∙ e) in
          (λ k. knows (revisions_in (changesets_in blocks)) (group k) (node k)) ∙ there
