-- The entries of a bundle, one after the other.
use Rattle.std.proofs.Common.{◌≡◌, ◌⊎◌, ◌+◌, ℕ, zero, suc, inl, inr, true, false, true≢false, List, [], ◌∷◌, ◌++◌, take, drop, map, Some, refl, sym, ap, subst, ◌∙◌, append_assoc, append-nil}
use Rattle.std.specs.Prelude.{slice_get, IsTrue}
use Rattle.std.proofs.lemmas.List.{take-append-drop}
use Rattle.std.proofs.lemmas.List.Elements.{filter-append}
use Rattle.text_model.proofs.Options.{some_is}
use Rattle.text_model.specs.Id.{Id}
use Rattle.text_model.specs.Fault.{FaultName, Refusal}
use Rattle.text_model.proofs.Elements.{drop_next, map_append, take_push}
use Rattle.hg_model.specs.Revision.{Group, Changesets, Manifests, FilesAt, Revision, known_after, known_after_all}
use Rattle.hg_model.specs.Reading.{Arrival}
use Rattle.hg_model.proofs.RevisionLemmas.{known_after_all-append}
use Rattle.git_model.specs.Object.{Object}
use Rattle.hg_store.specs.Known.{AreAdded}
use Rattle.hg_bundle.specs.declared.arrival.RevKind.{RevKind}
use Rattle.hg_bundle.specs.declared.arrival.RevKind.TheVariants as kind
use Rattle.hg_bundle.specs.declared.arrival.Arrival as listed
use Rattle.hg_bundle.specs.Arrivals.{arrival_of, kind_of}
use Rattle.hg_dump.proofs.HeldLemmas.{node-is}
use Rattle.view_model.specs.Dump.{objects_in}
use Rattle.pair_model.specs.Block.{Block, node_of, commits_in}
use Rattle.history_model.specs.Pull.{BringBlocks, GivesBlock, IsKnownLink, ChangesetRefused, IsChangesetRefusal, changesets_among, revisions_among, is_changesets}
use Rattle.pair_state.specs.Push.{HaveSame}
use Rattle.pull_outcome.specs.declared.refused.PullFault.{PullFault}
use Rattle.pull_outcome.specs.declared.refused.PullFault.TheVariants.{Refused, Read, Memory}
use Rattle.pull_outcome.specs.Refused.{IsRefusedBy}
use Rattle.bridge_text.specs.Refusals.{refusal_value}
use Rattle.pair_state.specs.AllBlocks.{state_value, stands_in}
use Rattle.pair_state.proofs.AllBlocks.{stands-more, saved-stands}
use Rattle.pull_bundle.specs.declared.taking.Taking.{Taking}
use Rattle.pull_bundle.specs.Takes.{IsTaking, AreStanding, Comes, Takes, TakesArrivals, IsRefusedNew, IsRefusedArrival, Starts}
use Rattle.pull_bundle.proofs.Known.{grown, standing-more, standing-after, saved-last}
use Rattle.pull_bundle.proofs.Blocks.{brings-none, brings-append, brings-same, objects_in-more, same-more, same-then, refused-same}

-- ---- which entries are changesets

pub kind-changeset : (g : Group) (k : RevKind) → k ≡ kind_of g → k ≡ kind.Changeset → true ≡ is_changesets g
kind-changeset Changesets k is e = refl
kind-changeset Manifests k is e = absurd (let c : kind.Manifest ≡ kind.Changeset = sym is ∙ e in cc)
kind-changeset (FilesAt path) k is e = absurd (let c : kind.File ≡ kind.Changeset = sym is ∙ e in cc)

pub kind-manifest : (g : Group) (k : RevKind) → k ≡ kind_of g → k ≡ kind.Manifest → false ≡ is_changesets g
kind-manifest Changesets k is e = absurd (let c : kind.Changeset ≡ kind.Manifest = sym is ∙ e in cc)
kind-manifest Manifests k is e = refl
kind-manifest (FilesAt path) k is e = refl

pub kind-file : (g : Group) (k : RevKind) → k ≡ kind_of g → k ≡ kind.File → false ≡ is_changesets g
kind-file Changesets k is e = absurd (let c : kind.Changeset ≡ kind.File = sym is ∙ e in cc)
kind-file Manifests k is e = refl
kind-file (FilesAt path) k is e = refl

pub group-is : (g : Group) → is_changesets g ≡ true → g ≡ Changesets
group-is Changesets h = refl
group-is Manifests h = absurd (true≢false (sym h))
group-is (FilesAt path) h = absurd (true≢false (sym h))

among-other : (a : Arrival) → is_changesets (a.revision).group ≡ false → changesets_among (a ∷ []) ≡ []
among-other a h = rw h refl

among-one : (a : Arrival) (rest : List Arrival) → is_changesets (a.revision).group ≡ true → changesets_among (a ∷ rest) ≡ a ∷ changesets_among rest
among-one a rest h = rw h refl

-- ---- one entry

-- why a changeset that comes is refused
abbrev pub ComesDue : Taking → Id → FaultName → Type 0
ComesDue t node name = (blocks : List Block) (before : List Revision) (r : Revision) → r.node ≡ node → r.group ≡ Changesets → Comes t blocks before r → IsRefusedNew t blocks r name

abbrev takes-at : (t next : Taking) (blocks : List Block) (rs rs' : List Revision) → rs ≡ rs' → Takes t next blocks rs → Takes t next blocks rs'
takes-at t next blocks rs rs' e took = record {
  new = took.new;
  brings = subst (λ (l : List Revision). BringBlocks (t.state).known.hg (t.state).known.git blocks l took.new) e took.brings;
  taking = took.taking;
  revisions = took.revisions;
  objects = took.objects;
  tags = took.tags;
  names = took.names;
}

abbrev takes-none : (t : Taking) (blocks : List Block) → IsTaking t blocks → Takes t t blocks []
takes-none t blocks taking = record {
  new = [];
  brings = brings-none (t.state).known.hg (t.state).known.git blocks;
  taking = subst (IsTaking t) (sym (append-nil blocks)) taking;
  revisions = refl;
  objects = subst (HaveSame (t.state).known.git) (sym (append-nil (t.state).known.git)) ((λ x i. i), (λ x i. i));
  tags = refl;
  names = refl;
}

pub none-taken : (t : Taking) (base : List Revision) (blocks : List Block) → IsTaking t blocks → AreStanding (t.state).known.hg blocks base → TakesArrivals t t base blocks []
none-taken t base blocks taking saved = record { takes = takes-none t blocks taking; saved = standing-more (t.state).known.hg blocks [] base saved }

pub other-taken : (t : Taking) (before : List Revision) (blocks : List Block) (a : Arrival) → is_changesets (a.revision).group ≡ false → Comes t blocks before a.revision → TakesArrivals t t before blocks (a ∷ [])
other-taken t before blocks a other comes =
    let known = (t.state).known.hg in
    record {
      takes = takes-at t t blocks [] (revisions_among (changesets_among (a ∷ []))) (sym (ap revisions_among (among-other a other))) (takes-none t blocks comes.taking);
      saved = standing-after known (blocks ++ []) before a.revision (standing-more known blocks [] before comes.saved) (λ g. absurd (true≢false (sym (ap is_changesets g) ∙ other)));
    }

-- the block of a changeset is that of its node
pub gives-node : (known : List Revision) (objects : List Object) (blocks : List Block) (node : Id) (b : Block) → AreAdded known → GivesBlock known objects blocks node b → node_of b ≡ node
gives-node known objects blocks node b added g = ap node_of ((g.passes).block.2) ∙ node-is known added node g.view g.is_held

brings-saves : (known : List Revision) → AreAdded known → (objects : List Object) (blocks : List Block) (r : Revision) (new : List Block) → BringBlocks known objects blocks (r ∷ []) new
    → IsTrue (stands_in (blocks ++ new) r.node) ⊎ IsKnownLink known r.node
unfolding BringBlocks
brings-saves known added objects blocks r new (inl h) = inr h.0
brings-saves known added objects blocks r new (inr (inl h)) = inl (stands-more blocks new r.node (saved-stands blocks r.node h.1))
brings-saves known added objects blocks r new (inr (inr (no_link, free, b, rest, is, gives, later))) =
    let one : new ≡ b ∷ [] = is ∙ ap (λ (l : List Block). b ∷ l) later in
    inl (ap (λ (l : List Block). stands_in (blocks ++ l) r.node) one ∙ saved-stands (blocks ++ b ∷ []) r.node (saved-last blocks b r.node (gives-node known objects blocks r.node b added gives)))

pub changeset-taken : (t next : Taking) (before : List Revision) (blocks : List Block) (a : Arrival) → is_changesets (a.revision).group ≡ true → Comes t blocks before a.revision → Takes t next blocks (a.revision ∷ [])
    → TakesArrivals t next before blocks (a ∷ [])
changeset-taken t next before blocks a one comes took =
    let known = (t.state).known.hg in
    record {
      takes = takes-at t next blocks (a.revision ∷ []) (revisions_among (changesets_among (a ∷ []))) (sym (ap revisions_among (among-one a [] one))) took;
      saved = standing-after known (blocks ++ took.new) before a.revision (standing-more known blocks took.new before comes.saved)
          (λ g. brings-saves known comes.taking.state.held.added (t.state).known.git blocks a.revision took.new took.brings);
    }

-- ---- one entry behind others

takes-append : (start mid next : Taking) (blocks : List Block) (rs rs' : List Revision) (t : Takes start mid blocks rs) (u : Takes mid next (blocks ++ t.new) rs')
    → BringBlocks (start.state).known.hg (start.state).known.git blocks (rs ++ rs') (t.new ++ u.new)
takes-append start mid next blocks rs rs' t u =
    brings-append (start.state).known.hg (start.state).known.git blocks rs rs' t.new u.new t.brings
    (brings-same (start.state).known.hg (mid.state).known.git ((start.state).known.git ++ objects_in (commits_in t.new)) (blocks ++ t.new) rs' u.new t.objects
    (subst (λ (l : List Revision). BringBlocks l (mid.state).known.git (blocks ++ t.new) rs' u.new) t.revisions u.brings))

takes-objects : (start mid next : Taking) (blocks : List Block) (rs rs' : List Revision) (t : Takes start mid blocks rs) (u : Takes mid next (blocks ++ t.new) rs')
    → HaveSame (next.state).known.git ((start.state).known.git ++ objects_in (commits_in (t.new ++ u.new)))
takes-objects start mid next blocks rs rs' t u =
    let mine = objects_in (commits_in t.new) in
    let more = objects_in (commits_in u.new) in
    subst (HaveSame (next.state).known.git) (append_assoc (start.state).known.git mine more ∙ ap (λ (l : List Object). (start.state).known.git ++ l) (sym (objects_in-more t.new u.new)))
    (same-then (next.state).known.git ((mid.state).known.git ++ more) (((start.state).known.git ++ mine) ++ more) u.objects (same-more (mid.state).known.git ((start.state).known.git ++ mine) more t.objects))

among-more : (came more : List Arrival) → revisions_among (changesets_among came) ++ revisions_among (changesets_among more) ≡ revisions_among (changesets_among (came ++ more))
among-more came more =
    sym (map_append (λ a. a.revision) (changesets_among came) (changesets_among more))
    ∙ sym (ap revisions_among (filter-append (λ a. is_changesets (a.revision).group) came more))

known-more : (base : List Revision) (came : List Arrival) (a : Arrival) → known_after (known_after_all base (revisions_among came)) a.revision ≡ known_after_all base (revisions_among (came ++ a ∷ []))
known-more base came a = sym (ap (known_after_all base) (map_append (λ x. x.revision) came (a ∷ [])) ∙ known_after_all-append base (revisions_among came) (a.revision ∷ []))

pub arrivals-append : (start mid next : Taking) (base : List Revision) (blocks : List Block) (came : List Arrival) (a : Arrival) (t : TakesArrivals start mid base blocks came)
    → TakesArrivals mid next (known_after_all base (revisions_among came)) (blocks ++ (t.takes).new) (a ∷ []) → TakesArrivals start next base blocks (came ++ a ∷ [])
arrivals-append start mid next base blocks came a t u = record {
  takes = record {
    new = (t.takes).new ++ (u.takes).new;
    brings = subst (λ (l : List Revision). BringBlocks (start.state).known.hg (start.state).known.git blocks l ((t.takes).new ++ (u.takes).new)) (among-more came (a ∷ []))
        (takes-append start mid next blocks (revisions_among (changesets_among came)) (revisions_among (changesets_among (a ∷ []))) t.takes u.takes);
    taking = subst (IsTaking next) (append_assoc blocks (t.takes).new (u.takes).new) (u.takes).taking;
    revisions = (u.takes).revisions ∙ (t.takes).revisions;
    objects = takes-objects start mid next blocks (revisions_among (changesets_among came)) (revisions_among (changesets_among (a ∷ []))) t.takes u.takes;
    tags = (u.takes).tags ∙ (t.takes).tags;
    names = (u.takes).names ∙ (t.takes).names;
  };
  saved = subst (λ (l : List Block). AreStanding (start.state).known.hg l (known_after_all base (revisions_among (came ++ a ∷ [])))) (append_assoc blocks (t.takes).new (u.takes).new)
      (subst (AreStanding (start.state).known.hg ((blocks ++ (t.takes).new) ++ (u.takes).new)) (known-more base came a)
      (subst (λ (l : List Revision). AreStanding l ((blocks ++ (t.takes).new) ++ (u.takes).new) (known_after (known_after_all base (revisions_among came)) a.revision)) (t.takes).revisions u.saved));
}

-- ---- the entry at a place

pub record IsAt (came : List Arrival) (i : ℕ) (list : listed.Arrival) : Type 0 where
  pub entry : Arrival
  pub at : slice_get came i ≡ Some entry
  pub is : list ≡ arrival_of entry

pub entry-at : (came : List Arrival) (i : ℕ) (list : listed.Arrival) → slice_get (map arrival_of came) i ≡ Some list → IsAt came i list
entry-at [] i list h = absurd cc
entry-at (a ∷ came) zero list h = record { entry = a; at = refl; is = some_is (sym h) }
entry-at (a ∷ came) (suc i) list h = let r = entry-at came i list h in record { entry = r.entry; at = r.at; is = r.is }

parted : (came : List Arrival) (i : ℕ) (a : Arrival) → slice_get came i ≡ Some a → came ≡ take i came ++ a ∷ drop (i + 1) came
parted came i a at = sym (take-append-drop i came) ∙ ap (λ (l : List Arrival). take i came ++ l) (drop_next came i a at)

module _ (start mid : Taking) (base : List Revision) (blocks : List Block) (list : List listed.Arrival) (came : List Arrival) (starts : Starts start base blocks list came) (i : ℕ) (a : Arrival) (at : slice_get came i ≡ Some a) (t : TakesArrivals start mid base blocks (take i came)) where
  pub comes-next : Comes mid (blocks ++ (t.takes).new) (known_after_all base (revisions_among (take i came))) a.revision
  comes-next =
      let rest = revisions_among (drop (i + 1) came) in
      let before = known_after_all base (revisions_among (take i came)) in
      let later = grown (known_after before a.revision) rest in
      record {
        taking = (t.takes).taking;
        saved = subst (λ (l : List Revision). AreStanding l (blocks ++ (t.takes).new) before) (sym (t.takes).revisions) t.saved;
        later = later.0;
        store =
            (t.takes).revisions ∙ starts.store ∙ ap (λ (l : List Arrival). known_after_all base (revisions_among l)) (parted came i a at)
            ∙ ap (known_after_all base) (map_append (λ x. x.revision) (take i came) (a ∷ drop (i + 1) came))
            ∙ known_after_all-append base (revisions_among (take i came)) (a.revision ∷ rest) ∙ later.1;
      }

  pub taken-next : (next : Taking) → TakesArrivals mid next (known_after_all base (revisions_among (take i came))) (blocks ++ (t.takes).new) (a ∷ []) → TakesArrivals start next base blocks (take (i + 1) came)
  taken-next next u = subst (TakesArrivals start next base blocks) (sym (take_push came i a at)) (arrivals-append start mid next base blocks (take i came) a t u)

  refusal-next : (why : Refusal) → IsRefusedArrival mid (blocks ++ (t.takes).new) a why → IsChangesetRefusal (start.state).known.hg (state_value start.state blocks) (changesets_among came) why
  refusal-next why x = record {
    before = changesets_among (take i came);
    refused = a;
    after = changesets_among (drop (i + 1) came);
    split =
        ap changesets_among (parted came i a at) ∙ filter-append (λ x. is_changesets (x.revision).group) (take i came) (a ∷ drop (i + 1) came)
        ∙ ap (λ (l : List Arrival). changesets_among (take i came) ++ l) (among-one a (drop (i + 1) came) x.changeset);
    new = (t.takes).new;
    brings = (t.takes).brings;
    no_link = λ link. x.refused.no_link (subst (λ (l : List Revision). IsKnownLink l (a.revision).node) (sym (t.takes).revisions) link);
    is_new = x.refused.is_new;
    name = x.name;
    fault = refused-same (mid.state).known.git ((start.state).known.git ++ objects_in (commits_in (t.takes).new)) (t.takes).objects (start.state).known.hg (blocks ++ (t.takes).new) (a.revision).node x.name
        (subst (λ (l : List Revision). ChangesetRefused l (mid.state).known.git (blocks ++ (t.takes).new) (a.revision).node x.name) (t.takes).revisions x.refused.fault);
    is = x.is;
  }

  pub refused-next : (e : PullFault) → IsRefusedBy (IsRefusedArrival mid (blocks ++ (t.takes).new) a) e → IsRefusedBy (IsChangesetRefusal (start.state).known.hg (state_value start.state blocks) (changesets_among came)) e
  refused-next (Refused why) h = refusal-next (refusal_value why) h
  refused-next Read h = tt
  refused-next Memory h = tt
