-- What a pull comes to, by what its parts say.
use Rattle.std.proofs.Common.{◌≡◌, ◌≤◌, ◌+◌, ◌*◌, ◌⊎◌, ℕ, true, inl, inr, List, [], ◌∷◌, ◌++◌, length, take, drop, map, Option, Some, None, Ok, Err, refl, sym, ap, subst, ◌∙◌, arith, length-append, append-nil}
use Rattle.std.specs.Prelude.{IfSome, IsTrue}
use Rattle.std.proofs.lemmas.List.{length-map}
use Rattle.text_model.specs.Lists.{Each, In, SomeOf}
use Rattle.text_model.specs.Text.{Bytes}
use Rattle.text_model.specs.Id.{Id}
use Rattle.text_model.specs.Fault.{Refusal}
use Rattle.text_model.proofs.EachLemmas.{Each-weaker}
use Rattle.text_model.proofs.Elements.{each_from, each_in, in_left, flat_map_append, map_append, take_front, drop_front}
use Rattle.tree_shape.proofs.Elements.{in-append}
use Rattle.hg_model.specs.Revision.{Changesets, Revision, knows, known_after_all}
use Rattle.hg_model.specs.Reading.{Arrival, bundle_reading}
use Rattle.git_model.specs.Object.{Object}
use Rattle.git_model.specs.Unfold.{walk_fault}
use Rattle.hg_bundle.specs.declared.arrival.Arrival as listed
use Rattle.hg_dump.specs.Refers.{RefersTo}
use Rattle.git_dump.specs.Commits.{HasWalk, AreWalkableCommits}
use Rattle.view_model.specs.View.{ChangesetView, CommitView, commit_id}
use Rattle.view_model.specs.Held.{AreCommitsHeld}
use Rattle.view_model.specs.Dump.{git_increment, objects_in, revisions_in}
use Rattle.pair_model.specs.Block.{Block, id_of, changesets_in, commits_in}
use Rattle.history_model.specs.Pull.{BringBlocks, ChangesetRefused, IsChangesetRefusal, IsKnownLink, LeftOver, known_with, changesets_among, revisions_among}
use Rattle.pair_state.specs.declared.state_parts.StateParts.{StateParts}
use Rattle.pair_state.specs.Blocks.{IsStateOf}
use Rattle.commit_rule.specs.Parts.{HasStoredBlob}
use Rattle.pair_known.specs.Drafts.{IsRowKnown}
use Rattle.pair_state.specs.AllBlocks.{HasAllBlocks, is_referred, stands_in, state_value}
use Rattle.pair_state.proofs.AllBlocks.{stands-more}
use Rattle.pair_state.proofs.BlockLemmas.{parts_of}
use Rattle.pair_state.proofs.CameLemmas.{all-in}
use Rattle.pair_state.proofs.Referred.{in-time, stands-saved}
use Rattle.pair_state.proofs.Refers.{referred-more}
use Rattle.pull_outcome.specs.declared.refused.PullFault.{PullFault}
use Rattle.pull_outcome.specs.declared.refused.PullFault.TheVariants.{Refused, Read, Memory}
use Rattle.pull_outcome.specs.declared.pulled.HgPulled.{HgPulled}
use Rattle.pull_outcome.specs.Refused.{IsRefusedBy, FaultCause}
use Rattle.pull_outcome.specs.Pulls.{GoesOnHg, PulledHg, RefusesHg}
use Rattle.pull_outcome.specs.Steps.{AsksHg, StepsHg}
use Rattle.bridge_text.specs.Refusals.{refusal_value}
use Rattle.pull_bundle.specs.declared.taking.Taking.{Taking}
use Rattle.pull_bundle.specs.Faults.{IsNoRead}
use Rattle.pull_bundle.specs.LeftOver.{HasTaken, HasNothingOver}
use Rattle.pull_bundle.specs.Takes.{HasRead, IsListed, Starts, SomeTaken, TakesArrivals}
use Rattle.pull_bundle.proofs.LeftOverLemmas.{fresh-referred}
use Rattle.pull_bundle.proofs.StepLemmas.{count-is, some-taken}

-- ---- faults

pub memory-refused : (o : Option Bytes) (s : StateParts) → IfSome o (λ bytes. (blocks : List Block) → HasAllBlocks s blocks → RefusesHg s blocks bytes Memory)
memory-refused None s = tt
memory-refused (Some bytes) s = λ blocks has. tt

-- the bytes are refused
pub read-refused : (o : Option Bytes) (s : StateParts) (e : PullFault) → IfSome o (λ bytes. IsRefusedBy (λ why. bundle_reading s.known.hg bytes ≡ Err why) e)
    → IfSome o (λ bytes. (blocks : List Block) → HasAllBlocks s blocks → RefusesHg s blocks bytes e)
read-refused None s e due = tt
read-refused (Some bytes) s (Refused why) due = λ blocks has. inl due
read-refused (Some bytes) s Read due = λ blocks has. tt
read-refused (Some bytes) s Memory due = λ blocks has. tt

pub no-read_cause : (before now : ℕ) (e : PullFault) → IsNoRead e → now ≡ before → FaultCause before now e
no-read_cause before now (Refused why) h same = same
no-read_cause before now Read h same = absurd h
no-read_cause before now Memory h same = same

-- ---- after the reading

abbrev pub Told : Option Bytes → StateParts → StateParts → List listed.Arrival → Type 0
Told o s read list = IfSome o (λ bytes. (came : List Arrival) × (bundle_reading s.known.hg bytes ≡ Ok came) × HasRead s read list came)

-- what is remembered before the first changeset is taken
pub record Begins (t : Taking) : Type 0 where
  pub referred : (blocks : List Block) → IsStateOf t.state blocks → RefersTo t.referred (revisions_in (changesets_in blocks))
  pub near : Each (IsRowKnown (t.state).known.hg) t.near
  pub stored : Each (HasStoredBlob (t.state).known.git) t.near

pub begun : (read : StateParts) (t : Taking) → t.state ≡ read → ((blocks : List Block) → IsStateOf read blocks → RefersTo t.referred (revisions_in (changesets_in blocks))) → t.near ≡ [] → Begins t
begun read t same refer none = record {
  referred = λ blocks state. refer blocks (subst (λ (x : StateParts). IsStateOf x blocks) same state);
  near = subst (Each (IsRowKnown (t.state).known.hg)) (sym none) tt;
  stored = subst (Each (HasStoredBlob (t.state).known.git)) (sym none) tt;
}

abbrev pub TakeDue : Taking → List listed.Arrival → PullFault → Type 0
TakeDue t list e = (base : List Revision) (blocks : List Block) (came : List Arrival) → Starts t base blocks list came
    → IsRefusedBy (IsChangesetRefusal (t.state).known.hg (state_value t.state blocks) (changesets_among came)) e

abbrev pub LeftDue : Taking → List listed.Arrival → PullFault → Type 0
LeftDue next list e = (blocks : List Block) (came : List Arrival) → HasTaken next.state next.referred blocks list came → IsRefusedBy (LeftOver (next.state).known.hg blocks came) e

abbrev pub Taken : Taking → Taking → List listed.Arrival → Type 0
Taken t next list = (base : List Revision) (blocks : List Block) (came : List Arrival) → Starts t base blocks list came → TakesArrivals t next base blocks came

abbrev pub SomeAre : Taking → List listed.Arrival → ℕ → ℕ → Type 0
SomeAre t list before now = (base : List Revision) (blocks : List Block) (came : List Arrival) → Starts t base blocks list came → SomeTaken t blocks came before now

pub starts-read : (s : StateParts) (t : Taking) (list : List listed.Arrival) (came : List Arrival) (blocks : List Block) → HasAllBlocks s blocks → HasRead s t.state list came → Begins t → Starts t s.known.hg blocks list came
starts-read s t list came blocks has r refer = record {
  are = r.are;
  taking = record { state = r.state blocks has.state; referred = refer.referred blocks (r.state blocks has.state); in_time = in-time s blocks has; near = refer.near; stored = refer.stored };
  saved = Each-weaker (λ r. r.group ≡ Changesets → IsTrue (stands_in blocks r.node)) (λ r. r.group ≡ Changesets → IsTrue (stands_in blocks r.node) ⊎ IsKnownLink (t.state).known.hg r.node) (λ r f g. inl (f g)) s.known.hg
      (stands-saved s blocks has);
  store = r.store;
}

module _ (s read : StateParts) (list : List listed.Arrival) (came : List Arrival) (r : HasRead s read list came) (blocks : List Block) (rs : List Revision) where
  pub brings-told : (new : List Block) → BringBlocks read.known.hg read.known.git blocks rs new → BringBlocks (known_with (state_value s blocks) came) s.known.git blocks rs new
  brings-told new h = subst (λ (l : List Revision). BringBlocks l s.known.git blocks rs new) r.store (subst (λ (l : List Object). BringBlocks read.known.hg l blocks rs new) r.git h)

refusal-told : (s read : StateParts) (list : List listed.Arrival) (came : List Arrival) → HasRead s read list came → (blocks : List Block) (why : Refusal) → IsChangesetRefusal read.known.hg (state_value read blocks) (changesets_among came) why
    → IsChangesetRefusal (known_with (state_value s blocks) came) (state_value s blocks) (changesets_among came) why
refusal-told s read list came r blocks why x = record {
  before = x.before;
  refused = x.refused;
  after = x.after;
  split = x.split;
  new = x.new;
  brings = brings-told s read list came r blocks (revisions_among x.before) x.new x.brings;
  no_link = λ link. x.no_link (subst (λ (l : List Revision). IsKnownLink l ((x.refused).revision).node) (sym r.store) link);
  is_new = x.is_new;
  name = x.name;
  fault =
      subst (λ (l : List Revision). ChangesetRefused l (s.known.git ++ objects_in (commits_in x.new)) (blocks ++ x.new) ((x.refused).revision).node x.name) r.store
      (subst (λ (l : List Object). ChangesetRefused read.known.hg (l ++ objects_in (commits_in x.new)) (blocks ++ x.new) ((x.refused).revision).node x.name) r.git x.fault);
  is = x.is;
}

-- what came was taken
module _ (s : StateParts) (t next : Taking) (list : List listed.Arrival) (came : List Arrival) (r : HasRead s t.state list came) (blocks : List Block) (has : HasAllBlocks s blocks) (took : TakesArrivals t next s.known.hg blocks came) where
  abbrev all : List Block
  all = blocks ++ (took.takes).new

  pub same-known : (next.state).known.hg ≡ known_after_all s.known.hg (revisions_among came)
  same-known = (took.takes).revisions ∙ r.store

  pub has-taken : HasTaken next.state next.referred all list came
  has-taken = record {
    are = r.are;
    state = ((took.takes).taking).state;
    referred = ((took.takes).taking).referred;
    saved = each_from (λ x. x.group ≡ Changesets → IsTrue (stands_in all x.node) ⊎ (IsKnownLink (next.state).known.hg x.node × In x (revisions_among came))) (next.state).known.hg (λ x i group.
        let there = subst (λ (l : List Revision). In x l) same-known i in
        by x group (each_in _ (known_after_all s.known.hg (revisions_among came)) x took.saved there group) (in-append x s.known.hg (revisions_among came) (all-in s.known.hg (revisions_among came) x there)));
  }
    where
      by : (x : Revision) → x.group ≡ Changesets → IsTrue (stands_in all x.node) ⊎ IsKnownLink (t.state).known.hg x.node → In x s.known.hg ⊎ In x (revisions_among came)
          → IsTrue (stands_in all x.node) ⊎ (IsKnownLink (next.state).known.hg x.node × In x (revisions_among came))
      by x group (inl stands) i = inl stands
      by x group (inr link) (inl old) = inl (stands-more blocks (took.takes).new x.node (each_in (λ r. r.group ≡ Changesets → IsTrue (stands_in blocks r.node)) s.known.hg x (stands-saved s blocks has) old group))
      by x group (inr link) (inr new) = inr (subst (λ (l : List Revision). IsKnownLink l x.node) (sym (took.takes).revisions) link, new)

  pub all-referred : HasNothingOver (next.state).known.hg all came → HasAllBlocks next.state all
  all-referred nothing = record {
    state = ((took.takes).taking).state;
    saved = each_from (λ x. IsTrue (is_referred all x)) (next.state).known.hg (λ x i.
        by x i (each_in _ (t.state).known.hg x r.fresh (subst (λ (l : List Revision). In x l) (took.takes).revisions i)));
  }
    where
      by : (x : Revision) → In x (next.state).known.hg → In x s.known.hg ⊎ SomeOf list (λ e. (e.fresh ≡ true) × IsListed x e) → IsTrue (is_referred all x)
      by x i (inl old) =
          ap (λ (vs : List ChangesetView). knows (revisions_in vs) x.group x.node) (flat_map_append parts_of blocks (took.takes).new)
          ∙ referred-more (changesets_in blocks) (changesets_in (took.takes).new) x.group x.node (each_in (λ r. IsTrue (is_referred blocks r)) s.known.hg x has.saved old)
      by x i (inr fresh) = fresh-referred next.state next.referred all list came has-taken nothing x i fresh

  pub left-told : (why : Refusal) → LeftOver (next.state).known.hg all came why → LeftOver (known_with (state_value s blocks) came) all came why
  left-told why h = subst (λ (l : List Revision). LeftOver l all came why) same-known h

  pub nothing-told : HasNothingOver (next.state).known.hg all came → HasNothingOver (known_with (state_value s blocks) came) all came
  nothing-told h = subst (λ (l : List Revision). HasNothingOver l all came) same-known h

pub take-refused : (o : Option Bytes) (s : StateParts) (t : Taking) (list : List listed.Arrival) (e : PullFault) → Told o s t.state list → Begins t → TakeDue t list e → IfSome o (λ bytes. (blocks : List Block) → HasAllBlocks s blocks → RefusesHg s blocks bytes e)
take-refused None s t list e told refer due = tt
take-refused (Some bytes) s t list Memory told refer due = λ blocks has. tt
take-refused (Some bytes) s t list Read told refer due = λ blocks has. tt
take-refused (Some bytes) s t list (Refused why) told refer due = λ blocks has.
    inr (told.0, told.1, inl (refusal-told s t.state list told.0 told.2 blocks (refusal_value why) (due s.known.hg blocks told.0 (starts-read s t list told.0 blocks has told.2 refer))))

pub left-refused : (o : Option Bytes) (s : StateParts) (t next : Taking) (list : List listed.Arrival) (e : PullFault) → Told o s t.state list → Begins t → Taken t next list → LeftDue next list e
    → IfSome o (λ bytes. (blocks : List Block) → HasAllBlocks s blocks → RefusesHg s blocks bytes e)
left-refused None s t next list e told refer taken due = tt
left-refused (Some bytes) s t next list Memory told refer taken due = λ blocks has. tt
left-refused (Some bytes) s t next list Read told refer taken due = λ blocks has. tt
left-refused (Some bytes) s t next list (Refused why) told refer taken due = λ blocks has.
    let came = told.0 in
    let took = taken s.known.hg blocks came (starts-read s t list came blocks has told.2 refer) in
    let x = due (blocks ++ (took.takes).new) came (has-taken s t next list came told.2 blocks has took) in
    inr (came, told.1, inr ((took.takes).new, brings-told s t.state list came told.2 blocks (revisions_among (changesets_among came)) (took.takes).new (took.takes).brings, left-told s t next list came told.2 blocks has took (refusal_value why) x))

-- ---- steps

asks : (s : StateParts) (t : Taking) (list : List listed.Arrival) (came : List Arrival) (blocks : List Block) (bytes : Bytes) (before now : ℕ) → HasRead s t.state list came → bundle_reading s.known.hg bytes ≡ Ok came → SomeTaken t blocks came before now
    → AsksHg (state_value s blocks) bytes before now
asks s t list came blocks bytes before now r reads x = record {
  arrivals = came;
  reads = reads;
  first = x.first;
  others = x.others;
  split = x.split;
  new = x.new;
  brings = brings-told s t.state list came r blocks (revisions_among x.first) x.new x.brings;
  few = x.few;
}

pub some-asked : (o : Option Bytes) (s : StateParts) (t : Taking) (list : List listed.Arrival) (before now : ℕ) → Told o s t.state list → Begins t → SomeAre t list before now
    → IfSome o (λ bytes. (blocks : List Block) → HasAllBlocks s blocks → StepsHg (state_value s blocks) bytes before now)
some-asked None s t list before now told refer some = tt
some-asked (Some bytes) s t list before now told refer some = λ blocks has.
    inr (asks s t list told.0 blocks bytes before now told.2 told.1 (some s.known.hg blocks told.0 (starts-read s t list told.0 blocks has told.2 refer)))

pub none-asked : (o : Option Bytes) (s : StateParts) (before now : ℕ) → now ≡ before → IfSome o (λ bytes. (blocks : List Block) → HasAllBlocks s blocks → StepsHg (state_value s blocks) bytes before now)
none-asked None s before now same = tt
none-asked (Some bytes) s before now same = λ blocks has. inl same

-- all have their blocks
pub all-taken : (t next : Taking) (list : List listed.Arrival) (before now : ℕ) → Taken t next list → now + 18 * length (t.state).blocks ≤ before + 18 * length (next.state).blocks → SomeAre t list before now
all-taken t next list before now taken few base blocks came starts =
    some-taken t next base blocks starts.taking came came [] (sym (append-nil came)) (taken base blocks came starts) before now now few (omega arith)

-- ---- the commits of a state

ids-are : (blocks : List Block) → map commit_id (commits_in blocks) ≡ map id_of blocks
ids-are [] = refl
ids-are (b ∷ blocks) = ap (λ (l : List Id). id_of b ∷ l) (ids-are blocks)

walks-are : (known : List Object) (blocks : List Block) → Each (λ b. walk_fault known ((b.commit).value).tree_id ≡ None) blocks → Each (HasWalk known) (commits_in blocks)
walks-are known [] h = tt
walks-are known (b ∷ blocks) h = (h.0, walks-are known blocks h.1)

pub walkable : (s : StateParts) (blocks : List Block) → IsStateOf s blocks → AreWalkableCommits s.known.git s.commits (commits_in blocks)
walkable s blocks state = (
  subst (λ (l : List Id). AreCommitsHeld s.known.git l (commits_in blocks)) (ids-are blocks ∙ sym state.commits) state.held.held.commits,
  walks-are s.known.git blocks state.held.held.walks,
)

pub count-within : (s next : StateParts) (blocks new : List Block) (n : ℕ) → n ≡ length s.blocks → IsStateOf s blocks → IsStateOf next (blocks ++ new)
    → n ≤ length next.commits
count-within s next blocks new n is state after =
    let mine = count-is s blocks state in
    let all = ap length after.commits ∙ length-map (blocks ++ new) id_of in
    omega (arith, is, mine, all, length-append blocks new)

written : (blocks new : List Block) (n : ℕ) → n ≡ length blocks → git_increment (take n (commits_in (blocks ++ new))) (drop n (commits_in (blocks ++ new))) ≡ git_increment (commits_in blocks) (commits_in new)
written blocks new n is =
    let count : n ≡ length (commits_in blocks) = is ∙ sym (length-map blocks (λ b. b.commit)) in
    let split = map_append (λ (b : Block). b.commit) blocks new in
    (λ i. git_increment (take (count i) (split i)) (drop (count i) (split i)))
    ∙ (λ i. git_increment (take_front (commits_in blocks) (commits_in new) i) (drop_front (commits_in blocks) (commits_in new) i))

-- ---- a pull that is accepted

abbrev pub Written : StateParts → ℕ → Bytes → Type 0
Written next n made = (cs : List CommitView) → AreWalkableCommits next.known.git next.commits cs → made ≡ git_increment (take n cs) (drop n cs)

abbrev pub NothingOver : Taking → List listed.Arrival → Type 0
NothingOver next list = (blocks : List Block) (came : List Arrival) → HasTaken next.state next.referred blocks list came → HasNothingOver (next.state).known.hg blocks came

module _ (s : StateParts) (t next : Taking) (list : List listed.Arrival) (n : ℕ) (made : Bytes) (count : n ≡ length s.blocks) (refer : Begins t) (taken : Taken t next list) (over : NothingOver next list)
    (write : Written next.state n made) where
  abbrev outcome : HgPulled
  outcome = record { state = next.state; arrivals = list; first_new = n; made = made }

  module _ (came : List Arrival) (r : HasRead s t.state list came) (blocks : List Block) (has : HasAllBlocks s blocks) where
    took : TakesArrivals t next s.known.hg blocks came
    took = taken s.known.hg blocks came (starts-read s t list came blocks has r refer)

    first : n ≡ length blocks
    first = count ∙ count-is s blocks has.state

    nothing : HasNothingOver (next.state).known.hg (blocks ++ took.takes.new) came
    nothing = over (blocks ++ took.takes.new) came (has-taken s t next list came r blocks has took)

    after : HasAllBlocks next.state (blocks ++ took.takes.new)
    after = all-referred s t next list came r blocks has took nothing

    writes : made ≡ git_increment (commits_in blocks) (commits_in took.takes.new)
    writes = write (commits_in (blocks ++ took.takes.new)) (walkable next.state (blocks ++ took.takes.new) took.takes.taking.state) ∙ written blocks took.takes.new n first

    goes-on : GoesOnHg s blocks outcome
    goes-on = record {
      came = came;
      arrivals = r.are;
      revisions = same-known s t next list came r blocks has took;
      objects = λ o i. took.takes.objects.1 o (in_left o (t.state).known.git _ (subst (λ (l : List Object). In o l) (sym r.git) i));
      new = took.takes.new;
      next = after;
      first_new = first;
      made = writes;
      tags = took.takes.tags ∙ r.tags;
      names = took.takes.names ∙ r.names;
    }

    pulled-by : (bytes : Bytes) → bundle_reading s.known.hg bytes ≡ Ok came → PulledHg s blocks bytes outcome
    pulled-by bytes reads =
        let none = nothing-told s t next list came r blocks has took nothing in
        record {
          makes = record {
            arrivals = came;
            reads = reads;
            new = took.takes.new;
            brings = record {
              brings = brings-told s t.state list came r blocks (revisions_among (changesets_among came)) took.takes.new took.takes.brings;
              no_orphan = none.no_orphan;
              no_dangling = none.no_dangling;
            };
            is = writes;
          };
          came = r.are;
          next = after;
          first_new = first;
        }

  pub next-goes-on : (came : List Arrival) → HasRead s t.state list came → (blocks : List Block) → HasAllBlocks s blocks → GoesOnHg s blocks outcome
  next-goes-on came r blocks has = goes-on came r blocks has

  pub pulled : (o : Option Bytes) → Told o s t.state list → IfSome o (λ bytes. (blocks : List Block) → HasAllBlocks s blocks → PulledHg s blocks bytes outcome)
  pulled None told = tt
  pulled (Some bytes) told = λ blocks has. pulled-by told.0 told.2 blocks has bytes told.1
