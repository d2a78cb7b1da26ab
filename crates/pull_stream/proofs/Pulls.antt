-- What a pull comes to, of its parts.
use Rattle.std.proofs.Common.{◌≡◌, ◌≤◌, ◌++◌, ℕ, List, [], ◌∷◌, length, take, drop, Option, Some, None, Ok, Err, inl, inr, sym, ap, subst, ◌∙◌, arith}
use Rattle.std.specs.Prelude.{IfSome}
use Rattle.std.proofs.lemmas.List.{length-map, length-append}
use Rattle.std.proofs.lemmas.List.Concat.{flat_map-append}
use Rattle.text_model.specs.Text.{Bytes}
use Rattle.text_model.specs.Id.{Id}
use Rattle.text_model.specs.Fault.{Refusal}
use Rattle.text_model.proofs.Elements.{take_front, drop_front}
use Rattle.hg_model.specs.Revision.{Revision, known_after_all}
use Rattle.git_model.specs.Object.{Object}
use Rattle.git_model.specs.Stream.{Placed, stream_reading}
use Rattle.git_batch.specs.declared.arrival.ObjectArrival.{ObjectArrival}
use Rattle.view_model.specs.View.{changeset_node}
use Rattle.view_model.specs.Held.{AreChangesetsHeld}
use Rattle.view_model.specs.Dump.{revisions_in, hg_increment}
use Rattle.pair_model.specs.Block.{Block, changesets_in}
use Rattle.pair_state.specs.declared.state_parts.StateParts.{StateParts}
use Rattle.pair_state.specs.Blocks.{IsStateOf, value_of, block_value}
use Rattle.pull_outcome.specs.declared.pulled.GitPulled.{GitPulled}
use Rattle.pull_outcome.specs.declared.refused.PullFault.{PullFault}
use Rattle.pull_outcome.specs.declared.refused.PullFault.TheVariants as pull
use Rattle.pull_outcome.specs.Pulls.{PulledGit, GoesOnGit, RefusesGit}
use Rattle.pull_outcome.specs.Refused.{IsRefusedBy, FaultCause}
use Rattle.pair_state.specs.AllBlocks.{HasAllBlocks, state_value}
use Rattle.history_model.specs.Pull.{objects_with, CommitsBring, IsCommitRefusal, PullGitRefuses}
use Rattle.pull_stream.specs.Faults.{IsJudgement}
use Rattle.pull_stream.specs.Ready.{IsInOrder, LacksParent}
use Rattle.pull_stream.specs.Taken.{CommitsTaken}

-- ---- refusals

pub over-all : (s : StateParts) (o : Option Bytes) (Q : List Block → Bytes → Type 0) → ((blocks : List Block) → HasAllBlocks s blocks → IfSome o (Q blocks)) → IfSome o (λ bytes. (blocks : List Block) → HasAllBlocks s blocks → Q blocks bytes)
over-all s None Q h = tt
over-all s (Some bytes) Q h = h

pub some-map : (o : Option Bytes) (P Q : Bytes → Type 0) → ((bytes : Bytes) → P bytes → Q bytes) → IfSome o P → IfSome o Q
some-map None P Q f h = tt
some-map (Some bytes) P Q f h = f bytes h

pub if-any : (o : Option Bytes) (Q : Bytes → Type 0) → ((bytes : Bytes) → Q bytes) → IfSome o Q
if-any None Q f = tt
if-any (Some bytes) Q f = f bytes

pub judged-cause : (Due : Refusal → Type 0) (e : PullFault) (before now : ℕ) → now ≡ before → IsJudgement Due e → FaultCause before now e
judged-cause Due (pull.Refused why) before now same due = same
judged-cause Due pull.Read before now same due = absurd due
judged-cause Due pull.Memory before now same due = same

judged : (Due Later : Refusal → Type 0) → ((why : Refusal) → Due why → Later why) → (e : PullFault) → IsJudgement Due e → IsRefusedBy Later e
judged Due Later f (pull.Refused why) due = f _ due
judged Due Later f pull.Read due = absurd due
judged Due Later f pull.Memory due = tt

refused-later : (Due Later : Refusal → Type 0) → ((why : Refusal) → Due why → Later why) → (e : PullFault) → IsRefusedBy Due e → IsRefusedBy Later e
refused-later Due Later f (pull.Refused why) due = f _ due
refused-later Due Later f pull.Read due = tt
refused-later Due Later f pull.Memory due = tt

module _ (s : StateParts) (blocks : List Block) where
  pub read-refused : (bytes : Bytes) (e : PullFault) → IsRefusedBy (λ why. stream_reading s.known.git bytes ≡ Err why) e → RefusesGit s blocks bytes e
  read-refused bytes e h = refused-later (λ why. stream_reading s.known.git bytes ≡ Err why) (PullGitRefuses (state_value s blocks) bytes) (λ why is. inl is) e h

  module _ (came : List Placed) where
    pub order-refused : (bytes : Bytes) (e : PullFault) → IsJudgement (LacksParent (state_value s blocks) came) e → stream_reading s.known.git bytes ≡ Ok came → RefusesGit s blocks bytes e
    order-refused bytes e h reads = judged (LacksParent (state_value s blocks) came) (PullGitRefuses (state_value s blocks) bytes) (λ why is. inr (came, reads, inl is)) e h

    pub commit-refused : (next : StateParts) (arrivals : List ObjectArrival) (ordered : List Id) → IsInOrder next arrivals ordered (state_value s blocks) came → (bytes : Bytes) (e : PullFault)
        → IsJudgement (IsCommitRefusal (state_value s blocks) came ordered) e → stream_reading s.known.git bytes ≡ Ok came → RefusesGit s blocks bytes e
    commit-refused next arrivals ordered o bytes e h reads =
        judged (IsCommitRefusal (state_value s blocks) came ordered) (PullGitRefuses (state_value s blocks) bytes) (λ why is. inr (came, reads, inr (ordered, o.order, is))) e h

-- ---- the changesets of the new blocks

many : (s : StateParts) (blocks : List Block) (n : ℕ) → IsStateOf s blocks → n ≡ length s.changesets → n ≡ length (changesets_in blocks)
many s blocks n state is = is ∙ ap length state.changesets ∙ length-map (changesets_in blocks) changeset_node

split : (blocks new : List Block) → changesets_in (blocks ++ new) ≡ changesets_in blocks ++ changesets_in new
split blocks new = flat_map-append (λ (b : Block). b.links ++ b.changeset ∷ []) blocks new

-- the changesets of the first blocks, and of those behind them
module _ (blocks new : List Block) (n : ℕ) (is : n ≡ length (changesets_in blocks)) where
  old-ones : take n (changesets_in (blocks ++ new)) ≡ changesets_in blocks
  old-ones = (λ i. take (is i) (split blocks new i)) ∙ take_front (changesets_in blocks) (changesets_in new)

  new-ones : drop n (changesets_in (blocks ++ new)) ≡ changesets_in new
  new-ones = (λ i. drop (is i) (split blocks new i)) ∙ drop_front (changesets_in blocks) (changesets_in new)

-- ---- what is written

pub held-nodes : (s : StateParts) (blocks : List Block) → IsStateOf s blocks → AreChangesetsHeld s.known.hg s.changesets (changesets_in blocks)
held-nodes s blocks state = subst (λ (ids : List Id). AreChangesetsHeld s.known.hg ids (changesets_in blocks)) (sym state.changesets) ((state.held).held).changesets

pub count-is : (s : StateParts) (blocks : List Block) (n : ℕ) → IsStateOf s blocks → n ≡ length s.blocks → n ≡ length blocks
count-is s blocks n state is = is ∙ sym (length-map s.blocks value_of) ∙ ap length state.blocks_are ∙ length-map blocks block_value

pub count-within : (s next : StateParts) (blocks new : List Block) (n : ℕ) → IsStateOf s blocks → IsStateOf next (blocks ++ new) → n ≡ length s.changesets → n ≤ length next.changesets
count-within s next blocks new n state later is =
    omega (arith, many s blocks n state is, ap length later.changesets, length-map (changesets_in (blocks ++ new)) changeset_node, ap length (split blocks new), length-append (changesets_in blocks) (changesets_in new))

module _ (s : StateParts) (blocks : List Block) (all : HasAllBlocks s blocks) (mid : StateParts) (arrivals : List ObjectArrival) (ordered : List Id) (came : List Placed)
    (o : IsInOrder mid arrivals ordered (state_value s blocks) came) (p : GitPulled) (arrived : p.arrivals ≡ arrivals) (new : List Block) (taken : CommitsTaken mid p.state blocks ordered new) where
  known-is : (p.state).known.hg ≡ known_after_all s.known.hg (revisions_in (changesets_in new))
  known-is = taken.revisions ∙ ap (λ (k : List Revision). known_after_all k (revisions_in (changesets_in new))) (o.ready).revisions

  module _ (count : p.first_new ≡ length blocks) (n : ℕ) (saved : n ≡ length s.changesets)
      (made : p.made ≡ hg_increment (p.state).known.hg (take n (changesets_in (blocks ++ new))) (drop n (changesets_in (blocks ++ new)))) where
    made-is : p.made ≡ hg_increment (known_after_all s.known.hg (revisions_in (changesets_in new))) (changesets_in blocks) (changesets_in new)
    made-is =
        let old = many s blocks n all.state saved in
        made ∙ (λ i. hg_increment (known-is i) (old-ones blocks new n old i) (new-ones blocks new n old i))

    pub goes-on : mid.tags ≡ s.tags → mid.names ≡ s.names → GoesOnGit s blocks p
    goes-on tags names = record {
      came = came;
      arrivals = arrived ∙ (o.ready).listed;
      objects = taken.objects ∙ (o.ready).objects;
      new = new;
      next = taken.state;
      first_new = count;
      made = made-is;
      tags = taken.tags ∙ tags;
      names = taken.names ∙ names;
    }

    pub accepted : (bytes : Bytes) → stream_reading s.known.git bytes ≡ Ok came → PulledGit s blocks bytes p
    accepted bytes reads = record {
      makes = record {
        came = came;
        reads = reads;
        new = new;
        brings = record {
          ordered = ordered;
          order = o.order;
          brings =
              subst (λ (k : List Revision). CommitsBring k (objects_with (state_value s blocks) came) blocks ordered new) (o.ready).revisions
              (subst (λ (os : List Object). CommitsBring mid.known.hg os blocks ordered new) (o.ready).objects taken.brings);
        };
        is = made-is;
      };
      came = arrived ∙ (o.ready).listed;
      revisions = known-is;
      objects = taken.objects ∙ (o.ready).objects;
      next = taken.state;
      first_new = count;
    }
