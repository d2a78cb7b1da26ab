-- What a command makes over a saved state.
use Rattle.std.proofs.Common.{◌≡◌, ◌≤◌, ◌+◌, ◌*◌, ℕ, suc, List, [], ◌++◌, length, Option, None, Some, inl, inr, refl, sym, ap, subst, ◌∙◌, arith, append-nil}
use Rattle.std.specs.Prelude.{IfSome}
use Rattle.std.proofs.lemmas.List.{length-map, length-append}
use Rattle.text_model.specs.Text.{Bytes, IsBytes}
use Rattle.pair_model.specs.Block.{Block}
use Rattle.history_model.specs.Pull.{changesets_among}
use Rattle.state_model.specs.Kept as model
use Rattle.state_model.specs.Kept.{kept_of, with_kept}
use Rattle.saved_model.specs.Step.{OfBundle, OfStream, Steps, Refuses, known_of}
use Rattle.command_model.specs.Command.{PullHg, PullGit, Written, ComesTo}
use Rattle.history_law.proofs.States.{slot-one}
use Rattle.pair_state.specs.declared.state.State.{State}
use Rattle.pull_outcome.specs.declared.refused.PullFault.{PullFault}
use Rattle.pull_outcome.specs.declared.refused.PullFault.TheVariants as pull
use Rattle.pull_outcome.specs.Refused.{IsRefusedBy, FaultCause}
use Rattle.pull_outcome.specs.Steps.{StepsHg, StepsGit}
use Rattle.state_text.specs.Stands.{Stands}
use Rattle.pull_engine.specs.Read.{IsReadState, IsPulled}
use Rattle.pull_engine.specs.Names.{IsOfPullHg, IsOfPullGit}
use Rattle.state_law.specs.Left.{StateIsLeft}
use Rattle.pull_engine.specs.declared.pulled.Pulled.{Pulled}
use Rattle.bridge_cli.specs.Over.{Over}
use Rattle.bridge_cli.specs.Fetched.{IsFetched}
use Rattle.bridge_cli.specs.Makes.{IsTextOf, IsNextText, IsEndOf, EndCause, FetchEndCause}
use Rattle.bridge_cli.specs.Report.{pull_report}
use Rattle.bridge_cli.specs.Steps.{StepsOf}

-- ---- pulls

pub hg-makes : StateIsLeft → (input : Option Bytes) (slot : Option (Option Bytes)) (s : State) (p : Pulled) (text : Option Bytes) (output : Bytes) → output ≡ p.made
    → IsFetched slot s → IfSome input IsBytes → IfSome input (λ bytes. (m : model.State) → IsReadState s m → IsPulled m (OfBundle bytes) p) → IsNextText p.state text
    → Over PullHg input slot (λ m bytes. (saved : Option model.State) × ComesTo PullHg m bytes (Written output saved) × IsTextOf saved text)
hg-makes law None slot s p text output e fetched are pulled is = tt
hg-makes law (Some bytes) None s p text output e fetched are pulled is = tt
hg-makes law (Some bytes) (Some held) s p None output e fetched are pulled is = absurd is
hg-makes law (Some bytes) (Some held) s p (Some text) output e (m, read, old-are, holds) are pulled is =
    let x = pulled m read in
    let state = law m (OfBundle bytes) x.0 p.made read.saved old-are are x.1 in
    (m, holds, (Some (with_kept m x.0), (x.0, subst (λ (o : Bytes). Steps (kept_of m) (OfBundle bytes) x.0 o) (sym e) x.1, refl), is (with_kept m x.0) x.2 state))

pub git-makes : StateIsLeft → (input : Option Bytes) (slot : Option (Option Bytes)) (s : State) (p : Pulled) (text : Option Bytes) (output : Bytes) → output ≡ p.made
    → IsFetched slot s → IfSome input IsBytes → IfSome input (λ bytes. (m : model.State) → IsReadState s m → IsPulled m (OfStream bytes) p) → IsNextText p.state text
    → Over PullGit input slot (λ m bytes. (saved : Option model.State) × ComesTo PullGit m bytes (Written output saved) × IsTextOf saved text)
git-makes law None slot s p text output e fetched are pulled is = tt
git-makes law (Some bytes) None s p text output e fetched are pulled is = tt
git-makes law (Some bytes) (Some held) s p None output e fetched are pulled is = absurd is
git-makes law (Some bytes) (Some held) s p (Some text) output e (m, read, old-are, holds) are pulled is =
    let x = pulled m read in
    let state = law m (OfStream bytes) x.0 p.made read.saved old-are are x.1 in
    (m, holds, (Some (with_kept m x.0), (x.0, subst (λ (o : Bytes). Steps (kept_of m) (OfStream bytes) x.0 o) (sym e) x.1, refl), is (with_kept m x.0) x.2 state))

pub hg-refuses : (input : Option Bytes) (slot : Option (Option Bytes)) (s : State) (e : PullFault) → IsFetched slot s → IsOfPullHg e
    → IfSome input (λ bytes. (m : model.State) → IsReadState s m → IsRefusedBy (Refuses (kept_of m) (OfBundle bytes)) e) → IsEndOf PullHg input slot (pull_report e)
hg-refuses None slot s (pull.Refused why) fetched named told = ((why.fault, refl, named), tt)
hg-refuses (Some bytes) None s (pull.Refused why) fetched named told = ((why.fault, refl, named), tt)
hg-refuses (Some bytes) (Some held) s (pull.Refused why) (m, read, are, holds) named told = ((why.fault, refl, named), (m, holds, told m read))
hg-refuses input None s pull.Read fetched named told = tt
hg-refuses input (Some held) s pull.Read (m, read, are, holds) named told = (m, holds)
hg-refuses input slot s pull.Memory fetched named told = tt

pub git-refuses : (input : Option Bytes) (slot : Option (Option Bytes)) (s : State) (e : PullFault) → IsFetched slot s → IsOfPullGit e
    → IfSome input (λ bytes. (m : model.State) → IsReadState s m → IsRefusedBy (Refuses (kept_of m) (OfStream bytes)) e) → IsEndOf PullGit input slot (pull_report e)
git-refuses None slot s (pull.Refused why) fetched named told = ((why.fault, refl, named), tt)
git-refuses (Some bytes) None s (pull.Refused why) fetched named told = ((why.fault, refl, named), tt)
git-refuses (Some bytes) (Some held) s (pull.Refused why) (m, read, are, holds) named told = ((why.fault, refl, named), (m, holds, told m read))
git-refuses input None s pull.Read fetched named told = tt
git-refuses input (Some held) s pull.Read (m, read, are, holds) named told = (m, holds)
git-refuses input slot s pull.Memory fetched named told = tt

-- ---- how often a pull unmarks a member

-- a state of the code has as many pairs as its history has blocks
pub count : (s : State) (m : model.State) → Stands s m → length s.blocks ≡ length m.blocks
count s m stands =
    let same = ap length ((stands.blocks).state).blocks_are in
    simp length-map at same

few : (before now first n : ℕ) (old new : List Block) → first ≡ length old → n ≡ length (old ++ new) → now + 18 * first ≤ before + 18 * n → now ≤ before + 18 * suc (length new)
few before now first n old new e f h = omega (arith, e, f, length-append old new, h)

-- how often an accepted pull unmarks a member
pub hg-asked : (input : Option Bytes) (s : State) (p : Pulled) (before now : ℕ) → IfSome input (λ bytes. (m : model.State) → IsReadState s m → IsPulled m (OfBundle bytes) p)
    → now + 18 * p.first_new ≤ before + 18 * length (p.state).blocks → IfSome input (λ bytes. (m : model.State) → IsReadState s m → StepsHg (known_of (kept_of m)) bytes before now)
hg-asked None s p before now pulled h = tt
hg-asked (Some bytes) s p before now pulled h = λ m read.
    let x = pulled m read in
    let new = x.1.0 in
    let a = x.1.2.0 in
    let blocks : x.0.blocks ≡ m.blocks ++ new = ap (λ (k : model.Kept). k.blocks) x.1.3 in
    inr (record {
      arrivals = a.arrivals;
      reads = a.reads;
      first = changesets_among a.arrivals;
      others = [];
      split = sym (append-nil (changesets_among a.arrivals));
      new = new;
      brings = (a.brings).brings;
      few = few before now p.first_new (length (p.state).blocks) m.blocks new x.3 (count p.state (with_kept m x.0) x.2 ∙ ap length blocks) h;
    })

pub git-asked : (input : Option Bytes) (s : State) (p : Pulled) (before now : ℕ) → IfSome input (λ bytes. (m : model.State) → IsReadState s m → IsPulled m (OfStream bytes) p)
    → now + 18 * p.first_new ≤ before + 18 * length (p.state).blocks → IfSome input (λ bytes. (m : model.State) → IsReadState s m → StepsGit (known_of (kept_of m)) bytes before now)
git-asked None s p before now pulled h = tt
git-asked (Some bytes) s p before now pulled h = λ m read.
    let x = pulled m read in
    let new = x.1.0 in
    let a = x.1.2 in
    let blocks : x.0.blocks ≡ m.blocks ++ new = ap (λ (k : model.Kept). k.blocks) x.1.3 in
    inr (record {
      came = a.came;
      reads = a.reads;
      ordered = (a.brings).ordered;
      order = (a.brings).order;
      first = (a.brings).ordered;
      others = [];
      split = sym (append-nil (a.brings).ordered);
      new = new;
      brings = (a.brings).brings;
      few = few before now p.first_new (length (p.state).blocks) m.blocks new x.3 (count p.state (with_kept m x.0) x.2 ∙ ap length blocks) h;
    })

pub hg-steps : (input : Option Bytes) (slot : Option (Option Bytes)) (s : State) (before now : ℕ) → IsFetched slot s → before ≤ now
    → IfSome input (λ bytes. (m : model.State) → IsReadState s m → StepsHg (known_of (kept_of m)) bytes before now) → StepsOf PullHg input slot before now
hg-steps None slot s before now fetched least asked = (least, tt)
hg-steps (Some bytes) None s before now fetched least asked = (least, tt)
hg-steps (Some bytes) (Some held) s before now (m, read, are, holds) least asked =
    (least, λ t begins. subst (λ (x : model.State). StepsHg (known_of (kept_of x)) bytes before now) (slot-one held m t holds begins) (asked m read))

-- where nothing is asked
pub no-hg-steps : (input : Option Bytes) (slot : Option (Option Bytes)) (n : ℕ) → StepsOf PullHg input slot n n
no-hg-steps None slot n = (omega arith, tt)
no-hg-steps (Some bytes) None n = (omega arith, tt)
no-hg-steps (Some bytes) (Some held) n = (omega arith, λ s begins. inl refl)

pub git-steps : (input : Option Bytes) (slot : Option (Option Bytes)) (s : State) (before now : ℕ) → IsFetched slot s → before ≤ now
    → IfSome input (λ bytes. (m : model.State) → IsReadState s m → StepsGit (known_of (kept_of m)) bytes before now) → StepsOf PullGit input slot before now
git-steps None slot s before now fetched least asked = (least, tt)
git-steps (Some bytes) None s before now fetched least asked = (least, tt)
git-steps (Some bytes) (Some held) s before now (m, read, are, holds) least asked =
    (least, λ t begins. subst (λ (x : model.State). StepsGit (known_of (kept_of x)) bytes before now) (slot-one held m t holds begins) (asked m read))

-- where nothing is asked
pub no-git-steps : (input : Option Bytes) (slot : Option (Option Bytes)) (n : ℕ) → StepsOf PullGit input slot n n
no-git-steps None slot n = (omega arith, tt)
no-git-steps (Some bytes) None n = (omega arith, tt)
no-git-steps (Some bytes) (Some held) n = (omega arith, λ s begins. inl refl)

-- ---- counts of faults

pub read-cause : (before now : ℕ) (e : PullFault) → FaultCause before now e → EndCause before now (pull_report e)
read-cause before now (pull.Refused why) cause = cause
read-cause before now pull.Read cause = cause
read-cause before now pull.Memory cause = cause

pub slot-cause : (before now : ℕ) (e : PullFault) → now ≡ before → FetchEndCause before now (pull_report e)
slot-cause before now (pull.Refused why) same = same
slot-cause before now pull.Read same = same
slot-cause before now pull.Memory same = same
