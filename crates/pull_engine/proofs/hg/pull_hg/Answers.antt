use Rattle.std.proofs.Common.{List, inl, inr}
use Rattle.std.proofs.lemmas.Result.{err_from_is_err_and}
use Rattle.text_model.specs.Text.{Bytes}
use Rattle.pair_model.specs.Block.{Block}
use Rattle.state_model.specs.Kept as saved
use Rattle.state_model.specs.Kept.{kept_of}
use Rattle.saved_model.specs.Step.{OfBundle, Refuses, known_of}
use Rattle.pair_state.specs.declared.state_parts.StateParts.{StateParts}
use Rattle.pair_state.specs.AllBlocks.{HasAllBlocks, state_value}
use Rattle.pull_outcome.specs.declared.refused.PullFault.{PullFault}
use Rattle.pull_outcome.specs.Pulls.{PulledHg, RefusesHg}
use Rattle.pull_outcome.specs.Refused.{IsRefusedBy}
use Rattle.pull_outcome.specs.Steps.{StepsHg}
use Rattle.pull_engine.specs.declared.pulled.Pulled.{Pulled}
use Rattle.pull_engine.specs.Read.{IsReadState, IsPulled}
use Rattle.pull_engine.proofs.Next.{some-one, within, limit-cause}
use Rattle.pull_engine.proofs.BundlePull.{refused-before, asked-before, accepted, refused-large, asked-after, goes-on}
use Rattle.pull_engine.proofs.hg.pull_hg.Goals as goal

-- what is told of the bytes, of each state that was read
abbrev Told : StateParts → (List Block → Bytes → Type 0) → Bytes → Type 0
Told s Says bytes = (blocks : List Block) → HasAllBlocks s blocks → Says blocks bytes

abbrev Read : StateParts → (saved.State → Bytes → Type 0) → Bytes → Type 0
Read s Says bytes = (m : saved.State) → IsReadState s m → Says m bytes

abbrev Due : PullFault → saved.State → Bytes → Type 0
Due e m bytes = IsRefusedBy (Refuses (kept_of m) (OfBundle bytes)) e

pub text_within-requires : goal.text_within-requires
text_within-requires g c =
    let blocks = c.in_ok-pulled.ensures.history.0 in
    let on = c.in_ok-pulled.ensures.next blocks c.in_ok-pulled.ensures.history.1 in
    record { within = within c.in_ok-pulled.pulled.state blocks on.new c.in_ok-pulled.pulled.first_new on.next on.first_new; history = (_, on.next) }

-- ---- the pull below fails

pub returns-in_err-pulled-clause-refused : goal.returns-in_err-pulled-clause-refused
returns-in_err-pulled-clause-refused g c =
    let p = err_from_is_err_and c.from_residual.result c.from_residual.ensures.1 in
    let e = c.in_err-pulled.field-0.0 in
    let s = c.args.state in
    rw (p.1, p.2)
    (some-one (g.S.Source.left c.args.src.now) (Told s (λ blocks bytes. RefusesHg s blocks bytes e)) (Read s (Due e))
    (λ bytes h m read. refused-before s m read bytes e (h m.blocks (read.stands).blocks)) c.in_err-pulled.ensures.refused)

pub returns-in_err-pulled-clause-names : goal.returns-in_err-pulled-clause-names
returns-in_err-pulled-clause-names g c =
    let p = err_from_is_err_and c.from_residual.result c.from_residual.ensures.1 in
    rw (p.1, p.2) (inl c.in_err-pulled.ensures.names)

pub returns-in_err-pulled-clause-cause : goal.returns-in_err-pulled-clause-cause
returns-in_err-pulled-clause-cause g c =
    let p = err_from_is_err_and c.from_residual.result c.from_residual.ensures.1 in
    rw (p.1, p.2) c.in_err-pulled.ensures.cause

pub returns-in_err-pulled-clause-asked : goal.returns-in_err-pulled-clause-asked
returns-in_err-pulled-clause-asked g c =
    let p = err_from_is_err_and c.from_residual.result c.from_residual.ensures.1 in
    let s = c.args.state in
    let before = c.args.steps.now in
    let now = c.pull_hg.new.steps in
    rw p.1
    (some-one (g.S.Source.left c.args.src.now) (Told s (λ blocks bytes. StepsHg (state_value s blocks) bytes before now)) (Read s (λ m bytes. StepsHg (known_of (kept_of m)) bytes before now))
    (λ bytes h m read. asked-before s m read bytes before now (h m.blocks (read.stands).blocks)) c.in_err-pulled.ensures.asked)

-- ---- a limit is passed

pub returns-in_err-text-clause-refused : goal.returns-in_err-text-clause-refused
returns-in_err-text-clause-refused g c =
    let p = err_from_is_err_and c.from_residual-in_err-text.result c.from_residual-in_err-text.ensures.1 in
    let e = c.in_err-text.field-0.0 in
    let s = c.args.state in
    let done = c.in_ok-pulled.pulled in
    rw (p.1, p.2)
    (some-one (g.S.Source.left c.args.src.now) (Told s (λ blocks bytes. PulledHg s blocks bytes done)) (Read s (Due e))
    (λ bytes h m read. refused-large s m read bytes done (h m.blocks (read.stands).blocks) (c.in_ok-pulled.ensures.next m.blocks (read.stands).blocks) e c.in_err-text.ensures.large) c.in_ok-pulled.ensures.pulled)

pub returns-in_err-text-clause-names : goal.returns-in_err-text-clause-names
returns-in_err-text-clause-names g c =
    let p = err_from_is_err_and c.from_residual-in_err-text.result c.from_residual-in_err-text.ensures.1 in
    rw (p.1, p.2) (inr c.in_err-text.ensures.names)

pub returns-in_err-text-clause-cause : goal.returns-in_err-text-clause-cause
returns-in_err-text-clause-cause g c =
    let p = err_from_is_err_and c.from_residual-in_err-text.result c.from_residual-in_err-text.ensures.1 in
    rw (p.1, p.2) (limit-cause _ _ c.in_err-text.field-0.0 c.in_err-text.ensures.names c.in_ok-pulled.ensures.cause)

pub returns-in_err-text-clause-asked : goal.returns-in_err-text-clause-asked
returns-in_err-text-clause-asked g c =
    let p = err_from_is_err_and c.from_residual-in_err-text.result c.from_residual-in_err-text.ensures.1 in
    let s = c.args.state in
    let before = c.args.steps.now in
    let now = c.pull_hg.new.steps in
    let done = c.in_ok-pulled.pulled in
    rw p.1
    (some-one (g.S.Source.left c.args.src.now) (Told s (λ blocks bytes. PulledHg s blocks bytes done)) (Read s (λ m bytes. StepsHg (known_of (kept_of m)) bytes before now))
    (λ bytes h m read. asked-after s m read bytes done (h m.blocks (read.stands).blocks) (c.in_ok-pulled.ensures.next m.blocks (read.stands).blocks) before now c.in_ok-pulled.ensures.steps) c.in_ok-pulled.ensures.pulled)

-- ---- the pull is accepted

pub returns-clause-pulled : goal.returns-clause-pulled
returns-clause-pulled g c =
    let s = c.args.state in
    let done = c.in_ok-pulled.pulled in
    let result : Pulled = record { state = done.state; first_new = done.first_new; made = done.made; text = c.in_ok-text.text } in
    some-one (g.S.Source.left c.args.src.now) (Told s (λ blocks bytes. PulledHg s blocks bytes done)) (Read s (λ m bytes. IsPulled m (OfBundle bytes) result))
    (λ bytes h m read. accepted s m read bytes done (h m.blocks (read.stands).blocks) (c.in_ok-pulled.ensures.next m.blocks (read.stands).blocks) c.in_ok-text.ensures.small c.in_ok-text.text) c.in_ok-pulled.ensures.pulled

-- ---- whatever the source tells

pub returns-clause-next : goal.returns-clause-next
returns-clause-next g c =
    λ m read. goes-on c.args.state m read c.in_ok-pulled.pulled (c.in_ok-pulled.ensures.next m.blocks (read.stands).blocks)

pub returns-clause-names_stay : goal.returns-clause-names_stay
returns-clause-names_stay g c =
    let history = c.in_ok-pulled.ensures.history in
    let on = c.in_ok-pulled.ensures.next history.0 history.1 in
    on.names
