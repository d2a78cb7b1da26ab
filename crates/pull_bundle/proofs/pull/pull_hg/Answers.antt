use Rattle.std.proofs.Common.{◌++◌, sym, subst}
use Rattle.std.proofs.lemmas.Result.{err_from_is_err_and}
use Rattle.pair_model.specs.Block.{commits_in}
use Rattle.pair_state.specs.declared.state_parts.StateParts.{StateParts}
use Rattle.pull_bundle.specs.Takes.{HasRead}
use Rattle.pull_bundle.proofs.PullLemmas.{Told, begun, memory-refused, read-refused, no-read_cause, starts-read, take-refused, left-refused, some-asked, all-taken, walkable, count-within, next-goes-on, pulled}
use Rattle.pull_bundle.proofs.pull.pull_hg.Goals as goal

pub begin-requires : goal.begin-requires
begin-requires g c =
    let x = c.into_parts-parts.ensures.history in
    record { state = (x.0, c.in_ok-parts.ensures.read.1.state x.0 (x.1).state) }

pub take_all-requires : goal.take_all-requires
take_all-requires g c =
    let s = c.into_parts-parts.result in
    let t = c.in_ok-taking.taking in
    let list = c.in_ok-parts.arrivals in
    let same = sym c.in_ok-taking.ensures.state in
    let refer = begun _ t c.in_ok-taking.ensures.state c.in_ok-taking.ensures.referred c.in_ok-taking.ensures.near in
    let came = c.in_ok-parts.ensures.read.0 in
    let read = subst (λ (x : StateParts). HasRead s x list came) same c.in_ok-parts.ensures.read.1 in
    let x = c.into_parts-parts.ensures.history in
    record { starts = (s.known.hg, x.0, came, starts-read s t list came x.0 x.1 read refer) }

pub returns-in_err-parts-clause-refused : goal.returns-in_err-parts-clause-refused
returns-in_err-parts-clause-refused g c =
    let p = err_from_is_err_and c.from_residual.result c.from_residual.ensures.1 in
    rw (p.1, p.2, sym c.into_parts-parts.ensures.parts) (read-refused (g.S.Source.left c.args.src.now) c.into_parts-parts.result c.in_err-parts.field-0.0 c.in_err-parts.ensures.refused)

pub returns-in_err-state-clause-refused : goal.returns-in_err-state-clause-refused
returns-in_err-state-clause-refused g c =
    let p = err_from_is_err_and c.from_residual-in_err-state.result c.from_residual-in_err-state.ensures.1 in
    let s = c.into_parts-parts.result in
    let t = c.in_ok-taking.taking in
    let list = c.in_ok-parts.arrivals in
    let same = sym c.in_ok-taking.ensures.state in
    let refer = begun _ t c.in_ok-taking.ensures.state c.in_ok-taking.ensures.referred c.in_ok-taking.ensures.near in
    let told = subst (λ (x : StateParts). Told (g.S.Source.left c.args.src.now) s x list) same c.in_ok-parts.ensures.told in
    rw (p.1, p.2, sym c.into_parts-parts.ensures.parts) (take-refused (g.S.Source.left c.args.src.now) s t list c.in_err-state.field-0.0 told refer c.in_err-state.ensures.refused)

pub returns-in_err-state-clause-asked : goal.returns-in_err-state-clause-asked
returns-in_err-state-clause-asked g c =
    let p = err_from_is_err_and c.from_residual-in_err-state.result c.from_residual-in_err-state.ensures.1 in
    let s = c.into_parts-parts.result in
    let t = c.in_ok-taking.taking in
    let list = c.in_ok-parts.arrivals in
    let same = sym c.in_ok-taking.ensures.state in
    let refer = begun _ t c.in_ok-taking.ensures.state c.in_ok-taking.ensures.referred c.in_ok-taking.ensures.near in
    let told = subst (λ (x : StateParts). Told (g.S.Source.left c.args.src.now) s x list) same c.in_ok-parts.ensures.told in
    rw (p.1, sym c.into_parts-parts.ensures.parts) (some-asked (g.S.Source.left c.args.src.now) s t list c.args.steps.now c.take_all.new.steps told refer c.in_err-state.ensures.some)

pub returns-in_err-check_left_over-clause-refused : goal.returns-in_err-check_left_over-clause-refused
returns-in_err-check_left_over-clause-refused g c =
    let p = err_from_is_err_and c.from_residual-in_err-check_left_over.result c.from_residual-in_err-check_left_over.ensures.1 in
    let s = c.into_parts-parts.result in
    let t = c.in_ok-taking.taking in
    let list = c.in_ok-parts.arrivals in
    let same = sym c.in_ok-taking.ensures.state in
    let refer = begun _ t c.in_ok-taking.ensures.state c.in_ok-taking.ensures.referred c.in_ok-taking.ensures.near in
    let told = subst (λ (x : StateParts). Told (g.S.Source.left c.args.src.now) s x list) same c.in_ok-parts.ensures.told in
    let next = c.in_ok-state.field-0 in
    let taken = c.in_ok-state.ensures.ok in
    rw (p.1, p.2, sym c.into_parts-parts.ensures.parts) (left-refused (g.S.Source.left c.args.src.now) s t next list c.in_err-check_left_over.field-0.0 told refer taken c.in_err-check_left_over.ensures.refused)

pub returns-in_err-check_left_over-clause-names : goal.returns-in_err-check_left_over-clause-names
returns-in_err-check_left_over-clause-names g c =
    let p = err_from_is_err_and c.from_residual-in_err-check_left_over.result c.from_residual-in_err-check_left_over.ensures.1 in
    rw (p.1, p.2) c.in_err-check_left_over.ensures.names

pub returns-in_err-check_left_over-clause-cause : goal.returns-in_err-check_left_over-clause-cause
returns-in_err-check_left_over-clause-cause g c =
    let p = err_from_is_err_and c.from_residual-in_err-check_left_over.result c.from_residual-in_err-check_left_over.ensures.1 in
    rw (p.1, p.2) (no-read_cause _ _ c.in_err-check_left_over.field-0.0 c.in_err-check_left_over.ensures.no_read c.in_ok-parts.ensures.cause)

pub returns-in_err-check_left_over-clause-asked : goal.returns-in_err-check_left_over-clause-asked
returns-in_err-check_left_over-clause-asked g c =
    let p = err_from_is_err_and c.from_residual-in_err-check_left_over.result c.from_residual-in_err-check_left_over.ensures.1 in
    let s = c.into_parts-parts.result in
    let t = c.in_ok-taking.taking in
    let list = c.in_ok-parts.arrivals in
    let same = sym c.in_ok-taking.ensures.state in
    let refer = begun _ t c.in_ok-taking.ensures.state c.in_ok-taking.ensures.referred c.in_ok-taking.ensures.near in
    let told = subst (λ (x : StateParts). Told (g.S.Source.left c.args.src.now) s x list) same c.in_ok-parts.ensures.told in
    let next = c.in_ok-state.field-0 in
    let taken = c.in_ok-state.ensures.ok in
    let few = c.in_ok-state.ensures.steps in
    rw (p.1, sym c.into_parts-parts.ensures.parts)
    (some-asked (g.S.Source.left c.args.src.now) s t list c.args.steps.now c.take_all.new.steps told refer (all-taken t next list c.args.steps.now c.take_all.new.steps taken few))

pub write-requires-clause-from : goal.write-requires-clause-from
write-requires-clause-from g c =
    let s = c.into_parts-parts.result in
    let t = c.in_ok-taking.taking in
    let list = c.in_ok-parts.arrivals in
    let same = sym c.in_ok-taking.ensures.state in
    let refer = begun _ t c.in_ok-taking.ensures.state c.in_ok-taking.ensures.referred c.in_ok-taking.ensures.near in
    let came = c.in_ok-parts.ensures.read.0 in
    let read = subst (λ (x : StateParts). HasRead s x list came) same c.in_ok-parts.ensures.read.1 in
    let x = c.into_parts-parts.ensures.history in
    let next = c.in_ok-state.field-0 in
    let taken = c.in_ok-state.ensures.ok in
    let took = (taken s.known.hg x.0 came (starts-read s t list came x.0 x.1 read refer)).takes in
    count-within s next.state x.0 took.new c.len-first_new.result c.len-first_new.ensures (x.1).state (took.taking).state

pub write-requires-clause-commits : goal.write-requires-clause-commits
write-requires-clause-commits g c =
    let s = c.into_parts-parts.result in
    let t = c.in_ok-taking.taking in
    let list = c.in_ok-parts.arrivals in
    let same = sym c.in_ok-taking.ensures.state in
    let refer = begun _ t c.in_ok-taking.ensures.state c.in_ok-taking.ensures.referred c.in_ok-taking.ensures.near in
    let came = c.in_ok-parts.ensures.read.0 in
    let read = subst (λ (x : StateParts). HasRead s x list came) same c.in_ok-parts.ensures.read.1 in
    let x = c.into_parts-parts.ensures.history in
    let next = c.in_ok-state.field-0 in
    let taken = c.in_ok-state.ensures.ok in
    let took = (taken s.known.hg x.0 came (starts-read s t list came x.0 x.1 read refer)).takes in
    (commits_in (x.0 ++ took.new), walkable next.state (x.0 ++ took.new) (took.taking).state)

pub returns-in_err-made-clause-refused : goal.returns-in_err-made-clause-refused
returns-in_err-made-clause-refused g c =
    let p = err_from_is_err_and c.from_residual-in_err-made.result c.from_residual-in_err-made.ensures.1 in
    rw (p.1, p.2, sym c.into_parts-parts.ensures.parts) (memory-refused (g.S.Source.left c.args.src.now) c.into_parts-parts.result)

pub returns-in_err-made-clause-names : goal.returns-in_err-made-clause-names
returns-in_err-made-clause-names g c =
    let p = err_from_is_err_and c.from_residual-in_err-made.result c.from_residual-in_err-made.ensures.1 in
    rw (p.1, p.2) tt

pub returns-in_err-made-clause-cause : goal.returns-in_err-made-clause-cause
returns-in_err-made-clause-cause g c =
    let p = err_from_is_err_and c.from_residual-in_err-made.result c.from_residual-in_err-made.ensures.1 in
    rw (p.1, p.2) c.in_ok-parts.ensures.cause

pub returns-in_err-made-clause-asked : goal.returns-in_err-made-clause-asked
returns-in_err-made-clause-asked g c =
    let p = err_from_is_err_and c.from_residual-in_err-made.result c.from_residual-in_err-made.ensures.1 in
    let s = c.into_parts-parts.result in
    let t = c.in_ok-taking.taking in
    let list = c.in_ok-parts.arrivals in
    let same = sym c.in_ok-taking.ensures.state in
    let refer = begun _ t c.in_ok-taking.ensures.state c.in_ok-taking.ensures.referred c.in_ok-taking.ensures.near in
    let told = subst (λ (x : StateParts). Told (g.S.Source.left c.args.src.now) s x list) same c.in_ok-parts.ensures.told in
    let next = c.in_ok-state.field-0 in
    let taken = c.in_ok-state.ensures.ok in
    let few = c.in_ok-state.ensures.steps in
    rw (p.1, sym c.into_parts-parts.ensures.parts)
    (some-asked (g.S.Source.left c.args.src.now) s t list c.args.steps.now c.take_all.new.steps told refer (all-taken t next list c.args.steps.now c.take_all.new.steps taken few))

pub from_parts-requires : goal.from_parts-requires
from_parts-requires g c =
    let s = c.into_parts-parts.result in
    let t = c.in_ok-taking.taking in
    let list = c.in_ok-parts.arrivals in
    let same = sym c.in_ok-taking.ensures.state in
    let refer = begun _ t c.in_ok-taking.ensures.state c.in_ok-taking.ensures.referred c.in_ok-taking.ensures.near in
    let came = c.in_ok-parts.ensures.read.0 in
    let read = subst (λ (x : StateParts). HasRead s x list came) same c.in_ok-parts.ensures.read.1 in
    let x = c.into_parts-parts.ensures.history in
    let next = c.in_ok-state.field-0 in
    let taken = c.in_ok-state.ensures.ok in
    let after = next-goes-on s t next list c.len-first_new.result _ c.len-first_new.ensures refer taken c.in_ok-check_left_over.ensures.ok (λ cs h. c.in_ok-made.ensures cs h) came read x.0 x.1 in
    record { history = (x.0 ++ after.new, after.next) }

pub returns-clause-history : goal.returns-clause-history
returns-clause-history g c = rw (sym c.into_parts-parts.ensures.parts) c.into_parts-parts.ensures.history

pub returns-clause-next : goal.returns-clause-next
returns-clause-next g c =
    let s = c.into_parts-parts.result in
    let t = c.in_ok-taking.taking in
    let list = c.in_ok-parts.arrivals in
    let same = sym c.in_ok-taking.ensures.state in
    let refer = begun _ t c.in_ok-taking.ensures.state c.in_ok-taking.ensures.referred c.in_ok-taking.ensures.near in
    let came = c.in_ok-parts.ensures.read.0 in
    let read = subst (λ (x : StateParts). HasRead s x list came) same c.in_ok-parts.ensures.read.1 in
    let next = c.in_ok-state.field-0 in
    let taken = c.in_ok-state.ensures.ok in
    rw (c.from_parts.ensures, sym c.into_parts-parts.ensures.parts)
    (next-goes-on s t next list c.len-first_new.result c.in_ok-made.made c.len-first_new.ensures refer taken c.in_ok-check_left_over.ensures.ok (λ cs h. c.in_ok-made.ensures cs h) came read)

pub returns-clause-pulled : goal.returns-clause-pulled
returns-clause-pulled g c =
    let s = c.into_parts-parts.result in
    let t = c.in_ok-taking.taking in
    let list = c.in_ok-parts.arrivals in
    let same = sym c.in_ok-taking.ensures.state in
    let refer = begun _ t c.in_ok-taking.ensures.state c.in_ok-taking.ensures.referred c.in_ok-taking.ensures.near in
    let told = subst (λ (x : StateParts). Told (g.S.Source.left c.args.src.now) s x list) same c.in_ok-parts.ensures.told in
    let next = c.in_ok-state.field-0 in
    let taken = c.in_ok-state.ensures.ok in
    rw (c.from_parts.ensures, sym c.into_parts-parts.ensures.parts)
    (pulled s t next list c.len-first_new.result c.in_ok-made.made c.len-first_new.ensures refer taken c.in_ok-check_left_over.ensures.ok (λ cs h. c.in_ok-made.ensures cs h) (g.S.Source.left c.args.src.now) told)
