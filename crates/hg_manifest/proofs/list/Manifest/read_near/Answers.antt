use Rattle.std.proofs.Common.{ℕ, ◌-◌, length, sym, subst, arith, ◌∙◌}
use Rattle.std.specs.Option.{option_copied}
use Rattle.text_model.specs.Text.{Bytes, IsBytes}
use Rattle.text_model.proofs.ByteLemmas.{IsBytes-by_index}
use Rattle.hg_model.specs.Manifest.{entry_of_line, entry_fault}
use Rattle.hg_manifest.specs.Values.{IsNamed}
use Rattle.hg_manifest.proofs.ReadLemmas.{IsLineOf, at_start, line_fault, goes_on, goes_near_many, many_behind, less_left, path_within, path_is, line_entry}
use Rattle.hg_manifest.proofs.BesideLemmas.{later-more, told-start, told-same, told-one, told-end}
use Rattle.hg_manifest.proofs.list.Manifest.read_near.Goals as goal

pub loop-near-init : goal.loop-near-init
loop-near-init c =
    let fits = subst (λ (x : Bytes). IsBytes x) c.as_slice-rest.ensures (IsBytes-by_index c.as_slice-rest.result.now (λ i. omega (arith, c.type_inv.rest i))) in
    record {
      read = rw (c.in_ok-manifest.ensures, c.as_slice-rest.ensures) (at_start c.args.text.now fits);
      told = rw (c.in_ok-manifest.ensures, c.new-newer.ensures) (told-start c.args.near);
    }

pub push_all-requires : goal.push_all-requires
push_all-requires c =
    many_behind c.args.text.now _ c.loop-near.manifest c.loop-near.rest.now c.in-Some.after.now _ c.loop-near.invariant.read c.in-Some.ensures.first (sym c.first_rises.ensures ∙ c.if-first_rises.true)

pub loop-near-preserved-in-loop-near : goal.loop-near-preserved-in-loop-near
loop-near-preserved-in-loop-near c = record {
  read =
      rw (c.in_ok-push_all.ensures, c.last_path-last.ensures)
      (goes_near_many c.args.text.now _ c.loop-near.manifest c.loop-near.rest.now c.in-Some.after.now _ c.loop-near.invariant.read c.in-Some.ensures.first (sym c.first_rises.ensures ∙ c.if-first_rises.true));
  told =
      rw (c.in_ok-push_all.ensures)
      (told-same c.args.near c.loop-near.near c.take.new.self c.loop-near.newer c.loop-near.told c.loop-near.manifest _ c.loop-near.invariant.told c.in-Some.ensures.later c.in-Some.ensures.lines);
}

pub loop-near-smaller-in-loop-near : goal.loop-near-smaller-in-loop-near
loop-near-smaller-in-loop-near c = less_left c.loop-near.rest.now c.in-Some.after.now _ c.in-Some.ensures.first

pub part-requires-clause-within : goal.part-requires-clause-within
part-requires-clause-within c =
    let l : IsLineOf c.loop-near.rest.now c.first_line.result.0.now c.first_line.result.1.now = record { lines = c.first_line.ensures.lines; whole = c.first_line.ensures.whole; some = c.first_line.ensures.some } in
    rw (c.len.ensures.value) (path_within c.args.text.now _ c.loop-near.manifest c.loop-near.rest.now c.first_line.result.0.now c.first_line.result.1.now c.loop-near.invariant.read l _ c.in-Ok.ensures.line.reads)

pub push_shared-requires-clause-fit : goal.push_shared-requires-clause-fit
push_shared-requires-clause-fit c =
    let l : IsLineOf c.loop-near.rest.now c.first_line.result.0.now c.first_line.result.1.now = record { lines = c.first_line.ensures.lines; whole = c.first_line.ensures.whole; some = c.first_line.ensures.some } in
    rw (c.in_ok-new.ensures, c.in_ok-part.ensures, c.len.ensures.value, path_is c.args.text.now _ c.loop-near.manifest c.loop-near.rest.now c.first_line.result.0.now c.first_line.result.1.now c.loop-near.invariant.read l _ c.in-Ok.ensures.line.reads) (line_entry c.args.text.now _ c.loop-near.manifest c.loop-near.rest.now c.first_line.result.0.now c.first_line.result.1.now c.loop-near.invariant.read l _ c.in-Ok.ensures.line.reads c.in-Ok.ensures.line.fit)

pub push_shared-requires-clause-rises : goal.push_shared-requires-clause-rises
push_shared-requires-clause-rises c =
    let l : IsLineOf c.loop-near.rest.now c.first_line.result.0.now c.first_line.result.1.now = record { lines = c.first_line.ensures.lines; whole = c.first_line.ensures.whole; some = c.first_line.ensures.some } in
    rw (c.in_ok-new.ensures, c.in_ok-part.ensures, c.len.ensures.value, path_is c.args.text.now _ c.loop-near.manifest c.loop-near.rest.now c.first_line.result.0.now c.first_line.result.1.now c.loop-near.invariant.read l _ c.in-Ok.ensures.line.reads, ← c.loop-near.invariant.read.last_is) c.in-Ok.ensures.line.above

pub loop-near-preserved : goal.loop-near-preserved
loop-near-preserved c =
    let l : IsLineOf c.loop-near.rest.now c.first_line.result.0.now c.first_line.result.1.now = record { lines = c.first_line.ensures.lines; whole = c.first_line.ensures.whole; some = c.first_line.ensures.some } in
    let r = goes_on c.args.text.now _ c.loop-near.manifest c.loop-near.rest.now c.first_line.result.0.now c.first_line.result.1.now c.loop-near.invariant.read l _ c.in-Ok.ensures.line.reads c.in-Ok.ensures.line.above c.in-Ok.ensures.line.fit in
    record {
      read = rw (c.in_ok-push_shared.ensures.ok, c.in_ok-new.ensures, c.in_ok-part.ensures, c.len.ensures.value, path_is c.args.text.now _ c.loop-near.manifest c.loop-near.rest.now c.first_line.result.0.now c.first_line.result.1.now c.loop-near.invariant.read l _ c.in-Ok.ensures.line.reads) r;
      told =
          rw (c.len-told.ensures.len, c.in_ok-push_shared.ensures.ok, c.in_ok-push.ensures, c.len-in_default.ensures.len)
          (told-one c.args.near c.loop-near.near c.pass.new.self c.loop-near.newer c.loop-near.told c.loop-near.manifest _ c.loop-near.invariant.told (later-more c.loop-near.near c.take.new.self c.pass.new.self c.take.ensures.later c.pass.ensures));
    }

pub returns-clause-newer : goal.returns-clause-newer
returns-clause-newer c = rw (c.shrink_to_fit.ensures.items, c.manifest-2.view_is) (told-end c.args.near c.loop-near.near c.loop-near.newer c.loop-near.told _ c.loop-near.invariant.told)

pub returns-in-Err-clause-manifest : goal.returns-in-Err-clause-manifest
returns-in-Err-clause-manifest c =
    let text : Bytes = c.args.text.now in
    let rest : Bytes = c.loop-near.rest.now in
    let line : Bytes = c.first_line.result.0.now in
    let last = option_copied c.loop-near.last in
    let l : IsLineOf rest line c.first_line.result.1.now = record { lines = c.first_line.ensures.lines; whole = c.first_line.ensures.whole; some = c.first_line.ensures.some } in
    let named = subst (λ (n : ℕ). IsNamed (entry_fault last (n - length rest) (entry_of_line line)) c.in-Err.fault) c.len.ensures.value c.in-Err.ensures.fault in
    line_fault text last c.loop-near.manifest rest line c.first_line.result.1.now c.loop-near.invariant.read l c.in-Err.fault named
