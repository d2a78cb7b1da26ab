use Rattle.std.proofs.Common.{◌≡◌, ◌+◌, map, Some, length, sym, ap, subst, ◌∙◌, length-append, arith}
use Rattle.std.specs.Prelude.{min}
use Rattle.std.proofs.Math.Nat.{zero-add}
use Rattle.std.specs.List.{flat_map}
use Rattle.text_model.specs.Lists.{Each}
use Rattle.text_model.specs.Text.{Bytes}
use Rattle.hg_model.specs.Revision.{FilesAt}
use Rattle.hg_dump.specs.Written.{file_part}
use Rattle.view_model.specs.Dump.{of_group}
use Rattle.hg_dump.proofs.BundleLemmas.{here}
use Rattle.hg_dump.proofs.FileLemmas.{by_path, to-each, key-paths, rising-keys}
use Rattle.hg_dump.proofs.length.files_len.Goals as goal

pub loop-path-init : goal.loop-path-init
loop-path-init c =
    let gives = c.into_iter-path-iterator.ensures.into_iter_gives in
    let files = c.args.files.now in
    record {
      small = omega arith;
      counted = λ rs are. ap (λ l. min (0 + length (flat_map (file_part c.args.store.now rs) l)) 18446744073709551615) (ap (map (λ e. e.0.items)) gives.0 ∙ key-paths files.entries) ∙ ap (λ n. min n 18446744073709551615) (zero-add _);
      found = subst (Each (λ e. by_path files e.0.items ≡ Some e.1)) (sym gives.0) (to-each (λ e. by_path files e.0.items ≡ Some e.1) files.entries gives.6);
    }

pub file_len-requires : goal.file_len-requires
file_len-requires c =
    let files = c.args.files.now in
    let found = subst (Each (λ e. by_path files e.0.items ≡ Some e.1)) c.in-Some.ensures.steps c.loop-path.invariant.found in (
      of_group (FilesAt c.as_slice.result.now) c.requires.0,
      here c.args.store.now c.requires.0 files c.in-Some.path.now.items c.as_slice.result.now c.in-Some.references.now c.brought.result.now c.requires.1 found.0 c.as_slice.ensures.value c.brought.ensures,
    )

pub loop-path-preserved : goal.loop-path-preserved
loop-path-preserved c =
    let known = c.args.store.now in
    let files = c.args.files.now in
    let found = subst (Each (λ e. by_path files e.0.items ≡ Some e.1)) c.in-Some.ensures.steps c.loop-path.invariant.found in
    let key = c.in-Some.path.now.items in
    record {
      small = omega (arith, c.saturating_add-len.ensures);
      counted = λ rs are.
          let len = c.file_len.ensures (of_group (FilesAt c.as_slice.result.now) rs) (here known rs files key c.as_slice.result.now c.in-Some.references.now c.brought.result.now are found.0 c.as_slice.ensures.value c.brought.ensures) in
          omega (
            arith,
            c.saturating_add-len.ensures,
            len,
            ap (λ (p : Bytes). length (file_part known rs p)) c.as_slice.ensures.value,
            length-append (file_part known rs key) (flat_map (file_part known rs) (map (λ e. e.0.items) c.next.new.self)),
            ap (λ l. length (flat_map (file_part known rs) (map (λ e. e.0.items) l))) c.in-Some.ensures.steps,
            c.loop-path.invariant.counted rs are,
          );
      found = found.1;
    }

pub returns-clause-len : goal.returns-clause-len
returns-clause-len c = λ rs are.
    omega (
      arith,
      ap (λ l. length (flat_map (file_part c.args.store.now rs) (map (λ e. e.0.items) l))) c.in-None.ensures.steps.0,
      c.loop-path.invariant.counted rs are,
      c.loop-path.invariant.small,
    )

pub returns-clause-rising : goal.returns-clause-rising
returns-clause-rising c = rising-keys c.args.files.now c.into_iter-path-iterator.ensures.into_iter_gives.5
