use Rattle.std.proofs.Common.{◌≡◌, map, Some, sym, ap, subst, ◌∙◌}
use Rattle.std.specs.List.{flat_map}
use Rattle.text_model.specs.Lists.{Each}
use Rattle.text_model.specs.Text.{Bytes}
use Rattle.hg_model.specs.Revision.{FilesAt}
use Rattle.view_model.specs.Dump.{of_group}
use Rattle.hg_dump.specs.Begins.{LacksFront, HasFront, GoOnAlike}
use Rattle.hg_dump.specs.Written.{file_part}
use Rattle.hg_dump.specs.State.{paths_of}
use Rattle.hg_dump.proofs.BundleLemmas.{here}
use Rattle.hg_dump.proofs.FileLemmas.{by_path, to-each, key-paths, rising-keys}
use Rattle.hg_dump.proofs.StripLemmas.{alike-begin, alike-step, alike-lacks, alike-end}
use Rattle.hg_dump.proofs.strip.strip_files.Goals as goal

pub loop-path-init : goal.loop-path-init
loop-path-init c =
    let gives = c.into_iter-path-iterator.ensures.into_iter_gives in
    let files = c.args.files.now in
    record {
      behind = λ rs are. alike-begin c.args.bytes.now _ _ (ap (λ l. flat_map (file_part c.args.store.now rs) l) (sym (ap (map (λ e. e.0.items)) gives.0 ∙ key-paths files.entries)));
      found = subst (Each (λ e. by_path files e.0.items ≡ Some e.1)) (sym gives.0) (to-each (λ e. by_path files e.0.items ≡ Some e.1) files.entries gives.6);
      told = c.requires.told;
    }

pub strip_file-requires : goal.strip_file-requires
strip_file-requires c =
    let files = c.args.files.now in
    let found = subst (Each (λ e. by_path files e.0.items ≡ Some e.1)) c.in-Some.ensures.steps c.loop-path.invariant.found in
    record {
      told = c.loop-path.invariant.told;
      are = (
        of_group (FilesAt c.as_slice.result.now) c.requires.files.0,
        here c.args.store.now c.requires.files.0 files c.in-Some.path.now.items c.as_slice.result.now c.in-Some.references.now c.brought.result.now c.requires.files.1 found.0 c.as_slice.ensures.value c.brought.ensures,
      );
    }

pub returns-in_err-rest : goal.returns-in_err-rest
returns-in_err-rest c =
    let known = c.args.store.now in
    let files = c.args.files.now in
    let bytes = c.args.bytes.now in
    let now = c.loop-path.rest.now in
    let found = subst (Each (λ e. by_path files e.0.items ≡ Some e.1)) c.in-Some.ensures.steps c.loop-path.invariant.found in
    let key = c.in-Some.path.now.items in
    rw c.from_residual.ensures
    (record {
      behind = λ rs are.
          let none = c.in_err-rest.ensures.behind (of_group (FilesAt c.as_slice.result.now) rs) (here known rs files key c.as_slice.result.now c.in-Some.references.now c.brought.result.now are found.0 c.as_slice.ensures.value c.brought.ensures) in
          let whole = flat_map (file_part known rs) (paths_of files) in
          let left = flat_map (file_part known rs) (map (λ e. e.0.items) c.next.new.self) in
          alike-lacks bytes whole now (file_part known rs key) left
          (subst (λ l. GoOnAlike bytes whole now (flat_map (file_part known rs) (map (λ e. e.0.items) l))) c.in-Some.ensures.steps (c.loop-path.invariant.behind rs are))
          (subst (λ (p : Bytes). LacksFront now (file_part known rs p)) c.as_slice.ensures.value none);
      rising = rising-keys files c.into_iter-path-iterator.ensures.into_iter_gives.5;
    })

pub loop-path-preserved : goal.loop-path-preserved
loop-path-preserved c =
    let known = c.args.store.now in
    let files = c.args.files.now in
    let bytes = c.args.bytes.now in
    let now = c.loop-path.rest.now in
    let rest = c.in_ok-rest.rest.now in
    let found = subst (Each (λ e. by_path files e.0.items ≡ Some e.1)) c.in-Some.ensures.steps c.loop-path.invariant.found in
    let key = c.in-Some.path.now.items in
    record {
      behind = λ rs are.
          let has = c.in_ok-rest.ensures.behind (of_group (FilesAt c.as_slice.result.now) rs) (here known rs files key c.as_slice.result.now c.in-Some.references.now c.brought.result.now are found.0 c.as_slice.ensures.value c.brought.ensures) in
          let whole = flat_map (file_part known rs) (paths_of files) in
          let left = flat_map (file_part known rs) (map (λ e. e.0.items) c.next.new.self) in
          alike-step bytes whole now (file_part known rs key) left rest
          (subst (λ l. GoOnAlike bytes whole now (flat_map (file_part known rs) (map (λ e. e.0.items) l))) c.in-Some.ensures.steps (c.loop-path.invariant.behind rs are))
          (subst (λ (p : Bytes). HasFront now (file_part known rs p) rest) c.as_slice.ensures.value has);
      found = found.1;
      told = c.in_ok-rest.ensures.told;
    }

pub returns : goal.returns
returns c =
    let known = c.args.store.now in
    let files = c.args.files.now in
    let bytes = c.args.bytes.now in
    let rest = c.loop-path.rest.now in
    record {
      behind = λ rs are.
          let whole = flat_map (file_part known rs) (paths_of files) in
          alike-end bytes whole rest (subst (λ l. GoOnAlike bytes whole rest (flat_map (file_part known rs) (map (λ e. e.0.items) l))) c.in-None.ensures.steps.0 (c.loop-path.invariant.behind rs are));
      rising = rising-keys files c.into_iter-path-iterator.ensures.into_iter_gives.5;
    }
