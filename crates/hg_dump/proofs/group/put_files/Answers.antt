use Rattle.std.proofs.Common.{◌≡◌, ◌++◌, map, Some, refl, sym, ap, subst, ◌∙◌, append-nil, append_assoc}
use Rattle.std.proofs.Transfers.{starts_with_of_eq, starts_with_trans}
use Rattle.std.specs.List.{flat_map}
use Rattle.text_model.specs.Lists.{Each}
use Rattle.text_model.specs.Text.{Bytes}
use Rattle.hg_model.specs.Revision.{FilesAt}
use Rattle.hg_dump.specs.Written.{file_part}
use Rattle.view_model.specs.Dump.{of_group}
use Rattle.hg_dump.proofs.BundleLemmas.{here}
use Rattle.hg_dump.proofs.FileLemmas.{by_path, to-each, key-paths, rising-keys}
use Rattle.hg_dump.proofs.group.put_files.Goals as goal

pub loop-path-init : goal.loop-path-init
loop-path-init c =
    let gives = c.into_iter-path-iterator.ensures.into_iter_gives in
    let files = c.args.files.now in
    record {
      written = λ rs are. ap (λ l. c.args.out.now ++ flat_map (file_part c.args.store.now rs) l) (ap (map (λ e. e.0.items)) gives.0 ∙ key-paths files.entries);
      front = starts_with_of_eq _ _ refl;
      found = subst (Each (λ e. by_path files e.0.items ≡ Some e.1)) (sym gives.0) (to-each (λ e. by_path files e.0.items ≡ Some e.1) files.entries gives.6);
    }

pub put_file-requires : goal.put_file-requires
put_file-requires c =
    let files = c.args.files.now in
    let found = subst (Each (λ e. by_path files e.0.items ≡ Some e.1)) c.in-Some.ensures.steps c.loop-path.invariant.found in (
      of_group (FilesAt c.as_slice.result.now) c.requires.0,
      here c.args.store.now c.requires.0 files c.in-Some.path.now.items c.as_slice.result.now c.in-Some.references.now c.brought.result.now c.requires.1 found.0 c.as_slice.ensures.value c.brought.ensures,
    )

pub loop-path-preserved : goal.loop-path-preserved
loop-path-preserved c =
    let known = c.args.store.now in
    let files = c.args.files.now in
    let found = subst (Each (λ e. by_path files e.0.items ≡ Some e.1)) c.in-Some.ensures.steps c.loop-path.invariant.found in
    let key = c.in-Some.path.now.items in
    record {
      written = λ rs are.
          let put = c.in_ok-put_file.ensures.ok (of_group (FilesAt c.as_slice.result.now) rs) (here known rs files key c.as_slice.result.now c.in-Some.references.now c.brought.result.now are found.0 c.as_slice.ensures.value c.brought.ensures) in
          ap (λ (x : Bytes). x ++ flat_map (file_part known rs) (map (λ e. e.0.items) c.next.new.self)) (put ∙ ap (λ (p : Bytes). c.loop-path.out ++ file_part known rs p) c.as_slice.ensures.value)
          ∙ append_assoc c.loop-path.out (file_part known rs key) (flat_map (file_part known rs) (map (λ e. e.0.items) c.next.new.self))
          ∙ ap (λ l. c.loop-path.out ++ flat_map (file_part known rs) (map (λ e. e.0.items) l)) (sym c.in-Some.ensures.steps)
          ∙ c.loop-path.invariant.written rs are;
      front = starts_with_trans _ _ _ c.put_file.ensures.front c.loop-path.invariant.front;
      found = found.1;
    }

pub returns : goal.returns
returns c =
    let known = c.args.store.now in
    let files = c.args.files.now in
    let gives = c.into_iter-path-iterator.ensures.into_iter_gives in
    record {
      bytes = λ rs are.
          sym (append-nil c.loop-path.out)
          ∙ ap (λ l. c.loop-path.out ++ flat_map (file_part known rs) (map (λ e. e.0.items) l)) (sym c.in-None.ensures.steps.0)
          ∙ c.loop-path.invariant.written rs are;
      front = c.loop-path.invariant.front;
      rising = rising-keys files gives.5;
    }
