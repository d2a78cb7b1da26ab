use Rattle.std.proofs.Common.{◌++◌, [], subst}
use Rattle.std.specs.List.{flat_map}
use Rattle.text_model.specs.Text.{Bytes}
use Rattle.hg_model.specs.Bundle.{group_text}
use Rattle.hg_model.specs.Chunk.{chunk_text, magic_text}
use Rattle.hg_model.specs.Revision.{Changesets, Manifests, FilesAt}
use Rattle.view_model.specs.Dump.{of_group, written_group}
use Rattle.hg_dump.specs.Begins.{LacksFront, IsBehind}
use Rattle.hg_dump.specs.State.{paths_of}
use Rattle.hg_dump.specs.Written.{file_part}
use Rattle.hg_dump.proofs.BundleLemmas.{of-list, whole-bundle}
use Rattle.hg_dump.proofs.StripLemmas.{begins-magic, begins-changesets, begins-manifests, has-both, lacks-first, lacks-second, behind-both}
use Rattle.hg_dump.proofs.ToldLemmas.{files-part, manifests-part, told-changesets, told-manifests, told-files}
use Rattle.hg_dump.proofs.strip.strip_bundle.Goals as goal

pub strip_group-requires : goal.strip_group-requires
strip_group-requires c =
    let known = c.args.store.now in
    let rs = c.requires.brought.0 in
    let told = c.requires.told in
    record {
      told = (manifests-part known c.args.bytes.now told, told-changesets known c.args.bytes.now told c.in_ok-changesets.changesets.now c.in_ok-changesets.ensures);
      are = (of_group Changesets rs, of-list known c.args.brought.now rs c.requires.brought.1 Changesets c.brought.result.now c.brought.ensures);
    }

pub strip_group-requires-2 : goal.strip_group-requires-2
strip_group-requires-2 c =
    let known = c.args.store.now in
    let rs = c.requires.brought.0 in
    let told = c.requires.told in
    let bytes = c.args.bytes.now in
    let first = told-changesets known bytes told c.in_ok-changesets.changesets.now c.in_ok-changesets.ensures in
    record {
      told = (files-part known bytes told, told-manifests known bytes told c.in_ok-manifests.manifests.now (c.in_ok-manifests.ensures.tail (manifests-part known bytes told) first));
      are = (of_group Manifests rs, of-list known c.args.brought.now rs c.requires.brought.1 Manifests c.brought-2.result.now c.brought-2.ensures);
    }

pub strip_files-requires-clause-told : goal.strip_files-requires-clause-told
strip_files-requires-clause-told c =
    let known = c.args.store.now in
    let bytes = c.args.bytes.now in
    let told = c.requires.told in
    let first = told-changesets known bytes told c.in_ok-changesets.changesets.now c.in_ok-changesets.ensures in
    let second = told-manifests known bytes told c.in_ok-manifests.manifests.now (c.in_ok-manifests.ensures.tail (manifests-part known bytes told) first) in
    told-files known bytes told c.in_ok-files.files.now (c.in_ok-files.ensures.tail (files-part known bytes told) second)

pub returns-in_err-changesets : goal.returns-in_err-changesets
returns-in_err-changesets c = rw c.from_residual.ensures (λ rs are. begins-magic c.args.store.now c.args.bytes.now rs c.in_err-changesets.ensures)

pub returns-in_err-manifests : goal.returns-in_err-manifests
returns-in_err-manifests c = rw c.from_residual-in_err-manifests.ensures (λ rs are.
    let known = c.args.store.now in
    let b = c.args.brought.now in
    begins-changesets known c.args.bytes.now rs c.in_ok-changesets.changesets.now c.in_ok-changesets.ensures
    (c.in_err-manifests.ensures.behind (of_group Changesets rs) (of-list known b rs are Changesets c.brought.result.now c.brought.ensures)))

pub returns-in_err-files : goal.returns-in_err-files
returns-in_err-files c = rw c.from_residual-in_err-files.ensures (λ rs are.
    let known = c.args.store.now in
    let b = c.args.brought.now in
    begins-manifests known c.args.bytes.now rs c.in_ok-changesets.changesets.now c.in_ok-manifests.manifests.now c.in_ok-changesets.ensures
    (c.in_ok-manifests.ensures.behind (of_group Changesets rs) (of-list known b rs are Changesets c.brought.result.now c.brought.ensures))
    (c.in_err-files.ensures.behind (of_group Manifests rs) (of-list known b rs are Manifests c.brought-2.result.now c.brought-2.ensures)))

pub returns-in_err-end : goal.returns-in_err-end
returns-in_err-end c = rw c.from_residual-in_err-end.ensures (λ rs are.
    let known = c.args.store.now in
    let b = c.args.brought.now in
    let bytes = c.args.bytes.now in
    let one = group_text (written_group known Changesets (of_group Changesets rs)) in
    let two = group_text (written_group known Manifests (of_group Manifests rs)) in
    let files = flat_map (file_part known rs) (paths_of b.files) in
    let end = chunk_text [] in
    subst (λ (f : Bytes). LacksFront bytes f) (whole-bundle known b rs are c.in_err-end.ensures.rising)
    (lacks-first bytes (magic_text ++ one ++ two ++ files) end (lacks-second bytes (magic_text ++ one ++ two) files c.in_ok-files.files.now
    (has-both bytes (magic_text ++ one) two c.in_ok-manifests.manifests.now c.in_ok-files.files.now
    (has-both bytes magic_text one c.in_ok-changesets.changesets.now c.in_ok-manifests.manifests.now c.in_ok-changesets.ensures (c.in_ok-manifests.ensures.behind (of_group Changesets rs) (of-list known b rs are Changesets c.brought.result.now c.brought.ensures)))
    (c.in_ok-files.ensures.behind (of_group Manifests rs) (of-list known b rs are Manifests c.brought-2.result.now c.brought-2.ensures)))
    (c.in_err-end.ensures.behind rs (λ path. are (FilesAt path))))))

pub returns : goal.returns
returns c = λ rs are.
    let known = c.args.store.now in
    let b = c.args.brought.now in
    let bytes = c.args.bytes.now in
    let one = group_text (written_group known Changesets (of_group Changesets rs)) in
    let two = group_text (written_group known Manifests (of_group Manifests rs)) in
    let files = flat_map (file_part known rs) (paths_of b.files) in
    let end = chunk_text [] in
    subst (λ (f : Bytes). IsBehind bytes f c.strip_empty.result) (whole-bundle known b rs are c.in_ok-end.ensures.rising)
    (behind-both bytes (magic_text ++ one ++ two ++ files) end c.in_ok-end.end.now c.strip_empty.result
    (has-both bytes (magic_text ++ one ++ two) files c.in_ok-files.files.now c.in_ok-end.end.now
    (has-both bytes (magic_text ++ one) two c.in_ok-manifests.manifests.now c.in_ok-files.files.now
    (has-both bytes magic_text one c.in_ok-changesets.changesets.now c.in_ok-manifests.manifests.now c.in_ok-changesets.ensures (c.in_ok-manifests.ensures.behind (of_group Changesets rs) (of-list known b rs are Changesets c.brought.result.now c.brought.ensures)))
    (c.in_ok-files.ensures.behind (of_group Manifests rs) (of-list known b rs are Manifests c.brought-2.result.now c.brought-2.ensures)))
    (c.in_ok-end.ensures.behind rs (λ path. are (FilesAt path))))
    c.strip_empty.ensures)
