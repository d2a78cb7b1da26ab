use Rattle.std.proofs.Common.{List, true, false, sym, ap, subst, ◌∙◌, map, find, bytes_eq}
use Rattle.hg_model.specs.Revision.{Revision, FilesAt, revision_of}
use Rattle.pair_known.specs.Fresh.{group_path, fresh_revision, AreFreshFiles}
use Rattle.pair_known.specs.declared.fresh_files.FreshFile.{FreshFile}
use Rattle.pair_known.proofs.FreshLemmas.{fresh-none, fresh-some}
use Rattle.pair_known.proofs.fresh_files.FreshFiles.get.Goals as goal

pub at_path-requires : goal.at_path-requires
at_path-requires c = subst (λ (l : List FreshFile). AreFreshFiles (map fresh_revision l)) (sym c.as_slice.ensures.value) c.self.invariant

pub returns-then-eq : goal.returns-then-eq
returns-then-eq c =
    let items = c.self.inside.items.items in
    let path = c.args.path.now in
    let node = c.args.node.now in
    fresh-some items path node c.self.invariant c.in-Some.item.now (c.in-Some.ensures ∙ ap (λ (l : List FreshFile). find (λ r. bytes_eq (group_path r.group) path) (map fresh_revision l)) c.as_slice.ensures.value) true (sym c.if-eq.ensures)
    ∙ ap (λ (l : List Revision). revision_of l (FilesAt path) node) c.self.view_is

pub returns-else-eq : goal.returns-else-eq
returns-else-eq c =
    let items = c.self.inside.items.items in
    let path = c.args.path.now in
    let node = c.args.node.now in
    fresh-some items path node c.self.invariant c.in-Some.item.now (c.in-Some.ensures ∙ ap (λ (l : List FreshFile). find (λ r. bytes_eq (group_path r.group) path) (map fresh_revision l)) c.as_slice.ensures.value) false (sym c.if-eq.ensures)
    ∙ ap (λ (l : List Revision). revision_of l (FilesAt path) node) c.self.view_is

pub returns-in-None : goal.returns-in-None
returns-in-None c =
    let path = c.args.path.now in
    let node = c.args.node.now in
    fresh-none c.self.inside.items.items path node c.self.invariant (c.in-None.ensures ∙ ap (λ (l : List FreshFile). find (λ r. bytes_eq (group_path r.group) path) (map fresh_revision l)) c.as_slice.ensures.value)
    ∙ ap (λ (l : List Revision). revision_of l (FilesAt path) node) c.self.view_is
