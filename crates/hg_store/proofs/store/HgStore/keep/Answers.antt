use Rattle.std.proofs.Common.{◌≡◌, ◌++◌, [], ◌∷◌, refl, sym, ap, subst, ◌∙◌}
use Rattle.indexmap.proofs.CallerLemmas.{insert_entry-new}
use Rattle.hg_store.specs.contracts.held.KeyPartialEq.TheImpl as key_eq
use Rattle.hg_store.specs.declared.held.Held.{Held}
use Rattle.hg_store.specs.declared.held.Key.{Key}
use Rattle.hg_store.specs.Groups.{paths_in, revisions_in, revision_value, IsStore}
use Rattle.hg_store.specs.Known.{IsAddedTo, AreAdded}
use Rattle.hg_store.proofs.Found.{are_ids}
use Rattle.hg_store.proofs.EqLemmas.{tests}
use Rattle.hg_store.proofs.StoreLemmas.{IsStore-grown, revisions_in-grown, on_err, absent, kept}
use Rattle.hg_store.proofs.store.HgStore.keep.Goals as goal

pub invariant_of-self : goal.invariant_of-self
invariant_of-self c =
    (IsStore-grown (paths_in c.self.inside.paths.keys) (paths_in c.number_group.new.paths.keys) c.number_group.ensures.grown c.self.inside.revisions.entries c.self.invariant.0, c.self.invariant.1)

pub returns-in_err-group-clause-err : goal.returns-in_err-group-clause-err
returns-in_err-group-clause-err c =
    on_err c.from_residual.result
    (revisions_in-grown (paths_in c.self.inside.paths.keys) (paths_in c.number_group.new.paths.keys) c.number_group.ensures.grown c.self.inside.revisions.entries c.self.invariant.0.numbers ∙ c.self.view_is)

pub invariant_of-self-in_err-insert : goal.invariant_of-self-in_err-insert
invariant_of-self-in_err-insert c = (
  subst (IsStore (paths_in c.number_group.new.paths.keys)) (sym c.in_err-insert.ensures.err)
      (IsStore-grown (paths_in c.self.inside.paths.keys) (paths_in c.number_group.new.paths.keys) c.number_group.ensures.grown c.self.inside.revisions.entries c.self.invariant.0),
  c.self.invariant.1,
)

pub returns-in_err-insert-clause-err : goal.returns-in_err-insert-clause-err
returns-in_err-insert-clause-err c =
    on_err c.from_residual-in_err-insert.result
    (ap (revisions_in (paths_in c.number_group.new.paths.keys)) c.in_err-insert.ensures.err
    ∙ revisions_in-grown (paths_in c.self.inside.paths.keys) (paths_in c.number_group.new.paths.keys) c.number_group.ensures.grown c.self.inside.revisions.entries c.self.invariant.0.numbers ∙ c.self.view_is)

after_insert : (c : goal.Joined-branch-3) → IsStore (paths_in c.number_group.new.paths.keys) c.insert.new.self.entries
    × (revisions_in (paths_in c.number_group.new.paths.keys) c.insert.new.self.entries ≡ c.args.self.now ++ revision_value c.args.addition ∷ [])
after_insert c =
    let old = paths_in c.self.inside.paths.keys in
    let new = paths_in c.number_group.new.paths.keys in
    let es = c.self.inside.revisions.entries in
    let a = c.args.addition in
    let r = revision_value a in
    let s = IsStore-grown old new c.number_group.ensures.grown es c.self.invariant.0 in
    let view : revisions_in new es ≡ c.args.self.now = revisions_in-grown old new c.number_group.ensures.grown es c.self.invariant.0.numbers ∙ c.self.view_is in
    let number = c.in_ok-group.ensures.number in
    let key : Key = record { group = c.in_ok-group.group; node = a.node } in
    let held : Held = record { p = a.p; q = a.q; link = a.link; text = a.text; parsed = c.args.parsed } in
    let none = absent new es s c.args.self.now view r c.in_ok-group.group number (key_eq.eq-value.it key) (tests c.in_ok-group.group a.node) c.requires.fresh in
    let ids = are_ids c.args.self.now r c.requires.faultless (subst AreAdded (c.self.view_is) c.self.invariant.0.added) in
    let added : IsAddedTo c.args.self.now r = record {
      faultless = c.requires.faultless;
      fresh = c.requires.fresh;
      node = ids.node;
      parents = ids.parents;
      link = ids.link;
      bytes = c.requires.bytes;
      short = c.requires.short;
      path = c.requires.path;
      path_bytes = c.number_group.ensures.path;
    } in
    let entries : c.insert.new.self.entries ≡ es ++ (key, held) ∷ [] = c.in_ok-insert.ensures.entries ∙ insert_entry-new key_eq.eq-value.it c.self.inside.revisions key held none in
    let all = kept new es s c.args.self.now view r c.in_ok-group.group number held refl c.requires.value c.requires.newer added in
    (subst (IsStore new) (sym entries) all.0, ap (revisions_in new) entries ∙ all.1)

pub invariant_of-self-2 : goal.invariant_of-self-2
invariant_of-self-2 c = ((after_insert c).0, c.self.invariant.1)

pub returns-clause-ok : goal.returns-clause-ok
returns-clause-ok c = (after_insert c).1

pub returns-clause-added : goal.returns-clause-added
returns-clause-added c = (after_insert c).0.added
