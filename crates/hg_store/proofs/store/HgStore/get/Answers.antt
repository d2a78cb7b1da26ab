use Rattle.std.proofs.Common.{sym, ap, subst, ◌∙◌, List}
use Rattle.std.specs.Prelude.{option_map}
use Rattle.std.specs.Map.{lookup}
use Rattle.hg_model.specs.Revision.{Group, Revision, revision_of}
use Rattle.hg_store.specs.contracts.held.KeyPartialEq.TheImpl as key_eq
use Rattle.hg_store.specs.Groups.{group_value, paths_in, held_revision, HasValue}
use Rattle.hg_store.proofs.KeyLemmas.{key_group-Some, find-by_key, value-by_key, value-lent, find-no_number}
use Rattle.hg_store.proofs.EqLemmas.{tests}
use Rattle.hg_store.proofs.NewerLemmas.{newer-lent}
use Rattle.hg_store.proofs.store.HgStore.get.Goals as goal

pub returns-clause-revision : goal.returns-clause-revision
returns-clause-revision c =
    let keys = c.self.inside.paths.keys in
    let node = c.args.node.now in
    let number = key_group-Some keys (group_value c.args.group) c.in_ok-group.group (sym c.key_group.ensures ∙ c.in_ok-group.was) in
    let found = find-by_key (paths_in keys) c.self.invariant.0.apart c.in_ok-group.group number.within node
    (key_eq.eq-value.it (record { group = c.in_ok-group.group; node = node })) (tests c.in_ok-group.group node) c.self.inside.revisions.entries c.self.invariant.0.numbers in
    ap (option_map (held_revision (group_value c.args.group) node)) c.get.ensures.value
    ∙ sym ((λ i. revision_of (sym c.self.view_is i) (sym number.is i) node) ∙ found ∙ ap (λ (g : Group). option_map (held_revision g node) (lookup (key_eq.eq-value.it (record { group = c.in_ok-group.group; node = node })) c.self.inside.revisions.entries)) number.is)

pub returns-clause-value : goal.returns-clause-value
returns-clause-value c =
    let keys = c.self.inside.paths.keys in
    let node = c.args.node.now in
    let number = key_group-Some keys (group_value c.args.group) c.in_ok-group.group (sym c.key_group.ensures ∙ c.in_ok-group.was) in
    let value = value-by_key (paths_in keys) c.self.invariant.0.apart c.in_ok-group.group number.within node
    (key_eq.eq-value.it (record { group = c.in_ok-group.group; node = node })) (tests c.in_ok-group.group node) c.self.inside.revisions.entries c.self.invariant.0.numbers c.self.invariant.0.values in
    value-lent (group_value c.args.group) c.get.result _ c.get.ensures.value (λ h at. subst (λ (g : Group). HasValue g h.text h.parsed) number.is (value h at))

pub returns-clause-newer : goal.returns-clause-newer
returns-clause-newer c =
    newer-lent c.args.self.now _ (key_eq.eq-value.it (record { group = c.in_ok-group.group; node = c.args.node.now })) c.self.inside.revisions.entries c.get.result c.self.view_is c.self.invariant.0.newer c.get.ensures.value

pub returns-in_err-group-clause-revision : goal.returns-in_err-group-clause-revision
returns-in_err-group-clause-revision c =
    let none = find-no_number c.self.inside.paths.keys (group_value c.args.group) c.args.node.now (sym c.key_group.ensures ∙ c.in_err-group.was) c.self.inside.revisions.entries c.self.invariant.0.numbers in
    rw c.from_residual.ensures (sym none ∙ ap (λ (known : List Revision). revision_of known (group_value c.args.group) c.args.node.now) c.self.view_is)
