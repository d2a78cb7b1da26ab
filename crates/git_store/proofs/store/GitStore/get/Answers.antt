use Rattle.std.proofs.Common.{ap, ◌∙◌, List}
use Rattle.std.specs.Prelude.{option_map}
use Rattle.git_model.specs.Object.{Object, object_at}
use Rattle.git_store.specs.declared.held.Held.{Held}
use Rattle.git_store.specs.Held.{object_in}
use Rattle.git_store.proofs.HeldLemmas.{found-in, value-lent}
use Rattle.git_store.proofs.store.GitStore.get.Goals as goal

pub returns-clause-object : goal.returns-clause-object
returns-clause-object c =
    let id = c.args.id.now in
    ap (option_map (λ (h : Held). object_in (id, h))) c.get.ensures.value
    ∙ found-in id c.self.inside.objects.entries ∙ ap (λ (known : List Object). object_at known id) c.self.view_is

pub returns-clause-value : goal.returns-clause-value
returns-clause-value c = value-lent c.args.id.now c.self.inside.objects.entries c.get.result c.self.invariant.0.values c.get.ensures.value
