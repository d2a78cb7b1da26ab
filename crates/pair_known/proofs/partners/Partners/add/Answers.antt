use Rattle.std.proofs.Common.{◌≡◌, ◌++◌, [], ◌∷◌, List, None, Result, Ok, OnOk, ap, subst, ◌∙◌, bytes_eq}
use Rattle.std.specs.Map.{lookup}
use Rattle.text_model.specs.Id.{Id}
use Rattle.indexmap.proofs.CallerLemmas.{insert_entry-new}
use Rattle.bridge_text.specs.contracts.id.IdPartialEq.TheImpl as id_eq
use Rattle.pair_known.specs.Partners.{git_at, hg_at}
use Rattle.pair_known.proofs.PairLemmas.{git-lookup, hg-lookup, table-push}
use Rattle.pair_known.proofs.partners.Partners.add.Goals as goal

on_ok : {A B : Type 0} (r : Result A B) (x : A) (P : Type 0) → r ≡ Ok x → OnOk r P → P
on_ok {A} {B} r x P is h = subst (λ (r : Result A B). OnOk r P) is h

git_free : (c : goal.After-unwrap) → git_at c.self.inside.git.entries c.args.node ≡ None
git_free c = ap (λ (l : List (Id × Id)). git_at l c.args.node) c.self.view_is ∙ c.requires.node_is_free

hg_free : (c : goal.After-unwrap) → hg_at c.self.inside.git.entries c.args.id ≡ None
hg_free c = ap (λ (l : List (Id × Id)). hg_at l c.args.id) c.self.view_is ∙ c.requires.id_is_free

git_after : (c : goal.After-unwrap) → c.insert.new.self.entries ≡ c.self.inside.git.entries ++ (c.args.node, c.args.id) ∷ []
git_after c =
    c.in_ok-insert.ensures.entries
    ∙ insert_entry-new id_eq.eq-value.it c.self.inside.git c.args.node c.args.id (git-lookup c.self.inside.git.entries c.args.node ∙ git_free c)

hg_after : (c : goal.After-unwrap) → c.insert-2.new.self.entries ≡ c.self.inside.hg.entries ++ (c.args.id, c.args.node) ∷ []
hg_after c =
    let absent : lookup (bytes_eq c.args.id) c.reserve.new.self.entries ≡ None =
    ap (λ (l : List (Id × Id)). lookup (bytes_eq c.args.id) l) (c.reserve.ensures.entries ∙ c.self.invariant.turned) ∙ hg-lookup c.self.inside.git.entries c.args.id ∙ hg_free c in
    on_ok c.insert-2.result c.unwrap.result _ c.unwrap.ensures c.insert-2.ensures.entries
    ∙ insert_entry-new id_eq.eq-value.it c.reserve.new.self c.args.id c.args.node absent
    ∙ ap (λ (l : List (Id × Id)). l ++ (c.args.id, c.args.node) ∷ []) c.reserve.ensures.entries

pub invariant_of-self-2 : goal.invariant_of-self-2
invariant_of-self-2 c = table-push c.self.inside.git.entries c.self.inside.hg.entries _ _ c.args.node c.args.id c.self.invariant (git_free c) (hg_free c) (git_after c) (hg_after c)

pub returns-clause-ok : goal.returns-clause-ok
returns-clause-ok c = git_after c ∙ ap (λ (l : List (Id × Id)). l ++ (c.args.node, c.args.id) ∷ []) c.self.view_is

pub returns-clause-partners : goal.returns-clause-partners
returns-clause-partners c = (table-push c.self.inside.git.entries c.self.inside.hg.entries _ _ c.args.node c.args.id c.self.invariant (git_free c) (hg_free c) (git_after c) (hg_after c)).partners
