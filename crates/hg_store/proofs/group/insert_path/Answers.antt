use Rattle.std.proofs.Common.{refl}
use Rattle.hg_store.proofs.PathLemmas.{path-at, grown-by_insert}
use Rattle.hg_store.proofs.group.insert_path.Goals as goal

pub returns-clause-number : goal.returns-clause-number
returns-clause-number c =
    let stored = c.in_ok-number.ensures.stored in
    path-at c.insert_full.new.self.keys c.in_ok-number.number stored.0 c.args.path.items stored.1 stored.2

pub returns-clause-grown : goal.returns-clause-grown
returns-clause-grown c =
    grown-by_insert _ (λ a b. refl) c.args.paths.now.keys c.args.path c.insert_full.new.self.keys c.in_ok-number.ensures.keys c.insert_full.ensures.unique
