use Rattle.std.proofs.Common.{◌≡◌, Bool, true, false, List, Option, Some, cond, is_some, refl, sym, ap, subst, ◌∙◌, bytes_eq}
use Rattle.std.specs.Map.{lookup}
use Rattle.text_model.specs.Id.{Id}
use Rattle.text_model.proofs.TestLemmas.{bytes_eq-self}
use Rattle.indexmap.specs.IndexMap.{insert_entry}
use Rattle.tree_sum.specs.declared.sum.Sum.{Sum}
use Rattle.tree_sum.specs.Sums.{IsSum, AreSums}
use Rattle.tree_sum.proofs.Keeping.{kept-more}
use Rattle.tree_sum.proofs.sums.Sums.put.Goals as goal

there : (t : Bool) (s : Sum) (o : Option Sum) → t ≡ true → is_some (cond t (Some s) o) ≡ true
there true s o h = refl
there false s o h = absurd cc

still : (t : Bool) (s : Sum) (o : Option Sum) → is_some o ≡ true → is_some (cond t (Some s) o) ≡ true
still true s o h = refl
still false s o h = h

pub returns : goal.returns
returns c =
    let id = c.args.id.now in record {
      sums = λ known sums is.
          subst (AreSums known) (ap (λ (es : List (Id × Sum)). insert_entry bytes_eq es id c.args.sum.now) (sym c.self.view_is) ∙ sym c.in_ok-insert.ensures.entries)
          (kept-more (λ (x : Id × Sum). IsSum known x.0 x.1) c.args.self.now id c.args.sum.now sums is);
      summed = ap is_some (c.in_ok-insert.ensures.updates.0 id) ∙ there (bytes_eq id id) c.args.sum.now (lookup (bytes_eq id) c.self.inside.known.entries) (bytes_eq-self id);
      stays = λ x h.
          ap is_some (c.in_ok-insert.ensures.updates.0 x)
          ∙ still (bytes_eq id x) c.args.sum.now (lookup (bytes_eq x) c.self.inside.known.entries) (ap (λ (es : List (Id × Sum)). is_some (lookup (bytes_eq x) es)) c.self.view_is ∙ h);
    }
