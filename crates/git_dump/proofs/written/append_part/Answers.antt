use Rattle.std.proofs.Common.{◌++◌, sym, ap, ◌∙◌, append_assoc}
use Rattle.std.proofs.lemmas.Result.{on_ok_weaker}
use Rattle.text_model.specs.Text.{Bytes}
use Rattle.git_dump.proofs.Between.{text_between}
use Rattle.git_dump.proofs.written.append_part.Goals as goal

pub returns-in_ok-share-in-Some-clause-ok : goal.returns-in_ok-share-in-Some-clause-ok
returns-in_ok-share-in-Some-clause-ok c =
    let written = c.in-Some.written.now in
    let rest = text_between c.args.store.now written.count c.args.end in
    on_ok_weaker c.append_places.result
    (λ put. put ∙ ap (λ (b : Bytes). b ++ rest) c.in_ok-share-in-Some.ensures.ok ∙ append_assoc c.args.out.now written.text rest ∙ ap (λ (b : Bytes). c.args.out.now ++ b) (sym c.in-Some.ensures))
    c.append_places.ensures.ok
