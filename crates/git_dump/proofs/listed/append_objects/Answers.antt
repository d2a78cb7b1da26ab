use Rattle.std.proofs.Common.{◌++◌, List, take, sym, ap, ◌∙◌, append-nil, append_assoc}
use Rattle.std.proofs.lemmas.List.{take_all}
use Rattle.text_model.specs.Text.{Bytes}
use Rattle.text_model.specs.Id.{Id}
use Rattle.git_dump.proofs.ListedLemmas.{text_of, text_at, text-none, text-more, front-stays, front-through}
use Rattle.git_dump.proofs.listed.append_objects.Goals as goal

pub loop-id-init : goal.loop-id-init
loop-id-init c = sym (append-nil c.args.out.now) ∙ ap (λ (l : Bytes). c.args.out.now ++ l) (text-none c.args.store.now)

pub returns-in_err-append_at-clause-front : goal.returns-in_err-append_at-clause-front
returns-in_err-append_at-clause-front c =
    front-through c.args.out.now c.loop-id.out c.append_at.new.out (text_of c.args.store.now (take c.loop-id.id-index c.args.ids.now)) c.loop-id.invariant c.append_at.ensures.front

pub loop-id-preserved : goal.loop-id-preserved
loop-id-preserved c =
    let known = c.args.store.now in
    let ids = c.args.ids.now in
    let i = c.loop-id.id-index in
    let old = c.args.out.now in
    c.in_ok-append_at.ensures.ok ∙ ap (λ (l : Bytes). l ++ text_at known c.id-item.result) c.loop-id.invariant
    ∙ append_assoc old (text_of known (take i ids)) (text_at known c.id-item.result)
    ∙ ap (λ (l : Bytes). old ++ l) (sym (text-more known ids i c.id-item.result c.loop-id-test.true c.id-item.is))

pub returns-clause-ok : goal.returns-clause-ok
returns-clause-ok c = c.loop-id.invariant ∙ ap (λ (ids : List Id). c.args.out.now ++ text_of c.args.store.now ids) (take_all c.loop-id.id-index c.args.ids.now c.loop-id-test.false)

pub returns-clause-front : goal.returns-clause-front
returns-clause-front c = front-stays c.args.out.now c.loop-id.out (text_of c.args.store.now (take c.loop-id.id-index c.args.ids.now)) c.loop-id.invariant
