use Rattle.std.proofs.Common.{ℕ, ◌+◌, ◌-◌, true, false, List, ◌++◌, length, drop, sym, ap, ◌∙◌, arith, length-drop, take_all}
use Rattle.text_model.proofs.ByteLemmas.{IsBytes-by_index}
use Rattle.hg_model.specs.FileText.{mark, lacks_second_mark}
use Rattle.hg_filelog.proofs.MarkLemmas.{stripped-takes, lacks-after, lacks-never, has_piece-nowhere, found, one_pair, parts_of}
use Rattle.hg_filelog.proofs.parts.split.Goals as goal

pub returns-in-None-clause-fault : goal.returns-in-None-clause-fault
returns-in-None-clause-fault c =
    let whole = stripped-takes c.args.raw.now c.in-Some.ensures.cases.0 in
    let nowhere = c.in-None.ensures in
    let rest_is = c.in-Some.ensures.cases.1 in
    let lacks = has_piece-nowhere c.in-Some.rest.now (λ k occurs. nowhere k (omega arith) (omega (arith, occurs.fits)) occurs) in
    sym (lacks-after c.args.raw.now c.in-Some.rest.now false (whole ∙ ap (λ (x : List ℕ). mark ++ x) (sym rest_is)) lacks)

pub returns-in-Some-find-clause-ok : goal.returns-in-Some-find-clause-ok
returns-in-Some-find-clause-ok c =
    let whole = stripped-takes c.args.raw.now c.in-Some.ensures.cases.0 in
    let rest_is = c.in-Some.ensures.cases.1 in
    let find = c.in-Some-find.ensures in
    let cut = found c.in-Some.rest.now c.in-Some-find.end find.1 (λ k lt occurs. find.0.before k (omega arith) lt occurs) in
    let parts = parts_of c.args.raw.now c.in-Some.rest.now c.in-Some-find.end (IsBytes-by_index c.args.raw.now (λ i. omega (arith, c.type_inv.raw i))) (whole ∙ ap (λ (x : List ℕ). mark ++ x) (sym rest_is)) cut in
    rw (take_all (length c.in-Some.rest.now - (c.in-Some-find.end + 2)) (drop (c.in-Some-find.end + 2) c.in-Some.rest.now) (omega (arith, length-drop (c.in-Some-find.end + 2) c.in-Some.rest.now))) parts

pub returns-in-Some-find-clause-fault : goal.returns-in-Some-find-clause-fault
returns-in-Some-find-clause-fault c =
    let whole = stripped-takes c.args.raw.now c.in-Some.ensures.cases.0 in
    let rest_is = c.in-Some.ensures.cases.1 in
    let find = c.in-Some-find.ensures in
    let cut = found c.in-Some.rest.now c.in-Some-find.end find.1 (λ k lt occurs. find.0.before k (omega arith) lt occurs) in
    sym (lacks-after c.args.raw.now c.in-Some.rest.now true (whole ∙ ap (λ (x : List ℕ). mark ++ x) (sym rest_is)) cut.there)

pub returns-in-None-clause-taken : goal.returns-in-None-clause-taken
returns-in-None-clause-taken c = λ meta body is. returns-in-None-clause-fault c ∙ ap lacks_second_mark is.1 ∙ lacks-never meta body is.0

pub returns-in-Some-find-clause-only : goal.returns-in-Some-find-clause-only
returns-in-Some-find-clause-only c = λ meta body is.
    let parts = returns-in-Some-find-clause-ok c in
    one_pair _ meta _ body parts.0 is.0 (sym parts.1 ∙ is.1)
