use Rattle.std.proofs.Common.{sym}
use Rattle.std.proofs.lemmas.Result.{IfOk-weaker}
use Rattle.state_audit.proofs.Turns.{no-link}
use Rattle.state_audit.proofs.Found.{draft-over, draft-here, inside-here, some-here, none-here}
use Rattle.state_audit.proofs.Judgements.{none-judged}
use Rattle.state_audit.proofs.judge.judge.Goals as goal

pub partner_of-requires : goal.partner_of-requires
partner_of-requires g c =
    let s = c.args.state.now in
    let p = c.requires.turn in
    let k = c.known-known.result.now in
    let x = c.args.block.now in
    let h = c.args.h.now in
    let of = draft-over s.known k (sym c.known-known.ensures) x.node h c.requires.draft in
    record {
      asked = (
        (p.0).blocks,
        (p.2).changeset,
        inside-here s c.args.place c.args.checked.now p.0 p.1 p.2 p.3 p.4 k c.known-known.ensures x c.requires.block h of,
        no-link s c.args.place c.args.checked.now p.0 p.1 p.2 p.3 p.4,
      );
    }

pub judge_with-requires-clause-partner : goal.judge_with-requires-clause-partner
judge_with-requires-clause-partner g c =
    let s = c.args.state.now in
    let ck = c.args.checked.now in
    let p = c.requires.turn in
    let k = c.known-known.result.now in
    let same = c.known-known.ensures in
    let x = c.args.block.now in
    let h = c.args.h.now in
    let of = draft-over s.known k (sym same) x.node h c.requires.draft in
    let draft = draft-here s c.args.place ck p.0 p.1 p.2 p.3 p.4 k same x c.requires.block h of in
    let here = some-here s c.args.place ck p.0 p.1 p.2 p.3 p.4 k same x c.requires.block h of c.in_ok-partner.field-0 c.in_ok-partner.ensures.partner c.in-Some.partner c.in-Some.is in
    (p.0, p.1, p.2, p.3, here.0, p.4, draft, here.1)

pub returns-in-Some-clause-judged : goal.returns-in-Some-clause-judged
returns-in-Some-clause-judged g c = IfOk-weaker c.judge_with.result _ _ (λ judgement all m front b rest t.
    let s = c.args.state.now in
    let ck = c.args.checked.now in
    let k = c.known-known.result.now in
    let same = c.known-known.ensures in
    let x = c.args.block.now in
    let h = c.args.h.now in
    let of = draft-over s.known k (sym same) x.node h c.requires.draft in
    let draft = draft-here s c.args.place ck m front b rest t k same x c.requires.block h of in
    let here = some-here s c.args.place ck m front b rest t k same x c.requires.block h of c.in_ok-partner.field-0 c.in_ok-partner.ensures.partner c.in-Some.partner c.in-Some.is in
    all m front b rest here.0 t draft here.1) c.judge_with.ensures

pub returns-in-None-clause-judged : goal.returns-in-None-clause-judged
returns-in-None-clause-judged g c = λ m front b rest t.
    let s = c.args.state.now in
    let ck = c.args.checked.now in
    let k = c.known-known.result.now in
    let x = c.args.block.now in
    let h = c.args.h.now in
    let of = draft-over s.known k (sym c.known-known.ensures) x.node h c.requires.draft in
    none-judged s.known front b
    (none-here s c.args.place ck m front b rest t k c.known-known.ensures x c.requires.block h of c.in_ok-partner.field-0 c.in_ok-partner.ensures.partner c.in-None.is)
