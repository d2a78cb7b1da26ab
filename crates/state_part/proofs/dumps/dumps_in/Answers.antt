use Rattle.std.proofs.Common.{◌<◌, ◌^◌, ◌++◌, length, codes, sym, subst, ◌∙◌, arith}
use Rattle.text_model.specs.Text.{Bytes}
use Rattle.state_model.specs.Text.{sized}
use Rattle.state_part.specs.Form.{head_line, IsHeadFault, NoSection, HasSection}
use Rattle.state_part.specs.declared.shared.SharedSection.{SharedSection}
use Rattle.state_part.proofs.HeadLemmas.{no_head}
use Rattle.state_part.proofs.DumpLemmas.{before-second, no-second, has-dumps, found-is, found-none}
use Rattle.state_part.proofs.dumps.dumps_in.Goals as goal

pub returns-in_default : goal.returns-in_default
returns-in_default c = λ bundle stream rest.
    no_head c.args.text.now c.in_default.field-0 (subst (λ (t : Bytes). IsHeadFault t c.in_default.field-0) c.as_slice.ensures c.in_default.ensures.head) (sized (codes "hg") bundle ++ (sized (codes "git") stream ++ rest))

pub shared_section-requires : goal.shared_section-requires
shared_section-requires c = record { ends = (head_line, sym c.as_slice.ensures ∙ c.in-Ok.ensures.head) }

pub shared_section-requires-2 : goal.shared_section-requires-2
shared_section-requires-2 c =
    let long : length c.as_slice.result.now < 2 ^ 64 = omega arith in
    let within : length c.args.text.now < 2 ^ 64 = subst (λ (t : Bytes). length t < 2 ^ 64) c.as_slice.ensures long in
    let behind = c.in-Ok.behind_head.now in
    let hg = c.in-Some.hg in
    let section = found-is c.in_ok-hg.field-0 hg (NoSection (codes "hg") behind) (λ (s : SharedSection). HasSection (codes "hg") behind s.text s.rest.now) c.in-Some.is c.in_ok-hg.ensures.section in
    record { ends = (head_line ++ sized (codes "hg") hg.text, before-second c.args.text.now behind hg.text hg.rest.now within (sym c.as_slice.ensures ∙ c.in-Ok.ensures.head) section) }

pub returns-in_default-3 : goal.returns-in_default-3
returns-in_default-3 c =
    let long : length c.as_slice.result.now < 2 ^ 64 = omega arith in
    let within : length c.args.text.now < 2 ^ 64 = subst (λ (t : Bytes). length t < 2 ^ 64) c.as_slice.ensures long in
    let behind = c.in-Ok.behind_head.now in
    let hg = c.in-Some.hg in
    let section = found-is c.in_ok-hg.field-0 hg (NoSection (codes "hg") behind) (λ (s : SharedSection). HasSection (codes "hg") behind s.text s.rest.now) c.in-Some.is c.in_ok-hg.ensures.section in
    no-second c.args.text.now behind hg.text hg.rest.now within (sym c.as_slice.ensures ∙ c.in-Ok.ensures.head) section
    (found-none c.in_ok-git.field-0 (NoSection (codes "git") hg.rest.now) (λ (s : SharedSection). HasSection (codes "git") hg.rest.now s.text s.rest.now) c.in_default-3.is c.in_ok-git.ensures.section)

pub returns : goal.returns
returns c =
    let long : length c.as_slice.result.now < 2 ^ 64 = omega arith in
    let within : length c.args.text.now < 2 ^ 64 = subst (λ (t : Bytes). length t < 2 ^ 64) c.as_slice.ensures long in
    let behind = c.in-Ok.behind_head.now in
    let hg = c.in-Some.hg in
    let git = c.in-Some-2.git in
    let section = found-is c.in_ok-hg.field-0 hg (NoSection (codes "hg") behind) (λ (s : SharedSection). HasSection (codes "hg") behind s.text s.rest.now) c.in-Some.is c.in_ok-hg.ensures.section in
    let second = found-is c.in_ok-git.field-0 git (NoSection (codes "git") hg.rest.now) (λ (s : SharedSection). HasSection (codes "git") hg.rest.now s.text s.rest.now) c.in-Some-2.is c.in_ok-git.ensures.section in
    rw (c.into_text.ensures, c.into_text-2.ensures) (has-dumps c.args.text.now behind hg.text hg.rest.now within (sym c.as_slice.ensures ∙ c.in-Ok.ensures.head) section git.text git.rest.now second)
