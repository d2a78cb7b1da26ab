use Rattle.std.proofs.Common.{true≢false, length, sym, ap, ◌∙◌}
use Rattle.std.specs.Prelude.{◌==◌}
use Rattle.text_model.specs.Text.{Bytes}
use Rattle.hg_model.specs.Bundle.{bundle_text}
use Rattle.view_model.specs.Dump.{written_bundle}
use Rattle.hg_dump.proofs.StripLemmas.{nil-is, nothing-behind, all-of-it, not-whole}
use Rattle.hg_dump.proofs.strip.is_bundle.Goals as goal

pub returns-in-Some-clause-yes : goal.returns-in-Some-clause-yes
returns-in-Some-clause-yes c = λ rs are yes.
    nothing-behind c.args.bytes.now (bundle_text (written_bundle c.args.store.now rs)) c.in-Some.rest.now (c.in-Some.ensures rs are) (nil-is c.in-Some.rest.now (sym c.is_empty.ensures ∙ yes))

pub returns-in-Some-clause-no : goal.returns-in-Some-clause-no
returns-in-Some-clause-no c = λ rs are same.
    c.is_empty.ensures ∙ ap (λ (x : Bytes). length x == 0) (all-of-it c.args.bytes.now (bundle_text (written_bundle c.args.store.now rs)) c.in-Some.rest.now (c.in-Some.ensures rs are) same)

pub returns-in-None-clause-yes : goal.returns-in-None-clause-yes
returns-in-None-clause-yes c = λ rs are yes. absurd (true≢false (sym yes))

pub returns-in-None-clause-no : goal.returns-in-None-clause-no
returns-in-None-clause-no c = λ rs are same. absurd (not-whole c.args.bytes.now (bundle_text (written_bundle c.args.store.now rs)) (c.in-None.ensures rs are) same)
