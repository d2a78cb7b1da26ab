use Rattle.std.proofs.Common.{◌≡◌, sym, ap, subst, ◌∙◌}
use Rattle.std.specs.Prelude.{option_map}
use Rattle.text_model.specs.Text.{Bytes}
use Rattle.text_model.proofs.Options.{none_some, some_is}
use Rattle.hg_model.specs.Changeset.{IsChangesetText}
use Rattle.hg_model.specs.Revision.{Revision}
use Rattle.hg_model.proofs.ChangesetLemmas.{one_changeset, changeset_fault-text}
use Rattle.hg_changeset.specs.declared.fault.ChangesetFault.{ChangesetFault}
use Rattle.hg_changeset.specs.Values.{changeset_value, IsFault}
use Rattle.pair_known.proofs.hg_draft.read_changeset.Goals as goal

pub unreachable-requires : goal.unreachable-requires
unreachable-requires c =
    let x = c.requires.known.2 in
    let of = c.requires.known.3 in
    let found = sym (ap (option_map (λ t. t.now)) c.unwrap-text.ensures) ∙ c.text_of.ensures.value ∙ ap (option_map (λ (r : Revision). r.text)) of.is_held in
    let text : (of.revision).text ≡ c.unwrap-text.result.now = some_is (sym found) in
    let fault = subst (λ (e : ChangesetFault). IsFault c.unwrap-text.result.now e) c.in-Err-Shape.field-0-is c.in-Err-Shape.ensures.fault in
    none_some (sym (changeset_fault-text c.unwrap-text.result.now x (subst (λ (t : Bytes). IsChangesetText t x) text of.fields)) ∙ fault)

pub returns-in-Ok : goal.returns-in-Ok
returns-in-Ok c = λ p q x of.
    let found = sym (ap (option_map (λ t. t.now)) c.unwrap-text.ensures) ∙ c.text_of.ensures.value ∙ ap (option_map (λ (r : Revision). r.text)) of.is_held in
    let text : (of.revision).text ≡ c.unwrap-text.result.now = some_is (sym found) in
    one_changeset c.unwrap-text.result.now x (changeset_value c.in-Ok.changeset) (subst (λ (t : Bytes). IsChangesetText t x) text of.fields) c.in-Ok.ensures.ok
