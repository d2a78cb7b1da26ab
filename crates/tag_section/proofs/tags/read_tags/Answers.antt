use Rattle.std.proofs.Common.{◌≡◌, List, map, sym, subst, ◌∙◌}
use Rattle.text_model.specs.Id.{Id}
use Rattle.view_model.specs.View.{commit_id}
use Rattle.tag_section.specs.Tags.{HoldsTags}
use Rattle.tag_section.proofs.Saved.{is_short, not-refused, came_tags, text_is, have-come, saved, holds-tags, only-kept}
use Rattle.tag_section.proofs.tags.read_tags.Goals as goal

pub returns-in_default : goal.returns-in_default
returns-in_default c = λ cs holds size. not-refused c.args.section cs holds c.args.bytes.now (rw c.into_parts-store.ensures.store at (rw c.in_default.is at c.in_ok-arrived.ensures))

pub returns-in_default-2 : goal.returns-in_default-2
returns-in_default-2 c = λ cs holds size tags saved text.
    let section = c.args.section in
    let bytes = c.args.bytes.now in
    let a = c.in-Some.arrived in
    let brings = rw c.into_parts-store.ensures.store at (rw c.in-Some.is at c.in_ok-arrived.ensures) in
    let commits : c.as_slice.result.now ≡ map commit_id cs = c.as_slice.ensures ∙ c.into_parts-store.ensures.ids ∙ holds.ids in
    (rw c.in_default-2.is at c.in_ok-tags.ensures) cs brings.placed commits (have-come section cs holds bytes a brings) (only-kept section cs holds bytes a brings tags saved text)

pub returns : goal.returns
returns c = λ cs holds size.
    let section = c.args.section in
    let bytes = c.args.bytes.now in
    let a = c.in-Some.arrived in
    let brings = rw c.into_parts-store.ensures.store at (rw c.in-Some.is at c.in_ok-arrived.ensures) in
    let commits : c.as_slice.result.now ≡ map commit_id cs = c.as_slice.ensures ∙ c.into_parts-store.ensures.ids ∙ holds.ids in
    let kept = (rw c.in-Some-2.is at c.in_ok-tags.ensures) cs brings.placed commits (have-come section cs holds bytes a brings) in
    let short = is_short cs c.args.used bytes size (sym c.is_short.ensures ∙ c.if-not-is_short.false) in (
      came_tags section cs holds bytes a brings,
      saved section cs holds bytes a brings kept.0 short,
      text_is section cs holds bytes a brings,
      subst (λ (l : List Id). HoldsTags (record { store = a.store; ids = l; tags = c.in-Some-2.tags }) cs (came_tags section cs holds bytes a brings)) (sym c.into_parts-store.ensures.ids)
          (holds-tags section cs holds bytes a brings c.in-Some-2.tags kept.1),
    )
