use Rattle.std.proofs.Common.{◌++◌, ap, ◌∙◌}
use Rattle.text_model.specs.Text.{Bytes}
use Rattle.git_model.specs.Stream.{stream_text}
use Rattle.state_text.proofs.Written.{tags-at, objects-text}
use Rattle.state_text.proofs.write.dump_git.Goals as goal

pub returns : goal.returns
returns c = λ m h.
    let ids = c.as_slice.result.now in
    let at = tags-at c.args.state.now m h c.known.result.now c.known.ensures ids (c.as_slice.ensures ∙ c.tags.ensures) in
    objects-text c.known.result.now.git ids m.tags _ _ at c.in_ok-append_objects.ensures.ok ∙ ap (λ (l : Bytes). l ++ stream_text m.tags) (c.in_ok-out.ensures m h)
