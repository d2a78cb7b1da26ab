-- A commit that is held with its files is a commit of the store.
use Rattle.std.proofs.Common.{List, Some, None, ap, ◌∙◌}
use Rattle.std.specs.Prelude.{if◌then◌else◌}
use Rattle.text_model.specs.Id.{Id, ObjectKind, commit, same_kind}
use Rattle.git_model.specs.Object.{Object}
use Rattle.git_store.specs.Known.{content_of, IsCommitAt}
use Rattle.view_model.specs.View.{CommitView}
use Rattle.view_model.specs.Held.{IsCommitHeld}

pub held-at : (known : List Object) (id : Id) (c : CommitView) → IsCommitHeld known id c → IsCommitAt known id c.value
held-at known id c held = record {
  content = (held.object).content;
  held = ap (content_of commit) held.is_held ∙ ap (λ (k : ObjectKind). if same_kind k commit then Some (held.object).content else None) held.kind;
  is = held.text;
}
