use Rattle.std.proofs.Common.{◌≡◌, Bool, true, false, true≢false, not, refl, sym, ap, ◌∙◌, bytes_eq}
use Rattle.std.proofs.lemmas.Slice.Eq.{bytes_eq-Decides}
use Rattle.git_model.specs.Commit.{Commit}
use Rattle.changeset_unmark.proofs.head.is_same.Goals as goal

not_false : (t : Bool) → not t ≡ false → t ≡ true
not_false true e = refl
not_false false e = absurd (true≢false e)

pub returns : goal.returns
returns c =
    let tree = (bytes_eq-Decides c.a.inside.tree c.b.inside.tree).0 (not_false (bytes_eq c.a.inside.tree c.b.inside.tree) (sym c.ne.ensures ∙ c.if-ne.false)) in
    let parents = c.are_same_ids.ensures.0 c.if-not-are_same_ids.false in
    let author = c.are_same_bytes.ensures.0 c.if-not-are_same_bytes.false in
    let committer = c.are_same_bytes-2.ensures.0 c.if-not-are_same_bytes-2.false in
    let headers = c.are_same_bytes-3.ensures.0 c.if-not-are_same_bytes-3.false in (
      (λ t. sym c.a.view_is
          ∙ (λ i. record { tree_id = tree i; parents = parents i; author = author i; committer = committer i; headers = headers i; message = c.are_same_bytes-4.ensures.0 t i })
          ∙ c.b.view_is),
      (λ same. c.are_same_bytes-4.ensures.1 (ap (λ (x : Commit). x.message) (c.a.view_is ∙ same ∙ sym c.b.view_is))),
    )
