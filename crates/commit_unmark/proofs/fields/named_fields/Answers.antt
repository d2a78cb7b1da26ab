use Rattle.std.proofs.Common.{◌≡◌, [], Some, w64, rules, sym, ap, subst, ◌∙◌}
use Rattle.std.specs.Prelude.{ℤ}
use Rattle.std.specs.Int.RustNames.{FitsSigned}
use Rattle.std.proofs.lemmas.Int.{to_z-of_z}
use Rattle.text_model.specs.Text.{IsBytes}
use Rattle.text_model.specs.Id.{IsId}
use Rattle.hg_model.specs.Changeset.{IsPlainDate}
use Rattle.pair_model.specs.User.{UserDate, user_of_line, description_of}
use Rattle.changeset_rule.proofs.ViewLemmas.{date-plain}
use Rattle.commit_unmark.specs.Parts.{IsOneLine, user_by}
use Rattle.commit_unmark.proofs.DateLemmas.{DateFound}
use Rattle.commit_unmark.proofs.fields.named_fields.Goals as goal

pub named_date-requires : goal.named_date-requires
named_date-requires c =
    let time : FitsSigned w64 c.given.inside.time = search rules in
    let tz : FitsSigned w64 c.given.inside.tz = search rules in
    let given = c.given.view_is ∙ c.in_ok-given.ensures in
    let t = to_z-of_z w64 c.given.inside.time time ∙ ap (λ (u : UserDate). u.time) given in
    let z = to_z-of_z w64 c.given.inside.tz tz ∙ ap (λ (u : UserDate). u.tz) given in
    subst (λ (p : ℤ × ℤ). IsPlainDate p.0 p.1 []) (λ i. (sym t i, sym z i)) (date-plain c.as_slice.result.now)

pub returns : goal.returns
returns c =
    let time : FitsSigned w64 c.given.inside.time = search rules in
    let tz : FitsSigned w64 c.given.inside.tz = search rules in
    let line : c.as_slice.result.now ≡ c.args.commit.now.author = c.as_slice.ensures ∙ ap (λ x. x.author) c.commit.view_is in
    let given = c.given.view_is ∙ c.in_ok-given.ensures ∙ ap user_of_line line in
    let t = to_z-of_z w64 c.given.inside.time time ∙ ap (λ (u : UserDate). u.time) given in
    let z = to_z-of_z w64 c.given.inside.tz tz ∙ ap (λ (u : UserDate). u.tz) given in
    let marks = c.args.marks.now in
    let g = user_of_line c.args.commit.now.author in
    let dated : DateFound marks g.time g.tz (Some c.in-Some.date) =
    subst (DateFound marks g.time g.tz) c.in-Some.is (subst (λ (p : ℤ × ℤ). DateFound marks p.0 p.1 c.in_ok-date.field-0) (λ i. (t i, z i)) c.in_ok-date.ensures) in
    let user : c.in_ok-user.user ≡ user_by marks g.user = c.in_ok-user.ensures ∙ ap (λ (u : UserDate). user_by marks u.user) given in
    let desc : c.in_ok-desc.desc ≡ description_of c.args.commit.now.message = c.in_ok-desc.ensures.desc ∙ ap description_of (c.as_slice-3.ensures ∙ ap (λ x. x.message) c.commit.view_is) in
    let id : IsId c.args.manifest = search rules in
    let one : IsOneLine c.as_slice-2.result.now = c.is_line.ensures.0 (cc c.if-not-is_line.false) in (
      (λ i. record { manifest = c.args.manifest; user = user i; date = dated.0 i; files = c.args.files; description = desc i }),
      record {
        manifest = id;
        user = subst IsOneLine (c.as_slice-2.ensures ∙ user) one;
        date = dated.1;
        files = c.are_lines.ensures.0 (cc c.if-not-are_lines.false);
        description = subst IsBytes desc c.in_ok-desc.ensures.bytes;
      },
    )
