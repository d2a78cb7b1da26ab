-- No marked changeset has the form of a link.
use Rattle.std.proofs.Common.{◌≡◌, ◌==◌, ℕ, Bool, true, false, List, [], ◌∷◌, length, Option, Some, None, refl, ap, ◌∙◌, bytes_eq}
use Rattle.std.specs.Prelude.{ℤ, codes, ◌&&◌, not}
use Rattle.std.specs.List.{slice_split}
use Rattle.text_model.specs.Lists.{Each}
use Rattle.text_model.specs.Text.{Bytes}
use Rattle.text_model.specs.Id.{is_null}
use Rattle.text_model.proofs.EachLemmas.{Each-append}
use Rattle.hg_model.specs.Changeset.{Extra, Plain}
use Rattle.git_model.specs.Residue.{ResidueItem}
use Rattle.view_model.specs.View.{CommitView}
use Rattle.pair_model.specs.Block.{Block}
use Rattle.pair_model.specs.MarkList.{ChangesetMarks, extra_of, parents_extra, tree_extra, extras_of}
use Rattle.pair_model.specs.Octopus.{is_zero, is_link, is_link_view, is_link_date, is_link_value, link_key, link_user, link_description}
use Rattle.pair_model.specs.User.{user_of_line}
use Rattle.partner_model.specs.Mark.{mark_changeset}
use Rattle.unmark_law.proofs.ChangesetOne.{marks_in, date_is}

abbrev IsOther : Extra → Type 0
IsOther e = bytes_eq e.key link_key ≡ false

part-other : (key : Bytes) → bytes_eq key link_key ≡ false → (part : Option Bytes) → Each IsOther (extra_of key part)
part-other key e None = tt
part-other key e (Some part) = (e, tt)

parents-other : (part : Option ℕ) → Each IsOther (parents_extra part)
parents-other None = tt
parents-other (Some n) = (refl, tt)

tree-other : (part : Option (List ResidueItem)) → Each IsOther (tree_extra part)
tree-other None = tt
tree-other (Some items) = (refl, tt)

others : (m : ChangesetMarks) → Each IsOther (extras_of m)
unfolding extras_of
others m =
    let a = part-other (codes "hg-git-author") refl m.author in
    let b = part-other (codes "hg-git-committer") refl m.committer in
    let c = part-other (codes "hg-git-headers") refl m.headers in
    let d = part-other (codes "hg-git-message") refl m.message in
    let ab = Each-append IsOther _ _ a b in
    let abc = Each-append IsOther _ _ ab c in
    let abcd = Each-append IsOther _ _ abc d in
    Each-append IsOther _ _ (Each-append IsOther _ _ abcd (parents-other m.parents)) (tree-other m.tree)

third-false : (a b d : Bool) → (a && b && false && d) ≡ false
third-false true true d = refl
third-false true false d = refl
third-false false b d = refl

no-link-date : (time tz : ℤ) (es : List Extra) → Each IsOther es → is_link_date (Plain time tz es) ≡ false
no-link-date time tz [] h = refl
no-link-date time tz (e ∷ []) h = rw h.0 (third-false (is_zero time) (is_zero tz) (is_link_value (slice_split (λ b. b == 58) e.value)))
no-link-date time tz (e ∷ f ∷ es) h = refl

fourth-false : (a b c d e : Bool) → (a && b && c && false && d && e) ≡ false
fourth-false true true true d e = refl
fourth-false true true false d e = refl
fourth-false true false c d e = refl
fourth-false false b c d e = refl

pub marked-no_link : (blocks : List Block) (c : CommitView) → is_link_view (mark_changeset blocks c) ≡ false
unfolding is_link
marked-no_link blocks c =
    let h = mark_changeset blocks c in
    let given = user_of_line (c.value).author in
    let none : is_link_date (h.fields).date ≡ false = ap is_link_date (date_is blocks c) ∙ no-link-date given.time given.tz (extras_of (marks_in blocks c)) (others (marks_in blocks c)) in
    rw none (fourth-false (not (is_null h.p)) (not (is_null h.q)) (bytes_eq (h.fields).user link_user) (length (h.fields).files == 0) (bytes_eq (h.fields).description link_description))
