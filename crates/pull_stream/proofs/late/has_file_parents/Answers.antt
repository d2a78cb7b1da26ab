use Rattle.std.proofs.Common.{◌≡◌, ◌+◌, ◌<◌, ◌≤◌, ℕ, zero, suc, true≢false, List, [], ◌∷◌, length, take, get_or, map, Some, sym, ap, subst, refl, ◌∙◌, arith}
use Rattle.std.specs.Prelude.{slice_get}
use Rattle.std.proofs.lemmas.List.{length-map}
use Rattle.std.proofs.lemmas.Option.{slice_get-get_or}
use Rattle.text_model.specs.Lists.{Each}
use Rattle.text_model.proofs.EachLemmas.{Each-push}
use Rattle.text_model.proofs.Elements.{each_at, take_push, take_whole}
use Rattle.text_model.proofs.Options.{none_some, some_is}
use Rattle.hg_model.specs.Revision.{Revision}
use Rattle.pair_known.specs.Fresh.{fresh_revision}
use Rattle.pair_known.specs.declared.fresh_files.FreshFile.{FreshFile}
use Rattle.pull_stream.proofs.FreshParents.{HasBoth, from-rows, to-rows}
use Rattle.pull_stream.proofs.late.has_file_parents.Goals as goal

at-map : (files : List FreshFile) (i : ℕ) (f : FreshFile) → slice_get files i ≡ Some f → slice_get (map fresh_revision files) i ≡ Some (fresh_revision f)
at-map [] i f at = absurd (none_some at)
at-map (x ∷ files) zero f at = ap (λ (y : FreshFile). Some (fresh_revision y)) (some_is at)
at-map (x ∷ files) (suc i) f at = at-map files i f at

-- the revision of the file that is asked
asked : (files : List FreshFile) (fresh : List Revision) (i : ℕ) (f : FreshFile) → map fresh_revision files ≡ fresh → i < length files → f ≡ get_or files i f → slice_get fresh i ≡ Some (fresh_revision f)
asked files fresh i f same below is =
    ap (λ (rs : List Revision). slice_get rs i) (sym same) ∙ at-map files i f (slice_get-get_or files i f below ∙ ap (λ (x : FreshFile). Some x) (sym is))

one-more : (known fresh : List Revision) (i : ℕ) (r : Revision) → slice_get fresh i ≡ Some r → Each (HasBoth known) (take i fresh) → HasBoth known r → Each (HasBoth known) (take (i + 1) fresh)
one-more known fresh i r at so_far one = subst (Each (HasBoth known)) (sym (take_push fresh i r at)) (Each-push (HasBoth known) (take i fresh) r so_far one)

whole : (known : List Revision) (files : List FreshFile) (fresh : List Revision) (i : ℕ) → map fresh_revision files ≡ fresh → length files ≤ i → Each (HasBoth known) (take i fresh) → Each (HasBoth known) fresh
whole known files fresh i same over all =
    subst (Each (HasBoth known)) (take_whole fresh i (omega (arith, over, ap (length {A = Revision}) same, length-map files fresh_revision))) all

pub loop-file-init : goal.loop-file-init
loop-file-init c = tt

pub loop-file-preserved : goal.loop-file-preserved
loop-file-preserved c =
    let f = c.file-item.result in
    let at = asked c.as_slice-file-items.result.now c.args.h.now.fresh c.loop-file.file-index f c.as_slice-file-items.ensures c.loop-file-test.true c.file-item.is in
    one-more c.args.store.now c.args.h.now.fresh c.loop-file.file-index (fresh_revision f) at c.loop-file.invariant (sym c.has_parents.ensures ∙ c.if-not-has_parents.false)

pub returns-then-not-has_parents : goal.returns-then-not-has_parents
returns-then-not-has_parents c = λ v added made.
    let f = c.file-item.result in
    let at = asked c.as_slice-file-items.result.now c.args.h.now.fresh c.loop-file.file-index f c.as_slice-file-items.ensures c.loop-file-test.true c.file-item.is in (
      (λ e. absurd (true≢false (sym e))),
      (λ have.
          let own = each_at (HasBoth c.args.store.now) c.args.h.now.fresh c.loop-file.file-index (fresh_revision f) at (from-rows c.args.store.now c.args.h.now v added made have) in
          absurd (true≢false (sym own ∙ sym c.has_parents.ensures ∙ c.if-not-has_parents.true))),
    )

pub returns : goal.returns
returns c = λ v added made. (
  (λ e. to-rows c.args.store.now c.args.h.now v added made (whole c.args.store.now c.as_slice-file-items.result.now c.args.h.now.fresh c.loop-file.file-index c.as_slice-file-items.ensures c.loop-file-test.false c.loop-file.invariant)),
  (λ have. refl),
)
