-- A pull of a bundle comes to one thing.
use Rattle.std.proofs.Common.{◌≡◌, inl, inr, false, List, [], ◌∷◌, ◌++◌, Result, Ok, Err, sym, ap, subst, ◌∙◌, arith}
use Rattle.std.proofs.lemmas.List.{map-append}
use Rattle.text_model.specs.Text.{Bytes}
use Rattle.text_model.specs.Lists.{Each}
use Rattle.text_model.specs.Fault.{FaultName, Refusal, refusal}
use Rattle.text_model.specs.Fault as fault
use Rattle.hg_model.specs.Revision.{Revision}
use Rattle.hg_model.specs.Bundle.{bundle_framing}
use Rattle.hg_model.specs.Reading.{Arrival, bundle_reading}
use Rattle.hg_bundle.specs.Brought.{AreAdditions}
use Rattle.hg_bundle.proofs.Reading.{reading_is}
use Rattle.hg_bundle.proofs.Taken.{all_taken}
use Rattle.view_model.specs.Dump.{objects_in, git_increment}
use Rattle.pair_model.specs.Block.{Block, commits_in}
use Rattle.partner_model.specs.Table.{IsTable}
use Rattle.history_model.specs.Pull.{State, BringBlocks, IsKnownLink, ChangesetRefused, IsChangesetRefusal, IsOrphan, Dangles, LeftOver, BundleBrings, BundleRefused, PullHgMakes, PullHgRefuses, is_saved, changesets_among, revisions_among, known_with}
use Rattle.pull_law.specs.Sound.{HasOwnNode, IsSoundState}
use Rattle.pull_law.proofs.Known.{no-null, own-some, own-after}
use Rattle.pull_law.proofs.Searches.{first-one, none-first}
use Rattle.pull_law.proofs.Splits.{Splits, Same, First, Second, splits}
use Rattle.pull_law.proofs.Views.{refusal-one, gives-or_refused}
use Rattle.pull_law.proofs.Blocks.{brings-table, blocks-one, gives-behind}

-- ---- one state and the changesets of one bundle

module _ (known : List Revision) (own : Each HasOwnNode known) (s : State) (table : IsTable s.blocks) (came : List Arrival) where
  -- the first changeset that is refused, and the blocks of those before it, give no more blocks
  stops : (before : List Arrival) (refused : Arrival) (after : List Arrival) (new all : List Block) (name : FaultName)
      → BringBlocks known s.objects s.blocks (revisions_among (before ++ refused ∷ after)) all
      → BringBlocks known s.objects s.blocks (revisions_among before) new
      → ¬ (IsKnownLink known (refused.revision).node) → is_saved (s.blocks ++ new) (refused.revision).node ≡ false
      → ChangesetRefused known (s.objects ++ objects_in (commits_in new)) (s.blocks ++ new) (refused.revision).node name → ⊥
  stops before refused after new all name h k no_link free why =
      let r = refused.revision in
      let whole = subst (λ (l : List Revision). BringBlocks known s.objects s.blocks l all)
      (map-append (λ (a : Arrival). a.revision) before (refused ∷ after)) h in
      let gives = gives-behind known own s.objects s.blocks (revisions_among before) r (revisions_among after) new all table whole k no_link free in
      gives-or_refused known (no-null known (own-some known own)) (s.objects ++ objects_in (commits_in new)) (s.blocks ++ new)
      (brings-table known own s.objects s.blocks (revisions_among before) new table k) r.node gives.0 name gives.1 why

  pub brings-or_refused : (all : List Block) (why : Refusal) → BringBlocks known s.objects s.blocks (revisions_among came) all
      → IsChangesetRefusal known s came why → ⊥
  brings-or_refused all why h x =
      stops x.before x.refused x.after x.new all x.name
      (subst (λ (l : List Arrival). BringBlocks known s.objects s.blocks (revisions_among l) all) x.split h) x.brings x.no_link x.is_new x.fault

  pub changeset-refusal_one : (a b : Refusal) → IsChangesetRefusal known s came a → IsChangesetRefusal known s came b → a ≡ b
  changeset-refusal_one a b x y = by (splits x.before y.before x.refused y.refused x.after y.after (sym x.split ∙ y.split))
    where
      by : Splits x.before y.before x.refused y.refused → a ≡ b
      by (First between is) =
          absurd (stops x.before x.refused between x.new y.new x.name
          (subst (λ (l : List Arrival). BringBlocks known s.objects s.blocks (revisions_among l) y.new) is y.brings) x.brings x.no_link x.is_new x.fault)
      by (Second between is) =
          absurd (stops y.before y.refused between y.new x.new y.name
          (subst (λ (l : List Arrival). BringBlocks known s.objects s.blocks (revisions_among l) x.new) is x.brings) y.brings y.no_link y.is_new y.fault)
      by (Same fronts elements) =
          let new : x.new ≡ y.new = blocks-one known own s.objects s.blocks (revisions_among x.before) x.new y.new table x.brings
          (subst (λ (l : List Arrival). BringBlocks known s.objects s.blocks (revisions_among l) y.new) (sym fronts) y.brings) in
          let there = λ (l : List Block) (r : Arrival). ChangesetRefused known (s.objects ++ objects_in (commits_in l)) (s.blocks ++ l) (r.revision).node y.name in
          let fault = subst (λ (r : Arrival). there x.new r) (sym elements) (subst (λ (l : List Block). there l y.refused) (sym new) y.fault) in
          let name : x.name ≡ y.name =
          refusal-one known (no-null known (own-some known own)) (s.objects ++ objects_in (commits_in x.new)) (s.blocks ++ x.new)
          (brings-table known own s.objects s.blocks (revisions_among x.before) x.new table x.brings) ((x.refused).revision).node x.name y.name x.fault fault in
          x.is ∙ (λ i. refusal (name i) ((elements i).revision).node (elements i).at) ∙ sym y.is

-- ---- what is left over of a bundle

left_over-one : (known : List Revision) (blocks : List Block) (arrivals : List Arrival) (a b : Refusal) → LeftOver known blocks arrivals a
    → LeftOver known blocks arrivals b → a ≡ b
left_over-one known blocks arrivals a b (inl (x, first, is)) (inl (y, first', is')) =
    is ∙ ap (λ (z : Arrival). refusal fault.Orphan (z.revision).node z.at) (first-one (IsOrphan known) arrivals x y first first') ∙ sym is'
left_over-one known blocks arrivals a b (inl (x, first, is)) (inr (none, y, first', is')) = absurd (none-first (IsOrphan known) arrivals x none first)
left_over-one known blocks arrivals a b (inr (none, x, first, is)) (inl (y, first', is')) = absurd (none-first (IsOrphan known) arrivals y none first')
left_over-one known blocks arrivals a b (inr (none, x, first, is)) (inr (none', y, first', is')) =
    is ∙ ap (λ (z : Arrival). refusal fault.DanglingLink (z.revision).node z.at) (first-one (Dangles known blocks) arrivals x y first first') ∙ sym is'

nothing-left_over : (known : List Revision) (blocks : List Block) (arrivals : List Arrival) (why : Refusal) → Each (λ a. ¬ (IsOrphan known a)) arrivals
    → Each (λ a. ¬ (Dangles known blocks a)) arrivals → LeftOver known blocks arrivals why → ⊥
nothing-left_over known blocks arrivals why no_orphan no_dangling (inl (x, first, is)) = none-first (IsOrphan known) arrivals x no_orphan first
nothing-left_over known blocks arrivals why no_orphan no_dangling (inr (none, x, first, is)) = none-first (Dangles known blocks) arrivals x no_dangling first

-- ---- one state and one bundle that is read

module _ (s : State) (sound : IsSoundState s) (bundle : Bytes) (arrivals : List Arrival) (reads : bundle_reading s.revisions bundle ≡ Ok arrivals) where
  additions : AreAdditions s.revisions 0 (revisions_among arrivals)
  additions =
      let f = bundle_framing bundle in
      (all_taken s.revisions [] 0 f.items f.bad arrivals (omega arith) (sym (reading_is s.revisions bundle) ∙ reads)).additions

  own : Each HasOwnNode (known_with s arrivals)
  own = own-after s.revisions 0 (revisions_among arrivals) sound.revisions additions

  same-new : (xs ys : List Block) → BringBlocks (known_with s arrivals) s.objects s.blocks (revisions_among (changesets_among arrivals)) xs
      → BringBlocks (known_with s arrivals) s.objects s.blocks (revisions_among (changesets_among arrivals)) ys → xs ≡ ys
  same-new xs ys = blocks-one (known_with s arrivals) own s.objects s.blocks (revisions_among (changesets_among arrivals)) xs ys sound.blocks

  pub new-one : (xs ys : List Block) → BundleBrings s arrivals xs → BundleBrings s arrivals ys → xs ≡ ys
  new-one xs ys x y = same-new xs ys x.brings y.brings

  pub brought-or_refused : (new : List Block) (why : Refusal) → BundleBrings s arrivals new → BundleRefused s arrivals why → ⊥
  brought-or_refused new why x (inl y) =
      brings-or_refused (known_with s arrivals) own s sound.blocks (changesets_among arrivals) new why x.brings y
  brought-or_refused new why x (inr (other, brings, left)) =
      nothing-left_over (known_with s arrivals) (s.blocks ++ new) arrivals why x.no_orphan x.no_dangling
      (subst (λ (l : List Block). LeftOver (known_with s arrivals) (s.blocks ++ l) arrivals why) (same-new other new brings x.brings) left)

  pub bundle-refusal_one : (a b : Refusal) → BundleRefused s arrivals a → BundleRefused s arrivals b → a ≡ b
  bundle-refusal_one a b (inl x) (inl y) = changeset-refusal_one (known_with s arrivals) own s sound.blocks (changesets_among arrivals) a b x y
  bundle-refusal_one a b (inl x) (inr y) = absurd (brings-or_refused (known_with s arrivals) own s sound.blocks (changesets_among arrivals) y.0 a y.1 x)
  bundle-refusal_one a b (inr x) (inl y) = absurd (brings-or_refused (known_with s arrivals) own s sound.blocks (changesets_among arrivals) x.0 b x.1 y)
  bundle-refusal_one a b (inr (new, brings, left)) (inr (new', brings', left')) =
      left_over-one (known_with s arrivals) (s.blocks ++ new) arrivals a b left
      (subst (λ (l : List Block). LeftOver (known_with s arrivals) (s.blocks ++ l) arrivals b) (same-new new' new brings' brings) left')

-- ---- the law

pub one_read : (xs ys : List Arrival) (read : Result (List Arrival) Refusal) → read ≡ Ok xs → read ≡ Ok ys → xs ≡ ys
one_read xs ys read h k = cc

one-error : (a b : Refusal) (read : Result (List Arrival) Refusal) → read ≡ Err a → read ≡ Err b → a ≡ b
one-error a b read h k = cc

read-or_error : (xs : List Arrival) (a : Refusal) (read : Result (List Arrival) Refusal) → read ≡ Ok xs → read ≡ Err a → ⊥
read-or_error xs a read h k = cc

pub outputs : (s : State) (bundle a b : Bytes) → IsSoundState s → PullHgMakes s bundle a → PullHgMakes s bundle b → a ≡ b
outputs s bundle a b sound x y =
    let same : y.arrivals ≡ x.arrivals = one_read y.arrivals x.arrivals (bundle_reading s.revisions bundle) y.reads x.reads in
    let new : x.new ≡ y.new = new-one s sound bundle x.arrivals x.reads x.new y.new x.brings
    (subst (λ (l : List Arrival). BundleBrings s l y.new) same y.brings) in
    x.is ∙ ap (λ (l : List Block). git_increment (commits_in s.blocks) (commits_in l)) new ∙ sym y.is

pub refusals : (s : State) (bundle : Bytes) (a b : Refusal) → IsSoundState s → PullHgRefuses s bundle a → PullHgRefuses s bundle b → a ≡ b
refusals s bundle a b sound (inl x) (inl y) = one-error a b (bundle_reading s.revisions bundle) x y
refusals s bundle a b sound (inl x) (inr y) = absurd (read-or_error y.0 a (bundle_reading s.revisions bundle) y.1 x)
refusals s bundle a b sound (inr x) (inl y) = absurd (read-or_error x.0 b (bundle_reading s.revisions bundle) x.1 y)
refusals s bundle a b sound (inr x) (inr y) =
    let same : y.0 ≡ x.0 = one_read y.0 x.0 (bundle_reading s.revisions bundle) y.1 x.1 in
    bundle-refusal_one s sound bundle x.0 x.1 a b x.2 (subst (λ (l : List Arrival). BundleRefused s l b) same y.2)

pub not-both : (s : State) (bundle output : Bytes) (why : Refusal) → IsSoundState s → PullHgMakes s bundle output → PullHgRefuses s bundle why → ⊥
not-both s bundle output why sound x (inl y) = read-or_error x.arrivals why (bundle_reading s.revisions bundle) x.reads y
not-both s bundle output why sound x (inr y) =
    let same : y.0 ≡ x.arrivals = one_read y.0 x.arrivals (bundle_reading s.revisions bundle) y.1 x.reads in
    brought-or_refused s sound bundle x.arrivals x.reads x.new why x.brings (subst (λ (l : List Arrival). BundleRefused s l why) same y.2)
