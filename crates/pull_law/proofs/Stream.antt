-- A pull of a stream comes to one thing.
use Rattle.std.proofs.Common.{◌≡◌, inl, inr, List, [], ◌∷◌, ◌++◌, append-nil, Result, Ok, Err, sym, ap, subst, ◌∙◌}
use Rattle.text_model.specs.Text.{Bytes}
use Rattle.text_model.specs.Id.{Id, object_id}
use Rattle.text_model.specs.Fault.{FaultName, Refusal, refusal}
use Rattle.text_model.specs.Fault as fault
use Rattle.text_model.proofs.Options.{some_is}
use Rattle.hg_model.specs.Revision.{known_after_all}
use Rattle.git_model.specs.Object.{Object}
use Rattle.git_model.specs.Order.{IsOrder}
use Rattle.git_model.specs.Stream.{Placed, IsChecked, stream_reading}
use Rattle.git_batch.proofs.StreamLaws.{brings_only}
use Rattle.view_model.specs.Dump.{revisions_in, hg_increment}
use Rattle.pair_model.specs.Block.{Block, changesets_in}
use Rattle.history_model.specs.Pull.{State, CommitsBring, CommitRefused, IsCommitRefusal, StreamBrings, StreamRefused, PullGitMakes, PullGitRefuses, objects_among, objects_with, ancestries, saved_ids, place_of}
use Rattle.pull_law.specs.Sound.{IsSoundState}
use Rattle.pull_law.proofs.Known.{no-null, own-some, objects-after}
use Rattle.pull_law.proofs.Splits.{Splits, Same, First, Second, splits}
use Rattle.pull_law.proofs.Placements.{one-order, order-or_stuck, one-stuck, order-distinct}
use Rattle.pull_law.proofs.Commits.{gives-or_refused, refusal-one}
use Rattle.pull_law.proofs.CommitBlocks.{GoesOn, on-front, brings-on, blocks-one, gives-behind}

-- ---- the commits of one stream in their order

module _ (s : State) (came : List Placed) (checked : IsChecked (objects_with s came)) where
  -- the commits of an order go on over the state
  abbrev Goes : List Id → Type 0
  Goes ordered = GoesOn s.revisions s.blocks ordered

  -- where a commit is refused behind others, it has no block
  stops : (before : List Id) (refused : Id) (after : List Id) (new all : List Block) (name : FaultName) → Goes (before ++ refused ∷ after)
      → CommitsBring s.revisions (objects_with s came) s.blocks (before ++ refused ∷ after) all
      → CommitsBring s.revisions (objects_with s came) s.blocks before new
      → CommitRefused (known_after_all s.revisions (revisions_in (changesets_in new))) (objects_with s came) (s.blocks ++ new) refused name → ⊥
  stops before refused after new all name on h k why =
      let known = known_after_all s.revisions (revisions_in (changesets_in new)) in
      let gives = gives-behind (objects_with s came) checked s.revisions s.blocks before refused after new all on h k in
      let then = brings-on (objects_with s came) checked s.revisions s.blocks before (refused ∷ after) new on k in
      gives-or_refused known (no-null known then.some) (objects_with s came) (s.blocks ++ new) then.table refused gives.0 name gives.1 why

  brings-or_refused : (ordered : List Id) (all : List Block) (why : Refusal) → Goes ordered
      → CommitsBring s.revisions (objects_with s came) s.blocks ordered all → IsCommitRefusal s came ordered why → ⊥
  brings-or_refused ordered all why on h x =
      stops x.before x.refused x.after x.new all x.name (subst Goes x.split on)
      (subst (λ (l : List Id). CommitsBring s.revisions (objects_with s came) s.blocks l all) x.split h) x.brings x.fault

  commit-refusal_one : (ordered : List Id) (a b : Refusal) → Goes ordered → IsCommitRefusal s came ordered a → IsCommitRefusal s came ordered b → a ≡ b
  commit-refusal_one ordered a b on x y = by (splits x.before y.before x.refused y.refused x.after y.after (sym x.split ∙ y.split))
    where
      front : (before : List Id) (refused : Id) (between rest : List Id) → ordered ≡ (before ++ refused ∷ between) ++ rest → Goes (before ++ refused ∷ between)
      front before refused between rest is = on-front s.revisions s.blocks (before ++ refused ∷ between) rest (subst Goes is on)

      by : Splits x.before y.before x.refused y.refused → a ≡ b
      by (First between is) =
          absurd (stops x.before x.refused between x.new y.new x.name
          (front x.before x.refused between (y.refused ∷ y.after) (y.split ∙ ap (λ (l : List Id). l ++ y.refused ∷ y.after) is))
          (subst (λ (l : List Id). CommitsBring s.revisions (objects_with s came) s.blocks l y.new) is y.brings) x.brings x.fault)
      by (Second between is) =
          absurd (stops y.before y.refused between y.new x.new y.name
          (front y.before y.refused between (x.refused ∷ x.after) (x.split ∙ ap (λ (l : List Id). l ++ x.refused ∷ x.after) is))
          (subst (λ (l : List Id). CommitsBring s.revisions (objects_with s came) s.blocks l x.new) is x.brings) y.brings y.fault)
      by (Same fronts elements) =
          let whole = subst Goes x.split on in
          let known = known_after_all s.revisions (revisions_in (changesets_in x.new)) in
          let then = brings-on (objects_with s came) checked s.revisions s.blocks x.before (x.refused ∷ x.after) x.new whole x.brings in
          let new : x.new ≡ y.new = blocks-one (objects_with s came) checked s.revisions s.blocks x.before (x.refused ∷ x.after) x.new y.new whole x.brings
          (subst (λ (l : List Id). CommitsBring s.revisions (objects_with s came) s.blocks l y.new) (sym fronts) y.brings) in
          let there = λ (l : List Block) (id : Id). CommitRefused (known_after_all s.revisions (revisions_in (changesets_in l))) (objects_with s came)
          (s.blocks ++ l) id y.name in
          let fault = subst (λ (id : Id). there x.new id) (sym elements) (subst (λ (l : List Block). there l y.refused) (sym new) y.fault) in
          let name : x.name ≡ y.name =
          refusal-one known (no-null known then.some) (objects_with s came) (s.blocks ++ x.new) then.table x.refused x.name y.name x.fault fault in
          let place : x.at ≡ y.at = some_is (sym x.place ∙ ap (λ (id : Id). place_of came id) elements ∙ y.place) in
          x.is ∙ (λ i. refusal (name i) (elements i) (place i)) ∙ sym y.is

-- ---- one state and one stream that is read

module _ (s : State) (sound : IsSoundState s) (stream : Bytes) (came : List Placed) (reads : stream_reading s.objects stream ≡ Ok came) where
  checked : IsChecked (objects_with s came)
  checked = objects-after (λ (o : Object). o.id ≡ object_id o.kind o.content) s.objects (objects_among came) sound.objects
      (brings_only s.objects stream came reads).1

  goes : (ordered : List Id) → IsOrder (ancestries came) (saved_ids s) ordered → GoesOn s.revisions s.blocks ordered
  goes ordered order = record {
    some = own-some s.revisions sound.revisions;
    table = sound.blocks;
    distinct = order-distinct (ancestries came) (saved_ids s) ordered order (sound.blocks).ids;
  }

  pub new-one : (xs ys : List Block) → StreamBrings s came xs → StreamBrings s came ys → xs ≡ ys
  new-one xs ys x y =
      let order = one-order (ancestries came) (saved_ids s) y.ordered x.ordered y.order x.order in
      blocks-one (objects_with s came) checked s.revisions s.blocks x.ordered [] xs ys
      (subst (GoesOn s.revisions s.blocks) (sym (append-nil x.ordered)) (goes x.ordered x.order)) x.brings
      (subst (λ (l : List Id). CommitsBring s.revisions (objects_with s came) s.blocks l ys) order y.brings)

  pub brought-or_refused : (new : List Block) (why : Refusal) → StreamBrings s came new → StreamRefused s came why → ⊥
  brought-or_refused new why x (inl y) = order-or_stuck (ancestries came) (saved_ids s) x.ordered y.0 x.order y.2
  brought-or_refused new why x (inr (ordered, order, refused)) =
      let same = one-order (ancestries came) (saved_ids s) x.ordered ordered x.order order in
      brings-or_refused s came checked ordered new why (goes ordered order)
      (subst (λ (l : List Id). CommitsBring s.revisions (objects_with s came) s.blocks l new) same x.brings) refused

  pub stream-refusal_one : (a b : Refusal) → StreamRefused s came a → StreamRefused s came b → a ≡ b
  stream-refusal_one a b (inl (id, at, stuck, place, is)) (inl (id', at', stuck', place', is')) =
      let same : id ≡ id' = one-stuck (ancestries came) (saved_ids s) id id' stuck stuck' in
      let places : at ≡ at' = some_is (sym place ∙ ap (λ (x : Id). place_of came x) same ∙ place') in
      is ∙ (λ i. refusal fault.ParentUnknown (same i) (places i)) ∙ sym is'
  stream-refusal_one a b (inl x) (inr y) = absurd (order-or_stuck (ancestries came) (saved_ids s) y.0 x.0 y.1 x.2)
  stream-refusal_one a b (inr x) (inl y) = absurd (order-or_stuck (ancestries came) (saved_ids s) x.0 y.0 x.1 y.2)
  stream-refusal_one a b (inr (ordered, order, refused)) (inr (ordered', order', refused')) =
      let same = one-order (ancestries came) (saved_ids s) ordered' ordered order' order in
      commit-refusal_one s came checked ordered a b (goes ordered order) refused (subst (λ (l : List Id). IsCommitRefusal s came l b) same refused')

-- ---- the law

one-read : (xs ys : List Placed) (read : Result (List Placed) Refusal) → read ≡ Ok xs → read ≡ Ok ys → xs ≡ ys
one-read xs ys read h k = cc

one-error : (a b : Refusal) (read : Result (List Placed) Refusal) → read ≡ Err a → read ≡ Err b → a ≡ b
one-error a b read h k = cc

read-or_error : (xs : List Placed) (a : Refusal) (read : Result (List Placed) Refusal) → read ≡ Ok xs → read ≡ Err a → ⊥
read-or_error xs a read h k = cc

pub outputs : (s : State) (stream a b : Bytes) → IsSoundState s → PullGitMakes s stream a → PullGitMakes s stream b → a ≡ b
outputs s stream a b sound x y =
    let same : y.came ≡ x.came = one-read y.came x.came (stream_reading s.objects stream) y.reads x.reads in
    let new : x.new ≡ y.new = new-one s sound stream x.came x.reads x.new y.new x.brings
    (subst (λ (l : List Placed). StreamBrings s l y.new) same y.brings) in
    x.is ∙ ap (λ (l : List Block). hg_increment (known_after_all s.revisions (revisions_in (changesets_in l))) (changesets_in s.blocks) (changesets_in l)) new
    ∙ sym y.is

pub refusals : (s : State) (stream : Bytes) (a b : Refusal) → IsSoundState s → PullGitRefuses s stream a → PullGitRefuses s stream b → a ≡ b
refusals s stream a b sound (inl x) (inl y) = one-error a b (stream_reading s.objects stream) x y
refusals s stream a b sound (inl x) (inr y) = absurd (read-or_error y.0 a (stream_reading s.objects stream) y.1 x)
refusals s stream a b sound (inr x) (inl y) = absurd (read-or_error x.0 b (stream_reading s.objects stream) x.1 y)
refusals s stream a b sound (inr x) (inr y) =
    let same : y.0 ≡ x.0 = one-read y.0 x.0 (stream_reading s.objects stream) y.1 x.1 in
    stream-refusal_one s sound stream x.0 x.1 a b x.2 (subst (λ (l : List Placed). StreamRefused s l b) same y.2)

pub not-both : (s : State) (stream output : Bytes) (why : Refusal) → IsSoundState s → PullGitMakes s stream output → PullGitRefuses s stream why → ⊥
not-both s stream output why sound x (inl y) = read-or_error x.came why (stream_reading s.objects stream) x.reads y
not-both s stream output why sound x (inr y) =
    let same : y.0 ≡ x.came = one-read y.0 x.came (stream_reading s.objects stream) y.1 x.reads in
    brought-or_refused s sound stream x.came x.reads x.new why x.brings (subst (λ (l : List Placed). StreamRefused s l why) same y.2)
