-- What the model says of the tags that came, by their ids.
use Rattle.std.proofs.Common.{◌≡◌, ◌+◌, ℕ, zero, suc, Bool, true, false, not, ◌&&◌, ◌||◌, List, [], ◌∷◌, length, map, Option, Some, None, refl, sym, ap, ◌∙◌, bytes_eq}
use Rattle.std.specs.Prelude.{filter, find, option_map, if◌then◌else◌}
use Rattle.std.specs.List.{list_any}
use Rattle.std.proofs.lemmas.List.{length-map}
use Rattle.text_model.specs.Lists.{Each, first_of_each}
use Rattle.text_model.specs.Text.{Bytes}
use Rattle.text_model.specs.Id.{Id, ObjectKind, blob, tree, commit, tag, same_kind}
use Rattle.text_model.proofs.TestLemmas.{bytes_eq-is}
use Rattle.text_model.proofs.Options.{some_is}
use Rattle.git_model.specs.Commit.{tag_target, is_tag_of}
use Rattle.git_model.specs.Object.{Object, has_id, same_object}
use Rattle.git_model.specs.Order.{has}
use Rattle.git_model.specs.Stream.{Placed}
use Rattle.git_batch.specs.declared.arrival.ObjectArrival.{ObjectArrival}
use Rattle.git_batch.specs.Arrivals.{arrival_of, is_of}
use Rattle.git_store.specs.Known.{content_at, content_of}
use Rattle.git_store.specs.Growth.{IsThere}
use Rattle.git_store.proofs.FindLemmas.{find-map}
use Rattle.history_model.specs.Pull.{objects_among}
use Rattle.pair_model.specs.Block.{Block, id_of}
use Rattle.state_model.specs.Kept.{is_tag, ids_of}
use Rattle.state_model.specs.Tags.{leads_to_commit, leads, has_target}
use Rattle.saved_model.specs.Step.{tags_came, new_tags, lacks_target}
use Rattle.tag_rule.specs.declared.named.Named.{Named}
use Rattle.tag_rule.specs.declared.named.Named.TheVariants as named
use Rattle.tag_rule.specs.Rows.{tag_ids}
use Rattle.tag_rule.specs.Named.{named_by, named_at, lacks_by, lacks_over}
use Rattle.tag_rule.specs.Fates.{leads_within, is_new_over}
use Rattle.tag_rule.specs.Answers.{HaveCome, IsSetOf, target_unknown}
use Rattle.tag_rule.proofs.FateLemmas.{within-none, within-step, led}

-- ---- the tags that came

-- a tag that the store has under its id
abbrev pub IsHeld : List Object → Object → Type 0
IsHeld store o = content_at tag store o.id ≡ Some o.content

module _ {X : Type 0} (P : X → Type 0) where
  each-filter : (p : X → Bool) (xs : List X) → Each P xs → Each P (filter p xs)
  each-filter p [] h = tt
  each-filter p (x ∷ xs) h = by (p x) (each-filter p xs h.1)
    where
      by : (t : Bool) → Each P (filter p xs) → Each P (if t then x ∷ filter p xs else filter p xs)
      by true rest = (h.0, rest)
      by false rest = rest

  each-first : (same : X → X → Bool) (xs : List X) → Each P xs → Each P (first_of_each same xs)
  each-first same [] h = tt
  each-first same (x ∷ xs) h = (h.0, each-filter (λ y. not (same x y)) (first_of_each same xs) (each-first same xs h.1))

held-is : (store : List Object) (o : Object) → IsThere store o → is_tag o ≡ true → IsHeld store o
held-is store o there is = ap (content_of tag) there ∙ rw is refl

held-among : (store : List Object) (placed : List Placed) → Each (λ o. IsThere store o.object) placed → Each (IsHeld store) (filter is_tag (objects_among placed))
held-among store [] h = tt
held-among store (o ∷ placed) h = by (is_tag o.object) refl (held-among store placed h.1)
  where
    by : (t : Bool) → is_tag o.object ≡ t → Each (IsHeld store) (filter is_tag (objects_among placed)) → Each (IsHeld store) (if t then o.object ∷ filter is_tag (objects_among placed) else filter is_tag (objects_among placed))
    by true t rest = (held-is store o.object h.0 t, rest)
    by false t rest = rest

pub held-came : (store : List Object) (placed : List Placed) → Each (λ o. IsThere store o.object) placed → Each (IsHeld store) (tags_came placed)
held-came store placed h = each-first (IsHeld store) same_object (filter is_tag (objects_among placed)) (held-among store placed h)

-- ---- their ids

ids-filter : (p : Object → Bool) (q : Id → Bool) (objects : List Object) → Each (λ o. p o ≡ q o.id) objects → ids_of (filter p objects) ≡ filter q (ids_of objects)
ids-filter p q [] h = refl
ids-filter p q (o ∷ objects) h = by (p o) refl (ids-filter p q objects h.1)
  where
    by : (t : Bool) → p o ≡ t → ids_of (filter p objects) ≡ filter q (ids_of objects) → ids_of (filter p (o ∷ objects)) ≡ filter q (ids_of (o ∷ objects))
    by true t rest = rw (t, sym h.0 ∙ t) (ap (λ (l : List Id). o.id ∷ l) rest)
    by false t rest = rw (t, sym h.0 ∙ t) rest

each-all : {X : Type 0} (P : X → Type 0) → ((x : X) → P x) → (xs : List X) → Each P xs
each-all P f [] = tt
each-all P f (x ∷ xs) = (f x, each-all P f xs)

ids-first : (objects : List Object) → ids_of (first_of_each same_object objects) ≡ first_of_each bytes_eq (ids_of objects)
ids-first [] = refl
ids-first (o ∷ objects) =
    ap (λ (l : List Id). o.id ∷ l)
    (ids-filter (λ x. not (same_object o x)) (λ id. not (bytes_eq o.id id)) (first_of_each same_object objects)
    (each-all (λ x. not (same_object o x) ≡ not (bytes_eq o.id x.id)) (λ x. refl) (first_of_each same_object objects))
    ∙ ap (filter (λ id. not (bytes_eq o.id id))) (ids-first objects))

is_of-arrival : (o : Placed) → is_of tag (arrival_of o) ≡ is_tag o.object
is_of-arrival o = by (o.object).kind
  where
    by : (kind : ObjectKind) → is_of tag (arrival_of (record { object = record { id = (o.object).id; kind = kind; content = (o.object).content }; at = o.at })) ≡ same_kind kind tag
    by blob = refl
    by tree = refl
    by commit = refl
    by tag = refl

ids-among : (placed : List Placed) → ids_of (filter is_tag (objects_among placed)) ≡ map (λ a. a.id) (filter (is_of tag) (map arrival_of placed))
ids-among [] = refl
ids-among (o ∷ placed) = by (is_tag o.object) refl (ids-among placed)
  where
    by : (t : Bool) → is_tag o.object ≡ t → ids_of (filter is_tag (objects_among placed)) ≡ map (λ a. a.id) (filter (is_of tag) (map arrival_of placed))
        → ids_of (filter is_tag (objects_among (o ∷ placed))) ≡ map (λ a. a.id) (filter (is_of tag) (map arrival_of (o ∷ placed)))
    by true t rest = rw (t, is_of-arrival o ∙ t) (ap (λ (l : List Id). (o.object).id ∷ l) rest)
    by false t rest = rw (t, is_of-arrival o ∙ t) rest

pub ids-came : (placed : List Placed) → ids_of (tags_came placed) ≡ tag_ids (map arrival_of placed)
ids-came placed = ids-first (filter is_tag (objects_among placed)) ∙ ap (first_of_each bytes_eq) (ids-among placed)

-- ---- where they lead

-- some tag with the id passes just where the id is there and passes
any-id : (p : Object → Bool) (q : Id → Bool) (id : Id) (objects : List Object) → Each (λ o. p o ≡ q o.id) objects
    → list_any (λ o. has_id id o && p o) objects ≡ (has (ids_of objects) id && q id)
any-id p q id [] h = refl
any-id p q id (o ∷ objects) h = by (bytes_eq id o.id) refl (any-id p q id objects h.1)
  where
    absorbs : (x : Bool) (y : Bool) → (x || (y && x)) ≡ x
    absorbs true y = refl
    absorbs false true = refl
    absorbs false false = refl

    by : (t : Bool) → bytes_eq id o.id ≡ t → list_any (λ x. has_id id x && p x) objects ≡ (has (ids_of objects) id && q id)
        → list_any (λ x. has_id id x && p x) (o ∷ objects) ≡ (has (ids_of (o ∷ objects)) id && q id)
    by true t rest = rw (t, rest, h.0, ap q (sym (bytes_eq-is id o.id t))) (absorbs (q id) (has (ids_of objects) id))
    by false t rest = rw t rest

any-has : (id : Id) (objects : List Object) → list_any (has_id id) objects ≡ has (ids_of objects) id
any-has id [] = refl
any-has id (o ∷ objects) = ap (λ (b : Bool). bytes_eq id o.id || b) (any-has id objects)

module _ (store : List Object) (kept : List Id) (tags : List Object) (set : IsSetOf kept (ids_of tags)) (came : List Object) (held : Each (IsHeld store) came) where
  abbrev names : Id → Named
  names = named_at store kept (ids_of came)

  -- the model's rule for a tag of this content, where it is known how those that it names lead
  by_content : (later : Id → Bool) (content : Bytes) (any : Bool) → any ≡ (has (ids_of came) (tag_target content) && later (tag_target content))
      → (is_tag_of commit content || (is_tag_of tag content && (has (ids_of tags) (tag_target content) || any))) ≡ led names later (named_by kept (ids_of came) (Some content))
  by_content later content any is =
      rw (is, sym (set (tag_target content))) (by (is_tag_of commit content) (is_tag_of tag content) (has kept (tag_target content)) (has (ids_of came) (tag_target content)))
    where
      by : (a b c d : Bool) → (a || (b && (c || (d && later (tag_target content)))))
          ≡ led names later (if a then named.Commit else if b then (if c then named.Commit else if d then named.Tag (tag_target content) else named.Other) else named.Other)
      by true b c d = refl
      by false true true d = refl
      by false true false true = refl
      by false true false false = refl
      by false false c d = refl

  leads-within : (n : ℕ) (o : Object) → IsHeld store o → leads_to_commit n (ids_of tags) came o ≡ leads_within names n o.id
  unfolding leads_to_commit
  leads-within zero o h = sym (within-none names o.id)
  leads-within (suc n) o h =
      by_content (leads_within names n) o.content _
      (any-id (leads_to_commit n (ids_of tags) came) (leads_within names n) (tag_target o.content) came (each (leads-within n) came held))
      ∙ sym (within-step names n o.id _ (ap (named_by kept (ids_of came)) h))
    where
      each : ((x : Object) → IsHeld store x → leads_to_commit n (ids_of tags) came x ≡ leads_within names n x.id)
          → (xs : List Object) → Each (IsHeld store) xs → Each (λ x. leads_to_commit n (ids_of tags) came x ≡ leads_within names n x.id) xs
      each f [] hs = tt
      each f (x ∷ xs) hs = (f x hs.0, each f xs hs.1)

  abbrev new_id : Id → Bool
  new_id id = is_new_over store kept (ids_of came) id

  new-each : (xs : List Object) → Each (IsHeld store) xs → Each (λ o. (not (has (ids_of tags) o.id) && leads (ids_of tags) came o) ≡ new_id o.id) xs
  new-each [] hs = tt
  new-each (x ∷ xs) hs = (here x hs.0, new-each xs hs.1)
    where
      here : (x : Object) → IsHeld store x → (not (has (ids_of tags) x.id) && leads (ids_of tags) came x) ≡ new_id x.id
      here x h =
          rw (sym (set x.id), length-map came (λ (o : Object). o.id)) (ap (λ (b : Bool). not (has kept x.id) && b) (leads-within (length came + 1) x h))

  pub new-ids : ids_of (filter (λ o. not (has (ids_of tags) o.id) && leads (ids_of tags) came o) came) ≡ filter new_id (ids_of came)
  new-ids = ids-filter (λ o. not (has (ids_of tags) o.id) && leads (ids_of tags) came o) new_id came (new-each came held)

-- ---- whether their targets are there

find-same : {X : Type 0} (p q : X → Bool) (xs : List X) → Each (λ x. p x ≡ q x) xs → find p xs ≡ find q xs
find-same p q [] h = refl
find-same p q (x ∷ xs) h = by (p x) refl (find-same p q xs h.1)
  where
    by : (t : Bool) → p x ≡ t → find p xs ≡ find q xs → find p (x ∷ xs) ≡ find q (x ∷ xs)
    by true t rest = rw (t, sym h.0 ∙ t) refl
    by false t rest = rw (t, sym h.0 ∙ t) rest

module _ (store : List Object) (commits kept : List Id) (blocks : List Block) (tags : List Object)
    (saved : IsSetOf commits (map id_of blocks)) (set : IsSetOf kept (ids_of tags)) (placed : List Placed) where
  abbrev came : List Object
  came = tags_came placed

  abbrev lacks : ObjectArrival → Bool
  lacks a = lacks_over store commits kept (ids_of came) a

  lacks-content : (o : Object) → not (has_target (map id_of blocks) (ids_of tags) came o) ≡ lacks_by commits kept (ids_of came) (Some o.content)
  lacks-content o =
      rw (sym (saved (tag_target o.content)), sym (set (tag_target o.content)), any-has (tag_target o.content) came) refl

  lacks-is : (o : Placed) → IsThere store o.object → lacks_target blocks tags placed o ≡ lacks (arrival_of o)
  lacks-is o there = by (is_tag o.object) refl
    where
      by : (t : Bool) → is_tag o.object ≡ t → lacks_target blocks tags placed o ≡ lacks (arrival_of o)
      by true t = rw (t, is_of-arrival o ∙ t) (lacks-content o.object ∙ ap (lacks_by commits kept (ids_of came)) (sym (held-is store o.object there t)))
      by false t = rw (t, is_of-arrival o ∙ t) refl

  lacks-each : (os : List Placed) → Each (λ o. IsThere store o.object) os → Each (λ o. lacks_target blocks tags placed o ≡ lacks (arrival_of o)) os
  lacks-each [] h = tt
  lacks-each (o ∷ os) h = (lacks-is o h.0, lacks-each os h.1)

  pub lacks-found : Each (λ o. IsThere store o.object) placed → find lacks (map arrival_of placed) ≡ option_map arrival_of (find (lacks_target blocks tags placed) placed)
  lacks-found there =
      find-map arrival_of lacks placed ∙ ap (option_map arrival_of) (sym (find-same (lacks_target blocks tags placed) (λ o. lacks (arrival_of o)) placed (lacks-each placed there)))

-- ---- over the lists in which the code looks up

module _ (store : List Object) (arrivals : List ObjectArrival) (placed : List Placed) (have : HaveCome store arrivals placed)
    (rows : List Id) (are : rows ≡ tag_ids arrivals) (kept : List Id) (tags : List Object) (set : IsSetOf kept (ids_of tags)) where
  same_rows : ids_of (tags_came placed) ≡ rows
  same_rows = ids-came placed ∙ ap tag_ids (sym have.listed) ∙ sym are

  pub kept-are : filter (is_new_over store kept rows) (tag_ids arrivals) ≡ ids_of (new_tags tags placed)
  kept-are =
      ap (filter (is_new_over store kept rows)) (sym are) ∙ ap (λ (l : List Id). filter (is_new_over store kept l) l) (sym same_rows)
      ∙ sym (new-ids store kept tags set (tags_came placed) (held-came store placed have.held))

  module _ (commits : List Id) (blocks : List Block) (saved : IsSetOf commits (map id_of blocks)) where
    found-is : find (lacks_over store commits kept rows) arrivals ≡ option_map arrival_of (find (lacks_target blocks tags placed) placed)
    found-is =
        ap (λ (l : List Id). find (lacks_over store commits kept l) arrivals) (sym same_rows) ∙ ap (find (lacks_over store commits kept (ids_of (tags_came placed)))) have.listed
        ∙ lacks-found store commits kept blocks tags saved set placed have.held

    pub none-lacks : None ≡ find (lacks_over store commits kept rows) arrivals → find (lacks_target blocks tags placed) placed ≡ None
    none-lacks none = by (find (lacks_target blocks tags placed) placed) (none ∙ found-is)
      where
        by : (o : Option Placed) → None ≡ option_map arrival_of o → o ≡ None
        by None h = refl
        by (Some o) h = absurd cc

    pub first-lacks : (a : ObjectArrival) → Some a ≡ find (lacks_over store commits kept rows) arrivals
        → (o : Placed) × (find (lacks_target blocks tags placed) placed ≡ Some o) × (target_unknown a.id a.at ≡ target_unknown (o.object).id o.at)
    first-lacks a first = by (find (lacks_target blocks tags placed) placed) refl (first ∙ found-is)
      where
        by : (f : Option Placed) → find (lacks_target blocks tags placed) placed ≡ f → Some a ≡ option_map arrival_of f
            → (o : Placed) × (find (lacks_target blocks tags placed) placed ≡ Some o) × (target_unknown a.id a.at ≡ target_unknown (o.object).id o.at)
        by None is h = absurd cc
        by (Some o) is h =
            let same : a ≡ arrival_of o = some_is h in
            (o, is, ap (λ (x : ObjectArrival). target_unknown x.id x.at) same)
