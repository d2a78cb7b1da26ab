-- The rule for tags over a state that keeps none yet.
use Rattle.std.proofs.Common.{◌≡◌, ◌≤◌, Bool, true, false, not, ◌&&◌, List, [], ◌∷◌, length, map, Some, None, refl, sym, ap, subst, ◌∙◌, arith}
use Rattle.std.specs.Prelude.{filter, find, if◌then◌else◌}
use Rattle.std.proofs.lemmas.List.{length-map}
use Rattle.text_model.specs.Lists.{Each, first_of_each}
use Rattle.text_model.specs.Id.{Id}
use Rattle.text_model.proofs.Options.{not_false, none_some, some_none}
use Rattle.git_model.specs.Tree.{has_distinct}
use Rattle.git_model.specs.Object.{Object, same_object}
use Rattle.git_model.specs.Order.{has}
use Rattle.git_model.specs.Stream.{Placed}
use Rattle.git_batch.specs.declared.arrival.ObjectArrival.{ObjectArrival}
use Rattle.git_batch.specs.Arrivals.{arrival_of}
use Rattle.git_section.proofs.Distinct.{distinct_first}
use Rattle.history_model.specs.Pull.{objects_among}
use Rattle.view_model.specs.View.{CommitView, commit_id}
use Rattle.pair_model.specs.Block.{Block, id_of, no_changeset}
use Rattle.state_model.specs.Kept.{is_tag, ids_of}
use Rattle.state_model.specs.Tags.{leads, has_target}
use Rattle.saved_model.specs.Step.{tags_came, new_tags, lacks_target}
use Rattle.tag_rule.specs.Answers.{IsSetOf}
use Rattle.tag_section.specs.Tags.{AreKept}
use Rattle.tag_section.proofs.Whole.{filter-short, filter-passes, filter-all, first-short, first-whole, first-distinct}

-- a block of the commit
abbrev pub block_of : CommitView → Block
block_of c = record { links = []; changeset = no_changeset; commit = c }

abbrev pub blocks_of : List CommitView → List Block
blocks_of cs = map block_of cs

pub block-ids : (cs : List CommitView) → map id_of (blocks_of cs) ≡ map commit_id cs
block-ids [] = refl
block-ids (c ∷ cs) = ap (λ (l : List Id). commit_id c ∷ l) (block-ids cs)

pub block-set : (cs : List CommitView) (set ids : List Id) → IsSetOf set ids → ids ≡ map commit_id cs → IsSetOf set (map id_of (blocks_of cs))
block-set cs set ids same are y = same y ∙ ap (λ (l : List Id). has l y) (are ∙ sym (block-ids cs))

-- ---- a test that finds none

module _ {X : Type 0} (p : X → Bool) where
  pub none-found : (xs : List X) → find p xs ≡ None → Each (λ x. p x ≡ false) xs
  none-found [] h = tt
  none-found (x ∷ xs) h = by (p x) refl h (none-found xs)
    where
      by : (t : Bool) → p x ≡ t → (if t then Some x else find p xs) ≡ None → (find p xs ≡ None → Each (λ y. p y ≡ false) xs) → Each (λ y. p y ≡ false) (x ∷ xs)
      by true t e rest = absurd (some_none e)
      by false t e rest = (t, rest e)

  pub finds-none : (xs : List X) → Each (λ x. p x ≡ false) xs → find p xs ≡ None
  finds-none [] h = refl
  finds-none (x ∷ xs) h = ap (λ (b : Bool). if b then Some x else find p xs) h.0 ∙ finds-none xs h.1

and_false : (b : Bool) → (b && false) ≡ false
and_false true = refl
and_false false = refl

module _ (cs : List CommitView) (placed : List Placed) where
  abbrev tags : List Object
  tags = objects_among placed

  same_length : length tags ≡ length placed
  same_length = length-map placed (λ (o : Placed). o.object)

  -- ---- from what is newly kept

  module _ (whole : length (new_tags [] placed) ≡ length placed) where
    new-short : length (new_tags [] placed) ≤ length (tags_came placed)
    new-short = filter-short (λ o. not false && leads [] (tags_came placed) o) (tags_came placed)

    came-short : length (tags_came placed) ≤ length (filter is_tag tags)
    came-short = first-short same_object (filter is_tag tags)

    only-tags : Each (λ o. is_tag o ≡ true) tags
    only-tags = filter-passes is_tag tags (omega (arith, whole, same_length, new-short, came-short, filter-short is_tag tags))

    all-tags : filter is_tag tags ≡ tags
    all-tags = filter-all is_tag tags only-tags

    once : first_of_each same_object tags ≡ tags
    once = first-whole same_object tags (omega (arith, whole, same_length, new-short, ap (λ (l : List Object). length (first_of_each same_object l)) all-tags, first-short same_object tags))

    came-are : tags_came placed ≡ tags
    came-are = ap (first_of_each same_object) all-tags ∙ once

    distinct : has_distinct (ids_of tags) ≡ true
    distinct = ap (λ (l : List Object). has_distinct (ids_of l)) (sym once) ∙ distinct_first tags

    lead-came : Each (λ o. leads [] (tags_came placed) o ≡ true) (tags_came placed)
    lead-came = filter-passes (λ o. not false && leads [] (tags_came placed) o) (tags_came placed) (omega (arith, whole, same_length, ap (λ (l : List Object). length l) came-are))

    lead : Each (λ o. leads [] tags o ≡ true) tags
    lead = subst (λ (l : List Object). Each (λ o. leads [] l o ≡ true) l) came-are lead-came

    new-are : new_tags [] placed ≡ tags
    new-are = filter-all (λ o. not false && leads [] (tags_came placed) o) (tags_came placed) lead-came ∙ came-are

    module _ (found : find (lacks_target (blocks_of cs) [] placed) placed ≡ None) where
      target : (os : List Placed) → Each (λ o. is_tag o ≡ true) (objects_among os) → Each (λ o. lacks_target (blocks_of cs) [] placed o ≡ false) os
          → Each (λ o. has_target (map commit_id cs) [] tags o ≡ true) (objects_among os)
      target [] t l = tt
      target (o ∷ os) t l = (
        (λ i. has_target (sym (block-ids cs) i) [] (sym came-are i) o.object)
            ∙ not_false (has_target (map id_of (blocks_of cs)) [] (tags_came placed) o.object)
            (sym (ap (λ (b : Bool). b && not (has_target (map id_of (blocks_of cs)) [] (tags_came placed) o.object)) t.0) ∙ l.0),
        target os t.1 l.1,
      )

      are-kept : AreKept cs tags
      are-kept = record {
        tags_only = only-tags;
        distinct = distinct;
        targets = target placed only-tags (none-found (lacks_target (blocks_of cs) [] placed) placed found);
        lead = lead;
      }

  -- ---- and to it

  module _ (kept : AreKept cs tags) where
    kept-came : tags_came placed ≡ tags
    kept-came = ap (first_of_each same_object) (filter-all is_tag tags kept.tags_only) ∙ first-distinct tags kept.distinct

    kept-new : new_tags [] placed ≡ tags
    kept-new =
        ap (λ (l : List Object). filter (λ o. not false && leads [] l o) l) kept-came
        ∙ filter-all (λ o. not false && leads [] tags o) tags kept.lead

    kept-targets : find (lacks_target (blocks_of cs) [] placed) placed ≡ None
    kept-targets = finds-none (lacks_target (blocks_of cs) [] placed) placed (each placed kept.targets)
      where
        each : (os : List Placed) → Each (λ o. has_target (map commit_id cs) [] tags o ≡ true) (objects_among os) → Each (λ o. lacks_target (blocks_of cs) [] placed o ≡ false) os
        each [] h = tt
        each (o ∷ os) h = (
          ap (λ (b : Bool). is_tag o.object && not b) ((λ i. has_target (block-ids cs i) [] (kept-came i) o.object) ∙ h.0) ∙ and_false (is_tag o.object),
          each os h.1,
        )

  -- ---- by the ids of those that are newly kept

  pub none-lacks : (o : Placed) → find (lacks_target (blocks_of cs) [] placed) placed ≡ Some o → ¬ (AreKept cs tags)
  none-lacks o found kept = none_some (sym (kept-targets kept) ∙ found)

  module _ (came : List ObjectArrival) (listed : came ≡ map arrival_of placed) (ids : List Id) (are : ids ≡ ids_of (new_tags [] placed)) where
    came_length : length came ≡ length placed
    came_length = ap (λ (l : List ObjectArrival). length l) listed ∙ length-map placed arrival_of

    ids_length : length ids ≡ length (new_tags [] placed)
    ids_length = ap (λ (l : List Id). length l) are ∙ length-map (new_tags [] placed) (λ (o : Object). o.id)

    pub all-kept : find (lacks_target (blocks_of cs) [] placed) placed ≡ None → length ids ≡ length came → AreKept cs tags × (ids ≡ ids_of tags)
    all-kept found equal =
        let whole : length (new_tags [] placed) ≡ length placed = sym ids_length ∙ equal ∙ came_length in
        (are-kept whole found, are ∙ ap ids_of (new-are whole))

    pub not-all : (length ids ≡ length came → ⊥) → ¬ (AreKept cs tags)
    not-all other kept = other (ids_length ∙ ap (λ (l : List Object). length l) (kept-new kept) ∙ same_length ∙ sym came_length)
