-- The target of each tag that is kept is there.
use Rattle.std.proofs.Common.{◌≡◌, ◌+◌, suc, Bool, true, false, true≢false, not, ◌&&◌, ◌||◌, List, [], ◌∷◌, ◌++◌, length, map, Some, None, refl, sym, ap, subst, ◌∙◌, inl, inr, arith, if◌then◌else◌}
use Rattle.std.specs.Prelude.{IsTrue, bytes_eq}
use Rattle.std.specs.List.{find, list_any}
use Rattle.std.proofs.lemmas.List.Folds.{list_any-append}
use Rattle.text_model.specs.Lists.{Each, In}
use Rattle.text_model.specs.Id.{Id, commit, tag}
use Rattle.text_model.proofs.Elements.{each_in, each_from, map_append, in_any}
use Rattle.text_model.proofs.Options.{some_none, not_false}
use Rattle.git_model.specs.Commit.{tag_target, is_tag_of}
use Rattle.git_model.specs.Object.{Object, has_id}
use Rattle.git_model.specs.Order.{has}
use Rattle.git_model.specs.Stream.{Placed}
use Rattle.view_model.specs.View.{commit_id}
use Rattle.pair_model.specs.Block.{Block, id_of, commits_in}
use Rattle.history_model.specs.Pull.{objects_among}
use Rattle.state_model.specs.Kept.{kept_of, is_tag, ids_of}
use Rattle.state_model.specs.Tags.{leads, leads_to_commit, has_target}
use Rattle.saved_model.specs.Step.{tags_came, new_tags, lacks_target}
use Rattle.dump_law.proofs.Elements.{of-map, of-filter, passes}
use Rattle.dump_law.proofs.Streams.{of_append}
use Rattle.next_law.specs.Next.{IsLeft}
use Rattle.next_law.proofs.Known.{saved-of}
use Rattle.tag_law.specs.Tags.{HasTargets}
use Rattle.tag_law.proofs.Comes.{comes}
use Rattle.tag_law.proofs.Lead.{all-lead}
use Rattle.tag_law.proofs.TagsOnly.{of-came, of-new}
use Rattle.tag_law.proofs.Ways.{Way, way}

-- the target is there if the tag leads to a commit, and the commit is there that it is of
pub from-lead : (commits : List Id) (tags : List Object) (o : Object) → leads [] tags o ≡ true → (is_tag_of commit o.content ≡ true → has commits (tag_target o.content) ≡ true)
    → has_target commits [] tags o ≡ true
from-lead commits tags o h own =
    let one : length tags + 1 ≡ suc (length tags) = omega arith in
    by (is_tag_of commit o.content) refl (way (length tags) [] tags o (subst (λ (n : _). leads_to_commit n [] tags o ≡ true) one h))
  where
    by : (t : Bool) → is_tag_of commit o.content ≡ t → Way (length tags) [] tags o → has_target commits [] tags o ≡ true
    by true e w = rw e (own e)
    by false e (inl f) = absurd (true≢false (sym f ∙ e))
    by false e (inr (inl (f, g))) = absurd (true≢false (sym g))
    by false e (inr (inr w)) = rw (e, w.of_tag) (in_any (has_id (tag_target o.content)) tags w.next w.among w.its_id)

-- what the target of a tag of a commit says
of-commit : (commits kept : List Id) (tags : List Object) (o : Object) → has_target commits kept tags o ≡ true → is_tag_of commit o.content ≡ true → has commits (tag_target o.content) ≡ true
of-commit commits kept tags o h e = ap (λ (b : Bool). if b then has commits (tag_target o.content) else if is_tag_of tag o.content then has kept (tag_target o.content) || list_any (has_id (tag_target o.content)) tags else true) (sym e) ∙ h

-- ---- the commits of blocks

ids-are : (blocks : List Block) → map commit_id (commits_in blocks) ≡ map id_of blocks
ids-are [] = refl
ids-are (b ∷ blocks) = ap (λ (l : List Id). id_of b ∷ l) (ids-are blocks)

has-front : (xs ys : List Id) (id : Id) → has xs id ≡ true → has (xs ++ ys) id ≡ true
has-front xs ys id h = list_any-append (bytes_eq id) xs ys ∙ rw h refl

more-ids : (old new : List Block) → map commit_id (commits_in (old ++ new)) ≡ map commit_id (commits_in old) ++ map commit_id (commits_in new)
more-ids old new = ap (map commit_id) (map_append (λ (b : Block). b.commit) old new) ∙ map_append commit_id (commits_in old) (commits_in new)

-- ---- what wasn't found

none-at : {X : Type 0} (p : X → Bool) (xs : List X) → find p xs ≡ None → (x : X) → In x xs → p x ≡ false
none-at p [] h x i = absurd i
none-at {X = X} p (y ∷ xs) h x i = by (p y) refl h i (none-at p xs)
  where
    by : (t : Bool) → p y ≡ t → (if t then Some y else find p xs) ≡ None → In x (y ∷ xs) → (find p xs ≡ None → (z : X) → In z xs → p z ≡ false) → p x ≡ false
    by true e k j go = absurd (some_none k)
    by false e k (inl q) go = ap p q ∙ e
    by false e k (inr j) go = go k x j

lacks-none : (blocks : List Block) (kept : List Object) (came : List Placed) → find (lacks_target blocks kept came) came ≡ None → (o : Object) → In o (new_tags kept came)
    → has_target (map id_of blocks) (ids_of kept) (tags_came came) o ≡ true
lacks-none blocks kept came none o i =
    let there = of-came came o (of-new kept came o i) in
    let p = of-map (λ (p : Placed). p.object) o came (of-filter is_tag o (objects_among came) there) in
    let is : is_tag o ≡ true = passes is_tag o (objects_among came) there in
    let lacks = none-at (lacks_target blocks kept came) came none p.0 p.1 in
    by (has_target (map id_of blocks) (ids_of kept) (tags_came came) o) (sym (rw is refl) ∙ ap (λ (x : Object). is_tag x && not (has_target (map id_of blocks) (ids_of kept) (tags_came came) x)) p.2 ∙ lacks)
  where
    by : (t : Bool) → not t ≡ false → t ≡ true
    by t h = not_false t h

pub targets-left : IsLeft HasTargets
targets-left s pull k made is (new, added, accepts, next, wrote) =
    let c = comes (kept_of s) pull new added accepts in
    let saved = (saved-of s is).tags in
    let fresh = new_tags s.tags c.came in
    let all = s.tags ++ fresh in
    let commits = map commit_id (commits_in (s.blocks ++ new)) in
    let lead = all-lead s.tags c.came saved.lead in
    let old : (o : Object) → In o s.tags → is_tag_of commit o.content ≡ true → has commits (tag_target o.content) ≡ true =
    (λ o i e. ap (λ (l : List Id). has l (tag_target o.content)) (more-ids s.blocks new)
    ∙ has-front (map commit_id (commits_in s.blocks)) (map commit_id (commits_in new)) (tag_target o.content)
    (of-commit (map commit_id (commits_in s.blocks)) [] s.tags o (each_in (λ o. IsTrue (has_target (map commit_id (commits_in s.blocks)) [] s.tags o)) s.tags o saved.targets i) e)) in
    let own : (o : Object) → In o fresh → is_tag_of commit o.content ≡ true → has commits (tag_target o.content) ≡ true =
    (λ o i e. ap (λ (l : List Id). has l (tag_target o.content)) (ids-are (s.blocks ++ new))
    ∙ of-commit (map id_of (s.blocks ++ new)) (ids_of s.tags) (tags_came c.came) o (lacks-none (s.blocks ++ new) s.tags c.came c.targets o i) e) in
    let each = each_from (λ o. IsTrue (has_target commits [] all o)) all (λ o i. from-lead commits all o (each_in (λ o. IsTrue (leads [] all o)) all o lead i)
    (elim (of_append o s.tags fresh i) [ inl j ↦ old o j | inr j ↦ own o j ])) in
    subst HasTargets (sym next) (subst (λ (l : List Object). Each (λ o. IsTrue (has_target commits [] (s.tags ++ l) o)) (s.tags ++ l)) (sym c.added_are) each)
