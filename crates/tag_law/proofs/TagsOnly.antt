-- All that is kept are tags.
use Rattle.std.proofs.Common.{not, ◌&&◌, List, filter, sym, subst}
use Rattle.std.specs.Prelude.{IsTrue}
use Rattle.text_model.specs.Lists.{Each, In}
use Rattle.text_model.proofs.EachLemmas.{Each-append}
use Rattle.text_model.proofs.Elements.{each_from}
use Rattle.git_model.specs.Object.{Object, same_object}
use Rattle.git_model.specs.Order.{has}
use Rattle.git_model.specs.Stream.{Placed}
use Rattle.history_model.specs.Pull.{objects_among}
use Rattle.state_model.specs.Kept.{kept_of, is_tag, ids_of}
use Rattle.state_model.specs.Tags.{leads}
use Rattle.saved_model.specs.Step.{tags_came, new_tags}
use Rattle.dump_law.proofs.Elements.{of-filter, of-first, passes}
use Rattle.next_law.specs.Next.{IsLeft}
use Rattle.next_law.proofs.Known.{saved-of}
use Rattle.tag_law.specs.Tags.{HasTagsOnly}
use Rattle.tag_law.proofs.Comes.{comes}

-- a tag that came is an object that came, and a tag
pub of-came : (came : List Placed) (o : Object) → In o (tags_came came) → In o (filter is_tag (objects_among came))
of-came came o i = of-first same_object o (filter is_tag (objects_among came)) i

pub of-new : (kept : List Object) (came : List Placed) (o : Object) → In o (new_tags kept came) → In o (tags_came came)
of-new kept came o i = of-filter (λ o. not (has (ids_of kept) o.id) && leads (ids_of kept) (tags_came came) o) o (tags_came came) i

new-are : (kept : List Object) (came : List Placed) → Each (λ o. IsTrue (is_tag o)) (new_tags kept came)
new-are kept came = each_from (λ o. IsTrue (is_tag o)) (new_tags kept came) (λ o i. passes is_tag o (objects_among came) (of-came came o (of-new kept came o i)))

pub tags-only_left : IsLeft HasTagsOnly
tags-only_left s pull k made is (new, added, accepts, next, wrote) =
    let c = comes (kept_of s) pull new added accepts in
    let own = subst (Each (λ o. IsTrue (is_tag o))) (sym c.added_are) (new-are s.tags c.came) in
    subst HasTagsOnly (sym next) (Each-append (λ o. IsTrue (is_tag o)) s.tags added ((saved-of s is).tags).tags_only own)
