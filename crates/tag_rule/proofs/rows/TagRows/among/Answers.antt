use Rattle.std.proofs.Common.{◌≡◌, ◌<◌, ◌+◌, ◌++◌, List, [], ◌∷◌, length, take, get_or, refl, sym, ap, ◌∙◌, arith}
use Rattle.std.proofs.lemmas.List.{take_more}
use denote.Enum.Bare.{sameb}
use Rattle.bridge_text.specs.contracts.kind.Kind.{the_type}
use Rattle.bridge_text.specs.declared.kind.Kind.{Kind}
use Rattle.bridge_text.specs.declared.kind.Kind.TheVariants.{Blob, Tree, Commit, Tag}
use Rattle.bridge_text.specs.Kinds.{object_kind}
use Rattle.text_model.specs.Id.{Id, tag, same_kind}
use Rattle.git_batch.specs.declared.arrival.ObjectArrival.{ObjectArrival}
use Rattle.git_batch.specs.Arrivals.{is_of}
use Rattle.tag_rule.specs.declared.rows.TagRows.{TagRows}
use Rattle.tag_rule.specs.Rows.{tag_ids, with_id}
use Rattle.tag_rule.proofs.RowLemmas.{tag-push, other-push}
use Rattle.tag_rule.proofs.rows.TagRows.among.Goals as goal
use Rattle.tag_rule.proofs.rows.TagRows.among.Goals.{then-eq+in_ok-put, else-eq}

is_same : (k : Kind) → sameb the_type k Tag ≡ same_kind tag (object_kind k)
is_same Blob = refl
is_same Tree = refl
is_same Commit = refl
is_same Tag = refl

pub loop-item-preserved : goal.loop-item-preserved
loop-item-preserved c =
    let came = c.args.came.now in
    let i = c.loop-item.item-index in
    let a = c.item-item.result in
    let below : i < length came = omega (arith, ap length c.as_slice-item-items.ensures) in
    let is : a ≡ get_or came i a = c.item-item.is ∙ ap (λ (l : List ObjectArrival). get_or l i a) c.as_slice-item-items.ensures in
    let next : take (i + 1) came ≡ take i came ++ a ∷ [] = take_more came i a below ∙ ap (λ (x : ObjectArrival). take i came ++ x ∷ []) (sym is) in
    let test : c.eq.result ≡ is_of tag a = c.eq.ensures ∙ is_same a.kind in
    elim c.if-eq.branch [
      | then-eq+in_ok-put w ↦ record {
        ids = ap (λ (r : TagRows). r.ids) w.rows-is ∙ w.in_ok-put.ensures.ids ∙ ap (λ (l : List Id). with_id l a.id) c.loop-item.invariant.ids
            ∙ sym (ap tag_ids next ∙ tag-push (take i came) a (sym test ∙ w.if-eq.true));
        set = ap (λ (r : TagRows). r.set) w.rows-is ∙ w.in_ok-put.ensures.set ∙ sym (ap (λ (r : TagRows). r.ids) w.rows-is);
      }
      | else-eq w ↦ record {
        ids = ap (λ (r : TagRows). r.ids) w.rows-is ∙ c.loop-item.invariant.ids ∙ sym (ap tag_ids next ∙ other-push (take i came) a (sym test ∙ w.if-eq.false));
        set = ap (λ (r : TagRows). r.set) w.rows-is ∙ c.loop-item.invariant.set ∙ sym (ap (λ (r : TagRows). r.ids) w.rows-is);
      }
    ]
