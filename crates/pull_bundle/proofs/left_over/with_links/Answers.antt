use Rattle.std.proofs.Common.{◌≡◌, ◌+◌, ◌⊎◌, List, [], ◌++◌, map, length, take, take_all, true, true≢false, ap, sym, subst, ◌∙◌, arith, append-nil, append_assoc}
use Rattle.std.specs.Prelude.{slice_get}
use Rattle.std.proofs.lemmas.List.{length-map}
use Rattle.text_model.specs.Id.{Id, has_id}
use Rattle.hg_model.specs.Reading as model
use Rattle.hg_bundle.specs.declared.arrival.Arrival.{Arrival}
use Rattle.hg_bundle.specs.Arrivals.{arrival_of}
use Rattle.hg_dump.specs.Refers.{RefersTo, AreNamedBy}
use Rattle.hg_dump.specs.declared.refers.Refers.{Refers}
use Rattle.pull_bundle.specs.LeftOver.{NameMore, NamesManifest}
use Rattle.pull_bundle.proofs.ArrivalLemmas.{IsAt, entry-at}
use Rattle.pull_bundle.proofs.LinkNames.{AreOfLinks, of-none, of-skip, of-next, name-none, name-skip, name-next, name-again}
use Rattle.pull_bundle.proofs.left_over.with_links.Goals as goal
use Rattle.pull_bundle.proofs.left_over.with_links.Goals.{then-dangles+in_ok-is_first_of_manifest+then-branch+in_ok-add_named, else-dangles, else-dangles-via-then-dangles+in_ok-is_first_of_manifest+else-branch, else-dangles-via-else-dangles}

pub loop-place-init : goal.loop-place-init
loop-place-init c = record {
  named = λ blocks came rs state are to. ([], name-none c.args.state.now.known.hg blocks, subst (RefersTo c.args.referred) (sym (append-nil rs)) to);
  manifests = λ blocks came state are. of-none c.args.state.now.known.hg blocks c.new-manifests.result c.new-manifests.ensures;
}

pub loop-place-preserved : goal.loop-place-preserved
loop-place-preserved c =
    let i = c.loop-place.place in
    let known = c.args.state.now.known.hg in
    let before = c.loop-place.manifests in
    let entry-of : (came : List model.Arrival) → c.args.arrivals.now ≡ map arrival_of came → IsAt came i c.at-arrival.result.now =
    λ came are. entry-at came i c.at-arrival.result.now (ap (λ (l : List Arrival). slice_get l i) (sym are) ∙ c.at-arrival.ensures) in
    elim c.if-dangles.branch [
      | then-dangles+in_ok-is_first_of_manifest+then-branch+in_ok-add_named w ↦ record {
        named = λ blocks came rs state are to.
            let e = entry-of came are in
            let n = c.loop-place.invariant.named blocks came rs state are to in
            let a = w.in_ok-add_named.ensures (rs ++ n.0) n.2 in (
              n.0 ++ a.0,
              name-next known blocks came i e.entry e.at n.0 n.1 ((c.dangles.ensures blocks e.entry state e.is).0 w.if-dangles.true) a.0 (subst (λ (m : Id). AreNamedBy known m a.0) (ap (λ (x : Arrival). x.node) e.is) a.1),
              subst (λ (r : Refers). RefersTo r (rs ++ (n.0 ++ a.0))) (sym w.next-is) (subst (RefersTo w.add_named.new.self) (append_assoc rs n.0 a.0) a.2),
            );
        manifests = λ blocks came state are.
            let e = entry-of came are in
            subst (AreOfLinks known blocks (take (i + 1) came)) (sym w.manifests-is)
            (of-next known blocks came i e.entry e.at before (c.loop-place.invariant.manifests blocks came state are) ((c.dangles.ensures blocks e.entry state e.is).0 w.if-dangles.true) w.is_first_of_manifest.new.manifests
            (λ m h. subst (λ (node : Id). (has_id before m ≡ true) ⊎ NamesManifest known node m) (ap (λ (x : Arrival). x.node) e.is) (w.in_ok-is_first_of_manifest.ensures.named m h)));
      }
      | else-dangles w ↦ elim w.else-dangles.branch [
        | else-dangles-via-then-dangles+in_ok-is_first_of_manifest+else-branch v ↦ record {
          named = λ blocks came rs state are to.
              let e = entry-of came are in
              let n = c.loop-place.invariant.named blocks came rs state are to in (
                n.0,
                name-again known blocks came i e.entry e.at n.0 n.1 before (c.loop-place.invariant.manifests blocks came state are)
                    (λ m names. v.in_ok-is_first_of_manifest.ensures.again v.if-branch.false m (subst (λ (node : Id). NamesManifest known node m) (sym (ap (λ (x : Arrival). x.node) e.is)) names)),
                subst (λ (r : Refers). RefersTo r (rs ++ n.0)) (sym w.next-is) n.2,
              );
          manifests = λ blocks came state are.
              let e = entry-of came are in
              subst (AreOfLinks known blocks (take (i + 1) came)) (sym (w.manifests-is ∙ v.manifests-is))
              (of-next known blocks came i e.entry e.at before (c.loop-place.invariant.manifests blocks came state are) ((c.dangles.ensures blocks e.entry state e.is).0 v.if-dangles.true) v.is_first_of_manifest.new.manifests
              (λ m h. subst (λ (node : Id). (has_id before m ≡ true) ⊎ NamesManifest known node m) (ap (λ (x : Arrival). x.node) e.is) (v.in_ok-is_first_of_manifest.ensures.named m h)));
        }
        | else-dangles-via-else-dangles v ↦ record {
          named = λ blocks came rs state are to.
              let e = entry-of came are in
              let n = c.loop-place.invariant.named blocks came rs state are to in (
                n.0,
                name-skip known blocks came i e.entry e.at n.0 n.1 (λ d. true≢false (sym ((c.dangles.ensures blocks e.entry state e.is).1 d) ∙ v.if-dangles.false)),
                subst (λ (r : Refers). RefersTo r (rs ++ n.0)) (sym w.next-is) n.2,
              );
          manifests = λ blocks came state are.
              let e = entry-of came are in
              subst (AreOfLinks known blocks (take (i + 1) came)) (sym (w.manifests-is ∙ v.manifests-is))
              (of-skip known blocks came i e.entry e.at before (c.loop-place.invariant.manifests blocks came state are));
        }
      ]
    ]

pub returns : goal.returns
returns c = λ blocks came rs state are to.
    let n = c.loop-place.invariant.named blocks came rs state are to in
    let all = take_all c.loop-place.place came (omega (arith, length-map came arrival_of, ap length are, c.len-place-end.ensures, c.loop-place-test.false)) in
    (n.0, subst (λ (l : List model.Arrival). NameMore c.args.state.now.known.hg blocks l n.0) all n.1, n.2)
