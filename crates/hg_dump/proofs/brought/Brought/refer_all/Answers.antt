use Rattle.std.proofs.Common.{◌≡◌, ◌+◌, ◌≤◌, true, List, length, take, map, sym, ap, subst, ◌∙◌, arith}
use Rattle.std.proofs.lemmas.List.{take_all}
use Rattle.std.proofs.lemmas.Option.{IfSome_then}
use Rattle.text_model.specs.Id.{Id, has_id}
use Rattle.text_model.specs.Lists.{Each}
use Rattle.text_model.proofs.Options.{not_false}
use Rattle.hg_model.specs.Manifest.{ManifestEntry}
use Rattle.hg_manifest.specs.declared.ahead.Ahead.{Ahead}
use Rattle.hg_store.specs.Views.{IsManifestOf}
use Rattle.view_model.specs.View.{ChangesetView}
use Rattle.view_model.specs.Held.{AreChangesetsHeld}
use Rattle.hg_dump.specs.Marks.{Met, IsMet, marks_of, marks_in, meets, file_mark, view_marks}
use Rattle.hg_dump.specs.declared.brought.Brought.{Brought}
use Rattle.hg_dump.specs.Held.{AreWalked}
use Rattle.hg_dump.specs.State.{StepsAfter, IsLineMet, referred_in}
use Rattle.hg_dump.proofs.HeldLemmas.{held-at, held-length, marks-push}
use Rattle.hg_dump.proofs.MeetLemmas.{meets-append, view-lines}
use Rattle.hg_dump.proofs.Walked.{walked-none, walked-put, walked-more, view-again, view-after}
use Rattle.hg_dump.proofs.brought.Brought.refer_all.Goals as goal
use Rattle.hg_dump.proofs.brought.Brought.refer_all.Goals.{then-branch+in_ok-refer_files, else-branch}

pub loop-node-init : goal.loop-node-init
loop-node-init c = record {
  steps = λ hs are s is lines. is;
  lines = λ hs are s lines. lines;
  manifest = c.requires.before;
  walked = λ hs are s lines. walked-none c.args.store.now c.new-walked.result (λ es. Each (IsLineMet s) es) c.new-walked.ensures;
  known = λ some. absurd (omega (arith, some));
}

pub of-walk-requires : goal.of-walk-requires
of-walk-requires c =
    let lines-is = subst (λ (es : List ManifestEntry). IsManifestOf c.args.store.now c.named_lines-manifest_node.result.0 es) (sym c.again.ensures) c.named_lines-manifest_node.ensures.manifest in
    IfSome_then c.newer-newer.result c.newer-newer.ensures (λ newer told. told c.again.result c.loop-node.previous lines-is c.loop-node.invariant.manifest)

pub named_lines-manifest_node-requires : goal.named_lines-manifest_node-requires
named_lines-manifest_node-requires c =
    let at = held-at c.args.store.now c.args.nodes.now c.requires.held.0 c.requires.held.1 c.loop-node.node-index c.node-item.result c.node-item.result c.loop-node-test.true c.node-item.is in
    record { held = (at.view, at.held) }

pub loop-node-preserved : goal.loop-node-preserved
loop-node-preserved c =
    let is_new = c.args.is_new in
    let known = c.args.store.now in
    let nodes = c.args.nodes.now in
    let node = c.node-item.result in
    let i = c.loop-node.node-index in
    let manifest_node = c.named_lines-manifest_node.result.0 in
    let es = c.named_lines-manifest_node.result.1 in
    let of = c.named_lines-manifest_node.ensures.manifest in
    let met : List ChangesetView → Met → Met = λ hs s. meets is_new s (marks_in (take i hs)) in
    let next : (hs : List ChangesetView) → AreChangesetsHeld known nodes hs → (s : Met) → meets is_new (met hs s) (view_marks node manifest_node es) ≡ meets is_new s (marks_in (take (i + 1) hs)) =
    λ hs are s.
    let at = held-at known nodes hs are i node node c.loop-node-test.true c.node-item.is in
    ap (meets is_new (met hs s)) (sym (c.named_lines-manifest_node.ensures.marks at.view at.held)) ∙ sym (meets-append is_new s (marks_in (take i hs)) (marks_of at.view)) ∙ ap (meets is_new s) (sym (marks-push hs i at.view at.at_place)) in
    let lines : (hs : List ChangesetView) → AreChangesetsHeld known nodes hs → (s : Met) → Each (IsLineMet (meets is_new s (marks_in (take (i + 1) hs)))) es =
    λ hs are s. subst (λ (t : Met). Each (IsLineMet t) es) (next hs are s) (view-lines is_new (met hs s) node manifest_node es) in
    let walked : (hs : List ChangesetView) → AreChangesetsHeld known nodes hs → (s : Met) → Each (IsLineMet s) c.args.previous → AreWalked known c.insert.new.self (λ ls. Each (IsLineMet (meets is_new s (marks_in (take (i + 1) hs)))) ls) =
    λ hs are s before.
    let so_far = subst (λ (t : Met). AreWalked known c.loop-node.walked (λ ls. Each (IsLineMet t) ls)) (next hs are s)
    (walked-more known c.loop-node.walked is_new (met hs s) (view_marks node manifest_node es) (c.loop-node.invariant.walked hs are s before)) in
    walked-put known c.loop-node.walked (λ ls. Each (IsLineMet (meets is_new s (marks_in (take (i + 1) hs)))) ls) manifest_node es c.insert.new.self c.in_ok-insert.field-0 c.in_ok-insert.ensures.ok so_far of (lines hs are s) in
    let met-next : (hs : List ChangesetView) → AreChangesetsHeld known nodes hs → (s : Met) → IsMet s (referred_in c.args.self.now) → Each (IsLineMet s) c.args.previous → IsMet (meets is_new (met hs s) (view_marks node manifest_node es)) (referred_in c.if-branch.self) =
    λ hs are s is before.
    let so_far = c.loop-node.invariant.steps hs are s is before in
    elim c.if-branch.branch [
      | then-branch+in_ok-refer_files w ↦
          let files : StepsAfter c.loop-node.previous is_new (map (file_mark node) es) c.refer_own.new.self w.refer_files.new.self =
          subst (λ (ls : List ManifestEntry). StepsAfter c.loop-node.previous is_new (map (file_mark node) ls) c.refer_own.new.self w.refer_files.new.self) w.again.ensures
          (subst (λ (walk : Ahead). StepsAfter walk.other is_new (map (file_mark node) walk.lines) c.refer_own.new.self w.refer_files.new.self) w.of-walk.ensures w.in_ok-refer_files.ensures) in
          subst (λ (b : Brought). IsMet (meets is_new (met hs s) (view_marks node manifest_node es)) (referred_in b)) (sym w.self-is)
          (view-after is_new (met hs s) node manifest_node es c.loop-node.self c.refer_own.new.self so_far c.in_ok-refer_own.ensures c.loop-node.previous w.refer_files.new.self (c.loop-node.invariant.lines hs are s before) files)
      | else-branch w ↦
          let has : has_id c.loop-node.walked manifest_node ≡ true = not_false (has_id c.loop-node.walked manifest_node) (sym c.in_ok-insert.ensures.new ∙ w.if-branch.false) in
          subst (λ (b : Brought). IsMet (meets is_new (met hs s) (view_marks node manifest_node es)) (referred_in b)) (sym w.self-is)
          (view-again is_new (met hs s) node manifest_node es c.loop-node.self c.refer_own.new.self so_far c.in_ok-refer_own.ensures (c.loop-node.invariant.walked hs are s before manifest_node es has of))
    ] in
    let previous-is : c.if-branch.previous ≡ es = elim c.if-branch.branch [ then-branch+in_ok-refer_files w ↦ w.previous-is | else-branch w ↦ w.previous-is ] in
    let before-is : c.if-branch.before ≡ manifest_node = elim c.if-branch.branch [ then-branch+in_ok-refer_files w ↦ w.before-is | else-branch w ↦ w.before-is ] in
    record {
      steps = λ hs are s is before. subst (λ (t : Met). IsMet t (referred_in c.if-branch.self)) (next hs are s) (met-next hs are s is before);
      lines = λ hs are s before. subst (λ (ls : List ManifestEntry). Each (IsLineMet (meets is_new s (marks_in (take (i + 1) hs)))) ls) (sym previous-is) (lines hs are s);
      walked = walked;
      manifest = subst (λ (m : Id). IsManifestOf known m c.if-branch.previous) (sym before-is) (subst (IsManifestOf known manifest_node) (sym previous-is) of);
      known = λ some. c.named_lines-manifest_node.ensures.known;
    }

pub returns-clause-steps : goal.returns-clause-steps
returns-clause-steps c = λ hs are.
    let i = c.loop-node.node-index in
    let whole : length hs ≤ i = omega (arith, held-length c.args.store.now c.args.nodes.now hs are) in
    subst (λ (xs : List ChangesetView). StepsAfter c.args.previous c.args.is_new (marks_in xs) c.args.self.now c.loop-node.self) (take_all i hs whole) (c.loop-node.invariant.steps hs are)

pub returns-clause-known : goal.returns-clause-known
returns-clause-known c = λ some. c.loop-node.invariant.known (omega (arith, some))
