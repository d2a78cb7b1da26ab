use Rattle.std.proofs.Common.{◌≡◌, ℕ, List, [], ◌∷◌, map, Option, None, Some, Result, Ok, Err, refl, ap, subst, sym, ◌∙◌}
use Rattle.std.specs.Prelude.{IfSome}
use Rattle.std.proofs.lemmas.Result.{err_from_is_err_and}
use Rattle.text_model.specs.Text.{Bytes}
use Rattle.text_model.specs.Fault.{Refusal}
use Rattle.text_model.proofs.Options.{none_some, some_is}
use Rattle.bridge_text.specs.Refusals.{refusal_value}
use Rattle.git_batch.specs.Arrivals.{AddsAll, refused}
use Rattle.git_batch.specs.StreamFaults as stream
use Rattle.git_batch.specs.StreamFaults.{IsFault}
use Rattle.git_batch.specs.declared.stream_fault.StreamFault.{StreamFault}
use Rattle.git_batch.specs.declared.stream_fault.StreamFault.TheVariants.{Refused, Read, Memory}
use Rattle.git_model.specs.Stream.{Placed, stream_reading}
use Rattle.pull_outcome.specs.Refused.{IsRefusedBy, FaultCause, stream_refused}
use Rattle.text_model.specs.Lists.{Each}
use Rattle.text_model.proofs.EachLemmas.{Each-weaker}
use Rattle.git_model.specs.Object.{Object, objects_after_all}
use Rattle.git_model.specs.Unfold.{walk_fault}
use Rattle.git_store.specs.Growth.{IsThere, IsWithin}
use Rattle.git_store.specs.Known.{AreKnown}
use Rattle.tree_shape.specs.Laws.{IsKnown}
use Rattle.view_model.specs.View.{CommitView, Row, commit_id}
use Rattle.pair_model.specs.Block.{Block, commits_in}
use Rattle.pair_known.specs.Blocks.{IsHistoryHeld}
use Rattle.pair_known.specs.declared.known.Known.{Known}
use Rattle.pair_state.specs.Blocks.{IsAgreed, body_blob}
use Rattle.history_model.specs.Pull.{objects_among}
use Rattle.pull_stream.proofs.Growth.{grown, each-placed}
use Rattle.git_view.proofs.WalkGrowth.{walk-on, commits-on}
use Rattle.pull_stream.proofs.Names.{stream-named}
use Rattle.pull_stream.proofs.objects.read_objects.Goals as goal

-- of the commits what holds of the blocks
each_commit : (P : CommitView → Type 0) (blocks : List Block) → Each (λ b. P b.commit) blocks → Each P (commits_in blocks)
each_commit P [] all = tt
each_commit P (b ∷ blocks) all = (all.0, each_commit P blocks all.1)

-- what was held stays held by a store that has grown
module _ (k : Known) (new : List Object) (within : IsWithin k.git new) (are : AreKnown k.git) (are_new : AreKnown new) where
  abbrev grown-known : Known
  grown-known = record { hg = k.hg; git = new; partners = k.partners }

  history-on : (blocks : List Block) → IsHistoryHeld k blocks → IsHistoryHeld grown-known blocks
  history-on blocks h =
      let old = k.git in record {
        held = record {
          changesets = (h.held).changesets;
          commits =
              commits-on old new within are are_new (map commit_id (commits_in blocks)) (commits_in blocks)
              (each_commit (λ v. walk_fault old (v.value).tree_id ≡ None) blocks (h.held).walks) (h.held).commits;
          walks =
              Each-weaker (λ (b : Block). walk_fault old ((b.commit).value).tree_id ≡ None) (λ (b : Block). walk_fault new ((b.commit).value).tree_id ≡ None)
              (λ b w. walk-on old new within are ((b.commit).value).tree_id w) blocks (h.held).walks;
          partners = (h.held).partners;
        };
        no_links = h.no_links;
        added = h.added;
        partners = h.partners;
      }

  agreed-on : (node : _) → IsAgreed k.hg k.git node → IsAgreed k.hg new node
  agreed-on node a = record {
    view = a.view;
    held = a.held;
    blobs =
        Each-weaker (λ (row : Row). IsKnown k.git (body_blob row)) (λ (row : Row). IsKnown new (body_blob row))
        (λ row h. within (body_blob row).id (body_blob row) h) (a.view).rows a.blobs;
  }

pub returns-clause-ready : goal.returns-clause-ready
returns-clause-ready g c = λ blocks all.
    let k = c.args.state.known in
    let new = c.in_ok-git.git in
    let b = c.in_ok-git.ensures.brought in
    let same : c.replace-git.result ≡ k.git = c.replace-git.ensures.value in
    let after : new ≡ objects_after_all k.git (objects_among b.objects) = b.holds ∙ ap (λ (os : List Object). objects_after_all os (objects_among b.objects)) same in
    let more = grown k.git b.objects (subst (λ (os : List Object). AddsAll os (objects_among b.objects)) same b.adds) in
    let within : IsWithin k.git new = subst (IsWithin k.git) (sym after) more.kept in
    let state = all.state in
    let are : AreKnown new = c.in_ok-git.ensures.known (subst AreKnown (sym same) state.sound) in (
      b.objects,
      record {
        state = record {
          state = record {
            held = history-on k new within state.sound are blocks state.held;
            sound = are;
            blocks_are = state.blocks_are;
            changesets = state.changesets;
            commits = state.commits;
            agreed = λ node has. agreed-on k new within state.sound are node (state.agreed node has);
          };
          saved = all.saved;
        };
        revisions = refl;
        objects = after;
        listed = b.listed;
        held = each-placed (IsThere new) b.objects (subst (λ (os : List Object). Each (IsThere os) (objects_among b.objects)) (sym after) more.added);
      },
      subst (λ (os : List Object). IfSome (g.S.Source.left c.args.src.now) (λ bytes. stream_reading os bytes ≡ Ok b.objects)) same b.reads,
    )

-- ---- faults

refused-as : (o : Option Bytes) (known : List Object) (e : StreamFault) → IfSome o (λ bytes. IsFault (refused (stream_reading known bytes)) e)
    → IfSome o (λ bytes. IsRefusedBy (λ why. stream_reading known bytes ≡ Err why) (stream_refused e))
refused-as None known e h = tt
refused-as (Some bytes) known Read h = tt
refused-as (Some bytes) known Memory h = tt
refused-as (Some bytes) known (Refused why) h = by (stream_reading known bytes) h
  where
    by : (r : Result (List Placed) Refusal) → refused r ≡ Some (refusal_value why) → r ≡ Err (refusal_value why)
    by (Ok placed) is = absurd (none_some is)
    by (Err it) is = ap (λ (x : Refusal). Err x) (some_is is)

cause-as : (before now : ℕ) (e : StreamFault) → stream.FaultCause before now e → FaultCause before now (stream_refused e)
cause-as before now (Refused why) h = h
cause-as before now Read h = h
cause-as before now Memory h = h

pub returns-in_err-git-clause-refused : goal.returns-in_err-git-clause-refused
returns-in_err-git-clause-refused g c =
    let p = err_from_is_err_and c.from_residual.result c.from_residual.ensures.1 in
    let e = c.in_err-git.field-0.0 in
    rw (p.1, p.2)
    (refused-as (g.S.Source.left c.args.src.now) c.args.state.known.git e
    (subst (λ (os : List Object). IfSome (g.S.Source.left c.args.src.now) (λ bytes. IsFault (refused (stream_reading os bytes)) e)) c.replace-git.ensures.value c.in_err-git.ensures.reads))

pub returns-in_err-git-clause-cause : goal.returns-in_err-git-clause-cause
returns-in_err-git-clause-cause g c =
    let p = err_from_is_err_and c.from_residual.result c.from_residual.ensures.1 in
    rw (p.1, p.2) (cause-as _ _ c.in_err-git.field-0.0 c.in_err-git.ensures.cause)

pub returns-in_err-git-clause-fault_names : goal.returns-in_err-git-clause-fault_names
returns-in_err-git-clause-fault_names g c =
    let p = err_from_is_err_and c.from_residual.result c.from_residual.ensures.1 in
    rw (p.1, p.2) (stream-named c.in_err-git.field-0.0 c.in_err-git.ensures.names)
