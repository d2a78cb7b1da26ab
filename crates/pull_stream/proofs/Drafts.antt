-- The draft of a commit, or why it is refused.
use Rattle.std.proofs.Common.{◌≡◌, ◌⊎◌, List, Option, Some, None, inl, inr, sym, ap, subst, ◌∙◌}
use Rattle.std.specs.Prelude.{option_map, IsSomeAnd}
use Rattle.text_model.specs.Id.{Id}
use Rattle.text_model.specs.Fault.{FaultName}
use Rattle.text_model.specs.Fault as fault
use Rattle.git_model.specs.Commit.{Commit}
use Rattle.git_model.specs.Object.{Object}
use Rattle.git_model.specs.Unfold.{WalkFault, walk_fault}
use Rattle.text_model.proofs.Options.{none_some, some_is}
use Rattle.git_store.specs.Known.{IsCommitAt}
use Rattle.git_view.proofs.Held.{commit-at, commit-is_held, held-id}
use Rattle.git_view.proofs.Right.{held-is_view}
use Rattle.tree_shape.specs.declared.fault.TreeFault.{TreeFault}
use Rattle.tree_shape.specs.declared.fault.TreeFault.TheVariants as tree
use Rattle.tree_shape.specs.Faults.{IsTreeFault}
use Rattle.view_model.specs.View.{CommitView}
use Rattle.view_model.specs.Held.{IsCommitHeld}
use Rattle.pair_model.specs.Block.{Block}
use Rattle.pair_known.specs.declared.git_draft.GitDraft.{GitDraft}
use Rattle.pair_known.specs.GitDrafts.{IsGitDraft}
use Rattle.pair_known.proofs.HeldCommits.{held-at}
use Rattle.pair_state.specs.declared.state_parts.StateParts.{StateParts}
use Rattle.history_model.specs.Pull.{WalkRefused, CommitRefused}
use Rattle.pull_outcome.specs.Takes.{IsTakeFault, tree_refused}
use Rattle.pull_stream.specs.Taken.{TakesCommit, IsDraftFor}

-- ---- a walk that is refused

named : (why : Option WalkFault) (name : FaultName) → option_map (λ (w : WalkFault). w.name) why ≡ Some name → IsSomeAnd why (λ w. w.name ≡ name)
named None name h = absurd (none_some {x = name} h)
named (Some w) name h = some_is {x = w.name} {y = name} h

module _ (known : List Object) (id : Id) (v : Commit) (at : IsCommitAt known id v) where
  walk-named : (name : FaultName) → option_map (λ (w : WalkFault). w.name) (walk_fault known v.tree_id) ≡ Some name → WalkRefused known id name
  walk-named name h =
      let of = commit-at known id at.content at.held in record {
        object = of.object;
        is_held = of.at;
        value = v;
        text = (at.is.0, of.content_is ∙ at.is.1);
        fault = named (walk_fault known v.tree_id) name h;
      }

  walk-refused : (e : TreeFault) → IsTreeFault (walk_fault known v.tree_id) e → IsTakeFault (WalkRefused known id) (tree_refused e)
  walk-refused (tree.ObjectUnknown x) is = walk-named fault.ObjectUnknown (ap (option_map (λ (w : WalkFault). w.name)) is)
  walk-refused tree.PathUnfit is = walk-named fault.PathUnfit is
  walk-refused tree.Limit is = walk-named fault.PairLimit is
  walk-refused tree.Memory is = tt

module _ (s : StateParts) (id : Id) (blocks : List Block) where
  due : (e : TreeFault) → IsTakeFault (WalkRefused s.known.git id) (tree_refused e) → IsTakeFault (CommitRefused s.known.hg s.known.git blocks id) (tree_refused e)
  due (tree.ObjectUnknown x) is = inl is
  due tree.PathUnfit is = inl is
  due tree.Limit is = inl is
  due tree.Memory is = tt

  pub tree-refused : (e : TreeFault) → (e ≡ tree.Memory) ⊎ ((v : Commit) × IsCommitAt s.known.git id v) → ((v : Commit) → IsCommitAt s.known.git id v → IsTreeFault (walk_fault s.known.git v.tree_id) e)
      → IsTakeFault (CommitRefused s.known.hg s.known.git blocks id) (tree_refused e)
  tree-refused e (inl is) refused = subst (λ (x : TreeFault). IsTakeFault (CommitRefused s.known.hg s.known.git blocks id) (tree_refused x)) (sym is) tt
  tree-refused e (inr at) refused = due e (walk-refused s.known.git id at.0 at.1 e (refused at.0 at.1))

  -- ---- a commit with all its files

  module _ (x : Commit) (at : IsCommitAt s.known.git id x) (walks : walk_fault s.known.git x.tree_id ≡ None) where
    pub draft-is : (d : GitDraft) → TakesCommit s id blocks → ((c : CommitView) → IsCommitHeld s.known.git id c → IsGitDraft s.known.git d c) → (v : CommitView) × IsDraftFor s id blocks d v
    draft-is d takes draft =
        let are = takes.state.state.sound in
        let h = commit-is_held s.known.git are id x at walks in
        let on = ap (λ (v : Commit). walk_fault s.known.git v.tree_id) h.2 ∙ walks in (
          h.0,
          record {
            held = h.1;
            walks = on;
            id_is = held-id s.known.git are id h.0 h.1;
            over = record {
              history = takes.state.state.held;
              draft = draft h.0 h.1;
              view = held-is_view s.known.git are id h.0 h.1 on;
              parents = takes.parents (h.0).value (held-at s.known.git id h.0 h.1);
            };
          },
        )
