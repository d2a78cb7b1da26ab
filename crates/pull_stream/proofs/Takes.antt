-- A commit is taken, or refused over the blocks before it.
use Rattle.std.proofs.Common.{◌≡◌, List, [], ◌∷◌, inl, inr, refl}
use Rattle.std.specs.Prelude.{IsTrue}
use Rattle.text_model.specs.Id.{Id}
use Rattle.text_model.specs.Fault.{FaultName}
use Rattle.text_model.specs.Fault as fault
use Rattle.text_model.proofs.EachLemmas.{Each-front, Each-rest}
use Rattle.view_model.specs.View.{CommitView, ChangesetView, ChangesetFits}
use Rattle.pair_model.specs.Block.{Block}
use Rattle.pair_model.specs.Octopus.{links_of}
use Rattle.partner_model.specs.Clash.{changeset_side_collides}
use Rattle.partner_model.specs.Given.{block_with}
use Rattle.partner_model.specs.Partner.{IsHeldView}
use Rattle.pair_known.specs.Ruled.{HasManifestParents}
use Rattle.pair_known.specs.declared.hg_block.HgBlock.{HgBlock}
use Rattle.pair_known.specs.declared.git_draft.GitDraft.{GitDraft}
use Rattle.pair_choice.specs.Chosen.{IsChosenBlock, CommitRefuses}
use Rattle.pair_known.specs.declared.choice_fault.ChoiceFault.{ChoiceFault}
use Rattle.pair_known.specs.declared.choice_fault.ChoiceFault.TheVariants as choice
use Rattle.pair_state.specs.declared.state_parts.StateParts.{StateParts}
use Rattle.pair_state.specs.declared.fault.PushFault.{PushFault}
use Rattle.pair_state.specs.declared.fault.PushFault.TheVariants as push
use Rattle.pair_state.specs.Push.{PushesChangeset, ChangesetPushed}
use Rattle.pair_state.proofs.AllBlocks.{all-pushed}
use Rattle.pair_state.proofs.Referred.{files-late-is, manifest-late-is}
use Rattle.history_model.specs.Pull.{ChangesetsFit, BlockRefused, FilesRefused, CommitRefused}
use Rattle.pull_outcome.specs.declared.take_fault.TakeFault.{TakeFault}
use Rattle.pull_outcome.specs.declared.take_fault.TakeFault.TheVariants.{Refused, Memory}
use Rattle.pull_outcome.specs.Takes.{IsTakeFault, choice_refused, push_refused}
use Rattle.pull_stream.specs.Late.{AreFilesInTime, IsLate}
use Rattle.pull_stream.specs.Taken.{TakesCommit, IsDraftFor, CommitTaken}
use Rattle.pull_stream.proofs.LateParents.{late-refused, clash-refused}
use Rattle.pull_stream.proofs.Linked.{linked}
use Rattle.pull_stream.proofs.Links.{short, few-links, link-parts}

weaker : (P Q : FaultName → Type 0) → ((name : FaultName) → P name → Q name) → (f : TakeFault) → IsTakeFault P f → IsTakeFault Q f
weaker P Q h (Refused why) due = h _ due
weaker P Q h Memory due = tt

module _ (s : StateParts) (id : Id) (blocks : List Block) (d : GitDraft) (v : CommitView) (f : IsDraftFor s id blocks d v) where
  abbrev Refuses : FaultName → Type 0
  Refuses name = CommitRefused s.known.hg s.known.git blocks id name

  files-refused : (name : FaultName) → FilesRefused s.known.hg s.known.git blocks v name → Refuses name
  files-refused name r = inr (v, f.held, f.walks, r)

  pub choice-refused : (e : ChoiceFault) → CommitRefuses s.known blocks v e → IsTakeFault Refuses (choice_refused e)
  choice-refused choice.PathClash due = absurd due
  choice-refused choice.ParentIsLink due = absurd due
  choice-refused choice.NestLimit due = files-refused fault.NestLimit (inr (due.0, inl (due.1, refl)))
  choice-refused choice.PairLimit due = files-refused fault.PairLimit (inr (due.0, inr (due.1, (block_with blocks due.2 v, (due.2, due.3, refl), inl (due.4, refl)))))
  choice-refused choice.Collision due = files-refused fault.Collision (inl (due, refl))
  choice-refused choice.Memory due = tt

  -- ---- the block that was chosen

  module _ (takes : TakesCommit s id blocks) (made : HgBlock) (h : ChangesetView) (chosen : IsChosenBlock s.known blocks v made h) where
    abbrev block : Block
    block = block_with blocks h v

    block-refused : (name : FaultName) → BlockRefused (¬ (ChangesetsFit block)) (IsTrue (changeset_side_collides s.known.hg blocks block)) blocks block name → Refuses name
    block-refused name r = files-refused name (inr (chosen.apart, inr (chosen.not_deep, (block, (h, chosen.partner, refl), r))))

    small : ¬ (¬ (ChangesetsFit block))
    small large = large chosen.fits

    late-named : (name : FaultName) → IsLate s.known.hg h name → Refuses name
    late-named name late = block-refused name (late-refused s blocks takes.state block (¬ (ChangesetsFit block)) (IsTrue (changeset_side_collides s.known.hg blocks block)) small name late)

    pub late-due : (e : TakeFault) → IsTakeFault (IsLate s.known.hg h) e → IsTakeFault Refuses e
    late-due e due = weaker (IsLate s.known.hg h) Refuses late-named e due

    module _ (files : AreFilesInTime s.known.hg h) (manifest : HasManifestParents s.known.hg h.manifest) where
      pub pushes : PushesChangeset s made id blocks block
      pushes = record {
        brings = record {
          state = takes.state.state;
          links = link-parts s.known blocks d v f.over made.links chosen.links (Each-front ChangesetFits (links_of blocks v) (h ∷ []) chosen.fits);
          last = record {
            made = chosen.made;
            file_parents = files;
            manifest_parents = manifest;
            fits = short h (Each-rest ChangesetFits (links_of blocks v) (h ∷ []) chosen.fits).0;
          };
          parents = linked s.known blocks d v f.over (IsHeldView s.known.hg) h chosen.partner chosen.strict;
          few = few-links blocks v (f.over).view.few;
          no_link = chosen.no_link;
        };
        held = f.held;
        walks = f.walks;
        free = takes.free;
      }

      pub push-refused : (e : PushFault) → (e ≡ push.Collision → IsTrue (changeset_side_collides s.known.hg blocks block)) → IsTakeFault Refuses (push_refused e)
      push-refused push.Collision clash =
          block-refused fault.Collision
          (clash-refused s blocks takes.state block (¬ (ChangesetsFit block)) (IsTrue (changeset_side_collides s.known.hg blocks block)) small files manifest (clash refl))
      push-refused push.Memory clash = tt

      pub taken : (next : StateParts) → ChangesetPushed s next blocks block → (b : Block) × CommitTaken s next id blocks b
      taken next p = (
        block,
        record {
          gives = record {
            view = v;
            is_held = f.held;
            walks = f.walks;
            passes = record {
              no_collision = chosen.apart;
              not_deep = chosen.not_deep;
              block = (h, chosen.partner, refl);
              fits = chosen.fits;
              files_in_time = (files-late-is s blocks takes.state h.rows).1 files;
              manifest_in_time = (manifest-late-is s blocks takes.state h.manifest).1 manifest;
              apart = p.apart;
            };
          };
          id_is = f.id_is;
          state = all-pushed s next blocks blocks block takes.state takes.state.state p.state p.revisions;
          revisions = p.revisions;
          objects = p.objects;
          tags = p.tags;
          names = p.names;
        },
      )
