-- The lines of a state are those of its history.
use Rattle.std.proofs.Common.{◌≡◌, ◌-◌, ℕ, List, map, length, slice_get, Option, Some, None, option_map, unwrap_or, refl, sym, ap, subst, ◌∙◌}
use Rattle.std.specs.Prelude.{count_by}
use Rattle.std.proofs.lemmas.List.{length-map}
use Rattle.std.proofs.lemmas.Option.{slice_get-map}
use Rattle.text_model.specs.Id.{Id, null}
use Rattle.git_model.specs.Object.{Object}
use Rattle.view_model.specs.View.{CommitView, changeset_node}
use Rattle.view_model.specs.Held.{AreCommitsHeld}
use Rattle.pair_model.specs.Block as model
use Rattle.pair_model.specs.Block.{node_of, id_of, changesets_in, commits_in}
use Rattle.dump_law.proofs.Blocks.{ids-blocks}
use Rattle.state_model.specs.Kept.{State}
use Rattle.command_model.specs.Made.{is_marked, last_block, id_or_null, made_lines}
use Rattle.pair_state.specs.declared.blocks.Block.{Block}
use Rattle.pair_state.specs.declared.state_parts.StateParts.{StateParts}
use Rattle.pair_state.specs.Blocks.{BlockValue, value_of, block_value}
use Rattle.state_text.specs.Stands.{Stands}
use Rattle.make_engine.specs.Lines.{last_ids, lines_with}

-- ---- the last block

module _ (pairs : List Block) (blocks : List model.Block) (are : map value_of pairs ≡ map block_value blocks) where
  pub same-length : length pairs ≡ length blocks
  same-length = sym (length-map pairs value_of) ∙ ap length are ∙ length-map blocks block_value

  last-same : option_map value_of (slice_get pairs (length pairs - 1)) ≡ option_map block_value (last_block blocks)
  last-same =
      sym (slice_get-map value_of pairs (length pairs - 1)) ∙ (λ i. slice_get (are i) (same-length i - 1)) ∙ slice_get-map block_value blocks (length blocks - 1)

  of-pair : (of : BlockValue → Id) (o : Option Block) → unwrap_or (option_map (λ b. of (value_of b)) o) null ≡ unwrap_or (option_map of (option_map value_of o)) null
  of-pair of None = refl
  of-pair of (Some b) = refl

  of-block : (of : BlockValue → Id) (o : Option model.Block) → unwrap_or (option_map of (option_map block_value o)) null ≡ id_or_null (λ b. of (block_value b)) o
  of-block of None = refl
  of-block of (Some b) = refl

  last-is : (of : BlockValue → Id) → unwrap_or (option_map (λ b. of (value_of b)) (slice_get pairs (length pairs - 1))) null ≡ id_or_null (λ b. of (block_value b)) (last_block blocks)
  last-is of = of-pair of (slice_get pairs (length pairs - 1)) ∙ ap (λ (o : Option BlockValue). unwrap_or (option_map of o) null) last-same ∙ of-block of (last_block blocks)

  pub last-node : (last_ids pairs).0 ≡ id_or_null node_of (last_block blocks)
  last-node = last-is (λ v. v.node)

  pub last-commit : (last_ids pairs).1 ≡ id_or_null id_of (last_block blocks)
  last-commit = last-is (λ v. v.commit)

-- ---- all lines

module _ (s : StateParts) (m : State) (stands : Stands s m) where
  commits-held : AreCommitsHeld s.known.git s.commits (commits_in m.blocks)
  commits-held =
      let st = stands.blocks.state in
      subst (λ (ids : List Id). AreCommitsHeld s.known.git ids (commits_in m.blocks)) (ids-blocks m.blocks ∙ sym st.commits) st.held.held.commits

  pub lines-are : (changesets commits marked : ℕ) (last : Id × Id) (git : List Object) (ids : List Id) → changesets ≡ length s.changesets → git ≡ s.known.git → ids ≡ s.commits → commits ≡ length ids
      → ((cs : List CommitView) → AreCommitsHeld git ids cs → marked ≡ count_by is_marked cs) → last ≡ last_ids s.blocks → lines_with changesets commits marked last ≡ made_lines m.blocks
  lines-are changesets commits marked last git ids changesets-is git-is ids-is commits-is counted last-is =
      let st = stands.blocks.state in
      let a = changesets-is ∙ ap length st.changesets ∙ length-map (changesets_in m.blocks) changeset_node in
      let b = commits-is ∙ ap length (ids-is ∙ st.commits) ∙ length-map m.blocks id_of ∙ sym (length-map m.blocks (λ x. x.commit)) in
      let c = counted (commits_in m.blocks) (subst (λ (p : List Object × List Id). AreCommitsHeld p.0 p.1 (commits_in m.blocks)) (λ i. (sym git-is i, sym ids-is i)) commits-held) in
      let d = last-is ∙ (λ i. (last-node s.blocks m.blocks st.blocks_are i, last-commit s.blocks m.blocks st.blocks_are i)) in
      (λ i. lines_with (a i) (b i) (c i) (d i))
