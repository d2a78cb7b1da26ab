-- What the sections say of the whole text, as far as they have been read.
use Rattle.std.proofs.Common.{◌≡◌, ◌≢◌, ◌≤◌, ℕ, ◌+◌, Bool, true, false, List, [], ◌∷◌, ◌++◌, length, map, refl, sym, ap, subst, ◌∙◌, append_assoc, arith}
use Rattle.std.specs.Prelude.{Result, Err, IfErr, Option, None, ok_or}
use Rattle.std.proofs.lemmas.List.{length-map}
use Rattle.text_model.specs.Text.{Bytes}
use Rattle.text_model.specs.Id.{Id}
use Rattle.git_model.specs.Tree.{has_distinct}
use Rattle.git_model.specs.Object.{Object}
use Rattle.view_model.specs.View.{ChangesetView, CommitView, changeset_node, commit_id}
use Rattle.pair_model.specs.Block.{id_of}
use Rattle.pair_model.specs.Octopus.{is_link_view}
use Rattle.state_model.specs.Limits.{slot_limit}
use Rattle.state_model.specs.Kept.{State, Kept, NameRow}
use Rattle.state_model.specs.Text.{Sections, sections_of, state_text, text_up_to, no_links}
use Rattle.state_model.specs.Names.{Targets, targets_in, targets_of, AreNames}
use Rattle.state_model.specs.Saved.{AreDumped, AreCommitsSaved, AreTagsSaved, IsShapeFault, IsStateText, SectionsHold}
use Rattle.name_model.specs.Targets.{AreTargets}
use Rattle.dump_law.proofs.Blocks.{ids-blocks}
use Rattle.dump_law.proofs.Names.{targets-same, targets-are}
use Rattle.state_part.specs.Form.{head_line, IsEnd, IsHeadFault}
use Rattle.state_part.specs.declared.head.HeadFault.{HeadFault}
use Rattle.state_part.specs.declared.head.HeadFault.TheVariants.{OtherVersion, Shape}
use Rattle.state_text.specs.declared.fault.StateFault.{StateFault}
use Rattle.state_text.specs.Faults.{IsStateFault, head_refused}
use Rattle.hg_section.specs.declared.section.HgSection.{HgSection}
use Rattle.hg_section.specs.Section.{HoldsChangesets}
use Rattle.git_section.specs.declared.section.GitSection.{GitSection}
use Rattle.tag_section.specs.declared.tags.TagSection.{TagSection}
use Rattle.tag_section.specs.Tags.{HoldsTags}
use Rattle.pair_state.specs.declared.blocks.Block as pair
use Rattle.state_text.specs.declared.heads.Head.{Head}
use Rattle.state_text.specs.Heads.{heads_of}
use Rattle.state_text.specs.Sections.{hg_text, NoHg, HasHg, NoGit, HasGit, NoTags, HasTags, HasNames, paired, pairs_text, names_text, targets_read}
use Rattle.state_text.specs.Whole.{block_in, AreSectionsOf}
use Rattle.state_text.proofs.BlockLemmas.{Made, blocks-made, head_in, heads-blocks, paired-blocks, partners-blocks, nodes-once, ids-once, pairs-section, map_text_of}
use Rattle.state_text.proofs.SectionLemmas.{IsRead, read-first, read-more}
use Rattle.state_text.proofs.Shapes.{shape-0, shape-1, shape-2, shape-3, shape-4, shape-5}

-- there are as many heads as changesets that are no links
heads-length : (n : ℕ) (hs : List ChangesetView) → length (heads_of n hs) ≡ length (no_links hs)
unfolding heads_of
heads-length n [] = refl
heads-length n (h ∷ hs) = by (is_link_view h) refl (heads-length (n + 1) hs) (heads-length 0 hs)
  where
    by : (t : Bool) → is_link_view h ≡ t → length (heads_of (n + 1) hs) ≡ length (no_links hs) → length (heads_of 0 hs) ≡ length (no_links hs) → length (heads_of n (h ∷ hs)) ≡ length (no_links (h ∷ hs))
    by true e more other = rw e more
    by false e more other = rw e (omega (arith, other))

-- ---- why the whole text is refused

-- what a `?` gives back
pub err-is : {T : Type 0} (r : Result T StateFault) (text : Bytes) (e why : StateFault) → r ≡ Err e → e ≡ why → IsStateFault text why → IfErr r (IsStateFault text)
err-is {T} r text e why is same h = subst (λ (x : Result T StateFault). IfErr x (IsStateFault text)) (sym is) (subst (IsStateFault text) (sym same) h)

-- the fault that stands for what wasn't found
pub refused-by : {T : Type 0} (found : Option T) (e why : StateFault) → Err e ≡ ok_or found why → found ≡ None → e ≡ why
refused-by {T} found e why value none = let err : ◌≡◌ {A = Result T StateFault} (Err e) (Err why) = value ∙ ap (λ (o : Option T). ok_or o why) none in cc

pub head-fault : (text : Bytes) (why : HeadFault) → IsHeadFault text why → IsStateFault text (head_refused why)
head-fault text OtherVersion h = h
head-fault text Shape h = (h.0, shape-0 text h.1)

-- sections that were read, with these names
abbrev pub named : List ChangesetView → List CommitView → List Object → List NameRow → Sections
named hs cs tags names = record { changesets = hs; commits = cs; tags = tags; names = names }

-- and before names are read
abbrev pub so_far : List ChangesetView → List CommitView → List Object → Sections
so_far hs cs tags = record { changesets = hs; commits = cs; tags = tags; names = [] }

module _ (text r0 : Bytes) (first : text ≡ head_line ++ r0) where
  read-0 : (s : Sections) → IsRead 0 text s r0
  read-0 s = read-first text r0 s first

  pub no-hg : NoHg r0 → IsShapeFault text 1
  no-hg none = shape-1 text (so_far [] [] []) r0 (read-0 (so_far [] [] [])) none

  module _ (hg : HgSection) (heads : List Head) (r1 : Bytes) (hs : List ChangesetView) (h : HasHg r0 hg heads r1 hs) where
    read-1 : (cs : List CommitView) (tags : List Object) → IsRead 1 text (so_far hs cs tags) r1
    read-1 cs tags = read-more 0 text r0 r1 (so_far hs cs tags) (read-0 (so_far hs cs tags)) h.is h.saved

    pub behind-hg : IsEnd text r1
    behind-hg = (head_line ++ hg_text hs, first ∙ ap (λ (l : Bytes). head_line ++ l) h.is ∙ sym (append_assoc head_line (hg_text hs) r1))

    pub no-git : NoGit r1 → IsShapeFault text 2
    no-git none = shape-2 text (so_far hs [] []) r0 r1 (read-0 (so_far hs [] [])) (read-1 [] []) none

    module _ (git : GitSection) (used : ℕ) (r2 : Bytes) (cs : List CommitView) (g : HasGit r1 git used r2 cs) where
      read-2 : (tags : List Object) → IsRead 2 text (so_far hs cs tags) r2
      read-2 tags = read-more 1 text r1 r2 (so_far hs cs tags) (read-1 cs tags) g.is g.saved

      heads-many : length heads ≡ length (no_links hs)
      heads-many = ap (λ (l : List Head). length l) h.heads_are ∙ heads-length 0 hs

      ids-many : length git.ids ≡ length cs
      ids-many = ap (λ (l : List Id). length l) (g.holds).ids ∙ length-map cs commit_id

      pub no-count : (length heads ≡ length git.ids → ⊥) → IsShapeFault text 3
      no-count none = shape-3 text (so_far hs cs []) r0 r1 (read-0 (so_far hs cs [])) (read-1 cs []) r2 (read-2 [])
          (λ same rest. absurd (none (heads-many ∙ sym same ∙ sym ids-many)))

      module _ (count : length heads ≡ length git.ids) (blocks : List pair.Block) (are : blocks ≡ paired heads git.ids) where
        many : length cs ≡ length (no_links hs)
        many = sym ids-many ∙ sym count ∙ heads-many

        pub made : Made [] hs cs
        made = blocks-made hs [] cs tt (h.saved).links many

        pairs-are : blocks ≡ map block_in made.blocks
        pairs-are =
            let heads_are : heads ≡ map head_in made.blocks = h.heads_are ∙ ap (heads_of 0) (sym made.changesets) ∙ heads-blocks made.blocks made.are in
            let ids_are : git.ids ≡ map id_of made.blocks = (g.holds).ids ∙ ap (map commit_id) (sym made.commits) ∙ ids-blocks made.blocks in
            are ∙ (λ i. paired (heads_are i) (ids_are i)) ∙ paired-blocks made.blocks

        pairs-say : pairs_text blocks ≡ map_text_of cs hs
        pairs-say = ap pairs_text pairs-are ∙ pairs-section made.blocks made.are ∙ (λ i. map_text_of (made.commits i) (made.changesets i))

        pub no-pairs : ((rest : Bytes) → r2 ≢ pairs_text blocks ++ rest) → IsShapeFault text 3
        no-pairs none = shape-3 text (so_far hs cs []) r0 r1 (read-0 (so_far hs cs [])) (read-1 cs []) r2 (read-2 [])
            (λ same rest e. none rest (e ∙ ap (λ (l : Bytes). l ++ rest) (sym pairs-say)))

        module _ (r3 : Bytes) (p : r2 ≡ pairs_text blocks ++ r3) where
          read-3 : (tags : List Object) → IsRead 3 text (so_far hs cs tags) r3
          read-3 tags = read-more 2 text r2 r3 (so_far hs cs tags) (read-2 tags) (p ∙ ap (λ (l : Bytes). l ++ r3) pairs-say) many

          pub no-tags : NoTags cs r3 → IsShapeFault text 4
          no-tags none = shape-4 text (so_far hs cs []) r0 r1 (read-0 (so_far hs cs [])) (read-1 cs []) r2 (read-2 []) r3 (read-3 []) none

          module _ (part : TagSection) (r4 : Bytes) (tags : List Object) (t : HasTags cs r3 part r4 tags) where
            read-4 : IsRead 4 text (so_far hs cs tags) r4
            read-4 = read-more 3 text r3 r4 (so_far hs cs tags) (read-3 tags) t.is t.saved

            abbrev kept : Kept
            kept = record { blocks = made.blocks; tags = tags }

            targets-made : targets_read blocks part.tags ≡ targets_in kept
            targets-made =
                let firsts = ap (map {B = Id × Id} (λ (b : pair.Block). (b.node, b.commit))) pairs-are ∙ partners-blocks made.blocks in
                (λ i. record { pairs = firsts i; tags = (t.holds).tags_are i })

            pub are-targets : AreTargets (targets_read blocks part.tags)
            are-targets =
                subst AreTargets (sym targets-made)
                (targets-are kept (subst AreDumped (sym made.changesets) (h.saved).dumped) (subst AreCommitsSaved (sym made.commits) g.saved) (subst (λ (l : List CommitView). AreTagsSaved l tags) (sym made.commits) t.saved))

            targets-read : targets_read blocks part.tags ≡ targets_of (so_far hs cs tags)
            targets-read =
                targets-made ∙ sym (targets-same (record { blocks = made.blocks; tags = tags; names = [] }) made.are)
                ∙ (λ i. targets_of (so_far (made.changesets i) (made.commits i) tags))

            pub one-node : has_distinct (map (λ b. b.node) blocks) ≡ true
            one-node = nodes-once blocks made.blocks pairs-are (ap (λ (l : List ChangesetView). has_distinct (map changeset_node l)) made.changesets ∙ ((h.saved).dumped).distinct)

            pub one-id : has_distinct (map (λ b. b.commit) blocks) ≡ true
            one-id = ids-once blocks made.blocks pairs-are (ap (λ (l : List CommitView). has_distinct (map commit_id l)) made.commits ∙ (g.saved).distinct)

            pub one-tag : has_distinct part.tags ≡ true
            one-tag = ap has_distinct (t.holds).tags_are ∙ (t.saved).distinct

            pub no-end : ((names : List NameRow) → AreNames (targets_read blocks part.tags) names → r4 ≡ names_text names → length text ≤ slot_limit → ⊥) → IsShapeFault text 5
            no-end none =
                shape-5 text (so_far hs cs tags) r0 r1 (read-0 (so_far hs cs tags)) (read-1 cs tags) r2 (read-2 tags) r3 (read-3 tags) r4 read-4
                (λ names n. none names (subst (λ (u : Targets). AreNames u names) (sym targets-read) n))

            module _ (names : List NameRow) (has : HasNames (targets_read blocks part.tags) r4 names) (short : length text ≤ slot_limit) where
              abbrev pub state : State
              state = record { blocks = made.blocks; tags = tags; names = names }

              whole : text ≡ text_up_to 5 (named hs cs tags names)
              unfolding text_up_to
              whole = read-4.begins ∙ ap (λ (l : Bytes). text_up_to 4 (so_far hs cs tags) ++ l) has.is

              hold-5 : SectionsHold 5 (named hs cs tags names)
              unfolding text_up_to
              hold-5 =
                  let fits : length (text_up_to 5 (named hs cs tags names)) ≤ slot_limit = omega (arith, short, ap (λ (l : Bytes). length l) whole) in
                  (read-4.hold, (subst (λ (u : Targets). AreNames u names) targets-read has.kept, fits))

              same : sections_of state ≡ named hs cs tags names
              same = (λ i. named (made.changesets i) (made.commits i) tags names)

              text-is : text ≡ state_text state
              unfolding state_text
              text-is = whole ∙ ap (text_up_to 5) (sym same)

              pub is-text : IsStateText text state
              is-text = ((made.are, subst (SectionsHold 5) (sym same) hold-5), text-is)

              pub are-sections : AreSectionsOf hg blocks part names state
              are-sections = record {
                state = is-text.0;
                changesets = subst (HoldsChangesets hg) (sym made.changesets) h.holds;
                pairs = pairs-are;
                commits = subst (λ (l : List CommitView). HoldsTags part l tags) (sym made.commits) t.holds;
                names_are = refl;
              }
