-- A text is that of one state.
use Rattle.std.proofs.Common.{◌≡◌, ◌<◌, ◌^◌, ℕ, false, true≢false, List, [], ◌∷◌, ◌++◌, length, decimal, codes, refl, sym, ap, subst, ◌∙◌, arith, append_assoc}
use Rattle.std.specs.Prelude.{IsTrue}
use Rattle.std.proofs.lemmas.List.{append_cancel_left}
use Rattle.text_model.specs.Lists.{Each}
use Rattle.text_model.specs.Text.{Bytes, line, spaced}
use Rattle.git_model.specs.Stream.{stream_text}
use Rattle.git_model.proofs.CommitLemmas.{line-then}
use Rattle.view_model.specs.View.{ChangesetView}
use Rattle.view_model.specs.Dump.{objects_in}
use Rattle.pair_model.specs.Block.{Block, changesets_in, commits_in}
use Rattle.pair_model.specs.Octopus.{is_link_view}
use Rattle.state_model.specs.Kept.{State, NameRow, hg_dump, git_dump}
use Rattle.state_model.specs.Text.{Sections, sections_of, section_text, text_up_to, state_text, sized, map_lines, no_links, refs_text}
use Rattle.state_model.specs.Names.{Targets, targets_of, AreNames}
use Rattle.state_model.specs.Saved.{AreBlocks, IsStateText}
use Rattle.name_model.specs.Targets.{AreTargets}
use Rattle.name_law.proofs.Across.{refs-one}
use Rattle.name_law.proofs.Sizes.{refs-short}
use Rattle.dump_law.proofs.Elements.{heads, tails}
use Rattle.dump_law.proofs.DumpOne.{one_dump}
use Rattle.dump_law.proofs.Trees.{cut_two, split_at}
use Rattle.dump_law.proofs.Streams.{decimal_lacks, decimal_is, one_stream}
use Rattle.dump_law.proofs.StreamRead.{stream_is_read}
use Rattle.dump_law.proofs.Commits.{one_git_dump}
use Rattle.dump_law.proofs.Names.{targets-same, targets-saved}

-- ---- sections

sized_then : (word text rest : Bytes) → sized word text ++ rest ≡ word ++ (32 ∷ (decimal (length text) ++ (10 ∷ (text ++ (10 ∷ rest)))))
sized_then word text rest =
    let t : Bytes = 10 ∷ (text ++ (10 ∷ rest)) in
    let one = line-then (word ++ (32 ∷ (decimal (length text) ++ []))) (line text) rest ∙ ap (λ (l : Bytes). (word ++ (32 ∷ (decimal (length text) ++ []))) ++ (10 ∷ l)) (append_assoc text (10 ∷ []) rest) in
    one ∙ append_assoc word (32 ∷ (decimal (length text) ++ [])) t ∙ ap (λ (l : Bytes). word ++ (32 ∷ l)) (append_assoc (decimal (length text)) [] t)

behind : (x y : ℕ) (r s : Bytes) → x ∷ r ≡ y ∷ s → r ≡ s
behind x y r s h = cc

-- a section of a word is that of one text
one_sized : (word a b x y : Bytes) → length a < 2 ^ 64 → length b < 2 ^ 64 → sized word a ++ x ≡ sized word b ++ y → (a ≡ b) × (x ≡ y)
one_sized word a b x y small less e =
    let whole = append_cancel_left word (32 ∷ (decimal (length a) ++ (10 ∷ (a ++ (10 ∷ x))))) (32 ∷ (decimal (length b) ++ (10 ∷ (b ++ (10 ∷ y))))) (sym (sized_then word a x) ∙ e ∙ sized_then word b y) in
    let cut = cut_two 10 (decimal (length a)) (a ++ (10 ∷ x)) (decimal (length b)) (b ++ (10 ∷ y)) (decimal_lacks 10 (length a) (omega arith) small) (decimal_lacks 10 (length b) (omega arith) less)
    (behind 32 32 _ _ whole) in
    let parts = split_at a (10 ∷ x) b (10 ∷ y) (decimal_is (length a) (length b) small less cut.0) cut.1 in
    (parts.0, behind 10 10 x y parts.1)

-- the sections one behind the other
all_sections : (s : Sections) → text_up_to 5 s
    ≡ section_text 0 s ++ (sized (codes "hg") (hg_dump s.changesets) ++ (sized (codes "git") (git_dump s.commits) ++ (section_text 3 s ++ (sized (codes "tags") (stream_text s.tags) ++ section_text 5 s))))
unfolding text_up_to
all_sections s =
    append_assoc ((((section_text 0 s ++ section_text 1 s) ++ section_text 2 s) ++ section_text 3 s)) (section_text 4 s) (section_text 5 s)
    ∙ append_assoc ((section_text 0 s ++ section_text 1 s) ++ section_text 2 s) (section_text 3 s) (section_text 4 s ++ section_text 5 s)
    ∙ append_assoc (section_text 0 s ++ section_text 1 s) (section_text 2 s) (section_text 3 s ++ (section_text 4 s ++ section_text 5 s))
    ∙ append_assoc (section_text 0 s) (section_text 1 s) (section_text 2 s ++ (section_text 3 s ++ (section_text 4 s ++ section_text 5 s)))

-- ---- blocks

record SameLinks (ls ms : List ChangesetView) (x y : ChangesetView) (r s : List ChangesetView) : Type 0 where
  pub links : ls ≡ ms
  pub changeset : x ≡ y
  pub rest : r ≡ s

links_one : (ls ms : List ChangesetView) (x y : ChangesetView) (r s : List ChangesetView) → Each (λ l. IsTrue (is_link_view l)) ls → Each (λ l. IsTrue (is_link_view l)) ms
    → is_link_view x ≡ false → is_link_view y ≡ false → (ls ++ x ∷ []) ++ r ≡ (ms ++ y ∷ []) ++ s → SameLinks ls ms x y r s
links_one [] [] x y r s a b p q e = record { links = refl; changeset = heads e; rest = tails e }
links_one [] (m ∷ ms) x y r s a b p q e = let first : x ≡ m = heads e in absurd (true≢false (sym b.0 ∙ ap is_link_view (sym first) ∙ p))
links_one (l ∷ ls) [] x y r s a b p q e = let first : l ≡ y = heads e in absurd (true≢false (sym a.0 ∙ ap is_link_view first ∙ q))
links_one (l ∷ ls) (m ∷ ms) x y r s a b p q e =
    let first : l ≡ m = heads e in
    let more : (ls ++ x ∷ []) ++ r ≡ (ms ++ y ∷ []) ++ s = tails e in
    let others = links_one ls ms x y r s a.1 b.1 p q more in
    record { links = (λ i. first i ∷ others.links i); changeset = others.changeset; rest = others.rest }

pub one_history : (bs cs : List Block) → AreBlocks bs → AreBlocks cs → changesets_in bs ≡ changesets_in cs → commits_in bs ≡ commits_in cs → bs ≡ cs
one_history [] [] x y e f = refl
one_history [] (c ∷ cs) x y e f = absurd cc
one_history (b ∷ bs) [] x y e f = absurd cc
one_history (b ∷ bs) (c ∷ cs) x y e f =
    let commit : b.commit ≡ c.commit = heads f in
    let commits : commits_in bs ≡ commits_in cs = tails f in
    let parts = links_one b.links c.links b.changeset c.changeset (changesets_in bs) (changesets_in cs) x.0.0 y.0.0 x.0.1 y.0.1 e in
    (λ i. record { links = parts.links i; changeset = parts.changeset i; commit = commit i } ∷ one_history bs cs x.1 y.1 parts.rest commits i)

-- ---- names

few-refs : (t : Targets) → AreTargets t → (names : List NameRow) → AreNames t names → length (refs_text names) < 2 ^ 64
few-refs t a names n = omega (arith, refs-short t a names n, n.few)

-- ---- the whole

pub one_text : (text : Bytes) (s t : State) → IsStateText text s → IsStateText text t → s ≡ t
unfolding state_text
one_text text s t x y =
    let a = sections_of s in
    let b = sections_of t in
    let h = x.0.1 in
    let k = y.0.1 in
    let whole = sym (all_sections a) ∙ sym x.1 ∙ y.1 ∙ all_sections b in
    let one = append_cancel_left (section_text 0 a) _ _ whole in
    let two = one_sized (codes "hg") (hg_dump a.changesets) (hg_dump b.changesets) _ _ (omega (arith, h.0.0.0.0.1.dumped.short)) (omega (arith, k.0.0.0.0.1.dumped.short)) one in
    let changesets : a.changesets ≡ b.changesets = one_dump a.changesets b.changesets h.0.0.0.0.1.dumped k.0.0.0.0.1.dumped two.0 in
    let three = one_sized (codes "git") (git_dump a.commits) (git_dump b.commits) _ _ (omega (arith, h.0.0.0.1.short)) (omega (arith, k.0.0.0.1.short)) two.1 in
    let commits : a.commits ≡ b.commits = one_git_dump a.commits b.commits h.0.0.0.1 k.0.0.0.1 three.0 in
    let pairs : section_text 3 a ≡ section_text 3 b =
    (λ i. line (spaced (codes "map" ∷ decimal (length (commits i)) ∷ [])) ++ map_lines (commits i) (no_links (changesets i))) in
    let four = append_cancel_left (section_text 3 a) _ _ (three.1 ∙ ap (λ (l : Bytes). l ++ (sized (codes "tags") (stream_text b.tags) ++ section_text 5 b)) (sym pairs)) in
    let five = one_sized (codes "tags") (stream_text a.tags) (stream_text b.tags) _ _ (omega (arith, h.0.1.short)) (omega (arith, k.0.1.short)) four in
    let tags : s.tags ≡ t.tags = one_stream a.tags b.tags (stream_is_read (objects_in b.commits) b.tags (omega (arith, k.0.1.short)) (k.0.1).read).ids (omega (arith, h.0.1.short)) five.0 in
    let blocks : s.blocks ≡ t.blocks = one_history s.blocks t.blocks x.0.0 y.0.0 changesets commits in
    let targets : targets_of a ≡ targets_of b = (λ i. targets_of (record { changesets = changesets i; commits = commits i; tags = tags i; names = [] })) in
    let ids : AreTargets (targets_of a) = subst AreTargets (sym (targets-same s x.0.0)) (targets-saved s x.0) in
    let others : AreNames (targets_of a) t.names = subst (λ (u : Targets). AreNames u t.names) (sym targets) k.1.0 in
    let six = one_sized (codes "names") (refs_text s.names) (refs_text t.names) [] [] (few-refs (targets_of a) ids s.names h.1.0) (few-refs (targets_of a) ids t.names others) (ap (λ (l : Bytes). l ++ []) five.1) in
    let names : s.names ≡ t.names = refs-one (targets_of a) ids s.names t.names h.1.0 others six.0 in
    (λ i. record { blocks = blocks i; tags = tags i; names = names i })
