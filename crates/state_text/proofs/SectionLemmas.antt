-- The sections of a text, one behind another, are those of one state.
use Rattle.std.proofs.Common.{◌≡◌, ◌<◌, ℕ, suc, ◌++◌, codes, refl, sym, ap, ◌∙◌, arith, append_assoc}
use Rattle.std.proofs.lemmas.List.{append_cancel_left}
use Rattle.text_model.specs.Text.{Bytes}
use Rattle.git_model.specs.Stream.{stream_text}
use Rattle.view_model.specs.Dump.{objects_in}
use Rattle.state_model.specs.Kept.{hg_dump, git_dump}
use Rattle.state_model.specs.Text.{Sections, section_text, text_up_to}
use Rattle.state_model.specs.Saved.{SectionHolds, SectionsHold, SectionsFit}
use Rattle.dump_law.proofs.DumpOne.{one_dump}
use Rattle.dump_law.proofs.Commits.{one_git_dump}
use Rattle.dump_law.proofs.Streams.{one_stream}
use Rattle.dump_law.proofs.StreamRead.{stream_is_read}
use Rattle.state_part.specs.Form.{head_line}
use Rattle.state_part.proofs.SectionLemmas.{one_section}

pub one-more : (k : ℕ) (s : Sections) (rest : Bytes) → text_up_to (suc k) s ++ rest ≡ text_up_to k s ++ (section_text (suc k) s ++ rest)
unfolding text_up_to
one-more k s rest = append_assoc (text_up_to k s) (section_text (suc k) s) rest

pub first-is : (s : Sections) → text_up_to 0 s ≡ head_line
unfolding text_up_to
first-is s = refl

-- ---- sections that were read

pub record IsRead (k : ℕ) (text : Bytes) (s : Sections) (rest : Bytes) : Type 0 where
  pub begins : text ≡ text_up_to k s ++ rest
  pub hold : SectionsHold k s

pub read-first : (text rest : Bytes) (s : Sections) → text ≡ head_line ++ rest → IsRead 0 text s rest
unfolding text_up_to
read-first text rest s e = record { begins = e; hold = tt }

pub read-more : (k : ℕ) (text rest after : Bytes) (s : Sections) → IsRead k text s rest → rest ≡ section_text (suc k) s ++ after → SectionHolds (suc k) s → IsRead (suc k) text s after
read-more k text rest after s r e h = record { begins = r.begins ∙ ap (λ (l : Bytes). text_up_to k s ++ l) e ∙ sym (one-more k s after); hold = (r.hold, h) }

pub fits : (k : ℕ) (text rest : Bytes) (s : Sections) → IsRead k text s rest → k < 5 → SectionsFit k text
fits k text rest s r below = record { sections = s; rest = rest; begins = r.begins; hold = r.hold; last = λ e. absurd (omega (arith, below, e)) }

-- ---- one text, read twice

pub one-0 : (s t : Sections) (x y : Bytes) → text_up_to 0 s ++ x ≡ text_up_to 0 t ++ y → x ≡ y
unfolding text_up_to
one-0 s t x y e = append_cancel_left head_line x y e

pub one-1 : (s t : Sections) (x y : Bytes) → SectionsHold 1 s → SectionsHold 1 t → text_up_to 1 s ++ x ≡ text_up_to 1 t ++ y → (s.changesets ≡ t.changesets) × (x ≡ y)
one-1 s t x y a b e =
    let left = one-0 s t (section_text 1 s ++ x) (section_text 1 t ++ y) (sym (one-more 0 s x) ∙ e ∙ one-more 0 t y) in
    let parts = one_section (codes "hg") (hg_dump s.changesets) (hg_dump t.changesets) x y (omega (arith, a.1.dumped.short)) (omega (arith, b.1.dumped.short)) left in
    (one_dump s.changesets t.changesets a.1.dumped b.1.dumped parts.0, parts.1)

pub record Same (s t : Sections) (x y : Bytes) : Type 0 where
  pub changesets : s.changesets ≡ t.changesets
  pub commits : s.commits ≡ t.commits
  pub rest : x ≡ y

pub one-2 : (s t : Sections) (x y : Bytes) → SectionsHold 2 s → SectionsHold 2 t → text_up_to 2 s ++ x ≡ text_up_to 2 t ++ y → Same s t x y
one-2 s t x y a b e =
    let left = one-1 s t (section_text 2 s ++ x) (section_text 2 t ++ y) a.0 b.0 (sym (one-more 1 s x) ∙ e ∙ one-more 1 t y) in
    let parts = one_section (codes "git") (git_dump s.commits) (git_dump t.commits) x y (omega (arith, a.1.short)) (omega (arith, b.1.short)) left.1 in
    record { changesets = left.0; commits = one_git_dump s.commits t.commits a.1 b.1 parts.0; rest = parts.1 }

third : (s t : Sections) → s.changesets ≡ t.changesets → s.commits ≡ t.commits → section_text 3 s ≡ section_text 3 t
third s t changesets commits =
    (λ i. section_text 3 (record { changesets = changesets i; commits = commits i; tags = s.tags; names = s.names }))

pub one-3 : (s t : Sections) (x y : Bytes) → SectionsHold 3 s → SectionsHold 3 t → text_up_to 3 s ++ x ≡ text_up_to 3 t ++ y → Same s t x y
one-3 s t x y a b e =
    let left = one-2 s t (section_text 3 s ++ x) (section_text 3 t ++ y) a.0 b.0 (sym (one-more 2 s x) ∙ e ∙ one-more 2 t y) in
    let pairs = third s t left.changesets left.commits in
    record { changesets = left.changesets; commits = left.commits; rest = append_cancel_left (section_text 3 s) x y (left.rest ∙ ap (λ (l : Bytes). l ++ y) (sym pairs)) }

pub record SameTags (s t : Sections) (x y : Bytes) : Type 0 where
  pub changesets : s.changesets ≡ t.changesets
  pub commits : s.commits ≡ t.commits
  pub tags : s.tags ≡ t.tags
  pub rest : x ≡ y

pub one-4 : (s t : Sections) (x y : Bytes) → SectionsHold 4 s → SectionsHold 4 t → text_up_to 4 s ++ x ≡ text_up_to 4 t ++ y → SameTags s t x y
one-4 s t x y a b e =
    let left = one-3 s t (section_text 4 s ++ x) (section_text 4 t ++ y) a.0 b.0 (sym (one-more 3 s x) ∙ e ∙ one-more 3 t y) in
    let parts = one_section (codes "tags") (stream_text s.tags) (stream_text t.tags) x y (omega (arith, a.1.short)) (omega (arith, b.1.short)) left.rest in
    let ids = (stream_is_read (objects_in t.commits) t.tags (omega (arith, b.1.short)) b.1.read).ids in
    record { changesets = left.changesets; commits = left.commits; tags = one_stream s.tags t.tags ids (omega (arith, a.1.short)) parts.0; rest = parts.1 }
