-- The sections one by one: what is read of them, and what isn't.
use Rattle.std.proofs.Common.{◌≡◌, ◌≢◌, ◌<◌, ◌^◌, ℕ, true, false, true≢false, List, [], ◌++◌, length, codes, sym, ap, ◌∙◌, arith, length-append, append-nil}
use Rattle.text_model.specs.Text.{Bytes}
use Rattle.git_model.specs.Object.{Object}
use Rattle.git_model.specs.Stream.{stream_text}
use Rattle.view_model.specs.View.{ChangesetView, CommitView}
use Rattle.state_model.specs.Kept.{NameRow, hg_dump, git_dump}
use Rattle.state_model.specs.Text.{sized, refs_text}
use Rattle.state_model.specs.Names.{Targets, AreNames}
use Rattle.state_model.specs.Saved.{links_lead, AreDumped, AreCommitsSaved, AreTagsSaved}
use Rattle.name_model.specs.Targets.{AreTargets}
use Rattle.dump_law.proofs.DumpOne.{one_dump}
use Rattle.name_law.proofs.Sizes.{refs-short}
use Rattle.hg_section.specs.declared.section.HgSection.{HgSection}
use Rattle.hg_section.specs.Section.{HoldsChangesets}
use Rattle.git_section.specs.declared.section.GitSection.{GitSection}
use Rattle.git_section.specs.Sections.{HoldsCommits}
use Rattle.tag_section.specs.declared.tags.TagSection.{TagSection}
use Rattle.tag_section.specs.Tags.{HoldsTags}
use Rattle.state_text.specs.declared.heads.Head.{Head}
use Rattle.state_text.specs.Heads.{heads_of}
use Rattle.state_part.specs.Form.{HasSection, NoSection}
use Rattle.state_part.proofs.SectionLemmas.{one_section}
use Rattle.state_text.specs.Sections.{NoHg, HasHg, NoGit, HasGit, NoTags, HasTags, NoNames, names_text}

pub text-short : (word bytes text rest : Bytes) → length bytes < 2 ^ 64 → HasSection word bytes text rest → length text < 2 ^ 64
text-short word bytes text rest long section = omega (arith, long, simp length-append at (ap (λ (l : Bytes). length l) section))

module _ (bytes text rest : Bytes) (short : length text < 2 ^ 64) where
  pub no-dump : HasSection (codes "hg") bytes text rest → ((hs : List ChangesetView) → AreDumped hs → hg_dump hs ≢ text) → NoHg bytes
  no-dump section none hs after saved e =
      none hs saved.dumped (one_section (codes "hg") (hg_dump hs) text after rest (omega (arith, saved.dumped.short)) short (sym e ∙ section)).0

  pub no-heads : HasSection (codes "hg") bytes text rest → (ks : List ChangesetView) → AreDumped ks → hg_dump ks ≡ text → links_lead 0 ks ≡ false → NoHg bytes
  no-heads section ks dumped is none hs after saved e =
      let same = (one_section (codes "hg") (hg_dump hs) text after rest (omega (arith, saved.dumped.short)) short (sym e ∙ section)).0 in
      let one : hs ≡ ks = one_dump hs ks saved.dumped dumped (same ∙ sym is) in
      true≢false (sym saved.links ∙ ap (links_lead 0) one ∙ none)

  pub no-commits : HasSection (codes "git") bytes text rest → ((cs : List CommitView) → AreCommitsSaved cs → git_dump cs ≢ text) → NoGit bytes
  no-commits section none cs after saved e =
      none cs saved (one_section (codes "git") (git_dump cs) text after rest (omega (arith, saved.short)) short (sym e ∙ section)).0

  pub no-tags : (cs : List CommitView) → HasSection (codes "tags") bytes text rest → ((tags : List Object) → AreTagsSaved cs tags → stream_text tags ≢ text) → NoTags cs bytes
  no-tags cs section none tags after saved e =
      none tags saved (one_section (codes "tags") (stream_text tags) text after rest (omega (arith, saved.short)) short (sym e ∙ section)).0

  -- names of another text, or with something behind them, are not those of the section
  pub no-names : HasSection (codes "names") bytes text rest → (t : Targets) → AreTargets t → ((names : List NameRow) → AreNames t names → refs_text names ≡ text → rest ≡ [] → ⊥) → NoNames t bytes
  no-names section t a none names n e =
      let parts = one_section (codes "names") (refs_text names) text [] rest (omega (arith, refs-short t a names n, n.few)) short (append-nil (names_text names) ∙ sym e ∙ section) in
      none names n parts.0 (sym parts.1)

-- ---- what is read of a section

module _ (bytes text rest : Bytes) where
  pub has-hg : (part : HgSection) (heads : List Head) (hs : List ChangesetView) → HasSection (codes "hg") bytes text rest → AreDumped hs → hg_dump hs ≡ text → HoldsChangesets part hs
      → links_lead 0 hs ≡ true → heads ≡ heads_of 0 hs → HasHg bytes part heads rest hs
  has-hg part heads hs section dumped is holds links heads_are = record {
    saved = record { dumped = dumped; links = links };
    is = section ∙ ap (λ (t : Bytes). sized (codes "hg") t ++ rest) (sym is);
    holds = holds;
    heads_are = heads_are;
  }

  pub has-git : (part : GitSection) (used : ℕ) (cs : List CommitView) → HasSection (codes "git") bytes text rest → AreCommitsSaved cs → git_dump cs ≡ text → HoldsCommits part cs
      → used ≡ length text → HasGit bytes part used rest cs
  has-git part used cs section saved is holds size = record {
    saved = saved;
    is = section ∙ ap (λ (t : Bytes). sized (codes "git") t ++ rest) (sym is);
    holds = holds;
    size = ap (λ (t : Bytes). length t) is ∙ sym size;
  }

  pub has-tags : (part : TagSection) (cs : List CommitView) (tags : List Object) → HasSection (codes "tags") bytes text rest → AreTagsSaved cs tags → stream_text tags ≡ text → HoldsTags part cs tags
      → HasTags cs bytes part rest tags
  has-tags part cs tags section saved is holds = record {
    saved = saved;
    is = section ∙ ap (λ (t : Bytes). sized (codes "tags") t ++ rest) (sym is);
    holds = holds;
  }

pub names-there : (bytes text rest : Bytes) (names : List NameRow) → HasSection (codes "names") bytes text rest → refs_text names ≡ text → rest ≡ [] → bytes ≡ names_text names
names-there bytes text rest names section is nothing = section ∙ (λ i. sized (codes "names") (sym is i) ++ nothing i) ∙ append-nil (names_text names)

pub no-section : (bytes : Bytes) → NoSection (codes "names") bytes → (t : Targets) → NoNames t bytes
no-section bytes none t names n e = none (refs_text names) [] (e ∙ sym (append-nil (names_text names)))
