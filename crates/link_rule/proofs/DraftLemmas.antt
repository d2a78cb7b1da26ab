-- The drafts of links over the changeset whose files they have.
use Rattle.std.proofs.Common.{◌≡◌, ◌<◌, ◌++◌, ℕ, false, ltb-true, List, [], ◌∷◌, map, Some, None, refl, sym, ap, subst, ◌∙◌, arith}
use Rattle.std.specs.Prelude.{IsTrue, nat_lt}
use Rattle.std.specs.List.{AllZip}
use Rattle.text_model.specs.Lists.{Each}
use Rattle.text_model.specs.Text.{IsBytes}
use Rattle.hg_model.specs.Changeset.{IsDateLine}
use Rattle.hg_model.specs.Revision.{Revision}
use Rattle.view_model.specs.View.{ChangesetView, IsChangesetView, changeset_node}
use Rattle.view_model.specs.Held.{IsFileHeld}
use Rattle.pair_model.specs.Octopus.{link_view, link_user, link_description}
use Rattle.hg_store.specs.Known.{knows_same}
use Rattle.pair_known.specs.Drafts.{IsHgDraft, AreFreshOf}
use Rattle.pair_known.specs.Rows.{RowValue, row_value}
use Rattle.pair_known.specs.Ruled.{IsLooseView, IsMadeChangeset}
use Rattle.pair_known.specs.declared.hg_draft.HgDraft.{HgDraft}
use Rattle.link_rule.specs.Links.{IsLinkOf, IsLinkOver, AreLinksMade}
use Rattle.link_rule.specs.declared.link.Link.{Link}

-- what the link has of the base
pub record HasFilesOf (base h : ChangesetView) : Type 0 where
  pub manifest : h.manifest ≡ base.manifest
  pub node : (h.fields).manifest ≡ (base.fields).manifest
  pub rows : h.rows ≡ base.rows

pub files-of : (base h : ChangesetView) → IsLinkOver base h → HasFilesOf base h
unfolding link_view
files-of base h over = record {
  manifest = ap (λ (x : ChangesetView). x.manifest) over.is;
  node = ap (λ (x : ChangesetView). (x.fields).manifest) over.is;
  rows = ap (λ (x : ChangesetView). x.rows) over.is;
}

small : (b : ℕ) → IsTrue (nat_lt b 256) → b < 256
small b h = ltb-true b 256 h

words : IsBytes link_user × IsBytes link_description
words = grind arith

-- a link over a view is one but for what is asked of both parents together
pub loose : (base h : ChangesetView) → IsChangesetView base → IsLinkOver base h → IsDateLine (h.fields).date → IsLooseView h
unfolding link_view
loose base h view over date =
    let view_of = link_view over.id base over.count over.number over.p over.q in
    subst IsLooseView (sym over.is) (record {
      parents = over.are_ids;
      fields = record {
        manifest = (view.fields).manifest;
        user = ((λ e. absurd cc), refl, words.0);
        date = subst (λ (x : ChangesetView). IsDateLine (x.fields).date) over.is date;
        files = tt;
        description = words.1;
      };
      manifest = view.manifest;
      rows = view.rows;
      in_order = view.in_order;
      agrees = view.agrees;
    })

-- a draft with the parts of a link and the files of the base
abbrev pub draft-of : HgDraft → Link → List RowValue → List Revision → HgDraft
draft-of base link rows fresh = record {
  p1 = link.p;
  p2 = link.q;
  changeset = link.changeset;
  manifest = base.manifest;
  rows = rows;
  fresh = fresh;
  texts = record { changeset = Some link.text; manifest = None };
}

pub made : (known : List Revision) (b h : ChangesetView) (base : HgDraft) (link : Link) (rows : List RowValue) (fresh : List Revision) → rows ≡ base.rows → fresh ≡ []
    → IsHgDraft known base b → base.fresh ≡ [] → IsChangesetView b → IsLinkOf link h → IsLinkOver b h → IsMadeChangeset known (draft-of base link rows fresh) h
made known b h base link rows fresh rows-are fresh-is draft none view is over =
    let of = files-of b h over in
    let held : Each (IsFileHeld (fresh ++ known)) b.rows = subst (λ (l : List Revision). Each (IsFileHeld (l ++ known)) b.rows) (none ∙ sym fresh-is) draft.files in
    record {
      draft = record {
        parents = (sym is.parents.0, sym is.parents.1);
        fields = sym is.fields;
        manifest = of.manifest ∙ draft.manifest;
        rows = rows-are ∙ draft.rows ∙ ap (map row_value) (sym of.rows);
        files = subst (Each (IsFileHeld (fresh ++ known))) (sym of.rows) held;
        texts = record { changeset = is.text; manifest = tt };
      };
      of_rows = subst (λ (l : List Revision). AreFreshOf l h.rows) (sym fresh-is) tt;
      are_new = subst (Each (λ r. knows_same known r ≡ false)) (sym fresh-is) tt;
      view = loose b h view over is.date;
    }

-- what a draft of a link is asked
abbrev pub IsDraftOf : HgDraft → Link → HgDraft → Type 0
IsDraftOf base link d = ((known : List Revision) (b h : ChangesetView) → IsHgDraft known base b → base.fresh ≡ [] → IsChangesetView b → IsLinkOf link h → IsLinkOver b h → IsMadeChangeset known d h) × (d.fresh ≡ [])

pub all-made : (known : List Revision) (b : ChangesetView) (base : HgDraft) (links : List Link) (ds : List HgDraft) (hs : List ChangesetView) → IsHgDraft known base b → base.fresh ≡ [] → IsChangesetView b
    → AllZip (IsDraftOf base) links ds → AllZip IsLinkOf links hs → Each (IsLinkOver b) hs → AreLinksMade known ds hs
all-made known b base [] [] [] draft fresh view d is over = tt
all-made known b base [] [] (h ∷ hs) draft fresh view d is over = absurd is
all-made known b base [] (x ∷ ds) hs draft fresh view d is over = absurd d
all-made known b base (l ∷ links) [] hs draft fresh view d is over = absurd d
all-made known b base (l ∷ links) (x ∷ ds) [] draft fresh view d is over = absurd is
all-made known b base (l ∷ links) (x ∷ ds) (h ∷ hs) draft fresh view d is over =
    ((d.0).0 known b h draft fresh view is.0 over.0, (d.0).1, all-made known b base links ds hs draft fresh view d.1 is.1 over.1)

pub nodes-are : (links : List Link) (hs : List ChangesetView) → AllZip IsLinkOf links hs → map (λ (l : Link). l.node) links ≡ map changeset_node hs
nodes-are [] [] is = refl
nodes-are [] (h ∷ hs) is = absurd is
nodes-are (l ∷ links) [] is = absurd is
nodes-are (l ∷ links) (h ∷ hs) is = λ i. (is.0).node i ∷ nodes-are links hs is.1 i
