-- A commit of three and more parents has links: changesets between its parents and its own changeset. Their form is this project's own.
use Rattle.std.specs.Prelude.{ℕ, ◌+◌, Bool, false, not, ◌&&◌, ◌==◌, nat_le, List, [], ◌∷◌, ◌++◌, length, map, None, unwrap_or, codes, decimal, ℤ, pos, negsuc, bytes_eq}
use Rattle.std.specs.List.{slice_split, last_or}
use Rattle.text_model.specs.Text.{Bytes, is_decimal, number_of}
use Rattle.text_model.specs.Id.{Id, null, is_null, hex, is_hex_id}
use Rattle.hg_model.specs.Changeset.{Changeset, DateLine, Plain}
use Rattle.view_model.specs.View.{ChangesetView, CommitView, changeset_node, commit_id}
use Rattle.pair_model.specs.Block.{Block, changesets_in, hg_partner, view_or_none, Parents, parents_among}

abbrev pub link_user : Bytes
link_user = codes "hg-git"

abbrev pub link_key : Bytes
link_key = codes "hg-git-link"

abbrev pub link_description : Bytes
link_description = codes "octopus link"

-- `HEX:K:N`, the commit, the number of the link and the number of parents
abbrev pub link_value : Id → ℕ → ℕ → Bytes
link_value id k n = hex id ++ 58 ∷ decimal k ++ 58 ∷ decimal n

-- link k of n parents, with the manifest of the first parent's partner
unfoldable pub link_view : Id → ChangesetView → ℕ → ℕ → Id → Id → ChangesetView
link_view id base n k p q = record {
  p = p;
  q = q;
  fields = record {
    manifest = (base.fields).manifest;
    user = link_user;
    date = Plain (pos 0) (pos 0) (record { key = link_key; value = link_value id k n } ∷ []);
    files = [];
    description = link_description;
  };
  manifest = base.manifest;
  rows = base.rows;
}

-- the links over what came before and the partners that are left, all but the last of which has one
unfoldable pub links_over : Id → ChangesetView → ℕ → ℕ → Id → List Id → List ChangesetView
links_over id base n k before [] = []
links_over id base n k before (x ∷ []) = []
links_over id base n k before (x ∷ y ∷ rest) =
    link_view id base n k before x ∷ links_over id base n (k + 1) (changeset_node (link_view id base n k before x)) (y ∷ rest)

-- the partners of a commit's parents
abbrev pub partners_of_parents : List Block → CommitView → List Id
partners_of_parents blocks c = map (hg_partner blocks) (c.value).parents

abbrev pub links_by : List Block → Id → ℕ → List Id → List ChangesetView
links_by blocks id n [] = []
links_by blocks id n (x ∷ rest) = links_over id (view_or_none (changesets_in blocks) x) n 1 x rest

-- none below three parents
unfoldable pub links_of : List Block → CommitView → List ChangesetView
links_of blocks c = links_by blocks (commit_id c) (length (c.value).parents) (partners_of_parents blocks c)

abbrev pub last_id : List Id → Id
last_id ids = unwrap_or (last_or None ids) null

abbrev pub second_of : List Id → Id
second_of [] = null
second_of (x ∷ rest) = last_id rest

abbrev pub first_of : List Id → Id
first_of [] = null
first_of (x ∷ rest) = x

-- The two parents of the changeset: the last link, or the first partner where there is none, and the last partner of two and more.
unfoldable pub parents_of_commit : List Block → CommitView → Parents
parents_of_commit blocks c =
    let links = links_of blocks c in
    let nodes = partners_of_parents blocks c in
    parents_among (links ++ changesets_in blocks) (last_id (first_of nodes ∷ map changeset_node links)) (second_of nodes)

-- ---- the form of a link

abbrev pub is_zero : ℤ → Bool
is_zero (pos n) = n == 0
is_zero (negsuc n) = false

abbrev pub is_link_value : List Bytes → Bool
is_link_value (id ∷ k ∷ n ∷ []) =
    is_hex_id id && is_decimal k && is_decimal n && nat_le 3 (number_of n) && nat_le (number_of n) 64
    && nat_le 1 (number_of k) && nat_le (number_of k + 2) (number_of n)
is_link_value _ = false

abbrev pub is_link_date : DateLine → Bool
is_link_date (Plain time tz (e ∷ [])) = is_zero time && is_zero tz && bytes_eq e.key link_key && is_link_value (slice_split (λ b. b == 58) e.value)
is_link_date _ = false

-- a changeset of the form of a link, with any manifest
unfoldable pub is_link : Changeset → Id → Id → Bool
is_link x p q =
    not (is_null p) && not (is_null q) && bytes_eq x.user link_user && is_link_date x.date && length x.files == 0 && bytes_eq x.description link_description

abbrev pub is_link_view : ChangesetView → Bool
is_link_view h = is_link h.fields h.p h.q
