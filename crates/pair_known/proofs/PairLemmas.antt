-- Looking partners up, and one more pair.
use Rattle.std.proofs.Common.{◌≡◌, Bool, true, false, List, [], ◌∷◌, ◌++◌, map, None, refl, sym, ap, subst, ◌∙◌}
use Rattle.std.specs.Prelude.{bytes_eq, option_map, IsTrue}
use Rattle.std.specs.List.{find, list_any}
use Rattle.std.specs.Map.{lookup}
use Rattle.text_model.specs.Id.{Id}
use Rattle.text_model.proofs.Options.{some_none}
use Rattle.git_model.specs.Tree.{has_distinct}
use Rattle.git_store.proofs.DistinctLemmas.{bytes_eq-comm, has_distinct-push}
use Rattle.pair_known.specs.Partners.{git_at, hg_at, ArePartners, IsTable}

pub git-lookup : (es : List (Id × Id)) (node : Id) → lookup (bytes_eq node) es ≡ git_at es node
git-lookup [] node = refl
git-lookup (e ∷ es) node = by (bytes_eq e.0 node) refl (git-lookup es node)
  where
    by : (t : Bool) → bytes_eq e.0 node ≡ t → lookup (bytes_eq node) es ≡ git_at es node → lookup (bytes_eq node) (e ∷ es) ≡ git_at (e ∷ es) node
    by true t later = rw (bytes_eq-comm node e.0, t) refl
    by false t later = rw (bytes_eq-comm node e.0, t) later

pub hg-lookup : (es : List (Id × Id)) (id : Id) → lookup (bytes_eq id) (map (λ e. (e.1, e.0)) es) ≡ hg_at es id
hg-lookup [] id = refl
hg-lookup (e ∷ es) id = by (bytes_eq e.1 id) refl (hg-lookup es id)
  where
    by : (t : Bool) → bytes_eq e.1 id ≡ t → lookup (bytes_eq id) (map (λ e. (e.1, e.0)) es) ≡ hg_at es id
        → lookup (bytes_eq id) (map (λ e. (e.1, e.0)) (e ∷ es)) ≡ hg_at (e ∷ es) id
    by true t later = rw (bytes_eq-comm id e.1, t) refl
    by false t later = rw (bytes_eq-comm id e.1, t) later

-- an id that finds nothing is none of those
none_any : (f g : Id × Id → Id) (es : List (Id × Id)) (x : Id) → option_map g (find (λ e. bytes_eq (f e) x) es) ≡ None → list_any (bytes_eq x) (map f es) ≡ false
none_any f g [] x h = refl
none_any f g (e ∷ es) x h = by (bytes_eq (f e) x) refl (none_any f g es x)
  where
    by : (t : Bool) → bytes_eq (f e) x ≡ t → (option_map g (find (λ e. bytes_eq (f e) x) es) ≡ None → list_any (bytes_eq x) (map f es) ≡ false) → list_any (bytes_eq x) (map f (e ∷ es)) ≡ false
    by true t later = absurd (some_none {x = g e} (sym (rw t refl) ∙ h))
    by false t later = rw (bytes_eq-comm x (f e), t) (later (sym (rw t refl) ∙ h))

map-push : (f : Id × Id → Id) (es : List (Id × Id)) (e : Id × Id) → map f (es ++ e ∷ []) ≡ map f es ++ f e ∷ []
map-push f [] e = refl
map-push f (x ∷ es) e = ap (λ (l : List Id). f x ∷ l) (map-push f es e)

abbrev turned : Id × Id → Id × Id
turned e = (e.1, e.0)

turned-push : (es : List (Id × Id)) (e : Id × Id) → map turned (es ++ e ∷ []) ≡ map turned es ++ turned e ∷ []
turned-push [] e = refl
turned-push (x ∷ es) e = ap (λ (l : List (Id × Id)). turned x ∷ l) (turned-push es e)

distinct-push : (f g : Id × Id → Id) (es : List (Id × Id)) (e : Id × Id) → IsTrue (has_distinct (map f es)) → option_map g (find (λ x. bytes_eq (f x) (f e)) es) ≡ None → IsTrue (has_distinct (map f (es ++ e ∷ [])))
distinct-push f g es e h none = ap has_distinct (map-push f es e) ∙ has_distinct-push (map f es) (f e) ∙ rw (h, none_any f g es (f e) none) refl

pub table-push : (git hg git' hg' : List (Id × Id)) (node id : Id) → IsTable git hg → git_at git node ≡ None → hg_at git id ≡ None → git' ≡ git ++ (node, id) ∷ [] → hg' ≡ hg ++ (id, node) ∷ [] → IsTable git' hg'
table-push git hg git' hg' node id t no_git no_hg git_is hg_is =
    let partners : ArePartners (git ++ (node, id) ∷ []) = record {
      nodes = distinct-push (λ e. e.0) (λ e. e.1) git (node, id) t.partners.nodes no_git;
      ids = distinct-push (λ e. e.1) (λ e. e.0) git (node, id) t.partners.ids no_hg;
    } in
    record {
      partners = subst ArePartners (sym git_is) partners;
      turned = hg_is ∙ ap (λ (l : List (Id × Id)). l ++ (id, node) ∷ []) t.turned ∙ sym (turned-push git (node, id)) ∙ ap (map turned) (sym git_is);
    }
