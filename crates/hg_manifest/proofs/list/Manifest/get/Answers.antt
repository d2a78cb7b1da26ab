use Rattle.std.proofs.Common.{◌≡◌, Some, ◌∷◌, [], List, map, true, refl, sym, ap, ◌∙◌, nat_cmp, bytes_eq, find, subst}
use Rattle.std.specs.Prelude.{option_map}
use Rattle.std.specs.Cmp.Lexicographic.{slice_cmp}
use Rattle.std.proofs.lemmas.Fn.{always_returns_same}
use Rattle.text_model.specs.Text.{Bytes, is_below}
use Rattle.text_model.specs.Lists.{rises}
use Rattle.text_model.proofs.Search.{got, not_got, find-map}
use Rattle.hg_model.specs.Manifest.{ManifestEntry, IsManifest}
use Rattle.hg_manifest.specs.Values.{manifest_entry}
use Rattle.hg_manifest.specs.declared.entry.Entry.{Entry}
use Rattle.hg_manifest.proofs.list.Manifest.get.Goals as goal

abbrev path_in : Entry → Bytes
path_in e = e.path

paths : (xs : List Entry) → map (λ (e : ManifestEntry). e.path) (map manifest_entry xs) ≡ map path_in xs
paths [] = refl
paths (x ∷ xs) = ap (λ (l : List Bytes). path_in x ∷ l) (paths xs)

paths_rise : (xs : List Entry) → IsManifest (map manifest_entry xs) → rises is_below (map path_in xs) ≡ true
paths_rise xs is = subst (λ (l : List Bytes). rises is_below l ≡ true) (paths xs) is.1

pub returns-in-Ok : goal.returns-in-Ok
returns-in-Ok c =
    let position = c.in-Ok.ensures.position (λ e. slice_cmp nat_cmp e.path c.args.path.now) (always_returns_same _ _ _ (λ a r f called. (called.met.1, λ i. record { 0 = called.met.0 i }))) in
    let items = c.self.inside.entries.items in
    ap (λ (e : Entry). Some (manifest_entry e)) c.get.ensures
    ∙ ap (option_map manifest_entry) (got path_in items c.args.path.now c.in-Ok.i c.index.result.now (paths_rise items c.self.invariant) (rw (sym c.deref.ensures.value) c.in-Ok.ensures.bound) (rw (sym c.deref.ensures.value) position) c.index.ensures)
    ∙ sym (find-map manifest_entry (λ e. bytes_eq e.path c.args.path.now) items)
    ∙ ap (λ (l : List ManifestEntry). find (λ e. bytes_eq e.path c.args.path.now) l) c.self.view_is

pub returns-in-Err : goal.returns-in-Err
returns-in-Err c =
    let position = c.in-Err.ensures.position (λ e. slice_cmp nat_cmp e.path c.args.path.now) (always_returns_same _ _ _ (λ a r f called. (called.met.1, λ i. record { 0 = called.met.0 i }))) in
    let items = c.self.inside.entries.items in
    ap (option_map manifest_entry) (not_got path_in items c.args.path.now c.in-Err.field-0 (paths_rise items c.self.invariant) (rw (sym c.deref.ensures.value) position))
    ∙ sym (find-map manifest_entry (λ e. bytes_eq e.path c.args.path.now) items)
    ∙ ap (λ (l : List ManifestEntry). find (λ e. bytes_eq e.path c.args.path.now) l) c.self.view_is
