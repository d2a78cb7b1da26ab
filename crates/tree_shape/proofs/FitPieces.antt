-- Both sides of a slash in a fit path are fit.
use Rattle.std.proofs.Common.{◌≡◌, ◌≤◌, ◌+◌, ℕ, true, false, not, ◌==◌, List, [], ◌∷◌, ◌++◌, length, refl, sym, ap, ◌∙◌, arith}
use Rattle.std.specs.Prelude.{nat_le}
use Rattle.std.specs.List.{list_all}
use Rattle.std.proofs.lemmas.Bool.{leb-true}
use Rattle.std.proofs.lemmas.Bool.Decides.{nat_tests}
use Rattle.std.proofs.lemmas.List.{length-append}
use Rattle.text_model.specs.Text.{Bytes, has_byte}
use Rattle.text_model.specs.Path.{components, is_fit_component, is_fit_path, is_fit_name}
use Rattle.text_model.proofs.TestLemmas.{both, differs}
use Rattle.tree_shape.proofs.FitLemmas.{fit-parts, parts-fit, all-append, lacks-parts}
use Rattle.tree_shape.proofs.Names.{components-append}

le-true : (a b : ℕ) → a ≤ b → nat_le a b ≡ true
le-true a b h = grind (arith, h, nat_tests)

nonempty : (bytes : Bytes) → list_all is_fit_component (components bytes) ≡ true → not (length bytes == 0) ≡ true
nonempty [] h = absurd cc
nonempty (b ∷ bytes) h = ap not (differs (length (b ∷ bytes)) 0 (λ e. omega (arith, e)))

pub record Pieces (path rest : Bytes) : Type 0 where
  pub first : is_fit_path path ≡ true
  pub second : is_fit_path rest ≡ true
  pub parts : components (path ++ 47 ∷ rest) ≡ components path ++ components rest

pub fit-pieces : (path rest : Bytes) → is_fit_path (path ++ 47 ∷ rest) ≡ true → Pieces path rest
fit-pieces path rest h =
    let f = fit-parts (path ++ 47 ∷ rest) h in
    let comps = components-append path rest in
    let count : length (components (path ++ 47 ∷ rest)) ≡ length (components path) + length (components rest) = ap (λ (c : List Bytes). length c) comps ∙ length-append (components path) (components rest) in
    let few : length (components (path ++ 47 ∷ rest)) ≤ 256 = leb-true (length (components (path ++ 47 ∷ rest))) 256 f.few in
    let short : length (path ++ 47 ∷ rest) ≤ 4096 = leb-true (length (path ++ 47 ∷ rest)) 4096 f.short in
    let sizes : length (path ++ 47 ∷ rest) ≡ length path + length (47 ∷ rest) = length-append path (47 ∷ rest) in
    let names = both (list_all is_fit_component (components path)) (list_all is_fit_component (components rest)) (sym (all-append is_fit_component (components path) (components rest)) ∙ sym (ap (list_all is_fit_component) comps) ∙ f.names) in
    let nul = lacks-parts 0 path rest f.no_nul in
    let lf = lacks-parts 10 path rest f.no_lf in
    let cr = lacks-parts 13 path rest f.no_cr in
    record {
      first = parts-fit path (record {
        some = nonempty path names.0;
        short = le-true (length path) 4096 (omega (arith, short, sizes));
        few = le-true (length (components path)) 256 (omega (arith, few, count));
        no_nul = nul.0;
        no_lf = lf.0;
        no_cr = cr.0;
        names = names.0;
      });
      second = parts-fit rest (record {
        some = nonempty rest names.1;
        short = le-true (length rest) 4096 (omega (arith, short, sizes));
        few = le-true (length (components rest)) 256 (omega (arith, few, count));
        no_nul = nul.1;
        no_lf = lf.1;
        no_cr = cr.1;
        names = names.1;
      });
      parts = comps;
    }

-- a fit path without a slash is a fit name
pub fit-name : (name : Bytes) → is_fit_path name ≡ true → has_byte 47 name ≡ false → is_fit_name name ≡ true
fit-name name fit plain = rw (fit, plain) refl
