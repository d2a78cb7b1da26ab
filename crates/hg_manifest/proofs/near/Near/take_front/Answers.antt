use Rattle.std.proofs.Common.{◌≡◌, ◌++◌, map, length, ap, sym, ◌∙◌, take, drop, take-append-drop, arith}
use Rattle.std.proofs.lemmas.Slice.Eq.{bytes_eq-Decides}
use Rattle.text_model.specs.Text.{Bytes}
use Rattle.hg_model.specs.Manifest.{manifest_text}
use Rattle.hg_manifest.specs.Values.{manifest_entry}
use Rattle.hg_manifest.proofs.BesideLemmas.{front-lines}
use Rattle.hg_manifest.proofs.near.Near.take_front.Goals as goal

pub returns-clause-first : goal.returns-clause-first
returns-clause-first c =
    let front = c.in_ok-entries.ensures.some in
    let text : Bytes = c.in_ok-entries.text.now in
    let rest : Bytes = c.args.rest.now in
    let cases = c.in_ok-after.ensures.cases in
    let same : take (length text) rest ≡ text = (bytes_eq-Decides (take (length text) rest) text).0 cases.0 in
    record {
      some = omega (arith, c.requires.some, front.many);
      are = front.text_is.0;
      whole = sym (take-append-drop (length text) rest) ∙ ap (λ (x : Bytes). x ++ drop (length text) rest) (same ∙ front.text_is.1) ∙ ap (λ (x : Bytes). manifest_text (map manifest_entry c.in_ok-entries.entries.now) ++ x) (sym cases.1);
    }

pub returns-clause-lines : goal.returns-clause-lines
returns-clause-lines c = front-lines c.args.self.now (map manifest_entry c.in_ok-entries.entries.now) c.in_ok-entries.behind c.in_ok-entries.ensures.some.whole
