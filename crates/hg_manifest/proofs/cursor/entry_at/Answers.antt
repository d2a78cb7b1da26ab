use Rattle.std.proofs.Common.{◌≡◌, Some, sym, subst, ◌∙◌, find, bytes_eq}
use Rattle.std.proofs.lemmas.Slice.Eq.{bytes_eq-Decides}
use Rattle.text_model.specs.Text.{Bytes}
use Rattle.hg_model.specs.Manifest.{ManifestEntry}
use Rattle.hg_manifest.specs.Values.{manifest_entry}
use Rattle.hg_manifest.proofs.CursorLemmas.{find-there}
use Rattle.hg_manifest.proofs.cursor.entry_at.Goals as goal

pub returns-then-eq : goal.returns-then-eq
returns-then-eq c =
    let entry = manifest_entry c.at-entry.result.now in
    let same : entry.path ≡ c.args.path.now = sym c.as_slice.ensures ∙ (bytes_eq-Decides c.as_slice.result.now c.args.path.now).0 (sym c.eq.ensures ∙ c.if-eq.true) in
    subst (λ (p : Bytes). Some entry ≡ find (λ (e : ManifestEntry). bytes_eq e.path p) c.args.manifest.now) same
    (find-there (λ (e : ManifestEntry). e.path) c.args.manifest.now c.args.place entry c.len.ensures.manifest.1 c.at-entry.ensures)
