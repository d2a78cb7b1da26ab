-- The node that a path has in the parents, by the entries of their manifests.
use Rattle.std.proofs.Common.{◌≡◌, Option, Some, None, ap, ◌∙◌, bytes_eq}
use Rattle.std.specs.Prelude.{option_map, unwrap_or}
use Rattle.std.specs.List.{find}
use Rattle.std.specs.Option.{option_or}
use Rattle.text_model.specs.Text.{Bytes}
use Rattle.text_model.specs.Id.{Id, null}
use Rattle.hg_model.specs.Manifest.{ManifestEntry}
use Rattle.pair_model.specs.Block.{Parents}
use Rattle.partner_model.specs.Mark.{node_in_parents}
use Rattle.mark_law.proofs.Entries.{node-by_entries}
use Rattle.commit_mark.specs.Over.{AreParents}
use Rattle.commit_mark.specs.Parts.{node_at}
use Rattle.commit_mark.specs.declared.over.Over.{Over}

abbrev node_of : ManifestEntry → Id
node_of e = e.node

module _ (over : Over) (ps : Parents) (are : AreParents over ps) (path : Bytes) where
  abbrev second : Option Id
  second = option_map node_of (find (λ (x : ManifestEntry). bytes_eq x.path path) ((over.second).manifest).now)

  by-entries : unwrap_or (option_or (option_map node_of (find (λ (x : ManifestEntry). bytes_eq x.path path) ((over.first).manifest).now)) second) null ≡ node_in_parents ps path
  by-entries = node-by_entries ps path ((over.first).manifest).now ((over.second).manifest).now (are.first).entries (are.second).entries

  pub node-first : (e : ManifestEntry) → Some e ≡ find (λ (x : ManifestEntry). bytes_eq x.path path) ((over.first).manifest).now → e.node ≡ node_in_parents ps path
  node-first e at = ap (λ (o : Option ManifestEntry). unwrap_or (option_or (option_map node_of o) second) null) at ∙ by-entries

  pub node-second : None ≡ find (λ (x : ManifestEntry). bytes_eq x.path path) ((over.first).manifest).now → (node : Id) → node ≡ node_at ((over.second).manifest).now path → node ≡ node_in_parents ps path
  node-second none node is = is ∙ ap (λ (o : Option ManifestEntry). unwrap_or (option_or (option_map node_of o) second) null) none ∙ by-entries
