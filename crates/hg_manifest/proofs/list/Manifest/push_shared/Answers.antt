use Rattle.std.proofs.Common.{List, sym, subst, IsTrue}
use Rattle.hg_model.specs.Manifest.{ManifestEntry, rises_above, last_path}
use Rattle.hg_manifest.proofs.ReadLemmas.{pushed}
use Rattle.hg_manifest.proofs.list.Manifest.push_shared.Goals as goal

pub invariant_of-self-2 : goal.invariant_of-self-2
invariant_of-self-2 c =
    let above = subst (λ (es : List ManifestEntry). IsTrue (rises_above (last_path es) c.args.shared.path)) (sym c.self.view_is) c.requires.rises in
    pushed c.self.inside.entries.items c.push.new.self.items c.args.shared c.in_ok-push.ensures.items c.self.invariant c.requires.fit above
