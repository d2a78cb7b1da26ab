use Rattle.std.proofs.Common.{◌∷◌, [], refl, arith}
use Rattle.hg_model.specs.Bundle.{bundle_text, group_text}
use Rattle.hg_model.specs.Chunk.{chunk_text}
use Rattle.hg_tests.proofs.dumps.dumps_of_nothing.Goals as goal

pub is_dump_of_nothing-requires : goal.is_dump_of_nothing-requires
unfolding bundle_text group_text chunk_text
is_dump_of_nothing-requires g c = record {
  bundle = record { changesets = []; manifests = []; files = [] };
  is = record { spells = refl; changesets = tt; manifests = tt; files = tt };
  changesets = tt;
  manifests = tt;
  files = tt;
}

pub is_dump_of_nothing-requires-2 : goal.is_dump_of_nothing-requires-2
unfolding bundle_text group_text chunk_text
is_dump_of_nothing-requires-2 g c = record {
  bundle = record { changesets = []; manifests = []; files = record { path = 97 ∷ []; entries = [] } ∷ [] };
  is = record { spells = refl; changesets = tt; manifests = tt; files = ((λ e. absurd cc, omega arith, tt), tt) };
  changesets = tt;
  manifests = tt;
  files = (tt, tt);
}
