use Rattle.commit_rule.proofs.BlobLemmas.{lent-text}
use Rattle.commit_rule.proofs.fresh.shared_body_of.Goals as goal

pub body_in-body-requires : goal.body_in-body-requires
body_in-body-requires c =
    let r = c.requires.held.0 in
    record {
      file = (
        (r.revision).meta,
        (r.revision).body,
        lent-text c.as_slice.result.now c.text_of-text.result.now (r.revision).meta (r.revision).body c.as_slice.ensures (c.text_of-text.ensures r c.requires.held.1),
      );
    }
