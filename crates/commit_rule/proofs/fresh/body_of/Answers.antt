use Rattle.commit_rule.proofs.BlobLemmas.{lent-text}
use Rattle.commit_rule.proofs.fresh.body_of.Goals as goal

pub body_in-requires : goal.body_in-requires
body_in-requires c =
    let r = c.requires.held.0 in
    record {
      file = (
        (r.revision).meta,
        (r.revision).body,
        lent-text c.as_slice.result.now c.text_of.result.now (r.revision).meta (r.revision).body c.as_slice.ensures (c.text_of.ensures r c.requires.held.1),
      );
    }

pub returns : goal.returns
returns c = λ r is.
    c.body_in.ensures (r.revision).meta (r.revision).body
    (lent-text c.as_slice.result.now c.text_of.result.now (r.revision).meta (r.revision).body c.as_slice.ensures (c.text_of.ensures r is))
