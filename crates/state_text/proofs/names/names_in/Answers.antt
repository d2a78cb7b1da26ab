use Rattle.state_text.proofs.NameLemmas.{found-names}
use Rattle.state_text.proofs.names.names_in.Goals as goal

pub returns-in-Ok : goal.returns-in-Ok
returns-in-Ok c =
    found-names (record { pairs = c.args.partners.now; tags = c.args.tags.now }) c.args.text.now c.in-Ok.names c.printed.result c.in-Ok.ensures.names c.printed.ensures
