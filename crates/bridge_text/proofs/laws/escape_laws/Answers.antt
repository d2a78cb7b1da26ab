use Rattle.text_model.proofs.EscapeLemmas.{escape-injective, escape-judged, bad_escape-is_no_escape, bad_escape-place_is}
use Rattle.bridge_text.proofs.laws.escape_laws.Goals as goal

pub returns-clause-one : goal.returns-clause-one
returns-clause-one c = escape-injective

pub returns-clause-either : goal.returns-clause-either
returns-clause-either c = escape-judged

pub returns-clause-not_both : goal.returns-clause-not_both
returns-clause-not_both c = bad_escape-is_no_escape

pub returns-clause-one_place : goal.returns-clause-one_place
returns-clause-one_place c = bad_escape-place_is
