use Rattle.pair_model.proofs.MessageLemmas.{description_of-message_of, message_of-description_of, ends_with-message_of}
use Rattle.name_rule.proofs.laws.message_laws.Goals as goal

pub returns-clause-description : goal.returns-clause-description
returns-clause-description c = description_of-message_of

pub returns-clause-message : goal.returns-clause-message
returns-clause-message c message = (ends_with-message_of message, message_of-description_of message)
