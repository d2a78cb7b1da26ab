-- What the types of this crate stand for.
use Rattle.pair_model.specs.User as model
use Rattle.name_rule.specs.declared.address.Address.{Address}

abbrev pub address_value : Address → model.Address
address_value a = record { name = a.name.now; email = a.email.now }
