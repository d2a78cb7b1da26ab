use Rattle.format_law.proofs.BundleFormatLaws.{listed, unlisted, checked, unchecked}
use Rattle.format_law.proofs.formats.outcomes_of_bundles.Goals as goal

pub returns-clause-listed : goal.returns-clause-listed
returns-clause-listed c = listed

pub returns-clause-unlisted : goal.returns-clause-unlisted
returns-clause-unlisted c = unlisted

pub returns-clause-checked : goal.returns-clause-checked
returns-clause-checked c = checked

pub returns-clause-unchecked : goal.returns-clause-unchecked
returns-clause-unchecked c = unchecked
