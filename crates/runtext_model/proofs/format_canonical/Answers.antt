use Rattle.runtext_model.proofs.Returns.{canonical}
use Rattle.runtext_model.proofs.format_canonical.Goals as goal

pub returns : goal.returns
returns c = canonical
