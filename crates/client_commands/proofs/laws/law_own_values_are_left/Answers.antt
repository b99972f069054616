use Rattle.client_commands.proofs.OwnValues.{own_is_left, own_is_same, refused_or_left}
use Rattle.client_commands.proofs.laws.law_own_values_are_left.Goals as goal

pub returns : goal.returns
returns c = record { own = own_is_left; same = own_is_same; refused = refused_or_left }
