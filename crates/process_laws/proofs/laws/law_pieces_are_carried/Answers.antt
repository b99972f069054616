use Rattle.process_laws.proofs.CarriedPieces.{pieces_are_carried}
use Rattle.process_laws.proofs.laws.law_pieces_are_carried.Goals as goal

pub returns : goal.returns
returns c = pieces_are_carried
