use Rattle.process_laws.proofs.Openings.{pieces_are_a_new_connection}
use Rattle.process_laws.proofs.Pieces.{pieces_are_a_connection}
use Rattle.process_laws.proofs.shared_laws.law_pieces_are_a_connection.Goals as goal

pub returns : goal.returns
returns c = record { later = pieces_are_a_connection; anew = pieces_are_a_new_connection }
