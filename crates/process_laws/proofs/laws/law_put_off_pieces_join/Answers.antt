use Rattle.process_laws.proofs.PutOff.{put_off_pieces_join}
use Rattle.process_laws.proofs.laws.law_put_off_pieces_join.Goals as goal

pub returns : goal.returns
returns c = put_off_pieces_join
