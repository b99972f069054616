use Rattle.process_laws.proofs.FilesLeft.{files_are_left}
use Rattle.process_laws.proofs.laws.law_files_are_left.Goals as goal

pub returns : goal.returns
returns c = files_are_left
