use Rattle.process_laws.proofs.ReadFiles.{read_files_keep_masters_apart}
use Rattle.process_laws.proofs.link_laws.law_read_files_keep_masters_apart.Goals as goal

pub returns : goal.returns
returns c = read_files_keep_masters_apart
