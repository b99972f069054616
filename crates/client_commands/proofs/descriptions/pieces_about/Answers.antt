use Rattle.std.proofs.Common.{sym, ap}
use Rattle.client_commands.specs.declared.rows.KnownCommand.{KnownCommand}
use Rattle.client_commands.specs.Pieces.{all_parts_of}
use Rattle.client_commands.specs.Descriptions.{fields, pairs_of}
use Rattle.client_commands.proofs.descriptions.pieces_about.Goals as goal

pub returns-in-Hello : goal.returns-in-Hello
returns-in-Hello c = ap (λ (s : KnownCommand). all_parts_of (pairs_of (fields s))) (sym c.in-Hello.is)

pub returns-in-Auth : goal.returns-in-Auth
returns-in-Auth c = ap (λ (s : KnownCommand). all_parts_of (pairs_of (fields s))) (sym c.in-Auth.is)

pub returns-in-Info : goal.returns-in-Info
returns-in-Info c = ap (λ (s : KnownCommand). all_parts_of (pairs_of (fields s))) (sym c.in-Info.is)
