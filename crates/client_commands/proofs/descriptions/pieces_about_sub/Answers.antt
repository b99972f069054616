use Rattle.std.proofs.Common.{sym, ap}
use Rattle.client_commands.specs.declared.rows.KnownCommand.{KnownCommand}
use Rattle.client_commands.specs.Pieces.{all_parts_of}
use Rattle.client_commands.specs.Descriptions.{fields, pairs_of}
use Rattle.client_commands.proofs.descriptions.pieces_about_sub.Goals as goal

pub returns-in-ClientList : goal.returns-in-ClientList
returns-in-ClientList c = λ known. ap (λ (s : KnownCommand). all_parts_of (pairs_of (fields s))) (sym c.in-ClientList.is)

pub returns-in-ClientKill : goal.returns-in-ClientKill
returns-in-ClientKill c = λ known. ap (λ (s : KnownCommand). all_parts_of (pairs_of (fields s))) (sym c.in-ClientKill.is)

pub returns-in-ClientReply : goal.returns-in-ClientReply
returns-in-ClientReply c = λ known. ap (λ (s : KnownCommand). all_parts_of (pairs_of (fields s))) (sym c.in-ClientReply.is)

pub returns-in-CommandInfo : goal.returns-in-CommandInfo
returns-in-CommandInfo c = λ known. ap (λ (s : KnownCommand). all_parts_of (pairs_of (fields s))) (sym c.in-CommandInfo.is)

pub returns-in-CommandList : goal.returns-in-CommandList
returns-in-CommandList c = λ known. ap (λ (s : KnownCommand). all_parts_of (pairs_of (fields s))) (sym c.in-CommandList.is)

pub returns-in-SentinelSlaves : goal.returns-in-SentinelSlaves
returns-in-SentinelSlaves c = λ known. ap (λ (s : KnownCommand). all_parts_of (pairs_of (fields s))) (sym c.in-SentinelSlaves.is)

pub returns-in-SentinelConfig : goal.returns-in-SentinelConfig
returns-in-SentinelConfig c = λ known. ap (λ (s : KnownCommand). all_parts_of (pairs_of (fields s))) (sym c.in-SentinelConfig.is)
