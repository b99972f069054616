use Rattle.client_commands.proofs.Strangers.{strangers_are_answered, admitted_by_the_password}
use Rattle.client_commands.proofs.laws.law_strangers_reach_nothing.Goals as goal

pub returns : goal.returns
returns c = record { answered = strangers_are_answered; admitted = admitted_by_the_password }
