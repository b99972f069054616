use Rattle.channel_transport.proofs.all_nodes.carry_out.Goals as goal

-- what is still held is dropped at the end
pub returns-clause-held : goal.returns-clause-held
returns-clause-held c = c.drop_held.ensures.held
