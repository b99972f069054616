use Rattle.resp2.proofs.FramingLemmas.Window.{frame_again}
use Rattle.node_texts.specs.Roles.{role_frame}
use Rattle.node_texts.proofs.RoleAgain.{role_again}
use Rattle.node_texts.proofs.roles.write_role.Goals as goal

pub returns-in-Ok-clause-again : goal.returns-in-Ok-clause-again
returns-in-Ok-clause-again c = role_again c.args.role.now c.requires

pub returns-in-Err-clause-again : goal.returns-in-Err-clause-again
returns-in-Err-clause-again c = role_again c.args.role.now c.requires

pub returns-in-Ok-clause-frame : goal.returns-in-Ok-clause-frame
returns-in-Ok-clause-frame c = λ rest. frame_again (role_frame c.args.role.now) rest c.push_role.ensures.whole

pub returns-in-Err-clause-frame : goal.returns-in-Err-clause-frame
returns-in-Err-clause-frame c = λ rest. frame_again (role_frame c.args.role.now) rest c.push_role.ensures.whole
