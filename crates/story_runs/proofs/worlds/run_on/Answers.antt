use Rattle.story_runs.proofs.Groups.{stands_in}
use Rattle.story_runs.proofs.worlds.run_on.Goals as goal

pub run-requires-in-Err-NoMemory-clause-stands : goal.run-requires-in-Err-NoMemory-clause-stands
run-requires-in-Err-NoMemory-clause-stands g c =
    stands_in c.args.world.now.roster c.run.new.self.roster c.run.new.self.members.items c.run.new.self.messages.items c.run.ensures.roster _ _ c.run.ensures.stands

pub returns-in-Ok : goal.returns-in-Ok
returns-in-Ok g c =
    stands_in c.args.world.now.roster c.run.new.self.roster c.run.new.self.members.items c.run.new.self.messages.items c.run.ensures.roster _ _ c.run.ensures.stands

pub returns-in_err-report-in-Err-NoMemory : goal.returns-in_err-report-in-Err-NoMemory
returns-in_err-report-in-Err-NoMemory g c =
    stands_in c.run.new.self.roster c.run-in-Err-NoMemory.new.self.roster c.run-in-Err-NoMemory.new.self.members.items c.run-in-Err-NoMemory.new.self.messages.items
    c.run-in-Err-NoMemory.ensures.roster _ _ c.run-in-Err-NoMemory.ensures.stands

pub returns-in_ok-report-in-Err-NoMemory : goal.returns-in_ok-report-in-Err-NoMemory
returns-in_ok-report-in-Err-NoMemory g c =
    stands_in c.run.new.self.roster c.run-in-Err-NoMemory.new.self.roster c.run-in-Err-NoMemory.new.self.members.items c.run-in-Err-NoMemory.new.self.messages.items
    c.run-in-Err-NoMemory.ensures.roster _ _ c.run-in-Err-NoMemory.ensures.stands
