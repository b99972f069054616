use Rattle.sentinel_rules.proofs.WorkedRows.{a_switch_forgets_the_start, a_lost_candidate_holds_nobody_back, a_ghost_gets_no_vote, who_refuses_is_passed_over}
use Rattle.sentinel_rules.proofs.worked.law_example_profiles.Goals as goal

pub returns-clause-a_switch_forgets_the_start : goal.returns-clause-a_switch_forgets_the_start
returns-clause-a_switch_forgets_the_start c = a_switch_forgets_the_start

pub returns-clause-a_lost_candidate_holds_nobody_back : goal.returns-clause-a_lost_candidate_holds_nobody_back
returns-clause-a_lost_candidate_holds_nobody_back c = a_lost_candidate_holds_nobody_back

pub returns-clause-a_ghost_gets_no_vote : goal.returns-clause-a_ghost_gets_no_vote
returns-clause-a_ghost_gets_no_vote c = a_ghost_gets_no_vote

pub returns-clause-who_refuses_is_passed_over : goal.returns-clause-who_refuses_is_passed_over
returns-clause-who_refuses_is_passed_over c = who_refuses_is_passed_over
