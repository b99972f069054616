-- The worked examples are computed.
use Rattle.std.proofs.Common.{refl}
use lib.Utf8.{encode}
use Rattle.std.specs.Prelude.{⊤}
use Rattle.std.specs.Fmt.{digits}
use Rattle.std.specs.Str.{is_utf8, chars}
use Rattle.ballot_law.specs.Words.{hex}
use Rattle.failover_states.specs.Replicas.{told, is_due, is_next}
use Rattle.sentinel_rules.specs.States.{is_unrefused}
use Rattle.sentinel_rules.specs.Endings.{is_outvoted, is_contested, is_split_in}
use Rattle.sentinel_rules.specs.Ticks.{hands_over}
use Rattle.sentinel_rules.specs.Worked.{OneVoteAnEpoch, QuestionsRaiseNothing, NothingOfNobody, VoteAfterARestart, ShortAnswers, InfoInBytes, AFailover, FailoverGoesOn, ATickInFull, HelloInBytes, VotesOfAnotherEpoch, VoteThatWasNotStored, NoEpochIsLeft, AdoptionEndsAFailover, OnlyNewerIsAdopted, NothingIsJudgedInTilt, AVoteDelaysTheOwnCampaign, ReplicasOneByOne, AFormerMasterFollows, AReplicaOfAnotherFollows, ShownInAFailover, ASwitchForgetsTheStart, ALostCandidateHoldsNobodyBack, AGhostGetsNoVote, WhoRefusesIsPassedOver, APlannedSwitch, ASwitchAtTheNodes}

-- what is unfolded to compute texts and failovers that are written out
unfoldable pub on_literals : ⊤
unfolding is_unrefused hands_over is_outvoted is_contested is_split_in told is_due is_next is_utf8 chars encode digits hex
on_literals = tt

pub one_vote_an_epoch : OneVoteAnEpoch
one_vote_an_epoch = refl

pub questions_raise_nothing : QuestionsRaiseNothing
questions_raise_nothing = refl

pub nothing_of_nobody : NothingOfNobody
nothing_of_nobody = refl

pub vote_after_a_restart : VoteAfterARestart
vote_after_a_restart = record { held = refl; told = refl; untold = refl }

pub short_answers : ShortAnswers
unfolding on_literals
short_answers = refl

pub info_in_bytes : InfoInBytes
unfolding on_literals
info_in_bytes = refl

pub a_failover : AFailover
unfolding on_literals
a_failover = refl

pub failover_goes_on : FailoverGoesOn
unfolding on_literals
failover_goes_on =
    record {
      before = refl;
      started = refl;
      elected = refl;
      won = refl;
      chosen = refl;
      told = refl;
      same_card = refl;
      promoted = refl;
      new_card = refl;
      updating = refl;
      ended =
          refl;
    }

pub a_tick_in_full : ATickInFull
unfolding on_literals
a_tick_in_full = refl

pub hello_in_bytes : HelloInBytes
unfolding on_literals
hello_in_bytes = refl

pub votes_of_another_epoch : VotesOfAnotherEpoch
unfolding on_literals
votes_of_another_epoch = record { campaign = refl; raised = refl; counted = refl; needed = refl; not_won = refl; waiting = refl }

pub vote_that_was_not_stored : VoteThatWasNotStored
unfolding on_literals
vote_that_was_not_stored = record { voted = refl; not_won = refl; free = refl }

pub no_epoch_is_left : NoEpochIsLeft
unfolding on_literals
no_epoch_is_left = record { outputs = refl; odown = refl; none = refl; kept = refl }

pub adoption_ends_a_failover : AdoptionEndsAFailover
unfolding on_literals
adoption_ends_a_failover = record { told = refl; adopted = refl; ended = refl; stays = refl; silent = refl }

pub only_newer_is_adopted : OnlyNewerIsAdopted
unfolding on_literals
only_newer_is_adopted = record { equal = refl; too_large = refl; why_too_large = refl; why_too_short = refl }

pub nothing_is_judged_in_tilt : NothingIsJudgedInTilt
unfolding on_literals
nothing_is_judged_in_tilt = refl

pub a_vote_delays_the_own_campaign : AVoteDelaysTheOwnCampaign
unfolding on_literals
a_vote_delays_the_own_campaign = refl

pub a_switch_forgets_the_start : ASwitchForgetsTheStart
unfolding on_literals
a_switch_forgets_the_start = record { strict_info = refl; redis_info = refl; strict = refl; redis = refl }

pub a_lost_candidate_holds_nobody_back : ALostCandidateHoldsNobodyBack
unfolding on_literals
a_lost_candidate_holds_nobody_back = refl

pub a_ghost_gets_no_vote : AGhostGetsNoVote
unfolding on_literals
a_ghost_gets_no_vote = record { strict = refl; redis = refl }

pub who_refuses_is_passed_over : WhoRefusesIsPassedOver
unfolding on_literals
who_refuses_is_passed_over = record { strict = refl; redis = refl }

pub replicas_one_by_one : ReplicasOneByOne
unfolding on_literals
replicas_one_by_one = refl

pub a_former_master_follows : AFormerMasterFollows
unfolding on_literals
a_former_master_follows = refl

pub a_replica_of_another_follows : AReplicaOfAnotherFollows
unfolding on_literals
a_replica_of_another_follows = refl

pub shown_in_a_failover : ShownInAFailover
unfolding on_literals
shown_in_a_failover = record { master = refl; replicas = refl; sentinels = refl; usable = refl }

pub a_planned_switch : APlannedSwitch
unfolding on_literals
a_planned_switch = record { begun = refl; done = refl; stays = refl; idle = refl; busy = refl; strict = refl; fresh = refl; lapsed = refl }

pub a_switch_at_the_nodes : ASwitchAtTheNodes
unfolding on_literals
a_switch_at_the_nodes = record { redis = refl; strict = refl; chosen = refl }
