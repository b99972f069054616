-- A run with answers at any moment, and a process that is killed within a take. One of the threads that answer clients while a Sentinel stores may show a
-- client what was stored long before; none shows what isn't stored. The roster, the start and the first failover are those of `ballot_law`'s `Refusals`.
use Rattle.std.specs.Prelude.{◌≡◌, ◌-◌, Some, List, [], ◌∷◌, ◌++◌}
use Rattle.ballot_law.specs.declared.cards.Card.{Card}
use Rattle.ballot_law.specs.declared.cards.Kept.{Kept}
use Rattle.ballot_law.specs.declared.cards.TheConstants.{MAX_EPOCH}
use Rattle.ballot_law.specs.declared.events.Event.TheVariants.{Tick}
use Rattle.ballot_law.specs.declared.records.Election.{Election}
use Rattle.ballot_law.specs.declared.steps.KeptText.TheVariants.{New}
use Rattle.ballot_law.specs.declared.steps.Step.TheVariants.{Take, Store, Release, Stop, Start, Answer}
use Rattle.ballot_law.specs.RosterFaults.{IsRoster}
use Rattle.ballot_law.specs.Ballots.{vote}
use Rattle.ballot_law.specs.Worlds.{Ready, World, sentinel_at, Move, StepOf, LateAnswer, Joined}
use Rattle.ballot_law.specs.Law.{IsStart}
use Rattle.ballot_law.specs.Refusals.{addr, own_id, roster, begin, me, at_zero, first_card, second_card, new_card, says}

-- the first master's configuration after two failovers: at its first address again, in the last epoch
abbrev pub last_card : Card
last_card = record { epoch = MAX_EPOCH; addr = addr 6379 }

-- what the process that was killed left in its file
abbrev pub left_file : Kept
left_file =
    record {
      current = MAX_EPOCH;
      masters =
          (record { card = last_card; voted = MAX_EPOCH; candidate = Some own_id })
          ∷ (record { card = second_card; voted = 5; candidate = Some own_id })
          ∷ [];
    }

-- A failover: answered before its store, after its release, and late, with what was stored before it; there were no two stores yet
abbrev pub first_failover : List Move
first_failover =
    StepOf (Start me 0)
    ∷ StepOf (Take me (at_zero (Tick 0 0)))
    ∷ StepOf (Answer me 0)
    ∷ StepOf (Store me)
    ∷ StepOf (Release me)
    ∷ StepOf (Answer me 0)
    ∷ LateAnswer 0 0 0
    ∷ LateAnswer 0 0 2
    ∷ []

-- Another one: answered within its take, at once and late. Then the process is killed, after its file was written; a killed process answers nothing
abbrev pub second_failover : List Move
second_failover =
    StepOf (Take me (at_zero (Tick 0 0)))
    ∷ StepOf (Answer me 0)
    ∷ LateAnswer 0 0 0
    ∷ StepOf (Stop me New)
    ∷ LateAnswer 0 0 1
    ∷ []

-- It begins anew by its file, and what was stored before that isn't shown any more
abbrev pub begun_anew : List Move
begun_anew =
    StepOf (Start me 0)
    ∷ StepOf (Answer me 0)
    ∷ LateAnswer 0 0 0
    ∷ LateAnswer 0 0 1
    ∷ []

abbrev pub moves : List Move
moves = first_failover ++ second_failover ++ begun_anew

-- what the world shows at the end
pub record IsEnd (last : World) : Type 0 where
  -- the vote of the take in which the process was killed counts, since its file holds it
  pub votes : last.votes ≡ vote 0 1 5 own_id ∷ vote 0 0 (MAX_EPOCH - 1) own_id ∷ vote 0 0 MAX_EPOCH own_id ∷ []
  -- its win is no election
  pub elected_are : last.elected ≡ (let e : Election = record { sentinel = 0; master = 0; epoch = MAX_EPOCH - 1 } in e) ∷ []
  -- the third and the fifth answer are late; the last two show what the file was left with
  pub said : last.said
      ≡ says 0 first_card
      ∷ says 0 new_card
      ∷ says 0 first_card
      ∷ says 0 new_card
      ∷ says 0 first_card
      ∷ says 0 last_card
      ∷ says 0 last_card
      ∷ []
  pub messages : last.messages ≡ []
  pub state : (sentinel_at last 0).state ≡ Ready
  pub file : (sentinel_at last 0).file ≡ left_file

-- there is such a run
abbrev pub LateAnswersHappen : Type 0
LateAnswersHappen =
    IsRoster roster
    × IsStart roster begin
    × ((last : World) × Joined roster moves begin last × IsEnd last)
