-- What two processes do whose Sentinels hear each other over connections, and a third one that begins after the first: an election by the other one's vote, an adoption by hello, a
-- refused store and a start after it. They meet all premises of the law of connected processes.
use Rattle.std.specs.Prelude.{◌≡◌, ℕ, eqb, cond, Some, List, [], ◌∷◌, ◌++◌, map}
use Rattle.std.specs.List.{flat_map}
use Rattle.ballot_law.specs.declared.commands.Command.TheVariants.{MyId}
use Rattle.ballot_law.specs.declared.events.Event.TheVariants.{Command}
use Rattle.ballot_law.specs.declared.messages.Body.TheVariants.{PortReply}
use Rattle.ballot_law.specs.declared.messages.NodeName.TheVariants.{SentinelAt, PortAt}
use Rattle.ballot_law.specs.declared.records.Election.{Election}
use Rattle.ballot_law.specs.declared.steps.KeptText.TheVariants.{New}
use Rattle.ballot_law.specs.Law.{IsStart}
use Rattle.ballot_law.specs.Rosters.{id_of, HasDistinctIds}
use Rattle.port_answers.specs.Answers.{id_frame}
use Rattle.resp2.specs.Framing.Frame.{spelling}
use Rattle.sentinel_rules.specs.Worked.{id_a, id_b, ask_at, answer_at}
use Rattle.process_laws.specs.Actions.{Action, Opened, Took, Told, all_elected, all_said, at_first, opened_by}
use Rattle.process_laws.specs.Connected.{Deed, Takes, Tells, Life, AreConnected}
use Rattle.process_laws.specs.OwnActions.{own_of}
use Rattle.process_laws.specs.TwoProcesses.{roster, begin, first_file, left_file, plan_at, opens, takes, asked_by, refuses, sends, beginning, finding_down, electing, promoting, adopting, actions}

-- the first connects to the other one, which tells its run id
abbrev pub meeting : List Action
meeting = asked_by (SentinelAt 0) 1 (605, Command (PortAt 0) MyId) (sends 1 (PortAt 0) (PortReply [] (spelling (id_frame (id_of roster 1)))) ∷ []) ∷ []

-- a refused store leaves the new text
abbrev pub leaving_new : Action → Action
leaving_new (Opened place world now) = Opened place world now
leaving_new (Took place entry asker left) = Took place entry asker New
leaving_new (Told place master) = Told place master

-- then the first finds the master down, and all comes as in `TwoProcesses`, until a store of the first is refused
abbrev pub until_refused : List Action
until_refused =
    map leaving_new
    (meeting ++ (finding_down ++ (electing ++ (promoting ++ (adopting ++ refuses (SentinelAt 1) 0 (ask_at 930 6380 2 (Some id_b)) ∷ [])))))

-- the process that begins then takes the other one's answer a second time, and is asked for the address
abbrev pub from_then_on : List Action
from_then_on = map leaving_new (takes 0 (answer_at 1010 1 (Some id_a) 1) [] ∷ Told 0 0 ∷ [])

abbrev pub order : List Action
order = beginning ++ (until_refused ++ (opens 0 id_a left_file 1000 ∷ from_then_on))

abbrev pub deeds_of : Action → List Deed
deeds_of (Opened place world now) = []
deeds_of (Took place entry asker left) = Takes entry asker ∷ []
deeds_of (Told place master) = Tells master ∷ []

abbrev pub life_of : (place : ℕ) → Life
life_of place =
    record {
      opened = opened_by (plan_at place (id_of roster place) first_file) 0;
      now = 0;
      deeds = flat_map deeds_of (own_of place until_refused);
      left = New;
    }

abbrev pub next_life : Life
next_life = record { opened = opened_by (plan_at 0 id_a left_file) 1000; now = 1000; deeds = flat_map deeds_of (own_of 0 from_then_on); left = New }

-- two processes of the first Sentinel, and one of the other
abbrev pub lives : (place : ℕ) → List Life
lives place = life_of place ∷ cond (eqb place 0) (next_life ∷ []) []

-- there are such processes; one of them is elected, and they say what they say in `TwoProcesses`
abbrev pub ConnectedProcessesHappen : Type 0
ConnectedProcessesHappen =
    HasDistinctIds roster
    × IsStart roster begin
    × AreConnected roster begin lives order
    × (all_elected (at_first begin) order ≡ (let e : Election = record { sentinel = 0; master = 0; epoch = 1 } in e) ∷ [])
    × (all_said roster (at_first begin) order ≡ all_said roster (at_first begin) actions)
