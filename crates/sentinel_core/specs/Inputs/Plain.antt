-- The commands whose answers need no text, and what the others ask about one master.
use Rattle.std.specs.Prelude.{ℕ, Bool, true, false, [], ◌∷◌}
use Rattle.ballot_law.specs.declared.messages.Body.{Body}
use Rattle.ballot_law.specs.declared.commands.Command.{Command}
use Rattle.ballot_law.specs.declared.commands.Command.TheVariants.{Ping, IsMasterDownByAddr, GetMasterAddrByName, Masters, Master, Replicas, Sentinels, MyId, CkQuorum, Failover, FlushConfig, Subscribe, Info}
use Rattle.sentinel_core.specs.declared.inputs.commands.Asked.{Asked}
use Rattle.sentinel_core.specs.declared.inputs.commands.Asked.TheVariants.{Whole, Replicas as OfReplicas, Sentinels as OfSentinels, Quorum}
use Rattle.sentinel_rules.specs.Answers.{master_row, replica_rows, sentinel_rows, quorum_frame, reply}
use Rattle.sentinel_rules.specs.Plans.{Plan}
use Rattle.sentinel_rules.specs.Rows.{master_frame_by, replicas_frame_by, sentinels_frame_by}
use Rattle.sentinel_rules.specs.States.{Core}

-- the answer is a value of its own kind, and not the bytes of a text
abbrev pub is_plain : Command → Bool
is_plain Ping = true
is_plain (IsMasterDownByAddr addr epoch candidate) = true
is_plain (GetMasterAddrByName name) = true
is_plain Masters = false
is_plain (Master name) = false
is_plain (Replicas name) = false
is_plain (Sentinels name) = false
is_plain MyId = false
is_plain (CkQuorum name) = false
is_plain (Failover name) = false
is_plain FlushConfig = false
is_plain Subscribe = false
is_plain Info = false

-- it asks for a switch
abbrev pub is_switch : Command → Bool
is_switch (Failover name) = true
is_switch _ = false

-- the answer to what is asked about the master with a number
abbrev pub answer_about : Plan → Core → (now : ℕ) → Asked → (m : ℕ) → Body
answer_about plan core now Whole m = reply core (m ∷ []) (master_frame_by plan.profile (master_row plan core now m))
answer_about plan core now OfReplicas m = reply core [] (replicas_frame_by plan.profile (replica_rows plan core now m))
answer_about plan core now OfSentinels m = reply core [] (sentinels_frame_by plan.profile (sentinel_rows plan core now m))
answer_about plan core now Quorum m = reply core [] (quorum_frame plan core now m)
