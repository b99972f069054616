-- What a Sentinel's calls on the watch of one node tell of that node. The latest call stands first.
use Rattle.std.specs.Prelude.{◌≡◌, ℕ, ◌+◌, min, Bool, nat_lt, Option, Some, None, option_map, unwrap_or, List, [], ◌∷◌, if◌then◌else◌}
use Rattle.ballot_law.specs.declared.periods.TheConstants.{REPLICA_MS}
use Rattle.ballot_law.specs.declared.replies.PingReply.{PingReply}
use Rattle.ballot_law.specs.declared.replies.DataRole.{DataRole}
use Rattle.ballot_law.specs.declared.replies.DataRole.TheVariants.{Master, Replica}
use Rattle.ballot_law.specs.PingReplies.{is_valid}
use Rattle.ballot_law.specs.Clocks.{age}

pub data WatchCall : Type 0 where
  HeardReply : (at : ℕ) → (reply : PingReply) → WatchCall
  ReportedRole : (at : ℕ) → (role : DataRole) → WatchCall
  ChangedCard : (at : ℕ) → WatchCall

-- the moment of the last valid reply
abbrev pub last_reply : List WatchCall → Option ℕ
last_reply [] = None
last_reply (HeardReply at reply ∷ earlier) = if is_valid reply then Some at else last_reply earlier
last_reply (ReportedRole at role ∷ earlier) = last_reply earlier
last_reply (ChangedCard at ∷ earlier) = last_reply earlier

-- silence counts from the last valid reply, before the first one from the opening of the watch
abbrev pub silent_from : (opened : ℕ) → List WatchCall → ℕ
silent_from opened calls = unwrap_or (last_reply calls) opened

-- since when the node has reported itself a replica without a break; a change of its master's configuration starts that time anew
abbrev pub replica_since : List WatchCall → Option ℕ
replica_since [] = None
replica_since (HeardReply at reply ∷ earlier) = replica_since earlier
replica_since (ReportedRole at Master ∷ earlier) = None
replica_since (ReportedRole at Replica ∷ earlier) = Some (unwrap_or (replica_since earlier) at)
replica_since (ChangedCard at ∷ earlier) = option_map (λ _. at) (replica_since earlier)

-- the end of a time that began at a moment, where more than the time has passed
abbrev pub passed_at : (began bound now : ℕ) → Option ℕ
passed_at began bound now = if nat_lt bound (age began now) then Some (began + bound) else None

abbrev pub passed_since : Option ℕ → (bound now : ℕ) → Option ℕ
passed_since None bound now = None
passed_since (Some began) bound now = passed_at began bound now

-- the node has been silent for more than the setting allows
abbrev pub silent_at : (opened : ℕ) → List WatchCall → (now after : ℕ) → Option ℕ
silent_at opened calls now after = passed_at (silent_from opened calls) after now

-- a node that is to be the master has reported itself a replica for too long
abbrev pub demoted_at : List WatchCall → (now after : ℕ) → (as_master : Bool) → Option ℕ
demoted_at calls now after as_master = if as_master then passed_since (replica_since calls) (after + REPLICA_MS) now else None

abbrev pub earlier_of : Option ℕ → Option ℕ → Option ℕ
earlier_of None b = b
earlier_of (Some a) None = Some a
earlier_of (Some a) (Some b) = Some (min a b)

-- since when the node is subjectively down, by the cause that held earlier; none where it isn't
abbrev pub down_since : (opened : ℕ) → List WatchCall → (now after : ℕ) → (as_master : Bool) → Option ℕ
down_since opened calls now after as_master = earlier_of (silent_at opened calls now after) (demoted_at calls now after as_master)

-- What is kept. `at` is a reading as it counts.

-- what a watch keeps of the calls
pub record WatchState : Type 0 where
  pub silent_from : ℕ
  pub replica_since : Option ℕ

-- what is kept is what these calls, after an opening at this moment, tell
pub record StandsForCalls (watched : WatchState) (opened : ℕ) (calls : List WatchCall) : Type 0 where
  pub silent_from : watched.silent_from ≡ silent_from opened calls
  pub replica_since : watched.replica_since ≡ replica_since calls

-- a watch just opened: silence counts from now, and no role was reported
abbrev pub opened_at : (at : ℕ) → WatchState
opened_at at = record { silent_from = at; replica_since = None }

-- a valid reply ends the silence, any other changes nothing
abbrev pub after_reply : (at : ℕ) → PingReply → WatchState → WatchState
after_reply at reply watched = if is_valid reply then record watched { silent_from = at } else watched

-- a report of being a master ends the time as a replica; one of being a replica begins it, unless it runs already
abbrev pub after_role : (at : ℕ) → DataRole → WatchState → WatchState
after_role at Master watched = record watched { replica_since = None }
after_role at Replica watched = record watched { replica_since = Some (unwrap_or watched.replica_since at) }

-- a change of the master's address starts the time as a replica anew, where it runs
abbrev pub after_change : (at : ℕ) → WatchState → WatchState
after_change at watched = record watched { replica_since = option_map (λ _. at) watched.replica_since }

-- since when the node is subjectively down, by what is kept
abbrev pub down_since_of : WatchState → (now after : ℕ) → (as_master : Bool) → Option ℕ
down_since_of watched now after as_master =
    earlier_of
    (passed_at watched.silent_from after now)
    (if as_master then passed_since watched.replica_since (after + REPLICA_MS) now else None)

-- so what is kept is, after each call, what the calls with that one tell
abbrev pub KeepsOpening : Type 0
KeepsOpening = (at : ℕ) → StandsForCalls (opened_at at) at []

abbrev pub KeepsReplies : Type 0
KeepsReplies =
    (watched : WatchState) (opened at : ℕ) (reply : PingReply) (calls : List WatchCall) →
    StandsForCalls watched opened calls →
    StandsForCalls (after_reply at reply watched) opened (HeardReply at reply ∷ calls)

abbrev pub KeepsRoles : Type 0
KeepsRoles =
    (watched : WatchState) (opened at : ℕ) (role : DataRole) (calls : List WatchCall) →
    StandsForCalls watched opened calls →
    StandsForCalls (after_role at role watched) opened (ReportedRole at role ∷ calls)

abbrev pub KeepsChanges : Type 0
KeepsChanges =
    (watched : WatchState) (opened at : ℕ) (calls : List WatchCall) →
    StandsForCalls watched opened calls →
    StandsForCalls (after_change at watched) opened (ChangedCard at ∷ calls)

-- and tells the same of the node
abbrev pub KeepsDown : Type 0
KeepsDown =
    (watched : WatchState) (opened : ℕ) (calls : List WatchCall) (now after : ℕ) (as_master : Bool) →
    StandsForCalls watched opened calls →
    down_since_of watched now after as_master ≡ down_since opened calls now after as_master
