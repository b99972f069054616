-- What a Sentinel keeps of a connection to a node for those who ask. No rule goes by it.
use Rattle.std.specs.Prelude.{ℕ, Bool, true, false, Option, Some, None, unwrap_or, if◌then◌else◌}
use Rattle.ballot_law.specs.declared.replies.DataRole.{DataRole}
use Rattle.ballot_law.specs.declared.replies.DataRole.TheVariants.{Master, Replica}
use Rattle.ballot_law.specs.declared.replies.Info.{Info}
use Rattle.sentinel_rules.specs.declared.contacts.Contact.{Contact}

-- at the start; as in Redis a PING counts as sent then, so a node that is never reached waits since the start
abbrev pub new_contact : (now : ℕ) → Contact
new_contact now = record { waiting = Some now; replied = now }

-- a PING that is sent is waited for, unless one is already
abbrev pub contact_asked : (sent : Bool) → (now : ℕ) → Contact → Contact
contact_asked sent now contact = record contact { waiting = if sent then Some (unwrap_or contact.waiting now) else contact.waiting }

-- a valid reply ends the wait
abbrev pub contact_replied : (now : ℕ) → (valid : Bool) → Contact → Contact
contact_replied now valid contact = record { waiting = if valid then None else contact.waiting; replied = now }

abbrev pub same_role : DataRole → DataRole → Bool
same_role Master Master = true
same_role Master Replica = false
same_role Replica Master = false
same_role Replica Replica = true

-- the INFO before said this role
abbrev pub said_role : DataRole → Option Info → Bool
said_role role None = false
said_role role (Some info) = same_role info.role role

-- since when a node has said that it has this role, where it does now
abbrev pub role_since_after : (now : ℕ) → DataRole → (before : Option Info) → (since : ℕ) → ℕ
role_since_after now role before since = if said_role role before then since else now

-- since when something has held, where it does now or doesn't
abbrev pub since_after : Bool → (now : ℕ) → Option ℕ → Option ℕ
since_after holds now since = if holds then Some (unwrap_or since now) else None
