-- Which notes a session is told, and what it has then.
use Rattle.std.specs.Prelude.{◌≡◌, ℕ, Bool, true, false, ◌&&◌, nat_lt, List, ◌++◌, Option, Some, None, Result, Ok, Err, replicate, slice_index_or, slice_set}
use Rattle.ballot_law.specs.declared.messages.Note.{Note}
use Rattle.ballot_law.specs.declared.rosters.TheConstants.{MASTERS_MAX}
use Rattle.ballot_law.specs.Rosters.{Roster}
use Rattle.resp2.specs.Framing.Frame.{spelling}
use Rattle.port_sessions.specs.Listening.{note_frame}
use Rattle.port_sessions.specs.Talks.{Talk}
use Rattle.port_sessions.specs.declared.hearing.NotesHeard.{NotesHeard}

-- no master's configuration was told, of all that a roster has room for
abbrev pub none_told : List (Option ℕ)
none_told = replicate MASTERS_MAX None

-- who never listened
abbrev pub unheard : NotesHeard
unheard = record { listens = None; told = none_told }

-- the session listens since an entry before this one
abbrev pub listened_before : Option ℕ → (entry : ℕ) → Bool
listened_before None entry = false
listened_before (Some since) entry = nat_lt since entry

-- the epoch is above the one that was told last
abbrev pub is_newer : (last : Option ℕ) → (epoch : ℕ) → Bool
is_newer None epoch = true
is_newer (Some last) epoch = nat_lt last epoch

-- The note of an entry is told to who listens since an entry before it, and was told of no configuration of the master with an epoch as high
abbrev pub is_news : (listens : Option ℕ) → (told : List (Option ℕ)) → Note → (entry : ℕ) → Bool
is_news listens told note entry = listened_before listens entry && is_newer (slice_index_or told note.master None) note.card.epoch

abbrev pub is_due : Talk → Note → (entry : ℕ) → Bool
is_due talk note entry = is_news talk.listens talk.told note entry

abbrev pub notified : Roster → Note → Talk → Talk
notified roster note talk =
    record talk { unsent = talk.unsent ++ spelling (note_frame roster note); told = slice_set talk.told note.master (Some note.card.epoch) }

-- what became of a note: it joins what is unsent and is remembered as told, or it isn't due, or it is due and memory for it was refused
abbrev pub Notifies : {E : Type 0} → Roster → Note → (entry : ℕ) → Talk → Result Bool E → Talk → Type 0
Notifies roster note entry talk (Ok true) after = (is_due talk note entry ≡ true) × (after ≡ notified roster note talk)
Notifies roster note entry talk (Ok false) after = (is_due talk note entry ≡ false) × (after ≡ talk)
Notifies roster note entry talk (Err refused) after = (is_due talk note entry ≡ true) × (after ≡ talk)
