-- What is put out where a value is asked.
use Rattle.std.proofs.Common.{◌≡◌, ◌⊎◌, ℕ, List, ◌++◌, refl, sym, subst, inl, inr, Option, None, Result, Ok, Err}
use Rattle.std.specs.Prelude.{IfErr}
use Rattle.ballot_law.specs.declared.commands.Command.{Command}
use Rattle.ballot_law.specs.declared.commands.Command.TheVariants.{Info, Subscribe}
use Rattle.resp2.specs.Commands.{redis_command_of}
use Rattle.resp2.specs.Framing.Frame.{Frame}
use Rattle.sentinel_core.specs.declared.serving.fault.ServeFault.{ServeFault}
use Rattle.sentinel_core.specs.declared.serving.fault.ServeFault.TheVariants.{Frame as FaultyFrame, Read, Write, Halted, NoMemory}
use Rattle.port_sessions.specs.Talks.{Party, party, Responds, Fails, Ends}
use Rattle.resp2.specs.declared.command.CommandFault.{CommandFault}
use Rattle.sentinel_cell.specs.declared.view.View.{View}
use Rattle.sentinel_cell.specs.Histories.{World}
use Rattle.courteous_sessions.specs.Epochs.{heard_as}
use Rattle.courteous_sessions.specs.Visits.{FailsAt, IsUnanswered}

module _ (start : World) (now : ℕ) where
  fails_by : (p : Party) (command : Result Command CommandFault) (fault : ServeFault) (q : Party) → Fails start now p command fault q
      → (fault ≡ Halted) ⊎ (fault ≡ NoMemory)
  fails_by p command Halted q h = inl refl
  fails_by p command NoMemory q h = inr refl
  fails_by p command Read q h = absurd h
  fails_by p command Write q h = absurd h
  fails_by p command (FaultyFrame f) q h = absurd h

  -- or there was a halt or no memory, and it may have been carried out
  pub faults_of : {X : Type 0} (v w : View) (l m : Option ℕ) (command : Result Command CommandFault) (unsent given : List ℕ) (answer : Result X ServeFault)
      → (more : List ℕ) × (given ≡ unsent ++ more) × Ends start now (party v l) command answer more (party w m)
      → IfErr answer (λ fault. ((fault ≡ Halted) ⊎ (fault ≡ NoMemory)) × FailsAt start now v command fault w)
  faults_of v w l m command unsent given (Ok x) ends = tt
  faults_of v w l m command unsent given (Err fault) ends = (fails_by (party v l) command fault (party w m) ends.2, (l, m, ends.2))

  -- what was asked was answered, and the answer had no room
  pub unput_at : (command : Result Command CommandFault) (v w : View) (l m : Option ℕ) (bytes : List ℕ) → Responds start now (party v l) command bytes (party w m)
      → FailsAt start now v command NoMemory w
  unput_at command v w l m bytes r = (l, m, inr (bytes, r))

  pub unput : {X : Type 0} (answer : Result X ServeFault) (command : Result Command CommandFault) (v w : View) (l m : Option ℕ) (bytes : List ℕ)
      → Responds start now (party v l) command bytes (party w m) → IfErr answer (λ fault. fault ≡ NoMemory)
      → IfErr answer (λ fault. ((fault ≡ Halted) ⊎ (fault ≡ NoMemory)) × FailsAt start now v command fault w)
  unput (Ok x) command v w l m bytes r is = tt
  unput (Err f) command v w l m bytes r is =
      (inr is, subst (λ (g : ServeFault). FailsAt start now v command g w) (sym is) (unput_at command v w l m bytes r))

  -- a value has no answer by what its own command did
  pub by_own : (value : Frame) (current : Option ℕ) (asked : Result Command CommandFault) (v w : View) (fault : ServeFault)
      → asked ≡ heard_as current (redis_command_of value) → FailsAt start now v asked fault w → IsUnanswered start now v value fault w
  by_own value current asked v w fault is h = record { asked = asked; for_it = inl (current, is); fails = h }

  -- or by what else was asked for it
  pub by_info : (value : Frame) (v w : View) (fault : ServeFault) → FailsAt start now v (Ok Info) fault w → IsUnanswered start now v value fault w
  by_info value v w fault h = record { asked = Ok Info; for_it = inr (inl refl); fails = h }

  pub by_subscribe : (value : Frame) (v w : View) (fault : ServeFault) → FailsAt start now v (Ok Subscribe) fault w → IsUnanswered start now v value fault w
  by_subscribe value v w fault h = record { asked = Ok Subscribe; for_it = inr (inr refl); fails = h }

  -- or nothing was asked
  pub unasked : (value : Frame) (v : View) → IsUnanswered start now v value NoMemory v
  unasked value v = record { asked = heard_as None (redis_command_of value); for_it = inl (None, refl); fails = (None, None, inl refl) }
