-- The answer to a value, and the text that it is written to.
use Rattle.std.proofs.Common.{◌≡◌, ◌++◌, ℕ, true, false, List, [], Result, Ok, Err, Option, None, Some, refl, sym, ap, ◌∙◌, subst, inl, inr, true≢false}
use Rattle.std.proofs.lemmas.List.{append-nil}
use Rattle.std.specs.Prelude.{OnOk, OnErr, IfErr}
use Rattle.std.specs.Option.{is_some}
use Rattle.ballot_law.specs.declared.cards.Shown.{Shown}
use Rattle.ballot_law.specs.declared.commands.Command.{Command}
use Rattle.ballot_law.specs.declared.commands.Command.TheVariants.{Ping, IsMasterDownByAddr, GetMasterAddrByName, Masters, Master, Replicas, Sentinels, MyId, CkQuorum, Failover, FlushConfig, Subscribe, Info}
use Rattle.ballot_law.specs.declared.messages.Body.TheVariants.{AddressAnswer}
use Rattle.ballot_law.specs.declared.messages.Output.{Output}
use Rattle.node_texts.specs.Messages.MessageTexts.{message_bytes}
use Rattle.sentinel_core.specs.Serving.Serving.{output_bytes}
use Rattle.std.specs.List.{flat_map}
use Rattle.sentinel_core.specs.declared.serving.fault.ServeFault.{ServeFault}
use Rattle.sentinel_core.specs.declared.serving.fault.ServeFault.TheVariants.{Frame as FaultyFrame, Read, Write, Halted as ServeHalted, NoMemory as OutOfMemory}
use Rattle.resp2.specs.declared.command.CommandFault.{CommandFault}
use Rattle.sentinel_cell.specs.declared.view.View.{View}
use Rattle.sentinel_cell.specs.Histories.{World}
use Rattle.sentinel_rules.specs.Answers.{named}
use Rattle.port_sessions.specs.Talks.{Party, party, takes_turn, listens_after, IsTold, TakesTurn, Replies, RespondsAt, Responds, BeginsNotes, Fails, Ends}
use Rattle.port_sessions.specs.OnTheWay.{ShowsAnswer, ShowsNothing, Turns}

module _ (start : World) (now : ℕ) where
  -- the answer to a value joined those that aren't sent yet, or it had no room among them
  pub put_out_ends : {X : Type 0} (p : Party) (command : Result Command CommandFault) (put : Result X ServeFault) (text before after : List ℕ)
      (q : Party)
      → OnOk put (after ≡ before ++ text) → OnErr put (after ≡ before) → IfErr put (λ fault. fault ≡ OutOfMemory) → Responds start now p command text q
      → (more : List ℕ) × (after ≡ before ++ more) × Ends start now p command put more q
  put_out_ends p command (Ok x) text before after q ok err fault r = (text, ok, r)
  put_out_ends p command (Err f) text before after q ok err fault r =
      ([], err ∙ sym (append-nil before), subst (λ (g : ServeFault). Fails start now p command g q) (sym fault) (inr (text, r)))

  -- where the session doesn't listen
  silent_one : (v : View) (listens after : Option ℕ) (command : Result Command CommandFault) (bytes : List ℕ) (w : View) → listens ≡ None → after ≡ listens_after command w
      → Replies start now v command bytes w → Responds start now (party v listens) command bytes (party w after)
  silent_one v listens after command bytes w silent same r =
      subst (λ (l : Option ℕ). RespondsAt start now l v command bytes (party w after)) (sym silent) (r, same)

  -- the answer to an address
  pub told_written : {X : Type 0} (v : View) (listens : Option ℕ) (name : Option (List ℕ)) (put : Result X ServeFault) (unsent given : List ℕ) (told : Option Shown)
      (w : View)
      → listens ≡ None → OnOk put (given ≡ unsent ++ message_bytes (AddressAnswer told)) → OnErr put (given ≡ unsent)
      → IfErr put (λ fault. fault ≡ OutOfMemory) → IsTold start v (named start.plan name) told w
      → (more : List ℕ) × (given ≡ unsent ++ more) × Ends start now (party v listens) (Ok (GetMasterAddrByName name)) put more (party w listens)
  told_written v listens name put unsent given told w silent ok err fault h =
      let bytes = message_bytes (AddressAnswer told) in
      put_out_ends (party v listens) (Ok (GetMasterAddrByName name)) put bytes unsent given (party w listens) ok err fault
      (silent_one v listens listens (Ok (GetMasterAddrByName name)) bytes w silent silent (told, refl, h))

  -- a command that takes a turn is answered by what it shows
  by_turn : (v : View) (command : Command) (bytes : List ℕ) (w : View) → takes_turn command ≡ true → TakesTurn start now v command bytes w →
      Replies start now v (Ok command) bytes w
  by_turn v Ping bytes w t h = h
  by_turn v (IsMasterDownByAddr addr epoch candidate) bytes w t h = h
  by_turn v (GetMasterAddrByName name) bytes w t h = absurd (true≢false (sym t))
  by_turn v Masters bytes w t h = h
  by_turn v (Master name) bytes w t h = h
  by_turn v (Replicas name) bytes w t h = h
  by_turn v (Sentinels name) bytes w t h = h
  by_turn v MyId bytes w t h = h
  by_turn v (Failover name) bytes w t h = h
  by_turn v (CkQuorum name) bytes w t h = h
  by_turn v FlushConfig bytes w t h = h
  by_turn v Subscribe bytes w t h = h
  by_turn v Info bytes w t h = h

  pub turn_written : {X : Type 0} (v : View) (listens after : Option ℕ) (command : Command) (shown : List Output) (put : Result X ServeFault) (unsent given : List ℕ) (w : View)
      → listens ≡ None → after ≡ listens_after (Ok command) w → takes_turn command ≡ true → (h : ShowsAnswer start now v command shown w)
      → OnOk put (given ≡ unsent ++ message_bytes h.0.body) → OnErr put (given ≡ unsent) → IfErr put (λ fault. fault ≡ OutOfMemory)
      → (more : List ℕ) × (given ≡ unsent ++ more) × Ends start now (party v listens) (Ok command) put more (party w after)
  turn_written v listens after command shown put unsent given w silent listening t h ok err fault =
      let bytes = message_bytes h.0.body in
      let bytes_are : bytes ≡ flat_map output_bytes shown = sym (append-nil bytes) ∙ ap (flat_map output_bytes) (sym h.1) in
      put_out_ends (party v listens) (Ok command) put bytes unsent given (party w after) ok err fault
      (silent_one v listens after (Ok command) bytes w silent listening (by_turn v command bytes w t (shown, bytes_are, h.3)))

  -- a turn that showed nothing
  pub turn_failed : (v : View) (listens after : Option ℕ) (command : Command) (fault : ServeFault) (w : View) → listens ≡ None → after ≡ None → takes_turn command ≡ true
      → ShowsNothing start now v command fault w → Fails start now (party v listens) (Ok command) fault (party w after)
  turn_failed v listens after command ServeHalted w silent still t h =
      record { what = command; is_it = refl; turn = t; silent = silent; why = h.0; not_memory = h.1; turned = h.2 }
  turn_failed v listens after command OutOfMemory w silent still t h = inl (λ i. party (h i) ((still ∙ sym silent) i))
  turn_failed v listens after command Read w silent still t h = h
  turn_failed v listens after command Write w silent still t h = h
  turn_failed v listens after command (FaultyFrame f) w silent still t h = h

  -- nothing is put out for it
  pub turn_lost : (X : Type 0) (v : View) (listens after : Option ℕ) (command : Command) (fault : ServeFault) (unsent given : List ℕ) (w : View) → listens ≡ None → after ≡ None
      → takes_turn command ≡ true → given ≡ unsent → ShowsNothing start now v command fault w
      → (more : List ℕ) × (given ≡ unsent ++ more) × Ends start now {X = X} (party v listens) (Ok command) (Err fault) more (party w after)
  turn_lost X v listens after command fault unsent given w silent still t same h =
      ([], same ∙ sym (append-nil unsent), turn_failed v listens after command fault w silent still t h)

  -- SUBSCRIBE took its turn, and its answer isn't told
  pub subscribed_silently : {X : Type 0} (answer : Result X ServeFault) (v : View) (listens after : Option ℕ) (shown : List Output) (w : View) → is_some listens ≡ false
      → OnOk answer (after ≡ listens_after (Ok Subscribe) w) → Turns start now v Subscribe answer shown w
      → OnOk answer (BeginsNotes start now listens (party v listens) (party w after))
  subscribed_silently (Ok x) v None after shown w silent listening h =
      (flat_map output_bytes shown, silent_one v None after (Ok Subscribe) (flat_map output_bytes shown) w refl listening (shown, refl, h.3))
  subscribed_silently (Ok x) v (Some entry) after shown w silent listening h = absurd (true≢false silent)
  subscribed_silently (Err fault) v listens after shown w silent listening h = tt
