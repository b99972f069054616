-- What holds of what a seat has seen, whichever calls a port's thread makes, if it holds after each entry that is added and each look.
use Rattle.std.proofs.Common.{◌≡◌, ℕ, inl, inr, Bool, true, false, List, [], ◌∷◌, ◌++◌, refl, sym, ap, subst}
use Rattle.std.specs.Prelude.{Option, Some, None, Result, Ok, Err, IfSome}
use Rattle.ballot_law.specs.declared.cards.Shown.{Shown}
use Rattle.ballot_law.specs.declared.commands.Command.{Command}
use Rattle.ballot_law.specs.declared.commands.Command.TheVariants.{Ping, IsMasterDownByAddr, GetMasterAddrByName, Masters, Master, Replicas, Sentinels, MyId, CkQuorum, Failover, FlushConfig, Subscribe, Info}
use Rattle.ballot_law.specs.declared.events.Event.{Event}
use Rattle.ballot_law.specs.declared.events.Input.{Input}
use Rattle.ballot_law.specs.declared.messages.Output.{Output}
use Rattle.client_commands.specs.Courtesies.{Answer, left, said, asks_info, silent, courtesy}
use Rattle.client_commands.specs.declared.protocols.Protocol.{Protocol}
use Rattle.client_commands.specs.declared.protocols.Protocol.TheVariants.{Two, Three}
use Rattle.courteous_sessions.specs.Clients.{TakesSome}
use Rattle.courteous_sessions.specs.Epochs.{heard_as}
use Rattle.courteous_sessions.specs.GoingOn as courteous
use Rattle.courteous_sessions.specs.Visits as visits
use Rattle.courteous_sessions.specs.Visits.{Guest, hears_switches, channel_turn}
use Rattle.courteous_sessions.specs.declared.client_session.ClientSession.{ClientSession}
use Rattle.courteous_sessions.specs.declared.client_session.ClientSession.TheVariants.{Plain, Courteous}
use Rattle.port_sessions.specs.declared.limit.Reach.{Reach}
use Rattle.port_sessions.specs.declared.limit.Reach.TheVariants.{Done, Waits, Full}
use Rattle.port_sessions.specs.GoingOn as plain
use Rattle.port_sessions.specs.Talks as talks
use Rattle.port_sessions.specs.Talks.{Party, party, asked}
use Rattle.pubsub.specs.Answering.{Answer as ChannelAnswer, other, said as confirmed}
use Rattle.resp2.specs.Commands.{command_of, redis_command_of}
use Rattle.resp2.specs.declared.command.CommandFault.{CommandFault}
use Rattle.resp2.specs.Framing.Frame.{Frame}
use Rattle.sentinel_cell.specs.declared.entry.Outcome.{Outcome}
use Rattle.sentinel_cell.specs.declared.entry.Outcome.TheVariants.{Stored, Refused, Halted}
use Rattle.sentinel_cell.specs.declared.fault.ActFault.{ActFault}
use Rattle.sentinel_cell.specs.declared.fault.ActFault.TheVariants as act
use Rattle.sentinel_cell.specs.declared.fault.Reply.{Reply}
use Rattle.sentinel_cell.specs.declared.view.View.{View}
use Rattle.sentinel_cell.specs.Histories.{World}
use Rattle.sentinel_cell.specs.Standing.{Adds, Faulted, Acted}
use Rattle.sentinel_rules.specs.Plans.{roster_of}
use Rattle.sentinel_core.specs.declared.serving.fault.ServeFault.{ServeFault}
use Rattle.sentinel_core.specs.declared.serving.fault.ServeFault.TheVariants as serve

module _ (Well : View → Type 0) (May : Event → Type 0) (start : World)
    (added : (v w : View) (input : Input) (outcome : Outcome) (outputs : List Output) → May input.event → Adds start v input outcome outputs w → Well v → Well w)
    (same : (v w : View) → w.front ≡ v.front → w.numbers ≡ v.numbers → Well v → Well w)
    (may : (now : ℕ) (command : Command) → May (asked now command).event) where
  pub faulted_heard : (v w : View) (input : Input) (outputs : List Output) (fault : ActFault) → May input.event → Faulted start v input outputs w fault → Well v
      → Well w
  faulted_heard v w input outputs act.NoMemory ok f well = subst Well (sym f.1) well
  faulted_heard v w input outputs act.Spent ok f well = same v w f.1.0 f.1.1 well
  faulted_heard v w input outputs act.Halted ok f well = added v w input Halted outputs ok f.1 well
  faulted_heard v w input outputs act.StoreRefused ok f well = added v w input Refused outputs ok f.1 well

  pub acted_heard : (v w : View) (input : Input) (outputs : List Output) (result : Result Reply ActFault) → May input.event → Acted start v input outputs w result
      → Well v → Well w
  acted_heard v w input outputs (Ok reply) ok a well = added v w input Stored outputs ok a well
  acted_heard v w input outputs (Err fault) ok f well = faulted_heard v w input outputs fault ok f well

  -- ---- one answer at a port: what it asks is a command

  pub told_heard : (v w : View) (found : Option ℕ) (shown : Option Shown) → talks.IsTold start v found shown w → Well v → Well w
  told_heard v w None shown t well = subst Well (sym t.1) well
  told_heard v w (Some m) shown t well = same v w (ap (λ (x : View). x.front) t.3) (ap (λ (x : View). x.numbers) t.3) well

  module _ (now : ℕ) where
    turn_heard : (v w : View) (command : Command) (bytes : List ℕ) → talks.TakesTurn start now v command bytes w → Well v → Well w
    turn_heard v w command bytes t well = added v w (asked now command) Stored t.0 (may now command) t.2 well

    replied_heard : (v w : View) (command : Result Command CommandFault) (bytes : List ℕ) → talks.Replies start now v command bytes w → Well v → Well w
    replied_heard v w (Ok (GetMasterAddrByName name)) bytes t well = told_heard v w _ t.0 t.2 well
    replied_heard v w (Ok Ping) bytes t well = turn_heard v w Ping bytes t well
    replied_heard v w (Ok (IsMasterDownByAddr addr epoch candidate)) bytes t well = turn_heard v w (IsMasterDownByAddr addr epoch candidate) bytes t well
    replied_heard v w (Ok Masters) bytes t well = turn_heard v w Masters bytes t well
    replied_heard v w (Ok (Master name)) bytes t well = turn_heard v w (Master name) bytes t well
    replied_heard v w (Ok (Replicas name)) bytes t well = turn_heard v w (Replicas name) bytes t well
    replied_heard v w (Ok (Sentinels name)) bytes t well = turn_heard v w (Sentinels name) bytes t well
    replied_heard v w (Ok MyId) bytes t well = turn_heard v w MyId bytes t well
    replied_heard v w (Ok (CkQuorum name)) bytes t well = turn_heard v w (CkQuorum name) bytes t well
    replied_heard v w (Ok (Failover name)) bytes t well = turn_heard v w (Failover name) bytes t well
    replied_heard v w (Ok FlushConfig) bytes t well = turn_heard v w FlushConfig bytes t well
    replied_heard v w (Ok Subscribe) bytes t well = turn_heard v w Subscribe bytes t well
    replied_heard v w (Ok Info) bytes t well = turn_heard v w Info bytes t well
    replied_heard v w (Err fault) bytes t well = subst Well (sym t.1) well

    responded_at : (listens : Option ℕ) (v : View) (q : Party) (command : Result Command CommandFault) (bytes : List ℕ)
        → talks.RespondsAt start now listens v command bytes q → Well v → Well q.view
    responded_at None v q command bytes r well = replied_heard v q.view command bytes r.0 well
    responded_at (Some entry) v q command bytes r well = subst (λ (x : Party). Well x.view) (sym r.1) well

    pub responded : (p q : Party) (command : Result Command CommandFault) (bytes : List ℕ) → talks.Responds start now p command bytes q → Well p.view → Well q.view
    responded p q command bytes r well = responded_at p.listens p.view q command bytes r well

    failed : (p q : Party) (command : Result Command CommandFault) (fault : ServeFault) → talks.Fails start now p command fault q → Well p.view → Well q.view
    failed p q command serve.Halted f well = faulted_heard p.view q.view (asked now f.what) [] f.why (may now f.what) f.turned well
    failed p q command serve.NoMemory f well =
        elim f [ inl kept ↦ subst (λ (x : Party). Well x.view) (sym kept) well | inr answered ↦ responded p q command answered.0 answered.1 well ]
    failed p q command (serve.Frame fault) f well = absurd f
    failed p q command serve.Read f well = absurd f
    failed p q command serve.Write f well = absurd f

    -- ---- a session without courtesies

    answered_plain : (p q : Party) (values : List Frame) (bytes : List ℕ) → talks.AnswersTo start now p values bytes q → Well p.view → Well q.view
    answered_plain p q [] bytes a well = subst (λ (x : Party). Well x.view) (sym a.1) well
    answered_plain p q (value ∷ values) bytes a well =
        answered_plain a.0 q values a.2 a.5 (responded p a.0 (command_of value) a.1 a.4 well)

    cut_plain : (p q : Party) (stream bytes : List ℕ) → talks.IsCut start now stream p bytes q → Well p.view → Well q.view
    cut_plain p q stream bytes it well =
        let last : Well it.middle.view = answered_plain p it.middle it.values bytes it.answers well in
        elim it.left [
          | inl kept ↦ subst (λ (x : Party). Well x.view) (sym kept) last
          | inr lost ↦ responded it.middle q (command_of lost.value) lost.bytes lost.reply last
        ]

    broken_plain : (most : ℕ) (stream : List ℕ) (p q : Party) (fault : ServeFault) (bytes : List ℕ) → plain.BreaksWithin start now most stream p fault bytes q → Well p.view
        → Well q.view
    broken_plain most stream p q (serve.Frame fault) bytes b well = answered_plain p q b.0.values b.0.text b.0.answers well
    broken_plain most stream p q serve.Halted bytes b well =
        let it = b.0 in
        failed it.middle q (command_of it.value) serve.Halted it.halted (answered_plain p it.middle it.values bytes it.answers well)
    broken_plain most stream p q serve.NoMemory bytes b well = cut_plain p q stream bytes b.0 well
    broken_plain most stream p q serve.Read bytes b well = absurd b
    broken_plain most stream p q serve.Write bytes b well = absurd b

    went_plain : (most : ℕ) (stream : List ℕ) (p q : Party) (result : Result Reach ServeFault) (held bytes : List ℕ) → plain.GoesOn start now most stream p result held bytes q
        → Well p.view → Well q.view
    went_plain most stream p q (Ok Done) held bytes it well = answered_plain p q it.answered.values bytes it.answered.answers well
    went_plain most stream p q (Ok Waits) held bytes it well = answered_plain p q it.values bytes it.answers well
    went_plain most stream p q (Ok Full) held bytes it well = absurd it
    went_plain most stream p q (Err fault) held bytes it well = broken_plain most stream p (party q.view it.1) fault bytes it.2 well

    -- ---- a session with courtesies

    answers_heard : (asker : _) (answer : Answer) (p q : Party) (value : Frame) (bytes : List ℕ) → visits.Answers start now asker answer p value bytes q → Well p.view
        → Well q.view
    answers_heard asker left p q value bytes a well = responded p q (heard_as asker.current (redis_command_of value)) bytes a well
    answers_heard asker (said frame) p q value bytes a well = subst (λ (x : Party). Well x.view) (sym a.1) well
    answers_heard asker asks_info p q value bytes a well = responded p q (Ok Info) a.answer a.turned well
    answers_heard asker silent p q value bytes a well = subst (λ (x : Party). Well x.view) (sym a.1) well

    notes_begun : (listens : Option ℕ) (p q : Party) → talks.BeginsNotes start now listens p q → Well p.view → Well q.view
    notes_begun None p q b well = responded p q (Ok Subscribe) b.0 b.1 well
    notes_begun (Some entry) p q b well = subst (λ (x : Party). Well x.view) (sym b) well

    tuned : (hears : Bool) (p q : Party) → visits.Tunes start now hears p q → Well p.view → Well q.view
    tuned true p q t well = notes_begun p.listens p q t well
    tuned false p q t well = subst (λ (x : Party). Well x.view) (sym t) well

    served_by : (answer : ChannelAnswer) (g : Guest) (value : Frame) (bytes : List ℕ) (h : Guest) → visits.ServesBy start now answer g value bytes h → Well g.party.view
        → Well h.party.view
    served_by other g value bytes h s well =
        subst (λ (x : Guest). Well x.party.view) (sym s.2) (answers_heard g.asker (courtesy (roster_of start.plan) g.asker value) g.party s.0 value bytes s.1 well)
    served_by (confirmed answers after) g value bytes h s well =
        subst (λ (x : Guest). Well x.party.view) (sym s.3) (tuned (hears_switches after) g.party s.0 s.1 well)

    served_beside : (answer : ChannelAnswer) (g : Guest) (value : Frame) (bytes : List ℕ) (h : Guest) → visits.ServesBesideBy start now answer g value bytes h
        → Well g.party.view → Well h.party.view
    served_beside other g value bytes h s well =
        subst (λ (x : Guest). Well x.party.view) (sym s.2) (answers_heard g.asker (courtesy (roster_of start.plan) g.asker value) (party g.party.view None) s.0 value bytes s.1 well)
    served_beside (confirmed answers after) g value bytes h s well = served_by (confirmed answers after) g value bytes h s well

    served_in : (protocol : Protocol) (g : Guest) (value : Frame) (bytes : List ℕ) (h : Guest) → visits.ServesIn start now protocol g value bytes h → Well g.party.view
        → Well h.party.view
    served_in Two g value bytes h s well = served_by (channel_turn g.asker g.listening value) g value bytes h s well
    served_in Three g value bytes h s well = served_beside (channel_turn g.asker g.listening value) g value bytes h s well

    served_all : (g : Guest) (values : List Frame) (bytes : List ℕ) (h : Guest) → visits.ServesAll start now g values bytes h → Well g.party.view → Well h.party.view
    served_all g [] bytes h s well = subst (λ (x : Guest). Well x.party.view) (sym s.1) well
    served_all g (value ∷ values) bytes h s well =
        served_all s.0 values s.2 h s.5 (served_in g.asker.protocol g value s.4.0 s.0 s.4.1 well)

    lost : (stream : List ℕ) (values : List Frame) (v : View) (fault : ServeFault) (w : View) → visits.IsLost start now stream values v fault w → Well v → Well w
    lost stream values v fault w it well =
        let f = it.unanswered.fails in failed (party v f.0) (party w f.1) it.unanswered.asked fault f.2 well

    broken : (most : ℕ) (stream : List ℕ) (g : Guest) (fault : ServeFault) (bytes : List ℕ) (w : View) → courteous.BreaksWithin start now most stream g fault bytes w
        → Well g.party.view → Well w
    broken most stream g (serve.Frame fault) bytes w b well =
        let it = b.0 in subst Well (sym it.sees) (served_all g it.values it.text it.last it.answers well)
    broken most stream g serve.Halted bytes w b well =
        let it = b.0 in lost stream it.values it.last.party.view serve.Halted w it.sees (served_all g it.values bytes it.last it.answers well)
    broken most stream g serve.NoMemory bytes w b well =
        let it = b.0 in
        let seen : Well it.last.party.view = served_all g it.values bytes it.last it.answers well in
        elim it.sees [
          | inl kept ↦ subst Well (sym kept) seen
          | inr gone ↦ lost stream it.values it.last.party.view serve.NoMemory w gone seen
        ]
    broken most stream g serve.Read bytes w b well = absurd b
    broken most stream g serve.Write bytes w b well = absurd b

    went : (most : ℕ) (stream : List ℕ) (g : Guest) (result : Result Reach ServeFault) (held bytes : List ℕ) (h : Guest) → courteous.GoesOn start now most stream g result held bytes h
        → Well g.party.view → Well h.party.view
    went most stream g (Ok Done) held bytes h it well = served_all g it.answered.values bytes h it.answered.answers well
    went most stream g (Ok Waits) held bytes h it well = served_all g it.values bytes h it.answers well
    went most stream g (Ok Full) held bytes h it well = served_all g it.values bytes h it.answers well
    went most stream g (Err fault) held bytes h it well = broken most stream g fault bytes h.party.view it well

    -- ---- either

    -- what a session that didn't end does, or one that did
    by_end : (ended : Option ServeFault) (v w : View) (kept : ServeFault → Type 0) → ((fault : ServeFault) → kept fault → w ≡ v) → (ended ≡ None → Well w)
        → IfSome ended kept → Well v → Well w
    by_end None v w kept stays goes over well = goes refl
    by_end (Some fault) v w kept stays goes over well = subst Well (sym (stays fault over)) well

    pub taken_heard : (most : ℕ) (piece : List ℕ) (result : Result Reach ServeFault) (v w : View) (session after : ClientSession)
        → TakesSome start now most piece result v w session after → Well v → Well w
    taken_heard most piece result v w (Plain talk) (Plain after) t well =
        by_end talk.ended v w _ (λ fault s. s.2)
        (λ going. let it = t.goes_on going in went_plain most (talk.held ++ piece) (party v talk.listens) (party w after.listens) result after.held it.0 it.2 well) t.over well
    taken_heard most piece result v w (Plain talk) (Courteous after) t well = absurd t
    taken_heard most piece result v w (Courteous visit) (Plain after) t well = absurd t
    taken_heard most piece result v w (Courteous visit) (Courteous after) t well =
        by_end visit.ended v w _ (λ fault s. s.2)
        (λ going. let it = t.goes_on going in went most (visit.held ++ piece) _ result after.held it.0 _ it.2 well) t.over well
