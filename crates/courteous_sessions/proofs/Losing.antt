-- What the seat has seen where an answer had no room.
use Rattle.std.proofs.Common.{◌≡◌, ◌⊎◌, ℕ, Bool, true, false, List, Option, Some, None, Result, Ok, Err, refl, sym, ap, subst, inl, inr}
use Rattle.std.specs.Prelude.{OnErr, IfErr}
use Rattle.ballot_law.specs.declared.commands.Command.{Command}
use Rattle.ballot_law.specs.declared.commands.Command.TheVariants.{Info, Subscribe}
use Rattle.pubsub.specs.Answering.{Answer as ChannelAnswer, other, said as confirmed}
use Rattle.client_commands.specs.declared.protocols.Protocol.{Protocol}
use Rattle.client_commands.specs.declared.protocols.Protocol.TheVariants.{Two, Three}
use Rattle.client_commands.specs.Courtesies.{ClientInfo, Answer, left, said, asks_info, silent, courtesy}
use Rattle.sentinel_core.specs.declared.serving.fault.ServeFault.{ServeFault}
use Rattle.sentinel_core.specs.declared.serving.fault.ServeFault.TheVariants.{Halted, NoMemory}
use Rattle.port_sessions.specs.Talks.{Party, party}
use Rattle.resp2.specs.Commands.{redis_command_of}
use Rattle.resp2.specs.declared.command.CommandFault.{CommandFault}
use Rattle.resp2.specs.Framing.Frame.{Frame}
use Rattle.sentinel_cell.specs.declared.view.View.{View}
use Rattle.sentinel_cell.specs.Histories.{World}
use Rattle.sentinel_rules.specs.Plans.{roster_of}
use Rattle.courteous_sessions.specs.Epochs.{heard_as}
use Rattle.courteous_sessions.specs.Visits.{Guest, hears_switches, channel_turn, Tunes, Answers, ServesBy, ServesBesideBy, ServesIn, FailsAt, IsUnanswered}
use Rattle.courteous_sessions.proofs.Values.{by_own, by_info, by_subscribe, unasked}

module _ (start : World) (now : ℕ) where
  -- nothing was asked of the seat
  same_view : (value : Frame) (v w : View) → w ≡ v → IsUnanswered start now v value NoMemory w
  same_view value v w is = subst (λ (x : View). IsUnanswered start now v value NoMemory x) (sym is) (unasked start now value v)

  answers_lost : (asker : ClientInfo) (becomes : Answer) (p : Party) (value : Frame) (bytes : List ℕ) (q : Party) → Answers start now asker becomes p value bytes q
      → IsUnanswered start now p.view value NoMemory q.view
  answers_lost asker left p value bytes q h =
      by_own start now value asker.current (heard_as asker.current (redis_command_of value)) p.view q.view NoMemory refl (p.listens, q.listens, inr (bytes, h))
  answers_lost asker (said answer) p value bytes q h = same_view value p.view q.view (ap (λ (x : Party). x.view) h.1)
  answers_lost asker asks_info p value bytes q h = by_info start now value p.view q.view NoMemory (p.listens, q.listens, inr (h.answer, h.turned))
  answers_lost asker silent p value bytes q h = same_view value p.view q.view (ap (λ (x : Party). x.view) h.1)

  -- the session below was to listen to notes, or to nothing
  pub tunes_lost : (hears : Bool) (v : View) (listens : Option ℕ) (q : Party) → Tunes start now hears (party v listens) q → FailsAt start now v (Ok Subscribe) NoMemory q.view
  tunes_lost true v None q h = (None, q.listens, inr (h.0, h.1))
  tunes_lost true v (Some entry) q h = (None, None, inl (ap (λ (x : Party). party x.view None) h))
  tunes_lost false v listens q h = (None, None, inl (ap (λ (x : Party). party x.view None) h))

  by_lost : (t : ChannelAnswer) (g : Guest) (value : Frame) (bytes : List ℕ) (h : Guest) → ServesBy start now t g value bytes h
      → IsUnanswered start now g.party.view value NoMemory h.party.view
  by_lost other g value bytes h s =
      subst (λ (x : Guest). IsUnanswered start now g.party.view value NoMemory x.party.view) (sym s.2) (answers_lost g.asker (courtesy (roster_of start.plan) g.asker value) g.party value bytes s.0 s.1)
  by_lost (confirmed answers after) g value bytes h s =
      subst (λ (x : Guest). IsUnanswered start now g.party.view value NoMemory x.party.view) (sym s.3)
      (by_subscribe start now value g.party.view s.0.view NoMemory (tunes_lost (hears_switches after) g.party.view g.party.listens s.0 s.1))

  beside_lost : (t : ChannelAnswer) (g : Guest) (value : Frame) (bytes : List ℕ) (h : Guest) → ServesBesideBy start now t g value bytes h
      → IsUnanswered start now g.party.view value NoMemory h.party.view
  beside_lost other g value bytes h s =
      subst (λ (x : Guest). IsUnanswered start now g.party.view value NoMemory x.party.view) (sym s.2)
      (answers_lost g.asker (courtesy (roster_of start.plan) g.asker value) (party g.party.view None) value bytes s.0 s.1)
  beside_lost (confirmed answers after) g value bytes h s = by_lost (confirmed answers after) g value bytes h s

  pub served_lost : (protocol : Protocol) (g : Guest) (value : Frame) (bytes : List ℕ) (h : Guest) → ServesIn start now protocol g value bytes h
      → IsUnanswered start now g.party.view value NoMemory h.party.view
  served_lost Two g value bytes h s = by_lost (channel_turn g.asker g.listening value) g value bytes h s
  served_lost Three g value bytes h s = beside_lost (channel_turn g.asker g.listening value) g value bytes h s

  -- a fault of what was asked for a value
  pub own_lost : {X : Type 0} (answer : Result X ServeFault) (value : Frame) (current : Option ℕ) (asked : Result Command CommandFault) (v w : View)
      → asked ≡ heard_as current (redis_command_of value) → IfErr answer (λ fault. ((fault ≡ Halted) ⊎ (fault ≡ NoMemory)) × FailsAt start now v asked fault w)
      → IfErr answer (λ fault. ((fault ≡ Halted) ⊎ (fault ≡ NoMemory)) × IsUnanswered start now v value fault w)
  own_lost (Ok x) value current asked v w is h = tt
  own_lost (Err f) value current asked v w is h = (h.0, by_own start now value current asked v w f is h.1)

  pub info_lost : {X : Type 0} (answer : Result X ServeFault) (value : Frame) (v w : View)
      → IfErr answer (λ fault. ((fault ≡ Halted) ⊎ (fault ≡ NoMemory)) × FailsAt start now v (Ok Info) fault w)
      → IfErr answer (λ fault. ((fault ≡ Halted) ⊎ (fault ≡ NoMemory)) × IsUnanswered start now v value fault w)
  info_lost (Ok x) value v w h = tt
  info_lost (Err f) value v w h = (h.0, by_info start now value v w f h.1)

  pub said_lost : {X : Type 0} (answer : Result X ServeFault) (value : Frame) (v : View) → IfErr answer (λ fault. fault ≡ NoMemory)
      → IfErr answer (λ fault. ((fault ≡ Halted) ⊎ (fault ≡ NoMemory)) × IsUnanswered start now v value fault v)
  said_lost (Ok x) value v is = tt
  said_lost (Err f) value v is = (inr is, subst (λ (g : ServeFault). IsUnanswered start now v value g v) (sym is) (unasked start now value v))

  pub subscribed_lost : {X : Type 0} {K L : Type 0} (answer : Result X ServeFault) (value : Frame) (v w : View) → (K → L)
      → IfErr answer (λ fault. ((fault ≡ Halted) ⊎ (fault ≡ NoMemory)) × K × FailsAt start now v (Ok Subscribe) fault w)
      → IfErr answer (λ fault. ((fault ≡ Halted) ⊎ (fault ≡ NoMemory)) × L × IsUnanswered start now v value fault w)
  subscribed_lost (Ok x) value v w k h = tt
  subscribed_lost (Err f) value v w k h = (h.0, k h.1, by_subscribe start now value v w f h.2)

  -- an answer of Pub/Sub had no room
  pub unconfirmed : {X : Type 0} (answer : Result X ServeFault) (v w : View) (unsent given : List ℕ) → FailsAt start now v (Ok Subscribe) NoMemory w
      → IfErr answer (λ fault. fault ≡ NoMemory) → OnErr answer (given ≡ unsent)
      → IfErr answer (λ fault. ((fault ≡ Halted) ⊎ (fault ≡ NoMemory)) × (given ≡ unsent) × FailsAt start now v (Ok Subscribe) fault w)
  unconfirmed (Ok x) v w unsent given h is same = tt
  unconfirmed (Err f) v w unsent given h is same = (inr is, same, subst (λ (g : ServeFault). FailsAt start now v (Ok Subscribe) g w) (sym is) h)

  -- no memory, and nothing was asked
  pub not_begun : {K : Type 0} (fault : ServeFault) (value : Frame) (v : View) → fault ≡ NoMemory → K
      → ((fault ≡ Halted) ⊎ (fault ≡ NoMemory)) × K × IsUnanswered start now v value fault v
  not_begun fault value v is k = (inr is, k, subst (λ (g : ServeFault). IsUnanswered start now v value g v) (sym is) (unasked start now value v))

  pub gave_up : {X K : Type 0} (answer : Result X ServeFault) (fault : ServeFault) (value : Frame) (v : View) → answer ≡ Err fault → fault ≡ NoMemory → K
      → IfErr answer (λ f. ((f ≡ Halted) ⊎ (f ≡ NoMemory)) × K × IsUnanswered start now v value f v)
  gave_up {X = X} {K = K} answer fault value v same is k =
      subst (λ (r : Result X ServeFault). IfErr r (λ f. ((f ≡ Halted) ⊎ (f ≡ NoMemory)) × K × IsUnanswered start now v value f v)) (sym same)
      (not_begun fault value v is k)
