-- An answer that was delivered was sent by the entry that released it.
use Rattle.std.proofs.Common.{◌≡◌, ℕ, false, List, [], ◌∷◌, ◌++◌, map, refl, ap, sym, ◌∙◌, subst, inl, inr, lit<, Option, Some}
use Rattle.std.specs.Prelude.{Contains, codes}
use Rattle.ballot_law.specs.declared.addresses.Addr.{Addr}
use Rattle.ballot_law.specs.declared.addresses.RunId.{RunId}
use Rattle.ballot_law.specs.declared.commands.Command.{Command}
use Rattle.ballot_law.specs.declared.commands.Command.TheVariants.{Ping as PingCommand, IsMasterDownByAddr}
use Rattle.ballot_law.specs.declared.events.Event.{Event}
use Rattle.ballot_law.specs.declared.events.Event.TheVariants.{Command as Commanded, Answered, Pinged}
use Rattle.ballot_law.specs.declared.messages.Body.{Body}
use Rattle.ballot_law.specs.declared.messages.Body.TheVariants.{Ask, Answer, Ping, PingText, InfoAsk, InfoText, Publish, HelloText, ReplicaOf, HandOver, AddressAsk, AddressAnswer, PortReply, RoleAsk, RoleText, Done}
use Rattle.ballot_law.specs.declared.messages.Message.{Message}
use Rattle.ballot_law.specs.declared.messages.NodeName.{NodeName}
use Rattle.ballot_law.specs.declared.messages.NodeName.TheVariants.{SentinelAt}
use Rattle.ballot_law.specs.declared.messages.Output.{Output}
use Rattle.ballot_law.specs.declared.replies.PingReply.TheVariants.{Pong}
use Rattle.ballot_law.specs.declared.steps.KeptText.{KeptText}
use Rattle.ballot_law.specs.Clocks.{clock}
use Rattle.ballot_law.specs.PingReplies.{reply_of}
use Rattle.ballot_law.specs.Messages.{sent, heard_as, IsForSentinels}
use Rattle.ballot_law.specs.Worlds.{IsFree}
use Rattle.node_texts.specs.Messages.Deliveries.{heard}
use Rattle.sentinel_cell.specs.declared.view.View.{View}
use Rattle.sentinel_cell.specs.Histories.{World, IsLegal, replay}
use Rattle.sentinel_cell.proofs.Cards.{same_plan}
use Rattle.sentinel_rules.specs.Answers.{master_with_card}
use Rattle.sentinel_rules.specs.Plans.{Plan}
use Rattle.sentinel_rules.specs.Profiles.{candidate_heeded}
use Rattle.sentinel_rules.specs.Takes.{cleared}
use Rattle.port_sessions.proofs.Turning.{last_world}
use Rattle.process_laws.specs.Actions.{Took, output_to, sent_by, IsHeard}
use Rattle.process_laws.specs.Connections.{IsAlone, IsDelivered, Fits, answer_body}
use Rattle.process_laws.specs.HeardAnswers.{TellsOfRunId, AnswersAreHeard}
use Rattle.process_laws.proofs.About.{answers_are_about_it}
use Rattle.process_laws.proofs.Turns.{answer_of}

one_command : (asker : NodeName) (one other : Command) → ◌≡◌ {A = Option Event} (Some (Commanded asker one)) (Some (Commanded asker other)) → one ≡ other
one_command asker one other e = cc

one_event : (one other : Event) → ◌≡◌ {A = Option Event} (Some one) (Some other) → one ≡ other
one_event one other e = cc

-- the messages that the action of the releasing entry sent
abbrev IsSentIn : (start : World) (i : ℕ) (v : View) (question : Body) (event : Event) (w : View) → IsDelivered start (SentinelAt i) v question event w → KeptText →
    List Message → Type 0
IsSentIn start i v question event w d left messages =
    (message : Message) → Contains (sent_by (Took start.plan.place d.entry (SentinelAt i) left)) message → Contains messages message

module _ (start : World) (i : ℕ) (v w : View) (left : KeptText) (plan : Plan) (stores : ℕ) (messages : List Message) where
  -- an answer to PING is heard from whomever it comes
  pong_heard : (event : Event) (d : IsDelivered start (SentinelAt i) v Ping event w) → IsHeard plan stores messages i event
  pong_heard event d =
      let voter = SentinelAt start.plan.place in
      let world = replay start (v.front ++ d.between) in
      let command_is : PingCommand ≡ d.command = one_command (SentinelAt i) PingCommand d.command d.delivered in
      let hears = subst (λ (c : Command). Fits Ping (answer_body world d.now c) → heard voter (answer_body world d.now c) ≡ Some event) (sym command_is) d.is_event in
      let event_is : Pinged voter (reply_of false (codes "PONG")) ≡ event = one_event (Pinged voter (reply_of false (codes "PONG"))) event (hears tt) in
      inl (inl (subst IsFree event_is tt))

  answer_heard : (m : ℕ) (addr : Addr) (epoch : ℕ) (candidate : Option RunId) (event : Event) (d : IsDelivered start (SentinelAt i) v (Ask m addr epoch candidate) event w)
      → IsAlone start.plan m addr → TellsOfRunId (answer_body (replay start (v.front ++ d.between)) d.now d.command)
      → IsSentIn start i v (Ask m addr epoch candidate) event w d left messages → IsHeard plan stores messages i event
  answer_heard m addr epoch candidate event d alone tells sent_in =
      let voter = SentinelAt start.plan.place in
      let question = Ask m addr epoch candidate in
      let history = v.front ++ d.between in
      let world = replay start history in
      let good = (last_world start history d.entry (subst (IsLegal start) d.front d.legal)).0 in
      let plan_is : world.plan ≡ start.plan = same_plan start history in
      let command_is : IsMasterDownByAddr addr epoch candidate ≡ d.command = one_command (SentinelAt i) (IsMasterDownByAddr addr epoch candidate) d.command d.delivered in
      let core = cleared world.core in
      let a = answer_of world.plan (clock d.now) addr epoch (candidate_heeded world.plan candidate) (master_with_card core.kept.masters addr) core in
      let answer = answer_body world d.now d.command in
      let body_is : answer ≡ Answer a.master addr a.down a.leader a.epoch = ap (answer_body world d.now) (sym command_is) ∙ a.is_it in
      let about : a.master ≡ m =
      answers_are_about_it world d.now m addr epoch candidate a.master a.down a.leader a.epoch good (subst (λ (p : Plan). IsAlone p m addr) (sym plan_is) alone) a.is_it in
      let fits : Fits question answer = subst (Fits question) (sym body_is) (about, subst TellsOfRunId body_is tells) in
      let event_is : Answered voter a.master addr a.down a.leader a.epoch ≡ event =
      one_event (Answered voter a.master addr a.down a.leader a.epoch) event (ap (heard voter) (sym body_is) ∙ d.is_event fits) in
      let message : Message = record { sender = SentinelAt world.plan.place; target = SentinelAt i; body = answer } in
      let released : sent_by (Took start.plan.place d.entry (SentinelAt i) left) ≡ message ∷ [] = ap (λ (o : List Output). sent (map (output_to (SentinelAt i)) o)) d.released in
      let here : Contains messages message = sent_in message (subst (λ (l : List Message). Contains l message) (sym released) (0, lit< tt, refl)) in
      inr (inl (
        message,
        here,
        refl,
        subst IsForSentinels (sym body_is) tt,
        record {
          reply = Pong;
          info = [];
          is_event =
              sym event_is
              ∙ ap (λ (p : Plan). Answered (SentinelAt p.place) a.master addr a.down a.leader a.epoch) (sym plan_is)
              ∙ ap (heard_as Pong [] message (SentinelAt world.plan.place)) (sym body_is);
        },
      ))

pub answers_are_heard : AnswersAreHeard
answers_are_heard start i v w Ping event d left plan stores messages askable one tells sent_in = pong_heard start i v w left plan stores messages event d
answers_are_heard start i v w (Ask m addr epoch candidate) event d left plan stores messages askable one tells sent_in =
    answer_heard start i v w left plan stores messages m addr epoch candidate event d one tells sent_in
answers_are_heard start i v w (Answer n addr down leader voted) event d left plan stores messages askable one tells sent_in = absurd askable
answers_are_heard start i v w (PingText is_error text) event d left plan stores messages askable one tells sent_in = absurd askable
answers_are_heard start i v w InfoAsk event d left plan stores messages askable one tells sent_in = absurd askable
answers_are_heard start i v w (InfoText info) event d left plan stores messages askable one tells sent_in = absurd askable
answers_are_heard start i v w (Publish hello) event d left plan stores messages askable one tells sent_in = absurd askable
answers_are_heard start i v w (HelloText hello) event d left plan stores messages askable one tells sent_in = absurd askable
answers_are_heard start i v w (ReplicaOf to) event d left plan stores messages askable one tells sent_in = absurd askable
answers_are_heard start i v w (HandOver heir) event d left plan stores messages askable one tells sent_in = absurd askable
answers_are_heard start i v w (AddressAsk name) event d left plan stores messages askable one tells sent_in = absurd askable
answers_are_heard start i v w (AddressAnswer shown) event d left plan stores messages askable one tells sent_in = absurd askable
answers_are_heard start i v w (PortReply shown text) event d left plan stores messages askable one tells sent_in = absurd askable
answers_are_heard start i v w RoleAsk event d left plan stores messages askable one tells sent_in = absurd askable
answers_are_heard start i v w (RoleText role) event d left plan stores messages askable one tells sent_in = absurd askable
answers_are_heard start i v w Done event d left plan stores messages askable one tells sent_in = absurd askable
