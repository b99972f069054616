-- After each call of a port's thread a connection is later, and nothing else.
use Rattle.std.proofs.Common.{◌≡◌, ℕ, Bool, true, false, List, [], ◌∷◌, ◌++◌, refl, sym, ap, ◌∙◌, append_assoc}
use Rattle.std.specs.Prelude.{Result, Ok, Err, drop}
use mathlib.Core.List.{append-nil}
use Rattle.ballot_law.specs.declared.events.Event.{Event}
use Rattle.ballot_law.specs.declared.events.Input.{Input}
use Rattle.ballot_law.specs.declared.messages.Note.{Note}
use Rattle.ballot_law.specs.declared.messages.Output.{Output}
use Rattle.ballot_law.specs.Rosters.{Roster}
use Rattle.client_commands.specs.Courtesies.{is_stranger}
use Rattle.courteous_sessions.specs.Clients.{NotifiesVisit, TellsVisit, notified, knowing, knowing_of, guest_of_visit}
use Rattle.courteous_sessions.specs.Visits.{Visit, Guest}
use Rattle.pubsub.specs.declared.channel.Event.{Event as ChannelEvent}
use Rattle.sentinel_cell.specs.declared.entry.Entry.{Entry}
use Rattle.sentinel_cell.specs.declared.entry.Outcome.{Outcome}
use Rattle.sentinel_cell.specs.declared.view.View.{View}
use Rattle.sentinel_cell.specs.Histories.{World}
use Rattle.sentinel_cell.specs.Standing.{Adds}
use Rattle.process_laws.specs.Meanwhile.{CallsBetweenAreLater}
use Rattle.process_laws.specs.SharedConnections.{IsLater}
use Rattle.courteous_sessions.proofs.SeatCalls.{acted_heard, taken_heard, told_heard}

-- ---- the seat has seen more

abbrev SeesMore : View → View → Type 0
SeesMore v w = (more : List Entry) × (w.front ≡ v.front ++ more)

abbrev Any : Event → Type 0
Any event = Unit {0}

no_more : (v : View) → SeesMore v v
no_more v = ([], sym (append-nil v.front))

module _ (first : View) (start : World) where
  added_more : (v w : View) (input : Input) (outcome : Outcome) (outputs : List Output) → Any input.event → Adds start v input outcome outputs w → SeesMore first v
      → SeesMore first w
  added_more v w input outcome outputs any a sees =
      let last = a.1 ∷ [] in (
        sees.0 ++ (a.0 ++ last),
        a.2
            ∙ ap (λ (l : List Entry). (l ++ a.0) ++ last) sees.1
            ∙ append_assoc (first.front ++ sees.0) a.0 last
            ∙ append_assoc first.front sees.0 (a.0 ++ last),
      )

  same_more : (v w : View) → w.front ≡ v.front → w.numbers ≡ v.numbers → SeesMore first v → SeesMore first w
  same_more v w front numbers sees = (sees.0, front ∙ sees.1)

by_seat : (visit : Visit) (v w : View) → SeesMore v w → IsLater (guest_of_visit visit v) (guest_of_visit visit w)
by_seat visit v w sees = record { more = sees.0; front = sees.1; silent = refl; quiet = refl; known = refl }

-- ---- the connection was told something

by_visit : (visit after : Visit) (v : View) → after.listens ≡ visit.listens → after.listening ≡ visit.listening → is_stranger after.asker ≡ is_stranger visit.asker
    → IsLater (guest_of_visit visit v) (guest_of_visit after v)
by_visit visit after v listens listening known = record { more = []; front = sym (append-nil v.front); silent = listens; quiet = listening; known = known }

by_same : (visit after other : Visit) (v : View) → after ≡ other → other.listens ≡ visit.listens → other.listening ≡ visit.listening
    → is_stranger other.asker ≡ is_stranger visit.asker → IsLater (guest_of_visit visit v) (guest_of_visit after v)
by_same visit after other v is listens listening known =
    by_visit visit after v (ap (λ (x : Visit). x.listens) is ∙ listens) (ap (λ (x : Visit). x.listening) is ∙ listening)
    (ap (λ (x : Visit). is_stranger x.asker) is ∙ known)

noted : (roster : Roster) (note : Note) (entry : ℕ) (visit after : Visit) (result : Result Bool (Unit {0})) (v : View) → NotifiesVisit roster note entry visit result after
    → IsLater (guest_of_visit visit v) (guest_of_visit after v)
noted roster note entry visit after (Ok true) v n = by_same visit after (notified note n.1 visit) v n.3 refl refl refl
noted roster note entry visit after (Ok false) v n = by_same visit after visit v n.1 refl refl refl
noted roster note entry visit after (Err refused) v n = by_same visit after (record visit { told = after.told }) v n.1 refl refl refl

heard_of : (event : ChannelEvent) (visit after : Visit) (result : Result Bool (Unit {0})) (v : View) → TellsVisit event visit result after
    → IsLater (guest_of_visit visit v) (guest_of_visit after v)
heard_of event visit after (Ok any) v t = by_same visit after (record visit { unsent = visit.unsent ++ t.1 }) v t.3 refl refl refl
heard_of event visit after (Err refused) v t = by_same visit after visit v t refl refl refl

both_later : (one two three : Guest) → IsLater one two → IsLater two three → IsLater one three
both_later one two three a b =
    record {
      more = a.more ++ b.more;
      front = b.front ∙ (ap (λ (l : List Entry). l ++ b.more) a.front ∙ append_assoc one.party.view.front a.more b.more);
      silent = b.silent ∙ a.silent;
      quiet = b.quiet ∙ a.quiet;
      known = b.known ∙ a.known;
    }

pub calls_between_are_later : CallsBetweenAreLater
calls_between_are_later = record {
  other = λ start now most piece result v w session after visit t.
      by_seat visit v w
      (taken_heard (SeesMore v) Any start (added_more v start) (same_more v start) (λ n command. tt) now most piece result v w session after t (no_more v));
  turn = λ start v w input outputs result visit a.
      by_seat visit v w (acted_heard (SeesMore v) Any start (added_more v start) (same_more v start) (λ n command. tt) v w input outputs result tt a (no_more v));
  look = λ start v w found shown visit t.
      by_seat visit v w (told_heard (SeesMore v) Any start (added_more v start) (same_more v start) (λ n command. tt) v w found shown t (no_more v));
  note = λ roster note entry visit after result v n. noted roster note entry visit after result v n;
  event = λ event visit after result v t. heard_of event visit after result v t;
  epoch = λ visit epoch v. by_visit visit (knowing visit epoch) v refl refl refl;
  port = λ visit port v. by_visit visit (knowing_of visit port) v refl refl refl;
  sent = λ visit n v. by_visit visit (record visit { unsent = drop n visit.unsent }) v refl refl refl;
  both = both_later;
}
