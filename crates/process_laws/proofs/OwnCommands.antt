-- A command of the Sentinel's rules is answered alike at both protocols, where its answer is no null.
use Rattle.std.proofs.Common.{◌≡◌, ◌≢◌, ◌∙◌, ℕ, Bool, true, false, List, Option, None, Ok, refl, ap, sym, subst}
use Rattle.ballot_law.specs.declared.commands.Command.{Command}
use Rattle.ballot_law.specs.declared.commands.Command.TheVariants.{Subscribe}
use Rattle.client_commands.specs.Courtesies.{is_stranger}
use Rattle.client_commands.specs.declared.protocols.Protocol.{Protocol}
use Rattle.client_commands.specs.declared.protocols.Protocol.TheVariants.{Two, Three}
use Rattle.courteous_sessions.specs.Epochs.{heard}
use Rattle.courteous_sessions.specs.Retelling.{shape_of, without_null, is_null, null_line, IsTold}
use Rattle.courteous_sessions.specs.Visits.{Guest, guest, Tells}
use Rattle.courteous_sessions.proofs.Keeping.{own_as_before, own_in_three}
use Rattle.port_sessions.specs.Talks.{Party, party, Responds}
use Rattle.pubsub.specs.Listening.{is_listening}
use Rattle.resp2.specs.Commands.{redis_command_of}
use Rattle.resp2.specs.Framing.Frame.{Frame}
use Rattle.sentinel_cell.specs.Histories.{World}

-- what a session that listens to nothing answers, which is told as it is where it is no null, and what the next answer rests on
pub record IsOwnAnswer (start : World) (now : ℕ) (g : Guest) (command : Command) (bytes : List ℕ) (h : Guest) : Type 0 where
  pub answer : List ℕ
  pub q : Party
  pub responds : Responds start now (party g.party.view None) (Ok (heard g.asker.current command)) answer q
  pub told : is_null answer ≡ false → bytes ≡ answer
  pub same : q.listens ≡ None → h ≡ guest q g.listening g.told g.asker

-- protocol 3 tells what a value is answered as it is, but for a null
abbrev pub IsCopied : Frame → Type 0
IsCopied value = (answer bytes : List ℕ) → IsTold Three (shape_of value) answer bytes → bytes ≡ without_null answer

as_it_is : (answer bytes : List ℕ) → bytes ≡ without_null answer → is_null answer ≡ false → bytes ≡ answer
as_it_is answer bytes told some = told ∙ ap (λ (b : Bool). elim b as (λ _. List ℕ) [ true ↦ null_line | false ↦ answer ]) some

by_protocol : (protocol : Protocol) (start : World) (now : ℕ) (g h : Guest) (value : Frame) (command : Command) (bytes : List ℕ) → g.asker.protocol ≡ protocol
    → is_stranger g.asker ≡ false → is_listening g.listening ≡ false → g.party.listens ≡ None → command ≢ Subscribe → IsCopied value
    → redis_command_of value ≡ Ok command → Tells start now g value bytes h → IsOwnAnswer start now g command bytes h
by_protocol Two start now g h value command bytes speaks known quiet silent differs copied is tells =
    let own = own_as_before start now g h value command bytes speaks known quiet differs is tells in
    let silenced : g.party ≡ party g.party.view None = ap (λ (l : Option ℕ). party g.party.view l) silent in
    record {
      answer = bytes;
      q = h.party;
      responds = subst (λ (p : Party). Responds start now p (Ok (heard g.asker.current command)) bytes h.party) silenced own.0;
      told = λ some. refl;
      same = λ listens. own.1;
    }
by_protocol Three start now g h value command bytes speaks known quiet silent differs copied is tells =
    let own = own_in_three start now g h value command bytes speaks known differs is tells in
    let answer = own.0 in
    let q = own.1 in
    record {
      answer = answer;
      q = q;
      responds = own.2;
      told = as_it_is answer bytes (copied answer bytes own.3);
      same = λ listens. own.4 ∙ ap (λ (l : Option ℕ). guest (party q.view l) g.listening g.told g.asker) (silent ∙ sym listens);
    }

-- whichever protocol the connection speaks
pub own_answer : (start : World) (now : ℕ) (g h : Guest) (value : Frame) (command : Command) (bytes : List ℕ)
    → is_stranger g.asker ≡ false → is_listening g.listening ≡ false → g.party.listens ≡ None → command ≢ Subscribe
    → IsCopied value → redis_command_of value ≡ Ok command → Tells start now g value bytes h → IsOwnAnswer start now g command bytes h
own_answer start now g h value command bytes known quiet silent differs copied is tells =
    by_protocol g.asker.protocol start now g h value command bytes refl known quiet silent differs copied is tells
