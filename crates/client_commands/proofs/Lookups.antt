-- A command that was looked up, seen by what it gave and by what was written.
use Rattle.std.proofs.Common.{◌≡◌, ℕ, List, Option, None, Some, refl, sym, ap}
use Rattle.ballot_law.specs.Rosters.{Roster}
use Rattle.client_commands.specs.declared.verbs.Verb.{Verb}
use Rattle.client_commands.specs.declared.courtesies.Courtesy.TheVariants.{Said}
use Rattle.client_commands.specs.Courtesies.{ClientInfo, Looked, known, refused, found, text_after, answered, named, protocol_by, admitted_by, killed_by, kind_of, text_of}

pub known_is : (looked : Looked) (verb : Verb) (words : List (List ℕ)) → Some (verb, words) ≡ found looked → looked ≡ known verb words
known_is (known v ws) verb words same =
    ap (λ (o : Option (Verb × List (List ℕ))). elim o as (λ _. Looked) [ None ↦ known verb words | Some x ↦ known x.0 x.1 ]) (sym same)
known_is (refused r) verb words same = let never : Some (verb, words) ≡ None = same in absurd (cc)

pub refused_kind : (roster : Roster) (asker : ClientInfo) (looked : Looked) → None ≡ found looked → Said ≡ kind_of (answered roster asker looked)
refused_kind roster asker (known verb words) same = let never : None ≡ Some (verb, words) = same in absurd (cc)
refused_kind roster asker (refused refusal) same = refl

pub refused_text : (roster : Roster) (asker : ClientInfo) (before : List ℕ) (looked : Looked) → None ≡ found looked → text_after before looked ≡ text_of (answered roster asker looked)
refused_text roster asker before (known verb words) same = let never : None ≡ Some (verb, words) = same in absurd (cc)
refused_text roster asker before (refused refusal) same = refl

pub refused_name : (asker : ClientInfo) (looked : Looked) → None ≡ found looked → named asker looked ≡ asker.name
refused_name asker (known verb words) same = let never : None ≡ Some (verb, words) = same in absurd (cc)
refused_name asker (refused refusal) same = refl

pub refused_protocol : (asker : ClientInfo) (looked : Looked) → None ≡ found looked → protocol_by asker looked ≡ asker.protocol
refused_protocol asker (known verb words) same = let never : None ≡ Some (verb, words) = same in absurd (cc)
refused_protocol asker (refused refusal) same = refl

pub refused_kills : (asker : ClientInfo) (looked : Looked) → None ≡ found looked → killed_by asker looked ≡ asker.port.killed
refused_kills asker (known verb words) same = let never : None ≡ Some (verb, words) = same in absurd (cc)
refused_kills asker (refused refusal) same = refl

-- a command that is refused changes nothing of the connection
pub refused_same : (asker : ClientInfo) (looked : Looked) → None ≡ found looked
    → asker ≡ (let a : ClientInfo = record asker {
      name = named asker looked;
      protocol = protocol_by asker looked;
      admitted = admitted_by asker looked;
      port = record asker.port { killed = killed_by asker looked };
    } in a)
refused_same asker (known verb words) same = let never : None ≡ Some (verb, words) = same in absurd (cc)
refused_same asker (refused refusal) same = refl
