-- The entries of what a Sentinel advertises, one after the other.
use Rattle.std.proofs.Common.{◌≡◌, ℕ, ◌≤◌, List, [], ◌∷◌, ◌++◌, length, take, map, refl, sym, ◌∙◌, ap, append-nil}
use Rattle.std.specs.List.{flat_map}
use Rattle.std.proofs.lemmas.List.{map-append, take_all}
use Rattle.std.proofs.lemmas.List.Concat.{flat_map-cons}
use Rattle.ballot_law.specs.declared.cards.Shown.{Shown}
use Rattle.ballot_law.specs.declared.messages.Output.{Output}
use Rattle.ballot_law.specs.declared.messages.Output.TheVariants.{Send, Tell}
use Rattle.ballot_law.specs.declared.records.Advertisement.{Advertisement}
use Rattle.ballot_law.specs.Messages.{advertised, advertised_by}
use Rattle.ballot_law.specs.Rosters.{Roster}
use Rattle.ballot_law.specs.Worlds.{said_by}
use Rattle.fault_world.specs.declared.entry.Entry.{Entry}
use Rattle.fault_world.specs.Told.{entry_of_said}

abbrev pub entry_of_shown : Roster → ℕ → Shown → Entry
entry_of_shown roster i shown = entry_of_said roster (record { sentinel = i; master = shown.master; card = shown.card })

abbrev pub news_of_output : Roster → ℕ → Output → List Entry
news_of_output roster i output = map (entry_of_said roster) (said_by i (advertised_by roster (output ∷ [])))

pub shown_told : (roster : Roster) (i : ℕ) (shown : List Shown) → map (entry_of_shown roster i) shown ≡ map (entry_of_said roster) (said_by i shown)
shown_told roster i [] = refl
shown_told roster i (one ∷ shown) = ap (λ entries. entry_of_shown roster i one ∷ entries) (shown_told roster i shown)

pub all_shown : (roster : Roster) (i : ℕ) (shown : List Shown) (k : ℕ) (before after : List Entry) → length shown ≤ k →
    after ≡ before ++ map (entry_of_shown roster i) (take k shown) → after ≡ before ++ map (entry_of_said roster) (said_by i shown)
all_shown roster i shown k before after past e = e ∙ ap (λ xs. before ++ map (entry_of_shown roster i) xs) (take_all k shown past) ∙
    ap (λ ys. before ++ ys) (shown_told roster i shown)

said_append : (roster : Roster) (i : ℕ) (xs ys : List Shown) →
    map (entry_of_said roster) (said_by i (xs ++ ys)) ≡ map (entry_of_said roster) (said_by i xs) ++ map (entry_of_said roster) (said_by i ys)
said_append roster i xs ys =
    ap (map (entry_of_said roster)) (map-append (λ (s : Shown). let said : Advertisement = record { sentinel = i; master = s.master; card = s.card } in said) xs ys) ∙
    map-append (entry_of_said roster) (said_by i xs) (said_by i ys)

outputs_told : (roster : Roster) (i : ℕ) (outputs : List Output) →
    flat_map (news_of_output roster i) outputs ≡ map (entry_of_said roster) (said_by i (advertised_by roster outputs))
outputs_told roster i [] = refl
outputs_told roster i (Send message ∷ outputs) =
    flat_map-cons (news_of_output roster i) (Send message) outputs
    ∙ ap (λ xs. xs ++ flat_map (news_of_output roster i) outputs) (ap (λ xs. map (entry_of_said roster) (said_by i xs)) (append-nil (advertised roster message.body)))
    ∙ ap (λ ys. map (entry_of_said roster) (said_by i (advertised roster message.body)) ++ ys) (outputs_told roster i outputs)
    ∙ sym (said_append roster i (advertised roster message.body) (advertised_by roster outputs))
outputs_told roster i (Tell note ∷ outputs) =
    flat_map-cons (news_of_output roster i) (Tell note) outputs
    ∙ ap (λ ys. entry_of_shown roster i (record { master = note.master; card = note.card }) ∷ ys) (outputs_told roster i outputs)

pub all_outputs : (roster : Roster) (i : ℕ) (outputs : List Output) (k : ℕ) (before after : List Entry) → length outputs ≤ k →
    after ≡ before ++ flat_map (news_of_output roster i) (take k outputs) → after ≡ before ++ map (entry_of_said roster) (said_by i (advertised_by roster outputs))
all_outputs roster i outputs k before after past e = e ∙ ap (λ xs. before ++ flat_map (news_of_output roster i) xs) (take_all k outputs past) ∙
    ap (λ ys. before ++ ys) (outputs_told roster i outputs)
