-- What the next command makes of a conversation, by what stands at the front.
use Rattle.std.proofs.Common.{◌≡◌, ℕ, true, List, [], ◌++◌, Some, None, refl, subst, sym, ap}
use Rattle.std.proofs.lemmas.Option.{none-some, same_Some}
use Rattle.data_node_port.specs.declared.asks.Ask.{Ask}
use Rattle.data_node_port.specs.Asks.{ask_of}
use Rattle.data_node_port.specs.Readings.{Turn, asks, waits, broken, turn_at}
use Rattle.data_node_port.specs.Talks.{Talk, NextOf, protocol_error}

pub asked_next : (turn : Turn) (words : List (List ℕ)) (rest : List ℕ) (old new : Talk) (ask : Ask) → asks words rest ≡ turn → ask ≡ ask_of words
    → new ≡ record old { held = rest } → NextOf turn old (Some ask) new
asked_next turn words rest old new ask is asked left = subst (λ (t : Turn). NextOf t old (Some ask) new) is (ap Some asked, left)

pub waits_next : (turn : Turn) (old new : Talk) → waits ≡ turn → new ≡ old → NextOf turn old None new
waits_next turn old new is same = subst (λ (t : Turn). NextOf t old None new) is (refl, same)

pub broken_next : (turn : Turn) (old new : Talk) → broken ≡ turn → new ≡ record { held = []; unsent = old.unsent ++ protocol_error; ends = true } → NextOf turn old None new
broken_next turn old new is told = subst (λ (t : Turn). NextOf t old None new) is (refl, told)

pub ended_next : (old : Talk) → old.held ≡ [] → NextOf (turn_at old.held) old None old
ended_next old none = subst (λ (held : List ℕ). NextOf (turn_at held) old None old) (sym none) (refl, refl)

-- what is asked next is the command that stands at the front
pub asked_of : (turn : Turn) (words : List (List ℕ)) (rest : List ℕ) (old new : Talk) (ask : Ask) → asks words rest ≡ turn → NextOf turn old (Some ask) new
    → ask ≡ ask_of words
asked_of turn words rest old new ask is next =
    subst (λ (t : Turn). NextOf t old (Some ask) new → ask ≡ ask_of words) is (λ n. same_Some ask (ask_of words) n.0) next

pub asks_something : (turn : Turn) (words : List (List ℕ)) (rest : List ℕ) (old new : Talk) → asks words rest ≡ turn → NextOf turn old None new → ⊥
asks_something turn words rest old new is next = subst (λ (t : Turn). NextOf t old None new → ⊥) is (λ n. none-some (ask_of words) n.0) next
