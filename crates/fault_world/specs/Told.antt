-- What the entries of a report tell: of which elections and configurations shown, and in which words.
use Rattle.std.specs.Prelude.{ℕ, List, [], ◌∷◌, ◌++◌, codes, decimal}
use Rattle.std.specs.List.{flat_map}
use Rattle.ballot_law.specs.declared.addresses.RunId.{RunId}
use Rattle.ballot_law.specs.declared.cards.Card.{Card}
use Rattle.ballot_law.specs.declared.records.Election.{Election}
use Rattle.ballot_law.specs.declared.records.Advertisement.{Advertisement}
use Rattle.ballot_law.specs.Rosters.{Roster, master_at, id_of}
use Rattle.ballot_law.specs.Words.{ip_text, id_text}
use Rattle.fault_world.specs.declared.entry.Entry.{Entry}
use Rattle.fault_world.specs.declared.entry.Entry.TheVariants.{Elected, Said}

-- the entry of an election of the model, and of a configuration that was shown in it: numbers become a run id and a name
abbrev pub entry_of_election : Roster → Election → Entry
entry_of_election roster e = Elected (master_at roster e.master).name e.epoch (id_of roster e.sentinel)

abbrev pub entry_of_said : Roster → Advertisement → Entry
entry_of_said roster s = Said (id_of roster s.sentinel) (master_at roster s.master).name s.card

-- words with a space between two, and LF at the end
abbrev pub line : List (List ℕ) → List ℕ
line [] = 10 ∷ []
line (word ∷ []) = word ++ 10 ∷ []
line (word ∷ next ∷ words) = word ++ 32 ∷ line (next ∷ words)

abbrev pub elected_words : List ℕ → ℕ → RunId → List (List ℕ)
elected_words master epoch id = codes "elected" ∷ master ∷ decimal epoch ∷ id_text id ∷ []

abbrev pub said_words : RunId → List ℕ → Card → List (List ℕ)
said_words id master card =
    codes "said" ∷ id_text id ∷ master ∷ decimal card.epoch ∷ ip_text card.addr.ip ∷ decimal card.addr.port ∷ []

-- the line of an entry
abbrev pub line_of : Entry → List ℕ
line_of (Elected master epoch id) = line (elected_words master epoch id)
line_of (Said id master card) = line (said_words id master card)

-- a line for each entry, in order
abbrev pub report_text : List Entry → List ℕ
report_text entries = flat_map line_of entries
