-- How a port answers a login.
use Rattle.std.specs.Prelude.{◌≡◌, ℕ, ◌≤◌, ◌∷◌, true, false, List, length, codes}
use Rattle.client_commands.specs.declared.protocols.Protocol.TheVariants.{Two}
use Rattle.client_commands.specs.Courtesies.{admits, is_stranger}
use Rattle.courteous_sessions.specs.Visits.{Guest, Tells}
use Rattle.node_texts.specs.Messages.MessageTexts.{words_frame}
use Rattle.resp2.specs.Framing.Frame.{Frame, spelling, IsPlain}
use Rattle.sentinel_cell.specs.Histories.{World}

-- On a connection of protocol 2 that listens to nothing AUTH, with one word or two, is answered by one value; it takes no turn and changes nothing of what the connection
-- listens to; and where the words are what is wanted, no password is owed then
abbrev pub LoginsHaveOneAnswer : Type 0
LoginsHaveOneAnswer =
    (start : World) (now : ℕ) (g h : Guest) (first : List ℕ) (others : List (List ℕ)) (bytes : List ℕ)
    → length others ≤ 1
    → g.asker.protocol ≡ Two
    → g.asker.listens ≡ false
    → Tells start now g (words_frame (codes "AUTH" ∷ first ∷ others)) bytes h
    → (answer : Frame) × (bytes ≡ spelling answer) × IsPlain answer × (h.party ≡ g.party) × (h.listening ≡ g.listening)
    × (admits g.asker.password (first ∷ others) ≡ true → is_stranger h.asker ≡ false)
