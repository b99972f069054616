-- Which version of the protocol a connection speaks.
use Rattle.std.specs.Prelude.{ℕ, Bool, true, false, List, [], ◌∷◌, bytes_eq, codes, Option, Some, None}
use Rattle.client_commands.specs.declared.protocols.Protocol.{Protocol}
use Rattle.client_commands.specs.declared.protocols.Protocol.TheVariants.{Two, Three}

abbrev pub version : Protocol → ℕ
version Two = 2
version Three = 3

abbrev pub is_two : Protocol → Bool
is_two Two = true
is_two Three = false

-- the protocol whose number the word is
abbrev pub protocol_named : List ℕ → Option Protocol
protocol_named word =
    elim (bytes_eq word (codes "2")) [ true ↦ Some Two | false ↦ elim (bytes_eq word (codes "3")) [ true ↦ Some Three | false ↦ None ] ]

-- the protocol for which HELLO with these words asks, where there is such; without a number it is the one that the connection speaks
abbrev pub protocol_asked : (speaks : Protocol) → List (List ℕ) → Option Protocol
protocol_asked speaks [] = Some speaks
protocol_asked speaks (word ∷ options) = protocol_named word
