-- Lines that stop, start or set a data node, or stop or start a Sentinel.
use Rattle.std.specs.Prelude.{ℕ, ◌==◌, true, false, nat_lt, List, [], ◌∷◌, ◌++◌, length, Option, Some, None, option_map, codes}
use Rattle.ballot_law.specs.Orders.{same_bytes}
use Rattle.ballot_law.specs.Words.{cut_at, number_within, some_if, then_some}
use Rattle.channel_transport.specs.declared.node_orders.TheConstants.{GREATEST}
use Rattle.channel_transport.specs.Dispatches as nodes
use Rattle.sentinel_runner.specs.declared.line_reader.TheConstants.{LINE_MAX}
use Rattle.sentinel_runner.specs.declared.orders.Counts.{Counts}
use Rattle.sentinel_runner.specs.declared.orders.LineOrder.{LineOrder}
use Rattle.sentinel_runner.specs.declared.orders.LineOrder.TheVariants.{StopSentinel, StartSentinel, ToNode}
use Rattle.sentinel_runner.specs.declared.orders.Target.{Target}
use Rattle.sentinel_runner.specs.declared.orders.Target.TheVariants.{Sentinel, Node}

-- the number that these digits are, where it is below the count
abbrev pub number_below : (count : ℕ) → List ℕ → Option ℕ
number_below count digits = then_some (number_within 0 65535 digits) (λ n. some_if (nat_lt n count) n)

-- `s` and the number of a Sentinel, or `d` and that of a data node
abbrev pub target_of : Counts → List ℕ → Option Target
target_of counts [] = None
target_of counts (letter ∷ digits) =
    elim (letter == 115) [
      | true ↦ option_map Sentinel (number_below counts.sentinels digits)
      | false ↦ elim (letter == 100) [ true ↦ option_map Node (number_below counts.nodes digits) | false ↦ None ]
    ]

abbrev pub node_in : Target → Option ℕ
node_in (Sentinel place) = None
node_in (Node number) = Some number

abbrev pub node_of : Counts → List ℕ → Option ℕ
node_of counts word = then_some (target_of counts word) node_in

abbrev pub stopping : Target → LineOrder
stopping (Sentinel place) = StopSentinel place
stopping (Node number) = ToNode (nodes.stopping number)

abbrev pub starting : Target → LineOrder
starting (Sentinel place) = StartSentinel place
starting (Node number) = ToNode (nodes.starting number)

-- `stop` or `start`
abbrev pub plain_order : (verb : List ℕ) → Target → Option LineOrder
plain_order verb target =
    elim (same_bytes verb (codes "stop")) [ true ↦ Some (stopping target) | false ↦ some_if (same_bytes verb (codes "start")) (starting target) ]

-- a priority, an offset, and for how many seconds the link to the master has been down
abbrev pub set_order : (number : ℕ) → (priority offset link_down : List ℕ) → Option LineOrder
set_order number priority offset link_down =
    then_some (number_within 0 GREATEST priority) (λ p. then_some (number_within 0 GREATEST offset) (λ o.
    then_some (number_within 0 GREATEST link_down) (λ l. Some (ToNode (nodes.becoming number p o l)))))

-- `stop s0`, `start s0`, `stop d0`, `start d0` and `set d0 100 0 0` are orders, and nothing else
abbrev pub order_of_words : Counts → List (List ℕ) → Option LineOrder
order_of_words counts (verb ∷ name ∷ []) = then_some (target_of counts name) (plain_order verb)
order_of_words counts (verb ∷ name ∷ priority ∷ offset ∷ link_down ∷ []) =
    elim (same_bytes verb (codes "set")) [ true ↦ then_some (node_of counts name) (λ n. set_order n priority offset link_down) | false ↦ None ]
order_of_words counts _ = None

abbrev pub order_of : Counts → List ℕ → Option LineOrder
order_of counts line = order_of_words counts (cut_at 32 line)

-- a line as far as it was read, where it isn't too long; LF ends it
abbrev pub with_byte : Option (List ℕ) → ℕ → Option (List ℕ)
with_byte None byte = None
with_byte (Some line) byte = some_if (nat_lt (length line) LINE_MAX) (line ++ byte ∷ [])
