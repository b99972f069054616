-- What the lines of a scenario mean.
use Rattle.std.specs.Prelude.{ℕ, ◌+◌, ◌-◌, ◌^◌, min, Bool, true, false, ◌||◌, ◌&&◌, ◌==◌, List, [], ◌∷◌, ◌++◌, drop, Option, Some, None, Result, Ok, Err, is_some, bytes_eq, codes, if◌then◌else◌}
use Rattle.std.specs.List.{list_any}
use Rattle.std.specs.Result.{result_ok}
use Rattle.std.specs.Str.{is_utf8}
use Rattle.ballot_law.specs.declared.commands.Command.{Command as PortCommand}
use Rattle.ballot_law.specs.declared.events.Event.{Event}
use Rattle.ballot_law.specs.declared.events.Event.TheVariants.{Tick, Command, Become}
use Rattle.ballot_law.specs.declared.messages.NodeName.{NodeName}
use Rattle.ballot_law.specs.declared.messages.NodeName.TheVariants.{SentinelAt, StoreAt, ClientAt, PortAt}
use Rattle.ballot_law.specs.declared.steps.KeptText.{KeptText}
use Rattle.ballot_law.specs.declared.steps.KeptText.TheVariants.{Old, New}
use Rattle.ballot_law.specs.declared.steps.Step.{Step}
use Rattle.ballot_law.specs.declared.steps.Step.TheVariants.{Take, Deliver, Store, StoreRefused, Release, Stop, Start, Answer}
use Rattle.ballot_law.specs.Cuts.{cut_at, lines}
use Rattle.ballot_law.specs.Results.{◌>>=◌}
use Rattle.ballot_law.specs.Words.{number_on, number_within}
use Rattle.resp2.specs.Commands.{bulks, command_of, redis_command_of}
use Rattle.sentinel_rules.specs.declared.profiles.Profile.{Profile}
use Rattle.sentinel_rules.specs.Profiles.{by_profile}
use Rattle.resp2.specs.Framing.Frame.{items}
use Rattle.fault_world.specs.declared.scenarios.faults.ScenarioFault.{ScenarioFault}
use Rattle.fault_world.specs.declared.scenarios.faults.ScenarioKind.{ScenarioKind}
use Rattle.fault_world.specs.declared.scenarios.faults.ScenarioKind.TheVariants.{NotUtf8, UnknownStep, WrongWords, BadNumber, NoMemory}

-- the words of a line, with one space between two of them; an empty word stands between two spaces
abbrev pub words : List ℕ → List (List ℕ)
words = cut_at 32

-- ---- arguments

-- what an argument has to be
pub data Kind : Type 0 where
  -- `s`, `d` or `c`, and a number
  Node : Kind
  -- a number, up to this one
  Number : (greatest : ℕ) → Kind
  -- one of these words
  OneOf : List (List ℕ) → Kind

-- the greatest number, and the greatest that a data node's INFO shows
abbrev pub NUMBER_MAX : ℕ
NUMBER_MAX = 2 ^ 64 - 1

abbrev pub AMOUNT_MAX : ℕ
AMOUNT_MAX = 2 ^ 63 - 1

-- the word begins as a node's does
abbrev pub is_node : List ℕ → Bool
is_node [] = false
is_node (b ∷ bs) = (b == 115) || ((b == 100) || (b == 99))

-- the word may stand there, whatever its number is
abbrev pub may_be : Kind → List ℕ → Bool
may_be Node word = is_node word
may_be (Number greatest) word = true
may_be (OneOf names) word = list_any (bytes_eq word) names

-- the word's number, if it wants one, is in range
abbrev pub has_number : Kind → List ℕ → Bool
has_number Node word = is_some (number_within 0 NUMBER_MAX (drop 1 word))
has_number (Number greatest) word = is_some (number_within 0 greatest word)
has_number (OneOf names) word = true

abbrev pub are_words : List Kind → List (List ℕ) → Bool
are_words [] [] = true
are_words (kind ∷ kinds) (word ∷ words) = may_be kind word && are_words kinds words
are_words _ _ = false

abbrev pub have_numbers : List Kind → List (List ℕ) → Bool
have_numbers (kind ∷ kinds) (word ∷ words) = has_number kind word && have_numbers kinds words
have_numbers _ _ = true

-- ---- what an argument gives

abbrev pub number : List ℕ → ℕ
number digits = number_on 0 digits

-- a node or a master; a number that no place has, from 65,535 on, is that one
abbrev pub place : List ℕ → ℕ
place digits = min (number digits) 65535

abbrev pub node : List ℕ → NodeName
node [] = SentinelAt 0
node (b ∷ digits) =
    if b == 115 then SentinelAt (place digits) else (if b == 100 then StoreAt (place digits) else ClientAt (place digits))

abbrev pub kept : List ℕ → KeptText
kept word = if bytes_eq word (codes "new") then New else Old

abbrev pub take : NodeName → ℕ → Event → Step
take node now event = Take node (record { now = now; event = event })

-- the text that a refused store leaves; none for a store that isn't refused
abbrev pub refused : List ℕ → Option KeptText
refused how = if bytes_eq how (codes "ok") then None else Some (kept how)

abbrev pub stored : NodeName → Option KeptText → Step
stored node None = Store node
stored node (Some left) = StoreRefused node left

-- ---- the table

-- a step's name, what its arguments have to be, and the steps that such arguments give
pub record Row : Type 0 where
  pub name : List ℕ
  pub kinds : List Kind
  pub steps : List (List ℕ) → List Step

abbrev pub row : List ℕ → List Kind → (List (List ℕ) → List Step) → Row
row name kinds steps = record { name = name; kinds = kinds; steps = steps }

abbrev pub one : (List ℕ → List Step) → List (List ℕ) → List Step
one f (a ∷ []) = f a
one f _ = []

abbrev pub two : (List ℕ → List ℕ → List Step) → List (List ℕ) → List Step
two f (a ∷ b ∷ []) = f a b
two f _ = []

abbrev pub four : (List ℕ → List ℕ → List ℕ → List ℕ → List Step) → List (List ℕ) → List Step
four f (a ∷ b ∷ c ∷ d ∷ []) = f a b c d
four f _ = []

abbrev pub any_number : Kind
any_number = Number NUMBER_MAX

abbrev pub amount : Kind
amount = Number AMOUNT_MAX

abbrev pub tick_row : Row
tick_row =
    row (codes "tick") (Node ∷ any_number ∷ any_number ∷ any_number ∷ [])
    (four (λ n master now random. take (node n) (number now) (Tick (place master) (number random)) ∷ []))

abbrev pub deliver_row : Row
deliver_row =
    row (codes "deliver") (any_number ∷ any_number ∷ []) (two (λ message now. Deliver (number message) (number now) ∷ []))

-- a data node's input has no reading: its clock is never looked at
abbrev pub set_row : Row
set_row =
    row (codes "set") (Node ∷ amount ∷ amount ∷ amount ∷ [])
    (four (λ n priority offset link_down. take (node n) 0 (Become (number priority) (number offset) (number link_down)) ∷ []))

abbrev pub store_row : Row
store_row =
    row (codes "store") (Node ∷ OneOf (codes "ok" ∷ codes "old" ∷ codes "new" ∷ []) ∷ []) (two (λ n how. stored (node n) (refused how) ∷ []))

abbrev pub release_row : Row
release_row = row (codes "release") (Node ∷ []) (one (λ n. Release (node n) ∷ []))

abbrev pub done_row : Row
done_row = row (codes "done") (Node ∷ []) (one (λ n. Store (node n) ∷ Release (node n) ∷ []))

abbrev pub stop_row : Row
stop_row =
    row (codes "stop") (Node ∷ OneOf (codes "old" ∷ codes "new" ∷ []) ∷ []) (two (λ n left. Stop (node n) (kept left) ∷ []))

abbrev pub start_row : Row
start_row = row (codes "start") (Node ∷ any_number ∷ []) (two (λ n now. Start (node n) (number now) ∷ []))

abbrev pub answer_row : Row
answer_row = row (codes "answer") (Node ∷ any_number ∷ []) (two (λ n master. Answer (node n) (place master) ∷ []))

-- the steps but for `command`, whose last arguments are a command
abbrev pub table : List Row
table =
    tick_row ∷ deliver_row ∷ set_row ∷ store_row ∷ release_row ∷ done_row ∷ stop_row ∷ start_row ∷ answer_row ∷ []

-- ---- lines

-- the faults in their order, or the steps
abbrev pub with_numbers : Bool → List Step → Result (List Step) ScenarioKind
with_numbers numbers steps = if numbers then Ok steps else Err BadNumber

abbrev pub row_line : Row → List (List ℕ) → Result (List Step) ScenarioKind
row_line r args = if are_words r.kinds args then with_numbers (have_numbers r.kinds args) (r.steps args) else Err WrongWords

-- a client's command at a port of the node, at this reading of its clock
abbrev pub command_steps : NodeName → ℕ → PortCommand → List Step
command_steps node now command = take node now (Command (PortAt 0) command) ∷ []

-- the command of a Sentinel's port that these words are: ports of Redis's profile know one more
abbrev pub command_of_words : Profile → List (List ℕ) → Option PortCommand
command_of_words profile words = result_ok (by_profile profile (command_of (items (bulks words))) (redis_command_of (items (bulks words))))

abbrev pub command_line : Profile → List (List ℕ) → Result (List Step) ScenarioKind
command_line profile (n ∷ now ∷ words) =
    if is_node n then elim (command_of_words profile words) as (λ _. Result (List Step) ScenarioKind) [
      | Some command ↦ with_numbers (has_number Node n && has_number any_number now) (command_steps (node n) (number now) command)
      | None ↦ Err WrongWords
    ] else Err WrongWords
command_line profile _ = Err WrongWords

-- the line whose first word is this name
abbrev pub named : List Row → List ℕ → List (List ℕ) → Result (List Step) ScenarioKind
named [] name args = Err UnknownStep
named (r ∷ rows) name args = if bytes_eq name r.name then row_line r args else named rows name args

abbrev pub line_of_words : Profile → List (List ℕ) → Result (List Step) ScenarioKind
line_of_words profile [] = Ok []
line_of_words profile (name ∷ args) = if bytes_eq name (codes "command") then command_line profile args else named table name args

-- an empty line, and one that begins with `#`, tells nothing
abbrev pub is_skipped : List ℕ → Bool
is_skipped [] = true
is_skipped (b ∷ bs) = b == 35

abbrev pub line_of : Profile → List ℕ → Result (List Step) ScenarioKind
line_of profile line = if is_skipped line then Ok [] else line_of_words profile (words line)

-- ---- the whole scenario

abbrev pub fault_at : ℕ → ScenarioKind → ScenarioFault
fault_at line kind = record { line = line; kind = kind }

-- a growth was refused
abbrev pub no_memory : ScenarioFault
no_memory = fault_at 0 NoMemory

-- the fault of a line with its number
abbrev pub at_line : ℕ → Result (List Step) ScenarioKind → Result (List Step) ScenarioFault
at_line n (Ok steps) = Ok steps
at_line n (Err kind) = Err (fault_at n kind)

-- these steps, and then those of what follows
abbrev pub behind : List Step → Result (List Step) ScenarioFault → Result (List Step) ScenarioFault
behind steps rest = rest >>= λ more. Ok (steps ++ more)

-- the steps of these lines, of which the first has this number, or the first faulty one
abbrev pub steps_from : Profile → ℕ → List (List ℕ) → Result (List Step) ScenarioFault
steps_from profile n [] = Ok []
steps_from profile n (line ∷ lines) = at_line n (line_of profile line) >>= λ steps. behind steps (steps_from profile (n + 1) lines)

-- the steps of a scenario that Sentinels of this profile play
abbrev pub scenario : Profile → List ℕ → Result (List Step) ScenarioFault
scenario profile text = if is_utf8 text then steps_from profile 1 (lines text) else Err (fault_at 0 NotUtf8)
