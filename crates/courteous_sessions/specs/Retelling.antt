-- How protocol 3 spells values, and as what it tells the answers that protocol 2 has: rows as maps, texts of clients verbatim, what Pub/Sub says as pushes.
use Rattle.std.specs.Prelude.{◌≡◌, ◌⊎◌, ◌<◌, ◌++◌, ◌∷◌, ◌+◌, ◌/◌, ◌%◌, ◌^◌, ◌||◌, ℕ, Bool, true, false, List, [], Result, Ok, Err, bytes_eq, codes, decimal, length}
use Rattle.ballot_law.specs.declared.commands.Command.{Command}
use Rattle.ballot_law.specs.declared.commands.Command.TheVariants.{Masters, Master, Replicas, Sentinels}
use Rattle.client_commands.specs.declared.protocols.Protocol.{Protocol}
use Rattle.client_commands.specs.declared.protocols.Protocol.TheVariants.{Two, Three}
use Rattle.pubsub.specs.Answering.{is_called}
use Rattle.resp2.specs.declared.command.CommandFault.{CommandFault}
use Rattle.resp2.specs.Commands.{word, redis_command_of}
use Rattle.resp2.specs.Framing.Frame.{Frame, FrameList, simple, fault, int, bulk, null_bulk, items, null_items, no_frames, frame, count, line_end, spelling, spellings, IsPlain}
use Rattle.courteous_sessions.specs.Nested.{spelling_in, rows_spelling}
use Rattle.courteous_sessions.specs.declared.nested.Manner.TheVariants.{InDocs}
use Rattle.courteous_sessions.specs.declared.shapes.Shape.{Shape}
use Rattle.courteous_sessions.specs.declared.shapes.Shape.TheVariants.{Plain, Whole, Pairs, Tables, Verbatim, Pushes, Rows, Docs}

-- ---- the spelling of protocol 3

-- it has one null, where protocol 2 has two
abbrev pub null_line : List ℕ
null_line = 95 ∷ line_end

abbrev mutual
  pub spelling3 : Frame → List ℕ
  spelling3 (simple text) = spelling (simple text)
  spelling3 (fault text) = spelling (fault text)
  spelling3 (int n) = spelling (int n)
  spelling3 (bulk bytes) = spelling (bulk bytes)
  spelling3 null_bulk = null_line
  spelling3 (items fs) = 42 ∷ ((decimal (count fs) ++ line_end) ++ spellings3 fs)
  spelling3 null_items = null_line

  pub spellings3 : FrameList → List ℕ
  spellings3 no_frames = []
  spellings3 (frame f fs) = spelling3 f ++ spellings3 fs

-- names and their values are a map; what is no array, as a refusal is, stays what it is
abbrev pub map_spelling : Frame → List ℕ
map_spelling (items fs) = 37 ∷ ((decimal (count fs / 2) ++ line_end) ++ spellings3 fs)
map_spelling f = spelling3 f

abbrev pub map_spellings : FrameList → List ℕ
map_spellings no_frames = []
map_spellings (frame f fs) = map_spelling f ++ map_spellings fs

-- an array of rows, each of which is a map
abbrev pub table_spelling : Frame → List ℕ
table_spelling (items fs) = 42 ∷ ((decimal (count fs) ++ line_end) ++ map_spellings fs)
table_spelling f = spelling3 f

-- a text that people read, with the name of its format before it
abbrev pub text_spelling : Frame → List ℕ
text_spelling (bulk bytes) = 61 ∷ ((decimal (length bytes + 4) ++ line_end) ++ ((codes "txt:" ++ bytes) ++ line_end))
text_spelling f = spelling3 f

-- what comes without being asked for, and what confirms a subscription
abbrev pub push_spelling : Frame → List ℕ
push_spelling (items fs) = 62 ∷ ((decimal (count fs) ++ line_end) ++ spellings3 fs)
push_spelling f = spelling3 f

-- a value as it is told
abbrev pub told_as : Shape → Frame → List ℕ
told_as Plain f = spelling3 f
told_as Whole f = spelling3 f
told_as Pairs f = map_spelling f
told_as Tables f = table_spelling f
told_as Verbatim f = text_spelling f
told_as Pushes f = push_spelling f
told_as Rows f = rows_spelling f
told_as Docs f = spelling_in InDocs f

abbrev pub all_told_as : Shape → FrameList → List ℕ
all_told_as shape no_frames = []
all_told_as shape (frame f fs) = told_as shape f ++ all_told_as shape fs

-- ---- that both protocols say the same

-- a value in which both nulls of protocol 2 are one
abbrev mutual
  pub with_one_null : Frame → Frame
  with_one_null (simple text) = simple text
  with_one_null (fault text) = fault text
  with_one_null (int n) = int n
  with_one_null (bulk bytes) = bulk bytes
  with_one_null null_bulk = null_bulk
  with_one_null (items fs) = items (each_with_one_null fs)
  with_one_null null_items = null_bulk

  pub each_with_one_null : FrameList → FrameList
  each_with_one_null no_frames = no_frames
  each_with_one_null (frame f fs) = frame (with_one_null f) (each_with_one_null fs)

-- each name has a value
abbrev pub IsPaired : Frame → Type 0
IsPaired (items fs) = count fs % 2 ≡ 0
IsPaired f = Unit {0}

abbrev pub ArePaired : FrameList → Type 0
ArePaired no_frames = Unit {0}
ArePaired (frame f fs) = IsPaired f × ArePaired fs

abbrev pub HasPairedRows : Frame → Type 0
HasPairedRows (items fs) = ArePaired fs
HasPairedRows f = Unit {0}

-- the length of a text and that of its mark are a number of 64 bits
abbrev pub HasShortText : Frame → Type 0
HasShortText (bulk bytes) = length bytes + 4 < 2 ^ 64
HasShortText f = Unit {0}

abbrev pub CanBe : Shape → Frame → Type 0
CanBe Plain f = Unit {0}
CanBe Whole f = Unit {0}
CanBe Pairs f = IsPaired f
CanBe Tables f = HasPairedRows f
CanBe Verbatim f = HasShortText f
CanBe Pushes f = Unit {0}
CanBe Rows f = Unit {0}
CanBe Docs f = Unit {0}

-- Two values that protocol 3 tells alike, whatever follows them, are the same in protocol 2, up to which null is told
abbrev pub SaysTheSame : Type 0
SaysTheSame =
    (shape : Shape) (f g : Frame) (x y : List ℕ) → IsPlain f → IsPlain g → CanBe shape f → CanBe shape g → told_as shape f ++ x ≡ told_as shape g ++ y
    → (with_one_null f ≡ with_one_null g) × (x ≡ y)

-- ---- how an answer of protocol 2 is told

-- an answer that holds no null is spelled alike in both; one that is a null is protocol 3's
abbrev pub is_null : List ℕ → Bool
is_null answer = bytes_eq answer (spelling null_bulk) || bytes_eq answer (spelling null_items)

abbrev pub without_null : List ℕ → List ℕ
without_null answer = elim (is_null answer) [ true ↦ null_line | false ↦ answer ]

-- a value holds no null
abbrev mutual
  pub HoldsNoNull : Frame → Type 0
  HoldsNoNull (simple text) = Unit {0}
  HoldsNoNull (fault text) = Unit {0}
  HoldsNoNull (int n) = Unit {0}
  HoldsNoNull (bulk bytes) = Unit {0}
  HoldsNoNull null_bulk = ⊥
  HoldsNoNull (items fs) = HoldNoNull fs
  HoldsNoNull null_items = ⊥

  pub HoldNoNull : FrameList → Type 0
  HoldNoNull no_frames = Unit {0}
  HoldNoNull (frame f fs) = HoldsNoNull f × HoldNoNull fs

-- so a value that is a null, or holds none, is told as protocol 3 spells it
abbrev pub PlainIsSpelled : Type 0
PlainIsSpelled = (f : Frame) → IsPlain f → (f ≡ null_bulk) ⊎ ((f ≡ null_items) ⊎ HoldsNoNull f) → without_null (spelling f) ≡ spelling3 f

-- the values that the answer spells, told as what they are
abbrev pub AreTold : Shape → (answer bytes : List ℕ) → Type 0
AreTold shape answer bytes = (values : FrameList) × (answer ≡ spellings values) × (bytes ≡ all_told_as shape values)

abbrev pub IsTold3 : Shape → (answer bytes : List ℕ) → Type 0
IsTold3 Plain answer bytes = bytes ≡ without_null answer
IsTold3 Whole answer bytes = AreTold Whole answer bytes
IsTold3 Pairs answer bytes = AreTold Pairs answer bytes
IsTold3 Tables answer bytes = AreTold Tables answer bytes
IsTold3 Verbatim answer bytes = AreTold Verbatim answer bytes
IsTold3 Pushes answer bytes = AreTold Pushes answer bytes
IsTold3 Rows answer bytes = AreTold Rows answer bytes
IsTold3 Docs answer bytes = AreTold Docs answer bytes

-- protocol 2 tells each answer as it is
abbrev pub IsTold : Protocol → Shape → (answer bytes : List ℕ) → Type 0
IsTold Two shape answer bytes = bytes ≡ answer
IsTold Three shape answer bytes = IsTold3 shape answer bytes

-- what is told of an answer joined what was there
abbrev pub JoinsTold : Protocol → Shape → (answer before after : List ℕ) → Type 0
JoinsTold protocol shape answer before after = (bytes : List ℕ) × (after ≡ before ++ bytes) × IsTold protocol shape answer bytes

-- ---- what an answer is

abbrev pub shape_of_command : Command → Shape
shape_of_command (Master name) = Pairs
shape_of_command Masters = Tables
shape_of_command (Replicas name) = Tables
shape_of_command (Sentinels name) = Tables
shape_of_command command = Plain

abbrev pub shape_of_sentinel : (word : List ℕ) → Shape
shape_of_sentinel word =
    elim (is_called (codes "config") word) [ true ↦ Pairs | false ↦ elim (is_called (codes "info-cache") word) [ true ↦ Whole | false ↦ Plain ] ]

abbrev pub shape_of_client : (word : List ℕ) → Shape
shape_of_client word = elim (is_called (codes "list") word || is_called (codes "info") word) [ true ↦ Verbatim | false ↦ Plain ]

-- of COMMAND without a word after it, or of a subcommand of it
abbrev pub shape_of_table : (word : List ℕ) → Shape
shape_of_table word =
    elim (is_called (codes "docs") word) [
      | true ↦ Docs
      | false ↦ elim (is_called (codes "info") word || is_called (codes "") word) [ true ↦ Rows | false ↦ Plain ]
    ]

-- of commands beside the Sentinel's own, by their name and the word after it
abbrev pub shape_of_words : (name word : List ℕ) → Shape
shape_of_words name word =
    elim (is_called (codes "hello") name) [
      | true ↦ Pairs
      | false ↦ elim (is_called (codes "sentinel") name) [
        | true ↦ shape_of_sentinel word
        | false ↦ elim (is_called (codes "client") name) [
          | true ↦ shape_of_client word
          | false ↦ elim (is_called (codes "command") name) [ true ↦ shape_of_table word | false ↦ Plain ]
        ]
      ]
    ]

-- the items of an array
abbrev pub items_of : Frame → FrameList
items_of (items fs) = fs
items_of value = no_frames

-- the bytes of the first item, and of the second
abbrev pub first_of : FrameList → List ℕ
first_of no_frames = []
first_of (frame f fs) = word f

abbrev pub second_of : FrameList → List ℕ
second_of no_frames = []
second_of (frame f fs) = first_of fs

abbrev pub first_word : Frame → List ℕ
first_word value = first_of (items_of value)

abbrev pub second_word : Frame → List ℕ
second_word value = second_of (items_of value)

abbrev pub shape_of_asked : Result Command CommandFault → (name word : List ℕ) → Shape
shape_of_asked (Ok command) name word = shape_of_command command
shape_of_asked (Err refusal) name word = shape_of_words name word

-- a command that changes to what a connection listens
abbrev pub is_subscribing : (name : List ℕ) → Bool
is_subscribing name =
    is_called (codes "subscribe") name
    || (is_called (codes "unsubscribe") name || (is_called (codes "psubscribe") name || is_called (codes "punsubscribe") name))

-- what the answer to a value is
abbrev pub shape_of : Frame → Shape
shape_of value =
    elim (is_subscribing (first_word value)) [
      | true ↦ Pushes
      | false ↦ shape_of_asked (redis_command_of value) (first_word value) (second_word value)
    ]
