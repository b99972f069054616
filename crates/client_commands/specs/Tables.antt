-- What COMMAND and its subcommands answer.
use Rattle.std.specs.Prelude.{ℕ, pos, Bool, true, false, List, [], ◌∷◌, ◌++◌, map, codes, Option, None, Some}
use Rattle.std.specs.List.{list_any}
use Rattle.ballot_law.specs.Words.{lower}
use Rattle.pubsub.specs.Globs.{matches}
use Rattle.resp2.specs.Framing.Frame.{Frame, FrameList, simple, int, bulk, null_bulk, items, no_frames, frame, frames_of}
use Rattle.client_commands.specs.declared.rows.KnownCommand.{KnownCommand}
use Rattle.client_commands.specs.Pieces.{Part, mark}
use Rattle.client_commands.specs.Refusals.{is_called, syntax_error}
use Rattle.client_commands.specs.Rows.{families, subs_of, all_commands, name, arity, class_of, flags, categories, tips}
use Rattle.client_commands.specs.Descriptions.{fields, pairs_of}

-- the first that is called so
abbrev pub named : List KnownCommand → (word : List ℕ) → Option KnownCommand
named [] word = None
named (command ∷ rest) word = elim (is_called (name command) word) as (λ _. Option KnownCommand) [ true ↦ Some command | false ↦ named rest word ]

-- ---- rows

abbrev pub marks : List (List ℕ) → Frame
marks words = items (frames_of (map simple words))

abbrev pub texts : List (List ℕ) → Frame
texts words = items (frames_of (map bulk words))

-- the row of a command with these rows of subcommands: no command of a Sentinel has keys
abbrev pub row_with : KnownCommand → (subs : FrameList) → Frame
row_with command subs =
    items (frames_of (bulk (name command) ∷ int (arity command) ∷ marks (flags (class_of command)) ∷ int (pos 0) ∷ int (pos 0) ∷ int (pos 0)
    ∷ marks (categories (class_of command)) ∷ texts (tips (class_of command)) ∷ items no_frames ∷ items subs ∷ []))

abbrev pub sub_rows : List KnownCommand → FrameList
sub_rows [] = no_frames
sub_rows (sub ∷ rest) = frame (row_with sub no_frames) (sub_rows rest)

abbrev pub row : KnownCommand → Frame
row command = row_with command (sub_rows (subs_of command))

abbrev pub all_rows : List KnownCommand → FrameList
all_rows [] = no_frames
all_rows (command ∷ rest) = frame (row command) (all_rows rest)

abbrev pub table : Frame
table = items (all_rows families)

abbrev pub row_or_null : Option KnownCommand → Frame
row_or_null None = null_bulk
row_or_null (Some command) = row command

abbrev pub rows_named : List (List ℕ) → FrameList
rows_named [] = no_frames
rows_named (word ∷ words) = frame (row_or_null (named all_commands word)) (rows_named words)

-- a row for each word, or all where there is none
abbrev pub command_info : List (List ℕ) → Frame
command_info [] = table
command_info (word ∷ words) = items (rows_named (word ∷ words))

-- ---- descriptions

abbrev pub description : KnownCommand → (more : List (Frame × Frame)) → Frame
description command more = items (pairs_of (fields command ++ more))

-- each name before its description
abbrev pub sub_descriptions : List KnownCommand → List (Frame × Frame)
sub_descriptions [] = []
sub_descriptions (sub ∷ rest) = (bulk (name sub), description sub []) ∷ sub_descriptions rest

abbrev pub family_description : KnownCommand → (subs : List KnownCommand) → Frame
family_description command subs = description command ((bulk (codes "subcommands"), items (pairs_of (sub_descriptions subs))) ∷ [])

abbrev pub described_with : KnownCommand → (subs : List KnownCommand) → Frame
described_with command [] = description command []
described_with command (sub ∷ rest) = family_description command (sub ∷ rest)

abbrev pub described : List KnownCommand → List (Frame × Frame)
described [] = []
described (command ∷ rest) = (bulk (name command), described_with command (subs_of command)) ∷ described rest

-- those that the words name; a word that names none is passed over
abbrev pub found_by : List (List ℕ) → List KnownCommand
found_by [] = []
found_by (word ∷ words) = elim (named all_commands word) as (λ _. List KnownCommand) [ Some command ↦ command ∷ found_by words | None ↦ found_by words ]

abbrev pub command_docs : List (List ℕ) → Frame
command_docs [] = items (pairs_of (described families))
command_docs (word ∷ words) = items (pairs_of (described (found_by (word ∷ words))))

-- ---- names

abbrev pub names_of : List KnownCommand → List (List ℕ)
names_of [] = []
names_of (command ∷ rest) = name command ∷ names_of rest

-- a category is told after an `@`, and asked for without it
abbrev pub is_category : (word category : List ℕ) → Bool
is_category word [] = false
is_category word (at ∷ label) = is_called label word

-- the part is the mark of that category
abbrev pub is_mark_of : (word : List ℕ) → Part → Bool
is_mark_of word (mark line) = is_category word line
is_mark_of word part = false

abbrev pub in_category : (word : List ℕ) → List KnownCommand → List KnownCommand
in_category word [] = []
in_category word (command ∷ rest) =
    elim (list_any (is_category word) (categories (class_of command))) as (λ _. List KnownCommand) [
      | true ↦ command ∷ in_category word rest
      | false ↦ in_category word rest
    ]

abbrev pub matching : (pattern : List ℕ) → List KnownCommand → List KnownCommand
matching pattern [] = []
matching pattern (command ∷ rest) =
    elim (matches pattern (name command)) as (λ _. List KnownCommand) [ true ↦ command ∷ matching pattern rest | false ↦ matching pattern rest ]

-- there are no modules
abbrev pub filtered_by : (filter word : List ℕ) → Frame
filtered_by filter word =
    elim (is_called (codes "module") filter) [
      | true ↦ items no_frames
      | false ↦ elim (is_called (codes "aclcat") filter) [
        | true ↦ texts (names_of (in_category word all_commands))
        | false ↦ elim (is_called (codes "pattern") filter) [ true ↦ texts (names_of (matching (lower word) all_commands)) | false ↦ syntax_error ]
      ]
    ]

abbrev pub command_list : List (List ℕ) → Frame
command_list [] = texts (names_of all_commands)
command_list (option ∷ filter ∷ word ∷ []) = elim (is_called (codes "filterby") option) [ true ↦ filtered_by filter word | false ↦ syntax_error ]
command_list words = syntax_error
