-- Which clients CLIENT LIST and CLIENT KILL name.
use Rattle.std.specs.Prelude.{ℕ, Bool, true, false, not, ◌||◌, ◌&&◌, ◌==◌, List, [], ◌∷◌, ◌++◌, length, bytes_eq, codes, Option, None, Some}
use Rattle.std.specs.Option.{is_some}
use Rattle.ballot_law.specs.Words.{canonical_within}
use Rattle.resp2.specs.Framing.Frame.{Frame, fault, spelling}
use Rattle.client_commands.specs.declared.choosing.ClientKind.{ClientKind}
use Rattle.client_commands.specs.declared.choosing.ClientKind.TheVariants.{Normal, Listener, Replica}
use Rattle.client_commands.specs.Refusals.{is_called, printed, syntax_error}
use Rattle.client_commands.specs.Ports.{ClientEntry, is_there, is_listener}

-- what is wanted of a client: its number, whence it came and where to, its kind, where one of these is named; and that it isn't the one who asks
pub record Wanted : Type 0 where
  pub id : Option ℕ
  pub address : Option (List ℕ)
  pub local : Option (List ℕ)
  pub kind : Option ClientKind
  pub spares : Bool

-- ---- a client that is wanted

abbrev pub is_number : Option ℕ → ℕ → Bool
is_number None id = true
is_number (Some number) id = number == id

abbrev pub is_text : Option (List ℕ) → List ℕ → Bool
is_text None text = true
is_text (Some word) text = bytes_eq word text

-- masters and replicas are no clients of a Sentinel
abbrev pub is_kind : Option ClientKind → ClientEntry → Bool
is_kind None entry = true
is_kind (Some Normal) entry = not (is_listener entry)
is_kind (Some Listener) entry = is_listener entry
is_kind (Some Replica) entry = false

abbrev pub is_spared : (spares : Bool) → (asker id : ℕ) → Bool
is_spared spares asker id = spares && (asker == id)

-- the client is there, isn't to be closed, and is wanted by the connection with this number
abbrev pub is_chosen : (asker : ℕ) → (killed : List ℕ) → Wanted → ClientEntry → Bool
is_chosen asker killed wanted entry =
    is_there killed entry
    && (is_number wanted.id entry.id
    && (is_text wanted.address entry.address
    && (is_text wanted.local entry.local && (is_kind wanted.kind entry && not (is_spared wanted.spares asker entry.id)))))

-- CLIENT KILL closes one on a seat that is kept for another Sentinel where it names its number or whence it came, and else passes over it
abbrev pub may_close : Wanted → ClientEntry → Bool
may_close wanted entry = is_some wanted.id || (is_some wanted.address || not entry.kept)

-- the places of those that are chosen and may be closed
abbrev pub places_of : (asker : ℕ) → (killed : List ℕ) → Wanted → List ClientEntry → List ℕ
places_of asker killed wanted [] = []
places_of asker killed wanted (entry ∷ entries) =
    elim (is_chosen asker killed wanted entry && may_close wanted entry) [
      | true ↦ entry.place ∷ places_of asker killed wanted entries
      | false ↦ places_of asker killed wanted entries
    ]

-- ---- by which words

-- any client, but not the one who asks if it is to be spared
abbrev pub anyone : (spares : Bool) → Wanted
anyone spares = record { id = None; address = None; local = None; kind = None; spares = spares }

-- the kind of clients with this name
abbrev pub kind_named : List ℕ → Option ClientKind
kind_named word =
    elim (is_called (codes "normal") word) [
      | true ↦ Some Normal
      | false ↦ elim (is_called (codes "pubsub") word) [
        | true ↦ Some Listener
        | false ↦ elim (is_called (codes "slave") word || (is_called (codes "replica") word || is_called (codes "master") word)) [ true ↦ Some Replica | false ↦ None ]
      ]
    ]

abbrev pub no_kind : List ℕ → Frame
no_kind word = fault (codes "ERR Unknown client type '" ++ (printed (length word) word ++ codes "'"))

abbrev pub no_user : List ℕ → Frame
no_user word = fault (codes "ERR No such user '" ++ (printed (length word) word ++ codes "'"))

abbrev pub no_number : Frame
no_number = fault (codes "ERR client-id should be greater than 0")

-- what is wanted by some options, or why there is nothing
pub data Chosen : Type 0 where
  fits : Wanted → Chosen
  unfit : Frame → Chosen

abbrev pub with_id : Wanted → List ℕ → Chosen
with_id wanted word =
    elim (canonical_within 1 9223372036854775807 word) [ Some number ↦ fits (record wanted { id = Some number }) | None ↦ unfit no_number ]

abbrev pub with_kind : Wanted → List ℕ → Chosen
with_kind wanted word = elim (kind_named word) [ Some kind ↦ fits (record wanted { kind = Some kind }) | None ↦ unfit (no_kind word) ]

-- there is one user, who each client is
abbrev pub with_user : Wanted → List ℕ → Chosen
with_user wanted word = elim (bytes_eq word (codes "default")) [ true ↦ fits wanted | false ↦ unfit (no_user word) ]

abbrev pub with_spared : Wanted → List ℕ → Chosen
with_spared wanted word =
    elim (is_called (codes "yes") word) [
      | true ↦ fits (record wanted { spares = true })
      | false ↦ elim (is_called (codes "no") word) [ true ↦ fits (record wanted { spares = false }) | false ↦ unfit syntax_error ]
    ]

-- one option and its value
abbrev pub with_option : Wanted → (option value : List ℕ) → Chosen
with_option wanted option value =
    elim (is_called (codes "id") option) [
      | true ↦ with_id wanted value
      | false ↦ elim (is_called (codes "type") option) [
        | true ↦ with_kind wanted value
        | false ↦ elim (is_called (codes "addr") option) [
          | true ↦ fits (record wanted { address = Some value })
          | false ↦ elim (is_called (codes "laddr") option) [
            | true ↦ fits (record wanted { local = Some value })
            | false ↦ elim (is_called (codes "user") option) [
              | true ↦ with_user wanted value
              | false ↦ elim (is_called (codes "skipme") option) [ true ↦ with_spared wanted value | false ↦ unfit syntax_error ]
            ]
          ]
        ]
      ]
    ]

-- each option in turn; one without a value is refused
abbrev pub with_options : Wanted → List (List ℕ) → Chosen
with_options wanted [] = fits wanted
with_options wanted (option ∷ []) = unfit syntax_error
with_options wanted (option ∷ value ∷ words) =
    elim (with_option wanted option value) [ fits next ↦ with_options next words | unfit refusal ↦ unfit refusal ]

-- the clients that CLIENT KILL with these words names: the one that came from an address, or those by options, among which is the one who asks if it isn't spared
abbrev pub chosen_by : List (List ℕ) → Chosen
chosen_by [] = unfit syntax_error
chosen_by (word ∷ []) = fits (record (anyone false) { address = Some word })
chosen_by (option ∷ value ∷ words) = with_options (anyone true) (option ∷ value ∷ words)

-- ---- as it is handed out

abbrev pub is_fit : Chosen → Bool
is_fit (fits wanted) = true
is_fit (unfit refusal) = false

-- what was wanted before, or is now
abbrev pub wanted_after : Wanted → Chosen → Wanted
wanted_after before (fits wanted) = wanted
wanted_after before (unfit refusal) = before

-- the text that was there, or the refusal in its place
abbrev pub unfit_text : List ℕ → Chosen → List ℕ
unfit_text before (fits wanted) = before
unfit_text before (unfit refusal) = spelling refusal

-- what is wanted, where it is
abbrev pub chosen_wanted : Chosen → Option Wanted
chosen_wanted (fits wanted) = Some wanted
chosen_wanted (unfit refusal) = None
