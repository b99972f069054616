-- The answer to INFO: its fields, and what they say.
use Rattle.std.specs.Prelude.{◌≡◌, ◌≤◌, ℕ, Bool, true, false, ◌==◌, List, [], ◌∷◌, ◌++◌, map, codes, bytes_eq, decimal, Option, Some, None, option_map, unwrap_or, Result, Ok, Err}
use Rattle.ballot_law.specs.declared.addresses.Addr.{Addr}
use Rattle.ballot_law.specs.declared.addresses.RunId.{RunId}
use Rattle.ballot_law.specs.declared.replies.DataRole.{DataRole}
use Rattle.ballot_law.specs.declared.replies.DataRole.TheVariants.{Master, Replica}
use Rattle.ballot_law.specs.declared.replies.Info.{Info}
use Rattle.ballot_law.specs.Hellos.{IsAddr, IsRunId}
use Rattle.ballot_law.specs.Cuts.{lines}
use Rattle.ballot_law.specs.Results.{◌>>=◌, wanted}
use Rattle.ballot_law.specs.Words.{then_some, number, number_within, ip, ip_text, port, run_id, id_text}
use Rattle.node_texts.specs.declared.faults.TextFault.{TextFault}
use Rattle.node_texts.specs.declared.faults.TextFault.TheVariants.{BadField}
use Rattle.node_texts.specs.declared.info_fields.TheConstants.{COUNT_MAX}
use Rattle.node_texts.specs.declared.info_fields.Fields.{Fields}
use Rattle.node_texts.specs.declared.info_fields.OwnFields.{OwnFields}
use Rattle.node_texts.specs.declared.info_fields.LinkFields.{LinkFields}
use Rattle.node_texts.specs.declared.info_fields.ReplicaFields.{ReplicaFields}
use Rattle.node_texts.specs.Faults.{of_text}
use Rattle.node_texts.specs.Lines.{without_return}

-- ---- fields of lines

-- what stands behind the label, where the line begins with it
abbrev pub after_label : List ℕ → List ℕ → Option (List ℕ)
after_label [] line = Some line
after_label (a ∷ label) [] = None
after_label (a ∷ label) (b ∷ line) = elim (a == b) as (λ _. Option (List ℕ)) [ true ↦ after_label label line | false ↦ None ]

-- of two the later one, where there is one
abbrev pub newest : {X : Type 0} → Option X → Option X → Option X
newest older None = older
newest older (Some x) = Some x

-- what the last line with this label says; inside it none where its value is bad
abbrev pub last_given : {X : Type 0} → List ℕ → (List ℕ → Option X) → List (List ℕ) → Option (Option X)
last_given label read [] = None
last_given label read (line ∷ lines) = newest (option_map read (after_label label line)) (last_given label read lines)

-- ---- values

abbrev pub role_name : List ℕ → Option DataRole
role_name bytes =
    elim (bytes_eq bytes (codes "master")) as (λ _. Option DataRole) [
      | true ↦ Some Master
      | false ↦ elim (bytes_eq bytes (codes "slave")) as (λ _. Option DataRole) [ true ↦ Some Replica | false ↦ None ]
    ]

abbrev pub is_up : List ℕ → Option Bool
is_up bytes =
    elim (bytes_eq bytes (codes "up")) as (λ _. Option Bool) [
      | true ↦ Some true
      | false ↦ elim (bytes_eq bytes (codes "down")) as (λ _. Option Bool) [ true ↦ Some false | false ↦ None ]
    ]

-- one or more digits of a number to 2^63 - 1
abbrev pub count : List ℕ → Option ℕ
count = number_within 0 COUNT_MAX

-- a count, or 0 for a minus and one or more digits
abbrev pub count_or_minus : List ℕ → Option ℕ
count_or_minus [] = None
count_or_minus (b ∷ bs) =
    elim (b == 45) as (λ _. Option ℕ) [ true ↦ then_some (number bs) (λ _. Some 0) | false ↦ count (b ∷ bs) ]

-- ---- the eight fields

abbrev pub own_fields : List (List ℕ) → OwnFields
own_fields lines = record {
  id = last_given (codes "run_id:") run_id lines;
  role = last_given (codes "role:") role_name lines;
}

abbrev pub link_fields : List (List ℕ) → LinkFields
link_fields lines = record {
  host = last_given (codes "master_host:") ip lines;
  port = last_given (codes "master_port:") port lines;
  up = last_given (codes "master_link_status:") is_up lines;
  down_s = last_given (codes "master_link_down_since_seconds:") count_or_minus lines;
}

abbrev pub replica_fields : List (List ℕ) → ReplicaFields
replica_fields lines = record {
  priority = last_given (codes "slave_priority:") count lines;
  offset = last_given (codes "slave_repl_offset:") count_or_minus lines;
}

abbrev pub fields_of : List (List ℕ) → Fields
fields_of lines = record { own = own_fields lines; link = link_fields lines; replica = replica_fields lines }

-- the fields of earlier lines, and in place of them those of later lines where they have them
abbrev pub newest_own : OwnFields → OwnFields → OwnFields
newest_own older newer = record { id = newest older.id newer.id; role = newest older.role newer.role }

abbrev pub newest_link : LinkFields → LinkFields → LinkFields
newest_link older newer = record {
  host = newest older.host newer.host;
  port = newest older.port newer.port;
  up = newest older.up newer.up;
  down_s = newest older.down_s newer.down_s;
}

abbrev pub newest_replica : ReplicaFields → ReplicaFields → ReplicaFields
newest_replica older newer = record { priority = newest older.priority newer.priority; offset = newest older.offset newer.offset }

abbrev pub newest_fields : Fields → Fields → Fields
newest_fields older newer = record {
  own = newest_own older.own newer.own;
  link = newest_link older.link newer.link;
  replica = newest_replica older.replica newer.replica;
}

-- ---- what they say

-- a value that was given, unless it was given badly
abbrev pub judged : {X : Type 0} → ℕ → Option (Option X) → Result (Option X) TextFault
judged n None = Ok None
judged n (Some None) = Err (BadField n)
judged n (Some (Some x)) = Ok (Some x)

-- an address where both halves were given
abbrev pub address_of : Option ℕ → Option ℕ → Option Addr
address_of None p = None
address_of (Some i) None = None
address_of (Some i) (Some p) = Some (record { ip = i; port = p })

-- the smallest bad field is told
abbrev pub info_of_fields : Fields → Result Info TextFault
info_of_fields fields =
    judged 1 fields.own.id >>= λ id.
    judged 2 fields.own.role >>= λ given.
    wanted (BadField 2) given >>= λ role.
    judged 3 fields.link.host >>= λ host.
    judged 4 fields.link.port >>= λ port.
    judged 5 fields.link.up >>= λ up.
    judged 6 fields.link.down_s >>= λ down_s.
    judged 7 fields.replica.priority >>= λ priority.
    judged 8 fields.replica.offset >>= λ offset.
    Ok (record {
      id = id;
      role = role;
      master = address_of host port;
      link_up = unwrap_or up false;
      link_down_s = unwrap_or down_s 0;
      priority = unwrap_or priority 100;
      offset = unwrap_or offset 0;
    })

-- what a text says, or its first fault
abbrev pub info_of : List ℕ → Result Info TextFault
info_of bytes = of_text bytes (info_of_fields (fields_of (map without_return (lines bytes))))

-- ---- writing

-- the values that have a text
pub record IsInfo (info : Info) : Type 0 where
  pub id : (id : RunId) → info.id ≡ Some id → IsRunId id
  pub master : (addr : Addr) → info.master ≡ Some addr → IsAddr addr
  pub link_down_s : info.link_down_s ≤ COUNT_MAX
  pub priority : info.priority ≤ COUNT_MAX
  pub offset : info.offset ≤ COUNT_MAX

abbrev pub role_word : DataRole → List ℕ
role_word Master = codes "master"
role_word Replica = codes "slave"

abbrev pub link_word : Bool → List ℕ
link_word true = codes "up"
link_word false = codes "down"

abbrev pub id_lines : Option RunId → List (List ℕ)
id_lines None = []
id_lines (Some id) = (codes "run_id:" ++ id_text id) ∷ []

abbrev pub master_lines : Option Addr → List (List ℕ)
master_lines None = []
master_lines (Some addr) = (codes "master_host:" ++ ip_text addr.ip) ∷ (codes "master_port:" ++ decimal addr.port) ∷ []

abbrev pub link_lines : Info → List (List ℕ)
link_lines info =
    (codes "master_link_status:" ++ link_word info.link_up)
    ∷ (codes "master_link_down_since_seconds:" ++ decimal info.link_down_s)
    ∷ []

abbrev pub replica_lines : Info → List (List ℕ)
replica_lines info = (codes "slave_priority:" ++ decimal info.priority) ∷ (codes "slave_repl_offset:" ++ decimal info.offset) ∷ []

abbrev pub info_lines : Info → List (List ℕ)
info_lines info =
    id_lines info.id ++ ((codes "role:" ++ role_word info.role) ∷ (master_lines info.master ++ (link_lines info ++ replica_lines info)))

-- each line is ended by CR LF
abbrev pub ended : List (List ℕ) → List ℕ
ended [] = []
ended (line ∷ lines) = line ++ 13 ∷ 10 ∷ ended lines

abbrev pub info_text : Info → List ℕ
info_text info = ended (info_lines info)
