-- How long the parts of an answer may be.
use Rattle.std.proofs.Common.{ℕ, zero, suc, ◌+◌, ◌*◌, ◌≤◌, ◌<◌, ◌^◌, Bool, true, false, List, [], ◌∷◌, ◌++◌, length, map, drop, arith, length-append, suc-mul, decimal}
use Rattle.std.specs.Prelude.{codes}
use Rattle.std.specs.List.{AllByRecursion}
use Rattle.std.proofs.lemmas.Fmt.{length-decimal-le}
use Rattle.ballot_law.specs.declared.addresses.Addr.{Addr}
use Rattle.ballot_law.specs.Words.{ip_text, id_text}
use Rattle.ballot_law.proofs.WordLemmas.{length-id_text}
use Rattle.resp2.specs.Framing.Frame.{Frame, bulk, items, frames_of, count, spelling, spellings, line_end}
use Rattle.resp2.proofs.Asks.{ip_size}
use Rattle.resp2.proofs.AskFrames.{decimal_short}
use Rattle.port_answers.specs.declared.rows.MasterRow.{MasterRow}
use Rattle.port_answers.specs.declared.rows.ReplicaRow.{ReplicaRow}
use Rattle.port_answers.specs.declared.rows.SentinelRow.{SentinelRow}
use Rattle.port_answers.specs.Answers.{fields_text, addr_text, node_flags, master_flags, master_fields, replica_fields, sentinel_fields, master_frame, replica_frame, sentinel_frame}
use Rattle.port_answers.specs.Limits.{IsPlace, IsMasterRow, IsReplicaRow}
use Rattle.port_answers.proofs.RowLemmas.{count_rows}

-- ---- words

pub port_size : (n : ℕ) → n ≤ 65535 → length (decimal n) ≤ 5
port_size n h = length-decimal-le 5 n (omega arith) (omega arith) (omega arith)

pub addr_size : (addr : Addr) → IsPlace addr → length (addr_text addr) ≤ 21
addr_size addr h = omega (arith, length-append (ip_text addr.ip) (58 ∷ decimal addr.port), ip_size addr.ip h.ip, port_size addr.port h.port)

pub master_flags_size : (down odown disconnected failing_over : Bool) → length (master_flags down odown disconnected failing_over) ≤ 54
master_flags_size true true true true = omega arith
master_flags_size true true true false = omega arith
master_flags_size true true false true = omega arith
master_flags_size true true false false = omega arith
master_flags_size true false true true = omega arith
master_flags_size true false true false = omega arith
master_flags_size true false false true = omega arith
master_flags_size true false false false = omega arith
master_flags_size false true true true = omega arith
master_flags_size false true true false = omega arith
master_flags_size false true false true = omega arith
master_flags_size false true false false = omega arith
master_flags_size false false true true = omega arith
master_flags_size false false true false = omega arith
master_flags_size false false false true = omega arith
master_flags_size false false false false = omega arith

pub node_flags_size : (down disconnected : Bool) (kind : List ℕ) → length (node_flags down disconnected kind) ≤ length kind + 20
node_flags_size true true kind = omega (arith, length-append kind (44 ∷ codes "disconnected"))
node_flags_size true false kind = omega arith
node_flags_size false true kind = omega (arith, length-append kind (44 ∷ codes "disconnected"))
node_flags_size false false kind = omega arith

-- ---- fields

pub bulk_size : (xs : List ℕ) → length xs ≤ 99 → length (spelling (bulk xs)) ≤ length xs + 7
bulk_size xs h =
    let size = decimal (length xs) in
    omega (
      arith,
      length-append (size ++ line_end) (xs ++ line_end),
      length-append size line_end,
      length-append xs line_end,
      length-decimal-le 2 (length xs) (omega arith) (omega arith) (omega arith),
    )

-- a name and a value of at most so many bytes
pub record IsShort (field : List ℕ × List ℕ) : Type 0 where
  pub name : length field.0 ≤ 99
  pub value : length field.1 ≤ 99

abbrev pub fields_room : List (List ℕ × List ℕ) → ℕ
fields_room [] = 0
fields_room (field ∷ fields) = (length field.0 + 7) + (length field.1 + 7) + fields_room fields

three_sizes : (a b c : List ℕ) (k m n : ℕ) → length a ≤ k → length b ≤ m → length c ≤ n → length (a ++ (b ++ c)) ≤ k + m + n
three_sizes a b c k m n f g h = omega (arith, length-append a (b ++ c), length-append b c)

pub fields_size : (fields : List (List ℕ × List ℕ)) → AllByRecursion IsShort fields → length (fields_text fields) ≤ fields_room fields
fields_size [] h = omega arith
fields_size (field ∷ fields) h =
    three_sizes (spelling (bulk field.0)) (spelling (bulk field.1)) (fields_text fields) (length field.0 + 7) (length field.1 + 7) (fields_room fields)
    (bulk_size field.0 h.0.name) (bulk_size field.1 h.0.value) (fields_size fields h.1)

pub short : (name value : List ℕ) → length name ≤ 99 → length value ≤ 99 → IsShort (name, value)
short name value h k = record { name = h; value = k }

-- ---- rows

pub array_size : (n : ℕ) (xs : List ℕ) (k m : ℕ) → length (decimal n) ≤ k → length xs ≤ m → length (42 ∷ ((decimal n ++ line_end) ++ xs)) ≤ k + m + 3
array_size n xs k m h i = omega (arith, length-append (decimal n ++ line_end) xs, length-append (decimal n) line_end)

pub two_digits : (n : ℕ) → n ≤ 99 → length (decimal n) ≤ 2
two_digits n h = length-decimal-le 2 n (omega arith) (omega arith) (omega arith)

pub at_most : (a b c : ℕ) → a ≤ b → b ≤ c → a ≤ c
at_most a b c f g = omega arith

-- an array of fields
fields_array : (n : ℕ) (fields : List (List ℕ × List ℕ)) (most : ℕ) → n ≤ 99 → AllByRecursion IsShort fields → fields_room fields + 5 ≤ most
    → length (42 ∷ ((decimal n ++ line_end) ++ fields_text fields)) ≤ most
fields_array n fields most h all room =
    at_most (length (42 ∷ ((decimal n ++ line_end) ++ fields_text fields))) (2 + fields_room fields + 3) most
    (array_size n (fields_text fields) 2 (fields_room fields) (two_digits n h) (fields_size fields all)) (omega arith)

pub master_size : (row : MasterRow) → IsMasterRow row → length (spelling (master_frame row)) ≤ 573
master_size row h =
    let name = h.name in
    let ip = ip_size row.addr.ip h.addr.ip in
    let port = port_size row.addr.port h.addr.port in
    let flags = master_flags_size row.down row.odown row.disconnected row.failing_over in
    let replicas = decimal_short row.replicas h.replicas in
    let others = decimal_short row.others h.others in
    let quorum = decimal_short row.quorum h.quorum in
    let after = decimal_short row.after_ms h.after_ms in
    let timeout = decimal_short row.timeout h.timeout in
    let syncs = decimal_short row.parallel_syncs h.parallel_syncs in
    let epoch = decimal_short row.epoch h.epoch in
    let settings : AllByRecursion IsShort (drop 6 (master_fields row)) = (
      short (codes "quorum") (decimal row.quorum) (omega arith) (omega arith),
      (
        short (codes "down-after-milliseconds") (decimal row.after_ms) (omega arith) (omega arith),
        (
          short (codes "failover-timeout") (decimal row.timeout) (omega arith) (omega arith),
          (
            short (codes "parallel-syncs") (decimal row.parallel_syncs) (omega arith) (omega arith),
            (short (codes "config-epoch") (decimal row.epoch) (omega arith) (omega arith), tt),
          ),
        ),
      ),
    ) in
    fields_array 22 (master_fields row) 573 (omega arith) (
      short (codes "name") row.name (omega arith) (omega arith),
      (
        short (codes "ip") (ip_text row.addr.ip) (omega arith) (omega arith),
        (
          short (codes "port") (decimal row.addr.port) (omega arith) (omega arith),
          (
            short (codes "flags") (master_flags row.down row.odown row.disconnected row.failing_over) (omega arith) (omega arith),
            (
              short (codes "num-slaves") (decimal row.replicas) (omega arith) (omega arith),
              (short (codes "num-other-sentinels") (decimal row.others) (omega arith) (omega arith), settings),
            ),
          ),
        ),
      ),
    ) (omega arith)

pub replica_size : (row : ReplicaRow) → IsReplicaRow row → length (spelling (replica_frame row)) ≤ 241
replica_size row h =
    let addr = addr_size row.addr h.addr in
    let ip = ip_size row.addr.ip h.addr.ip in
    let port = port_size row.addr.port h.addr.port in
    let flags = node_flags_size row.down row.disconnected (codes "slave") in
    let priority = decimal_short row.priority h.priority in
    let offset = decimal_short row.offset h.offset in
    fields_array 12 (replica_fields row) 241 (omega arith) (
      short (codes "name") (addr_text row.addr) (omega arith) (omega arith),
      (
        short (codes "ip") (ip_text row.addr.ip) (omega arith) (omega arith),
        (
          short (codes "port") (decimal row.addr.port) (omega arith) (omega arith),
          (
            short (codes "flags") (node_flags row.down row.disconnected (codes "slave")) (omega arith) (omega arith),
            (
              short (codes "slave-priority") (decimal row.priority) (omega arith) (omega arith),
              (short (codes "slave-repl-offset") (decimal row.offset) (omega arith) (omega arith), tt),
            ),
          ),
        ),
      ),
    ) (omega arith)

pub sentinel_size : (row : SentinelRow) → IsPlace row.addr → length (spelling (sentinel_frame row)) ≤ 223
sentinel_size row h =
    let id = length-id_text row.id in
    let ip = ip_size row.addr.ip h.ip in
    let port = port_size row.addr.port h.port in
    let flags = node_flags_size row.down row.disconnected (codes "sentinel") in
    fields_array 10 (sentinel_fields row) 223 (omega arith) (
      short (codes "name") (id_text row.id) (omega arith) (omega arith),
      (
        short (codes "ip") (ip_text row.addr.ip) (omega arith) (omega arith),
        (
          short (codes "port") (decimal row.addr.port) (omega arith) (omega arith),
          (
            short (codes "runid") (id_text row.id) (omega arith) (omega arith),
            (short (codes "flags") (node_flags row.down row.disconnected (codes "sentinel")) (omega arith) (omega arith), tt),
          ),
        ),
      ),
    ) (omega arith)

-- ---- lists of rows

rows_size : {X : Type 0} (frame_of : X → Frame) (IsRow : X → Type 0) (most : ℕ) → ((row : X) → IsRow row → length (spelling (frame_of row)) ≤ most)
    → (rows : List X) → AllByRecursion IsRow rows → length (spellings (frames_of (map frame_of rows))) ≤ length rows * most
rows_size frame_of IsRow most size [] h = omega arith
rows_size frame_of IsRow most size (row ∷ rows) h =
    row_more (spelling (frame_of row)) (spellings (frames_of (map frame_of rows))) (length rows) most (size row h.0) (rows_size frame_of IsRow most size rows h.1)
  where
    row_more : (first rest : List ℕ) (n most : ℕ) → length first ≤ most → length rest ≤ n * most → length (first ++ rest) ≤ suc n * most
    row_more first rest n most f g = omega (arith, length-append first rest, suc-mul n most)

-- an array of rows
pub rows_array : {X : Type 0} (frame_of : X → Frame) (IsRow : X → Type 0) (most : ℕ) → ((row : X) → IsRow row → length (spelling (frame_of row)) ≤ most)
    → (rows : List X) → length rows < 2 ^ 64 → AllByRecursion IsRow rows → length (spelling (items (frames_of (map frame_of rows)))) ≤ length rows * most + 23
rows_array frame_of IsRow most size rows few all =
    let n = count_rows frame_of rows in
    at_most (length (spelling (items (frames_of (map frame_of rows))))) (20 + length rows * most + 3) (length rows * most + 23)
    (array_size (count (frames_of (map frame_of rows))) (spellings (frames_of (map frame_of rows))) 20 (length rows * most)
    (decimal_short (count (frames_of (map frame_of rows))) (omega (arith, n))) (rows_size frame_of IsRow most size rows all)) (omega arith)

-- ---- lines

-- a text with a number in it
pub counted_size : (kind : ℕ) (before behind : List ℕ) (n : ℕ) → n < 2 ^ 64
    → length (kind ∷ ((before ++ (decimal n ++ behind)) ++ line_end)) ≤ length before + length behind + 23
counted_size kind before behind n h =
    omega (
      arith,
      length-append (before ++ (decimal n ++ behind)) line_end,
      length-append before (decimal n ++ behind),
      length-append (decimal n) behind,
      decimal_short n h,
    )
