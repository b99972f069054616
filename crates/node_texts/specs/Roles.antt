-- The answer to ROLE.
use Rattle.std.specs.Prelude.{◌≤◌, ℕ, ℤ, pos, negsuc, ◌&&◌, ◌||◌, ◌==◌, nat_le, List, [], ◌∷◌, length, codes, Option, Some, None, Result, Ok, Err, if◌then◌else◌}
use Rattle.ballot_law.specs.declared.replies.DataRole.{DataRole}
use Rattle.ballot_law.specs.declared.replies.DataRole.TheVariants as data_role
use Rattle.ballot_law.specs.declared.replies.Role.{Role}
use Rattle.ballot_law.specs.declared.replies.Role.TheVariants.{Master, Replica}
use Rattle.ballot_law.specs.Hellos.{IsAddr}
use Rattle.ballot_law.specs.Results.{◌>>=◌, wanted}
use Rattle.ballot_law.specs.Words.{some_if, ip, ip_text}
use Rattle.resp2.specs.Framing.Frame.{Frame, FrameList, int, bulk, items, no_frames, frame}
use Rattle.node_texts.specs.declared.faults.TextFault.{TextFault}
use Rattle.node_texts.specs.declared.faults.TextFault.TheVariants.{FieldCount, BadField}
use Rattle.node_texts.specs.declared.info_fields.TheConstants.{COUNT_MAX}
use Rattle.node_texts.specs.Infos.{role_name}

-- ---- elements

abbrev pub kind_of : Frame → Option DataRole
kind_of (bulk bytes) = role_name bytes
kind_of _ = None

abbrev pub or_zero : ℤ → ℕ
or_zero (pos n) = n
or_zero (negsuc n) = 0

-- an offset that is below 0 is read as 0
abbrev pub offset_of : Frame → Option ℕ
offset_of (int z) = Some (or_zero z)
offset_of _ = None

abbrev pub host_of : Frame → Option ℕ
host_of (bulk bytes) = ip bytes
host_of _ = None

abbrev pub if_port : ℤ → Option ℕ
if_port (pos n) = some_if (nat_le 1 n && nat_le n 65535) n
if_port (negsuc n) = None

abbrev pub port_of : Frame → Option ℕ
port_of (int z) = if_port z
port_of _ = None

-- a link state is any bulk string
abbrev pub link_of : Frame → Option (Unit {0})
link_of (bulk bytes) = Some tt
link_of _ = None

-- the list of replicas is any array
abbrev pub replicas_of : Frame → Option (Unit {0})
replicas_of (items fs) = Some tt
replicas_of _ = None

-- ---- arrays

abbrev pub master_role : Frame → Frame → Result Role TextFault
master_role offset replicas = wanted (BadField 2) (offset_of offset) >>= λ n. wanted (BadField 3) (replicas_of replicas) >>= λ _. Ok (Master n)

abbrev pub replica_role : Frame → Frame → Frame → Frame → Result Role TextFault
replica_role host port link offset =
    wanted (BadField 2) (host_of host) >>= λ i.
    wanted (BadField 3) (port_of port) >>= λ p.
    wanted (BadField 4) (link_of link) >>= λ _.
    wanted (BadField 5) (offset_of offset) >>= λ n.
    Ok (Replica (record { ip = i; port = p }) n)

-- a master's answer has three elements, a replica's five
abbrev pub role_length : DataRole → ℕ
role_length data_role.Master = 3
role_length data_role.Replica = 5

-- what stands behind the name of a role
abbrev pub role_behind : DataRole → List Frame → Result Role TextFault
role_behind data_role.Master (offset ∷ replicas ∷ []) = master_role offset replicas
role_behind data_role.Replica (host ∷ port ∷ link ∷ offset ∷ []) = replica_role host port link offset
role_behind role _ = Err FieldCount

-- an array that has no role's length is told before anything in it
abbrev pub role_of_list : List Frame → Result Role TextFault
role_of_list [] = Err FieldCount
role_of_list (kind ∷ others) =
    if length (kind ∷ others) == role_length data_role.Master || length (kind ∷ others) == role_length data_role.Replica
    then (wanted (BadField 1) (kind_of kind) >>= λ role. role_behind role others)
    else Err FieldCount

abbrev pub list_of : FrameList → List Frame
list_of no_frames = []
list_of (frame f fs) = f ∷ list_of fs

-- what an answer says, or its first fault
abbrev pub role_of : Frame → Result Role TextFault
role_of (items fs) = role_of_list (list_of fs)
role_of _ = Err FieldCount

-- ---- writing

-- the values that have a text
abbrev pub IsRole : Role → Type 0
IsRole (Master offset) = offset ≤ COUNT_MAX
IsRole (Replica addr offset) = IsAddr addr × (offset ≤ COUNT_MAX)

abbrev pub role_frame : Role → Frame
role_frame (Master offset) = items (frame (bulk (codes "master")) (frame (int (pos offset)) (frame (items no_frames) no_frames)))
role_frame (Replica addr offset) =
    items
    (frame (bulk (codes "slave"))
    (frame (bulk (ip_text addr.ip))
    (frame (int (pos addr.port))
    (frame (bulk (codes "connected"))
    (frame (int (pos offset)) no_frames)))))
