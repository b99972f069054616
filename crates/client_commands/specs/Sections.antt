-- The sections of INFO that tell of a port, and which sections are told.
use Rattle.std.specs.Prelude.{ℕ, ◌/◌, ◌%◌, Bool, true, false, ◌||◌, List, [], ◌∷◌, ◌++◌, codes, decimal}
use Rattle.ballot_law.specs.Words.{id_text}
use Rattle.resp2.specs.Framing.Frame.{line_end}
use Rattle.client_commands.specs.Refusals.{is_called}
use Rattle.client_commands.specs.declared.infos.Section.{Section}
use Rattle.client_commands.specs.declared.infos.Section.TheVariants.{Server, Clients, Stats, Cpu}
use Rattle.client_commands.specs.declared.port_facts.Figures.{Figures}

-- ---- which are told

-- a word that asks for the section, or for all
abbrev pub asks_for : (section word : List ℕ) → Bool
asks_for section word =
    is_called section word || (is_called (codes "default") word || (is_called (codes "all") word || is_called (codes "everything") word))

abbrev pub is_among : (section : List ℕ) → List (List ℕ) → Bool
is_among section [] = false
is_among section (word ∷ words) = elim (asks_for section word) [ true ↦ true | false ↦ is_among section words ]

-- without a word all sections are told
abbrev pub is_told : (section : List ℕ) → List (List ℕ) → Bool
is_told section [] = true
is_told section (word ∷ words) = is_among section (word ∷ words)

-- ---- what each says

-- a label, its text and the end of the line
unfoldable pub line : (label text : List ℕ) → List ℕ
line label text = label ++ (text ++ line_end)

abbrev pub count_line : (label : List ℕ) → ℕ → List ℕ
count_line label number = line label (decimal number)

unfoldable pub server_front : List ℕ
server_front = codes "# Server" ++ (line_end ++ (codes "redis_version:7.2.0" ++ (line_end ++ (codes "redis_mode:sentinel" ++ line_end))))

-- who it is, where it is, and how long it runs
abbrev pub server_section : Figures → List ℕ
server_section figures =
    server_front
    ++ (count_line (codes "process_id:") figures.process
    ++ (line (codes "run_id:") (id_text figures.run_id)
    ++ (count_line (codes "tcp_port:") figures.address.port
    ++ (count_line (codes "uptime_in_seconds:") (figures.clock / 1000) ++ count_line (codes "uptime_in_days:") (figures.clock / 86400000)))))

unfoldable pub clients_front : List ℕ
clients_front = codes "# Clients" ++ line_end

-- no client waits for anything
abbrev pub clients_section : Figures → List ℕ
clients_section figures =
    clients_front
    ++ (count_line (codes "connected_clients:") figures.connected
    ++ (count_line (codes "maxclients:") figures.most ++ count_line (codes "blocked_clients:") 0))

unfoldable pub stats_front : List ℕ
stats_front = codes "# Stats" ++ line_end

abbrev pub stats_section : Figures → List ℕ
stats_section figures =
    stats_front
    ++ (count_line (codes "total_connections_received:") figures.received
    ++ (count_line (codes "total_commands_processed:") figures.commands ++ count_line (codes "rejected_connections:") figures.rejected))

unfoldable pub cpu_front : List ℕ
cpu_front = codes "# CPU" ++ line_end

-- hundredths of a second as seconds with six places
unfoldable pub time_line : (label : List ℕ) → (hundredths : ℕ) → List ℕ
time_line label hundredths =
    label ++ (decimal (hundredths / 100) ++ (codes "." ++ (decimal (hundredths / 10 % 10) ++ (decimal (hundredths % 10) ++ (codes "0000" ++ line_end)))))

abbrev pub cpu_section : Figures → List ℕ
cpu_section figures = cpu_front ++ (time_line (codes "used_cpu_sys:") figures.system_time ++ time_line (codes "used_cpu_user:") figures.user_time)

-- an empty line between two sections
abbrev pub gap : (before : List ℕ) → List ℕ
gap [] = []
gap (b ∷ bs) = (b ∷ bs) ++ line_end

-- the sections before this one, and this one where it is told
abbrev pub with_section : (before : List ℕ) → (told : Bool) → (section : List ℕ) → List ℕ
with_section before true section = gap before ++ section
with_section before false section = before

abbrev pub section_name : Section → List ℕ
section_name Server = codes "server"
section_name Clients = codes "clients"
section_name Stats = codes "stats"
section_name Cpu = codes "cpu"

abbrev pub section_text : Section → Figures → List ℕ
section_text Server figures = server_section figures
section_text Clients figures = clients_section figures
section_text Stats figures = stats_section figures
section_text Cpu figures = cpu_section figures

-- the sections before this one, and this one where the words ask for it
abbrev pub with_asked : (before : List ℕ) → Section → List (List ℕ) → Figures → List ℕ
with_asked before section words figures = with_section before (is_told (section_name section) words) (section_text section figures)

-- the sections that tell of the port
abbrev pub port_sections : List (List ℕ) → Figures → List ℕ
port_sections words figures =
    with_asked (with_asked (with_asked (with_asked [] Server words figures) Clients words figures) Stats words figures) Cpu words figures
