-- What is written as an answer to INFO is read again.
use Rattle.std.proofs.Common.{◌≡◌, ℕ, ◌≤◌, ◌<◌, ◌^◌, Bool, true, false, ◌&&◌, eqb, ltb, leb, List, [], ◌∷◌, ◌++◌, length, map, refl, ap, ◌∙◌, arith, Option, Some, None, Ok}
use Rattle.std.specs.Prelude.{codes, decimal}
use Rattle.std.specs.List.{list_all, AllByRecursion}
use Rattle.std.specs.Str.{IsAscii}
use Rattle.std.proofs.lemmas.Bool.{and_parts, leb-true, ltb-true}
use Rattle.std.proofs.lemmas.Bool.Decides.{nat_tests}
use Rattle.std.proofs.lemmas.Fmt.{IsAscii-decimal}
use Rattle.std.proofs.lemmas.Str.{IsAscii-append}
use Rattle.std.proofs.lemmas.Str.Ascii.{IsAscii-nil, IsAscii-cons}
use Rattle.ballot_law.specs.declared.addresses.Addr.{Addr}
use Rattle.ballot_law.specs.declared.addresses.RunId.{RunId}
use Rattle.ballot_law.specs.declared.replies.DataRole.{DataRole}
use Rattle.ballot_law.specs.declared.replies.DataRole.TheVariants.{Master, Replica}
use Rattle.ballot_law.specs.declared.replies.Info.{Info}
use Rattle.ballot_law.specs.Hellos.{IsAddr, IsRunId}
use Rattle.ballot_law.specs.Cuts.{lines}
use Rattle.ballot_law.specs.Words.{then_some, number, with_first, ip_text, id_text}
use Rattle.ballot_law.proofs.WordLemmas.{ArePlain, spells_decimal, number_within-decimal, ip-ip_text, word_ip_text, word_decimal, port-decimal, run_id-id_text, word_id_text}
use Rattle.ballot_law.proofs.CutLemmas.{line_goes_on}
use Rattle.ballot_law.proofs.HelloLemmas.{plain_word}
use Rattle.node_texts.specs.declared.info_fields.TheConstants.{COUNT_MAX}
use Rattle.node_texts.specs.declared.info_fields.Fields.{Fields}
use Rattle.node_texts.specs.Faults.{unless_not}
use Rattle.node_texts.specs.Lines.{without_return}
use Rattle.node_texts.specs.Infos.{role_name, is_up, count, count_or_minus, fields_of, info_of_fields, info_of, IsInfo, role_word, link_word, id_lines, master_lines, link_lines, replica_lines, info_lines, ended, info_text}
use Rattle.node_texts.proofs.HelloAgain.{ascii_utf8}
use Rattle.node_texts.proofs.LineLemmas.{return_dropped}
use Rattle.node_texts.proofs.WordsAgain.{ascii_ip, ascii_id}

-- ---- lines

not_end : (b : ℕ) → 45 ≤ b → eqb b 10 ≡ false
not_end b h = grind (arith, nat_tests)

line_more : (line rest : List ℕ) → ArePlain line → lines (line ++ 13 ∷ 10 ∷ rest) ≡ (line ++ 13 ∷ []) ∷ lines rest
line_more [] rest h = refl
line_more (b ∷ line) rest h = line_goes_on b (line ++ 13 ∷ 10 ∷ rest) (not_end b h.0) ∙ ap (with_first b) (line_more line rest h.1)

-- lines of ASCII without control bytes
abbrev pub AreLines : List (List ℕ) → Type 0
AreLines = AllByRecursion (λ line. ArePlain line × IsAscii line)

lines-ended : (ls : List (List ℕ)) → AreLines ls → map without_return (lines (ended ls)) ≡ ls
lines-ended [] h = refl
lines-ended (l ∷ ls) h =
    ap (map without_return) (line_more l (ended ls) h.0.0)
    ∙ ap (λ x. x ∷ map without_return (lines (ended ls))) (return_dropped l 13 refl)
    ∙ ap (λ t. l ∷ t) (lines-ended ls h.1)

ascii-ended : (ls : List (List ℕ)) → AreLines ls → IsAscii (ended ls)
ascii-ended [] h = IsAscii-nil
ascii-ended (l ∷ ls) h = IsAscii-append l (13 ∷ 10 ∷ ended ls) h.0.1 (IsAscii-cons 13 (10 ∷ ended ls) (omega arith) (IsAscii-cons 10 (ended ls) (omega arith) (ascii-ended ls h.1)))

-- a text of letters, `_`, `:` and the like
label_line : (label value : List ℕ) → list_all (λ b. leb 45 b && ltb b 128) label ≡ true → ArePlain value → IsAscii value → ArePlain (label ++ value) × IsAscii (label ++ value)
label_line [] value h p a = (p, a)
label_line (b ∷ label) value h p a =
    let both = and_parts (leb 45 b && ltb b 128) (list_all (λ b. leb 45 b && ltb b 128) label) h in
    let range = and_parts (leb 45 b) (ltb b 128) both.0 in
    let rest = label_line label value both.1 p a in
    ((leb-true 45 b range.0, rest.0), IsAscii-cons b (label ++ value) (ltb-true b 128 range.1) rest.1)

number_line : (label : List ℕ) (n : ℕ) → list_all (λ b. leb 45 b && ltb b 128) label ≡ true → n ≤ COUNT_MAX → ArePlain (label ++ decimal n) × IsAscii (label ++ decimal n)
number_line label n h le =
    let small : n < 2 ^ 64 = omega arith in
    label_line label (decimal n) h (plain_word (decimal n) (word_decimal n small)) (IsAscii-decimal n small)

role_line : (role : DataRole) → ArePlain (codes "role:" ++ role_word role) × IsAscii (codes "role:" ++ role_word role)
role_line Master = label_line (codes "role:master") [] refl tt IsAscii-nil
role_line Replica = label_line (codes "role:slave") [] refl tt IsAscii-nil

status_line : (up : Bool) → ArePlain (codes "master_link_status:" ++ link_word up) × IsAscii (codes "master_link_status:" ++ link_word up)
status_line true = label_line (codes "master_link_status:up") [] refl tt IsAscii-nil
status_line false = label_line (codes "master_link_status:down") [] refl tt IsAscii-nil

id_line : (id : RunId) → IsRunId id → ArePlain (codes "run_id:" ++ id_text id) × IsAscii (codes "run_id:" ++ id_text id)
id_line id h = label_line (codes "run_id:") (id_text id) refl (plain_word (id_text id) (word_id_text id h.hi h.lo)) (ascii_id id h)

host_line : (addr : Addr) → IsAddr addr → ArePlain (codes "master_host:" ++ ip_text addr.ip) × IsAscii (codes "master_host:" ++ ip_text addr.ip)
host_line addr h = label_line (codes "master_host:") (ip_text addr.ip) refl (plain_word (ip_text addr.ip) (word_ip_text addr.ip h.ip)) (ascii_ip addr.ip h.ip)

port_line : (addr : Addr) → IsAddr addr → ArePlain (codes "master_port:" ++ decimal addr.port) × IsAscii (codes "master_port:" ++ decimal addr.port)
port_line addr h = let high : addr.port ≤ 65535 = h.port_high in number_line (codes "master_port:") addr.port refl (omega arith)

-- ---- values

count_digits : (ds : List ℕ) → 0 < length ds → AllByRecursion (λ b. 48 ≤ b) ds → count_or_minus ds ≡ count ds
count_digits [] l h = absurd (omega arith)
count_digits (b ∷ bs) l h =
    let high : 48 ≤ b = h.0 in
    let other : eqb b 45 ≡ false = grind (arith, nat_tests) in
    ap (λ t. elim t as (λ _. Option ℕ) [ true ↦ then_some (number bs) (λ _. Some 0) | false ↦ count (b ∷ bs) ]) other

count_again : (n : ℕ) → n ≤ COUNT_MAX → count (decimal n) ≡ Some n
count_again n h = number_within-decimal 0 COUNT_MAX n (omega arith) (omega arith) h

minus_again : (n : ℕ) → n ≤ COUNT_MAX → count_or_minus (decimal n) ≡ Some n
minus_again n h = let s = spells_decimal n (omega arith) in count_digits (decimal n) s.some s.high ∙ count_again n h

role_again : (role : DataRole) → role_name (role_word role) ≡ Some role
role_again Master = refl
role_again Replica = refl

up_again : (up : Bool) → is_up (link_word up) ≡ Some up
up_again true = refl
up_again false = refl

-- ---- the whole, by which of the optional lines stand

joined : (ks ls : List (List ℕ)) → AreLines ks → AreLines ls → AreLines (ks ++ ls)
joined [] ls h g = g
joined (k ∷ ks) ls h g = (h.0, joined ks ls h.1 g)

id_lined : (id : Option RunId) → ((i : RunId) → id ≡ Some i → IsRunId i) → AreLines (id_lines id)
id_lined None h = tt
id_lined (Some i) h = (id_line i (h i refl), tt)

master_lined : (master : Option Addr) → ((a : Addr) → master ≡ Some a → IsAddr a) → AreLines (master_lines master)
master_lined None h = tt
master_lined (Some a) h = (host_line a (h a refl), (port_line a (h a refl), tt))

lined : (info : Info) → IsInfo info → AreLines (info_lines info)
lined info h =
    let down = number_line (codes "master_link_down_since_seconds:") info.link_down_s refl h.link_down_s in
    let priority = number_line (codes "slave_priority:") info.priority refl h.priority in
    let offset = number_line (codes "slave_repl_offset:") info.offset refl h.offset in
    let behind = joined (link_lines info) (replica_lines info) (status_line info.link_up, (down, tt)) (priority, (offset, tt)) in
    joined (id_lines info.id) ((codes "role:" ++ role_word info.role) ∷ (master_lines info.master ++ (link_lines info ++ replica_lines info)))
    (id_lined info.id h.id) (role_line info.role, joined (master_lines info.master) (link_lines info ++ replica_lines info) (master_lined info.master h.master) behind)

-- the fields of the lines that always stand, and of those that may
abbrev given : (id : Option (Option RunId)) (role : Option DataRole) (host port : Option (Option ℕ)) (up : Option Bool) (down priority offset : Option ℕ) → Fields
given id role host port up down priority offset = record {
  own = record { id = id; role = Some role };
  link = record { host = host; port = port; up = Some up; down_s = Some down };
  replica = record { priority = Some priority; offset = Some offset };
}

read_by : (id : Option RunId) (role : DataRole) (master : Option Addr) (up : Bool) (d p o : ℕ)
    → ((i : RunId) → id ≡ Some i → IsRunId i) → ((a : Addr) → master ≡ Some a → IsAddr a) → d ≤ COUNT_MAX → p ≤ COUNT_MAX → o ≤ COUNT_MAX
    → (let info : Info = record { id = id; role = role; master = master; link_up = up; link_down_s = d; priority = p; offset = o } in
    info_of_fields (fields_of (info_lines info)) ≡ Ok info)
read_by None role None up d p o hid hm hd hp ho =
    λ t. info_of_fields (given None (role_again role t) None None (up_again up t) (minus_again d hd t) (count_again p hp t) (minus_again o ho t))
read_by None role (Some a) up d p o hid hm hd hp ho =
    let av = hm a refl in
    let host = ip-ip_text a.ip av.ip in
    let port = port-decimal a.port av.port_low av.port_high in
    λ t. info_of_fields (given None (role_again role t) (Some (host t)) (Some (port t)) (up_again up t) (minus_again d hd t) (count_again p hp t) (minus_again o ho t))
read_by (Some i) role None up d p o hid hm hd hp ho =
    let iv = hid i refl in
    let own = run_id-id_text i iv.hi iv.lo in
    λ t. info_of_fields (given (Some (own t)) (role_again role t) None None (up_again up t) (minus_again d hd t) (count_again p hp t) (minus_again o ho t))
read_by (Some i) role (Some a) up d p o hid hm hd hp ho =
    let iv = hid i refl in
    let own = run_id-id_text i iv.hi iv.lo in
    let av = hm a refl in
    let host = ip-ip_text a.ip av.ip in
    let port = port-decimal a.port av.port_low av.port_high in
    λ t. info_of_fields (given (Some (own t)) (role_again role t) (Some (host t)) (Some (port t)) (up_again up t) (minus_again d hd t) (count_again p hp t) (minus_again o ho t))

pub info_again : (info : Info) → IsInfo info → info_of (info_text info) ≡ Ok info
info_again info h =
    let all = lined info h in
    ap (λ t. unless_not t (info_of_fields (fields_of (map without_return (lines (info_text info)))))) (ascii_utf8 (info_text info) (ascii-ended (info_lines info) all))
    ∙ ap (λ ls. info_of_fields (fields_of ls)) (lines-ended (info_lines info) all)
    ∙ read_by info.id info.role info.master info.link_up info.link_down_s info.priority info.offset h.id h.master h.link_down_s h.priority h.offset
