-- The commands that are read where their bytes stand are those of the values there.
use Rattle.std.proofs.Common.{◌≡◌, ◌≢◌, ℕ, ◌+◌, ◌*◌, ◌/◌, ◌%◌, ◌≤◌, ◌<◌, ◌-◌, ◌⊎◌, inl, inr, List, [], ◌∷◌, ◌++◌, length, drop, refl, sym, ap, ◌∙◌, arith, append_assoc, Option, Some, None, Result, Ok, Err, decimal}
use Rattle.std.specs.Prelude.{bytes_eq, codes, if◌then◌else◌, IfOk, IfSome}
use Rattle.std.proofs.lemmas.Fmt.{decimal_digit, decimal_step}
use Rattle.std.proofs.lemmas.List.{drop_at, length-append}
use Rattle.ballot_law.specs.declared.commands.Command.{Command}
use Rattle.ballot_law.specs.declared.commands.Command.TheVariants.{Ping, GetMasterAddrByName}
use Rattle.ballot_law.specs.Words.{lower, name}
use Rattle.resp2.specs.declared.command.CommandFault.{CommandFault}
use Rattle.resp2.specs.declared.command.CommandFault.TheVariants.{UnknownCommand}
use Rattle.resp2.specs.Asked.{Found, Asks, IsBehindPing, IsBehindNames}
use Rattle.resp2.specs.Commands.{Entry, bulks, called_in, commands, subcommands, command_of, is_master_down_by_addr}
use Rattle.resp2.specs.declared.framing.fault.FrameFault.{FrameFault}
use Rattle.resp2.specs.declared.framing.fault.FrameFault.TheVariants.{BadKind, BadLength, BadNumber, MissingEnd, TooLong, TooDeep, TooMany, NoMemory}
use Rattle.resp2.specs.Framing.Frame.{view, bulk, null_bulk, items, spelling, spellings, line_end, count}
use Rattle.resp2.specs.Framing.Reading.{frame_at}
use Rattle.resp2.specs.Framing.Stream.{Held, reading, ended, bytes_in, held_size, Answers}
use Rattle.resp2.proofs.FramingLemmas.Streams.{read_is_spelled}
use Rattle.resp2.proofs.FramingLemmas.Passing.{spelled_some}
use Rattle.resp2.proofs.FramingLemmas.Window.{frame_again}
use Rattle.resp2.proofs.AskFrames.{AreShort, short_array}

-- ---- lengths of one and of two digits

pub one_digit : (first d : ℕ) (bytes rest text : List ℕ) → bytes ≡ first ∷ rest → first ≡ 48 + d → d ≤ 9 → rest ≡ line_end ++ text
    → (bytes ≡ decimal d ++ (line_end ++ text)) × (d ≤ 99)
one_digit first d bytes rest text e is low end =
    let spelled : decimal d ≡ (48 + d) ∷ [] = decimal_digit d (omega arith) in
    (rw (e, is, end, spelled) refl, omega arith)

tens_spelled : (a b : ℕ) → a ≤ 9 → a ≢ 0 → b ≤ 9 → decimal (a * 10 + b) ≡ (48 + a) ∷ (48 + b) ∷ []
tens_spelled a b low some small =
    let ten : 10 ≤ a * 10 + b = omega arith in
    let front : (a * 10 + b) / 10 ≡ a = omega arith in
    let last : (a * 10 + b) % 10 ≡ b = omega arith in
    let digit : decimal a ≡ (48 + a) ∷ [] = decimal_digit a (omega arith) in
    decimal_step (a * 10 + b) ten (omega arith) ∙ rw (front, last, digit) refl

pub two_digits : (first second a b : ℕ) (bytes rest more text : List ℕ) → bytes ≡ first ∷ rest → first ≡ 48 + a → a ≤ 9 → rest ≡ second ∷ more → second ≡ 48 + b → b ≤ 9
    → a ≢ 0 → more ≡ line_end ++ text → (bytes ≡ decimal (a * 10 + b) ++ (line_end ++ text)) × (a * 10 + b ≤ 99)
two_digits first second a b bytes rest more text e is low f is_second small some end =
    (rw (e, f, is, is_second, end, tens_spelled a b low some small) refl, omega arith)

-- ---- the bytes before a command's own words

-- a bulk string with these digits as its length
abbrev word_text : List ℕ → List ℕ → List ℕ
word_text digits word = 36 ∷ ((digits ++ line_end) ++ (word ++ line_end))

abbrev pub ping_text : List ℕ → List ℕ → List ℕ → List ℕ → List ℕ
ping_text n a word rest = 42 ∷ ((n ++ line_end) ++ (word_text a word ++ rest))

digit_spelled : (d : ℕ) → d < 10 → decimal d ≡ (48 + d) ∷ []
digit_spelled d small = decimal_digit d small

pub ping_behind : (bytes word rest : List ℕ) → bytes ≡ ping_text (49 ∷ []) (52 ∷ []) word rest → length word ≡ 4 → lower word ≡ codes "ping" → IsBehindPing bytes rest
ping_behind bytes word rest e four is =
    let size : decimal (length word) ≡ 52 ∷ [] = ap decimal four ∙ digit_spelled 4 (omega arith) in (
      word,
      e ∙ sym (ap (λ n. ping_text n (decimal (length word)) word rest) (digit_spelled 1 (omega arith)) ∙ ap (λ a. ping_text (49 ∷ []) a word rest) size),
      (is, omega arith),
    )

abbrev pub names_text : List ℕ → List ℕ → List ℕ → List ℕ → List ℕ → List ℕ → List ℕ
names_text n a b first second rest = 42 ∷ ((n ++ line_end) ++ (word_text a first ++ (word_text b second ++ rest)))

names_behind : (n tens ones : ℕ) (name bytes first second rest : List ℕ)
    → bytes ≡ names_text ((48 + n) ∷ []) (56 ∷ []) ((48 + tens) ∷ (48 + ones) ∷ []) first second rest
    → n < 10 → tens ≤ 9 → tens ≢ 0 → ones ≤ 9 → length first ≡ 8 → length second ≡ tens * 10 + ones
    → lower first ≡ codes "sentinel" → lower second ≡ name → IsBehindNames n name bytes rest
names_behind n tens ones name bytes first second rest e one low some small eight many is_first is_second =
    let size : decimal (length first) ≡ 56 ∷ [] = ap decimal eight ∙ digit_spelled 8 (omega arith) in
    let sizes : decimal (length second) ≡ (48 + tens) ∷ (48 + ones) ∷ [] = ap decimal many ∙ tens_spelled tens ones low some small in (
      first,
      second,
      e ∙ sym (ap (λ k. names_text k (decimal (length first)) (decimal (length second)) first second rest) (digit_spelled n one)
          ∙ ap (λ a. names_text ((48 + n) ∷ []) a (decimal (length second)) first second rest) size
          ∙ ap (λ b. names_text ((48 + n) ∷ []) (56 ∷ []) b first second rest) sizes),
      (is_first, omega arith),
      (is_second, omega arith),
    )

-- in capitals, in small letters, or with SENTINEL alone in capitals
pub spelled_names_behind : (n tens ones : ℕ) (capitals name bytes rest : List ℕ)
    → (bytes ≡ names_text ((48 + n) ∷ []) (56 ∷ []) ((48 + tens) ∷ (48 + ones) ∷ []) (codes "SENTINEL") capitals rest)
    ⊎ ((bytes ≡ names_text ((48 + n) ∷ []) (56 ∷ []) ((48 + tens) ∷ (48 + ones) ∷ []) (codes "sentinel") name rest)
    ⊎ (bytes ≡ names_text ((48 + n) ∷ []) (56 ∷ []) ((48 + tens) ∷ (48 + ones) ∷ []) (codes "SENTINEL") name rest))
    → n < 10 → tens ≤ 9 → tens ≢ 0 → ones ≤ 9 → length capitals ≡ tens * 10 + ones → length name ≡ tens * 10 + ones
    → lower capitals ≡ name → lower name ≡ name → IsBehindNames n name bytes rest
spelled_names_behind n tens ones capitals name bytes rest (inl e) one low some small many as_many is_capitals is_name =
    names_behind n tens ones name bytes (codes "SENTINEL") capitals rest e one low some small refl many refl is_capitals
spelled_names_behind n tens ones capitals name bytes rest (inr (inl e)) one low some small many as_many is_capitals is_name =
    names_behind n tens ones name bytes (codes "sentinel") name rest e one low some small refl as_many refl is_name
spelled_names_behind n tens ones capitals name bytes rest (inr (inr e)) one low some small many as_many is_capitals is_name =
    names_behind n tens ones name bytes (codes "SENTINEL") name rest e one low some small refl as_many refl is_name

-- ---- an array of words

-- these bulk strings, and the rest behind them
abbrev behind_words : List (List ℕ) → List ℕ → List ℕ
behind_words [] rest = rest
behind_words (word ∷ words) rest = spelling (bulk word) ++ behind_words words rest

words_behind : (words : List (List ℕ)) (rest : List ℕ) → spellings (bulks words) ++ rest ≡ behind_words words rest
words_behind [] rest = refl
words_behind (word ∷ words) rest = append_assoc (spelling (bulk word)) (spellings (bulks words)) rest ∙ ap (λ t. spelling (bulk word) ++ t) (words_behind words rest)

array_found : (bytes rest : List ℕ) (words : List (List ℕ)) (asked : Result Command CommandFault)
    → bytes ≡ 42 ∷ ((decimal (count (bulks words)) ++ line_end) ++ behind_words words rest) → AreShort words → length words ≤ 100
    → asked ≡ command_of (items (bulks words)) → Found bytes asked rest
array_found bytes rest words asked e short few is =
    let f = items (bulks words) in
    let head = decimal (count (bulks words)) ++ line_end in
    let text : bytes ≡ spelling f ++ rest = e ∙ ap (λ t. 42 ∷ t) (sym (append_assoc head (spellings (bulks words)) rest ∙ ap (λ t. head ++ t) (words_behind words rest))) in
    (f, ap frame_at text ∙ frame_again f rest (short_array words short few), is)

-- the command of the entry that a word in lower case names
abbrev called_as : List Entry → List ℕ → List (List ℕ) → Result Command CommandFault
called_as [] word args = Err UnknownCommand
called_as (entry ∷ entries) word args = if bytes_eq word entry.0 then entry.1 args else called_as entries word args

called_lower : (entries : List Entry) (word : List ℕ) (args : List (List ℕ)) → called_in entries word args ≡ called_as entries (lower word) args
called_lower [] word args = refl
called_lower (entry ∷ entries) word args = ap (λ r. if bytes_eq (lower word) entry.0 then entry.1 args else r) (called_lower entries word args)

called : (entries : List Entry) (word name : List ℕ) (args : List (List ℕ)) → lower word ≡ name → called_in entries word args ≡ called_as entries name args
called entries word name args is = called_lower entries word args ∙ ap (λ k. called_as entries k args) is

-- ---- the three commands

short_word : (word : List ℕ) → length word ≤ 99 → length word ≤ 100
short_word word short = omega arith

pub ping_found : (bytes rest : List ℕ) → IsBehindPing bytes rest → Found bytes (Ok Ping) rest
ping_found bytes rest h =
    array_found bytes rest (h.0 ∷ []) (Ok Ping) h.1 (short_word h.0 h.2.1, tt) (omega arith) (sym (called commands h.0 (codes "ping") [] h.2.0))

pub address_found : (bytes behind word rest : List ℕ) → IsBehindNames 3 (codes "get-master-addr-by-name") bytes behind → behind ≡ spelling (bulk word) ++ rest → length word ≤ 99
    → Found bytes (Ok (GetMasterAddrByName (name word))) rest
address_found bytes behind word rest h d short =
    let head : List ℕ → List ℕ = λ t. 42 ∷ ((decimal 3 ++ line_end) ++ (spelling (bulk h.0) ++ (spelling (bulk h.1) ++ t))) in
    array_found bytes rest (h.0 ∷ h.1 ∷ word ∷ []) (Ok (GetMasterAddrByName (name word))) (h.2 ∙ ap head d)
    (short_word h.0 h.3.1, (short_word h.1 h.4.1, (short_word word short, tt))) (omega arith)
    (sym (called commands h.0 (codes "sentinel") (h.1 ∷ word ∷ []) h.3.0 ∙ called subcommands h.1 (codes "get-master-addr-by-name") (word ∷ []) h.4.0))

pub question_found : (bytes one two three last rest ip port epoch id : List ℕ) (asked : Result Command CommandFault)
    → IsBehindNames 6 (codes "is-master-down-by-addr") bytes one → one ≡ spelling (bulk ip) ++ two → two ≡ spelling (bulk port) ++ three → three ≡ spelling (bulk epoch) ++ last →
    last ≡ spelling (bulk id) ++ rest
    → length ip ≤ 99 → length port ≤ 99 → length epoch ≤ 99 → length id ≤ 99
    → asked ≡ is_master_down_by_addr (ip ∷ port ∷ epoch ∷ id ∷ []) → Found bytes asked rest
question_found bytes one two three last rest ip port epoch id asked h a b c d la lb lc ld is =
    let head : List ℕ → List ℕ = λ t. 42 ∷ ((decimal 6 ++ line_end) ++ (spelling (bulk h.0) ++ (spelling (bulk h.1) ++ t))) in
    let args = ip ∷ port ∷ epoch ∷ id ∷ [] in
    let joined : one ≡ spelling (bulk ip) ++ (spelling (bulk port) ++ (spelling (bulk epoch) ++ (spelling (bulk id) ++ rest))) =
    a ∙ ap (λ t. spelling (bulk ip) ++ t) (b ∙ ap (λ t. spelling (bulk port) ++ t) (c ∙ ap (λ t. spelling (bulk epoch) ++ t) d)) in
    array_found bytes rest (h.0 ∷ h.1 ∷ args) asked (h.2 ∙ ap head joined)
    (short_word h.0 h.3.1, (short_word h.1 h.4.1, (short_word ip la, (short_word port lb, (short_word epoch lc, (short_word id ld, tt)))))) (omega arith)
    (is ∙ sym (called commands h.0 (codes "sentinel") (h.1 ∷ args) h.3.0 ∙ called subcommands h.1 (codes "is-master-down-by-addr") args h.4.0))

-- ---- readers

-- the bytes behind a command, by their number
pub found_count : (bytes rest : List ℕ) (asked : Result Command CommandFault) (count : ℕ) → Found bytes asked rest → count ≡ length bytes - length rest →
    Found bytes asked (drop count bytes)
found_count bytes rest asked count h is =
    let text : bytes ≡ spelling h.0 ++ rest = (read_is_spelled bytes h.0 rest h.1).0 in
    let size : count ≡ length (spelling h.0) = omega (arith, is, ap length text, length-append (spelling h.0) rest) in
    let behind : drop count bytes ≡ rest = ap (drop count) text ∙ drop_at (spelling h.0) rest count (sym size) in
    (h.0, h.1 ∙ ap (λ t. Ok (h.0, t)) (sym behind), h.2)

pub asks_none : (before after : Held) → Answers view before (Ok None) after → Asks before (Ok None) after
asks_none (reading bytes) after h = (null_bulk, h, tt)
asks_none (ended k) after h = absurd (let d = h.0 in cc)

pub asks_fault : (before after : Held) (f : FrameFault) → Answers view before (Err f) after → Asks before (Err f) after
asks_fault (reading bytes) after NoMemory h = (null_bulk, h, tt)
asks_fault (reading bytes) after BadKind h = (null_bulk, h, tt)
asks_fault (reading bytes) after BadLength h = (null_bulk, h, tt)
asks_fault (reading bytes) after BadNumber h = (null_bulk, h, tt)
asks_fault (reading bytes) after MissingEnd h = (null_bulk, h, tt)
asks_fault (reading bytes) after TooLong h = (null_bulk, h, tt)
asks_fault (reading bytes) after TooDeep h = (null_bulk, h, tt)
asks_fault (reading bytes) after TooMany h = (null_bulk, h, tt)
asks_fault (ended k) after f h = (null_bulk, ((let d = h.0 in cc), h.1), tt)

-- a command that stands at the front was taken away
pub asks_found : (before after : Held) (asked : Result Command CommandFault) (count : ℕ) → before ≡ reading (bytes_in before) →
    Found (bytes_in before) asked (drop count (bytes_in before))
    → after ≡ reading (drop count (bytes_in before)) → Asks before (Ok (Some asked)) after
asks_found (reading bytes) after asked count open_is h e = (h.0, (drop count bytes, h.1, e), h.2)
asks_found (ended k) after asked count open_is h e = absurd (let d = open_is in cc)

-- where a command stands at the front, no fault was answered
pub found_open : (held : Held) (asked : Result Command CommandFault) (rest : List ℕ) → Found (bytes_in held) asked rest → held ≡ reading (bytes_in held)
found_open (reading bytes) asked rest h = refl
found_open (ended k) asked rest h = absurd (let some = spelled_some h.0 in let text : [] ≡ spelling h.0 ++ rest = (read_is_spelled [] h.0 rest h.1).0 in
    omega (arith, some, ap length text, length-append (spelling h.0) rest))

-- ---- how much is held

pub asks_fewer : (before after : Held) (answer : Result (Option (Result Command CommandFault)) FrameFault) → Asks before answer after
    → IfOk answer (λ given. IfSome given (λ asked. held_size after < held_size before))
asks_fewer (reading bytes) after (Ok (Some asked)) h =
    let text : bytes ≡ spelling h.0 ++ h.1.0 = (read_is_spelled bytes h.0 h.1.0 h.1.1).0 in
    let now : held_size after ≡ length h.1.0 = ap held_size h.1.2 in
    omega (arith, now, ap length text, length-append (spelling h.0) h.1.0, spelled_some h.0)
asks_fewer (reading bytes) after (Ok None) h = tt
asks_fewer (reading bytes) after (Err f) h = tt
asks_fewer (ended f) after (Ok given) h = absurd (let d = h.1.0 in cc)
asks_fewer (ended f) after (Err g) h = tt

-- fewer bytes stand behind a command
pub found_shorter : (bytes rest : List ℕ) (asked : Result Command CommandFault) → Found bytes asked rest → length rest < length bytes
found_shorter bytes rest asked h =
    let text : bytes ≡ spelling h.0 ++ rest = (read_is_spelled bytes h.0 rest h.1).0 in
    omega (arith, ap length text, length-append (spelling h.0) rest, spelled_some h.0)
