-- The bytes of what COMMAND and its subcommands answer.
use Rattle.std.proofs.Common.{◌≡◌, ◌≢◌, ◌∙◌, ◌+◌, ◌*◌, ◌≤◌, ◌||◌, ℕ, zero, suc, pos, Bool, List, [], ◌∷◌, ◌++◌, length, map, decimal, refl, sym, ap, arith, append_assoc, append-nil, codes}
use Rattle.std.specs.List.{list_any}
use Rattle.resp2.specs.Framing.Frame.{Frame, FrameList, simple, fault, int, bulk, null_bulk, items, null_items, no_frames, frame, frames_of, count, line_end, spelling, spellings}
use Rattle.client_commands.specs.declared.rows.KnownCommand.{KnownCommand}
use Rattle.client_commands.specs.declared.classes.Class.{Class}
use Rattle.client_commands.specs.Pieces.{Part, text, mark, parts_of, all_parts_of, bytes_of, all_bytes_of}
use Rattle.client_commands.specs.Refusals.{syntax_error}
use Rattle.client_commands.specs.Rows.{name, arity, class_of, flags, categories, tips}
use Rattle.client_commands.specs.Descriptions.{fields, pairs_of}
use Rattle.client_commands.specs.Tables.{marks, texts, row_with, sub_rows, all_rows, rows_named, command_info, description, sub_descriptions, family_description, described_with, described, found_by, command_docs, names_of, is_category, is_mark_of, command_list}

-- ---- lists of words

-- an array of so many items, which these are
headed : (n : ℕ) (bytes : List ℕ) (fs : FrameList) → n ≡ count fs → bytes ≡ spellings fs → (42 ∷ (decimal n ++ line_end)) ++ bytes ≡ spelling (items fs)
headed n bytes fs size is =
    ap (λ (m : ℕ). 42 ∷ ((decimal m ++ line_end) ++ bytes)) size ∙ ap (λ (t : List ℕ). 42 ∷ ((decimal (count fs) ++ line_end) ++ t)) is

count_marks : (words : List (List ℕ)) → length words ≡ count (frames_of (map simple words))
count_marks [] = refl
count_marks (word ∷ words) = ap suc (count_marks words)

count_texts : (words : List (List ℕ)) → length words ≡ count (frames_of (map bulk words))
count_texts [] = refl
count_texts (word ∷ words) = ap suc (count_texts words)

mark_bytes : (words : List (List ℕ)) → all_bytes_of (map mark words) ≡ spellings (frames_of (map simple words))
mark_bytes [] = refl
mark_bytes (word ∷ words) = ap (λ (t : List ℕ). spelling (simple word) ++ t) (mark_bytes words)

text_bytes : (words : List (List ℕ)) → all_bytes_of (map text words) ≡ spellings (frames_of (map bulk words))
text_bytes [] = refl
text_bytes (word ∷ words) = ap (λ (t : List ℕ). spelling (bulk word) ++ t) (text_bytes words)

pub marks_are : (n : ℕ) (parts : List Part) (words : List (List ℕ)) → n ≡ length words → parts ≡ map mark words
    → (42 ∷ (decimal n ++ line_end)) ++ all_bytes_of parts ≡ spelling (marks words)
marks_are n parts words size is = headed n (all_bytes_of parts) (frames_of (map simple words)) (size ∙ count_marks words) (ap all_bytes_of is ∙ mark_bytes words)

pub texts_are : (n : ℕ) (parts : List Part) (words : List (List ℕ)) → n ≡ length words → parts ≡ map text words
    → (42 ∷ (decimal n ++ line_end)) ++ all_bytes_of parts ≡ spelling (texts words)
texts_are n parts words size is = headed n (all_bytes_of parts) (frames_of (map bulk words)) (size ∙ count_texts words) (ap all_bytes_of is ∙ text_bytes words)

count_names : (commands : List KnownCommand) → length commands ≡ count (frames_of (map bulk (names_of commands)))
count_names [] = refl
count_names (next ∷ commands) = ap suc (count_names commands)

pub names_are : (commands : List KnownCommand)
    → (42 ∷ (decimal (length commands) ++ line_end)) ++ spellings (frames_of (map bulk (names_of commands))) ≡ spelling (texts (names_of commands))
names_are commands = headed (length commands) _ (frames_of (map bulk (names_of commands))) (count_names commands) refl

-- a mark of a category is found among the marks as it is among the categories
pub marks_any : (word : List ℕ) (parts : List Part) (words : List (List ℕ)) → parts ≡ map mark words
    → list_any (is_mark_of word) parts ≡ list_any (is_category word) words
marks_any word parts words is = ap (list_any (is_mark_of word)) is ∙ each words where
  each : (some : List (List ℕ)) → list_any (is_mark_of word) (map mark some) ≡ list_any (is_category word) some
  each [] = refl
  each (one ∷ some) = ap (λ (b : Bool). is_category word one || b) (each some)

-- ---- rows

abbrev zero_bytes : List ℕ
zero_bytes = spelling (int (pos 0))

abbrev none_told : List ℕ
none_told = spelling (items no_frames)

-- what is told of a class
abbrev pub class_bytes : Class → List ℕ
class_bytes class =
    spelling (marks (flags class))
    ++ ((zero_bytes ++ (zero_bytes ++ zero_bytes)) ++ (spelling (marks (categories class)) ++ (spelling (texts (tips class)) ++ none_told)))

-- the begin of a row
abbrev pub name_bytes : KnownCommand → List ℕ
name_bytes command = (42 ∷ (decimal 10 ++ line_end)) ++ (spelling (bulk (name command)) ++ spelling (int (arity command)))

joined_row : (h n a f z c t e s : List ℕ)
    → (h ++ (n ++ a)) ++ ((f ++ ((z ++ (z ++ z)) ++ (c ++ (t ++ e)))) ++ s) ≡ h ++ (n ++ (a ++ (f ++ (z ++ (z ++ (z ++ (c ++ (t ++ (e ++ (s ++ []))))))))))
joined_row h n a f z c t e s =
    let last : (c ++ (t ++ e)) ++ s ≡ c ++ (t ++ (e ++ (s ++ []))) =
    append_assoc c (t ++ e) s ∙ ap (λ (x : List ℕ). c ++ x) (append_assoc t e s ∙ ap (λ (x : List ℕ). t ++ (e ++ x)) (sym (append-nil s)))
    in
    let zeros : (w : List ℕ) → (z ++ (z ++ z)) ++ w ≡ z ++ (z ++ (z ++ w)) =
    λ w. append_assoc z (z ++ z) w ∙ ap (λ (x : List ℕ). z ++ x) (append_assoc z z w)
    in
    let middle : (f ++ ((z ++ (z ++ z)) ++ (c ++ (t ++ e)))) ++ s ≡ f ++ (z ++ (z ++ (z ++ (c ++ (t ++ (e ++ (s ++ []))))))) =
    append_assoc f ((z ++ (z ++ z)) ++ (c ++ (t ++ e))) s
    ∙ ap (λ (x : List ℕ). f ++ x)
    (append_assoc (z ++ (z ++ z)) (c ++ (t ++ e)) s ∙ zeros ((c ++ (t ++ e)) ++ s) ∙ ap (λ (x : List ℕ). z ++ (z ++ (z ++ x))) last)
    in
    append_assoc h (n ++ a) ((f ++ ((z ++ (z ++ z)) ++ (c ++ (t ++ e)))) ++ s)
    ∙ ap (λ (x : List ℕ). h ++ x)
    (append_assoc n a ((f ++ ((z ++ (z ++ z)) ++ (c ++ (t ++ e)))) ++ s) ∙ ap (λ (x : List ℕ). n ++ (a ++ x)) middle)

-- a row is the begin, its class and its subcommands
pub row_is : (command : KnownCommand) (subs : FrameList) → name_bytes command ++ (class_bytes (class_of command) ++ spelling (items subs)) ≡ spelling (row_with command subs)
row_is command subs =
    joined_row (42 ∷ (decimal 10 ++ line_end)) (spelling (bulk (name command))) (spelling (int (arity command))) (spelling (marks (flags (class_of command)))) zero_bytes
    (spelling (marks (categories (class_of command)))) (spelling (texts (tips (class_of command)))) none_told (spelling (items subs))

count_subs : (subs : List KnownCommand) → length subs ≡ count (sub_rows subs)
count_subs [] = refl
count_subs (sub ∷ subs) = ap suc (count_subs subs)

pub subs_are : (subs : List KnownCommand) → (42 ∷ (decimal (length subs) ++ line_end)) ++ spellings (sub_rows subs) ≡ spelling (items (sub_rows subs))
subs_are subs = headed (length subs) _ (sub_rows subs) (count_subs subs) refl

count_rows : (commands : List KnownCommand) → length commands ≡ count (all_rows commands)
count_rows [] = refl
count_rows (next ∷ commands) = ap suc (count_rows commands)

pub rows_are : (commands : List KnownCommand) → (42 ∷ (decimal (length commands) ++ line_end)) ++ spellings (all_rows commands) ≡ spelling (items (all_rows commands))
rows_are commands = headed (length commands) _ (all_rows commands) (count_rows commands) refl

count_named : (words : List (List ℕ)) → length words ≡ count (rows_named words)
count_named [] = refl
count_named (word ∷ words) = ap suc (count_named words)

pub named_are : (words : List (List ℕ)) → (42 ∷ (decimal (length words) ++ line_end)) ++ spellings (rows_named words) ≡ spelling (items (rows_named words))
named_are words = headed (length words) _ (rows_named words) (count_named words) refl

-- ---- descriptions

parts_join : (some more : List Part) → all_bytes_of (some ++ more) ≡ all_bytes_of some ++ all_bytes_of more
parts_join [] more = refl
parts_join (part ∷ some) more = ap (λ (t : List ℕ). bytes_of part ++ t) (parts_join some more) ∙ sym (append_assoc (bytes_of part) (all_bytes_of some) (all_bytes_of more))

mutual
  part_spelled : (f : Frame) → all_bytes_of (parts_of f) ≡ spelling f
  part_spelled (simple line) = append-nil (spelling (simple line))
  part_spelled (fault line) = append-nil (spelling (fault line))
  part_spelled (int n) = append-nil (spelling (int n))
  part_spelled (bulk bytes) = append-nil (spelling (bulk bytes))
  part_spelled null_bulk = append-nil (spelling null_bulk)
  part_spelled (items fs) = ap (λ (t : List ℕ). 42 ∷ ((decimal (count fs) ++ line_end) ++ t)) (parts_spelled fs)
  part_spelled null_items = append-nil (spelling null_items)

  parts_spelled : (fs : FrameList) → all_bytes_of (all_parts_of fs) ≡ spellings fs
  parts_spelled no_frames = refl
  parts_spelled (frame f fs) =
      parts_join (parts_of f) (all_parts_of fs)
      ∙ ap (λ (t : List ℕ). t ++ all_bytes_of (all_parts_of fs)) (part_spelled f) ∙ ap (λ (t : List ℕ). spelling f ++ t) (parts_spelled fs)

count_pairs : (pairs : List (Frame × Frame)) → length pairs * 2 ≡ count (pairs_of pairs)
count_pairs [] = refl
count_pairs (pair ∷ pairs) = let rest = count_pairs pairs in omega (arith, rest)

one_longer : (pairs : List (Frame × Frame)) (last : Frame × Frame) → length pairs * 2 + 2 ≡ count (pairs_of (pairs ++ last ∷ []))
one_longer [] last = refl
one_longer (pair ∷ pairs) last = let rest = one_longer pairs last in omega (arith, rest)

last_pair : (pairs : List (Frame × Frame)) (last : Frame × Frame)
    → spellings (pairs_of (pairs ++ last ∷ [])) ≡ spellings (pairs_of pairs) ++ (spelling last.0 ++ spelling last.1)
last_pair [] last = ap (λ (t : List ℕ). spelling last.0 ++ t) (append-nil (spelling last.1))
last_pair (pair ∷ pairs) last =
    let rest = spellings (pairs_of pairs) in
    let end = spelling last.0 ++ spelling last.1 in
    ap (λ (t : List ℕ). spelling pair.0 ++ (spelling pair.1 ++ t)) (last_pair pairs last)
    ∙ ap (λ (t : List ℕ). spelling pair.0 ++ t) (sym (append_assoc (spelling pair.1) rest end)) ∙ sym (append_assoc (spelling pair.0) (spelling pair.1 ++ rest) end)

-- the fields of a command, as they are said by themselves
pub fields_are : (command : KnownCommand)
    → (42 ∷ (decimal (length (fields command) * 2 + 0) ++ line_end)) ++ all_bytes_of (all_parts_of (pairs_of (fields command))) ≡ spelling (description command [])
fields_are command =
    headed (length (fields command) * 2 + 0) _ (pairs_of (fields command)) (omega (arith, count_pairs (fields command))) (parts_spelled (pairs_of (fields command)))
    ∙ ap (λ (pairs : List (Frame × Frame)). spelling (items (pairs_of pairs))) (sym (append-nil (fields command)))

-- and with the subcommands after them
with_last : (pairs : List (Frame × Frame)) (key value : Frame) (bytes : List ℕ) → bytes ≡ spelling value
    → ((42 ∷ (decimal (length pairs * 2 + 2) ++ line_end)) ++ all_bytes_of (all_parts_of (pairs_of pairs))) ++ (spelling key ++ bytes)
    ≡ spelling (items (pairs_of (pairs ++ (key, value) ∷ [])))
with_last pairs key value bytes is =
    let size = length pairs * 2 + 2 in
    let told = all_bytes_of (all_parts_of (pairs_of pairs)) in
    append_assoc (42 ∷ (decimal size ++ line_end)) told (spelling key ++ bytes)
    ∙ headed size (told ++ (spelling key ++ bytes)) (pairs_of (pairs ++ (key, value) ∷ [])) (one_longer pairs (key, value))
    (ap (λ (t : List ℕ). t ++ (spelling key ++ bytes)) (parts_spelled (pairs_of pairs))
    ∙ ap (λ (t : List ℕ). spellings (pairs_of pairs) ++ (spelling key ++ t)) is ∙ sym (last_pair pairs (key, value)))

length_subs : (subs : List KnownCommand) → length subs ≡ length (sub_descriptions subs)
length_subs [] = refl
length_subs (sub ∷ subs) = ap suc (length_subs subs)

length_described : (commands : List KnownCommand) → length commands ≡ length (described commands)
length_described [] = refl
length_described (next ∷ commands) = ap suc (length_described commands)

sub_descriptions_are : (subs : List KnownCommand)
    → (42 ∷ (decimal (length subs * 2) ++ line_end)) ++ spellings (pairs_of (sub_descriptions subs)) ≡ spelling (items (pairs_of (sub_descriptions subs)))
sub_descriptions_are subs =
    headed (length subs * 2) _ (pairs_of (sub_descriptions subs))
    (ap (λ (n : ℕ). n * 2) (length_subs subs) ∙ count_pairs (sub_descriptions subs)) refl

pub family_is : (command : KnownCommand) (subs : List KnownCommand)
    → ((42 ∷ (decimal (length (fields command) * 2 + 2) ++ line_end)) ++ all_bytes_of (all_parts_of (pairs_of (fields command))))
    ++ (spelling (bulk (codes "subcommands")) ++ ((42 ∷ (decimal (length subs * 2) ++ line_end)) ++ spellings (pairs_of (sub_descriptions subs))))
    ≡ spelling (family_description command subs)
family_is command subs = with_last (fields command) (bulk (codes "subcommands")) (items (pairs_of (sub_descriptions subs))) _ (sub_descriptions_are subs)

pub docs_are : (commands : List KnownCommand)
    → (42 ∷ (decimal (length commands * 2) ++ line_end)) ++ spellings (pairs_of (described commands)) ≡ spelling (items (pairs_of (described commands)))
docs_are commands =
    headed (length commands * 2) _ (pairs_of (described commands)) (ap (λ (n : ℕ). n * 2) (length_described commands) ∙ count_pairs (described commands)) refl

-- ---- by how many there are

pub family_described : (known : KnownCommand) (subs : List KnownCommand) → 1 ≤ length subs → described_with known subs ≡ family_description known subs
family_described known [] h = absurd (omega (arith, h))
family_described known (sub ∷ subs) h = refl

pub info_named : (words : List (List ℕ)) → 1 ≤ length words → command_info words ≡ items (rows_named words)
info_named [] h = absurd (omega (arith, h))
info_named (word ∷ words) h = refl

pub docs_named : (words : List (List ℕ)) → 1 ≤ length words → command_docs words ≡ items (pairs_of (described (found_by words)))
docs_named [] h = absurd (omega (arith, h))
docs_named (word ∷ words) h = refl

pub not_filtered : (words : List (List ℕ)) → length words ≢ 0 → length words ≢ 3 → command_list words ≡ syntax_error
not_filtered [] h k = absurd (h refl)
not_filtered (option ∷ []) h k = refl
not_filtered (option ∷ filter ∷ []) h k = refl
not_filtered (option ∷ filter ∷ word ∷ []) h k = absurd (k refl)
not_filtered (option ∷ filter ∷ word ∷ next ∷ words) h k = refl
