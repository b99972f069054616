-- No line of what COMMAND answers holds a CR or LF.
use Rattle.std.proofs.Common.{◌≡◌, Bool, true, false, List, [], ◌∷◌, ◌++◌, ℕ, Option, None, Some, refl}
use Rattle.std.specs.Prelude.{codes}
use Rattle.std.specs.List.{list_all}
use Rattle.ballot_law.specs.Words.{lower}
use Rattle.resp2.specs.Framing.Frame.{Frame, FrameList, no_frames, HasLines, HaveLines}
use Rattle.client_commands.specs.declared.rows.KnownCommand.{KnownCommand}
use Rattle.client_commands.specs.declared.rows.KnownCommand.TheVariants.{Ping, Hello, Auth, Client, Command, Role, Publish, Info, Sentinel, Subscribe, Unsubscribe, PSubscribe, PUnsubscribe, ClientSetName, ClientGetName, ClientId, ClientList, ClientInfo, ClientKill, ClientNoEvict, ClientReply, ClientHelp, CommandCount, CommandDocs, CommandInfo, CommandList, CommandHelp, SentinelMasters, SentinelMaster, SentinelReplicas, SentinelSlaves, SentinelSentinels, SentinelMyId, SentinelCkQuorum, SentinelFailover, SentinelFlushConfig, SentinelGetMasterAddr, SentinelIsMasterDown, SentinelHelp, SentinelPendingScripts, SentinelInfoCache, SentinelConfig}
use Rattle.client_commands.specs.declared.classes.Class.{Class}
use Rattle.client_commands.specs.declared.classes.Class.TheVariants.{Probe, Greeting, Container, Table, Status, Publishing, Figures, Ruled, Listening, Own, Clients, OwnLine, Control, Counting, Advice}
use Rattle.client_commands.specs.Refusals.{is_called, syntax_error}
use Rattle.client_commands.specs.Rows.{families, all_commands, subs_of, class_of, flags, categories, tips}
use Rattle.client_commands.specs.Descriptions.{fields, pairs_of}
use Rattle.client_commands.specs.Tables.{named, row_with, sub_rows, all_rows, table, row_or_null, rows_named, command_info, description, sub_descriptions, described_with, described, found_by, command_docs, names_of, in_category, matching, filtered_by, command_list}
use Rattle.resp2.proofs.PlainLines.{is_plain_byte, checked}
use Rattle.client_commands.proofs.PlainLines.{told_have_lines, names_lines, have_plain_lines, values_checked}

abbrev are_plain : List (List ℕ) → Bool
are_plain words = list_all (λ (word : List ℕ). list_all is_plain_byte word) words

-- ---- rows

flags_plain : (class : Class) → are_plain (flags class) ≡ true
flags_plain Probe = refl
flags_plain Greeting = refl
flags_plain Container = refl
flags_plain Table = refl
flags_plain Status = refl
flags_plain Publishing = refl
flags_plain Figures = refl
flags_plain Ruled = refl
flags_plain Listening = refl
flags_plain Own = refl
flags_plain Clients = refl
flags_plain OwnLine = refl
flags_plain Control = refl
flags_plain Counting = refl
flags_plain Advice = refl

categories_plain : (class : Class) → are_plain (categories class) ≡ true
categories_plain Probe = refl
categories_plain Greeting = refl
categories_plain Container = refl
categories_plain Table = refl
categories_plain Status = refl
categories_plain Publishing = refl
categories_plain Figures = refl
categories_plain Ruled = refl
categories_plain Listening = refl
categories_plain Own = refl
categories_plain Clients = refl
categories_plain OwnLine = refl
categories_plain Control = refl
categories_plain Counting = refl
categories_plain Advice = refl

row_lines : (command : KnownCommand) (subs : FrameList) → HaveLines subs → HasLines (row_with command subs)
row_lines command subs h =
    let class = class_of command in (
      tt,
      (
        tt,
        (
          told_have_lines (flags class) (flags_plain class),
          (tt, (tt, (tt, (told_have_lines (categories class) (categories_plain class), (names_lines (tips class), (tt, (h, tt))))))),
        ),
      ),
    )

sub_rows_lines : (subs : List KnownCommand) → HaveLines (sub_rows subs)
sub_rows_lines [] = tt
sub_rows_lines (sub ∷ subs) = (row_lines sub no_frames tt, sub_rows_lines subs)

all_rows_lines : (commands : List KnownCommand) → HaveLines (all_rows commands)
all_rows_lines [] = tt
all_rows_lines (next ∷ commands) = (row_lines next (sub_rows (subs_of next)) (sub_rows_lines (subs_of next)), all_rows_lines commands)

pub table_lines : HasLines table
table_lines = all_rows_lines families

or_null_lines : (found : Option KnownCommand) → HasLines (row_or_null found)
or_null_lines None = tt
or_null_lines (Some command) = row_lines command (sub_rows (subs_of command)) (sub_rows_lines (subs_of command))

named_lines : (words : List (List ℕ)) → HaveLines (rows_named words)
named_lines [] = tt
named_lines (word ∷ words) = (or_null_lines (named all_commands word), named_lines words)

pub info_lines : (words : List (List ℕ)) → HasLines (command_info words)
info_lines [] = table_lines
info_lines (word ∷ words) = named_lines (word ∷ words)

-- ---- descriptions

fields_plain : (command : KnownCommand) → have_plain_lines (pairs_of (fields command)) ≡ true
fields_plain Ping = refl
fields_plain Hello = refl
fields_plain Auth = refl
fields_plain Client = refl
fields_plain Command = refl
fields_plain Role = refl
fields_plain Publish = refl
fields_plain Info = refl
fields_plain Sentinel = refl
fields_plain Subscribe = refl
fields_plain Unsubscribe = refl
fields_plain PSubscribe = refl
fields_plain PUnsubscribe = refl
fields_plain ClientSetName = refl
fields_plain ClientGetName = refl
fields_plain ClientId = refl
fields_plain ClientList = refl
fields_plain ClientInfo = refl
fields_plain ClientKill = refl
fields_plain ClientNoEvict = refl
fields_plain ClientReply = refl
fields_plain ClientHelp = refl
fields_plain CommandCount = refl
fields_plain CommandDocs = refl
fields_plain CommandInfo = refl
fields_plain CommandList = refl
fields_plain CommandHelp = refl
fields_plain SentinelMasters = refl
fields_plain SentinelMaster = refl
fields_plain SentinelReplicas = refl
fields_plain SentinelSlaves = refl
fields_plain SentinelSentinels = refl
fields_plain SentinelMyId = refl
fields_plain SentinelCkQuorum = refl
fields_plain SentinelFailover = refl
fields_plain SentinelFlushConfig = refl
fields_plain SentinelGetMasterAddr = refl
fields_plain SentinelIsMasterDown = refl
fields_plain SentinelHelp = refl
fields_plain SentinelPendingScripts = refl
fields_plain SentinelInfoCache = refl
fields_plain SentinelConfig = refl

fields_lines : (command : KnownCommand) → HaveLines (pairs_of (fields command))
fields_lines command = values_checked (pairs_of (fields command)) (fields_plain command)

-- pairs after pairs
more_lines : (pairs more : List (Frame × Frame)) → HaveLines (pairs_of pairs) → HaveLines (pairs_of more) → HaveLines (pairs_of (pairs ++ more))
more_lines [] more h k = k
more_lines (pair ∷ pairs) more h k = (h.0, (h.1.0, more_lines pairs more h.1.1 k))

description_lines : (command : KnownCommand) (more : List (Frame × Frame)) → HaveLines (pairs_of more) → HasLines (description command more)
description_lines command more h = more_lines (fields command) more (fields_lines command) h

sub_description_lines : (subs : List KnownCommand) → HaveLines (pairs_of (sub_descriptions subs))
sub_description_lines [] = tt
sub_description_lines (sub ∷ subs) = (tt, (description_lines sub [] tt, sub_description_lines subs))

with_lines : (command : KnownCommand) (subs : List KnownCommand) → HasLines (described_with command subs)
with_lines command [] = description_lines command [] tt
with_lines command (sub ∷ subs) = description_lines command _ (tt, (sub_description_lines (sub ∷ subs), tt))

described_lines : (commands : List KnownCommand) → HaveLines (pairs_of (described commands))
described_lines [] = tt
described_lines (next ∷ commands) = (tt, (with_lines next (subs_of next), described_lines commands))

pub docs_lines : (words : List (List ℕ)) → HasLines (command_docs words)
docs_lines [] = described_lines families
docs_lines (word ∷ words) = described_lines (found_by (word ∷ words))

-- ---- names

one_frame : (test : Bool) (one two : Frame) → HasLines one → HasLines two → HasLines (elim test as (λ _. Frame) [ true ↦ one | false ↦ two ])
one_frame true one two h k = h
one_frame false one two h k = k

syntax_lines : HasLines syntax_error
syntax_lines = checked (codes "ERR syntax error") refl

filtered_lines : (filter word : List ℕ) → HasLines (filtered_by filter word)
filtered_lines filter word =
    one_frame (is_called (codes "module") filter) _ _ tt
    (one_frame (is_called (codes "aclcat") filter) _ _ (names_lines (names_of (in_category word all_commands)))
    (one_frame (is_called (codes "pattern") filter) _ _ (names_lines (names_of (matching (lower word) all_commands))) syntax_lines))

pub list_of_lines : (words : List (List ℕ)) → HasLines (command_list words)
list_of_lines [] = names_lines (names_of all_commands)
list_of_lines (option ∷ []) = syntax_lines
list_of_lines (option ∷ filter ∷ []) = syntax_lines
list_of_lines (option ∷ filter ∷ word ∷ []) = one_frame (is_called (codes "filterby") option) _ _ (filtered_lines filter word) syntax_lines
list_of_lines (option ∷ filter ∷ word ∷ next ∷ words) = syntax_lines
