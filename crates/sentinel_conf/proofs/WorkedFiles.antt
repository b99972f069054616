-- Worked files, evaluated by the definitions.
use Rattle.std.proofs.Common.{◌≡◌, ℕ, List, [], ◌∷◌, ◌++◌, refl, subst, arith, Option, Some, None, Result, Ok, Err}
use Rattle.std.specs.Prelude.{codes, Bool, true, false, not, nat_lt, length}
use Rattle.std.specs.Str.{is_utf8}
use Rattle.std.specs.Fmt.{digits}
use Rattle.std.specs.Bool.{⊤}
use Rattle.conf_lines.specs.declared.faults.ConfKind.{ConfKind}
use Rattle.conf_lines.specs.declared.faults.ConfKind.TheVariants.{TooLong, NotUtf8, BadAddress, BadNumber, BadRunId, UnknownMaster, Twice, NoMyId, BadDirective}
use Rattle.conf_lines.specs.declared.faults.ConfFault.{ConfFault}
use Rattle.ballot_law.specs.Words.{hex}
use Rattle.ballot_law.specs.Cuts.{lines}
use Rattle.conf_lines.specs.Words.{words_of}
use Rattle.sentinel_conf.specs.Meaning.{ConfPlan}
use Rattle.ballot_law.specs.declared.cards.Kept.{Kept}
use Rattle.sentinel_conf.specs.Rewritten.{rewritten, IsKeptPart}
use Rattle.ballot_law.specs.Results.{◌>>=◌}
use Rattle.sentinel_conf.specs.Reading.{FILE_MAX, guard, conf_of_lines, conf_of_bytes}
use Rattle.conf_lines.specs.Faults.{fault_at}

abbrev pub file : List ℕ
file = codes "# group one\nport 26379\nbind 127.0.0.1\nsentinel monitor mymaster 127.0.0.1 6379 2\nsentinel auth-pass mymaster secret\nsentinel down-after-milliseconds mymaster 5000\nsentinel known-replica mymaster 127.0.0.1 6381\nsentinel known-replica mymaster 127.0.0.1 6380\nsentinel known-sentinel mymaster 127.0.0.1 26380 bbbbbbbbbbbbbbbbbbbbbbbbbbbbbbbbbbbbbbbb\nsentinel myid aaaaaaaaaaaaaaaaaaaaaaaaaaaaaaaaaaaaaaaa"

abbrev short_file : List ℕ
short_file = codes
    "# group one\nport 26379\nbind 127.0.0.1\nsentinel monitor mymaster 127.0.0.1 6379 2\nsentinel auth-pass mymaster secret\nsentinel down-after-milliseconds mymaster 5000\nsentinel known-replica mymaster 127.0.0.1 6381\nsentinel known-replica mymaster 127.0.0.1 6380\nsentinel known-sentinel mymaster 127.0.0.1 26380 bbbbbbbbbbbbbbbbbbbbbbbbbbbbbbbbbbbbbbbb"

abbrev pub kept : Kept
kept = record {
  current = 3;
  masters = (record { card = record { epoch = 2; addr = record { ip = 2130706433; port = 6380 } }; voted = 3; candidate = None }) ∷ [];
}

-- the same with the candidate of the vote
abbrev pub kept_candidate : Kept
kept_candidate = record {
  current = 3;
  masters =
      (record {
        card = record { epoch = 2; addr = record { ip = 2130706433; port = 6380 } };
        voted = 3;
        candidate = Some (record { hi = 249540402408688206539808045449963355067; lo = 3149642683 });
      })
      ∷ [];
}

abbrev text_of : Kept → Result ConfPlan ConfFault → List ℕ
text_of part (Ok conf) = rewritten conf part
text_of part (Err fault) = []

abbrev kept_of : Result ConfPlan ConfFault → Option Kept
kept_of (Ok conf) = Some conf.kept
kept_of (Err fault) = None

abbrev fault_of : Result ConfPlan ConfFault → Option ConfFault
fault_of (Ok conf) = None
fault_of (Err fault) = Some fault

quoted_words : words_of (codes "\ta  \"b c\"d e\"f \"\"  ") ≡ codes "a" ∷ codes "b c" ∷ codes "d" ∷ codes "e\"f" ∷ [] ∷ []
quoted_words = refl

open_quote : words_of (codes "a \"b c  ") ≡ codes "a" ∷ codes "b c" ∷ []
open_quote = refl

three_lines : lines (codes "\na\nb") ≡ [] ∷ codes "a" ∷ codes "b" ∷ []
three_lines = refl

rewritten_file : text_of kept (conf_of_lines (lines file)) ≡ codes
    "# group one\nport 26379\nbind 127.0.0.1\nsentinel auth-pass mymaster secret\nsentinel down-after-milliseconds mymaster 5000\nsentinel myid aaaaaaaaaaaaaaaaaaaaaaaaaaaaaaaaaaaaaaaa\nsentinel current-epoch 3\nsentinel monitor mymaster 127.0.0.1 6380 2\nsentinel config-epoch mymaster 2\nsentinel leader-epoch mymaster 3\nsentinel known-replica mymaster 127.0.0.1 6379\nsentinel known-replica mymaster 127.0.0.1 6381\nsentinel known-sentinel mymaster 127.0.0.1 26380 bbbbbbbbbbbbbbbbbbbbbbbbbbbbbbbbbbbbbbbb\n"
unfolding digits hex
rewritten_file = refl

rewritten_with_candidate : text_of kept_candidate (conf_of_lines (lines file)) ≡ codes
    "# group one\nport 26379\nbind 127.0.0.1\nsentinel auth-pass mymaster secret\nsentinel down-after-milliseconds mymaster 5000\nsentinel myid aaaaaaaaaaaaaaaaaaaaaaaaaaaaaaaaaaaaaaaa\nsentinel current-epoch 3\nsentinel monitor mymaster 127.0.0.1 6380 2\nsentinel config-epoch mymaster 2\nsentinel leader-epoch mymaster 3\nsentinel leader-id mymaster bbbbbbbbbbbbbbbbbbbbbbbbbbbbbbbbbbbbbbbb\nsentinel known-replica mymaster 127.0.0.1 6379\nsentinel known-replica mymaster 127.0.0.1 6381\nsentinel known-sentinel mymaster 127.0.0.1 26380 bbbbbbbbbbbbbbbbbbbbbbbbbbbbbbbbbbbbbbbb\n"
unfolding digits hex
rewritten_with_candidate = refl

candidate_again : kept_of
    (conf_of_lines
    (lines (codes
    "# group one\nport 26379\nbind 127.0.0.1\nsentinel auth-pass mymaster secret\nsentinel down-after-milliseconds mymaster 5000\nsentinel myid aaaaaaaaaaaaaaaaaaaaaaaaaaaaaaaaaaaaaaaa\nsentinel current-epoch 3\nsentinel monitor mymaster 127.0.0.1 6380 2\nsentinel config-epoch mymaster 2\nsentinel leader-epoch mymaster 3\nsentinel leader-id mymaster bbbbbbbbbbbbbbbbbbbbbbbbbbbbbbbbbbbbbbbb\nsentinel known-replica mymaster 127.0.0.1 6379\nsentinel known-replica mymaster 127.0.0.1 6381\nsentinel known-sentinel mymaster 127.0.0.1 26380 bbbbbbbbbbbbbbbbbbbbbbbbbbbbbbbbbbbbbbbb\n"))) ≡ Some kept_candidate
unfolding digits hex
candidate_again = refl

-- at voted epoch 0 the line has no effect
no_candidate : kept_of (conf_of_lines (lines (file ++ codes "\nsentinel leader-id mymaster bbbbbbbbbbbbbbbbbbbbbbbbbbbbbbbbbbbbbbbb"))) ≡ kept_of (conf_of_lines (lines file))
unfolding digits hex
no_candidate = refl

bad_candidate : fault_of (conf_of_lines (lines (file ++ codes "\nsentinel leader-id mymaster xyz"))) ≡ Some (fault_at 11 BadRunId)
unfolding digits hex
bad_candidate = refl

unknown_candidate : fault_of (conf_of_lines (lines (file ++ codes "\nsentinel leader-id other aaaaaaaaaaaaaaaaaaaaaaaaaaaaaaaaaaaaaaaa"))) ≡ Some (fault_at 11 UnknownMaster)
unfolding digits hex
unknown_candidate = refl

candidate_twice : fault_of (conf_of_lines (lines (file ++ codes
    "\nsentinel leader-id mymaster bbbbbbbbbbbbbbbbbbbbbbbbbbbbbbbbbbbbbbbb\nsentinel leader-id mymaster bbbbbbbbbbbbbbbbbbbbbbbbbbbbbbbbbbbbbbbb"))) ≡ Some (fault_at 12 Twice)
unfolding digits hex
candidate_twice = refl

line_twice : fault_of (conf_of_lines (lines (file ++ codes "\nsentinel monitor mymaster 127.0.0.1 6379 2"))) ≡ Some (fault_at 11 Twice)
unfolding digits hex
line_twice = refl

no_my_id : fault_of (conf_of_lines (lines short_file)) ≡ Some (fault_at 0 NoMyId)
unfolding digits hex
no_my_id = refl

bad_address : fault_of (conf_of_lines (lines (codes "sentinel monitor mymaster localhost 6379 2"))) ≡ Some (fault_at 1 BadAddress)
unfolding digits hex
bad_address = refl

bad_epoch : fault_of (conf_of_lines (lines (codes "sentinel current-epoch 281474976710656"))) ≡ Some (fault_at 1 BadNumber)
unfolding digits hex
bad_epoch = refl

unknown_master : fault_of (conf_of_lines (lines (file ++ codes "\nsentinel config-epoch other 3"))) ≡ Some (fault_at 11 UnknownMaster)
unfolding digits hex
unknown_master = refl

-- an earlier kind of fault on a later line waits for the faults of the lines before
first_line_first : fault_of (conf_of_lines (lines (codes "sentinel config-epoch other x\nport"))) ≡ Some (fault_at 1 BadNumber)
unfolding digits hex
first_line_first = refl

-- a bad directive is found before an unknown master of an earlier line
unknown_last : fault_of (conf_of_lines (lines (codes "sentinel config-epoch other 3\nport"))) ≡ Some (fault_at 2 BadDirective)
unfolding digits hex
unknown_last = refl

-- the part that the file above keeps after a failover is one of its masters
abbrev IsPartOf : Kept → Result ConfPlan ConfFault → Type 0
IsPartOf part (Ok conf) = IsKeptPart conf part
IsPartOf part (Err fault) = ⊤

part_of_file : IsPartOf kept (conf_of_lines (lines file))
unfolding digits hex
part_of_file = record { current = omega arith; masters = (record { addr = (1, omega arith, refl); epoch = omega arith; voted = omega arith; candidate = λ e. refl }, tt) }

candidate_of_file : IsPartOf kept_candidate (conf_of_lines (lines file))
unfolding digits hex
candidate_of_file = record { current = omega arith; masters = (record { addr = (1, omega arith, refl); epoch = omega arith; voted = omega arith; candidate = λ e. cc }, tt) }

guarded : (a b : Bool) (one other : ConfKind) (read : Result ConfPlan ConfFault) (conf : ConfPlan) → (guard a one >>= λ _. guard b other >>= λ _. read) ≡ Ok conf → read ≡ Ok conf
guarded true b one other read conf e = cc
guarded false true one other read conf e = cc
guarded false false one other read conf e = e

read_as : (conf : ConfPlan) → conf_of_bytes file ≡ Ok conf → conf_of_lines (lines file) ≡ Ok conf
read_as conf e = guarded (nat_lt FILE_MAX (length file)) (not (is_utf8 file)) TooLong NotUtf8 (conf_of_lines (lines file)) conf e

pub file_part : (conf : ConfPlan) → conf_of_bytes file ≡ Ok conf → IsKeptPart conf kept
file_part conf e = subst (IsPartOf kept) (read_as conf e) part_of_file

pub file_candidate : (conf : ConfPlan) → conf_of_bytes file ≡ Ok conf → IsKeptPart conf kept_candidate
file_candidate conf e = subst (IsPartOf kept_candidate) (read_as conf e) candidate_of_file
