-- What a line says is in range.
use Rattle.std.proofs.Common.{◌≡◌, ℕ, ◌+◌, ◌-◌, ◌*◌, ◌^◌, ◌≤◌, ◌<◌, Bool, true, false, ◌&&◌, eqb, ltb, leb, List, [], ◌∷◌, length, take, drop, refl, ap, sym, ◌∙◌, subst, arith, Option, Some, None, length-take-le, length-drop}
use Rattle.std.specs.Prelude.{codes, decimal, bytes_eq}
use Rattle.std.specs.List.{list_all, AllByRecursion}
use Rattle.std.proofs.lemmas.Bool.{and_parts}
use Rattle.std.proofs.lemmas.Bool.Decides.{nat_tests}
use Rattle.std.proofs.lemmas.List.Folds.{list_all-append}
use Rattle.std.proofs.lemmas.List.{take-append-drop}
use Rattle.ballot_law.specs.declared.names.TheConstants.{NAME_MAX}
use Rattle.ballot_law.specs.declared.addresses.Addr.{Addr}
use Rattle.ballot_law.specs.declared.addresses.RunId.{RunId}
use Rattle.ballot_law.specs.Orders.{same_bytes}
use Rattle.conf_lines.specs.declared.faults.ConfKind.{ConfKind}
use Rattle.conf_lines.specs.declared.faults.ConfKind.TheVariants.{BadNumber, BadAddress, BadName, BadRunId}
use Rattle.conf_lines.specs.declared.lines.StateLine.TheVariants.{MyId, CurrentEpoch, Monitor, ConfigEpoch, LeaderEpoch, LeaderId, KnownReplica, KnownSentinel}
use Rattle.conf_lines.specs.declared.lines.Setting.{Setting}
use Rattle.conf_lines.specs.declared.lines.Setting.TheVariants.{Port, AnnounceIp, AnnouncePort, DownAfter, ParallelSyncs, FailoverTimeout}
use Rattle.conf_lines.specs.declared.lines.Line.{Line}
use Rattle.conf_lines.specs.declared.lines.Line.TheVariants as line
use Rattle.conf_lines.specs.Words.{words_of}
use Rattle.ballot_law.specs.Words.{some_if, then_some, number_within, is_name_byte, name, parts, ip_part, ip_of_parts, ip, port, address, is_hex, hex_on, run_id, lower}
use Rattle.ballot_law.proofs.WordLemmas.{some_if-is, then_some-is, number_within-is, hex_on-small}
use Rattle.conf_lines.specs.Lines.{given_or, epoch, count, my_id_line, current_line, monitor_line, config_line, leader_line, leader_id_line, replica_line, sentinel_line, port_line, announce_ip_line, announce_port_line, down_after_line, parallel_syncs_line, timeout_line, first_named, sentinel_directives, sentinel_words, line_of_words, line_of}
use Rattle.ballot_law.specs.declared.cards.TheConstants.{MAX_EPOCH}
use Rattle.conf_lines.proofs.StateLemmas.{IsAddr, IsId, IsName, IsState}

-- what is read of one word
named : (w n : List ℕ) → name w ≡ Some n → IsName n
named w n h =
    let k = some_if-is (ltb 0 (length w) && (leb (length w) NAME_MAX && list_all is_name_byte w)) w n h in
    subst (λ t. name t ≡ Some t) k.1 (ap (λ t. some_if t w) k.0)

part_within : (w : List ℕ) (n : ℕ) → ip_part w ≡ Some n → n ≤ 255
part_within w n h =
    let g = then_some-is (number_within 0 255 w) (λ n. some_if (same_bytes w (decimal n)) n) n h in
    let e : g.0 ≡ n = (some_if-is (same_bytes w (decimal g.0)) g.0 n g.2).1 in
    let l : g.0 ≤ 255 = (number_within-is 0 255 w g.0 g.1).1 in omega arith

ip_within : (ws : List (List ℕ)) (n : ℕ) → ip_of_parts ws ≡ Some n → n < 2 ^ 32
ip_within (a ∷ b ∷ c ∷ d ∷ []) n h =
    let g = then_some-is (ip_part a) (λ a. then_some (ip_part b) (λ b. then_some (ip_part c) (λ c. then_some (ip_part d) (λ d. Some (((a * 256 + b) * 256 + c) * 256 + d))))) n h in
    let i = then_some-is (ip_part b) (λ b. then_some (ip_part c) (λ c. then_some (ip_part d) (λ d. Some (((g.0 * 256 + b) * 256 + c) * 256 + d)))) n g.2 in
    let j = then_some-is (ip_part c) (λ c. then_some (ip_part d) (λ d. Some (((g.0 * 256 + i.0) * 256 + c) * 256 + d))) n i.2 in
    let k = then_some-is (ip_part d) (λ d. Some (((g.0 * 256 + i.0) * 256 + j.0) * 256 + d)) n j.2 in
    let pa : g.0 ≤ 255 = part_within a g.0 g.1 in
    let pb : i.0 ≤ 255 = part_within b i.0 i.1 in
    let pc : j.0 ≤ 255 = part_within c j.0 j.1 in
    let pd : k.0 ≤ 255 = part_within d k.0 k.1 in
    let last = k.2 in
    let e : ((g.0 * 256 + i.0) * 256 + j.0) * 256 + k.0 ≡ n = cc in
    omega arith
ip_within _ n h = cc

addressed : (i p : List ℕ) (a : Addr) → address i p ≡ Some a → IsAddr a
addressed i p a h =
    let g = then_some-is (ip i) (λ i. then_some (port p) (λ p. Some (record { ip = i; port = p }))) a h in
    let k = then_some-is (port p) (λ p. let r : Option Addr = Some (record { ip = g.0; port = p }) in r) a g.2 in
    let last = k.2 in
    let ports = number_within-is 1 65535 p k.0 k.1 in
    let made : Addr = record { ip = g.0; port = k.0 } in
    let e : made ≡ a = cc in
    subst IsAddr e (record { ip = ip_within (parts i) g.0 g.1; low = ports.0; high = ports.1 })

identified : (w : List ℕ) (id : RunId) → run_id w ≡ Some id → IsId id
identified w id h =
    let made : RunId = record { hi = hex_on 0 (take 32 w); lo = hex_on 0 (drop 32 w) } in
    let k = some_if-is (eqb (length w) 40 && list_all is_hex w) made id h in
    let both = and_parts (eqb (length w) 40) (list_all is_hex w) k.0 in
    let len : length w ≡ 40 = grind (arith, nat_tests, both.0) in
    let parts = and_parts (list_all is_hex (take 32 w)) (list_all is_hex (drop 32 w))
    (sym (list_all-append is_hex (take 32 w) (drop 32 w)) ∙ ap (list_all is_hex) (take-append-drop 32 w) ∙ both.1) in
    subst IsId k.1 (record {
      hi = hex_on-small 32 (take 32 w) (length-take-le 32 w (omega arith)) parts.0;
      lo = hex_on-small 8 (drop 32 w) (omega (arith, length-drop 32 w)) parts.1;
    })

-- what a setting line can say
abbrev pub IsSetting : Setting → Type 0
IsSetting (Port port) = (1 ≤ port) × (port ≤ 65535)
IsSetting (AnnounceIp ip) = ip < 2 ^ 32
IsSetting (AnnouncePort port) = (1 ≤ port) × (port ≤ 65535)
IsSetting _ = Unit {0}

abbrev pub IsLine : Line → Type 0
IsLine (line.State state) = IsState state
IsLine (line.Setting setting) = IsSetting setting
IsLine line.Kept = Unit {0}
IsLine (line.Faulty kind) = Unit {0}

given_or_is : {X : Type 0} (kind : ConfKind) (o : Option X) (f : X → Line) → ((x : X) → o ≡ Some x → IsLine (f x)) → IsLine (given_or kind o f)
given_or_is kind None f h = tt
given_or_is kind (Some x) f h = h x refl

my_id_is : (ws : List (List ℕ)) → IsLine (my_id_line ws)
my_id_is (i ∷ []) = given_or_is BadRunId (run_id i) (λ id. line.State (MyId id)) (λ id e. identified i id e)
my_id_is _ = tt

current_is : (ws : List (List ℕ)) → IsLine (current_line ws)
current_is (w ∷ []) = given_or_is BadNumber (epoch w) (λ e. line.State (CurrentEpoch e)) (λ e f. (number_within-is 0 MAX_EPOCH w e f).1)
current_is _ = tt

monitor_is : (ws : List (List ℕ)) → IsLine (monitor_line ws)
monitor_is (n ∷ i ∷ p ∷ q ∷ []) =
    given_or_is BadName (name n) (λ name. given_or BadAddress (address i p) (λ addr. given_or BadNumber (count q) (λ quorum. line.State (Monitor name addr quorum)))) (λ m e.
    given_or_is BadAddress (address i p) (λ addr. given_or BadNumber (count q) (λ quorum. line.State (Monitor m addr quorum))) (λ a f.
    given_or_is BadNumber (count q) (λ quorum. line.State (Monitor m a quorum)) (λ r g. (named n m e, addressed i p a f, (number_within-is 0 4294967295 q r g).1))))
monitor_is _ = tt

config_is : (ws : List (List ℕ)) → IsLine (config_line ws)
config_is (n ∷ w ∷ []) =
    given_or_is BadName (name n) (λ name. given_or BadNumber (epoch w) (λ epoch. line.State (ConfigEpoch name epoch))) (λ m e.
    given_or_is BadNumber (epoch w) (λ epoch. line.State (ConfigEpoch m epoch)) (λ d f. (named n m e, (number_within-is 0 MAX_EPOCH w d f).1)))
config_is _ = tt

leader_is : (ws : List (List ℕ)) → IsLine (leader_line ws)
leader_is (n ∷ w ∷ []) =
    given_or_is BadName (name n) (λ name. given_or BadNumber (epoch w) (λ epoch. line.State (LeaderEpoch name epoch))) (λ m e.
    given_or_is BadNumber (epoch w) (λ epoch. line.State (LeaderEpoch m epoch)) (λ d f. (named n m e, (number_within-is 0 MAX_EPOCH w d f).1)))
leader_is _ = tt

leader_id_is : (ws : List (List ℕ)) → IsLine (leader_id_line ws)
leader_id_is (n ∷ r ∷ []) =
    given_or_is BadName (name n) (λ name. given_or BadRunId (run_id r) (λ id. line.State (LeaderId name id))) (λ m e.
    given_or_is BadRunId (run_id r) (λ id. line.State (LeaderId m id)) (λ id f. (named n m e, identified r id f)))
leader_id_is _ = tt

replica_is : (ws : List (List ℕ)) → IsLine (replica_line ws)
replica_is (n ∷ i ∷ p ∷ []) =
    given_or_is BadName (name n) (λ name. given_or BadAddress (address i p) (λ addr. line.State (KnownReplica name addr))) (λ m e.
    given_or_is BadAddress (address i p) (λ addr. line.State (KnownReplica m addr)) (λ a f. (named n m e, addressed i p a f)))
replica_is _ = tt

sentinel_is : (ws : List (List ℕ)) → IsLine (sentinel_line ws)
sentinel_is (n ∷ i ∷ p ∷ r ∷ []) =
    given_or_is BadName (name n) (λ name. given_or BadAddress (address i p) (λ addr. given_or BadRunId (run_id r) (λ id. line.State (KnownSentinel name addr id)))) (λ m e.
    given_or_is BadAddress (address i p) (λ addr. given_or BadRunId (run_id r) (λ id. line.State (KnownSentinel m addr id))) (λ a f.
    given_or_is BadRunId (run_id r) (λ id. line.State (KnownSentinel m a id)) (λ id g. (named n m e, addressed i p a f, identified r id g))))
sentinel_is _ = tt

port_is : (ws : List (List ℕ)) → IsLine (port_line ws)
port_is (p ∷ []) = given_or_is BadNumber (port p) (λ port. line.Setting (Port port)) (λ n e. number_within-is 1 65535 p n e)
port_is _ = tt

announce_ip_is : (ws : List (List ℕ)) → IsLine (announce_ip_line ws)
announce_ip_is (i ∷ []) = given_or_is BadAddress (ip i) (λ ip. line.Setting (AnnounceIp ip)) (λ n e. ip_within (parts i) n e)
announce_ip_is _ = tt

announce_port_is : (ws : List (List ℕ)) → IsLine (announce_port_line ws)
announce_port_is (p ∷ []) = given_or_is BadNumber (port p) (λ port. line.Setting (AnnouncePort port)) (λ n e. number_within-is 1 65535 p n e)
announce_port_is _ = tt

down_after_is : (ws : List (List ℕ)) → IsLine (down_after_line ws)
down_after_is (n ∷ m ∷ []) =
    given_or_is BadName (name n) (λ name. given_or BadNumber (number_within 1 4294967295 m) (λ ms. line.Setting (DownAfter name ms))) (λ k e.
    given_or_is BadNumber (number_within 1 4294967295 m) (λ ms. line.Setting (DownAfter k ms)) (λ x f. tt))
down_after_is _ = tt

parallel_syncs_is : (ws : List (List ℕ)) → IsLine (parallel_syncs_line ws)
parallel_syncs_is (n ∷ m ∷ []) =
    given_or_is BadName (name n) (λ name. given_or BadNumber (count m) (λ c. line.Setting (ParallelSyncs name c))) (λ k e.
    given_or_is BadNumber (count m) (λ c. line.Setting (ParallelSyncs k c)) (λ x f. tt))
parallel_syncs_is _ = tt

timeout_is : (ws : List (List ℕ)) → IsLine (timeout_line ws)
timeout_is (n ∷ m ∷ []) =
    given_or_is BadName (name n) (λ name. given_or BadNumber (number_within 1 4294967295 m) (λ ms. line.Setting (FailoverTimeout name ms))) (λ k e.
    given_or_is BadNumber (number_within 1 4294967295 m) (λ ms. line.Setting (FailoverTimeout k ms)) (λ x f. tt))
timeout_is _ = tt

chosen_is : (t : Bool) (l m : Line) → IsLine l → IsLine m → IsLine (elim t as (λ _. Line) [ true ↦ l | false ↦ m ])
chosen_is true l m h g = h
chosen_is false l m h g = g

first_is_line : (word : List ℕ) (ds : List (List ℕ × (List (List ℕ) → Line))) (args : List (List ℕ)) → AllByRecursion (λ d. IsLine (d.1 args)) ds →
    IsLine (first_named word ds args)
first_is_line word [] args h = tt
first_is_line word (d ∷ ds) args h = chosen_is (bytes_eq (lower word) d.0) (d.1 args) (first_named word ds args) h.0 (first_is_line word ds args h.1)

sentinel_words_is : (ws : List (List ℕ)) → IsLine (sentinel_words ws)
sentinel_words_is [] = tt
sentinel_words_is (word ∷ args) =
    first_is_line word sentinel_directives args (
      my_id_is args,
      (
        current_is args,
        (
          monitor_is args,
          (
            config_is args,
            (
              leader_is args,
              (
                leader_id_is args,
                (
                  replica_is args,
                  (
                    replica_is args,
                    (
                      sentinel_is args,
                      (announce_ip_is args, (announce_port_is args, (down_after_is args, (parallel_syncs_is args, (timeout_is args, tt))))),
                    ),
                  ),
                ),
              ),
            ),
          ),
        ),
      ),
    )

words_is : (ws : List (List ℕ)) → IsLine (line_of_words ws)
words_is [] = tt
words_is (word ∷ args) = first_is_line word ((codes "sentinel", sentinel_words) ∷ (codes "port", port_line) ∷ []) args (sentinel_words_is args, (port_is args, tt))

pub line_of_is : (text : List ℕ) → IsLine (line_of text)
line_of_is text = words_is (words_of text)
