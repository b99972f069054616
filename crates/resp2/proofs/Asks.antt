-- The frame of an ask is read as that command.
use Rattle.std.proofs.Common.{◌≡◌, ℕ, ◌≤◌, ◌<◌, ◌^◌, ◌/◌, ◌%◌, Bool, true, false, cond, List, [], ◌∷◌, ◌++◌, length, refl, ap, ◌∙◌, arith, length-append, Option, Some, None, Ok, decimal}
use Rattle.std.specs.Prelude.{bytes_eq, codes}
use Rattle.std.proofs.lemmas.Slice.Eq.{bytes_eq-Decides}
use Rattle.std.proofs.lemmas.Fmt.{length-decimal-le}
use Rattle.ballot_law.specs.declared.addresses.Addr.{Addr}
use Rattle.ballot_law.specs.declared.addresses.RunId.{RunId}
use Rattle.ballot_law.specs.declared.cards.TheConstants.{MAX_EPOCH}
use Rattle.ballot_law.specs.declared.commands.Command.TheVariants.{IsMasterDownByAddr}
use Rattle.ballot_law.specs.Hellos.{IsAddr}
use Rattle.ballot_law.specs.Results.{◌>>=◌, wanted}
use Rattle.ballot_law.specs.Words.{then_some, canonical_within, canonical_address, ip_text, id_text, run_id}
use Rattle.ballot_law.proofs.WordLemmas.{ip-ip_text, run_id-id_text, length-id_text}
use Rattle.resp2.specs.declared.command.CommandFault.TheVariants.{BadAddress, BadEpoch, BadRunId}
use Rattle.resp2.specs.Commands.{candidate, candidate_text, ask_frame, command_of, IsCandidate}
use Rattle.resp2.specs.Framing.Frame.{spelling, IsFrame}
use Rattle.resp2.specs.Framing.Reading.{frame_at}
use Rattle.resp2.proofs.AskFrames.{decimal_short, short_array}
use Rattle.resp2.proofs.Canonical.{canonical_decimal}
use Rattle.resp2.proofs.FramingLemmas.Window.{frame_again}

address_again : (addr : Addr) → IsAddr addr → canonical_address (ip_text addr.ip) (decimal addr.port) ≡ Some addr
address_again addr is =
    let high : addr.port ≤ 65535 = is.port_high in
    ap (λ (o : Option ℕ). then_some o (λ i. then_some (canonical_within 1 65535 (decimal addr.port)) (λ p. Some (record { ip = i; port = p })))) (ip-ip_text addr.ip is.ip)
    ∙ ap (λ (o : Option ℕ). then_some o (λ p. Some (record { ip = addr.ip; port = p }))) (canonical_decimal 1 65535 addr.port (omega arith) is.port_low high)

no_star : (word : List ℕ) → length word ≡ 40 → bytes_eq word (codes "*") ≡ false
no_star word len = at (bytes_eq word (codes "*")) refl
  where
    at : (v : Bool) → bytes_eq word (codes "*") ≡ v → v ≡ false
    at true e = let same : word ≡ codes "*" = (bytes_eq-Decides word (codes "*")).0 e in let one : length word ≡ 1 = ap length same in absurd (omega arith)
    at false e = refl

-- the word of a candidate is read as that candidate
pub candidate_again : (c : Option RunId) → IsCandidate c → candidate (candidate_text c) ≡ Some c
candidate_again None is = refl
candidate_again (Some id) is =
    ap (λ (b : Bool). cond b (Some None) (then_some (run_id (id_text id)) (λ i. Some (Some i)))) (no_star (id_text id) (length-id_text id))
    ∙ ap (λ (o : Option RunId). then_some o (λ i. Some (Some i))) (run_id-id_text id is.hi is.lo)

pub ask_again : (addr : Addr) (epoch : ℕ) (c : Option RunId) → IsAddr addr → epoch ≤ MAX_EPOCH → IsCandidate c →
    command_of (ask_frame addr epoch c) ≡ Ok (IsMasterDownByAddr addr epoch c)
ask_again addr epoch c is_addr most is_candidate =
    let read_epoch : canonical_within 0 MAX_EPOCH (decimal epoch) ≡ Some epoch = canonical_decimal 0 MAX_EPOCH epoch (omega arith) (omega arith) most in
    ap (λ (o : Option Addr). wanted BadAddress o >>= λ a. wanted BadEpoch (canonical_within 0 MAX_EPOCH (decimal epoch)) >>= λ e. wanted BadRunId (candidate (candidate_text c))
    >>= λ k. Ok (IsMasterDownByAddr a e k)) (address_again addr is_addr)
    ∙ ap (λ (o : Option ℕ). wanted BadEpoch o >>= λ e. wanted BadRunId (candidate (candidate_text c)) >>= λ k. Ok (IsMasterDownByAddr addr e k)) read_epoch
    ∙ ap (λ (o : Option (Option RunId)). wanted BadRunId o >>= λ k. Ok (IsMasterDownByAddr addr epoch k)) (candidate_again c is_candidate)

part_size : (n : ℕ) → n < 256 → length (decimal n) ≤ 3
part_size n h = length-decimal-le 3 n (omega arith) (omega arith) (omega arith)

-- an address without its port
pub ip_size : (n : ℕ) → n < 2 ^ 32 → length (ip_text n) ≤ 15
ip_size n h =
    let a = decimal (n / 256 / 256 / 256) in
    let b = decimal (n / 256 / 256 % 256) in
    let c = decimal (n / 256 % 256) in
    let d = decimal (n % 256) in
    omega (
      arith,
      length-append a (46 ∷ (b ++ 46 ∷ (c ++ 46 ∷ d))),
      length-append b (46 ∷ (c ++ 46 ∷ d)),
      length-append c (46 ∷ d),
      part_size (n / 256 / 256 / 256) (omega arith),
      part_size (n / 256 / 256 % 256) (omega arith),
      part_size (n / 256 % 256) (omega arith),
      part_size (n % 256) (omega arith),
    )

ip_word : (n : ℕ) → n < 2 ^ 32 → length (ip_text n) ≤ 100
ip_word n small = let le = ip_size n small in omega arith

decimal_word : (n : ℕ) → n < 2 ^ 64 → length (decimal n) ≤ 100
decimal_word n small = let le = decimal_short n small in omega arith

candidate_short : (c : Option RunId) → IsCandidate c → length (candidate_text c) ≤ 100
candidate_short None is = omega arith
candidate_short (Some id) is = let len = length-id_text id in omega arith

pub ask_is_frame : (addr : Addr) (epoch : ℕ) (c : Option RunId) → IsAddr addr → epoch ≤ MAX_EPOCH → IsCandidate c → IsFrame (ask_frame addr epoch c)
ask_is_frame addr epoch c is_addr most is_candidate =
    let port : addr.port ≤ 65535 = is_addr.port_high in
    short_array (codes "SENTINEL" ∷ codes "IS-MASTER-DOWN-BY-ADDR" ∷ ip_text addr.ip ∷ decimal addr.port ∷ decimal epoch ∷ candidate_text c ∷ [])
    (omega arith, (omega arith, (ip_word addr.ip is_addr.ip, (decimal_word addr.port (omega arith), (decimal_word epoch (omega arith), (candidate_short c is_candidate, tt))))))
    (omega arith)

pub ask_bytes_again : (addr : Addr) (epoch : ℕ) (c : Option RunId) (rest : List ℕ) → IsAddr addr → epoch ≤ MAX_EPOCH → IsCandidate c
    → frame_at (spelling (ask_frame addr epoch c) ++ rest) ≡ Ok (ask_frame addr epoch c, rest)
ask_bytes_again addr epoch c rest is_addr most is_candidate = frame_again (ask_frame addr epoch c) rest (ask_is_frame addr epoch c is_addr most is_candidate)
