-- What is written as an answer to ROLE is read again: its bytes as a frame, and the frame as the role.
use Rattle.std.proofs.Common.{◌≡◌, ℕ, ◌+◌, ◌≤◌, ◌<◌, ◌^◌, ◌&&◌, leb, pos, List, [], ◌∷◌, ◌++◌, length, refl, ap, arith, length-append, Some, Ok}
use Rattle.std.specs.Prelude.{codes, decimal}
use Rattle.std.proofs.lemmas.Bool.{and_from, le-leb}
use Rattle.std.proofs.lemmas.Fmt.{length-decimal-le}
use Rattle.ballot_law.specs.declared.addresses.Addr.{Addr}
use Rattle.ballot_law.specs.declared.replies.Role.{Role}
use Rattle.ballot_law.specs.declared.replies.Role.TheVariants.{Master, Replica}
use Rattle.ballot_law.specs.Hellos.{IsAddr}
use Rattle.ballot_law.specs.Results.{◌>>=◌, wanted}
use Rattle.ballot_law.specs.Words.{some_if, ip_text}
use Rattle.ballot_law.proofs.WordLemmas.{ip-ip_text}
use Rattle.node_texts.specs.declared.faults.TextFault.TheVariants.{BadField}
use Rattle.node_texts.specs.declared.info_fields.TheConstants.{COUNT_MAX}
use Rattle.resp2.specs.Framing.Frame.{Frame, bulk, int, items, frames_of, spelling, line_end, IsFrame}
use Rattle.node_texts.specs.Roles.{IsRole, role_frame, role_of, role_of_list, list_of}

port_is : (n : ℕ) → 1 ≤ n → n ≤ 65535 → some_if (leb 1 n && leb n 65535) n ≡ Some n
port_is n l h = ap (λ t. some_if t n) (and_from (leb 1 n) (leb n 65535) (le-leb 1 n l) (le-leb n 65535 h))

pub role_again : (role : Role) → IsRole role → role_of (role_frame role) ≡ Ok role
role_again (Master offset) h = refl
role_again (Replica addr offset) h =
    let i = ip-ip_text addr.ip h.0.ip in
    let p = port_is addr.port h.0.port_low h.0.port_high in
    λ t. wanted (BadField 2) (i t) >>= λ i. wanted (BadField 3) (p t) >>= λ p. Ok (Replica (record { ip = i; port = p }) offset)

-- the elements of an array, as a list again
listed_again : (fs : List Frame) → list_of (frames_of fs) ≡ fs
listed_again [] = refl
listed_again (f ∷ fs) = ap (λ t. f ∷ t) (listed_again fs)

pub role_of_array : (fs : List Frame) → role_of (items (frames_of fs)) ≡ role_of_list fs
role_of_array fs = ap role_of_list (listed_again fs)

-- ---- how long a text is

bulk_length : (bytes : List ℕ) → length bytes < 2 ^ 64 → length (spelling (bulk bytes)) ≤ length bytes + 25
bulk_length bytes h =
    omega (
      arith,
      length-append (decimal (length bytes) ++ line_end) (bytes ++ line_end),
      length-append (decimal (length bytes)) line_end,
      length-append bytes line_end,
      length-decimal-le 20 (length bytes) (omega arith) (omega arith) h,
    )

int_length : (n : ℕ) → n < 2 ^ 64 → length (spelling (int (pos n))) ≤ 23
int_length n h = omega (arith, length-append (decimal n) line_end, length-decimal-le 20 n (omega arith) (omega arith) h)

header_length : (n : ℕ) → n < 2 ^ 64 → length (42 ∷ (decimal n ++ line_end)) ≤ 23
header_length n h = omega (arith, length-append (decimal n) line_end, length-decimal-le 20 n (omega arith) (omega arith) h)

-- two parts, one behind the other
both_length : (first second : List ℕ) (most more : ℕ) → length first ≤ most → length second ≤ more → length (first ++ second) ≤ most + more
both_length first second most more f s = omega (arith, length-append first second)

master_length : (offset : ℕ) → offset ≤ COUNT_MAX → length (spelling (role_frame (Master offset))) ≤ 100
master_length offset h =
    let kind : List ℕ = spelling (bulk (codes "master")) in
    let number : List ℕ = spelling (int (pos offset)) in
    let none : List ℕ = (42 ∷ (decimal 0 ++ line_end)) ++ [] in
    both_length (42 ∷ (decimal 3 ++ line_end)) (kind ++ (number ++ (none ++ []))) 23 77 (header_length 3 (omega arith))
    (both_length kind (number ++ (none ++ [])) 31 46 (bulk_length (codes "master") (omega arith))
    (both_length number (none ++ []) 23 23 (int_length offset (omega (arith, h)))
    (both_length none [] 23 0 (both_length (42 ∷ (decimal 0 ++ line_end)) [] 23 0 (header_length 0 (omega arith)) (omega arith)) (omega arith))))

replica_length : (addr : Addr) (offset : ℕ) → addr.port ≤ 65535 → offset ≤ COUNT_MAX → length (ip_text addr.ip) ≤ 15
    → length (spelling (role_frame (Replica addr offset))) ≤ 173
replica_length addr offset port h short =
    let kind : List ℕ = spelling (bulk (codes "slave")) in
    let host : List ℕ = spelling (bulk (ip_text addr.ip)) in
    let place : List ℕ = spelling (int (pos addr.port)) in
    let state : List ℕ = spelling (bulk (codes "connected")) in
    let number : List ℕ = spelling (int (pos offset)) in
    let host_length : length host ≤ 40 = omega (arith, short, bulk_length (ip_text addr.ip) (omega (arith, short))) in
    both_length (42 ∷ (decimal 5 ++ line_end)) (kind ++ (host ++ (place ++ (state ++ (number ++ []))))) 23 150 (header_length 5 (omega arith))
    (both_length kind (host ++ (place ++ (state ++ (number ++ [])))) 30 120 (bulk_length (codes "slave") (omega arith))
    (both_length host (place ++ (state ++ (number ++ []))) 40 80 host_length
    (both_length place (state ++ (number ++ [])) 23 57 (int_length addr.port (omega (arith, port)))
    (both_length state (number ++ []) 34 23 (bulk_length (codes "connected") (omega arith))
    (both_length number [] 23 0 (int_length offset (omega (arith, h))) (omega arith))))))

-- ---- each answer is a value that a stream may hold

master_is_frame : (offset : ℕ) → offset ≤ COUNT_MAX → IsFrame (role_frame (Master offset))
master_is_frame offset h = record {
  plain = (omega arith, (omega arith, (omega (arith, h), ((omega arith, tt), tt))));
  depth = omega arith;
  width = omega arith;
  size = omega (arith, master_length offset h);
}

replica_is_frame : (addr : Addr) (offset : ℕ) → IsAddr addr → offset ≤ COUNT_MAX → length (ip_text addr.ip) ≤ 15 → IsFrame (role_frame (Replica addr offset))
replica_is_frame addr offset a h short =
    let port : addr.port ≤ 65535 = a.port_high in
    record {
      plain = (omega arith, (omega arith, (omega (arith, short), (omega (arith, port), (omega arith, (omega (arith, h), tt))))));
      depth = omega arith;
      width = omega arith;
      size = omega (arith, replica_length addr offset port h short);
    }

pub master_whole : (role : Role) (offset : ℕ) → role ≡ Master offset → IsRole role → IsFrame (role_frame role)
master_whole role offset e h = rw e (master_is_frame offset (rw e at h))

pub replica_whole : (role : Role) (addr : Addr) (offset : ℕ) → role ≡ Replica addr offset → IsRole role → length (ip_text addr.ip) ≤ 15 → IsFrame (role_frame role)
replica_whole role addr offset e h short =
    let is : IsRole (Replica addr offset) = rw e at h in
    rw e (replica_is_frame addr offset is.0 is.1 short)
