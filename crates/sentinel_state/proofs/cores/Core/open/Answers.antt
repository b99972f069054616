use Rattle.std.proofs.Common.{◌≡◌, ◌≤◌, length, vec_len, arith}
use Rattle.ballot_law.specs.declared.rosters.TheConstants.{SENTINELS_MAX}
use Rattle.sentinel_state.proofs.cores.Core.open.Goals as goal

pub invariant_of-result : goal.invariant_of-result
invariant_of-result c =
    let peers = c.in_ok-vec.field-0 in
    let count : vec_len peers ≡ length peers.items = omega (arith, peers.ok, peers.small) in
    let made : vec_len peers ≡ c.group_size.result = c.in_ok-vec.ensures.len in
    let few : c.group_size.result ≤ SENTINELS_MAX = c.group_size.ensures.few in
    (c.in_ok-masters.ensures.few, (omega arith, c.in_ok-kept.ensures.few))
