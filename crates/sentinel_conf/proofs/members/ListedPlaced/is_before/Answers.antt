use Rattle.std.proofs.Common.{◌≡◌, Bool, true, false, ap, sym, ◌∙◌}
use Rattle.std.specs.Prelude.{◌||◌, ◌&&◌}
use Rattle.ballot_law.specs.declared.rosters.Member.{Member}
use Rattle.ballot_law.specs.Orders.{addr_before, id_before, same_id}
use Rattle.sentinel_conf.specs.Meaning.{member_before}
use Rattle.sentinel_conf.proofs.members.ListedPlaced.is_before.Goals as goal

-- of two Sentinels with one run id the addresses tell which stands first
by_addr : (one two : Member) (first : Bool) → id_before one.id two.id ≡ false → same_id one.id two.id ≡ true → first ≡ addr_before one.addr two.addr → first ≡ member_before one two
by_addr one two first not_before same is =
    let below = addr_before one.addr two.addr in
    is ∙ ap (λ t. t && below) (sym same) ∙ ap (λ t. t || (same_id one.id two.id && below)) (sym not_before)

pub returns-then-is_same : goal.returns-then-is_same
returns-then-is_same c =
    let one = c.self.inside.member in
    let two = c.other.inside.member in
    by_addr one two c.is_before-then-is_same.result (sym c.is_before.ensures ∙ c.if-is_before.false) (sym c.is_same.ensures ∙ c.if-is_same.true) c.is_before-then-is_same.ensures
    ∙ ap (λ m. member_before m two) c.self.view_is
    ∙ ap (member_before c.args.self.now) c.other.view_is
