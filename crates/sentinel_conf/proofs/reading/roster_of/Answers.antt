use Rattle.std.proofs.Common.{◌≡◌, None, map, ap, subst, ◌∙◌}
use Rattle.ballot_law.specs.Rosters.{Roster, ordered}
use Rattle.ballot_law.specs.RosterFaults.{fault_of}
use Rattle.sentinel_conf.specs.Meaning.{members_of, master_of, plan_of}
use Rattle.sentinel_conf.proofs.RosterAgain.{ordered_again}
use Rattle.sentinel_conf.proofs.reading.roster_of.Goals as goal

pub returns-in-Ok : goal.returns-in-Ok
returns-in-Ok c =
    let own = c.args.own in
    let states = c.args.states.now in
    let members = c.in_ok-members.members.items in
    let masters = c.in_ok-masters.masters.items in
    let given : (let p : Roster = record { sentinels = members; masters = masters } in p) ≡ plan_of own states =
    ap (λ t. let p : Roster = record { sentinels = t; masters = masters } in p) c.in_ok-members.ensures
    ∙ ap (λ t. let p : Roster = record { sentinels = members_of own states; masters = t } in p) (c.in_ok-masters.ensures ∙ ap (map (master_of states)) c.requires) in
    let fits : fault_of (plan_of own states) ≡ None = subst (λ p. fault_of p ≡ None) given c.in-Ok.ensures.made.0 in
    (fits, c.in-Ok.ensures.made.1 ∙ ap ordered given ∙ ordered_again own states fits)
