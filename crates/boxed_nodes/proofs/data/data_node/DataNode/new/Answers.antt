use Rattle.std.proofs.Common.{◌≡◌, ◌<◌, ℕ, Bool, [], length, slice_index_or, Option, Some, None, refl, ap, sym, subst, ◌∙◌, arith}
use Rattle.std.specs.Prelude.{IfSome, if◌then◌else◌}
use Rattle.std.specs.Option.{option_map}
use Rattle.ballot_law.specs.declared.addresses.Addr.{Addr}
use Rattle.ballot_law.specs.declared.cards.Kept.{Kept}
use Rattle.ballot_law.specs.Ballots.{card_of, no_kept}
use Rattle.ballot_law.specs.Hellos.{IsAddr}
use Rattle.ballot_law.specs.Orders.{same_addr}
use Rattle.ballot_law.specs.Rosters.{Roster}
use Rattle.ballot_law.specs.Worlds.{Ready}
use Rattle.boxed_nodes.specs.Images.{OfOther}
use Rattle.boxed_nodes.specs.declared.turn.Turn.TheVariants as turn
use Rattle.sentinel_conf.specs.Meaning.{ConfPlan}
use Rattle.ballot_law.specs.declared.node_places.NodePlace.{NodePlace}
use Rattle.ballot_law.specs.NodePlaces.{node_numbered, addr_in}
use Rattle.sentinel_rules.proofs.KeptParts.{kept_long}
use Rattle.boxed_nodes.specs.Data.Nodes.{DataPlan, first_followed, fresh_node, node_of}
use Rattle.boxed_nodes.specs.Data.Servers.{Server, first_server}
use Rattle.boxed_nodes.proofs.DataLemmas.MasterAddrs.{card_addr}
use Rattle.boxed_nodes.proofs.data.data_node.DataNode.new.Goals as goal
use Rattle.boxed_nodes.proofs.data.data_node.DataNode.new.Goals.{then-is_same, else-is_same}

abbrev ready : (number : ℕ) → Addr → (sentinels : ℕ) → Server → DataPlan
ready number addr sentinels server = record { number = number; addr = addr; sentinels = sentinels; server = server; turn = turn.Ready }

-- a node that is ready is the one that stands at this place as it begins
begun : (conf : ConfPlan) (number : ℕ) (at : NodePlace) (addr : Addr) (sentinels : ℕ) (server : Server) → node_numbered conf.roster.masters 0 number ≡ Some at
    → addr ≡ addr_in conf.roster at → sentinels ≡ length conf.roster.sentinels →
    server ≡ first_server number (first_followed (addr_in conf.roster at) (card_of conf.kept at.master).addr)
    → Some (ready number addr sentinels server) ≡ node_of conf number
begun conf number at addr sentinels server stands own many first =
    ap (λ a. Some (ready number a sentinels server)) own
    ∙ ap (λ n. Some (ready number (addr_in conf.roster at) n server)) many
    ∙ ap (λ s. Some (ready number (addr_in conf.roster at) (length conf.roster.sentinels) s)) first
    ∙ ap (option_map (fresh_node conf number)) (sym stands)

-- whom a node follows at first goes by whether its address is that of its master's configuration
abbrev followed_if : Bool → Addr → Option Addr
followed_if is_master master = if is_master then None else Some master

followed : (is_master : Bool) (addr master : Addr) → is_master ≡ same_addr addr master → followed_if is_master master ≡ first_followed addr master
followed is_master addr master told = ap (λ t. followed_if t master) told

pub bounds-as_slice-at : goal.bounds-as_slice-at
bounds-as_slice-at c =
    let conf = c.args.conf.now in
    let long = kept_long conf conf.kept c.kept.ensures.part in
    let kept : length c.as_slice.result.now ≡ length conf.kept.masters = ap length (c.as_slice.ensures ∙ ap (λ (k : Kept). k.masters) c.kept.ensures.value) in
    let masters : length c.roster-roster.result.now.masters ≡ length conf.roster.masters = ap (λ (r : Roster). length r.masters) c.roster-roster.ensures.value in
    let known : c.in_ok-at.at.master < length c.roster-roster.result.now.masters = c.in_ok-at.ensures.known in
    omega arith

pub new-requires : goal.new-requires
new-requires c =
    let conf = c.args.conf.now in
    let masters : length c.roster-roster.result.now.masters ≡ length conf.roster.masters = ap (λ (r : Roster). length r.masters) c.roster-roster.ensures.value in
    let kept = c.as_slice.ensures ∙ ap (λ (k : Kept). k.masters) c.kept.ensures.value in
    let known : c.in_ok-at.at.master < length c.roster-roster.result.now.masters = c.in_ok-at.ensures.known in
    elim c.if-is_same.branch [
      | then-is_same w ↦ subst (λ f. IfSome f IsAddr) (sym w.follows-is) tt
      | else-is_same w ↦ subst (λ f. IfSome f IsAddr) (sym w.follows-is)
          (card_addr conf c.as_slice.result.now c.in_ok-at.at.master _ c.roster-roster.ensures.sound kept (omega arith))
    ]

pub returns-clause-fresh : goal.returns-clause-fresh
returns-clause-fresh c = record { each = λ roster known. (OfOther (record { state = Ready; held = [] }), refl, refl) }

pub returns-clause-node : goal.returns-clause-node
returns-clause-node c =
    let conf = c.args.conf.now in
    let number = c.args.number in
    let at = c.in_ok-at.at in
    let kept = c.as_slice.ensures ∙ ap (λ (k : Kept). k.masters) c.kept.ensures.value in
    let addr = c.addr_at-addr.result in
    let master = (slice_index_or c.as_slice.result.now at.master no_kept).card.addr in
    let own : addr ≡ addr_in conf.roster at = c.addr_at-addr.ensures ∙ ap (λ (r : Roster). addr_in r at) c.roster-roster.ensures.value in
    let card : master ≡ (card_of conf.kept at.master).addr = ap (λ ks. (slice_index_or ks at.master no_kept).card.addr) kept in
    let is_same = followed c.is_same.result addr master c.is_same.ensures in
    let follows : c.if-is_same.follows ≡ first_followed addr master
    = elim c.if-is_same.branch [
      | then-is_same w ↦ w.follows-is ∙ ap (λ t. followed_if t master) (sym w.if-is_same.true) ∙ is_same
      | else-is_same w ↦ w.follows-is ∙ ap (λ t. followed_if t master) (sym w.if-is_same.false) ∙ is_same
    ] in
    begun conf number at addr (length c.sentinels.result.now) c.new.result
    (ap (λ (r : Roster). node_numbered r.masters 0 number) (sym c.roster-roster.ensures.value) ∙ sym c.in_ok-at.ensures.value)
    own
    (ap length (c.sentinels.ensures ∙ ap (λ (r : Roster). r.sentinels) c.roster-roster.ensures.value))
    (c.new.ensures ∙ ap (first_server number) (follows ∙ ap (λ a. first_followed a master) own ∙ ap (first_followed (addr_in conf.roster at)) card))
