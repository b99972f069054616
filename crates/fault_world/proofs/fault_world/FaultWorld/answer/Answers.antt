use Rattle.std.proofs.Common.{rules, refl}
use Rattle.fault_world.proofs.Answering.{answer_found, answer_none, answer_nothing, answer_other, card_inside, shows_none}
use Rattle.fault_world.proofs.fault_world.FaultWorld.answer.Goals as goal

pub returns-in_default : goal.returns-in_default
returns-in_default g c = record {
  ok = answer_other c.args.self.now.members.items c.args.master c.args.node c.args.self.now.roster c.args.self.now.messages.items
      c.args.report.now.entries c.reserve.new.self.entries c.in_default.not-SentinelAt (search rules) _ _;
  err = tt;
  entries = tt;
  roster = refl;
}

pub returns-in_default-place_of-clause-ok : goal.returns-in_default-place_of-clause-ok
returns-in_default-place_of-clause-ok g c = answer_none c.args.self.now.members.items c.in-SentinelAt.sentinel c.args.master c.args.node c.args.self.now.roster
    c.args.self.now.messages.items c.args.report.now.entries c.reserve.new.self.entries c.in-SentinelAt.is (search rules) _ _ c.in_default-place_of.ensures.none

pub tell_said-requires-clause-sentinel : goal.tell_said-requires-clause-sentinel
tell_said-requires-clause-sentinel g c =
    (card_inside c.args.self.now.members.items c.in-Some.k c.in-SentinelAt.sentinel c.args.master c.index.result.now c.in-Some-card.card c.args.self.now.roster
    c.args.self.now.messages.items (search rules) c.index.ensures _ _ c.requires c.in-Some.ensures.some c.in-Some-card.ensures).0

pub tell_said-requires-clause-master : goal.tell_said-requires-clause-master
tell_said-requires-clause-master g c =
    (card_inside c.args.self.now.members.items c.in-Some.k c.in-SentinelAt.sentinel c.args.master c.index.result.now c.in-Some-card.card c.args.self.now.roster
    c.args.self.now.messages.items (search rules) c.index.ensures _ _ c.requires c.in-Some.ensures.some c.in-Some-card.ensures).1

pub returns-in-Some-card-clause-ok : goal.returns-in-Some-card-clause-ok
returns-in-Some-card-clause-ok g c =
    answer_found c.args.self.now.members.items c.in-Some.k c.in-SentinelAt.sentinel c.args.master c.index.result.now c.args.node c.in-Some-card.card c.args.self.now.roster
    c.args.self.now.messages.items c.args.report.now.entries c.tell_said.new.report.entries (search rules) c.index.ensures c.in-SentinelAt.is (search rules) _ _
    c.in-Some.ensures.some c.in-Some-card.ensures

pub returns-in_default-card-clause-ok : goal.returns-in_default-card-clause-ok
returns-in_default-card-clause-ok g c =
    answer_nothing c.args.self.now.members.items c.in-Some.k c.in-SentinelAt.sentinel c.args.master c.index.result.now c.args.node c.args.self.now.roster
    c.args.self.now.messages.items c.args.report.now.entries c.reserve.new.self.entries (search rules) c.index.ensures c.in-SentinelAt.is (search rules) _ _
    c.in-Some.ensures.some (shows_none c.args.master c.card.result _ c.in_default-card.is c.card.ensures)
