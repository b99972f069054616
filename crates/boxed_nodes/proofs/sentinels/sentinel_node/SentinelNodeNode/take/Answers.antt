use Rattle.boxed_nodes.proofs.SentinelsLemmas.Few.{few_of}
use Rattle.boxed_nodes.proofs.SentinelsLemmas.Sending.{sendable_of}
use Rattle.boxed_nodes.proofs.SentinelsLemmas.SentinelMoves.{takes_of}
use Rattle.boxed_nodes.proofs.sentinels.sentinel_node.SentinelNodeNode.take.Goals as goal

pub returns-clause-takes : goal.returns-clause-takes
returns-clause-takes c =
    let e = c.take-took.ensures in
    takes_of c.take-took.result c.args.self.now.sentinel c.take-took.new.self c.args.self.now.file.text c.args.input.now.now c.args.input.now.event c.take-took.new.outbox.held
    c.is_whole-2.ensures e.ready e.core e.outputs e.changed e.unchanged e.phase e.plan e.stored e.steps

pub returns-clause-sendable : goal.returns-clause-sendable
returns-clause-sendable c =
    let e = c.take-took.ensures in
    sendable_of c.take-took.result c.args.self.now.sentinel c.take-took.new.self c.args.input.now.now c.args.input.now.event c.take-took.new.outbox.held
    c.law_outputs_are_within.ensures.outputs c.law_outputs_are_within.ensures.epochs c.is_whole.ensures c.is_whole-2.ensures c.requires e.core e.outputs e.plan

pub returns-clause-held : goal.returns-clause-held
returns-clause-held c =
    let e = c.take-took.ensures in
    few_of c.take-took.result c.args.self.now.sentinel.plan c.args.self.now.sentinel.core c.args.input.now.now c.args.input.now.event c.take-took.new.outbox.held
    c.is_whole.ensures.plan e.outputs

pub returns-clause-core : goal.returns-clause-core
returns-clause-core c = c.take-took.ensures.core

pub returns-clause-outputs : goal.returns-clause-outputs
returns-clause-outputs c = c.take-took.ensures.outputs
