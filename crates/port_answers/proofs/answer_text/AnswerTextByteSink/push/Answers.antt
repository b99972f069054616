use Rattle.std.proofs.Common.{◌++◌, length, ap, sym, ◌∙◌, arith}
use Rattle.bounded_list.proofs.Bounded.{bounded_again}
use Rattle.ballot_law.specs.declared.messages.TheConstants.{ANSWER_MAX}
use Rattle.port_answers.specs.Room.{bounded}
use Rattle.port_answers.proofs.Filling.{pushed_whole, pushed_part}
use Rattle.port_answers.proofs.answer_text.AnswerTextByteSink.push.Goals as goal

pub returns-clause-added : goal.returns-clause-added
returns-clause-added c =
    pushed_whole c.args.self.now c.add.new.self c.args.piece.now
    (omega (arith, c.if-piece-room.false, c.as_slice.ensures.few, ap length c.as_slice.ensures.value)) c.add.ensures

pub returns-clause-within : goal.returns-clause-within
returns-clause-within c =
    ap bounded c.add.ensures ∙ bounded_again ANSWER_MAX (c.args.self.now ++ c.args.piece.now) ∙ sym c.add.ensures

pub returns-then-piece-room-clause-added : goal.returns-then-piece-room-clause-added
returns-then-piece-room-clause-added c =
    pushed_part c.args.self.now c.add.new.self c.args.piece.now c.as_slice.ensures.few
    (omega (arith, c.if-piece-room.true, ap length c.as_slice.ensures.value)) c.add.ensures

pub returns-then-piece-room-clause-within : goal.returns-then-piece-room-clause-within
returns-then-piece-room-clause-within c =
    ap bounded c.add.ensures ∙ bounded_again ANSWER_MAX (c.args.self.now ++ c.args.piece.now) ∙ sym c.add.ensures
