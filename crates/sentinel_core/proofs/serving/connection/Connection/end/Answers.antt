use Rattle.std.proofs.Common.{refl}
use Rattle.sentinel_core.proofs.ServingLemmas.Steps.{ends_with_part}
use Rattle.sentinel_core.proofs.serving.connection.Connection.end.Goals as goal

pub returns-in_default : goal.returns-in_default
returns-in_default g c = record {
  clock = c.write_answers.ensures.clock;
  phase = refl;
  ended = λ plan now first before input written core stored b.
      ends_with_part plan now first before input written c.args.self.now.text core stored c.args.fault _ _ c.in_default.not-Frame b c.write_answers.ensures.part;
}
