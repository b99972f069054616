use Rattle.std.proofs.Common.{arith}
use Rattle.resp2.proofs.AddedWords.{word_added, words_added}
use Rattle.resp2.proofs.words.push_words.Goals as goal

pub loop-word-preserved : goal.loop-word-preserved
loop-word-preserved g c =
    word_added _ _ _ _ c.args.words.now c.loop-word.word-index c.loop-word-test.true c.loop-word.invariant c.in_ok-push_bulk.ensures.added

pub returns-clause-ok : goal.returns-clause-ok
returns-clause-ok g c =
    words_added _ _ c.args.words.now c.loop-word.word-index (omega (arith, c.loop-word-test.false)) c.loop-word.invariant
