use Rattle.std.proofs.Common.{◌≡◌, ◌++◌, take, length}
use Rattle.resp2.proofs.AddedWords.{header, spelled}
use Rattle.resp2.proofs.words.push_words.Given as goal

-- the header and the words so far are added
abbrev pub invariant-loop-word : goal.invariant-loop-word
invariant-loop-word g l =
    g.S.ByteSink.bytes l.sink ≡ g.S.ByteSink.bytes l.fn.sink ++ (header (length l.words) ++ spelled (take l.word-index l.words))
