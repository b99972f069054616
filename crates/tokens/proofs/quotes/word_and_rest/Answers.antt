use Rattle.std.proofs.Common.{◌≡◌, length, rules}
use Rattle.tokens.proofs.QuoteLemmas.{one_byte, word_ends, word_breaks, text_ends, text_breaks, still_within, then_shorter}
use Rattle.tokens.proofs.quotes.word_and_rest.Goals as goal

pub loop-rest-preserved-in-Byte : goal.loop-rest-preserved-in-Byte
loop-rest-preserved-in-Byte c = record {
  words = one_byte _ _ _ c.loop-rest.word.items c.push.new.self.items c.in-Byte.byte c.loop-rest.invariant.words c.in-Byte.ensures.words c.in_ok-push-in-Byte.ensures.items;
  within = still_within _ _ _ c.in-Byte.ensures.shorter c.loop-rest.invariant.within;
}

pub returns-in-Ends-clause-words : goal.returns-in-Ends-clause-words
returns-in-Ends-clause-words c = word_ends _ _ _ c.loop-rest.word.items c.loop-rest.invariant.words c.in-Ends.ensures.words

pub returns-in-Ends-clause-shorter : goal.returns-in-Ends-clause-shorter
returns-in-Ends-clause-shorter c = then_shorter _ _ _ c.in-Ends.ensures.shorter c.loop-rest.invariant.within

pub returns-in-Broken-clause-words : goal.returns-in-Broken-clause-words
returns-in-Broken-clause-words c = word_breaks _ _ c.loop-rest.word.items c.loop-rest.invariant.words c.in-Broken.ensures.words

pub returns-in-None-clause-words : goal.returns-in-None-clause-words
returns-in-None-clause-words c =
    let empty : length c.loop-rest.rest.now ≡ 0 = search rules in
    text_ends _ c.loop-rest.word.items c.loop-rest.rest.now c.loop-rest.within c.loop-rest.invariant.words c.in-None.is empty

pub returns-clause-words : goal.returns-clause-words
returns-clause-words c =
    let empty : length c.loop-rest.rest.now ≡ 0 = search rules in
    text_breaks _ c.loop-rest.word.items c.loop-rest.rest.now c.loop-rest.within c.in-Some.field-0 c.loop-rest.invariant.words c.in-Some.is empty
