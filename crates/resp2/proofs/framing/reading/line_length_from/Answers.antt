use Rattle.std.proofs.Common.{◌≡◌, drop, sym, arith}
use Rattle.resp2.specs.Framing.Reading.{line_length}
use Rattle.resp2.proofs.FramingLemmas.Lines.{line_length_behind, line_length_le, line_front}
use Rattle.resp2.proofs.framing.reading.line_length_from.Goals as goal

pub overflow_add-result : goal.overflow_add-result
overflow_add-result c =
    let bytes = c.args.bytes.now in
    let n = c.args.searched in
    let found : c.line_length.result ≡ line_length (drop n bytes) = rw c.split_at.ensures.back at c.line_length.ensures in
    let whole = line_length_behind bytes n c.requires.searched.0 c.requires.searched.1 in
    let within = line_length_le bytes in
    omega arith

pub returns-clause-value : goal.returns-clause-value
returns-clause-value c =
    let bytes = c.args.bytes.now in
    let n = c.args.searched in
    let found : c.line_length.result ≡ line_length (drop n bytes) = rw c.split_at.ensures.back at c.line_length.ensures in
    rw found (sym (line_length_behind bytes n c.requires.searched.0 c.requires.searched.1))

pub returns-clause-searched : goal.returns-clause-searched
returns-clause-searched c =
    let bytes = c.args.bytes.now in
    let n = c.args.searched in
    let found : c.line_length.result ≡ line_length (drop n bytes) = rw c.split_at.ensures.back at c.line_length.ensures in
    rw (found, sym (line_length_behind bytes n c.requires.searched.0 c.requires.searched.1)) (line_length_le bytes, line_front bytes)
