use Rattle.std.proofs.Common.{◌≡◌, ◌∙◌, ◌++◌, ap, arith, pos, w64, to_z}
use Rattle.std.proofs.lemmas.Int.{to_z_pos}
use Rattle.resp2.specs.Framing.Frame.{bulk, int, spelling}
use Rattle.node_texts.proofs.MessagesLemmas.Adding.{answer_added}
use Rattle.node_texts.proofs.messages.replies.push_answer.Goals as goal

pub returns-clause-ok : goal.returns-clause-ok
returns-clause-ok g c =
    let bytes = g.S.ByteSink.bytes in
    let epoch : to_z w64 c.args.epoch ≡ pos c.args.epoch = to_z_pos w64 c.args.epoch (omega (arith, c.requires)) in
    answer_added _ _ _ _ c.args.down c.args.leader c.args.epoch
    (c.in_ok-push.ensures.added ∙ ap (λ front. bytes c.args.sink.now ++ front) c.answer_front.ensures)
    (c.in_ok-push_bulk.ensures.added ∙ ap (λ word. bytes c.push.new.self ++ spelling (bulk word)) (c.deref.ensures.0 ∙ c.candidate_text.ensures))
    (c.in_ok-push_int.ensures.added ∙ ap (λ number. bytes c.push_bulk.new.sink ++ spelling (int number)) epoch)
