-- The answer to a question is read again.
use Rattle.std.proofs.Common.{◌≡◌, ℕ, ◌≤◌, Bool, true, false, length, refl, ap, sym, ◌∙◌, arith, Option, Some, None, Ok, nat_le, pos}
use Rattle.std.proofs.lemmas.Bool.{le-leb}
use Rattle.ballot_law.specs.declared.addresses.Addr.{Addr}
use Rattle.ballot_law.specs.declared.addresses.RunId.{RunId}
use Rattle.ballot_law.specs.declared.cards.TheConstants.{MAX_EPOCH}
use Rattle.ballot_law.specs.declared.events.Event.{Event}
use Rattle.ballot_law.specs.declared.events.Event.TheVariants.{Answered}
use Rattle.ballot_law.specs.declared.messages.NodeName.{NodeName}
use Rattle.ballot_law.specs.Words.{some_if, then_some}
use Rattle.ballot_law.proofs.WordLemmas.{length-id_text}
use Rattle.node_texts.specs.Messages.MessageTexts.{answer_frame, down_number}
use Rattle.resp2.specs.Commands.{candidate, candidate_text, IsCandidate}
use Rattle.resp2.specs.Framing.Frame.{IsPlain}
use Rattle.resp2.proofs.Asks.{candidate_again}
use Rattle.links.specs.declared.sessions.heard.Heard.{Heard}
use Rattle.links.specs.declared.sessions.heard.Heard.TheVariants as news
use Rattle.links.specs.declared.sessions.replies.Vote.{Vote}
use Rattle.links.specs.Sessions.Links.{vote_of, answered, ask_heard, flag}

text_short : (c : Option RunId) → length (candidate_text c) ≤ 40
text_short None = omega arith
text_short (Some id) = let len = length-id_text id in omega arith

flag_again : (down : Bool) → flag (pos (down_number down)) ≡ Some down
flag_again true = refl
flag_again false = refl

pub vote_again : (down : Bool) (leader : Option RunId) (epoch : ℕ) → IsCandidate leader → epoch ≤ MAX_EPOCH
    → vote_of (answer_frame down leader epoch) ≡ Some (record { down = down; leader = leader; epoch = epoch })
vote_again down leader epoch is most =
    ap (λ (o : Option Bool). then_some o (λ d. then_some (candidate (candidate_text leader)) (λ l. then_some (some_if (nat_le epoch MAX_EPOCH) epoch) (λ e. let v : Vote =
    record { down = d; leader = l; epoch = e } in Some v)))) (flag_again down)
    ∙ ap (λ (o : Option (Option RunId)). then_some o (λ l. then_some (some_if (nat_le epoch MAX_EPOCH) epoch) (λ e. let v : Vote = record {
      down = down;
      leader = l;
      epoch = e;
    } in Some v))) (candidate_again leader is)
    ∙ ap (λ (b : Bool). then_some (some_if b epoch) (λ e. let v : Vote = record { down = down; leader = leader; epoch = e } in Some v)) (le-leb epoch MAX_EPOCH most)

pub answer_plain : (down : Bool) (leader : Option RunId) (epoch : ℕ) → epoch ≤ MAX_EPOCH → IsPlain (answer_frame down leader epoch)
answer_plain true leader epoch most = let short = text_short leader in (omega arith, (omega arith, (omega arith, (omega arith, tt))))
answer_plain false leader epoch most = let short = text_short leader in (omega arith, (omega arith, (omega arith, (omega arith, tt))))

-- what is heard for an answer is an event
some_event : (voter : NodeName) (m : ℕ) (addr : Addr) (vote : Option Vote) (got : Heard) → answered voter m addr vote ≡ Ok got → (event : Event) × (got ≡ news.Told event)
some_event voter m addr (Some vote) got e = (
  Answered voter m addr vote.down vote.leader vote.epoch,
  let h : news.Told (Answered voter m addr vote.down vote.leader vote.epoch) ≡
      got = cc in sym h,
)
some_event voter m addr None got e = absurd (let no : ⊥ = cc in no)

-- the answer is heard as it was written
pub answer_heard : (voter : NodeName) (m : ℕ) (addr : Addr) (down : Bool) (leader : Option RunId) (epoch : ℕ) (got : Heard) → epoch ≤ MAX_EPOCH
    → ask_heard voter m addr (answer_frame down leader epoch) ≡ Ok got
    → (event : Event) × (got ≡ news.Told event) × (IsCandidate leader → Answered voter m addr down leader epoch ≡ event)
answer_heard voter m addr down leader epoch got most e =
    let some = some_event voter m addr (vote_of (answer_frame down leader epoch)) got e in (
      some.0,
      some.1,
      λ is.
          let vote = vote_again down leader epoch is most in
          let told : answered voter m addr (vote_of (answer_frame down leader epoch)) ≡ Ok (news.Told (Answered voter m addr down leader epoch)) = ap (answered voter m addr) vote in
          let chain : answered voter m addr (vote_of (answer_frame down leader epoch)) ≡ Ok (news.Told some.0) = e ∙ ap (λ (o : Heard). Ok o) some.1 in
          let same : Answered voter m addr down leader epoch ≡ some.0 = cc in
          same,
    )
