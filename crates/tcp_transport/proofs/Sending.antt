-- What is written by one call after the other.
use Rattle.std.proofs.Common.{◌≡◌, ℕ, List, [], ◌++◌, take, drop, append_assoc, sym, refl, ◌∙◌, ap, subst}
use Rattle.std.proofs.lemmas.List.{append-nil, take-append-drop}
use Rattle.links.specs.declared.target.Target.{Target}
use Rattle.ballot_law.specs.declared.messages.Message.{Message}
use Rattle.links.specs.NodeLinks.{State}
use Rattle.tcp_transport.specs.Said.{Speaks}
use Rattle.tcp_transport.specs.Sessions.{IsSession, IsWhole}
use Rattle.tcp_transport.specs.Sockets.{IsQuiet, Puts}
use Rattle.tcp_transport.specs.Traffic.{Sends}
use Rattle.tcp_transport.proofs.Sessions.{whole_at}

puts_nothing : (a b : Target → (put got : List ℕ) → Type 0) → IsQuiet a b → Puts a b []
puts_nothing a b h = λ target put got is. subst (λ (x : List ℕ). b target x got) (sym (append-nil put)) (h target put got is)

puts_twice : (a b c : Target → (put got : List ℕ) → Type 0) (xs ys : List ℕ) → Puts a b xs → Puts b c ys → Puts a c (xs ++ ys)
puts_twice a b c xs ys h k = λ target put got is. subst (λ (x : List ℕ). c target x got) (append_assoc put xs ys) (k target (put ++ xs) got (h target put got is))

abbrev left_with : State → List ℕ → State
left_with s unsent = record s { talk = record s.talk { unsent = unsent } }

-- nothing was taken
pub sends_nothing : (a b : Target → (put got : List ℕ) → Type 0) (s : State) → IsQuiet a b → Sends a b s s
sends_nothing a b s h = record { gone = []; front = refl; written = puts_nothing a b h; rest = refl }

pub sends_none : (a : Target → (put got : List ℕ) → Type 0) (s : State) → Sends a a s s
sends_none a s = sends_nothing a a s (λ target put got is. is)

sent_front : (a b : Target → (put got : List ℕ) → Type 0) (s : State) (n : ℕ) → Puts a b (take n s.talk.unsent) → Sends a b s (left_with s (drop n s.talk.unsent))
sent_front a b s n h = record { gone = take n s.talk.unsent; front = sym (take-append-drop n s.talk.unsent); written = h; rest = refl }

pub sends_some : (a b : Target → (put got : List ℕ) → Type 0) (s t : State) (n : ℕ) → Puts a b (take n s.talk.unsent) → t ≡ left_with s (drop n s.talk.unsent) → Sends a b s t
sends_some a b s t n h is = subst (Sends a b s) (sym is) (sent_front a b s n h)

pub sends_twice : (a b c : Target → (put got : List ℕ) → Type 0) (s t u : State) → Sends a b s t → Sends b c t u → Sends a c s u
sends_twice a b c s t u h k = record {
  gone = h.gone ++ k.gone;
  front = h.front ∙ ap (λ x. h.gone ++ x) k.front ∙ sym (append_assoc h.gone k.gone u.talk.unsent);
  written = puts_twice a b c h.gone k.gone h.written k.written;
  rest = k.rest ∙ ap (λ (x : State). left_with x u.talk.unsent) h.rest;
}

-- what was taken is put out, and what is unsent is the rest
pub whole_sent : (said : Message → Type 0) (reaches : Target → Type 0) (a b : Target → (put got : List ℕ) → Type 0) (s t : State) → IsWhole said reaches a s → Sends a b s t
    → IsWhole said reaches b t
whole_sent said reaches a b s t h k =
    let session : IsSession said s.target (h.put ++ k.gone) h.got (record s.talk { unsent = t.talk.unsent }) =
    record {
      asked = h.session.asked;
      speaks = subst (λ (x : List ℕ). Speaks said s.target x h.session.asked) (ap (λ (x : List ℕ). h.put ++ x) k.front ∙ sym (append_assoc h.put k.gone t.talk.unsent)) h.session.speaks;
      heard = h.session.heard;
    } in
    whole_at said reaches b s.target (record s.talk { unsent = t.talk.unsent }) (h.put ++ k.gone) h.got t h.reached (k.written s.target h.put h.got h.socket) session
    (ap (λ (x : State). x.target) k.rest) (ap (λ (x : State). x.talk) k.rest)
