-- What was put out on a connection stays what may be said on it.
use Rattle.std.proofs.Common.{inl, inr, ◌≡◌, ℕ, List, [], ◌∷◌, ◌++◌, append_assoc, refl, sym, ap, ◌∙◌}
use Rattle.std.specs.List.{AllByRecursion}
use Rattle.std.proofs.lemmas.List.{append-nil}
use Rattle.ballot_law.specs.declared.messages.Message.{Message}
use Rattle.links.specs.declared.sessions.questions.Question.{Question}
use Rattle.links.specs.declared.speaking.Login.{Login}
use Rattle.links.specs.declared.target.Target.{Target}
use Rattle.tcp_transport.specs.Said.{Word, MaySay, joined, asked_by, first_word, Speaks}

pub nothing_said : (said : Message → Type 0) (target : Target) → Speaks said target [] []
nothing_said said target =
    record { first = record { bytes = []; asked = [] }; words = []; begins = inl refl; may = tt; stream_is = refl; asked_is = refl }

pub first_said : (said : Message → Type 0) (target : Target) (login : Login)
    → Speaks said target (first_word target login).bytes (first_word target login).asked
first_said said target login = record {
  first = first_word target login;
  words = [];
  begins = inr (login, refl);
  may = tt;
  stream_is = sym (append-nil (first_word target login).bytes);
  asked_is = sym (append-nil (first_word target login).asked);
}

-- ---- one word more

joined_more : (words : List Word) (word : Word) → joined (words ++ word ∷ []) ≡ joined words ++ word.bytes
joined_more [] word = append-nil word.bytes
joined_more (first ∷ words) word =
    ap (λ (x : List ℕ). first.bytes ++ x) (joined_more words word) ∙ sym (append_assoc first.bytes (joined words) word.bytes)

asked_more : (words : List Word) (word : Word) → asked_by (words ++ word ∷ []) ≡ asked_by words ++ word.asked
asked_more [] word = append-nil word.asked
asked_more (first ∷ words) word =
    ap (λ (x : List Question). first.asked ++ x) (asked_more words word) ∙ sym (append_assoc first.asked (asked_by words) word.asked)

all_more : (P : Word → Type 0) (words : List Word) (word : Word) → AllByRecursion P words → P word → AllByRecursion P (words ++ word ∷ [])
all_more P [] word all one = (one, tt)
all_more P (first ∷ words) word all one = (all.0, all_more P words word all.1 one)

pub said_more : (said : Message → Type 0) (target : Target) (stream : List ℕ) (asked : List Question) (word : Word) → Speaks said target stream asked → MaySay said target word
    → Speaks said target (stream ++ word.bytes) (asked ++ word.asked)
said_more said target stream asked word h one = record {
  first = h.first;
  words = h.words ++ word ∷ [];
  begins = h.begins;
  may = all_more (MaySay said target) h.words word h.may one;
  stream_is = ap (λ (x : List ℕ). x ++ word.bytes) h.stream_is ∙ append_assoc h.first.bytes (joined h.words) word.bytes
      ∙ ap (λ (x : List ℕ). h.first.bytes ++ x) (sym (joined_more h.words word));
  asked_is = ap (λ (x : List Question). x ++ word.asked) h.asked_is ∙ append_assoc h.first.asked (asked_by h.words) word.asked
      ∙ ap (λ (x : List Question). h.first.asked ++ x) (sym (asked_more h.words word));
}
