-- Commands that are put out one after the other.
use Rattle.std.proofs.Common.{◌≡◌, ℕ, List, [], ◌∷◌, ◌++◌, Result, Ok, Err, ap, ◌∙◌, append_assoc}
use Rattle.std.specs.Prelude.{OnOk}
use Rattle.links.specs.Sessions.Links.{Link}
use Rattle.links.specs.declared.sessions.questions.Question.{Question}
use Rattle.links.specs.declared.sessions.questions.Question.TheVariants as asks

-- a command joins what is unsent, and its question those that wait
abbrev pub commanded : Link → List ℕ → Question → Link
commanded link bytes question = record link { unsent = link.unsent ++ bytes; asked = link.asked ++ question ∷ [] }

abbrev pub ordered : Link → List ℕ → Link
ordered link bytes = commanded link bytes asks.Order

abbrev spoken : Link → List ℕ → List Question → Link
spoken link unsent asked = record link { unsent = unsent; asked = asked }

four_joined : {X : Type 0} (u a b c d : List X) → u ++ a ++ b ++ c ++ d ≡ u ++ (a ++ (b ++ (c ++ d)))
four_joined u a b c d = append_assoc (u ++ a ++ b) c d ∙ append_assoc (u ++ a) b (c ++ d) ∙ append_assoc u a (b ++ (c ++ d))

all_ordered : (s : Link) (a b c d : List ℕ) (last : Question) → commanded (ordered (ordered (ordered s a) b) c) d last
    ≡ spoken s (s.unsent ++ (a ++ (b ++ (c ++ d)))) (s.asked ++ asks.Order ∷ asks.Order ∷ asks.Order ∷ last ∷ [])
all_ordered s a b c d last =
    let o : List Question = asks.Order ∷ [] in
    let l : List Question = last ∷ [] in
    ap (λ (u : List ℕ). spoken s u (s.asked ++ o ++ o ++ o ++ l)) (four_joined s.unsent a b c d)
    ∙ ap (λ (q : List Question). spoken s (s.unsent ++ (a ++ (b ++ (c ++ d)))) q) (four_joined s.asked o o o l)

-- four commands, where the last one's result is what is returned
pub four_ordered : {X E : Type 0} (r : Result X E) (s s1 s2 s3 s4 : Link) (a b c d : List ℕ) (last : Question) → s1 ≡ ordered s a → s2 ≡ ordered s1 b → s3 ≡ ordered s2 c
    → OnOk r (s4 ≡ commanded s3 d last)
    → OnOk r (s4 ≡ record s { unsent = s.unsent ++ (a ++ (b ++ (c ++ d))); asked = s.asked ++ asks.Order ∷ asks.Order ∷ asks.Order ∷ last ∷ [] })
four_ordered (Err e) s s1 s2 s3 s4 a b c d q first second third last = tt
four_ordered (Ok x) s s1 s2 s3 s4 a b c d q first second third last =
    last ∙ ap (λ (t : Link). commanded t d q) (third ∙ ap (λ (t : Link). ordered t c) (second ∙ ap (λ (t : Link). ordered t b) first)) ∙ all_ordered s a b c d q
