-- What an outlet was handed, one output after the other.
use Rattle.std.proofs.Common.{◌≡◌, ℕ, ◌+◌, ◌<◌, List, [], ◌∷◌, ◌++◌, length, take, get_or, Option, Some, None, refl, sym, ap, ◌∙◌, subst, append_assoc, append-nil}
use Rattle.std.specs.Prelude.{IfSome}
use Rattle.std.proofs.lemmas.List.{take_more}
use Rattle.ballot_law.specs.declared.messages.Message.{Message}
use Rattle.ballot_law.specs.declared.messages.Note.{Note}
use Rattle.ballot_law.specs.declared.messages.Output.{Output}
use Rattle.ballot_law.specs.declared.messages.Output.TheVariants.{Send, Tell}
use Rattle.ballot_law.specs.Messages.{sent}

sent_append : (xs ys : List Output) → sent (xs ++ ys) ≡ sent xs ++ sent ys
sent_append [] ys = refl
sent_append (Send message ∷ xs) ys = ap (λ (zs : List Message). message ∷ zs) (sent_append xs ys)
sent_append (Tell note ∷ xs) ys = sent_append xs ys

-- the messages among one output more
sent_next : (outputs : List Output) (i : ℕ) (output : Output) → i < length outputs → output ≡ get_or outputs i output →
    sent (take (i + 1) outputs) ≡ sent (take i outputs) ++ sent (output ∷ [])
sent_next outputs i output within is =
    ap sent (take_more outputs i output within ∙ ap (λ (o : Output). take i outputs ++ o ∷ []) (sym is)) ∙ sent_append (take i outputs) (output ∷ [])

-- what was handed over once more stands behind what was handed over before
handed_more : (first second third : Option (List Message)) (xs ys zs : List Message) → zs ≡ xs ++ ys
    → IfSome first (λ before. second ≡ Some (before ++ xs)) → IfSome second (λ before. third ≡ Some (before ++ ys)) → IfSome first (λ before. third ≡ Some (before ++ zs))
handed_more None second third xs ys zs is one other = tt
handed_more (Some before) second third xs ys zs is one other =
    let last : third ≡ Some ((before ++ xs) ++ ys) = subst (λ (h : Option (List Message)). IfSome h (λ b. third ≡ Some (b ++ ys))) one other in
    last ∙ ap (λ (l : List Message). Some l) (append_assoc before xs ys ∙ ap (λ (l : List Message). before ++ l) (sym is))

pub handed_send : (first second third : Option (List Message)) (outputs : List Output) (i : ℕ) (output : Output) (message : Message) → i < length outputs →
    output ≡ get_or outputs i output → output ≡ Send message
    → IfSome first (λ before. second ≡ Some (before ++ sent (take i outputs))) → IfSome second (λ before. third ≡ Some (before ++ message ∷ []))
    → IfSome first (λ before. third ≡ Some (before ++ sent (take (i + 1) outputs)))
handed_send first second third outputs i output message within is send one other =
    handed_more first second third (sent (take i outputs)) (message ∷ []) (sent (take (i + 1) outputs))
    (sent_next outputs i output within is ∙ ap (λ (o : Output). sent (take i outputs) ++ sent (o ∷ [])) send) one other

pub handed_tell : (first second : Option (List Message)) (outputs : List Output) (i : ℕ) (output : Output) (note : Note) → i < length outputs → output ≡ get_or outputs i output →
    output ≡ Tell note
    → IfSome first (λ before. second ≡ Some (before ++ sent (take i outputs))) → IfSome first (λ before. second ≡ Some (before ++ sent (take (i + 1) outputs)))
handed_tell first second outputs i output note within is tell one =
    subst (λ (xs : List Message). IfSome first (λ before. second ≡ Some (before ++ xs)))
    (sym (sent_next outputs i output within is ∙ ap (λ (o : Output). sent (take i outputs) ++ sent (o ∷ [])) tell ∙ append-nil (sent (take i outputs)))) one
