-- The order to hand over.
use Rattle.std.proofs.Common.{◌≡◌, ◌∙◌, ℕ, List, [], ◌∷◌, ◌++◌, codes, decimal, sym, ap, Option, Some, Result, Ok, Err}
use Rattle.std.specs.Prelude.{OnOk}
use Rattle.ballot_law.specs.declared.messages.Heir.{Heir}
use Rattle.ballot_law.specs.declared.periods.TheConstants.{HAND_OVER_MS}
use Rattle.ballot_law.specs.Words.{ip_text}
use Rattle.resp2.specs.Framing.Frame.{spelling}
use Rattle.node_texts.specs.Messages.MessageTexts.{words_frame, hand_over_frame}

pub on_ok : {X E A B : Type 0} (answer : Result X E) → (A → B) → OnOk answer A → OnOk answer B
on_ok (Ok x) f h = f h
on_ok (Err e) f h = h

-- its words, with those of an address and of a number
abbrev pub order : (ip port timeout : List ℕ) → List (List ℕ)
order ip port timeout = codes "FAILOVER" ∷ codes "TO" ∷ ip ∷ port ∷ codes "TIMEOUT" ∷ timeout ∷ []

pub handed_over : (old new ip port timeout : List ℕ) (given : Option Heir) (heir : Heir) → given ≡ Some heir → ip ≡ ip_text heir.addr.ip
    → port ≡ decimal heir.addr.port → timeout ≡ decimal HAND_OVER_MS → new ≡ old ++ spelling (words_frame (order ip port timeout))
    → new ≡ old ++ spelling (hand_over_frame given)
handed_over old new ip port timeout given heir is a b c e =
    e
    ∙ ap (λ (t : List ℕ). old ++ spelling (words_frame (order t port timeout))) a
    ∙ ap (λ (t : List ℕ). old ++ spelling (words_frame (order (ip_text heir.addr.ip) t timeout))) b
    ∙ ap (λ (t : List ℕ). old ++ spelling (words_frame (order (ip_text heir.addr.ip) (decimal heir.addr.port) t))) c
    ∙ ap (λ (g : Option Heir). old ++ spelling (hand_over_frame g)) (sym is)
