-- A hello that is held for one Sentinel after the other.
use Rattle.std.proofs.Common.{◌≡◌, ℕ, zero, suc, ◌+◌, ◌<◌, Bool, true, [], ◌∷◌, ◌++◌, length, refl, ap, ◌∙◌, length-append, add-one, arith}
use Rattle.std.specs.Prelude.{◌↔◌}
use Rattle.ballot_law.specs.declared.messages.Body.TheVariants.{HelloText}
use Rattle.ballot_law.specs.declared.messages.NodeName.{NodeName}
use Rattle.ballot_law.specs.declared.messages.NodeName.TheVariants.{SentinelAt}
use Rattle.ballot_law.specs.declared.messages.Output.{Output}
use Rattle.ballot_law.specs.declared.replies.Hello.{Hello}
use Rattle.sentinel_outbox.specs.Outboxes.{Outputs, Fits}
use Rattle.boxed_nodes.specs.Data.Servers.{send, to_each}

-- ---- how many

pub length_to_each : (name : NodeName) (hello : Hello) (count : ℕ) → length (to_each name hello count) ≡ count
length_to_each name hello zero = refl
length_to_each name hello (suc count) =
    let h = length_to_each name hello count in
    rw (length-append (to_each name hello count) (send name (SentinelAt count) (HelloText hello) ∷ [])) (omega (arith, h))

-- ---- one more is held

pub held_one : (before after : Outputs) (x : Output) (told : Bool) →
    (told ≡ true → after ≡ record before { held = before.held ++ x ∷ [] }) →
    ((told ≡ true) ↔ ((length before.held < before.held_room) × (length before.held < before.shown_room))) →
    length before.held < before.held_room → length before.held < before.shown_room →
    after ≡ record before { held = before.held ++ x ∷ [] }
held_one before after x told held room a b = held (room.1 (a, b))

module _ (first : Outputs) (count : ℕ) (fits : Fits first (record { outputs = count; text = 0; shown = 0 })) (name : NodeName) (hello : Hello) where
  pub one_passed : (before after : Outputs) (i : ℕ) (told : Bool) →
      before ≡ record first { held = to_each name hello i } → i < count →
      (told ≡ true → after ≡ record before { held = before.held ++ send name (SentinelAt i) (HelloText hello) ∷ [] }) →
      ((told ≡ true) ↔ ((length before.held < before.held_room) × (length before.held < before.shown_room))) →
      after ≡ record first { held = to_each name hello (i + 1) }
  one_passed before after i told is below held room =
      let many : length before.held ≡ i = ap (λ (o : Outputs). length o.held) is ∙ length_to_each name hello i in
      let held_room : before.held_room ≡ first.held_room = ap (λ (o : Outputs). o.held_room) is in
      let shown_room : before.shown_room ≡ first.shown_room = ap (λ (o : Outputs). o.shown_room) is in
      let a = fits.has_room.held in
      let b = fits.has_room.shown in
      rw (add-one i)
      (held_one before after (send name (SentinelAt i) (HelloText hello)) told held room (omega arith) (omega arith)
      ∙ ap (λ (o : Outputs). record o { held = o.held ++ send name (SentinelAt i) (HelloText hello) ∷ [] }) is)
