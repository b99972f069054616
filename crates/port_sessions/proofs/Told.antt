-- What a note that was told keeps back.
use Rattle.std.proofs.Common.{◌≡◌, ℕ, Bool, true, false, ◌&&◌, List, ◌++◌, Option, Some, None, slice_index_or, slice_set, refl, ap, subst, ◌∙◌, get_or-set_same, get_or-set_other}
use Rattle.std.proofs.lemmas.Bool.{le-ltb}
use Rattle.sentinel_core.specs.declared.serving.fault.ServeFault.{ServeFault}
use Rattle.port_sessions.specs.Laws.{NotesRise}
use Rattle.port_sessions.specs.Notes.{listened_before, is_newer}
use Rattle.port_sessions.specs.Talks.{Talk}

-- a session by its parts
abbrev pub talk_of : Option ServeFault → List (Option ℕ) → (held unsent : List ℕ) → Option ℕ → Talk
talk_of ended told held unsent listens = record { held = held; unsent = unsent; ended = ended; listens = listens; told = told }

-- a session was closed at a fault: what became of it within is seen of it without, but that it listens to nothing
pub has_closed : (B : Talk → List ℕ → Option ℕ → Type 0) (inside seen : Talk) (put after : List ℕ) (listens left : Option ℕ) → inside ≡ seen → after ≡ put → left ≡ None
    → (more : List ℕ) × (put ≡ inside.unsent ++ more) × B inside more listens
    → seen.ended ≡ None → (more : List ℕ) × (after ≡ seen.unsent ++ more) × ((left ≡ None) × (listened : Option ℕ) × B seen more listened)
has_closed B inside seen put after listens left is same silent got =
    subst (λ (t : Talk). t.ended ≡ None → (more : List ℕ) × (after ≡ t.unsent ++ more) × ((left ≡ None) × (listened : Option ℕ) × B t more listened)) is
    (λ still. (got.0, same ∙ got.1, (silent, listens, got.2)))

and_false : (b : Bool) → (b && false) ≡ false
and_false true = refl
and_false false = refl

pub notes_rise : NotesRise
notes_rise roster note other entry talk known =
    let listens = listened_before talk.listens entry in
    let due : Option ℕ → Bool = λ last. listens && is_newer last other.card.epoch in
    let after = slice_set talk.told note.master (Some note.card.epoch) in (
      λ same low.
          let told = ap (λ (m : ℕ). slice_index_or after m None) same ∙ get_or-set_same talk.told note.master (Some note.card.epoch) None known in
          ap due told ∙ ap (λ (b : Bool). listens && b) (le-ltb note.card.epoch other.card.epoch low) ∙ and_false listens,
      λ apart. ap due (get_or-set_other talk.told note.master other.master (Some note.card.epoch) None apart),
    )
