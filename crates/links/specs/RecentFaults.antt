-- Of which nodes a fault was noted a moment ago.
use Rattle.std.specs.Prelude.{◌≡◌, ◌⊎◌, ◌++◌, ◌∷◌, [], ℕ, Bool, List, ◌-◌, ◌&&◌, nat_lt, ◌==◌, slice_set}
use Rattle.std.specs.List.{list_any}
use Rattle.links.specs.declared.recent_faults.NotedFault.{NotedFault}
use Rattle.links.specs.declared.times.TheConstants.{FAULT_NOTE_MS}

-- it was noted less than FAULT_NOTE_MS ago
abbrev pub is_recent : (now : ℕ) → NotedFault → Bool
is_recent now fault = nat_lt (now - fault.at) FAULT_NOTE_MS

abbrev pub is_noted : (now place : ℕ) → List NotedFault → Bool
is_noted now place noted = list_any (λ (fault : NotedFault). is_recent now fault && (fault.place == place)) noted

-- the fault that is noted now is kept beside those before, or in the place of one of them, or there is no memory for it
abbrev pub Keeps : NotedFault → (before after : List NotedFault) → Type 0
Keeps fault before after = (after ≡ before) ⊎ (after ≡ before ++ (fault ∷ [])) ⊎ ((at : ℕ) × (after ≡ slice_set before at fault))
