-- Stores of a text.
use Rattle.std.specs.Prelude.{ℕ, Bool, true, false, List, length, Option, Some, None, nat_lt, nat_eq, ◌-◌}
use Rattle.sentinel_conf.specs.declared.store.conf_store.DueRefusal.{DueRefusal}

-- what a replacement answers, and which text is held then
pub record Outcome : Type 0 where
  pub is_stored : Bool
  pub text : List ℕ

-- a store in memory: its text, its failure count, whether a replacement is going to be refused, after how many that are served and
-- with which text, and how many bytes it has room for
pub record Stored : Type 0 where
  pub text : List ℕ
  pub failed : ℕ
  pub refusal : Option DueRefusal
  pub room : ℕ

-- the outcome where no more memory is needed than there is
abbrev pub within : ℕ → List ℕ → Outcome → Option Outcome
within room text outcome = elim (nat_lt room (length text)) as (λ _. Option Outcome) [ true ↦ None | false ↦ Some outcome ]

-- whether the next replacement is to be refused, and which text stands then
abbrev pub due : Option DueRefusal → Option Bool
due None = None
due (Some refusal) = elim (nat_eq refusal.passes 0) as (λ _. Option Bool) [ true ↦ Some refusal.new | false ↦ None ]

-- what is left of a refusal that was asked for behind a replacement, which was served or not: one that was due has come, and a
-- replacement that was served counts
abbrev pub refusal_left : Option DueRefusal → Bool → Option DueRefusal
refusal_left None served = None
refusal_left (Some refusal) served =
    elim (nat_eq refusal.passes 0) as (λ _. Option DueRefusal) [
      | true ↦ None
      | false ↦ elim served as (λ _. Option DueRefusal) [
        | true ↦ Some (record { passes = refusal.passes - 1; new = refusal.new })
        | false ↦ Some refusal
      ]
    ]

-- what a store in memory knows of its next replacement
abbrev pub outcome_of : Stored → List ℕ → Option Outcome
outcome_of store text =
    elim (due store.refusal) as (λ _. Option Outcome) [
      | None ↦ within store.room text (record { is_stored = true; text = text })
      | Some new ↦ elim new as (λ _. Option Outcome) [
        | true ↦ within store.room text (record { is_stored = false; text = text })
        | false ↦ Some (record { is_stored = false; text = store.text })
      ]
    ]
