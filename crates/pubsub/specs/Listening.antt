-- To which channels and patterns a connection listens.
use Rattle.std.specs.Prelude.{◌≡◌, ℕ, ◌+◌, Bool, true, false, not, nat_lt, List, [], ◌∷◌, ◌++◌, Option, Some, None, Result, Ok, Err, length, bytes_eq}
use Rattle.std.specs.List.{list_any, filter}
use Rattle.pubsub.specs.declared.fault.ChannelFault.{ChannelFault}
use Rattle.pubsub.specs.declared.fault.ChannelFault.TheVariants.{NameTooLong, TooManyChannels, TooManyPatterns, NoMemory}
use Rattle.pubsub.specs.declared.kind.Kind.{Kind}
use Rattle.pubsub.specs.declared.kind.Kind.TheVariants.{Channels, Patterns}
use Rattle.pubsub.specs.declared.names.TheConstants.{NAMES_MAX, NAME_BYTES_MAX}

-- the names of channels, and the patterns of such, in the order in which the connection began to listen to them
pub record Listening : Type 0 where
  pub channels : List (List ℕ)
  pub patterns : List (List ℕ)

-- the name is among these
abbrev pub holds : List (List ℕ) → (name : List ℕ) → Bool
holds names name = list_any (λ one. bytes_eq one name) names

-- a further name comes last, and one that is there changes nothing
abbrev pub with_name : List (List ℕ) → (name : List ℕ) → List (List ℕ)
with_name names name = elim (holds names name) [ true ↦ names | false ↦ names ++ (name ∷ []) ]

abbrev pub with_names : List (List ℕ) → (more : List (List ℕ)) → List (List ℕ)
with_names names [] = names
with_names names (name ∷ more) = with_names (with_name names name) more

-- the others keep their order
abbrev pub without_name : List (List ℕ) → (name : List ℕ) → List (List ℕ)
without_name names name = filter (λ one. not (bytes_eq one name)) names

abbrev pub without_names : List (List ℕ) → (less : List (List ℕ)) → List (List ℕ)
without_names names [] = names
without_names names (name ∷ less) = without_names (without_name names name) less

-- ---- what is refused

abbrev pub too_many : Kind → ChannelFault
too_many Channels = TooManyChannels
too_many Patterns = TooManyPatterns

-- why these names can't all be added, by the first of them that can't
abbrev pub refusal : Kind → List (List ℕ) → (more : List (List ℕ)) → Option ChannelFault
refusal kind names [] = None
refusal kind names (name ∷ more) =
    elim (nat_lt NAME_BYTES_MAX (length name)) [
      | true ↦ Some NameTooLong
      | false ↦ elim (nat_lt NAMES_MAX (length (with_name names name))) [ true ↦ Some (too_many kind) | false ↦ refusal kind (with_name names name) more ]
    ]

-- the channels and the patterns together
abbrev pub count : Listening → ℕ
count l = length l.channels + length l.patterns

abbrev pub is_listening : Listening → Bool
is_listening l = nat_lt 0 (count l)

-- ---- how a call that adds names ends

-- the names are added, or are refused as they must be, or memory was refused
abbrev pub Refuses : {X : Type 0} → Kind → List (List ℕ) → (more : List (List ℕ)) → Result X ChannelFault → Type 0
Refuses kind names more (Ok x) = refusal kind names more ≡ None
Refuses kind names more (Err NoMemory) = Unit {0}
Refuses kind names more (Err fault) = refusal kind names more ≡ Some fault

-- one name is added, and nothing changes at a fault
abbrev pub IsAdded : {X : Type 0} → Kind → List (List ℕ) → (name : List ℕ) → Result X ChannelFault → (after : List (List ℕ)) → Type 0
IsAdded kind names name (Ok x) after = (refusal kind names (name ∷ []) ≡ None) × (after ≡ with_name names name)
IsAdded kind names name (Err NoMemory) after = after ≡ names
IsAdded kind names name (Err fault) after = (refusal kind names (name ∷ []) ≡ Some fault) × (after ≡ names)
