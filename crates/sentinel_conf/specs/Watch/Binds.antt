-- The ips at which the port of a Sentinel listens.
use Rattle.std.specs.Prelude.{ℕ, Bool, true, false, ◌==◌, nat_lt, List, [], ◌∷◌, length, Option, Some, None}
use Rattle.std.specs.List.{list_any}
use Rattle.std.specs.Int.{w32, to_be_bytes}
use Rattle.ballot_law.specs.Orders.{same_bytes}
use Rattle.ballot_law.specs.Words.{ip}
use Rattle.tokens.specs.Quotes.{joined}
use Rattle.sentinel_conf.specs.declared.watch.binds.Bind.{Bind}
use Rattle.sentinel_conf.specs.declared.watch.binds.BindWord.{BindWord}
use Rattle.sentinel_conf.specs.declared.watch.binds.BindWord.TheVariants.{Ip, Absent, Bad}
use Rattle.sentinel_conf.specs.declared.watch.binds.TheConstants.{IPS_MAX}

-- the word without the `-` with which an address begins that needn't be there
abbrev pub after_dash : List ℕ → List ℕ
after_dash [] = []
after_dash (b ∷ bs) = elim (b == 45) [ true ↦ bs | false ↦ b ∷ bs ]

abbrev pub has_dash : List ℕ → Bool
has_dash [] = false
has_dash (b ∷ bs) = b == 45

abbrev pub has_colon : List ℕ → Bool
has_colon word = list_any (λ b. b == 58) word

-- an IPv6 address that needn't be there counts as none
abbrev pub no_ip : (dash : Bool) → List ℕ → BindWord
no_ip true word = elim (has_colon word) as (λ _. BindWord) [ true ↦ Absent | false ↦ Bad ]
no_ip false word = Bad

-- the ip with this number, which the machine may lack where a `-` stands before it
abbrev pub bind_at : (dash : Bool) → ℕ → Bind
bind_at dash i = record { ip = to_be_bytes w32 i; may_lack = dash }

abbrev pub ip_or_none : (dash : Bool) → List ℕ → BindWord
ip_or_none dash word = elim (ip word) as (λ _. BindWord) [ Some i ↦ Ip (bind_at dash i) | None ↦ no_ip dash word ]

-- all of the machine
abbrev pub everywhere : Bind
everywhere = record { ip = 0 ∷ 0 ∷ 0 ∷ 0 ∷ []; may_lack = false }

-- what a word of the line says: `*` is all of the machine
abbrev pub bind_word : List ℕ → BindWord
bind_word word = elim (same_bytes (after_dash word) (42 ∷ [])) as (λ _. BindWord) [ true ↦ Ip everywhere | false ↦ ip_or_none (has_dash word) (after_dash word) ]

-- the ips of these words; none where one is bad
abbrev pub binds_in : List (List ℕ) → Option (List Bind)
binds_in [] = Some []
binds_in (word ∷ words) = elim (bind_word word) as (λ _. Option (List Bind)) [ Ip bind ↦ joined (bind ∷ []) (binds_in words) | Absent ↦ binds_in words | Bad ↦ None ]

abbrev pub is_everywhere : Bind → Bool
is_everywhere bind = same_bytes bind.ip (0 ∷ 0 ∷ 0 ∷ 0 ∷ [])

-- all of the machine by itself, where it is among them
abbrev pub without_rest : List Bind → List Bind
without_rest binds = elim (list_any is_everywhere binds) [ true ↦ everywhere ∷ [] | false ↦ binds ]

-- one ip at least
abbrev pub one_or_more : Option (List Bind) → Option (List Bind)
one_or_more None = None
one_or_more (Some []) = None
one_or_more (Some (bind ∷ binds)) = Some (without_rest (bind ∷ binds))

-- the ips that a line with these words names: from one to 16 words
abbrev pub bound : List (List ℕ) → Option (List Bind)
bound words = elim (nat_lt IPS_MAX (length words)) as (λ _. Option (List Bind)) [ true ↦ None | false ↦ one_or_more (binds_in words) ]
