-- The node with a name among others.
use Rattle.std.proofs.Common.{inl, inr, ◌≡◌, ◌≢◌, ◌⊎◌, ℕ, zero, suc, ◌<◌, ◌≤◌, ◌+◌, Some, List, [], ◌∷◌, slice_get, refl, sym, ◌∙◌, ap, subst, arith}
use Rattle.std.proofs.lemmas.Bool.{cases_eq}
use Rattle.std.proofs.lemmas.Option.{none-some, same_Some}
use Rattle.ballot_law.specs.declared.messages.NodeName.{NodeName}
use Rattle.ballot_law.specs.declared.messages.NodeName.TheVariants.{SentinelAt, StoreAt, ClientAt, PortAt}
use Rattle.fault_world.specs.Groups.{HasNamed}

abbrev number_of : NodeName → ℕ
number_of (SentinelAt i) = i
number_of (StoreAt i) = i
number_of (ClientAt i) = i
number_of (PortAt i) = i

same_by : (named : ℕ → NodeName) → ((i : ℕ) → number_of (named i) ≡ i) → (i j : ℕ) → (named i ≡ named j) ⊎ (named i ≢ named j)
same_by named number i j =
    elim (cases_eq i j) as (λ _. (named i ≡ named j) ⊎ (named i ≢ named j)) [
      | inl same ↦ inl (ap named same)
      | inr other ↦ inr (λ e. other (sym (number i) ∙ ap number_of e ∙ number j))
    ]

pub name_cases : (a b : NodeName) → (a ≡ b) ⊎ (a ≢ b)
name_cases (SentinelAt i) (SentinelAt j) = same_by SentinelAt (λ k. refl) i j
name_cases (StoreAt i) (StoreAt j) = same_by StoreAt (λ k. refl) i j
name_cases (ClientAt i) (ClientAt j) = same_by ClientAt (λ k. refl) i j
name_cases (PortAt i) (PortAt j) = same_by PortAt (λ k. refl) i j
name_cases (SentinelAt i) (StoreAt j) = inr (λ e. cc)
name_cases (SentinelAt i) (ClientAt j) = inr (λ e. cc)
name_cases (SentinelAt i) (PortAt j) = inr (λ e. cc)
name_cases (StoreAt i) (SentinelAt j) = inr (λ e. cc)
name_cases (StoreAt i) (ClientAt j) = inr (λ e. cc)
name_cases (StoreAt i) (PortAt j) = inr (λ e. cc)
name_cases (ClientAt i) (SentinelAt j) = inr (λ e. cc)
name_cases (ClientAt i) (StoreAt j) = inr (λ e. cc)
name_cases (ClientAt i) (PortAt j) = inr (λ e. cc)
name_cases (PortAt i) (SentinelAt j) = inr (λ e. cc)
name_cases (PortAt i) (StoreAt j) = inr (λ e. cc)
name_cases (PortAt i) (ClientAt j) = inr (λ e. cc)

-- one of the nodes has the name, or none
abbrev pub Search : {N : Type 0} → (N → NodeName) → List N → NodeName → Type 0
Search {N} name nodes wanted = HasNamed name nodes wanted ⊎ ((k : ℕ) (n : N) → slice_get nodes k ≡ Some n → name n ≢ wanted)

module _ {N : Type 0} (name : N → NodeName) where
  not_first : (n : N) (nodes : List N) (wanted : NodeName) → name n ≢ wanted → ((k : ℕ) (m : N) → slice_get nodes k ≡ Some m → name m ≢ wanted) → (k : ℕ) (m : N) →
      slice_get (n ∷ nodes) k ≡ Some m → name m ≢ wanted
  not_first n nodes wanted here rest zero m e = subst (λ x. name x ≢ wanted) (same_Some n m e) here
  not_first n nodes wanted here rest (suc k) m e = rest k m e

  pub search_for : (nodes : List N) (wanted : NodeName) → Search name nodes wanted
  search_for [] wanted = inr (λ k n e. absurd (none-some n e))
  search_for (n ∷ nodes) wanted =
      elim (name_cases (name n) wanted) as (λ _. Search name (n ∷ nodes) wanted) [
        | inl same ↦ inl (0, n, refl, same)
        | inr other ↦ (elim (search_for nodes wanted) as (λ _. Search name (n ∷ nodes) wanted) [
          | inl found ↦ inl (suc found.0, found.1, found.2, found.3)
          | inr none ↦ inr (not_first n nodes wanted other none)
        ])
      ]

  -- more than the number of each client
  abbrev above_name : NodeName → ℕ
  above_name (ClientAt c) = suc c
  above_name _ = 0

  abbrev pub above : List N → ℕ
  above [] = 0
  above (n ∷ nodes) = above_name (name n) + above nodes

  client_above : (nodes : List N) (k : ℕ) (n : N) → slice_get nodes k ≡ Some n → above_name (name n) ≤ above nodes
  client_above [] k n e = absurd (none-some n e)
  client_above (m ∷ nodes) zero n e = (let same = ap (λ x. above_name (name x)) (same_Some m n e) in omega (arith, same))
  client_above (m ∷ nodes) (suc k) n e = (let rest = client_above nodes k n e in omega (arith, rest))

  pub client_below : (nodes : List N) (c : ℕ) → HasNamed name nodes (ClientAt c) → c < above nodes
  client_below nodes c found = (let h = client_above nodes found.0 found.1 found.2 in let e = ap above_name found.3 in omega (arith, h, e))
