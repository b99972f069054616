-- The fault by which a file is refused is the first of all.
use Rattle.std.proofs.Common.{◌≡◌, ℕ, Bool, true, false, ltb, List, [], ◌∷◌, length, ◌⊎◌, inl, inr, Option, Some, None, Result, Ok, Err, refl, ap, sym, ◌∙◌}
use Rattle.std.specs.Prelude.{not}
use Rattle.std.specs.Str.{is_utf8}
use Rattle.std.proofs.lemmas.Bool.{true≢false}
use Rattle.ballot_law.specs.Cuts.{lines}
use Rattle.ballot_law.specs.Results.{◌>>=◌}
use Rattle.ballot_law.specs.declared.rosters.RosterFault.{RosterFault}
use Rattle.ballot_law.specs.RosterFaults.{fault_of}
use Rattle.conf_lines.specs.declared.faults.ConfKind.{ConfKind}
use Rattle.conf_lines.specs.declared.faults.ConfKind.TheVariants.{TooLong, NotUtf8, Roster}
use Rattle.conf_lines.specs.declared.faults.ConfFault.{ConfFault}
use Rattle.conf_lines.specs.Faults.{fault_at}
use Rattle.sentinel_conf.specs.Meaning.{ConfPlan}
use Rattle.sentinel_conf.specs.Rewritten.{rewritten, longest}
use Rattle.sentinel_conf.specs.Reading.{FILE_MAX, guard, checked, roster_checked, sized, conf_of_lines, conf_of_bytes, first_of}
use Rattle.sentinel_conf.specs.AllFaults.{faults_in}
use Rattle.sentinel_conf.proofs.FirstFaults.{first_refuses, faultless}
use Rattle.conf_check.specs.Errors.AllFaults.{is_of_lines, all_faults}

-- the list begins with it
abbrev pub Begins : List ConfFault → ConfFault → Type 0
Begins faults fault = (others : List ConfFault) × (faults ≡ fault ∷ others)

-- where readings in turn end in a fault, one of them does
stops : {A B : Type 0} (r : Result A ConfFault) (f : A → Result B ConfFault) (fault : ConfFault) → (r >>= f) ≡ Err fault
    → (r ≡ Err fault) ⊎ ((x : A) × (r ≡ Ok x) × (f x ≡ Err fault))
stops (Ok x) f fault e = inr (x, refl, e)
stops {A} (Err other) f fault e = let same : other ≡ fault = cc in inl (ap (λ o. let r : Result A ConfFault = Err o in r) same)

guard_kind : (test : Bool) (kind : ConfKind) (fault : ConfFault) → guard test kind ≡ Err fault → fault.kind ≡ kind
guard_kind true kind fault e = let same : fault_at 0 kind ≡ fault = cc in ap (λ (f : ConfFault). f.kind) (sym same)
guard_kind false kind fault e = cc

of_roster : (o : Option RosterFault) (fault : ConfFault) → checked o ≡ Err fault → is_of_lines fault.kind ≡ false
of_roster None fault e = cc
of_roster (Some f) fault e = let same : fault_at 0 (Roster f) ≡ fault = cc in ap (λ (g : ConfFault). is_of_lines g.kind) (sym same)

no_ok : {A B : Type 0} (x : A) (fault : ConfFault) → (let r : Result A ConfFault = Ok x in r) ≡ Err fault → B
no_ok x fault e = cc

err_same : (one other : ConfFault) → (let r : Result ConfPlan ConfFault = Err one in r) ≡ Err other → one ≡ other
err_same one other e = cc

of_size : (conf : ConfPlan) (fault : ConfFault) → sized conf ≡ Err fault → is_of_lines fault.kind ≡ false
of_size conf fault e =
    let long = ltb FILE_MAX (length (rewritten conf (longest conf.kept))) in
    elim (stops (guard long TooLong) (λ _. let r : Result ConfPlan ConfFault = Ok conf in r) fault e) as (λ _. is_of_lines fault.kind ≡ false) [
      | inl g ↦ ap is_of_lines (guard_kind long TooLong fault g)
      | inr m ↦ no_ok conf fault m.2
    ]

-- lines without a fault are refused for the group that they make, or for its size
of_group : (conf : ConfPlan) (fault : ConfFault) → (roster_checked conf >>= λ _. sized conf) ≡ Err fault → is_of_lines fault.kind ≡ false
of_group conf fault e =
    elim (stops (roster_checked conf) (λ _. sized conf) fault e) as (λ _. is_of_lines fault.kind ≡ false) [
      | inl g ↦ of_roster (fault_of conf.roster) fault g
      | inr m ↦ of_size conf fault m.2
    ]

first_by : (texts : List (List ℕ)) (fault : ConfFault) (all : List ConfFault) → is_of_lines fault.kind ≡ true → faults_in texts ≡ all → conf_of_lines texts ≡ Err fault
    → Begins (faults_in texts) fault
first_by texts fault [] listed a e =
    let conf = faultless texts a in
    absurd (true≢false (sym listed ∙ of_group conf.0 fault (sym conf.1 ∙ e)))
first_by texts fault (first ∷ others) listed a e =
    (others, a ∙ ap (λ f. f ∷ others) (err_same first fault (sym (first_refuses texts first (ap first_of a)) ∙ e)))

-- all faults of a file that is refused by this one
abbrev with_fault : List ℕ → Bool → ConfFault → List ConfFault
with_fault bytes listed fault = elim listed [ true ↦ faults_in (lines bytes) | false ↦ fault ∷ [] ]

refused : (bytes : List ℕ) (fault : ConfFault) → conf_of_bytes bytes ≡ Err fault → all_faults bytes ≡ with_fault bytes (is_of_lines fault.kind) fault
refused bytes fault e =
    ap (λ r. elim r as (λ _. List ConfFault) [
      | Ok conf ↦ []
      | Err fault ↦ elim (is_of_lines fault.kind) [ true ↦ faults_in (lines bytes) | false ↦ fault ∷ [] ]
    ]) e

alone : {B : Type 0} (fault : ConfFault) → is_of_lines fault.kind ≡ true → is_of_lines fault.kind ≡ false → B
alone fault listed e = absurd (true≢false (sym listed ∙ e))

text_first : (bytes : List ℕ) (fault : ConfFault) → is_of_lines fault.kind ≡ true → conf_of_bytes bytes ≡ Err fault → Begins (faults_in (lines bytes)) fault
text_first bytes fault listed e =
    elim (stops (guard (ltb FILE_MAX (length bytes)) TooLong) (λ _. guard (not (is_utf8 bytes)) NotUtf8 >>= λ _. conf_of_lines (lines bytes)) fault e)
    as (λ _. Begins (faults_in (lines bytes)) fault) [
      | inl g ↦ alone fault listed (ap is_of_lines (guard_kind (ltb FILE_MAX (length bytes)) TooLong fault g))
      | inr m ↦
          elim (stops (guard (not (is_utf8 bytes)) NotUtf8) (λ _. conf_of_lines (lines bytes)) fault m.2) as (λ _. Begins (faults_in (lines bytes)) fault) [
            | inl g ↦ alone fault listed (ap is_of_lines (guard_kind (not (is_utf8 bytes)) NotUtf8 fault g))
            | inr n ↦ first_by (lines bytes) fault (faults_in (lines bytes)) listed refl n.2
          ]
    ]

first_by_kind : (bytes : List ℕ) (fault : ConfFault) (listed : Bool) → is_of_lines fault.kind ≡ listed → conf_of_bytes bytes ≡ Err fault → Begins (all_faults bytes) fault
first_by_kind bytes fault true k e =
    let b = text_first bytes fault k e in (b.0, refused bytes fault e ∙ (ap (λ t. with_fault bytes t fault) k ∙ b.1))
first_by_kind bytes fault false k e = ([], refused bytes fault e ∙ ap (λ t. with_fault bytes t fault) k)

pub first_is_told : (bytes : List ℕ) (fault : ConfFault) → conf_of_bytes bytes ≡ Err fault → Begins (all_faults bytes) fault
first_is_told bytes fault e = first_by_kind bytes fault (is_of_lines fault.kind) refl e
