-- What a store holds after an input was stored, or refused.
use Rattle.std.proofs.Common.{◌≡◌, ◌≢◌, ◌⊎◌, ℕ, Bool, true, false, List, [], ◌∷◌, Option, Some, None, inl, inr, subst, sym, ap, refl, ◌∙◌}
use Rattle.std.specs.Prelude.{IfSome, OnOk, Result, Ok, Err, is_err}
use Rattle.std.proofs.lemmas.Bool.Decides.{eqb_tells}
use Rattle.ballot_law.specs.declared.addresses.Addr.{Addr}
use Rattle.ballot_law.specs.declared.addresses.RunId.{RunId}
use Rattle.ballot_law.specs.declared.cards.Card.{Card}
use Rattle.ballot_law.specs.declared.cards.Kept.{Kept}
use Rattle.ballot_law.specs.declared.cards.KeptMaster.{KeptMaster}
use Rattle.sentinel_conf.specs.Meaning.{ConfPlan}
use Rattle.sentinel_conf.specs.Rewritten.{rewritten}
use Rattle.sentinel_outbox.specs.declared.faults.StoreFault.{StoreFault}
use Rattle.sentinel_outbox.specs.declared.faults.StoreFault.TheVariants.{Nothing, Refused}
use Rattle.sentinel_core.specs.Serving.Serving.{Holds}

-- ---- what isn't different is the same

same_number : (a b : ℕ) → ¬ (a ≢ b) → a ≡ b
same_number a b h = elim (eqb_tells a b) [
  | inl e ↦ e.1
  | inr n ↦ absurd (h n.1)
]

same_addr : (a b : Addr) → ¬ (a ≢ b) → a ≡ b
same_addr a b h =
    let ip : a.ip ≡ b.ip = same_number a.ip b.ip (λ n. h (λ e. n (ap (λ (x : Addr). x.ip) e))) in
    let port : a.port ≡ b.port = same_number a.port b.port (λ n. h (λ e. n (ap (λ (x : Addr). x.port) e))) in
    ap (λ n. let x : Addr = record { ip = n; port = a.port } in x) ip ∙ ap (λ n. let x : Addr = record { ip = b.ip; port = n } in x) port

same_card : (a b : Card) → ¬ (a ≢ b) → a ≡ b
same_card a b h =
    let epoch : a.epoch ≡ b.epoch = same_number a.epoch b.epoch (λ n. h (λ e. n (ap (λ (x : Card). x.epoch) e))) in
    let addr : a.addr ≡ b.addr = same_addr a.addr b.addr (λ n. h (λ e. n (ap (λ (x : Card). x.addr) e))) in
    ap (λ n. let x : Card = record { epoch = n; addr = a.addr } in x) epoch ∙ ap (λ n. let x : Card = record { epoch = b.epoch; addr = n } in x) addr

same_id : (a b : RunId) → ¬ (a ≢ b) → a ≡ b
same_id a b h =
    let hi : a.hi ≡ b.hi = same_number a.hi b.hi (λ n. h (λ e. n (ap (λ (x : RunId). x.hi) e))) in
    let lo : a.lo ≡ b.lo = same_number a.lo b.lo (λ n. h (λ e. n (ap (λ (x : RunId). x.lo) e))) in
    ap (λ n. let x : RunId = record { hi = n; lo = a.lo } in x) hi ∙ ap (λ n. let x : RunId = record { hi = b.hi; lo = n } in x) lo

abbrev id_or : RunId → Option RunId → RunId
id_or none None = none
id_or none (Some id) = id

same_candidate : (a b : Option RunId) → ¬ (a ≢ b) → a ≡ b
same_candidate None None h = refl
same_candidate None (Some y) h = absurd (h (λ e. let no : ⊥ = cc in no))
same_candidate (Some x) None h = absurd (h (λ e. let no : ⊥ = cc in no))
same_candidate (Some x) (Some y) h = ap Some (same_id x y (λ n. h (λ e. n (ap (id_or x) e))))

same_master : (a b : KeptMaster) → ¬ (a ≢ b) → a ≡ b
same_master a b h =
    let card : a.card ≡ b.card = same_card a.card b.card (λ n. h (λ e. n (ap (λ (x : KeptMaster). x.card) e))) in
    let voted : a.voted ≡ b.voted = same_number a.voted b.voted (λ n. h (λ e. n (ap (λ (x : KeptMaster). x.voted) e))) in
    let candidate : a.candidate ≡ b.candidate = same_candidate a.candidate b.candidate (λ n. h (λ e. n (ap (λ (x : KeptMaster). x.candidate) e))) in
    ap (λ n. let x : KeptMaster = record { card = n; voted = a.voted; candidate = a.candidate } in x) card
    ∙ ap (λ n. let x : KeptMaster = record { card = b.card; voted = n; candidate = a.candidate } in x) voted
    ∙ ap (λ n. let x : KeptMaster = record { card = b.card; voted = b.voted; candidate = n } in x) candidate

abbrev head_or : KeptMaster → List KeptMaster → KeptMaster
head_or none [] = none
head_or none (one ∷ more) = one

abbrev tail_of : List KeptMaster → List KeptMaster
tail_of [] = []
tail_of (one ∷ more) = more

same_masters : (a b : List KeptMaster) → ¬ (a ≢ b) → a ≡ b
same_masters [] [] h = refl
same_masters [] (y ∷ ys) h = absurd (h (λ e. let no : ⊥ = cc in no))
same_masters (x ∷ xs) [] h = absurd (h (λ e. let no : ⊥ = cc in no))
same_masters (x ∷ xs) (y ∷ ys) h =
    let one : x ≡ y = same_master x y (λ n. h (λ e. n (ap (head_or x) e))) in
    let more : xs ≡ ys = same_masters xs ys (λ n. h (λ e. n (ap tail_of e))) in
    ap (λ z. z ∷ xs) one ∙ ap (λ zs. y ∷ zs) more

pub same_kept : (a b : Kept) → ¬ (a ≢ b) → a ≡ b
same_kept a b h =
    let current : a.current ≡ b.current = same_number a.current b.current (λ n. h (λ e. n (ap (λ (x : Kept). x.current) e))) in
    let masters : a.masters ≡ b.masters = same_masters a.masters b.masters (λ n. h (λ e. n (ap (λ (x : Kept). x.masters) e))) in
    ap (λ n. let x : Kept = record { current = n; masters = a.masters } in x) current ∙ ap (λ n. let x : Kept = record { current = b.current; masters = n } in x) masters

-- ---- how a store ends

pub on_ok : {X E P : Type 0} (answer : Result X E) → is_err answer ≡ false → OnOk answer P → P
on_ok (Ok x) e p = p
on_ok (Err fault) e p = absurd (let no : ⊥ = cc in no)

pub refused_of : {X : Type 0} (answer : Result X StoreFault) → is_err answer ≡ true → ¬ (answer ≡ Err Nothing) → answer ≡ Err Refused
refused_of (Ok x) e n = absurd (let no : ⊥ = cc in no)
refused_of (Err Nothing) e n = absurd (n refl)
refused_of (Err Refused) e n = refl

-- ---- the store

module _ (conf : ConfPlan) (first : Kept) (before : Option (List ℕ)) where
  holds_text : (kept : Kept) (now : Option (List ℕ)) → IfSome now (λ text. text ≡ rewritten conf kept) → Holds conf first before kept now
  holds_text kept None h = tt
  holds_text kept (Some text) h = inr h

  -- the file was written, or nothing in it changed
  pub holds_stored : (later : ConfPlan) (old kept : Kept) (must_store : Bool) (was now : Option (List ℕ)) → later ≡ conf
      → (must_store ≡ true → IfSome now (λ text. text ≡ rewritten later kept)) → (must_store ≡ false → (now ≡ was) × (kept ≡ old))
      → Holds conf first before old was → Holds conf first before kept now
  holds_stored later old kept true was now conf_stays written same h =
      holds_text kept now (subst (λ (c : ConfPlan). IfSome now (λ text. text ≡ rewritten c kept)) conf_stays (written refl))
  holds_stored later old kept false was now conf_stays written same h =
      let both = same refl in subst (λ k. Holds conf first before k now) (sym both.1) (subst (Holds conf first before old) (sym both.0) h)

  -- the old text stands, or the new one
  pub holds_refused : (later : ConfPlan) (old kept : Kept) (was now : Option (List ℕ)) → later ≡ conf → (now ≡ was) ⊎ IfSome now (λ text. text ≡ rewritten later kept)
      → Holds conf first before old was → Holds conf first before old now ⊎ Holds conf first before kept now
  holds_refused later old kept was now conf_stays (inl same) h = inl (subst (Holds conf first before old) (sym same) h)
  holds_refused later old kept was now conf_stays (inr new) h =
      inr (holds_text kept now (subst (λ (c : ConfPlan). IfSome now (λ text. text ≡ rewritten c kept)) conf_stays new))
