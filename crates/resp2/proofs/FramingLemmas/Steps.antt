-- A step that did not fail, and what stays of a reading when more bytes come.
use Rattle.std.proofs.Common.{◌≡◌, ℕ, Bool, true, false, cond, List, ◌++◌, ◌⊎◌, Option, Some, None, Result, Ok, Err, refl, ap, ◌∙◌, inl, inr}
use Rattle.resp2.specs.declared.framing.fault.Unread.{Unread}
use Rattle.resp2.specs.declared.framing.fault.Unread.TheVariants.{NeedsMore, Faulty}
use Rattle.resp2.specs.declared.framing.fault.Stopped.{Stopped}
use Rattle.resp2.specs.declared.framing.fault.Stopped.TheVariants.{At, Memory}
use Rattle.ballot_law.specs.Results.{◌>>=◌}
use Rattle.resp2.specs.Framing.Reading.{if_some, Fails, Stays}

-- the value of a step that did not fail
pub bind_ok : {A B : Type 0} (r : Result A Unread) (f : A → Result B Unread) (y : B) → (r >>= f) ≡ Ok y → (x : A) × (r ≡ Ok x) × (f x ≡ Ok y)
bind_ok (Ok x) f y e = (x, refl, e)
bind_ok (Err d) f y e = absurd cc

-- a test that did not fail
pub guard_ok : {A : Type 0} (b : Bool) (d : Unread) (r : Result A Unread) (y : A) → cond b (Err d) r ≡ Ok y → (b ≡ false) × (r ≡ Ok y)
guard_ok true d r y e = absurd cc
guard_ok false d r y e = (refl, e)

pub passed_ok : {A : Type 0} (b : Bool) (d : Unread) (r : Result A Unread) (y : A) → cond b r (Err d) ≡ Ok y → (b ≡ true) × (r ≡ Ok y)
passed_ok true d r y e = (refl, e)
passed_ok false d r y e = absurd cc

-- which way a test went
pub chosen : {A : Type 0} (b : Bool) (x y z : A) → cond b x y ≡ z → ((b ≡ true) × (x ≡ z)) ⊎ ((b ≡ false) × (y ≡ z))
chosen true x y z e = inl (refl, e)
chosen false x y z e = inr (refl, e)

pub some_ok : {A B : Type 0} (o : Option A) (f : A → Result B Unread) (d : Unread) (y : B) → if_some o f (Err d) ≡ Ok y → (x : A) × (o ≡ Some x) × (f x ≡ Ok y)
some_ok (Some x) f d y e = (x, refl, e)
some_ok None f d y e = absurd cc

abbrev done : {A : Type 0} → A → Result A Unread
done x = Ok x

pub ok_is : {A : Type 0} (x y : A) → done x ≡ done y → x ≡ y
ok_is x y e = cc

pub stays_then : {A B : Type 0} (p : List ℕ) (r s : Result (A × List ℕ) Unread) (f g : A × List ℕ → Result (B × List ℕ) Unread)
    → Stays p r s → ((x : A) (rest : List ℕ) → Stays p (f (x, rest)) (g (x, rest ++ p))) → Stays p (r >>= f) (s >>= g)
stays_then p (Ok x) s f g h step = rw h (step x.0 x.1)
stays_then p (Err NeedsMore) s f g h step = tt
stays_then p (Err (Faulty e)) s f g h step = rw h refl

-- the same where the first step reads no bytes
pub stays_after : {A B : Type 0} (p : List ℕ) (r : Result A Unread) (f g : A → Result (B × List ℕ) Unread) → ((x : A) → Stays p (f x) (g x)) → Stays p (r >>= f) (r >>= g)
stays_after p (Ok x) f g step = step x
stays_after p (Err NeedsMore) f g step = tt
stays_after p (Err (Faulty e)) f g step = refl

pub stays_cond : {A : Type 0} (p : List ℕ) (b : Bool) (r s u v : Result (A × List ℕ) Unread) → Stays p r s → Stays p u v → Stays p (cond b r u) (cond b s v)
stays_cond p true r s u v = λ h k. h
stays_cond p false r s u v = λ h k. k

pub stays_some : {A B : Type 0} (p : List ℕ) (o : Option A) (f g : A → Result (B × List ℕ) Unread) (r s : Result (B × List ℕ) Unread) → ((x : A) → Stays p (f x) (g x)) →
    Stays p r s → Stays p (if_some o f r) (if_some o g s)
stays_some p (Some x) f g r s = λ h k. h x
stays_some p None f g r s = λ h k. k

-- a reading that stopped, from the parts of a pattern on it
pub fails_at : {Y : Type 0} (read : Result Y Unread) (stopped : Stopped) (u v : Unread) → Fails stopped read → stopped ≡ At u → u ≡ v → read ≡ Err v
fails_at read (At w) u v h e d = let same : w ≡ v = cc in h ∙ ap (λ (x : Unread). Err x) same
fails_at read Memory u v h e d = absurd cc
