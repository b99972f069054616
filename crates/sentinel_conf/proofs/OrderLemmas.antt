-- The orders of addresses, run ids, Sentinels and names, in each of which only equal values tie.
use Rattle.std.proofs.Common.{◌≡◌, ℕ, Bool, true, false, ◌&&◌, ◌||◌, eqb, ltb, List, [], ◌∷◌, refl, ap, sym, ◌∙◌, arith, ◌⊎◌, inl, inr}
use Rattle.std.proofs.lemmas.Bool.{and_parts, and_from, or_cases, or_left, or_right, or_from, or_parts, and_right, and_cases, true≢false}
use Rattle.std.proofs.lemmas.Bool.Decides.{nat_tests}
use Rattle.ballot_law.specs.declared.addresses.Addr.{Addr}
use Rattle.ballot_law.specs.declared.addresses.RunId.{RunId}
use Rattle.ballot_law.specs.declared.rosters.Member.{Member}
use Rattle.ballot_law.specs.Orders.{same_bytes, same_addr, same_id, addr_before, id_before, bytes_before}
use Rattle.sentinel_conf.specs.Meaning.{member_before}
use Rattle.sentinel_conf.proofs.SetLemmas.{IsOrder}
use Rattle.ballot_law.proofs.WordLemmas.{same_bytes-refl, same_bytes-true}
use Rattle.ballot_law.proofs.Rising.{bytes_strict}
use Rattle.ballot_law.proofs.HelloLemmas.{addr_one}

-- a test of equality
pub record IsSame {X : Type 0} (same : X → X → Bool) : Type 0 where
  pub of_equal : (x : X) → same x x ≡ true
  pub equal : (x y : X) → same x y ≡ true → x ≡ y

pub same_number : IsSame eqb
same_number = record { of_equal = λ x. let e : eqb x x ≡ true = grind (arith, nat_tests) in e; equal = λ x y h. let e : x ≡ y = grind (arith, nat_tests) in e }

number_order : IsOrder ltb
number_order = record {
  strict = record {
    irreflexive = λ x. let e : ltb x x ≡ false = grind (arith, nat_tests) in e;
    transitive = λ x y z h g. let e : ltb x z ≡ true = grind (arith, nat_tests) in e;
  };
  tied = λ x y h g. let e : x ≡ y = grind (arith, nat_tests) in e;
}

-- by one part, and where it is the same by another
module _ {X A B : Type 0} (p : X → A) (q : X → B) (whole : (x y : X) → p x ≡ p y → q x ≡ q y → x ≡ y) (f : A → A → Bool) (same : A → A → Bool) (g : B → B → Bool) where
  abbrev lex : X → X → Bool
  lex x y = f (p x) (p y) || (same (p x) (p y) && g (q x) (q y))

  module _ (o : IsOrder f) (s : IsSame same) (u : IsOrder g) where
    chain_by : (x y z : X) → (f (p x) (p y) ≡ true) ⊎ ((same (p x) (p y) && g (q x) (q y)) ≡ true) → (f (p y) (p z) ≡ true) ⊎ ((same (p y) (p z) && g (q y) (q z)) ≡ true) →
        lex x z ≡ true
    chain_by x y z (inl h) (inl k) = or_left (f (p x) (p z)) (same (p x) (p z) && g (q x) (q z)) (o.strict.transitive (p x) (p y) (p z) h k)
    chain_by x y z (inl h) (inr k) =
        let both = and_parts (same (p y) (p z)) (g (q y) (q z)) k in
        or_left (f (p x) (p z)) (same (p x) (p z) && g (q x) (q z)) (ap (f (p x)) (sym (s.equal (p y) (p z) both.0)) ∙ h)
    chain_by x y z (inr h) (inl k) =
        let both = and_parts (same (p x) (p y)) (g (q x) (q y)) h in
        or_left (f (p x) (p z)) (same (p x) (p z) && g (q x) (q z)) (ap (λ a. f a (p z)) (s.equal (p x) (p y) both.0) ∙ k)
    chain_by x y z (inr h) (inr k) =
        let one = and_parts (same (p x) (p y)) (g (q x) (q y)) h in
        let two = and_parts (same (p y) (p z)) (g (q y) (q z)) k in
        or_right (f (p x) (p z)) (same (p x) (p z) && g (q x) (q z))
        (and_from (same (p x) (p z)) (g (q x) (q z)) (ap (λ a. same a (p z)) (s.equal (p x) (p y) one.0) ∙ two.0) (u.strict.transitive (q x) (q y) (q z) one.1 two.1))

    first_ties : (x y : X) → lex x y ≡ false → lex y x ≡ false → p x ≡ p y
    first_ties x y h k =
        o.tied (p x) (p y)
        (or_parts (f (p x) (p y)) (same (p x) (p y) && g (q x) (q y)) h).0
        (or_parts (f (p y) (p x)) (same (p y) (p x) && g (q y) (q x)) k).0

    second_free_by : (x y : X) → p x ≡ p y → (same (p x) (p y) ≡ false) ⊎ (g (q x) (q y) ≡ false) → g (q x) (q y) ≡ false
    second_free_by x y e (inl h) = absurd (true≢false (sym (s.of_equal (p x)) ∙ ap (same (p x)) e ∙ h))
    second_free_by x y e (inr h) = h

    second_free : (x y : X) → p x ≡ p y → lex x y ≡ false → g (q x) (q y) ≡ false
    second_free x y e h =
        second_free_by x y e
        (and_cases (same (p x) (p y)) (g (q x) (q y)) (or_parts (f (p x) (p y)) (same (p x) (p y) && g (q x) (q y)) h).1)

    pub lex_order : IsOrder lex
    lex_order = record {
      strict = record {
        irreflexive = λ x.
            or_from (f (p x) (p x)) (same (p x) (p x) && g (q x) (q x)) (o.strict.irreflexive (p x)) (and_right (same (p x) (p x)) (g (q x) (q x)) (u.strict.irreflexive (q x)));
        transitive = λ x y z h k.
            chain_by x y z (or_cases (f (p x) (p y)) (same (p x) (p y) && g (q x) (q y)) h) (or_cases (f (p y) (p z)) (same (p y) (p z) && g (q y) (q z)) k);
      };
      tied = λ x y h k.
          let e = first_ties x y h k in
          whole x y e (u.tied (q x) (q y) (second_free x y e h) (second_free y x (sym e) k));
    }

    pub lex_same : (b : B → B → Bool) → IsSame b → IsSame (λ x y. same (p x) (p y) && b (q x) (q y))
    lex_same b t = record {
      of_equal = λ x. and_from (same (p x) (p x)) (b (q x) (q x)) (s.of_equal (p x)) (t.of_equal (q x));
      equal = λ x y h. let both = and_parts (same (p x) (p y)) (b (q x) (q y)) h in whole x y (s.equal (p x) (p y) both.0) (t.equal (q x) (q y) both.1);
    }

whole_id : (a b : RunId) → a.hi ≡ b.hi → a.lo ≡ b.lo → a ≡ b
whole_id a b e f = ap (λ i. let x : RunId = record { hi = i; lo = a.lo } in x) e ∙ ap (λ p. let x : RunId = record { hi = b.hi; lo = p } in x) f

whole_member : (a b : Member) → a.id ≡ b.id → a.addr ≡ b.addr → a ≡ b
whole_member a b e f = ap (λ i. let x : Member = record { id = i; addr = a.addr } in x) e ∙ ap (λ p. let x : Member = record { id = b.id; addr = p } in x) f

pub addr_order : IsOrder addr_before
addr_order = lex_order (λ (a : Addr). a.ip) (λ (a : Addr). a.port) addr_one ltb eqb ltb number_order same_number number_order

pub addr_same : IsSame same_addr
addr_same = lex_same (λ (a : Addr). a.ip) (λ (a : Addr). a.port) addr_one ltb eqb ltb number_order same_number number_order eqb same_number

pub id_order : IsOrder id_before
id_order = lex_order (λ (a : RunId). a.hi) (λ (a : RunId). a.lo) whole_id ltb eqb ltb number_order same_number number_order

pub id_same : IsSame same_id
id_same = lex_same (λ (a : RunId). a.hi) (λ (a : RunId). a.lo) whole_id ltb eqb ltb number_order same_number number_order eqb same_number

pub member_order : IsOrder member_before
member_order = lex_order (λ (a : Member). a.id) (λ (a : Member). a.addr) whole_member id_before same_id addr_before id_order id_same addr_order

pub bytes_same : IsSame same_bytes
bytes_same = record { of_equal = same_bytes-refl; equal = same_bytes-true }

bytes_free_by : (x y : ℕ) (xs ys : List ℕ) → x ≡ y → (eqb x y ≡ false) ⊎ (bytes_before xs ys ≡ false) → bytes_before xs ys ≡ false
bytes_free_by x y xs ys e (inl h) = absurd (true≢false (sym (same_number.of_equal x) ∙ ap (eqb x) e ∙ h))
bytes_free_by x y xs ys e (inr h) = h

bytes_tied : (xs ys : List ℕ) → bytes_before xs ys ≡ false → bytes_before ys xs ≡ false → xs ≡ ys
bytes_tied [] [] h k = refl
bytes_tied [] (y ∷ ys) h k = cc
bytes_tied (x ∷ xs) [] h k = cc
bytes_tied (x ∷ xs) (y ∷ ys) h k =
    let a = or_parts (ltb x y) (eqb x y && bytes_before xs ys) h in
    let b = or_parts (ltb y x) (eqb y x && bytes_before ys xs) k in
    let e : x ≡ y = number_order.tied x y a.0 b.0 in
    let rest : xs ≡ ys =
    bytes_tied xs ys (bytes_free_by x y xs ys e (and_cases (eqb x y) (bytes_before xs ys) a.1)) (bytes_free_by y x ys xs (sym e) (and_cases (eqb y x) (bytes_before ys xs) b.1)) in
    cc

pub bytes_order : IsOrder bytes_before
bytes_order = record { strict = bytes_strict; tied = bytes_tied }
