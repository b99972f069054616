-- A hello has one spelling, and no two hellos share theirs: the fields are had back by splitting at the commas.
use Rattle.std.proofs.Common.{◌≡◌, ℕ, ◌≤◌, ◌<◌, ◌^◌, true, false, eqb, List, [], ◌∷◌, ◌++◌, refl, ap, sym, ◌∙◌, arith}
use Rattle.std.specs.Prelude.{◌==◌, decimal}
use Rattle.std.specs.List.{AllByRecursion}
use Rattle.std.proofs.lemmas.Bool.Decides.{nat_tests}
use Rattle.std.proofs.lemmas.List.Elements.{recursion_from_All}
use Rattle.std.proofs.lemmas.Option.{same_Some}
use Rattle.ballot_law.specs.declared.addresses.Addr.{Addr}
use Rattle.ballot_law.specs.declared.addresses.RunId.{RunId}
use Rattle.ballot_law.specs.declared.cards.Card.{Card}
use Rattle.ballot_law.specs.declared.cards.TheConstants.{MAX_EPOCH}
use Rattle.ballot_law.specs.declared.replies.Hello.{Hello}
use Rattle.ballot_law.specs.Hellos.{with_commas, hello_fields, hello_text, IsAddr, IsRunId, IsHello}
use Rattle.ballot_law.specs.Names.{IsName, IsNameByte}
use Rattle.ballot_law.specs.Words.{number, ip, ip_text, run_id, id_text, with_first}
use Rattle.ballot_law.proofs.WordLemmas.{ArePlain, IsWord, spells_decimal, number-spells, ip-ip_text, word_ip_text, word_decimal, run_id-id_text, word_id_text}

-- the fields around the commas
abbrev pub fields_of : List ℕ → List (List ℕ)
fields_of [] = [] ∷ []
fields_of (b ∷ bs) = elim (b == 44) [ true ↦ [] ∷ fields_of bs | false ↦ with_first b (fields_of bs) ]

not_comma : (b : ℕ) → 45 ≤ b → eqb b 44 ≡ false
not_comma b h = grind (arith, nat_tests)

fields_step : (b : ℕ) (bs : List ℕ) → 45 ≤ b → fields_of (b ∷ bs) ≡ with_first b (fields_of bs)
fields_step b bs h = ap (λ t. elim t as (λ _. List (List ℕ)) [ true ↦ [] ∷ fields_of bs | false ↦ with_first b (fields_of bs) ]) (not_comma b h)

pub fields_of-more : (ds rest : List ℕ) → ArePlain ds → fields_of (ds ++ 44 ∷ rest) ≡ ds ∷ fields_of rest
fields_of-more [] rest h = refl
fields_of-more (d ∷ ds) rest h = fields_step d (ds ++ 44 ∷ rest) h.0 ∙ ap (with_first d) (fields_of-more ds rest h.1)

pub fields_of-last : (ds : List ℕ) → ArePlain ds → fields_of ds ≡ ds ∷ []
fields_of-last [] h = refl
fields_of-last (d ∷ ds) h = fields_step d ds h.0 ∙ ap (with_first d) (fields_of-last ds h.1)

pub fields_of-with_commas : (f : List ℕ) (fs : List (List ℕ)) → ArePlain f → AllByRecursion ArePlain fs → fields_of (with_commas (f ∷ fs)) ≡ f ∷ fs
fields_of-with_commas f [] h hs = fields_of-last f h
fields_of-with_commas f (g ∷ gs) h hs = fields_of-more f (with_commas (g ∷ gs)) h ∙ ap (λ t. f ∷ t) (fields_of-with_commas g gs hs.0 hs.1)

pub plain_word : (w : List ℕ) → IsWord w → ArePlain w
plain_word [] h = tt
plain_word (b ∷ bs) h = h

plain_byte : (b : ℕ) → IsNameByte b → 45 ≤ b
plain_byte b h = grind arith

plain_bytes : (bs : List ℕ) → AllByRecursion IsNameByte bs → ArePlain bs
plain_bytes [] h = tt
plain_bytes (b ∷ bs) h = (plain_byte b h.0, plain_bytes bs h.1)

pub plain_name : (bs : List ℕ) → IsName bs → ArePlain bs
plain_name bs h = plain_bytes bs (recursion_from_All IsNameByte bs h.2)

-- each field is bytes from `-` on, so none holds a comma
pub fields_of-hello_text : (h : Hello) → IsHello h → fields_of (hello_text h) ≡ hello_fields h
fields_of-hello_text h w =
    fields_of-with_commas (ip_text h.addr.ip)
    (decimal h.addr.port ∷ id_text h.id ∷ decimal h.current ∷ h.master ∷ ip_text h.card.addr.ip ∷ decimal h.card.addr.port ∷ decimal h.card.epoch ∷ [])
    (plain_word (ip_text h.addr.ip) (word_ip_text h.addr.ip w.addr.ip)) (
      plain_word (decimal h.addr.port) (word_decimal h.addr.port (let u : h.addr.port ≤ 65535 = w.addr.port_high in omega arith)),
      (
        plain_word (id_text h.id) (word_id_text h.id w.id.hi w.id.lo),
        (
          plain_word (decimal h.current) (word_decimal h.current (let u : h.current ≤ MAX_EPOCH = w.current in omega arith)),
          (
            plain_name h.master w.master,
            (
              plain_word (ip_text h.card.addr.ip) (word_ip_text h.card.addr.ip w.card_addr.ip),
              (
                plain_word (decimal h.card.addr.port) (word_decimal h.card.addr.port (let u : h.card.addr.port ≤ 65535 = w.card_addr.port_high in omega arith)),
                (
                  plain_word (decimal h.card.epoch) (word_decimal h.card.epoch (let u : h.card.epoch ≤ MAX_EPOCH = w.epoch in omega arith)),
                  tt,
                ),
              ),
            ),
          ),
        ),
      ),
    )

-- the readers have each value back from its word
pub decimal_one : (m n : ℕ) → m < 2 ^ 64 → n < 2 ^ 64 → decimal m ≡ decimal n → m ≡ n
decimal_one m n h k e =
    same_Some m n (sym (number-spells m (decimal m) (spells_decimal m h)) ∙ ap number e ∙ number-spells n (decimal n) (spells_decimal n k))

pub ip_text_one : (m n : ℕ) → m < 2 ^ 32 → n < 2 ^ 32 → ip_text m ≡ ip_text n → m ≡ n
ip_text_one m n h k e = same_Some m n (sym (ip-ip_text m h) ∙ ap ip e ∙ ip-ip_text n k)

pub id_text_one : (a b : RunId) → IsRunId a → IsRunId b → id_text a ≡ id_text b → a ≡ b
id_text_one a b h k e = same_Some a b (sym (run_id-id_text a h.hi h.lo) ∙ ap run_id e ∙ run_id-id_text b k.hi k.lo)

pub addr_one : (a b : Addr) → a.ip ≡ b.ip → a.port ≡ b.port → a ≡ b
addr_one a b i p = λ t. record { ip = i t; port = p t }

card_one : (a b : Card) → a.epoch ≡ b.epoch → a.addr ≡ b.addr → a ≡ b
card_one a b e d = λ t. record { epoch = e t; addr = d t }

hello_one : (a b : Hello) → a.addr ≡ b.addr → a.id ≡ b.id → a.current ≡ b.current → a.master ≡ b.master → a.card ≡ b.card → a ≡ b
hello_one a b d i c m k = λ t. record { addr = d t; id = i t; current = c t; master = m t; card = k t }

pub addr_words_one : (a b : Addr) → IsAddr a → IsAddr b → ip_text a.ip ≡ ip_text b.ip → decimal a.port ≡ decimal b.port → a ≡ b
addr_words_one a b h k i p =
    addr_one a b (ip_text_one a.ip b.ip h.ip k.ip i)
    (decimal_one a.port b.port (let u : a.port ≤ 65535 = h.port_high in omega arith) (let u : b.port ≤ 65535 = k.port_high in omega arith) p)

epoch_one : (m n : ℕ) → m ≤ MAX_EPOCH → n ≤ MAX_EPOCH → decimal m ≡ decimal n → m ≡ n
epoch_one m n h k e = decimal_one m n (omega arith) (omega arith) e

record SameFields (a b : Hello) : Type 0 where
  pub ip : ip_text a.addr.ip ≡ ip_text b.addr.ip
  pub port : decimal a.addr.port ≡ decimal b.addr.port
  pub id : id_text a.id ≡ id_text b.id
  pub current : decimal a.current ≡ decimal b.current
  pub master : a.master ≡ b.master
  pub card_ip : ip_text a.card.addr.ip ≡ ip_text b.card.addr.ip
  pub card_port : decimal a.card.addr.port ≡ decimal b.card.addr.port
  pub epoch : decimal a.card.epoch ≡ decimal b.card.epoch

fields_one : (a b : Hello) → hello_fields a ≡ hello_fields b → SameFields a b
fields_one a b e = record { ip = cc; port = cc; id = cc; current = cc; master = cc; card_ip = cc; card_port = cc; epoch = cc }

fields_hello_one : (a b : Hello) → IsHello a → IsHello b → SameFields a b → a ≡ b
fields_hello_one a b h k s =
    hello_one a b (addr_words_one a.addr b.addr h.addr k.addr s.ip s.port) (id_text_one a.id b.id h.id k.id s.id) (epoch_one a.current b.current h.current k.current s.current)
    s.master
    (card_one a.card b.card (epoch_one a.card.epoch b.card.epoch h.epoch k.epoch s.epoch) (addr_words_one a.card.addr b.card.addr h.card_addr k.card_addr s.card_ip s.card_port))

pub hello_text_one : (a b : Hello) → IsHello a → IsHello b → hello_text a ≡ hello_text b → a ≡ b
hello_text_one a b h k e =
    fields_hello_one a b h k (fields_one a b (sym (fields_of-hello_text a h) ∙ ap fields_of e ∙ fields_of-hello_text b k))
