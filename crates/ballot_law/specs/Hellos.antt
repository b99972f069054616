-- A hello and its one spelling: eight fields with commas between them.
use Rattle.std.specs.Prelude.{◌≡◌, ℕ, ◌≤◌, ◌<◌, ◌^◌, List, [], ◌∷◌, ◌++◌, decimal}
use Rattle.ballot_law.specs.declared.addresses.Addr.{Addr}
use Rattle.ballot_law.specs.declared.addresses.RunId.{RunId}
use Rattle.ballot_law.specs.declared.replies.Hello.{Hello}
use Rattle.ballot_law.specs.declared.cards.TheConstants.{MAX_EPOCH}
use Rattle.ballot_law.specs.Names.{IsName}
use Rattle.ballot_law.specs.Words.{ip_text, id_text}

abbrev pub with_commas : List (List ℕ) → List ℕ
with_commas [] = []
with_commas (field ∷ fields) = elim fields as (λ _. List ℕ) [ [] ↦ field | next ∷ more ↦ field ++ 44 ∷ with_commas fields ]

-- the sender's ip, port, run id and current epoch; the master's name, ip, port and configuration epoch
abbrev pub hello_fields : Hello → List (List ℕ)
hello_fields hello =
    ip_text hello.addr.ip ∷ decimal hello.addr.port ∷ id_text hello.id ∷ decimal hello.current
    ∷ hello.master ∷ ip_text hello.card.addr.ip ∷ decimal hello.card.addr.port ∷ decimal hello.card.epoch ∷ []

abbrev pub hello_text : Hello → List ℕ
hello_text hello = with_commas (hello_fields hello)

pub record IsAddr (addr : Addr) : Type 0 where
  pub ip : addr.ip < 2 ^ 32
  pub port_low : 1 ≤ addr.port
  pub port_high : addr.port ≤ 65535

pub record IsRunId (id : RunId) : Type 0 where
  pub hi : id.hi < 2 ^ 128
  pub lo : id.lo < 2 ^ 32

-- the hellos that have a spelling
pub record IsHello (hello : Hello) : Type 0 where
  pub addr : IsAddr hello.addr
  pub id : IsRunId hello.id
  pub current : hello.current ≤ MAX_EPOCH
  pub master : IsName hello.master
  pub card_addr : IsAddr hello.card.addr
  pub epoch : hello.card.epoch ≤ MAX_EPOCH

-- the text is this hello's spelling
pub record SpellsHello (text : List ℕ) (hello : Hello) : Type 0 where
  pub is_hello : IsHello hello
  pub spelled : text ≡ hello_text hello
