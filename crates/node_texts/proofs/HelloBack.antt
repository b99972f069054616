-- What is read as a hello is the spelling of that hello.
use Rattle.std.proofs.Common.{◌≡◌, ℕ, ◌≤◌, Bool, true, false, not, eqb, List, [], ◌∷◌, refl, ap, sym, ◌∙◌, subst, arith, Option, Some, None, Result, Ok, Err}
use Rattle.std.specs.Prelude.{decimal}
use Rattle.std.specs.Result.{IfOk}
use Rattle.std.specs.Str.{is_utf8}
use Rattle.std.proofs.lemmas.Bool.{and_parts, not-true}
use Rattle.std.proofs.lemmas.Bool.Decides.{nat_tests}
use Rattle.ballot_law.specs.declared.addresses.Addr.{Addr}
use Rattle.ballot_law.specs.declared.addresses.RunId.{RunId}
use Rattle.ballot_law.specs.declared.cards.TheConstants.{MAX_EPOCH}
use Rattle.ballot_law.specs.declared.replies.Hello.{Hello}
use Rattle.ballot_law.specs.Hellos.{with_commas, IsHello, SpellsHello}
use Rattle.ballot_law.specs.NameWords as words
use Rattle.ballot_law.specs.Names.{IsName}
use Rattle.ballot_law.specs.Results.{◌>>=◌, wanted}
use Rattle.ballot_law.specs.Words.{are_digits, has_leading_zero, is_decimal, number_within, canonical_port, name, with_first, cut_at, ip, ip_text, run_id, id_text}
use Rattle.ballot_law.proofs.WordLemmas.{some_if-some, some_if-is, number_within-is}
use Rattle.ballot_law.proofs.CutLemmas.{some_parts}
use Rattle.tokens.proofs.NumberLemmas.{canonical_by_lead}
use Rattle.node_texts.specs.declared.faults.TextFault.{TextFault}
use Rattle.node_texts.specs.declared.faults.TextFault.TheVariants.{BadField, EpochTooLarge}
use Rattle.node_texts.specs.declared.hello_fields.Sender.{Sender}
use Rattle.node_texts.specs.declared.hello_fields.OfMaster.{OfMaster}
use Rattle.node_texts.specs.Faults.{unless_not}
use Rattle.node_texts.specs.Hellos.{epoch, sender_of, master_of, hello_from, hello_of_parts, hello_of}
use Rattle.node_texts.proofs.WordsBack.{IsWithin, canonical_is, ip_is, run_id_is}

-- ---- the commas

commas_first : (b : ℕ) (p : List ℕ) (ps : List (List ℕ)) → with_commas (with_first b (p ∷ ps)) ≡ b ∷ with_commas (p ∷ ps)
commas_first b p [] = refl
commas_first b p (q ∷ qs) = refl

parts_by : (b : ℕ) (bs : List ℕ) (t : Bool) → eqb b 44 ≡ t → cut_at 44 (b ∷ bs) ≡ elim t as (λ _. List (List ℕ)) [ true ↦ [] ∷ cut_at 44 bs | false ↦ with_first b (cut_at 44 bs) ]
parts_by b bs t e = ap (λ t. elim t as (λ _. List (List ℕ)) [ true ↦ [] ∷ cut_at 44 bs | false ↦ with_first b (cut_at 44 bs) ]) e

commas_by : (b : ℕ) (bs : List ℕ) (t : Bool) → eqb b 44 ≡ t → with_commas (cut_at 44 bs) ≡ bs → with_commas (cut_at 44 (b ∷ bs)) ≡ b ∷ bs
commas_by b bs true e h =
    let comma : b ≡ 44 = grind (arith, nat_tests, e) in
    let s = some_parts 44 bs in
    ap with_commas (parts_by b bs true e ∙ ap (λ ps. [] ∷ ps) s.2) ∙ ap (λ ps. 44 ∷ with_commas ps) (sym s.2) ∙ ap (λ t. 44 ∷ t) h ∙ ap (λ d. d ∷ bs) (sym comma)
commas_by b bs false e h =
    let s = some_parts 44 bs in
    ap with_commas (parts_by b bs false e ∙ ap (with_first b) s.2) ∙ commas_first b s.0 s.1 ∙ ap (λ ps. b ∷ with_commas ps) (sym s.2) ∙ ap (λ t. b ∷ t) h

pub with_commas-parts : (bs : List ℕ) → with_commas (cut_at 44 bs) ≡ bs
with_commas-parts [] = refl
with_commas-parts (b ∷ bs) = commas_by b bs (eqb b 44) refl (with_commas-parts bs)

-- ---- epochs and names

epoch_by : (bytes : List ℕ) (n : ℕ) → is_decimal bytes ≡ true → number_within 0 MAX_EPOCH bytes ≡ Some n → IsWithin 0 MAX_EPOCH n bytes
epoch_by bytes n d h =
    let range = number_within-is 0 MAX_EPOCH bytes n h in
    let both = and_parts (are_digits bytes) (not (has_leading_zero bytes)) d in
    let most : n ≤ 281474976710655 = range.1 in
    canonical_is 0 MAX_EPOCH n bytes (canonical_by_lead 0 MAX_EPOCH n bytes false (omega arith) h (not-true (has_leading_zero bytes) both.1))

pub epoch_is : (bytes : List ℕ) (n : ℕ) → epoch bytes ≡ Some (Some n) → IsWithin 0 MAX_EPOCH n bytes
epoch_is bytes n h =
    epoch_by bytes n (some_if-some (is_decimal bytes) (number_within 0 MAX_EPOCH bytes) (Some n) h) (some_if-is (is_decimal bytes) (number_within 0 MAX_EPOCH bytes) (Some n) h).1

pub record IsNamed (bytes found : List ℕ) : Type 0 where
  pub text : bytes ≡ found
  pub valid : IsName found

pub name_found : (bytes found : List ℕ) → name bytes ≡ Some found → IsNamed bytes found
name_found bytes found h = let both = words.name_found bytes found h in record { text = both.0; valid = both.1 }

-- ---- readings that went well

record SenderRead (a b c d : List ℕ) (s : Sender) : Type 0 where
  pub ip : ip a ≡ Some s.addr.ip
  pub port : canonical_port b ≡ Some s.addr.port
  pub id : run_id c ≡ Some s.id
  pub current : epoch d ≡ Some s.current

sender_by : (a b c d : List ℕ) (s : Sender) (oi op : Option ℕ) (oid : Option RunId) (oe : Option (Option ℕ)) → ip a ≡ oi → canonical_port b ≡ op → run_id c ≡ oid → epoch d ≡ oe
    → (wanted (BadField 1) oi >>= λ i. wanted (BadField 2) op >>= λ p. wanted (BadField 3) oid >>= λ id. wanted (BadField 4) oe >>= λ current. Ok
    (record { addr = record { ip = i; port = p }; id = id; current = current })) ≡ Ok s
    → SenderRead a b c d s
sender_by a b c d s None op oid oe ei ep eid ee h = absurd cc
sender_by a b c d s (Some i) None oid oe ei ep eid ee h = absurd cc
sender_by a b c d s (Some i) (Some p) None oe ei ep eid ee h = absurd cc
sender_by a b c d s (Some i) (Some p) (Some id) None ei ep eid ee h = absurd cc
sender_by a b c d s (Some i) (Some p) (Some id) (Some e) ei ep eid ee h =
    let r : Sender = record { addr = record { ip = i; port = p }; id = id; current = e } in
    let same : r ≡ s = cc in
    record {
      ip = ei ∙ ap (λ (x : Sender). Some x.addr.ip) same;
      port = ep ∙ ap (λ (x : Sender). Some x.addr.port) same;
      id = eid ∙ ap (λ (x : Sender). Some x.id) same;
      current = ee ∙ ap (λ (x : Sender). Some x.current) same;
    }

record MasterRead (a b c d : List ℕ) (m : OfMaster) : Type 0 where
  pub name : name a ≡ Some m.name
  pub ip : ip b ≡ Some m.addr.ip
  pub port : canonical_port c ≡ Some m.addr.port
  pub epoch : epoch d ≡ Some m.epoch

master_by : (a b c d : List ℕ) (m : OfMaster) (on : Option (List ℕ)) (oi op : Option ℕ) (oe : Option (Option ℕ)) → name a ≡ on → ip b ≡ oi → canonical_port c ≡ op → epoch d ≡ oe
    → (wanted (BadField 5) on >>= λ master. wanted (BadField 6) oi >>= λ i. wanted (BadField 7) op >>= λ p. wanted (BadField 8) oe >>= λ epoch. Ok
    (record { name = master; addr = record { ip = i; port = p }; epoch = epoch })) ≡ Ok m
    → MasterRead a b c d m
master_by a b c d m None oi op oe en ei ep ee h = absurd cc
master_by a b c d m (Some n) None op oe en ei ep ee h = absurd cc
master_by a b c d m (Some n) (Some i) None oe en ei ep ee h = absurd cc
master_by a b c d m (Some n) (Some i) (Some p) None en ei ep ee h = absurd cc
master_by a b c d m (Some n) (Some i) (Some p) (Some e) en ei ep ee h =
    let r : OfMaster = record { name = n; addr = record { ip = i; port = p }; epoch = e } in
    let same : r ≡ m = cc in
    record {
      name = en ∙ ap (λ (x : OfMaster). Some x.name) same;
      ip = ei ∙ ap (λ (x : OfMaster). Some x.addr.ip) same;
      port = ep ∙ ap (λ (x : OfMaster). Some x.addr.port) same;
      epoch = ee ∙ ap (λ (x : OfMaster). Some x.epoch) same;
    }

record HelloMade (s : Sender) (m : OfMaster) (hello : Hello) : Type 0 where
  pub addr : s.addr ≡ hello.addr
  pub id : s.id ≡ hello.id
  pub current : s.current ≡ Some hello.current
  pub name : m.name ≡ hello.master
  pub master_addr : m.addr ≡ hello.card.addr
  pub epoch : m.epoch ≡ Some hello.card.epoch

made_by : (s : Sender) (m : OfMaster) (hello : Hello) (oc oe : Option ℕ) → s.current ≡ oc → m.epoch ≡ oe
    → (wanted EpochTooLarge oc >>= λ current. wanted EpochTooLarge oe >>= λ epoch. Ok
    (record { addr = s.addr; id = s.id; current = current; master = m.name; card = record { epoch = epoch; addr = m.addr } })) ≡ Ok hello
    → HelloMade s m hello
made_by s m hello None oe ec ee h = absurd cc
made_by s m hello (Some c) None ec ee h = absurd cc
made_by s m hello (Some c) (Some e) ec ee h =
    let r : Hello = record { addr = s.addr; id = s.id; current = c; master = m.name; card = record { epoch = e; addr = m.addr } } in
    let same : r ≡ hello = cc in
    record {
      addr = ap (λ (x : Hello). x.addr) same;
      id = ap (λ (x : Hello). x.id) same;
      current = ec ∙ ap (λ (x : Hello). Some x.current) same;
      name = ap (λ (x : Hello). x.master) same;
      master_addr = ap (λ (x : Hello). x.card.addr) same;
      epoch = ee ∙ ap (λ (x : Hello). Some x.card.epoch) same;
    }

record WordsOf (a b c d e f g h : List ℕ) (hello : Hello) : Type 0 where
  pub valid : IsHello hello
  pub ip : a ≡ ip_text hello.addr.ip
  pub port : b ≡ decimal hello.addr.port
  pub id : c ≡ id_text hello.id
  pub current : d ≡ decimal hello.current
  pub name : e ≡ hello.master
  pub master_ip : f ≡ ip_text hello.card.addr.ip
  pub master_port : g ≡ decimal hello.card.addr.port
  pub epoch : h ≡ decimal hello.card.epoch

words_of : (a b c d e f g h : List ℕ) (s : Sender) (m : OfMaster) (hello : Hello) → SenderRead a b c d s → MasterRead e f g h m → HelloMade s m hello →
    WordsOf a b c d e f g h hello
words_of a b c d e f g h s m hello sr mr made =
    let i = ip_is a hello.addr.ip (sr.ip ∙ ap (λ (x : Addr). Some x.ip) made.addr) in
    let p = canonical_is 1 65535 hello.addr.port b (sr.port ∙ ap (λ (x : Addr). Some x.port) made.addr) in
    let id = run_id_is c hello.id (sr.id ∙ ap (λ (x : RunId). Some x) made.id) in
    let now = epoch_is d hello.current (sr.current ∙ ap (λ (x : Option ℕ). Some x) made.current) in
    let n = name_found e hello.master (mr.name ∙ ap (λ (x : List ℕ). Some x) made.name) in
    let j = ip_is f hello.card.addr.ip (mr.ip ∙ ap (λ (x : Addr). Some x.ip) made.master_addr) in
    let q = canonical_is 1 65535 hello.card.addr.port g (mr.port ∙ ap (λ (x : Addr). Some x.port) made.master_addr) in
    let last = epoch_is h hello.card.epoch (mr.epoch ∙ ap (λ (x : Option ℕ). Some x) made.epoch) in
    record {
      valid = record {
        addr = record { ip = i.most; port_low = p.least; port_high = p.most };
        id = id.valid;
        current = now.most;
        master = n.valid;
        card_addr = record { ip = j.most; port_low = q.least; port_high = q.most };
        epoch = last.most;
      };
      ip = i.text;
      port = p.text;
      id = id.text;
      current = now.text;
      name = n.text;
      master_ip = j.text;
      master_port = q.text;
      epoch = last.text;
    }

spells : (a b c d e f g h : List ℕ) (hello : Hello) → WordsOf a b c d e f g h hello → SpellsHello (with_commas (a ∷ b ∷ c ∷ d ∷ e ∷ f ∷ g ∷ h ∷ [])) hello
spells a b c d e f g h hello w =
    let words : a ∷ b ∷ c ∷ d ∷ e ∷ f ∷ g ∷ h ∷ []
    ≡ ip_text hello.addr.ip ∷ decimal hello.addr.port ∷ id_text hello.id ∷ decimal hello.current ∷ hello.master ∷ ip_text hello.card.addr.ip ∷ decimal hello.card.addr.port ∷
    decimal hello.card.epoch ∷ [] =
    (λ t. w.ip t ∷ w.port t ∷ w.id t ∷ w.current t ∷ w.name t ∷ w.master_ip t ∷ w.master_port t ∷ w.epoch t ∷ []) in
    record { is_hello = w.valid; spelled = ap with_commas words }

eight_by : (a b c d e f g h : List ℕ) (hello : Hello) (rs : Result Sender TextFault) (rm : Result OfMaster TextFault) → sender_of a b c d ≡ rs → master_of e f g h ≡ rm
    → (rs >>= λ s. rm >>= λ m. hello_from s m) ≡ Ok hello → SpellsHello (with_commas (a ∷ b ∷ c ∷ d ∷ e ∷ f ∷ g ∷ h ∷ [])) hello
eight_by a b c d e f g h hello (Err fault) rm es em r = absurd cc
eight_by a b c d e f g h hello (Ok s) (Err fault) es em r = absurd cc
eight_by a b c d e f g h hello (Ok s) (Ok m) es em r =
    spells a b c d e f g h hello
    (words_of a b c d e f g h s m hello
    (sender_by a b c d s (ip a) (canonical_port b) (run_id c) (epoch d) refl refl refl refl es)
    (master_by e f g h m (name e) (ip f) (canonical_port g) (epoch h) refl refl refl refl em)
    (made_by s m hello s.current m.epoch refl refl r))

of_parts : (ps : List (List ℕ)) (hello : Hello) → hello_of_parts ps ≡ Ok hello → SpellsHello (with_commas ps) hello
of_parts [] hello r = absurd cc
of_parts (a ∷ []) hello r = absurd cc
of_parts (a ∷ b ∷ []) hello r = absurd cc
of_parts (a ∷ b ∷ c ∷ []) hello r = absurd cc
of_parts (a ∷ b ∷ c ∷ d ∷ []) hello r = absurd cc
of_parts (a ∷ b ∷ c ∷ d ∷ e ∷ []) hello r = absurd cc
of_parts (a ∷ b ∷ c ∷ d ∷ e ∷ f ∷ []) hello r = absurd cc
of_parts (a ∷ b ∷ c ∷ d ∷ e ∷ f ∷ g ∷ []) hello r = absurd cc
of_parts (a ∷ b ∷ c ∷ d ∷ e ∷ f ∷ g ∷ h ∷ []) hello r = eight_by a b c d e f g h hello (sender_of a b c d) (master_of e f g h) refl refl r
of_parts (a ∷ b ∷ c ∷ d ∷ e ∷ f ∷ g ∷ h ∷ i ∷ ps) hello r = absurd cc

of_text_by : (t : Bool) (reading : Result Hello TextFault) (hello : Hello) → unless_not t reading ≡ Ok hello → reading ≡ Ok hello
of_text_by true reading hello r = r
of_text_by false reading hello r = absurd cc

pub hello_is : (bytes : List ℕ) (hello : Hello) → hello_of bytes ≡ Ok hello → SpellsHello bytes hello
hello_is bytes hello r =
    subst (λ (t : List ℕ). SpellsHello t hello) (with_commas-parts bytes)
    (of_parts (cut_at 44 bytes) hello (of_text_by (is_utf8 bytes) (hello_of_parts (cut_at 44 bytes)) hello r))

pub hello_read : (bytes : List ℕ) (r : Result Hello TextFault) → r ≡ hello_of bytes → IfOk r (λ hello. SpellsHello bytes hello)
hello_read bytes (Ok hello) e = hello_is bytes hello (sym e)
hello_read bytes (Err fault) e = tt
