-- The spelling of a hello is read as that hello.
use Rattle.std.proofs.Common.{◌≡◌, ℕ, ◌≤◌, ◌<◌, ◌^◌, true, false, eqb, List, [], ◌∷◌, ◌++◌, refl, ap, ◌∙◌, arith, Some, Ok}
use Rattle.std.specs.Prelude.{decimal}
use Rattle.std.specs.Str.{is_utf8, IsAscii}
use Rattle.std.proofs.lemmas.Fmt.{IsAscii-decimal}
use Rattle.std.proofs.lemmas.Str.{IsAscii-append, IsUtf8-from_ascii, is_utf8-from_IsUtf8}
use Rattle.std.proofs.lemmas.Str.Ascii.{IsAscii-cons}
use Rattle.ballot_law.specs.declared.cards.TheConstants.{MAX_EPOCH}
use Rattle.ballot_law.specs.declared.replies.Hello.{Hello}
use Rattle.ballot_law.specs.Hellos.{hello_fields, hello_text, IsHello, SpellsHello}
use Rattle.ballot_law.specs.NameWords.{name_is}
use Rattle.ballot_law.specs.Results.{◌>>=◌, wanted}
use Rattle.ballot_law.specs.Words.{with_first, cut_at, ip_text, id_text}
use Rattle.ballot_law.proofs.HelloLemmas.{fields_of, fields_of-hello_text}
use Rattle.ballot_law.proofs.WordLemmas.{ip-ip_text, run_id-id_text}
use Rattle.node_texts.specs.declared.faults.TextFault.TheVariants.{BadField}
use Rattle.node_texts.specs.Faults.{unless_not}
use Rattle.node_texts.specs.Hellos.{sender_of, master_of, hello_from, hello_of_parts, hello_of}
use Rattle.node_texts.proofs.WordsAgain.{ascii_ip, ascii_id, ascii_name, port_again, epoch_again}

-- ---- the encoding

pub ascii_utf8 : (bs : List ℕ) → IsAscii bs → is_utf8 bs ≡ true
ascii_utf8 bs h = is_utf8-from_IsUtf8 bs (IsUtf8-from_ascii bs h)

then_comma : (word rest : List ℕ) → IsAscii word → IsAscii rest → IsAscii (word ++ 44 ∷ rest)
then_comma word rest h k = IsAscii-append word (44 ∷ rest) h (IsAscii-cons 44 rest (omega arith) k)

ascii_hello : (h : Hello) → IsHello h → IsAscii (hello_text h)
ascii_hello h w =
    let port : h.addr.port < 2 ^ 64 = (let u : h.addr.port ≤ 65535 = w.addr.port_high in omega arith) in
    let current : h.current < 2 ^ 64 = (let u : h.current ≤ MAX_EPOCH = w.current in omega arith) in
    let card_port : h.card.addr.port < 2 ^ 64 = (let u : h.card.addr.port ≤ 65535 = w.card_addr.port_high in omega arith) in
    let last : h.card.epoch < 2 ^ 64 = (let u : h.card.epoch ≤ MAX_EPOCH = w.epoch in omega arith) in
    then_comma (ip_text h.addr.ip) _ (ascii_ip h.addr.ip w.addr.ip)
    (then_comma (decimal h.addr.port) _ (IsAscii-decimal h.addr.port port)
    (then_comma (id_text h.id) _ (ascii_id h.id w.id)
    (then_comma (decimal h.current) _ (IsAscii-decimal h.current current)
    (then_comma h.master _ (ascii_name h.master w.master)
    (then_comma (ip_text h.card.addr.ip) _ (ascii_ip h.card.addr.ip w.card_addr.ip)
    (then_comma (decimal h.card.addr.port) _ (IsAscii-decimal h.card.addr.port card_port) (IsAscii-decimal h.card.epoch last)))))))

-- ---- the parts

same_parts : (bs : List ℕ) → cut_at 44 bs ≡ fields_of bs
same_parts [] = refl
same_parts (b ∷ bs) = ap (λ ps. elim (eqb b 44) as (λ _. List (List ℕ)) [ true ↦ [] ∷ ps | false ↦ with_first b ps ]) (same_parts bs)

sender_again : (h : Hello) → IsHello h → sender_of (ip_text h.addr.ip) (decimal h.addr.port) (id_text h.id) (decimal h.current) ≡ Ok
    (record { addr = h.addr; id = h.id; current = Some h.current })
sender_again h w =
    let i = ip-ip_text h.addr.ip w.addr.ip in
    let p = port_again h.addr.port w.addr.port_low w.addr.port_high in
    let r = run_id-id_text h.id w.id.hi w.id.lo in
    let e = epoch_again h.current w.current in
    λ t. wanted (BadField 1) (i t) >>= λ i. wanted (BadField 2) (p t) >>= λ p. wanted (BadField 3) (r t) >>= λ id. wanted (BadField 4) (e t) >>= λ current. Ok
    (record { addr = record { ip = i; port = p }; id = id; current = current })

master_again : (h : Hello) → IsHello h → master_of h.master (ip_text h.card.addr.ip) (decimal h.card.addr.port) (decimal h.card.epoch) ≡ Ok
    (record { name = h.master; addr = h.card.addr; epoch = Some h.card.epoch })
master_again h w =
    let n = name_is h.master w.master in
    let i = ip-ip_text h.card.addr.ip w.card_addr.ip in
    let p = port_again h.card.addr.port w.card_addr.port_low w.card_addr.port_high in
    let e = epoch_again h.card.epoch w.epoch in
    λ t. wanted (BadField 5) (n t) >>= λ master. wanted (BadField 6) (i t) >>= λ i. wanted (BadField 7) (p t) >>= λ p. wanted (BadField 8) (e t) >>= λ epoch. Ok
    (record { name = master; addr = record { ip = i; port = p }; epoch = epoch })

parts_again : (h : Hello) → IsHello h → hello_of_parts (hello_fields h) ≡ Ok h
parts_again h w = let s = sender_again h w in let m = master_again h w in λ t. s t >>= λ sender. m t >>= λ of_master. hello_from sender of_master

pub hello_again : (bytes : List ℕ) (h : Hello) → SpellsHello bytes h → hello_of bytes ≡ Ok h
hello_again bytes h s =
    let w = s.is_hello in
    ap hello_of s.spelled
    ∙ ap (λ t. unless_not t (hello_of_parts (cut_at 44 (hello_text h)))) (ascii_utf8 (hello_text h) (ascii_hello h w))
    ∙ ap hello_of_parts (same_parts (hello_text h) ∙ fields_of-hello_text h w)
    ∙ parts_again h w

pub text_again : (h : Hello) → IsHello h → hello_of (hello_text h) ≡ Ok h
text_again h w = hello_again (hello_text h) h (record { is_hello = w; spelled = refl })
