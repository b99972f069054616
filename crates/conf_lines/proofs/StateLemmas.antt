-- A spelled state line is read back.
use Rattle.std.proofs.Common.{◌≡◌, ℕ, ◌^◌, ◌≤◌, ◌<◌, true, leb, List, [], ◌∷◌, refl, ap, ◌∙◌, arith, Some}
use Rattle.std.specs.Prelude.{decimal, codes}
use Rattle.std.specs.List.{list_all}
use Rattle.std.proofs.lemmas.Bool.{and_parts, leb-true}
use Rattle.ballot_law.specs.declared.addresses.Addr.{Addr}
use Rattle.ballot_law.specs.declared.addresses.RunId.{RunId}
use Rattle.conf_lines.specs.declared.faults.ConfKind.TheVariants.{BadNumber, BadAddress, BadName, BadRunId}
use Rattle.conf_lines.specs.declared.lines.StateLine.{StateLine}
use Rattle.conf_lines.specs.declared.lines.StateLine.TheVariants.{MyId, CurrentEpoch, Monitor, ConfigEpoch, LeaderEpoch, LeaderId, KnownReplica, KnownSentinel}
use Rattle.conf_lines.specs.declared.lines.Line.TheVariants as line
use Rattle.ballot_law.specs.Words.{name, address, run_id, ip_text, id_text}
use Rattle.conf_lines.specs.Lines.{given_or, epoch, count, line_of, line_of_words, state_words, spelled}
use Rattle.ballot_law.specs.declared.cards.TheConstants.{MAX_EPOCH}
use Rattle.conf_lines.proofs.SpacedWords.{AreWords, words_of-spaced, HasNoLf, no_lf_spaced}
use Rattle.ballot_law.proofs.WordLemmas.{IsWord}
use Rattle.ballot_law.proofs.WordLemmas.{number_within-decimal, word_decimal, address-text, word_ip_text, run_id-id_text, word_id_text, word_name}

pub record IsAddr (addr : Addr) : Type 0 where
  pub ip : addr.ip < 2 ^ 32
  pub low : 1 ≤ addr.port
  pub high : addr.port ≤ 65535

pub record IsId (id : RunId) : Type 0 where
  pub hi : id.hi < 2 ^ 128
  pub lo : id.lo < 2 ^ 32

abbrev pub IsName : List ℕ → Type 0
IsName bytes = name bytes ≡ Some bytes

-- what a state line can say
abbrev pub IsState : StateLine → Type 0
IsState (MyId id) = IsId id
IsState (CurrentEpoch epoch) = epoch ≤ MAX_EPOCH
IsState (Monitor name addr quorum) = IsName name × IsAddr addr × (quorum ≤ 4294967295)
IsState (ConfigEpoch name epoch) = IsName name × (epoch ≤ MAX_EPOCH)
IsState (LeaderEpoch name epoch) = IsName name × (epoch ≤ MAX_EPOCH)
IsState (LeaderId name id) = IsName name × IsId id
IsState (KnownReplica name addr) = IsName name × IsAddr addr
IsState (KnownSentinel name addr id) = IsName name × IsAddr addr × IsId id

word_by_test : (b : ℕ) (bs : List ℕ) → list_all (leb 45) (b ∷ bs) ≡ true → IsWord (b ∷ bs)
word_by_test b [] h = (leb-true 45 b (and_parts (leb 45 b) true h).0, tt)
word_by_test b (c ∷ cs) h = let both = and_parts (leb 45 b) (list_all (leb 45) (c ∷ cs)) h in (leb-true 45 b both.0, word_by_test c cs both.1)

word_addr : (addr : Addr) → IsAddr addr → IsWord (decimal addr.port)
word_addr addr a = word_decimal addr.port (let h = a.high in omega arith)

word_epoch : (e : ℕ) → e ≤ MAX_EPOCH → IsWord (decimal e)
word_epoch e h = word_decimal e (omega arith)

are_words : (state : StateLine) → IsState state → AreWords (codes "sentinel" ∷ state_words state)
are_words (MyId id) v = (word_by_test 115 (codes "entinel") refl, (word_by_test 109 (codes "yid") refl, (word_id_text id v.hi v.lo, tt)))
are_words (CurrentEpoch e) v = (word_by_test 115 (codes "entinel") refl, (word_by_test 99 (codes "urrent-epoch") refl, (word_epoch e v, tt)))
are_words (Monitor n a q) v = (
  word_by_test 115 (codes "entinel") refl,
  (
    word_by_test 109 (codes "onitor") refl,
    (word_name n n v.0, (word_ip_text a.ip v.1.ip, (word_addr a v.1, (word_decimal q (let h : q ≤ 4294967295 = v.2 in omega arith), tt)))),
  ),
)
are_words (ConfigEpoch n e) v = (word_by_test 115 (codes "entinel") refl, (word_by_test 99 (codes "onfig-epoch") refl, (word_name n n v.0, (word_epoch e v.1, tt))))
are_words (LeaderEpoch n e) v = (word_by_test 115 (codes "entinel") refl, (word_by_test 108 (codes "eader-epoch") refl, (word_name n n v.0, (word_epoch e v.1, tt))))
are_words (LeaderId n i) v = (word_by_test 115 (codes "entinel") refl, (word_by_test 108 (codes "eader-id") refl, (word_name n n v.0, (word_id_text i v.1.hi v.1.lo, tt))))
are_words (KnownReplica n a) v = (
  word_by_test 115 (codes "entinel") refl,
  (word_by_test 107 (codes "nown-replica") refl, (word_name n n v.0, (word_ip_text a.ip v.1.ip, (word_addr a v.1, tt)))),
)
are_words (KnownSentinel n a i) v = (
  word_by_test 115 (codes "entinel") refl,
  (
    word_by_test 107 (codes "nown-sentinel") refl,
    (word_name n n v.0, (word_ip_text a.ip v.1.ip, (word_addr a v.1, (word_id_text i v.2.hi v.2.lo, tt)))),
  ),
)

epoch-decimal : (e : ℕ) → e ≤ MAX_EPOCH → epoch (decimal e) ≡ Some e
epoch-decimal e h = number_within-decimal 0 MAX_EPOCH e (omega arith) (omega arith) h

count-decimal : (q : ℕ) → q ≤ 4294967295 → count (decimal q) ≡ Some q
count-decimal q h = number_within-decimal 0 4294967295 q (omega arith) (omega arith) h

address-is : (a : Addr) → IsAddr a → address (ip_text a.ip) (decimal a.port) ≡ Some a
address-is a h = address-text a h.ip h.low h.high

words_say : (state : StateLine) → IsState state → line_of_words (codes "sentinel" ∷ state_words state) ≡ line.State state
words_say (MyId id) v = ap (λ i. given_or BadRunId i (λ id. line.State (MyId id))) (run_id-id_text id v.hi v.lo)
words_say (CurrentEpoch e) v = ap (λ i. given_or BadNumber i (λ e. line.State (CurrentEpoch e))) (epoch-decimal e v)
words_say (Monitor n a q) v =
    ap (λ m. given_or BadName m (λ n. given_or BadAddress (address (ip_text a.ip) (decimal a.port))
    (λ a. given_or BadNumber (count (decimal q)) (λ q. line.State (Monitor n a q))))) v.0
    ∙ ap (λ m. given_or BadAddress m (λ a. given_or BadNumber (count (decimal q)) (λ q. line.State (Monitor n a q)))) (address-is a v.1)
    ∙ ap (λ m. given_or BadNumber m (λ q. line.State (Monitor n a q))) (count-decimal q v.2)
words_say (ConfigEpoch n e) v =
    ap (λ m. given_or BadName m (λ n. given_or BadNumber (epoch (decimal e)) (λ e. line.State (ConfigEpoch n e)))) v.0
    ∙ ap (λ m. given_or BadNumber m (λ e. line.State (ConfigEpoch n e))) (epoch-decimal e v.1)
words_say (LeaderEpoch n e) v =
    ap (λ m. given_or BadName m (λ n. given_or BadNumber (epoch (decimal e)) (λ e. line.State (LeaderEpoch n e)))) v.0
    ∙ ap (λ m. given_or BadNumber m (λ e. line.State (LeaderEpoch n e))) (epoch-decimal e v.1)
words_say (LeaderId n i) v =
    ap (λ m. given_or BadName m (λ n. given_or BadRunId (run_id (id_text i)) (λ i. line.State (LeaderId n i)))) v.0
    ∙ ap (λ m. given_or BadRunId m (λ i. line.State (LeaderId n i))) (run_id-id_text i v.1.hi v.1.lo)
words_say (KnownReplica n a) v =
    ap (λ m. given_or BadName m (λ n. given_or BadAddress (address (ip_text a.ip) (decimal a.port)) (λ a. line.State (KnownReplica n a)))) v.0
    ∙ ap (λ m. given_or BadAddress m (λ a. line.State (KnownReplica n a))) (address-is a v.1)
words_say (KnownSentinel n a i) v =
    ap (λ m. given_or BadName m (λ n. given_or BadAddress (address (ip_text a.ip) (decimal a.port))
    (λ a. given_or BadRunId (run_id (id_text i)) (λ i. line.State (KnownSentinel n a i))))) v.0
    ∙ ap (λ m. given_or BadAddress m (λ a. given_or BadRunId (run_id (id_text i)) (λ i. line.State (KnownSentinel n a i)))) (address-is a v.1)
    ∙ ap (λ m. given_or BadRunId m (λ i. line.State (KnownSentinel n a i))) (run_id-id_text i v.2.hi v.2.lo)

pub line_of-spelled : (state : StateLine) → IsState state → line_of (spelled state) ≡ line.State state
line_of-spelled state v = ap line_of_words (words_of-spaced (codes "sentinel") (state_words state) (are_words state v)) ∙ words_say state v

pub no_lf_spelled : (state : StateLine) → IsState state → HasNoLf (spelled state)
no_lf_spelled state v = no_lf_spaced (codes "sentinel") (state_words state) (are_words state v)
