-- The newest configurations of files of one roster are configurations of its masters.
use Rattle.std.proofs.Common.{◌≡◌, ℕ, suc, ◌-◌, ◌≤◌, max, Bool, true, false, List, [], ◌∷◌, map, length, take, drop, refl, ap, sym, ◌∙◌, subst, arith}
use Rattle.std.specs.Prelude.{⊤, nat_lt}
use Rattle.std.specs.List.{AllZip, AllByRecursion}
use Rattle.std.proofs.lemmas.List.{take_all}
use Rattle.std.proofs.Math.Nat.{le-max_left, le-max_right, max-le}
use Rattle.ballot_law.specs.declared.cards.Card.{Card}
use Rattle.ballot_law.specs.declared.cards.KeptMaster.{KeptMaster}
use Rattle.ballot_law.specs.declared.cards.Kept.{Kept}
use Rattle.ballot_law.specs.Rosters.{Roster, MasterPlan}
use Rattle.sentinel_conf.specs.Meaning.{ConfPlan}
use Rattle.sentinel_conf.specs.Rewritten.{rewritten, IsKeptPart, IsKeptMaster}
use Rattle.conf_check.specs.Repair.Mended.{card_of, cards_of, newer_each, newest_from, newest, last_epoch_from, last_epoch, with_cards, kept_with, mended_text, IsCardOf, AreCardsOf, Fits, HaveRoster}

pub le-trans : {a b c : ℕ} → a ≤ b → b ≤ c → a ≤ c
le-trans {a} {b} {c} one two = omega (arith, one, two)

fits_one : (e f : ℕ) (master : MasterPlan) (one other : Card) (t : Bool) → IsCardOf e master one → IsCardOf f master other
    → IsCardOf (max e f) master (elim t as (λ _. Card) [ true ↦ other | false ↦ one ])
fits_one e f master one other true a b = (b.0, le-trans b.1 (le-max_right e f))
fits_one e f master one other false a b = (a.0, le-trans a.1 (le-max_left e f))

fits_each : (e f : ℕ) (masters : List MasterPlan) (cards others : List Card) → AllZip (IsCardOf e) masters cards → AllZip (IsCardOf f) masters others
    → AllZip (IsCardOf (max e f)) masters (newer_each cards others)
fits_each e f [] [] others a b = tt
fits_each e f [] (card ∷ cards) others a b = absurd a
fits_each e f (master ∷ masters) [] others a b = absurd a
fits_each e f (master ∷ masters) (card ∷ cards) [] a b = absurd b
fits_each e f (master ∷ masters) (card ∷ cards) (other ∷ others) a b =
    (fits_one e f master card other (nat_lt card.epoch other.epoch) a.0 b.0, fits_each e f masters cards others a.1 b.1)

kept_cards : (e : ℕ) (masters : List MasterPlan) (kept : List KeptMaster) → AllZip (IsKeptMaster e) masters kept → AllZip (IsCardOf e) masters (map card_of kept)
kept_cards e [] [] a = tt
kept_cards e [] (k ∷ kept) a = absurd a
kept_cards e (master ∷ masters) [] a = absurd a
kept_cards e (master ∷ masters) (k ∷ kept) a = ((a.0.addr, a.0.epoch), kept_cards e masters kept a.1)

-- those of one file
pub file_cards : (conf : ConfPlan) → IsKeptPart conf conf.kept → AreCardsOf conf.kept.current (cards_of conf) conf.roster
file_cards conf part = (part.current, kept_cards conf.kept.current conf.roster.masters conf.kept.masters part.masters)

-- those of one file more
pub more_cards : (current : ℕ) (cards : List Card) (conf : ConfPlan) → AreCardsOf current cards conf.roster → IsKeptPart conf conf.kept
    → AreCardsOf (max current conf.kept.current) (newer_each cards (cards_of conf)) conf.roster
more_cards current cards conf fits part = (
  max-le fits.0 part.current,
  fits_each current conf.kept.current conf.roster.masters cards (cards_of conf) fits.1
      (kept_cards conf.kept.current conf.roster.masters conf.kept.masters part.masters),
)

with_each : (e f : ℕ) → e ≤ f → (masters : List MasterPlan) (kept : List KeptMaster) (cards : List Card) → AllZip (IsKeptMaster e) masters kept
    → AllZip (IsCardOf f) masters cards → AllZip (IsKeptMaster f) masters (with_cards kept cards)
with_each e f le [] [] cards a b = tt
with_each e f le [] (k ∷ kept) cards a b = absurd a
with_each e f le (master ∷ masters) [] cards a b = absurd a
with_each e f le (master ∷ masters) (k ∷ kept) [] a b = absurd b
with_each e f le (master ∷ masters) (k ∷ kept) (card ∷ cards) a b =
    (record { addr = b.0.0; epoch = b.0.1; voted = le-trans a.0.voted le; candidate = a.0.candidate }, with_each e f le masters kept cards a.1 b.1)

-- a file can hold configurations that fit
pub is_part : (current : ℕ) (cards : List Card) (conf : ConfPlan) → IsKeptPart conf conf.kept → Fits current cards conf → IsKeptPart conf (kept_with current cards conf)
is_part current cards conf part fits =
    record {
      current = fits.0.0;
      masters = with_each conf.kept.current current fits.1 conf.roster.masters conf.kept.masters cards part.masters fits.0.1;
    }

pub least_from : (epoch : ℕ) (files : List ConfPlan) → epoch ≤ last_epoch_from epoch files
least_from epoch [] = omega arith
least_from epoch (file ∷ files) = le-trans (le-max_left epoch file.kept.current) (least_from (max epoch file.kept.current) files)

-- no file has a later current epoch
abbrev pub EachWithin : ℕ → List ConfPlan → Type 0
EachWithin last [] = ⊤
EachWithin last (file ∷ files) = (file.kept.current ≤ last) × EachWithin last files

pub each_within : (epoch : ℕ) (files : List ConfPlan) → EachWithin (last_epoch_from epoch files) files
each_within epoch [] = tt
each_within epoch (file ∷ files) =
    (le-trans (le-max_right epoch file.kept.current) (least_from (max epoch file.kept.current) files), each_within (max epoch file.kept.current) files)

pub within_last : (files : List ConfPlan) → EachWithin (last_epoch files) files
within_last [] = tt
within_last (file ∷ files) = (least_from file.kept.current files, each_within file.kept.current files)

pub fits_roster : (current : ℕ) (cards : List Card) (one other : Roster) → other ≡ one → AreCardsOf current cards one → AreCardsOf current cards other
fits_roster current cards one other same fits = subst (AreCardsOf current cards) (sym same) fits

-- they fit each file of the roster
pub fits_all : {X : Type 0} (conf_of : X → ConfPlan) (current : ℕ) (cards : List Card) (roster : Roster) → AreCardsOf current cards roster → (files : List X)
    → HaveRoster roster (map conf_of files) → EachWithin current (map conf_of files) → AllByRecursion (λ file. Fits current cards (conf_of file)) files
fits_all conf_of current cards roster fits [] one within = tt
fits_all conf_of current cards roster fits (file ∷ files) one within =
    ((fits_roster current cards roster (conf_of file).roster one.0 fits, within.0), fits_all conf_of current cards roster fits files one.1 within.1)

-- ---- what calls ensure

pub of_fits : (conf : ConfPlan) (kept : Kept) (masters : List KeptMaster) (cards : List Card) → kept ≡ conf.kept → IsKeptPart conf conf.kept → masters ≡ kept.masters
    → cards ≡ map card_of masters → AreCardsOf kept.current cards conf.roster
of_fits conf kept masters cards k part m e =
    let all : cards ≡ cards_of conf = e ∙ ap (λ (ms : List KeptMaster). map card_of ms) m ∙ ap (λ (it : Kept). map card_of it.masters) k in
    let epoch : kept.current ≡ conf.kept.current = ap (λ (it : Kept). it.current) k in
    subst (λ cs. AreCardsOf kept.current cs conf.roster) (sym all) (subst (λ n. AreCardsOf n (cards_of conf) conf.roster) (sym epoch) (file_cards conf part))

pub and_fits : (conf : ConfPlan) (current : ℕ) (cards : List Card) (kept : Kept) (greatest : ℕ) (given : List Card) (masters : List KeptMaster) (new : List Card)
    → AreCardsOf current cards conf.roster → kept ≡ conf.kept → IsKeptPart conf conf.kept → greatest ≡ max current kept.current → given ≡ cards → masters ≡ kept.masters
    → new ≡ newer_each given (map card_of masters) → AreCardsOf greatest new conf.roster
and_fits conf current cards kept greatest given masters new fits k part g c m e =
    let all : new ≡ newer_each cards (cards_of conf)
    = e ∙ ap (λ cs. newer_each cs (map card_of masters)) c ∙ ap (λ (ms : List KeptMaster). newer_each cards (map card_of ms)) m
    ∙ ap (λ (it : Kept). newer_each cards (map card_of it.masters)) k in
    let epoch : greatest ≡ max current conf.kept.current = g ∙ ap (λ (it : Kept). max current it.current) k in
    subst (λ cs. AreCardsOf greatest cs conf.roster) (sym all)
    (subst (λ n. AreCardsOf n (newer_each cards (cards_of conf)) conf.roster) (sym epoch) (more_cards current cards conf fits part))

pub part_fits : (conf : ConfPlan) (current : ℕ) (cards : List Card) (kept : Kept) (slice : List KeptMaster) (given : List Card) (masters result : List KeptMaster)
    → Fits current cards conf → kept ≡ conf.kept → IsKeptPart conf conf.kept → slice ≡ kept.masters → given ≡ cards → masters ≡ with_cards slice given → result ≡ masters
    → IsKeptPart conf (record { current = current; masters = result })
part_fits conf current cards kept slice given masters result fits k part m c e r =
    let all : result ≡ with_cards conf.kept.masters cards
    = r ∙ e ∙ ap (λ (ms : List KeptMaster). with_cards ms given) m ∙ ap (λ (it : Kept). with_cards it.masters given) k ∙ ap (λ cs. with_cards conf.kept.masters cs) c in
    subst (λ (ms : List KeptMaster). IsKeptPart conf (record { current = current; masters = ms })) (sym all) (is_part current cards conf part fits)

-- ---- loops from file to file

pub tail_all : {X : Type 0} (P : X → Type 0) (rest : List X) → 1 ≤ length rest → AllByRecursion P rest → AllByRecursion P (take (length rest - 1) (drop 1 rest))
tail_all P [] l a = absurd (omega arith)
tail_all P (y ∷ ys) l a =
    subst (AllByRecursion P) (sym (take_all (length (y ∷ ys) - 1) ys (let k : length (y ∷ ys) ≡ suc (length ys) = refl in omega arith))) a.1

-- ---- all files

pub all_fit : {X : Type 0} (conf_of : X → ConfPlan) (files : List X) (first : X) (more : List X) (conf : ConfPlan) (current : ℕ) (cards : List Card)
    → files ≡ first ∷ more → conf ≡ conf_of first → current ≡ last_epoch_from conf.kept.current (map conf_of more) → AreCardsOf current cards conf.roster
    → HaveRoster conf.roster (map conf_of more) → AllByRecursion (λ file. Fits current cards (conf_of file)) files
all_fit {X} conf_of files first more conf current cards is of_first e fits one =
    let all : List X = first ∷ more in
    let epoch : current ≡ last_epoch (map conf_of all) = e ∙ ap (λ (it : ConfPlan). last_epoch_from it.kept.current (map conf_of more)) of_first in
    let within : EachWithin current (map conf_of all) = subst (λ n. EachWithin n (map conf_of all)) (sym epoch) (within_last (map conf_of all)) in
    let same : (conf_of first).roster ≡ conf.roster = ap (λ (it : ConfPlan). it.roster) (sym of_first) in
    subst (AllByRecursion (λ file. Fits current cards (conf_of file))) (sym is) (fits_all conf_of current cards conf.roster fits all (same, one) within)

pub texts_are : {X : Type 0} (conf_of : X → ConfPlan) (files : List X) (first : X) (more : List X) (conf : ConfPlan) (current : ℕ) (cards : List Card) (texts : List (List ℕ))
    → files ≡ first ∷ more → conf ≡ conf_of first → current ≡ last_epoch_from conf.kept.current (map conf_of more)
    → cards ≡ newest_from (cards_of conf) (map conf_of more) → texts ≡ map (λ file. rewritten (conf_of file) (kept_with current cards (conf_of file))) files
    → texts ≡ map (λ file. mended_text (map conf_of files) (conf_of file)) files
texts_are conf_of files first more conf current cards texts is of_first e f t =
    let epoch : current ≡ last_epoch (map conf_of files)
    = e ∙ ap (λ (it : ConfPlan). last_epoch_from it.kept.current (map conf_of more)) of_first ∙ sym (ap (λ fs. last_epoch (map conf_of fs)) is) in
    let new : cards ≡ newest (map conf_of files)
    = f ∙ ap (λ (it : ConfPlan). newest_from (cards_of it) (map conf_of more)) of_first ∙ sym (ap (λ fs. newest (map conf_of fs)) is) in
    t
    ∙ ap (λ n. map (λ file. rewritten (conf_of file) (kept_with n cards (conf_of file))) files) epoch
    ∙ ap (λ cs. map (λ file. rewritten (conf_of file) (kept_with (last_epoch (map conf_of files)) cs (conf_of file))) files) new
