-- A world of the files' nodes holds what the files say.
use Rattle.std.proofs.Common.{◌≡◌, ℕ, zero, suc, ◌+◌, ◌<◌, ◌≤◌, Bool, Some, List, [], ◌∷◌, ◌++◌, map, length, take, get_or, slice_get, refl, ap, sym, ◌∙◌, subst, arith}
use Rattle.std.proofs.lemmas.List.{length-append, length-map, length-take-le, map-append, take_all, take_more}
use Rattle.std.proofs.lemmas.Option.{none-some, same_Some}
use Rattle.ballot_law.specs.declared.messages.Message.{Message}
use Rattle.ballot_law.specs.declared.messages.NodeName.{NodeName}
use Rattle.ballot_law.specs.declared.messages.NodeName.TheVariants.{SentinelAt, StoreAt, ClientAt, PortAt}
use Rattle.ballot_law.specs.declared.messages.Output.{Output}
use Rattle.ballot_law.specs.Rosters.{Roster, size, id_of}
use Rattle.ballot_law.specs.Worlds.{World, sentinel_at}
use Rattle.boxed_nodes.specs.Images.{Image, OfSentinel, OfOther, image_at}
use Rattle.boxed_nodes.specs.Moves.{Shows}
use Rattle.fault_world.specs.Seats.{IsSeat}
use Rattle.fault_world.specs.Standing.{IsShown}
use Rattle.sentinel_core.specs.Sentinels.{Whole}
use Rattle.boxed_nodes.specs.Sentinels.Kinds.{IsImageOf}
use Rattle.scenario_replay.specs.Files.{HoldsFile, AreHeld, IsOfFile, BeginsWith, AreOfFiles, AreFirst}

-- A Sentinel

begins_as : (bytes : List ℕ) (whole : Whole) (roster : Roster) (image : Image) → IsImageOf whole bytes roster image → IsOfFile bytes roster (SentinelAt whole.plan.place) image
begins_as bytes whole roster (OfSentinel s) is =
    record {
      place = subst (λ r. whole.plan.place < size r) is.has_roster is.whole_ok.plan.place;
      conf = record whole.plan.conf { kept = s.file };
      read = is.read;
      own = ap (λ r. id_of r whole.plan.place) (sym is.has_roster) ∙ is.whole_ok.plan.own;
      holds = refl;
    }
begins_as bytes whole roster (OfOther o) is = absurd is

-- a Sentinel in memory whose file has this text begins with it
pub begins_with : (bytes text : List ℕ) (whole : Whole) → text ≡ bytes → BeginsWith bytes (SentinelAt whole.plan.place) (IsImageOf whole text)
begins_with bytes text whole same =
    subst (λ t. BeginsWith t (SentinelAt whole.plan.place) (IsImageOf whole text)) same
    (record { each = λ roster image is. begins_as text whole roster image is })

-- Lists of them

one_more : {N : Type 0} (name : N → NodeName) (shows : N → Shows) (fs : List (List ℕ)) (ns : List N) (f : List ℕ) (n : N) → length ns ≡ length fs →
    AreOfFiles name shows fs ns → BeginsWith f (name n) (shows n) → AreOfFiles name shows (fs ++ f ∷ []) (ns ++ n ∷ [])
one_more name shows [] [] f n same before begins = (begins, tt)
one_more name shows [] (m ∷ ns) f n same before begins = absurd (cc)
one_more name shows (g ∷ fs) [] f n same before begins = absurd before
one_more name shows (g ∷ fs) (m ∷ ns) f n same before begins = (before.0, one_more name shows fs ns f n (cc) before.1 begins)

and_others : {N : Type 0} (name : N → NodeName) (shows : N → Shows) (fs : List (List ℕ)) (ns more : List N) → AreOfFiles name shows fs ns →
    AreOfFiles name shows fs (ns ++ more)
and_others name shows [] ns more before = tt
and_others name shows (f ∷ fs) [] more before = absurd before
and_others name shows (f ∷ fs) (n ∷ ns) more before = (before.0, and_others name shows fs ns more before.1)

-- the next file's node joins those of the files before it
next_file : {F N : Type 0} (bytes : F → List ℕ) (name : N → NodeName) (shows : N → Shows) (files : List F) (k : ℕ) (f : F) (ns new : List N) (n : N) →
    k < length files → f ≡ get_or files k f → length ns ≡ k → new ≡ ns ++ n ∷ [] → AreFirst name shows (map bytes (take k files)) ns → BeginsWith (bytes f) (name n) (shows n) →
    AreFirst name shows (map bytes (take (k + 1) files)) new
next_file bytes name shows files k f ns new n within is count added before begins =
    let joined : map bytes (take (k + 1) files) ≡ map bytes (take k files) ++ bytes f ∷ [] =
    ap (map bytes) (take_more files k f within ∙ ap (λ x. take k files ++ x ∷ []) (sym is)) ∙ map-append bytes (take k files) (f ∷ []) in
    let counted : length ns ≡ length (map bytes (take k files)) = count ∙ sym (length-map (take k files) bytes ∙ length-take-le k files (omega (arith, within))) in
    subst (λ l. AreFirst name shows l new) (sym joined)
    (subst (AreFirst name shows (map bytes (take k files) ++ bytes f ∷ [])) (sym added)
    (record { are = one_more name shows (map bytes (take k files)) ns (bytes f) n counted before.are begins }))

-- the node that a file's Sentinel is in, at the place of the file
pub seated : {F N : Type 0} (bytes : F → List ℕ) (name : N → NodeName) (shows : N → Shows) (files : List F) (k place : ℕ) (f : F) (text : List ℕ) (ns new : List N) (n : N) →
    place ≡ k → place < length files → f ≡ get_or files place f → text ≡ bytes f → (k ≤ length files → length ns ≡ k) → new ≡ ns ++ n ∷ [] →
    AreFirst name shows (map bytes (take k files)) ns → BeginsWith text (name n) (shows n) → AreFirst name shows (map bytes (take (k + 1) files)) new
seated bytes name shows files k place f text ns new n placed inside read same count added before begins =
    let within : k < length files = subst (λ j. j < length files) placed inside in
    next_file bytes name shows files k f ns new n within (subst (λ j. f ≡ get_or files j f) placed read) (count (omega (arith, within))) added before
    (subst (λ t. BeginsWith t (name n) (shows n)) same begins)

pub one_counted : {N : Type 0} (ns new : List N) (n : N) (k : ℕ) → length ns ≡ k → new ≡ ns ++ n ∷ [] → length new ≡ k + 1
one_counted ns new n k count added = ap length added ∙ length-append ns (n ∷ []) ∙ ap (λ c. c + 1) count

-- after the last file other nodes follow
pub others_follow : {F N : Type 0} (bytes : F → List ℕ) (name : N → NodeName) (shows : N → Shows) (files : List F) (k : ℕ) (ns new : List N) (n : N) → length files ≤ k →
    new ≡ ns ++ n ∷ [] → AreFirst name shows (map bytes (take k files)) ns → AreFirst name shows (map bytes (take (k + 1) files)) new
others_follow bytes name shows files k ns new n past added before =
    subst (λ fs. AreFirst name shows (map bytes fs) new) (take_all k files past ∙ sym (take_all (k + 1) files (omega (arith, past))))
    (subst (AreFirst name shows (map bytes (take k files))) (sym added)
    (record { are = and_others name shows (map bytes (take k files)) ns (n ∷ []) before.are }))

-- or none does
pub none_follows : {F N : Type 0} (bytes : F → List ℕ) (name : N → NodeName) (shows : N → Shows) (files : List F) (k : ℕ) (ns : List N) → length files ≤ k →
    AreFirst name shows (map bytes (take k files)) ns → AreFirst name shows (map bytes (take (k + 1) files)) ns
none_follows bytes name shows files k ns past before =
    subst (λ fs. AreFirst name shows (map bytes fs) ns) (take_all k files past ∙ sym (take_all (k + 1) files (omega (arith, past)))) before

pub all_files : {F N : Type 0} (bytes : F → List ℕ) (name : N → NodeName) (shows : N → Shows) (files : List F) (k : ℕ) (ns : List N) → length files ≤ k →
    AreFirst name shows (map bytes (take k files)) ns → AreFirst name shows (map bytes files) ns
all_files bytes name shows files k ns past before = subst (λ fs. AreFirst name shows (map bytes fs) ns) (take_all k files past) before

of_file : {N : Type 0} (name : N → NodeName) (shows : N → Shows) (fs : List (List ℕ)) (ns : List N) (k : ℕ) (text : List ℕ) →
    AreOfFiles name shows fs ns → slice_get fs k ≡ Some text → (n : N) × (slice_get ns k ≡ Some n) × BeginsWith text (name n) (shows n)
of_file name shows [] ns k text all e = absurd (none-some text e)
of_file name shows (f ∷ fs) [] k text all e = absurd all
of_file name shows (f ∷ fs) (n ∷ ns) zero text all e = (n, refl, subst (λ t. BeginsWith t (name n) (shows n)) (same_Some f text e) all.0)
of_file name shows (f ∷ fs) (n ∷ ns) (suc k) text all e = of_file name shows fs ns k text all.1 e

member_of : {M N : Type 0} (node : M → N) (members : List M) (k : ℕ) (n : N) → slice_get (map node members) k ≡ Some n →
    (m : M) × (slice_get members k ≡ Some m) × (node m ≡ n)
member_of node [] k n e = absurd (none-some n e)
member_of node (m ∷ members) zero n e = (m, refl, same_Some (node m) n e)
member_of node (m ∷ members) (suc k) n e = member_of node members k n e

-- A world

held_by : (text : List ℕ) (roster : Roster) (w : World) (name : NodeName) → IsOfFile text roster name (image_at w name) → (i : ℕ) × HoldsFile text roster i (sentinel_at w i)
held_by text roster w (SentinelAt i) holds = (i, holds)
held_by text roster w (StoreAt k) holds = absurd holds
held_by text roster w (ClientAt k) holds = absurd holds
held_by text roster w (PortAt k) holds = absurd holds

pub files_are_held : {M N : Type 0} (node : M → N) (named : M → NodeName) (own : N → NodeName) (shows : N → Shows) (held : M → List Output)
    (stopped : M → Bool) (roster : Roster) (files : List (List ℕ)) (nodes : List N) (members : List M) (messages : List Message) → map node members ≡ nodes →
    AreFirst own shows files nodes → (w : World) →
    IsShown named (λ m. IsSeat (named m) (own (node m)) (shows (node m)) (held m) (stopped m)) roster members messages w → AreHeld files roster w
files_are_held node named own shows held stopped roster files nodes members messages same first w shown j text e =
    let n = of_file own shows files nodes j text first.are e in
    let m = member_of node members j n.0 (ap (λ ns. slice_get ns j) same ∙ n.1) in
    let seat = (shown.each j m.0 m.1).1 in
    let begins = subst (λ b. BeginsWith text (own b) (shows b)) (sym m.2) n.2 in
    held_by text roster w (named m.0)
    (subst (λ name. IsOfFile text roster name (image_at w (named m.0))) seat.goes_by (begins.each roster (image_at w (named m.0)) seat.shows_it))
