-- Subscriptions stay few, short and without repetition, and a connection is told nothing else.
use Rattle.std.proofs.Common.{◌≡◌, ◌≤◌, ℕ, List, [], ◌∷◌, ◌++◌, length, Bool, true, false, cond, not, ◌||◌, Option, None, Some, refl, sym, ap, ◌∙◌, true≢false, arith}
use Rattle.std.specs.Prelude.{nat_lt, bytes_eq}
use Rattle.std.specs.List.{list_any, filter}
use Rattle.std.proofs.lemmas.Bool.{ltb-false}
use Rattle.std.proofs.lemmas.List.Folds.{list_any-append}
use Rattle.std.proofs.lemmas.Slice.Eq.{bytes_eq-Decides}
use Rattle.resp2.specs.Commands.{are_bulk, words, redis_command_of}
use Rattle.resp2.specs.Framing.Frame.{Frame, FrameList, frame, no_frames, simple, fault, int, bulk, null_bulk, items, null_items}
use Rattle.pubsub.specs.declared.fault.ChannelFault.{ChannelFault}
use Rattle.pubsub.specs.declared.fault.ChannelFault.TheVariants.{NameTooLong}
use Rattle.pubsub.specs.declared.kind.Kind.{Kind}
use Rattle.pubsub.specs.declared.kind.Kind.TheVariants.{Channels, Patterns}
use Rattle.pubsub.specs.declared.names.TheConstants.{NAMES_MAX, NAME_BYTES_MAX}
use Rattle.pubsub.specs.declared.verb.Verb.{Verb}
use Rattle.pubsub.specs.declared.verb.Verb.TheVariants.{Adds, Removes, Pings}
use Rattle.pubsub.specs.Globs.{matches}
use Rattle.pubsub.specs.Listening.{Listening, holds, with_name, with_names, without_name, without_names, refusal, too_many, is_listening}
use Rattle.pubsub.specs.Confirming.{left}
use Rattle.pubsub.specs.Telling.{pattern_message, message, told, told_for}
use Rattle.pubsub.specs.Answering.{Answer, other, verb_of, names_of, with_these, subscribed, pings, executed, is_own, own, known, answer_words, answer, listening_after}
use Rattle.pubsub.specs.Sound.{AreOnce, AreShort, AreSound, IsSound}

left_off : (a x : Bool) → (a || x) ≡ false → a ≡ false
left_off true x h = h
left_off false x h = refl

right_off : (a x : Bool) → (a || x) ≡ false → x ≡ false
right_off true x h = absurd (true≢false h)
right_off false x h = h

-- ---- names that are added

other_way : (one two : List ℕ) (test : Bool) → bytes_eq two one ≡ test → bytes_eq one two ≡ false → test ≡ false
other_way one two false e h = refl
other_way one two true e h =
    let same : two ≡ one = (bytes_eq-Decides two one).0 e in
    absurd (true≢false (sym ((bytes_eq-Decides one two).1 (sym same)) ∙ h))

pushed_short : (names : List (List ℕ)) (name : List ℕ) → AreShort names → length name ≤ NAME_BYTES_MAX → AreShort (names ++ (name ∷ []))
pushed_short [] name h k = (k, tt)
pushed_short (one ∷ names) name h k = (h.0, pushed_short names name h.1 k)

not_among : (names : List (List ℕ)) (name one : List ℕ) → holds names one ≡ false → bytes_eq name one ≡ false → holds (names ++ (name ∷ [])) one ≡ false
not_among names name one h k =
    list_any-append (λ (x : List ℕ). bytes_eq x one) names (name ∷ [])
    ∙ ap (λ (t : Bool). t || (bytes_eq name one || false)) h
    ∙ ap (λ (t : Bool). t || false) k

pushed_once : (names : List (List ℕ)) (name : List ℕ) → AreOnce names → holds names name ≡ false → AreOnce (names ++ (name ∷ []))
pushed_once [] name h k = (refl, tt)
pushed_once (one ∷ names) name h k =
    let differ : bytes_eq name one ≡ false = other_way one name (bytes_eq name one) refl (left_off (bytes_eq one name) (holds names name) k) in
    (not_among names name one h.0 differ, pushed_once names name h.1 (right_off (bytes_eq one name) (holds names name) k))

added_at : (names : List (List ℕ)) (name : List ℕ) (test : Bool) → holds names name ≡ test → AreSound names → length name ≤ NAME_BYTES_MAX
    → length (elim test as (λ _. List (List ℕ)) [ true ↦ names | false ↦ names ++ (name ∷ []) ]) ≤ NAMES_MAX
    → AreSound (elim test as (λ _. List (List ℕ)) [ true ↦ names | false ↦ names ++ (name ∷ []) ])
added_at names name true e h k n = h
added_at names name false e h k n = record { few = n; short = pushed_short names name h.short k; once = pushed_once names name h.once e }

none_some : {X : Type 0} (x : X) (P : Type 0) → Some x ≡ None → P
none_some x P h = absurd (cc)

-- the two tests of a further name are passed
passed : (kind : Kind) (long many : Bool) (rest : Option ChannelFault)
    → elim long as (λ _. Option ChannelFault) [ true ↦ Some NameTooLong | false ↦ elim many as (λ _. Option ChannelFault) [ true ↦ Some (too_many kind) | false ↦ rest ] ] ≡ None
    → (long ≡ false) × (many ≡ false) × (rest ≡ None)
passed kind true many rest h = none_some NameTooLong _ h
passed kind false true rest h = none_some (too_many kind) _ h
passed kind false false rest h = (refl, refl, h)

all_added : (kind : Kind) (names more : List (List ℕ)) → refusal kind names more ≡ None → AreSound names → AreSound (with_names names more)
all_added kind names [] h s = s
all_added kind names (name ∷ more) h s =
    let p = passed kind (nat_lt NAME_BYTES_MAX (length name)) (nat_lt NAMES_MAX (length (with_name names name))) (refusal kind (with_name names name) more) h in
    let short : length name ≤ NAME_BYTES_MAX = ltb-false NAME_BYTES_MAX (length name) p.0 in
    let few : length (with_name names name) ≤ NAMES_MAX = ltb-false NAMES_MAX (length (with_name names name)) p.1 in
    all_added kind (with_name names name) more p.2 (added_at names name (holds names name) refl s short few)

-- ---- names that are removed

none_sound : AreSound []
none_sound = record { few = omega arith; short = tt; once = tt }

few_at : (test : Bool) (one : List ℕ) (rest names : List (List ℕ)) → length rest ≤ length names → length (cond test (one ∷ rest) rest) ≤ length (one ∷ names)
few_at true one rest names h = omega (arith, h)
few_at false one rest names h = omega (arith, h)

fewer : (t : List ℕ → Bool) (names : List (List ℕ)) → length (filter t names) ≤ length names
fewer t [] = omega arith
fewer t (one ∷ names) = few_at (t one) one (filter t names) names (fewer t names)

short_at : (test : Bool) (one : List ℕ) (rest : List (List ℕ)) → length one ≤ NAME_BYTES_MAX → AreShort rest → AreShort (cond test (one ∷ rest) rest)
short_at true one rest h k = (h, k)
short_at false one rest h k = k

short_left : (t : List ℕ → Bool) (names : List (List ℕ)) → AreShort names → AreShort (filter t names)
short_left t [] h = h
short_left t (one ∷ names) h = short_at (t one) one (filter t names) h.0 (short_left t names h.1)

absent_at : (test : Bool) (x one : List ℕ) (rest : List (List ℕ)) → bytes_eq x one ≡ false → holds rest one ≡ false → holds (cond test (x ∷ rest) rest) one ≡ false
absent_at true x one rest h k = ap (λ (t : Bool). t || holds rest one) h ∙ k
absent_at false x one rest h k = k

absent_left : (t : List ℕ → Bool) (names : List (List ℕ)) (one : List ℕ) → holds names one ≡ false → holds (filter t names) one ≡ false
absent_left t [] one h = h
absent_left t (x ∷ names) one h =
    absent_at (t x) x one (filter t names) (left_off (bytes_eq x one) (holds names one) h)
    (absent_left t names one (right_off (bytes_eq x one) (holds names one) h))

once_at : (test : Bool) (one : List ℕ) (rest : List (List ℕ)) → holds rest one ≡ false → AreOnce rest → AreOnce (cond test (one ∷ rest) rest)
once_at true one rest h k = (h, k)
once_at false one rest h k = k

once_left : (t : List ℕ → Bool) (names : List (List ℕ)) → AreOnce names → AreOnce (filter t names)
once_left t [] h = h
once_left t (one ∷ names) h = once_at (t one) one (filter t names) (absent_left t names one h.0) (once_left t names h.1)

name_removed : (names : List (List ℕ)) (name : List ℕ) → AreSound names → AreSound (without_name names name)
name_removed names name s =
    let t = λ (one : List ℕ). not (bytes_eq one name) in
    record { few = omega (arith, fewer t names, s.few); short = short_left t names s.short; once = once_left t names s.once }

names_removed : (names less : List (List ℕ)) → AreSound names → AreSound (without_names names less)
names_removed names [] s = s
names_removed names (name ∷ less) s = names_removed (without_name names name) less (name_removed names name s)

left_sound : (names less : List (List ℕ)) → AreSound names → AreSound (left names less)
left_sound names [] s = none_sound
left_sound names (name ∷ less) s = names_removed names (name ∷ less) s

-- ---- answers

sound_names : (kind : Kind) (l : Listening) → IsSound l → AreSound (names_of kind l)
sound_names Channels l h = h.channels
sound_names Patterns l h = h.patterns

sound_with : (kind : Kind) (names : List (List ℕ)) (l : Listening) → AreSound names → IsSound l → IsSound (with_these kind names l)
sound_with Channels names l s h = record { channels = s; patterns = h.patterns }
sound_with Patterns names l s h = record { channels = h.channels; patterns = s }

abbrev LeavesSound : Listening → Answer → Type 0
LeavesSound l a = IsSound (listening_after l a)

subscribed_sound : (kind : Kind) (more : List (List ℕ)) (l : Listening) (refused : Option ChannelFault) → refusal kind (names_of kind l) more ≡ refused
    → IsSound l → LeavesSound l (subscribed kind more l refused)
subscribed_sound kind more l None e h = sound_with kind (with_names (names_of kind l) more) l (all_added kind (names_of kind l) more e (sound_names kind l h)) h
subscribed_sound kind more l (Some refused) e h = h

where_sound : (test : Bool) (l : Listening) (a : Answer) → IsSound l → LeavesSound l a
    → LeavesSound l (elim test as (λ _. Answer) [ true ↦ a | false ↦ other ])
where_sound true l a h k = k
where_sound false l a h k = h

pings_sound : (words : List (List ℕ)) (l : Listening) → IsSound l → LeavesSound l (pings words l)
pings_sound [] l h = h
pings_sound (text ∷ []) l h = h
pings_sound (text ∷ word ∷ words) l h = h

executed_sound : (verb : Verb) (words : List (List ℕ)) (l : Listening) → IsSound l → LeavesSound l (executed verb words l)
executed_sound (Adds kind) [] l h = h
executed_sound (Adds kind) (name ∷ more) l h = subscribed_sound kind (name ∷ more) l (refusal kind (names_of kind l) (name ∷ more)) refl h
executed_sound (Removes kind) words l h = sound_with kind (left (names_of kind l) words) l (left_sound (names_of kind l) words (sound_names kind l h)) h
executed_sound Pings words l h = where_sound (is_listening l) l (pings words l) h (pings_sound words l h)

own_sound : (is_of_rules : Bool) (words : List (List ℕ)) (l : Listening) → IsSound l → LeavesSound l (own is_of_rules words l)
own_sound false words l h = h
own_sound true words l h = where_sound (is_listening l) l _ h h

known_sound : (verb : Option Verb) (rest : List (List ℕ)) (otherwise : Answer) (l : Listening) → IsSound l → LeavesSound l otherwise
    → LeavesSound l (known verb rest otherwise l)
known_sound None rest otherwise l h k = k
known_sound (Some verb) rest otherwise l h k = executed_sound verb rest l h

words_sound : (is_of_rules : Bool) (words : List (List ℕ)) (l : Listening) → IsSound l → LeavesSound l (answer_words is_of_rules words l)
words_sound is_of_rules [] l h = h
words_sound is_of_rules (name ∷ rest) l h =
    known_sound (verb_of name) rest (own is_of_rules (name ∷ rest) l) l h (own_sound is_of_rules (name ∷ rest) l h)

pub answer_sound : (value : Frame) (l : Listening) → IsSound l → IsSound (listening_after l (answer value l))
answer_sound (simple text) l h = h
answer_sound (fault text) l h = h
answer_sound (int n) l h = h
answer_sound (bulk bytes) l h = h
answer_sound null_bulk l h = h
answer_sound null_items l h = h
answer_sound (items fs) l h =
    where_sound (are_bulk fs) l (answer_words (is_own (redis_command_of (items fs))) (words fs) l) h (words_sound (is_own (redis_command_of (items fs))) (words fs) l h)

pub nothing_sound : IsSound (record { channels = []; patterns = [] })
nothing_sound = record { channels = none_sound; patterns = none_sound }

-- ---- what is told

untold_at : (test : Bool) (one rest : FrameList) → test ≡ false → rest ≡ no_frames → elim test as (λ _. FrameList) [ true ↦ one | false ↦ rest ] ≡ no_frames
untold_at true one rest e h = absurd (true≢false e)
untold_at false one rest e h = h

untold_for : (patterns : List (List ℕ)) (channel text : List ℕ) → list_any (λ (pattern : List ℕ). matches pattern channel) patterns ≡ false
    → told_for patterns channel text ≡ no_frames
untold_for [] channel text h = refl
untold_for (pattern ∷ patterns) channel text h =
    let rest : list_any (λ (p : List ℕ). matches p channel) patterns ≡ false =
    right_off (matches pattern channel) (list_any (λ (p : List ℕ). matches p channel) patterns) h in
    untold_at (matches pattern channel) (frame (pattern_message pattern channel text) (told_for patterns channel text)) (told_for patterns channel text)
    (left_off (matches pattern channel) (list_any (λ (p : List ℕ). matches p channel) patterns) h)
    (untold_for patterns channel text rest)

pub untold : (l : Listening) (channel text : List ℕ) → holds l.channels channel ≡ false
    → list_any (λ (pattern : List ℕ). matches pattern channel) l.patterns ≡ false → told l channel text ≡ no_frames
untold l channel text h k =
    untold_at (holds l.channels channel) (frame (message channel text) (told_for l.patterns channel text)) (told_for l.patterns channel text) h
    (untold_for l.patterns channel text k)
