-- The steps of reading a file.
use Rattle.std.proofs.Common.{◌≡◌, ℕ, suc, ◌≤◌, ◌<◌, Bool, true, false, ltb, List, [], ◌∷◌, map, length, min, get_or, Option, Some, None, Result, Ok, Err, refl, ap, sym, ◌∙◌, arith, length-take}
use Rattle.std.specs.Prelude.{not, MatchResult}
use Rattle.std.specs.List.{filter_map, cons_option, flat_map, list_any}
use Rattle.std.specs.Str.{IsUtf8, is_utf8}
use Rattle.std.proofs.lemmas.Bool.Decides.{nat_tests}
use Rattle.std.proofs.lemmas.Str.{is_utf8-from_IsUtf8, IsUtf8-from_is_utf8}
use Rattle.ballot_law.specs.declared.addresses.RunId.{RunId}
use Rattle.ballot_law.specs.RosterFaults.{fault_of}
use Rattle.conf_lines.specs.declared.faults.ConfKind.{ConfKind}
use Rattle.conf_lines.specs.declared.faults.ConfKind.TheVariants.{TooLong, NotUtf8, NoMyId}
use Rattle.conf_lines.specs.declared.faults.ConfFault.{ConfFault}
use Rattle.conf_lines.specs.declared.lines.StateLine.{StateLine}
use Rattle.conf_lines.specs.declared.lines.Setting.{Setting}
use Rattle.conf_lines.specs.declared.lines.Line.{Line}
use Rattle.ballot_law.specs.Cuts.{lines}
use Rattle.conf_lines.specs.Lines.{line_of}
use Rattle.sentinel_conf.specs.Meaning.{ConfPlan, states, settings, first_given, is_kept, conf_of}
use Rattle.conf_lines.specs.Values.{name_of, my_id_of}
use Rattle.sentinel_conf.specs.Rewritten.{rewritten, longest}
use Rattle.conf_lines.specs.Words.{ended}
use Rattle.bounded_list.specs.BoundedLists.{bounded as bounded_to}
use Rattle.sentinel_conf.specs.declared.conf_text.TheConstants.{ROOM}
use Rattle.sentinel_conf.specs.Room.{bounded}
use Rattle.ballot_law.specs.Results.{◌>>=◌}
use Rattle.sentinel_conf.specs.Reading.{FILE_MAX, line_fault, unknown_fault, first_fault, unless, guard, found, checked, roster_checked, sized, kept_lines_of, whole_conf, conf_of_lines, conf_of_bytes}
use Rattle.conf_lines.specs.Faults.{fault_at}
use Rattle.conf_lines.proofs.SpacedWords.{HasNoLf, lines-ended}
use Rattle.sentinel_conf.proofs.SetLemmas.{each_in, each_from}
use Rattle.sentinel_conf.proofs.FileLemmas.{from_filter}
use Rattle.sentinel_conf.proofs.TextLemmas.{text_lines}

given_step : {X Y : Type 0} (h : X → Option Y) (kind : ConfKind) (xs : List X) (o : Option Y)
    → found kind (filter_map h xs) ≡ (elim (first_given h xs) as (λ _. Result Y ConfFault) [ None ↦ Err (fault_at 0 kind) | Some y ↦ Ok y ])
    → found kind (cons_option o (filter_map h xs))
    ≡ (elim (elim o as (λ _. Option Y) [ Some y ↦ Some y | None ↦ first_given h xs ]) as (λ _. Result Y ConfFault) [ None ↦ Err (fault_at 0 kind) | Some y ↦ Ok y ])
given_step h kind xs (Some y) i = refl
given_step h kind xs None i = i

found-given : {X Y : Type 0} (h : X → Option Y) (kind : ConfKind) (xs : List X)
    → found kind (filter_map h xs) ≡ (elim (first_given h xs) as (λ _. Result Y ConfFault) [ None ↦ Err (fault_at 0 kind) | Some y ↦ Ok y ])
found-given h kind [] = refl
found-given h kind (x ∷ xs) = given_step h kind xs (h x) (found-given h kind xs)

pub match_map : {X E : Type 0} (P Q : X → Type 0) (R S : E → Type 0) (r : Result X E) → ((x : X) → P x → Q x) → ((e : E) → R e → S e) → MatchResult r P R → MatchResult r Q S
match_map P Q R S (Ok x) f g h = f x h
match_map P Q R S (Err e) f g h = g e h

module _ (texts : List (List ℕ)) where
  abbrev ls : List Line
  ls = map line_of texts

  abbrev named : List (List ℕ)
  named = filter_map name_of (states ls)

  abbrev identified : RunId → Result ConfPlan ConfFault
  identified id = roster_checked (whole_conf texts id) >>= λ _. sized (whole_conf texts id)

  abbrev with_id : Result ConfPlan ConfFault
  with_id = found NoMyId (filter_map my_id_of (states ls)) >>= identified

  abbrev with_names : List (List ℕ) → Result ConfPlan ConfFault
  with_names names = unless (first_fault (λ _. unknown_fault names) 1 [] ls) >>= λ _. with_id

  lines_clean : (names : List (List ℕ)) → names ≡ named → first_fault line_fault 1 [] ls ≡ None → conf_of_lines texts ≡ with_names names
  lines_clean names n a = ap (λ t. unless t >>= λ _. with_names named) a ∙ ap with_names (sym n)

  pub line_faulty : (fault : ConfFault) → first_fault line_fault 1 [] ls ≡ Some fault → conf_of_lines texts ≡ Err fault
  line_faulty fault e = ap (λ t. unless t >>= λ _. with_names named) e

  pub name_faulty : (fault : ConfFault) (names : List (List ℕ)) → names ≡ named → first_fault line_fault 1 [] ls ≡ None
      → first_fault (λ _. unknown_fault names) 1 [] ls ≡ Some fault → conf_of_lines texts ≡ Err fault
  name_faulty fault names n a e = lines_clean names n a ∙ ap (λ t. unless t >>= λ _. with_id) e

  names_clean : (names : List (List ℕ)) → names ≡ named → first_fault line_fault 1 [] ls ≡ None → first_fault (λ _. unknown_fault names) 1 [] ls ≡ None
      → conf_of_lines texts ≡ with_id
  names_clean names n a b = lines_clean names n a ∙ ap (λ t. unless t >>= λ _. with_id) b

  pub without_id : (names : List (List ℕ)) → names ≡ named → first_fault line_fault 1 [] ls ≡ None → first_fault (λ _. unknown_fault names) 1 [] ls ≡ None
      → (ss : List StateLine) → ss ≡ states ls → first_given my_id_of ss ≡ None → conf_of_lines texts ≡ Err (fault_at 0 NoMyId)
  without_id names n a b ss s e =
      names_clean names n a b
      ∙ ap (λ t. found NoMyId (filter_map my_id_of t) >>= identified) (sym s)
      ∙ ap (λ t. t >>= identified) (found-given my_id_of NoMyId ss)
      ∙ ap (λ t. (elim t as (λ _. Result RunId ConfFault) [ None ↦ Err (fault_at 0 NoMyId) | Some y ↦ Ok y ]) >>= identified) e

  pub with_this_id : (names : List (List ℕ)) → names ≡ named → first_fault line_fault 1 [] ls ≡ None → first_fault (λ _. unknown_fault names) 1 [] ls ≡ None
      → (ss : List StateLine) → ss ≡ states ls → (id : RunId) → first_given my_id_of ss ≡ Some id → conf_of_lines texts ≡ identified id
  with_this_id names n a b ss s id e =
      names_clean names n a b
      ∙ ap (λ t. found NoMyId (filter_map my_id_of t) >>= identified) (sym s)
      ∙ ap (λ t. t >>= identified) (found-given my_id_of NoMyId ss)
      ∙ ap (λ t. (elim t as (λ _. Result RunId ConfFault) [ None ↦ Err (fault_at 0 NoMyId) | Some y ↦ Ok y ]) >>= identified) e

  pub whole_is : (kept : List (List ℕ)) (ss : List StateLine) (sets : List Setting) (id : RunId) → kept ≡ kept_lines_of texts → ss ≡ states ls → sets ≡ settings ls
      → conf_of kept ss sets id ≡ whole_conf texts id
  whole_is kept ss sets id k s t =
      ap (λ x. conf_of x ss sets id) k ∙ ap (λ x. conf_of (kept_lines_of texts) x sets id) s ∙ ap (λ x. conf_of (kept_lines_of texts) (states ls) x id) t

  pub rostered : (id : RunId) (conf parts : ConfPlan) → conf ≡ whole_conf texts id → (fault_of parts.roster ≡ None) × (parts ≡ conf) → identified id ≡ sized parts
  rostered id conf parts e h =
      ap (λ t. roster_checked t >>= λ _. sized t) (sym (h.1 ∙ e)) ∙ ap (λ t. checked t >>= λ _. sized parts) h.0

  pub not_rostered : (id : RunId) (conf : ConfPlan) (fault : ConfFault) → conf ≡ whole_conf texts id → roster_checked conf ≡ Err fault → identified id ≡ Err fault
  not_rostered id conf fault e h =
      ap (λ t. roster_checked t >>= λ _. sized t) (sym e) ∙ ap (λ t. t >>= λ _. sized conf) h

pub kept_lines_again : (bytes kept : List ℕ) → IsUtf8 bytes → kept ≡ flat_map ended (kept_lines_of (lines bytes)) → lines kept ≡ kept_lines_of (lines bytes)
kept_lines_again bytes kept u e =
    let all = text_lines bytes u in
    ap lines e
    ∙ lines-ended (kept_lines_of (lines bytes))
    (each_from HasNoLf (kept_lines_of (lines bytes)) (λ t i.
    (each_in (λ t. HasNoLf t × IsUtf8 t) (lines bytes) all t (from_filter (λ text. is_kept (line_of text)) t (lines bytes) i).1).0))

pub kept_is_ended : (bytes kept : List ℕ) → IsUtf8 bytes → kept ≡ flat_map ended (kept_lines_of (lines bytes)) → kept ≡ flat_map ended (lines kept)
kept_is_ended bytes kept u e = e ∙ ap (flat_map ended) (sym (kept_lines_again bytes kept u e))

-- the size of what the room holds
pub over : (text whole : List ℕ) → text ≡ bounded whole → FILE_MAX < length text → FILE_MAX < length whole
unfolding bounded_to
over text whole e h = let n : length text ≡ min ROOM (length whole) = ap length e ∙ length-take ROOM whole in omega arith

pub under : (text whole : List ℕ) → text ≡ bounded whole → length text ≤ FILE_MAX → length whole ≤ FILE_MAX
unfolding bounded_to
under text whole e h = let n : length text ≡ min ROOM (length whole) = ap length e ∙ length-take ROOM whole in omega arith

fits_in : (bytes : List ℕ) → length bytes ≤ FILE_MAX → conf_of_bytes bytes ≡ (guard (not (is_utf8 bytes)) NotUtf8 >>= λ _. conf_of_lines (lines bytes))
fits_in bytes h =
    let e : ltb FILE_MAX (length bytes) ≡ false = grind (arith, nat_tests) in
    ap (λ t. guard t TooLong >>= λ _. guard (not (is_utf8 bytes)) NotUtf8 >>= λ _. conf_of_lines (lines bytes)) e

no_text_by : (bytes : List ℕ) → ¬ (IsUtf8 bytes) → (t : Bool) → is_utf8 bytes ≡ t → is_utf8 bytes ≡ false
no_text_by bytes h true e = absurd (h (IsUtf8-from_is_utf8 bytes e))
no_text_by bytes h false e = e

pub not_text : (bytes : List ℕ) → length bytes ≤ FILE_MAX → ¬ (IsUtf8 bytes) → conf_of_bytes bytes ≡ Err (fault_at 0 NotUtf8)
not_text bytes h u =
    fits_in bytes h ∙ ap (λ t. guard (not t) NotUtf8 >>= λ _. conf_of_lines (lines bytes)) (no_text_by bytes u (is_utf8 bytes) refl)

pub of_text : (bytes : List ℕ) → length bytes ≤ FILE_MAX → IsUtf8 bytes → conf_of_bytes bytes ≡ conf_of_lines (lines bytes)
of_text bytes h u = fits_in bytes h ∙ ap (λ t. guard (not t) NotUtf8 >>= λ _. conf_of_lines (lines bytes)) (is_utf8-from_IsUtf8 bytes u)

pub sized_over : (conf : ConfPlan) → FILE_MAX < length (rewritten conf (longest conf.kept)) → sized conf ≡ Err (fault_at 0 TooLong)
sized_over conf h =
    let e : ltb FILE_MAX (length (rewritten conf (longest conf.kept))) ≡ true = grind (arith, nat_tests) in
    ap (λ t. let r : Result ConfPlan ConfFault = guard t TooLong >>= λ _. Ok conf in r) e

pub sized_under : (conf : ConfPlan) → length (rewritten conf (longest conf.kept)) ≤ FILE_MAX → sized conf ≡ Ok conf
sized_under conf h =
    let e : ltb FILE_MAX (length (rewritten conf (longest conf.kept))) ≡ false = grind (arith, nat_tests) in
    ap (λ t. let r : Result ConfPlan ConfFault = guard t TooLong >>= λ _. Ok conf in r) e

-- where none of the elements passes
pub none_passes : {X : Type 0} (p : X → Bool) (xs : List X) → ((k : ℕ) (d : X) → k < length xs → p (get_or xs k d) ≡ false) → list_any p xs ≡ false
none_passes p [] h = refl
none_passes p (x ∷ xs) h =
    let first : p x ≡ false = h 0 x (omega arith) in
    let rest : list_any p xs ≡ false = none_passes p xs (λ k d l. h (suc k) d (omega arith)) in
    cc
