-- The first of all faults of lines, by which they are refused.
use Rattle.std.proofs.Common.{◌≡◌, ℕ, ◌+◌, List, [], ◌∷◌, ◌++◌, map, Option, Some, None, Err, refl, ap, sym, ◌∙◌, append-nil}
use Rattle.std.specs.List.{filter_map, cons_option}
use Rattle.ballot_law.specs.Results.{◌>>=◌}
use Rattle.ballot_law.specs.declared.addresses.RunId.{RunId}
use Rattle.conf_lines.specs.declared.faults.ConfKind.{ConfKind}
use Rattle.conf_lines.specs.declared.faults.ConfFault.{ConfFault}
use Rattle.conf_lines.specs.declared.lines.StateLine.{StateLine}
use Rattle.conf_lines.specs.declared.lines.Line.{Line}
use Rattle.conf_lines.specs.declared.lines.Line.TheVariants as kind
use Rattle.conf_lines.specs.declared.faults.ConfKind.TheVariants.{NoMyId}
use Rattle.conf_lines.specs.Faults.{fault_at}
use Rattle.conf_lines.specs.Lines.{line_of}
use Rattle.conf_lines.specs.Values.{my_id_of, name_of}
use Rattle.sentinel_conf.specs.Meaning.{ConfPlan, states, first_given}
use Rattle.sentinel_conf.specs.Reading.{at_line, faults, first_of, first_fault, line_fault, unknown_fault, roster_checked, sized, whole_conf, conf_of_lines}
use Rattle.sentinel_conf.specs.RefusedNames.{name_if, refused_name}
use Rattle.sentinel_conf.specs.AllFaults.{line_faults, unknown_faults, id_faults, names_in, faults_in, FirstRefuses}
use Rattle.sentinel_conf.proofs.ReadSteps.{line_faulty, name_faulty, without_id, with_this_id}

some_same : (one other : ConfFault) → Some one ≡ Some other → one ≡ other
some_same one other e = cc

left_nil : (one two : List ConfFault) → one ++ two ≡ [] → one ≡ []
left_nil [] two e = refl
left_nil (fault ∷ one) two e = cc

right_nil : (one two : List ConfFault) → one ++ two ≡ [] → two ≡ []
right_nil [] two e = e
right_nil (fault ∷ one) two e = cc

-- where no line is at fault by itself, none at fault names a master
no_name : (earlier : List StateLine) (line : Line) (text : List ℕ) → line_fault earlier line ≡ None → name_if line text ≡ None
no_name earlier kind.Kept text e = refl
no_name earlier (kind.Setting setting) text e = refl
no_name earlier (kind.State state) text e = refl
no_name earlier (kind.Faulty fault) text e = cc

no_fault_here : (number : ℕ) (found : Option ConfKind) → at_line number found ≡ [] → found ≡ None
no_fault_here number None e = refl
no_fault_here number (Some kind) e = cc

no_names : (number : ℕ) (earlier : List StateLine) (texts : List (List ℕ)) → faults line_fault number earlier (map line_of texts) ≡ [] → filter_map refused_name texts ≡ []
no_names number earlier [] e = refl
no_names number earlier (text ∷ texts) e =
    let here = at_line number (line_fault earlier (line_of text)) in
    let later = faults line_fault (number + 1) (earlier ++ states (line_of text ∷ [])) (map line_of texts) in
    ap (λ found. cons_option found (filter_map refused_name texts))
    (no_name earlier (line_of text) text (no_fault_here number (line_fault earlier (line_of text)) (left_nil here later e)))
    ∙ no_names (number + 1) (earlier ++ states (line_of text ∷ [])) texts (right_nil here later e)

-- a test that doesn't look at the state lines before
by_names : (names : List (List ℕ)) (number : ℕ) (earlier : List StateLine) (said : List Line)
    → faults (λ _. unknown_fault names) number earlier said ≡ unknown_faults names number said
by_names names number earlier [] = refl
by_names names number earlier (line ∷ said) =
    ap (λ fs. at_line number (unknown_fault names line) ++ fs) (by_names names (number + 1) (earlier ++ states (line ∷ [])) said)

module _ (texts : List (List ℕ)) where
  abbrev said : List Line
  said = map line_of texts

  abbrev named : List (List ℕ)
  named = filter_map name_of (states said)

  abbrev of_id : List ConfFault
  of_id = id_faults (first_given my_id_of (states said))

  abbrev of_names : List (List ℕ) → List ConfFault
  of_names names = unknown_faults names 1 said

  given_are_named : line_faults said ≡ [] → names_in said texts ≡ named
  given_are_named e = ap (λ xs. named ++ xs) (no_names 1 [] texts e) ∙ append-nil named

  none_alone : faults_in texts ≡ [] → line_faults said ≡ []
  none_alone e = left_nil (line_faults said) (of_names (names_in said texts) ++ of_id) e

  none_named : faults_in texts ≡ [] → of_names named ≡ []
  none_named e =
      sym (ap of_names (given_are_named (none_alone e)))
      ∙ left_nil (of_names (names_in said texts)) of_id (right_nil (line_faults said) (of_names (names_in said texts) ++ of_id) e)

  pub no_line_faulty : faults_in texts ≡ [] → first_fault line_fault 1 [] said ≡ None
  no_line_faulty e = ap first_of (none_alone e)

  pub no_name_faulty : faults_in texts ≡ [] → first_fault (λ _. unknown_fault named) 1 [] said ≡ None
  no_name_faulty e = ap first_of (by_names named 1 [] said ∙ none_named e)

  at_id : (fault : ConfFault) (id : Option RunId) → first_given my_id_of (states said) ≡ id → line_faults said ≡ [] → of_names named ≡ []
      → first_of (id_faults id) ≡ Some fault → conf_of_lines texts ≡ Err fault
  at_id fault None i one two e =
      without_id texts named refl (ap first_of one) (ap first_of (by_names named 1 [] said ∙ two)) (states said) refl i
      ∙ ap Err (some_same (fault_at 0 NoMyId) fault e)
  at_id fault (Some id) i one two e = cc

  at_name : (fault : ConfFault) (two : List ConfFault) → of_names named ≡ two → line_faults said ≡ [] → first_of (two ++ of_id) ≡ Some fault → conf_of_lines texts ≡ Err fault
  at_name fault [] two one e = at_id fault (first_given my_id_of (states said)) refl one two e
  at_name fault (f ∷ fs) two one e = name_faulty texts fault named refl (ap first_of one) (ap first_of (by_names named 1 [] said ∙ two) ∙ e)

  at_line_alone : (fault : ConfFault) (one : List ConfFault) → line_faults said ≡ one → first_of (one ++ (of_names (names_in said texts) ++ of_id)) ≡ Some fault
      → conf_of_lines texts ≡ Err fault
  at_line_alone fault [] one e =
      at_name fault (of_names named) refl one (ap (λ ns. first_of (of_names ns ++ of_id)) (sym (given_are_named one)) ∙ e)
  at_line_alone fault (f ∷ fs) one e = line_faulty texts fault (ap first_of one ∙ e)

  pub first_refuses : FirstRefuses texts
  first_refuses fault e = at_line_alone fault (line_faults said) refl e

  some_id : (o : Option RunId) → id_faults o ≡ [] → (id : RunId) × (o ≡ Some id)
  some_id None e = cc
  some_id (Some id) e = (id, refl)

  -- lines without a fault are refused, if at all, for the group that they make, or for its size
  pub faultless : faults_in texts ≡ [] → (conf : ConfPlan) × (conf_of_lines texts ≡ (roster_checked conf >>= λ _. sized conf))
  faultless e =
      let id = some_id (first_given my_id_of (states said))
      (right_nil (of_names (names_in said texts)) of_id (right_nil (line_faults said) (of_names (names_in said texts) ++ of_id) e)) in
      (whole_conf texts id.0, with_this_id texts named refl (no_line_faulty e) (no_name_faulty e) (states said) refl id.0 id.1)
