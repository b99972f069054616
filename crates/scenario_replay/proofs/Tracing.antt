-- What was run of a story, line by line.
use Rattle.std.proofs.Common.{◌≡◌, ℕ, ◌+◌, ◌==◌, length, arith, Bool, true, false, List, [], ◌∷◌, ◌++◌, Result, Ok, Err, cond, refl, ap, sym, ◌∙◌, subst, append-nil, append_assoc}
use Rattle.ballot_law.specs.declared.messages.Message.{Message}
use Rattle.ballot_law.specs.declared.messages.NodeName.{NodeName}
use Rattle.ballot_law.specs.declared.steps.Step.{Step}
use Rattle.ballot_law.specs.Cuts.{lines, with_first}
use Rattle.ballot_law.specs.Results.{◌>>=◌}
use Rattle.ballot_law.specs.Rosters.{Roster}
use Rattle.ballot_law.specs.Worlds.{World}
use Rattle.boxed_nodes.specs.Images.{Image}
use Rattle.fault_world.specs.declared.scenarios.faults.ScenarioFault.{ScenarioFault}
use Rattle.fault_world.specs.declared.scenarios.faults.ScenarioKind.{ScenarioKind}
use Rattle.fault_world.specs.declared.scenarios.faults.ScenarioKind.TheVariants.{NotUtf8}
use Rattle.sentinel_rules.specs.declared.profiles.Profile.{Profile}
use Rattle.fault_world.specs.Scenarios.Scenarios.{at_line, behind, fault_at, line_of, scenario, steps_from}
use Rattle.std.specs.Str.{is_utf8}
use Rattle.fault_world.specs.declared.entry.Entry.{Entry}
use Rattle.fault_world.specs.Laws.{GoesOn, HasBegun, HasRun}
use Rattle.fault_world.specs.Standing.{IsShown}
use Rattle.scenario_replay.specs.Playing.{IsTraced}

-- A line of a text is one line

abbrev as_one : List ℕ → List (List ℕ)
as_one [] = []
as_one (b ∷ bs) = (b ∷ bs) ∷ []

abbrev cut : Bool → ℕ → List (List ℕ) → List (List ℕ)
cut ends b more = elim ends [ true ↦ [] ∷ more | false ↦ with_first b more ]

first_same : {x y : List ℕ} {xs ys : List (List ℕ)} → x ∷ xs ≡ y ∷ ys → x ≡ y
first_same {x} {y} {xs} {ys} e = cc

none_is_some : {y : List ℕ} {ys : List (List ℕ)} → (let none : List (List ℕ) = [] in none) ≡ y ∷ ys → ⊥
none_is_some {y} {ys} e = cc

first_of : (b : ℕ) (bs : List ℕ) → with_first b (as_one bs) ≡ (b ∷ bs) ∷ []
first_of b [] = refl
first_of b (x ∷ xs) = refl

plain : (b : ℕ) (bs : List ℕ) → (b == 10) ≡ false → lines bs ≡ as_one bs → lines (b ∷ bs) ≡ (b ∷ bs) ∷ []
plain b bs e more = ap (λ ends. cut ends b (lines bs)) e ∙ ap (with_first b) more ∙ first_of b bs

abbrev IsLine : List ℕ → Type 0
IsLine line = lines line ≡ as_one line

line_first : (b : ℕ) (line : List ℕ) (rest : List (List ℕ)) (bs : List ℕ) (more : List (List ℕ)) → lines bs ≡ more →
    ((part : List ℕ) (parts : List (List ℕ)) → lines bs ≡ part ∷ parts → IsLine part) → (b == 10) ≡ false → with_first b more ≡ line ∷ rest → IsLine line
line_first b line rest bs [] m below e is = subst IsLine (first_same is) (plain b [] e refl)
line_first b line rest bs (part ∷ parts) m below e is = subst IsLine (first_same is) (plain b part e (below part parts m))

line_at : (b : ℕ) (line : List ℕ) (rest : List (List ℕ)) (bs : List ℕ) (ends : Bool) → (b == 10) ≡ ends →
    ((part : List ℕ) (parts : List (List ℕ)) → lines bs ≡ part ∷ parts → IsLine part) → cut ends b (lines bs) ≡ line ∷ rest → IsLine line
line_at b line rest bs true e below is = subst IsLine (first_same is) refl
line_at b line rest bs false e below is = line_first b line rest bs (lines bs) refl below e is

first_line : (text line : List ℕ) (rest : List (List ℕ)) → lines text ≡ line ∷ rest → IsLine line
first_line [] line rest is = absurd (none_is_some is)
first_line (b ∷ bs) line rest is = line_at b line rest bs (b == 10) refl (λ part parts m. first_line bs part parts m) is

-- Its steps

abbrev Told : Type 0
Told = Result (List Step) ScenarioFault

fault_is_none : {fault : ScenarioFault} {steps : List Step} → (let r : Told = Err fault in r) ≡ Ok steps → ⊥
fault_is_none {fault} {steps} e = cc

steps_same : {xs ys : List Step} → (let r : Told = Ok xs in r) ≡ Ok ys → xs ≡ ys
steps_same {xs} {ys} e = cc

of_utf8 : (is : Bool) (told : Told) (fault : ScenarioFault) (steps : List Step) → cond is told (Err fault) ≡ Ok steps → told ≡ Ok steps
of_utf8 true told fault steps e = e
of_utf8 false told fault steps e = absurd (fault_is_none e)

abbrev Line : Type 0
Line = Result (List Step) ScenarioKind

of_one : (line : Line) (steps : List Step) → (at_line 1 line >>= λ told. behind told (Ok [])) ≡ Ok steps → line ≡ Ok steps
of_one (Ok told) steps e = ap (λ xs. let r : Line = Ok xs in r) (sym (append-nil told) ∙ steps_same e)
of_one (Err kind) steps e = absurd (fault_is_none e)

one_line : (profile : Profile) (line : List ℕ) (steps : List Step) → IsLine line → steps_from profile 1 (lines line) ≡ Ok steps → line_of profile line ≡ Ok steps
one_line profile [] steps is e = ap (λ xs. let r : Line = Ok xs in r) (steps_same e)
one_line profile (b ∷ bs) steps is e = of_one (line_of profile (b ∷ bs)) steps (ap (steps_from profile 1) (sym is) ∙ e)

line_told : (profile : Profile) (text line : List ℕ) (rest : List (List ℕ)) (steps : List Step) → lines text ≡ line ∷ rest → scenario profile line ≡ Ok steps → line_of profile line ≡ Ok steps
line_told profile text line rest steps first told =
    one_line profile line steps (first_line text line rest first) (of_utf8 (is_utf8 line) (steps_from profile 1 (lines line)) (fault_at 0 NotUtf8) steps told)

behind_both : (xs ys : List Step) (told : Told) → behind xs (behind ys told) ≡ behind (xs ++ ys) told
behind_both xs ys (Ok steps) = ap (λ zs. let r : Told = Ok zs in r) (sym (append_assoc xs ys steps))
behind_both xs ys (Err fault) = refl

one_more : (profile : Profile) (n : ℕ) (line : List ℕ) (rest : List (List ℕ)) (xs ys : List Step) → line_of profile line ≡ Ok ys →
    behind xs (steps_from profile n (line ∷ rest)) ≡ behind (xs ++ ys) (steps_from profile (n + 1) rest)
one_more profile n line rest xs ys told = ap (λ l. behind xs (at_line n l >>= λ steps. behind steps (steps_from profile (n + 1) rest))) told ∙ behind_both xs ys (steps_from profile (n + 1) rest)

-- The run so far

pub record TracedTo (profile : Profile) (roster : Roster) (story rest : List ℕ) (shown : World → Type 0) : Type 0 where
  pub steps : List Step
  pub number : ℕ
  pub read : steps_from profile 1 (lines story) ≡ behind steps (steps_from profile number (lines rest))
  pub start : World
  pub entries : List Entry
  pub run : HasRun roster start steps entries shown

none_before : (told : Told) → told ≡ behind [] told
none_before (Ok steps) = refl
none_before (Err fault) = refl

pub traced_begin : (profile : Profile) (roster : Roster) (story : List ℕ) (shown : World → Type 0) → HasBegun roster shown → TracedTo profile roster story story shown
traced_begin profile roster story shown begun = record { steps = []; number = 1; read = none_before (steps_from profile 1 (lines story)); start = begun.0; entries = []; run = begun.1 }

pub traced_more : {M : Type 0} (profile : Profile) (old new : Roster) (story rest line more : List ℕ) (steps : List Step) (news : List Entry) (members members2 : List M)
    (messages messages2 : List Message) → new ≡ old → lines rest ≡ line ∷ lines more → scenario profile line ≡ Ok steps →
    (name : M → NodeName) (seat : M → Roster → Image → Type 0) → TracedTo profile old story rest (IsShown name seat old members messages) →
    GoesOn old steps news (IsShown name seat old members messages) (IsShown name seat old members2 messages2) →
    TracedTo profile new story more (IsShown name seat new members2 messages2)
traced_more profile old new story rest line more steps news members members2 messages messages2 same first told name seat before next =
    subst (λ r. TracedTo profile r story more (IsShown name seat r members2 messages2)) (sym same)
    (record {
      steps = before.steps ++ steps;
      number = before.number + 1;
      read = before.read ∙ ap (λ ls. behind before.steps (steps_from profile before.number ls)) first ∙
          one_more profile before.number line (lines more) before.steps steps (line_told profile rest line (lines more) steps first told);
      start = before.start;
      entries = before.entries ++ news;
      run = next before.start before.steps before.entries before.run;
    })

nothing : (text : List ℕ) → length text ≡ 0 → text ≡ []
nothing [] none = refl
nothing (b ∷ bs) none = absurd (omega (arith, none))

pub traced_end : {M : Type 0} (profile : Profile) (old new : Roster) (story rest : List ℕ) (members : List M) (messages : List Message) → new ≡ old → length rest ≡ 0 →
    (name : M → NodeName) (seat : M → Roster → Image → Type 0) → TracedTo profile new story rest (IsShown name seat new members messages) →
    IsTraced profile old story (IsShown name seat old members messages)
traced_end profile old new story rest members messages same empty name seat traced =
    let t = subst (λ r. TracedTo profile r story rest (IsShown name seat r members messages)) same traced in
    record {
      steps = t.steps;
      read = t.read ∙ ap (λ text. behind t.steps (steps_from profile t.number (lines text))) (nothing rest empty) ∙ ap (λ xs. let r : Told = Ok xs in r) (append-nil t.steps);
      start = t.start;
      entries = t.entries;
      run = t.run;
    }
