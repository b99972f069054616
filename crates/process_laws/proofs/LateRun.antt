-- The run of `specs/LateAnswers.antt`: what its takes choose, and the worlds between.
use Rattle.std.proofs.Common.{◌≡◌, ℕ, ◌-◌, ◌<◌, true, List, [], ◌∷◌, ◌++◌, refl, ap, inl, inr, arith, lit<}
use Rattle.ballot_law.specs.declared.cards.Kept.{Kept}
use Rattle.ballot_law.specs.declared.cards.TheConstants.{MAX_EPOCH}
use Rattle.ballot_law.specs.declared.events.Event.TheVariants.{Tick}
use Rattle.ballot_law.specs.declared.steps.KeptText.TheVariants.{New}
use Rattle.ballot_law.specs.Ballots.{Open, Cast, Win_at, Choose, Enact, Drop}
use Rattle.ballot_law.specs.Worlds.{World, Move, sentinel_at, Choice, IsChoice, after_stop, after_answer, stores_of, Joined}
use Rattle.ballot_law.specs.Refusals.{addr, own_id, roster, begin}
use Rattle.ballot_law.proofs.RefusalsRun.{refusals_happen}
use Rattle.ballot_law.proofs.Runs.{runs_join}
use Rattle.ballot_law.proofs.Scripts.{choose, take_as, store_as, release_as, start_as, held_none}
use Rattle.process_laws.specs.LateAnswers.{first_failover, second_failover, begun_anew, moves, IsEnd, LateAnswersHappen}

-- the Sentinel shows the first master's configuration after its first so many stores
abbrev late_as : World → ℕ → World
late_as w k = after_answer w 0 0 k

-- and as last stored
abbrev answer_as : World → World
answer_as w = late_as w (stores_of (sentinel_at w 0))

abbrev kill_as : World → World
kill_as w = after_stop w 0 (sentinel_at w 0) (sentinel_at w 0).state New

-- A failover in one input: the quorum is one, so the own vote is enough

abbrev w1 : World
w1 = start_as roster begin 0

abbrev first : Choice
first =
    choose w1 0
    (Open 0
    ∷ Cast 0 (MAX_EPOCH - 1) own_id
    ∷ Win_at 0 (MAX_EPOCH - 1)
    ∷ Choose 0 (MAX_EPOCH - 1) (addr 6380)
    ∷ Enact 0 (MAX_EPOCH - 1) (addr 6380)
    ∷ [])
    true
    []

may_first : IsChoice roster 0 (Tick 0 0) (sentinel_at w1 0) first
may_first =
    record {
      moved = (
        (lit< tt, refl, lit< tt),
        (
          (lit< tt, refl, lit< tt),
          (
            (lit< tt, refl, inl (inr (refl, refl, refl), tt)),
            ((lit< tt, refl, refl, (λ e. let f : 6380 ≡ 6379 = ap (λ a. a.port) e in omega arith)), ((lit< tt, refl), refl)),
          ),
        ),
      );
      must_store = ((λ _. inr (λ e. let f : MAX_EPOCH - 1 ≡ MAX_EPOCH - 2 = ap (λ (k : Kept). k.current) e in omega arith)), (λ _. refl));
      held = held_none roster 0 first.parts;
    }

abbrev w2 : World
w2 = take_as w1 0 first

abbrev w3 : World
w3 = answer_as w2

abbrev w4 : World
w4 = store_as w3 0

abbrev w5 : World
w5 = release_as roster w4 0

abbrev w6 : World
w6 = answer_as w5

abbrev w7 : World
w7 = late_as w6 0

failing_over : Joined roster first_failover begin w7
failing_over = (
  w1,
  inl ((lit< tt, refl), refl),
  (
    w2,
    inl (((lit< tt, refl), tt), (first, may_first, refl)),
    (
      w3,
      inl ((lit< tt, lit< tt, (λ e. absurd (cc)), lit< tt), refl),
      (
        w4,
        inl ((lit< tt, refl), refl),
        (
          w5,
          inl ((lit< tt, refl), refl),
          (
            w6,
            inl ((lit< tt, lit< tt, (λ e. absurd (cc)), lit< tt), refl),
            (
              w7,
              inl ((lit< tt, lit< tt, (λ e. absurd (cc)), lit< tt), refl),
              (w7, inr ((λ a. let f : 2 < 2 = a.3 in omega arith), refl), refl),
            ),
          ),
        ),
      ),
    ),
  ),
)

-- Another failover, in the last epoch

abbrev second : Choice
second =
    choose w7 0
    (Drop 0
    ∷ Open 0
    ∷ Cast 0 MAX_EPOCH own_id
    ∷ Win_at 0 MAX_EPOCH
    ∷ Choose 0 MAX_EPOCH (addr 6379)
    ∷ Enact 0 MAX_EPOCH (addr 6379)
    ∷ [])
    true
    []

may_second : IsChoice roster 0 (Tick 0 0) (sentinel_at w7 0) second
may_second =
    record {
      moved = (
        lit< tt,
        (
          (lit< tt, refl, lit< tt),
          (
            (lit< tt, refl, lit< tt),
            (
              (lit< tt, refl, inl (inr (refl, refl, refl), tt)),
              ((lit< tt, refl, refl, (λ e. let f : 6379 ≡ 6380 = ap (λ a. a.port) e in omega arith)), ((lit< tt, refl), refl)),
            ),
          ),
        ),
      );
      must_store = ((λ _. inr (λ e. let f : MAX_EPOCH ≡ MAX_EPOCH - 1 = ap (λ (k : Kept). k.current) e in omega arith)), (λ _. refl));
      held = held_none roster 0 second.parts;
    }

abbrev w8 : World
w8 = take_as w7 0 second

abbrev w9 : World
w9 = answer_as w8

abbrev w10 : World
w10 = late_as w9 0

abbrev w11 : World
w11 = kill_as w10

being_killed : Joined roster second_failover w7 w11
being_killed = (
  w8,
  inl (((lit< tt, refl), tt), (second, may_second, refl)),
  (
    w9,
    inl ((lit< tt, lit< tt, (λ e. absurd (cc)), lit< tt), refl),
    (
      w10,
      inl ((lit< tt, lit< tt, (λ e. absurd (cc)), lit< tt), refl),
      (
        w11,
        inl (lit< tt, refl),
        (w11, inr ((λ a. a.2 refl), refl), refl),
      ),
    ),
  ),
)

-- It begins anew

abbrev w12 : World
w12 = start_as roster w11 0

abbrev w13 : World
w13 = answer_as w12

abbrev w14 : World
w14 = late_as w13 0

beginning_anew : Joined roster begun_anew w11 w14
beginning_anew = (
  w12,
  inl ((lit< tt, refl), refl),
  (
    w13,
    inl ((lit< tt, lit< tt, (λ e. absurd (cc)), lit< tt), refl),
    (
      w14,
      inl ((lit< tt, lit< tt, (λ e. absurd (cc)), lit< tt), refl),
      (w14, inr ((λ a. let f : 1 < 1 = a.3 in omega arith), refl), refl),
    ),
  ),
)

-- The whole

then : (w next last : World) (before after : List Move) → Joined roster before w next → Joined roster after next last → Joined roster (before ++ after) w last
then w next last before after = runs_join roster w next last before after

run : Joined roster moves begin w14
run =
    then begin w7 w14 first_failover (second_failover ++ begun_anew) failing_over
    (then w7 w11 w14 second_failover begun_anew being_killed beginning_anew)

ends : IsEnd w14
ends =
    record {
      votes = refl;
      elected_are = refl;
      said = refl;
      messages = refl;
      state = refl;
      file = refl;
    }

pub late_answers_happen : LateAnswersHappen
late_answers_happen = (refusals_happen.0, refusals_happen.1, (w14, run, ends))
