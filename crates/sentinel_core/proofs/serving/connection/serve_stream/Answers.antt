use Rattle.std.proofs.Common.{◌++◌, ◌∙◌, ◌≤◌, ◌*◌, ◌+◌, [], arith, length, length-append, length-take, take, refl, subst}
use Rattle.std.proofs.lemmas.Result.{err_from_is_err_and}
use Rattle.std.proofs.lemmas.List.{append-nil}
use Rattle.std.specs.Io.KnownBytes.{Consumes}
use Rattle.sentinel_core.proofs.ServingLemmas.KnownBytes.{appends_twice, appends_nothing, consumes_twice}
use Rattle.sentinel_core.proofs.ServingLemmas.Steps.{opened_idle, nothing_read, read_none, idle_cut, served, idle_later, ends_here, answers_counted}
use Rattle.sentinel_core.proofs.serving.connection.serve_stream.Goals as goal
use Rattle.sentinel_core.proofs.serving.connection.serve_stream.Goals.{in-Ok+in_ok-take_piece-in-Ok, in-Err+else-ne}

pub loop-turn-init : goal.loop-turn-init
loop-turn-init g c =
    let plan = g.N.PortSentinel.plan c.args.sentinel.now in
    let core = g.N.PortSentinel.core c.args.sentinel.now in
    let held = g.S.ConfStore.held c.args.store.now in
    let new = c.new-connection.ensures in
    rw (new.frames, new.text, new.answers)
    (omega arith, ([], [], nothing_read _, appends_nothing _, opened_idle plan c.args.now core held _ refl, omega arith), new.clock, refl, c.requires.ready, refl)

pub returns-in-Ok-eq0-clause-served : goal.returns-in-Ok-eq0-clause-served
returns-in-Ok-eq0-clause-served g c =
    let plan = g.N.PortSentinel.plan c.args.sentinel.now in
    let core = g.N.PortSentinel.core c.args.sentinel.now in
    let so_far = c.loop-turn.invariant.1 in
    let read = rw c.in-Ok-eq0.is at c.read.ensures.bytes in
    let nothing = rw c.in-Ok-eq0.field-0-test at read.0 in (
      so_far.0,
      so_far.1,
      subst (λ xs. Consumes (g.R.Read.remaining c.args.reader.now) (g.R.Read.remaining c.read.new.self) xs) (append-nil so_far.0) (consumes_twice _ _ _ _ _ so_far.2 nothing),
      so_far.3,
      served plan c.args.now core (g.S.ConfStore.held c.args.store.now) so_far.0 so_far.1 _ _ _ _ _ so_far.4,
    )

pub returns-in_err-take_piece-in-Ok-clause-served : goal.returns-in_err-take_piece-in-Ok-clause-served
returns-in_err-take_piece-in-Ok-clause-served g c =
    let so_far = c.loop-turn.invariant.1 in
    let piece = take c.in-Ok.count c.read.new.buf in
    let read = rw c.in-Ok.is at c.read.ensures.bytes in
    let plan = g.N.PortSentinel.plan c.args.sentinel.now in
    let core = g.N.PortSentinel.core c.args.sentinel.now in
    let held = g.S.ConfStore.held c.args.store.now in
    let later = (g.N.PortSentinel.plan c.loop-turn.sentinel) in
    let at = c.loop-turn.connection.clock in
    let idle = idle_later plan later c.args.now at c.loop-turn.invariant.3 c.loop-turn.invariant.2 core held so_far.0 so_far.1 _ _ _ _ _ so_far.4 in
    let took = c.in_err-take_piece-in-Ok.ensures.took core held so_far.0 so_far.1 idle in
    let p = err_from_is_err_and c.from_residual.result c.from_residual.ensures.1 in (
      so_far.0 ++ piece,
      so_far.1 ++ took.0,
      consumes_twice _ _ _ _ _ so_far.2 read.0,
      appends_twice _ _ _ _ _ so_far.3 took.1,
      rw (p.1, p.2) (
          ends_here plan later c.args.now at c.loop-turn.invariant.3 c.loop-turn.invariant.2 core held (so_far.0 ++ piece) (so_far.1 ++ took.0)
          c.in_err-take_piece-in-Ok.field-0.0 (g.N.PortSentinel.core c.take_piece.new.sentinel) (g.S.ConfStore.held c.take_piece.new.store) took.2
          ),
    )

pub returns-then-ne-clause-served : goal.returns-then-ne-clause-served
returns-then-ne-clause-served g c =
    let plan = g.N.PortSentinel.plan c.args.sentinel.now in
    let core = g.N.PortSentinel.core c.args.sentinel.now in
    let so_far = c.loop-turn.invariant.1 in (
      so_far.0,
      so_far.1,
      read_none _ _ _ _ so_far.2 (rw c.in-Err.is at c.read.ensures.bytes),
      so_far.3,
      idle_cut plan c.args.now core (g.S.ConfStore.held c.args.store.now) so_far.0 so_far.1 _ _ _ _ _ so_far.4,
    )

pub loop-turn-preserved : goal.loop-turn-preserved
loop-turn-preserved g c =
    let plan = g.N.PortSentinel.plan c.args.sentinel.now in
    let core = g.N.PortSentinel.core c.args.sentinel.now in
    let held = g.S.ConfStore.held c.args.store.now in
    let so_far = c.loop-turn.invariant.1 in
    elim c.match-read.branch [
      | in-Ok+in_ok-take_piece-in-Ok w ↦
          let read = rw w.in-Ok.is at c.read.ensures.bytes in
          let done = w.in_ok-take_piece-in-Ok.ensures in
          let took_all = rw (c.loop-turn.invariant.2, c.loop-turn.invariant.3) at done.took in
          let took = took_all (g.N.PortSentinel.core c.args.sentinel.now) (g.S.ConfStore.held c.args.store.now) so_far.0 so_far.1 so_far.4 in
          let input = so_far.0 ++ take w.in-Ok.count c.read.new.buf in
          let longer : length input ≤ (c.loop-turn.turn + 1) * 16384 =
          omega (arith, so_far.5, length-append so_far.0 (take w.in-Ok.count c.read.new.buf), length-take w.in-Ok.count c.read.new.buf, w.in-Ok.ensures) in
          let counted = answers_counted plan c.args.now core held input (so_far.1 ++ took.0) _ _ _ _ _ took.2.answered in (
            rw w.connection-is (omega (arith, counted, longer)),
            (
              so_far.0 ++ take w.in-Ok.count c.read.new.buf,
              so_far.1 ++ took.0,
              consumes_twice _ _ _ _ _ so_far.2 read.0,
              rw w.writer-is (appends_twice _ _ _ _ _ so_far.3 took.1),
              rw (w.connection-is, w.sentinel-is, w.store-is) took.2,
              longer,
            ),
            rw w.connection-is (done.clock ∙ c.loop-turn.invariant.2),
            rw w.sentinel-is (done.plan ∙ c.loop-turn.invariant.3),
            rw w.sentinel-is done.phase,
            rw w.store-is (done.as_many ∙ c.loop-turn.invariant.5),
          )
      | in-Err+else-ne w ↦ (
        rw w.connection-is (omega (arith, c.loop-turn.invariant.0)),
        (
          so_far.0,
          so_far.1,
          read_none _ _ _ _ so_far.2 (rw w.in-Err.is at c.read.ensures.bytes),
          rw w.writer-is so_far.3,
          rw (w.connection-is, w.sentinel-is, w.store-is)
              so_far.4,
          omega (arith, so_far.5),
        ),
        rw w.connection-is c.loop-turn.invariant.2,
        rw w.sentinel-is c.loop-turn.invariant.3,
        rw w.sentinel-is c.loop-turn.invariant.4,
        rw w.store-is c.loop-turn.invariant.5,
      )
    ]

pub returns-clause-served : goal.returns-clause-served
returns-clause-served g c =
    let plan = g.N.PortSentinel.plan c.args.sentinel.now in
    let core = g.N.PortSentinel.core c.args.sentinel.now in
    let so_far = c.loop-turn.invariant.1 in
    (so_far.0, so_far.1, so_far.2, so_far.3, idle_cut plan c.args.now core (g.S.ConfStore.held c.args.store.now) so_far.0 so_far.1 _ _ _ _ _ so_far.4)

pub returns-clause-whole : goal.returns-clause-whole
returns-clause-whole g c = tt
