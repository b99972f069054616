use Rattle.std.proofs.Common.{rules, ◌≡◌, ◌≤◌, ◌<◌, length, ap, arith}
use Rattle.scenario_replay.proofs.Objects.{object_has}
use Rattle.scenario_replay.proofs.Files.{seated, one_counted, others_follow, none_follows, all_files}
use Rattle.scenario_replay.proofs.story.Story.play.Goals.{in-Some-Sentinel+in_ok-node-in-Some-Sentinel+in_ok-add-in-Some-Sentinel, in-Some-Store+in-Some-new+in_ok-new-in-Some-Store+in_ok-add-in-Some-Store, in-Some-Store+in_default-new, in-Some-Client+in_ok-node-in-Some-Client+in_ok-new-in-Some-Client+in_ok-add-in-Some-Client, in-None}
use Rattle.scenario_replay.specs.Files.{BeginsWith}
use Rattle.scenario_replay.specs.contracts.story.add.{dyn-1-ghosts}
use Rattle.scenario_replay.proofs.story.Story.play.OwnLists.{own-1, lawful-own-1}
use Rattle.scenario_replay.proofs.story.Story.play.Goals as goal

pub loop-number-init : goal.loop-number-init
loop-number-init c = record { fresh = search rules; count = λ _. ap length c.new-nodes.ensures.items; files = record { are = tt } }

pub loop-number-preserved : goal.loop-number-preserved
loop-number-preserved c =
    elim c.match-at.branch [
      | in-Some-Sentinel+in_ok-node-in-Some-Sentinel+in_ok-add-in-Some-Sentinel w ↦
          let placed : w.in-Some-Sentinel.place ≡ c.loop-number.number = search rules in
          let inside : w.in-Some-Sentinel.place < length c.args.self.now.files.items = search rules in
          rw w.nodes-is (record {
            fresh = w.in_ok-add-in-Some-Sentinel.ensures.fresh;
            count = λ l. one_counted c.loop-number.nodes.items w.add.new.nodes.items _ c.loop-number.number (c.loop-number.invariant.count (omega (arith, l)))
                w.in_ok-add-in-Some-Sentinel.ensures.added;
            files = seated _ _ _ c.args.self.now.files.items c.loop-number.number w.in-Some-Sentinel.place w.index.result.now w.deref.result.now _ _ _ placed inside w.index.ensures
                w.deref.ensures.value c.loop-number.invariant.count w.in_ok-add-in-Some-Sentinel.ensures.added c.loop-number.invariant.files
                (object_has (dyn-1-ghosts (own-1, lawful-own-1)).0 _ _ w.into_dyn_box.ensures.0 (λ j v. BeginsWith w.deref.result.now (j.1.name v) (j.1.shows v)) _ _
                w.into_dyn_box.ensures.1 w.in_ok-node-in-Some-Sentinel.ensures.begins);
          })
      | in-Some-Store+in-Some-new+in_ok-new-in-Some-Store+in_ok-add-in-Some-Store w ↦
          let past : length c.args.self.now.files.items ≤ c.loop-number.number = search rules in
          rw w.nodes-is (record {
            fresh = w.in_ok-add-in-Some-Store.ensures.fresh;
            count = λ l. absurd (omega (arith, past, l));
            files = others_follow _ _ _ c.args.self.now.files.items c.loop-number.number _ _ _ past w.in_ok-add-in-Some-Store.ensures.added c.loop-number.invariant.files;
          })
      | in-Some-Store+in_default-new w ↦
          let past : length c.args.self.now.files.items ≤ c.loop-number.number = search rules in
          rw w.nodes-is (record {
            fresh = c.loop-number.invariant.fresh;
            count = λ l. absurd (omega (arith, past, l));
            files = none_follows _ _ _ c.args.self.now.files.items c.loop-number.number _ past c.loop-number.invariant.files;
          })
      | in-Some-Client+in_ok-node-in-Some-Client+in_ok-new-in-Some-Client+in_ok-add-in-Some-Client w ↦
          let past : length c.args.self.now.files.items ≤ c.loop-number.number = search rules in
          rw w.nodes-is (record {
            fresh = w.in_ok-add-in-Some-Client.ensures.fresh;
            count = λ l. absurd (omega (arith, past, l));
            files = others_follow _ _ _ c.args.self.now.files.items c.loop-number.number _ _ _ past w.in_ok-add-in-Some-Client.ensures.added c.loop-number.invariant.files;
          })
      | in-None w ↦
          let past : length c.args.self.now.files.items ≤ c.loop-number.number = search rules in
          rw w.nodes-is (record {
            fresh = c.loop-number.invariant.fresh;
            count = λ l. absurd (omega (arith, past, l));
            files = none_follows _ _ _ c.args.self.now.files.items c.loop-number.number _ past c.loop-number.invariant.files;
          })
    ]

pub tell-requires : goal.tell-requires
tell-requires c =
    let past : length c.args.self.now.files.items ≤ c.loop-number.number = search rules in
    c.in_ok-world.ensures.held _ (all_files (λ f. f.items) _ _ c.args.self.now.files.items c.loop-number.number _ past c.loop-number.invariant.files)
