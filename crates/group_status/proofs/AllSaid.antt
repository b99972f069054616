-- Where all is well, each node that was asked said something.
use Rattle.std.specs.Prelude.{◌≡◌, Bool, true, false, ◌||◌, Some, None, Result, Ok, Err, is_err, List, [], ◌∷◌, ◌++◌, map}
use Rattle.std.specs.List.{list_any}
use Rattle.std.proofs.Common.{refl, sym, ◌∙◌}
use Rattle.std.proofs.lemmas.Bool.{false≢true, true≢false}
use Rattle.group_status.specs.declared.group.GroupFacts.{GroupFacts}
use Rattle.group_status.specs.declared.group.SentinelFacts.{SentinelFacts}
use Rattle.group_status.specs.declared.group.NodeFacts.{NodeFacts}
use Rattle.group_status.specs.declared.matters.Matter.{Matter}
use Rattle.group_status.specs.declared.matters.What.{What}
use Rattle.group_status.specs.declared.matters.What.TheVariants.{KnownId, Tilt, Watches, Epoch, Address, MasterDown, FailsOver, QuorumReached, PeerKnown, PeerDown, ReplicaListed, ReplicaDown, Loads, CallsItself, Link, Follows, Replicas, Heirs, Masters, LeftOut, SentinelReached, NodeReached}
use Rattle.group_status.specs.declared.said.Trouble.{Trouble}
use Rattle.group_status.specs.Saying.{trouble_of, trouble_at, asked_trouble, HaveAllSaid}
use Rattle.group_status.specs.Wellness.{is_well_at, IsWellGroup}

no_trouble : (what : What) → is_well_at what ≡ true → trouble_at what ≡ None
no_trouble (SentinelReached None) h = refl
no_trouble (SentinelReached (Some trouble)) h = absurd (false≢true h)
no_trouble (NodeReached leads None) h = refl
no_trouble (NodeReached leads (Some trouble)) h = absurd (false≢true h)
no_trouble (KnownId a b) h = refl
no_trouble (Epoch a b) h = refl
no_trouble (Address a b) h = refl
no_trouble (MasterDown a b) h = refl
no_trouble (QuorumReached a b) h = refl
no_trouble (PeerKnown a b) h = refl
no_trouble (PeerDown a b) h = refl
no_trouble (ReplicaListed a b) h = refl
no_trouble (ReplicaDown a b) h = refl
no_trouble (CallsItself a b) h = refl
no_trouble (Link a b) h = refl
no_trouble (Follows a b) h = refl
no_trouble (Heirs a b) h = refl
no_trouble (Tilt a) h = refl
no_trouble (Watches a) h = refl
no_trouble (FailsOver a) h = refl
no_trouble (Loads a) h = refl
no_trouble (Replicas a) h = refl
no_trouble (Masters a) h = refl
no_trouble (LeftOut a) h = refl

said_at : {T : Type 0} (said : Result T Trouble) → trouble_of said ≡ None → is_err said ≡ false
said_at (Ok said) e = refl
said_at (Err trouble) e = absurd (let no : ⊥ = cc in no)

neither : (a b : Bool) → a ≡ false → b ≡ false → (a || b) ≡ false
neither false b h k = k
neither true b h k = absurd (true≢false h)

-- of a list of nodes, whose answers are these
all_said_of : {F T : Type 0} (said : F → Result T Trouble) (facts : List F) (matters : List Matter)
    → map asked_trouble matters ≡ map (λ f. trouble_of (said f)) facts → IsWellGroup matters → list_any (λ f. is_err (said f)) facts ≡ false
all_said_of said [] matters e well = refl
all_said_of said (f ∷ facts) [] e well = absurd (let no : ⊥ = cc in no)
all_said_of said (f ∷ facts) (matter ∷ matters) e well =
    let here : asked_trouble matter ≡ trouble_of (said f) = cc in
    let rest : map asked_trouble matters ≡ map (λ f. trouble_of (said f)) facts = cc in
    neither (is_err (said f)) (list_any (λ f. is_err (said f)) facts)
    (said_at (said f) (sym here ∙ no_trouble matter.what well.0))
    (all_said_of said facts matters rest well.1)

well_parts : (xs ys : List Matter) → IsWellGroup (xs ++ ys) → IsWellGroup xs × IsWellGroup ys
well_parts [] ys h = (tt, h)
well_parts (x ∷ xs) ys h =
    let more = well_parts xs ys h.1 in
    ((h.0, more.0), more.1)

pub all_said : (group : GroupFacts) (first second third : List Matter)
    → map asked_trouble first ≡ map (λ facts. trouble_of facts.said) group.sentinels.items
    → map asked_trouble second ≡ map (λ facts. trouble_of facts.said) group.nodes.items
    → IsWellGroup ((first ++ second) ++ third) → HaveAllSaid group
all_said group first second third sentinels nodes well =
    let asked = well_parts first second (well_parts (first ++ second) third well).0 in (
      all_said_of (λ (facts : SentinelFacts). facts.said) group.sentinels.items first sentinels asked.0,
      all_said_of (λ (facts : NodeFacts). facts.said) group.nodes.items second nodes asked.1,
    )
