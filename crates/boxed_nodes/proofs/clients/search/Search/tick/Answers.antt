use Rattle.std.proofs.Common.{◌≡◌, Bool, true, false, if◌then◌else◌, Option, Some, None, is_some, ap, sym, subst, ◌∙◌}
use Rattle.std.specs.Option.{unwrap_or}
use Rattle.std.proofs.lemmas.Bool.{false≢true}
use Rattle.client_queries.specs.Queries.{Query, Failed, Waited, after}
use Rattle.boxed_nodes.specs.Clients.Searches.{Search, settled, told, waited_or_asked, ticked}
use Rattle.boxed_nodes.proofs.clients.search.Search.tick.Goals as goal

abbrev asked : Bool → Query → Search
asked outstanding query = let s : Search = record { query = query; outstanding = outstanding } in s

settled_to : (s : Search) (next : Option Query) (query : Query) → true ≡ is_some next → query ≡ unwrap_or next s.query → asked false query ≡ settled s next
settled_to s (Some q) query some is = ap (asked false) is
settled_to s None query some is = absurd (false≢true (sym some))

-- an answer that was outstanding has failed, and none is outstanding then
ticked_failed : (s : Search) (query : Query) → s.outstanding ≡ true → true ≡ is_some (after Failed s.query)
    → query ≡ unwrap_or (after Failed s.query) s.query → asked false query ≡ ticked s
ticked_failed s query waits some is =
    settled_to s (after Failed s.query) query some is
    ∙ sym (ap (λ waits. if waits then told Failed s else waited_or_asked s (after Waited s.query)) waits)

pub returns-then-failed : goal.returns-then-failed
returns-then-failed c =
    subst (λ s. asked false c.failed.new.self ≡ ticked s) c.self.view_is
    (ticked_failed _ c.failed.new.self c.if-self.true c.if-failed.ensures.fits c.if-failed.ensures.query)
