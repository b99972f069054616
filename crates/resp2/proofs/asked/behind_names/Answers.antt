use Rattle.std.proofs.Common.{inl, inr}
use Rattle.resp2.proofs.asked.behind_names.Goals as goal

pub returns-in_ok-rest-in-Capitals : goal.returns-in_ok-rest-in-Capitals
returns-in_ok-rest-in-Capitals c = inl c.in_ok-rest-in-Capitals.ensures

pub returns-in_ok-rest-in-Small : goal.returns-in_ok-rest-in-Small
returns-in_ok-rest-in-Small c = inr (inl c.in_ok-rest-in-Small.ensures)

pub returns-in_ok-rest-in-CapitalsThenSmall : goal.returns-in_ok-rest-in-CapitalsThenSmall
returns-in_ok-rest-in-CapitalsThenSmall c = inr (inr c.in_ok-rest-in-CapitalsThenSmall.ensures)
