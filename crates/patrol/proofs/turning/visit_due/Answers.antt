-- `patrol::turning::visit_due` meets its contract. Assumes nothing.
use Rattle.patrol.proofs.Visits.{one_visited, two_visited}
use Rattle.patrol.proofs.turning.visit_due.Goals as goal

pub returns-in-None : goal.returns-in-None
returns-in-None c = one_visited _ _ _ c.requires _ _ c.visit_accepted.ensures c.in-None.is

pub returns-in-Some : goal.returns-in-Some
returns-in-Some c = two_visited _ _ _ c.requires _ _ c.visit_accepted.ensures _ _ _ c.visit_accepted-in-Some.ensures c.in-Some.is
