-- Demand 3 holds. Assumes nothing.
use Rattle.demands.specs.Demand3.{Demand3}
use Rattle.demands.proofs.Order.{turns_accepted, every_block_visited, asks_served}
use Rattle.demands.proofs.Reading.{reads_right}

pub demand_3 : Demand3
demand_3 =
    record {
      turns_accepted = turns_accepted;
      every_block_visited = every_block_visited;
      ask_served = asks_served;
      reads_right = reads_right;
    }
