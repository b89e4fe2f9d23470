-- `push` meets its contract. Assumes nothing.
use mathlib.Core.Path.{◌≡◌}
use borrow.Author.Rules.{rules}
use lib.ListN.{length}
use Rattle.rota.specs.Line.{places}
use Rattle.rota.proofs.Lines.{longer_is}
use Rattle.rota.proofs.line.Line.push.Goals as goal

pub returns : goal.returns
returns c =
    let long : length c.args.self.now.asks ≡ places = search rules in
    longer_is places c.args.self.now long c.requires.0 c.args.block c.requires.1
