use Rattle.engine.proofs.RowsRead.{read_or}
use Rattle.engine.proofs.Engine.value_at.Goals as goal

pub returns : goal.returns
returns g c = read_or (g.S.Shelf.rows c.args.self.now.show) c.args.at g.K.Kind.home _ _ _ c.unwrap_or.ensures c.read.ensures c.home.ensures
