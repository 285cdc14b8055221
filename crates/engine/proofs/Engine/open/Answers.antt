use Rattle.std.proofs.Common.{[], refl, ap, ◌∙◌}
use mathlib.Core.Path.{fun_ext}
use Rattle.locks.specs.View.{stations_with}
use Rattle.locks.proofs.ChangedViews.{new_view}
use Rattle.engine.specs.View.{drafts_of}
use Rattle.engine.proofs.Steps.{table_of_all}
use Rattle.engine.proofs.Engine.open.Goals as goal

pub returns-clause-new : goal.returns-clause-new
returns-clause-new g c =
    let drafts = drafts_of g.K.Kind.home (g.D.Shelf.rows c.args.drafts) in
    table_of_all (ap (stations_with drafts) c.new.ensures.stations ∙ fun_ext (new_view drafts [])) c.new.ensures.stamps c.new.ensures.commits refl refl
