use Rattle.std.proofs.Common.{ap, ◌∙◌}
use Rattle.rules.specs.Operations.{settle}
use Rattle.rules.specs.Searches.{count_below}
use Rattle.locks.specs.View.{member_of}
use Rattle.engine.specs.View.{drafted, shown}
use Rattle.engine.proofs.GivesUp.{withdrawn_view, withdrawn_served, others_counted}
use Rattle.engine.proofs.Engine.withdraw.Goals as goal

pub returns-clause-number : goal.returns-clause-number
returns-clause-number g c =
    let e = c.args.self.now in
    others_counted (drafted g.K.Kind g.D.Shelf e) e.locks c.wound.new.self c.free.new.self c.args.s (member_of c.alone-own.result) (member_of c.widen-wounded.result) c.requires.0 c.requires.1
    c.alone-own.ensures c.widen-wounded.ensures c.wound.ensures.stations c.free.ensures.stations c.count.result (c.count.ensures ∙ ap (count_below 16) c.without.ensures)

pub returns-clause-stations : goal.returns-clause-stations
returns-clause-stations g c =
    let e = c.args.self.now in let drafts = drafted g.K.Kind g.D.Shelf e in
    let t = e.locks in let u = c.wound.new.self in let v = c.free.new.self in let s = c.args.s in
    let own = member_of c.alone-own.result in let members = member_of c.widen-wounded.result in let low = c.requires.0 in let acts = c.requires.1 in
    let alone = c.alone-own.ensures in let widened = c.widen-wounded.ensures in let wounds = c.wound.ensures.stations in let frees = c.free.ensures.stations in λ served.
    c.settle.ensures.stations (withdrawn_served drafts t u v s own members low acts alone widened wounds frees (g.D.Shelf.rows e.drafts) served)
    ∙ ap (settle (shown g.K.Kind g.S.Shelf e)) (withdrawn_view drafts t u v s own members low acts alone widened wounds frees)
