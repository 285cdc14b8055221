use Rattle.std.proofs.Common.{◌≡◌, IfSome, sym, refl, subst, rules, ap, ◌∙◌, arith}
use Rattle.std.proofs.lemmas.Iterator.{YieldsList-from_range}
use Rattle.std.proofs.lemmas.Iterator.Consumers.{YieldsList-from_filter_map}
use Rattle.std.specs.List.{filter_map, reduce, range_with_len}
use Rattle.std.specs.Option.{option_map}
use Rattle.locks.specs.Asked.{younger, stamped_draft, Below}
use Rattle.locks.proofs.Before.{before_picked, before_within}
use Rattle.locks.proofs.Searches.{reduced}
use Rattle.locks.proofs.table.LockTable.before.Goals as goal

pub returns-clause-place : goal.returns-clause-place
returns-clause-place c =
    let h = stamped_draft c.args.self.now.stations c.args.i c.args.at in
    let e : c.reduce.result ≡ reduce younger (filter_map h (range_with_len 0 16)) =
    reduced younger _ _ c.reduce.ensures.ran
    (YieldsList-from_filter_map _ h (YieldsList-from_range 0 16 16 c.filter_map.ensures.source refl) c.filter_map.ensures.closure (λ x r q k. search rules))
    (λ a x y q k. search rules) in
    let m : c.map.result ≡ option_map (λ d. d.place) c.reduce.result = search rules in
    m ∙ ap (option_map (λ d. d.place)) e ∙ before_picked c.args.self.now.stations c.args.i c.args.at

pub returns-clause-within : goal.returns-clause-within
returns-clause-within c =
    let t = c.args.self.now in
    subst (λ o. IfSome o Below) (sym (returns-clause-place c)) (before_within t.stations c.args.i c.args.at (λ j h. let room = t.room j h in omega (arith, room)))
