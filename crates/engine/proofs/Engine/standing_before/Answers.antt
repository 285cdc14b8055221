use Rattle.std.proofs.Common.{◌≡◌, ℕ, Some, None, Option, sym, ap, ◌∙◌, rules}
use Rattle.std.specs.Option.{MatchOption}
use Rattle.locks.proofs.Before.{before_by_place, value_at}
use Rattle.engine.specs.View.{drafted, shown}
use Rattle.engine.proofs.Engine.standing_before.Goals as goal

-- a value that is one or the other is what stands at the place
of_either : {V : Type 0} (drafts : ℕ → ℕ → V) (plotted r : V) (o : Option (ℕ × ℕ)) {P : Type 0} {Q : ℕ × ℕ → Type 0} → MatchOption o P Q → (P → r ≡ plotted) → ((p : ℕ × ℕ) → Q p → r ≡ drafts p.0 p.1) → r ≡ value_at drafts plotted o
of_either drafts plotted r None m none some = none m
of_either drafts plotted r (Some p) m none some = some p m

pub returns : goal.returns
returns g c =
    let drafts = drafted g.K.Kind g.D.Shelf c.args.self.now in let show = shown g.K.Kind g.S.Shelf c.args.self.now in
    of_either drafts (show c.args.at) _ c.before-2.result c.map_or_else.ensures (λ h. search rules) (λ p h. search rules)
    ∙ sym (before_by_place drafts c.args.self.now.locks.stations show c.args.s c.args.at ∙ ap (value_at drafts (show c.args.at)) (sym c.before-2.ensures.place))
