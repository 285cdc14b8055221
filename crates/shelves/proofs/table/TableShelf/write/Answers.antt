use Rattle.std.proofs.Common.{map, slice_set, ap, ◌∙◌}
use Rattle.std.proofs.lemmas.List.{map-set}
use Rattle.shelves.proofs.table.TableShelf.write.Goals as goal

pub returns-then-n-self-clause-after : goal.returns-then-n-self-clause-after
returns-then-n-self-clause-after g c =
    let reading = g.K.Kind.reading in let lines = c.args.self.now.lines.now in
    map-set reading lines c.args.n _ ∙ ap (slice_set (map reading lines) c.args.n) (ap reading c.to_numbers.ensures ∙ g.met.K.Kind.reads_numbers c.args.v)
