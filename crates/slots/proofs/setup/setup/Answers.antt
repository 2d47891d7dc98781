use mathlib.Core.Path.{refl, sym, ◌∙◌}
use borrow.Author.Rules.{rules}
use Rattle.model.proofs.Setups.{accepted_stations, accepted_tables}
use Rattle.slots.proofs.setup.setup.Goals as goal

-- accepted, `want` is its four elements
pub returns-clause-set_up : goal.returns-clause-set_up
returns-clause-set_up c =
    let e = sym c.in_ok-judge_setup.ensures in
    record {
      number_is = sym e;
      stations_are = accepted_stations c.args.want _ (search rules) e;
      turn_is = refl;
      tables_are = c.clear.ensures.zeros _ ∙ accepted_tables _ _ _ e c.clear-2.ensures;
    }
