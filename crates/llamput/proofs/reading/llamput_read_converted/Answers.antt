use mathlib.Core.Path.{ap}
use Rattle.llamput.proofs.reading.llamput_read_converted.Goals as goal

pub returns : goal.returns
returns c =
    record {
      number_is = ap (λ n. n.number) c.read_doubles-told.ensures;
      status_is = ap (λ n. n.status) c.read_doubles-told.ensures;
      position_is = ap (λ n. n.position) c.read_doubles-told.ensures;
      kind_is = ap (λ n. n.kind) c.read_doubles-told.ensures;
      doubles_are = ap (λ n. n.doubles) c.read_doubles-told.ensures;
      step_is = ap (λ n. n.texts) c.read_doubles-told.ensures;
    }
