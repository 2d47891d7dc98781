-- Demand 3 holds of the slices of a line.
use mathlib.Core.Path.{◌∙◌}
use mathlib.Core.List.{map}
use Rattle.receiver.proofs.Line.{whole_line}
use Rattle.model.proofs.Isolation.{demand3}
use Rattle.gateway.specs.History.{call_of}
use Rattle.gateway.proofs.History.{code_isolated}
use Rattle.link.specs.History.{LineIsolated}

pub line_isolated : LineIsolated
line_isolated want p number st turn t ms m cs s h r e =
    record {
      slices_are = e ∙ whole_line m cs r;
      demand3 = demand3 want p (map call_of ms);
      alone = code_isolated want p number st turn t ms s h;
    }
