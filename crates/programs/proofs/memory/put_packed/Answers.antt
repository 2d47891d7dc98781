use native.Mathlib.Omega.{arith}
use mathlib.Core.Path.{◌∙◌}
use Rattle.programs.proofs.Laws.{bytes_length, bytes_le, part_put}
use Rattle.programs.proofs.memory.put_packed.Goals as goal

pub returns : goal.returns
returns c =
    record {
      next = omega (arith, bytes_length 8 c.args.t.0);
      area = part_put _ _ _ _ c.requires (c.copy_from_slice.ensures.after ∙ c.to_le_bytes.ensures ∙ bytes_le c.args.t.0);
    }
