-- Where data out of range stand: at the first field.
use Prim.Native.Nat.{ℕ}
use mathlib.Core.Path.{◌≡◌, refl, sym, ◌∙◌}
use mathlib.Core.Bool.{false}
use mathlib.Core.List.{List, map}
use Rattle.std.specs.Prelude.{Option, None, Some, option_map}
use Rattle.frame.specs.Fields.{Placed, start_of, offending}
use Rattle.steps.specs.declared.step.Step.{Step}
use Rattle.steps.specs.Step.{read_step}
use Rattle.steps.proofs.Back.{read_is_step}
use Rattle.commands.specs.declared.table.Form.{Form}
use Rattle.commands.specs.declared.table.Form.TheVariants.{Numbers, Texts}
use Rattle.commands.specs.declared.request.Row.{Row}
use Rattle.commands.specs.declared.request.Payload.{Payload}
use Rattle.commands.specs.declared.request.Payload.TheVariants as payload
use Rattle.numbers.specs.Numbers.{read_numbers}
use Rattle.numbers.proofs.Where.{no_some, false_true, numbers_out}
use Rattle.data.specs.Data.{read_data, data_ranges}
use Rattle.data.specs.Ranges.{in_ranges}

-- every step that was read is in range
pub out_of_range : (etx : ℕ) (f : Form) (fs : List Placed) {p : Payload} → read_data f (map (λ g. g.text) fs) ≡ Some p → in_ranges f p ≡ false → offending etx (data_ranges f) fs ≡ start_of etx fs
out_of_range etx (Numbers k) fs {p} e z = go (read_numbers k (map (λ g. g.text) fs)) refl e
  where
    go : (o : Option Row) → read_numbers k (map (λ g. g.text) fs) ≡ o → option_map payload.Numbers o ≡ Some p → offending etx (data_ranges (Numbers k)) fs ≡ start_of etx fs
    go (Some r) q d = let w : payload.Numbers r ≡ p = cc in numbers_out etx k fs q (rw (← w) at z)
    go None q d = no_some d
out_of_range etx Texts fs {p} e z = go (read_step (map (λ g. g.text) fs)) refl e
  where
    go : (o : Option Step) → read_step (map (λ g. g.text) fs) ≡ o → option_map payload.Texts o ≡ Some p → offending etx (data_ranges Texts) fs ≡ start_of etx fs
    go (Some s) q d = let w : payload.Texts s ≡ p = cc in false_true (sym (rw (← w) at z) ∙ read_is_step (map (λ g. g.text) fs) s q)
    go None q d = no_some d
