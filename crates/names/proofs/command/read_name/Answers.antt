use Rattle.std.proofs.Common.{◌≡◌, ℕ, [], None, take, refl, sym, ap, ◌∙◌, arith}
use Rattle.text.proofs.Read.{value_with, none_with}
use Rattle.names.specs.Command.{command_of, among, same, name_of}
use Rattle.names.proofs.Names.{name_read, name_ends}
use Rattle.names.proofs.command.read_name.Goals as goal

-- no name is no command's
no_name : command_of [] ≡ None
unfolding command_of among same name_of
no_name = refl

pub returns-in_err-end-clause-name_value : goal.returns-in_err-end-clause-name_value
returns-in_err-end-clause-name_value c =
    rw c.from_residual.ensures (none_with command_of c.args.s.now 0 (sym (name_read c.args.s.now) ∙ rw (← c.in_err-end.ensures.value) no_name))

pub returns-in_err-value-clause-name_value : goal.returns-in_err-value-clause-name_value
returns-in_err-value-clause-name_value c =
    rw c.from_residual-in_err-value.ensures (none_with command_of c.args.s.now 0 (sym (name_read c.args.s.now) ∙ rw (← c.in_ok-end.ensures.value) (sym c.in_err-value.ensures)))

pub returns-clause-name_value : goal.returns-clause-name_value
returns-clause-name_value c =
    let n = ap (λ (m : ℕ). command_of (take m c.args.s.now)) (sym c.in_ok-end.ensures.value) ∙ sym c.in_ok-value.ensures in
    value_with command_of c.args.s.now 0 (sym (name_read c.args.s.now) ∙ n) (omega (arith, c.in_ok-end.ensures.value, name_ends c.args.s.now c.in_ok-value.value n))
