-- The command table (document 01, "Commands"; for the numbers of LND document 02, E2, for LNA and SNA E3).
use Rattle.std.specs.Prelude.{ℕ, true, false}
use Rattle.names.specs.declared.command.Command.{Command}
use Rattle.names.specs.declared.command.Command.TheVariants.{Lnt, Snt, Lnd, Snd, Lnl, Snl, Lnib, Lnob, Snob, Lnid, Lnod, Snod, Lnbb, Snbb, Lnbd, Snbd, Lna, Sna}
use Rattle.commands.specs.declared.table.Kind.TheVariants.{Timer, Register, Row, Signal, Port}
use Rattle.commands.specs.declared.table.Form.{Form}
use Rattle.commands.specs.declared.table.Form.TheVariants.{Numbers, Texts}
use Rattle.commands.specs.declared.table.Rule.{Rule}

-- an LN: no data are given, and data of this form are replied
abbrev pub loads : Form → ℕ → ℕ → Rule
loads form first last = record { store = false; form = form; first = first; last = last }

-- its SN: data of that form are given, under the same numbers
abbrev pub stores : Rule → Rule
stores ln = record { store = true; form = ln.form; first = ln.first; last = ln.last }

-- the rows of the command table, as their LNs have them: what the data are, and the range of the number
abbrev pub timers : Rule
timers = loads (Numbers Timer) 0 15

abbrev pub registers : Rule
registers = loads (Numbers Register) 0 63

abbrev pub rows : Rule
rows = loads (Numbers Row) 0 99

-- inputs and outputs
abbrev pub signals : Rule
signals = loads (Numbers Signal) 0 255

abbrev pub ports : Rule
ports = loads (Numbers Port) 0 31

abbrev pub memory_bits : Rule
memory_bits = loads (Numbers Signal) 256 383

abbrev pub memory_ports : Rule
memory_ports = loads (Numbers Port) 0 15

-- the steps of a START program
abbrev pub steps : Rule
steps = loads Texts 0 255

-- the command table: the row of each command
abbrev pub rule_of : Command → Rule
rule_of Lnt = timers
rule_of Snt = stores timers
rule_of Lnd = registers
rule_of Snd = stores registers
rule_of Lnl = rows
rule_of Snl = stores rows
rule_of Lnib = signals
rule_of Lnob = signals
rule_of Snob = stores signals
rule_of Lnid = ports
rule_of Lnod = ports
rule_of Snod = stores ports
rule_of Lnbb = memory_bits
rule_of Snbb = stores memory_bits
rule_of Lnbd = memory_ports
rule_of Snbd = stores memory_ports
rule_of Lna = steps
rule_of Sna = stores steps
